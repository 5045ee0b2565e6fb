-- Laws of the places of a byte: of one byte more, and of what is first after a stretch without it.
-- Assumes nothing.
use mathlib.Core.Bool.{Bool, true, false}
use mathlib.Core.Logic.{⊎_elim}
use mathlib.Core.Path.{◌≡◌, refl, sym, ap, ◌∙◌, subst}
use mathlib.Core.List.{List}
use Prim.Native.Nat.{ℕ, ◌+◌, ◌-◌, ◌≤◌, ◌<◌}
use native.Mathlib.Nat.{eq-or-lt_of_le}
use native.Mathlib.Omega.{arith}
use borrow.Author.Tests.{ltb-true, ltb-false, eqb-false}
use lib.Dec.{ltb, eqb}
use mathlib.Core.List.{◌++◌}
use lib.ListN.{length, take, drop, get_or}
use Rattle.base.proofs.Part.{part_length, part_at, cut-rest, cut-within, cut-here}
use Rattle.base.specs.Places.{Absent, Nearest}

-- The byte is neither from a to i nor from i to e.
pub absent-join : (t : List ℕ) (a i e byte : ℕ) → Absent t a i byte → Absent t i e byte → Absent t a e byte
absent-join t a i e byte f g k h l q = go (ltb k i) refl
  where
    go : (x : Bool) → ltb k i ≡ x → ⊥
    go true z = f k h (ltb-true k i z) q
    go false z = g k (ltb-false k i z) l q

-- Nor at one place more.
pub absent-step : (t : List ℕ) (a e byte : ℕ) → Absent t a e byte → (get_or t e 0 ≡ byte → ⊥) → Absent t a (e + 1) byte
absent-step t a e byte f n = absent-join t a e (e + 1) byte f (λ k h l q. n (ap (λ (m : ℕ). get_or t m 0) (let same : e ≡ k = omega arith in same) ∙ q))

-- ---- the first place in a part, and in the text

module _ (t : List ℕ) (byte i e k : ℕ) (h : i ≤ e) (l : e ≤ length t) (p : Nearest (take (e - i) (drop i t)) 0 byte k) where
  -- The first place in the part is within it.
  near_within : i + k ≤ e
  near_within = omega (arith, p.within, part_length t i e h l)

  -- Before it the byte does not stand in the text.
  pub near-absent : Absent t i (i + k) byte
  near-absent j a b q =
      let n = near_within in
      let s : i + (j - i) ≡ j = omega arith in
      p.none (j - i) (omega arith) (omega arith) (part_at t i e (j - i) (omega arith) ∙ ap (λ (m : ℕ). get_or t m 0) s ∙ q)

  -- And there it does.
  pub near-part : i + k < e → Nearest t i byte (i + k)
  near-part b = record {
    after = omega arith;
    within = omega arith;
    none = near-absent;
    here = λ m. sym (part_at t i e k (omega arith)) ∙ p.here (rw (part_length t i e h l) (omega arith));
  }

-- What is first after a stretch that does not have the byte is first.
pub nearest-after : (t : List ℕ) (a i byte r : ℕ) → a ≤ i → Absent t a i byte → Nearest t i byte r → Nearest t a byte r
nearest-after t a i byte r h f p = record { after = omega (arith, p.after); within = p.within; none = absent-join t a i r byte f p.none; here = p.here }

-- Where the byte does not stand at the place itself, what is first is past it.
pub nearest-past : (t : List ℕ) (a byte r : ℕ) → a < length t → (get_or t a 0 ≡ byte → ⊥) → Nearest t a byte r → a < r
nearest-past t a byte r h f p =
    ⊎_elim (λ z. absurd (f (ap (λ (n : ℕ). get_or t n 0) z ∙ p.here (subst (λ (n : ℕ). n < length t) z h)))) (λ l. l) (eq-or-lt_of_le p.after)

-- ---- what std's searches find

module _ (t : List ℕ) (a byte : ℕ) (h : a ≤ length t) where
  abbrev rest : List ℕ
  rest = take (length t - a) (drop a t)

  -- The first place in what is left is the first in the text from there on,
  pub nearest-found : (k : ℕ) → (k < length rest) × ((d : ℕ) → get_or rest k d ≡ byte) × ((j d : ℕ) → 0 ≤ j → j < k → get_or rest j d ≡ byte → ⊥) → Nearest t a byte (a + k)
  nearest-found k q =
      let le : length t ≤ length t = omega arith in
      near-part t byte a (length t) k h le (record { after = omega arith; within = omega (arith, q.0); none = λ j l m. q.2 j 0 l m; here = λ m. q.1 0 })
      (omega (arith, q.0, part_length t a (length t) h le))

  -- and where the byte is not in what is left, the end is.
  pub nearest-none : ((j d : ℕ) → 0 ≤ j → j < length rest → get_or rest j d ≡ byte → ⊥) → Nearest t a byte (length t)
  nearest-none q =
      let le : length t ≤ length t = omega arith in
      record {
        after = h;
        within = le;
        none = λ k l m e.
            let s : a + (k - a) ≡ k = omega arith in
            q (k - a) 0 (omega arith) (omega (arith, part_length t a (length t) h le)) (part_at t a (length t) (k - a) (omega arith) ∙ ap (λ (n : ℕ). get_or t n 0) s ∙ e);
        here = λ m. absurd (omega arith);
      }

-- A block x without the byte is passed: r is what is left after it.
pub absent-block : (t x r : List ℕ) (a i n byte : ℕ) → i ≤ length t → drop i t ≡ x ++ r → length x ≡ n
    → ((k d : ℕ) → 0 ≤ k → k < length x → eqb (get_or x k d) byte ≡ false) → Absent t a i byte → (drop (i + n) t ≡ r) × (i + n ≤ length t) × Absent t a (i + n) byte
absent-block t x r a i n byte h e s f g = (
  cut-rest t x r i n h e s,
  cut-within t x r i n h e s,
  absent-join t a i (i + n) byte g (λ k l m q. eqb-false (get_or x (k - i) 0) byte (f (k - i) 0 (omega arith) (omega (arith, s))) (cut-here t x r i n h e s k l m ∙ q)),
)
