-- A copy of the bytes before the first place of a byte: how far it goes, and what a loop that looks and writes has done.
-- Assumes nothing.
use mathlib.Core.Bool.{Bool, true, false, cond}
use mathlib.Core.Logic.{⊎_elim}
use mathlib.Core.Path.{◌≡◌, refl, sym, ap, ◌∙◌, subst}
use mathlib.Core.List.{List, [], ◌∷◌, ◌++◌, append-nil}
use Prim.Native.Nat.{ℕ, zero, suc, ◌+◌, ◌-◌, ◌≤◌, ◌<◌}
use native.Mathlib.Nat.{eq-or-lt_of_le}
use native.Mathlib.Numerals.{add-one}
use native.Mathlib.Omega.{arith}
use borrow.Author.Tests.{eqb-true, eqb-false}
use lib.Dec.{eqb}
use lib.ListN.{length, take, drop, get_or, set, length-append, length-drop, drop_of_length-le}
use lib.Seq.{take-add, drop-drop, drop-cons, set_split, length-take-le, get_or-take}
use Rattle.base.proofs.Part.{part_length}
use Rattle.base.proofs.Counted.{filled-all}
use Rattle.base.proofs.Filled.{Filled, Next, filled-start, filled_more, filled_put, filled-end, lent-rest}
use Rattle.rules.specs.Bytes.{over}
use Rattle.base.specs.Places.{Absent, Nearest, Holds, part}
use Rattle.base.proofs.Places.{near-absent, near-part, nearest-after}

-- ---- there is a first place

abbrev first : ℕ → List ℕ → ℕ
first byte [] = 0
first byte (x ∷ s) = cond (eqb x byte) 0 (suc (first byte s))

near-cons : (byte x : ℕ) (s : List ℕ) → Nearest s 0 byte (first byte s) → Nearest (x ∷ s) 0 byte (first byte (x ∷ s))
near-cons byte x s near = go (eqb x byte) refl
  where
    later : eqb x byte ≡ false → (k : ℕ) → k < suc (first byte s) → get_or (x ∷ s) k 0 ≡ byte → ⊥
    later e zero h q = eqb-false x byte e q
    later e (suc k) h q = near.none k (omega arith) (omega arith) q

    go : (b : Bool) → eqb x byte ≡ b → Nearest (x ∷ s) 0 byte (cond b 0 (suc (first byte s)))
    go true e = record { after = omega arith; within = omega arith; none = λ k a b. absurd (omega arith); here = λ h. eqb-true x byte e }
    go false e = record { after = omega arith; within = omega (arith, near.within); none = λ k a. later e k; here = λ h. near.here (omega arith) }

near_first : (byte : ℕ) (s : List ℕ) → Nearest s 0 byte (first byte s)
near_first byte [] = record { after = omega arith; within = omega arith; none = λ k a b. absurd (omega arith); here = λ h. absurd (omega arith) }
near_first byte (x ∷ s) = near-cons byte x s (near_first byte s)

-- ---- byte by byte

-- The bytes before place n, which is not past the first place, stand in the output.
pub record Copied (s : List ℕ) (byte : ℕ) (out₀ out : List ℕ) (n : ℕ) : Type 0 where
  pub most : n ≤ first byte s
  pub filled : Filled (take (first byte s) s) (drop n (take (first byte s) s)) out₀ out n

up_to : (byte : ℕ) (s : List ℕ) → length (take (first byte s) s) ≡ first byte s
up_to byte s = length-take-le (first byte s) s (near_first byte s).within

pub copied-start : (s : List ℕ) (byte : ℕ) (out : List ℕ) → Holds s 0 byte (length out) → Copied s byte out out 0
copied-start s byte out h = record {
  most = omega arith;
  filled = filled-start (take (first byte s) s) out (omega (arith, up_to byte s, h (first byte s) (near_first byte s)));
}

module _ {s : List ℕ} {byte : ℕ} {out₀ out : List ℕ} {n : ℕ} (c : Copied s byte out₀ out n) where
  -- At the first place all is written.
  copied_all : n ≡ first byte s → Nearest s 0 byte n × (out ≡ over (part s 0 n) out₀)
  copied_all e =
      let z : n - 0 ≡ n = omega arith in
      let whole : take (first byte s) s ≡ take n s = ap (λ (k : ℕ). take k s) (sym e) in (
        subst (λ (r : ℕ). Nearest s 0 byte r) (sym e) (near_first byte s),
        rw (z, ← whole) (filled-all c.filled (drop_of_length-le (take (first byte s) s) {i = n} (omega (arith, up_to byte s)))).1,
      )

  -- That is where the byte stands,
  pub copied-here : n < length s → get_or s n 0 ≡ byte → Nearest s 0 byte n × (out ≡ over (part s 0 n) out₀)
  copied-here h e = copied_all (⊎_elim (λ z. z) (λ l. absurd ((near_first byte s).none n (omega arith) l e)) (eq-or-lt_of_le c.most))

  -- or the end.
  pub copied-end : length s ≤ n → Nearest s 0 byte n × (out ≡ over (part s 0 n) out₀)
  copied-end h = copied_all (omega (arith, c.most, (near_first byte s).within))

  module _ (h : n < length s) (f : get_or s n 0 ≡ byte → ⊥) where
    below : n < first byte s
    below =
        ⊎_elim
        (λ z. absurd (f (ap (λ (k : ℕ). get_or s k 0) z ∙ (near_first byte s).here (subst (λ (k : ℕ). k < length s) z h))))
        (λ l. l)
        (eq-or-lt_of_le c.most)

    next : drop n (take (first byte s) s) ≡ get_or s n 0 ∷ drop (n + 1) (take (first byte s) s)
    next =
        let d : drop n (take (first byte s) s) ≡ get_or (take (first byte s) s) n 0 ∷ drop (n + 1) (take (first byte s) s) =
        rw add-one (drop-cons (take (first byte s) s) n 0 (omega (arith, up_to byte s, below))) in
        d ∙ ap (λ (x : ℕ). x ∷ drop (n + 1) (take (first byte s) s)) (get_or-take (first byte s) s n 0 below)

    -- Elsewhere there is room for one byte more, and it is written.
    pub copied-room : n < length out
    copied-room = omega (arith, c.filled.sum, c.filled.kept, c.filled.room, ap length next)

    pub copied_next : Copied s byte out₀ (set out n (get_or s n 0)) (n + 1)
    copied_next = record {
      most = omega (arith, below);
      filled = filled_more (get_or s n 0 ∷ []) (drop (n + 1) (take (first byte s) s)) (set out n (get_or s n 0)) c.filled next
          (set_split out n (get_or s n 0) copied-room ∙ rw (drop-drop, add-one));
    }

-- ---- after what was passed

module _ (t : List ℕ) (a p byte : ℕ) (h : a ≤ p) (l : p ≤ length t) (none : Absent t a p byte) where
  abbrev rest : List ℕ
  rest = take (length t - p) (drop p t)

  abbrev done : List ℕ
  done = take (p - a) (drop a t)

  -- The first place in the rest that is lent is the first in the text.
  pub lent-near : (k : ℕ) → Nearest rest 0 byte k → Nearest t a byte (p + k)
  lent-near k q =
      let le : length t ≤ length t = omega arith in
      nearest-after t a p byte (p + k) h none (record {
        after = omega arith;
        within = omega (arith, q.within, part_length t p (length t) l le);
        none = near-absent t byte p (length t) k l le q;
        here = λ m. (near-part t byte p (length t) k l le q m).here m;
      })

  module _ (out₀ : List ℕ) (holds : Holds t a byte (length out₀)) where
    -- There is room for what was passed,
    pub passed-room : length done ≤ length out₀
    passed-room = omega (arith, part_length t a p h l, holds (p + first byte rest) (lent-near (first byte rest) (near_first byte rest)))

    module _ (out₁ : List ℕ) (n : ℕ) (e : out₁ ≡ over (part t a p) out₀) (size : n ≡ length done) where
      pub passed-within : n ≤ length out₁
      passed-within = omega (arith, rw (length-append, length-drop) at (ap length e))

      -- and for what is left.
      pub lent-holds : Holds rest 0 byte (length (take (length out₁ - n) (drop n out₁)))
      lent-holds k q =
          rw (lent-rest, length-drop)
          (omega (arith, rw (length-append, length-drop) at (ap length e), part_length t a p h l, holds (p + k) (lent-near k q), passed-room))

      -- What was passed and then what is left is the part up to there.
      pub both : (k : ℕ) (last : List ℕ) → Nearest rest 0 byte k → last ≡ over (part rest 0 k) (take (length out₁ - n) (drop n out₁))
          → take n out₁ ++ (last ++ drop (length out₁ - n) (drop n out₁)) ≡ over (part t a (p + k)) out₀
      both k last q w =
          let near = lent-near k q in
          let sum : p + k - a ≡ p - a + k = omega arith in
          let back : a + (p - a) ≡ p = omega arith in
          let z : k ≡ k - 0 = omega arith in
          let left : drop (p - a) (drop a t) ≡ rest = drop-drop (p - a) a t ∙ ap (λ (m : ℕ). drop m t) back ∙ sym (lent-rest p t) in
          let split : take (p + k - a) (drop a t) ≡ done ++ take (k - 0) (drop 0 rest) =
          ap (λ (m : ℕ). take m (drop a t)) sum ∙ take-add (p - a) k (drop a t) ∙ ap (λ (l : List ℕ). done ++ take k l) left ∙ ap (λ (m : ℕ). done ++ take m rest) z in
          let long = length-take-le (k - 0) rest (omega (arith, q.within)) in
          let f = filled-start (take (p + k - a) (drop a t)) out₀ (omega (arith, part_length t a (p + k) near.after near.within, holds (p + k) near, near.after)) in
          let g = filled_more done (take (k - 0) (drop 0 rest)) out₁ f split e in
          let at : 0 + length done ≡ n = omega arith in
          let m = subst (λ (i : ℕ). Filled (take (p + k - a) (drop a t)) (take (k - 0) (drop 0 rest)) out₀ out₁ i) at g in
          let all : k ≡ length (take (k - 0) (drop 0 rest)) = omega (arith, long) in
          let next : Next (take (k - 0) (drop 0 rest)) (take (k - 0) (drop 0 rest)) [] = record { next = sym (append-nil (take (k - 0) (drop 0 rest))) } in
          filled-end (filled_put m next last k all w)
