-- A byte that passes the look is ASCII, and no replaced character begins with it unless it is a backslash, or a quote right after one: computed for every
-- byte in each string. So up to the next backslash of a clear text every byte is kept.
-- Assumes nothing.
use mathlib.Core.Bool.{Bool, true, false, not, ◌&&◌, ◌||◌}
use mathlib.Core.Path.{◌≡◌, refl, sym, ap, ◌∙◌, subst}
use mathlib.Core.List.{List, ◌∷◌}
use Prim.Native.Nat.{ℕ, zero, suc, ◌+◌, ◌≤◌, ◌<◌}
use native.Mathlib.Omega.{arith}
use borrow.Author.Tests.{ne_eqb, ltb-true, ltb-false}
use lib.Dec.{T, ltb, eqb, leb, leb→le, eqb→eq, T_not}
use lib.ListN.{length, drop, get_or}
use Rattle.rules.specs.Bytes.{inside}
use Rattle.rules.specs.Contexts.{string_of}
use Rattle.rules.specs.Moves.{before}
use Rattle.rules.specs.Utf8.{valid_to}
use Rattle.rules.specs.declared.Language.{Language}
use Rattle.rules.specs.declared.Quotes.{Quotes}
use Rattle.rules.proofs.Tests.{and_left, and_right, and_both, or-false, is_false}
use Rattle.rules.proofs.Loops.{drop-next}
use Rattle.rules.proofs.Quiet.{Keeps}
use Rattle.base.specs.Places.{Absent}
use Rattle.utf8.proofs.Texts.{ascii-valid}
use Rattle.reader.specs.Replaced.{begins, is_whole}
use Rattle.reader.specs.Units.{byte_step}
use Rattle.reader.proofs.Characters.{replaced-here, keeps-plain}
use Rattle.read_strings.specs.Clear.{keys_of, is_key, is_good, Clear, Fresh}
use Rattle.read_strings.proofs.Six.{six-bytes, given}

-- ASCII, no control, no `<`, no backslash and no quote.
abbrev plain : Quotes → ℕ → Bool
plain q b = inside (32, 127) b && not (eqb b 0x3C) && not (eqb b 0x5C) && not (is_key (keys_of q) b)

abbrev told : Language → Quotes → ℕ → Bool
unfolding begins
told l q b = not (plain q b) || not (begins (string_of l q) b)

pub good-clear : (l : Language) (q : Quotes) (p b : ℕ) → b < 256 → is_good (keys_of q) p b ≡ true
    → (b < 128) × ((b ≡ 0x5C → ⊥) → (is_key (keys_of q) b ≡ true → p ≡ 0x5C → ⊥) → begins (string_of l q) b ≡ false)
unfolding begins
good-clear l q p b h g =
    let t : T (is_good (keys_of q) p b) = subst T (sym g) tt in
    let wx = and_left (inside (32, 127) b && not (eqb b 0x3C)) (eqb p 0x5C || not (is_key (keys_of q) b)) t in
    let y = and_right (inside (32, 127) b && not (eqb b 0x3C)) (eqb p 0x5C || not (is_key (keys_of q) b)) t in
    let low = leb→le b 127 (and_right (leb 32 b) (leb b 127) (and_left (inside (32, 127) b) (not (eqb b 0x3C)) wx)) in
    (omega (arith, low), λ n f. go wx y n f (is_key (keys_of q) b) refl)
  where
    go : T (inside (32, 127) b && not (eqb b 0x3C)) → T (eqb p 0x5C || not (is_key (keys_of q) b)) → (b ≡ 0x5C → ⊥) → (is_key (keys_of q) b ≡ true → p ≡ 0x5C → ⊥)
        → (z : Bool) → is_key (keys_of q) b ≡ z → begins (string_of l q) b ≡ false
    go wx y n f true e = absurd (f e (eqb→eq p 0x5C (or-false (eqb p 0x5C) (subst (λ (z : Bool). T (eqb p 0x5C || not z)) e y))))
    go wx y n f false e =
        let no : T (not (eqb b 0x5C)) = subst (λ (z : Bool). T (not z)) (sym (ne_eqb b 0x5C n)) tt in
        let none : T (not (is_key (keys_of q) b)) = subst (λ (z : Bool). T (not z)) (sym e) tt in
        let all = and_both (inside (32, 127) b && not (eqb b 0x3C) && not (eqb b 0x5C)) (not (is_key (keys_of q) b)) (and_both (inside (32, 127) b && not (eqb b 0x3C)) (not (eqb b 0x5C)) wx no) none in
        is_false (begins (string_of l q) b) (T_not (begins (string_of l q) b) (given (plain q b) (not (begins (string_of l q) b)) (six-bytes told tt l q b h) all))

module _ (l : Language) (q : Quotes) (t : List ℕ) (clear : Clear l q t) where
  -- A byte before the next backslash is no quote right after a backslash, if the first is none.
  apart : (i r : ℕ) → Absent t i r 0x5C → Fresh q t i → (k : ℕ) → i ≤ k → k < r → k < length t → is_key (keys_of q) (get_or t k 0) ≡ true → before t k ≡ 0x5C → ⊥
  apart i r a fresh k p u b = go k p u b (ltb i k) refl
    where
      go : (k : ℕ) → i ≤ k → k < r → k < length t → (x : Bool) → ltb i k ≡ x → is_key (keys_of q) (get_or t k 0) ≡ true → before t k ≡ 0x5C → ⊥
      go zero p u b true e = let z = ltb-true i 0 e in absurd (omega arith)
      go (suc j) p u b true e = let z = ltb-true i (suc j) e in λ y w. a j (omega arith) (omega arith) w
      go k p u b false e = let m : i ≡ k = omega (arith, ltb-false i k e) in subst (λ (m : ℕ). Fresh q t m) m fresh b

  pub clear-keeps : (i r : ℕ) → r ≤ length t → Absent t i r 0x5C → Fresh q t i → Keeps (byte_step (string_of l q)) t i r
  clear-keeps i r le a fresh k p u =
      let b : k < length t = omega arith in
      let x = get_or t k 0 in
      let s = drop (k + 1) t in
      let (low, free) = clear k b in
      rw (drop-next t k b)
      (keeps-plain (string_of l q) (before t k) x s
      (sym (replaced-here (string_of l q) x s (omega (arith, low))) ∙ ap (λ (b : Bool). b && is_whole (x ∷ s)) (free (a k p u) (apart i r a fresh k p u b))))

  pub clear-valid : valid_to t ≡ length t
  clear-valid = ascii-valid t (λ k b. (clear k b).0)
