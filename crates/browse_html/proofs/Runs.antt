-- A reference that is a number: what its digits stand for is what their number under the ceiling does.
-- Assumes nothing.
use mathlib.Core.Bool.{Bool, true, false, ◌||◌, cond, and-true}
use mathlib.Core.Option.{Option, none, some, some-injective, none-ne-some}
use mathlib.Core.Path.{◌≡◌, refl, sym, ap, ◌∙◌}
use mathlib.Core.List.{List, [], ◌∷◌, ◌++◌}
use Prim.Native.Nat.{ℕ, ◌+◌, ◌-◌, ◌≤◌, ◌<◌}
use native.Mathlib.Omega.{arith}
use lib.Dec.{leb, eqb}
use lib.ListN.{length, take, drop, get_or, drop_of_length-le, length-append, length-drop}
use lib.Seq.{drop-drop, length-take-le}
use Rattle.rules.specs.Utf8.{utf8}
use Rattle.rules.specs.References.{digits, number, browse_char}
use Rattle.rules.specs.Browsing.{digits_at, end_at, beside, browsed_as, number_at, reference_at}
use Rattle.rules.specs.declared.Kind.{Kind}
use Rattle.rules.proofs.Below.{eqb_comm}
use Rattle.rules.proofs.Loops.{drop-next}
use Rattle.decode_html.specs.Digits.{digit_by, ceiling_of, capped, Runs}
use Rattle.browse_html.specs.Finding.{Counts}

-- ---- the reference

-- Every number above the last character's stands for the same.
browse-capped : (n : ℕ) → browse_char (ceiling_of n) ≡ browse_char n
browse-capped n = go (leb n 0x10FFFF) refl
  where
    go : (x : Bool) → leb n 0x10FFFF ≡ x → browse_char (cond x n 0x110000) ≡ browse_char n
    go true e = refl
    go false e = rw e

module _ (kind : Kind) (base : ℕ) (t : List ℕ) (i a n k : ℕ) (behind : i < a) (within : a ≤ length t) (counts : Counts kind base t i a) (run : Runs base (drop a t) n k) where
  abbrev ds : List ℕ
  ds = digits_at (digit_by base) (drop a t)

  abbrev mark : List ℕ
  mark = take (a - (i + 1)) (drop (i + 1) t)

  -- No digit stands there.
  pub counts-none : k ≡ 0 → reference_at kind (drop (i + 1) t) ≡ none
  counts-none z = counts ∙ go ds (sym run.size ∙ z)
    where
      go : (l : List ℕ) → length l ≡ 0 → beside (mark ++ l ++ end_at (drop (length l) (drop a t))) (browsed_as (number (digit_by base) base l)) ≡ none
      go [] h = refl
      go (x ∷ l) h = absurd (omega arith)

  -- The bytes of the reference.
  abbrev bytes : List ℕ
  bytes = mark ++ ds ++ end_at (drop (length ds) (drop a t))

  pub counts-row : (k ≡ 0 → ⊥) → (c : ℕ) → some (utf8 c) ≡ browse_char n → reference_at kind (drop (i + 1) t) ≡ some (bytes, utf8 c)
  counts-row z c f = counts ∙ go ds refl
    where
      char : (o : Option ℕ) → capped o ≡ some n → browsed_as o ≡ some (utf8 c)
      char none g = absurd (none-ne-some n g)
      char (some m) g = sym (browse-capped m) ∙ ap browse_char (some-injective (ceiling_of m) n g) ∙ sym f

      go : (l : List ℕ) → l ≡ ds → number_at (digit_by base) base mark (drop a t) ≡ some (bytes, utf8 c)
      go [] g = absurd (z (run.size ∙ sym (ap length g)))
      go (x ∷ l) g =
          let w : browsed_as (number (digit_by base) base ds) ≡ some (utf8 c) =
          ap (λ (s : List ℕ). browsed_as (number (digit_by base) base s)) (sym g) ∙ char (digits (digit_by base) base 0 (x ∷ l)) (ap (λ (s : List ℕ). capped (digits (digit_by base) base 0 s)) g ∙ run.number) in
          ap (beside bytes) w

  -- They end where the `;` does, or the digits.
  pub counts_end : (p : ℕ) → p ≡ a + k + length (end_at (drop (a + k) t)) → p ≡ i + 1 + length bytes
  counts_end p f =
      let there : drop (length ds) (drop a t) ≡ drop (a + k) t =
      drop-drop (length ds) a t ∙ ap (λ (m : ℕ). drop (a + m) t) (sym run.size) in
      let m : length mark ≡ a - (i + 1) = length-take-le (a - (i + 1)) (drop (i + 1) t) (rw length-drop (omega arith)) in
      let l : length bytes ≡ a - (i + 1) + length ds + length (end_at (drop (a + k) t)) =
      length-append (mark ++ ds) (end_at (drop (length ds) (drop a t)))
      ∙ ap (λ (k : ℕ). k + length (end_at (drop (length ds) (drop a t)))) (length-append mark ds ∙ ap (λ (k : ℕ). k + length ds) m)
      ∙ ap (λ (s : List ℕ). a - (i + 1) + length ds + length (end_at s)) there in
      omega (arith, l, run.size, f)

-- ---- the mark

module _ (kind : Kind) (t : List ℕ) (i : ℕ) (within : i + 2 < length t) (hash : get_or t (i + 1) 0 ≡ 35) where
  two : drop (i + 1) t ≡ 35 ∷ get_or t (i + 2) 0 ∷ drop (i + 2 + 1) t
  two =
      let a : i + 1 + 1 ≡ i + 2 = omega arith in
      rw (drop-next t (i + 1) (omega arith), hash, a, drop-next t (i + 2) within)

  abbrev hexed : Bool
  hexed = eqb (get_or t (i + 2) 0) 120 || eqb (get_or t (i + 2) 0) 88

  -- Hex digits follow the mark `x` or `X`.
  pub counts-hex : hexed ≡ true → Counts kind 16 t i (i + 2 + 1)
  counts-hex e =
      let n : i + 2 + 1 - (i + 1) ≡ 2 = omega arith in
      let b = get_or t (i + 2) 0 in
      rw (two, n) (rw (eqb_comm 120 b, eqb_comm 88 b, and-true (eqb b 120), and-true (eqb b 88), e))

  -- Else they are decimal.
  pub counts-decimal : hexed ≡ false → Counts kind 10 t i (i + 2 + 0)
  counts-decimal e =
      let n : i + 2 + 0 - (i + 1) ≡ 1 = omega arith in
      let z : i + 2 + 0 ≡ i + 2 = omega arith in
      let b = get_or t (i + 2) 0 in
      rw (two, n, z, drop-next t (i + 2) within) (rw (eqb_comm 120 b, eqb_comm 88 b, and-true (eqb b 120), and-true (eqb b 88), e))

-- A `#` at the end of the text.
pub hash-ends : (kind : Kind) (t : List ℕ) (i : ℕ) → i + 1 < length t → length t ≤ i + 2 → get_or t (i + 1) 0 ≡ 35 → reference_at kind (drop (i + 1) t) ≡ none
hash-ends kind t i l e hash =
    let a : i + 1 + 1 ≡ i + 2 = omega arith in
    rw (drop-next t (i + 1) (omega arith), hash, a, drop_of_length-le t {i = i + 2} (omega arith))
