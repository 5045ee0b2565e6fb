-- A run of digits: at each digit the number so far takes it up, and where no digit stands the run ends.
-- Assumes nothing.
use mathlib.Core.Option.{Option, none, some}
use mathlib.Core.Path.{◌≡◌, refl, sym, ap, ◌∙◌}
use mathlib.Core.List.{List, [], ◌∷◌}
use Prim.Native.Nat.{ℕ, ◌+◌, ◌*◌, ◌≤◌, ◌<◌}
use native.Mathlib.Omega.{arith}
use lib.ListN.{length, drop, get_or, drop_of_length-le}
use Rattle.rules.specs.References.{digits}
use Rattle.rules.specs.Browsing.{digits_at}
use Rattle.rules.proofs.Loops.{drop-next}
use Rattle.decode_html.specs.Digits.{digit_by, ceiling_of, capped, Runs}
use Rattle.decode_html.proofs.Ceiling.{capped-digits, ceiling-same, ceiling-most}

-- The digits before place i make the number n under the ceiling.
pub record Running (base : ℕ) (s : List ℕ) (n i : ℕ) : Type 0 where
  pub within : i ≤ length s
  pub low : n ≤ 0x110000
  pub size : length (digits_at (digit_by base) s) ≡ i + length (digits_at (digit_by base) (drop i s))
  pub number : capped (digits (digit_by base) base 0 (digits_at (digit_by base) s)) ≡ capped (digits (digit_by base) base n (digits_at (digit_by base) (drop i s)))

pub run-start : (base : ℕ) (s : List ℕ) → Running base s 0 0
run-start base s = record { within = omega arith; low = omega arith; size = omega arith; number = refl }

module _ (base : ℕ) (s : List ℕ) where
  -- The byte at place i is looked at.
  here : (i : ℕ) (o : Option ℕ) → i < length s → digit_by base (get_or s i 0) ≡ o
      → digits_at (digit_by base) (drop i s) ≡ elim o [ none ↦ [] | some k ↦ get_or s i 0 ∷ digits_at (digit_by base) (drop (i + 1) s) ]
  here i o l e = rw (drop-next s i l) (ap (λ (o : Option ℕ). elim o [ none ↦ [] | some k ↦ get_or s i 0 ∷ digits_at (digit_by base) (drop (i + 1) s) ]) e)

  module _ {n i : ℕ} (r : Running base s n i) where
    -- It is the digit v.
    pub run_more : (v : ℕ) → 1 ≤ base → i < length s → digit_by base (get_or s i 0) ≡ some v → Running base s (ceiling_of (n * base + v)) (i + 1)
    run_more v h l d =
        let e : digits_at (digit_by base) (drop i s) ≡ get_or s i 0 ∷ digits_at (digit_by base) (drop (i + 1) s) = here i (some v) l d in
        let rest = digits_at (digit_by base) (drop (i + 1) s) in
        let one : digits (digit_by base) base n (get_or s i 0 ∷ rest) ≡ digits (digit_by base) base (n * base + v) rest =
        ap (λ (o : Option ℕ). elim o [ none ↦ none | some k ↦ digits (digit_by base) base (n * base + k) rest ]) d in
        record {
          within = omega arith;
          low = ceiling-most (n * base + v);
          size = omega (arith, r.size, ap length e);
          number = r.number ∙ ap (λ (l : List ℕ). capped (digits (digit_by base) base n l)) e ∙ ap capped one ∙ sym (capped-digits (digit_by base) base (n * base + v) rest h);
        }

    ends : digits_at (digit_by base) (drop i s) ≡ [] → Runs base s n i
    ends e = record {
      within = r.within;
      size = omega (arith, r.size, ap length e);
      number = r.number ∙ ap (λ (l : List ℕ). capped (digits (digit_by base) base n l)) e ∙ ap some (ceiling-same n r.low);
    }

    -- It is none, or the bytes end: so does the run.
    pub run_none : i < length s → digit_by base (get_or s i 0) ≡ none → Runs base s n i
    run_none l e = ends (here i none l e)

    pub run_end : length s ≤ i → Runs base s n (length s)
    run_end l = let e : i ≡ length s = omega (arith, r.within) in rw e at (ends (rw (drop_of_length-le s l)))

-- Where the run is shorter than the bytes, one of them is no digit.
digits-cut : (d : ℕ → Option ℕ) (base n : ℕ) (s : List ℕ) → length (digits_at d s) < length s → digits d base n s ≡ none
digits-cut d base n [] h = absurd (omega arith)
digits-cut d base n (x ∷ s) h = go (d x) h (λ k l. digits-cut d base (n * base + k) s l)
  where
    go : (o : Option ℕ) → length {A = ℕ} (elim o [ none ↦ [] | some k ↦ x ∷ digits_at d s ]) < length (x ∷ s)
        → ((k : ℕ) → length (digits_at d s) < length s → digits d base (n * base + k) s ≡ none)
        → ◌≡◌ {A = Option ℕ} (elim o [ none ↦ none | some k ↦ digits d base (n * base + k) s ]) none
    go none h ih = refl
    go (some k) h ih = ih k (omega arith)

-- Else they are digits only.
digits-whole : (d : ℕ → Option ℕ) (s : List ℕ) → length s ≤ length (digits_at d s) → digits_at d s ≡ s
digits-whole d [] h = refl
digits-whole d (x ∷ s) h = go (d x) h (λ l. digits-whole d s l)
  where
    go : (o : Option ℕ) → length (x ∷ s) ≤ length {A = ℕ} (elim o [ none ↦ [] | some k ↦ x ∷ digits_at d s ]) → (length s ≤ length (digits_at d s) → digits_at d s ≡ s)
        → ◌≡◌ {A = List ℕ} (elim o [ none ↦ [] | some k ↦ x ∷ digits_at d s ]) (x ∷ s)
    go none h ih = absurd (omega arith)
    go (some k) h ih = ap (λ (l : List ℕ). x ∷ l) (ih (omega arith))

module _ {base : ℕ} {s : List ℕ} {n k : ℕ} (run : Runs base s n k) where
  pub run-cut : k < length s → digits (digit_by base) base 0 s ≡ none
  run-cut h = digits-cut (digit_by base) base 0 s (omega (arith, run.size))

  pub run-whole : length s ≤ k → capped (digits (digit_by base) base 0 s) ≡ some n
  run-whole h = rw (digits-whole (digit_by base) s (omega (arith, run.size))) at run.number
