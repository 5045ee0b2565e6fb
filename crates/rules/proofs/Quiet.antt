-- A quiet stretch of a text: where a rule keeps each single byte from i up to r, its moves from i on are those single bytes, and then its moves
-- from r on. So the stretch is copied as it stands, and nothing in it counts as replaced. For any rule.
-- Assumes nothing.
use mathlib.Core.Path.{◌≡◌, refl, ap, ◌∙◌}
use mathlib.Core.List.{List, [], ◌∷◌, ◌++◌}
use Prim.Native.Nat.{ℕ, zero, suc, ◌+◌, ◌-◌, ◌≤◌, ◌<◌}
use native.Mathlib.Omega.{arith}
use lib.ListN.{length, take, drop, get_or, length-append, length-drop}
use lib.Seq.{length-take-le}
use Rattle.rules.specs.Moves.{Move, keep, Rule, result, replaced, lefts_at, place, before, from}
use Rattle.rules.proofs.Machine.{singly, taken-singly, result-singly, lefts-singly}
use Rattle.rules.proofs.Loops.{from_next, drop-next}

-- The rule keeps the byte at each place from i up to r.
abbrev pub Keeps : Rule → List ℕ → ℕ → ℕ → Type 0
Keeps rule t i r = (k : ℕ) → i ≤ k → k < r → rule (before t k) (drop k t) ≡ keep (get_or t k 0 ∷ [])

singles : (rule : Rule) (t : List ℕ) (n i : ℕ) → i + n ≤ length t → Keeps rule t i (i + n) → from rule t i ≡ singly (take n (drop i t)) ++ from rule t (i + n)
singles rule t zero i h q =
    let z : i + 0 ≡ i = omega arith in
    rw z
singles rule t (suc n) i h q =
    let l : i < length t = omega arith in
    let z : i + suc n ≡ i + 1 + n = omega arith in
    let d = drop-next t i l in
    let one = from_next rule t i 0 (keep (get_or t i 0 ∷ [])) l (q i (omega arith) (omega arith)) refl in
    one ∙ rw (z, d, singles rule t n (i + 1) (omega arith) (λ k a b. q k (omega arith) (omega arith)))

pub replaced-singly : (a : List ℕ) (ms : List Move) → replaced (singly a ++ ms) ≡ replaced ms
replaced-singly [] ms = refl
replaced-singly (x ∷ a) ms = replaced-singly a ms

module _ (rule : Rule) (t : List ℕ) (i r : ℕ) (h : i ≤ r) (l : r ≤ length t) (q : Keeps rule t i r) where
  -- The moves through the stretch, and those behind it.
  pub quiet : from rule t i ≡ singly (take (r - i) (drop i t)) ++ from rule t r
  quiet =
      let s : i + (r - i) ≡ r = omega arith in
      rw s at (singles rule t (r - i) i (omega arith) (rw s q))

  -- The stretch is copied.
  pub quiet-result : result (from rule t i) ≡ take (r - i) (drop i t) ++ result (from rule t r)
  quiet-result = ap result quiet ∙ result-singly (take (r - i) (drop i t)) (from rule t r)

  -- It takes its bytes.
  pub quiet-place : place (from rule t i) ≡ (r - i) + place (from rule t r)
  quiet-place =
      ap place quiet
      ∙ ap length (taken-singly (take (r - i) (drop i t)) (from rule t r))
      ∙ rw (length-append, length-take-le (r - i) (drop i t) (rw length-drop (omega arith)))

  -- And nothing in it is replaced.
  pub quiet-replaced : replaced (from rule t i) ≡ replaced (from rule t r)
  quiet-replaced = ap replaced quiet ∙ replaced-singly (take (r - i) (drop i t)) (from rule t r)

  -- Nor does a reference stay.
  pub quiet-lefts : lefts_at i (from rule t i) ≡ lefts_at r (from rule t r)
  quiet-lefts =
      let n : length (take (r - i) (drop i t)) ≡ r - i = length-take-le (r - i) (drop i t) (rw length-drop (omega arith)) in
      let z : i + length (take (r - i) (drop i t)) ≡ r = omega arith in
      ap (lefts_at i) quiet ∙ lefts-singly i (take (r - i) (drop i t)) (from rule t r) ∙ ap (λ (n : ℕ). lefts_at n (from rule t r)) z
