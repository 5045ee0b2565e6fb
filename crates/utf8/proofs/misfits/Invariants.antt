-- `misfits` meets its contract: while none is counted, each byte passed fits. What is left to cut is the part from the next window on.
-- Assumes nothing.
use Rattle.std.proofs.Common.{◌≡◌, ℕ, ◌≤◌, ◌<◌, length, drop}
use Rattle.std.specs.Slice.Iter.{windows_rest, windows_size}
use Rattle.utf8.proofs.Parts.{FitsAt}
use Rattle.utf8.proofs.misfits.Given as goal

abbrev pub invariant-loop-four : goal.invariant-loop-four
invariant-loop-four l =
    (windows_size l.four-iterator ≡ 4) × (windows_rest l.four-iterator ≡ drop (length l.yielded) l.part) × (length l.yielded ≤ length l.part) × (l.n ≤ length l.yielded) × (l.n ≡ 0 → (j : ℕ) → j < length l.yielded → FitsAt l.part j)
