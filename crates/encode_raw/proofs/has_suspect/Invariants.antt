-- `encode_raw::has_suspect` meets its contract. The invariant: the answer so far is false only where no pair that is passed is suspect.
-- Assumes nothing.
use Rattle.std.proofs.Common.{false, ◌≡◌, ℕ, ◌+◌, ◌<◌, length, drop, get_or}
use Rattle.std.specs.Slice.Iter.{windows_rest, windows_size}
use Rattle.encode_raw.specs.Cuts.{suspect}
use Rattle.encode_raw.proofs.has_suspect.Given as goal

abbrev pub invariant-loop-pair : goal.invariant-loop-pair
invariant-loop-pair l =
    (windows_size l.pair-iterator ≡ 2) × (windows_rest l.pair-iterator ≡ drop (length l.yielded) l.block)
    × (l.hit ≡ false → (k : ℕ) → k < length l.yielded → suspect (get_or l.block k 0) (get_or l.block (k + 1) 0) ≡ false)
