-- `is_clear` meets its contract: if every byte of what is left is far from the keys, every byte of the text is.
-- Assumes nothing.
use Rattle.std.proofs.Common.{ℕ, ◌<◌, length, get_or}
use Rattle.std.specs.Slice.Iter.{chunks_rest}
use Rattle.read_html.specs.Clear.{far_of}
use Rattle.read_html.proofs.look.is_clear.Given as goal

abbrev pub invariant-loop-part : goal.invariant-loop-part
invariant-loop-part l = ((k : ℕ) → k < length (chunks_rest l.part-iterator) → 128 < far_of l.keys (get_or (chunks_rest l.part-iterator) k 0)) → (k : ℕ) → k < length l.text → 128 < far_of l.keys (get_or l.text k 0)
