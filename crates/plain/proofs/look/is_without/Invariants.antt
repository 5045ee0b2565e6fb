-- If what is left is ASCII without the byte, the text is.
-- Assumes nothing.
use Rattle.std.specs.Slice.Iter.{chunks_rest}
use Rattle.plain.specs.Plain.{Without}
use Rattle.plain.proofs.look.is_without.Given as goal

abbrev pub invariant-loop-part : goal.invariant-loop-part
invariant-loop-part l = Without l.byte (chunks_rest l.part-iterator) → Without l.byte l.text
