-- `pass` meets its contract. The invariant: what is left to cut is what is left from place i on, and every byte before is a letter or digit.
-- Assumes nothing.
use Rattle.std.proofs.Common.{◌≡◌, ◌≤◌, true, length, drop}
use Rattle.std.specs.Slice.Iter.{chunks_exact_rest, chunks_exact_size}
use Rattle.base.specs.First.{Free}
use Rattle.plain.specs.Plain.{special_at}
use Rattle.read_unquoted.proofs.walk.pass.Given as goal

abbrev pub invariant-loop-block : goal.invariant-loop-block
invariant-loop-block l =
    (chunks_exact_size l.block-iterator ≡ 16) × (drop l.i l.text ≡ chunks_exact_rest l.block-iterator) × (l.from ≤ l.i) × (l.i ≤ length l.text) × Free (special_at true l.text) l.from l.i
