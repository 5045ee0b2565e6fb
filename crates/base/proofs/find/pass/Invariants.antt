-- `crate::find::pass` meets its contract. The invariant: what is left to cut is what is left from place i on, and the byte is at no place before.
-- Assumes nothing.
use Rattle.std.proofs.Common.{◌≡◌, ◌≤◌, length, drop}
use Rattle.std.specs.Slice.Iter.{chunks_exact_rest, chunks_exact_size}
use Rattle.base.specs.Places.{Absent}
use Rattle.base.proofs.find.pass.Given as goal

abbrev pub invariant-loop-block : goal.invariant-loop-block
invariant-loop-block l =
    (chunks_exact_size l.block-iterator ≡ 16) × (drop l.i l.text ≡ chunks_exact_rest l.block-iterator) × (l.from ≤ l.i) × (l.i ≤ length l.text) × Absent l.text l.from l.i l.byte
