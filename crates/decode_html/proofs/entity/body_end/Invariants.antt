-- `decode_html::entity::body_end` meets its contract. The invariant: neither `;` nor `&` is among the bytes passed.
-- Assumes nothing.
use Rattle.base.specs.Places.{Absent}
use Rattle.decode_html.proofs.entity.body_end.Given as goal

abbrev pub invariant-loop-i : goal.invariant-loop-i
invariant-loop-i l = Absent l.text l.from l.i 59 × Absent l.text l.from l.i 38
