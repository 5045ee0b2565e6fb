-- `write` meets its contract: what is written and counted so far, with what the reader gives of the rest, is the result of the whole. The measure is
-- what is left of the text.
-- Assumes nothing.
use mathlib.Core.List.{[]}
use mathlib.Core.Path.{◌≡◌, sym, ap, ◌∙◌}
use Prim.Native.Nat.{◌-◌}
use native.Mathlib.Omega.{arith}
use Rattle.rules.proofs.Loops.{from_end, from-stop}
use Rattle.rules.specs.Utf8.{utf8}
use Rattle.rules.specs.Moves.{result, from}
use Rattle.base.proofs.Counted.{counted_start, counted-quiet, counted-swap, next-quiet, next-swap, filled-all}
use Rattle.base.proofs.Part.{part_length}
use Rattle.base.proofs.Filled.{filled-start, filled-room, filled_put}
use Rattle.reader.specs.Units.{byte_step}
use Rattle.reader.proofs.Characters.{clear-keeps, unit-here, no-unit-here, no-mark-here}
use Rattle.reader.proofs.Bytewise.{byte-result, read-measures}
use Rattle.reader.proofs.write.Goals as goal
use Rattle.reader.proofs.write.Goals.{else-loop-i-test, then-loop-i-test+then-text-i+then-e-i, then-loop-i-test+else-text-i+in_default}

pub loop-i-init : goal.loop-i-init
loop-i-init c =
    let a = c.args in
    (counted_start (byte_step a.c) a.text.now, rw (byte-result a.c c.requires.2 a.text.now c.requires.0) (filled-start _ _ c.requires.1))

pub put-at-requires : goal.put-at-requires
put-at-requires c =
    let a = c.args in
    let l = c.loop-i in
    let e = c.next_replaced-e in
    let quiet = clear-keeps a.c a.text.now (λ k. (c.type_inv.text k).fits) c.of-special.result.leads (rw c.of-special.ensures at c.of-special.result.listed) l.i e.result e.ensures in
    filled-room l.invariant.1 (next-quiet (byte_step a.c) a.text.now l.i e.result e.ensures.after e.ensures.within quiet)

pub loop-i-preserved-then-text-i : goal.loop-i-preserved-then-text-i
loop-i-preserved-then-text-i c =
    let a = c.args in
    let l = c.loop-i in
    let put = c.put-at in
    let e = c.next_replaced-e in
    let quiet = clear-keeps a.c a.text.now (λ k. (c.type_inv.text k).fits) c.of-special.result.leads (rw c.of-special.ensures at c.of-special.result.listed) l.i e.result e.ensures in
    let next = next-quiet (byte_step a.c) a.text.now l.i e.result e.ensures.after e.ensures.within quiet in
    let size : put.result ≡ e.result - l.i = put.ensures.0 ∙ part_length a.text.now l.i e.result e.ensures.after e.ensures.within in
    (rw size (counted-quiet l.invariant.0 e.result e.ensures.after e.ensures.within quiet), filled_put l.invariant.1 next put.new.output put.result put.ensures.0 put.ensures.1)

pub put_char-at-requires : goal.put_char-at-requires
put_char-at-requires c =
    let a = c.args in
    let l = c.loop-i in
    let e = c.in-Some.unit in
    let u = unit-here a.c a.text.now l.i (omega arith) e c.in-Some.ensures in
    (u.scalar, filled-room l.invariant.1 (next-swap (byte_step a.c) a.text.now l.i e.taken (utf8 e.character) u.some u.ends u.moves))

pub loop-i-preserved : goal.loop-i-preserved
loop-i-preserved c =
    let a = c.args in
    let l = c.loop-i in
    let e = c.in-Some.unit in
    let put = c.put_char-at in
    let u = unit-here a.c a.text.now l.i (omega arith) e c.in-Some.ensures in
    let next = next-swap (byte_step a.c) a.text.now l.i e.taken (utf8 e.character) u.some u.ends u.moves in
    (rw put.ensures.0 (counted-swap l.invariant.0 e.taken (utf8 e.character) u.some u.ends u.shorter u.moves), filled_put l.invariant.1 next put.new.output put.result put.ensures.0 put.ensures.1)

pub returns : goal.returns
returns c =
    let a = c.args in
    let i = c.loop-i.i in
    let rule = byte_step a.c in
    let none : from rule a.text.now i ≡ [] =
    elim c.loop-i-test.branch [
      | else-loop-i-test w ↦ from_end rule a.text.now i (omega arith)
      | then-loop-i-test+then-text-i+then-e-i w ↦
          from-stop rule a.text.now i (omega arith)
          (no-mark-here a.c a.text.now i (omega arith) (λ k. (c.type_inv.text k).fits) c.of-special.result.leads (rw c.of-special.ensures at c.of-special.result.listed)
          (λ z. w.if-text-i.true (z ∙ sym c.mark_of-mark.ensures)) (rw w.if-e-i.true at w.next_replaced-e.ensures))
      | then-loop-i-test+else-text-i+in_default w ↦
          from-stop rule a.text.now i (omega arith) (no-unit-here a.c a.text.now i (omega arith) (w.if-text-i.false ∙ c.mark_of-mark.ensures) w.in_default.ensures)
    ] in
    (rw c.whole.ensures (read-measures a.c c.requires.2 a.text.now i _ _ c.requires.0 c.loop-i.invariant.0 none), (filled-all c.loop-i.invariant.1 (ap result none)).1)
