-- `write` meets its contract: what is counted so far, with what the rest of the text gives, is what the whole gives. The measure is what is left.
-- Assumes nothing.
use mathlib.Core.List.{[]}
use mathlib.Core.Path.{◌≡◌, ap, ◌∙◌}
use Prim.Native.Nat.{◌-◌}
use native.Mathlib.Omega.{arith}
use Rattle.std.specs.Prelude.{None}
use Rattle.rules.specs.Moves.{before, from, result}
use Rattle.rules.specs.Reading.{read_step}
use Rattle.rules.specs.Utf8.{utf8}
use Rattle.rules.specs.declared.Context.TheVariants.{InAscii}
use Rattle.rules.proofs.Loops.{from_end, from-stop}
use Rattle.base.proofs.Part.{part_length}
use Rattle.base.proofs.Filled.{filled-room, filled_put}
use Rattle.base.proofs.Counted.{counted-quiet, counted-swap, counted-measures, next-quiet, next-swap, filled-all}
use Rattle.read_ascii.proofs.Contents.{content-quiet, halted-at, read-within, read_left}
use Rattle.read_ascii.proofs.write.Goals as goal
use Rattle.read_ascii.proofs.write.Goals.{else-loop-i-test, then-loop-i-test+then-text-i-ne38+then-e-i, then-loop-i-test+else-text-i-ne38+in_default}

pub put-at-requires : goal.put-at-requires
put-at-requires c =
    let t = c.args.text.now in
    let l = c.loop-i in
    let e = c.next_halt-e in
    filled-room l.invariant.1 (next-quiet (read_step InAscii) t l.i e.result e.ensures.after e.ensures.within (content-quiet t (λ k. (c.type_inv.text k).fits) l.i e.result e.ensures))

pub loop-i-preserved-then-text-i-ne38 : goal.loop-i-preserved-then-text-i-ne38
loop-i-preserved-then-text-i-ne38 c =
    let t = c.args.text.now in
    let l = c.loop-i in
    let e = c.next_halt-e in
    let put = c.put-at in
    let quiet = content-quiet t (λ k. (c.type_inv.text k).fits) l.i e.result e.ensures in
    let size : put.result ≡ e.result - l.i = put.ensures.0 ∙ part_length t l.i e.result e.ensures.after e.ensures.within in (
      rw size (counted-quiet l.invariant.0 e.result e.ensures.after e.ensures.within quiet),
      filled_put l.invariant.1 (next-quiet (read_step InAscii) t l.i e.result e.ensures.after e.ensures.within quiet) put.new.output put.result put.ensures.0 put.ensures.1,
    )

pub put_char-at-requires : goal.put_char-at-requires
put_char-at-requires c =
    let t = c.args.text.now in
    let e = c.in-Some.unit in
    let tells = c.in-Some.ensures (before t c.loop-i.i) in
    let w = read-within t c.loop-i.i e (omega arith) tells in
    (w.3, filled-room c.loop-i.invariant.1 (next-swap (read_step InAscii) t c.loop-i.i e.taken (utf8 e.character) w.0 w.1 tells.0))

pub overflow_add-i : goal.overflow_add-i
overflow_add-i c =
    let t = c.args.text.now in
    omega (arith, (read-within t c.loop-i.i c.in-Some.unit (omega arith) (c.in-Some.ensures (before t c.loop-i.i))).1)

pub loop-i-smaller : goal.loop-i-smaller
loop-i-smaller c =
    let t = c.args.text.now in
    let w = read-within t c.loop-i.i c.in-Some.unit (omega arith) (c.in-Some.ensures (before t c.loop-i.i)) in
    omega (arith, w.0, w.1)

pub loop-i-preserved : goal.loop-i-preserved
loop-i-preserved c =
    let t = c.args.text.now in
    let l = c.loop-i in
    let e = c.in-Some.unit in
    let put = c.put_char-at in
    let tells = c.in-Some.ensures (before t l.i) in
    let w = read-within t l.i e (omega arith) tells in
    let next = next-swap (read_step InAscii) t l.i e.taken (utf8 e.character) w.0 w.1 tells.0 in
    (rw put.ensures.0 (counted-swap l.invariant.0 e.taken (utf8 e.character) w.0 w.1 w.2 tells.0), filled_put l.invariant.1 next put.new.output put.result put.ensures.0 put.ensures.1)

pub returns : goal.returns
returns c =
    let t = c.args.text.now in
    let i = c.loop-i.i in
    let rule = read_step InAscii in
    let none : from rule t i ≡ [] =
    elim c.loop-i-test.branch [
      | else-loop-i-test w ↦ from_end rule t i (omega arith)
      | then-loop-i-test+then-text-i-ne38+then-e-i w ↦
          from-stop rule t i (omega arith) (halted-at t (λ k. (c.type_inv.text k).fits) i (omega arith) ((rw w.if-e-i.true at w.next_halt-e.ensures).here (omega arith)) w.if-text-i-ne38.true).1
      | then-loop-i-test+else-text-i-ne38+in_default w ↦ from-stop rule t i (omega arith) (w.in_default.ensures (before t i)).1
    ] in
    (rw c.whole.ensures (counted-measures c.loop-i.invariant.0 None none (read_left t)), (filled-all c.loop-i.invariant.1 (ap result none)).1)
