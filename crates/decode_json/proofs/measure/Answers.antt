-- `measure` meets its contract: what is counted so far, with what the rest of the text gives, is what the whole gives. The measure is what is left.
-- Assumes nothing.
use mathlib.Core.List.{[]}
use mathlib.Core.Path.{◌≡◌}
use native.Mathlib.Omega.{arith}
use Rattle.std.specs.Prelude.{Some, None}
use Rattle.rules.specs.Moves.{from}
use Rattle.rules.specs.Json.{json_step}
use Rattle.rules.proofs.Loops.{from_end, from-stop}
use Rattle.rules.proofs.Reasons.{json-left}
use Rattle.base.proofs.Counted.{counted-quiet, counted-measures}
use Rattle.decode_json.proofs.Contents.{content-quiet, halt-stops, told-here, counted-told}
use Rattle.decode_json.proofs.measure.Goals as goal
use Rattle.decode_json.proofs.measure.Goals.{else-loop-i-test, then-loop-i-test+then-text-i-ne92+then-e-i, then-loop-i-test+else-text-i-ne92+in_default}

pub loop-i-preserved-then-text-i-ne92 : goal.loop-i-preserved-then-text-i-ne92
loop-i-preserved-then-text-i-ne92 c =
    let e = c.next_halt-e in
    counted-quiet c.loop-i.invariant e.result e.ensures.after e.ensures.within (content-quiet c.args.text.now c.loop-i.i e.result e.ensures.within e.ensures.none)

pub loop-i-preserved : goal.loop-i-preserved
loop-i-preserved c =
    let t = c.args.text.now in
    let e = c.in-Some.escape in
    rw c.char_length-length.ensures.0 (counted-told t c.loop-i.invariant e (omega arith) (told-here t c.loop-i.i (Some e) c.in-Some.ensures))

pub returns : goal.returns
returns c =
    let t = c.args.text.now in
    let i = c.loop-i.i in
    let none : from json_step t i ≡ [] =
    elim c.loop-i-test.branch [
      | else-loop-i-test w ↦ from_end json_step t i (omega arith)
      | then-loop-i-test+then-text-i-ne92+then-e-i w ↦
          let near = rw w.if-e-i.true at w.next_halt-e.ensures in
          from-stop json_step t i (omega arith) (halt-stops t i (omega arith) (near.here (omega arith)) w.if-text-i-ne92.true)
      | then-loop-i-test+else-text-i-ne92+in_default w ↦ from-stop json_step t i (omega arith) (told-here t i None w.in_default.ensures).1
    ] in
    rw c.whole.ensures (counted-measures c.loop-i.invariant None none (json-left t))
