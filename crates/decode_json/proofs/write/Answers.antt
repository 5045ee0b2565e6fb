-- `write` meets its contract: what is written and counted so far, with what the rest of the text gives, is the result of the whole. The measure is
-- what is left of the text.
-- Assumes nothing.
use mathlib.Core.List.{[]}
use mathlib.Core.Path.{◌≡◌, sym, ap, ◌∙◌}
use Prim.Native.Nat.{ℕ, ◌-◌}
use native.Mathlib.Omega.{arith}
use Rattle.std.specs.Prelude.{Some, None}
use Rattle.rules.specs.Moves.{from, result}
use Rattle.rules.specs.Json.{json_step}
use Rattle.rules.proofs.Loops.{from_end, from-stop}
use Rattle.rules.proofs.Reasons.{json-left}
use Rattle.base.proofs.Counted.{counted-quiet, counted-measures, next-quiet, filled-all}
use Rattle.base.proofs.Filled.{filled-room, filled_put}
use Rattle.base.proofs.Part.{part_length}
use Rattle.decode_json.proofs.Contents.{content-quiet, halt-stops, told-here, read-within, counted-told, next-told}
use Rattle.decode_json.proofs.write.Goals as goal
use Rattle.decode_json.proofs.write.Goals.{else-loop-i-test, then-loop-i-test+then-text-i-ne92+then-e-i, then-loop-i-test+else-text-i-ne92+in_default}

pub put_until-e-requires : goal.put_until-e-requires
put_until-e-requires c =
    let t = c.args.text.now in
    let i = c.loop-i.i in
    (omega arith, λ r h l free. omega (arith, part_length t i r h l, filled-room c.loop-i.invariant.1 (next-quiet json_step t i r h l (content-quiet t i r l free))))

pub loop-i-preserved-then-text-i-ne92 : goal.loop-i-preserved-then-text-i-ne92
loop-i-preserved-then-text-i-ne92 c =
    let t = c.args.text.now in
    let i = c.loop-i.i in
    let put = c.put_until-e in
    let near = put.ensures.0 in
    let quiet = content-quiet t i put.result near.within near.none in (
      counted-quiet c.loop-i.invariant.0 put.result near.after near.within quiet,
      filled_put c.loop-i.invariant.1 (next-quiet json_step t i put.result near.after near.within quiet) put.new.output (put.result - i) (sym (part_length t i put.result near.after near.within)) put.ensures.1,
    )

pub put_char-at-requires : goal.put_char-at-requires
put_char-at-requires c =
    let t = c.args.text.now in
    let e = c.in-Some.escape in
    let tells = told-here t c.loop-i.i (Some e) c.in-Some.ensures in
    ((read-within t c.loop-i.i e (omega arith) tells).3, filled-room c.loop-i.invariant.1 (next-told t c.loop-i.i e (omega arith) tells))

pub overflow_add-i : goal.overflow_add-i
overflow_add-i c =
    let t = c.args.text.now in
    omega (arith, (read-within t c.loop-i.i c.in-Some.escape (omega arith) (told-here t c.loop-i.i (Some c.in-Some.escape) c.in-Some.ensures)).1)

pub loop-i-smaller : goal.loop-i-smaller
loop-i-smaller c =
    let t = c.args.text.now in
    let w = read-within t c.loop-i.i c.in-Some.escape (omega arith) (told-here t c.loop-i.i (Some c.in-Some.escape) c.in-Some.ensures) in
    omega (arith, w.0, w.1)

pub loop-i-preserved : goal.loop-i-preserved
loop-i-preserved c =
    let t = c.args.text.now in
    let e = c.in-Some.escape in
    let put = c.put_char-at in
    let tells = told-here t c.loop-i.i (Some e) c.in-Some.ensures in (
      rw put.ensures.0 (counted-told t c.loop-i.invariant.0 e (omega arith) tells),
      filled_put c.loop-i.invariant.1 (next-told t c.loop-i.i e (omega arith) tells) put.new.output put.result put.ensures.0 put.ensures.1,
    )

pub returns : goal.returns
returns c =
    let t = c.args.text.now in
    let i = c.loop-i.i in
    let none : from json_step t i ≡ [] =
    elim c.loop-i-test.branch [
      | else-loop-i-test w ↦ from_end json_step t i (omega arith)
      | then-loop-i-test+then-text-i-ne92+then-e-i w ↦
          let near = rw w.if-e-i.true at w.put_until-e.ensures.0 in
          from-stop json_step t i (omega arith) (halt-stops t i (omega arith) (near.here (omega arith)) w.if-text-i-ne92.true)
      | then-loop-i-test+else-text-i-ne92+in_default w ↦ from-stop json_step t i (omega arith) (told-here t i None w.in_default.ensures).1
    ] in
    let all = (filled-all c.loop-i.invariant.1 (ap result none)).1 in (
      rw c.whole.ensures (counted-measures c.loop-i.invariant.0 None none (json-left t)),
      elim c.loop-i-test.branch [
        | else-loop-i-test w ↦ rw w.output-is all
        | then-loop-i-test+then-text-i-ne92+then-e-i w ↦
            let p = w.put_until-e in
            let near = p.ensures.0 in
            let next = next-quiet json_step t i p.result near.after near.within (content-quiet t i p.result near.within near.none) in
            let f = filled_put c.loop-i.invariant.1 next p.new.output (p.result - i) (sym (part_length t i p.result near.after near.within)) p.ensures.1 in
            rw w.output-is (filled-all f (ap (λ (e : ℕ). result (from json_step t e)) w.if-e-i.true ∙ ap result none)).1
        | then-loop-i-test+else-text-i-ne92+in_default w ↦ rw w.output-is all
      ],
    )
