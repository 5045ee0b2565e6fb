-- `converse` meets its contract: the lines of the answer fill the output, and then what view gives.
-- Assumes nothing.
use mathlib.Core.Path.{refl, sym, ap, ◌∙◌}
use mathlib.Core.List.{List, []}
use Prim.Native.Nat.{ℕ}
use native.Mathlib.Omega.{arith}
use lib.ListN.{length, length-append}
use Rattle.rules.specs.Program.{printed}
use Rattle.rules.specs.Bytes.{over}
use Rattle.base.proofs.Filled.{filled-room, filled_put}
use Rattle.base.proofs.Counted.{filled-all}
use Rattle.requests.proofs.Viewed.{said}
use Rattle.requests.proofs.Parted.{filled-first, last-part}
use Rattle.requests.proofs.converse.Goals as goal

pub put-requires : goal.put-requires
put-requires c = let a = c.args in
    let p = printed c.limited-answer.result [] in
    let v = c.view.result.now in
    let s = said a.operation a.context a.text.now c.room-result.result c.limited-answer.result c.limited-answer.new.output v c.room-result.ensures c.limited-answer.ensures.0 c.limited-answer.ensures.1 c.view.ensures.1 in
    let f = filled-first p v a.output.now c.put_answer-at.new.output c.put_answer-at.result (omega (arith, length-append p v, c.put_answer-at.ensures.0, c.put_answer-at.ensures.2, s.1, c.requires)) c.put_answer-at.ensures.0 c.put_answer-at.ensures.1 in
    filled-room f (last-part v)

pub returns : goal.returns
returns c = let a = c.args in
    let p = printed c.limited-answer.result [] in
    let v = c.view.result.now in
    let s = said a.operation a.context a.text.now c.room-result.result c.limited-answer.result c.limited-answer.new.output v c.room-result.ensures c.limited-answer.ensures.0 c.limited-answer.ensures.1 c.view.ensures.1 in
    let f = filled-first p v a.output.now c.put_answer-at.new.output c.put_answer-at.result (omega (arith, length-append p v, c.put_answer-at.ensures.0, c.put_answer-at.ensures.2, s.1, c.requires)) c.put_answer-at.ensures.0 c.put_answer-at.ensures.1 in
    let all = filled-all (filled_put f (last-part v) c.put.new.output c.put.result c.put.ensures.0 c.put.ensures.1) refl in
    (all.0 ∙ ap length (sym s.0), all.1 ∙ ap (λ (l : List ℕ). over l a.output.now) (sym s.0))
