-- `scripts::find_end` meets its contract: what the rest of the text gives from the mode that was reached is what the whole gives. The measure is what is left of the text.
-- Assumes nothing.
use mathlib.Core.Path.{sym, ◌∙◌}
use borrow.Author.Rules.{rules}
use Rattle.scripts.proofs.Ends.{ends-here, turns-here, no_more, from_start}
use Rattle.scripts.proofs.find_end.Goals as goal

pub loop-i-init : goal.loop-i-init
loop-i-init c = (search rules, from_start c.args.text.now)

pub returns-then-e-text : goal.returns-then-e-text
returns-then-e-text c =
    let t = c.args.text.now in
    let l = c.loop-i in
    let n = c.next_mark-e in
    sym (no_more t l.mode n.result (search rules)) ∙ sym n.ensures.same ∙ l.invariant.1

pub returns-then-is_end : goal.returns-then-is_end
returns-then-is_end c =
    let t = c.args.text.now in
    let l = c.loop-i in
    let n = c.next_mark-e in
    sym (ends-here t l.mode n.result (search rules) c.is_end.result c.if-is_end.true c.is_end.ensures) ∙ sym n.ensures.same ∙ l.invariant.1

pub loop-i-preserved : goal.loop-i-preserved
loop-i-preserved c =
    let t = c.args.text.now in
    let l = c.loop-i in
    let n = c.next_mark-e in
    let e = c.is_end in (
      search rules,
      sym (turns-here t l.mode n.result (search rules) e.result c.next_mode-mode.result c.if-is_end.false e.ensures c.next_mode-mode.ensures)
          ∙ sym n.ensures.same
          ∙ l.invariant.1,
    )

pub returns : goal.returns
returns c = let l = c.loop-i in sym (no_more c.args.text.now l.mode l.i c.loop-i-test.false) ∙ l.invariant.1
