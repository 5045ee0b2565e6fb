-- `valid` meets its contract: past the valid bytes the rest of the text is cut short, or wrong.
-- Assumes nothing.
use mathlib.Core.Bool.{Bool, cond}
use mathlib.Core.Path.{sym, ap, ◌∙◌}
use Rattle.jobs.proofs.Found.{all_valid}
use Rattle.base.proofs.Filled.{lent-rest}
use Rattle.frame.specs.declared.refusals.Refusal.TheVariants.{CutShort, NotUtf8}
use Rattle.frame.proofs.valid.Goals as goal

pub returns-then-text-end : goal.returns-then-text-end
returns-then-text-end c = all_valid c.args.text.now c.valid_to-end.result c.valid_to-end.ensures c.if-text-end.true

pub returns-then-is_cut : goal.returns-then-is_cut
returns-then-is_cut c =
    let v = c.valid_to-end.result in
    let e = sym c.if-is_cut.true ∙ (rw lent-rest at c.is_cut.ensures) in
    rw (← c.valid_to-end.ensures) (ap (λ (b : Bool). cond b (CutShort v) (NotUtf8 v)) e, c.if-text-end.false)

pub returns : goal.returns
returns c =
    let v = c.valid_to-end.result in
    let e = sym c.if-is_cut.false ∙ (rw lent-rest at c.is_cut.ensures) in
    rw (← c.valid_to-end.ensures) (ap (λ (b : Bool). cond b (CutShort v) (NotUtf8 v)) e, c.if-text-end.false)
