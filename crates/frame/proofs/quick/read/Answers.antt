-- `read` meets its contract: each outcome of the quick reader settles a row of the table (Outcomes), or nothing is done.
-- Assumes nothing.
use mathlib.Core.Path.{◌∙◌}
use Rattle.std.proofs.lemmas.Result.{err_from_is_err_and}
use Rattle.jobs.specs.Jobs.{rule_by}
use Rattle.frame.proofs.Outcomes.{leaves_at_lem, quick-same, quick-room, quick-written}
use Rattle.frame.proofs.quick.read.Goals as goal

pub returns-in-Untried : goal.returns-in-Untried
returns-in-Untried c = rw c.in-Untried.is at c.read.ensures

pub returns-in_ok-answer-in-Same : goal.returns-in_ok-answer-in-Same
returns-in_ok-answer-in-Same c =
    let a = c.args in
    let t = a.text.now in
    let s = rw c.in-Same.is at c.read.ensures in
    leaves_at_lem (rule_by a.job) a.borrows t s.2 (c.in_ok-answer-in-Same.ensures (rule_by a.job) (quick-same a.job c.in-Read.context c.in-Read.is t s.0 s.1))

pub returns-in_err-answer-in-Same : goal.returns-in_err-answer-in-Same
returns-in_err-answer-in-Same c =
    let a = c.args in
    let t = a.text.now in
    let s = rw c.in-Same.is at c.read.ensures in
    let p = err_from_is_err_and c.from_residual.result c.from_residual.ensures.1 in
    rw (p.1, p.2)
    (leaves_at_lem (rule_by a.job) a.borrows t s.2 (c.in_err-answer-in-Same.ensures (rule_by a.job) (quick-same a.job c.in-Read.context c.in-Read.is t s.0 s.1)))

pub returns-in-NoRoom : goal.returns-in-NoRoom
returns-in-NoRoom c =
    let a = c.args in
    let s = rw c.in-NoRoom.is at c.read.ensures in
    let l = quick-room a.job c.in-Read.context c.in-Read.is a.text.now s.0 s.1 a.borrows a.output.now c.in-NoRoom.length s.2 s.3 in
    (l.0, s.4 ∙ l.1)

pub returns-in-Written : goal.returns-in-Written
returns-in-Written c =
    let a = c.args in
    let s = rw c.in-Written.is at c.read.ensures in
    let l = quick-written a.job c.in-Read.context c.in-Read.is a.text.now s.0 s.1 a.borrows a.output.now c.in-Written.length c.in-Written.replaced s.2 s.3 in
    (c.passed.ensures ∙ l.0, s.4 ∙ l.1)
