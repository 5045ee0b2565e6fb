-- `make` meets its contract: no rule, a plain text (Plain), a text that has nothing for the job, a quick answer, or the call of the job by its rule.
-- Assumes nothing.
use mathlib.Core.Path.{◌≡◌, sym, ap, ◌∙◌}
use mathlib.Core.Option.{some}
use Rattle.std.specs.Result.{result_ok}
use Rattle.std.proofs.lemmas.Result.{err_from_is_err_and}
use Rattle.rules.specs.Operations.{rule_of}
use Rattle.rules.specs.Contexts.{context_of}
use Rattle.jobs.specs.Jobs.{rule_by, rule_at}
use Rattle.frame.proofs.Plain.{plain-same}
use Rattle.frame.proofs.Outcomes.{leaves_at_lem}
use Rattle.frame.proofs.Rows.{no-job, bad-row, by-rule}
use Rattle.frame.proofs.make.Goals as goal
use Rattle.frame.proofs.make.Goals.{In_ok-job}

-- The rule of the job is that of the operation in the context.
ruled : (c : In_ok-job) → some (rule_by c.in_ok-job.job) ≡ rule_of c.args.operation (context_of c.args.context)
ruled c = sym (ap rule_at (c.ok_or.ensures.ok_part ∙ ap result_ok c.in_ok-job.was)) ∙ c.job_of.ensures

pub returns-in_err-job : goal.returns-in_err-job
returns-in_err-job c =
    let a = c.args in
    let p = err_from_is_err_and c.from_residual.result c.from_residual.ensures.1 in
    let n = no-job c.job_of.result c.ok_or.ensures.value c.in_err-job.was in
    rw (p.1, p.2, n.1) (bad-row (rule_of a.operation (context_of a.context)) a.borrows a.text.now a.output.now (sym c.job_of.ensures ∙ ap rule_at n.0))

pub returns-then-is_plain : goal.returns-then-is_plain
returns-then-is_plain c =
    let a = c.args in
    let job = c.in_ok-job.job in
    let is = ruled (goal.at.returns-then-is_plain c).In_ok-job in
    let p = c.is_plain.ensures c.if-is_plain.true in
    by-rule (rule_by job) a.borrows a.text.now a.output.now is (c.unchanged.ensures (rule_by job) (plain-same a.operation a.context job a.text.now is p.0 p.1))

pub returns-then-has_nothing : goal.returns-then-has_nothing
returns-then-has_nothing c =
    let a = c.args in
    let job = c.in_ok-job.job in
    by-rule (rule_by job) a.borrows a.text.now a.output.now (ruled (goal.at.returns-then-has_nothing c).In_ok-job)
    (c.unchanged-then-has_nothing.ensures (rule_by job) (c.has_nothing.ensures c.if-has_nothing.true))

pub returns-in_err-answer : goal.returns-in_err-answer
returns-in_err-answer c =
    let a = c.args in
    let p = err_from_is_err_and c.from_residual-in_err-answer.result c.from_residual-in_err-answer.ensures.1 in
    rw (p.1, p.2) (by-rule (rule_by c.in_ok-job.job) a.borrows a.text.now a.output.now (ruled (goal.at.returns-in_err-answer c).In_ok-job) c.in_err-answer.ensures)

pub returns-in-Some : goal.returns-in-Some
returns-in-Some c =
    let a = c.args in
    by-rule (rule_by c.in_ok-job.job) a.borrows a.text.now a.output.now (ruled (goal.at.returns-in-Some c).In_ok-job) (rw c.in-Some.is at c.in_ok-answer.ensures)

pub returns : goal.returns
returns c =
    let a = c.args in
    let rule = rule_by c.in_ok-job.job in
    by-rule rule a.borrows a.text.now a.output.now (ruled (goal.at.returns c).In_ok-job)
    (leaves_at_lem rule a.borrows a.text.now (rw c.in_default.is at c.in_ok-answer.ensures) c.convert.ensures)
