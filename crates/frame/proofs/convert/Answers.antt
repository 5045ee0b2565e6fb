-- `convert` meets its contract: what has been tested on the way to each return settles the row of the table (Rows), and with it answer and output. The
-- settled job goes through the text as the job does, so what is judged and written by it is what the job asks for.
-- Assumes nothing.
use mathlib.Core.Path.{◌≡◌, ap, ◌∙◌}
use Rattle.std.proofs.lemmas.Result.{err_from_is_err_and}
use Rattle.rules.specs.Moves.{through}
use Rattle.jobs.specs.Jobs.{rule_by, Seen}
use Rattle.frame.specs.Refused.{refused}
use Rattle.frame.proofs.Rows.{long-row, utf8-row, form-row, room_row, written_row}
use Rattle.frame.proofs.convert.Goals as goal
use Rattle.frame.proofs.convert.Goals.{After-settled-way}

-- The settled job does to the text what the job does, and the glance told what it needs.
settles : (c : After-settled-way) → let a = c.args in
    (through (rule_by c.settled-way.result) a.text.now ≡ through (rule_by a.job) a.text.now) × Seen c.settled-way.result c.glance-scan.result a.text.now
settles c = c.settled-way.ensures c.args.text.now c.glance-scan.ensures

pub returns-in_err-within_limit : goal.returns-in_err-within_limit
returns-in_err-within_limit c =
    let a = c.args in
    let p = err_from_is_err_and c.from_residual.result c.from_residual.ensures.1 in
    let e = c.in_err-within_limit.ensures in
    rw (p.1, p.2, e.0) (long-row (rule_by a.job) a.borrows a.text.now a.output.now e.1)

pub valid-requires : goal.valid-requires
valid-requires c = c.glance-scan.ensures.0

pub returns-in_err-valid : goal.returns-in_err-valid
returns-in_err-valid c =
    let a = c.args in
    let p = err_from_is_err_and c.from_residual-in_err-valid.result c.from_residual-in_err-valid.ensures.1 in
    let e = c.in_err-valid.ensures in
    rw (p.1, p.2, e.0) (utf8-row (rule_by a.job) a.borrows a.text.now a.output.now c.in_ok-within_limit.ensures e.1)

pub judge-requires : goal.judge-requires
judge-requires c = (c.in_ok-within_limit.ensures, c.in_ok-valid.ensures, (settles (goal.at.judge-requires c).After-settled-way).1)

pub unread-requires : goal.unread-requires
unread-requires c =
    let e = c.in-Err-NotAForm in
    let way = (settles (goal.at.unread-requires c).After-settled-way).0 in
    let j = rw (e.field-0-is, way) at e.ensures in
    rw e.field-0-is (j.0, j.1)

pub write-done-requires : goal.write-done-requires
write-done-requires c =
    let e = c.in-Ok-Written in
    let j = rw e.field-0-is at e.ensures in
    record { text_len_bound = (c.in_ok-within_limit.ensures, c.in_ok-valid.ensures, (settles (goal.at.write-done-requires c).After-settled-way).1); text_value = (j.0, j.2) }

pub returns-in-Err-NotAForm : goal.returns-in-Err-NotAForm
returns-in-Err-NotAForm c =
    let a = c.args in
    let e = c.in-Err-NotAForm in
    let way = (settles (goal.at.returns-in-Err-NotAForm c).After-settled-way).0 in
    let j = rw (e.field-0-is, way) at e.ensures in
    let u = rw e.field-0-is at c.unread.ensures in
    let l = form-row (rule_by a.job) a.borrows a.text.now a.output.now c.in_ok-within_limit.ensures c.in_ok-valid.ensures e.place j.0 j.1 in
    (ap refused u ∙ l.0, l.1)

pub returns-in-Ok-Same : goal.returns-in-Ok-Same
returns-in-Ok-Same c =
    let a = c.args in
    let e = c.in-Ok-Same in
    let way = (settles (goal.at.returns-in-Ok-Same c).After-settled-way).0 in
    let j = rw (e.field-0-is, way) at e.ensures in
    let u = rw e.field-0-is at c.unchanged.ensures in
    u (rule_by a.job) (record { short = c.in_ok-within_limit.ensures; valid = c.in_ok-valid.ensures; whole = j.0; none = j.1; first = j.2 })

pub returns-in-Err-NoRoom : goal.returns-in-Err-NoRoom
returns-in-Err-NoRoom c =
    let a = c.args in
    let e = c.in-Err-NoRoom in
    let way = (settles (goal.at.returns-in-Err-NoRoom c).After-settled-way).0 in
    let j = rw (e.field-0-is, way) at e.ensures in
    rw e.field-0-is (room_row (rule_by a.job) a.borrows a.text.now a.output.now c.in_ok-within_limit.ensures c.in_ok-valid.ensures j.0 j.1 e.length j.2 j.3)

pub returns-in-Ok-Written : goal.returns-in-Ok-Written
returns-in-Ok-Written c =
    let a = c.args in
    let e = c.in-Ok-Written in
    let way = (settles (goal.at.returns-in-Ok-Written c).After-settled-way).0 in
    let j = rw (e.field-0-is, way) at e.ensures in
    let done = rw way at c.write-done.ensures.fact in
    let over = rw way at c.write-done.ensures.output_after in
    let l = written_row (rule_by a.job) a.borrows a.text.now a.output.now c.in_ok-within_limit.ensures c.in_ok-valid.ensures j.0 j.1 c.write-done.result done j.2 in
    (c.passed.ensures ∙ l.0, over ∙ l.1)
