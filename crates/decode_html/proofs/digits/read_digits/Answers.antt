-- Where the run of digits is shorter than the bytes, one of them is no digit.
-- Assumes nothing.
use borrow.Author.Rules.{rules}
use mathlib.Core.Path.{sym, ap, ◌∙◌}
use Rattle.decode_html.specs.Digits.{digit_by, capped}
use Rattle.decode_html.proofs.Ceiling.{number-none, number-some, why-none, why-undigit}
use Rattle.decode_html.proofs.Runs.{run-cut, run-whole}
use Rattle.decode_html.proofs.digits.read_digits.Goals as goal

pub returns-then-digits-eq0 : goal.returns-then-digits-eq0
returns-then-digits-eq0 c =
    let a = c.args in
    (sym (number-none (digit_by a.base) a.base a.digits.now c.if-digits-eq0.true), why-none (digit_by a.base) a.base a.digits.now c.if-digits-eq0.true)

pub returns-then-run-digits : goal.returns-then-run-digits
returns-then-run-digits c =
    let a = c.args in
    let some = c.if-digits-eq0.false in
    let cut = run-cut c.read_run-run.ensures (search rules) in
    (sym (number-some (digit_by a.base) a.base a.digits.now some ∙ cut), why-undigit (digit_by a.base) a.base a.digits.now some cut)

pub returns : goal.returns
returns c =
    let a = c.args in
    sym (ap capped (number-some (digit_by a.base) a.base a.digits.now c.if-digits-eq0.false) ∙ run-whole c.read_run-run.ensures (search rules))
