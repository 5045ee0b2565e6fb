-- `decode_html::entity::find_number` meets its contract: the body begins with a byte that does not end it, so its end is looked for from the next byte on.
-- Assumes nothing.
use Rattle.std.proofs.lemmas.Option.{MatchOption-at_none, MatchOption-at_some}
use Rattle.std.proofs.lemmas.Result.{err_from_is_err_and}
use Rattle.rules.specs.declared.Reason.TheVariants.{NoEnd}
use Rattle.decode_html.proofs.Readings.{refused, begun-nobody, number-gives, number-stays}
use Rattle.decode_html.proofs.entity.find_number.Goals as goal

pub returns-in_err-end : goal.returns-in_err-end
returns-in_err-end c =
    let a = c.args in
    let h = c.in_err-end.ensures in
    let e = refused c.body_end.result c.in_err-end.field-0.0 NoEnd h.value h.ok_part in
    let p = err_from_is_err_and c.from_residual.result c.from_residual.ensures.1 in
    rw (p.1, p.2, e) (begun-nobody a.text.now a.start c.requires.0 c.requires.1 (MatchOption-at_none _ _ h.ok_part c.body_end.ensures))

pub returns-in_err-value : goal.returns-in_err-value
returns-in_err-value c =
    let a = c.args in
    let end = MatchOption-at_some _ _ _ c.in_ok-end.ensures.ok_part c.body_end.ensures in
    let p = err_from_is_err_and c.from_residual-in_err-value.result c.from_residual-in_err-value.ensures.1 in
    rw (p.1, p.2) (number-stays a.text.now a.start c.requires.0 c.requires.1 c.in_ok-end.end end c.requires.2 c.in_err-value.field-0.0 c.in_err-value.ensures)

pub returns : goal.returns
returns c =
    let a = c.args in
    let end = MatchOption-at_some _ _ _ c.in_ok-end.ensures.ok_part c.body_end.ensures in
    number-gives a.text.now a.start c.requires.0 c.requires.1 c.in_ok-end.end end c.requires.2 c.in_ok-value.value c.in_ok-value.ensures
