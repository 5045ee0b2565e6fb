-- `scripts::closing_tag` meets its contract: its tests are those of the definition, in their order.
-- Assumes nothing.
use native.Mathlib.Omega.{arith}
use borrow.Author.Rules.{rules}
use lib.ListN.{length-drop}
use Rattle.base.proofs.Filled.{lent-rest}
use Rattle.scripts.proofs.Answered.{too_long, not_valid, is_found}
use Rattle.scripts.proofs.closing_tag.Goals as goal

pub returns-then-text-gt-TEXT_LIMIT : goal.returns-then-text-gt-TEXT_LIMIT
returns-then-text-gt-TEXT_LIMIT c = too_long c.args.text.now c.if-text-gt-TEXT_LIMIT.true

pub status-requires : goal.status-requires
status-requires c = rw (lent-rest, length-drop) (omega (arith, c.if-valid-text.true))

pub returns-then-valid-text : goal.returns-then-valid-text
returns-then-valid-text c =
    let t = c.args.text.now in
    let v = c.valid_to-valid in
    not_valid t (search rules) v.result c.status.result v.ensures.0 (search rules) c.status.ensures

pub returns : goal.returns
returns c =
    let t = c.args.text.now in
    let v = c.valid_to-valid in
    is_found t (search rules) v.result c.answer.result _ v.ensures.0 (search rules) c.find_end.ensures c.answer.ensures
