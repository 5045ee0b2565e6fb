-- `unicode` meets its contract: the bytes that are matched are those that the rule reads.
-- Assumes nothing.
use Rattle.std.proofs.Common.{sym, ap, ◌∙◌, arith}
use Rattle.base.specs.Digits.{found_as}
use Rattle.decode_json.proofs.Told.{unicode-long}
use Rattle.decode_json.proofs.escapes.unicode.Goals as goal

pub returns-in-92-clause-value : goal.returns-in-92-clause-value
returns-in-92-clause-value c = c.four.ensures.value ∙ ap found_as (sym (unicode-long c.args.rest.now (omega arith) (omega arith) (omega arith)))
