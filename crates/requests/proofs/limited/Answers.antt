-- `limited` meets its contract: a text within the limit goes to the call of its operation, and of a longer one the empty text tells all.
-- Assumes nothing.
use mathlib.Core.Path.{ap, ◌∙◌}
use lib.ListN.{length}
use Rattle.rules.specs.Refusals.{Case, moves_of, answer_at, out_at}
use Rattle.rules.specs.Operations.{rule_of}
use Rattle.rules.specs.Contexts.{context_of}
use Rattle.requests.proofs.Limit.{limit-kept, limit-passed}
use Rattle.requests.specs.Asked.{refused}
use Rattle.requests.proofs.limited.Goals as goal

pub returns-then-text-gt-TEXT_LIMIT : goal.returns-then-text-gt-TEXT_LIMIT
returns-then-text-gt-TEXT_LIMIT c = let a = c.args in let l = limit-passed (rule_of a.operation (context_of a.context)) a.text.now a.output.now c.if-text-gt-TEXT_LIMIT.true in (c.too_long.ensures ∙ ap refused c.copying.ensures.0 ∙ l.0, c.copying.ensures.1 ∙ l.1)

pub returns : goal.returns
returns c = let a = c.args in let by = rule_of a.operation (context_of a.context) in let l = limit-kept by a.text.now (length a.output.now) c.if-text-gt-TEXT_LIMIT.false in (c.copying-2.ensures.0 ∙ ap (λ (row : Case). answer_at row a.text.now (moves_of by a.text.now)) l, c.copying-2.ensures.1 ∙ ap (λ (row : Case). out_at row (moves_of by a.text.now) a.output.now) l)
