-- `replied` meets its contract: the numbers of every answer fit a reply (Replies).
-- Assumes nothing.
use mathlib.Core.Path.{sym, ◌∙◌, subst}
use Rattle.rules.specs.Contexts.{context_of}
use Rattle.rules.specs.Operations.{rule_of}
use Rattle.frame.specs.Replies.{Small}
use Rattle.frame.proofs.Replies.{answer-small, answered}
use Rattle.frame.proofs.replied.Goals as goal

pub reply_of-requires : goal.reply_of-requires
reply_of-requires c =
    let a = c.args in
    subst Small (sym (answered c.make.result c.unwrap_or_else.result c.unwrap_or_else.ensures ∙ c.make.ensures.0)) (answer-small (rule_of a.operation (context_of a.context)) a.borrows a.text.now a.output.now)

pub returns : goal.returns
returns c = (c.reply_of.ensures ∙ answered c.make.result c.unwrap_or_else.result c.unwrap_or_else.ensures ∙ c.make.ensures.0, c.make.ensures.1)
