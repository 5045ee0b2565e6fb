-- `refuse` meets its contract: the lines of the refusal, and no text.
-- Assumes nothing.
use mathlib.Core.Path.{subst}
use mathlib.Core.List.{[]}
use Rattle.rules.specs.Program.{printed}
use Rattle.rules.specs.declared.Answer.{Answer}
use Rattle.requests.specs.Asked.{Prints}
use Rattle.requests.proofs.refuse.Goals as goal

pub returns : goal.returns
returns c =
    let p = c.put_answer in
    subst (λ (a : Answer). Prints (printed a []) p.result c.args.output.now p.new.output)
    c.from.ensures (p.ensures.0, p.ensures.1)
