-- `status` meets its contract: it makes the call of `decoding`.
-- Assumes nothing.
use mathlib.Core.Path.{sym, ap, ◌∙◌}
use Prim.Native.Nat.{ℕ}
use Rattle.rules.specs.Contexts.{context_of}
use Rattle.rules.specs.declared.Answer.{Answer}
use Rattle.rules.specs.declared.Operation.TheVariants.{Decode}
use Rattle.requests.specs.Asked.{asked, answer_to}
use Rattle.reports.proofs.status.Goals as goal

pub returns : goal.returns
unfolding context_of
returns c =
    let t = c.args.text.now in
    ap (λ (a : Answer). a.status) c.limited-answer.ensures.0 ∙ ap (λ (n : ℕ). (answer_to (asked Decode 1 t n)).status) (sym c.room-result.ensures)
