-- `read` meets its contract: what check refuses, take refuses alike (`check-refused`).
-- Assumes nothing.
use mathlib.Core.Bool.{false}
use mathlib.Core.Path.{ap, ◌∙◌}
use Rattle.rules.specs.Contexts.{context_of}
use Rattle.rules.specs.Refusals.{refusal}
use Rattle.rules.specs.declared.Checked.{Checked}
use Rattle.rules.proofs.Check.{check-refused}
use Rattle.requests.proofs.read.Goals as goal

pub returns-then-checked-ne-PASSED : goal.returns-then-checked-ne-PASSED
returns-then-checked-ne-PASSED c =
    let a = c.args in
    let k = c.check-checked in
    let l = check-refused (context_of a.context) false a.text.now a.output.now (λ e. c.if-checked-ne-PASSED.true (ap (λ (k : Checked). k.status) k.ensures ∙ e)) in
    (c.refusal.ensures ∙ ap (λ (k : Checked). refusal k.status k.length k.place) k.ensures ∙ l.0, l.1)
