-- `outside` meets its contract: encode has a rule in every context there is.
-- Assumes nothing.
use mathlib.Core.Path.{◌≡◌, refl, sym, ap, ◌∙◌}
use Rattle.rules.specs.Operations.{rule_of}
use Rattle.rules.specs.Refusals.{refusal}
use Rattle.rules.specs.declared.AnyContext.{AnyContext}
use Rattle.rules.specs.declared.AnyContext.TheVariants.{Units, ScriptRaw, Unknown}
use Rattle.rules.specs.declared.Operation.TheVariants.{Encode}
use Rattle.page.specs.Turns.{outside_at}
use Rattle.page.proofs.outside.Goals as goal

known : (x : AnyContext) → (x ≡ Unknown → ⊥) → refusal 8 0 0 ≡ outside_at (rule_of Encode x)
known (Units c) n = refl
known ScriptRaw n = refl
known Unknown n = absurd (n refl)

pub returns-in_default : goal.returns-in_default
returns-in_default c =
    let x = c.context_of in
    known x.result c.in_default.not-Unknown ∙ ap (λ (x : AnyContext). outside_at (rule_of Encode x)) x.ensures

pub returns-in-Unknown : goal.returns-in-Unknown
returns-in-Unknown c = ap (λ (x : AnyContext). outside_at (rule_of Encode x)) (sym c.in-Unknown.is ∙ c.context_of.ensures)
