-- `glance` meets its contract: the look of HTML tells both; of another job nothing is counted.
-- Assumes nothing.
use mathlib.Core.Path.{sym, ◌∙◌}
use native.Mathlib.Omega.{arith}
use Rattle.jobs.proofs.work.glance.Goals as goal

pub returns-in-None : goal.returns-in-None
returns-in-None c = (λ z k h. omega (arith, z), rw (sym c.counted_for.ensures ∙ c.in-None.is) tt)

pub returns-in-Some : goal.returns-in-Some
returns-in-Some c =
    let e = sym c.counted_for.ensures ∙ c.in-Some.is in
    (c.survey.ensures.k_bound, rw e (c.survey.ensures.grow_len.0, c.survey.ensures.grow_len.2))
