-- `names::find_in_group` meets its contract: a name that is not empty is its first letter and the rest.
-- Assumes nothing.
use mathlib.Core.List.{List}
use mathlib.Core.Path.{sym, ap, ◌∙◌}
use Prim.Native.Nat.{ℕ}
use Rattle.rules.specs.Names.{names}
use Rattle.rules.specs.References.{lookup}
use Rattle.names.proofs.Letters.{unnamed}
use Rattle.names.proofs.find_in_group.Goals as goal

pub returns-in_err-first : goal.returns-in_err-first
returns-in_err-first c = rw c.from_residual.ensures (unnamed c.args.name.now c.in_err-first.ensures.cases)

pub returns : goal.returns
returns c = c.find_by_letter.ensures ∙ ap (λ (name : List ℕ). lookup names name) (sym c.in_ok-first.ensures.cases.0)
