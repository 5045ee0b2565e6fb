-- `operation_of` meets its contract: the first three numbers by computation, and every other names the last operation.
-- Assumes nothing.
use mathlib.Core.Path.{◌≡◌, refl}
use mathlib.Core.List.{[]}
use Prim.Native.Nat.{ℕ, zero, suc}
use lib.ListN.{get_or}
use Rattle.rules.specs.Contexts.{label, operation_names}
use Rattle.rules.specs.declared.Operation.TheVariants.{Browse}
use Rattle.lintelrye.proofs.labels.operation_of.Goals as goal

last : (n : ℕ) → (n ≡ 0 → ⊥) → (n ≡ 1 → ⊥) → (n ≡ 2 → ⊥) → Browse ≡ (get_or operation_names n (label [] Browse)).names
last zero a b d = absurd (a refl)
last (suc zero) a b d = absurd (b refl)
last (suc (suc zero)) a b d = absurd (d refl)
last (suc (suc (suc zero))) a b d = refl
last (suc (suc (suc (suc n)))) a b d = refl

pub returns-in_default : goal.returns-in_default
returns-in_default c = last c.args.number c.in_default.in_default-own.rest.0.0.1 c.in_default.in_default-own.rest.0.1 c.in_default.in_default-own.rest.1
