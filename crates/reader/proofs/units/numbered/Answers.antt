-- `numbered` meets its contract: the value that is read is that of a byte which is written so, or of none.
-- Assumes nothing.
use Rattle.std.proofs.Common.{◌≡◌, sym, ◌∙◌}
use Rattle.reader.proofs.Narrow.{finds-other, finds-no-other}
use Rattle.reader.proofs.units.numbered.Goals as goal

pub returns-in_err-b-clause-finds : goal.returns-in_err-b-clause-finds
returns-in_err-b-clause-finds c = rw c.from_residual.ensures (finds-no-other c.args.rest.now (λ v e. cc c.in_err-b.ensures))

pub returns-then-not-is_other-clause-finds : goal.returns-then-not-is_other-clause-finds
returns-then-not-is_other-clause-finds c =
    finds-no-other c.args.rest.now (λ v e. let b : c.in_ok-b.b ≡ v = cc c.in_ok-b.ensures in rw (← b) (sym c.is_other.ensures ∙ c.if-not-is_other.true))

pub returns-clause-finds : goal.returns-clause-finds
returns-clause-finds c = finds-other c.args.rest.now c.in_ok-b.b (sym c.in_ok-b.ensures) (sym c.is_other.ensures ∙ c.if-not-is_other.false)
