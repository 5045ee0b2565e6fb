-- `json_hex` meets its contract: the value that is read is that of a byte which is written so, or of none.
-- Assumes nothing.
use Rattle.std.proofs.Common.{◌≡◌, sym, ◌∙◌}
use Rattle.reader.proofs.JsonRows.{json-hexed, json-unhexed}
use Rattle.reader.proofs.units.json_hex.Goals as goal

pub returns-in_err-b : goal.returns-in_err-b
returns-in_err-b c = rw c.from_residual.ensures (json-unhexed c.args.rest.now (λ v e. cc c.in_err-b.ensures))

pub returns-then-not-is_hexed : goal.returns-then-not-is_hexed
returns-then-not-is_hexed c =
    json-unhexed c.args.rest.now (λ v e. let b : c.in_ok-b.b ≡ v = cc c.in_ok-b.ensures in rw (← b) (sym c.is_hexed.ensures ∙ c.if-not-is_hexed.true))

pub returns : goal.returns
returns c = json-hexed c.args.rest.now c.in_ok-b.b (sym c.in_ok-b.ensures) (sym c.is_hexed.ensures ∙ c.if-not-is_hexed.false)
