-- `hex_row` meets its contract: the value that is read is that of a byte which the string writes in hex, or of none.
-- Assumes nothing.
use Rattle.std.proofs.Common.{◌≡◌, sym, ◌∙◌}
use Rattle.decode_strings.proofs.Strings.{finds-hexed, finds-no-hexed}
use Rattle.decode_strings.proofs.rows.hex_row.Goals as goal

pub returns-in_err-b : goal.returns-in_err-b
returns-in_err-b c = rw c.from_residual.ensures (finds-no-hexed c.args.language c.args.rest.now (λ v e. cc c.in_err-b.ensures))

pub returns-then-not-is_hexed : goal.returns-then-not-is_hexed
returns-then-not-is_hexed c =
    finds-no-hexed c.args.language c.args.rest.now
    (λ v e. let b : c.in_ok-b.b ≡ v = cc c.in_ok-b.ensures in rw (← b) (sym c.is_hexed.ensures ∙ c.if-not-is_hexed.true))

pub returns : goal.returns
returns c = finds-hexed c.args.language c.args.rest.now c.in_ok-b.b (sym c.in_ok-b.ensures) (sym c.is_hexed.ensures ∙ c.if-not-is_hexed.false)
