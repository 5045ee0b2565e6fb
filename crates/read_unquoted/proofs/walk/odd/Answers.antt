-- `odd` meets its contract: where the lesser is 0, one of the two is, and the byte is within the letters or the digits (Letters).
-- Assumes nothing.
use Rattle.std.proofs.Common.{refl, arith}
use Rattle.read_unquoted.proofs.Letters.{lesser-none, near-letters, near-digits}
use Rattle.read_unquoted.proofs.walk.odd.Goals as goal

pub returns : goal.returns
returns c = λ z.
    let b = c.args.b in
    lesser-none c.saturating_sub-letters.result c.saturating_sub-digits.result (omega (arith, z, c.min.ensures))
    (λ e. near-letters b _ c.ranges.b.fits refl (omega (arith, e, c.saturating_sub-letters.ensures)))
    (λ e. near-digits b _ c.ranges.b.fits refl (omega (arith, e, c.saturating_sub-digits.ensures)))
