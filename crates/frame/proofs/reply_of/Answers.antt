-- `reply_of` meets its contract: what fits is cast as it is.
-- Assumes nothing.
use mathlib.Core.Path.{sym}
use Rattle.frame.proofs.reply_of.Goals as goal

pub returns : goal.returns
returns c =
    let a = c.args.answer in
    λ i. record { status = a.status; length = a.length; same = sym c.requires.1 i; replaced = a.replaced; place = a.place; left = a.left; reason = a.reason }
