-- `lead_ones` meets its contract: computed for each first byte.
-- Assumes nothing.
use borrow.Author.Rules.{rules}
use lib.Count.{leading_le}
use mir.Facts.{Fits-le, Fits-lit}
use Rattle.utf8.proofs.Chars.{ones-size, lead-size}
use Rattle.utf8.proofs.lead_ones.Goals as goal

pub overflow_cast-result : goal.overflow_cast-result
overflow_cast-result c = Fits-le (leading_le 8 _) (Fits-lit tt)

pub returns : goal.returns
returns c =
    let a = c.args.a in
    let e = ones-size a (search rules) (search rules) in
    let h = lead-size a (search rules) in
    (e, rw e h.0, rw e h.1)
