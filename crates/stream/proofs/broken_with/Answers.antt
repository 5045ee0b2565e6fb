-- `broken_with` meets its contract: ASCII is valid to its end.
-- Assumes nothing.
use mathlib.Core.Path.{refl, sym}
use lib.ListN.{length}
use Rattle.utf8.proofs.Texts.{ascii-valid}
use Rattle.stream.proofs.Rows.{sound-whole}
use Rattle.stream.proofs.broken_with.Goals as goal

pub returns-then-clear : goal.returns-then-clear
returns-then-clear c =
    let s = c in
    let t = s.args.text.now in
    sound-whole t (length t) (sym (ascii-valid t (λ k h. (s.requires c.if-clear.true k h).0))) refl

pub returns : goal.returns
returns c = c.broken_at.ensures
