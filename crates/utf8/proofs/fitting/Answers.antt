-- `fitting` meets its contract: a part whose bytes fit is a text but for the bytes of an unfinished character.
-- Assumes nothing.
use borrow.Author.Rules.{rules}
use Rattle.utf8.proofs.Texts.{no_text}
use Rattle.utf8.proofs.Parts.{fit-text}
use Rattle.utf8.proofs.fitting.Goals as goal

pub returns-then-misfits-eq0 : goal.returns-then-misfits-eq0
returns-then-misfits-eq0 c =
    let m = c in
    (search rules, fit-text m.args.part.now c.unfinished.result c.unfinished.ensures.0 (m.misfits.ensures c.if-misfits-eq0.true))

pub returns : goal.returns
returns c = (search rules, no_text)
