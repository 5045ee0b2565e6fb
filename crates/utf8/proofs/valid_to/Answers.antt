-- `valid_to` meets its contract: up to `i` the text is valid. The measure is what is left of it.
-- Assumes nothing.
use borrow.Author.Rules.{rules}
use Rattle.utf8.proofs.Texts.{no_text, valid-here, end-no-char}
use Rattle.utf8.proofs.valid_to.Goals as goal

pub loop-i-init : goal.loop-i-init
loop-i-init c = (search rules, no_text)

pub ahead-n-requires : goal.ahead-n-requires
ahead-n-requires c = (search rules, c.loop-i.invariant.1)

pub plain_to-requires : goal.plain_to-requires
plain_to-requires c = (search rules, c.loop-i.invariant.1)

pub returns-then-n-i : goal.returns-then-n-i
returns-then-n-i c = c.plain_to.ensures

pub loop-i-preserved : goal.loop-i-preserved
loop-i-preserved c = let h = c.ahead-n.ensures in (h.1, h.2)

pub returns : goal.returns
returns c =
    let t = c.args.text.now in
    let l = c.loop-i in
    (valid-here t l.i (search rules) l.invariant.1 (end-no-char t l.i c.loop-i-test.false), search rules)
