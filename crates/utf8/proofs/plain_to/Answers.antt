-- `plain_to` meets its contract: up to `k` the text is valid, and each turn adds a character. The measure is what is left of the text.
-- Assumes nothing.
use Rattle.std.proofs.Common.{◌-◌, length, take, drop}
use borrow.Author.Rules.{rules}
use Rattle.base.proofs.Filled.{lent-rest}
use Rattle.utf8.proofs.Texts.{valid-here, head-text, text-more}
use Rattle.utf8.proofs.plain_to.Goals as goal

pub loop-n-preserved : goal.loop-n-preserved
loop-n-preserved c =
    let t = c.args.text.now in
    let k = c.loop-n.k in
    let r = length t - k in
    (search rules, text-more t k r c.in-Some.n (search rules) c.loop-n.invariant.1 (head-text (take r (drop k t)) c.in-Some.n c.in-Some.ensures.0))

pub returns : goal.returns
returns c =
    let l = c.loop-n in
    (valid-here c.args.text.now l.k l.invariant.0 l.invariant.1 (rw lent-rest at c.in_default.ensures), l.invariant.0)
