-- `unfinished` meets its contract: what is pending at the end of a part is told by its last three bytes.
-- Assumes nothing.
use borrow.Author.Rules.{rules}
use borrow.Author.Tests.{lt-leb, le-leb}
use Rattle.utf8.proofs.Parts.{pending-at}
use Rattle.utf8.proofs.unfinished.Goals as goal

pub returns-then-part-n-ge192 : goal.returns-then-part-n-ge192
returns-then-part-n-ge192 c = (rw (pending-at c.args.part.now (search rules), le-leb _ _ c.if-part-n-ge192.true), search rules)

pub returns-then-part-n-ge224 : goal.returns-then-part-n-ge224
returns-then-part-n-ge224 c =
    let a = c.args in
    (rw (pending-at a.part.now (search rules), lt-leb _ _ c.if-part-n-ge192.false, le-leb _ _ c.if-part-n-ge224.true), search rules)

pub returns-then-part-n-ge240 : goal.returns-then-part-n-ge240
returns-then-part-n-ge240 c =
    let one = c in
    let s = one.args.part.now in
    (rw (pending-at s (search rules), lt-leb _ _ one.if-part-n-ge192.false, lt-leb _ _ c.if-part-n-ge224.false, le-leb _ _ c.if-part-n-ge240.true), search rules)

pub returns : goal.returns
returns c =
    let one = c in
    let s = one.args.part.now in
    (rw (pending-at s (search rules), lt-leb _ _ one.if-part-n-ge192.false, lt-leb _ _ c.if-part-n-ge224.false, lt-leb _ _ c.if-part-n-ge240.false), search rules)
