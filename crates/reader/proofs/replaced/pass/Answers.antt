-- `pass` meets its contract: what has been passed so far has no such byte. The measure is what is left of the text.
-- Assumes nothing.
use native.Mathlib.Omega.{arith}
use borrow.Author.Rules.{rules}
use Rattle.reader.specs.Replaced.{begins_at}
use Rattle.base.proofs.Firsts.{free-join}
use Rattle.reader.proofs.Scanning.{out-part}
use Rattle.reader.proofs.replaced.pass.Goals as goal

pub loop-i-init : goal.loop-i-init
loop-i-init c = (search rules, search rules, λ k h l. absurd (omega arith))

pub returns-then-has_lead : goal.returns-then-has_lead
returns-then-has_lead c = c.loop-i.invariant

pub loop-i-preserved : goal.loop-i-preserved
loop-i-preserved c =
    let a = c.args in
    let l = c.loop-i in
    let clip = c.clip-e in
    (search rules, search rules, free-join (begins_at a.leads.now a.text.now) a.from l.i clip.result l.invariant.2 (out-part a.leads.now a.text.now l.i clip.result (omega arith) (omega arith) (c.has_lead.ensures c.if-has_lead.false)))

pub returns : goal.returns
returns c = c.loop-i.invariant
