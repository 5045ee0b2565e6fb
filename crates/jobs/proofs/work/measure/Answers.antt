-- `measure` meets its contract: what each crate measures is what the moves tell (Found), job by job.
-- Assumes nothing.
use native.Mathlib.Omega.{arith}
use Rattle.rules.proofs.Growth.{encode-six}
use Rattle.rules.specs.declared.Context.TheVariants.{InHtml}
use Rattle.jobs.specs.Jobs.{rule_by}
use Rattle.jobs.proofs.Found.{encode-found, raw-found, raw-longer, html-counts}
use Rattle.jobs.proofs.work.measure.Goals as goal

pub overflow_add-text : goal.overflow_add-text
overflow_add-text c =
    let s = c in
    omega (arith, s.requires.0, (html-counts s.args.scan s.args.text.now c.in-EncodeHtml.is s.requires.2).0, encode-six (InHtml c.in-EncodeHtml.field-0) tt s.args.text.now)

pub by_ones-requires : goal.by_ones-requires
by_ones-requires c = raw-longer c.args.text.now c.measure-in-EncodeRaw.result c.measure-in-EncodeRaw.ensures

pub returns-in-EncodeHtml : goal.returns-in-EncodeHtml
unfolding rule_by
returns-in-EncodeHtml c =
    let s = c in
    let g = html-counts s.args.scan s.args.text.now c.in-EncodeHtml.is s.requires.2 in
    rw c.in-EncodeHtml.is (encode-found (InHtml c.in-EncodeHtml.field-0) s.args.text.now g.0 g.1 c.whole.ensures)

pub returns-in-EncodeRaw : goal.returns-in-EncodeRaw
unfolding rule_by
returns-in-EncodeRaw c =
    rw c.in-EncodeRaw.is (raw-found c.args.text.now c.measure-in-EncodeRaw.ensures c.by_ones.ensures)
