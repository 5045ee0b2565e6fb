-- `write` meets its contract: what each crate writes is the result, and what it returns is what the moves tell (Found), job by job.
-- Assumes nothing.
use Rattle.rules.specs.declared.Context.TheVariants.{InHtml}
use Rattle.jobs.specs.Jobs.{rule_by}
use Rattle.jobs.proofs.Found.{encode-found, raw-found, raw-longer, html-counts}
use Rattle.jobs.proofs.work.write.Goals as goal

pub write-length-requires : goal.write-length-requires
unfolding rule_by
write-length-requires c =
    let s = c in
    record {
      grow_len = (html-counts s.args.scan s.args.text.now c.in-EncodeHtml.is s.requires.text_len_bound.2).0;
      text_in_bounds = rw c.in-EncodeHtml.is at s.requires.text_value.1;
    }

pub by_ones-requires : goal.by_ones-requires
by_ones-requires c = raw-longer c.args.text.now _ c.write-in-EncodeRaw.ensures.0

pub returns-in-EncodeHtml : goal.returns-in-EncodeHtml
unfolding rule_by
returns-in-EncodeHtml c =
    let s = c in
    let write = c.write-length in
    let g = html-counts s.args.scan s.args.text.now c.in-EncodeHtml.is s.requires.text_len_bound.2 in
    rw c.in-EncodeHtml.is (record { fact = encode-found (InHtml c.in-EncodeHtml.h) s.args.text.now write.ensures.value g.1 c.whole.ensures; output_after = write.ensures.output_after })

pub returns-in-EncodeRaw : goal.returns-in-EncodeRaw
unfolding rule_by
returns-in-EncodeRaw c =
    let write4 = c.write-in-EncodeRaw in
    rw c.in-EncodeRaw.is (record { fact = raw-found c.args.text.now write4.ensures.0 c.by_ones.ensures; output_after = write4.ensures.1 })
