-- Seven bytes give at most 42, which with what they spill have room in the buffer; its start is the encoding.
-- Assumes nothing.
use mathlib.Core.Path.{sym, ap, ◌∙◌}
use native.Mathlib.Omega.{arith}
use lib.ListN.{length}
use Rattle.rules.proofs.Growth.{encode-six}
use Rattle.rules.specs.declared.Context.TheVariants.{InHtml}
use Rattle.encode_html.proofs.fill.write_exactly.Goals as goal

pub write_bytes-n-requires : goal.write_bytes-n-requires
write_bytes-n-requires c =
    let s = c in omega (arith, encode-six (InHtml s.args.w.html) tt s.args.text.now, s.requires.w_value)

pub slice_bounds-buffer-end : goal.slice_bounds-buffer-end
slice_bounds-buffer-end c =
    let s = c in
    let p = c.write_bytes-n in
    omega (arith, p.ensures.value, p.auto.output, encode-six (InHtml s.args.w.html) tt s.args.text.now, s.requires.w_value)

pub slice_bounds-put-end : goal.slice_bounds-put-end
slice_bounds-put-end c =
    let p = c.write_bytes-n in
    p.ensures.value ∙ sym (ap length (rw (← p.ensures.value) at p.ensures.spills.0))

pub put-requires : goal.put-requires
put-requires c =
    let p = c.write_bytes-n in
    rw (p.ensures.value, p.ensures.spills.0) c.requires.text_in_bounds

pub returns : goal.returns
returns c =
    let p = c.write_bytes-n in record {
      value = rw (p.ensures.value, p.ensures.spills.0) at c.put.ensures.0;
      output_after = rw (p.ensures.value, p.ensures.spills.0) at c.put.ensures.1;
    }
