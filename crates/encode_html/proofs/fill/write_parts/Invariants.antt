-- What is written so far, with what the rest of the text gives, is the encoding of the whole.
-- Assumes nothing.
use Rattle.std.specs.Slice.Iter.{chunks_rest}
use Rattle.rules.specs.Operations.{encode_of}
use Rattle.rules.specs.declared.Context.TheVariants.{InHtml}
use Rattle.base.proofs.Spilt.{Spilt}
use Rattle.encode_html.proofs.fill.write_parts.Given as goal

abbrev pub invariant-loop-part : goal.invariant-loop-part
invariant-loop-part l = Spilt 7 7 (encode_of (InHtml l.h) l.text) (encode_of (InHtml l.h) (chunks_rest l.part-iterator)) l.initial.output l.output l.at
