-- What is written so far, with what the rest of the text gives, is the encoding of the whole.
-- Assumes nothing.
use Rattle.std.proofs.Common.{drop}
use Rattle.rules.specs.Operations.{encode_of}
use Rattle.rules.specs.declared.Context.TheVariants.{InHtml}
use Rattle.base.proofs.Spilt.{Spilt}
use Rattle.encode_html.proofs.fill.write_each.Given as goal

abbrev pub invariant-loop-b : goal.invariant-loop-b
invariant-loop-b g l = Spilt 7 7 (encode_of (InHtml l.h) l.text) (encode_of (InHtml l.h) (drop l.b-index l.text)) l.initial.output l.output l.at
