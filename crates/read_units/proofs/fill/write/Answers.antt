-- `write` meets its contract: byte by byte the reader gives of the whole text what read does, either way.
-- Assumes nothing.
-- What is left at the start is all,
use mathlib.Core.Path.{◌≡◌, refl, ap, ◌∙◌}
use native.Mathlib.Omega.{arith}
use lib.ListN.{length}
use Rattle.rules.specs.Operations.{read_of}
use Rattle.rules.specs.declared.Context.TheVariants.{InHtml}
use Rattle.utf8.proofs.Texts.{ascii-valid}
use Rattle.reader.proofs.Bytewise.{byte-result}
use Rattle.marks.proofs.Kept.{marked-take}
use Rattle.read_units.specs.Units.{length_of}
use Rattle.read_units.specs.Marks.{Rest}
use Rattle.read_units.proofs.fill.write.Goals as goal
use Rattle.read_units.proofs.fill.write.Goals.{Start}

whole : (c : Start) → let a = c.args in Rest a.h a.text.now 0 ≡ read_of (InHtml a.h) a.text.now
whole c = byte-result (InHtml c.args.h) (λ k. refl) c.args.text.now (ascii-valid c.args.text.now c.requires.0)

-- which is as long as the output.

size : (c : Start) → let a = c.args in length (Rest a.h a.text.now 0) ≡ length a.output.now
size c =
    let whole-here : let a = c.args in Rest a.h a.text.now 0 ≡ read_of (InHtml a.h) a.text.now =
    byte-result (InHtml c.args.h) (λ k. refl) c.args.text.now (ascii-valid c.args.text.now c.requires.0) in
    ap length (whole-here) ∙ c.requires.3

pub write_steps-requires : goal.write_steps-requires
write_steps-requires c = (c.requires.0, c.requires.1, size (goal.at.write_steps-requires c).Start)

pub returns-then-output-count : goal.returns-then-output-count
returns-then-output-count c = c.write_steps.ensures ∙ whole (goal.at.returns-then-output-count c).Start

pub write_kept-requires : goal.write_kept-requires
write_kept-requires c = (c.requires.0, c.requires.1, marked-take length_of 38 c.args.text.now c.args.places.now _ _ (omega (arith, c.min-kept.ensures)) c.requires.2, size (goal.at.write_kept-requires c).Start)

pub returns : goal.returns
returns c = c.write_kept.ensures ∙ whole (goal.at.returns c).Start
