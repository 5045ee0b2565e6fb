-- `read_with` meets its contract: each outcome by what is measured.
-- Assumes nothing.
-- A text that is found to be read as a whole is.
use mathlib.Core.Path.{refl, sym, ◌∙◌}
use mathlib.Core.List.{◌++◌}
use native.Mathlib.Omega.{arith}
use lib.ListN.{drop}
use lib.Seq.{length-take-le}
use Rattle.rules.specs.Moves.{through}
use Rattle.rules.specs.Reading.{read_step}
use Rattle.rules.specs.declared.Context.TheVariants.{InHtml}
use Rattle.utf8.proofs.Texts.{ascii-valid}
use Rattle.outcomes.specs.Outcomes.{Whole}
use Rattle.read_html.proofs.read_with.Goals as goal
use Rattle.read_html.proofs.read_with.Goals.{In-Some}

whole : (c : In-Some) → let a = c.args in Whole (through (read_step (InHtml a.h)) a.text.now) a.text.now
whole c = let m = c.in-Some.ensures in (c.requires.0, ascii-valid c.args.text.now m.0, sym m.1.reach)

pub returns-then-found-eq0 : goal.returns-then-found-eq0
returns-then-found-eq0 c =
    let m = c.in-Some.ensures in
    (whole (goal.at.returns-then-found-eq0 c).In-Some, sym m.1.many ∙ c.if-found-eq0.true, refl)

pub returns-then-output-found : goal.returns-then-output-found
returns-then-output-found c =
    let m = c.in-Some.ensures in
    (whole (goal.at.returns-then-output-found c).In-Some, λ z. c.if-found-eq0.false (m.1.many ∙ z), m.1.long, c.if-output-found.true, refl)

pub slice_bounds-write-end-2 : goal.slice_bounds-write-end-2
slice_bounds-write-end-2 c = sym (length-take-le _ _ (omega (arith, c.if-output-found.false)))

pub write-requires : goal.write-requires
write-requires c =
    let m = c.in-Some.ensures in
    (m.0, omega (arith, m.2), m.3, sym m.1.long ∙ sym (length-take-le _ _ (omega (arith, c.if-output-found.false))))

pub returns : goal.returns
returns c =
    let m = c.in-Some.ensures in
    (whole (goal.at.returns c).In-Some, λ z. c.if-found-eq0.false (m.1.many ∙ z), m.1, omega (arith, m.1.long, c.if-output-found.false), λ i. c.write.ensures i ++ drop (m.1.long i) c.args.output.now)
