-- `read_with` meets its contract: each outcome by what is measured.
-- Assumes nothing.
use mathlib.Core.Path.{refl, sym, ◌∙◌}
use mathlib.Core.List.{◌++◌}
use native.Mathlib.Omega.{arith}
use lib.ListN.{drop}
use lib.Seq.{length-take-le}
use Rattle.rules.specs.Moves.{through}
use Rattle.rules.specs.Reading.{read_step}
use Rattle.rules.specs.Contexts.{string_of}
use Rattle.outcomes.specs.Outcomes.{Whole}
use Rattle.read_strings.proofs.Clearing.{clear-valid}
use Rattle.read_strings.proofs.read_with.Goals as goal

pub returns-then-found-eq0 : goal.returns-then-found-eq0
returns-then-found-eq0 c =
    let a = c.args in
    let t = a.text.now in
    let m = c.in-Some.ensures in
    let whole : Whole (through (read_step (string_of a.language a.quotes)) t) t = (c.requires.0, clear-valid a.language a.quotes t c.requires.1, sym m.0.reach) in
    (whole, sym m.0.many ∙ c.if-found-eq0.true, refl)

pub returns-then-output-found : goal.returns-then-output-found
returns-then-output-found c =
    let a = c.args in
    let t = a.text.now in
    let m = c.in-Some.ensures in
    let whole : Whole (through (read_step (string_of a.language a.quotes)) t) t = (c.requires.0, clear-valid a.language a.quotes t c.requires.1, sym m.0.reach) in
    (whole, λ z. c.if-found-eq0.false (m.0.many ∙ z), m.0.long, c.if-output-found.true, refl)

pub slice_bounds-write-end-2 : goal.slice_bounds-write-end-2
slice_bounds-write-end-2 c = sym (length-take-le _ _ (omega (arith, c.if-output-found.false)))

pub write-requires : goal.write-requires
write-requires c =
    let m = c.in-Some.ensures in record { clear = (c.requires.1, m.1); kept_in_bounds = (omega (arith, c.min-kept.ensures), λ k l s. m.2 k (omega (arith, l, c.min-kept.ensures)) s, sym m.0.long ∙ sym (length-take-le _ _ (omega (arith, c.if-output-found.false)))) }

pub returns : goal.returns
returns c =
    let a = c.args in
    let t = a.text.now in
    let m = c.in-Some.ensures in
    let whole : Whole (through (read_step (string_of a.language a.quotes)) t) t = (c.requires.0, clear-valid a.language a.quotes t c.requires.1, sym m.0.reach) in
    (whole, λ z. c.if-found-eq0.false (m.0.many ∙ z), m.0, omega (arith, m.0.long, c.if-output-found.false), λ i. c.write.ensures i ++ drop (m.0.long i) a.output.now)
