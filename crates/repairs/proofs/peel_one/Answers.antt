-- `peel_one` meets its contract: what check refuses has no layer to take off, and what take gives is the text below (`reads`).
-- Assumes nothing.
use mathlib.Core.Option.{some}
use mathlib.Core.Path.{sym, ap, ◌∙◌}
use native.Mathlib.Omega.{arith}
use lib.ListN.{take}
use Rattle.rules.specs.Contexts.{context_of}
use Rattle.rules.specs.declared.Answer.{Answer}
use Rattle.rules.specs.declared.Checked.{Checked}
use Rattle.repairs.proofs.Peeling.{peel-refused, reads}
use Rattle.repairs.proofs.peel_one.Goals as goal

pub returns-then-checked-ne-PASSED : goal.returns-then-checked-ne-PASSED
returns-then-checked-ne-PASSED c =
    let s = c in
    let k = c.check-checked in (
      peel-refused (context_of s.args.context) s.args.text.now (omega (arith, s.requires)) (λ e. c.if-checked-ne-PASSED.true (ap (λ (k : Checked). k.status) k.ensures ∙ e)),
      omega arith,
      omega arith,
    )

pub returns-then-answer-eq0 : goal.returns-then-answer-eq0
returns-then-answer-eq0 c =
    let s = c in
    let k = c.check-checked in
    let a = c.take-answer in
    let r = reads (context_of s.args.context) s.args.text.now s.args.output.now (sym (ap (λ (k : Checked). k.status) k.ensures) ∙ c.if-checked-ne-PASSED.false) (omega (arith, s.requires)) in
    (r.none-off (sym (ap (λ (a : Answer). a.replaced) a.ensures.0) ∙ c.if-answer-eq0.true), omega arith, omega arith)

pub returns : goal.returns
returns c =
    let s = c in
    let k = c.check-checked in
    let a = c.take-answer in
    let r = reads (context_of s.args.context) s.args.text.now s.args.output.now (sym (ap (λ (k : Checked). k.status) k.ensures) ∙ c.if-checked-ne-PASSED.false) (omega (arith, s.requires)) in (
      (λ i. some (take (a.ensures.0 i).length (a.ensures.1 i))) ∙ r.one-off (λ z. c.if-answer-eq0.false (ap (λ (a : Answer). a.replaced) a.ensures.0 ∙ z)),
      omega (arith, s.requires, r.long, ap (λ (a : Answer). a.length) a.ensures.0, a.auto.output),
      omega (arith, s.requires, r.long, ap (λ (a : Answer). a.length) a.ensures.0),
    )
