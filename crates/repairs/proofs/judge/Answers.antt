-- `judge` meets its contract, test by test.
-- Assumes nothing.
use mathlib.Core.Bool.{Bool, true, false, cond}
use mathlib.Core.Path.{◌≡◌, refl, sym, ap, ◌∙◌}
use mathlib.Core.List.{List}
use Prim.Native.Nat.{ℕ}
use native.Mathlib.Omega.{arith}
use borrow.Author.Tests.{not-true, not-false, lt-ltb, le-ltb}
use lib.Dec.{ltb}
use lib.ListN.{length}
use Rattle.rules.specs.Contexts.{context_of}
use Rattle.rules.specs.Refusals.{check_of}
use Rattle.rules.specs.declared.AnyContext.{AnyContext}
use Rattle.rules.specs.declared.Checked.{Checked}
use Rattle.repairs.specs.Repair.{is_html, status_of}
use Rattle.repairs.proofs.judge.Goals as goal

-- The status by the two tests.
by : (n : AnyContext) (t : List ℕ) (x y : Bool) → is_html n ≡ x → ltb 8192 (length t) ≡ y → cond x (cond y 1 (check_of n t).status) 5 ≡ status_of n t
by n t x y e f = sym (λ i. cond (e i) (cond (f i) 1 (check_of n t).status) 5)

pub returns-then-not-names_html : goal.returns-then-not-names_html
returns-then-not-names_html c =
    let a = c.args in
    let h = c.names_html in
    (by (context_of a.context) a.text.now false _ (sym h.ensures ∙ not-true h.result c.if-not-names_html.true-raw) refl, λ z. omega (arith, z))

pub returns-then-text-gt-TEXT_LIMIT : goal.returns-then-text-gt-TEXT_LIMIT
returns-then-text-gt-TEXT_LIMIT c =
    let a = c.args in
    let h = c.names_html in
    (by (context_of a.context) a.text.now true true (sym h.ensures ∙ not-false h.result c.if-not-names_html.false-raw) (lt-ltb 8192 (length a.text.now) c.if-text-gt-TEXT_LIMIT.true), λ z. omega (arith, z))

pub returns-then-checked-ne-PASSED : goal.returns-then-checked-ne-PASSED
returns-then-checked-ne-PASSED c =
    let a = c.args in
    let h = c.names_html in (
      ap (λ (k : Checked). k.status) c.check-checked.ensures
          ∙ by (context_of a.context) a.text.now true false (sym h.ensures ∙ not-false h.result c.if-not-names_html.false-raw) (le-ltb 8192 (length a.text.now) c.if-text-gt-TEXT_LIMIT.false),
      c.if-checked-ne-PASSED.true,
    )

pub returns : goal.returns
returns c =
    let a = c.args in
    let h = c.names_html in
    sym (by (context_of a.context) a.text.now true false (sym h.ensures ∙ not-false h.result c.if-not-names_html.false-raw) (le-ltb 8192 (length a.text.now) c.if-text-gt-TEXT_LIMIT.false))
    ∙ sym (ap (λ (k : Checked). k.status) c.check-checked.ensures) ∙ c.if-checked-ne-PASSED.false
