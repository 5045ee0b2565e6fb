-- `repair` meets its contract: the status decides.
-- Assumes nothing.
use mathlib.Core.Bool.{Bool, cond}
use mathlib.Core.Path.{◌≡◌, sym, ap, ◌∙◌, subst}
use mathlib.Core.List.{List}
use Prim.Native.Nat.{ℕ}
use borrow.Author.Rules.{rules}
use borrow.Author.Tests.{eq-eqb, ne_eqb}
use Rattle.rules.specs.Contexts.{context_of}
use Rattle.requests.specs.Asked.{Prints}
use Rattle.repairs.specs.Repair.{status_of, status_line, mended, repaired}
use Rattle.repairs.proofs.repair.Goals as goal

pub returns-in-Err : goal.returns-in-Err
returns-in-Err c =
    let a = c.args in
    let s = c.in-Err.ensures in
    let r = c.refuse in
    let n = context_of a.context in
    let t = a.text.now in
    let e : repaired n t ≡ status_line (status_of n t) = ap (λ (b : Bool). cond b (mended n t) (status_line (status_of n t))) (ne_eqb (status_of n t) 0 (λ z. s.1 (s.0 ∙ z))) in
    subst (λ (w : List ℕ). Prints w r.result a.output.now r.new.output) (ap (λ (k : ℕ). status_line k) s.0 ∙ sym e) r.ensures

pub mend-requires : goal.mend-requires
mend-requires c = (c.in-Ok.ensures, search rules)

pub returns-in-Ok : goal.returns-in-Ok
returns-in-Ok c =
    let a = c.args in
    let m = c.mend in
    let n = context_of a.context in
    let t = a.text.now in
    let e : repaired n t ≡ mended n t = ap (λ (b : Bool). cond b (mended n t) (status_line (status_of n t))) (eq-eqb (status_of n t) 0 c.in-Ok.ensures) in
    subst (λ (w : List ℕ). Prints w m.result a.output.now m.new.output) (sym e) m.ensures
