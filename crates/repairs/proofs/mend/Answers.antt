-- `mend` meets its contract: the layers come off a copy of the field, and what is printed of the last text is what is to be printed of the field.
-- Assumes nothing.
use mathlib.Core.Path.{sym, ◌∙◌, subst}
use mathlib.Core.List.{List}
use Prim.Native.Nat.{ℕ}
use native.Mathlib.Omega.{arith}
use borrow.Author.Rules.{rules}
use lib.ListN.{replicate, length-replicate}
use lib.Seq.{length-take-le}
use Rattle.rules.specs.Contexts.{context_of}
use Rattle.requests.specs.Asked.{Prints}
use Rattle.repairs.proofs.Peeling.{writable}
use Rattle.repairs.proofs.Mending.{last-writable, last-printed}
use Rattle.repairs.proofs.mend.Goals as goal

pub put-n-requires : goal.put-n-requires
put-n-requires c =
    let s = c in
    omega (arith, (writable (context_of s.args.context) s.args.text.now s.requires.0).1, length-replicate {0} {A = ℕ} 8192 0)

pub peel_all-peeled-requires : goal.peel_all-peeled-requires
peel_all-peeled-requires c =
    let s = c in
    let w = c.put-n in
    (omega (arith, w.ensures.0, (writable (context_of s.args.context) s.args.text.now s.requires.0).1), w.auto.output ∙ length-replicate {0} {A = ℕ} 8192 0)

pub slice_bounds-put_mended-end : goal.slice_bounds-put_mended-end
slice_bounds-put_mended-end c = sym (length-take-le _ _ (search rules))

pub put_mended-requires : goal.put_mended-requires
put_mended-requires c =
    let s = c in
    let w = c.put-n in
    let p = c.peel_all-peeled in (
      last-writable (context_of s.args.context) s.args.text.now (replicate 8192 0) w.new.output p.new.field w.result p.result w.ensures.0 w.ensures.1 p.ensures s.requires.0,
      search rules,
    )

pub returns : goal.returns
returns c =
    let a = c.args in
    let w = c.put-n in
    let p = c.peel_all-peeled in
    let m = c.put_mended in
    subst (λ (x : List ℕ). Prints x m.result a.output.now m.new.output)
    (last-printed (context_of a.context) a.text.now (replicate 8192 0) w.new.output p.new.field w.result p.result w.ensures.0 w.ensures.1 p.ensures) m.ensures
