-- `peel_all` meets its contract. The invariant: so many layers are off, and the text below them stands at the start of the field.
-- Assumes nothing.
use mathlib.Core.Option.{some}
use mathlib.Core.Path.{◌≡◌, sym, ap, ◌∙◌, subst}
use mathlib.Core.List.{List}
use Prim.Native.Nat.{ℕ, ◌+◌, ◌≤◌}
use native.Mathlib.Omega.{arith}
use lib.ListN.{length, take, drop, length-take}
use lib.Seq.{length-take-le, take-append_seam}
use Rattle.rules.specs.Contexts.{context_of}
use Rattle.repairs.specs.Layers.{below, below_length}
use Rattle.std.specs.Prelude.{Option as Maybe}
use Rattle.repairs.proofs.Peeling.{Peeling, peeling-start, peeling-next, peeling-ends, peeling-done}
use Rattle.repairs.proofs.peel_all.Goals as goal

pub loop-layers-init : goal.loop-layers-init
loop-layers-init c = (c.requires.1, c.requires.0, peeling-start _ _)

pub slice_bounds-peel_one-end : goal.slice_bounds-peel_one-end
slice_bounds-peel_one-end c = omega (arith, c.loop-layers.invariant.0, c.loop-layers.invariant.1)

pub slice_bounds-peel_one-end-in-loop-layers : goal.slice_bounds-peel_one-end-in-loop-layers
slice_bounds-peel_one-end-in-loop-layers c = let l = c.loop-layers in sym (length-take-le l.n l.field (omega (arith, l.invariant.0, l.invariant.1)))

pub peel_one-requires : goal.peel_one-requires
peel_one-requires c = let l = c.loop-layers in omega (arith, length-take-le l.n l.field (omega (arith, l.invariant.0, l.invariant.1)), l.invariant.1)

pub returns-in_default : goal.returns-in_default
returns-in_default c =
    let l = c.loop-layers in
    let p = c.peel_one in
    let d = peeling-ends l.invariant.2 (omega arith) (sym (ap (λ (x : Maybe ℕ). below x p.new.output) c.in_default.is) ∙ p.ensures.0) in
    (d.0, d.1, omega (arith, l.invariant.0, l.invariant.1))

pub slice_bounds-next-end : goal.slice_bounds-next-end
slice_bounds-next-end c = subst (λ (x : Maybe ℕ). below_length x ≤ length c.peel_one.new.output) c.in-Some.is c.peel_one.ensures.1

pub slice_bounds-put-end : goal.slice_bounds-put-end
slice_bounds-put-end c = sym (length-take-le _ _ (subst (λ (x : Maybe ℕ). below_length x ≤ length c.peel_one.new.output) c.in-Some.is c.peel_one.ensures.1))

pub put-n-requires : goal.put-n-requires
put-n-requires c =
    let m = subst (λ (x : Maybe ℕ). below_length x ≤ 8192) c.in-Some.is c.peel_one.ensures.2 in
    omega (arith, length-take c.in-Some.m c.peel_one.new.output, m, c.loop-layers.invariant.0)

pub loop-layers-preserved : goal.loop-layers-preserved
loop-layers-preserved c =
    let l = c.loop-layers in
    let p = c.peel_one in
    let w = c.put-n in
    let u = take c.in-Some.m p.new.output in
    let few = subst (λ (x : Maybe ℕ). below_length x ≤ 8192) c.in-Some.is p.ensures.2 in
    let a = c.args in
    let off : some u ≡ _ = sym (ap (λ (x : Maybe ℕ). below x p.new.output) c.in-Some.is) ∙ p.ensures.0 in
    let stands : take w.result w.new.output ≡ u = (λ i. take (w.ensures.0 i) (w.ensures.1 i)) ∙ take-append_seam u (drop (length u) l.field) in (
      w.auto.output ∙ l.invariant.0,
      omega (arith, w.ensures.0, length-take c.in-Some.m p.new.output, few),
      subst (λ (s : List ℕ). Peeling (context_of a.context) (take a.size a.field.now) s (l.layers + 1)) (sym stands) (peeling-next l.invariant.2 u (omega arith) off),
    )

pub returns : goal.returns
returns c =
    let l = c.loop-layers in
    let d = peeling-done l.invariant.2 (omega arith) in
    let all : 4 ≡ l.layers = omega arith in
    (all ∙ d.0, d.1, omega (arith, l.invariant.0, l.invariant.1))
