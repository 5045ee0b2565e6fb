-- `encode_strings::measure` meets its contract. The invariant: the parts so far, with what is left, are the whole (Parts). The measure is what is left of
-- the text.
-- Assumes nothing.
use Prim.Native.Nat.{◌+◌, ◌-◌, ◌≤◌}
use mathlib.Core.Path.{◌≡◌}
use native.Mathlib.Omega.{arith}
use lib.ListN.{length, take, drop}
use Rattle.base.proofs.Part.{part_length}
use Rattle.rules.specs.Contexts.{written_in}
use Rattle.rules.specs.Operations.{encode_of}
use Rattle.encode_strings.proofs.Parts.{gone-start, gone-part, gone-small, gone-end}
use Rattle.encode_strings.proofs.measure.Goals as goal
use Rattle.encode_strings.proofs.measure.Goals.{After-struct_known-1}

pub loop-i-init : goal.loop-i-init
loop-i-init c = let a = c.args in gone-start a.notation a.quotes a.text.now

pub slice_bounds-gained-count : goal.slice_bounds-gained-count
slice_bounds-gained-count c = omega (arith, c.cut-end.ensures.0)

pub slice_bounds-gained-start : goal.slice_bounds-gained-start
slice_bounds-gained-start c = omega (arith, c.cut-end.ensures.0)

pub slice_bounds-gained-end : goal.slice_bounds-gained-end
slice_bounds-gained-end c = c.cut-end.ensures.1

pub gained-part-requires : goal.gained-part-requires
gained-part-requires c =
    let t = c.args.text.now in
    let l = c.loop-i in
    let e = c.cut-end.ensures in
    omega (arith, e.0, e.2, part_length t l.i c.cut-end.result (omega (arith, e.0)) e.1)

pub overflow_sub-n : goal.overflow_sub-n
overflow_sub-n c = omega (arith, c.cut-end.ensures.0)

-- What the part gives, and that the sums stay small.

given : (c : After-struct_known-1)
    → let a = c.args in
    let l = c.loop-i in
    let e = c.cut-end.result in
    let y = c.gained-part.result in
    (e - l.i + y.growth ≡ length (encode_of (written_in a.notation a.quotes) (take (e - l.i) (drop l.i a.text.now))))
    × (l.n + (e - l.i + y.growth) ≤ 393216)
    × (l.places + y.replaced ≤ 131072)
given c =
    let s = c in
    let l = c.loop-i in
    let e = c.cut-end in
    let y = c.gained-part in
    let from : l.i ≤ e.result = omega (arith, e.ensures.0) in
    let w : e.result - l.i + y.result.growth ≡ length (encode_of (written_in s.args.notation s.args.quotes) (take (e.result - l.i) (drop l.i s.args.text.now))) =
    omega (arith, y.ensures.0, part_length s.args.text.now l.i e.result from e.ensures.1) in
    let m = gone-small s.args.notation s.args.quotes s.args.text.now l.invariant e.result from e.ensures.1 e.ensures.3 _ y.result.replaced s.requires w y.ensures.2 in
    (w, m.0, m.1)

pub overflow_add-n : goal.overflow_add-n
overflow_add-n c = omega (arith, (given (goal.at.overflow_add-n c).After-struct_known-1).1)

pub overflow_add-n-in-loop-i : goal.overflow_add-n-in-loop-i
overflow_add-n-in-loop-i c = omega (arith, (given (goal.at.overflow_add-n-in-loop-i c).After-struct_known-1).1)

pub overflow_add-places : goal.overflow_add-places
overflow_add-places c = omega (arith, (given (goal.at.overflow_add-places c).After-struct_known-1).2)

pub loop-i-smaller : goal.loop-i-smaller
loop-i-smaller c = omega (arith, c.cut-end.ensures.0, c.cut-end.ensures.1)

pub loop-i-preserved : goal.loop-i-preserved
loop-i-preserved c =
    let a = c.args in
    let l = c.loop-i in
    let e = c.cut-end in
    let y = c.gained-part in
    gone-part a.notation a.quotes a.text.now l.invariant e.result (omega (arith, e.ensures.0)) e.ensures.1 e.ensures.3 _ y.result.replaced (given (goal.at.loop-i-preserved c).After-struct_known-1).0 y.ensures.1 y.ensures.2

pub returns : goal.returns
returns c = rw c.whole.ensures (gone-end c.args.notation c.args.quotes c.args.text.now c.loop-i.invariant c.loop-i-test.false)
