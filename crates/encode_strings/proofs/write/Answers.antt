-- `encode_strings::write` meets its contract: the parts are written one after the other. The invariant: the parts so far, with what is left, are the
-- whole (Parts), and they are written (`Filled`). The measure is what is left of the text.
-- Assumes nothing.
use Prim.Native.Nat.{◌-◌, ◌≤◌}
use native.Mathlib.Omega.{arith}
use lib.ListN.{take, drop}
use Rattle.base.proofs.Part.{part_length}
use Rattle.base.proofs.Filled.{filled-start, filled_next, filled-room, filled_put, filled-end}
use Rattle.rules.specs.Contexts.{written_in}
use Rattle.encode_strings.proofs.Steps.{encode-end}
use Rattle.encode_strings.proofs.Sums.{hits_few}
use Rattle.encode_strings.proofs.Cuts.{next-part}
use Rattle.encode_strings.proofs.Parts.{gone-start, gone-part, gone-small, gone-end}
use Rattle.encode_strings.proofs.write.Goals as goal

pub loop-i-init : goal.loop-i-init
loop-i-init c = let s = c in (gone-start s.args.notation s.args.quotes s.args.text.now, filled-start _ _ s.requires.1)

pub slice_bounds-write_part-count : goal.slice_bounds-write_part-count
slice_bounds-write_part-count c = omega (arith, c.cut-end.ensures.0)

pub slice_bounds-write_part-start : goal.slice_bounds-write_part-start
slice_bounds-write_part-start c = omega (arith, c.cut-end.ensures.0)

pub slice_bounds-write_part-end : goal.slice_bounds-write_part-end
slice_bounds-write_part-end c = c.cut-end.ensures.1

pub write_part-part-requires : goal.write_part-part-requires
write_part-part-requires c =
    let s = c in
    let t = s.args.text.now in
    let l = c.loop-i in
    let e = c.cut-end in
    let from : l.i ≤ e.result = omega (arith, e.ensures.0) in
    let x = next-part s.args.notation s.args.quotes t l.i e.result from e.ensures.1 e.ensures.3 in
    (omega (arith, e.ensures.0, e.ensures.2, part_length t l.i e.result from e.ensures.1), filled-room l.invariant.1 x)

pub overflow_add-at : goal.overflow_add-at
overflow_add-at c =
    let s = c in
    let t = s.args.text.now in
    let l = c.loop-i in
    let e = c.cut-end in
    let from : l.i ≤ e.result = omega (arith, e.ensures.0) in
    let x = next-part s.args.notation s.args.quotes t l.i e.result from e.ensures.1 e.ensures.3 in
    omega (arith, c.write_part-part.ensures.0.long, filled_next l.invariant.1 x)

pub overflow_add-places : goal.overflow_add-places
overflow_add-places c =
    let s = c in
    let t = s.args.text.now in
    let l = c.loop-i in
    let e = c.cut-end in
    let from : l.i ≤ e.result = omega (arith, e.ensures.0) in
    let p = c.write_part-part in
    let few = hits_few s.args.notation s.args.quotes (take (e.result - l.i) (drop l.i t)) p.result.replaced p.ensures.0.many in
    let m = gone-small s.args.notation s.args.quotes t l.invariant.0 e.result from e.ensures.1 e.ensures.3 p.result.length p.result.replaced s.requires.0 p.ensures.0.long few in
    omega (arith, m.1)

pub loop-i-smaller : goal.loop-i-smaller
loop-i-smaller c = let e = c.cut-end.ensures in omega (arith, e.0, e.1)

pub loop-i-preserved : goal.loop-i-preserved
loop-i-preserved c =
    let s = c in
    let t = s.args.text.now in
    let l = c.loop-i in
    let e = c.cut-end in
    let from : l.i ≤ e.result = omega (arith, e.ensures.0) in
    let x = next-part s.args.notation s.args.quotes t l.i e.result from e.ensures.1 e.ensures.3 in
    let p = c.write_part-part in
    let few = hits_few s.args.notation s.args.quotes (take (e.result - l.i) (drop l.i t)) p.result.replaced p.ensures.0.many in (
      gone-part s.args.notation s.args.quotes t l.invariant.0 e.result from e.ensures.1 e.ensures.3 p.result.length p.result.replaced p.ensures.0.long p.ensures.0.many few,
      filled_put l.invariant.1 x p.new.output p.result.length p.ensures.0.long p.ensures.1,
    )

pub returns : goal.returns
returns c =
    let a = c.args in
    let l = c.loop-i in
    let f = rw (encode-end (written_in a.notation a.quotes) a.text.now l.i c.loop-i-test.false) at l.invariant.1 in
    (rw c.whole.ensures (gone-end a.notation a.quotes a.text.now l.invariant.0 c.loop-i-test.false), filled-end f)
