-- `put_named` meets its contract: the bytes between two offsets of a tied table are the name of the character.
-- Assumes nothing.
use Prim.Native.Nat.{◌+◌, ◌-◌}
use native.Mathlib.Omega.{arith}
use lib.ListN.{get_or}
use Rattle.base.proofs.Part.{part_length}
use Rattle.names_written.proofs.Named.{tied_at}
use Rattle.names_written.proofs.place.put_named.Goals as goal

pub overflow_cast-a : goal.overflow_cast-a
overflow_cast-a c = omega (arith, c.shared_slice_known-3-1.given (c.args.code - c.args.low))

pub overflow_cast-e : goal.overflow_cast-e
overflow_cast-e c = omega (arith, c.shared_slice_known-4-1.given (c.args.code - c.args.low + 1))

pub slice_bounds-put-count : goal.slice_bounds-put-count
slice_bounds-put-count c = (tied_at c.args.low c.args.bytes.now c.args.offsets.now c.args.code c.requires.4 c.requires.0 c.requires.1 c.requires.2).forward

pub slice_bounds-put-start : goal.slice_bounds-put-start
slice_bounds-put-start c = (tied_at c.args.low c.args.bytes.now c.args.offsets.now c.args.code c.requires.4 c.requires.0 c.requires.1 c.requires.2).forward

pub slice_bounds-put-end : goal.slice_bounds-put-end
slice_bounds-put-end c = (tied_at c.args.low c.args.bytes.now c.args.offsets.now c.args.code c.requires.4 c.requires.0 c.requires.1 c.requires.2).inside-bytes

pub put-requires : goal.put-requires
put-requires c =
    let t = (tied_at c.args.low c.args.bytes.now c.args.offsets.now c.args.code c.requires.4 c.requires.0 c.requires.1 c.requires.2) in
    omega (arith, part_length c.args.bytes.now (get_or c.args.offsets.now (c.args.code - c.args.low) 0) (get_or c.args.offsets.now (c.args.code - c.args.low + 1) 0) t.forward t.inside-bytes, t.short, c.requires.3)

pub returns : goal.returns
returns c =
    let a = c.args in
    let at = a.code - a.low in
    let t = tied_at a.low a.bytes.now a.offsets.now a.code c.requires.4 c.requires.0 c.requires.1 c.requires.2 in
    let n = part_length a.bytes.now (get_or a.offsets.now at 0) (get_or a.offsets.now (at + 1) 0) t.forward t.inside-bytes in
    (rw (← t.name) c.put.ensures, omega (arith, c.put.ensures.0, n, t.short))
