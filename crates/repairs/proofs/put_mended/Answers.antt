-- `put_mended` meets its contract: the line of the layers fills the output, and then what encode writes.
-- Assumes nothing.
use mathlib.Core.Path.{refl}
use mathlib.Core.List.{◌++◌}
use Prim.Native.Nat.{◌-◌}
use native.Mathlib.Omega.{arith}
use lib.ListN.{length, take, drop, length-append}
use Rattle.rules.specs.Bytes.{ascii}
use Rattle.rules.specs.Contexts.{context_of}
use Rattle.rules.specs.Program.{decimal}
use Rattle.base.proofs.Filled.{filled_put, filled-room}
use Rattle.base.proofs.Counted.{filled-all}
use Rattle.requests.proofs.Parted.{filled-first, last-part}
use Rattle.repairs.specs.Repair.{writing}
use Rattle.repairs.proofs.Peeling.{encoded}
use Rattle.repairs.proofs.put_mended.Goals as goal

pub overflow_add-result : goal.overflow_add-result
overflow_add-result c =
    let s = c in
    let a = s.args in
    let q = c.put_field-at in
    let e = c.encode-answer in
    let n = context_of a.context in
    let lent = take (length q.new.output - q.result) (drop q.result q.new.output) in
    let t = a.text.now in
    let line = ascii "layers=" ++ decimal a.layers ++ ascii "\ntext=" in
    let f = filled-first line (writing n t) a.output.now q.new.output q.result (omega (arith, s.requires.1, s.requires.0.fits, length-append line (writing n t), q.ensures.0, q.ensures.2)) q.ensures.0 q.ensures.1 in
    omega (arith, q.ensures.2, s.requires.0.fits, (encoded n t lent e.result e.new.output s.requires.0 (filled-room f (last-part (writing n t))) e.ensures).0)

pub returns : goal.returns
returns c =
    let s = c in
    let a = s.args in
    let q = c.put_field-at in
    let e = c.encode-answer in
    let n = context_of a.context in
    let lent = take (length q.new.output - q.result) (drop q.result q.new.output) in
    let t = a.text.now in
    let line = ascii "layers=" ++ decimal a.layers ++ ascii "\ntext=" in
    let f = filled-first line (writing n t) a.output.now q.new.output q.result (omega (arith, s.requires.1, s.requires.0.fits, length-append line (writing n t), q.ensures.0, q.ensures.2)) q.ensures.0 q.ensures.1 in
    let d = encoded n t lent e.result e.new.output s.requires.0 (filled-room f (last-part (writing n t))) e.ensures in
    let all = filled-all (filled_put f (last-part (writing n t)) e.new.output e.result.length d.0 d.1) refl in
    (all.0, all.1)
