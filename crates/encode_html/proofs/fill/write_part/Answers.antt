-- Bytes of which none is a key are their own encoding.
-- Assumes nothing.
use Rattle.std.proofs.Common.{ap, arith, length}
use Rattle.encode_html.proofs.Sixteen.{cold-copied}
use Rattle.base.proofs.Spilt.{put-spills}
use Rattle.encode_html.proofs.fill.write_part.Goals as goal

pub put_short-requires : goal.put_short-requires
put_short-requires c =
    let a = c.args in
    let q = c.requires.h_value in
    let e = ap length (cold-copied a.h a.k q.0 q.1 a.part.now (λ i. (c.type_inv.part i).fits) (c.least.ensures c.if-least-gt0.true)) in
    (omega arith, omega (arith, e, c.requires.part_in_bounds))

pub returns-then-least-gt0 : goal.returns-then-least-gt0
returns-then-least-gt0 c =
    let a = c.args in
    let q = c.requires.h_value in
    let e = cold-copied a.h a.k q.0 q.1 a.part.now (λ i. (c.type_inv.part i).fits) (c.least.ensures c.if-least-gt0.true) in
    let p = c.put_short.ensures in
    rw (e, p.1) (record { value = p.0; spills = put-spills 7 a.part.now a.output.now })
