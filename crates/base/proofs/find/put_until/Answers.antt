-- `crate::find::put_until` meets its contract: what is passed does not have the byte, and what is written after it goes up to the first place.
-- Assumes nothing.
use native.Mathlib.Omega.{arith}
use Rattle.base.proofs.Copied.{lent-near, passed-room, passed-within, lent-holds, both}
use Rattle.base.proofs.find.put_until.Goals as goal

pub put-n-requires : goal.put-n-requires
put-n-requires c =
    let a = c.args in
    let t = a.text.now in
    let p = c.pass-p in
    passed-room t a.from p.result a.byte p.ensures.0 p.ensures.1 p.ensures.2 a.output.now c.requires.1

pub slice_bounds-put_near-count-2 : goal.slice_bounds-put_near-count-2
slice_bounds-put_near-count-2 c =
    let a = c.args in
    let t = a.text.now in
    let p = c.pass-p in
    passed-within t a.from p.result a.byte p.ensures.0 p.ensures.1 p.ensures.2 a.output.now c.requires.1 _ c.put-n.result c.put-n.ensures.1 c.put-n.ensures.0

pub slice_bounds-put_near-start-2 : goal.slice_bounds-put_near-start-2
slice_bounds-put_near-start-2 c =
    let a = c.args in
    let t = a.text.now in
    let p = c.pass-p in
    passed-within t a.from p.result a.byte p.ensures.0 p.ensures.1 p.ensures.2 a.output.now c.requires.1 _ c.put-n.result c.put-n.ensures.1 c.put-n.ensures.0

pub put_near-requires : goal.put_near-requires
put_near-requires c =
    let a = c.args in
    let t = a.text.now in
    let p = c.pass-p in
    lent-holds t a.from p.result a.byte p.ensures.0 p.ensures.1 p.ensures.2 a.output.now c.requires.1 _ c.put-n.result c.put-n.ensures.1 c.put-n.ensures.0

pub overflow_add-result : goal.overflow_add-result
overflow_add-result c =
    let a = c.args in
    let t = a.text.now in
    let p = c.pass-p in
    omega (arith, (lent-near t a.from p.result a.byte p.ensures.0 p.ensures.1 p.ensures.2 c.put_near.result c.put_near.ensures.0).within)

pub returns : goal.returns
returns c =
    let a = c.args in
    let t = a.text.now in
    let p = c.pass-p in
    let w = c.put_near in
    (lent-near t a.from p.result a.byte p.ensures.0 p.ensures.1 p.ensures.2 w.result w.ensures.0, both t a.from p.result a.byte p.ensures.0 p.ensures.1 p.ensures.2 a.output.now c.requires.1 _ c.put-n.result c.put-n.ensures.1 c.put-n.ensures.0 w.result w.new.output w.ensures.0 w.ensures.1)
