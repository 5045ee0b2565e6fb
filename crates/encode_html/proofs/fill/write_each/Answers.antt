-- What is written so far, with what the rest of the text gives, is the encoding of the whole.
-- Assumes nothing.
use native.Mathlib.Omega.{arith}
use borrow.Author.Rules.{rules}
use Rattle.base.proofs.Spilt.{spilt-start, spilt-room, spilt-next, spilt-put, spilt-end}
use Rattle.encode_html.proofs.Text.{next-byte, next-none}
use Rattle.encode_html.proofs.fill.write_each.Goals as goal

pub loop-b-init : goal.loop-b-init
loop-b-init g c = spilt-start _ _ c.requires.text_in_bounds

pub write_byte-at-requires : goal.write_byte-at-requires
write_byte-at-requires g c =
    let s = c in
    let l = c.loop-b in
    (s.requires.words _ _ (c.type_inv.text l.b-index).fits c.word.ensures, spilt-room l.invariant (next-byte s.args.h s.args.text.now l.b-index (search rules)) (omega arith))

pub overflow_add-at : goal.overflow_add-at
overflow_add-at g c =
    let s = c in
    let l = c.loop-b in
    omega (arith, c.write_byte-at.ensures.0, spilt-next l.invariant (next-byte s.args.h s.args.text.now l.b-index (search rules)) (omega arith))

pub loop-b-preserved : goal.loop-b-preserved
loop-b-preserved g c =
    let s = c in
    let l = c.loop-b in
    let p = c.write_byte-at in
    let next = next-byte s.args.h s.args.text.now l.b-index (search rules) in
    spilt-put l.invariant next (omega arith) p.new.output p.result p.ensures.0 p.auto.output p.ensures.1

pub returns : goal.returns
returns g c =
    let s = c in
    let l = c.loop-b in
    let e = spilt-end (rw (next-none s.args.h s.args.text.now l.b-index c.loop-b-test.false) at l.invariant) in record { value = e.0; spills = e.1 }
