-- From the start up to place i decode leaves no reference: between two `&` each byte is kept, and the references at those passed give way.
-- Assumes nothing.
use borrow.Author.Rules.{rules}
use mathlib.Core.Path.{◌∙◌}
use Prim.Native.Nat.{◌+◌}
use native.Mathlib.Omega.{arith}
use Rattle.decode_html.proofs.Passing.{passed-quiet, passed-gives, passed-stays, passed-end}
use Rattle.decode_html.proofs.next_left.Goals as goal

pub loop-i-init : goal.loop-i-init
loop-i-init c =
    let near = c.find_byte-i.ensures in
    let a = c.args in
    (near.after, near.within, near.here, passed-quiet a.text.now a.from c.find_byte-i.result near)

pub find_decoded_entity-requires : goal.find_decoded_entity-requires
find_decoded_entity-requires c = (search rules, c.loop-i.invariant.2 (search rules))

pub returns-in-Err : goal.returns-in-Err
returns-in-Err c =
    let l = c.loop-i in
    (l.invariant.0, search rules, l.invariant.3 ∙ passed-stays c.args.text.now l.i (search rules) c.in-Err.reason c.in-Err.ensures)

pub loop-i-smaller : goal.loop-i-smaller
loop-i-smaller c = let near = c.find_byte-i-in-loop-i.ensures in omega (arith, near.after, near.within)

pub loop-i-preserved : goal.loop-i-preserved
loop-i-preserved c =
    let t = c.args.text.now in
    let l = c.loop-i in
    let near = c.find_byte-i-in-loop-i.ensures in (
      omega (arith, l.invariant.0, near.after),
      near.within,
      near.here,
      l.invariant.3 ∙ passed-gives t l.i (search rules) c.in_default.field-0 c.in_default.ensures ∙ passed-quiet t (l.i + 1) c.find_byte-i-in-loop-i.result near,
    )

pub returns : goal.returns
returns c = let l = c.loop-i in l.invariant.3 ∙ passed-end c.args.text.now l.i (search rules)
