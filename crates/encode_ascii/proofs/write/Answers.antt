-- `write` meets its contract: what is written so far, with what the rest of the text gives, is the result of the whole. The measure is what is left.
-- Assumes nothing.
use mathlib.Core.Path.{◌≡◌, refl, sym, ap, ◌∙◌, subst}
use mathlib.Core.List.{List}
use Prim.Native.Nat.{ℕ, ◌-◌}
use native.Mathlib.Omega.{arith}
use borrow.Author.Rules.{rules}
use lib.ListN.{length, take, drop, length-drop}
use Rattle.rules.specs.Bytes.{over}
use Rattle.rules.specs.Utf8.{char_at}
use Rattle.rules.specs.Operations.{encode_of}
use Rattle.rules.specs.declared.Context.TheVariants.{InAscii}
use Rattle.base.proofs.Counted.{filled-all}
use Rattle.base.proofs.Filled.{filled-start, filled-room, filled_next, filled_put}
use Rattle.encode_ascii.proofs.Grown.{grown-start, grown-next, next-put, grown-end, rest-empty, put_holds}
use Rattle.encode_ascii.proofs.write.Goals as goal

pub loop-i-init : goal.loop-i-init
loop-i-init c = (grown-start c.args.text.now c.requires.1, filled-start _ _ c.requires.2, refl)

pub put_next-put-requires : goal.put_next-put-requires
put_next-put-requires c = (search rules, c.loop-i.invariant.0.text, omega (arith, c.loop-i.invariant.2))

pub slice_bounds-room-end : goal.slice_bounds-room-end
slice_bounds-room-end c = omega (arith, c.put_next-put.ensures.1)

pub slice_bounds-put-end : goal.slice_bounds-put-end
slice_bounds-put-end c = c.put_next-put.ensures.0.0 ∙ sym (ap length (put_holds (encode_of InAscii (char_at (drop c.loop-i.i c.args.text.now))) c.loop-i.room c.put_next-put.new.room c.put_next-put.result.written c.put_next-put.ensures.0.0 c.put_next-put.ensures.0.1))

pub put-at-requires : goal.put-at-requires
put-at-requires c = rw (put_holds (encode_of InAscii (char_at (drop c.loop-i.i c.args.text.now))) c.loop-i.room c.put_next-put.new.room c.put_next-put.result.written c.put_next-put.ensures.0.0 c.put_next-put.ensures.0.1) (filled-room c.loop-i.invariant.1 (next-put c.loop-i.invariant.0 (search rules) c.put_next-put.result c.loop-i.room c.put_next-put.new.room c.put_next-put.ensures))

pub overflow_add-at : goal.overflow_add-at
overflow_add-at c = omega (arith, c.put-at.ensures.0, ap length (put_holds (encode_of InAscii (char_at (drop c.loop-i.i c.args.text.now))) c.loop-i.room c.put_next-put.new.room c.put_next-put.result.written c.put_next-put.ensures.0.0 c.put_next-put.ensures.0.1), filled_next c.loop-i.invariant.1 (next-put c.loop-i.invariant.0 (search rules) c.put_next-put.result c.loop-i.room c.put_next-put.new.room c.put_next-put.ensures))

pub overflow_add-hits : goal.overflow_add-hits
overflow_add-hits c = omega (arith, c.loop-i.invariant.0.few, c.loop-i.invariant.0.inside, c.put_next-put.ensures.6, c.requires.0)

pub overflow_add-i : goal.overflow_add-i
overflow_add-i c = omega (arith, c.loop-i.invariant.0.inside, c.put_next-put.ensures.5, length-drop c.loop-i.i c.args.text.now, c.requires.0)

pub loop-i-smaller : goal.loop-i-smaller
loop-i-smaller c = omega (arith, c.put_next-put.ensures.4, c.put_next-put.ensures.5, length-drop c.loop-i.i c.args.text.now)

pub loop-i-preserved : goal.loop-i-preserved
loop-i-preserved c =
    let e = put_holds (encode_of InAscii (char_at (drop c.loop-i.i c.args.text.now))) c.loop-i.room c.put_next-put.new.room c.put_next-put.result.written c.put_next-put.ensures.0.0 c.put_next-put.ensures.0.1 in
    let n = c.put-at.ensures.0 ∙ ap length e in (
      grown-next c.loop-i.invariant.0 (search rules) c.put-at.result c.put_next-put.result c.loop-i.room c.put_next-put.new.room c.put_next-put.ensures (n ∙ sym c.put_next-put.ensures.0.0),
      filled_put c.loop-i.invariant.1 (next-put c.loop-i.invariant.0 (search rules) c.put_next-put.result c.loop-i.room c.put_next-put.new.room c.put_next-put.ensures) c.put-at.new.output c.put-at.result n (subst (λ (w : List ℕ). c.put-at.new.output ≡ over w (take (length c.loop-i.output - c.loop-i.at) (drop c.loop-i.at c.loop-i.output))) e c.put-at.ensures.1),
      c.put_next-put.auto.room ∙ c.loop-i.invariant.2,
    )

pub returns : goal.returns
returns c = (rw c.whole.ensures (grown-end c.loop-i.invariant.0 (omega arith)), (filled-all c.loop-i.invariant.1 (rest-empty c.args.text.now c.loop-i.i (omega arith))).1)
