-- `put_until` meets its contract: what is near is copied one by one, and then what is left at once.
-- Assumes nothing.
-- What is near has its length, and the output keeps its own.
use mathlib.Core.List.{List}
use mathlib.Core.Path.{◌≡◌, sym, ap, ◌∙◌}
use Prim.Native.Nat.{ℕ, ◌+◌, ◌-◌, ◌≤◌}
use native.Mathlib.Omega.{arith}
use lib.ListN.{length, take, drop, length-drop}
use Rattle.rules.specs.Bytes.{over}
use Rattle.base.specs.First.{Free}
use Rattle.base.proofs.Firsts.{free-join}
use Rattle.base.proofs.Filled.{lent-rest}
use Rattle.base.proofs.Part.{part_length}
use Rattle.decode_json.specs.Escapes.{halt_at}
use Rattle.decode_json.proofs.Contents.{over-length, part_join, part-more}
use Rattle.decode_json.proofs.halts.put_until.Goals as goal
use Rattle.decode_json.proofs.halts.put_until.Goals.{After-next_halt-far, Else-near-end}

whole : (c : Else-near-end) → let a = c.args in let p = c.put_near-near in length (take (p.result - a.from) (drop a.from a.text.now)) ≡ p.result - a.from
whole c = let a = c.args in let p = c.put_near-near in part_length a.text.now a.from p.result p.ensures.0.after (omega (arith, p.ensures.0.within, c.min.ensures))

kept : (c : Else-near-end) → let a = c.args in let p = c.put_near-near in (p.result ≤ a.from + length a.output.now) × (length p.new.output ≡ length a.output.now)
kept c =
    let whole-here : let a = c.args in let p = c.put_near-near in length (take (p.result - a.from) (drop a.from a.text.now)) ≡ p.result - a.from =
    let a = c.args in let p = c.put_near-near in part_length a.text.now a.from p.result p.ensures.0.after (omega (arith, p.ensures.0.within, c.min.ensures)) in
    let a = c.args in
    let p = c.put_near-near in
    let r = c.requires.1 p.result p.ensures.0.after (omega (arith, p.ensures.0.within, c.min.ensures)) p.ensures.0.none in
    (r, ap length p.ensures.1 ∙ over-length (take (p.result - a.from) (drop a.from a.text.now)) a.output.now (omega (arith, whole-here, r)))

-- What is far has no such byte either, so that there is room for both.

free : (c : After-next_halt-far) → Free (halt_at c.args.text.now) c.args.from c.next_halt-far.result
free c = free-join (halt_at c.args.text.now) c.args.from c.put_near-near.result c.next_halt-far.result c.put_near-near.ensures.0.none c.next_halt-far.ensures.none

room : (c : After-next_halt-far) → c.next_halt-far.result ≤ c.args.from + length c.args.output.now
room c =
    let free-here : Free (halt_at c.args.text.now) c.args.from c.next_halt-far.result =
    free-join (halt_at c.args.text.now) c.args.from c.put_near-near.result c.next_halt-far.result c.put_near-near.ensures.0.none c.next_halt-far.ensures.none in
    c.requires.1 c.next_halt-far.result (omega (arith, c.put_near-near.ensures.0.after, c.next_halt-far.ensures.after)) c.next_halt-far.ensures.within (free-here)

-- src/halts.rt:106:32

-- src/halts.rt:106:22

-- src/halts.rt:106:15

-- src/halts.rt:107:9

-- src/halts.rt:109:9

-- src/halts.rt:109:9

pub returns-then-near-end : goal.returns-then-near-end
returns-then-near-end c =
    let p = c.put_near-near.ensures in
    (record { after = p.0.after; within = omega (arith, p.0.within, c.min.ensures); none = p.0.none; here = λ h. p.0.here c.if-near-end.true }, p.1)

-- src/halts.rt:111:9

-- src/halts.rt:112:15

pub slice_bounds-put-count : goal.slice_bounds-put-count
slice_bounds-put-count c = c.next_halt-far.ensures.after

-- src/halts.rt:112:15

-- src/halts.rt:112:15

-- src/halts.rt:112:42

pub overflow_sub-near : goal.overflow_sub-near
overflow_sub-near c = c.put_near-near.ensures.0.after

-- src/halts.rt:112:30

pub slice_bounds-put-count-2 : goal.slice_bounds-put-count-2
slice_bounds-put-count-2 c = let k = kept (goal.at.slice_bounds-put-count-2 c).Else-near-end in omega (arith, k.0, k.1, c.put_near-near.ensures.0.after)

-- src/halts.rt:112:30

pub slice_bounds-put-start-2 : goal.slice_bounds-put-start-2
slice_bounds-put-start-2 c = let k = kept (goal.at.slice_bounds-put-start-2 c).Else-near-end in omega (arith, k.0, k.1, c.put_near-near.ensures.0.after)

-- src/halts.rt:112:30

-- src/halts.rt:112:5

pub put-requires : goal.put-requires
put-requires c =
    let a = c.args in
    let p = c.put_near-near in
    let e = c.next_halt-far in
    rw (part_length a.text.now p.result e.result e.ensures.after e.ensures.within, lent-rest, length-drop)
    (omega (arith, room (goal.at.put-requires c).After-next_halt-far, (kept (goal.at.put-requires c).Else-near-end).1, p.ensures.0.after, e.ensures.after))

-- src/halts.rt:102:1

-- src/halts.rt:102:1

pub returns : goal.returns
returns c =
    let a = c.args in
    let p = c.put_near-near in
    let e = c.next_halt-far in
    let t = a.text.now in
    let v = take (e.result - p.result) (drop p.result t) in
    let n = part_length t p.result e.result e.ensures.after e.ensures.within in
    let far : p.result - a.from + length v ≤ length a.output.now = omega (arith, n, room (goal.at.returns c).After-next_halt-far, p.ensures.0.after, e.ensures.after) in (
      record { after = omega (arith, p.ensures.0.after, e.ensures.after); within = e.ensures.within; none = free (goal.at.returns c).After-next_halt-far; here = e.ensures.here },
      part-more (take (p.result - a.from) (drop a.from t)) v a.output.now p.new.output c.put.new.output (p.result - a.from) (whole (goal.at.returns c).Else-near-end) far p.ensures.1 c.put.ensures.1
          ∙ ap (λ (w : List ℕ). over w a.output.now) (sym (part_join t a.from p.result e.result p.ensures.0.after e.ensures.after)),
    )
