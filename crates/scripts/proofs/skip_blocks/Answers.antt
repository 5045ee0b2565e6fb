-- `scripts::skip_blocks` meets its contract. The invariant: no byte that is passed begins a mark.
-- Assumes nothing.
use borrow.Author.Rules.{rules}
use Prim.Native.Nat.{◌+◌, ◌-◌}
use native.Mathlib.Omega.{arith}
use Rattle.base.proofs.Firsts.{free-start, free-join}
use Rattle.scripts.specs.Marks.{mark_at}
use lib.ListN.{length, take, drop, length-drop}
use lib.Seq.{length-take-le}
use mathlib.Core.Path.{◌≡◌}
use Rattle.scripts.proofs.Ends.{passed-marks, marks-in-block}
use Rattle.scripts.proofs.skip_blocks.Goals as goal

pub loop-i-init : goal.loop-i-init
loop-i-init c = (search rules, search rules, (λ h. absurd (omega arith)), free-start (mark_at _ _ c.args.text.now) c.args.from)

pub returns-then-has_mark : goal.returns-then-has_mark
returns-then-has_mark c =
    let a = c.args in
    let l = c.loop-i in
    passed-marks a.mode a.text.now _ _ a.from l.i c.letter_of-letter.ensures c.dash_of-dash.ensures l.invariant.0 l.invariant.1 l.invariant.2 l.invariant.3

pub loop-i-preserved : goal.loop-i-preserved
loop-i-preserved c =
    let a = c.args in
    let l = c.loop-i in
    let letter = c.letter_of-letter.result in
    let dash = c.dash_of-dash.result in
    let t = a.text.now in
    let e : l.i + 16 + 2 - l.i ≡ 18 = omega arith in
    let long : length (take (l.i + 16 + 2 - l.i) (drop l.i t)) ≡ l.i + 16 + 2 - l.i = length-take-le _ (drop l.i t) (omega (arith, length-drop l.i t)) in (
      search rules,
      search rules,
      (λ h. search rules),
      free-join (mark_at letter dash a.text.now) a.from l.i (l.i + 16) l.invariant.3 (marks-in-block letter dash a.text.now l.i 18 (omega arith) (λ k h m. rw e at (c.has_mark.ensures c.if-has_mark.false k h m))),
    )

pub returns : goal.returns
returns c =
    let a = c.args in
    let l = c.loop-i in
    passed-marks a.mode a.text.now _ _ a.from l.i c.letter_of-letter.ensures c.dash_of-dash.ensures l.invariant.0 l.invariant.1 l.invariant.2 l.invariant.3

pub has_mark-requires : goal.has_mark-requires
has_mark-requires c =
    let t = c.args.text.now in
    let l = c.loop-i in
    omega (arith, length-take-le (l.i + 16 + 2 - l.i) (drop l.i t) (omega (arith, length-drop l.i t)))
