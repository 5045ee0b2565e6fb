-- `encode_strings::growth::separators` meets its contract. The invariant: what is counted, with what stands from here on, is the whole count.
-- Assumes nothing.
use mathlib.Core.Bool.{true, false}
use mathlib.Core.Path.{sym, ◌∙◌}
use Prim.Native.Nat.{◌+◌, ◌<◌, ◌≤◌}
use native.Mathlib.Omega.{arith}
use lib.ListN.{length, drop, length-drop}
use Rattle.encode_strings.proofs.Sums.{separators-lead, separators-other, separators-none}
use Rattle.encode_strings.proofs.growth.separators.Goals as goal
use Rattle.encode_strings.proofs.growth.separators.Goals.{then-part-i+then-ends_separator, then-part-i+else-ends_separator, else-part-i}

pub loop-i-preserved : goal.loop-i-preserved
loop-i-preserved c =
    let s = c.args.part.now in
    let i = c.loop-i.i in
    let h : i + 2 < length s = omega (arith, c.saturating_sub-i-end.ensures) in
    elim c.if-part-i.branch [
      | then-part-i+then-ends_separator w ↦ (omega (arith, separators-lead s i h true w.if-part-i.true (sym w.ends_separator.ensures ∙ w.if-ends_separator.true)), omega arith)
      | then-part-i+else-ends_separator w ↦ (omega (arith, separators-lead s i h false w.if-part-i.true (sym w.ends_separator.ensures ∙ w.if-ends_separator.false)), omega arith)
      | else-part-i w ↦ (omega (arith, separators-other s i h w.if-part-i.false), omega arith)
    ]

pub returns : goal.returns
returns c =
    let s = c.args.part.now in
    let i = c.loop-i.i in
    let l : length s ≤ i + 2 = omega (arith, c.saturating_sub-i-end.ensures) in
    (omega (arith, separators-none (drop i s) (rw length-drop (omega arith))), omega (arith, c.saturating_sub-i-end.ensures))
