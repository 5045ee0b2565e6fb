-- `encode_raw::next_cut` meets its contract. The invariant: no backslash goes in after a byte that is passed. The measure is what is left before the end.
-- Assumes nothing.
use borrow.Author.Rules.{rules}
use mathlib.Core.Bool.{true, false}
use mathlib.Core.Path.{sym, ◌∙◌}
use Prim.Native.Nat.{◌+◌}
use native.Mathlib.Omega.{arith}
use Rattle.base.proofs.Firsts.{free_step, free-join}
use Rattle.encode_raw.specs.Cuts.{cut_at}
use Rattle.encode_raw.proofs.Cuts.{other-uncut, less-cut}
use Rattle.encode_raw.proofs.next_cut.Goals as goal

pub loop-i-init : goal.loop-i-init
loop-i-init c = c.skip_blocks-i.ensures

pub loop-i-preserved-then-text-i-ne60 : goal.loop-i-preserved-then-text-i-ne60
loop-i-preserved-then-text-i-ne60 c =
    let a = c.args in
    let l = c.loop-i in
    (search rules, search rules, free_step (cut_at a.text.now) a.from l.i l.invariant.2 (other-uncut a.text.now l.i c.if-text-i-ne60.true))

pub returns-then-is_parted : goal.returns-then-is_parted
returns-then-is_parted c =
    let a = c.args in
    let l = c.loop-i in
    record {
      after = search rules;
      within = search rules;
      none = l.invariant.2;
      here = λ h. less-cut a.text.now l.i true (search rules) (sym c.if-is_parted.true ∙ c.is_parted.ensures);
    }

pub loop-i-preserved : goal.loop-i-preserved
loop-i-preserved c =
    let a = c.args in
    let l = c.loop-i in
    let f = c.is_parted.ensures in
    let none = free_step (cut_at a.text.now) a.from l.i l.invariant.2 (less-cut a.text.now l.i false (search rules) (sym c.if-is_parted.false ∙ f)) in
    (search rules, search rules, free-join (cut_at a.text.now) a.from (l.i + 1) c.skip_blocks-i-in-loop-i.result none c.skip_blocks-i-in-loop-i.ensures.2)

pub returns : goal.returns
returns c = let l = c.loop-i in record { after = search rules; within = search rules; none = l.invariant.2; here = λ h. absurd (omega arith) }
