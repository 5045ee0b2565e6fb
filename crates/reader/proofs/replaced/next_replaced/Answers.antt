-- `next_replaced` meets its contract: what has been passed so far has no such byte. The measure is what is left of the text.
-- Assumes nothing.
use mathlib.Core.Bool.{false}
use mathlib.Core.Path.{◌≡◌, sym, ◌∙◌}
use Prim.Native.Nat.{◌+◌}
use native.Mathlib.Omega.{arith}
use borrow.Author.Rules.{rules}
use lib.ListN.{drop, length-drop}
use Rattle.reader.specs.Replaced.{replaced_at, is_whole}
use Rattle.base.proofs.Filled.{lent-rest}
use Rattle.base.proofs.Firsts.{free-join, free_step}
use Rattle.reader.proofs.Scanning.{out-plain, part-plain, whole-replaced}
use Rattle.reader.proofs.replaced.next_replaced.Goals as goal

pub loop-i-init : goal.loop-i-init
loop-i-init c = (c.find-i.ensures.after, c.find-i.ensures.within, out-plain c.args.leads.now c.args.text.now c.args.from c.find-i.result c.find-i.ensures.none, c.find-i.ensures.here)

pub is_whole-requires : goal.is_whole-requires
is_whole-requires c = rw (lent-rest, length-drop) (search rules)

pub returns-then-is_whole : goal.returns-then-is_whole
returns-then-is_whole c =
    let a = c.args in
    let l = c.loop-i in
    record { after = l.invariant.0; within = l.invariant.1; none = l.invariant.2; here = λ h. whole-replaced a.leads.now a.text.now l.i (l.invariant.3 h) (rw (← lent-rest l.i a.text.now) (sym c.is_whole.ensures ∙ c.if-is_whole.true)) }

pub loop-i-preserved : goal.loop-i-preserved
loop-i-preserved c =
    let a = c.args in
    let l = c.loop-i in
    let find2 = c.find-i-in-loop-i in
    let test = replaced_at a.leads.now a.text.now in
    let part : is_whole (drop l.i a.text.now) ≡ false = rw (← lent-rest l.i a.text.now) (sym c.is_whole.ensures ∙ c.if-is_whole.false) in (
      search rules,
      find2.ensures.within,
      free-join test a.from (l.i + 1) find2.result (free_step test a.from l.i l.invariant.2 (part-plain a.leads.now a.text.now l.i part))
          (out-plain a.leads.now a.text.now (l.i + 1) find2.result find2.ensures.none),
      find2.ensures.here,
    )

pub returns : goal.returns
returns c = record { after = c.loop-i.invariant.0; within = c.loop-i.invariant.1; none = c.loop-i.invariant.2; here = λ h. absurd (omega arith) }
