-- `plain::all_plain` meets its contract. The invariant: every byte up to `done` is plain. The measure is what is left of the text.
-- Assumes nothing.
use Rattle.std.proofs.Common.{◌+◌, ◌≤◌, length, arith}
use borrow.Author.Rules.{rules}
use Rattle.base.proofs.Firsts.{free-start, free-join}
use Rattle.plain.specs.Plain.{special_at}
use Rattle.plain.proofs.Parts.{free-part}
use Rattle.plain.proofs.all_plain.Goals as goal

pub loop-done-init : goal.loop-done-init
loop-done-init g c = (omega arith, search rules, free-start _ 0)

pub loop-done-preserved : goal.loop-done-preserved
loop-done-preserved g c =
    let a = c.args in
    let l = c.loop-done in
    let i = c.min-at.result in
    let e : i + g.row.SIZE ≤ length a.text.now = omega (arith, c.min-at.ensures) in (
      search rules,
      e,
      free-join (special_at a.unquoted a.text.now) 0 l.done (i + g.row.SIZE) l.invariant.2
          (λ k h m. free-part a.unquoted a.text.now i (i + g.row.SIZE) (omega arith) e (c.has_special.ensures c.if-has_special.false) k (omega (arith, h, c.min-at.ensures)) m),
    )

pub returns : goal.returns
returns g c = λ z k h m. c.loop-done.invariant.2 k h (omega arith)
