-- `names_search::Table::find` meets its contract: the rows that the loop has passed are not the name's.
-- Assumes nothing.
use mathlib.Core.Logic.{inl, inr}
use mathlib.Core.Option.{some}
use mathlib.Core.Path.{ap, ◌∙◌}
use borrow.Author.Rules.{rules}
use Rattle.names_search.proofs.Scanning.{scanned-start, scanned-end, scanned-room, scanned-found, scanned-next, unlike}
use Rattle.names_search.proofs.Table.find.Goals as goal
use Rattle.names_search.proofs.Table.find.Goals.{else-ends_alike-via-then-ends_alike+else-eq, else-ends_alike-via-else-ends_alike}

pub loop-length-init : goal.loop-length-init
loop-length-init c = let s = c.args.self.now in scanned-start c.args.name.now s.names.now s.lengths.now s.values.now c.args.self.now.table (search rules) (search rules)

pub split_at-requires : goal.split_at-requires
split_at-requires c = let h = c.in-Some.ensures.steps in scanned-room c.loop-length.invariant h.0 h.1

pub returns-then-eq : goal.returns-then-eq
returns-then-eq c =
    let h = c.in-Some.ensures.steps in
    let t = rw c.split_at.ensures.front at c.if-eq.ensures in
    λ b. ap some c.value_of.ensures ∙ scanned-found c.loop-length.invariant h.0 h.1 t b

pub loop-length-preserved : goal.loop-length-preserved
loop-length-preserved c =
    let h = c.in-Some.ensures.steps in
    rw c.split_at.ensures.back (scanned-next c.loop-length.invariant h.0 h.1 (elim c.else-ends_alike.branch [
      | else-ends_alike-via-then-ends_alike+else-eq w ↦ rw c.split_at.ensures.front at w.if-eq.ensures
      | else-ends_alike-via-else-ends_alike w ↦ unlike _ c.args.name.now (rw c.split_at.ensures.front at w.if-ends_alike.ensures)
    ]))

pub returns : goal.returns
returns c = scanned-end _ _ c.loop-length.invariant (elim c.in-None.ensures.steps [ inl h ↦ inl h.1.0 | inr h ↦ inr h.1.0 ])
