-- `single` meets its contract: within the text it is the copying call of encode on the record's part, outside it a refusal.
-- Assumes nothing.
use mathlib.Core.Bool.{false}
use mathlib.Core.Path.{sym, ap, ◌∙◌}
use mathlib.Core.List.{List}
use Prim.Native.Nat.{ℕ}
use native.Mathlib.Omega.{arith}
use Rattle.rules.specs.Contexts.{context_of}
use Rattle.rules.specs.Refusals.{answer_of, out_of}
use Rattle.rules.specs.declared.Operation.TheVariants.{Encode}
use Rattle.rules.proofs.Pages.{single-within}
use Rattle.page.proofs.Turns.{part-ends, part-is, outside-is}
use Rattle.page.proofs.single.Goals as goal

pub overflow_add-end : goal.overflow_add-end
overflow_add-end c = let a = c.args in omega (arith, part-ends a.text.now a.field c.in_text.result c.in_text.ensures c.if-in_text.true)

pub slice_bounds-part-end : goal.slice_bounds-part-end
slice_bounds-part-end c = let a = c.args in part-ends a.text.now a.field c.in_text.result c.in_text.ensures c.if-in_text.true

pub returns-else-in_text : goal.returns-else-in_text
returns-else-in_text c =
    let a = c.args in
    let l = outside-is a.text.now a.field a.free.now (sym c.in_text.ensures ∙ c.if-in_text.false) in
    (c.from.ensures ∙ c.outside.ensures ∙ l.0, l.1)

pub returns-then-in_text : goal.returns-then-in_text
returns-then-in_text c =
    let a = c.args in
    let s = c.in_text in
    let l = single-within a.text.now a.field a.free.now (sym s.ensures ∙ c.if-in_text.true) in
    let part = part-is a.field.start a.field.length a.text.now in (
      c.call.ensures.0 ∙ ap (λ (t : List ℕ). answer_of Encode (context_of a.field.context) false t a.free.now) part ∙ sym l.0,
      c.call.ensures.1 ∙ ap (λ (t : List ℕ). out_of Encode (context_of a.field.context) false t a.free.now) part ∙ sym l.1,
    )
