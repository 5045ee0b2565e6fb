-- `with_context` meets its contract: the call that the header asks for is made, or there is none.
-- Assumes nothing.
use mathlib.Core.Option.{Option}
use Rattle.std.specs.Prelude.{Option as Maybe}
use mathlib.Core.Path.{sym, ap, ◌∙◌, subst}
use mathlib.Core.List.{List}
use Prim.Native.Nat.{ℕ, ◌≤◌}
use lib.ListN.{length}
use Rattle.rules.specs.Program.{printed_call}
use Rattle.rules.specs.Refusals.{Call}
use Rattle.base.proofs.Filled.{lent-rest}
use Rattle.requests.specs.Asked.{asked, call_at, text_start, printed_by, Prints}
use Rattle.requests.specs.declared.lines.Line.{Line}
use Rattle.requests.proofs.with_context.Goals as goal

pub returns-in_default : goal.returns-in_default
returns-in_default c =
    let a = c.args in
    let f = c.find_text in
    let r = c.refuse in
    subst (λ (k : Option Call). Prints (printed_by k) r.result a.output.now r.new.output)
    (sym (ap (call_at a.operation a.rest.now) c.in_default.is) ∙ f.ensures.0 a.operation) r.ensures

pub slice_bounds-converse-count : goal.slice_bounds-converse-count
slice_bounds-converse-count c = subst (λ (l : Maybe Line). text_start l ≤ length c.args.rest.now) c.in-Some.is c.find_text.ensures.1

pub slice_bounds-converse-start : goal.slice_bounds-converse-start
slice_bounds-converse-start c = subst (λ (l : Maybe Line). text_start l ≤ length c.args.rest.now) c.in-Some.is c.find_text.ensures.1

pub returns : goal.returns
returns c =
    let a = c.args in
    let f = c.find_text in
    let w = c.converse in
    subst (λ (k : Option Call). Prints (printed_by k) w.result a.output.now w.new.output)
    (sym (ap (call_at a.operation a.rest.now) c.in-Some.is) ∙ f.ensures.0 a.operation)
    (subst (λ (t : List ℕ). Prints (printed_call (asked a.operation c.in-Some.line.number t 60074)) w.result a.output.now w.new.output) (lent-rest c.in-Some.line.length a.rest.now) w.ensures)
