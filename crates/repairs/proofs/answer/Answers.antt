-- `answer` meets its contract: the field of the request is repaired, or there is no request.
-- Assumes nothing.
use mathlib.Core.Option.{Option}
use Rattle.std.specs.Prelude.{Option as Maybe}
use mathlib.Core.Path.{sym, ap, ◌∙◌, subst}
use mathlib.Core.List.{List}
use Prim.Native.Nat.{ℕ, ◌≤◌}
use lib.ListN.{length}
use Rattle.rules.specs.Contexts.{context_of}
use Rattle.rules.specs.Refusals.{Call}
use Rattle.rules.specs.declared.Operation.TheVariants.{Read}
use Rattle.base.proofs.Filled.{lent-rest}
use Rattle.requests.specs.Asked.{call_at, text_start, Prints}
use Rattle.requests.specs.declared.lines.Line.{Line}
use Rattle.repairs.specs.Repair.{repaired, repaired_by}
use Rattle.repairs.proofs.answer.Goals as goal

pub returns-in_default : goal.returns-in_default
returns-in_default c =
    let a = c.args in
    let f = c.find_text in
    let r = c.refuse in
    subst (λ (k : Option Call). Prints (repaired_by k) r.result a.output.now r.new.output)
    (sym (ap (call_at Read a.input.now) c.in_default.is) ∙ f.ensures.0 Read) r.ensures

pub slice_bounds-repair-count : goal.slice_bounds-repair-count
slice_bounds-repair-count c = subst (λ (l : Maybe Line). text_start l ≤ length c.args.input.now) c.in-Some.is c.find_text.ensures.1

pub slice_bounds-repair-start : goal.slice_bounds-repair-start
slice_bounds-repair-start c = subst (λ (l : Maybe Line). text_start l ≤ length c.args.input.now) c.in-Some.is c.find_text.ensures.1

pub returns : goal.returns
returns c =
    let a = c.args in
    let f = c.find_text in
    let w = c.repair in
    subst (λ (k : Option Call). Prints (repaired_by k) w.result a.output.now w.new.output)
    (sym (ap (call_at Read a.input.now) c.in-Some.is) ∙ f.ensures.0 Read)
    (subst (λ (t : List ℕ). Prints (repaired (context_of c.in-Some.line.number) t) w.result a.output.now w.new.output) (lent-rest c.in-Some.line.length a.input.now) w.ensures)
