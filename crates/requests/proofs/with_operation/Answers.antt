-- `with_operation` meets its contract: the line is found, and the request goes on after it, or it is not. The table of names is that of the definitions,
-- by computation.
-- Assumes nothing.
use mathlib.Core.Option.{Option}
use mathlib.Core.Path.{sym, ap, ◌∙◌, subst}
use mathlib.Core.List.{List}
use Prim.Native.Nat.{ℕ}
use lib.ListN.{drop}
use Rattle.rules.specs.Contexts.{operation_names}
use Rattle.rules.specs.Program.{context_line}
use Rattle.rules.specs.declared.Operation.{Operation}
use Rattle.rules.specs.declared.Operation.TheVariants.{Browse}
use Rattle.rules.specs.Bytes.{ascii}
use Rattle.rules.specs.Refusals.{Call}
use Rattle.base.proofs.Filled.{lent-rest}
use Rattle.requests.specs.Asked.{printed_by, Prints}
use Rattle.requests.specs.Lines.{lines_of, name_lines, line_read}
use Rattle.requests.proofs.Header.{line-within, no_line, after_line}
use Rattle.requests.proofs.with_operation.Goals as goal

pub returns-in_default : goal.returns-in_default
unfolding lines_of
returns-in_default c = let a = c.args in
    let r = c.refuse in
    subst (λ (k : Option Call). Prints (printed_by k) r.result a.output.now r.new.output)
    (sym (no_line (ascii "op=") a.input.now context_line Browse operation_names (sym (ap line_read c.in_default.is) ∙ c.find_line.ensures))) r.ensures

pub slice_bounds-with_context-count : goal.slice_bounds-with_context-count
unfolding lines_of
slice_bounds-with_context-count c = line-within (ascii "op=") (name_lines operation_names) c.args.input.now _ _ (sym (ap line_read c.in-Some.is) ∙ c.find_line.ensures)

pub slice_bounds-with_context-start : goal.slice_bounds-with_context-start
unfolding lines_of
slice_bounds-with_context-start c = line-within (ascii "op=") (name_lines operation_names) c.args.input.now _ _ (sym (ap line_read c.in-Some.is) ∙ c.find_line.ensures)

pub returns : goal.returns
unfolding lines_of
returns c = let a = c.args in
    let w = c.with_context in
    let n = c.in-Some.line.length in
    subst (λ (k : Option Call). Prints (printed_by k) w.result a.output.now w.new.output)
    (sym (after_line (ascii "op=") a.input.now context_line Browse operation_names _ n (sym (ap line_read c.in-Some.is) ∙ c.find_line.ensures)))
    (subst (λ (o : Operation). Prints (printed_by (context_line o (drop n a.input.now))) w.result a.output.now w.new.output) c.operation_of-operation.ensures
    (subst (λ (t : List ℕ). Prints (printed_by (context_line c.operation_of-operation.result t)) w.result a.output.now w.new.output) (lent-rest n a.input.now) w.ensures))
