-- `find_text` meets its contract: the line of the context is found, or it is not, and `text=` stands behind it, or it does not.
-- Assumes nothing.
use mathlib.Core.Bool.{true, false}
use mathlib.Core.Option.{some}
use mathlib.Core.Path.{◌≡◌, sym, ap, ◌∙◌}
use native.Mathlib.Omega.{arith}
use borrow.Author.Tests.{not-true, not-false}
use lib.ListN.{drop}
use Rattle.rules.specs.Bytes.{ascii, stands}
use Rattle.rules.specs.Contexts.{context_names}
use Rattle.rules.specs.Program.{text_of}
use Rattle.rules.specs.declared.AnyContext.TheVariants.{Unknown}
use Rattle.base.proofs.Filled.{lent-rest}
use Rattle.requests.specs.Lines.{lines_of, name_lines, line_found, line_read}
use Rattle.requests.proofs.Header.{line-within, no_line, text-none, text-some, text-within}
use Rattle.requests.proofs.lines.find_text.Goals as goal

pub returns-in_err-line : goal.returns-in_err-line
unfolding lines_of
returns-in_err-line c =
    let s = c.args.request.now in
    rw c.from_residual.ensures
    ((λ o. sym (no_line (ascii "context=") s (text_of o) Unknown context_names (sym (ap line_read c.in_err-line.was) ∙ c.find_line.ensures))), omega arith)

pub slice_bounds-starts-count : goal.slice_bounds-starts-count
unfolding lines_of
slice_bounds-starts-count c = line-within (ascii "context=") (name_lines context_names) c.args.request.now _ _ (sym (ap line_read c.in_ok-line.was) ∙ c.find_line.ensures)

pub slice_bounds-starts-start : goal.slice_bounds-starts-start
unfolding lines_of
slice_bounds-starts-start c = line-within (ascii "context=") (name_lines context_names) c.args.request.now _ _ (sym (ap line_read c.in_ok-line.was) ∙ c.find_line.ensures)

pub returns-then-not-starts : goal.returns-then-not-starts
unfolding lines_of
returns-then-not-starts c =
    let s = c.args.request.now in
    let found : some (c.in_ok-line.line.number, c.in_ok-line.line.length) ≡ line_found (ascii "context=") (name_lines context_names) s = sym (ap line_read c.in_ok-line.was) ∙ c.find_line.ensures in
    let e : stands (ascii "text=") (drop c.in_ok-line.line.length s) ≡ false = sym (rw (lent-rest c.in_ok-line.line.length s) at c.starts.ensures) ∙ not-true c.starts.result c.if-not-starts.true-raw in
    ((λ o. sym (text-none o s c.in_ok-line.line.number c.in_ok-line.line.length found e)), omega arith)

pub overflow_add-result : goal.overflow_add-result
unfolding lines_of
overflow_add-result c =
    let s = c.args.request.now in
    let found : some (c.in_ok-line.line.number, c.in_ok-line.line.length) ≡ line_found (ascii "context=") (name_lines context_names) s = sym (ap line_read c.in_ok-line.was) ∙ c.find_line.ensures in
    let e : stands (ascii "text=") (drop c.in_ok-line.line.length s) ≡ true = sym (rw (lent-rest c.in_ok-line.line.length s) at c.starts.ensures) ∙ not-false c.starts.result c.if-not-starts.false-raw in
    omega (arith, text-within s c.in_ok-line.line.length (line-within (ascii "context=") (name_lines context_names) s c.in_ok-line.line.number c.in_ok-line.line.length found) e)

pub returns : goal.returns
unfolding lines_of
returns c =
    let s = c.args.request.now in
    let found : some (c.in_ok-line.line.number, c.in_ok-line.line.length) ≡ line_found (ascii "context=") (name_lines context_names) s = sym (ap line_read c.in_ok-line.was) ∙ c.find_line.ensures in
    let e : stands (ascii "text=") (drop c.in_ok-line.line.length s) ≡ true = sym (rw (lent-rest c.in_ok-line.line.length s) at c.starts.ensures) ∙ not-false c.starts.result c.if-not-starts.false-raw in
    ((λ o. sym (text-some o s c.in_ok-line.line.number c.in_ok-line.line.length found e)), text-within s c.in_ok-line.line.length (line-within (ascii "context=") (name_lines context_names) s c.in_ok-line.line.number c.in_ok-line.line.length found) e)
