-- `is_line` meets its contract: the field decides, and then the name at what follows it.
-- Assumes nothing.
use mathlib.Core.Path.{sym, ◌∙◌}
use borrow.Author.Tests.{not-true, not-false}
use lib.ListN.{length}
use Rattle.base.proofs.Filled.{lent-rest}
use Rattle.requests.proofs.Header.{stands-within, stands-not, stands_on}
use Rattle.requests.proofs.lines.is_line.Goals as goal

pub returns-then-not-starts : goal.returns-then-not-starts
returns-then-not-starts c = sym (stands-not c.args.field.now c.args.name.now c.args.text.now (sym c.starts.ensures ∙ not-true c.starts.result c.if-not-starts.true-raw))

pub slice_bounds-starts-count : goal.slice_bounds-starts-count
slice_bounds-starts-count c = stands-within c.args.field.now c.args.text.now (sym c.starts.ensures ∙ not-false c.starts.result c.if-not-starts.false-raw)

pub slice_bounds-starts-start : goal.slice_bounds-starts-start
slice_bounds-starts-start c = stands-within c.args.field.now c.args.text.now (sym c.starts.ensures ∙ not-false c.starts.result c.if-not-starts.false-raw)

pub returns : goal.returns
returns c =
    let a = c.args in
    (rw (lent-rest (length a.field.now) a.text.now) at c.starts-2.ensures)
    ∙ sym (stands_on a.field.now a.name.now a.text.now (sym c.starts.ensures ∙ not-false c.starts.result c.if-not-starts.false-raw))
