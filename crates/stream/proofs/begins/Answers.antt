-- `begins` meets its contract: its three tests are those of the rule.
-- Assumes nothing.
use mathlib.Core.Bool.{◌||◌}
use mathlib.Core.Path.{sym, ◌∙◌}
use borrow.Author.Rules.{rules}
use Rattle.rules.specs.Bytes.{ascii}
use Rattle.stream.specs.Seams.{opens_name}
use Rattle.stream.proofs.Opened.{begins-tests}
use Rattle.stream.proofs.begins.Goals as goal
use Rattle.stream.proofs.begins.Goals.{then-is_cut, else-is_cut}

pub returns-else-opens_name : goal.returns-else-opens_name
returns-else-opens_name c =
    let s = c.args.rest.now in
    elim c.if-is_cut.branch [
      | then-is_cut w ↦ search rules
      | else-is_cut w ↦
          let e = sym c.is_cut.ensures ∙ w.if-is_cut.false in
          let d = sym w.opens_name.ensures ∙ sym w.value-is ∙ c.if-opens_name.false in
          c.opens_name-else-opens_name.ensures ∙ sym (begins-tests s ∙ (λ i. e i || (d i || opens_name (ascii "</script") s)))
    ]
