-- `is_lead` meets its contract: its tests are the definition's, either way.
-- Assumes nothing.
use borrow.Author.Tests.{eq-eqb, ne_eqb}
use Rattle.reader.specs.Replaced.{is_lead}
use Rattle.reader.proofs.replaced.is_lead.Goals as goal

pub returns-then-leads-eq1 : goal.returns-then-leads-eq1
unfolding is_lead
returns-then-leads-eq1 c = rw (eq-eqb _ 1 c.if-leads-eq1.true, c.is_letter_or_digit.ensures)

pub returns : goal.returns
unfolding is_lead
returns c = rw (ne_eqb _ 1 c.if-leads-eq1.false, c.is_within-ranged.ensures)
