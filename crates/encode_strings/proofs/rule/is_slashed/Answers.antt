-- `encode_strings::rule::is_slashed` meets its contract: the test is the definition's.
-- Assumes nothing.
use borrow.Author.Rules.{rules}
use Rattle.encode_strings.specs.Strings.{is_slashed}
use Rattle.encode_strings.proofs.rule.is_slashed.Goals as goal

pub returns : goal.returns
unfolding is_slashed
returns c = search rules
