-- `encode_strings::rule::is_hexed` meets its contract: the test is the definition's.
-- Assumes nothing.
use borrow.Author.Rules.{rules}
use Rattle.encode_strings.specs.Strings.{is_hexed}
use Rattle.encode_strings.proofs.rule.is_hexed.Goals as goal

pub returns : goal.returns
unfolding is_hexed
returns c = search rules
