-- `base::letter_value` meets its contract: by its test.
-- Assumes nothing.
use Rattle.base.specs.Digits.{letter_of}
use Rattle.base.proofs.letter_value.Goals as goal

pub returns-then-is_within : goal.returns-then-is_within
unfolding letter_of
returns-then-is_within c = rw (← c.is_within.ensures, c.if-is_within.true)

pub returns : goal.returns
unfolding letter_of
returns c = rw (← c.is_within.ensures, c.if-is_within.false)
