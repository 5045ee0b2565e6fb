-- `hex` meets its contract: the two digits stand where the escape has them.
-- Assumes nothing.
use native.Mathlib.Omega.{arith}
use Rattle.base.specs.Words.{word_of}
use Rattle.strings_ahead.proofs.words.hex.Goals as goal

pub returns-in-Script : goal.returns-in-Script
unfolding word_of
returns-in-Script c = rw (c.in-Script.is, c.hex_digit-high.ensures.0, c.hex_digit-low.ensures.0) (omega arith)

pub returns-in-Style : goal.returns-in-Style
unfolding word_of
returns-in-Style c = rw (c.in-Style.is, c.hex_digit-high.ensures.0, c.hex_digit-low.ensures.0) (omega arith)

pub returns-in-Json : goal.returns-in-Json
unfolding word_of
returns-in-Json c = rw (c.in-Json.is, c.hex_digit-high.ensures.0, c.hex_digit-low.ensures.0) (omega arith)
