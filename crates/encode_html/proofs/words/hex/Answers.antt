-- The digits stand in the fourth and the fifth byte.
-- Assumes nothing.
use Rattle.encode_html.proofs.Choices.{word-hex}
use Rattle.encode_html.proofs.words.hex.Goals as goal

pub returns : goal.returns
returns c = rw (c.hex_digit-first.ensures.0, c.hex_digit-second.ensures.0) (word-hex c.args.b)
