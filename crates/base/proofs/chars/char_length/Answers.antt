-- `crate::chars::char_length` meets its contract: a character has one byte, and one more for each bound that its number reaches.
-- Assumes nothing.
use borrow.Author.Rules.{rules}
use Rattle.base.proofs.Widths.{utf8-length}
use Rattle.base.proofs.chars.char_length.Goals as goal

pub returns : goal.returns
returns c = (rw (c.reaches.ensures.0, c.reaches-2.ensures.0, c.reaches-3.ensures.0) (utf8-length c.args.number), search rules)
