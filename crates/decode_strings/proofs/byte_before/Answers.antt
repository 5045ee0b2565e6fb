-- `byte_before` meets its contract: the start of the text, or the byte one place back.
-- Assumes nothing.
use Rattle.decode_strings.proofs.Strings.{before_at}
use Rattle.decode_strings.proofs.byte_before.Goals as goal

pub returns : goal.returns
returns c = before_at c.args.text.now c.args.i (λ z. c.if-i-eq0.false z)
