-- By the byte after the `&`: it is a number, or one of the three known references, or a name.
-- Assumes nothing.
use Rattle.decode_html.proofs.Known.{known-gives}
use Rattle.decode_html.proofs.entity.find_body.Goals as goal

pub returns : goal.returns
returns c =
    let n = c.known_length-length in
    rw c.known_value.ensures (known-gives c.args.text.now c.args.start n.result c.requires.0 (n.ensures c.if-length-eq0.false))
