-- `encode_strings::growth::count` meets its contract: it counts what `weigh` does, by the keys of the string.
-- Assumes nothing.
use Rattle.encode_strings.proofs.growth.count.Goals as goal

pub returns : goal.returns
returns c =
    let w = c.weigh.ensures in
    (rw (c.single_key-single.ensures, c.double_key-double.ensures) at w.escaped_value.0, w.escaped_value.1, w.escaped_value.2)
