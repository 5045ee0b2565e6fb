-- `put_hex` meets its contract.
-- Assumes nothing.
use Rattle.rules.specs.Tables.{hex_digit, numeral}
use Rattle.rules.specs.Bytes.{ascii}
use Rattle.encode_ascii.proofs.Parts.{first_part, rest_part}
use Rattle.base.proofs.Filled.{filled_put}
use Rattle.base.proofs.Counted.{filled-all}
use lib.ListN.{length-append}
use mathlib.Core.Path.{refl}
use native.Mathlib.Omega.{arith}
use Rattle.encode_ascii.proofs.characters.put_hex.Goals as goal

pub returns : goal.returns
returns c = let w = ascii "&#x" in
    let d = numeral hex_digit 16 6 c.args.code in
    let f = first_part w d c.args.room.now c.put-at.new.output c.put-at.result (omega (arith, c.requires.2, length-append w d, c.put-at.ensures.0, c.put_digits.ensures.0, c.put_digits.ensures.2)) c.put-at.ensures.0 c.put-at.ensures.1 in
    let g = filled-all (filled_put f (rest_part d) c.put_digits.new.room c.put_digits.result c.put_digits.ensures.0 c.put_digits.ensures.1) refl in
    ((g.0, g.1), omega (arith, c.put-at.ensures.0, c.put_digits.ensures.2))
