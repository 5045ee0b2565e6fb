-- `put_number` meets its contract.
-- Assumes nothing.
use Rattle.rules.specs.Tables.{hex_digit, numeral}
use Rattle.rules.specs.Bytes.{ascii}
use mathlib.Core.List.{◌++◌}
use Rattle.encode_ascii.proofs.Parts.{first_part, rest_part}
use Rattle.base.proofs.Filled.{filled_put}
use Rattle.base.proofs.Counted.{filled-all}
use lib.ListN.{length-append}
use mathlib.Core.Path.{refl}
use native.Mathlib.Omega.{arith}
use Rattle.encode_ascii.proofs.characters.put_number.Goals as goal

pub returns : goal.returns
returns c = let w = ascii "&#x" ++ numeral hex_digit 16 6 c.args.code in
    let d = ascii ";" in
    let f = first_part w d c.args.room.now c.put_hex-at.new.room c.put_hex-at.result (omega (arith, c.requires.2, length-append w d, c.put_hex-at.ensures.0.0, c.put.ensures.0, c.put_hex-at.ensures.1)) c.put_hex-at.ensures.0.0 c.put_hex-at.ensures.0.1 in
    let g = filled-all (filled_put f (rest_part d) c.put.new.output c.put.result c.put.ensures.0 c.put.ensures.1) refl in
    ((g.0, g.1), omega (arith, c.put.ensures.0, c.put_hex-at.ensures.1))
