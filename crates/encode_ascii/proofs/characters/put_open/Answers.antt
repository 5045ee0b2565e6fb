-- `put_open` meets its contract.
-- Assumes nothing.
use Rattle.rules.specs.Browsing.{given}
use Rattle.rules.specs.Ascii.{name_of}
use Rattle.rules.specs.Utf8.{utf8}
use Rattle.rules.specs.Bytes.{ascii}
use Rattle.encode_ascii.proofs.Parts.{first_part, rest_part}
use Rattle.base.proofs.Filled.{filled_put}
use Rattle.base.proofs.Counted.{filled-all}
use lib.ListN.{length-append}
use mathlib.Core.Path.{refl}
use native.Mathlib.Omega.{arith}
use Rattle.encode_ascii.proofs.characters.put_open.Goals as goal

pub returns : goal.returns
returns c = let w = ascii "&" in
    let d = given (name_of (utf8 c.args.code)) in
    let f = first_part w d c.args.room.now c.put-at.new.output c.put-at.result (omega (arith, c.requires.2, length-append w d, c.put-at.ensures.0, c.put_name.ensures.0.0, c.put_name.ensures.1)) c.put-at.ensures.0 c.put-at.ensures.1 in
    let g = filled-all (filled_put f (rest_part d) c.put_name.new.room c.put_name.result c.put_name.ensures.0.0 c.put_name.ensures.0.1) refl in
    ((g.0, g.1), omega (arith, c.put-at.ensures.0, c.put_name.ensures.1))
