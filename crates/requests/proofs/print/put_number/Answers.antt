-- `put_number` meets its contract: the name fills the output, and then the digits.
-- Assumes nothing.
use mathlib.Core.Path.{refl}
use native.Mathlib.Omega.{arith}
use lib.ListN.{length-append}
use Rattle.rules.specs.Program.{decimal}
use Rattle.base.proofs.Filled.{filled_put}
use Rattle.base.proofs.Counted.{filled-all}
use Rattle.requests.proofs.Digits.{digits-length}
use Rattle.requests.proofs.Parted.{filled-first, last-part}
use Rattle.requests.proofs.print.put_number.Goals as goal

pub returns : goal.returns
returns c = let a = c.args in
    let d = decimal a.n in
    let f = filled-first a.name.now d a.output.now c.put-at.new.output c.put-at.result (omega (arith, c.requires, length-append a.name.now d, digits-length 20 a.n)) c.put-at.ensures.0 c.put-at.ensures.1 in
    let g = filled-all (filled_put f (last-part d) c.put_digits.new.output c.put_digits.result c.put_digits.ensures.0 c.put_digits.ensures.1) refl in
    (g.0, g.1, omega (arith, c.put-at.ensures.0, c.put_digits.ensures.2))
