-- `put_field` meets its contract: the name and the number fill the output, and then the end.
-- Assumes nothing.
use mathlib.Core.Path.{refl}
use mathlib.Core.List.{◌++◌}
use native.Mathlib.Omega.{arith}
use lib.ListN.{length-append}
use Rattle.rules.specs.Program.{decimal}
use Rattle.base.proofs.Filled.{filled_put}
use Rattle.base.proofs.Counted.{filled-all}
use Rattle.requests.proofs.Digits.{digits-length}
use Rattle.requests.proofs.Parted.{filled-first, last-part}
use Rattle.requests.proofs.print.put_field.Goals as goal

pub returns : goal.returns
returns c =
    let p = c.put in
    let q = c.put_number-at in
    let s = c in
    let a = s.args in
    let w = a.name.now ++ decimal a.n in
    let e = a.end.now in
    let f = filled-first w e a.output.now q.new.output q.result (omega (arith, s.requires, length-append w e, length-append a.name.now (decimal a.n), digits-length 20 a.n)) q.ensures.0 q.ensures.1 in
    let g = filled-all (filled_put f (last-part e) p.new.output p.result p.ensures.0 p.ensures.1) refl in
    (g.0, g.1, omega (arith, q.ensures.2, p.ensures.0))
