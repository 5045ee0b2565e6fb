-- `put_line` meets its contract: the place fills the output, and then the reason with the line's end.
-- Assumes nothing.
use mathlib.Core.Path.{refl, ap, ◌∙◌}
use mathlib.Core.List.{List, ◌++◌}
use Prim.Native.Nat.{ℕ}
use native.Mathlib.Omega.{arith}
use lib.ListN.{length}
use Rattle.rules.specs.Bytes.{ascii, over}
use Rattle.rules.specs.Program.{decimal}
use Rattle.base.proofs.Filled.{filled_put}
use Rattle.base.proofs.Counted.{filled-all}
use Rattle.requests.proofs.Parted.{filled-first, last-part}
use Rattle.reports.proofs.Lines.{line-parts, line-room}
use Rattle.reports.proofs.put_line.Goals as goal

pub returns : goal.returns
returns c =
    let p = c.put_field in
    let q = c.put_number-at in
    let s = c in
    let a = s.args in
    let w = ascii "place=" ++ decimal a.place in
    let e = ascii " reason=" ++ decimal a.reason ++ ascii "\n" in
    let f = filled-first w e a.output.now q.new.output q.result (omega (arith, s.requires, ap length (line-parts a.place a.reason), line-room a.place a.reason)) q.ensures.0 q.ensures.1 in
    let g = filled-all (filled_put f (last-part e) p.new.output p.result p.ensures.0 p.ensures.1) refl in
    let l = line-parts a.place a.reason in
    (g.0 ∙ ap length l, g.1 ∙ ap (λ (x : List ℕ). over x a.output.now) l, omega (arith, g.0, ap length l, line-room a.place a.reason))
