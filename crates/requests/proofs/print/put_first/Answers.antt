-- `put_first` meets its contract: the three parts fill the output, one after the other.
-- Assumes nothing.
use mathlib.Core.Path.{refl, ap, ◌∙◌}
use mathlib.Core.List.{List, ◌++◌}
use Prim.Native.Nat.{ℕ}
use native.Mathlib.Omega.{arith}
use lib.ListN.{length}
use Rattle.rules.specs.Bytes.{over}
use Rattle.base.proofs.Filled.{filled_put}
use Rattle.base.proofs.Counted.{filled-all}
use Rattle.requests.proofs.Parted.{filled-first, next-part, last-part, status_part, length_part, same_part, first-room, first-parts}
use Rattle.requests.proofs.print.put_first.Goals as goal

pub returns : goal.returns
returns c =
    let s = c in
    let a = s.args.answer in
    let o = s.args.output.now in
    let room = first-room a in
    let status = c.put_number-at in
    let long = c.put_number-at-2 in
    let same = c.put_number-at-3 in
    let f = filled-first (status_part a) (length_part a ++ same_part a) o status.new.output status.result (omega (arith, room, s.requires)) status.ensures.0 status.ensures.1 in
    let g = filled_put f (next-part (length_part a) (same_part a)) long.new.output long.result long.ensures.0 long.ensures.1 in
    let all = filled-all (filled_put g (last-part (same_part a)) same.new.output same.result same.ensures.0 same.ensures.1) refl in
    (all.0 ∙ ap length (first-parts a), all.1 ∙ ap (λ (l : List ℕ). over l o) (first-parts a), omega (arith, all.0, room))
