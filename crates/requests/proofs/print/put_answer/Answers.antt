-- `put_answer` meets its contract: the first lines and the parts after them fill the output, one after the other.
-- Assumes nothing.
use mathlib.Core.Path.{refl, ap, ◌∙◌}
use mathlib.Core.List.{List, ◌++◌}
use Prim.Native.Nat.{ℕ}
use native.Mathlib.Omega.{arith}
use lib.ListN.{length}
use Rattle.rules.specs.Bytes.{over}
use Rattle.base.proofs.Filled.{filled_put}
use Rattle.base.proofs.Counted.{filled-all}
use Rattle.requests.specs.Asked.{first_lines}
use Rattle.requests.proofs.Parted.{filled-first, next-part, last-part, replaced_part, place_part, text_part, parts-room, printed-parts}
use Rattle.requests.proofs.print.put_answer.Goals as goal

pub returns : goal.returns
returns c =
    let s = c in
    let a = s.args.answer in
    let o = s.args.output.now in
    let room = parts-room a in
    let first = c.put_first-at in
    let replaced = c.put_number-at in
    let place = c.put_number-at-2 in
    let put = c.put-at in
    let f = filled-first (first_lines a) (replaced_part a ++ (place_part a ++ text_part)) o first.new.output first.result (omega (arith, room, s.requires)) first.ensures.0 first.ensures.1 in
    let g = filled_put f (next-part (replaced_part a) (place_part a ++ text_part)) replaced.new.output replaced.result replaced.ensures.0 replaced.ensures.1 in
    let h = filled_put g (next-part (place_part a) text_part) place.new.output place.result place.ensures.0 place.ensures.1 in
    let all = filled-all (filled_put h (last-part text_part) put.new.output put.result put.ensures.0 put.ensures.1) refl in
    (all.0 ∙ ap length (printed-parts a), all.1 ∙ ap (λ (l : List ℕ). over l o) (printed-parts a), omega (arith, all.0, room))
