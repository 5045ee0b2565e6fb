-- `encode_strings::write_part` meets its contract: a part of which nothing is replaced is copied, and of any other the growth tells how many places are
-- replaced.
-- Assumes nothing.
-- Nothing is replaced.
use mathlib.Core.Bool.{true}
use mathlib.Core.Path.{◌≡◌, sym, ap, ◌∙◌}
use Prim.Native.Nat.{◌+◌, ◌-◌, ◌≤◌}
use native.Mathlib.Omega.{arith}
use borrow.Author.Tests.{eqb-true}
use lib.ListN.{length}
use Rattle.rules.specs.Contexts.{written_in}
use Rattle.rules.specs.Encoding.{encode_step}
use Rattle.rules.specs.Moves.{through, replaced}
use Rattle.rules.specs.Operations.{encode_of}
use Rattle.rules.proofs.Growth.{strings-sixfold, encode-whole, encode-six}
use Rattle.rules.proofs.Laws.{encode_same}
use Rattle.encode_strings.specs.Strings.{separates, hex_growth, places_by}
use Rattle.encode_strings.proofs.Parts.{none_left}
use Rattle.encode_strings.proofs.Sums.{growth-tells, never-shorter}
use Rattle.encode_strings.proofs.write_part.Goals as goal
use Rattle.encode_strings.proofs.write_part.Goals.{After-slice_known-2-1, Then-is_copied}

none : (c : Then-is_copied) → let a = c.args in replaced (through (encode_step (written_in a.notation a.quotes)) a.part.now) ≡ 0
none c = eqb-true _ 0 (sym c.is_copied.ensures ∙ c.if-is_copied.true)

-- So the part stays as it is.

stays : (c : Then-is_copied) → let a = c.args in encode_of (written_in a.notation a.quotes) a.part.now ≡ a.part.now
stays c =
    let none-here : let a = c.args in replaced (through (encode_step (written_in a.notation a.quotes)) a.part.now) ≡ 0 =
    eqb-true _ 0 (sym c.is_copied.ensures ∙ c.if-is_copied.true) in
    let a = c.args in (encode_same (written_in a.notation a.quotes) a.part.now).0 (none-here)

-- The growth tells the places.

tells : (c : After-slice_known-2-1)
    → let a = c.args in
    let k = c.count-found.result in
    let more = c.write_bytes-written.result - length a.part.now in
    (separates a.notation ≡ true → k.escaped + hex_growth a.notation k.hexed ≤ more)
    × (places_by a.notation k.escaped k.hexed more ≡ replaced (through (encode_step (written_in a.notation a.quotes)) a.part.now))
tells c =
    let a = c.args in
    let k = c.count-found in
    let w = c.write_bytes-written in
    growth-tells a.notation a.quotes a.part.now k.result.escaped k.result.hexed (w.result - length a.part.now) k.ensures.0 k.ensures.1
    (omega (arith, w.ensures.0, never-shorter a.notation a.quotes a.part.now))

pub count-found-requires : goal.count-found-requires
count-found-requires c = c.requires.0

pub is_copied-requires : goal.is_copied-requires
is_copied-requires c = (c.requires.0, c.count-found.ensures)

pub put-requires : goal.put-requires
put-requires c = omega (arith, ap length (stays (goal.at.put-requires c).Then-is_copied), c.requires.1)

pub returns-then-is_copied : goal.returns-then-is_copied
returns-then-is_copied c =
    let a = c.args in
    let t = c in
    let p = c.put in
    (rw c.whole.ensures (record { long = p.ensures.0 ∙ ap length (sym (stays (goal.at.returns-then-is_copied t).Then-is_copied)); reach = ap length (sym (encode-whole (written_in a.notation a.quotes) a.part.now)); many = sym (none (goal.at.returns-then-is_copied t).Then-is_copied); first = none_left a.notation a.quotes a.part.now }), rw (stays (goal.at.returns-then-is_copied t).Then-is_copied) p.ensures.1)

pub write_bytes-written-requires : goal.write_bytes-written-requires
write_bytes-written-requires c = c.requires.1

pub overflow_sub-written : goal.overflow_sub-written
overflow_sub-written c =
    let a = c.args in
    omega (arith, c.write_bytes-written.ensures.0, never-shorter a.notation a.quotes a.part.now)

pub places-requires : goal.places-requires
places-requires c =
    let s = c in
    ((tells (goal.at.places-requires c).After-slice_known-2-1).0, omega (arith, c.write_bytes-written.ensures.0, s.requires.0, encode-six (written_in s.args.notation s.args.quotes) (strings-sixfold s.args.notation s.args.quotes) s.args.part.now))

pub returns : goal.returns
returns c =
    let a = c.args in
    let w = c.write_bytes-written in
    (rw c.whole-2.ensures (record { long = w.ensures.0; reach = ap length (sym (encode-whole (written_in a.notation a.quotes) a.part.now)); many = c.places.ensures ∙ (tells (goal.at.returns c).After-slice_known-2-1).1; first = none_left a.notation a.quotes a.part.now }), w.ensures.1)
