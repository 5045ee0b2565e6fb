-- `write_bytes` meets its contract: what is found at a place is what is written next. The invariant is that of every writing loop, `Filled`; the
-- measure is what is left of the text.
-- Assumes nothing.
use Rattle.std.specs.Prelude.{Some, None}
use mathlib.Core.List.{[], ◌∷◌}
use mathlib.Core.Path.{◌≡◌, refl}
use Prim.Native.Nat.{ℕ, ◌+◌, ◌-◌, ◌≤◌}
use native.Mathlib.Omega.{arith}
use borrow.Author.Rules.{rules}
use lib.ListN.{length, take, drop, get_or, length-drop}
use Rattle.rules.specs.Contexts.{written_in}
use Rattle.rules.specs.Moves.{gives}
use Rattle.rules.specs.Answers.{replacement_move}
use Rattle.rules.specs.Operations.{encode_of}
use Rattle.base.proofs.Filled.{Next, filled-start, filled_next, filled-room, filled_put, filled-end, lent-rest}
use Rattle.encode_strings.specs.Strings.{taken_by}
use Rattle.encode_strings.proofs.Steps.{FoundAt, held-within, next-found, next-byte, encode-end}
use Rattle.encode_strings.proofs.escapes.write_bytes.Goals as goal
use Rattle.encode_strings.proofs.escapes.write_bytes.Goals.{In-Some, In_default}

-- What is found at a place.

kind : (c : In-Some)
    → let a = c.args in
    let l = c.loop-i in
    FoundAt a.notation a.quotes a.text.now l.i (Some c.in-Some.found)
kind c = rw c.in-Some.is at c.escape.ensures

next : (c : In-Some)
    → let a = c.args in
    let l = c.loop-i in
    (n : ℕ) → n ≡ taken_by c.in-Some.found
    → Next (encode_of (written_in a.notation a.quotes) (drop l.i a.text.now)) (gives (replacement_move a.notation (take (length a.text.now - l.i) (drop l.i a.text.now)) c.in-Some.found)) (encode_of (written_in a.notation a.quotes) (drop (l.i + n) a.text.now))
next c =
    let kind-here : let a = c.args in
    let l = c.loop-i in
    FoundAt a.notation a.quotes a.text.now l.i (Some c.in-Some.found) =
    rw c.in-Some.is at c.escape.ensures in
    let a = c.args in
    let l = c.loop-i in
    let loop-test = c.loop-i-test in
    next-found a.notation a.quotes a.text.now l.i loop-test.true c.in-Some.found (kind-here).0 (kind-here).1

ends : (c : In-Some)
    → let a = c.args in
    let l = c.loop-i in
    taken_by c.in-Some.found ≤ length a.text.now - l.i
ends c =
    let kind-here : let a = c.args in
    let l = c.loop-i in
    FoundAt a.notation a.quotes a.text.now l.i (Some c.in-Some.found) =
    rw c.in-Some.is at c.escape.ensures in
    rw (lent-rest, length-drop) at (held-within c.in-Some.found _ (kind-here).1)

byte : (c : In_default)
    → let a = c.args in
    let l = c.loop-i in
    Next (encode_of (written_in a.notation a.quotes) (drop l.i a.text.now)) (get_or a.text.now l.i 0 ∷ []) (encode_of (written_in a.notation a.quotes) (drop (l.i + 1) a.text.now))
byte c =
    let a = c.args in
    let l = c.loop-i in
    let loop-test = c.loop-i-test in
    let f : FoundAt a.notation a.quotes a.text.now l.i None = rw c.in_default.is at c.escape.ensures in
    next-byte a.notation a.quotes a.text.now l.i loop-test.true f.0

pub loop-i-init : goal.loop-i-init
loop-i-init c = (search rules, filled-start _ _ c.requires)

pub escape-requires : goal.escape-requires
escape-requires c = rw (lent-rest, length-drop) (search rules)

pub put-at-requires : goal.put-at-requires
put-at-requires c = filled-room c.loop-i.invariant.1 (byte (goal.at.put-at-requires c).In_default)

pub overflow_add-at : goal.overflow_add-at
overflow_add-at c =
    omega (arith, c.put-at.ensures.0, filled_next c.loop-i.invariant.1 (byte (goal.at.overflow_add-at c).In_default))

pub loop-i-preserved-in_default : goal.loop-i-preserved-in_default
loop-i-preserved-in_default c =
    let l = c.loop-i in
    let put = c.put-at in
    (search rules, filled_put l.invariant.1 (byte (goal.at.loop-i-preserved-in_default c).In_default) put.new.output put.result put.ensures.0 put.ensures.1)

pub put_found-at-requires : goal.put_found-at-requires
put_found-at-requires c =
    ((kind (goal.at.put_found-at-requires c).In-Some).1, filled-room c.loop-i.invariant.1 (next (goal.at.put_found-at-requires c).In-Some _ refl))

pub overflow_add-at-in-loop-i : goal.overflow_add-at-in-loop-i
overflow_add-at-in-loop-i c =
    omega (arith, c.put_found-at.ensures.0, filled_next c.loop-i.invariant.1 (next (goal.at.overflow_add-at-in-loop-i c).In-Some _ refl))

pub overflow_add-i-in-loop-i : goal.overflow_add-i-in-loop-i
overflow_add-i-in-loop-i c = omega (arith, c.taken-i.ensures.0, ends (goal.at.overflow_add-i-in-loop-i c).In-Some)

pub loop-i-smaller : goal.loop-i-smaller
loop-i-smaller c = omega (arith, c.taken-i.ensures.1)

pub loop-i-preserved : goal.loop-i-preserved
loop-i-preserved c =
    let l = c.loop-i in
    let put-found = c.put_found-at in
    (omega (arith, c.taken-i.ensures.0, ends (goal.at.loop-i-preserved c).In-Some), filled_put l.invariant.1 (next (goal.at.loop-i-preserved c).In-Some c.taken-i.result c.taken-i.ensures.0) put-found.new.output put-found.result put-found.ensures.0 put-found.ensures.1)

pub returns : goal.returns
returns c =
    let a = c.args in
    let l = c.loop-i in
    let f = rw (encode-end (written_in a.notation a.quotes) a.text.now l.i c.loop-i-test.false) at l.invariant.1 in
    (omega (arith, f.sum), filled-end f)
