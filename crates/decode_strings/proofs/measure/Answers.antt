-- `measure` meets its contract: what is counted so far, with what the rest of the text gives, is what the whole gives. The measure is what is left.
-- Assumes nothing.
use mathlib.Core.List.{[], ◌∷◌}
use native.Mathlib.Omega.{arith}
use borrow.Author.Rules.{rules}
use Rattle.std.specs.Prelude.{Some, None}
use Rattle.rules.proofs.Loops.{from_end}
use Rattle.rules.specs.Contexts.{string_of}
use Rattle.rules.specs.Utf8.{utf8}
use Rattle.rules.specs.Operations.{decode_step}
use Rattle.base.proofs.Counted.{counted-quiet, counted-keep, counted-swap, counted-measures}
use Rattle.decode_strings.proofs.Strings.{string-quiet, slashed-here, told_here, within-rest, none_left}
use Rattle.decode_strings.proofs.measure.Goals as goal

pub loop-i-preserved-then-text-i-ne92 : goal.loop-i-preserved-then-text-i-ne92
loop-i-preserved-then-text-i-ne92 c =
    let a = c.args in
    let e = c.find_byte-e in
    counted-quiet c.loop-i.invariant e.result e.ensures.after e.ensures.within (string-quiet a.language a.quotes a.text.now c.loop-i.i e.result e.ensures)

pub loop-i-preserved-in-Some : goal.loop-i-preserved-in-Some
loop-i-preserved-in-Some c =
    let a = c.args in
    let b = c.in-Some.field-0 in
    let h = slashed-here a.language a.quotes a.text.now c.loop-i.i b c.in-Some.ensures.finds c.in-Some.ensures.ascii in
    counted-swap c.loop-i.invariant 2 (b ∷ []) (omega arith) h.1 (omega arith) h.0

pub loop-i-preserved-in_default-read_escape : goal.loop-i-preserved-in_default-read_escape
loop-i-preserved-in_default-read_escape c =
    let a = c.args in
    let h = told_here a.language a.quotes a.text.now c.loop-i.i c.byte_before.result None c.in_default.ensures.finds c.byte_before.ensures c.in_default-read_escape.ensures in
    counted-keep c.loop-i.invariant (search rules) h.moves

pub loop-i-preserved : goal.loop-i-preserved
loop-i-preserved c =
    let a = c.args in
    let e = c.in-Some-read_escape.escape in
    let h = told_here a.language a.quotes a.text.now c.loop-i.i c.byte_before.result (Some e) c.in_default.ensures.finds c.byte_before.ensures c.in-Some-read_escape.ensures in
    let w = within-rest a.text.now c.loop-i.i e h.within in
    rw c.char_length-length.ensures.0 (counted-swap c.loop-i.invariant e.taken (utf8 e.character) w.0 w.1 w.2 h.moves)

pub returns : goal.returns
returns c =
    let a = c.args in
    rw c.whole.ensures (counted-measures c.loop-i.invariant None (from_end (decode_step (string_of a.language a.quotes)) a.text.now c.loop-i.i (omega arith)) (none_left a.language a.quotes a.text.now))
