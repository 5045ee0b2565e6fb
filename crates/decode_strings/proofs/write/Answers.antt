-- `write` meets its contract: what is written and counted so far, with what the rest of the text gives, is the result of the whole. The measure is
-- what is left of the text.
-- Assumes nothing.
use mathlib.Core.List.{[], ◌∷◌}
use mathlib.Core.Path.{◌≡◌, sym, ap}
use native.Mathlib.Omega.{arith}
use borrow.Author.Rules.{rules}
use Rattle.std.specs.Prelude.{Some, None, ◌+◌, ◌-◌}
use Rattle.rules.proofs.Loops.{from_end}
use Rattle.rules.specs.Contexts.{string_of}
use Rattle.rules.specs.Utf8.{utf8}
use Rattle.rules.specs.Operations.{decode_step}
use Rattle.rules.specs.Moves.{result}
use Rattle.base.proofs.Part.{part_length}
use Rattle.base.proofs.Counted.{counted-quiet, counted-keep, counted-swap, counted-measures, next-quiet, next-keep, next-swap, filled-all}
use Rattle.base.proofs.Filled.{filled-room, filled_put}
use Rattle.decode_strings.proofs.Strings.{string-quiet, slashed-here, told_here, within-rest, none_left}
use Rattle.decode_strings.proofs.write.Goals as goal

pub put_until-e-requires : goal.put_until-e-requires
put_until-e-requires c =
    let a = c.args in
    let t = a.text.now in
    let i = c.loop-i.i in (
      search rules,
      λ r near.
          let next = next-quiet (decode_step (string_of a.language a.quotes)) t i r near.after near.within (string-quiet a.language a.quotes t i r near) in
          omega (arith, near.after, part_length t i r near.after near.within, filled-room c.loop-i.invariant.1 next),
    )

pub loop-i-preserved-then-text-i-ne92 : goal.loop-i-preserved-then-text-i-ne92
loop-i-preserved-then-text-i-ne92 c =
    let a = c.args in
    let t = a.text.now in
    let l = c.loop-i in
    let put = c.put_until-e in
    let near = put.ensures.0 in
    let quiet = string-quiet a.language a.quotes t l.i put.result near in
    let next = next-quiet (decode_step (string_of a.language a.quotes)) t l.i put.result near.after near.within quiet in (
      counted-quiet l.invariant.0 put.result near.after near.within quiet,
      filled_put l.invariant.1 next put.new.output (put.result - l.i) (sym (part_length t l.i put.result near.after near.within)) put.ensures.1,
    )

pub put-at-requires : goal.put-at-requires
put-at-requires c =
    let a = c.args in
    let l = c.loop-i in
    let b = c.in-Some.b in
    let h = slashed-here a.language a.quotes a.text.now l.i b c.in-Some.ensures.finds c.in-Some.ensures.ascii in
    filled-room l.invariant.1 (next-swap (decode_step (string_of a.language a.quotes)) a.text.now l.i 2 (b ∷ []) (omega arith) h.1 h.0)

pub loop-i-preserved-in-Some : goal.loop-i-preserved-in-Some
loop-i-preserved-in-Some c =
    let a = c.args in
    let l = c.loop-i in
    let b = c.in-Some.b in
    let put = c.put-at in
    let h = slashed-here a.language a.quotes a.text.now l.i b c.in-Some.ensures.finds c.in-Some.ensures.ascii in
    let next = next-swap (decode_step (string_of a.language a.quotes)) a.text.now l.i 2 (b ∷ []) (omega arith) h.1 h.0 in
    (rw put.ensures.0 (counted-swap l.invariant.0 2 (b ∷ []) (omega arith) h.1 (omega arith) h.0), filled_put l.invariant.1 next put.new.output put.result put.ensures.0 put.ensures.1)

pub put-at-requires-in_default-read_escape : goal.put-at-requires-in_default-read_escape
put-at-requires-in_default-read_escape c =
    let a = c.args in
    let l = c.loop-i in
    let h = told_here a.language a.quotes a.text.now l.i c.byte_before-before.result None c.in_default.ensures.finds c.byte_before-before.ensures c.in_default-read_escape.ensures in
    filled-room l.invariant.1 (next-keep (decode_step (string_of a.language a.quotes)) a.text.now l.i (search rules) h.moves)

pub loop-i-preserved-in_default-read_escape : goal.loop-i-preserved-in_default-read_escape
loop-i-preserved-in_default-read_escape c =
    let a = c.args in
    let t = a.text.now in
    let l = c.loop-i in
    let put = c.put-at-in_default-read_escape in
    let h = told_here a.language a.quotes t l.i c.byte_before-before.result None c.in_default.ensures.finds c.byte_before-before.ensures c.in_default-read_escape.ensures in
    let next = next-keep (decode_step (string_of a.language a.quotes)) t l.i (search rules) h.moves in
    let one : put.result ≡ 1 = omega (arith, put.ensures.0, part_length t l.i (l.i + 1) (omega arith) (search rules)) in
    (rw one (counted-keep l.invariant.0 (search rules) h.moves), filled_put l.invariant.1 next put.new.output put.result put.ensures.0 put.ensures.1)

pub put_char-at-requires : goal.put_char-at-requires
put_char-at-requires c =
    let a = c.args in
    let l = c.loop-i in
    let e = c.in-Some-read_escape.escape in
    let h = told_here a.language a.quotes a.text.now l.i c.byte_before-before.result (Some e) c.in_default.ensures.finds c.byte_before-before.ensures c.in-Some-read_escape.ensures in
    let w = within-rest a.text.now l.i e h.within in
    (w.3, filled-room l.invariant.1 (next-swap (decode_step (string_of a.language a.quotes)) a.text.now l.i e.taken (utf8 e.character) w.0 w.1 h.moves))

pub loop-i-preserved : goal.loop-i-preserved
loop-i-preserved c =
    let a = c.args in
    let l = c.loop-i in
    let e = c.in-Some-read_escape.escape in
    let put = c.put_char-at in
    let h = told_here a.language a.quotes a.text.now l.i c.byte_before-before.result (Some e) c.in_default.ensures.finds c.byte_before-before.ensures c.in-Some-read_escape.ensures in
    let w = within-rest a.text.now l.i e h.within in
    let next = next-swap (decode_step (string_of a.language a.quotes)) a.text.now l.i e.taken (utf8 e.character) w.0 w.1 h.moves in
    (rw put.ensures.0 (counted-swap l.invariant.0 e.taken (utf8 e.character) w.0 w.1 w.2 h.moves), filled_put l.invariant.1 next put.new.output put.result put.ensures.0 put.ensures.1)

pub returns : goal.returns
returns c =
    let a = c.args in
    let l = c.loop-i in
    let none = from_end (decode_step (string_of a.language a.quotes)) a.text.now l.i (omega arith) in
    (rw c.whole.ensures (counted-measures l.invariant.0 None none (none_left a.language a.quotes a.text.now)), (filled-all l.invariant.1 (ap result none)).1)
