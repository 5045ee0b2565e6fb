-- `write` meets its contract: what is written so far, with what the reader gives of the rest, is the result of the whole; the next place is that of
-- the next backslash (Turns, Kept). The measure is what is left of the text.
-- Assumes nothing.
use mathlib.Core.Path.{◌≡◌, refl, sym, ap, ◌∙◌, subst}
use Prim.Native.Nat.{ℕ, ◌+◌, ◌≤◌}
use native.Mathlib.Omega.{arith}
use lib.ListN.{length, get_or}
use Rattle.rules.proofs.Loops.{from_end}
use Rattle.rules.specs.Contexts.{string_of}
use Rattle.rules.specs.Moves.{result}
use Rattle.base.proofs.Counted.{Counted, counted_start, filled_within}
use Rattle.base.proofs.Filled.{filled-start, filled-room, filled_next, filled_put}
use Rattle.base.specs.Places.{Nearest}
use Rattle.marks.proofs.Kept.{start-after}
use Rattle.reader.proofs.Bytewise.{byte-result}
use Rattle.reader.specs.Units.{byte_step}
use Rattle.read_strings.specs.Units.{length_of, end_of}
use Rattle.marks.proofs.Ahead.{as_long_lem, filled-self, filled-exact}
use Rattle.read_strings.proofs.Clearing.{clear-valid}
use Rattle.read_strings.proofs.Forms.{length_two}
use Rattle.read_strings.proofs.Turns.{ruleless, at_least, second-within, whole_fresh, mark-room, mark-copied, mark-size, unit-after, count-mark, count-unit, next-unit}
use Rattle.read_strings.proofs.fill.write.Goals as goal

pub loop-i-init : goal.loop-i-init
loop-i-init c =
    let a = c.args in
    let t = a.text.now in
    (counted_start (byte_step (string_of a.language a.quotes)) t, rw (byte-result (string_of a.language a.quotes) (ruleless a.language a.quotes) t (clear-valid a.language a.quotes t c.requires.clear.0)) (filled-start _ _ (as_long_lem c.requires.kept_in_bounds.2)), λ z. refl, c.requires.kept_in_bounds.2)

pub next_kept-mark-requires : goal.next_kept-mark-requires
next_kept-mark-requires c =
    let a = c.args in
    let t = a.text.now in
    let l = c.loop-i in
    let clear = c.requires.clear.0 in
    (l.invariant.0.inside, (λ k b. (clear k b).0), c.requires.kept_in_bounds.0, λ z. subst (λ (s : ℕ). Nearest t s 92 (get_or a.places.now l.k 0)) (sym (l.invariant.2 (omega arith))) (c.requires.kept_in_bounds.1 l.k z (omega (arith, z, c.requires.kept_in_bounds.0))).0)

pub slice_bounds-put_ahead-count : goal.slice_bounds-put_ahead-count
slice_bounds-put_ahead-count c = filled_within c.loop-i.invariant.1

pub slice_bounds-put_ahead-start : goal.slice_bounds-put_ahead-start
slice_bounds-put_ahead-start c = filled_within c.loop-i.invariant.1

pub put_ahead-at-requires : goal.put_ahead-at-requires
put_ahead-at-requires c =
    let a = c.args in
    let t = a.text.now in
    let l = c.loop-i in
    let clear = c.requires.clear.0 in
    let whole = c.requires.clear.1 in
    let fresh = whole_fresh a.language a.quotes t clear l.i l.at l.k l.invariant.0 whole in
    let p = c.next_kept-mark.ensures.0 in
    (p.after, p.within, omega (arith, mark-room a.language a.quotes t clear l.i l.invariant.1 fresh c.next_kept-mark.result p))

pub overflow_add-at : goal.overflow_add-at
overflow_add-at c =
    let a = c.args in
    let t = a.text.now in
    let l = c.loop-i in
    let clear = c.requires.clear.0 in
    let whole = c.requires.clear.1 in
    let fresh = whole_fresh a.language a.quotes t clear l.i l.at l.k l.invariant.0 whole in
    let p = c.next_kept-mark.ensures.0 in
    let mark = c.next_kept-mark.result in
    let copied = mark-copied a.language a.quotes t clear l.i mark l.invariant.1 p fresh c.put_ahead-at.new.output c.put_ahead-at.result c.put_ahead-at.ensures.0 c.put_ahead-at.ensures.1 c.put_ahead-at.ensures.2 in
    omega (arith, filled_within copied)

pub returns-then-mark-text : goal.returns-then-mark-text
returns-then-mark-text c =
    let a = c.args in
    let t = a.text.now in
    let l = c.loop-i in
    let clear = c.requires.clear.0 in
    let whole = c.requires.clear.1 in
    let fresh = whole_fresh a.language a.quotes t clear l.i l.at l.k l.invariant.0 whole in
    let p = c.next_kept-mark.ensures.0 in
    let mark = c.next_kept-mark.result in
    let copied = mark-copied a.language a.quotes t clear l.i mark l.invariant.1 p fresh c.put_ahead-at.new.output c.put_ahead-at.result c.put_ahead-at.ensures.0 c.put_ahead-at.ensures.1 c.put_ahead-at.ensures.2 in
    filled-exact copied (ap result (from_end (byte_step (string_of a.language a.quotes)) t mark (omega (arith, c.if-mark-text.true))))
    (l.invariant.3 ∙ sym (mark-size a.language a.quotes t clear l.i mark l.invariant.1 p fresh c.put_ahead-at.new.output c.put_ahead-at.ensures.1))

pub slice_bounds-put_char-count : goal.slice_bounds-put_char-count
slice_bounds-put_char-count c =
    let a = c.args in
    let t = a.text.now in
    let l = c.loop-i in
    let clear = c.requires.clear.0 in
    let whole = c.requires.clear.1 in
    let fresh = whole_fresh a.language a.quotes t clear l.i l.at l.k l.invariant.0 whole in
    let p = c.next_kept-mark.ensures.0 in
    let mark = c.next_kept-mark.result in
    let copied = mark-copied a.language a.quotes t clear l.i mark l.invariant.1 p fresh c.put_ahead-at.new.output c.put_ahead-at.result c.put_ahead-at.ensures.0 c.put_ahead-at.ensures.1 c.put_ahead-at.ensures.2 in
    filled_within copied

pub slice_bounds-put_char-start : goal.slice_bounds-put_char-start
slice_bounds-put_char-start c =
    let a = c.args in
    let t = a.text.now in
    let l = c.loop-i in
    let clear = c.requires.clear.0 in
    let whole = c.requires.clear.1 in
    let fresh = whole_fresh a.language a.quotes t clear l.i l.at l.k l.invariant.0 whole in
    let p = c.next_kept-mark.ensures.0 in
    let mark = c.next_kept-mark.result in
    let copied = mark-copied a.language a.quotes t clear l.i mark l.invariant.1 p fresh c.put_ahead-at.new.output c.put_ahead-at.result c.put_ahead-at.ensures.0 c.put_ahead-at.ensures.1 c.put_ahead-at.ensures.2 in
    filled_within copied

pub put_char-at-requires : goal.put_char-at-requires
put_char-at-requires c =
    let a = c.args in
    let t = a.text.now in
    let l = c.loop-i in
    let clear = c.requires.clear.0 in
    let whole = c.requires.clear.1 in
    let fresh = whole_fresh a.language a.quotes t clear l.i l.at l.k l.invariant.0 whole in
    let p = c.next_kept-mark.ensures.0 in
    let mark = c.next_kept-mark.result in
    let copied = mark-copied a.language a.quotes t clear l.i mark l.invariant.1 p fresh c.put_ahead-at.new.output c.put_ahead-at.result c.put_ahead-at.ensures.0 c.put_ahead-at.ensures.1 c.put_ahead-at.ensures.2 in
    let u = unit-after a.language a.quotes t clear l.i l.at l.k mark l.invariant.0 whole p c.if-mark-text.false in
    let byte = (c.shared_slice_known-1.given (mark + 1)).fits in
    let two = length_two (get_or t (mark + 1) 0) byte in
    let next = next-unit a.language a.quotes t clear mark (length_of (get_or t (mark + 1) 0)) refl (at_least two) u in
    (u, filled-room copied next)

pub overflow_add-at-in-loop-i : goal.overflow_add-at-in-loop-i
overflow_add-at-in-loop-i c =
    let a = c.args in
    let t = a.text.now in
    let l = c.loop-i in
    let clear = c.requires.clear.0 in
    let whole = c.requires.clear.1 in
    let fresh = whole_fresh a.language a.quotes t clear l.i l.at l.k l.invariant.0 whole in
    let p = c.next_kept-mark.ensures.0 in
    let mark = c.next_kept-mark.result in
    let copied = mark-copied a.language a.quotes t clear l.i mark l.invariant.1 p fresh c.put_ahead-at.new.output c.put_ahead-at.result c.put_ahead-at.ensures.0 c.put_ahead-at.ensures.1 c.put_ahead-at.ensures.2 in
    let u = unit-after a.language a.quotes t clear l.i l.at l.k mark l.invariant.0 whole p c.if-mark-text.false in
    let byte = (c.shared_slice_known-1.given (mark + 1)).fits in
    let two = length_two (get_or t (mark + 1) 0) byte in
    let next = next-unit a.language a.quotes t clear mark (length_of (get_or t (mark + 1) 0)) refl (at_least two) u in
    omega (arith, c.put_char-at.ensures.0, filled_next copied next)

pub bounds-text-mark : goal.bounds-text-mark
bounds-text-mark c =
    let a = c.args in
    let t = a.text.now in
    let l = c.loop-i in
    let clear = c.requires.clear.0 in
    let whole = c.requires.clear.1 in
    let fresh = whole_fresh a.language a.quotes t clear l.i l.at l.k l.invariant.0 whole in
    let p = c.next_kept-mark.ensures.0 in
    let mark = c.next_kept-mark.result in
    let copied = mark-copied a.language a.quotes t clear l.i mark l.invariant.1 p fresh c.put_ahead-at.new.output c.put_ahead-at.result c.put_ahead-at.ensures.0 c.put_ahead-at.ensures.1 c.put_ahead-at.ensures.2 in
    let u = unit-after a.language a.quotes t clear l.i l.at l.k mark l.invariant.0 whole p c.if-mark-text.false in
    let byte = (c.shared_slice_known-1.given (mark + 1)).fits in
    let two = length_two (get_or t (mark + 1) 0) byte in
    second-within mark (length_of (get_or t (mark + 1) 0)) (length t) two u.ends

pub overflow_add-i : goal.overflow_add-i
overflow_add-i c =
    let a = c.args in
    let t = a.text.now in
    let l = c.loop-i in
    let clear = c.requires.clear.0 in
    let whole = c.requires.clear.1 in
    let fresh = whole_fresh a.language a.quotes t clear l.i l.at l.k l.invariant.0 whole in
    let p = c.next_kept-mark.ensures.0 in
    let mark = c.next_kept-mark.result in
    let copied = mark-copied a.language a.quotes t clear l.i mark l.invariant.1 p fresh c.put_ahead-at.new.output c.put_ahead-at.result c.put_ahead-at.ensures.0 c.put_ahead-at.ensures.1 c.put_ahead-at.ensures.2 in
    let u = unit-after a.language a.quotes t clear l.i l.at l.k mark l.invariant.0 whole p c.if-mark-text.false in
    let byte = (c.shared_slice_known-1.given (mark + 1)).fits in
    let two = length_two (get_or t (mark + 1) 0) byte in
    let fits : mark + c.length_of-n.result ≤ length t = subst (λ (m : ℕ). mark + m ≤ length t) (sym c.length_of-n.ensures.0) u.ends in
    omega (arith, fits)

pub overflow_add-k : goal.overflow_add-k
overflow_add-k c = omega (arith, c.loop-i.invariant.0.few, c.loop-i.invariant.0.inside)

pub loop-i-smaller : goal.loop-i-smaller
loop-i-smaller c = omega (arith, c.next_kept-mark.ensures.0.after, c.next_kept-mark.ensures.0.within, c.length_of-n.ensures.1)

pub loop-i-preserved : goal.loop-i-preserved
loop-i-preserved c =
    let a = c.args in
    let t = a.text.now in
    let l = c.loop-i in
    let clear = c.requires.clear.0 in
    let whole = c.requires.clear.1 in
    let fresh = whole_fresh a.language a.quotes t clear l.i l.at l.k l.invariant.0 whole in
    let p = c.next_kept-mark.ensures.0 in
    let mark = c.next_kept-mark.result in
    let copied = mark-copied a.language a.quotes t clear l.i mark l.invariant.1 p fresh c.put_ahead-at.new.output c.put_ahead-at.result c.put_ahead-at.ensures.0 c.put_ahead-at.ensures.1 c.put_ahead-at.ensures.2 in
    let u = unit-after a.language a.quotes t clear l.i l.at l.k mark l.invariant.0 whole p c.if-mark-text.false in
    let byte = (c.shared_slice_known-1.given (mark + 1)).fits in
    let two = length_two (get_or t (mark + 1) 0) byte in
    let n = c.length_of-n.ensures.0 in
    let some : 1 ≤ c.length_of-n.result = omega (arith, c.length_of-n.ensures.1) in
    let end : end_of t mark ≡ mark + c.length_of-n.result = ap (λ (m : ℕ). mark + m) (sym n) in
    let put = filled_put copied (next-unit a.language a.quotes t clear mark c.length_of-n.result n some u) c.put_char-at.new.output c.put_char-at.result c.put_char-at.ensures.0 c.put_char-at.ensures.1 in
    let size = mark-size a.language a.quotes t clear l.i mark l.invariant.1 p fresh c.put_ahead-at.new.output c.put_ahead-at.ensures.1 in
    let counted = count-unit a.language a.quotes t clear mark (l.at + c.put_ahead-at.result) l.k (subst (λ (m : ℕ). Counted (byte_step (string_of a.language a.quotes)) t mark (l.at + m) l.k) (sym c.put_ahead-at.ensures.0) (count-mark a.language a.quotes t clear l.i l.at l.k l.invariant.0 fresh mark p)) c.length_of-n.result n some u in (
      subst (λ (w : ℕ). Counted (byte_step (string_of a.language a.quotes)) t (mark + c.length_of-n.result) (l.at + c.put_ahead-at.result + w) (l.k + 1)) (sym c.put_char-at.ensures.0) counted,
      filled-self put,
      λ z. sym (start-after length_of t a.places.now l.k mark (c.next_kept-mark.ensures.1 (omega arith)) ∙ end),
      l.invariant.3 ∙ sym size ∙ sym put.kept,
    )

pub returns : goal.returns
returns c =
    let a = c.args in
    let l = c.loop-i in
    filled-exact l.invariant.1 (ap result (from_end (byte_step (string_of a.language a.quotes)) a.text.now l.i (omega arith))) l.invariant.3
