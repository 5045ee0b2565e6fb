-- `measure` meets its contract: what is counted so far, with what the reader makes of the rest, is what it makes of the whole, and the places so
-- far are kept (Turns, Kept). The measure is what is left of the text.
-- Assumes nothing.
use mathlib.Core.List.{List}
use mathlib.Core.Path.{◌≡◌, refl, sym, ap, ◌∙◌, subst}
use Prim.Native.Nat.{ℕ, ◌+◌, ◌-◌, ◌≤◌, ◌<◌}
use native.Mathlib.Omega.{arith}
use lib.ListN.{length-set, length}
use Rattle.rules.specs.declared.Context.TheVariants.{InHtml}
use Rattle.base.proofs.Counted.{Counted, counted_start}
use Rattle.base.specs.Places.{Nearest}
use Rattle.reader.specs.Units.{byte_step}
use Rattle.marks.specs.Marks.{start_of}
use Rattle.marks.proofs.Kept.{marked_more, start-next}
use Rattle.read_units.specs.Marks.{Marked}
use Rattle.read_units.specs.Units.{length_of, UnitAt}
use Rattle.read_units.proofs.Turns.{affirmed, before-end, count_next, told-end}
use Rattle.read_html.proofs.Clearing.{clear-ascii, clear-counts}
use Rattle.read_html.proofs.measure.measure.Goals as goal
use Rattle.read_html.proofs.measure.measure.Goals.{After-find_near-mark, Else-not-is_unit, else-loop-i-test, then-loop-i-test+then-mark-text}

-- Up to the next `&` all is counted,

near : (c : After-find_near-mark) → let a = c.args in Counted (byte_step (InHtml a.h)) a.text.now c.find_near-mark.result (c.find_near-mark.result - c.loop-i.gain) c.loop-i.units
near c = let a = c.args in clear-counts a.h a.text.now c.requires.1 c.loop-i.i c.loop-i.gain c.loop-i.units c.find_near-mark.result c.loop-i.invariant.0 c.loop-i.invariant.1 c.find_near-mark.ensures

-- and a unit is there.

unit : (c : Else-not-is_unit) → let a = c.args in UnitAt a.h a.text.now c.find_near-mark.result
unit c = c.is_unit.ensures (affirmed _ c.if-not-is_unit.false-raw)

pub loop-i-init : goal.loop-i-init
loop-i-init c = (counted_start _ _, omega arith, λ k l. absurd (omega arith), λ z. refl, refl)

pub find_near-mark-requires : goal.find_near-mark-requires
find_near-mark-requires c = let a = c.args in (omega arith, c.loop-i.invariant.0.inside, clear-ascii a.h a.text.now c.requires.1)

pub is_unit-requires : goal.is_unit-requires
is_unit-requires c = (c.words_of-words.ensures, c.find_near-mark.ensures.within)

pub keep-requires : goal.keep-requires
keep-requires c = let h = before-end c.find_near-mark.result (length c.args.text.now) c.find_near-mark.ensures.within c.if-mark-text.false in omega (arith, h, c.requires.0)

pub overflow_add-mark : goal.overflow_add-mark
overflow_add-mark c = omega (arith, (unit (goal.at.overflow_add-mark c).Else-not-is_unit).ends)

pub bounds-text-mark : goal.bounds-text-mark
bounds-text-mark c = omega (arith, (unit (goal.at.bounds-text-mark c).Else-not-is_unit).ends)

pub overflow_add-i : goal.overflow_add-i
overflow_add-i c = omega (arith, (unit (goal.at.overflow_add-i c).Else-not-is_unit).ends, c.length_of-n.ensures.0)

pub loop-i-smaller : goal.loop-i-smaller
loop-i-smaller c = omega (arith, c.find_near-mark.ensures.after, (unit (goal.at.loop-i-smaller c).Else-not-is_unit).ends, c.length_of-n.ensures.0)

pub loop-i-preserved : goal.loop-i-preserved
loop-i-preserved c =
    let a = c.args in
    let l = c.loop-i in
    let h = a.h in
    let t = a.text.now in
    let mark = c.find_near-mark.result in
    let p = c.find_near-mark.ensures in
    let u = unit (goal.at.loop-i-preserved c).Else-not-is_unit in
    let n = c.length_of-n.ensures.0 in
    let m = c.length_of-n.result in
    let inside : mark < length t = before-end mark (length t) p.within c.if-mark-text.false in
    let next = count_next h t mark l.gain l.units m (mark + m) (near (goal.at.loop-i-preserved c).After-find_near-mark) (omega (arith, l.invariant.1, p.after)) u n (omega arith) (omega (arith, u.ends, n)) (λ k a b. absurd (omega (arith, a, b))) in
    let kept = c.keep.ensures in (
      next.0,
      next.1,
      subst (λ (places : List ℕ). Marked t places (l.units + 1)) (sym kept) (marked_more length_of 38 t l.places l.units mark l.invariant.2 (λ z. subst (λ (s : ℕ). Nearest t s 38 mark) (l.invariant.3 z) p) inside),
      subst (λ (places : List ℕ). l.units + 1 ≤ length places → mark + m ≡ start_of length_of t places (l.units + 1)) (sym kept)
          (λ z. ap (λ (m : ℕ). mark + m) n ∙ sym (start-next length_of 38 t l.places l.units mark z)),
      ap length kept ∙ length-set l.places l.units mark ∙ l.invariant.4,
    )

pub overflow_sub-length : goal.overflow_sub-length
overflow_sub-length c = omega (arith, c.loop-i.invariant.1, c.loop-i.invariant.0.inside)

pub returns : goal.returns
returns c =
    let a = c.args in
    let t = a.text.now in
    let l = c.loop-i in
    elim c.loop-i-test.branch [
      | else-loop-i-test w ↦ told-end a.h t l.places l.i l.gain l.units (clear-ascii a.h t c.requires.1) l.invariant.0 (omega (arith, l.invariant.0.inside, w.loop-i-test.false)) l.invariant.2
      | then-loop-i-test+then-mark-text w ↦
          told-end a.h t l.places w.find_near-mark.result l.gain l.units (clear-ascii a.h t c.requires.1)
          (clear-counts a.h t c.requires.1 l.i l.gain l.units w.find_near-mark.result l.invariant.0 l.invariant.1 w.find_near-mark.ensures) w.if-mark-text.true l.invariant.2
    ]
