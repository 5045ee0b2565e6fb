-- `measure` meets its contract: what is counted so far, with what the reader makes of the rest, is what it makes of the whole, the text so far is ASCII, and
-- the places so far are kept (Turns, Kept). The measure is what is left of the text.
-- Assumes nothing.
use Rattle.std.proofs.Common.{◌≡◌, ℕ, ◌+◌, ◌≤◌, List, length, sym, refl, ap, ◌∙◌, subst, arith, length-set, rules}
use Rattle.rules.specs.declared.Html.TheVariants.{Unquoted}
use Rattle.base.specs.Places.{Absent, Nearest}
use Rattle.marks.specs.Marks.{start_of}
use Rattle.read_units.specs.Marks.{Marked}
use Rattle.read_units.specs.Units.{length_of, end_of, UnitAt}
use Rattle.marks.proofs.Kept.{marked_more, start-next}
use Rattle.read_units.proofs.Turns.{affirmed, count-start, count_next, told-end}
use Rattle.read_unquoted.proofs.Letters.{letters-low, letters-absent, letters-keep, low-more}
use Rattle.read_unquoted.proofs.measure.Goals as goal
use Rattle.read_unquoted.proofs.measure.Goals.{Else-not-is_unit}

-- A unit is at the place.

unit : (c : Else-not-is_unit) → UnitAt Unquoted c.args.text.now c.loop-i.i
unit c = c.is_unit.ensures (affirmed _ c.if-not-is_unit.false-raw)

pub loop-i-init : goal.loop-i-init
loop-i-init c =
    let t = c.args.text.now in
    let r = c.next-i.result in
    let p = c.next-i.ensures in
    (count-start Unquoted t r p.1 (letters-keep t 0 r p.2 p.1), omega arith, λ k l. absurd (omega arith), λ z. (p.0, letters-absent t 0 r p.2), refl, λ k l. letters-low t 0 r p.2 k (omega arith) l)

pub is_unit-requires : goal.is_unit-requires
is_unit-requires c = (c.words_of-words.ensures, search rules)

pub bounds-text-i : goal.bounds-text-i
bounds-text-i c = omega (arith, (unit (goal.at.bounds-text-i c).Else-not-is_unit).ends)

pub next-i-requires-in-loop-i : goal.next-i-requires-in-loop-i
next-i-requires-in-loop-i c = omega (arith, (unit (goal.at.next-i-requires-in-loop-i c).Else-not-is_unit).ends, c.length_of-n.ensures.0)

pub loop-i-smaller : goal.loop-i-smaller
loop-i-smaller c = omega (arith, c.next-i-in-loop-i.ensures.0, c.next-i-in-loop-i.ensures.1, c.length_of-n.ensures.0, c.loop-i-test.true)

pub loop-i-preserved : goal.loop-i-preserved
loop-i-preserved c =
    let a = c.args in
    let l = c.loop-i in
    let t = a.text.now in
    let u = unit (goal.at.loop-i-preserved c).Else-not-is_unit in
    let n = c.length_of-n.ensures.0 in
    let m = c.length_of-n.result in
    let r = c.next-i-in-loop-i.result in
    let p = c.next-i-in-loop-i.ensures in
    let next = count_next Unquoted t l.i l.gain l.units m r l.invariant.0 l.invariant.1 u n p.0 p.1 (letters-keep t (l.i + m) r p.2 p.1) in
    let kept = c.keep.ensures in
    let end : l.i + m ≡ end_of t l.i = ap (λ (m : ℕ). l.i + m) n in
    let near : l.units ≤ length l.places → Nearest t (start_of length_of t l.places l.units) 38 l.i = λ z. record { after = (l.invariant.3 z).0; within = omega (arith, c.loop-i-test.true); none = (l.invariant.3 z).1; here = λ b. u.mark } in (
      next.0,
      next.1,
      subst (λ (places : List ℕ). Marked t places (l.units + 1)) (sym kept) (marked_more length_of 38 t l.places l.units l.i l.invariant.2 near c.loop-i-test.true),
      subst (λ (places : List ℕ). l.units + 1 ≤ length places → (start_of length_of t places (l.units + 1) ≤ r) × Absent t (start_of length_of t places (l.units + 1)) r 38) (sym kept)
          (λ z. subst (λ (s : ℕ). (s ≤ r) × Absent t s r 38) (end ∙ sym (start-next length_of 38 t l.places l.units l.i z)) (p.0, letters-absent t (l.i + m) r p.2)),
      ap length kept ∙ length-set l.places l.units l.i ∙ l.invariant.4,
      low-more t l.i (l.i + m) r l.invariant.5 (λ k a b. u.low k a (omega (arith, b, n))) (letters-low t (l.i + m) r p.2),
    )

pub returns : goal.returns
returns c =
    let l = c.loop-i in
    let t = c.args.text.now in
    let end : l.i ≡ length t = omega (arith, l.invariant.0.inside, c.loop-i-test.false) in
    told-end Unquoted t l.places l.i l.gain l.units (λ k b. l.invariant.5 k (omega (arith, b, end))) l.invariant.0 end l.invariant.2
