-- `measure` meets its contract: as long as every unit is one, what is counted so far, with what the reader makes of the rest, is what it makes of the whole,
-- and the places so far are kept (Turns, Kept). The measure is what is left of the text.
-- Assumes nothing.
use borrow.Author.Rules.{rules}
use mathlib.Core.List.{List}
use mathlib.Core.Path.{◌≡◌, refl, sym, ap, ◌∙◌, subst}
use Prim.Native.Nat.{ℕ, ◌+◌, ◌-◌, ◌≤◌, ◌<◌}
use native.Mathlib.Omega.{arith}
use lib.ListN.{length-set, length}
use Rattle.rules.proofs.Loops.{from_end}
use Rattle.rules.specs.Answers.{Measures, whole}
use Rattle.rules.specs.Contexts.{string_of}
use Rattle.rules.specs.Moves.{through}
use Rattle.rules.specs.Reading.{read_step}
use Rattle.base.proofs.Counted.{counted-end}
use Rattle.base.specs.Places.{Nearest}
use Rattle.marks.specs.Marks.{start_of, Marked}
use Rattle.marks.proofs.Kept.{marked_more, start-next}
use Rattle.reader.proofs.Bytewise.{read-measures}
use Rattle.reader.specs.Units.{byte_step}
use Rattle.read_strings.specs.Units.{length_of, gain_of, end_of}
use Rattle.read_strings.proofs.Looks.{both}
use Rattle.read_strings.proofs.Clearing.{clear-valid}
use Rattle.read_strings.proofs.Starts.{none_kept}
use Rattle.read_strings.proofs.Turns.{ruleless, count_next}
use Rattle.read_strings.proofs.measure.measure.Goals as goal

pub begin-requires : goal.begin-requires
begin-requires c = (c.keys_of-keys.ensures, c.requires.0, c.requires.1)

pub next_mark-i-requires : goal.next_mark-i-requires
next_mark-i-requires c = (c.in_ok-begun.ensures.0, λ k b. (c.requires.1 k b).0)

pub loop-i-init : goal.loop-i-init
loop-i-init c =
    let a = c.args in
    let t = a.text.now in
    let b = c.in_ok-begun.begun in
    let e = c.in_ok-begun.ensures in
    let p = c.next_mark-i.ensures in
    let r = c.next_mark-i.result in
    let f = e.3 r p in (
      λ z. (
        f.2,
        λ k h s. absurd (omega (arith, h, e.1 (omega arith))),
        λ y. let u = none_kept b.units (length a.places.now) e.1 y in subst (λ (u : ℕ). Nearest t (start_of length_of t a.places.now u) 92 r) (sym u) (subst (λ (s : ℕ). Nearest t s 92 r) (e.2 u) p),
      ),
      f.0,
      f.1,
      p.within,
      p.here,
      refl,
    )

pub is_unit-whole-requires : goal.is_unit-whole-requires
is_unit-whole-requires c = (c.keys_of-keys.ensures, c.loop-i-test.true, c.loop-i.invariant.4 c.loop-i-test.true)

pub next_mark-i-requires-in-loop-i : goal.next_mark-i-requires-in-loop-i
next_mark-i-requires-in-loop-i c = (omega arith, λ k b. (c.requires.1 k b).0)

pub loop-i-smaller : goal.loop-i-smaller
loop-i-smaller c = omega (arith, c.next_mark-i-in-loop-i.ensures.after, c.next_mark-i-in-loop-i.ensures.within, c.length_of-n.ensures.1)

pub loop-i-preserved : goal.loop-i-preserved
loop-i-preserved c =
    let a = c.args in
    let l = c.loop-i in
    let t = a.text.now in
    let n = c.length_of-n.ensures.0 ∙ ap length_of c.byte_at-second.ensures in
    let g = c.gain_of-gain.ensures ∙ ap gain_of c.byte_at-second.ensures in
    let less : c.gain_of-gain.result < c.length_of-n.result = subst (λ (g : ℕ). g < c.length_of-n.result) (sym c.gain_of-gain.ensures) c.length_of-n.ensures.1 in
    let p = c.next_mark-i-in-loop-i.ensures in
    let kept = c.keep.ensures in
    let end : l.i + c.length_of-n.result ≡ end_of t l.i = ap (λ (m : ℕ). l.i + m) n in (
      λ z.
          let w = both l.whole c.is_unit-whole.result z in
          let (counted, marked, near) = l.invariant.0 w.0 in (
            count_next a.language a.quotes t c.requires.1 l.i l.gain l.units c.length_of-n.result c.gain_of-gain.result c.next_mark-i-in-loop-i.result counted l.invariant.1 (c.is_unit-whole.ensures w.1) n g (omega (arith, less)) p,
            subst (λ (places : List ℕ). Marked length_of 92 t places (l.units + 1)) (sym kept) (marked_more length_of 92 t l.places l.units l.i marked near (search rules)),
            subst (λ (places : List ℕ). l.units + 1 ≤ length places → Nearest t (start_of length_of t places (l.units + 1)) 92 c.next_mark-i-in-loop-i.result) (sym kept)
                (λ z. subst (λ (s : ℕ). Nearest t s 92 c.next_mark-i-in-loop-i.result) (end ∙ sym (start-next length_of 92 t l.places l.units l.i z)) p),
          ),
      omega (arith, less, p.after, l.invariant.1),
      omega (arith, less, p.after, l.invariant.2),
      p.within,
      p.here,
      ap length kept ∙ length-set l.places l.units l.i ∙ l.invariant.5,
    )

pub returns : goal.returns
returns c =
    let a = c.args in
    let l = c.loop-i in
    let t = a.text.now in
    let end : l.i ≡ length t = omega (arith, l.invariant.3, c.loop-i-test.false) in
    let none = from_end (byte_step (string_of a.language a.quotes)) t l.i (omega arith) in
    let (counted, marked, near) = l.invariant.0 c.if-not-whole.false in (
      subst (λ (i : ℕ). Measures (whole (i - l.gain) i l.units) (through (read_step (string_of a.language a.quotes)) t)) end
          (read-measures (string_of a.language a.quotes) (ruleless a.language a.quotes) t l.i (l.i - l.gain) l.units (clear-valid a.language a.quotes t c.requires.1) counted none),
      sym (counted-end counted none).2 ∙ end,
      marked,
    )
