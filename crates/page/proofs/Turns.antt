-- A turn: the part of the output behind the results, bounded by the output's end, is the free part; so the call on it is the record's single call.
-- Assumes nothing.
use mathlib.Core.Bool.{Bool, true, false, cond}
use mathlib.Core.Option.{Option, none, some}
use mathlib.Core.Path.{◌≡◌, refl, sym, ap, ◌∙◌, subst}
use mathlib.Core.List.{List, [], ◌∷◌, ◌++◌, append-nil}
use Prim.Native.Nat.{ℕ, zero, suc, ◌+◌, ◌-◌, ◌^◌, ◌≤◌, ◌<◌, min}
use native.Mathlib.Omega.{arith}
use borrow.Author.Tests.{eq-eqb, ne_eqb, ltb-true, ltb-false}
use lib.Dec.{eqb, ltb}
use lib.ListN.{length as size, take, drop, length-drop}
use lib.Seq.{take_all}
use Rattle.rules.specs.Moves.{Rule}
use Rattle.rules.specs.Refusals.{refusal, answer_by}
use Rattle.rules.specs.Pages.{in_text, part_of, encoder, single_by, single, leaves, filled_as, answered, output_by}
use Rattle.rules.specs.declared.Answer.{Answer}
use Rattle.rules.specs.declared.Field.{Field}
use Rattle.rules.specs.declared.Filled.{Filled}
use Rattle.rules.proofs.Pages.{in-text-iff, single-outside, single-passed}
use Rattle.page.specs.Turns.{outside_at, outside_by, turned_to, turned_by, turned, output_after}

-- The part of a record that passes the test ends in the text.
pub part-ends : (text : List ℕ) (f : Field) (b : Bool) → b ≡ in_text text f → b ≡ true → f.start + f.length ≤ size text
part-ends text f b e t = (in-text-iff text f).0 (sym e ∙ t)

-- The part as the code takes it.
pub part-is : (start l : ℕ) (text : List ℕ) → take (start + l - start) (drop start text) ≡ take l (drop start text)
part-is start l text = let e : start + l - start ≡ l = omega arith in ap (λ (k : ℕ). take k (drop start text)) e

-- Outside the text the refusal is the record's, and the output stays.
pub outside-is : (text : List ℕ) (f : Field) (free : List ℕ) → in_text text f ≡ false → (outside_by f.context ≡ single text f free) × (free ≡ leaves text f free)
unfolding single
outside-is text f free e = (go (encoder f), sym (single-outside text f free e).1)
  where
    go : (r : Option Rule) → outside_at r ≡ single_by r text f free
    go none = refl
    go (some rule) = ap (λ (b : Bool). cond b (answer_by (some rule) false (part_of text f) free) (refusal 8 0 0)) (sym e)

pub drop_past : {A : Type 0} (n : ℕ) (l : List A) → size l ≤ n → drop n l ≡ []
drop_past n [] h = nothing n
  where
    nothing : {A : Type 0} (n : ℕ) → ◌≡◌ {A = List A} (drop n []) []
    nothing zero = refl
    nothing (suc n) = refl
drop_past zero (x ∷ l) h = absurd (omega arith)
drop_past (suc n) (x ∷ l) h = drop_past n l (omega arith)

below : (e l m d top : ℕ) → e < top → m < top → l ≤ d → d ≡ m - e → e + l < top
below e l m d top p q r s = omega arith

module _ (end at : ℕ) (out : List ℕ) (bounded : at ≡ min end (size out)) where
  -- Behind the bounded place stands what stands behind the place, and as much in front of it.
  both : (take at out ≡ take end out) × (drop at out ≡ drop end out)
  both = go (ltb end (size out)) refl
    where
      go : (b : Bool) → ltb end (size out) ≡ b → (take at out ≡ take end out) × (drop at out ≡ drop end out)
      go true e = let h = ltb-true end (size out) e in let q : at ≡ end = omega arith in (ap (λ (k : ℕ). take k out) q, ap (λ (k : ℕ). drop k out) q)
      go false e =
          let h = ltb-false end (size out) e in
          let q : at ≡ size out = omega arith in
          (take_all at out (omega arith) ∙ sym (take_all end out h), drop_past at out (omega arith) ∙ sym (drop_past end out h))

  free-is : take (size out - at) (drop at out) ≡ drop end out
  free-is = take_all (size out - at) (drop at out) (subst (λ (k : ℕ). k ≤ size out - at) (sym (length-drop at out)) (omega arith)) ∙ both.1

  output-is : (o : List ℕ) → take at out ++ (o ++ drop (size out - at) (drop at out)) ≡ take end out ++ o
  output-is o =
      ap (λ (l : List ℕ). take at out ++ (o ++ l)) (drop_past (size out - at) (drop at out) (subst (λ (k : ℕ). k ≤ size out - at) (sym (length-drop at out)) (omega arith)))
      ∙ ap (λ (l : List ℕ). take at out ++ l) (append-nil o)
      ∙ ap (λ (l : List ℕ). l ++ o) both.0

  module _ (text : List ℕ) (p : Filled) (i : ℕ) (f : Field) (a : Answer) (o : List ℕ) (said : a ≡ single text f (take (size out - at) (drop at out)))
      (wrote : o ≡ leaves text f (take (size out - at) (drop at out))) (going : p.status ≡ 0) where
    answer-is : a ≡ single text f (drop end out)
    answer-is = said ∙ ap (single text f) free-is

    left_is : take at out ++ (o ++ drop (size out - at) (drop at out)) ≡ output_after text p end f out
    unfolding output_after
    left_is =
        output-is o ∙ ap (λ (l : List ℕ). take end out ++ l) (wrote ∙ ap (leaves text f) free-is)
        ∙ ap (λ (b : Bool). cond b (output_by text end f out) out) (sym (eq-eqb p.status 0 going))

    turns : turned_by a p end i f ≡ turned text p end i f out
    unfolding turned
    turns =
        ap (λ (a : Answer). turned_by a p end i f) answer-is
        ∙ ap (λ (b : Bool). cond b (turned_by (single text f (drop end out)) p end i f) (turned_to p end f)) (sym (eq-eqb p.status 0 going))

    -- What the turn gives back by the test of its status.
    by-status : (b : Bool) → b ≡ eqb a.status 0
        → (cond b (turned_to p (end + a.length) (answered f a end)) (turned_to (filled_as a.status i) end (answered f a 0)) ≡ turned text p end i f out)
        × (take at out ++ (o ++ drop (size out - at) (drop at out)) ≡ output_after text p end f out)
    by-status b e = (
      ap (λ (b : Bool). cond b (turned_to p (end + a.length) (answered f a end)) (turned_to (filled_as a.status i) end (answered f a 0))) e ∙ turns,
      left_is,
    )

    -- A record that passes, and one that is refused.
    pub turn-passed : a.status ≡ 0
        → (turned_to p (end + a.length) (answered f a end) ≡ turned text p end i f out)
        × (take at out ++ (o ++ drop (size out - at) (drop at out)) ≡ output_after text p end f out)
    turn-passed e = by-status true (sym (eq-eqb a.status 0 e))

    pub turn-refused : (a.status ≡ 0 → ⊥)
        → (turned_to (filled_as a.status i) end (answered f a 0) ≡ turned text p end i f out)
        × (take at out ++ (o ++ drop (size out - at) (drop at out)) ≡ output_after text p end f out)
    turn-refused n = by-status false (sym (ne_eqb a.status 0 n))

    -- The result of a record that passes ends where a number can say.
    pub turn-fits : a.status ≡ 0 → end < 2 ^ 64 → size out < 2 ^ 64 → end + a.length < 2 ^ 64
    turn-fits e low high =
        let room = (single-passed text f (drop end out) (sym (ap (λ (a : Answer). a.status) answer-is) ∙ e)).0 in
        rw (ap (λ (a : Answer). a.length) answer-is) (below end (single text f (drop end out)).length (size out) (size (drop end out)) (2 ^ 64) low high room (length-drop end out))
