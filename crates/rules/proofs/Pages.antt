-- The page: a list in two pieces is the first piece, and then the second on what the first left, so any record is the single call on what was left.
-- A record's call, passing or refused, changes nothing in front of the place where it writes, and nothing past its result.
-- Assumes nothing.
use mathlib.Core.Bool.{Bool, true, false, ◌&&◌, cond}
use mathlib.Core.Logic.{◌↔◌}
use mathlib.Core.Option.{Option, none, some}
use mathlib.Core.Path.{◌≡◌, refl, sym, ap, ◌∙◌, subst}
use mathlib.Core.List.{List, [], ◌∷◌, ◌++◌}
use Prim.Native.Nat.{ℕ, suc, ◌+◌, ◌-◌, ◌≤◌, ◌<◌, min}
use native.Mathlib.Nat.{add-zero, add-suc, suc-add}
use native.Mathlib.Omega.{arith}
use borrow.Author.Tests.{eq-eqb, ne_eqb, eqb-true, eqb-false, le-leb, leb-true, le-ltb, lt-ltb}
use lib.Dec.{T, eqb, leb}
use lib.ListN.{length as size, get_or, take, drop, take-append-drop, length-append, length-drop, length-take}
use lib.Seq.{drop_at, get_or_at, drop-drop, length-take-le, take-append-le, take-take, take-add}
use Rattle.rules.specs.Moves.{Rule}
use Rattle.rules.specs.Contexts.{context_of}
use Rattle.rules.specs.Refusals.{refusal, answer_by, out_by, answer_of, out_of, case_by}
use Rattle.rules.specs.Pages.{InText, in_text, part_of, encoder, single_by, leaves_by, single, leaves, field_limit, filled_as, answered, Page, behind, output_by, fill_from, page_of, PageAllowed}
use Rattle.rules.specs.declared.Answer.{Answer}
use Rattle.rules.specs.declared.AnyContext.{AnyContext}
use Rattle.rules.specs.declared.Field.{Field}
use Rattle.rules.specs.declared.Filled.{Filled}
use Rattle.rules.specs.declared.Operation.TheVariants.{Encode}
use Rattle.rules.proofs.Calls.{numbers, out-length, refused-unchanged, passed}

-- ---- one record

-- The computation says what the words say.
pub in-text-iff : (text : List ℕ) (f : Field) → (in_text text f ≡ true) ↔ InText text f
in-text-iff text f = (λ e. go (leb s n) (leb l (n - s)) refl refl e, λ h. rw (le-leb s n (omega arith), le-leb l (n - s) (omega arith)) refl)
  where
    s : ℕ
    s = f.start

    l : ℕ
    l = f.length

    n : ℕ
    n = size text

    go : (x y : Bool) → leb s n ≡ x → leb l (n - s) ≡ y → x && y ≡ true → s + l ≤ n
    go true true p q e = let h = leb-true s n p in let k = leb-true l (n - s) q in omega arith
    go true false p q e = absurd (subst T (sym e) tt)
    go false y p q e = absurd (subst T (sym e) tt)

-- A record within the text is the copying call of encode on its part; BAD_CONTEXT is the same whatever the part.
pub single-within : (text : List ℕ) (f : Field) (free : List ℕ) → in_text text f ≡ true
    → (single text f free ≡ answer_of Encode (context_of f.context) false (part_of text f) free) × (leaves text f free ≡ out_of Encode (context_of f.context) false (part_of text f) free)
unfolding single leaves case_by
single-within text f free e = go (encoder f)
  where
    go : (r : Option Rule) → (single_by r text f free ≡ answer_by r false (part_of text f) free) × (leaves_by r text f free ≡ out_by r false (part_of text f) free)
    go none = (refl, refl)
    go (some rule) = (ap (λ (b : Bool). cond b (answer_by (some rule) false (part_of text f) free) (refusal 8 0 0)) e, ap (λ (b : Bool). cond b (out_by (some rule) false (part_of text f) free) free) e)

-- Any other is refused, and leaves the output.
pub single-outside : (text : List ℕ) (f : Field) (free : List ℕ) → in_text text f ≡ false → ((single text f free).status ≡ 0 → ⊥) × (leaves text f free ≡ free)
unfolding single leaves
single-outside text f free e = go (encoder f)
  where
    go : (r : Option Rule) → ((single_by r text f free).status ≡ 0 → ⊥) × (leaves_by r text f free ≡ free)
    go none = (λ q. numbers 5 0 q tt, refl)
    go (some rule) = (
      λ q. numbers 8 0 (sym (ap (λ (b : Bool). (cond b (answer_by (some rule) false (part_of text f) free) (refusal 8 0 0)).status) e) ∙ q) tt,
      ap (λ (b : Bool). cond b (out_by (some rule) false (part_of text f) free) free) e,
    )

module _ (text : List ℕ) (f : Field) (free : List ℕ) where
  abbrev n : AnyContext
  n = context_of f.context

  -- The output keeps its length.
  pub single-size : size (leaves text f free) ≡ size free
  single-size = go (in_text text f) refl
    where
      go : (b : Bool) → in_text text f ≡ b → size (leaves text f free) ≡ size free
      go true e = ap size (single-within text f free e).1 ∙ out-length Encode n false (part_of text f) free
      go false e = ap size (single-outside text f free e).1

  -- A refused record leaves it.
  pub single-refused : ((single text f free).status ≡ 0 → ⊥) → leaves text f free ≡ free
  single-refused h = go (in_text text f) refl
    where
      go : (b : Bool) → in_text text f ≡ b → leaves text f free ≡ free
      go true e = let (a, o) = single-within text f free e in o ∙ (refused-unchanged Encode n false (part_of text f) free (λ q. h (ap (λ (a : Answer). a.status) a ∙ q))).4
      go false e = (single-outside text f free e).1

  -- A record that passes has room for its result, and past it the output is as it was.
  pub single-passed : (single text f free).status ≡ 0 → ((single text f free).length ≤ size free) × (drop (single text f free).length (leaves text f free) ≡ drop (single text f free).length free)
  single-passed h = go (in_text text f) refl
    where
      len : Answer → ℕ
      len a = a.length

      at_most : (m k j : ℕ) → min m k ≡ m → k ≡ j → m ≤ j
      at_most m k j e q = omega arith

      go : (b : Bool) → in_text text f ≡ b → ((single text f free).length ≤ size free) × (drop (single text f free).length (leaves text f free) ≡ drop (single text f free).length free)
      go false e = absurd ((single-outside text f free e).0 h)
      go true e =
          let (a, o) = single-within text f free e in
          let p = passed Encode n false (part_of text f) free (sym (ap (λ (a : Answer). a.status) a) ∙ h) in
          let whole = p.head (λ q. absurd (subst T (sym q.0) tt)) in
          let m : ℕ = (answer_of Encode n false (part_of text f) free).length in
          let kept : size (out_of Encode n false (part_of text f) free) ≡ size free = out-length Encode n false (part_of text f) free in
          let room : min m (size (out_of Encode n false (part_of text f) free)) ≡ m = sym (length-take m (out_of Encode n false (part_of text f) free)) ∙ ap size whole ∙ sym p.long in
          (subst (λ (k : ℕ). k ≤ size free) (sym (ap len a)) (at_most m _ (size free) room kept), (λ i. drop (a i).length (o i)) ∙ p.tail ∙ ap (λ (k : ℕ). drop k free) (sym (ap len a)))

-- ---- the output behind a record

-- It keeps its length.
pub output-size : (text : List ℕ) (at : ℕ) (f : Field) (out : List ℕ) → size (output_by text at f out) ≡ size out
output-size text at f out =
    length-append (take at out) (leaves text f (drop at out))
    ∙ ap (λ (k : ℕ). size (take at out) + k) (single-size text f (drop at out))
    ∙ sym (length-append (take at out) (drop at out))
    ∙ ap size (take-append-drop at out)

within : (at l n d : ℕ) → at ≤ n → l ≤ d → d ≡ n - at → at + l ≤ n
within at l n d h k e = omega arith

-- Past the record's result it is as it was.
beyond : (text : List ℕ) (at : ℕ) (f : Field) (out : List ℕ) (l k : ℕ) → at ≤ size out → drop l (leaves text f (drop at out)) ≡ drop l (drop at out) → at + l ≤ k → drop k (output_by text at f out) ≡ drop k out
beyond text at f out l k h e q =
    ap (λ (m : ℕ). drop m (output_by text at f out)) split
    ∙ sym (drop-drop (l + (k - (at + l))) at (output_by text at f out))
    ∙ ap (drop (l + (k - (at + l)))) (drop_at (take at out) (leaves text f (drop at out)) at (length-take-le at out h))
    ∙ sym (drop-drop (k - (at + l)) l (leaves text f (drop at out)))
    ∙ ap (drop (k - (at + l))) e
    ∙ drop-drop (k - (at + l)) l (drop at out)
    ∙ drop-drop (l + (k - (at + l))) at out
    ∙ ap (λ (m : ℕ). drop m out) (sym split)
  where
    split : k ≡ at + (l + (k - (at + l)))
    split = omega arith

-- What stands in front of it stays.
in-front : (text : List ℕ) (at : ℕ) (f : Field) (out : List ℕ) (k : ℕ) → at ≤ size out → k ≤ at → take k (output_by text at f out) ≡ take k out
in-front text at f out k h q =
    take-append-le k (take at out) (leaves text f (drop at out)) (subst (λ (m : ℕ). k ≤ m) (sym (length-take-le at out h)) q)
    ∙ take-take k at out q

-- Two lists that begin with the same e + l bytes have the same l bytes behind the first e.
middle : (e l : ℕ) (x y : List ℕ) → e ≤ size x → e ≤ size y → take (e + l) x ≡ take (e + l) y → take l (drop e x) ≡ take l (drop e y)
middle e l x y h k q = sym (part x h) ∙ ap (drop e) q ∙ part y k
  where
    part : (z : List ℕ) → e ≤ size z → drop e (take (e + l) z) ≡ take l (drop e z)
    part z r = ap (drop e) (take-add e l z) ∙ drop_at (take e z) (take l (drop e z)) e (length-take-le e z r)

-- ---- the page

module _ (text : List ℕ) where
  -- The answer of the record that is called where `at` bytes are taken.
  abbrev answer : ℕ → Field → List ℕ → Answer
  answer at f out = single text f (drop at out)

  -- A record that passes, and one that is refused.
  pub fill-passed : (at done : ℕ) (f : Field) (fs : List Field) (out : List ℕ) → (answer at f out).status ≡ 0
      → fill_from text at done (f ∷ fs) out ≡ behind (answered f (answer at f out) at ∷ []) (fill_from text (at + (answer at f out).length) (suc done) fs (output_by text at f out))
  unfolding fill_from
  fill-passed at done f fs out e = rw (eq-eqb (answer at f out).status 0 e) refl

  pub fill-refused : (at done : ℕ) (f : Field) (fs : List Field) (out : List ℕ) → ((answer at f out).status ≡ 0 → ⊥)
      → fill_from text at done (f ∷ fs) out ≡ record { fields = answered f (answer at f out) 0 ∷ fs; output = out; filled = filled_as (answer at f out).status done; end = at }
  unfolding fill_from
  fill-refused at done f fs out h = rw (ne_eqb (answer at f out).status 0 h) refl

  -- Records behind others that all pass are the page on what those left.
  pub fill-behind : (fs gs : List Field) (at done : ℕ) (out : List ℕ) → (fill_from text at done fs out).filled.status ≡ 0
      → fill_from text at done (fs ++ gs) out ≡ behind (fill_from text at done fs out).fields (fill_from text (fill_from text at done fs out).end (done + size fs) gs (fill_from text at done fs out).output)
  unfolding fill_from
  fill-behind [] gs at done out h = ap (λ (k : ℕ). fill_from text at k gs out) (sym (add-zero done))
  fill-behind (f ∷ fs) gs at done out h = go (eqb (answer at f out).status 0) refl (fill-behind fs gs (at + (answer at f out).length) (suc done) (output_by text at f out))
    where
      a : Answer
      a = answer at f out

      rest : List Field → Page
      rest l = fill_from text (at + a.length) (suc done) l (output_by text at f out)

      onward : ℕ → Page → Page
      onward k p = behind p.fields (fill_from text p.end k gs p.output)

      go : (b : Bool) → eqb a.status 0 ≡ b → ((rest fs).filled.status ≡ 0 → rest (fs ++ gs) ≡ onward (suc done + size fs) (rest fs))
          → fill_from text at done (f ∷ fs ++ gs) out ≡ onward (done + suc (size fs)) (fill_from text at done (f ∷ fs) out)
      go true e ih =
          let q = eqb-true a.status 0 e in
          let p = fill-passed at done f fs out q in
          fill-passed at done f (fs ++ gs) out q
          ∙ ap (behind (answered f a at ∷ [])) (ih (sym (ap (λ (p : Page). p.filled.status) p) ∙ h))
          ∙ ap (λ (k : ℕ). onward k (behind (answered f a at ∷ []) (rest fs))) (suc-add done (size fs) ∙ sym (add-suc done (size fs)))
          ∙ ap (onward (done + suc (size fs))) (sym p)
      go false e ih = let q = eqb-false a.status 0 e in absurd (q (sym (ap (λ (p : Page). p.filled.status) (fill-refused at done f fs out q)) ∙ h))

  -- By the status of the first record: a page that goes on behind it, or stops at it.
  by-status : (P : Page → Type 0) (at done : ℕ) (f : Field) (fs : List Field) (out : List ℕ)
      → ((answer at f out).status ≡ 0 → P (behind (answered f (answer at f out) at ∷ []) (fill_from text (at + (answer at f out).length) (suc done) fs (output_by text at f out))))
      → (((answer at f out).status ≡ 0 → ⊥) → P (record { fields = answered f (answer at f out) 0 ∷ fs; output = out; filled = filled_as (answer at f out).status done; end = at }))
      → P (fill_from text at done (f ∷ fs) out)
  by-status P at done f fs out goes stops = go (eqb (answer at f out).status 0) refl
    where
      go : (b : Bool) → eqb (answer at f out).status 0 ≡ b → P (fill_from text at done (f ∷ fs) out)
      go true e = let q = eqb-true (answer at f out).status 0 e in subst P (sym (fill-passed at done f fs out q)) (goes q)
      go false e = let q = eqb-false (answer at f out).status 0 e in subst P (sym (fill-refused at done f fs out q)) (stops q)

  -- As many records, and as many bytes, as there were.
  pub fill-sizes : (fs : List Field) (at done : ℕ) (out : List ℕ) → (size (fill_from text at done fs out).fields ≡ size fs) × (size (fill_from text at done fs out).output ≡ size out)
  unfolding fill_from
  fill-sizes [] at done out = (refl, refl)
  fill-sizes (f ∷ fs) at done out =
      let ih = fill-sizes fs (at + (answer at f out).length) (suc done) (output_by text at f out) in
      by-status (λ (p : Page). (size p.fields ≡ suc (size fs)) × (size p.output ≡ size out)) at done f fs out (λ q. (ap suc ih.0, ih.1 ∙ output-size text at f out)) (λ q. (refl, refl))

  -- The record behind others that all pass: its answer is the single call's on the part of the output that those left free, and its result begins where
  -- theirs end, or at 0 if it is refused.
  pub fill-single : (fs gs : List Field) (f : Field) (at done : ℕ) (out : List ℕ) → (fill_from text at done fs out).filled.status ≡ 0
      → let p = fill_from text at done fs out in let a = answer p.end f p.output in
      get_or (fill_from text at done (fs ++ f ∷ gs) out).fields (size fs) f ≡ answered f a (cond (eqb a.status 0) p.end 0)
  fill-single fs gs f at done out h =
      ap (λ (q : Page). get_or q.fields (size fs) f) (fill-behind fs (f ∷ gs) at done out h)
      ∙ by-status (λ (q : Page). get_or (p.fields ++ q.fields) (size fs) f ≡ answered f a (cond (eqb a.status 0) p.end 0)) p.end (done + size fs) f gs p.output
      (λ q. here (answered f a p.end) _ ∙ ap (λ (b : Bool). answered f a (cond b p.end 0)) (sym (eq-eqb a.status 0 q)))
      (λ q. here (answered f a 0) gs ∙ ap (λ (b : Bool). answered f a (cond b p.end 0)) (sym (ne_eqb a.status 0 q)))
    where
      p : Page
      p = fill_from text at done fs out

      a : Answer
      a = answer p.end f p.output

      here : (g : Field) (hs : List Field) → get_or (p.fields ++ g ∷ hs) (size fs) f ≡ g
      here g hs = get_or_at p.fields g hs f (size fs) (fill-sizes fs at done out).0

  -- A refusal stops the page: the records behind it are as they were, and the output is as those in front of it left it.
  pub fill_stops : (fs gs : List Field) (f : Field) (at done : ℕ) (out : List ℕ) → (fill_from text at done fs out).filled.status ≡ 0
      → let p = fill_from text at done fs out in let a = answer p.end f p.output in (a.status ≡ 0 → ⊥)
      → fill_from text at done (fs ++ f ∷ gs) out ≡ record { fields = p.fields ++ answered f a 0 ∷ gs; output = p.output; filled = filled_as a.status (done + size fs); end = p.end }
  fill_stops fs gs f at done out h stops =
      let p = fill_from text at done fs out in
      fill-behind fs (f ∷ gs) at done out h ∙ ap (behind p.fields) (fill-refused p.end (done + size fs) f gs p.output stops)

  -- The results lie in the output from `at` on, and past the last one it is as it was.
  pub fill-past : (fs : List Field) (at done : ℕ) (out : List ℕ) → at ≤ size out
      → let p = fill_from text at done fs out in
      (at ≤ p.end) × (p.end ≤ size out) × (drop p.end p.output ≡ drop p.end out)
  unfolding fill_from
  fill-past [] at done out h = (omega arith, h, refl)
  fill-past (f ∷ fs) at done out h =
      by-status (λ (p : Page). (at ≤ p.end) × (p.end ≤ size out) × (drop p.end p.output ≡ drop p.end out)) at done f fs out
      (λ q.
      let a = answer at f out in
      let o = output_by text at f out in
      let (room, past) = single-passed text f (drop at out) q in
      let fits : at + a.length ≤ size out = within at a.length (size out) (size (drop at out)) h room (length-drop at out) in
      let (l, r, e) = fill-past fs (at + a.length) (suc done) o (subst (λ (k : ℕ). at + a.length ≤ k) (sym (output-size text at f out)) fits) in
      let end = (fill_from text (at + a.length) (suc done) fs o).end in
      (omega (arith, l), subst (λ (k : ℕ). end ≤ k) (output-size text at f out) r, e ∙ beyond text at f out a.length end h past l)) (λ q. (omega arith, h, refl))

  -- What stands in front of `at` stays.
  pub fill-keeps : (fs : List Field) (at done : ℕ) (out : List ℕ) → at ≤ size out → (k : ℕ) → k ≤ at → take k (fill_from text at done fs out).output ≡ take k out
  unfolding fill_from
  fill-keeps [] at done out h k below = refl
  fill-keeps (f ∷ fs) at done out h k below =
      by-status (λ (p : Page). take k p.output ≡ take k out) at done f fs out
      (λ q.
      let a = answer at f out in
      let room = (single-passed text f (drop at out) q).0 in
      let fits : at + a.length ≤ size out = within at a.length (size out) (size (drop at out)) h room (length-drop at out) in
      fill-keeps fs (at + a.length) (suc done) (output_by text at f out) (subst (λ (m : ℕ). at + a.length ≤ m) (sym (output-size text at f out)) fits) k (omega arith)
      ∙ in-front text at f out k h below) (λ q. refl)

  -- The result of a record that passes stands where it begins, whatever follows.
  pub fill-result : (fs gs : List Field) (f : Field) (at done : ℕ) (out : List ℕ) → at ≤ size out → (fill_from text at done fs out).filled.status ≡ 0
      → let p = fill_from text at done fs out in let a = answer p.end f p.output in (a.status ≡ 0)
      → take a.length (drop p.end (fill_from text at done (fs ++ f ∷ gs) out).output) ≡ take a.length (leaves text f (drop p.end p.output))
  fill-result fs gs f at done out h k q =
      let e = p.end in
      let l = a.length in
      let o = output_by text e f p.output in
      let (low, high, past) = fill-past fs at done out h in
      let n = (fill-sizes fs at done out).1 in
      let top : e ≤ size p.output = subst (λ (m : ℕ). e ≤ m) (sym n) high in
      let fits : e + l ≤ size o = subst (λ (m : ℕ). e + l ≤ m) (sym (output-size text e f p.output)) (within e l (size p.output) (size (drop e p.output)) top (single-passed text f (drop e p.output) q).0 (length-drop e p.output)) in
      let last = fill_from text (e + l) (suc (done + size fs)) gs o in
      ap (λ (x : Page). take l (drop e x.output)) (fill-behind fs (f ∷ gs) at done out k ∙ ap (behind p.fields) (fill-passed e (done + size fs) f gs p.output q))
      ∙ middle e l last.output o (subst (λ (m : ℕ). e ≤ m) (sym (fill-sizes gs (e + l) (suc (done + size fs)) o).1) (omega (arith, fits))) (omega (arith, fits)) (fill-keeps gs (e + l) (suc (done + size fs)) o fits (e + l) (omega arith))
      ∙ ap (take l) (drop_at (take e p.output) (leaves text f (drop e p.output)) e (length-take-le e p.output top))
    where
      p : Page
      p = fill_from text at done fs out

      a : Answer
      a = answer p.end f p.output

-- ---- the whole call

-- A list of one record is its single call on the whole output.
pub page-alone : (text : List ℕ) (f : Field) (out : List ℕ)
    → let a = single text f out in let p = page_of text (f ∷ []) out in
    (p.fields ≡ answered f a 0 ∷ []) × (p.output ≡ leaves text f out) × (p.filled ≡ filled_as a.status (cond (eqb a.status 0) 1 0))
unfolding page_of fill_from
page-alone text f out = go (eqb a.status 0) refl
  where
    a : Answer
    a = single text f out

    whole : Bool → Page
    whole b = cond b (behind (answered f a 0 ∷ []) (fill_from text (0 + a.length) 1 [] (leaves text f out))) (record { fields = answered f a 0 ∷ []; output = out; filled = filled_as a.status 0; end = 0 })

    go : (b : Bool) → eqb a.status 0 ≡ b
        → ((whole b).fields ≡ answered f a 0 ∷ []) × ((whole b).output ≡ leaves text f out) × ((whole b).filled ≡ filled_as a.status (cond b 1 0))
    go true e = (refl, refl, ap (λ (s : ℕ). filled_as s 1) (sym (eqb-true a.status 0 e)))
    go false e = (refl, sym (single-refused text f out (eqb-false a.status 0 e)), refl)

-- Above the limit nothing is touched.
pub page-too-long : (text : List ℕ) (fs : List Field) (out : List ℕ) → field_limit < size fs → PageAllowed text fs out (filled_as 1 0) fs out
unfolding page_of
page-too-long text fs out h = rw (lt-ltb field_limit (size fs) h) (refl, refl, refl)

-- Up to the limit the page is filled from its first record on.
pub page-fill : (text : List ℕ) (fs : List Field) (out : List ℕ) → size fs ≤ field_limit → page_of text fs out ≡ fill_from text 0 0 fs out
unfolding page_of
page-fill text fs out h = rw (le-ltb field_limit (size fs) h) refl

-- Two results that the contract allows are equal.
pub page-determined : (text : List ℕ) (fs : List Field) (out : List ℕ) (r s : Filled) (gs hs : List Field) (o p : List ℕ) → PageAllowed text fs out r gs o → PageAllowed text fs out s hs p
    → (r ≡ s) × (gs ≡ hs) × (o ≡ p)
page-determined text fs out r s gs hs o p a b = (a.0 ∙ sym b.0, a.1 ∙ sym b.1, a.2 ∙ sym b.2)
