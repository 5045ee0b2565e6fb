-- What the reference reader finds is the move there: at an `&`, by where the body ends and what it stands for.
-- Assumes nothing.
use mathlib.Core.Bool.{Bool, true, false}
use mathlib.Core.Option.{Option, none, some}
use mathlib.Core.Path.{◌≡◌, refl, sym, ap, ◌∙◌}
use mathlib.Core.List.{List, [], ◌∷◌, ◌++◌}
use Prim.Native.Nat.{ℕ, suc, ◌+◌, ◌-◌, ◌/◌, ◌≤◌, ◌<◌}
use native.Mathlib.Nat.{div-add-mod'}
use native.Mathlib.Omega.{arith}
use borrow.Author.Tests.{leb-true, leb-false, le-ltb, ne_eqb}
use lib.Dec.{T, leb, eqb→eq, leb→le}
use lib.ListN.{length, take, drop, get_or, length-drop}
use lib.Seq.{take-suc, get_or-drop}
use Rattle.std.specs.Prelude.{Option as Maybe, Some, None, Result, Ok, Err, ok_or}
use Rattle.rules.specs.Bytes.{ascii, all}
use Rattle.rules.specs.Moves.{keep, leave}
use Rattle.rules.specs.Names.{names}
use Rattle.rules.specs.References.{onto, body_of, decode_char, number_of, lookup, meaning, why, refer, at_amp, reference_step}
use Rattle.rules.specs.Utf8.{utf8}
use Rattle.rules.specs.Tables.{Row, value}
use Rattle.rules.specs.Answers.{value_bytes}
use Rattle.rules.specs.declared.DecodedEntityValue.{DecodedEntityValue}
use Rattle.rules.specs.declared.DecodedEntityValue.TheVariants.{Named, Character}
use Rattle.rules.specs.declared.Reason.{Reason}
use Rattle.rules.specs.declared.Reason.TheVariants.{NoEnd, Empty, UnknownName}
use Rattle.rules.proofs.Loops.{drop-next}
use Rattle.rules.proofs.Search.{reference-quiet}
use Rattle.rules.proofs.Tests.{all_in}
use Rattle.rules.proofs.Names.{looked-up, empty-unnamed}
use Rattle.decode_html.specs.Taking.{Real, Gives, Stays}
use Rattle.decode_html.specs.Digits.{Means}
use Rattle.decode_html.specs.Bodies.{Begun, Ends}

-- Where there is no value, `ok_or` gives the reason that it was handed.
pub refused : {A : Type 0} (o : Maybe A) (w d : Reason) → ◌≡◌ {A = Result A Reason} (Err w) (ok_or o d) → o ≡ None → w ≡ d
refused None w d e f = cc
refused (Some x) w d e f = cc

-- ---- the rule at a byte

step-at : (p : ℕ) (s : List ℕ) → reference_step p (38 ∷ s) ≡ at_amp decode_char (body_of s)
unfolding reference_step
step-at p s = refl

-- Any byte but `&` is kept.
pub step-quiet : (p x : ℕ) (s : List ℕ) → (x ≡ 38 → ⊥) → reference_step p (x ∷ s) ≡ keep (x ∷ [])
unfolding reference_step
step-quiet p x s h = reference-quiet decode_char p x s (λ e. h (eqb→eq x 38 e))

-- ---- by the body

module _ (t : List ℕ) (i : ℕ) (inside : i < length t) (amp : get_or t i 0 ≡ 38) where
  starts : drop i t ≡ 38 ∷ drop (i + 1) t
  starts = drop-next t i inside ∙ rw amp

  -- There is no body.
  pub stays-nobody : body_of (drop (i + 1) t) ≡ none → Stays t i NoEnd
  stays-nobody e = λ p. rw starts (sym (step-at p (drop (i + 1) t) ∙ ap (at_amp decode_char) e))

  -- Another `&` follows, or the `;` at once.
  pub stays-amp : i + 1 < length t → get_or t (i + 1) 0 ≡ 38 → Stays t i NoEnd
  stays-amp l e = stays-nobody (rw (drop-next t (i + 1) l, e))

  pub stays-empty : i + 1 < length t → get_or t (i + 1) 0 ≡ 59 → Stays t i Empty
  stays-empty l e = λ p. rw starts (sym (step-at p (drop (i + 1) t) ∙ rw (drop-next t (i + 1) l, e) (ap (refer []) empty-unnamed)))

  module _ (r : ℕ) (end : Ends t (i + 1) r) where
    -- The body's bytes.
    abbrev body : List ℕ
    body = take (r - (i + 1)) (drop (i + 1) t)

    at-meaning : (p : ℕ) → reference_step p (38 ∷ drop (i + 1) t) ≡ refer body (meaning decode_char body)
    at-meaning p = step-at p (drop (i + 1) t) ∙ ap (at_amp decode_char) end.body

    -- The bytes from the `&` to the `;`.
    taken : take (r + 1 - i) (drop i t) ≡ 38 ∷ (take (r - (i + 1)) (drop (i + 1) t) ++ (59 ∷ []))
    taken =
        let h : i + 1 ≤ r = end.after in
        let l : r < length t = end.within in
        let n : r + 1 - i ≡ suc (suc (r - (i + 1))) = omega arith in
        let m : i + 1 + (r - (i + 1)) ≡ r = omega arith in
        rw (n, starts)
        (ap (λ (s : List ℕ). 38 ∷ s)
        (take-suc (drop (i + 1) t) (r - (i + 1)) 0 (rw length-drop (omega arith)) ∙ rw (get_or-drop (i + 1) t (r - (i + 1)) 0, m, end.end)))

    -- The reference that the body's value makes is the move; where the body stands for nothing, the move is to leave it for its reason.
    pub gives-value : (v : DecodedEntityValue) → some (value_bytes v) ≡ meaning decode_char body → Real v → Gives reference_step t i (record { start = i; end = r + 1; value = v })
    gives-value v e real = record {
      move = λ p. rw taken (rw starts (sym (at-meaning p ∙ ap (refer body) (sym e))));
      lies = (refl, omega (arith, end.after), omega (arith, end.within), real);
    }

    pub stays-body : (w : Reason) → none ≡ meaning decode_char body → w ≡ why body → Stays t i w
    stays-body w e f = λ p. ap (λ (w : Reason). leave w (ascii "&")) f ∙ rw starts (sym (at-meaning p ∙ ap (refer body) (sym e)))

-- A byte more before a body, if it is neither `;` nor `&`.
module _ (t : List ℕ) (a : ℕ) (l : a < length t) (f : get_or t a 0 ≡ 59 → ⊥) (g : get_or t a 0 ≡ 38 → ⊥) where
  step : body_of (drop a t) ≡ onto (get_or t a 0) (body_of (drop (a + 1) t))
  step = rw (drop-next t a l, ne_eqb (get_or t a 0) 59 f, ne_eqb (get_or t a 0) 38 g)

  nobody-more : body_of (drop (a + 1) t) ≡ none → body_of (drop a t) ≡ none
  nobody-more e = step ∙ rw e

  ends_more : (r : ℕ) → Ends t (a + 1) r → Ends t a r
  ends_more r end =
      let h : a + 1 ≤ r = end.after in
      let n : r - a ≡ suc (r - (a + 1)) = omega arith in
      record { after = omega arith; within = end.within; end = end.end; body = step ∙ rw (end.body, n, drop-next t a l) }

-- ---- what a body stands for

no_number : (s : List ℕ) → (get_or s 0 0 ≡ 35 → ⊥) → number_of s ≡ none
no_number [] h = refl
no_number (b ∷ s) h = rw (ne_eqb 35 b (λ e. h (sym e)), number_of)

-- A body that begins with another byte can only be an unknown name.
unknown : (b : ℕ) (s : List ℕ) → (b ≡ 35 → ⊥) → why (b ∷ s) ≡ UnknownName
unknown b s h = rw (ne_eqb 35 b (λ e. h (sym e)))

-- A body that does not begin with `#` is looked up whole.
pub not-number : (char : ℕ → Option (List ℕ)) (s : List ℕ) → (get_or s 0 0 ≡ 35 → ⊥) → meaning char s ≡ lookup names s
not-number char s h = ap (λ (o : Option ℕ). elim o [ some n ↦ char n | none ↦ lookup names s ]) (no_number s h)

-- No value of the table begins with a byte above F0.
abbrev low : Row → Bool
low row = leb (get_or (value row) 0 0) 0xF0

names-low : T (all low names)
unfolding names
names-low = tt

-- So a looked-up value is no character above 3FFFF.
pub name-real : (body : List ℕ) (v : DecodedEntityValue) → some (value_bytes v) ≡ lookup names body → Real v
name-real body (Named n) e = tt
name-real body (Character n) e = go (leb n 0x10FFFF) refl
  where
    go : (x : Bool) → leb n 0x10FFFF ≡ x → n ≤ 0x10FFFF
    go true q = leb-true n 0x10FFFF q
    go false q =
        let big : 0x10FFFF < n = leb-false n 0x10FFFF q in
        let first : 0xF0 + n / 262144 ≤ 0xF0 = rw (le-ltb n 0x80 (omega arith), le-ltb n 0x800 (omega arith), le-ltb n 0x10000 (omega arith)) at (leb→le (get_or (utf8 n) 0 0) 0xF0 (all_in low names names-low (body, utf8 n) (looked-up names body (utf8 n) (sym e)))) in
        absurd (omega (arith, div-add-mod' n 262144))

-- ---- a reference whose body begins with neither `;` nor `&`, by the end that is found from its second byte on

module _ (t : List ℕ) (i : ℕ) (amp : get_or t i 0 ≡ 38) (begun : Begun t i) where
  within : i < length t
  within = let h = begun.within in omega arith

  -- The second byte of the body.
  two : i + 1 + 1 ≡ i + 2
  two = omega arith

  pub begun-nobody : body_of (drop (i + 2) t) ≡ none → Stays t i NoEnd
  begun-nobody e = stays-nobody t i within amp (nobody-more t (i + 1) begun.within begun.end begun.amp (rw two e))

  module _ (r : ℕ) (end : Ends t (i + 2) r) where
    whole : Ends t (i + 1) r
    whole = ends_more t (i + 1) begun.within begun.end begun.amp r (rw two end)

    -- The body, and its bytes from the second on.
    abbrev word : List ℕ
    word = take (r - (i + 1)) (drop (i + 1) t)

    abbrev rest : List ℕ
    rest = take (r - (i + 2)) (drop (i + 2) t)

    first : word ≡ get_or t (i + 1) 0 ∷ rest
    first =
        let h : i + 2 ≤ r = end.after in
        let n : r - (i + 1) ≡ suc (r - (i + 2)) = omega arith in
        rw (n, drop-next t (i + 1) begun.within, two)

    -- A number is what follows the `#`.
    module _ (hash : get_or t (i + 1) 0 ≡ 35) where
      marked : 35 ∷ rest ≡ word
      marked = sym (rw hash at first)

      pub number-gives : (v : DecodedEntityValue) → Means (Ok v) (meaning decode_char (35 ∷ rest)) (why (35 ∷ rest)) → Gives reference_step t i (record { start = i; end = r + 1; value = v })
      number-gives v e = gives-value t i within amp r whole v (e.0 ∙ ap (meaning decode_char) marked) e.1

      pub number-stays : (w : Reason) → Means (Err w) (meaning decode_char (35 ∷ rest)) (why (35 ∷ rest)) → Stays t i w
      number-stays w e = stays-body t i within amp r whole w (e.0 ∙ ap (meaning decode_char) marked) (e.1 ∙ ap why marked)

    -- Any other body is a name.
    module _ (plain : get_or t (i + 1) 0 ≡ 35 → ⊥) where
      looked : lookup names word ≡ meaning decode_char word
      looked = sym (not-number decode_char word (λ z. plain (sym (ap (λ (s : List ℕ). get_or s 0 0) first) ∙ z)))

      pub name-gives : (v : DecodedEntityValue) → some (value_bytes v) ≡ lookup names word → Gives reference_step t i (record { start = i; end = r + 1; value = v })
      name-gives v e = gives-value t i within amp r whole v (e ∙ looked) (name-real word v e)

      pub name-stays : none ≡ lookup names word → Stays t i UnknownName
      name-stays e = stays-body t i within amp r whole UnknownName (e ∙ looked) (sym (ap why first ∙ unknown (get_or t (i + 1) 0) rest plain))
