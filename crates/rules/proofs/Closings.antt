-- What the call on a script element's text answers: it passes on valid texts within the limit, and refuses all others as every call does. What encode
-- wrote in script_raw ends at the end tag that comes after it, and encode leaves it as it is.
-- Assumes nothing.
use mathlib.Core.Bool.{Bool, true, false, ◌&&◌, cond}
use mathlib.Core.Logic.{◌↔◌, ◌⊎◌, inl, inr}
use mathlib.Core.Option.{Option, none, some, some-ne-none}
use mathlib.Core.Path.{◌≡◌, refl, sym, ap, ◌∙◌, subst}
use mathlib.Core.List.{List, ◌++◌}
use Prim.Native.Nat.{ℕ, ◌+◌, ◌≤◌, ◌<◌}
use native.Mathlib.Omega.{arith}
use borrow.Author.Tests.{ltb-false, le-ltb}
use lib.Dec.{eqb, ltb}
use lib.ListN.{length as size, drop, length-append}
use Rattle.rules.specs.Bytes.{ascii}
use Rattle.rules.specs.Moves.{Rule, through, result, place, replaced, why_at}
use Rattle.rules.specs.Utf8.{IsText, char_step, valid_to, is_cut}
use Rattle.rules.specs.Encoding.{raw_step}
use Rattle.rules.specs.Operations.{raw_of}
use Rattle.rules.specs.Refusals.{Case, bad-context, too_long, not-utf8, cut_short, not-a-form, lone-surrogate, lent, no_room, written, Given, answer_at, text_limit, case_by, case_of, call, answer_by, Allowed, view_of}
use Rattle.rules.specs.ScriptData.{closing_tag}
use Rattle.rules.specs.Closings.{closing, closing_at, closing_of}
use Rattle.rules.specs.declared.Answer.{Answer}
use Rattle.rules.specs.declared.Closing.{Closing}
use Rattle.rules.specs.declared.Operation.TheVariants.{Encode}
use Rattle.rules.specs.declared.AnyContext.TheVariants.{ScriptRaw}
use Rattle.rules.proofs.Valid.{valid-iff, valid-within}
use Rattle.rules.proofs.Encoder.{text-append}
use Rattle.rules.proofs.Cut.{cut-no-text}
use Rattle.rules.proofs.Refused.{case-given}
use Rattle.rules.proofs.Calls.{numbers, passed, passed-view, passed-text, status-allowed}
use Rattle.rules.proofs.RawAgain.{raw-quiet, raw-again}
use Rattle.rules.proofs.RawCloses.{raw-closes}

-- ---- refusals

-- A valid text within the limit is answered.
pub closing-found : (t : List ℕ) → size t ≤ text_limit → IsText t → closing_of t ≡ closing_at (closing_tag t)
unfolding closing_of
closing-found t short text = rw (le-ltb text_limit (size t) short, le-ltb (valid_to t) (size t) (whole (valid_to t) (size t) ((valid-iff t).0 text)))
  where
    whole : (v n : ℕ) → v ≡ n → n ≤ v
    whole v n e = omega arith

-- Where a place is told, the call passes.
found-passes : (o : Option ℕ) → (closing_at o).status ≡ 0
found-passes none = refl
found-passes (some p) = refl

passed-closing : (t : List ℕ) → (closing_of t).status ≡ 0 → (size t ≤ text_limit) × IsText t
unfolding closing_of
passed-closing t = go (ltb text_limit (size t)) refl (ltb (valid_to t) (size t)) refl (is_cut (drop (valid_to t) t))
  where
    whole : (v n : ℕ) → n ≤ v → v ≤ n → v ≡ n
    whole v n a b = omega arith

    go : (x : Bool) → ltb text_limit (size t) ≡ x → (y : Bool) → ltb (valid_to t) (size t) ≡ y → (z : Bool)
        → (cond x (closing 1 0 0) (cond y (closing (cond z 7 2) 0 (valid_to t)) (closing_at (closing_tag t)))).status ≡ 0 → (size t ≤ text_limit) × IsText t
    go true e y f z q = absurd (numbers 1 0 q tt)
    go false e true f true q = absurd (numbers 7 0 q tt)
    go false e true f false q = absurd (numbers 2 0 q tt)
    go false e false f z q = (ltb-false text_limit (size t) e, (valid-iff t).1 (whole (valid_to t) (size t) (ltb-false (valid_to t) (size t) f) (valid-within t)))

-- It passes exactly on these.
pub closing-passes : (t : List ℕ) → ((closing_of t).status ≡ 0) ↔ ((size t ≤ text_limit) × IsText t)
closing-passes t = (passed-closing t, λ h. ap (λ (c : Closing). c.status) (closing-found t h.0 h.1) ∙ found-passes (closing_tag t))

-- What it refuses, every call of a rule refuses with the same status and place.
pub closing-refused : (rule : Rule) (borrows : Bool) (t out : List ℕ) → ((closing_of t).status ≡ 0 → ⊥)
    → ((answer_by (some rule) borrows t out).status ≡ (closing_of t).status) × ((answer_by (some rule) borrows t out).place ≡ (closing_of t).place)
unfolding closing_of case_by
closing-refused rule borrows t out =
    let ms = through rule t in
    go (ltb text_limit (size t)) (ltb (valid_to t) (size t)) (is_cut (drop (valid_to t) t))
    (cond (ltb (place ms) (size t)) (cond (eqb (why_at rule t) 10) lone-surrogate not-a-form) (cond (borrows && eqb (replaced ms) 0) lent (cond (ltb (size out) (size (result ms))) no_room written)))
  where
    go : (x y z : Bool) (rest : Case)
        → ((cond x (closing 1 0 0) (cond y (closing (cond z 7 2) 0 (valid_to t)) (closing_at (closing_tag t)))).status ≡ 0 → ⊥)
        → ((answer_at (cond x too_long (cond y (cond z cut_short not-utf8) rest)) t (through rule t)).status
        ≡ (cond x (closing 1 0 0) (cond y (closing (cond z 7 2) 0 (valid_to t)) (closing_at (closing_tag t)))).status)
        × ((answer_at (cond x too_long (cond y (cond z cut_short not-utf8) rest)) t (through rule t)).place
        ≡ (cond x (closing 1 0 0) (cond y (closing (cond z 7 2) 0 (valid_to t)) (closing_at (closing_tag t)))).place)
    go true y z rest h = (refl, refl)
    go false true true rest h = (refl, refl)
    go false true false rest h = (refl, refl)
    go false false z rest h = absurd (h (found-passes (closing_tag t)))

-- ---- what script_raw wrote

tag-text : IsText (ascii "</script>")
unfolding char_step
tag-text = (valid-iff (ascii "</script>")).1 refl

-- The results of any call of encode in script_raw that passes.
module _ (borrows : Bool) (t out : List ℕ) (a : Answer) (o : List ℕ) (allowed : Allowed Encode ScriptRaw borrows t out a o) (fine : a.status ≡ 0) where
  abbrev wrote : List ℕ
  wrote = view_of t o a.same a.length

  is-raw : wrote ≡ raw_of t
  is-raw = passed-view Encode ScriptRaw borrows t out a o allowed fine

  -- Followed by an end tag, and with it within the limit, it ends at that tag and nowhere earlier.
  pub wrote-closes : size wrote + 9 ≤ text_limit → closing_of (wrote ++ ascii "</script>") ≡ closing 0 1 (size wrote)
  wrote-closes short =
      closing-found (wrote ++ ascii "</script>")
      (subst (λ (n : ℕ). n ≤ text_limit) (sym (length-append wrote (ascii "</script>"))) short)
      (text-append wrote (ascii "</script>") (passed-text Encode ScriptRaw borrows t out a o allowed fine) tag-text)
      ∙ ap closing_at (subst (λ (w : List ℕ). closing_tag (w ++ ascii "</script>") ≡ some (size w)) (sym is-raw) (raw-closes t))

  -- To encode it again passes and changes nothing; a borrowing call needs no room.
  pub wrote-stays : (again : Bool) (room : List ℕ) (b : Answer) (p : List ℕ) → Allowed Encode ScriptRaw again wrote room b p → size wrote ≤ text_limit
      → (again ≡ true) ⊎ (size wrote ≤ size room) → (b.status ≡ 0) × (b.same ≡ 1) × (view_of wrote p b.same b.length ≡ wrote)
  wrote-stays again room b p got short roomy = (
    st,
    (let q = passed Encode ScriptRaw again wrote room (status-allowed Encode ScriptRaw again wrote room b p got st) in
        ap (λ (x : Answer). x.same) got.0 ∙ q.same.1 (q.count ∙ quiet)),
    passed-view Encode ScriptRaw again wrote room b p got st ∙ stays,
  )
    where
      quiet : replaced (through raw_step wrote) ≡ 0
      quiet = subst (λ (w : List ℕ). replaced (through raw_step w) ≡ 0) (sym is-raw) (raw-quiet t)

      stays : raw_of wrote ≡ wrote
      stays = subst (λ (w : List ℕ). raw_of w ≡ w) (sym is-raw) (raw-again t)

      over-long : (a b : ℕ) → a ≤ b → b < a → ⊥
      over-long a b h q = omega arith

      crowded : (again ≡ true) ⊎ (size wrote ≤ size room) → ((again ≡ true) × (replaced (through raw_step wrote) ≡ 0) → ⊥) → size room < size (raw_of wrote) → ⊥
      crowded (inl e) h q = h (e, quiet)
      crowded (inr e) h q = over-long (size wrote) (size room) e (subst (λ (w : List ℕ). size room < size w) stays q)

      go : (row : Case) → Given (call Encode ScriptRaw again wrote room) row → (answer_at row wrote (through raw_step wrote)).status ≡ 0
      go bad-context h = absurd (some-ne-none raw_step h.0)
      go too_long h = absurd (over-long (size wrote) text_limit short h.0)
      go not-utf8 h = absurd (h.0.0 (passed-text Encode ScriptRaw borrows t out a o allowed fine))
      go cut_short h = absurd (cut-no-text wrote h.0 (passed-text Encode ScriptRaw borrows t out a o allowed fine))
      go not-a-form h = absurd h.0
      go lone-surrogate h = absurd h.0
      go lent h = refl
      go no_room h = absurd (crowded roomy h.1.1.1.1.1.1.1.0 h.0)
      go written h = refl

      st : b.status ≡ 0
      st = ap (λ (x : Answer). x.status) got.0 ∙ go (case_of (call Encode ScriptRaw again wrote room)) (case-given (call Encode ScriptRaw again wrote room))
