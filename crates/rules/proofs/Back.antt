-- What read and decode give back of what encode wrote, what read refuses, and where decode and read agree: a form is read as one run of units, and
-- the table refuses nothing else within the limit of a text.
-- Assumes nothing.
use mathlib.Core.Bool.{Bool, false, ◌&&◌, cond}
use mathlib.Core.Logic.{◌↔◌}
use mathlib.Core.Option.{none, some, some-ne-none}
use mathlib.Core.Path.{◌≡◌, refl, sym, ap, ◌∙◌, subst}
use mathlib.Core.List.{List}
use Prim.Native.Nat.{ℕ, ◌≤◌, ◌<◌}
use native.Mathlib.Nat.{le_trans}
use native.Mathlib.Omega.{arith}
use borrow.Author.Tests.{le-ltb}
use lib.Dec.{eqb, ltb}
use lib.ListN.{length as size, drop}
use Rattle.rules.specs.Bytes.{over}
use Rattle.rules.specs.Moves.{Move, Rule, through, result, replaced, place, lefts, first_of, why_at}
use Rattle.rules.specs.Utf8.{IsText, IsFree, valid_to, is_cut}
use Rattle.rules.specs.Units.{IsForm, unread, undecoded}
use Rattle.rules.specs.Reading.{read_step}
use Rattle.rules.specs.Operations.{decode_step, rule_of, encode_of, read_of, read_to}
use Rattle.rules.specs.Refusals.{Call, Case, bad-context, too_long, not-utf8, cut_short, not-a-form, lone-surrogate, lent, no_room, written, Lone, NoForm, Given, moves_in, case_of, refusal, success, answer_at, out_at, text_limit, judge, case_by, call, answer_of, out_of, Allowed, view_of}
use Rattle.rules.specs.declared.Answer.{Answer}
use Rattle.rules.specs.declared.Context.{Context}
use Rattle.rules.specs.declared.Context.TheVariants.{InHtml, InScript, InStyle, InJson, InAscii}
use Rattle.rules.specs.declared.Operation.{Operation}
use Rattle.rules.specs.declared.Operation.TheVariants.{Decode, Read}
use Rattle.rules.specs.declared.AnyContext.{AnyContext}
use Rattle.rules.specs.declared.AnyContext.TheVariants.{Units}
use Rattle.rules.proofs.Machine.{taken-cut, result-cut, replaced-cut, lefts-cut}
use Rattle.rules.proofs.Laws.{form-iff, form-within, form-free, form-encoded, read_length, encode-form, encode-any, encode-read, form-text, read-encode, decode-encode, decode-moves}
use Rattle.rules.proofs.Cut.{cut-no-text}
use Rattle.rules.proofs.JsonWritten.{encode-content}
use Rattle.rules.proofs.Json.{content-alone}
use Rattle.rules.proofs.Refused.{case-given, case-iff}
use Rattle.rules.proofs.Calls.{numbers, passed, passed-given, passed-view, status-allowed}

-- ---- what read and decode give back

-- A call passes where the table has nothing against it.
pub passes : (o : Operation) (n : AnyContext) (borrows : Bool) (t out : List ℕ) → (rule_of o n ≡ none → ⊥) → size t ≤ text_limit → IsText t → (NoForm o n t → ⊥) → (Lone o n t → ⊥)
    → size (result (moves_in (call o n borrows t out))) ≤ size out → (answer_of o n borrows t out).status ≡ 0
passes o n borrows t out known short text form lone room = go (case_of (call o n borrows t out)) (case-given (call o n borrows t out))
  where
    over-long : (a b : ℕ) → a ≤ b → b < a → ⊥
    over-long a b h q = omega arith

    go : (row : Case) → Given (call o n borrows t out) row → (answer_at row t (moves_in (call o n borrows t out))).status ≡ 0
    go bad-context h = absurd (known h.0)
    go too_long h = absurd (over-long (size t) text_limit short h.0)
    go not-utf8 h = absurd (h.0.0 text)
    go cut_short h = absurd (cut-no-text t h.0 text)
    go not-a-form h = absurd (form h.0)
    go lone-surrogate h = absurd (lone h.0)
    go lent h = refl
    go no_room h = absurd (over-long (size (result (moves_in (call o n borrows t out)))) (size out) room h.0)
    go written h = refl

-- What encode wrote decode does not refuse.
fine : (c : Context) (t : List ℕ) → IsFree (undecoded c) t → (NoForm Decode (Units c) (encode_of c t) → ⊥) × (Lone Decode (Units c) (encode_of c t) → ⊥)
fine (InHtml h) t f = (λ no. no, λ no. no)
fine (InScript q) t f = (λ no. no, λ no. no)
fine (InStyle q) t f = (λ no. no, λ no. no)
fine InAscii t f = (λ no. no, λ no. no)
fine InJson t f = let (cs, h, b, e) = f in let content = encode-content t (cs, h, e) in (λ no. no.0 content, content-alone (encode_of InJson t) content)

-- An operation takes a text from what was written: the call passes, and view gives that text.
pub record TakesBack (o : Operation) (c : Context) (borrows : Bool) (form t out : List ℕ) : Type 0 where
  pub status : (answer_of o (Units c) borrows form out).status ≡ 0
  pub view : view_of form (out_of o (Units c) borrows form out) (answer_of o (Units c) borrows form out).same (answer_of o (Units c) borrows form out).length ≡ t

module _ (c : Context) (borrows : Bool) (t out : List ℕ) where
  some-rule : {r : Rule} → some r ≡ none → ⊥
  some-rule {r} e = some-ne-none r e

  takes_back : (o : Operation) → (rule_of o (Units c) ≡ none → ⊥) → IsText (encode_of c t) → (NoForm o (Units c) (encode_of c t) → ⊥) → (Lone o (Units c) (encode_of c t) → ⊥)
      → result (moves_in (call o (Units c) borrows (encode_of c t) out)) ≡ t
      → size (encode_of c t) ≤ text_limit → size t ≤ size out → TakesBack o c borrows (encode_of c t) t out
  takes_back o known text form lone back short room =
      let st = passes o (Units c) borrows (encode_of c t) out known short text form lone (subst (λ (l : List ℕ). size l ≤ size out) (sym back) room) in
      record { status = st; view = (passed o (Units c) borrows (encode_of c t) out st).view ∙ back }

  -- read undoes what encode wrote, where it is within the limit of a text and the output has room.
  pub read_back : IsFree (unread c) t → size (encode_of c t) ≤ text_limit → size t ≤ size out → TakesBack Read c borrows (encode_of c t) t out
  read_back f = takes_back Read some-rule (form-text c (encode_of c t) (encode-form c t f)) (λ no. no (encode-form c t f)) (λ no. no) (read-encode c t f)

  -- And so does decode, but for the stated exceptions.
  pub decode-back : IsFree (undecoded c) t → size (encode_of c t) ≤ text_limit → size t ≤ size out → TakesBack Decode c borrows (encode_of c t) t out
  decode-back f = let (cs, h, b, e) = f in
      takes_back Decode some-rule (form-text c (encode_of c t) (encode-any c t (cs, h, e))) (fine c t f).0 (fine c t f).1 (decode-encode c t f)

  -- Where the limit bites: what encode wrote is too long to be read or decoded, and is refused as such, not as no form.
  pub back_long : (o : Operation) → (rule_of o (Units c) ≡ none → ⊥) → text_limit < size (encode_of c t) → answer_of o (Units c) borrows (encode_of c t) out ≡ refusal 1 0 0
  back_long o known long =
      ap (λ (row : Case). answer_at row (encode_of c t) (moves_in (call o (Units c) borrows (encode_of c t) out)))
      ((case-iff (call o (Units c) borrows (encode_of c t) out) too_long).1 (long, (known, tt)))

-- ---- what read refuses, and what it gives

module _ (c : Context) (borrows : Bool) (s out : List ℕ) where
  abbrev asked : Call
  asked = call Read (Units c) borrows s out

  -- Only the row of forms has status 4.
  row-form : (row : Case) → (answer_at row s (moves_in asked)).status ≡ 4 → row ≡ not-a-form
  row-form bad-context e = absurd (numbers 5 4 e tt)
  row-form too_long e = absurd (numbers 1 4 e tt)
  row-form not-utf8 e = absurd (numbers 2 4 e tt)
  row-form cut_short e = absurd (numbers 7 4 e tt)
  row-form not-a-form e = refl
  row-form lone-surrogate e = absurd (numbers 10 4 e tt)
  row-form lent e = absurd (numbers 0 4 e tt)
  row-form no_room e = absurd (numbers 3 4 e tt)
  row-form written e = absurd (numbers 0 4 e tt)

  -- What read makes of a form is a text within the limit that encodes to the form.
  encodes : IsForm c s → size s ≤ text_limit → IsFree (unread c) (read_of c s) × (size (read_of c s) ≤ text_limit) × (encode_of c (read_of c s) ≡ s)
  encodes f short = (form-free c s f, le_trans (read_length c s) (le_trans (form-within c s) short), encode-read c s f)

  -- read refuses for form exactly if no text of at most 65,536 bytes encodes to the string, which is itself a text of at most 65,536 bytes.
  pub read-refuses : (a : Answer) (o : List ℕ) → Allowed Read (Units c) borrows s out a o → size s ≤ text_limit → IsText s
      → (a.status ≡ 4) ↔ ((x : List ℕ) → IsText x → size x ≤ text_limit → s ≡ encode_of c x → ⊥)
  read-refuses a o allowed short text = (
    λ e x t l w. ((case-iff asked not-a-form).0 (row-form (case_of asked) (status-allowed Read (Units c) borrows s out a o allowed e))).0 ((form-encoded c s).1 (x, t, w)),
    λ no_text. ap (λ (x : Answer). x.status) allowed.0 ∙ ap (λ (row : Case). (answer_at row s (moves_in asked)).status)
        ((case-iff asked not-a-form).1 (no-form no_text, ((λ e. some-ne-none _ e), ((λ h. over-long _ _ short h), ((λ h. h.0 text), ((λ h. cut-no-text s h text), tt)))))),
  )
    where
      over-long : (a b : ℕ) → a ≤ b → b < a → ⊥
      over-long a b h q = omega arith

      no-form : ((x : List ℕ) → IsText x → size x ≤ text_limit → s ≡ encode_of c x → ⊥) → IsForm c s → ⊥
      no-form no_text f = let ((cs, h, b, e), l, w) = encodes f short in no_text (read_of c s) (cs, h, e) l (sym w)

  -- Where read passes, view gives a text of at most 65,536 bytes, free of the characters that no form stands for, that encodes to the string.
  pub read-gives : (a : Answer) (o : List ℕ) → Allowed Read (Units c) borrows s out a o → a.status ≡ 0
      → IsFree (unread c) (view_of s o a.same a.length) × (size (view_of s o a.same a.length) ≤ text_limit) × (encode_of c (view_of s o a.same a.length) ≡ s)
  read-gives a o allowed fine =
      let st = status-allowed Read (Units c) borrows s out a o allowed fine in
      let form = (form-iff c s).1 (ap size (passed Read (Units c) borrows s out st).whole) in
      subst (λ (l : List ℕ). IsFree (unread c) l × (size l ≤ text_limit) × (encode_of c l ≡ s)) (sym (passed-view Read (Units c) borrows s out a o allowed fine))
      (encodes form (passed-given Read (Units c) borrows s out st).1)

-- ---- decode and read agree

-- Moves that end at the same place, replace as many places, leave the same references and give the same have the same answer and leave the same output.
module _ (borrows : Bool) (t out : List ℕ) (ms ns : List Move) (p : place ms ≡ place ns) (q : replaced ms ≡ replaced ns) (f : lefts ms ≡ lefts ns) (e : result ms ≡ result ns)
    (whole : ltb (place ns) (size t) ≡ false) (v w : ℕ) where
  abbrev judged : List Move → ℕ → Case
  judged ms w = judge borrows text_limit t ms w (size out)

  same_case : judged ms v ≡ judged ns w
  same_case =
      (λ i. cond (ltb text_limit (size t)) too_long
      (cond (ltb (valid_to t) (size t)) (cond (is_cut (drop (valid_to t) t)) cut_short not-utf8)
      (cond ((ap (λ (n : ℕ). ltb n (size t)) p ∙ whole) i) (cond (eqb v 10) lone-surrogate not-a-form) (cond (borrows && eqb (q i) 0) lent (cond (ltb (size out) (size (e i))) no_room written)))))
      ∙ sym (λ i. cond (ltb text_limit (size t)) too_long
      (cond (ltb (valid_to t) (size t)) (cond (is_cut (drop (valid_to t) t)) cut_short not-utf8)
      (cond (whole i) (cond (eqb w 10) lone-surrogate not-a-form) (cond (borrows && eqb (replaced ns) 0) lent (cond (ltb (size out) (size (result ns))) no_room written)))))

  same_answer_lem : (row : Case) → answer_at row t ms ≡ answer_at row t ns
  same_answer_lem bad-context = refl
  same_answer_lem too_long = refl
  same_answer_lem not-utf8 = refl
  same_answer_lem cut_short = refl
  same_answer_lem not-a-form = λ i. refusal 4 0 (p i)
  same_answer_lem lone-surrogate = λ i. refusal 10 0 (p i)
  same_answer_lem lent = λ i. success (size (e i)) 0 (first_of (f i))
  same_answer_lem no_room = λ i. refusal 3 (size (e i)) 0
  same_answer_lem written = λ i. success (size (e i)) (q i) (first_of (f i))

  same_out : (row : Case) → out_at row ms out ≡ out_at row ns out
  same_out bad-context = refl
  same_out too_long = refl
  same_out not-utf8 = refl
  same_out cut_short = refl
  same_out not-a-form = refl
  same_out lone-surrogate = refl
  same_out lent = refl
  same_out no_room = refl
  same_out written = λ i. over (e i) out

  alike : (answer_at (judged ms v) t ms ≡ answer_at (judged ns w) t ns) × (out_at (judged ms v) ms out ≡ out_at (judged ns w) ns out)
  alike = (
    ap (λ (row : Case). answer_at row t ms) same_case ∙ same_answer_lem (judged ns w),
    ap (λ (row : Case). out_at row ms out) same_case ∙ same_out (judged ns w),
  )

-- On a form of a text that decode gives back, decode and read agree in the whole answer and the whole output.
pub decode-as-read : (c : Context) (borrows : Bool) (s out : List ℕ) → IsForm c s → IsFree (undecoded c) (read_of c s)
    → (answer_of Decode (Units c) borrows s out ≡ answer_of Read (Units c) borrows s out) × (out_of Decode (Units c) borrows s out ≡ out_of Read (Units c) borrows s out)
unfolding case_by
decode-as-read c borrows s out form free =
    let m = decode-moves c s form free in
    let ms = through (read_step c) s in
    alike borrows s out (through (decode_step c) s) ms
    (ap place m ∙ ap size (taken-cut ms)) (ap replaced m ∙ replaced-cut ms) (ap lefts m ∙ lefts-cut 0 ms) (ap result m ∙ result-cut ms)
    (le-ltb (read_to c s) (size s) (omega (arith, (form-iff c s).0 form))) (why_at (decode_step c) s) (why_at (read_step c) s)
