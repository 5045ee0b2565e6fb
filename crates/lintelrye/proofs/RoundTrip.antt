-- encode and the pair of check and take undo each other, of the functions that are linked: about any answers and outputs that the contracts of the
-- calls allow, copying or borrowing. Each part is a law of `rules` on what those contracts fix.
-- Assumes nothing.
use mathlib.Core.Bool.{Bool, cond}
use mathlib.Core.Logic.{◌↔◌}
use mathlib.Core.Option.{some-ne-none}
use mathlib.Core.Path.{◌≡◌, sym, ap, ◌∙◌, subst}
use mathlib.Core.List.{List}
use Prim.Native.Nat.{ℕ, ◌≤◌}
use borrow.Author.Tests.{eq-eqb, ne_eqb}
use lib.ListN.{length as size}
use Rattle.rules.specs.Utf8.{IsText, IsFree}
use Rattle.rules.specs.Units.{IsForm, unread, undecoded}
use Rattle.rules.specs.Operations.{encode_of}
use Rattle.rules.specs.Refusals.{text_limit, Allowed, view_of, checked_as, checked, check_of}
use Rattle.rules.specs.declared.Answer.{Answer}
use Rattle.rules.specs.declared.Checked.{Checked}
use Rattle.rules.specs.declared.Context.{Context}
use Rattle.rules.specs.declared.Operation.{Operation}
use Rattle.rules.specs.declared.Operation.TheVariants.{Encode, Decode, Read}
use Rattle.rules.specs.declared.AnyContext.{AnyContext}
use Rattle.rules.specs.declared.AnyContext.TheVariants.{Units}
use Rattle.rules.proofs.Calls.{passed-view}
use Rattle.rules.proofs.Back.{passes, TakesBack, read_back, decode-back, read-refuses, read-gives}
use Rattle.rules.proofs.Check.{check-agrees, check-back, check-form, check-refuses}

-- What view gives of a text, an answer and an output.
abbrev pub Seen : List ℕ → Answer → List ℕ → List ℕ
Seen t a o = view_of t o a.same a.length

-- The call on the text s passes, and view gives t.
abbrev pub Gives : List ℕ → List ℕ → Answer → List ℕ → Type 0
Gives s t a o = (a.status ≡ 0) × (Seen s a o ≡ t)

-- Any call of an operation on the text s, in an output with room for t, passes and gives t.
abbrev pub AlwaysGives : Operation → Context → List ℕ → List ℕ → Type 0
AlwaysGives op c s t = (borrows : Bool) (out : List ℕ) (a : Answer) (o : List ℕ) → size t ≤ size out → Allowed op (Units c) borrows s out a o → Gives s t a o

-- The pair agrees on every string, in status, length and place, except that where take gives NO_ROOM check gives 0.
pub pair-agrees : (n : AnyContext) (borrows : Bool) (s out : List ℕ) (k : Checked) (a : Answer) (o : List ℕ) → k ≡ check_of n s → Allowed Read n borrows s out a o
    → (a.status ≡ 3 → k ≡ checked_as 0 a.length a.place) × ((a.status ≡ 3 → ⊥) → k ≡ checked_as a.status a.length a.place)
pair-agrees n borrows s out k a o is allowed =
    let agree = is ∙ check-agrees n borrows s out ∙ ap checked (sym allowed.0) in
    let with-test : Bool → Checked = λ b. checked_as (cond b 0 a.status) a.length a.place in
    (λ e. agree ∙ ap with-test (eq-eqb a.status 3 e), λ h. agree ∙ ap with-test (ne_eqb a.status 3 h))

-- In a context, encode and the pair undo each other, and the pair refuses exactly what encode never writes.
pub record ThereAndBack (c : Context) : Type 0 where
  -- check passes what encode wrote, where that has at most 65,536 bytes, with the length of the text that went in: of every text; in a style string of
  -- every text without NUL.
  pub check-after-encode : (borrows : Bool) (t out : List ℕ) (a : Answer) (o : List ℕ) → Allowed Encode (Units c) borrows t out a o → a.status ≡ 0
      → IsFree (unread c) t → size (Seen t a o) ≤ text_limit → (k : Checked) → k ≡ check_of (Units c) (Seen t a o) → k ≡ checked_as 0 (size t) 0
  -- take, into an output of that length, gives the text back.
  pub take-after-encode : (borrows : Bool) (t out : List ℕ) (a : Answer) (o : List ℕ) → Allowed Encode (Units c) borrows t out a o → a.status ≡ 0
      → IsFree (unread c) t → size (Seen t a o) ≤ text_limit → AlwaysGives Read c (Seen t a o) t
  -- decode does so too, but for the characters that it does not give back.
  pub decode-after-encode : (borrows : Bool) (t out : List ℕ) (a : Answer) (o : List ℕ) → Allowed Encode (Units c) borrows t out a o → a.status ≡ 0
      → IsFree (undecoded c) t → size (Seen t a o) ≤ text_limit → AlwaysGives Decode c (Seen t a o) t
  -- encode writes again what take took.
  pub encode-after-take : (borrows : Bool) (s out : List ℕ) (a : Answer) (o : List ℕ) → Allowed Read (Units c) borrows s out a o → a.status ≡ 0
      → AlwaysGives Encode c (Seen s a o) s
  -- check passes exactly the forms that have at most 65,536 bytes.
  pub check-passes : (s : List ℕ) (k : Checked) → k ≡ check_of (Units c) s → (k.status ≡ 0) ↔ (IsForm c s × (size s ≤ text_limit))
  -- check refuses for form exactly if no text of at most 65,536 bytes encodes to the string; so does take.
  pub check-refuses-form : (s : List ℕ) (k : Checked) → k ≡ check_of (Units c) s → size s ≤ text_limit → IsText s
      → (k.status ≡ 4) ↔ ((x : List ℕ) → IsText x → size x ≤ text_limit → s ≡ encode_of c x → ⊥)
  pub take-refuses-form : (borrows : Bool) (s out : List ℕ) (a : Answer) (o : List ℕ) → Allowed Read (Units c) borrows s out a o → size s ≤ text_limit → IsText s
      → (a.status ≡ 4) ↔ ((x : List ℕ) → IsText x → size x ≤ text_limit → s ≡ encode_of c x → ⊥)

-- A law on what the contract fixes, of any results that it allows.
taken_back : (op : Operation) (c : Context) (s t : List ℕ) → ((borrows : Bool) (out : List ℕ) → size t ≤ size out → TakesBack op c borrows s t out) → AlwaysGives op c s t
taken_back op c s t law borrows out a o room allowed =
    let back = law borrows out room in (
      ap (λ (x : Answer). x.status) allowed.0 ∙ back.status,
      (λ i. view_of s (allowed.1 i) (allowed.0 i).same (allowed.0 i).length) ∙ back.view,
    )

-- A law on what check answers, of any result that its contract allows.
of-check : (n : AnyContext) (s : List ℕ) (P : ℕ → Type 0) {Q : Type 0} → (P (check_of n s).status) ↔ Q → (k : Checked) → k ≡ check_of n s → (P k.status) ↔ Q
of-check n s P {Q} law k is = subst (λ (k : Checked). (P k.status) ↔ Q) (sym is) law

module _ (c : Context) where
  after-encode : (op : Operation) (borrows : Bool) (t out : List ℕ) (a : Answer) (o : List ℕ) → Allowed Encode (Units c) borrows t out a o → a.status ≡ 0
      → (size (encode_of c t) ≤ text_limit → AlwaysGives op c (encode_of c t) t) → size (Seen t a o) ≤ text_limit → AlwaysGives op c (Seen t a o) t
  after-encode op borrows t out a o allowed fine law short =
      let seen : Seen t a o ≡ encode_of c t = passed-view Encode (Units c) borrows t out a o allowed fine in
      subst (λ (s : List ℕ). AlwaysGives op c s t) (sym seen) (law (subst (λ (s : List ℕ). size s ≤ text_limit) seen short))

  encodes-again : (borrows : Bool) (s out : List ℕ) (a : Answer) (o : List ℕ) → Allowed Read (Units c) borrows s out a o → a.status ≡ 0 → AlwaysGives Encode c (Seen s a o) s
  encodes-again borrows s out a o allowed fine again room b p fits got =
      let ((cs, h, f, e), short, back) = read-gives c borrows s out a o allowed fine in
      let known = passes Encode (Units c) again (Seen s a o) room (λ q. some-ne-none _ q) short (cs, h, e) (λ q. q) (λ q. q) (subst (λ (l : List ℕ). size l ≤ size room) (sym back) fits) in
      let st = ap (λ (x : Answer). x.status) got.0 ∙ known in
      (st, passed-view Encode (Units c) again (Seen s a o) room b p got st ∙ back)

  checks-encoded : (borrows : Bool) (t out : List ℕ) (a : Answer) (o : List ℕ) → Allowed Encode (Units c) borrows t out a o → a.status ≡ 0
      → IsFree (unread c) t → size (Seen t a o) ≤ text_limit → (k : Checked) → k ≡ check_of (Units c) (Seen t a o) → k ≡ checked_as 0 (size t) 0
  checks-encoded borrows t out a o allowed fine free short k is =
      let seen : Seen t a o ≡ encode_of c t = passed-view Encode (Units c) borrows t out a o allowed fine in
      is ∙ ap (check_of (Units c)) seen ∙ check-back c t free (subst (λ (s : List ℕ). size s ≤ text_limit) seen short)

  -- It holds of every context.
  pub there_and_back : ThereAndBack c
  there_and_back = record {
    check-after-encode = checks-encoded;
    take-after-encode = λ borrows t out a o allowed fine free.
        after-encode Read borrows t out a o allowed fine (λ short. taken_back Read c (encode_of c t) t (λ b room. read_back c b t room free short));
    decode-after-encode = λ borrows t out a o allowed fine free.
        after-encode Decode borrows t out a o allowed fine (λ short. taken_back Decode c (encode_of c t) t (λ b room. decode-back c b t room free short));
    encode-after-take = encodes-again;
    check-passes = λ s. of-check (Units c) s (λ (n : ℕ). n ≡ 0) (check-form c s);
    check-refuses-form = λ s k is short text. of-check (Units c) s (λ (n : ℕ). n ≡ 4) (check-refuses c s short text) k is;
    take-refuses-form = λ borrows s out. read-refuses c borrows s out;
  }
