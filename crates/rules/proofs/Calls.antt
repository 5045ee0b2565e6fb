-- The public calls: what the answer and the output have to do with each other. A refusal's row says all of it; a call that passes leaves the result,
-- or lends the text where nothing is replaced.
-- Assumes nothing.
use mathlib.Core.Bool.{Bool, true, false, not, cond}
use mathlib.Core.Logic.{◌↔◌}
use mathlib.Core.Path.{◌≡◌, refl, sym, ap, ◌∙◌, subst}
use mathlib.Core.List.{List, [], ◌∷◌}
use Prim.Native.Nat.{ℕ, ◌+◌, ◌-◌, ◌≤◌, ◌<◌}
use native.Mathlib.Nat.{suc-ne-zero, not-suc-le-zero}
use native.Mathlib.Omega.{arith}
use borrow.Author.Tests.{eqb-true, eqb-false, eq-eqb, le-leb}
use lib.Dec.{T, eqb, T_not}
use lib.ListN.{length as size, take, drop, length-append, length-drop}
use lib.Seq.{take-append_seam, drop-append_seam}
use Rattle.rules.specs.Bytes.{over}
use Rattle.rules.specs.Moves.{Move, result, replaced, growth, shrinkage, taken, place, first_left}
use Rattle.rules.specs.Utf8.{IsText, valid_to}
use Rattle.rules.specs.Browsing.{kind_of}
use Rattle.rules.specs.declared.Kind.TheVariants.{InAttribute}
use Rattle.rules.specs.Operations.{rule_of, encode_of}
use Rattle.rules.specs.Refusals.{Call, Case, bad-context, too_long, not-utf8, cut_short, not-a-form, lone-surrogate, lent, no_room, written, Given, moves_of, moves_in, case_of, success, answer_at, out_at, text_limit, call, answer_of, out_of, Allowed, view_of}
use Rattle.rules.specs.declared.Answer.{Answer}
use Rattle.rules.specs.declared.Context.TheVariants.{InHtml, InScript, InStyle, InJson, InAscii}
use Rattle.rules.specs.declared.Operation.{Operation}
use Rattle.rules.specs.declared.Operation.TheVariants.{Encode, Decode, Read, Browse}
use Rattle.rules.specs.declared.AnyContext.{AnyContext}
use Rattle.rules.specs.declared.AnyContext.TheVariants.{Units, ScriptRaw, Unknown}
use Rattle.rules.proofs.Machine.{same-result}
use Rattle.rules.proofs.Growth.{encode-whole, raw-whole, balance}
use Rattle.rules.proofs.Whole.{decode-whole-if}
use Rattle.rules.proofs.Laws.{form-iff, form-free, read_whole, encode-any, form-text}
use Rattle.rules.proofs.Valid.{valid-iff}
use Rattle.rules.proofs.Texts.{decode-text, raw-text}
use Rattle.rules.proofs.Browsing.{browse-whole, browse-text}
use Rattle.rules.proofs.Refused.{case-given, case-iff, case-taken}

add_back : (a b : ℕ) → (b < a → ⊥) → a + (b - a) ≡ b
add_back a b h = omega arith

pub not-below : (a b : ℕ) → (b < a → ⊥) → a ≤ b
not-below a b h = omega arith

-- Two numbers that a test tells apart are not equal.
pub numbers : (a b : ℕ) → a ≡ b → T (not (eqb a b)) → ⊥
numbers a b e t = T_not (eqb a b) t (eq-true (eq-eqb a b e))
  where
    eq-true : {x : Bool} → x ≡ true → T x
    eq-true e = subst T (sym e) tt

none-taken : (t : List ℕ) → size t ≤ 0 → [] ≡ t
none-taken [] h = refl
none-taken (x ∷ t) h = absurd (not-suc-le-zero h)

-- 1 exactly if a number is 0.
same-iff : (r : ℕ) → ((success 0 r (0, 0)).same ≡ 1) ↔ (r ≡ 0)
same-iff r = (λ e. go (eqb r 0) refl e, λ z. ap (λ (b : Bool). cond b 1 0) (eq-eqb r 0 z))
  where
    go : (b : Bool) → eqb r 0 ≡ b → ◌≡◌ {A = ℕ} (cond b 1 0) 1 → r ≡ 0
    go true e q = eqb-true r 0 e
    go false e q = absurd (suc-ne-zero 0 (sym q))

-- Every rule takes the text where it takes as many bytes as the text has.
taken-all : (o : Operation) (n : AnyContext) (t : List ℕ) → size t ≤ place (moves_in (call o n true t [])) → taken (moves_in (call o n true t [])) ≡ t
taken-all Encode (Units c) t h = encode-whole c t
taken-all Encode ScriptRaw t h = raw-whole t
taken-all Encode Unknown t h = none-taken t h
taken-all Decode (Units c) t h = decode-whole-if c t h
taken-all Decode ScriptRaw t h = none-taken t h
taken-all Decode Unknown t h = none-taken t h
taken-all Read (Units c) t h = read_whole c t h
taken-all Read ScriptRaw t h = none-taken t h
taken-all Read Unknown t h = none-taken t h
taken-all Browse (Units (InHtml k)) t h = browse-whole (kind_of k) t
taken-all Browse (Units (InScript q)) t h = none-taken t h
taken-all Browse (Units (InStyle q)) t h = none-taken t h
taken-all Browse (Units InJson) t h = none-taken t h
taken-all Browse (Units InAscii) t h = browse-whole InAttribute t
taken-all Browse ScriptRaw t h = none-taken t h
taken-all Browse Unknown t h = none-taken t h

-- ---- one call

module _ (o : Operation) (n : AnyContext) (borrows : Bool) (t out : List ℕ) where
  abbrev k : Call
  k = call o n borrows t out

  abbrev ms : List Move
  ms = moves_in k

  -- The output keeps its length.
  pub out-length : size (out_of o n borrows t out) ≡ size out
  out-length = go (case_of k) (case-given k)
    where
      go : (row : Case) → Given k row → size (out_at row ms out) ≡ size out
      go bad-context h = refl
      go too_long h = refl
      go not-utf8 h = refl
      go cut_short h = refl
      go not-a-form h = refl
      go lone-surrogate h = refl
      go lent h = refl
      go no_room h = refl
      go written h =
          length-append (result ms) (drop (size (result ms)) out) ∙ ap (λ (m : ℕ). size (result ms) + m) (length-drop (size (result ms)) out)
          ∙ add_back (size (result ms)) (size out) h.1.1.1.1.1.1.1.1.0

  -- On any refusal same, replaced, left and reason are 0 and the output is unchanged.
  pub refused-unchanged : ((answer_of o n borrows t out).status ≡ 0 → ⊥)
      → ((answer_of o n borrows t out).same ≡ 0) × ((answer_of o n borrows t out).replaced ≡ 0) × ((answer_of o n borrows t out).left ≡ 0)
      × ((answer_of o n borrows t out).reason ≡ 0) × (out_of o n borrows t out ≡ out)
  refused-unchanged = go (case_of k)
    where
      go : (row : Case) → ((answer_at row t ms).status ≡ 0 → ⊥) → ((answer_at row t ms).same ≡ 0) × ((answer_at row t ms).replaced ≡ 0) × ((answer_at row t ms).left ≡ 0)
          × ((answer_at row t ms).reason ≡ 0) × (out_at row ms out ≡ out)
      go bad-context h = (refl, refl, refl, refl, refl)
      go too_long h = (refl, refl, refl, refl, refl)
      go not-utf8 h = (refl, refl, refl, refl, refl)
      go cut_short h = (refl, refl, refl, refl, refl)
      go not-a-form h = (refl, refl, refl, refl, refl)
      go lone-surrogate h = (refl, refl, refl, refl, refl)
      go lent h = absurd (h refl)
      go no_room h = (refl, refl, refl, refl, refl)
      go written h = absurd (h refl)

  -- What a call that passes shows.
  pub record Passed (row : Case) : Type 0 where
    -- It took the whole text.
    pub whole : taken ms ≡ t
    -- length is the result's length, and place is 0.
    pub long : (answer_at row t ms).length ≡ size (result ms)
    pub nowhere : (answer_at row t ms).place ≡ 0
    -- replaced is how many places were replaced, and same is 1 exactly if it is 0.
    pub count : (answer_at row t ms).replaced ≡ replaced ms
    pub same : ((answer_at row t ms).same ≡ 1) ↔ ((answer_at row t ms).replaced ≡ 0)
    -- left and reason are those of the first reference that stays.
    pub first : ((answer_at row t ms).left ≡ (first_left ms).0) × ((answer_at row t ms).reason ≡ (first_left ms).1)
    -- view gives the result.
    pub view : view_of t (out_at row ms out) (answer_at row t ms).same (answer_at row t ms).length ≡ result ms
    -- The first `length` bytes of the output are the result, unless the call borrows and nothing was replaced.
    pub head : ((borrows ≡ true) × (replaced ms ≡ 0) → ⊥) → take (answer_at row t ms).length (out_at row ms out) ≡ result ms
    -- The bytes of the output past them keep their values.
    pub tail : drop (answer_at row t ms).length (out_at row ms out) ≡ drop (answer_at row t ms).length out

  view-written : (size out < size (result ms) → ⊥) → taken ms ≡ t → view_of t (out_at written ms out) (answer_at written t ms).same (size (result ms)) ≡ result ms
  view-written h w = go (eqb (replaced ms) 0) refl
    where
      go : (b : Bool) → eqb (replaced ms) 0 ≡ b → view_of t (out_at written ms out) (cond b 1 0) (size (result ms)) ≡ result ms
      go true e = sym (same-result ms (eqb-true (replaced ms) 0 e) ∙ w)
      go false e =
          ap (λ (b : Bool). cond b (take (size (result ms)) (over (result ms) out)) [])
          (le-leb (size (result ms)) (size (over (result ms) out))
          (subst (λ (m : ℕ). size (result ms) ≤ m) (sym (length-append (result ms) (drop (size (result ms)) out))) (omega arith)))
          ∙ take-append_seam (result ms) (drop (size (result ms)) out)

  -- On status 0, in every operation and context, copying or borrowing.
  pub passed : (answer_of o n borrows t out).status ≡ 0 → Passed (case_of k)
  passed = go (case_of k) (case-given k)
    where
      go : (row : Case) → Given k row → (answer_at row t ms).status ≡ 0 → Passed row
      go bad-context h e = absurd (suc-ne-zero 4 e)
      go too_long h e = absurd (suc-ne-zero 0 e)
      go not-utf8 h e = absurd (suc-ne-zero 1 e)
      go cut_short h e = absurd (suc-ne-zero 6 e)
      go not-a-form h e = absurd (suc-ne-zero 3 e)
      go lone-surrogate h e = absurd (suc-ne-zero 9 e)
      go lent h e =
          let w = taken-all o n t (case-taken k h.1.0 h.1.1.1.1.1.0 h.1.1.1.1.1.1.0) in
          record { whole = w; long = refl; nowhere = refl; count = sym h.0.1; same = (λ q. refl, λ q. refl); first = (refl, refl); view = sym (same-result ms h.0.1 ∙ w); head = λ q. absurd (q h.0); tail = refl }
      go no_room h e = absurd (suc-ne-zero 2 e)
      go written h e =
          let w = taken-all o n t (case-taken k h.1.0 h.1.1.1.1.1.0 h.1.1.1.1.1.1.0) in
          record {
            whole = w;
            long = refl;
            nowhere = refl;
            count = refl;
            same = same-iff (replaced ms);
            first = (refl, refl);
            view = view-written h.1.1.1.1.1.1.1.1.0 w;
            head = λ q. take-append_seam (result ms) (drop (size (result ms)) out);
            tail = drop-append_seam (result ms) (drop (size (result ms)) out);
          }

  -- The result's length: what the places that shrink lose and what those that grow gain make the difference.
  pub length-balance : (answer_of o n borrows t out).status ≡ 0 → (answer_of o n borrows t out).length + shrinkage ms ≡ size t + growth ms
  length-balance e = let p = passed e in ap (λ (m : ℕ). m + shrinkage ms) p.long ∙ balance ms ∙ ap (λ (l : List ℕ). size l + growth ms) p.whole

  -- In a borrowing call NO_ROOM comes only where something is replaced.
  pub borrow-room : borrows ≡ true → case_of k ≡ no_room → replaced ms ≡ 0 → ⊥
  borrow-room b e z = ((case-iff k no_room).0 e).1.1.1.1.1.1.1.0 (b, z)

  -- A borrowing call leaves the output alone where nothing is replaced.
  pub lent-alone : borrows ≡ true → replaced ms ≡ 0 → out_of o n borrows t out ≡ out
  lent-alone b z = go (case_of k) (case-given k)
    where
      go : (row : Case) → Given k row → out_at row ms out ≡ out
      go bad-context h = refl
      go too_long h = refl
      go not-utf8 h = refl
      go cut_short h = refl
      go not-a-form h = refl
      go lone-surrogate h = refl
      go lent h = refl
      go no_room h = refl
      go written h = absurd (h.1.1.1.1.1.1.1.0 (b, z))

-- The length that NO_ROOM names is the length needed: the call passes exactly if the output has at least that many bytes.
pub room-needed : (o : Operation) (n : AnyContext) (borrows : Bool) (t out other : List ℕ) → case_of (call o n borrows t out) ≡ no_room
    → ((answer_of o n borrows t out).length ≤ size other) ↔ (case_of (call o n borrows t other) ≡ written)
room-needed o n borrows t out other e = (
  λ h. (case-iff (call o n borrows t other) written).1
      (tt, (g.1.0, (g.1.1.0, (g.1.1.1.0, (g.1.1.1.1.0, (g.1.1.1.1.1.0, (g.1.1.1.1.1.1.0, (g.1.1.1.1.1.1.1.0, ((λ q. over-long _ _ (subst (λ (m : ℕ). m ≤ size other) long h) q), tt))))))))),
  λ q. subst (λ (m : ℕ). m ≤ size other) (sym long) (not-below _ _ ((case-iff (call o n borrows t other) written).0 q).1.1.1.1.1.1.1.1.0),
)
  where
    g : Given (call o n borrows t out) no_room
    g = (case-iff (call o n borrows t out) no_room).0 e

    long : (answer_of o n borrows t out).length ≡ size (result (moves_in (call o n borrows t out)))
    long = ap (λ (row : Case). (answer_at row t (moves_in (call o n borrows t out))).length) e

    over-long : (a b : ℕ) → a ≤ b → b < a → ⊥
    over-long a b h q = omega arith

-- ---- a call that passes

-- Its text is valid, and within the limit.
pub passed-given : (o : Operation) (n : AnyContext) (borrows : Bool) (t out : List ℕ) → (answer_of o n borrows t out).status ≡ 0 → IsText t × (size t ≤ text_limit)
passed-given o n borrows t out = go (case_of (call o n borrows t out)) (case-given (call o n borrows t out))
  where
    valid : ((IsText t → ⊥) → ⊥) → IsText t
    valid h = by (eqb (valid_to t) (size t)) refl
      where
        by : (b : Bool) → eqb (valid_to t) (size t) ≡ b → IsText t
        by true e = (valid-iff t).1 (eqb-true (valid_to t) (size t) e)
        by false e = absurd (h (λ x. eqb-false (valid_to t) (size t) e ((valid-iff t).0 x)))

    go : (row : Case) → Given (call o n borrows t out) row → (answer_at row t (moves_in (call o n borrows t out))).status ≡ 0 → IsText t × (size t ≤ text_limit)
    go bad-context h e = absurd (numbers 5 0 e tt)
    go too_long h e = absurd (numbers 1 0 e tt)
    go not-utf8 h e = absurd (numbers 2 0 e tt)
    go cut_short h e = absurd (numbers 7 0 e tt)
    go not-a-form h e = absurd (numbers 4 0 e tt)
    go lone-surrogate h e = absurd (numbers 10 0 e tt)
    go lent h e = (valid (λ n. h.1.1.1.0 (n, h.1.1.1.1.0)), not-below _ _ h.1.1.0)
    go no_room h e = absurd (numbers 3 0 e tt)
    go written h e = (valid (λ n. h.1.1.1.0 (n, h.1.1.1.1.0)), not-below _ _ h.1.1.0)

-- What an operation gives of a valid text, all of which it took, is valid.
result-text : (o : Operation) (n : AnyContext) (t : List ℕ) → IsText t → taken (moves_of (rule_of o n) t) ≡ t → IsText (result (moves_of (rule_of o n) t))
result-text Encode (Units c) t h w = form-text c (encode_of c t) (encode-any c t h)
result-text Encode ScriptRaw t h w = raw-text t h
result-text Encode Unknown t h w = ([], tt, refl)
result-text Decode (Units c) t h w = decode-text c t h w
result-text Decode ScriptRaw t h w = ([], tt, refl)
result-text Decode Unknown t h w = ([], tt, refl)
result-text Read (Units c) t h w = let (cs, i, b, e) = form-free c t ((form-iff c t).1 (ap size w)) in (cs, i, e)
result-text Read ScriptRaw t h w = ([], tt, refl)
result-text Read Unknown t h w = ([], tt, refl)
result-text Browse (Units (InHtml k)) t h w = browse-text (kind_of k) t h
result-text Browse (Units (InScript q)) t h w = ([], tt, refl)
result-text Browse (Units (InStyle q)) t h w = ([], tt, refl)
result-text Browse (Units InJson) t h w = ([], tt, refl)
result-text Browse (Units InAscii) t h w = browse-text InAttribute t h
result-text Browse ScriptRaw t h w = ([], tt, refl)
result-text Browse Unknown t h w = ([], tt, refl)

module _ (o : Operation) (n : AnyContext) (borrows : Bool) (t out : List ℕ) (a : Answer) (x : List ℕ) (allowed : Allowed o n borrows t out a x) where
  -- What holds of the status, of any answer that the contract allows.
  pub status-allowed : {s : ℕ} → a.status ≡ s → (answer_of o n borrows t out).status ≡ s
  status-allowed e = sym (ap (λ (a : Answer). a.status) allowed.0) ∙ e

  -- Where a call passes, view gives the result of the moves through the text.
  pub passed-view : a.status ≡ 0 → view_of t x a.same a.length ≡ result (moves_of (rule_of o n) t)
  passed-view e = (λ i. view_of t (allowed.1 i) (allowed.0 i).same (allowed.0 i).length) ∙ (passed o n borrows t out (status-allowed e)).view

  -- And that is valid UTF-8.
  pub passed-text : a.status ≡ 0 → IsText (view_of t x a.same a.length)
  passed-text e =
      subst IsText (sym (passed-view e))
      (result-text o n t (passed-given o n borrows t out (status-allowed e)).0 (passed o n borrows t out (status-allowed e)).whole)

-- ---- a contract allows one result

-- Two answers, and two outputs, that a call's contract allows are equal.
pub determined : (o : Operation) (n : AnyContext) (borrows : Bool) (t out : List ℕ) (a b : Answer) (x y : List ℕ)
    → Allowed o n borrows t out a x → Allowed o n borrows t out b y → (a ≡ b) × (x ≡ y)
determined o n borrows t out a b x y p q = (p.0 ∙ sym q.0, p.1 ∙ sym q.1)
