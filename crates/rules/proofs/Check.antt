-- check and the taking calls: the rows of the table that look at the output all pass the check, and every other row has the same answer in both.
-- Assumes nothing.
use mathlib.Core.Bool.{Bool, true, false, ◌&&◌, cond}
use mathlib.Core.Logic.{◌↔◌}
use mathlib.Core.Option.{Option, none, some, some-ne-none}
use mathlib.Core.Path.{◌≡◌, refl, sym, ap, ◌∙◌, subst}
use mathlib.Core.List.{List, []}
use Prim.Native.Nat.{ℕ, ◌≤◌, ◌<◌}
use native.Mathlib.Omega.{arith}
use borrow.Author.Tests.{eqb-false}
use lib.Dec.{eqb, ltb}
use lib.ListN.{length as size, drop}
use Rattle.rules.specs.Moves.{Move, Rule, through, result, replaced, place, why_at}
use Rattle.rules.specs.Utf8.{IsText, IsFree, valid_to, is_cut}
use Rattle.rules.specs.Units.{IsForm, unread}
use Rattle.rules.specs.Operations.{rule_of, encode_of, read_of}
use Rattle.rules.specs.Refusals.{Call, Case, bad-context, too_long, not-utf8, cut_short, not-a-form, lone-surrogate, lent, no_room, written, Given, moves_of, moves_in, case_by, case_of, refusal, answer_at, out_at, call, answer_by, answer_of, out_of, text_limit, checked_as, checked, check_of}
use Rattle.rules.specs.declared.Checked.{Checked}
use Rattle.rules.specs.declared.Context.{Context}
use Rattle.rules.specs.declared.Operation.TheVariants.{Read}
use Rattle.rules.specs.declared.AnyContext.{AnyContext}
use Rattle.rules.specs.declared.AnyContext.TheVariants.{Units}
use Rattle.rules.proofs.Laws.{form-iff, form-text, read-encode}
use Rattle.rules.proofs.Refused.{chosen, case-given}
use Rattle.rules.proofs.Calls.{numbers, passed, passed-given}
use Rattle.rules.proofs.Back.{passes, read_back, read-refuses}

-- ---- the pair agrees

-- Whatever the tests of lending and room say, the check is the same.
same_check : (t : List ℕ) (ms : List Move) (a b x c y d e f g : Bool) → checked (answer_at (chosen a b x c y d e) t ms) ≡ checked (answer_at (chosen a b x c y f g) t ms)
same_check t ms true b x c y d e f g = refl
same_check t ms false true true c y d e f g = refl
same_check t ms false true false c y d e f g = refl
same_check t ms false false x true true d e f g = refl
same_check t ms false false x true false d e f g = refl
same_check t ms false false x false y d e f g = passes-check d e ∙ sym (passes-check f g)
  where
    passes-check : (d e : Bool) → checked (answer_at (chosen false false x false y d e) t ms) ≡ checked_as 0 (size (result ms)) 0
    passes-check true e = refl
    passes-check false true = refl
    passes-check false false = refl

-- Two calls by the same rule, on the same text, are checked alike.
pub alike : (rule : Option Rule) (borrows lends : Bool) (t out other : List ℕ) → checked (answer_by rule borrows t out) ≡ checked (answer_by rule lends t other)
unfolding case_by
alike none borrows lends t out other = refl
alike (some rule) borrows lends t out other =
    let ms = through rule t in
    same_check t ms (ltb text_limit (size t)) (ltb (valid_to t) (size t)) (is_cut (drop (valid_to t) t)) (ltb (place ms) (size t)) (eqb (why_at rule t) 10)
    (borrows && eqb (replaced ms) 0) (ltb (size out) (size (result ms))) (lends && eqb (replaced ms) 0) (ltb (size other) (size (result ms)))

-- check agrees with every taking call on the same text, copying or borrowing, into any output: in status, length and place, but for NO_ROOM.
pub check-agrees : (n : AnyContext) (borrows : Bool) (t out : List ℕ) → check_of n t ≡ checked (answer_of Read n borrows t out)
check-agrees n borrows t out = alike (rule_of Read n) false borrows t [] out

-- ---- what check answers

-- A check never gives NO_ROOM.
pub check-room : (n : AnyContext) (t : List ℕ) → (check_of n t).status ≡ 3 → ⊥
check-room n t = go (answer_of Read n false t []).status
  where
    by : (s : ℕ) (b : Bool) → eqb s 3 ≡ b → cond b 0 s ≡ 3 → ⊥
    by s true e q = numbers 0 3 q tt
    by s false e q = eqb-false s 3 e q

    go : (s : ℕ) → cond (eqb s 3) 0 s ≡ 3 → ⊥
    go s = by s (eqb s 3) refl

-- Where an output has room for the length that check gives, a taking call has the status that check has.
pub check-take : (n : AnyContext) (borrows : Bool) (t out : List ℕ) → (check_of n t).length ≤ size out → (check_of n t).status ≡ (answer_of Read n borrows t out).status
check-take n borrows t out room =
    let agree = check-agrees n borrows t out in
    ap (λ (c : Checked). c.status) agree ∙ go (case_of k) (case-given k) (subst (λ (c : Checked). c.length ≤ size out) agree room)
  where
    k : Call
    k = call Read n borrows t out

    over-long : (a b : ℕ) → a ≤ b → b < a → ⊥
    over-long a b h q = omega arith

    go : (row : Case) → Given k row → (answer_at row t (moves_in k)).length ≤ size out → (checked (answer_at row t (moves_in k))).status ≡ (answer_at row t (moves_in k)).status
    go bad-context h r = refl
    go too_long h r = refl
    go not-utf8 h r = refl
    go cut_short h r = refl
    go not-a-form h r = refl
    go lone-surrogate h r = refl
    go lent h r = refl
    go no_room h r = absurd (over-long (size (result (moves_in k))) (size out) r h.0)
    go written h r = refl

-- What check refuses, every taking call refuses with the same status and place, and leaves its output as it was.
pub check-refused : (n : AnyContext) (borrows : Bool) (t out : List ℕ) → ((check_of n t).status ≡ 0 → ⊥)
    → (refusal (check_of n t).status (check_of n t).length (check_of n t).place ≡ answer_of Read n borrows t out) × (out ≡ out_of Read n borrows t out)
check-refused n borrows t out h =
    let agree = check-agrees n borrows t out in
    let (a, o) = go (case_of k) (subst (λ (c : Checked). c.status ≡ 0 → ⊥) agree h) in
    (ap (λ (c : Checked). refusal c.status c.length c.place) agree ∙ a, o)
  where
    k : Call
    k = call Read n borrows t out

    left : Case → Checked
    left row = checked (answer_at row t (moves_in k))

    go : (row : Case) → ((left row).status ≡ 0 → ⊥)
        → (refusal (left row).status (left row).length (left row).place ≡ answer_at row t (moves_in k)) × (out ≡ out_at row (moves_in k) out)
    go bad-context q = (refl, refl)
    go too_long q = (refl, refl)
    go not-utf8 q = (refl, refl)
    go cut_short q = (refl, refl)
    go not-a-form q = (refl, refl)
    go lone-surrogate q = (refl, refl)
    go lent q = absurd (q refl)
    go no_room q = absurd (q refl)
    go written q = absurd (q refl)

-- Where a taking call passes, check passes with the length of the result.
pub check-passed : (n : AnyContext) (borrows : Bool) (t out : List ℕ) → (answer_of Read n borrows t out).status ≡ 0
    → check_of n t ≡ checked_as 0 (size (result (moves_of (rule_of Read n) t))) 0
check-passed n borrows t out e =
    let p = passed Read n borrows t out e in
    check-agrees n borrows t out ∙ (λ i. checked_as (cond (eqb (e i) 3) 0 (e i)) (p.long i) (p.nowhere i))

-- Where check passes, so does a taking call into an output of the result's length.
passed-take : (n : AnyContext) (t : List ℕ) → (check_of n t).status ≡ 0 → (answer_of Read n false t (result (moves_of (rule_of Read n) t))).status ≡ 0
passed-take n t e = sym (check-take n false t (result ms) (at_most (case_of (call Read n false t [])))) ∙ e
  where
    ms : List Move
    ms = moves_of (rule_of Read n) t

    at_most : (row : Case) → (answer_at row t ms).length ≤ size (result ms)
    at_most bad-context = omega arith
    at_most too_long = omega arith
    at_most not-utf8 = omega arith
    at_most cut_short = omega arith
    at_most not-a-form = omega arith
    at_most lone-surrogate = omega arith
    at_most lent = omega arith
    at_most no_room = omega arith
    at_most written = omega arith

-- ---- what check says of a form

module _ (c : Context) (t : List ℕ) where
  -- check passes exactly the forms of a context that have at most 65,536 bytes.
  pub check-form : ((check_of (Units c) t).status ≡ 0) ↔ (IsForm c t × (size t ≤ text_limit))
  check-form = (
    λ e. let st = passed-take (Units c) t e in
        ((form-iff c t).1 (ap size (passed Read (Units c) false t (read_of c t) st).whole), (passed-given Read (Units c) false t (read_of c t) st).1),
    λ f. ap (λ (k : Checked). k.status) (check-passed (Units c) false t (read_of c t)
        (passes Read (Units c) false t (read_of c t) (λ q. some-ne-none _ q) f.1 (form-text c t f.0) (λ no. no f.0) (λ no. no) (omega arith))),
  )

  -- Its length is then that of the text that the form represents.
  pub check-length : (check_of (Units c) t).status ≡ 0 → check_of (Units c) t ≡ checked_as 0 (size (read_of c t)) 0
  check-length e = check-passed (Units c) false t (read_of c t) (passed-take (Units c) t e)

  -- check passes what encode wrote, within the limit of a text, with the length of the text that went in.
  pub check-back : IsFree (unread c) t → size (encode_of c t) ≤ text_limit → check_of (Units c) (encode_of c t) ≡ checked_as 0 (size t) 0
  check-back f short =
      check-passed (Units c) false (encode_of c t) t (read_back c false t t f short (omega arith)).status
      ∙ ap (λ (r : List ℕ). checked_as 0 (size r) 0) (read-encode c t f)

  -- check refuses for form exactly if no text of at most 65,536 bytes encodes to the string, which is itself a text of at most 65,536 bytes.
  pub check-refuses : size t ≤ text_limit → IsText t → ((check_of (Units c) t).status ≡ 4) ↔ ((x : List ℕ) → IsText x → size x ≤ text_limit → t ≡ encode_of c x → ⊥)
  check-refuses short text =
      let a = answer_of Read (Units c) false t [] in
      let of-take = read-refuses c false t [] a (out_of Read (Units c) false t []) (refl, refl) short text in
      (λ e. of-take.0 (same-status a.status (eqb a.status 3) refl e), λ no. (λ i. cond (eqb (of-take.1 no i) 3) 0 (of-take.1 no i)))
    where
      same-status : (s : ℕ) (b : Bool) → eqb s 3 ≡ b → cond b 0 s ≡ 4 → s ≡ 4
      same-status s true e q = absurd (numbers 0 4 q tt)
      same-status s false e q = q
