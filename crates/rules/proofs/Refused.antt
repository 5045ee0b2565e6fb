-- The refusal table is given exactly when its words say: each test of the computation holds exactly if the words of its row do,
-- and the first test that holds is the row that no earlier one forestalls.
-- Assumes nothing.
use mathlib.Core.Bool.{Bool, true, false, not, ◌&&◌, cond}
use mathlib.Core.Logic.{◌↔◌}
use mathlib.Core.Option.{Option, none, some, some-ne-none}
use mathlib.Core.Path.{◌≡◌, refl, sym, ap, ◌∙◌, subst}
use mathlib.Core.List.{List}
use Prim.Native.Nat.{ℕ, ◌≤◌, ◌<◌}
use native.Mathlib.Omega.{arith}
use borrow.Author.Tests.{ltb-true, ltb-false, lt-ltb, eqb-true, eq-eqb}
use lib.Dec.{T, ltb, eqb}
use lib.ListN.{length as size, drop}
use Rattle.rules.specs.Bytes.{All, any, stands, Range}
use Rattle.rules.specs.Moves.{Move, Rule, result, replaced, place, taken, through, before, why, why_at}
use Rattle.rules.specs.Utf8.{IsText, IsCut, sequence_at, char_at, keep_char, valid_to, is_cut}
use Rattle.rules.specs.Tables.{Row, row_at, value, rows, replaced_chars}
use Rattle.rules.specs.Encoding.{encode_step, raw_step}
use Rattle.rules.specs.Ascii.{by_rule}
use Rattle.rules.specs.Reading.{undo, unless, read_by, rule_back, read_step}
use Rattle.rules.specs.Json.{IsLone, json_step, content_to}
use Rattle.rules.specs.Browsing.{kind_of, browse_step}
use Rattle.rules.specs.declared.Kind.TheVariants.{InAttribute}
use Rattle.rules.specs.Operations.{decode_step, rule_of, read_to}
use Rattle.rules.specs.Refusals.{Call, Case, bad-context, too_long, not-utf8, cut_short, not-a-form, lone-surrogate, lent, no_room, written, earlier, Lone, NoForm, Says, Given, moves_of, moves_in, why_of, judge, case_by, case_of}
use Rattle.rules.specs.declared.Context.TheVariants.{InHtml, InScript, InStyle, InJson, InAscii}
use Rattle.rules.specs.declared.Context.{Context}
use Rattle.rules.specs.declared.Operation.{Operation}
use Rattle.rules.specs.declared.Operation.TheVariants.{Encode, Decode, Read, Browse}
use Rattle.rules.specs.declared.AnyContext.{AnyContext}
use Rattle.rules.specs.declared.AnyContext.TheVariants.{Units, ScriptRaw, Unknown}
use Rattle.rules.proofs.Growth.{encode-whole, raw-whole}
use Rattle.rules.proofs.Whole.{decode-whole}
use Rattle.rules.proofs.Browsing.{browse-whole}
use Rattle.rules.proofs.Valid.{valid-iff, valid-within}
use Rattle.rules.proofs.Cut.{cut-iff}
use Rattle.rules.proofs.Json.{content-iff, content-within, lone-iff}
use Rattle.rules.proofs.Laws.{form-iff, form-within}

-- ---- tests and words

true-false : true ≡ false → ⊥
true-false e = subst (λ (b : Bool). cond b (Unit {0}) ⊥) e tt

pub off : {P : Type 0} (b : Bool) → (b ≡ true) ↔ P → (P → ⊥) → b ≡ false
off true i n = absurd (n (i.0 refl))
off false i n = refl

pub refuted : {P : Type 0} → (false ≡ true) ↔ P → P → ⊥
refuted i p = true-false (sym (i.1 p))

-- A test b, and a further one x that parts what b finds.
both : (b x : Bool) → b && x ≡ true → (b ≡ true) × (x ≡ true)
both true x e = (refl, e)
both false x e = absurd (true-false (sym e))

but : (b x : Bool) → b && not x ≡ true → (b ≡ true) × (x ≡ false)
but true true e = absurd (true-false (sym e))
but true false e = (refl, refl)
but false x e = absurd (true-false (sym e))

neither : (b x : Bool) → b && not x ≡ false → b && x ≡ false → b ≡ false
neither true true e f = f
neither true false e f = e
neither false x e f = refl

-- The tests of the table, one after the other: b finds the text invalid, and x then finds it cut short; c finds a stop, and y then finds half a pair.
abbrev pub chosen : Bool → Bool → Bool → Bool → Bool → Bool → Bool → Case
chosen a b x c y d e = cond a too_long (cond b (cond x cut_short not-utf8) (cond c (cond y lone-surrogate not-a-form) (cond d lent (cond e no_room written))))

module _ (says : Case → Type 0) (known : says bad-context → ⊥) (sure : says written) where
  -- The row that the tests choose is given.
  chosen-given : (a : Bool) → (a ≡ true) ↔ says too_long → (b x : Bool) → (b && not x ≡ true) ↔ says not-utf8 → (b && x ≡ true) ↔ says cut_short
      → (c y : Bool) → (c && not y ≡ true) ↔ says not-a-form → (c && y ≡ true) ↔ says lone-surrogate → (d : Bool) → (d ≡ true) ↔ says lent
      → (e : Bool) → (e ≡ true) ↔ says no_room
      → says (chosen a b x c y d e) × All (λ (other : Case). says other → ⊥) (earlier (chosen a b x c y d e))
  chosen-given true p b x q u c y r v d s e t = (p.0 refl, (known, tt))
  chosen-given false p true true q u c y r v d s e t = (u.0 refl, (known, (refuted p, tt)))
  chosen-given false p true false q u c y r v d s e t = (q.0 refl, (known, (refuted p, tt)))
  chosen-given false p false x q u true true r v d s e t = (v.0 refl, (known, (refuted p, (refuted q, (refuted u, tt)))))
  chosen-given false p false x q u true false r v d s e t = (r.0 refl, (known, (refuted p, (refuted q, (refuted u, tt)))))
  chosen-given false p false x q u false y r v true s e t = (s.0 refl, (known, (refuted p, (refuted q, (refuted u, (refuted r, (refuted v, tt)))))))
  chosen-given false p false x q u false y r v false s true t = (t.0 refl, (known, (refuted p, (refuted q, (refuted u, (refuted r, (refuted v, (refuted s, tt))))))))
  chosen-given false p false x q u false y r v false s false t =
      (sure, (known, (refuted p, (refuted q, (refuted u, (refuted r, (refuted v, (refuted s, (refuted t, tt)))))))))

  -- A text that is in neither row passes the test of validity.
  valid : (b x : Bool) → (b && not x ≡ true) ↔ says not-utf8 → (b && x ≡ true) ↔ says cut_short → (says not-utf8 → ⊥) → (says cut_short → ⊥) → b ≡ false
  valid b x q u m n = neither b x (off (b && not x) q m) (off (b && x) u n)

  -- One that is in neither of the other two is taken as a whole.
  whole : (c y : Bool) → (c && not y ≡ true) ↔ says not-a-form → (c && y ≡ true) ↔ says lone-surrogate → (says not-a-form → ⊥) → (says lone-surrogate → ⊥) → c ≡ false
  whole c y r v m n = neither c y (off (c && not y) r m) (off (c && y) v n)

  -- And a row that is given is the one that they choose.
  given-chosen : (a : Bool) → (a ≡ true) ↔ says too_long → (b x : Bool) → (b && not x ≡ true) ↔ says not-utf8 → (b && x ≡ true) ↔ says cut_short
      → (c y : Bool) → (c && not y ≡ true) ↔ says not-a-form → (c && y ≡ true) ↔ says lone-surrogate → (d : Bool) → (d ≡ true) ↔ says lent
      → (e : Bool) → (e ≡ true) ↔ says no_room
      → (row : Case) → says row × All (λ (other : Case). says other → ⊥) (earlier row) → chosen a b x c y d e ≡ row
  given-chosen a p b x q u c y r v d s e t bad-context h = absurd (known h.0)
  given-chosen a p b x q u c y r v d s e t too_long h = λ i. chosen (p.1 h.0 i) b x c y d e
  given-chosen a p b x q u c y r v d s e t not-utf8 h = let (f, g) = but b x (q.1 h.0) in λ i. chosen (off a p h.1.1.0 i) (f i) (g i) c y d e
  given-chosen a p b x q u c y r v d s e t cut_short h = let (f, g) = both b x (u.1 h.0) in λ i. chosen (off a p h.1.1.0 i) (f i) (g i) c y d e
  given-chosen a p b x q u c y r v d s e t not-a-form h =
      let (f, g) = but c y (r.1 h.0) in
      λ i. chosen (off a p h.1.1.0 i) (valid b x q u h.1.1.1.0 h.1.1.1.1.0 i) x (f i) (g i) d e
  given-chosen a p b x q u c y r v d s e t lone-surrogate h =
      let (f, g) = both c y (v.1 h.0) in
      λ i. chosen (off a p h.1.1.0 i) (valid b x q u h.1.1.1.0 h.1.1.1.1.0 i) x (f i) (g i) d e
  given-chosen a p b x q u c y r v d s e t lent h =
      λ i. chosen (off a p h.1.1.0 i) (valid b x q u h.1.1.1.0 h.1.1.1.1.0 i) x (whole c y r v h.1.1.1.1.1.0 h.1.1.1.1.1.1.0 i) y (s.1 h.0 i) e
  given-chosen a p b x q u c y r v d s e t no_room h =
      λ i. chosen (off a p h.1.1.0 i) (valid b x q u h.1.1.1.0 h.1.1.1.1.0 i) x (whole c y r v h.1.1.1.1.1.0 h.1.1.1.1.1.1.0 i) y (off d s h.1.1.1.1.1.1.1.0 i) (t.1 h.0 i)
  given-chosen a p b x q u c y r v d s e t written h =
      λ i. chosen (off a p h.1.1.0 i) (valid b x q u h.1.1.1.0 h.1.1.1.1.0 i) x (whole c y r v h.1.1.1.1.1.0 h.1.1.1.1.1.1.0 i) y (off d s h.1.1.1.1.1.1.1.0 i) (off e t h.1.1.1.1.1.1.1.1.0 i)

-- ---- each test holds exactly if the words of its row do

pub below-iff : (a b : ℕ) → (ltb a b ≡ true) ↔ (a < b)
below-iff a b = (ltb-true a b, lt-ltb a b)

is_true : (b : Bool) → T b → b ≡ true
is_true true t = refl
is_true false t = absurd t

-- What b finds and x does not.
others : {P Q : Type 0} (b x : Bool) → (b ≡ true) ↔ P → (b && x ≡ true) ↔ Q → (b && not x ≡ true) ↔ (P × (Q → ⊥))
others true true p q = (λ e. absurd (true-false (sym e)), λ h. absurd (h.1 (q.0 refl)))
others true false p q = (λ e. (p.0 refl, refuted q), λ h. refl)
others false x p q = (λ e. absurd (true-false (sym e)), λ h. p.1 h.0)

equal : (a b : ℕ) → a ≤ b → b ≤ a → a ≡ b
equal a b h k = omega arith

apart : (a b : ℕ) → a < b → a ≡ b → ⊥
apart a b h e = omega arith

-- A number that is at most another is below it exactly if they are not equal.
less-iff : {P : Type 0} (a b : ℕ) → a ≤ b → P ↔ (a ≡ b) → (ltb a b ≡ true) ↔ (P → ⊥)
less-iff {P} a b h i = (λ e p. apart a b (ltb-true a b e) (i.0 p), λ n. go (ltb a b) refl n)
  where
    go : (t : Bool) → ltb a b ≡ t → (P → ⊥) → t ≡ true
    go true e n = refl
    go false e n = absurd (n (i.1 (equal a b h (ltb-false a b e))))

utf8-iff : (t : List ℕ) → (ltb (valid_to t) (size t) ≡ true) ↔ (IsText t → ⊥)
utf8-iff t = less-iff (valid_to t) (size t) (valid-within t) (valid-iff t)

-- The two rows of a text that is not valid.
pub cut-says : (t : List ℕ) → (ltb (valid_to t) (size t) && is_cut (drop (valid_to t) t) ≡ true) ↔ IsCut t
cut-says t = (
  λ e. let (f, g) = both (ltb (valid_to t) (size t)) (is_cut (drop (valid_to t) t)) e in (cut-iff t).1 (ltb-true (valid_to t) (size t) f, subst T (sym g) tt),
  λ c. let (l, u) = (cut-iff t).0 c in λ i. lt-ltb (valid_to t) (size t) l i && is_true (is_cut (drop (valid_to t) t)) u i,
)

pub broken-says : (t : List ℕ) → (ltb (valid_to t) (size t) && not (is_cut (drop (valid_to t) t)) ≡ true) ↔ ((IsText t → ⊥) × (IsCut t → ⊥))
broken-says t = others (ltb (valid_to t) (size t)) (is_cut (drop (valid_to t) t)) (utf8-iff t) (cut-says t)

-- What b finds is nothing, so neither part of it holds.
nothing : (b x : Bool) → b ≡ false → ((b && not x ≡ true) ↔ ⊥) × ((b && x ≡ true) ↔ ⊥)
nothing true x e = absurd (true-false e)
nothing false x e = ((λ q. true-false (sym q), λ p. absurd p), (λ q. true-false (sym q), λ p. absurd p))

-- The two rows of a text that an operation stops in, by the status of its stop.
abbrev Stops : Operation → AnyContext → List ℕ → Type 0
Stops op n t =
    ((ltb (place (moves_of (rule_of op n) t)) (size t) && not (eqb (why_of (rule_of op n) t) 10) ≡ true) ↔ NoForm op n t)
    × ((ltb (place (moves_of (rule_of op n) t)) (size t) && eqb (why_of (rule_of op n) t) 10 ≡ true) ↔ Lone op n t)

-- A rule that takes the whole text has neither.
never : (rule : Rule) (t : List ℕ) → taken (through rule t) ≡ t
    → ((ltb (place (through rule t)) (size t) && not (eqb (why_at rule t) 10) ≡ true) ↔ ⊥) × ((ltb (place (through rule t)) (size t) && eqb (why_at rule t) 10 ≡ true) ↔ ⊥)
never rule t w = nothing (ltb (place (through rule t)) (size t)) (eqb (why_at rule t) 10) (is-not (ltb (place (through rule t)) (size t)) refl)
  where
    is-not : (b : Bool) → ltb (place (through rule t)) (size t) ≡ b → b ≡ false
    is-not true e = absurd (apart (place (through rule t)) (size t) (ltb-true (place (through rule t)) (size t) e) (ap size w))
    is-not false e = refl

-- read stops for its form only.
read-four : (c : Context) (p : ℕ) (s : List ℕ) → why (read_step c p s) ≡ 10 → ⊥
unfolding read_step
read-four c p s = ruled (rule_back c s) (by_rule c (char_at s))
  where
    nought : ◌≡◌ {A = ℕ} 0 10 → ⊥
    nought e = omega arith

    four : ◌≡◌ {A = ℕ} 4 10 → ⊥
    four e = omega arith

    go : (o : Option Row) (b : Bool) (q : Option (List Range)) → why (undo o (unless b (keep_char q s))) ≡ 10 → ⊥
    go (some row) b q e = nought e
    go none true q e = four e
    go none false (some z) e = nought e
    go none false none e = four e

    ruled : (o : Option Row) (w : Option (List ℕ)) → why (undo o (unless (elim w [ none ↦ false | some v ↦ true ]) (read_by (rows c) (replaced_chars c) p s))) ≡ 10 → ⊥
    ruled (some row) w e = nought e
    ruled none (some v) e = four e
    ruled none none e = go (row_at value (rows c) s) (any (λ (k : List ℕ). stands k s) (replaced_chars c)) (sequence_at s) e

read-stops : (c : Context) (t : List ℕ) → Stops Read (Units c) t
read-stops c t =
    let one = less-iff (read_to c t) (size t) (form-within c t) (form-iff c t) in
    (only-four (ltb (read_to c t) (size t)) (eqb (why_at (read_step c) t) 10) not-ten one, (λ e. not-lone (ltb (read_to c t) (size t)) (eqb (why_at (read_step c) t) 10) not-ten e, λ p. absurd p))
  where
    not-ten : eqb (why_at (read_step c) t) 10 ≡ true → ⊥
    not-ten e = read-four c (before t (read_to c t)) (drop (read_to c t) t) (eqb-true (why_at (read_step c) t) 10 e)

    only-four : {P : Type 0} (b x : Bool) → (x ≡ true → ⊥) → (b ≡ true) ↔ P → (b && not x ≡ true) ↔ P
    only-four b true n i = absurd (n refl)
    only-four true false n i = i
    only-four false false n i = i

    not-lone : (b x : Bool) → (x ≡ true → ⊥) → b && x ≡ true → ⊥
    not-lone b true n e = n refl
    not-lone true false n e = true-false (sym e)
    not-lone false false n e = true-false (sym e)

-- decode of a JSON string stops exactly if the text is no content, and with 10 exactly if half a pair comes first.
json-stops : (t : List ℕ) → Stops Decode (Units InJson) t
unfolding decode_step
json-stops t = (others stops ten (less-iff (content_to t) (size t) (content-within t) (content-iff t)) lone, lone)
  where
    stops : Bool
    stops = ltb (content_to t) (size t)

    ten : Bool
    ten = eqb (why_at json_step t) 10

    lone : (stops && ten ≡ true) ↔ IsLone t
    lone = (
      λ e. let (f, g) = both stops ten e in (lone-iff t).1 (ltb-true (content_to t) (size t) f, eqb-true (why_at json_step t) 10 g),
      λ h. let (f, g) = (lone-iff t).0 h in λ i. lt-ltb (content_to t) (size t) f i && eq-eqb (why_at json_step t) 10 g i,
    )

-- Only read, and decode of a JSON string, can stop before the end, and they do so exactly as their rows say.
stop-says : (op : Operation) (n : AnyContext) (t : List ℕ) → (rule_of op n ≡ none → ⊥) → Stops op n t
stop-says Encode (Units c) t k = never (encode_step c) t (encode-whole c t)
stop-says Encode ScriptRaw t k = never raw_step t (raw-whole t)
stop-says Encode Unknown t k = absurd (k refl)
stop-says Decode (Units (InHtml h)) t k = never (decode_step (InHtml h)) t (decode-whole (InHtml h) tt t)
stop-says Decode (Units (InScript q)) t k = never (decode_step (InScript q)) t (decode-whole (InScript q) tt t)
stop-says Decode (Units (InStyle q)) t k = never (decode_step (InStyle q)) t (decode-whole (InStyle q) tt t)
stop-says Decode (Units InJson) t k = json-stops t
stop-says Decode (Units InAscii) t k = never (decode_step InAscii) t (decode-whole InAscii tt t)
stop-says Decode ScriptRaw t k = absurd (k refl)
stop-says Decode Unknown t k = absurd (k refl)
stop-says Read (Units c) t k = read-stops c t
stop-says Read ScriptRaw t k = absurd (k refl)
stop-says Read Unknown t k = absurd (k refl)
stop-says Browse (Units (InHtml h)) t k = never (browse_step (kind_of h)) t (browse-whole (kind_of h) t)
stop-says Browse (Units (InScript q)) t k = absurd (k refl)
stop-says Browse (Units (InStyle q)) t k = absurd (k refl)
stop-says Browse (Units InJson) t k = absurd (k refl)
stop-says Browse (Units InAscii) t k = never (browse_step InAttribute) t (browse-whole InAttribute t)
stop-says Browse ScriptRaw t k = absurd (k refl)
stop-says Browse Unknown t k = absurd (k refl)

lends-iff : (borrows : Bool) (n : ℕ) → (borrows && eqb n 0 ≡ true) ↔ ((borrows ≡ true) × (n ≡ 0))
lends-iff true n = (λ e. (refl, eqb-true n 0 e), λ h. eq-eqb n 0 h.1)
lends-iff false n = (λ e. absurd (true-false (sym e)), λ h. h.0)

-- ---- the table

module _ (k : Call) where
  abbrev rule : Option Rule
  rule = rule_of k.operation k.context

  abbrev judged : List Move → ℕ → Case
  judged ms w = judge k.borrows k.limit k.text ms w k.room

  abbrev reason : ℕ
  reason = why_of rule k.text

  abbrev judged_by : Option Rule → Case
  judged_by o = case_by o k.borrows k.limit k.text k.room

  -- Where there is a rule, the case is the one that the tests of its moves choose.
  case-judged : (r : Rule) → rule ≡ some r → case_of k ≡ judged (moves_in k) reason
  unfolding case_by
  case-judged r e = ap judged_by e ∙ sym (ap (λ (o : Option Rule). judged (moves_of o k.text) (why_of o k.text)) e)

  judge-given : (rule ≡ none → ⊥) → Given k (judged (moves_in k) reason)
  judge-given n =
      chosen-given (Says k) n tt (ltb k.limit (size k.text)) (below-iff k.limit (size k.text)) (ltb (valid_to k.text) (size k.text))
      (is_cut (drop (valid_to k.text) k.text)) (broken-says k.text) (cut-says k.text)
      (ltb (place (moves_in k)) (size k.text)) (eqb reason 10) (stop-says k.operation k.context k.text n).0 (stop-says k.operation k.context k.text n).1 (k.borrows && eqb (replaced (moves_in k)) 0) (lends-iff k.borrows (replaced (moves_in k)))
      (ltb k.room (size (result (moves_in k)))) (below-iff k.room (size (result (moves_in k))))

  given-judge : (rule ≡ none → ⊥) → (row : Case) → Given k row → judged (moves_in k) reason ≡ row
  given-judge n =
      given-chosen (Says k) n tt (ltb k.limit (size k.text)) (below-iff k.limit (size k.text)) (ltb (valid_to k.text) (size k.text))
      (is_cut (drop (valid_to k.text) k.text)) (broken-says k.text) (cut-says k.text)
      (ltb (place (moves_in k)) (size k.text)) (eqb reason 10) (stop-says k.operation k.context k.text n).0 (stop-says k.operation k.context k.text n).1 (k.borrows && eqb (replaced (moves_in k)) 0) (lends-iff k.borrows (replaced (moves_in k)))
      (ltb k.room (size (result (moves_in k)))) (below-iff k.room (size (result (moves_in k))))

  -- The case of a call is given.
  pub case-given : Given k (case_of k)
  unfolding case_by
  case-given = go rule refl
    where
      go : (o : Option Rule) → rule ≡ o → Given k (case_of k)
      go none e = subst (Given k) (sym (ap judged_by e)) (e, tt)
      go (some r) e = subst (Given k) (sym (case-judged r e)) (judge-given (λ q. some-ne-none r (sym e ∙ q)))

  -- Every other row waits for a rule.
  no-rule : rule ≡ none → (row : Case) → Given k row → bad-context ≡ row
  no-rule e bad-context h = refl
  no-rule e too_long h = absurd (h.1.0 e)
  no-rule e not-utf8 h = absurd (h.1.0 e)
  no-rule e cut_short h = absurd (h.1.0 e)
  no-rule e not-a-form h = absurd (h.1.0 e)
  no-rule e lone-surrogate h = absurd (h.1.0 e)
  no-rule e lent h = absurd (h.1.0 e)
  no-rule e no_room h = absurd (h.1.0 e)
  no-rule e written h = absurd (h.1.0 e)

  given-case : (row : Case) → Given k row → case_of k ≡ row
  unfolding case_by
  given-case row h = go rule refl
    where
      go : (o : Option Rule) → rule ≡ o → case_of k ≡ row
      go none e = ap judged_by e ∙ no-rule e row h
      go (some r) e = case-judged r e ∙ given-judge (λ q. some-ne-none r (sym e ∙ q)) row h

  -- "Given exactly when", row by row, in the table's order.
  pub case-iff : (row : Case) → (case_of k ≡ row) ↔ Given k row
  case-iff row = (λ e. subst (Given k) e case-given, given-case row)

  -- Where the table refuses neither form nor half a pair, the moves go to the end of the text.
  pub case-taken : (rule ≡ none → ⊥) → (NoForm k.operation k.context k.text → ⊥) → (Lone k.operation k.context k.text → ⊥) → size k.text ≤ place (moves_in k)
  case-taken n f g =
      let says = stop-says k.operation k.context k.text n in
      let stops = ltb (place (moves_in k)) (size k.text) in
      ltb-false (place (moves_in k)) (size k.text) (neither stops (eqb reason 10) (off (stops && not (eqb reason 10)) says.0 f) (off (stops && eqb reason 10) says.1 g))
