-- Why a reference stays: the reasons that the rule says are those of the words, both ways; every `&` of a text is replaced or left, since no body has an
-- `&`; and decode of references alone leaves any.
-- Assumes nothing.
use mathlib.Core.Bool.{Bool, true, false, ◌&&◌, ◌||◌, cond}
use mathlib.Core.Logic.{◌⊎◌, inl, inr, ◌↔◌}
use mathlib.Core.Option.{Option, none, some, none-ne-some, some-ne-none, some-injective}
use mathlib.Core.Path.{◌≡◌, refl, sym, ap, ◌∙◌, subst}
use mathlib.Core.List.{List, [], ◌∷◌, ◌++◌, append_assoc}
use Prim.Native.Nat.{ℕ, zero, suc, pred, ◌+◌, ◌*◌, ◌≤◌}
use native.Mathlib.Nat.{suc-ne-zero}
use native.Mathlib.Omega.{arith}
use lib.Dec.{T, eqb, eqb→eq}
use lib.ListN.{length, take, drop}
use lib.Seq.{take_at}
use Rattle.rules.specs.Bytes.{ascii, is, In, any, only, first, fits, stands, same_bytes, Range}
use Rattle.rules.specs.Moves.{Move, keep, swap, leave, stop, takes, Rule, and_then, moves, replaced, lefts_at, lefts, reason_number, first_of, first_left, through}
use Rattle.rules.specs.Utf8.{sequence_at, char_at, keep_char}
use Rattle.rules.specs.Tables.{Row, row_at, key, value, rows, table, replaced_chars}
use Rattle.rules.specs.Encoding.{keep_byte, write, encode_step, raw_step, closes, parted}
use Rattle.rules.specs.Ascii.{by_rule}
use Rattle.rules.specs.Reading.{undo, unless, read_by, rule_back, read_step}
use Rattle.rules.specs.Names.{names}
use Rattle.rules.specs.References.{onto, body_of, digit, hex_digit_at, digits, number, number_of, value_of, lookup, meaning, why_digits, why, refer, at_amp, reference_by}
use Rattle.rules.specs.Browsing.{kind_of, reference_at, at_amp as browse_amp, browse_step}
use Rattle.rules.specs.declared.Kind.{Kind}
use Rattle.rules.specs.declared.Kind.TheVariants.{InAttribute}
use Rattle.rules.specs.Reasons.{Ampless, Closed, Body, Undigit, Because, Stays, StaysAt, reason_in, left_here, lefts_in}
use Rattle.rules.specs.Escapes.{escape_by}
use Rattle.rules.specs.Json.{IsElement, json_step}
use Rattle.rules.specs.Operations.{decode_step, rule_of}
use Rattle.rules.specs.Refusals.{moves_of}
use Rattle.rules.specs.declared.Context.{Context}
use Rattle.rules.specs.declared.Context.TheVariants.{InHtml, InScript, InStyle, InJson, InAscii}
use Rattle.rules.specs.declared.AnyContext.{AnyContext}
use Rattle.rules.specs.declared.AnyContext.TheVariants.{Units, ScriptRaw, Unknown}
use Rattle.rules.specs.declared.Operation.{Operation}
use Rattle.rules.specs.declared.Operation.TheVariants.{Encode, Decode, Read, Browse}
use Rattle.rules.specs.declared.Reason.{Reason}
use Rattle.rules.specs.declared.Reason.TheVariants.{NoEnd, Empty, UnknownName, NoDigit, NotAllowed}
use Rattle.rules.proofs.Tests.{is_false, first-none, same_bytes_lem, same_refl, stands-split, in-append}
use Rattle.rules.proofs.Below.{eqb_comm}
use Rattle.rules.proofs.Names.{empty-unnamed, hash-unnamed}
use Rattle.rules.proofs.Search.{body-none, body-some}
use Rattle.rules.proofs.Machine.{Fair}
use Rattle.rules.proofs.Json.{json-fair}

-- One more byte that is not c before bytes that are not.
none_more : (x : ℕ) (a : List ℕ) (c : ℕ) → ((y : ℕ) → In y a → T (eqb y c) → ⊥) → eqb x c ≡ false → (y : ℕ) → In y (x ∷ a) → T (eqb y c) → ⊥
none_more x a c h e y (inl q) t = subst T e (subst (λ (z : ℕ). T (eqb z c)) q t)
none_more x a c h e y (inr i) t = h y i t

-- ---- digits

-- Bytes are no number exactly if one of them is no digit.
digits-undigit : (d : ℕ → Option ℕ) (base n : ℕ) (s : List ℕ) → digits d base n s ≡ none → Undigit d s
digits-undigit d base n [] e = absurd (some-ne-none n e)
digits-undigit d base n (b ∷ s) e = go (d b) refl e (λ m. digits-undigit d base m s)
  where
    go : (o : Option ℕ) → d b ≡ o → ◌≡◌ {A = Option ℕ} (elim o [ none ↦ none | some k ↦ digits d base (n * base + k) s ]) none → ((m : ℕ) → digits d base m s ≡ none → Undigit d s)
        → Undigit d (b ∷ s)
    go none f e ih = (b, inl refl, f)
    go (some k) f e ih = let (x, i, g) = ih (n * base + k) e in (x, inr i, g)

undigit-digits : (d : ℕ → Option ℕ) (base n : ℕ) (s : List ℕ) → Undigit d s → digits d base n s ≡ none
undigit-digits d base n [] u = absurd u.1
undigit-digits d base n (b ∷ s) (x, i, g) = go (d b) refl i (λ m i. undigit-digits d base m s (x, i, g))
  where
    go : (o : Option ℕ) → d b ≡ o → (x ≡ b) ⊎ In x s → ((m : ℕ) → In x s → digits d base m s ≡ none) → ◌≡◌ {A = Option ℕ} (elim o [ none ↦ none | some k ↦ digits d base (n * base + k) s ]) none
    go none f i ih = refl
    go (some k) f (inl e) ih = absurd (none-ne-some k (sym g ∙ ap d e ∙ f))
    go (some k) f (inr i) ih = ih (n * base + k) i

undigit-number : (d : ℕ → Option ℕ) (base : ℕ) (s : List ℕ) → Undigit d s → (number d base s ≡ none) × (why_digits d base s ≡ NoDigit)
undigit-number d base [] u = absurd u.1
undigit-number d base (b ∷ s) u =
    let e = undigit-digits d base 0 (b ∷ s) u in
    (e, ap (λ (o : Option ℕ). elim o [ none ↦ NoDigit | some n ↦ NotAllowed ]) e)

number-why : (d : ℕ → Option ℕ) (base n : ℕ) (s : List ℕ) → number d base s ≡ some n → why_digits d base s ≡ NotAllowed
number-why d base n [] e = absurd (none-ne-some n e)
number-why d base n (b ∷ s) e = ap (λ (o : Option ℕ). elim o [ none ↦ NoDigit | some n ↦ NotAllowed ]) e

-- A body that is a number is one that is not allowed.
pub number-body : (body : List ℕ) (n : ℕ) → number_of body ≡ some n → why body ≡ NotAllowed
number-body [] n e = absurd (none-ne-some n e)
number-body (b ∷ s) n e = go (stands (ascii "#x") (b ∷ s) || stands (ascii "#X") (b ∷ s)) (stands (ascii "#") (b ∷ s)) e
  where
    go : (x z : Bool) → cond x (number hex_digit_at 16 (drop 1 s)) (cond z (number digit 10 s) none) ≡ some n
        → cond x (why_digits hex_digit_at 16 (drop 1 s)) (cond z (why_digits digit 10 s) UnknownName) ≡ NotAllowed
    go true z e = number-why hex_digit_at 16 n (drop 1 s) e
    go false true e = number-why digit 10 n s e
    go false false e = absurd (none-ne-some n e)

-- ---- names

-- A name that is looked up in vain is not in the table,
unlisted : (table : List Row) (body : List ℕ) → lookup table body ≡ none → (v : List ℕ) → In (body, v) table → ⊥
unlisted [] body e v i = i
unlisted (row ∷ table) body e v i = go (same_bytes (key row) body) refl e i (unlisted table body)
  where
    go : (b : Bool) → same_bytes (key row) body ≡ b → value_of (elim b [ true ↦ some row | false ↦ first (λ (row : Row). same_bytes (key row)) table body ]) ≡ none
        → ((body, v) ≡ row) ⊎ In (body, v) table → (lookup table body ≡ none → (v : List ℕ) → In (body, v) table → ⊥) → ⊥
    go true f e i ih = some-ne-none (value row) e
    go false f e (inl p) ih = subst T f (subst (λ (w : List ℕ). T (same_bytes w body)) (ap (λ (row : Row). key row) p) (same_refl body))
    go false f e (inr i) ih = ih e v i

-- and the other way round.
listed-none : (table : List Row) (body : List ℕ) → ((v : List ℕ) → In (body, v) table → ⊥) → lookup table body ≡ none
listed-none table body h =
    ap value_of (first-none (λ (row : Row). same_bytes (key row)) table body
    (λ row i t. h (value row) (subst (λ (w : List ℕ). In (w, value row) table) (same_bytes_lem (key row) body t) i)))

-- ---- a body that stands for nothing

abbrev meant : (ℕ → Option (List ℕ)) → List ℕ → Option ℕ → Option (List ℕ)
meant char body o = elim o [ some n ↦ char n | none ↦ lookup names body ]

module _ (char : ℕ → Option (List ℕ)) where
  -- After the mark of a number: by the digits.
  by_digits : (d : ℕ → Option ℕ) (base : ℕ) (w body : List ℕ) → number_of body ≡ number d base w
      → (w ≡ [] → Because char body Empty) → (Undigit d w → Because char body NoDigit) → meaning char body ≡ none → Because char body (why_digits d base w)
  by_digits d base [] body e empty undigit m = empty refl
  by_digits d base (b ∷ w) body e empty undigit m = go (digits d base 0 (b ∷ w)) refl
    where
      go : (o : Option ℕ) → digits d base 0 (b ∷ w) ≡ o → Because char body (elim o [ none ↦ NoDigit | some n ↦ NotAllowed ])
      go none f = undigit (digits-undigit d base 0 (b ∷ w) f)
      go (some n) f = (n, e ∙ f, sym (ap (meant char body) (e ∙ f)) ∙ m)

  hex-body : (w : List ℕ) → meaning char (35 ∷ 120 ∷ w) ≡ none → Because char (35 ∷ 120 ∷ w) (why (35 ∷ 120 ∷ w))
  hex-body w m =
      by_digits hex_digit_at 16 w (35 ∷ 120 ∷ w) refl (λ e. inr (inr (inl (ap (λ (v : List ℕ). 35 ∷ 120 ∷ v) e)))) (λ u. (w, inr (inl refl, u))) m

  upper-body : (w : List ℕ) → meaning char (35 ∷ 88 ∷ w) ≡ none → Because char (35 ∷ 88 ∷ w) (why (35 ∷ 88 ∷ w))
  upper-body w m =
      by_digits hex_digit_at 16 w (35 ∷ 88 ∷ w) refl (λ e. inr (inr (inr (inl (ap (λ (v : List ℕ). 35 ∷ 88 ∷ v) e))))) (λ u. (w, inr (inr refl, u))) m

  -- The reason that is computed is the one in words.
  because : (body : List ℕ) → meaning char body ≡ none → Because char body (why body)
  because [] m = inl refl
  because (b ∷ s) m = go (stands (ascii "#x") (b ∷ s)) refl (stands (ascii "#X") (b ∷ s)) refl (stands (ascii "#") (b ∷ s)) refl
    where
      marked : (v : List ℕ) → stands v (b ∷ s) ≡ true → (r : List ℕ) × (b ∷ s ≡ v ++ r)
      marked v e = stands-split v (b ∷ s) (subst T (sym e) tt)

      decimal : (w : List ℕ) → b ∷ s ≡ 35 ∷ w → stands (ascii "#x") (b ∷ s) ≡ false → stands (ascii "#X") (b ∷ s) ≡ false → Because char (b ∷ s) (why_digits digit 10 w)
      decimal w q f g = subst (λ (v : List ℕ). Because char v (why_digits digit 10 w)) (sym q) (
          by_digits digit 10 w (35 ∷ w) (ap (λ (x : Bool). cond x (number hex_digit_at 16 (drop 2 (35 ∷ w))) (number digit 10 w)) (either (stands (ascii "x") w) (stands (ascii "X") w) h k))
          (λ e. inr (inl (ap (λ (v : List ℕ). 35 ∷ v) e))) (λ u. (w, inl (refl, (λ t. subst T (either (stands (ascii "x") w) (stands (ascii "X") w) h k) t), u))) (ap (meaning char) (sym q) ∙ m))
        where
          h : stands (ascii "x") w ≡ false
          h = ap (stands (ascii "#x")) (sym q) ∙ f

          k : stands (ascii "X") w ≡ false
          k = ap (stands (ascii "#X")) (sym q) ∙ g

          either : (x y : Bool) → x ≡ false → y ≡ false → x || y ≡ false
          either x y e f = ap (λ (z : Bool). z || y) e ∙ f

      go : (x : Bool) → stands (ascii "#x") (b ∷ s) ≡ x → (y : Bool) → stands (ascii "#X") (b ∷ s) ≡ y → (z : Bool) → stands (ascii "#") (b ∷ s) ≡ z
          → Because char (b ∷ s) (cond (x || y) (why_digits hex_digit_at 16 (drop 1 s)) (cond z (why_digits digit 10 s) UnknownName))
      go true f y g z h =
          let (r, q) = marked (ascii "#x") f in
          subst (λ (w : List ℕ). Because char (b ∷ s) (why_digits hex_digit_at 16 w)) (sym (ap (drop 2) q))
          (subst (λ (v : List ℕ). Because char v (why_digits hex_digit_at 16 r)) (sym q) (hex-body r (ap (meaning char) (sym q) ∙ m)))
      go false f true g z h =
          let (r, q) = marked (ascii "#X") g in
          subst (λ (w : List ℕ). Because char (b ∷ s) (why_digits hex_digit_at 16 w)) (sym (ap (drop 2) q))
          (subst (λ (v : List ℕ). Because char v (why_digits hex_digit_at 16 r)) (sym q) (upper-body r (ap (meaning char) (sym q) ∙ m)))
      go false f false g true h =
          let (r, q) = marked (ascii "#") h in
          subst (λ (w : List ℕ). Because char (b ∷ s) (why_digits digit 10 w)) (sym (ap (drop 1) q)) (decimal r q f g)
      go false f false g false h =
          let none-there : number_of (b ∷ s) ≡ none = λ i. cond (f i || g i) (number hex_digit_at 16 (drop 1 s)) (cond (h i) (number digit 10 s) none) in
          (b, s, refl, (λ t. subst T (subst (λ (c : ℕ). stands (ascii "#") (c ∷ s) ≡ false) (eqb→eq b 35 t) h) tt), unlisted names (b ∷ s) (sym (ap (meant char (b ∷ s)) none-there) ∙ m))

  -- The other way round: where the words hold, the body stands for nothing, for that reason.
  undigit-body : (d : ℕ → Option ℕ) (base : ℕ) (w s : List ℕ) → number_of (35 ∷ s) ≡ number d base w → why (35 ∷ s) ≡ why_digits d base w → Undigit d w
      → (meaning char (35 ∷ s) ≡ none) × (why (35 ∷ s) ≡ NoDigit)
  undigit-body d base w s e f u = let (g, k) = undigit-number d base w u in (ap (meant char (35 ∷ s)) (e ∙ g) ∙ hash-unnamed s, f ∙ k)

  -- What is said of a body.
  abbrev Idle : Reason → List ℕ → Type 0
  Idle r body = (meaning char body ≡ none) × (why body ≡ r)

  because-not : (body : List ℕ) (r : Reason) → Because char body r → Idle r body
  because-not body NoEnd h = absurd h
  because-not body Empty (inl e) = subst (Idle Empty) (sym e) (empty-unnamed, refl)
  because-not body Empty (inr (inl e)) = subst (Idle Empty) (sym e) (hash-unnamed [], refl)
  because-not body Empty (inr (inr (inl e))) = subst (Idle Empty) (sym e) (hash-unnamed (120 ∷ []), refl)
  because-not body Empty (inr (inr (inr (inl e)))) = subst (Idle Empty) (sym e) (hash-unnamed (88 ∷ []), refl)
  because-not body Empty (inr (inr (inr (inr h)))) = absurd h
  because-not body UnknownName (b, w, e, h, k) =
      let f : eqb 35 b ≡ false = is_false (eqb 35 b) (λ t. h (subst T (eqb_comm 35 b) t)) in
      let n : number_of (b ∷ w) ≡ none =
      λ i. cond (f i && fits eqb (ascii "x") w || f i && fits eqb (ascii "X") w) (number hex_digit_at 16 (drop 1 w)) (cond (f i && true) (number digit 10 w) none) in
      let y : why (b ∷ w) ≡ UnknownName =
      λ i. cond (f i && fits eqb (ascii "x") w || f i && fits eqb (ascii "X") w) (why_digits hex_digit_at 16 (drop 1 w)) (cond (f i && true) (why_digits digit 10 w) UnknownName) in
      subst (Idle UnknownName) (sym e) (ap (meant char (b ∷ w)) n ∙ listed-none names (b ∷ w) (subst (λ (l : List ℕ). (v : List ℕ) → In (l, v) names → ⊥) e k), y)
  because-not body NoDigit (w, inl (e, h, u)) =
      let f : stands (ascii "x") w || stands (ascii "X") w ≡ false = is_false (stands (ascii "x") w || stands (ascii "X") w) h in
      subst (Idle NoDigit) (sym e) (undigit-body digit 10 w w
      (ap (λ (x : Bool). cond x (number hex_digit_at 16 (drop 1 w)) (number digit 10 w)) f)
      (ap (λ (x : Bool). cond x (why_digits hex_digit_at 16 (drop 1 w)) (why_digits digit 10 w)) f) u)
  because-not body NoDigit (w, inr (inl e, u)) = subst (Idle NoDigit) (sym e) (undigit-body hex_digit_at 16 w (120 ∷ w) refl refl u)
  because-not body NoDigit (w, inr (inr e, u)) = subst (Idle NoDigit) (sym e) (undigit-body hex_digit_at 16 w (88 ∷ w) refl refl u)
  because-not body NotAllowed (n, e, f) = (ap (meant char body) e ∙ f, number-body body n e)

  -- ---- a reference

  -- The reason why the reference with s behind its `&` stays, if it does.
  abbrev reason_of : List ℕ → Option Reason
  reason_of s = reason_in (at_amp char (body_of s))

  no_body : (s : List ℕ) → body_of s ≡ none → Stays char s NoEnd
  no_body [] e = ([], [], refl, (λ x i. absurd i), (λ x i. absurd i), inl refl)
  no_body (x ∷ s) e = go (eqb x 59) refl (eqb x 38) refl (body_of s) refl e (no_body s)
    where
      go : (p : Bool) → eqb x 59 ≡ p → (q : Bool) → eqb x 38 ≡ q → (o : Option (List ℕ)) → body_of s ≡ o → cond p (some []) (cond q none (onto x o)) ≡ none
          → (body_of s ≡ none → Stays char s NoEnd) → Stays char (x ∷ s) NoEnd
      go true h q k o f e ih = absurd (some-ne-none [] e)
      go false h true k o f e ih = ([], x ∷ s, refl, (λ y i. absurd i), (λ y i. absurd i), inr (s, λ i. eqb→eq x 38 (subst T (sym k) tt) i ∷ s))
      go false h false k (some body) f e ih = absurd (some-ne-none (x ∷ body) e)
      go false h false k none f e ih =
          let (a, r, w, amp, end, c) = ih f in
          (x ∷ a, r, ap (λ (l : List ℕ). x ∷ l) w, none_more x a 38 amp k, none_more x a 59 end h, c)

  body_is : (s body : List ℕ) → body_of s ≡ some body → Body body s
  body_is [] body e = absurd (none-ne-some body e)
  body_is (x ∷ s) body e = go (eqb x 59) refl (eqb x 38) refl (body_of s) refl e (body_is s)
    where
      go : (p : Bool) → eqb x 59 ≡ p → (q : Bool) → eqb x 38 ≡ q → (o : Option (List ℕ)) → body_of s ≡ o → cond p (some []) (cond q none (onto x o)) ≡ some body
          → ((b : List ℕ) → body_of s ≡ some b → Body b s) → Body body (x ∷ s)
      go true h q k o f e ih =
          subst (λ (b : List ℕ). Body b (x ∷ s)) (some-injective [] body e)
          ((λ y i. absurd i), (λ y i. absurd i), s, λ i. eqb→eq x 59 (subst T (sym h) tt) i ∷ s)
      go false h true k o f e ih = absurd (none-ne-some body e)
      go false h false k none f e ih = absurd (none-ne-some body e)
      go false h false k (some b) f e ih =
          let (amp, end, r, w) = ih b f in
          subst (λ (b : List ℕ). Body b (x ∷ s)) (some-injective (x ∷ b) body e) (none_more x b 38 amp k, none_more x b 59 end h, r, ap (λ (l : List ℕ). x ∷ l) w)

  -- By the body: what is said of it is said of the reference.
  of-body : (s body : List ℕ) (r : Reason) → Body body s → Because char body r → Stays char s r
  of-body s body NoEnd b h = absurd h
  of-body s body Empty b h = (body, b, h)
  of-body s body UnknownName b h = (body, b, h)
  of-body s body NoDigit b h = (body, b, h)
  of-body s body NotAllowed b h = (body, b, h)

  stays : (s : List ℕ) (r : Reason) → reason_of s ≡ some r → Stays char s r
  stays s r e = go (body_of s) refl e
    where
      on : (body : List ℕ) → Body body s → (v : Option (List ℕ)) → meaning char body ≡ v → reason_in (refer body v) ≡ some r → Stays char s r
      on body b (some v) m e = absurd (none-ne-some r e)
      on body b none m e = subst (Stays char s) (some-injective (why body) r e) (of-body s body (why body) b (because body m))

      go : (o : Option (List ℕ)) → body_of s ≡ o → reason_in (at_amp char o) ≡ some r → Stays char s r
      go none f e = subst (Stays char s) (some-injective NoEnd r e) (no_body s f)
      go (some body) f e = on body (body_is s body f) (meaning char body) refl e

  by-body : (s body : List ℕ) (r : Reason) → Body body s → Because char body r → reason_of s ≡ some r
  by-body s body r (amp, end, q, e) h =
      let (m, y) = because-not body r h in
      ap (λ (l : List ℕ). reason_of l) e ∙ ap (λ (o : Option (List ℕ)). reason_in (at_amp char o)) (body-some body q amp end)
      ∙ ap (λ (o : Option (List ℕ)). reason_in (refer body o)) m ∙ ap some y

  stayed : (s : List ℕ) (r : Reason) → Stays char s r → reason_of s ≡ some r
  stayed s NoEnd (a, r, e, amp, end, c) =
      ap (λ (l : List ℕ). reason_of l) e ∙ ap (λ (o : Option (List ℕ)). reason_in (at_amp char o)) (body-none a r end (closed c))
    where
      closed : Closed r → body_of r ≡ none
      closed (inl e) = ap body_of e
      closed (inr (q, e)) = ap body_of e
  stayed s Empty (body, b, h) = by-body s body Empty b h
  stayed s UnknownName (body, b, h) = by-body s body UnknownName b h
  stayed s NoDigit (body, b, h) = by-body s body NoDigit b h
  stayed s NotAllowed (body, b, h) = by-body s body NotAllowed b h

  -- ---- a text

  -- The bytes of a text that are `&`.
  abbrev amps : List ℕ → List ℕ
  amps s = only (is "&") s

  -- From behind k bytes that are no `&` the moves leave what is left byte by byte; and each `&` is replaced or left.
  each-amp : (i p k : ℕ) (s : List ℕ) → Ampless (take k s)
      → (lefts_at (i + k) (moves (reference_by char) p k s) ≡ lefts_in (reference_by char) i s)
      × (length (amps s) ≡ replaced (moves (reference_by char) p k s) + length (lefts_in (reference_by char) i s))
  each-amp i p zero [] a = (refl, refl)
  each-amp i p (suc k) [] a = (refl, refl)
  each-amp i p (suc k) (x ∷ s) a =
      let f : eqb x 38 ≡ false = is_false (eqb x 38) (a x (inl refl)) in
      let (l, n) = each-amp (suc i) x k s (λ y j. a y (inr j)) in
      let z : i + suc k ≡ suc i + k = omega arith in
      let m : lefts_in (reference_by char) i (x ∷ s) ≡ lefts_in (reference_by char) (suc i) s =
      ap (λ (b : Bool). left_here i (reason_in (cond b (at_amp char (body_of s)) (keep (x ∷ [])))) (lefts_in (reference_by char) (suc i) s)) f in (
        ap (λ (n : ℕ). lefts_at n (moves (reference_by char) x k s)) z ∙ l ∙ sym m,
        ap (λ (b : Bool). length {A = ℕ} (elim b [ true ↦ x ∷ amps s | false ↦ amps s ])) f ∙ n ∙ ap (λ (ls : List (ℕ × Reason)). replaced (moves (reference_by char) x k s) + length ls) (sym m),
      )
  each-amp i p zero (x ∷ s) a = go (eqb x 38) (body_of s) refl (λ k. each-amp (suc i) x k s)
    where
      L : List (ℕ × Reason)
      L = lefts_in (reference_by char) (suc i) s

      Counts : ℕ → Type 0
      Counts k = (lefts_at (suc i + k) (moves (reference_by char) x k s) ≡ L) × (length (amps s) ≡ replaced (moves (reference_by char) x k s) + length L)

      Here : Bool → Move → Type 0
      Here b m =
          (lefts_at (i + 0) (and_then m (moves (reference_by char) x (pred (length (takes m))) s)) ≡ left_here i (reason_in m) L)
          × (length {A = ℕ} (elim b [ true ↦ x ∷ amps s | false ↦ amps s ]) ≡ replaced (and_then m (moves (reference_by char) x (pred (length (takes m))) s)) + length (left_here i (reason_in m) L))

      at : (k n : ℕ) → i + 0 + suc k ≡ n → lefts_at (suc i + k) (moves (reference_by char) x k s) ≡ L → lefts_at n (moves (reference_by char) x k s) ≡ L
      at k n e l = ap (λ (n : ℕ). lefts_at n (moves (reference_by char) x k s)) (let z : n ≡ suc i + k = omega arith in z) ∙ l

      here : (w : Reason) → Counts 0 → Here true (leave w (ascii "&"))
      here w (l, n) = (
        (λ j. ((let z : i + 0 ≡ i = omega arith in z) j, w) ∷ at 0 (i + 0 + 1) refl l j),
        (let z : suc (length (amps s)) ≡ replaced (moves (reference_by char) x 0 s) + suc (length L) = omega (arith, n) in z),
      )

      ampless : (body r : List ℕ) → Ampless body → s ≡ body ++ 59 ∷ r → Ampless (take (length (body ++ ascii ";")) s)
      ampless body r amp e =
          subst Ampless
          (sym (ap (take (length (body ++ ascii ";"))) (e ∙ sym (append_assoc body (ascii ";") r)) ∙ take_at (body ++ ascii ";") r (length (body ++ ascii ";")) refl))
          (λ y j t. each y t (in-append y body (ascii ";") j))
        where
          each : (y : ℕ) → T (eqb y 38) → In y body ⊎ In y (ascii ";") → ⊥
          each y t (inl j) = amp y j t
          each y t (inr (inl q)) = subst (λ (z : ℕ). T (eqb z 38)) q t
          each y t (inr (inr j)) = j

      on : (body : List ℕ) → Body body s → (v : Option (List ℕ)) → ((k : ℕ) → Ampless (take k s) → Counts k) → Here true (refer body v)
      on body b none ih = here (why body) (ih 0 (λ y j. absurd j))
      on body (amp, end, r, e) (some v) ih =
          let n = length (body ++ ascii ";") in
          let (l, c) = ih n (ampless body r amp e) in
          (at n (i + 0 + suc n) refl l, (let z : suc (length (amps s)) ≡ suc (replaced (moves (reference_by char) x n s)) + length L = omega (arith, c) in z))

      go : (b : Bool) (o : Option (List ℕ)) → body_of s ≡ o → ((k : ℕ) → Ampless (take k s) → Counts k) → Here b (cond b (at_amp char o) (keep (x ∷ [])))
      go false o f ih = let (l, n) = ih 0 (λ y j. absurd j) in (at 0 (i + 0 + 1) refl l, n)
      go true none f ih = here NoEnd (ih 0 (λ y j. absurd j))
      go true (some body) f ih = on body (body_is s body f) (meaning char body) ih

  -- Of a whole text: what its moves leave,
  lefts_in_lem : (t : List ℕ) → lefts (through (reference_by char) t) ≡ lefts_in (reference_by char) 0 t
  lefts_in_lem t = (each-amp 0 0 0 t (λ y j. absurd j)).0

  -- and that each `&` is either replaced or left.
  pub amp-all : (t : List ℕ) → length (amps t) ≡ replaced (through (reference_by char) t) + length (lefts (through (reference_by char) t))
  amp-all t = (each-amp 0 0 0 t (λ y j. absurd j)).1 ∙ ap (λ (ls : List (ℕ × Reason)). replaced (through (reference_by char) t) + length ls) (sym (lefts_in_lem t))

  -- The same from any place on, whatever was taken before it.
  pub lefts-here : (i p : ℕ) (s : List ℕ) → lefts_at i (moves (reference_by char) p 0 s) ≡ lefts_in (reference_by char) i s
  lefts-here i p s = ap (λ (n : ℕ). lefts_at n (moves (reference_by char) p 0 s)) (let z : i ≡ i + 0 = omega arith in z) ∙ (each-amp i p 0 s (λ y j. absurd j)).0

  -- What is left byte by byte is what the rule leaves at an `&`,
  in-lefts : (i j : ℕ) (r : Reason) (s : List ℕ) → In (j, r) (lefts_in (reference_by char) i s)
      → (a q : List ℕ) × (s ≡ a ++ 38 ∷ q) × (j ≡ i + length a) × (reason_of q ≡ some r)
  in-lefts i j r [] k = absurd k
  in-lefts i j r (x ∷ s) k = go (eqb x 38) refl k (in-lefts (suc i) j r s)
    where
      Found : List ℕ → ℕ → Type 0
      Found s i = (a q : List ℕ) × (s ≡ a ++ 38 ∷ q) × (j ≡ i + length a) × (reason_of q ≡ some r)

      later : Found s (suc i) → Found (x ∷ s) i
      later (a, q, e, l, f) = (x ∷ a, q, ap (λ (w : List ℕ). x ∷ w) e, (let z : j ≡ i + suc (length a) = omega arith in z), f)

      here : x ≡ 38 → (o : Option Reason) → reason_of s ≡ o → In (j, r) (left_here i o (lefts_in (reference_by char) (suc i) s))
          → (In (j, r) (lefts_in (reference_by char) (suc i) s) → Found s (suc i)) → Found (x ∷ s) i
      here e none f k ih = later (ih k)
      here e (some w) f (inr k) ih = later (ih k)
      here e (some w) f (inl k) ih =
          let l : j ≡ i = ap (λ (l : ℕ × Reason). l.0) k in
          ([], s, (λ z. e z ∷ s), (let z : j ≡ i + 0 = omega arith in z), f ∙ ap (λ (l : ℕ × Reason). some l.1) (sym k))

      go : (b : Bool) → eqb x 38 ≡ b → In (j, r) (left_here i (reason_in (cond b (at_amp char (body_of s)) (keep (x ∷ [])))) (lefts_in (reference_by char) (suc i) s))
          → (In (j, r) (lefts_in (reference_by char) (suc i) s) → Found s (suc i)) → Found (x ∷ s) i
      go false f k ih = later (ih k)
      go true f k ih = here (eqb→eq x 38 (subst T (sym f) tt)) (reason_of s) refl k ih

  -- and the other way round.
  lefts-have : (i j : ℕ) (r : Reason) (a q : List ℕ) → j ≡ i + length a → reason_of q ≡ some r → In (j, r) (lefts_in (reference_by char) i (a ++ 38 ∷ q))
  lefts-have i j r [] q l f =
      subst (λ (o : Option Reason). In (j, r) (left_here i o (lefts_in (reference_by char) (suc i) q))) (sym f)
      (inl (λ z. ((let e : j ≡ i = omega arith in e) z, r)))
  lefts-have i j r (x ∷ a) q l f =
      more (reason_in (reference_by char 0 (x ∷ (a ++ 38 ∷ q)))) (lefts-have (suc i) j r a q (omega arith) f)
    where
      more : (o : Option Reason) → In (j, r) (lefts_in (reference_by char) (suc i) (a ++ 38 ∷ q)) → In (j, r) (left_here i o (lefts_in (reference_by char) (suc i) (a ++ 38 ∷ q)))
      more none k = k
      more (some w) k = inr k

  zero-add : (n : ℕ) → 0 + n ≡ n
  zero-add n = omega arith

  -- A text's references that stay are those of the words, with their places and reasons.
  pub left-iff : (t : List ℕ) (i : ℕ) (r : Reason) → In (i, r) (lefts (through (reference_by char) t)) ↔ StaysAt char t i r
  left-iff t i r = (
    λ k. let (a, q, e, l, f) = in-lefts 0 i r t (subst (In (i, r)) (lefts_in_lem t) k) in (a, q, e, l ∙ zero-add (length a), stays q r f),
    λ (a, q, e, l, h). subst (In (i, r)) (sym (lefts_in_lem t)) (subst (λ (s : List ℕ). In (i, r) (lefts_in (reference_by char) 0 s)) (sym e) (lefts-have 0 i r a q (l ∙ sym (zero-add (length a))) (stayed q r h))),
  )

-- ---- the first, of any moves

lefts-after : (i : ℕ) (ms : List Move) (j : ℕ) (r : Reason) → In (j, r) (lefts_at i ms) → i ≤ j
lefts-after i [] j r k = absurd k
lefts-after i (keep a ∷ ms) j r k = omega (arith, lefts-after (i + length a) ms j r k)
lefts-after i (swap a b ∷ ms) j r k = omega (arith, lefts-after (i + length a) ms j r k)
lefts-after i (leave w a ∷ ms) j r (inl e) = let z : j ≡ i = ap (λ (l : ℕ × Reason). l.0) e in omega arith
lefts-after i (leave w a ∷ ms) j r (inr k) = omega (arith, lefts-after (i + length a) ms j r k)
lefts-after i (stop w ∷ ms) j r k = lefts-after i ms j r k

-- No other stays before it.
pub first-least : (ms : List Move) (j : ℕ) (r : Reason) → In (j, r) (lefts ms) → (first_left ms).0 ≤ j
first-least ms = go 0 ms
  where
    go : (i : ℕ) (ms : List Move) (j : ℕ) (r : Reason) → In (j, r) (lefts_at i ms) → (first_of (lefts_at i ms)).0 ≤ j
    go i [] j r k = absurd k
    go i (keep a ∷ ms) j r k = go (i + length a) ms j r k
    go i (swap a b ∷ ms) j r k = go (i + length a) ms j r k
    go i (leave w a ∷ ms) j r k = lefts-after i (leave w a ∷ ms) j r k
    go i (stop w ∷ ms) j r k = go i ms j r k

-- It is one of them; reason 0 says that there is none.
pub first-in : (ms : List Move) → ((lefts ms ≡ []) × (first_left ms ≡ (0, 0))) ⊎ ((r : Reason) × In ((first_left ms).0, r) (lefts ms) × ((first_left ms).1 ≡ reason_number r))
first-in ms = go (lefts ms)
  where
    go : (ls : List (ℕ × Reason)) → ((ls ≡ []) × (first_of ls ≡ (0, 0))) ⊎ ((r : Reason) × In ((first_of ls).0, r) ls × ((first_of ls).1 ≡ reason_number r))
    go [] = inl (refl, refl)
    go (l ∷ ls) = inr (l.1, inl refl, refl)

pub reason-some : (r : Reason) → reason_number r ≡ 0 → ⊥
reason-some NoEnd e = suc-ne-zero 0 e
reason-some Empty e = suc-ne-zero 1 e
reason-some UnknownName e = suc-ne-zero 2 e
reason-some NoDigit e = suc-ne-zero 3 e
reason-some NotAllowed e = suc-ne-zero 4 e

-- ---- the other rules leave none

-- A rule by which no reference stays.
abbrev pub Leaveless : Rule → Type 0
Leaveless rule = (p : ℕ) (s : List ℕ) → reason_in (rule p s) ≡ none

pub no-lefts : (rule : Rule) → Leaveless rule → (i p k : ℕ) (s : List ℕ) → lefts_at i (moves rule p k s) ≡ []
no-lefts rule h i p k [] = refl
no-lefts rule h i p (suc k) (x ∷ s) = no-lefts rule h i x k s
no-lefts rule h i p zero (x ∷ s) = go (rule p (x ∷ s)) (h p (x ∷ s)) (λ i k. no-lefts rule h i x k s)
  where
    go : (m : Move) → reason_in m ≡ none → ((i k : ℕ) → lefts_at i (moves rule x k s) ≡ []) → lefts_at i (and_then m (moves rule x (pred (length (takes m))) s)) ≡ []
    go (keep a) e ih = ih (i + length a) (pred (length a))
    go (swap a b) e ih = ih (i + length a) (pred (length a))
    go (leave r a) e ih = absurd (some-ne-none r e)
    go (stop w) e ih = refl

byte-none : (s : List ℕ) → reason_in (keep_byte s) ≡ none
byte-none [] = refl
byte-none (x ∷ s) = refl

pub encode-leaveless : (c : Context) → Leaveless (encode_step c)
unfolding encode_step
encode-leaveless c p s = go (by_rule c (char_at s)) (row_at key (table c) s)
  where
    go : (w : Option (List ℕ)) (o : Option Row) → reason_in (write (elim w [ none ↦ none | some v ↦ some (char_at s, v) ]) (write o (keep_byte s))) ≡ none
    go (some v) o = refl
    go none none = byte-none s
    go none (some row) = refl

pub raw-leaveless : Leaveless raw_step
unfolding raw_step
raw-leaveless p [] = refl
raw-leaveless p (x ∷ s) = go (eqb x 60 && parted s)
  where
    go : (b : Bool) → reason_in (cond b (swap (x ∷ []) (x ∷ ascii "\\")) (keep (x ∷ []))) ≡ none
    go true = refl
    go false = refl

pub read-leaveless : (c : Context) → Leaveless (read_step c)
unfolding read_step
read-leaveless c p s = ruled (rule_back c s) (by_rule c (char_at s))
  where
    go : (o : Option Row) (b : Bool) (q : Option (List Range)) → reason_in (undo o (unless b (keep_char q s))) ≡ none
    go (some row) b q = refl
    go none true q = refl
    go none false none = refl
    go none false (some q) = refl

    ruled : (o : Option Row) (w : Option (List ℕ)) → reason_in (undo o (unless (elim w [ none ↦ false | some v ↦ true ]) (read_by (rows c) (replaced_chars c) p s))) ≡ none
    ruled (some row) w = refl
    ruled none (some v) = refl
    ruled none none = go (row_at value (rows c) s) (any (λ (k : List ℕ). stands k s) (replaced_chars c)) (sequence_at s)

-- decode in a string.
pub escape-leaveless : (name : List ℕ) (rs : List Row) → Leaveless (escape_by name rs)
escape-leaveless name rs p s = go (row_at value rs s) (eqb p 60 && stands (ascii "\\!--") s) (eqb p 60 && closes (ascii "\\/" ++ name) s)
  where
    go : (o : Option Row) (a b : Bool) → reason_in (undo o (cond a (swap (ascii "\\!") (ascii "!")) (cond b (swap (ascii "\\/") (ascii "/")) (keep_byte s)))) ≡ none
    go (some row) a b = refl
    go none true b = refl
    go none false true = refl
    go none false false = byte-none s

-- decode in a JSON string.
pub json-leaveless : Leaveless json_step
json-leaveless p s = go (json_step p s) (json-fair p s)
  where
    go : (m : Move) → Fair IsElement m s → reason_in m ≡ none
    go (keep a) h = refl
    go (swap a b) h = refl
    go (leave r a) h = absurd h.0
    go (stop w) h = refl

pub json-left : (t : List ℕ) → first_left (through json_step t) ≡ (0, 0)
json-left t = ap first_of (no-lefts json_step json-leaveless 0 0 0 t)

-- browse: the `&` of a reference that stays is kept.
pub browse-leaveless : (kind : Kind) → Leaveless (browse_step kind)
unfolding browse_step
browse-leaveless kind p [] = refl
browse-leaveless kind p (x ∷ s) = go (eqb x 38) (reference_at kind s)
  where
    go : (b : Bool) (o : Option Row) → reason_in (cond b (browse_amp o) (keep (x ∷ []))) ≡ none
    go false o = refl
    go true none = refl
    go true (some row) = refl

-- So browse's two numbers are 0.
pub browse-left : (kind : Kind) (t : List ℕ) → first_left (through (browse_step kind) t) ≡ (0, 0)
browse-left kind t = ap first_of (no-lefts (browse_step kind) (browse-leaveless kind) 0 0 0 t)

-- Not decode in an HTML context.
abbrev pub Outside : Operation → AnyContext → Type 0
Outside Encode n = Unit {0}
Outside Decode (Units (InHtml h)) = ⊥
Outside Decode (Units (InScript q)) = Unit {0}
Outside Decode (Units (InStyle q)) = Unit {0}
Outside Decode (Units InJson) = Unit {0}
Outside Decode (Units InAscii) = ⊥
Outside Decode ScriptRaw = Unit {0}
Outside Decode Unknown = Unit {0}
Outside Read n = Unit {0}
Outside Browse n = Unit {0}

-- There both numbers are 0.
pub outside : (o : Operation) (n : AnyContext) (t : List ℕ) → Outside o n → first_left (moves_of (rule_of o n) t) ≡ (0, 0)
unfolding decode_step
outside Encode (Units c) t h = ap first_of (no-lefts (encode_step c) (encode-leaveless c) 0 0 0 t)
outside Encode ScriptRaw t h = ap first_of (no-lefts raw_step raw-leaveless 0 0 0 t)
outside Encode Unknown t h = refl
outside Decode (Units (InHtml k)) t h = absurd h
outside Decode (Units (InScript q)) t h = ap first_of (no-lefts (decode_step (InScript q)) (escape-leaveless (ascii "script") (rows (InScript q))) 0 0 0 t)
outside Decode (Units (InStyle q)) t h = ap first_of (no-lefts (decode_step (InStyle q)) (escape-leaveless (ascii "style") (rows (InStyle q))) 0 0 0 t)
outside Decode (Units InJson) t h = json-left t
outside Decode (Units InAscii) t h = absurd h
outside Decode ScriptRaw t h = refl
outside Decode Unknown t h = refl
outside Read (Units c) t h = ap first_of (no-lefts (read_step c) (read-leaveless c) 0 0 0 t)
outside Read ScriptRaw t h = refl
outside Read Unknown t h = refl
outside Browse (Units (InHtml k)) t h = browse-left (kind_of k) t
outside Browse (Units (InScript q)) t h = refl
outside Browse (Units (InStyle q)) t h = refl
outside Browse (Units InJson) t h = refl
outside Browse (Units InAscii) t h = browse-left InAttribute t
outside Browse ScriptRaw t h = refl
outside Browse Unknown t h = refl
