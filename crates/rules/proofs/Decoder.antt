-- The decoders read each unit of a form as the strict reader does, except those of the characters that decode does not give back.
-- Assumes nothing.
use mathlib.Core.Bool.{Bool, true, false, not, ◌&&◌, ◌||◌, cond}
use mathlib.Core.Logic.{◌⊎◌, inl, inr}
use mathlib.Core.Option.{Option, none, some, none-ne-some}
use mathlib.Core.Path.{◌≡◌, refl, ap, ◌∙◌, subst}
use mathlib.Core.List.{List, [], ◌∷◌, ◌++◌, map}
use Prim.Native.Nat.{ℕ, pred}
use lib.Dec.{T, eqb, eqb→eq, eqb_refl, lt→ltb, T_not}
use lib.ListN.{length}
use Rattle.rules.specs.Bytes.{ascii, In, All, all, any, fits, stands, same_bytes, one_of}
use Rattle.rules.specs.Moves.{Move, keep, swap, leave, stop, gives, taken, result, through}
use Rattle.rules.specs.Tables.{Row, row_at, key, value, html_rows, rows, replaced_chars}
use Rattle.rules.specs.Units.{left, undecoded}
use Rattle.rules.specs.declared.Html.TheVariants.{Quoted}
use Rattle.rules.specs.declared.Context.{Context}
use Rattle.rules.specs.declared.Context.TheVariants.{InHtml, InScript, InStyle, InJson, InAscii}
use Rattle.rules.specs.Units.{IsUnit}
use Rattle.rules.specs.Encoding.{closes, any_case, terminators}
use Rattle.rules.specs.Ascii.{by_rule}
use Rattle.rules.specs.Reading.{undo}
use Rattle.rules.specs.Names.{names}
use Rattle.rules.specs.References.{onto, body_of, at_amp, decode_char, reference_step}
use Rattle.rules.specs.Escapes.{after_less, escape_by}
use Rattle.rules.specs.Json.{escaped_only, json_step}
use Rattle.rules.specs.Operations.{decode_step, decode_of}
use Rattle.rules.proofs.Tests.{and_left, and_right, and_both, or_cases, or_left, or-false, is_false, all_in, any-in, first-none, same_bytes_lem, same_in}
use Rattle.rules.proofs.Machine.{Makes, Follows, singly, cut, cut-moves, result-cut}
use Rattle.rules.proofs.Chars.{is_tail, char-singly, pred_of}
use Rattle.rules.proofs.Ascii.{rule-refers, rule-long}
use Rattle.rules.proofs.Tables.{bar-stops, row-length, row_first}
use Rattle.rules.proofs.Every.{every, values-code}
use Rattle.rules.proofs.Search.{reference-quiet}
use Rattle.rules.proofs.Json.{element-keeps, json-row}

-- ---- at any byte but a few the decoder of a family keeps the byte

-- `&`; `\`; in a JSON string all that may not stand by itself.
abbrev pub halts : Context → List ℕ
halts (InHtml h) = 38 ∷ []
halts (InScript q) = 92 ∷ []
halts (InStyle q) = 92 ∷ []
halts InJson = escaped_only
halts InAscii = 38 ∷ []

abbrev begins : ℕ → List ℕ → Bool
begins b [] = false
begins b (x ∷ v) = eqb x b

begins-first : (b : ℕ) (v : List ℕ) (x : ℕ) (s : List ℕ) → T (begins b v) → T (stands v (x ∷ s)) → T (eqb x b)
begins-first b [] x s t h = absurd t
begins-first b (y ∷ v) x s t h = subst (λ (z : ℕ). T (eqb z b)) (eqb→eq y x (and_left (eqb y x) (stands v s) h)) t

escape-quiet : (name : List ℕ) (rs : List Row) → T (all (λ (e : Row). begins 92 (value e)) rs) → (p x : ℕ) (s : List ℕ) → (T (eqb x 92) → ⊥)
    → escape_by name rs p (x ∷ s) ≡ keep (x ∷ [])
escape-quiet name rs ok p x s h =
    ap (λ (o : Option Row). undo o (after_less name p (x ∷ s)))
    (first-none (λ (row : Row). stands (value row)) rs (x ∷ s) (λ e i t. h (begins-first 92 (value e) x s (all_in (λ (e : Row). begins 92 (value e)) rs ok e i) t)))
    ∙ ap (λ (b : Bool). cond b (swap (ascii "\\!") (ascii "!")) (cond (eqb p 60 && closes (ascii "\\/" ++ name) (x ∷ s)) (swap (ascii "\\/") (ascii "/")) (keep (x ∷ []))))
    (is_false (eqb p 60 && stands (ascii "\\!--") (x ∷ s))
    (λ t. h (subst (λ (z : ℕ). T (eqb z 92)) (eqb→eq 92 x (and_left (eqb 92 x) (stands (ascii "!--") s) (and_right (eqb p 60) (stands (ascii "\\!--") (x ∷ s)) t))) tt)))
    ∙ ap (λ (b : Bool). cond b (swap (ascii "\\/") (ascii "/")) (keep (x ∷ [])))
    (is_false (eqb p 60 && closes (ascii "\\/" ++ name) (x ∷ s))
    (λ t. h (or-false (eqb x 92) (and_left (one_of (92 ∷ []) x) (fits one_of (map any_case (ascii "/" ++ name) ++ terminators ∷ []) s) (and_right (eqb p 60) (closes (ascii "\\/" ++ name) (x ∷ s)) t)))))

-- Every value of a script or style string begins with the backslash.
abbrev slashed : Context → Bool
slashed (InHtml h) = true
slashed (InScript q) = all (λ (e : Row). begins 92 (value e)) (rows (InScript q))
slashed (InStyle q) = all (λ (e : Row). begins 92 (value e)) (rows (InStyle q))
slashed InJson = true
slashed InAscii = true

decode-quiet : (c : Context) (p x : ℕ) (s : List ℕ) → (T (one_of (halts c) x) → ⊥) → decode_step c p (x ∷ s) ≡ keep (x ∷ [])
unfolding decode_step reference_step
decode-quiet (InHtml h) p x s n = reference-quiet decode_char p x s (λ t. n (or_left (eqb x 38) false t))
decode-quiet (InScript q) p x s n = escape-quiet (ascii "script") (rows (InScript q)) (every slashed tt (InScript q)) p x s (λ t. n (or_left (eqb x 92) false t))
decode-quiet (InStyle q) p x s n = escape-quiet (ascii "style") (rows (InStyle q)) (every slashed tt (InStyle q)) p x s (λ t. n (or_left (eqb x 92) false t))
decode-quiet InJson p x s n = element-keeps p x s n
decode-quiet InAscii p x s n = reference-quiet decode_char p x s (λ t. n (or_left (eqb x 38) false t))

-- None of these bytes is a plain character of the context, or a byte 80 to BF.
abbrev halts_barred : Context → Bool
halts_barred c = all (λ (b : ℕ). any (same_bytes (b ∷ [])) (replaced_chars c)) (halts c)

abbrev halts_lead : Context → Bool
halts_lead c = all (λ (b : ℕ). not (is_tail b)) (halts c)

-- ---- a reference that is read is read whatever follows

body-append : (s r b : List ℕ) → body_of s ≡ some b → body_of (s ++ r) ≡ some b
body-append [] r b e = absurd (none-ne-some b e)
body-append (x ∷ xs) r b e = go (eqb x 59) (eqb x 38) (body_of xs) refl (λ b. body-append xs r b) e
  where
    go : (p q : Bool) (o : Option (List ℕ)) → body_of xs ≡ o → ((b : List ℕ) → body_of xs ≡ some b → body_of (xs ++ r) ≡ some b)
        → cond p (some []) (cond q none (onto x o)) ≡ some b → cond p (some []) (cond q none (onto x (body_of (xs ++ r)))) ≡ some b
    go true q o f ih e = e
    go false true o f ih e = e
    go false false none f ih e = absurd (none-ne-some b e)
    go false false (some b') f ih e = ap (onto x) (ih b' f) ∙ e

-- The move undoes the row.
abbrev undoes : Move → Row → Bool
undoes (keep a) e = false
undoes (swap a b) e = same_bytes a (value e) && same_bytes b (key e)
undoes (leave r a) e = false
undoes (stop w) e = false

undoes-row : (m : Move) (e : Row) → T (undoes m e) → m ≡ swap (value e) (key e)
undoes-row (keep a) e t = absurd t
undoes-row (leave r a) e t = absurd t
undoes-row (swap a b) e t =
    λ i. swap (same_bytes_lem a (value e) (and_left (same_bytes a (value e)) (same_bytes b (key e)) t) i) (same_bytes_lem b (key e) (and_right (same_bytes a (value e)) (same_bytes b (key e)) t) i)
undoes-row (stop w) e t = absurd t

reference-append : (p : ℕ) (s r : List ℕ) (e : Row) → T (undoes (reference_step 0 s) e) → reference_step p (s ++ r) ≡ swap (value e) (key e)
unfolding reference_step
reference-append p [] r e t = absurd t
reference-append p (x ∷ xs) r e t = go (eqb x 38) (body_of xs) refl t ∙ undoes-row (reference_step 0 (x ∷ xs)) e t
  where
    go : (b : Bool) (o : Option (List ℕ)) → body_of xs ≡ o → T (undoes (cond b (at_amp decode_char o) (keep (x ∷ []))) e)
        → cond b (at_amp decode_char (body_of (xs ++ r))) (keep (x ∷ [])) ≡ cond b (at_amp decode_char o) (keep (x ∷ []))
    go false o f t = refl
    go true none f t = absurd t
    go true (some body) f t = ap (at_amp decode_char) (body-append xs r body f)

-- Each value of an HTML context is a reference to its key, but for the characters that decode does not give back.
abbrev refers : List (List ℕ) → Row → Bool
refers bad e = any (same_bytes (key e)) bad || undoes (reference_step 0 (value e)) e

abbrev refers_in : Context → Bool
unfolding names reference_step json_step
refers_in (InHtml h) = all (refers (left h)) (html_rows h)
refers_in (InScript q) = true
refers_in (InStyle q) = true
refers_in InAscii = all (refers []) (html_rows Quoted)
refers_in InJson = all (λ (e : Row). undoes (json_step 0 (value e)) e) (rows InJson)

-- A row of an HTML context is read as its key.
row-refers : (bad : List (List ℕ)) (rs : List Row) → T (all (refers bad) rs) → (e : Row) → In e rs → (In (key e) bad → ⊥) → (r : List ℕ) (p : ℕ)
    → reference_step p (value e ++ r) ≡ swap (value e) (key e)
row-refers bad rs ok e i n r p = go (or_cases (any (same_bytes (key e)) bad) (undoes (reference_step 0 (value e)) e) (all_in (refers bad) rs ok e i))
  where
    go : T (any (same_bytes (key e)) bad) ⊎ T (undoes (reference_step 0 (value e)) e) → reference_step p (value e ++ r) ≡ swap (value e) (key e)
    go (inl t) = absurd (n (same_in (key e) bad t))
    go (inr t) = reference-append p (value e) r e t

pub quoted-refers : (e : Row) → In e (rows InAscii) → (r : List ℕ) (p : ℕ) → reference_step p (value e ++ r) ≡ swap (value e) (key e)
unfolding names reference_step json_step
quoted-refers e i = row-refers [] (html_rows Quoted) (every refers_in tt InAscii) e i (λ j. j)

decode-row : (c : Context) (e : Row) → In e (rows c) → (In (key e) (undecoded c) → ⊥) → (r : List ℕ)
    → row_at value (rows c) (value e ++ r) ≡ some e → (p : ℕ) → decode_step c p (value e ++ r) ≡ swap (value e) (key e)
unfolding decode_step reference_step names json_step
decode-row (InHtml h) e i n r w p = row-refers (left h) (html_rows h) (every refers_in tt (InHtml h)) e i n r p
decode-row InAscii e i n r w p = row-refers [] (html_rows Quoted) (every refers_in tt InAscii) e i n r p
decode-row (InScript q) e i n r w p = ap (λ (o : Option Row). undo o (after_less (ascii "script") p (value e ++ r))) w
decode-row (InStyle q) e i n r w p = ap (λ (o : Option Row). undo o (after_less (ascii "style") p (value e ++ r))) w
decode-row InJson e i n r w p =
    json-row (value e) (key e) r p (undoes-row (json_step 0 (value e)) e (all_in (λ (e : Row). undoes (json_step 0 (value e)) e) (rows InJson) (every refers_in tt InJson) e i))

-- What a rule writes is a reference too.
rule-decoded : (c : Context) (k v : List ℕ) → by_rule c k ≡ some v → (r : List ℕ) (p : ℕ) → decode_step c p (v ++ r) ≡ swap v k
unfolding decode_step
rule-decoded InAscii k v e r p = rule-refers k v e p r
rule-decoded (InHtml h) k v e r p = absurd (none-ne-some v e)
rule-decoded (InScript q) k v e r p = absurd (none-ne-some v e)
rule-decoded (InStyle q) k v e r p = absurd (none-ne-some v e)
rule-decoded InJson k v e r p = absurd (none-ne-some v e)

-- ---- through a form

-- A unit that decode gives back.
abbrev pub IsDecoded : Context → Move → Type 0
IsDecoded c u = IsUnit c (rows c) u × (In (gives u) (undecoded c) → ⊥)

module _ (c : Context) where
  -- At any other byte than these a decoder keeps the byte.
  pub at_other : (p x : ℕ) (s : List ℕ) → (T (one_of (halts c) x) → ⊥) → decode_step c p (x ∷ s) ≡ keep (x ∷ [])
  at_other = decode-quiet c

  decode-keeps : (a : List ℕ) → IsDecoded c (keep a) → (r : List ℕ) → Follows (decode_step c) (singly a) r
  decode-keeps [] u r = tt
  decode-keeps (x ∷ a) u r = char-singly (decode_step c) (λ p y s t. at_other p y s (no-tail y t)) x a r u.0.0 (λ p. at_other p x (a ++ r) no-halt)
    where
      no-tail : (y : ℕ) → T (is_tail y) → T (one_of (halts c) y) → ⊥
      no-tail y t h =
          let (b, i, e) = any-in (eqb y) (halts c) h in
          T_not (is_tail b) (all_in (λ (b : ℕ). not (is_tail b)) (halts c) (every halts_lead tt c) b i) (subst (λ (z : ℕ). T (is_tail z)) (eqb→eq y b e) t)

      no-halt : T (one_of (halts c) x) → ⊥
      no-halt h =
          let (b, i, e) = any-in (eqb x) (halts c) h in
          bar-stops value (rows c) (replaced_chars c) (values-code c) (x ∷ a) r (u.0.0, u.0.1) (b ∷ [])
          (same_in (b ∷ []) (replaced_chars c) (all_in (λ (b : ℕ). any (same_bytes (b ∷ [])) (replaced_chars c)) (halts c) (every halts_barred tt c) b i))
          (subst (λ (z : ℕ). T (stands (z ∷ []) (x ∷ (a ++ r)))) (eqb→eq x b e) (and_both (eqb x x) true (eqb_refl x) tt))

  decode-swaps : (v k : List ℕ) → IsDecoded c (swap v k) → (r : List ℕ) → Makes (decode_step c) (swap v k) r
  decode-swaps v k (inl u, n) r = (
    pred (length v),
    row-length value (rows c) (replaced_chars c) (values-code c) (k, v) u,
    decode-row c (k, v) u n r (row_first value (rows c) (replaced_chars c) (values-code c) (k, v) u r),
  )
  decode-swaps v k (inr u, n) r = (pred (length v), pred_of (length v) (lt→ltb 0 (length v) (rule-long c k v u)), rule-decoded c k v u r)

  -- Through such a run the decoder's moves are those of the run, byte by byte.
  pub decode-cut : (us : List Move) → All (IsDecoded c) us → through (decode_step c) (taken us) ≡ cut us
  decode-cut us g = cut-moves (decode_step c) (IsDecoded c) decode-keeps decode-swaps (λ w a u. u.0) 0 us g

  -- So it gives what the run gives.
  pub decode-run : (us : List Move) → All (IsDecoded c) us → decode_of c (taken us) ≡ result us
  decode-run us g = ap result (decode-cut us g) ∙ result-cut us
