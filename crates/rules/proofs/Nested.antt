-- Two contexts, one inside the other: outer decode gives back what the inner one wrote, since nothing in it is lost outside.
-- Assumes nothing.
use mathlib.Core.Bool.{Bool, true, not, ◌&&◌}
use mathlib.Core.Logic.{◌↔◌, inl, inr}
use mathlib.Core.Option.{some}
use mathlib.Core.Path.{◌≡◌, refl, sym, ap, ◌∙◌, subst}
use mathlib.Core.List.{List, [], ◌∷◌, ◌++◌}
use Prim.Native.Nat.{ℕ, ◌<◌}
use native.Mathlib.Omega.{arith}
use borrow.Author.Tests.{le-leb}
use lib.Dec.{T, leb, ltb, eqb, leb→le, ltb→lt, T_not}
use lib.ListN.{length}
use Rattle.rules.specs.Bytes.{ascii, bytes, In, All, all, any, only, join, same_bytes}
use Rattle.rules.specs.Moves.{Move, keep, swap, leave, stop, taken}
use Rattle.rules.specs.Utf8.{IsChar, IsText, IsFree}
use Rattle.rules.specs.Tables.{Row, value, rows, replaced_chars}
use Rattle.rules.specs.Ascii.{by_rule}
use Rattle.rules.specs.Units.{IsRun, IsForm, unread, undecoded}
use Rattle.rules.specs.Operations.{decode_step, encode_of, decode_of, read_of, read_to}
use Rattle.rules.specs.Encoding.{encode_step}
use Rattle.rules.specs.Reading.{read_step}
use Rattle.rules.specs.Names.{names}
use Rattle.rules.specs.References.{reference_step}
use Rattle.rules.specs.Nested.{nested_of, IsNested, gives_back, hides, spares, carries, event_attributes, event_strings, nests, nests_as, other_order}
use Rattle.rules.specs.declared.Html.{Html}
use Rattle.rules.specs.declared.Html.TheVariants.{SingleQuoted}
use Rattle.rules.specs.declared.Quotes.{Quotes}
use Rattle.rules.specs.declared.Quotes.TheVariants.{Single}
use Rattle.rules.specs.declared.Context.{Context}
use Rattle.rules.specs.declared.Context.TheVariants.{InHtml, InScript}
use Rattle.rules.proofs.Tests.{and_left, and_right, all_in, same_in, in-same}
use Rattle.rules.proofs.Every.{contexts, every}
use Rattle.rules.proofs.Below.{count-in}
use Rattle.rules.proofs.Ascii.{is_printed, all_weaker, rule-printed}
use Rattle.rules.proofs.Encoder.{text-append}
use Rattle.rules.proofs.Laws.{encode-any, form-text, form-free, read-encode, encode-read, decode-encode, unread-undecoded}
use Rattle.rules.proofs.Append.{free-append, encode-texts}

-- ---- texts without certain characters

-- Without more of them, without fewer.
free-fewer : (bad few : List (List ℕ)) → ((a : List ℕ) → In a few → In a bad) → (s : List ℕ) → IsFree bad s → IsFree few s
free-fewer bad few sub s f =
    let (cs, h, g, e) = f in
    (cs, h, go cs g, e)
  where
    go : (cs : List (List ℕ)) → All (λ (a : List ℕ). In a bad → ⊥) cs → All (λ (a : List ℕ). In a few → ⊥) cs
    go [] g = tt
    go (a ∷ cs) g = ((λ i. g.0 (sub a i)), go cs g.1)

free-text : (bad : List (List ℕ)) (t : List ℕ) → IsFree bad t → IsText t
free-text bad t f = let (cs, h, g, e) = f in (cs, h, e)

ascii-char : (b : ℕ) → b < 128 → IsChar (b ∷ [])
ascii-char b h =
    let p = le-leb 0 b (omega arith) in
    let q = le-leb b 127 (omega arith) in
    ((0x00, 0x7F) ∷ [], inl refl, subst T (sym (λ i. (p i && q i) && true)) tt, refl)

-- ASCII bytes, none of them one of the bad characters, are such a text.
pub ascii-free : (bad : List (List ℕ)) (v : List ℕ) → T (all (λ (b : ℕ). ltb b 128 && not (any (same_bytes (b ∷ [])) bad)) v) → IsFree bad v
ascii-free bad [] t = ([], tt, tt, refl)
ascii-free bad (b ∷ v) t =
    let here : Bool = ltb b 128 && not (any (same_bytes (b ∷ [])) bad) in
    let there : Bool = all (λ (b : ℕ). ltb b 128 && not (any (same_bytes (b ∷ [])) bad)) v in
    let one = and_left here there t in
    let low = and_left (ltb b 128) (not (any (same_bytes (b ∷ [])) bad)) one in
    let away = and_right (ltb b 128) (not (any (same_bytes (b ∷ [])) bad)) one in
    let (cs, h, f, e) = ascii-free bad v (and_right here there t) in (
      (b ∷ []) ∷ cs,
      (ascii-char b (ltb→lt b 128 low), h),
      ((λ i. T_not (any (same_bytes (b ∷ [])) bad) away (in-same (b ∷ []) bad i)), f),
      ap (λ (s : List ℕ). b ∷ s) e,
    )

-- What a context writes by rule is of bytes from `#` to `z`: it has no bad character if none of these is one.
pub rule-clear : (bad : List (List ℕ)) → T (all (λ (b : ℕ). ltb b 128 && not (any (same_bytes (b ∷ [])) bad)) (bytes 35 122))
    → (i : Context) (k v : List ℕ) → by_rule i k ≡ some v → IsFree bad v
rule-clear bad none-bad i k v e = ascii-free bad v (all_weaker is_printed good given v (rule-printed i k v e))
  where
    good : ℕ → Bool
    good b = ltb b 128 && not (any (same_bytes (b ∷ [])) bad)

    given : (b : ℕ) → T (is_printed b) → T (good b)
    given b t =
        all_in good (bytes 35 122) none-bad b
        (count-in 35 88 b (leb→le 35 b (and_left (leb 35 b) (leb b 122) t)) (let h = leb→le b 122 (and_right (leb 35 b) (leb b 122) t) in omega arith))

-- A context that replaces each of the bad characters and writes none of them, by its rows or by rule.
module _ (bad : List (List ℕ)) (i : Context) (hidden : (a : List ℕ) → In a bad → In a (replaced_chars i)) (spared : (row : Row) → In row (rows i) → IsFree bad (value row))
    (ruled : (k v : List ℕ) → by_rule i k ≡ some v → IsFree bad v) where
  run-clear : (us : List Move) → IsRun i us → IsFree bad (taken us)
  run-clear [] g = ([], tt, tt, refl)
  run-clear (keep a ∷ us) g =
      let (cs, h, f, e) = run-clear us g.1 in
      (a ∷ cs, (g.0.0, h), ((λ j. g.0.1 (hidden a j)), f), ap (λ (s : List ℕ). a ++ s) e)
  run-clear (swap v k ∷ us) (inl u, g) = free-append bad v (taken us) (spared (k, v) u) (run-clear us g)
  run-clear (swap v k ∷ us) (inr u, g) = free-append bad v (taken us) (ruled k v u) (run-clear us g)
  run-clear (leave r a ∷ us) g = absurd g.0
  run-clear (stop w ∷ us) g = absurd g.0

  -- What it writes has none of them.
  pub form-clear : (t : List ℕ) → IsText t → IsFree bad (encode_of i t)
  form-clear t h = let (us, g, e) = encode-any i t h in subst (IsFree bad) (sym e) (run-clear us g)

-- ---- a pair of contexts, of which the outer one carries the inner one

module _ (o i : Context) (fits : T (carries o i)) where
  hidden : (a : List ℕ) → In a (undecoded o) → In a (replaced_chars i)
  hidden a j = same_in a (replaced_chars i) (all_in (λ (a : List ℕ). any (same_bytes a) (replaced_chars i)) (undecoded o) (and_left (hides o i) (spares o i) fits) a j)

  spared : (row : Row) → In row (rows i) → IsFree (undecoded o) (value row)
  spared row j = ascii-free (undecoded o) (value row) (all_in (λ (row : Row). all (gives_back o) (value row)) (rows i) (and_right (hides o i) (spares o i) fits) row j)

  -- Nor has what the inner context writes by rule: it is of bytes that every context gives back.
  ruled : (k v : List ℕ) → by_rule i k ≡ some v → IsFree (undecoded o) v
  ruled = rule-clear (undecoded o) (every (λ (o : Context). all (gives_back o) (bytes 35 122)) tt o) i

  -- What the inner context writes has no character that outer decode does not give back.
  pub inner-carried : (t : List ℕ) → IsText t → IsFree (undecoded o) (encode_of i t)
  inner-carried = form-clear (undecoded o) i hidden spared ruled

  -- Nor one that no outer form stands for.
  pub inner-read : (t : List ℕ) → IsText t → IsFree (unread o) (encode_of i t)
  inner-read t h = free-fewer (undecoded o) (unread o) (unread-undecoded o) (encode_of i t) (inner-carried t h)

  -- Outer decode and then inner decode give the text back.
  pub nested-decode : (t : List ℕ) → IsFree (undecoded i) t → decode_of i (decode_of o (nested_of o i t)) ≡ t
  nested-decode t f = ap (decode_of i) (decode-encode o (encode_of i t) (inner-carried t (free-text (undecoded i) t f))) ∙ decode-encode i t f

  -- What the outer reader gives of a double form is the inner form.
  pub nested-inner : (t : List ℕ) → IsText t → read_of o (nested_of o i t) ≡ encode_of i t
  nested-inner t h = read-encode o (encode_of i t) (inner-read t h)

  -- The strict readers, outer and then inner, give the text back too.
  pub nested-read : (t : List ℕ) → IsFree (unread i) t → read_of i (read_of o (nested_of o i t)) ≡ t
  nested-read t f = ap (read_of i) (nested-inner t (free-text (unread i) t f)) ∙ read-encode i t f

  -- A string is a double form exactly if the outer strict reader accepts it and the inner one accepts what that gives.
  pub nested-form : (s : List ℕ) → IsNested o i s ↔ (IsForm o s × IsForm i (read_of o s))
  nested-form s = (
    λ w. let (t, h, e) = w in (
      subst (IsForm o) (sym e) (encode-any o (encode_of i t) (form-text i (encode_of i t) (encode-any i t h))),
      subst (IsForm i) (sym (ap (read_of o) e ∙ nested-inner t h)) (encode-any i t h),
    ),
    λ w. let (f, g) = w in (
      read_of i (read_of o s),
      free-text (unread i) (read_of i (read_of o s)) (form-free i (read_of o s) g),
      sym (encode-read o s f) ∙ ap (encode_of o) (sym (encode-read i (read_of o s) g)),
    ),
  )

  -- Script around the inner form: the handler, written as one text of the outer context, is written part by part,
  pub handler-parts : (before t after : List ℕ) → IsText before → IsText t → IsText after
      → encode_of o (before ++ (encode_of i t ++ after)) ≡ encode_of o before ++ (nested_of o i t ++ encode_of o after)
  handler-parts before t after p h q =
      let inner = form-text i (encode_of i t) (encode-any i t h) in
      encode-texts o before (encode_of i t ++ after) p (text-append (encode_of i t) after inner q)
      ∙ ap (λ (s : List ℕ). encode_of o before ++ s) (encode-texts o (encode_of i t) after inner q)

  -- and outer decode gives the whole handler back.
  pub handler-back : (before t after : List ℕ) → IsFree (undecoded o) before → IsText t → IsFree (undecoded o) after
      → decode_of o (encode_of o (before ++ (encode_of i t ++ after))) ≡ before ++ (encode_of i t ++ after)
  handler-back before t after p h q =
      decode-encode o (before ++ (encode_of i t ++ after))
      (free-append (undecoded o) before (encode_of i t ++ after) p (free-append (undecoded o) (encode_of i t) after (inner-carried t h) q))

-- ---- which pairs carry

-- Script strings in event attributes do, all twelve.
pub events-carry : T (all (λ (h : Html). all (λ (q : Quotes). carries (InHtml h) (InScript q)) event_strings) event_attributes)
events-carry = tt

-- And each of their texts comes back: no character is one that decode of a script string does not give back.
pub events-all : (q : Quotes) → undecoded (InScript q) ≡ []
events-all q = refl

-- For each outer context, the inner ones that it carries.
abbrev carried : List Context → List (List Context)
carried [] = []
carried (o ∷ os) = only (carries o) contexts ∷ carried os

-- Of the 225 pairs 197 carry. The other 28 have an HTML context other than `unquoted`, which copies controls, inside `unquoted` or a style string.
pub pairs-carry : T (eqb 197 (length (join (carried contexts))))
pairs-carry = tt

-- The table of the twelve pairs holds, of the very text that it names.
pub nests-hold : T (all nests_as nests)
unfolding encode_step decode_step reference_step names
nests-hold = tt

-- What the other order writes is no double form: the inner reader stops at the quote.
pub other-order : T (same_bytes (decode_of (InHtml SingleQuoted) other_order) (ascii "'") && eqb (read_to (InScript Single) (ascii "'")) 0)
unfolding encode_step decode_step reference_step read_step
other-order = tt
