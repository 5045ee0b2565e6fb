-- The units of an HTML context are those units of `unquoted` whose characters the context replaces. Two values never stand at one place, so a
-- reader of the smaller table finds what a reader of the larger one does, or nothing.
-- Assumes nothing.
use mathlib.Core.Bool.{Bool, true, false, not, ◌||◌}
use mathlib.Core.Logic.{inl, inr}
use mathlib.Core.Option.{Option, none, some}
use mathlib.Core.Path.{◌≡◌, refl, sym, ap, ◌∙◌, subst}
use mathlib.Core.List.{List, [], ◌∷◌, map}
use Prim.Native.Nat.{ℕ, ◌<◌}
use native.Mathlib.Omega.{arith}
use lib.Dec.{T, ltb, ltb→lt}
use lib.ListN.{take}
use Rattle.rules.specs.Bytes.{ascii, In, all, any, only, stands, same_bytes, one_of}
use Rattle.rules.specs.Moves.{swap, stop}
use Rattle.rules.specs.Utf8.{utf8}
use Rattle.rules.specs.Tables.{Row, row_at, key, value, reference, letter_or_digit, others, html_rows, replaced_chars}
use Rattle.rules.specs.Reading.{undo}
use Rattle.rules.specs.declared.Html.{Html}
use Rattle.rules.specs.declared.Html.TheVariants.{TextMinimal, Text, DoubleQuoted, SingleQuoted, Quoted, Safe, Unquoted}
use Rattle.rules.specs.declared.Context.TheVariants.{InHtml}
use Rattle.std.specs.Prelude.{Some, None}
use Rattle.rules.specs.declared.Escape.{Escape}
use Rattle.rules.proofs.Tests.{and_left, and_right, all_in, first-none, distinct, differ-law}
use Rattle.rules.proofs.Tables.{unlike}
use Rattle.rules.proofs.EveryByte.{every_byte_lem}
use Rattle.decode_strings.specs.Finds.{Finds}
use Rattle.rules.specs.Answers.{escape_for}
use Rattle.decode_strings.specs.Hex.{hex_between}
use Rattle.decode_strings.proofs.Finding.{Coded, finds-byte, finds-no-byte, utf8-ascii, one-of-in}
use Rattle.rules.proofs.Below.{agree, agrees}
use Rattle.decode_strings.proofs.Hex.{pair-digits, stands-between}
use Rattle.reader.specs.Replaced.{Leads, in_set}
use Rattle.reader.specs.Units.{is_other}
use Rattle.reader.proofs.Characters.{begins-alone}
use Rattle.reader.proofs.Placed.{finds-none}

-- ---- a table with some of the rows of another

in-only : (p : Row → Bool) (es : List Row) (e : Row) → In e (only p es) → In e es
in-only p [] e i = i
in-only p (x ∷ es) e i = go (p x) i (in-only p es e)
  where
    go : (b : Bool) → In e (elim b [ true ↦ x ∷ only p es | false ↦ only p es ]) → (In e (only p es) → In e es) → In e (x ∷ es)
    go true (inl q) ih = inl q
    go true (inr j) ih = inr (ih j)
    go false j ih = inr (ih j)

-- A row that passes the test, or none.
abbrev passed : (Row → Bool) → Option Row → Option Row
passed p none = none
passed p (some e) = elim (p e) [ true ↦ some e | false ↦ none ]

row-passed : (p : Row → Bool) (es : List Row) → T (distinct (unlike value) es) → (s : List ℕ) → row_at value (only p es) s ≡ passed p (row_at value es s)
row-passed p [] d s = refl
row-passed p (e ∷ es) d s = go (p e) refl (stands (value e) s) refl (row-passed p es (and_right (all (unlike value e) es) (distinct (unlike value) es) d) s)
  where
    alone : stands (value e) s ≡ true → row_at value (only p es) s ≡ none
    alone t = first-none (λ (row : Row). stands (value row)) (only p es) s
        (λ f i h. differ-law (value e) (value f) s (all_in (unlike value e) es (and_left (all (unlike value e) es) (distinct (unlike value) es) d) f (in-only p es f i)) (subst T (sym t) tt) h)

    go : (b : Bool) → p e ≡ b → (t : Bool) → stands (value e) s ≡ t → row_at value (only p es) s ≡ passed p (row_at value es s)
        → row_at value (elim b [ true ↦ e ∷ only p es | false ↦ only p es ]) s ≡ passed p (elim t [ true ↦ some e | false ↦ row_at value es s ])
    go true q true h ih =
        ap (λ (t : Bool). elim t [ true ↦ some e | false ↦ row_at value (only p es) s ]) h ∙ sym (ap (λ (b : Bool). elim b [ true ↦ some e | false ↦ none ]) q)
    go true q false h ih = ap (λ (t : Bool). elim t [ true ↦ some e | false ↦ row_at value (only p es) s ]) h ∙ ih
    go false q true h ih = alone h ∙ sym (ap (λ (b : Bool). elim b [ true ↦ some e | false ↦ none ]) q)
    go false q false h ih = ih

module _ (q : List ℕ → Bool) (es : List Row) (d : T (distinct (unlike value) es)) (s : List ℕ) where
  abbrev narrow : List Row
  narrow = only (λ (e : Row). q (key e)) es

  narrow-row : (o : Option Row) → row_at value es s ≡ o → row_at value narrow s ≡ passed (λ (e : Row). q (key e)) o
  narrow-row o e = row-passed (λ (e : Row). q (key e)) es d s ∙ ap (passed (λ (e : Row). q (key e))) e

  -- What is not in the larger table is not in the smaller one.
  finds-neither : Finds es s None → Finds narrow s None
  finds-neither f = go (row_at value es s) refl (f.undoes (stop 4))
    where
      go : (o : Option Row) → row_at value es s ≡ o → undo o (stop 4) ≡ stop 4 → Finds narrow s None
      go none e h = finds-none (narrow-row none e)
      go (some row) e h = absurd (let z : ◌≡◌ {A = ℕ} 0 1 = cc in omega arith)

  module _ (x : Escape) (f : Finds es s (Some x)) where
    found : (e : Row) × (row_at value es s ≡ some e) × (key e ≡ utf8 x.character)
    found = go (row_at value es s) refl (f.undoes (stop 4))
      where
        go : (o : Option Row) → row_at value es s ≡ o → undo o (stop 4) ≡ swap (take x.taken s) (utf8 x.character) → (e : Row) × (row_at value es s ≡ some e) × (key e ≡ utf8 x.character)
        go none e h = absurd (let z : ◌≡◌ {A = ℕ} 0 1 = cc in omega arith)
        go (some row) e h = (row, e, cc)

    narrow-found : (b : Bool) → q (utf8 x.character) ≡ b → row_at value narrow s ≡ elim b [ true ↦ some found.0 | false ↦ none ]
    narrow-found b e =
        narrow-row (some found.0) found.1 ∙ ap (λ (b : Bool). elim b [ true ↦ some found.0 | false ↦ none ]) (ap q found.2 ∙ e)

    -- A row whose character is among those of the smaller table is found there,
    finds-kept : q (utf8 x.character) ≡ true → Finds narrow s (Some x)
    finds-kept e = record {
      undoes = λ other. ap (λ (o : Option Row). undo o other) (narrow-found true e ∙ sym found.1) ∙ f.undoes other;
      within = f.within;
    }

    -- and no other is.
    finds-dropped : q (utf8 x.character) ≡ false → Finds narrow s None
    finds-dropped e = finds-none (narrow-found false e)

-- ---- the HTML contexts

-- The character is one of those that the context replaces.
abbrev replaces : Html → List ℕ → Bool
replaces h k = any (same_bytes k) (replaced_chars (InHtml h))

html-rows : (h : Html) → html_rows h ≡ only (λ (e : Row). replaces h (key e)) (html_rows Unquoted)
html-rows TextMinimal = refl
html-rows Text = refl
html-rows DoubleQuoted = refl
html-rows SingleQuoted = refl
html-rows Quoted = refl
html-rows Safe = refl
html-rows Unquoted = refl

module _ (h : Html) (s set : List ℕ) (right : Leads (InHtml h) (in_set set)) where
  replaced-byte : (b : ℕ) (r : Bool) → b < 128 → in_set set b ≡ r → replaces h (utf8 b) ≡ r
  replaced-byte b r l e = ap (replaces h) (utf8-ascii b l) ∙ sym (begins-alone h b (omega arith)) ∙ sym (right b (omega arith)) ∙ e

  -- What is found in the larger table is found in the smaller one, where its character is in the set,
  pub html-kept : (x : Escape) → x.character < 128 → in_set set x.character ≡ true → Finds (html_rows Unquoted) s (Some x) → Finds (html_rows h) s (Some x)
  html-kept x l e f = rw (html-rows h) (finds-kept (replaces h) (html_rows Unquoted) tt s x f (replaced-byte x.character true l e))

  -- and else nothing is found there;
  pub html-dropped : (x : Escape) → x.character < 128 → in_set set x.character ≡ false → Finds (html_rows Unquoted) s (Some x) → Finds (html_rows h) s None
  html-dropped x l e f = rw (html-rows h) (finds-dropped (replaces h) (html_rows Unquoted) tt s x f (replaced-byte x.character false l e))

-- nor where the larger one has nothing.
pub html-neither : (h : Html) (s : List ℕ) → Finds (html_rows Unquoted) s None → Finds (html_rows h) s None
html-neither h s f = rw (html-rows h) (finds-neither (replaces h) (html_rows Unquoted) tt s f)

-- ---- `&#xHH;`

others-small : T (all (λ (b : ℕ). ltb b 128) others)
others-small = tt

other_byte : (b : ℕ) → In b others → b < 256
other_byte b i = omega (arith, ltb→lt b 128 (all_in (λ (b : ℕ). ltb b 128) others others-small b i))

reference-coded : Coded reference (hex_between (ascii "&#x") (ascii ";")) others 5
unfolding hex_between
reference-coded = record {
  finds = λ b i r. pair-digits b (other_byte b i);
  sound = λ s b e i. stands-between (ascii "&#x") (ascii ";") s b e;
  keys = λ b. refl;
  sizes = λ b. refl;
  small = others-small;
}

-- The bytes that are written so are those that pass the test.
pub other-small : (v : ℕ) → is_other v ≡ true → v < 128
other-small v e = ltb→lt v 128 (and_left (ltb v 128) (not (letter_or_digit v || one_of (ascii "&<>\"") v)) (subst T (sym e) tt))

other-in : (v : ℕ) → is_other v ≡ true → In v others
other-in v e =
    one-of-in others v
    (subst T (agrees (is_other v) (one_of others v) (every_byte_lem (λ (v : ℕ). agree (is_other v) (one_of others v)) tt v (omega (arith, other-small v e)))) (subst T (sym e) tt))

other-out : (v : ℕ) → is_other v ≡ false → In v others → ⊥
other-out v e i = subst T e (all_in is_other others tt v i)

-- So where the two digits are those of such a byte, its unit is found,
pub finds-other : (s : List ℕ) (v : ℕ) → hex_between (ascii "&#x") (ascii ";") s ≡ Some v → is_other v ≡ true → Finds (map reference others) s (escape_for 6 v)
finds-other s v e t = finds-byte reference-coded s v e (other-in v t)

-- and else nothing is.
pub finds-no-other : (s : List ℕ) → ((v : ℕ) → hex_between (ascii "&#x") (ascii ";") s ≡ Some v → is_other v ≡ false) → Finds (map reference others) s None
finds-no-other s h = finds-no-byte reference-coded s (λ v e. other-out v (h v e))
