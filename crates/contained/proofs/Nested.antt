-- A place inside a place: a string in a script or style element, and a string in an attribute. Each is contained, and both are said together.
-- Assumes nothing.
use mathlib.Core.Bool.{Bool, not, ◌&&◌}
use mathlib.Core.Path.{◌≡◌}
use mathlib.Core.List.{List, [], ◌∷◌, ◌++◌}
use Prim.Native.Nat.{ℕ}
use lib.Dec.{T, ltb}
use Rattle.rules.specs.Bytes.{In, all, any, bytes, same_bytes}
use Rattle.rules.specs.Moves.{Move, taken, result, through}
use Rattle.rules.specs.Utf8.{IsText, IsFree}
use Rattle.rules.specs.Tables.{Row, value, rows, replaced_chars}
use Rattle.rules.specs.Operations.{encode_of}
use Rattle.rules.specs.Nested.{nested_of}
use Rattle.rules.specs.declared.Html.TheVariants.{DoubleQuoted, SingleQuoted, Quoted, Safe, Unquoted}
use Rattle.rules.specs.declared.Quotes.TheVariants.{Single, Double, Both}
use Rattle.rules.specs.declared.Context.{Context}
use Rattle.rules.specs.declared.Context.TheVariants.{InHtml, InScript, InStyle, InJson}
use Rattle.rules.proofs.Tests.{and_left, and_right, all_in, same_in}
use Rattle.rules.proofs.Nested.{ascii-free, rule-clear, form-clear}
use Rattle.places.specs.Places.{Place, place_step}
use Rattle.contained.specs.Matrix.{PlaceName, DoubleQuotedValue, SingleQuotedValue, UnquotedValue, ScriptElement, StyleElement, ScriptSingle, ScriptDouble, StyleSingle, StyleDouble, JsonText, place_of, nul, nul_and_cr}
use Rattle.contained.proofs.Ruled.{where_ruled, where-ruled}
use Rattle.contained.proofs.Judged.{among, stays_in, holds_but, copies_in}
use Rattle.contained.proofs.Contained.{stays, holds}

-- ---- forms without some characters

-- An ASCII byte that is none of the bad characters.
abbrev clean_byte : List (List ℕ) → ℕ → Bool
clean_byte bad b = ltb b 128 && not (any (same_bytes (b ∷ [])) bad)

abbrev hides_all : List (List ℕ) → Context → Bool
hides_all bad i = all (among (replaced_chars i)) bad

abbrev writes_clean : List (List ℕ) → Context → Bool
writes_clean bad i = all (λ (row : Row). all (clean_byte bad) (value row)) (rows i)

-- What is written by rule is of bytes from `#` to `z`.
abbrev ruled_clean : List (List ℕ) → Context → Bool
ruled_clean bad i = where_ruled i (all (clean_byte bad) (bytes 35 122))

-- The forms of a context are free of the bad characters: it replaces each, and writes none.
abbrev pub clears : List (List ℕ) → Context → Bool
clears bad i = hides_all bad i && (writes_clean bad i && ruled_clean bad i)

cleared : (bad : List (List ℕ)) (i : Context) → T (clears bad i) → (t : List ℕ) → IsText t → IsFree bad (encode_of i t)
cleared bad i ok =
    let spared = writes_clean bad i && ruled_clean bad i in
    let rest = and_right (hides_all bad i) spared ok in
    form-clear bad i (λ a j. same_in a (replaced_chars i) (all_in (among (replaced_chars i)) bad (and_left (hides_all bad i) spared ok) a j))
    (λ row j. ascii-free bad (value row) (all_in (λ (row : Row). all (clean_byte bad) (value row)) (rows i) (and_left (writes_clean bad i) (ruled_clean bad i) rest) row j))
    (λ k v e. rule-clear bad (where-ruled i (all (clean_byte bad) (bytes 35 122)) (and_right (writes_clean bad i) (ruled_clean bad i) rest) k v e) i k v e)

-- ---- the laws

-- The place takes exactly the bytes w, and holds v there, whatever follows.
abbrev pub Keeps : Place → List ℕ → List ℕ → Type 0
Keeps p w v = (r : List ℕ) → (ms : List Move) × (through (place_step p) (w ++ r) ≡ ms ++ through (place_step p) r) × (taken ms ≡ w) × (result ms ≡ v)

-- A string in an element: the element holds the form as it is written, and the string in it holds the text.
pub in-element : (i : Context) (outer inner : Place) (bad : List (List ℕ)) → T (stays_in i outer) → T (copies_in i outer) → T (stays_in i inner) → T (holds_but bad i inner)
    → (t : List ℕ) → IsFree bad t → Keeps outer (encode_of i t) (encode_of i t) × Keeps inner (encode_of i t) t
in-element i outer inner bad a b c d t f =
    ((λ r. let (ms, e, k, y) = stays i outer [] a t (f.0, f.1, f.3) r in (ms, e, k, y b)), λ r. holds i inner bad c d t f r)

-- A string in an attribute: the attribute holds the inner form, and the string in that holds the text. The attribute loses some characters; no inner form has one.
pub in-attribute : (o i : Context) (outer inner : Place) (lost bad : List (List ℕ)) → T (stays_in o outer) → T (holds_but lost o outer) → T (clears lost i) → T (stays_in i inner) → T (holds_but bad i inner)
    → (t : List ℕ) → IsFree bad t → Keeps outer (nested_of o i t) (encode_of i t) × Keeps inner (encode_of i t) t
in-attribute o i outer inner lost bad a b c d e t f =
    ((λ r. holds o outer lost a b (encode_of i t) (cleared lost i c t (f.0, f.1, f.3)) r), λ r. holds i inner bad d e t f r)

-- ---- which pairs

-- A context and a place that holds its texts.
abbrev pub Put : Type 0
Put = Context × PlaceName

-- The strings.
abbrev pub strings : List Put
strings =
    (InScript Single, ScriptSingle) ∷ (InScript Both, ScriptSingle) ∷ (InScript Double, ScriptDouble) ∷ (InScript Both, ScriptDouble)
    ∷ (InStyle Single, StyleSingle) ∷ (InStyle Both, StyleSingle) ∷ (InStyle Double, StyleDouble) ∷ (InStyle Both, StyleDouble)
    ∷ (InJson, ScriptDouble) ∷ (InJson, JsonText)
    ∷ []

-- The attributes.
abbrev pub attributes : List Put
attributes =
    (InHtml DoubleQuoted, DoubleQuotedValue) ∷ (InHtml Quoted, DoubleQuotedValue) ∷ (InHtml Safe, DoubleQuotedValue) ∷ (InHtml Unquoted, DoubleQuotedValue)
    ∷ (InHtml SingleQuoted, SingleQuotedValue) ∷ (InHtml Quoted, SingleQuotedValue) ∷ (InHtml Safe, SingleQuotedValue) ∷ (InHtml Unquoted, SingleQuotedValue)
    ∷ (InHtml Unquoted, UnquotedValue)
    ∷ []

abbrev holds_all : List (List ℕ) → Put → Bool
holds_all bad put = stays_in put.0 (place_of put.1) && holds_but bad put.0 (place_of put.1)

abbrev copies_all : PlaceName → Put → Bool
copies_all name put = stays_in put.0 (place_of name) && copies_in put.0 (place_of name)

strings-hold : T (all (holds_all nul) strings)
unfolding place_step
strings-hold = tt

attributes-hold : T (all (holds_all nul_and_cr) attributes)
unfolding place_step
attributes-hold = tt

strings-clear : T (all (λ (put : Put). clears nul_and_cr put.0) strings)
strings-clear = tt

elements-copy : T (all (copies_all ScriptElement) strings && all (copies_all StyleElement) strings)
unfolding place_step
elements-copy = tt

module _ (i : Put) (listed : In i strings) where
  inner : T (holds_all nul i)
  inner = all_in (holds_all nul) strings strings-hold i listed

  inner-stays : T (stays_in i.0 (place_of i.1))
  inner-stays = and_left (stays_in i.0 (place_of i.1)) (holds_but nul i.0 (place_of i.1)) inner

  inner-holds : T (holds_but nul i.0 (place_of i.1))
  inner-holds = and_right (stays_in i.0 (place_of i.1)) (holds_but nul i.0 (place_of i.1)) inner

  -- Each of the strings in a script element, and in a style element.
  copied-by : (name : PlaceName) → T (all (copies_all name) strings) → (t : List ℕ) → IsFree nul t → Keeps (place_of name) (encode_of i.0 t) (encode_of i.0 t) × Keeps (place_of i.1) (encode_of i.0 t) t
  copied-by name c =
      let outer = all_in (copies_all name) strings c i listed in
      let stay = stays_in i.0 (place_of name) in
      let copy = copies_in i.0 (place_of name) in
      in-element i.0 (place_of name) (place_of i.1) nul (and_left stay copy outer) (and_right stay copy outer) inner-stays inner-holds

  pub in-script : (t : List ℕ) → IsFree nul t → Keeps (place_of ScriptElement) (encode_of i.0 t) (encode_of i.0 t) × Keeps (place_of i.1) (encode_of i.0 t) t
  in-script = copied-by ScriptElement (and_left (all (copies_all ScriptElement) strings) (all (copies_all StyleElement) strings) elements-copy)

  pub in-style : (t : List ℕ) → IsFree nul t → Keeps (place_of StyleElement) (encode_of i.0 t) (encode_of i.0 t) × Keeps (place_of i.1) (encode_of i.0 t) t
  in-style = copied-by StyleElement (and_right (all (copies_all ScriptElement) strings) (all (copies_all StyleElement) strings) elements-copy)

  -- Each of them in each of the attributes.
  pub in-value : (o : Put) → In o attributes → (t : List ℕ) → IsFree nul t → Keeps (place_of o.1) (nested_of o.0 i.0 t) (encode_of i.0 t) × Keeps (place_of i.1) (encode_of i.0 t) t
  in-value o there =
      let outer = all_in (holds_all nul_and_cr) attributes attributes-hold o there in
      let stay = stays_in o.0 (place_of o.1) in
      let hold = holds_but nul_and_cr o.0 (place_of o.1) in
      in-attribute o.0 i.0 (place_of o.1) (place_of i.1) nul_and_cr nul (and_left stay hold outer) (and_right stay hold outer)
      (all_in (λ (put : Put). clears nul_and_cr put.0) strings strings-clear i listed) inner-stays inner-holds
