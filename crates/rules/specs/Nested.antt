-- RULES 23. One context inside another: what the inner one writes is a text of the outer one.
-- Assumes nothing.
use Rattle.std.specs.Prelude.{Bool, not, ◌&&◌, ◌≡◌, List, [], ◌∷◌, ◌++◌, ℕ, ltb}
use Prim.Native.String.{String}
use Rattle.rules.specs.Bytes.{ascii, all, any, same_bytes}
use Rattle.rules.specs.Utf8.{IsText, utf8}
use Rattle.rules.specs.Tables.{Row, value, rows, replaced_chars}
use Rattle.rules.specs.Units.{undecoded}
use Rattle.rules.specs.Operations.{encode_of, decode_of}
use Rattle.rules.specs.declared.Html.{Html}
use Rattle.rules.specs.declared.Html.TheVariants.{DoubleQuoted, SingleQuoted, Quoted, Unquoted}
use Rattle.rules.specs.declared.Quotes.{Quotes}
use Rattle.rules.specs.declared.Quotes.TheVariants.{Single, Double, Both}
use Rattle.rules.specs.declared.Context.{Context}
use Rattle.rules.specs.declared.Context.TheVariants.{InHtml, InScript}

-- What is written of a text by the inner context, and of that by the outer one.
abbrev pub nested_of : Context → Context → List ℕ → List ℕ
nested_of outer inner t = encode_of outer (encode_of inner t)

-- A double form: what is so written of some text.
abbrev pub IsNested : Context → Context → List ℕ → Type 0
IsNested outer inner s = (t : List ℕ) × IsText t × (s ≡ nested_of outer inner t)

-- The outer context has a byte as a character that its decode gives back.
abbrev pub gives_back : Context → ℕ → Bool
gives_back outer b = ltb b 128 && not (any (same_bytes (b ∷ [])) (undecoded outer))

-- Each character that outer decode does not give back is replaced by the inner context,
abbrev pub hides : Context → Context → Bool
hides outer inner = all (λ (a : List ℕ). any (same_bytes a) (replaced_chars inner)) (undecoded outer)

-- and no replacement of the inner context has such a character.
abbrev pub spares : Context → Context → Bool
spares outer inner = all (λ (row : Row). all (gives_back outer) (value row)) (rows inner)

-- So outer decode gives back whatever the inner context writes.
abbrev pub carries : Context → Context → Bool
carries outer inner = hides outer inner && spares outer inner

-- The attributes and the quotes of the script strings that an event attribute can have.
abbrev pub event_attributes : List Html
event_attributes = DoubleQuoted ∷ SingleQuoted ∷ Quoted ∷ Unquoted ∷ []

abbrev pub event_strings : List Quotes
event_strings = Single ∷ Double ∷ Both ∷ []

-- ---- the twelve pairs at an edge

-- One text with every kind of character that one of them replaces, and what each pair of contexts writes for it.
abbrev pub edge_text : List ℕ
edge_text = ascii "'\"<&\\" ++ 0x00 ∷ utf8 0x2028 ++ ascii "a"

abbrev pub nests : List (Html × Quotes × String)
nests =
    (DoubleQuoted, Single, "\\'&quot;\\x3C&amp;\\\\\\x00\\u2028a")
    ∷ (DoubleQuoted, Double, "'\\&quot;\\x3C&amp;\\\\\\x00\\u2028a")
    ∷ (DoubleQuoted, Both, "\\'\\&quot;\\x3C&amp;\\\\\\x00\\u2028a")
    ∷ (SingleQuoted, Single, "\\&#x27;\"\\x3C&amp;\\\\\\x00\\u2028a")
    ∷ (SingleQuoted, Double, "&#x27;\\\"\\x3C&amp;\\\\\\x00\\u2028a")
    ∷ (SingleQuoted, Both, "\\&#x27;\\\"\\x3C&amp;\\\\\\x00\\u2028a")
    ∷ (Quoted, Single, "\\&#x27;&quot;\\x3C&amp;\\\\\\x00\\u2028a")
    ∷ (Quoted, Double, "&#x27;\\&quot;\\x3C&amp;\\\\\\x00\\u2028a")
    ∷ (Quoted, Both, "\\&#x27;\\&quot;\\x3C&amp;\\\\\\x00\\u2028a")
    ∷ (Unquoted, Single, "&#x5C;&#x27;&quot;&#x5C;x3C&amp;&#x5C;&#x5C;&#x5C;x00&#x5C;u2028a")
    ∷ (Unquoted, Double, "&#x27;&#x5C;&quot;&#x5C;x3C&amp;&#x5C;&#x5C;&#x5C;x00&#x5C;u2028a")
    ∷ (Unquoted, Both, "&#x5C;&#x27;&#x5C;&quot;&#x5C;x3C&amp;&#x5C;&#x5C;&#x5C;x00&#x5C;u2028a")
    ∷ []

-- A row says what is written, and that the two decoders give the text back.
abbrev pub nests_as : Html × Quotes × String → Bool
nests_as (h, q, s) =
    same_bytes (nested_of (InHtml h) (InScript q) edge_text) (ascii s) && same_bytes (decode_of (InScript q) (decode_of (InHtml h) (ascii s))) edge_text

-- In the other order, the attribute's context first, a quote is written so that the browser has it bare inside the string.
abbrev pub other_order : List ℕ
other_order = encode_of (InScript Single) (encode_of (InHtml SingleQuoted) (ascii "'"))
