-- RULES 4. The contexts with their names and numbers, and the operations with their names.
-- The types are those of the code: fifteen contexts have units, script_raw has none. view is with the refusal table.
-- Assumes nothing.
use Rattle.std.specs.Prelude.{List, [], ◌∷◌, ℕ, get_or}
use Rattle.rules.specs.Bytes.{ascii}
use Rattle.rules.specs.declared.Html.TheVariants.{TextMinimal, Text, DoubleQuoted, SingleQuoted, Quoted, Safe, Unquoted}
use Rattle.rules.specs.declared.Quotes.TheVariants.{Single, Double, Both}
use Rattle.rules.specs.declared.Quotes.{Quotes}
use Rattle.rules.specs.declared.Language.{Language}
use Rattle.rules.specs.declared.Language.TheVariants.{Script, Style}
use Rattle.rules.specs.declared.Notation.{Notation}
use Rattle.rules.specs.declared.Notation.TheVariants.{Script as ScriptString, Style as StyleString, Json as JsonString}
use Rattle.rules.specs.declared.Context.{Context}
use Rattle.rules.specs.declared.Context.TheVariants.{InHtml, InScript, InStyle, InJson, InAscii}
use Rattle.rules.specs.declared.AnyContext.{AnyContext}
use Rattle.rules.specs.declared.AnyContext.TheVariants.{Units, ScriptRaw, Unknown}
use Rattle.rules.specs.declared.Operation.{Operation}
use Rattle.rules.specs.declared.Operation.TheVariants.{Encode, Decode, Read, Browse}

-- A name and what it names.
pub record Label (A : Type 0) : Type 0 where
  pub name : List ℕ
  pub names : A

-- The same, made of the two.
abbrev pub label : {A : Type 0} → List ℕ → A → Label A
label n a = record { name = n; names = a }

-- The sixteen contexts in the order of their numbers: the seven HTML contexts, the script strings, the style strings, script_raw, json, ascii_quoted.
abbrev pub context_names : List (Label AnyContext)
context_names =
    label (ascii "text_minimal") (Units (InHtml TextMinimal))
    ∷ label (ascii "text") (Units (InHtml Text))
    ∷ label (ascii "double_quoted") (Units (InHtml DoubleQuoted))
    ∷ label (ascii "single_quoted") (Units (InHtml SingleQuoted))
    ∷ label (ascii "quoted") (Units (InHtml Quoted))
    ∷ label (ascii "safe") (Units (InHtml Safe))
    ∷ label (ascii "unquoted") (Units (InHtml Unquoted))
    ∷ label (ascii "script_single") (Units (InScript Single))
    ∷ label (ascii "script_double") (Units (InScript Double))
    ∷ label (ascii "script_quoted") (Units (InScript Both))
    ∷ label (ascii "style_single") (Units (InStyle Single))
    ∷ label (ascii "style_double") (Units (InStyle Double))
    ∷ label (ascii "style_quoted") (Units (InStyle Both))
    ∷ label (ascii "script_raw") ScriptRaw
    ∷ label (ascii "json") (Units InJson)
    ∷ label (ascii "ascii_quoted") (Units InAscii)
    ∷ []

-- The context of a number: its place in that list, from 0; any other number names none.
unfoldable pub context_of : ℕ → AnyContext
context_of n = (get_or context_names n (label [] Unknown)).names

-- The context of a string, by its language and the quotes that it escapes.
abbrev pub string_of : Language → Quotes → Context
string_of Script q = InScript q
string_of Style q = InStyle q

-- The context of a string, by how it is written and the quotes that it escapes; a JSON string escapes the double quote.
abbrev pub written_in : Notation → Quotes → Context
written_in ScriptString q = InScript q
written_in StyleString q = InStyle q
written_in JsonString q = InJson

-- The operations that go through a text, by name.
abbrev pub operation_names : List (Label Operation)
operation_names =
    label (ascii "encode") Encode
    ∷ label (ascii "decode") Decode
    ∷ label (ascii "read") Read
    ∷ label (ascii "browse") Browse
    ∷ []
