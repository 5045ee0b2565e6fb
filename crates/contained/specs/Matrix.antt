-- RULES 29. Which context goes where: for each place and each context, whether what is written stays there and is held as the text that was typed.
-- Assumes nothing.
use Rattle.std.specs.Prelude.{Bool, true, ◌≡◌, List, [], ◌∷◌, ◌++◌, map, ℕ, T}
use Rattle.std.proofs.Math.Option.{none, some}
use Rattle.rules.specs.Bytes.{ascii, In}
use Rattle.rules.specs.Moves.{through, taken, result}
use Rattle.rules.specs.Utf8.{utf8, code_of}
use Rattle.rules.specs.Ascii.{by_rule}
use Rattle.rules.specs.References.{renumbering, renumbered, stands_for}
use Rattle.rules.specs.Operations.{encode_of, raw_of}
use Rattle.rules.specs.declared.Context.{Context}
use Rattle.rules.specs.declared.AnyContext.{AnyContext}
use Rattle.rules.specs.declared.AnyContext.TheVariants.{Units, ScriptRaw, Unknown}
use Rattle.places.specs.Places.{Place, place_step, begins}
use Rattle.places.specs.HtmlPlaces.{element_text, rcdata, rawtext, script_data, attribute, attribute_unquoted}
use Rattle.places.specs.StringPlaces.{script_string, script_string_old, template, style_string, json_string}

-- ---- the places

pub data PlaceName : Type 0 where
  ElementText : PlaceName
  TitleText : PlaceName
  TextareaText : PlaceName
  DoubleQuotedValue : PlaceName
  SingleQuotedValue : PlaceName
  UnquotedValue : PlaceName
  ScriptElement : PlaceName
  StyleElement : PlaceName
  ScriptSingle : PlaceName
  ScriptDouble : PlaceName
  OldScriptSingle : PlaceName
  OldScriptDouble : PlaceName
  ScriptTemplate : PlaceName
  StyleSingle : PlaceName
  StyleDouble : PlaceName
  JsonText : PlaceName

-- Each as a table.
abbrev pub place_of : PlaceName → Place
place_of ElementText = element_text
place_of TitleText = rcdata (ascii "title")
place_of TextareaText = rcdata (ascii "textarea")
place_of DoubleQuotedValue = attribute 34
place_of SingleQuotedValue = attribute 39
place_of UnquotedValue = attribute_unquoted
place_of ScriptElement = script_data
place_of StyleElement = rawtext (ascii "style")
place_of ScriptSingle = script_string 39
place_of ScriptDouble = script_string 34
place_of OldScriptSingle = script_string_old 39
place_of OldScriptDouble = script_string_old 34
place_of ScriptTemplate = template
place_of StyleSingle = style_string 39
place_of StyleDouble = style_string 34
place_of JsonText = json_string

-- What the page or the script has behind it.
abbrev pub ends_of : PlaceName → List (List ℕ)
ends_of ElementText = ascii "</p>" ∷ []
ends_of TitleText = ascii "</title>" ∷ []
ends_of TextareaText = ascii "</textarea>" ∷ []
ends_of DoubleQuotedValue = ascii "\"" ∷ []
ends_of SingleQuotedValue = ascii "'" ∷ []
ends_of UnquotedValue = ascii ">" ∷ ascii " " ∷ []
ends_of ScriptElement = ascii "</script>" ∷ []
ends_of StyleElement = ascii "</style>" ∷ []
ends_of ScriptSingle = ascii "'" ∷ []
ends_of ScriptDouble = ascii "\"" ∷ []
ends_of OldScriptSingle = ascii "'" ∷ []
ends_of OldScriptDouble = ascii "\"" ∷ []
ends_of ScriptTemplate = ascii "`" ∷ []
ends_of StyleSingle = ascii "'" ∷ []
ends_of StyleDouble = ascii "\"" ∷ []
ends_of JsonText = ascii "\"" ∷ []

-- ---- what is said of a context and a place

-- What encode writes in a context.
abbrev pub form_of : AnyContext → List ℕ → List ℕ
form_of (Units c) t = encode_of c t
form_of ScriptRaw t = raw_of t
form_of Unknown t = []

-- Before each end of the place, and whatever follows that: the bytes w begin its value, and it is left behind them and nowhere earlier.
abbrev pub Stays : PlaceName → List ℕ → Type 0
Stays name w =
    (end : List ℕ) → In end (ends_of name) → (r : List ℕ)
    → T (begins (place_of name).never (w ++ (end ++ r))) × (taken (through (place_step (place_of name)) (w ++ (end ++ r))) ≡ w)

-- And what it holds is v.
abbrev pub Holds : PlaceName → List ℕ → List ℕ → Type 0
Holds name w v = Stays name w × ((end : List ℕ) → In end (ends_of name) → (r : List ℕ) → result (through (place_step (place_of name)) (w ++ (end ++ r))) ≡ v)

-- What a browser takes a character for that is written in a context: where it is written by rule, the one that browse gives for its number (RULES 10, 27).
abbrev pub held_as : Context → List ℕ → List ℕ
held_as c a = elim (by_rule c a) [ none ↦ a | some v ↦ utf8 (stands_for renumbering (code_of a)) ]

-- The text may be put there: an attribute value without quotes cannot be empty.
abbrev pub allowed : PlaceName → List ℕ → Bool
allowed name [] = begins (place_of name).never []
allowed name (x ∷ t) = true

pub data Verdict : Type 0 where
  -- What is written stays there, whatever is typed, and the place holds the text. The listed characters are the exceptions: a text with one of them
  -- stays too, and each of them is held as something else.
  holds : List (List ℕ) → Verdict
  -- What is written stays there, whatever is typed; this text is held as another one.
  alters : List ℕ → Verdict
  -- What is written for this text does not stay: it leaves the place, takes the end with it, or is no value there.
  breaks : List ℕ → Verdict

-- A place, and a verdict for each context in the order of their numbers.
pub record Line : Type 0 where
  pub name : PlaceName
  pub verdicts : List Verdict

abbrev pub line : PlaceName → List Verdict → Line
line name vs = record { name = name; verdicts = vs }

-- ---- the table

abbrev pub nul : List (List ℕ)
nul = (0 ∷ []) ∷ []

abbrev pub nul_and_cr : List (List ℕ)
nul_and_cr = (0 ∷ []) ∷ (13 ∷ []) ∷ []

-- NUL, CR and the 27 characters between U+0080 and U+009F whose numbers a browser takes for others.
abbrev pub nul_cr_and_moved : List (List ℕ)
nul_cr_and_moved = (0 ∷ []) ∷ (13 ∷ []) ∷ map utf8 renumbered

-- text_minimal, text, double_quoted, single_quoted, quoted, safe, unquoted; script_single, script_double, script_quoted; style_single, style_double,
-- style_quoted; script_raw; json; ascii_quoted. tools/places_table.py prints it as the table of README.md.
abbrev pub matrix : List Line
matrix =
    -- The text of an element.
    line ElementText (
    holds nul_and_cr ∷ holds nul_and_cr ∷ holds nul_and_cr ∷ holds nul_and_cr ∷ holds nul_and_cr ∷ holds nul_and_cr ∷ holds nul
    ∷ alters (ascii "'") ∷ alters (ascii "\"") ∷ alters (ascii "\"")
    ∷ alters (ascii "'") ∷ alters (ascii "\"") ∷ alters (ascii "\"")
    ∷ breaks (ascii "</")
    ∷ alters (ascii "\"")
    ∷ holds nul_cr_and_moved
    ∷ [])
    -- The text of a title.
    ∷ line TitleText (
    holds nul_and_cr ∷ holds nul_and_cr ∷ holds nul_and_cr ∷ holds nul_and_cr ∷ holds nul_and_cr ∷ holds nul_and_cr ∷ holds nul
    ∷ alters (ascii "'") ∷ alters (ascii "\"") ∷ alters (ascii "\"")
    ∷ alters (ascii "'") ∷ alters (ascii "\"") ∷ alters (ascii "\"")
    ∷ breaks (ascii "</title>")
    ∷ alters (ascii "\"")
    ∷ holds nul_cr_and_moved
    ∷ [])
    -- The text of a textarea.
    ∷ line TextareaText (
    holds nul_and_cr ∷ holds nul_and_cr ∷ holds nul_and_cr ∷ holds nul_and_cr ∷ holds nul_and_cr ∷ holds nul_and_cr ∷ holds nul
    ∷ alters (ascii "'") ∷ alters (ascii "\"") ∷ alters (ascii "\"")
    ∷ alters (ascii "'") ∷ alters (ascii "\"") ∷ alters (ascii "\"")
    ∷ breaks (ascii "</textarea>")
    ∷ alters (ascii "\"")
    ∷ holds nul_cr_and_moved
    ∷ [])
    -- An attribute value in double quotes.
    ∷ line DoubleQuotedValue (
    breaks (ascii "\"") ∷ breaks (ascii "\"") ∷ holds nul_and_cr ∷ breaks (ascii "\"") ∷ holds nul_and_cr ∷ holds nul_and_cr ∷ holds nul
    ∷ breaks (ascii "\"") ∷ breaks (ascii "\"") ∷ breaks (ascii "\"")
    ∷ breaks (ascii "\"") ∷ breaks (ascii "\"") ∷ breaks (ascii "\"")
    ∷ breaks (ascii "\"")
    ∷ breaks (ascii "\"")
    ∷ holds nul_cr_and_moved
    ∷ [])
    -- An attribute value in single quotes.
    ∷ line SingleQuotedValue (
    breaks (ascii "'") ∷ breaks (ascii "'") ∷ breaks (ascii "'") ∷ holds nul_and_cr ∷ holds nul_and_cr ∷ holds nul_and_cr ∷ holds nul
    ∷ breaks (ascii "'") ∷ breaks (ascii "'") ∷ breaks (ascii "'")
    ∷ breaks (ascii "'") ∷ breaks (ascii "'") ∷ breaks (ascii "'")
    ∷ breaks (ascii "'")
    ∷ breaks (ascii "'")
    ∷ holds nul_cr_and_moved
    ∷ [])
    -- An attribute value without quotes.
    ∷ line UnquotedValue (
    breaks (ascii " ") ∷ breaks (ascii " ") ∷ breaks (ascii " ") ∷ breaks (ascii " ") ∷ breaks (ascii " ") ∷ breaks (ascii " ") ∷ holds nul
    ∷ breaks (ascii " ") ∷ breaks (ascii " ") ∷ breaks (ascii " ")
    ∷ breaks (ascii " ") ∷ breaks (ascii " ") ∷ breaks (ascii " ")
    ∷ breaks (ascii " ")
    ∷ breaks (ascii " ")
    ∷ breaks (ascii " ")
    ∷ [])
    -- A script element.
    ∷ line ScriptElement (
    alters (ascii "&") ∷ alters (ascii "&") ∷ alters (ascii "\"") ∷ alters (ascii "&") ∷ alters (ascii "\"") ∷ alters (ascii "\"") ∷ alters (ascii " ")
    ∷ alters (ascii "'") ∷ alters (ascii "\"") ∷ alters (ascii "\"")
    ∷ alters (ascii "'") ∷ alters (ascii "\"") ∷ alters (ascii "\"")
    ∷ alters (ascii "<!--")
    ∷ alters (ascii "\"")
    ∷ alters (ascii "\"")
    ∷ [])
    -- A style element.
    ∷ line StyleElement (
    alters (ascii "&") ∷ alters (ascii "&") ∷ alters (ascii "\"") ∷ alters (ascii "&") ∷ alters (ascii "\"") ∷ alters (ascii "\"") ∷ alters (ascii " ")
    ∷ alters (ascii "'") ∷ alters (ascii "\"") ∷ alters (ascii "\"")
    ∷ alters (ascii "'") ∷ alters (ascii "\"") ∷ alters (ascii "\"")
    ∷ breaks (ascii "</style>")
    ∷ alters (ascii "\"")
    ∷ alters (ascii "\"")
    ∷ [])
    -- An ECMAScript string in single quotes.
    ∷ line ScriptSingle (
    breaks (ascii "'") ∷ breaks (ascii "'") ∷ breaks (ascii "'") ∷ breaks (ascii "\\") ∷ breaks (ascii "\\") ∷ breaks (ascii "\\") ∷ alters (ascii " ")
    ∷ holds [] ∷ breaks (ascii "'") ∷ holds []
    ∷ alters (ascii "<") ∷ breaks (ascii "'") ∷ alters (ascii "<")
    ∷ breaks (ascii "'")
    ∷ breaks (ascii "'")
    ∷ breaks (ascii "\\")
    ∷ [])
    -- An ECMAScript string in double quotes.
    ∷ line ScriptDouble (
    breaks (ascii "\"") ∷ breaks (ascii "\"") ∷ breaks (ascii "\\") ∷ breaks (ascii "\"") ∷ breaks (ascii "\\") ∷ breaks (ascii "\\") ∷ alters (ascii " ")
    ∷ breaks (ascii "\"") ∷ holds [] ∷ holds []
    ∷ breaks (ascii "\"") ∷ alters (ascii "<") ∷ alters (ascii "<")
    ∷ breaks (ascii "\"")
    ∷ holds []
    ∷ breaks (ascii "\\")
    ∷ [])
    -- The same two before ECMAScript 2019.
    ∷ line OldScriptSingle (
    breaks (ascii "'") ∷ breaks (ascii "'") ∷ breaks (ascii "'") ∷ breaks (ascii "\\") ∷ breaks (ascii "\\") ∷ breaks (ascii "\\") ∷ breaks (utf8 0x2028)
    ∷ holds [] ∷ breaks (ascii "'") ∷ holds []
    ∷ breaks (utf8 0x2028) ∷ breaks (ascii "'") ∷ breaks (utf8 0x2028)
    ∷ breaks (ascii "'")
    ∷ breaks (ascii "'")
    ∷ breaks (ascii "\\")
    ∷ [])
    ∷ line OldScriptDouble (
    breaks (ascii "\"") ∷ breaks (ascii "\"") ∷ breaks (ascii "\\") ∷ breaks (ascii "\"") ∷ breaks (ascii "\\") ∷ breaks (ascii "\\") ∷ breaks (utf8 0x2028)
    ∷ breaks (ascii "\"") ∷ holds [] ∷ holds []
    ∷ breaks (ascii "\"") ∷ breaks (utf8 0x2028) ∷ breaks (utf8 0x2028)
    ∷ breaks (ascii "\"")
    ∷ holds []
    ∷ breaks (ascii "\\")
    ∷ [])
    -- An ECMAScript template.
    ∷ line ScriptTemplate (
    breaks (ascii "\\") ∷ breaks (ascii "\\") ∷ breaks (ascii "\\") ∷ breaks (ascii "\\") ∷ breaks (ascii "\\") ∷ breaks (ascii "\\") ∷ alters (ascii " ")
    ∷ breaks (ascii "`") ∷ breaks (ascii "`") ∷ breaks (ascii "`")
    ∷ breaks (ascii "`") ∷ breaks (ascii "`") ∷ breaks (ascii "`")
    ∷ breaks (ascii "\\")
    ∷ breaks (ascii "`")
    ∷ breaks (ascii "\\")
    ∷ [])
    -- A CSS string in single quotes.
    ∷ line StyleSingle (
    breaks (ascii "'") ∷ breaks (ascii "'") ∷ breaks (ascii "'") ∷ breaks (ascii "\\") ∷ breaks (ascii "\\") ∷ breaks (ascii "\\") ∷ alters (ascii " ")
    ∷ alters (ascii "<") ∷ breaks (ascii "'") ∷ alters (ascii "<")
    ∷ holds nul ∷ breaks (ascii "'") ∷ holds nul
    ∷ breaks (ascii "'")
    ∷ breaks (ascii "'")
    ∷ breaks (ascii "\\")
    ∷ [])
    -- A CSS string in double quotes.
    ∷ line StyleDouble (
    breaks (ascii "\"") ∷ breaks (ascii "\"") ∷ breaks (ascii "\\") ∷ breaks (ascii "\"") ∷ breaks (ascii "\\") ∷ breaks (ascii "\\") ∷ alters (ascii " ")
    ∷ breaks (ascii "\"") ∷ alters (ascii "<") ∷ alters (ascii "<")
    ∷ breaks (ascii "\"") ∷ holds nul ∷ holds nul
    ∷ breaks (ascii "\"")
    ∷ alters (ascii "<")
    ∷ breaks (ascii "\\")
    ∷ [])
    -- A JSON string.
    ∷ line JsonText (
    breaks (ascii "\"") ∷ breaks (ascii "\"") ∷ breaks (ascii "\\") ∷ breaks (ascii "\"") ∷ breaks (ascii "\\") ∷ breaks (ascii "\\") ∷ alters (ascii " ")
    ∷ breaks (ascii "\"") ∷ breaks (ascii "<") ∷ breaks (ascii "'")
    ∷ breaks (ascii "\"") ∷ breaks (ascii "<") ∷ breaks (ascii "'")
    ∷ breaks (ascii "\"")
    ∷ holds []
    ∷ breaks (ascii "\\")
    ∷ [])
    ∷ []
