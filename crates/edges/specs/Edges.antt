-- RULES 17. The rules at their edges, so that a slip in the data above is refused; read off the rules by hand. Two entries are the rules' own words:
-- the one-bits of a lead byte (`long_by_ones`), and the listing of `entity` (the first of `requests`).
-- Assumes nothing.
use Rattle.std.specs.Prelude.{Some, None, Ok, Err, Bool, false, not, ◌&&◌, ◌||◌, cond, List, [], ◌∷◌, ◌++◌, map, ℕ, zero, suc, ◌+◌, ◌*◌, ◌%◌, leb, eqb, length as size}
use Prim.Native.String.{String}
use Rattle.rules.specs.Bytes.{ascii, count, bytes, join, only, Range, inside, one_of, same_bytes}
use Rattle.rules.specs.Moves.{Move, keep, swap, leave, stop, takes, gives, reason_number}
use Rattle.rules.specs.Utf8.{valid_to, utf8, substitute}
use Rattle.rules.specs.Contexts.{context_of}
use Rattle.rules.specs.Encoding.{closes}
use Rattle.rules.specs.Refusals.{refusal, check_of}
use Rattle.rules.specs.Answers.{decode_move, browse_move, escape_move, replaced_move}
use Rattle.rules.specs.Program.{printed, entity_of, reasons_of}
use Rattle.rules.specs.Examples.{Example, passes_in, example, stays, leaving, refused_in, refused}
use Rattle.rules.specs.Data.{request}
use Rattle.rules.specs.declared.Html.{Html}
use Rattle.rules.specs.declared.Html.TheVariants.{TextMinimal, Text, DoubleQuoted, SingleQuoted, Quoted, Safe, Unquoted}
use Rattle.rules.specs.declared.Quotes.TheVariants.{Single, Double, Both}
use Rattle.rules.specs.declared.Context.TheVariants.{InHtml, InScript, InStyle, InJson}
use Rattle.rules.specs.declared.AnyContext.{AnyContext}
use Rattle.rules.specs.declared.AnyContext.TheVariants.{Units, ScriptRaw, Unknown}
use Rattle.rules.specs.declared.Operation.{Operation}
use Rattle.rules.specs.declared.Operation.TheVariants.{Encode, Decode, Read, Browse}
use Rattle.rules.specs.declared.DecodedEntityValue.TheVariants.{Named as NamedText, Character}
use Rattle.rules.specs.declared.Reason.TheVariants.{NoEnd, Empty, UnknownName, NoDigit, NotAllowed}
use Rattle.rules.specs.declared.Notation.TheVariants.{Script, Style, Json}
use Rattle.rules.specs.declared.Replacement.TheVariants.{Slashed, Hex, Separator, Substitute}

-- ---- characters

-- Every range of RFC 3629 at both ends, just outside them, and cut short, each with the length of its longest valid prefix.
abbrev pub characters : List (List ℕ × ℕ)
characters =
    (0x00 ∷ [], 1)
    ∷ (0x7F ∷ [], 1)
    ∷ (0x80 ∷ [], 0)
    ∷ (0xC2 ∷ 0x80 ∷ [], 2)
    ∷ (0xDF ∷ 0xBF ∷ [], 2)
    ∷ (0xC1 ∷ 0x80 ∷ [], 0)
    ∷ (0xE0 ∷ 0xBF ∷ [], 0)
    ∷ (0xC2 ∷ 0x7F ∷ [], 0)
    ∷ (0xDF ∷ 0xC0 ∷ [], 0)
    ∷ (ascii "a" ++ 0xC2 ∷ [], 1)
    ∷ (0xDF ∷ [], 0)
    ∷ (0xE0 ∷ 0xA0 ∷ 0x80 ∷ [], 3)
    ∷ (0xE0 ∷ 0xBF ∷ 0xBF ∷ [], 3)
    ∷ (0xDF ∷ 0xA0 ∷ 0x80 ∷ [], 2)
    ∷ (0xE1 ∷ 0xBF ∷ 0xBF ∷ [], 3)
    ∷ (0xE0 ∷ 0x9F ∷ 0x80 ∷ [], 0)
    ∷ (0xE0 ∷ 0xC0 ∷ 0xBF ∷ [], 0)
    ∷ (0xE0 ∷ 0xA0 ∷ 0x7F ∷ [], 0)
    ∷ (0xE0 ∷ 0xBF ∷ 0xC0 ∷ [], 0)
    ∷ (ascii "a" ++ 0xE0 ∷ 0xA0 ∷ [], 1)
    ∷ (0xE1 ∷ 0x80 ∷ 0x80 ∷ [], 3)
    ∷ (0xEC ∷ 0xBF ∷ 0xBF ∷ [], 3)
    ∷ (0xE0 ∷ 0x80 ∷ 0x80 ∷ [], 0)
    ∷ (0xED ∷ 0xBF ∷ 0xBF ∷ [], 0)
    ∷ (0xE1 ∷ 0x7F ∷ 0x80 ∷ [], 0)
    ∷ (0xEC ∷ 0xC0 ∷ 0xBF ∷ [], 0)
    ∷ (0xE1 ∷ 0x80 ∷ 0x7F ∷ [], 0)
    ∷ (0xEC ∷ 0xBF ∷ 0xC0 ∷ [], 0)
    ∷ (ascii "a" ++ 0xE1 ∷ 0x80 ∷ [], 1)
    ∷ (0xEC ∷ 0xBF ∷ [], 0)
    ∷ (0xED ∷ 0x80 ∷ 0x80 ∷ [], 3)
    ∷ (0xED ∷ 0x9F ∷ 0xBF ∷ [], 3)
    ∷ (0xEC ∷ 0x80 ∷ 0x80 ∷ [], 3)
    ∷ (0xEE ∷ 0x9F ∷ 0xBF ∷ [], 3)
    ∷ (0xED ∷ 0x7F ∷ 0x80 ∷ [], 0)
    ∷ (0xED ∷ 0xA0 ∷ 0xBF ∷ [], 0)
    ∷ (0xED ∷ 0x80 ∷ 0x7F ∷ [], 0)
    ∷ (0xED ∷ 0x9F ∷ 0xC0 ∷ [], 0)
    ∷ (ascii "a" ++ 0xED ∷ 0x80 ∷ [], 1)
    ∷ (0xED ∷ 0x9F ∷ [], 0)
    ∷ (0xEE ∷ 0x80 ∷ 0x80 ∷ [], 3)
    ∷ (0xEF ∷ 0xBF ∷ 0xBF ∷ [], 3)
    ∷ (0xF0 ∷ 0xBF ∷ 0xBF ∷ [], 0)
    ∷ (0xEE ∷ 0x7F ∷ 0x80 ∷ [], 0)
    ∷ (0xEF ∷ 0xC0 ∷ 0xBF ∷ [], 0)
    ∷ (0xEE ∷ 0x80 ∷ 0x7F ∷ [], 0)
    ∷ (0xEF ∷ 0xBF ∷ 0xC0 ∷ [], 0)
    ∷ (ascii "a" ++ 0xEE ∷ 0x80 ∷ [], 1)
    ∷ (0xEF ∷ 0xBF ∷ [], 0)
    ∷ (0xF0 ∷ 0x90 ∷ 0x80 ∷ 0x80 ∷ [], 4)
    ∷ (0xF0 ∷ 0xBF ∷ 0xBF ∷ 0xBF ∷ [], 4)
    ∷ (0xEF ∷ 0x90 ∷ 0x80 ∷ 0x80 ∷ [], 3)
    ∷ (0xF1 ∷ 0xBF ∷ 0xBF ∷ 0xBF ∷ [], 4)
    ∷ (0xF0 ∷ 0x8F ∷ 0x80 ∷ 0x80 ∷ [], 0)
    ∷ (0xF0 ∷ 0xC0 ∷ 0xBF ∷ 0xBF ∷ [], 0)
    ∷ (0xF0 ∷ 0x90 ∷ 0x7F ∷ 0x80 ∷ [], 0)
    ∷ (0xF0 ∷ 0xBF ∷ 0xC0 ∷ 0xBF ∷ [], 0)
    ∷ (0xF0 ∷ 0x90 ∷ 0x80 ∷ 0x7F ∷ [], 0)
    ∷ (0xF0 ∷ 0xBF ∷ 0xBF ∷ 0xC0 ∷ [], 0)
    ∷ (ascii "a" ++ 0xF0 ∷ 0x90 ∷ 0x80 ∷ [], 1)
    ∷ (0xF1 ∷ 0x80 ∷ 0x80 ∷ 0x80 ∷ [], 4)
    ∷ (0xF3 ∷ 0xBF ∷ 0xBF ∷ 0xBF ∷ [], 4)
    ∷ (0xF0 ∷ 0x80 ∷ 0x80 ∷ 0x80 ∷ [], 0)
    ∷ (0xF4 ∷ 0xBF ∷ 0xBF ∷ 0xBF ∷ [], 0)
    ∷ (0xF1 ∷ 0x7F ∷ 0x80 ∷ 0x80 ∷ [], 0)
    ∷ (0xF3 ∷ 0xC0 ∷ 0xBF ∷ 0xBF ∷ [], 0)
    ∷ (0xF1 ∷ 0x80 ∷ 0x7F ∷ 0x80 ∷ [], 0)
    ∷ (0xF3 ∷ 0xBF ∷ 0xC0 ∷ 0xBF ∷ [], 0)
    ∷ (0xF1 ∷ 0x80 ∷ 0x80 ∷ 0x7F ∷ [], 0)
    ∷ (0xF3 ∷ 0xBF ∷ 0xBF ∷ 0xC0 ∷ [], 0)
    ∷ (ascii "a" ++ 0xF1 ∷ 0x80 ∷ 0x80 ∷ [], 1)
    ∷ (0xF3 ∷ 0xBF ∷ 0xBF ∷ [], 0)
    ∷ (0xF4 ∷ 0x80 ∷ 0x80 ∷ 0x80 ∷ [], 4)
    ∷ (0xF4 ∷ 0x8F ∷ 0xBF ∷ 0xBF ∷ [], 4)
    ∷ (0xF3 ∷ 0x80 ∷ 0x80 ∷ 0x80 ∷ [], 4)
    ∷ (0xF5 ∷ 0x8F ∷ 0xBF ∷ 0xBF ∷ [], 0)
    ∷ (0xF4 ∷ 0x7F ∷ 0x80 ∷ 0x80 ∷ [], 0)
    ∷ (0xF4 ∷ 0x90 ∷ 0xBF ∷ 0xBF ∷ [], 0)
    ∷ (0xF4 ∷ 0x80 ∷ 0x7F ∷ 0x80 ∷ [], 0)
    ∷ (0xF4 ∷ 0x8F ∷ 0xC0 ∷ 0xBF ∷ [], 0)
    ∷ (0xF4 ∷ 0x80 ∷ 0x80 ∷ 0x7F ∷ [], 0)
    ∷ (0xF4 ∷ 0x8F ∷ 0xBF ∷ 0xC0 ∷ [], 0)
    ∷ (ascii "a" ++ 0xF4 ∷ 0x80 ∷ 0x80 ∷ [], 1)
    ∷ (0xF4 ∷ 0x8F ∷ 0xBF ∷ [], 0)
    ∷ (ascii "a" ++ 0xFF ∷ [], 1)
    ∷ (0xFE ∷ [], 0)
    ∷ (0xF5 ∷ 0x80 ∷ 0x80 ∷ 0x80 ∷ [], 0)
    ∷ (ascii "ab" ++ 0xC3 ∷ 0xA9 ∷ 0xE2 ∷ 0x82 ∷ 0xAC ∷ 0xF0 ∷ 0x9F ∷ 0x98 ∷ 0x80 ∷ [], 11)
    ∷ []

-- The length is right.
abbrev pub valid_up_to : List ℕ × ℕ → Bool
valid_up_to e = eqb (valid_to e.0) e.1

-- How many one-bits a byte starts with, of its k highest.
abbrev pub ones_of : ℕ → ℕ → ℕ
ones_of zero b = 0
ones_of (suc k) b = cond (leb 128 b) (suc (ones_of k (b * 2 % 256))) 0

-- A sequence whose first range has the byte is as long as it starts with one-bits; one byte where it starts with none.
abbrev pub long_by_ones : ℕ → List Range → Bool
long_by_ones b [] = false
long_by_ones b (q ∷ qs) = not (inside q b) || eqb (size (q ∷ qs)) (cond (eqb (ones_of 8 b) 0) 1 (ones_of 8 b))

-- ---- closing tags

-- The bytes that end the name of a closing tag.
abbrev pub closers : List ℕ
closers = 9 ∷ 10 ∷ 11 ∷ 12 ∷ 13 ∷ 28 ∷ 29 ∷ 30 ∷ 31 ∷ 32 ∷ 47 ∷ 62 ∷ []

-- Of all bytes these and no others end a name.
abbrev pub closes_at : ℕ → Bool
closes_at b = same_bytes (only (λ (x : ℕ). closes (ascii "/script") (ascii "/SCRIPT" ++ x ∷ [])) (b ∷ [])) (only (one_of closers) (b ∷ []))

-- The bytes between such tags.
abbrev pub ended : List ℕ → List ℕ
ended tag = join (map (λ (b : ℕ). tag ++ b ∷ []) closers)

-- Each of them in script_raw, and in the older pages that the string decoders take.
abbrev pub closings : List Example
closings =
    example Encode ScriptRaw (ended (ascii "</script")) (ended (ascii "<\\/script")) 12
    ∷ example Decode (Units (InScript Single)) (ended (ascii "<\\/script")) (ended (ascii "</script")) 12
    ∷ example Decode (Units (InStyle Single)) (ended (ascii "<\\/style")) (ended (ascii "</style")) 12
    ∷ []

-- Comments, letter case, runs of `<`, the end of the text.
abbrev pub tags : List Example
tags =
    example Encode ScriptRaw (ascii "<!--</ScRiPt>") (ascii "<\\!--<\\/ScRiPt>") 2
    ∷ stays Encode ScriptRaw (ascii "<!-<!</scrip>")
    ∷ example Encode ScriptRaw (ascii "</script") (ascii "<\\/script") 1
    ∷ example Encode ScriptRaw (ascii "</SCRIPT") (ascii "<\\/SCRIPT") 1
    ∷ example Encode ScriptRaw (ascii "<<!--") (ascii "<<\\!--") 1
    ∷ example Encode ScriptRaw (ascii "<!<!--") (ascii "<!<\\!--") 1
    ∷ example Encode ScriptRaw (ascii "</script/></scripT") (ascii "<\\/script/><\\/scripT") 2
    ∷ stays Encode ScriptRaw (ascii "</sc" ++ 0xC5 ∷ 0xBF ∷ [] ++ ascii "ript>")
    ∷ []

-- ---- escapes

-- The escapes of strings, each just inside and just outside its rule.
abbrev pub escapes : List Example
escapes =
    example Decode (Units (InScript Single)) (ascii "\\\\\\'\\\"") (ascii "\\'\\\"") 2
    ∷ example Decode (Units (InScript Double)) (ascii "\\\\\\'\\\"") (ascii "\\\\'\"") 2
    ∷ example Decode (Units (InScript Both)) (ascii "\\\\\\'\\\"") (ascii "\\'\"") 3
    ∷ example Decode (Units (InStyle Single)) (ascii "\\\\\\'\\\"") (ascii "\\'\\\"") 2
    ∷ example Decode (Units (InStyle Double)) (ascii "\\\\\\'\\\"") (ascii "\\\\'\"") 2
    ∷ example Decode (Units (InStyle Both)) (ascii "\\\\\\'\\\"") (ascii "\\'\"") 3
    ∷ example Decode (Units (InScript Both)) (ascii "\\x00\\x1F\\x3C") (0x00 ∷ 0x1F ∷ [] ++ ascii "<") 3
    ∷ stays Decode (Units (InScript Both)) (ascii "\\x20")
    ∷ stays Decode (Units (InScript Both)) (ascii "\\x3B")
    ∷ stays Decode (Units (InScript Both)) (ascii "\\x3D")
    ∷ stays Decode (Units (InScript Both)) (ascii "\\x1f")
    ∷ stays Decode (Units (InScript Both)) (ascii "\\x0")
    ∷ stays Decode (Units (InScript Both)) (ascii "\\X0A")
    ∷ example Decode (Units (InStyle Both)) (ascii "\\01 \\1F \\3C ") (0x01 ∷ 0x1F ∷ [] ++ ascii "<") 3
    ∷ stays Decode (Units (InStyle Both)) (ascii "\\20 ")
    ∷ stays Decode (Units (InStyle Both)) (ascii "\\3B ")
    ∷ stays Decode (Units (InStyle Both)) (ascii "\\3D ")
    ∷ stays Decode (Units (InStyle Both)) (ascii "\\1f ")
    ∷ stays Decode (Units (InStyle Both)) (ascii "\\0A")
    ∷ stays Decode (Units (InStyle Both)) (ascii "\\0A" ++ 0x09 ∷ [])
    ∷ example Decode (Units (InScript Both)) (ascii "\\u2028\\u2029") (0xE2 ∷ 0x80 ∷ 0xA8 ∷ 0xE2 ∷ 0x80 ∷ 0xA9 ∷ []) 2
    ∷ stays Decode (Units (InScript Both)) (ascii "\\u202A")
    ∷ stays Decode (Units (InScript Both)) (ascii "\\u2027")
    ∷ stays Decode (Units (InStyle Both)) (ascii "\\u2028")
    ∷ example Decode (Units (InScript Both)) (ascii "<\\!--") (ascii "<!--") 1
    ∷ example Decode (Units (InStyle Both)) (ascii "<\\!--") (ascii "<!--") 1
    ∷ stays Decode (Units (InScript Both)) (ascii "\\!--")
    ∷ stays Decode (Units (InScript Both)) (ascii "<\\!-")
    ∷ stays Decode (Units (InScript Both)) (ascii ">\\!--")
    ∷ example Decode (Units (InScript Both)) (ascii "\\x3C\\!--") (ascii "<\\!--") 1
    ∷ example Decode (Units (InScript Both)) (ascii "\\\\\\!--") (ascii "\\\\!--") 1
    ∷ example Decode (Units (InScript Both)) (ascii "<\\/ScRiPt>") (ascii "</ScRiPt>") 1
    ∷ stays Decode (Units (InScript Both)) (ascii "\\/script>")
    ∷ stays Decode (Units (InScript Both)) (ascii "<\\/style>")
    ∷ stays Decode (Units (InScript Both)) (ascii "<\\/script")
    ∷ stays Decode (Units (InScript Both)) (ascii "<\\/scripts")
    ∷ example Decode (Units (InScript Both)) (ascii "\\x3C\\/script>") (ascii "<\\/script>") 1
    ∷ example Decode (Units (InScript Both)) (ascii "<\\\\/script>") (ascii "<\\/script>") 1
    ∷ example Decode (Units (InStyle Both)) (ascii "<\\/sTyLe>") (ascii "</sTyLe>") 1
    ∷ stays Decode (Units (InStyle Both)) (ascii "<\\/script>")
    ∷ stays Decode (Units (InStyle Both)) (ascii "<\\/style")
    ∷ stays Decode (Units (InScript Both)) (ascii "\\")
    ∷ stays Decode (Units (InStyle Both)) (ascii "\\")
    ∷ stays Decode (Units (InScript Both)) (ascii "\\a")
    ∷ []

-- ---- JSON strings

-- decode of json that gives a character by its number, in so many replaced places.
abbrev pub spells : String → ℕ → Example
spells v n = example Decode (Units InJson) (ascii v) (utf8 n) 1

-- Every escape in both letter cases, the halves of pairs and their neighbours, what may stand by itself, and each refusal with its place; then what
-- read takes of it, which is what encode writes alone.
abbrev pub json_strings : List Example
json_strings =
    example Decode (Units InJson) (ascii "\\\"\\\\\\/\\b\\f\\n\\r\\t") (ascii "\"\\/" ++ 0x08 ∷ 0x0C ∷ 0x0A ∷ 0x0D ∷ 0x09 ∷ []) 8
    ∷ example Decode (Units InJson) (ascii "\\u0000\\u001f\\u001F\\u003c\\u003C\\u00e9\\u00E9") (0x00 ∷ 0x1F ∷ 0x1F ∷ ascii "<<" ++ utf8 0xE9 ++ utf8 0xE9) 7
    ∷ spells "\\u0123" 0x0123
    ∷ spells "\\u4567" 0x4567
    ∷ spells "\\u89AB" 0x89AB
    ∷ spells "\\ucdef" 0xCDEF
    ∷ spells "\\uCDEF" 0xCDEF
    ∷ spells "\\u89ab" 0x89AB
    ∷ spells "\\uD7FF" 0xD7FF
    ∷ spells "\\ud7ff" 0xD7FF
    ∷ spells "\\uE000" 0xE000
    ∷ spells "\\ue000" 0xE000
    ∷ spells "\\uFFFF" 0xFFFF
    ∷ spells "\\uffff" 0xFFFF
    ∷ spells "\\uD800\\uDC00" 0x10000
    ∷ spells "\\uD800\\uDFFF" 0x103FF
    ∷ spells "\\uDBFF\\uDC00" 0x10FC00
    ∷ spells "\\uDBFF\\uDFFF" 0x10FFFF
    ∷ spells "\\udbff\\udfff" 0x10FFFF
    ∷ spells "\\ud83D\\uDe00" 0x1F600
    ∷ stays Decode (Units InJson) (ascii " !#'/<[]~" ++ 0x7F ∷ utf8 0x80 ++ utf8 0x2028 ++ utf8 0x2029 ++ utf8 0x10FFFF)
    ∷ refused Decode (Units InJson) (ascii "ab\"") 4 2
    ∷ refused Decode (Units InJson) (ascii "a" ++ 0x00 ∷ []) 4 1
    ∷ refused Decode (Units InJson) (utf8 0x1F600 ++ 0x1F ∷ []) 4 4
    ∷ refused Decode (Units InJson) (ascii "a\\") 4 1
    ∷ refused Decode (Units InJson) (ascii "\\u") 4 0
    ∷ refused Decode (Units InJson) (ascii "\\u12") 4 0
    ∷ refused Decode (Units InJson) (ascii "\\u123") 4 0
    ∷ refused Decode (Units InJson) (ascii "\\u123g") 4 0
    ∷ refused Decode (Units InJson) (ascii "\\u12\"4") 4 0
    ∷ refused Decode (Units InJson) (ascii "\\U0041") 4 0
    ∷ refused Decode (Units InJson) (ascii "\\x41") 4 0
    ∷ refused Decode (Units InJson) (ascii "\\'") 4 0
    ∷ refused Decode (Units InJson) (ascii "\\0") 4 0
    ∷ refused Decode (Units InJson) (ascii "\\N") 4 0
    ∷ refused Decode (Units InJson) (ascii "\\n\\a") 4 2
    ∷ refused Decode (Units InJson) (ascii "\"\\uD83D") 4 0
    ∷ refused Decode (Units InJson) (ascii "\\uDC00") 10 0
    ∷ refused Decode (Units InJson) (ascii "a\\uDFFF") 10 1
    ∷ refused Decode (Units InJson) (ascii "\\udc00\\ud800") 10 0
    ∷ refused Decode (Units InJson) (ascii "\\uD800") 10 0
    ∷ refused Decode (Units InJson) (ascii "\\n\\uDBFF") 10 2
    ∷ refused Decode (Units InJson) (ascii "\\uD800\\uDBFF") 10 0
    ∷ refused Decode (Units InJson) (ascii "\\uD800\\uE000") 10 0
    ∷ refused Decode (Units InJson) (ascii "\\uD83D\\uZZZZ") 10 0
    ∷ refused Decode (Units InJson) (ascii "\\uD83D\"") 10 0
    ∷ refused Decode (Units InJson) (ascii "\\uD83D\\n") 10 0
    ∷ refused Decode (Units InJson) (ascii "\\uD83D\\u12") 10 0
    ∷ refused Decode (Units InJson) (ascii "\\uD83Da\\uDE00") 10 0
    ∷ refused Decode (Units InJson) (ascii "\\uD83D\\uDE00\\uDE00\"") 10 12
    ∷ refused_in 0 Decode (Units InJson) (ascii "abc\\uD800") 10 0 3
    ∷ refused_in 0 Decode (Units InJson) (ascii "abc\"") 4 0 3
    ∷ refused Decode (Units InJson) (ascii "\"" ++ 0xC3 ∷ []) 7 1
    ∷ refused Decode (Units InJson) (ascii "\\uD800" ++ 0x80 ∷ []) 2 6
    ∷ example Read (Units InJson) (ascii "\\\"\\\\\\u0000\\u001F\\u003C\\u2028\\u2029/'") (ascii "\"\\" ++ 0x00 ∷ 0x1F ∷ ascii "<" ++ utf8 0x2028 ++ utf8 0x2029 ++ ascii "/'") 7
    ∷ refused Read (Units InJson) (ascii "a\\n") 4 1
    ∷ refused Read (Units InJson) (ascii "\\/") 4 0
    ∷ refused Read (Units InJson) (ascii "\\u001f") 4 0
    ∷ refused Read (Units InJson) (ascii "\\u003c") 4 0
    ∷ refused Read (Units InJson) (ascii "\\u0020") 4 0
    ∷ refused Read (Units InJson) (ascii "\\u0041") 4 0
    ∷ refused Read (Units InJson) (ascii "\\u202A") 4 0
    ∷ refused Read (Units InJson) (ascii "\\x3C") 4 0
    ∷ refused Read (Units InJson) (ascii "\\uD83D\\uDE00") 4 0
    ∷ refused Read (Units InJson) (ascii "a\\uD800") 4 1
    ∷ refused Read (Units InJson) (ascii "a<") 4 1
    ∷ refused Read (Units InJson) (utf8 0x2028) 4 0
    ∷ refused Read (Units InJson) (ascii "\"") 4 0
    ∷ refused Read (Units InJson) (0x1F ∷ []) 4 0
    ∷ []

-- ---- references

-- Numbers at every limit, digits of either base, names, and what is no reference, in decode.
abbrev pub references : List Example
references =
    example Decode (Units (InHtml Text)) (ascii "&#X41;&#x41;&#65;") (ascii "AAA") 3
    ∷ example Decode (Units (InHtml Text)) (ascii "&#000000000000000000000000000000000000000065;") (ascii "A") 1
    ∷ example Decode (Units (InHtml Text)) (ascii "&#x0000000000000000000000000000000000000000aF;") (0xC2 ∷ 0xAF ∷ []) 1
    ∷ leaving 0 2 (stays Decode (Units (InHtml Text)) (ascii "&#;"))
    ∷ leaving 0 2 (stays Decode (Units (InHtml Text)) (ascii "&#x;"))
    ∷ leaving 0 2 (stays Decode (Units (InHtml Text)) (ascii "&#X;"))
    ∷ leaving 0 4 (stays Decode (Units (InHtml Text)) (ascii "&#-65;"))
    ∷ leaving 0 4 (stays Decode (Units (InHtml Text)) (ascii "&#x+41;"))
    ∷ leaving 0 4 (stays Decode (Units (InHtml Text)) (ascii "&# 65;"))
    ∷ leaving 0 5 (stays Decode (Units (InHtml Text)) (ascii "&#8;"))
    ∷ example Decode (Units (InHtml Text)) (ascii "&#10;") (0x0A ∷ []) 1
    ∷ example Decode (Units (InHtml Text)) (ascii "&#12;") (0x0C ∷ []) 1
    ∷ example Decode (Units (InHtml Text)) (ascii "&#13;") (0x0D ∷ []) 1
    ∷ leaving 0 5 (stays Decode (Units (InHtml Text)) (ascii "&#14;"))
    ∷ leaving 0 5 (stays Decode (Units (InHtml Text)) (ascii "&#31;"))
    ∷ example Decode (Units (InHtml Text)) (ascii "&#32;") (ascii " ") 1
    ∷ example Decode (Units (InHtml Text)) (ascii "&#127;") (0x7F ∷ []) 1
    ∷ example Decode (Units (InHtml Text)) (ascii "&#128;") (0xC2 ∷ 0x80 ∷ []) 1
    ∷ example Decode (Units (InHtml Text)) (ascii "&#x7FF;") (0xDF ∷ 0xBF ∷ []) 1
    ∷ example Decode (Units (InHtml Text)) (ascii "&#x800;") (0xE0 ∷ 0xA0 ∷ 0x80 ∷ []) 1
    ∷ example Decode (Units (InHtml Text)) (ascii "&#xFFFF;") (0xEF ∷ 0xBF ∷ 0xBF ∷ []) 1
    ∷ example Decode (Units (InHtml Text)) (ascii "&#x10000;") (0xF0 ∷ 0x90 ∷ 0x80 ∷ 0x80 ∷ []) 1
    ∷ example Decode (Units (InHtml Text)) (ascii "&#xD7FF;") (0xED ∷ 0x9F ∷ 0xBF ∷ []) 1
    ∷ leaving 0 5 (stays Decode (Units (InHtml Text)) (ascii "&#xDFFF;"))
    ∷ example Decode (Units (InHtml Text)) (ascii "&#xE000;") (0xEE ∷ 0x80 ∷ 0x80 ∷ []) 1
    ∷ example Decode (Units (InHtml Text)) (ascii "&#x10FFFF;") (0xF4 ∷ 0x8F ∷ 0xBF ∷ 0xBF ∷ []) 1
    ∷ leaving 0 5 (stays Decode (Units (InHtml Text)) (ascii "&#x110000;"))
    ∷ leaving 0 5 (stays Decode (Units (InHtml Text)) (ascii "&#4294967361;"))
    ∷ leaving 0 5 (stays Decode (Units (InHtml Text)) (ascii "&#x100000041;"))
    ∷ leaving 0 5 (stays Decode (Units (InHtml Text)) (ascii "&#18446744073709551681;"))
    ∷ leaving 0 4 (stays Decode (Units (InHtml Text)) (ascii "&#6/;"))
    ∷ leaving 0 4 (stays Decode (Units (InHtml Text)) (ascii "&#6:;"))
    ∷ leaving 0 4 (stays Decode (Units (InHtml Text)) (ascii "&#x4@;"))
    ∷ leaving 0 4 (stays Decode (Units (InHtml Text)) (ascii "&#x4G;"))
    ∷ leaving 0 4 (stays Decode (Units (InHtml Text)) (ascii "&#x4`;"))
    ∷ leaving 0 4 (stays Decode (Units (InHtml Text)) (ascii "&#x4g;"))
    ∷ leaving 0 4 (stays Decode (Units (InHtml Text)) (ascii "&#x4/;"))
    ∷ leaving 0 4 (stays Decode (Units (InHtml Text)) (ascii "&#x4:;"))
    ∷ example Decode (Units (InHtml Text)) (ascii "&#x09;") (0x09 ∷ []) 1
    ∷ example Decode (Units (InHtml Text)) (ascii "&#xA;&#xa;&#xF9;&#xf9;") (0x0A ∷ 0x0A ∷ 0xC3 ∷ 0xB9 ∷ 0xC3 ∷ 0xB9 ∷ []) 4
    ∷ leaving 0 4 (stays Decode (Units (InHtml Text)) (ascii "&#6x5;"))
    ∷ leaving 0 1 (example Decode (Units (InHtml Text)) (ascii "&#65&#66;") (ascii "&#65B") 1)
    ∷ leaving 0 1 (stays Decode (Units (InHtml Text)) (ascii "&#65"))
    ∷ leaving 0 1 (stays Decode (Units (InHtml Text)) (ascii "&#x41"))
    ∷ leaving 0 2 (stays Decode (Units (InHtml Text)) (ascii "&;"))
    ∷ leaving 0 1 (stays Decode (Units (InHtml Text)) (ascii "&amp"))
    ∷ leaving 5 3 (example Decode (Units (InHtml Text)) (ascii "&AMP;&Amp;") (ascii "&&Amp;") 1)
    ∷ leaving 0 3 (stays Decode (Units (InHtml Text)) (ascii "& amp;"))
    ∷ leaving 0 1 (example Decode (Units (InHtml Text)) (ascii "&amp&lt;") (ascii "&amp<") 1)
    ∷ example Decode (Units (InHtml Text)) (ascii "&amp;amp;") (ascii "&amp;") 1
    ∷ leaving 1 3 (example Decode (Units (InHtml Text)) (ascii "a&b;c&lt;d") (ascii "a&b;c<d") 1)
    ∷ leaving 0 1 (example Decode (Units (InHtml Text)) (ascii "&&&gt;;") (ascii "&&>;") 1)
    ∷ example Decode (Units (InHtml Text)) (ascii "&AElig;&zwnj;") (0xC3 ∷ 0x86 ∷ 0xE2 ∷ 0x80 ∷ 0x8C ∷ []) 2
    ∷ example Decode (Units (InHtml Text)) (ascii "&nLt;&nGt;") (0xE2 ∷ 0x89 ∷ 0xAA ∷ 0xE2 ∷ 0x83 ∷ 0x92 ∷ 0xE2 ∷ 0x89 ∷ 0xAB ∷ 0xE2 ∷ 0x83 ∷ 0x92 ∷ []) 2
    ∷ example Decode (Units (InHtml Text)) (ascii "&NewLine;&Tab;") (0x0A ∷ 0x09 ∷ []) 2
    ∷ example Decode (Units (InHtml TextMinimal)) (ascii "&quot;") (ascii "\"") 1
    ∷ example Decode (Units (InHtml Safe)) (ascii "&#x2F;") (ascii "/") 1
    ∷ leaving 0 5 (stays Decode (Units (InHtml Unquoted)) (ascii "&#x0B;"))
    ∷ []

-- The same in browse, where it differs and where not.
abbrev pub browsed : List Example
browsed =
    example Browse (Units (InHtml Text)) (ascii "&#0;&#x0;") (0xEF ∷ 0xBF ∷ 0xBD ∷ 0xEF ∷ 0xBF ∷ 0xBD ∷ []) 2
    ∷ example Browse (Units (InHtml Text)) (ascii "&#1;&#8;&#11;&#14;&#31;") (0x01 ∷ 0x08 ∷ 0x0B ∷ 0x0E ∷ 0x1F ∷ []) 5
    ∷ example Browse (Units (InHtml Text)) (ascii "&#127;&#128;&#159;&#160;") (0x7F ∷ 0xE2 ∷ 0x82 ∷ 0xAC ∷ 0xC5 ∷ 0xB8 ∷ 0xC2 ∷ 0xA0 ∷ []) 4
    ∷ example Browse (Units (InHtml Text)) (ascii "&#xD7FF;&#xD800;&#xDFFF;&#xE000;") (0xED ∷ 0x9F ∷ 0xBF ∷ substitute ++ substitute ++ 0xEE ∷ 0x80 ∷ 0x80 ∷ []) 4
    ∷ example Browse (Units (InHtml Text)) (ascii "&#x10FFFF;&#x110000;") (0xF4 ∷ 0x8F ∷ 0xBF ∷ 0xBF ∷ 0xEF ∷ 0xBF ∷ 0xBD ∷ []) 2
    ∷ example Browse (Units (InHtml Text)) (ascii "&#4294967296;&#4294967361;&#18446744073709551681;") (substitute ++ substitute ++ substitute) 3
    ∷ stays Browse (Units (InHtml Text)) (ascii "&#;&#x;&#+65;&bogus;&am")
    ∷ example Browse (Units (InHtml Text)) (ascii "&;&lt;&#0&") (ascii "&;<" ++ substitute ++ ascii "&") 2
    ∷ example Browse (Units (InHtml Text)) (ascii "&lt;&amp;lt;") (ascii "<&lt;") 2
    ∷ map (λ (h : Html). example Browse (Units (InHtml h)) (ascii "&lt=1") (ascii "<=1") 1) (TextMinimal ∷ Text ∷ Safe ∷ [])
    ++ map (λ (h : Html). stays Browse (Units (InHtml h)) (ascii "&lt=1")) (DoubleQuoted ∷ SingleQuoted ∷ Quoted ∷ Unquoted ∷ [])

-- A text that begins with a reference that decode leaves for a reason.
abbrev pub leaves_in : ℕ → List ℕ → Example
leaves_in r t = leaving 0 r (stays Decode (Units (InHtml Text)) t)

-- References that stay: each reason, and which of two goes first.
abbrev pub leavings : List Example
leavings =
    map (leaves_in 1) (ascii "&" ∷ ascii "&amp" ∷ ascii "&#" ∷ ascii "&#65" ∷ ascii "& b" ∷ ascii "&&;" ∷ ascii "&#x41&#0" ∷ [])
    ++ map (leaves_in 2) (ascii "&;" ∷ ascii "&#;" ∷ ascii "&#x;" ∷ ascii "&#X;" ∷ ascii "&;&bogus;&" ∷ [])
    ++ map (leaves_in 3) (ascii "& ;" ∷ ascii "&Amp;" ∷ ascii "&amp ;" ∷ ascii "&x41;" ∷ (0x26 ∷ 0xC3 ∷ 0xA9 ∷ 0x3B ∷ []) ∷ ascii "&nbps;&;" ∷ [])
    ++ map (leaves_in 4)
    (ascii "&#g;" ∷ ascii "&# ;" ∷ ascii "&#+65;" ∷ ascii "&#-0;" ∷ ascii "&##;" ∷ ascii "&#a;" ∷ ascii "&#xg;" ∷ ascii "&#xx1;" ∷ ascii "&#Xx;" ∷ ascii "&#6x5;"
    ∷ ascii "&#0x;" ∷ ascii "&#99999999999x;" ∷ ascii "&#xD800g;" ∷ ascii "&#0 ;" ∷ [])
    ++ map (leaves_in 5)
    (ascii "&#0;" ∷ ascii "&#00;" ∷ ascii "&#31;" ∷ ascii "&#xB;" ∷ ascii "&#xD800;" ∷ ascii "&#XDFFF;" ∷ ascii "&#x110000;" ∷ ascii "&#4294967296;" ∷ ascii "&#99999999999;" ∷ [])
    ++ leaving 2 1 (stays Decode (Units (InHtml Text)) (ascii "a & b"))
    ∷ leaving 1 1 (example Decode (Units (InHtml Text)) (ascii "a&&lt;&;") (ascii "a&<&;") 1)
    ∷ example Browse (Units (InHtml Text)) (ascii "&lt;&;&#0;&") (ascii "<&;" ++ substitute ++ ascii "&") 2
    ∷ example Browse (Units (InHtml Text)) (ascii "&#0;&#1;&b;") (substitute ++ 0x01 ∷ ascii "&b;") 2
    ∷ leaving 5 5 (example Decode (Units (InHtml Text)) (ascii "&amp;&#0;&amp;&;") (ascii "&&#0;&&;") 2)
    ∷ refused_in 1 Decode (Units (InHtml Text)) (ascii "&&lt;") 3 2 0
    ∷ refused Decode (Units (InHtml Text)) (ascii "&;" ++ 0x80 ∷ []) 2 2
    ∷ stays Decode (Units (InScript Both)) (ascii "&;")
    ∷ stays Read (Units (InScript Both)) (ascii "&;")
    ∷ stays Encode (Units (InStyle Both)) (ascii "&;")
    ∷ stays Encode ScriptRaw (ascii "&;")
    ∷ []

-- One reference after the other to the same number: decimal, hex, and both with leading zeros.
abbrev pub spelled : String → String → List ℕ
spelled decimal hex = ascii "&#" ++ ascii decimal ++ ascii ";&#x" ++ ascii hex ++ ascii ";&#0000000000" ++ ascii decimal ++ ascii ";&#X00" ++ ascii hex ++ ascii ";"

-- What decode and browse give for each of them.
abbrev pub high_number : String → String → List ℕ → List ℕ → List Example
high_number decimal hex d b =
    example Decode (Units (InHtml Text)) (spelled decimal hex) (d ++ d ++ d ++ d) 4
    ∷ example Browse (Units (InHtml Text)) (spelled decimal hex) (b ++ b ++ b ++ b) 4
    ∷ []

-- The numbers from 80 to 9F: decode takes each for its own character, browse only five of them.
abbrev pub high_numbers : List Example
high_numbers =
    join (
    high_number "128" "80" (0xC2 ∷ 0x80 ∷ []) (0xE2 ∷ 0x82 ∷ 0xAC ∷ [])
    ∷ high_number "129" "81" (0xC2 ∷ 0x81 ∷ []) (0xC2 ∷ 0x81 ∷ [])
    ∷ high_number "130" "82" (0xC2 ∷ 0x82 ∷ []) (0xE2 ∷ 0x80 ∷ 0x9A ∷ [])
    ∷ high_number "131" "83" (0xC2 ∷ 0x83 ∷ []) (0xC6 ∷ 0x92 ∷ [])
    ∷ high_number "132" "84" (0xC2 ∷ 0x84 ∷ []) (0xE2 ∷ 0x80 ∷ 0x9E ∷ [])
    ∷ high_number "133" "85" (0xC2 ∷ 0x85 ∷ []) (0xE2 ∷ 0x80 ∷ 0xA6 ∷ [])
    ∷ high_number "134" "86" (0xC2 ∷ 0x86 ∷ []) (0xE2 ∷ 0x80 ∷ 0xA0 ∷ [])
    ∷ high_number "135" "87" (0xC2 ∷ 0x87 ∷ []) (0xE2 ∷ 0x80 ∷ 0xA1 ∷ [])
    ∷ high_number "136" "88" (0xC2 ∷ 0x88 ∷ []) (0xCB ∷ 0x86 ∷ [])
    ∷ high_number "137" "89" (0xC2 ∷ 0x89 ∷ []) (0xE2 ∷ 0x80 ∷ 0xB0 ∷ [])
    ∷ high_number "138" "8A" (0xC2 ∷ 0x8A ∷ []) (0xC5 ∷ 0xA0 ∷ [])
    ∷ high_number "139" "8B" (0xC2 ∷ 0x8B ∷ []) (0xE2 ∷ 0x80 ∷ 0xB9 ∷ [])
    ∷ high_number "140" "8C" (0xC2 ∷ 0x8C ∷ []) (0xC5 ∷ 0x92 ∷ [])
    ∷ high_number "141" "8D" (0xC2 ∷ 0x8D ∷ []) (0xC2 ∷ 0x8D ∷ [])
    ∷ high_number "142" "8E" (0xC2 ∷ 0x8E ∷ []) (0xC5 ∷ 0xBD ∷ [])
    ∷ high_number "143" "8F" (0xC2 ∷ 0x8F ∷ []) (0xC2 ∷ 0x8F ∷ [])
    ∷ high_number "144" "90" (0xC2 ∷ 0x90 ∷ []) (0xC2 ∷ 0x90 ∷ [])
    ∷ high_number "145" "91" (0xC2 ∷ 0x91 ∷ []) (0xE2 ∷ 0x80 ∷ 0x98 ∷ [])
    ∷ high_number "146" "92" (0xC2 ∷ 0x92 ∷ []) (0xE2 ∷ 0x80 ∷ 0x99 ∷ [])
    ∷ high_number "147" "93" (0xC2 ∷ 0x93 ∷ []) (0xE2 ∷ 0x80 ∷ 0x9C ∷ [])
    ∷ high_number "148" "94" (0xC2 ∷ 0x94 ∷ []) (0xE2 ∷ 0x80 ∷ 0x9D ∷ [])
    ∷ high_number "149" "95" (0xC2 ∷ 0x95 ∷ []) (0xE2 ∷ 0x80 ∷ 0xA2 ∷ [])
    ∷ high_number "150" "96" (0xC2 ∷ 0x96 ∷ []) (0xE2 ∷ 0x80 ∷ 0x93 ∷ [])
    ∷ high_number "151" "97" (0xC2 ∷ 0x97 ∷ []) (0xE2 ∷ 0x80 ∷ 0x94 ∷ [])
    ∷ high_number "152" "98" (0xC2 ∷ 0x98 ∷ []) (0xCB ∷ 0x9C ∷ [])
    ∷ high_number "153" "99" (0xC2 ∷ 0x99 ∷ []) (0xE2 ∷ 0x84 ∷ 0xA2 ∷ [])
    ∷ high_number "154" "9A" (0xC2 ∷ 0x9A ∷ []) (0xC5 ∷ 0xA1 ∷ [])
    ∷ high_number "155" "9B" (0xC2 ∷ 0x9B ∷ []) (0xE2 ∷ 0x80 ∷ 0xBA ∷ [])
    ∷ high_number "156" "9C" (0xC2 ∷ 0x9C ∷ []) (0xC5 ∷ 0x93 ∷ [])
    ∷ high_number "157" "9D" (0xC2 ∷ 0x9D ∷ []) (0xC2 ∷ 0x9D ∷ [])
    ∷ high_number "158" "9E" (0xC2 ∷ 0x9E ∷ []) (0xC5 ∷ 0xBE ∷ [])
    ∷ high_number "159" "9F" (0xC2 ∷ 0x9F ∷ []) (0xC5 ∷ 0xB8 ∷ [])
    ∷ [])

-- ---- answers that are enums

-- What kind of move it is: a reference that stays has the number of its reason, and a stop adds the status of its refusal.
abbrev pub kind : Move → ℕ
kind (keep a) = 0
kind (leave r a) = reason_number r
kind (swap a b) = 6
kind (stop w) = 7 + w

-- Two moves are the same.
abbrev pub same_move : Move → Move → Bool
same_move m n = eqb (kind m) (kind n) && same_bytes (takes m) (takes n) && same_bytes (gives m) (gives n)

-- A case of an enum, read on paper, and the move that it is.
abbrev pub papers : List (Move × Move)
papers =
    (replaced_move Script (ascii "'a") (Some Slashed), swap (ascii "'") (ascii "\\'"))
    ∷ (replaced_move Script (0x1F ∷ []) (Some Hex), swap (0x1F ∷ []) (ascii "\\x1F"))
    ∷ (replaced_move Style (0x1F ∷ []) (Some Hex), swap (0x1F ∷ []) (ascii "\\1F "))
    ∷ (replaced_move Json (0x1F ∷ []) (Some Hex), swap (0x1F ∷ []) (ascii "\\u001F"))
    ∷ (replaced_move Script (0xE2 ∷ 0x80 ∷ 0xA8 ∷ ascii "a") (Some Separator), swap (0xE2 ∷ 0x80 ∷ 0xA8 ∷ []) (ascii "\\u2028"))
    ∷ (replaced_move Script (0xE2 ∷ 0x80 ∷ 0xA9 ∷ ascii "a") (Some Separator), swap (0xE2 ∷ 0x80 ∷ 0xA9 ∷ []) (ascii "\\u2029"))
    ∷ (replaced_move Style (0x00 ∷ ascii "a") (Some Substitute), swap (0x00 ∷ []) (0xEF ∷ 0xBF ∷ 0xBD ∷ []))
    ∷ (replaced_move Style (ascii "ab") None, keep (ascii "a"))
    ∷ (escape_move (ascii "\\u2028a") (Some (record { taken = 6; character = 0x2028 })), swap (ascii "\\u2028") (0xE2 ∷ 0x80 ∷ 0xA8 ∷ []))
    ∷ (escape_move (ascii "\\a") None, keep (ascii "\\"))
    ∷ (
      decode_move (ascii "a&nGt;b") (Ok (record { start = 1; end = 6; value = NamedText 0x9283E2AB89E2 })),
      swap (ascii "&nGt;") (0xE2 ∷ 0x89 ∷ 0xAB ∷ 0xE2 ∷ 0x83 ∷ 0x92 ∷ []),
    )
    ∷ (decode_move (ascii "a&#65;b") (Ok (record { start = 1; end = 6; value = Character 65 })), swap (ascii "&#65;") (ascii "A"))
    ∷ (decode_move (ascii "&") (Err NoEnd), leave NoEnd (ascii "&"))
    ∷ (decode_move (ascii "&;") (Err Empty), leave Empty (ascii "&"))
    ∷ (decode_move (ascii "&b;") (Err UnknownName), leave UnknownName (ascii "&"))
    ∷ (decode_move (ascii "&#b;") (Err NoDigit), leave NoDigit (ascii "&"))
    ∷ (decode_move (ascii "&#0;") (Err NotAllowed), leave NotAllowed (ascii "&"))
    ∷ (browse_move (ascii "a&#65;b") (Some (record { start = 1; end = 6; value = Character 65 })), swap (ascii "&#65;") (ascii "A"))
    ∷ (browse_move (ascii "&b;") None, keep (ascii "&"))
    ∷ []

-- It is.
abbrev pub reads_as : Move × Move → Bool
reads_as e = same_move e.0 e.1

-- ---- forms

-- Units of several contexts, and what only looks like one, with the length of the longest prefix that is a run of them.
abbrev pub readings : List Example
readings =
    example Read (Units (InHtml Unquoted)) (ascii "&#x00;&#x0B;&#x1F;&#x7F;&#x27;&amp;&lt;&gt;&quot;") (0x00 ∷ 0x0B ∷ 0x1F ∷ 0x7F ∷ [] ++ ascii "'&<>\"") 9
    ∷ refused Read (Units (InHtml Unquoted)) (ascii "a&#x26;") 4 1
    ∷ refused Read (Units (InHtml Unquoted)) (ascii "&#x3C;") 4 0
    ∷ refused Read (Units (InHtml Unquoted)) (ascii "&#x3E;") 4 0
    ∷ refused Read (Units (InHtml Unquoted)) (ascii "&#x22;") 4 0
    ∷ refused Read (Units (InHtml Unquoted)) (ascii "&#x41;") 4 0
    ∷ refused Read (Units (InHtml Unquoted)) (ascii "&#x0b;") 4 0
    ∷ refused Read (Units (InHtml Unquoted)) (ascii "a b") 4 1
    ∷ refused Read (Units (InHtml Text)) (ascii "a&b") 4 1
    ∷ refused Read (Units (InHtml Text)) (ascii "a<") 4 1
    ∷ refused Read (Units (InHtml Text)) (ascii "&amp") 4 0
    ∷ refused Read (Units (InHtml Text)) (ascii "&lt;&#60;") 4 4
    ∷ example Read (Units (InHtml Text)) (ascii "\"'/&gt;") (ascii "\"'/>") 1
    ∷ refused Read (Units (InHtml Quoted)) (ascii "a'b") 4 1
    ∷ example Read (Units (InHtml Quoted)) (ascii "&#x27;") (ascii "'") 1
    ∷ refused Read (Units (InHtml Quoted)) (ascii "&apos;") 4 0
    ∷ example Read (Units (InScript Both)) (ascii "\\\\\\'\\\"\\x00\\x3C\\u2028\\u2029") (ascii "\\'\"" ++ 0x00 ∷ ascii "<" ++ utf8 0x2028 ++ utf8 0x2029) 7
    ∷ refused Read (Units (InScript Both)) (0xE2 ∷ 0x80 ∷ 0xA8 ∷ []) 4 0
    ∷ refused Read (Units (InScript Both)) (ascii "a\\x3c") 4 1
    ∷ refused Read (Units (InScript Both)) (ascii "\\x20") 4 0
    ∷ refused Read (Units (InScript Both)) (ascii "<") 4 0
    ∷ refused Read (Units (InScript Both)) (ascii "<\\!--") 4 0
    ∷ refused Read (Units (InScript Single)) (ascii "\\\"") 4 0
    ∷ stays Read (Units (InScript Single)) (ascii "\"")
    ∷ example Read (Units (InStyle Both)) (ascii "\\01 \\3C " ++ substitute ++ utf8 0x2028) (0x01 ∷ ascii "<" ++ substitute ++ utf8 0x2028) 2
    ∷ refused Read (Units (InStyle Both)) (ascii "\\00 ") 4 0
    ∷ refused Read (Units (InStyle Both)) (ascii "a" ++ 0x00 ∷ []) 4 1
    ∷ refused Read (Units (InStyle Both)) (ascii "\\20 ") 4 0
    ∷ refused Read (Units (InStyle Both)) (ascii "\\0A") 4 0
    ∷ []

-- ---- refusals

-- Of the numbers 0 to 17 an operation passes the empty text in the contexts of these, and has no other context.
abbrev pub in_contexts : Operation → List ℕ → List Example
in_contexts o ns =
    map (λ (k : ℕ). passes_in 0 o (context_of k) [] [] 0) ns ++ map (λ (k : ℕ). refused o (context_of k) [] 5 0) (only (λ (k : ℕ). not (one_of ns k)) (bytes 0 17))

-- Which contexts each operation has; and of any two rows of the table the earlier.
abbrev pub refusals : List Example
refusals =
    in_contexts Encode (bytes 0 15) ++ in_contexts Decode (bytes 0 12 ++ 14 ∷ 15 ∷ []) ++ in_contexts Read (bytes 0 12 ++ 14 ∷ 15 ∷ []) ++ in_contexts Browse (bytes 0 6 ++ 15 ∷ [])
    ++ refused Decode ScriptRaw (map (λ (b : ℕ). 0x80) (count 0 65537)) 5 0
    ∷ refused Read (Units (InHtml Text)) (0x26 ∷ 0x80 ∷ []) 2 1
    ∷ refused_in 0 Read (Units (InHtml Text)) (ascii "a&") 4 0 1
    ∷ refused_in 0 Read (Units (InHtml Text)) (ascii "&lt;&lt;") 3 2 0
    ∷ passes_in 2 Read (Units (InHtml Text)) (ascii "&lt;&lt;") (ascii "<<") 2
    ∷ refused_in 1 Browse (Units (InHtml Text)) (ascii "&lt;a") 3 2 0
    ∷ passes_in 2 Browse (Units (InHtml Text)) (ascii "&lt;a") (ascii "<a") 1
    ∷ refused_in 9 Encode ScriptRaw (ascii "</script>") 3 10 0
    ∷ passes_in 10 Encode ScriptRaw (ascii "</script>") (ascii "<\\/script>") 1
    ∷ []

-- ---- texts that were cut short

-- Every sequence of RFC 3629, at both ends of its ranges, cut at every length.
abbrev pub starts : List (List ℕ)
starts =
    (0xC2 ∷ [])
    ∷ (0xDF ∷ [])
    ∷ (0xE0 ∷ [])
    ∷ (0xE0 ∷ 0xA0 ∷ [])
    ∷ (0xE0 ∷ 0xBF ∷ [])
    ∷ (0xE1 ∷ [])
    ∷ (0xE1 ∷ 0x80 ∷ [])
    ∷ (0xEC ∷ [])
    ∷ (0xEC ∷ 0xBF ∷ [])
    ∷ (0xED ∷ [])
    ∷ (0xED ∷ 0x80 ∷ [])
    ∷ (0xED ∷ 0x9F ∷ [])
    ∷ (0xEE ∷ [])
    ∷ (0xEE ∷ 0x80 ∷ [])
    ∷ (0xEF ∷ [])
    ∷ (0xEF ∷ 0xBF ∷ [])
    ∷ (0xF0 ∷ [])
    ∷ (0xF0 ∷ 0x90 ∷ [])
    ∷ (0xF0 ∷ 0x90 ∷ 0x80 ∷ [])
    ∷ (0xF0 ∷ 0xBF ∷ [])
    ∷ (0xF0 ∷ 0xBF ∷ 0xBF ∷ [])
    ∷ (0xF1 ∷ [])
    ∷ (0xF1 ∷ 0x80 ∷ [])
    ∷ (0xF1 ∷ 0x80 ∷ 0x80 ∷ [])
    ∷ (0xF3 ∷ [])
    ∷ (0xF3 ∷ 0xBF ∷ [])
    ∷ (0xF3 ∷ 0xBF ∷ 0xBF ∷ [])
    ∷ (0xF4 ∷ [])
    ∷ (0xF4 ∷ 0x80 ∷ [])
    ∷ (0xF4 ∷ 0x80 ∷ 0x80 ∷ [])
    ∷ (0xF4 ∷ 0x8F ∷ [])
    ∷ (0xF4 ∷ 0x8F ∷ 0xBF ∷ [])
    ∷ []

-- What no byte can complete: no first byte, and a byte just outside its range, also where too few bytes follow.
abbrev pub no_starts : List (List ℕ)
no_starts =
    (0x80 ∷ [])
    ∷ (0xBF ∷ [])
    ∷ (0xC1 ∷ [])
    ∷ (0xF5 ∷ [])
    ∷ (0xFF ∷ [])
    ∷ (0xC3 ∷ 0x28 ∷ [])
    ∷ (0xE2 ∷ 0x28 ∷ [])
    ∷ (0xE2 ∷ 0x82 ∷ 0x28 ∷ [])
    ∷ (0xE2 ∷ 0x82 ∷ 0xE2 ∷ [])
    ∷ (0xF0 ∷ 0x90 ∷ 0x80 ∷ 0x28 ∷ [])
    ∷ (0x80 ∷ 0xC3 ∷ [])
    ∷ (0xE0 ∷ 0x9F ∷ [])
    ∷ (0xE0 ∷ 0xC0 ∷ [])
    ∷ (0xE1 ∷ 0x7F ∷ [])
    ∷ (0xE1 ∷ 0xC0 ∷ [])
    ∷ (0xED ∷ 0x7F ∷ [])
    ∷ (0xED ∷ 0xA0 ∷ [])
    ∷ (0xEF ∷ 0x7F ∷ [])
    ∷ (0xEF ∷ 0xC0 ∷ [])
    ∷ (0xF0 ∷ 0x8F ∷ [])
    ∷ (0xF0 ∷ 0xC0 ∷ [])
    ∷ (0xF0 ∷ 0x90 ∷ 0x7F ∷ [])
    ∷ (0xF0 ∷ 0x90 ∷ 0xC0 ∷ [])
    ∷ (0xF3 ∷ 0x7F ∷ [])
    ∷ (0xF3 ∷ 0xC0 ∷ [])
    ∷ (0xF3 ∷ 0x80 ∷ 0x7F ∷ [])
    ∷ (0xF3 ∷ 0x80 ∷ 0xC0 ∷ [])
    ∷ (0xF4 ∷ 0x7F ∷ [])
    ∷ (0xF4 ∷ 0x90 ∷ [])
    ∷ (0xF4 ∷ 0x80 ∷ 0x7F ∷ [])
    ∷ (0xF4 ∷ 0x80 ∷ 0xC0 ∷ [])
    ∷ []

-- After a letter the first are CUT_SHORT, and the others NOT_UTF8. CUT_SHORT comes after BAD_CONTEXT and TOO_LONG, and before NOT_A_FORM and NO_ROOM.
abbrev pub cuts : List Example
cuts =
    map (λ (a : List ℕ). refused Encode (Units (InHtml Text)) (ascii "a" ++ a) 7 1) starts
    ++ map (λ (a : List ℕ). refused Encode (Units (InHtml Text)) (ascii "a" ++ a) 2 1) no_starts
    ++ refused Encode (Units (InHtml Text)) (map (λ (b : ℕ). 0x61) (count 0 65536) ++ 0xC3 ∷ []) 1 0
    ∷ refused Decode ScriptRaw (ascii "a" ++ 0xC3 ∷ []) 5 0
    ∷ refused_in 0 Encode ScriptRaw (ascii "a" ++ 0xE2 ∷ 0x80 ∷ []) 7 0 1
    ∷ refused_in 0 Decode (Units (InScript Both)) (ascii "\\x3C" ++ 0xE2 ∷ []) 7 0 4
    ∷ refused_in 0 Read (Units (InHtml Text)) (ascii "a&" ++ 0xF0 ∷ 0x9F ∷ 0x98 ∷ []) 7 0 2
    ∷ refused_in 0 Browse (Units (InHtml Text)) (ascii "&#0;" ++ 0xC3 ∷ []) 7 0 4
    ∷ []

-- Where nothing is replaced a copying call needs room, and a borrowing one needs none.
abbrev pub copying : List Example
copying = refused_in 2 Encode (Units (InHtml Text)) (ascii "abc") 3 3 0 ∷ passes_in 3 Encode (Units (InHtml Text)) (ascii "abc") (ascii "abc") 0 ∷ []

abbrev pub borrowing : List Example
borrowing = passes_in 2 Encode (Units (InHtml Text)) (ascii "abc") (ascii "abc") 0 ∷ leaving 1 3 (passes_in 0 Decode (Units (InHtml Text)) (ascii "a&b;") (ascii "a&b;") 0) ∷ []

-- ---- all of these that are examples

abbrev pub edges : List Example
edges = closings ++ tags ++ escapes ++ json_strings ++ references ++ browsed ++ leavings ++ high_numbers ++ readings ++ refusals ++ cuts

-- ---- check

-- A context and a text, and status, length and place that check answers: every row but NO_ROOM, and texts that are shorter than their forms.
abbrev pub checks : List (AnyContext × List ℕ × ℕ × ℕ × ℕ)
checks =
    (Units (InHtml Text), [], 0, 0, 0)
    ∷ (Units (InHtml Text), ascii "a&lt;b", 0, 3, 0)
    ∷ (Units (InHtml Quoted), ascii "&#x27;&amp;", 0, 2, 0)
    ∷ (Units (InScript Both), ascii "\\x3C\\u2028", 0, 4, 0)
    ∷ (Units (InStyle Both), ascii "\\3C " ++ 0xEF ∷ 0xBF ∷ 0xBD ∷ [], 0, 4, 0)
    ∷ (Units InJson, ascii "\\u003C\\u2028", 0, 4, 0)
    ∷ (Units InJson, ascii "a\\uD800", 4, 0, 1)
    ∷ (Units (InHtml Text), ascii "a&lt;b<", 4, 0, 6)
    ∷ (Units (InHtml Text), 0x26 ∷ 0x80 ∷ [], 2, 0, 1)
    ∷ (Units (InHtml Text), ascii "a&" ++ 0xE2 ∷ 0x82 ∷ [], 7, 0, 2)
    ∷ (Units (InHtml Text), 0x80 ∷ map (λ (b : ℕ). 0x61) (count 0 65535), 2, 0, 0)
    ∷ (Units (InHtml Text), 0x80 ∷ map (λ (b : ℕ). 0x61) (count 0 65536), 1, 0, 0)
    ∷ (ScriptRaw, map (λ (b : ℕ). 0x80) (count 0 65537), 5, 0, 0)
    ∷ (Unknown, [], 5, 0, 0)
    ∷ []

-- It does.
abbrev pub checks_as : AnyContext × List ℕ × ℕ × ℕ × ℕ → Bool
checks_as e = let k = check_of e.0 e.1 in eqb k.status e.2 && eqb k.length e.3 && eqb k.place e.4

-- ---- the program

-- What the program prints of a refusal.
abbrev pub prints : ℕ → ℕ → List ℕ
prints s p = printed (refusal s 0 p) []

-- What it reads, and what it prints.
abbrev pub requests : List (List ℕ × List ℕ)
requests =
    -- the listing
    (
      ascii "op=encode\ncontext=double_quoted\ntext=Tom's \"5\" & <up>",
      ascii "status=0\nlength=36\nsame=0\nreplaced=5\nplace=0\ntext=Tom's &quot;5&quot; &amp; &lt;up&gt;",
    )
    -- each operation by its name
    ∷ (request (ascii "decode") (ascii "text") (ascii "&#0;&lt;"), ascii "status=0\nlength=5\nsame=0\nreplaced=1\nplace=0\ntext=&#0;<")
    ∷ (request (ascii "browse") (ascii "text") (ascii "&#0;&lt;"), ascii "status=0\nlength=4\nsame=0\nreplaced=2\nplace=0\ntext=" ++ 0xEF ∷ 0xBF ∷ 0xBD ∷ ascii "<")
    ∷ (request (ascii "read") (ascii "text") (ascii "&lt;"), ascii "status=0\nlength=1\nsame=0\nreplaced=1\nplace=0\ntext=<")
    ∷ (request (ascii "read") (ascii "text") [], ascii "status=0\nlength=0\nsame=1\nreplaced=0\nplace=0\ntext=")
    -- numbers of one to three digits
    ∷ (request (ascii "encode") (ascii "text") (map (λ (b : ℕ). 0x61) (count 0 10)), ascii "status=0\nlength=10\nsame=1\nreplaced=0\nplace=0\ntext=aaaaaaaaaa")
    ∷ (request (ascii "read") (ascii "text") (map (λ (b : ℕ). 0x61) (count 0 109) ++ ascii "<"), ascii "status=4\nlength=0\nsame=0\nreplaced=0\nplace=109\ntext=")
    -- refusals
    ∷ (request (ascii "decode") (ascii "script_raw") (map (λ (b : ℕ). 0x80) (count 0 8193)), ascii "status=5\nlength=0\nsame=0\nreplaced=0\nplace=0\ntext=")
    ∷ (request (ascii "browse") (ascii "script_single") [], prints 5 0)
    ∷ (request (ascii "browse") (ascii "json") [], prints 5 0)
    ∷ (request (ascii "decode") (ascii "json") (ascii "a\\uD800"), ascii "status=10\nlength=0\nsame=0\nreplaced=0\nplace=1\ntext=")
    ∷ (request (ascii "encode") (ascii "text") (0x80 ∷ map (λ (b : ℕ). 0x61) (count 0 8191)), prints 2 0)
    ∷ (request (ascii "encode") (ascii "text") (0x80 ∷ map (λ (b : ℕ). 0x61) (count 0 8192)), prints 1 0)
    ∷ (request (ascii "read") (ascii "text") (ascii "a&" ++ 0xE2 ∷ 0x82 ∷ []), ascii "status=7\nlength=0\nsame=0\nreplaced=0\nplace=2\ntext=")
    ∷ (request (ascii "encode") (ascii "text") (map (λ (b : ℕ). 0x61) (count 0 8192) ++ 0xC3 ∷ []), prints 1 0)
    -- lines that differ
    ∷ ([], ascii "status=6\nlength=0\nsame=0\nreplaced=0\nplace=0\ntext=")
    ∷ (ascii "op=encode\n", prints 6 0)
    ∷ (ascii "op=encode\ncontext=text\n", prints 6 0)
    ∷ (ascii "op=encode\ncontext=text\ntext", prints 6 0)
    ∷ (ascii "op=encode\r\ncontext=text\ntext=", prints 6 0)
    ∷ (ascii "op=encode context=text\ntext=", prints 6 0)
    ∷ (ascii " op=encode\ncontext=text\ntext=", prints 6 0)
    ∷ (ascii "OP=encode\ncontext=text\ntext=", prints 6 0)
    ∷ (ascii "op=view\ncontext=text\ntext=", prints 6 0)
    ∷ (ascii "op=encode\ncontext=JSON\ntext=", prints 6 0)
    ∷ (ascii "op=encode\ncontext=texts\ntext=", prints 6 0)
    ∷ (ascii "op=encode\ncontext=text\n\ntext=", prints 6 0)
    ∷ (ascii "context=text\nop=encode\ntext=", prints 6 0)
    ∷ []

-- It does.
abbrev pub answers : List ℕ × List ℕ → Bool
answers e = same_bytes (entity_of e.0) e.1

-- What `reasons` reads, and what it prints.
abbrev pub reported : List (List ℕ × List ℕ)
reported =
    ([], [])
    ∷ (ascii "Nan&amp;s &lt;3", [])
    ∷ (ascii "&nbps;", ascii "place=0 reason=3\n")
    ∷ (ascii "a & b &lt; &#; &bogus; &#+65; &#0;", ascii "place=2 reason=1\nplace=11 reason=2\nplace=15 reason=3\nplace=23 reason=4\nplace=30 reason=5\n")
    ∷ (map (λ (b : ℕ). 0x61) (count 0 8190) ++ ascii "&;", ascii "place=8190 reason=2\n")
    ∷ (0x80 ∷ map (λ (b : ℕ). 0x26) (count 0 8191), ascii "status=2\n")
    ∷ (0x80 ∷ map (λ (b : ℕ). 0x26) (count 0 8192), ascii "status=1\n")
    ∷ (ascii "&" ++ 0xE2 ∷ 0x82 ∷ [], ascii "status=7\n")
    ∷ []

-- It does.
abbrev pub reports : List ℕ × List ℕ → Bool
reports e = same_bytes (reasons_of e.0) e.1
