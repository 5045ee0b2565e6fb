-- RULES 25 at its edges: texts, and what browse makes of them in text and in the value of an attribute. What html5lib's tests of entities pin is among them.
-- Assumes nothing.
use Rattle.std.specs.Prelude.{Bool, ◌&&◌, List, [], ◌∷◌, ◌++◌, map, ℕ}
use Rattle.rules.specs.Bytes.{ascii, same_bytes}
use Rattle.rules.specs.Moves.{through, result}
use Rattle.rules.specs.Utf8.{utf8, substitute}
use Rattle.rules.specs.Browsing.{browse_step}
use Rattle.rules.specs.declared.Kind.TheVariants.{InText, InAttribute}

-- A text, what browse makes of it in text, and what in an attribute.
abbrev pub Edge : Type 0
Edge = List ℕ × List ℕ × List ℕ

-- The same in both.
abbrev pub both : List ℕ → List ℕ → Edge
both t v = (t, v, v)

-- It stays in both.
abbrev pub remains : List ℕ → Edge
remains t = (t, t, t)

-- It is replaced in text only.
abbrev pub text_only : List ℕ → List ℕ → Edge
text_only t v = (t, v, t)

-- The edge holds of the rule.
abbrev pub browses_to : Edge → Bool
browses_to e = same_bytes (result (through (browse_step InText) e.0)) e.1 && same_bytes (result (through (browse_step InAttribute) e.0)) e.2

-- Names with and without `;`: the longest counts, and the byte behind it in an attribute.
abbrev pub name_edges : List Edge
name_edges =
    both (ascii "&copy;") (utf8 0xA9)
    ∷ both (ascii "&copy") (utf8 0xA9)
    ∷ both (ascii "&copy 2019") (utf8 0xA9 ++ ascii " 2019")
    ∷ text_only (ascii "&copy2019") (utf8 0xA9 ++ ascii "2019")
    ∷ text_only (ascii "&copy=1") (utf8 0xA9 ++ ascii "=1")
    ∷ text_only (ascii "&copyright") (utf8 0xA9 ++ ascii "right")
    ∷ text_only (ascii "&copyZ;") (utf8 0xA9 ++ ascii "Z;")
    ∷ both (ascii "&copy;=1") (utf8 0xA9 ++ ascii "=1")
    ∷ both (ascii "&copy;;") (utf8 0xA9 ++ ascii ";")
    ∷ both (ascii "&copy-") (utf8 0xA9 ++ ascii "-")
    ∷ both (ascii "&copy" ++ utf8 0xE9) (utf8 0xA9 ++ utf8 0xE9)
    ∷ both (ascii "&copy/&copy:&copy@&copy[&copy`&copy{&copy<&copy>") (
    utf8 0xA9 ++ ascii "/" ++ utf8 0xA9 ++ ascii ":" ++ utf8 0xA9 ++ ascii "@" ++ utf8 0xA9 ++ ascii "[" ++ utf8 0xA9 ++ ascii "`" ++ utf8 0xA9 ++ ascii "{"
    ++ utf8 0xA9 ++ ascii "<" ++ utf8 0xA9 ++ ascii ">")
    ∷ both (ascii "&copy&copy;&copy") (utf8 0xA9 ++ utf8 0xA9 ++ utf8 0xA9)
    ∷ text_only (ascii "&notit;") (utf8 0xAC ++ ascii "it;")
    ∷ both (ascii "&notin;") (utf8 0x2209)
    ∷ text_only (ascii "&notin") (utf8 0xAC ++ ascii "in")
    ∷ text_only (ascii "&notin=;") (utf8 0xAC ++ ascii "in=;")
    ∷ both (ascii "&not;in;") (utf8 0xAC ++ ascii "in;")
    ∷ both (ascii "&amp;lt;") (ascii "&lt;")
    ∷ text_only (ascii "&ampamp;") (ascii "&amp;")
    ∷ both (ascii "&amp&lt&GT&QUOT") (ascii "&<>\"")
    ∷ text_only (ascii "&ltx") (ascii "<x")
    ∷ text_only (ascii "&sup12") (utf8 0xB9 ++ ascii "2")
    ∷ text_only (ascii "&frac128;") (utf8 0xBD ++ ascii "8;")
    ∷ text_only (ascii "&times9") (utf8 0xD7 ++ ascii "9")
    ∷ both (ascii "&AElig&yuml&AElig;&zwnj;") (utf8 0xC6 ++ utf8 0xFF ++ utf8 0xC6 ++ utf8 0x200C)
    ∷ both (ascii "&CounterClockwiseContourIntegral;&nGt;") (utf8 0x2233 ++ utf8 0x226B ++ utf8 0x20D2)
    ∷ map remains (
    ascii "&" ∷ ascii "&&" ∷ ascii "&;" ∷ ascii "& amp;" ∷ ascii "&a" ∷ ascii "&am" ∷ ascii "&Amp;" ∷ ascii "&bogus;" ∷ ascii "&zwnj" ∷ ascii "&co&co;py"
    ∷ ascii "&CounterClockwiseContourIntegral" ∷ ascii "&=" ∷ ascii "&1copy" ∷ [])

-- Numbers: any other byte ends them, in an attribute too; a `;` is taken, and there is a digit.
abbrev pub number_edges : List Edge
number_edges =
    both (ascii "&#65") (ascii "A")
    ∷ both (ascii "&#65;&#65;;") (ascii "AA;")
    ∷ both (ascii "&#65x&#65=&#65 &#065&#x41g&#X041z") (ascii "AxA=A AAgAz")
    ∷ both (ascii "&#x41&#x41;&#x") (ascii "AA&#x")
    ∷ both (ascii "&#0&#x0&#0;") (substitute ++ substitute ++ substitute)
    ∷ both (ascii "&#9&#x1F") (0x09 ∷ 0x1F ∷ [])
    ∷ both (ascii "&#128&#x80=&#129") (utf8 0x20AC ++ utf8 0x20AC ++ ascii "=" ++ utf8 0x81)
    ∷ both (ascii "&#xD7FF&#xD800&#xDFFF&#xE000") (utf8 0xD7FF ++ substitute ++ substitute ++ utf8 0xE000)
    ∷ both (ascii "&#x10FFFF&#x110000&#1114112") (utf8 0x10FFFF ++ substitute ++ substitute)
    ∷ both (ascii "&#4294967361&#18446744073709551681") (substitute ++ substitute)
    ∷ both (ascii "&#38amp;") (ascii "&amp;")
    ∷ map remains (
    ascii "&#" ∷ ascii "&#;" ∷ ascii "&#x" ∷ ascii "&#X;" ∷ ascii "&#xg" ∷ ascii "&#a" ∷ ascii "&#-1;" ∷ ascii "&#+65;" ∷ ascii "&##65;" ∷ ascii "&#xx41;"
    ∷ ascii "&# 65;" ∷ ascii "&#&#x&" ∷ ascii "&#copy;" ∷ [])
