-- RULES 17, of section 19: each script data state left by each kind of byte, read off the Standard by hand; the bytes that end a name; and texts with
-- the place where they end.
-- Assumes nothing.
use Rattle.std.specs.Prelude.{Bool, true, false, ◌&&◌, cond, List, [], ◌∷◌, ◌++◌, ℕ, eqb}
use Rattle.std.proofs.Math.Option.{Option, none, some}
use Rattle.rules.specs.Bytes.{ascii, one_of}
use Rattle.rules.specs.ScriptData.{ScriptState, Data, LessThan, EndTagOpen, EndTagName, EscapeStart, EscapeStartDash, Escaped, EscapedDash, EscapedDashDash, EscapedLessThan, EscapedEndTagOpen, EscapedEndTagName, DoubleEscapeStart, DoubleEscaped, DoubleEscapedDash, DoubleEscapedDashDash, DoubleEscapedLessThan, DoubleEscapeEnd, named, next, leaves, is_script, closing_tag}

-- ---- states

-- A number for each, to compare them by.
abbrev pub number : ScriptState → ℕ
number Data = 1
number LessThan = 2
number EndTagOpen = 3
number EndTagName = 4
number EscapeStart = 5
number EscapeStartDash = 6
number Escaped = 7
number EscapedDash = 8
number EscapedDashDash = 9
number EscapedLessThan = 10
number EscapedEndTagOpen = 11
number EscapedEndTagName = 12
number DoubleEscapeStart = 13
number DoubleEscaped = 14
number DoubleEscapedDash = 15
number DoubleEscapedDashDash = 16
number DoubleEscapedLessThan = 17
number DoubleEscapeEnd = 18

-- The state after a text by its number, from a state on with the letters just read; 0 once the states are left.
abbrev pub reached_from : ScriptState → List ℕ → List ℕ → ℕ
reached_from st name [] = number st
reached_from st name (b ∷ s) = cond (leaves st (is_script name) b) 0 (reached_from (next st (is_script name) b) (named name b) s)

-- The kinds of bytes.
abbrev pub kinds : List ℕ
kinds = ascii "</!-> a1"

-- A start of a text, and the states after it and each of them, in their order; `none`: the states are left.
abbrev pub Left : Type 0
Left = List ℕ × List (Option ScriptState)

-- Eight states, none of them left.
abbrev eight : ScriptState → ScriptState → ScriptState → ScriptState → ScriptState → ScriptState → ScriptState → ScriptState → List (Option ScriptState)
eight a b c d e f g h = some a ∷ some b ∷ some c ∷ some d ∷ some e ∷ some f ∷ some g ∷ some h ∷ []

-- Each state by one start, those that gather a name by another name and by `script`.
abbrev pub states : List Left
states =
    (ascii "x", eight LessThan Data Data Data Data Data Data Data)
    ∷ (ascii "<", eight LessThan EndTagOpen EscapeStart Data Data Data Data Data)
    ∷ (ascii "</", eight LessThan Data Data Data Data Data EndTagName Data)
    ∷ (ascii "</s", eight LessThan Data Data Data Data Data EndTagName Data)
    ∷ (ascii "</scripts", eight LessThan Data Data Data Data Data EndTagName Data)
    ∷ (ascii "</sCript", some LessThan ∷ none ∷ some Data ∷ some Data ∷ none ∷ none ∷ some EndTagName ∷ some Data ∷ [])
    ∷ (ascii "<!", eight LessThan Data Data EscapeStartDash Data Data Data Data)
    ∷ (ascii "<!-", eight LessThan Data Data EscapedDashDash Data Data Data Data)
    ∷ (ascii "<!--x", eight EscapedLessThan Escaped Escaped EscapedDash Escaped Escaped Escaped Escaped)
    ∷ (ascii "<!--x-", eight EscapedLessThan Escaped Escaped EscapedDashDash Escaped Escaped Escaped Escaped)
    ∷ (ascii "<!--", eight EscapedLessThan Escaped Escaped EscapedDashDash Data Escaped Escaped Escaped)
    ∷ (ascii "<!--<", eight EscapedLessThan EscapedEndTagOpen Escaped EscapedDash Escaped Escaped DoubleEscapeStart Escaped)
    ∷ (ascii "<!--</", eight EscapedLessThan Escaped Escaped EscapedDash Escaped Escaped EscapedEndTagName Escaped)
    ∷ (ascii "<!--</s", eight EscapedLessThan Escaped Escaped EscapedDash Escaped Escaped EscapedEndTagName Escaped)
    ∷ (ascii "<!--</SCRIPT", some EscapedLessThan ∷ none ∷ some Escaped ∷ some EscapedDash ∷ none ∷ none ∷ some EscapedEndTagName ∷ some Escaped ∷ [])
    ∷ (ascii "<!--<s", eight EscapedLessThan Escaped Escaped EscapedDash Escaped Escaped DoubleEscapeStart Escaped)
    ∷ (ascii "<!--<scripT", eight EscapedLessThan DoubleEscaped Escaped EscapedDash DoubleEscaped DoubleEscaped DoubleEscapeStart Escaped)
    ∷ (ascii "<!--<script>x", eight DoubleEscapedLessThan DoubleEscaped DoubleEscaped DoubleEscapedDash DoubleEscaped DoubleEscaped DoubleEscaped DoubleEscaped)
    ∷ (ascii "<!--<script>-", eight DoubleEscapedLessThan DoubleEscaped DoubleEscaped DoubleEscapedDashDash DoubleEscaped DoubleEscaped DoubleEscaped DoubleEscaped)
    ∷ (ascii "<!--<script>--", eight DoubleEscapedLessThan DoubleEscaped DoubleEscaped DoubleEscapedDashDash Data DoubleEscaped DoubleEscaped DoubleEscaped)
    ∷ (ascii "<!--<script><", eight DoubleEscapedLessThan DoubleEscapeEnd DoubleEscaped DoubleEscapedDash DoubleEscaped DoubleEscaped DoubleEscaped DoubleEscaped)
    ∷ (ascii "<!--<script></s", eight DoubleEscapedLessThan DoubleEscaped DoubleEscaped DoubleEscapedDash DoubleEscaped DoubleEscaped DoubleEscapeEnd DoubleEscaped)
    ∷ (ascii "<!--<script></ScRipt", eight DoubleEscapedLessThan Escaped DoubleEscaped DoubleEscapedDash Escaped Escaped DoubleEscapeEnd DoubleEscaped)
    ∷ []

-- It is reached after the start and the byte.
abbrev reaches : List ℕ → ℕ → Option ScriptState → Bool
reaches start b (some st) = eqb (reached_from Data [] (start ++ b ∷ [])) (number st)
reaches start b none = eqb (reached_from Data [] (start ++ b ∷ [])) 0

-- So is each, for each byte.
abbrev each_of : List ℕ → List ℕ → List (Option ScriptState) → Bool
each_of start [] [] = true
each_of start [] (o ∷ os) = false
each_of start (b ∷ bs) [] = false
each_of start (b ∷ bs) (o ∷ os) = reaches start b o && each_of start bs os

-- Each of the row's states is.
abbrev pub left_as : Left → Bool
left_as row = each_of row.0 kinds row.1

-- ---- bytes that end a name, and places

-- Two places are the same, or there is none in both.
abbrev same_place : Option ℕ → Option ℕ → Bool
same_place none none = true
same_place none (some q) = false
same_place (some p) none = false
same_place (some p) (some q) = eqb p q

-- The bytes after `</script` that end the element; no other does, nor does the end of the text.
abbrev pub enders : List ℕ
enders = 0x09 ∷ 0x0A ∷ 0x0C ∷ 0x0D ∷ 0x20 ∷ 0x2F ∷ 0x3E ∷ []

-- Whether the byte ends it is as the list says.
abbrev pub ends_as : ℕ → Bool
ends_as b = same_place (closing_tag (ascii "</script" ++ b ∷ [])) (cond (one_of enders b) (some 0) none)

-- A text, and the place where it ends.
abbrev pub places : List (List ℕ × Option ℕ)
places =
    ([], none)
    ∷ (ascii "</script>", some 0)
    ∷ (ascii "a<b</ScRiPt/", some 3)
    ∷ (ascii "</script", none)
    ∷ (ascii "</scrip>", none)
    ∷ (ascii "</scripts>", none)
    ∷ (ascii "</ script>", none)
    ∷ (ascii "<script>", none)
    ∷ (ascii "<</script>", some 1)
    ∷ (ascii "</scr</script>", some 5)
    ∷ (ascii "</script</script>", some 8)
    ∷ (ascii "<!</script>", some 2)
    ∷ (ascii "<!-</script>", some 3)
    ∷ (ascii "</" ++ 0xC5 ∷ 0xBF ∷ ascii "cript>", none)
    ∷ (ascii "<" ++ 0x00 ∷ ascii "/script>", none)
    -- escaped: an end tag ends the element all the same
    ∷ (ascii "<!--</script>", some 4)
    ∷ (ascii "<!-- a --></script>", some 10)
    ∷ (ascii "<!----!></script>", some 8)
    -- a start tag hides the end tag that follows it, and that alone
    ∷ (ascii "<!--<script></script>", none)
    ∷ (ascii "<!--<script></script></script>", some 21)
    ∷ (ascii "<!--<script</script>", some 11)
    ∷ (ascii "<!--<scripts></script>", some 13)
    ∷ (ascii "<!-- <SCRIPT\t<script></script></script>", some 30)
    ∷ (ascii "<!--<script></scripts></script></script>", some 31)
    -- `-->` ends both, `<!-->` and `<!--->` at once
    ∷ (ascii "<!--<script>--></script>", some 15)
    ∷ (ascii "<!--<script>--!></script>", none)
    ∷ (ascii "<!--<script>---></script>", some 16)
    ∷ (ascii "<!--><script></script>", some 13)
    ∷ (ascii "<!---><script></script>", some 14)
    ∷ (ascii "<!--a-><script></script>", none)
    ∷ (ascii "<!-<!--><script></script>", some 16)
    ∷ []

-- It does.
abbrev pub placed_as : List ℕ × Option ℕ → Bool
placed_as e = same_place (closing_tag e.0) e.1
