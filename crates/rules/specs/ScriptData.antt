-- RULES 19. Where the text of a script element ends: the script data states of the HTML Standard (13.2.5.4 and 13.2.5.15 to 13.2.5.31), one step for
-- each byte; and the same by what stands at a place, with three modes for the eighteen states.
-- Assumes nothing.
use Rattle.std.specs.Prelude.{Bool, true, false, ◌&&◌, cond, List, [], ◌∷◌, ◌++◌, ℕ, ◌+◌, eqb}
use Rattle.std.proofs.Math.Option.{Option, none, some}
use Rattle.rules.specs.Bytes.{ascii, is, stands, between, one_of, same_bytes}
use Rattle.rules.specs.declared.ScriptMode.{ScriptMode}
use Rattle.rules.specs.declared.ScriptMode.TheVariants.{Plain, Once, Twice}

-- ---- the states

-- They have the Standard's names, without "script data".
pub data ScriptState : Type 0 where
  Data : ScriptState
  LessThan : ScriptState
  EndTagOpen : ScriptState
  EndTagName : ScriptState
  EscapeStart : ScriptState
  EscapeStartDash : ScriptState
  Escaped : ScriptState
  EscapedDash : ScriptState
  EscapedDashDash : ScriptState
  EscapedLessThan : ScriptState
  EscapedEndTagOpen : ScriptState
  EscapedEndTagName : ScriptState
  DoubleEscapeStart : ScriptState
  DoubleEscaped : ScriptState
  DoubleEscapedDash : ScriptState
  DoubleEscapedDashDash : ScriptState
  DoubleEscapedLessThan : ScriptState
  DoubleEscapeEnd : ScriptState

-- An upper-case letter as its lower-case letter, any other byte as it is.
abbrev pub lower : ℕ → ℕ
lower b = cond (between "A" "Z" b) (b + 32) b

-- ASCII alpha: a letter of either case.
abbrev pub alpha : ℕ → Bool
alpha b = between "a" "z" (lower b)

-- The bytes that end the name of a tag: tab, line feed, form feed, carriage return (which reads as a line feed), space, `/`, `>`.
abbrev pub name_ends : List ℕ
name_ends = 9 ∷ 10 ∷ 12 ∷ 13 ∷ 32 ∷ ascii "/>"

-- The byte is one of them.
abbrev pub ends_name : ℕ → Bool
ends_name b = one_of name_ends b

-- The letters just read, in lower case: the Standard's tag name and temporary buffer, both empty where a name begins.
abbrev pub named : List ℕ → ℕ → List ℕ
named name b = cond (alpha b) (name ++ lower b ∷ []) []

-- The state after a byte of the script data state; where another state says "reconsume", the byte is read again there.
abbrev pub in_data : ℕ → ScriptState
in_data b = cond (is "<" b) LessThan Data

-- The same of the escaped state.
abbrev pub in_escaped : ℕ → ScriptState
in_escaped b = cond (is "-" b) EscapedDash (cond (is "<" b) EscapedLessThan Escaped)

-- The same of the double escaped state.
abbrev pub in_double : ℕ → ScriptState
in_double b = cond (is "-" b) DoubleEscapedDash (cond (is "<" b) DoubleEscapedLessThan DoubleEscaped)

-- The state after a byte that does not leave the script data states; `script` says that the letters just read are that name.
abbrev pub next : ScriptState → Bool → ℕ → ScriptState
next Data script b = in_data b
next LessThan script b = cond (is "/" b) EndTagOpen (cond (is "!" b) EscapeStart (in_data b))
next EndTagOpen script b = cond (alpha b) EndTagName (in_data b)
next EndTagName script b = cond (alpha b) EndTagName (in_data b)
next EscapeStart script b = cond (is "-" b) EscapeStartDash (in_data b)
next EscapeStartDash script b = cond (is "-" b) EscapedDashDash (in_data b)
next Escaped script b = in_escaped b
next EscapedDash script b = cond (is "-" b) EscapedDashDash (in_escaped b)
next EscapedDashDash script b = cond (is "-" b) EscapedDashDash (cond (is ">" b) Data (in_escaped b))
next EscapedLessThan script b = cond (is "/" b) EscapedEndTagOpen (cond (alpha b) DoubleEscapeStart (in_escaped b))
next EscapedEndTagOpen script b = cond (alpha b) EscapedEndTagName (in_escaped b)
next EscapedEndTagName script b = cond (alpha b) EscapedEndTagName (in_escaped b)
next DoubleEscapeStart script b = cond (ends_name b) (cond script DoubleEscaped Escaped) (cond (alpha b) DoubleEscapeStart (in_escaped b))
next DoubleEscaped script b = in_double b
next DoubleEscapedDash script b = cond (is "-" b) DoubleEscapedDashDash (in_double b)
next DoubleEscapedDashDash script b = cond (is "-" b) DoubleEscapedDashDash (cond (is ">" b) Data (in_double b))
next DoubleEscapedLessThan script b = cond (is "/" b) DoubleEscapeEnd (in_double b)
next DoubleEscapeEnd script b = cond (ends_name b) (cond script Escaped DoubleEscaped) (cond (alpha b) DoubleEscapeEnd (in_double b))

-- The states in which the name of an end tag is read.
abbrev pub naming : ScriptState → Bool
naming Data = false
naming LessThan = false
naming EndTagOpen = false
naming EndTagName = true
naming EscapeStart = false
naming EscapeStartDash = false
naming Escaped = false
naming EscapedDash = false
naming EscapedDashDash = false
naming EscapedLessThan = false
naming EscapedEndTagOpen = false
naming EscapedEndTagName = true
naming DoubleEscapeStart = false
naming DoubleEscaped = false
naming DoubleEscapedDash = false
naming DoubleEscapedDashDash = false
naming DoubleEscapedLessThan = false
naming DoubleEscapeEnd = false

-- "If the current end tag token is an appropriate end tag token": the byte leaves the script data states.
abbrev pub leaves : ScriptState → Bool → ℕ → Bool
leaves st script b = ends_name b && (naming st && script)

-- The letters just read are the name `script`.
abbrev pub is_script : List ℕ → Bool
is_script name = same_bytes name (ascii "script")

-- From a state on, with the letters just read, the place of the last `<` and that of the next byte: the place of the `<` of the first end tag that leaves.
abbrev pub closing_from : ScriptState → List ℕ → ℕ → ℕ → List ℕ → Option ℕ
closing_from st name less at [] = none
closing_from st name less at (b ∷ s) =
    cond (leaves st (is_script name) b) (some less) (closing_from (next st (is_script name) b) (named name b) (cond (is "<" b) at less) (at + 1) s)

-- The place of the `<` of the first end tag that leaves the script data states, if any.
unfoldable pub closing_tag : List ℕ → Option ℕ
closing_tag s = closing_from Data [] 0 0 s

-- ---- the same by what stands at a place

-- The bytes s begin with the name, in any letter case, and a byte that ends it.
abbrev pub spells : List ℕ → List ℕ → Bool
spells name [] = false
spells [] (b ∷ s) = ends_name b
spells (c ∷ name) (b ∷ s) = eqb (lower b) c && spells name s

-- At the byte b, where s follows, is the `<` of an end tag that ends the element.
abbrev pub ends : ScriptMode → ℕ → List ℕ → Bool
ends Plain b s = is "<" b && spells (ascii "/script") s
ends Once b s = is "<" b && spells (ascii "/script") s
ends Twice b s = false

-- `-->` ends what `<!--` began.
abbrev pub dashed : ScriptMode → ℕ → List ℕ → ScriptMode
dashed m b s = cond (is "-" b && stands (ascii "->") s) Plain m

-- The mode after the byte b, where s follows: `<!--` escapes once; in that a start tag escapes twice, and its end tag once again.
abbrev pub turn : ScriptMode → ℕ → List ℕ → ScriptMode
turn Plain b s = cond (is "<" b && stands (ascii "!--") s) Once Plain
turn Once b s = cond (is "<" b && spells (ascii "script") s) Twice (dashed Once b s)
turn Twice b s = cond (is "<" b && spells (ascii "/script") s) Once (dashed Twice b s)

-- From a mode and a place on: the place of the `<` of the first end tag that ends the element, if any.
abbrev pub end_from : ScriptMode → ℕ → List ℕ → Option ℕ
end_from m at [] = none
end_from m at (b ∷ s) = cond (ends m b s) (some at) (end_from (turn m b s) (at + 1) s)
