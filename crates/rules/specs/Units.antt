-- RULES 6. Written forms: the units of a context. Neither an encoder nor a reader is run here.
-- Assumes nothing.
use Rattle.std.specs.Prelude.{not, ◌⊎◌, ◌≡◌, List, [], ◌∷◌, map, ℕ}
use Rattle.std.proofs.Math.Option.{none, some}
use Rattle.rules.specs.Bytes.{In, All, bytes, only, one_of}
use Rattle.rules.specs.Moves.{Move, keep, swap, leave, stop, taken}
use Rattle.rules.specs.Utf8.{IsChar}
use Rattle.rules.specs.Tables.{Row, key, rows, lossy, replaced_chars}
use Rattle.rules.specs.Ascii.{by_rule}
use Rattle.rules.specs.declared.Html.{Html}
use Rattle.rules.specs.declared.Html.TheVariants.{TextMinimal, Text, DoubleQuoted, SingleQuoted, Quoted, Safe, Unquoted}
use Rattle.rules.specs.declared.Context.{Context}
use Rattle.rules.specs.declared.Context.TheVariants.{InHtml, InScript, InStyle, InJson, InAscii}

-- A unit of a context, by some of its rows: a plain character, which neither table nor rule replaces; or the value of a row, standing for its key; or
-- what the rule writes for a character, standing for it.
abbrev pub IsUnit : Context → List Row → Move → Type 0
IsUnit c rows (keep a) = IsChar a × (In a (replaced_chars c) → ⊥) × (by_rule c a ≡ none)
IsUnit c rows (swap v k) = In (k, v) rows ⊎ (by_rule c k ≡ some v)
IsUnit c rows (leave r a) = ⊥
IsUnit c rows (stop w) = ⊥

-- A run of the context's units: plain characters that the context copies, and replacements exactly as its table and its rule have them.
abbrev pub IsRun : Context → List Move → Type 0
IsRun c us = All (IsUnit c (rows c)) us

-- A written form of the context: what such a run takes.
abbrev pub IsForm : Context → List ℕ → Type 0
IsForm c s = (us : List Move) × IsRun c us × (s ≡ taken us)

-- The characters that no form stands for, so that read gives no text with them: NUL in a style string.
abbrev pub unread : Context → List (List ℕ)
unread c = map key (lossy c)

-- Bytes 0 to 31 other than 9, 10, 12, 13, as characters.
abbrev pub controls : List (List ℕ)
controls = map (λ (b : ℕ). b ∷ []) (only (λ (b : ℕ). not (one_of (9 ∷ 10 ∷ 12 ∷ 13 ∷ []) b)) (bytes 0 31))

-- The characters of an HTML context whose references decode leaves.
abbrev pub left : Html → List (List ℕ)
left TextMinimal = []
left Text = []
left DoubleQuoted = []
left SingleQuoted = []
left Quoted = []
left Safe = []
left Unquoted = controls

-- The characters that decode does not give back: these controls in `unquoted`, NUL in a style string.
abbrev pub undecoded : Context → List (List ℕ)
undecoded (InHtml h) = left h
undecoded (InScript q) = []
undecoded (InStyle q) = unread (InStyle q)
undecoded InJson = []
undecoded InAscii = []
