-- RULES 8. read, the strict reader: one unit after the other.
-- Assumes nothing.
use Rattle.std.specs.Prelude.{Bool, true, false, cond, List, [], ◌∷◌, ◌++◌, ℕ}
use Rattle.std.proofs.Math.Option.{Option, none, some}
use Rattle.rules.specs.Bytes.{ascii, is, any, stands, same_bytes}
use Rattle.rules.specs.Moves.{Move, swap, stop, Rule}
use Rattle.rules.specs.Utf8.{sequence_at, char_at, keep_char}
use Rattle.rules.specs.Tables.{Row, row_at, key, value, rows, replaced_chars}
use Rattle.rules.specs.Ascii.{by_rule}
use Rattle.rules.specs.References.{body_of, meaning, decode_char}
use Rattle.rules.specs.declared.Context.{Context}
use Rattle.rules.specs.declared.Context.TheVariants.{InHtml, InScript, InStyle, InJson, InAscii}

-- The row's value gives way to its key; where there is no row, the other move.
abbrev pub undo : Option Row → Move → Move
undo (some row) other = swap (value row) (key row)
undo none other = other

-- Where the test holds nothing can be taken.
abbrev pub unless : Bool → Move → Move
unless true m = stop 4
unless false m = m

-- The first row whose value stands here is undone; else one plain character is kept; else stop.
abbrev pub read_by : List Row → List (List ℕ) → Rule
read_by rows bars prev s =
    undo (row_at value rows s)
    (unless (any (λ (k : List ℕ). stands k s) bars) (keep_char (sequence_at s) s))

-- The reference with s behind its `&`, if it is exactly what the rule writes for the character that it stands for: the character, and what is written.
abbrev pub exactly : Context → Option (List ℕ) → Option (List ℕ) → Option Row
exactly c none k = none
exactly c (some body) none = none
exactly c (some body) (some k) =
    elim (by_rule c k) [ none ↦ none | some v ↦ cond (same_bytes v (ascii "&" ++ body ++ ascii ";")) (some (k, v)) none ]

-- What a body stands for in decode, if there is a body.
abbrev pub stands_in : Option (List ℕ) → Option (List ℕ)
stands_in none = none
stands_in (some body) = meaning decode_char body

-- At an `&`: such a reference.
abbrev pub reference_back : Context → List ℕ → Option Row
reference_back c [] = none
reference_back c (b ∷ s) = cond (is "&" b) (exactly c (body_of s) (stands_in (body_of s))) none

-- What the context's rule has written at the head of s: in ascii_quoted a reference.
abbrev pub rule_back : Context → List ℕ → Option Row
rule_back InAscii s = reference_back InAscii s
rule_back (InHtml h) s = none
rule_back (InScript q) s = none
rule_back (InStyle q) s = none
rule_back InJson s = none

-- The context's rule writes something for the character at the head of s, so that it is no plain one.
abbrev pub is_ruled : Context → List ℕ → Bool
is_ruled c s = elim (by_rule c (char_at s)) [ none ↦ false | some v ↦ true ]

-- read in a context: what its rule has written is undone; else by its rows.
unfoldable pub read_step : Context → Rule
read_step c prev s = undo (rule_back c s) (unless (is_ruled c s) (read_by (rows c) (replaced_chars c) prev s))
