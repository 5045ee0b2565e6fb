-- RULES 27. ascii_quoted: what is written for a character above 7F, by its name or by its number.
-- Assumes nothing.
use Rattle.std.specs.Prelude.{Bool, false, not, ◌&&◌, ◌||◌, cond, List, ◌++◌, ℕ, T, eqb, ltb, length}
use Rattle.std.proofs.Math.Option.{Option, none, some}
use Rattle.rules.specs.Bytes.{ascii, In, best, same_bytes}
use Rattle.rules.specs.Utf8.{sequence_at, code_of}
use Rattle.rules.specs.Tables.{Row, key, value, hex_digit, numeral}
use Rattle.rules.specs.Names.{names, below}
use Rattle.rules.specs.declared.Context.{Context}
use Rattle.rules.specs.declared.Context.TheVariants.{InHtml, InScript, InStyle, InJson, InAscii}

-- ---- the name of a character

-- "The shortest; among equals the first by bytes": the name n is shorter than m, or as long and not after it.
abbrev pub is_before : List ℕ → List ℕ → Bool
is_before n m = ltb (length n) (length m) || (eqb (length n) (length m) && not (below m n))

-- In words: the table has the name n for exactly the character a, and no other name that it has for a goes before n.
abbrev pub IsNameOf : List ℕ → List ℕ → Type 0
IsNameOf n a = In (n, a) names × ((m : List ℕ) → In (m, a) names → T (is_before n m))

-- The name of a row, if there is one.
abbrev pub key_of : Option Row → Option (List ℕ)
key_of none = none
key_of (some row) = some (key row)

-- The name that is before all others of a, in a table.
abbrev pub name_in : List Row → List ℕ → Option (List ℕ)
name_in table a = key_of (best (λ (x : Row). λ (y : Row). is_before (key x) (key y)) (λ (row : Row). same_bytes (value row) a) table)

-- As a computation over the table of names; `name-iff` says that it is the same.
unfoldable pub name_of : List ℕ → Option (List ℕ)
name_of a = name_in names a

-- ---- what is written

-- A character above 7F: one that has more than one byte.
abbrev pub is_high : List ℕ → Bool
is_high a = elim (sequence_at a) [ none ↦ false | some q ↦ eqb (length a) (length q) && ltb 1 (length q) ]

-- What stands between `&` and `;`: the name, or `#x` and the number with upper-case digits and no leading zeros.
abbrev pub body_for : List ℕ → List ℕ
body_for a = elim (name_of a) [ some n ↦ n | none ↦ ascii "#x" ++ numeral hex_digit 16 6 (code_of a) ]

-- The reference to a character.
abbrev pub refer_to : List ℕ → List ℕ
refer_to a = ascii "&" ++ body_for a ++ ascii ";"

-- What a context writes, by rule, for a character that none of its rows replaces: ascii_quoted a reference for each character above 7F.
abbrev pub by_rule : Context → List ℕ → Option (List ℕ)
by_rule InAscii a = cond (is_high a) (some (refer_to a)) none
by_rule (InHtml h) a = none
by_rule (InScript q) a = none
by_rule (InStyle q) a = none
by_rule InJson a = none
