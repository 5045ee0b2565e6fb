-- A lent table of the names of a range of characters, and when it has for each the name that is written.
-- Assumes nothing.
use Rattle.std.specs.Prelude.{Bool, true, false, not, ◌&&◌, ◌||◌, ◌≡◌, List, [], ◌∷◌, ℕ, suc, ◌+◌, ◌-◌, leb, length, take, drop, get_or}
use Rattle.rules.specs.Bytes.{over, all, only, Range, inside, same_bytes}
use Rattle.rules.specs.Utf8.{utf8, code_of}
use Rattle.rules.specs.Tables.{Row, value}
use Rattle.rules.specs.Names.{names}
use Rattle.rules.specs.Ascii.{name_in}
use Rattle.rules.specs.Browsing.{given}

-- The bytes n were put at the start of a room: how many, and what the room was and is.
abbrev pub Puts : List ℕ → ℕ → List ℕ → List ℕ → Type 0
Puts n r before after = (r ≡ length n) × (after ≡ over n before)

-- The bytes from a to e.
abbrev pub part : List ℕ → ℕ → ℕ → List ℕ
part bytes a e = take (e - a) (drop a bytes)

-- The name at a place of the table; empty where there is none.
abbrev pub name_at : List ℕ → List ℕ → ℕ → List ℕ
name_at bytes offsets at = part bytes (get_or offsets at 0) (get_or offsets (at + 1) 0)

-- The row stands for one character of the range.
abbrev pub is_one : Range → Row → Bool
is_one range row = inside range (code_of (value row)) && same_bytes (utf8 (code_of (value row))) (value row)

-- The rows of the range.
abbrev pub within : Range → List Row → List Row
within range rows = only (is_one range) rows

-- No bytes.
abbrev pub is_empty : List ℕ → Bool
is_empty [] = true
is_empty (b ∷ n) = false

-- The bytes are none, or the name of the character k.
abbrev pub is_name : List Row → ℕ → List ℕ → Bool
is_name rows k n = is_empty n || same_bytes (given (name_in rows (utf8 k))) n

-- From the character k on the offsets cut the bytes into names, of at most 20 bytes each.
abbrev pub cuts_names : List Row → List ℕ → ℕ → List ℕ → Bool
cuts_names rows bytes k [] = true
cuts_names rows bytes k (a ∷ []) = true
cuts_names rows bytes k (a ∷ e ∷ offsets) =
    ((leb a e && leb e (length bytes)) && (leb (e - a) 20 && is_name rows k (part bytes a e))) && cuts_names rows bytes (suc k) (e ∷ offsets)

-- Each row's character has a name there.
abbrev pub has_name : List ℕ → List ℕ → ℕ → Row → Bool
has_name bytes offsets low row = not (is_empty (name_at bytes offsets (code_of (value row) - low)))

-- The characters from `low` on: the table has the name of each that has one, and of no other.
abbrev pub tied_by : List Row → ℕ → List ℕ → List ℕ → Bool
tied_by rows low bytes offsets = cuts_names rows bytes low offsets && all (has_name bytes offsets low) rows

unfoldable pub is_tied : ℕ → List ℕ → List ℕ → Bool
is_tied low bytes offsets = tied_by (within (low, low + length offsets - 2) names) low bytes offsets
