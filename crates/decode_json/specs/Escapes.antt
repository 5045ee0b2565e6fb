-- An escape of a JSON string as the code reads it: its character after a backslash, the number of four hex digits, and what it takes.
-- Assumes nothing.
use Rattle.std.specs.Prelude.{Option as Maybe, Some, None, Bool, ◌≡◌, List, [], ◌∷◌, ℕ, ◌+◌, ◌≤◌, length, take, get_or}
use Rattle.std.proofs.Math.Option.{Option, none, some}
use Rattle.rules.specs.Bytes.{one_of}
use Rattle.rules.specs.Moves.{Move, swap, stop}
use Rattle.rules.specs.Utf8.{utf8}
use Rattle.rules.specs.Tables.{Row, row_at, key, value}
use Rattle.rules.specs.Json.{escaped_only, short_escapes}
use Rattle.base.specs.First.{Free}
use Rattle.rules.specs.declared.Escape.{Escape}

-- The character of a row.
abbrev pub char_of : Option Row → Maybe ℕ
char_of none = None
char_of (some row) = Some (get_or (key row) 0 0)

-- The character that a backslash and the byte b stand for.
unfoldable pub short_of : ℕ → Maybe ℕ
short_of b = char_of (row_at value short_escapes (0x5C ∷ b ∷ []))

-- What was read at the head of s is the move m there: an escape gives way to its character, or the rule stops.
abbrev pub Tells : Move → List ℕ → Maybe Escape → Type 0
Tells m s (Some e) =
    (m ≡ swap (take e.taken s) (utf8 e.character)) × (1 ≤ e.taken) × (e.taken ≤ length s) × (length (utf8 e.character) ≤ e.taken) × (e.character ≤ 0x10FFFF)
Tells m s None = (w : ℕ) × (m ≡ stop w)

-- A byte that may not stand by itself stands at place k of the text.
abbrev pub halt_at : List ℕ → ℕ → Bool
halt_at t k = one_of escaped_only (get_or t k 0)

-- n bytes have room for whatever stretch of the text from place a on has no such byte.
abbrev pub Room : List ℕ → ℕ → ℕ → Type 0
Room t a n = (r : ℕ) → a ≤ r → r ≤ length t → Free (halt_at t) a r → r ≤ a + n
