-- The unit of a character in ascii_quoted, and what the strict reader finds.
-- Assumes nothing.
use Rattle.std.specs.Prelude.{Option, Some, None, Bool, true, false, ◌||◌, cond, ◌⊎◌, ◌≡◌, List, [], ◌∷◌, ◌++◌, ℕ, ◌≤◌, leb, length, take, get_or}
use Rattle.rules.specs.Bytes.{any, stands, same_bytes}
use Rattle.rules.specs.Moves.{Move, swap, stop}
use Rattle.rules.specs.Utf8.{IsChar, utf8, code_of}
use Rattle.rules.specs.Tables.{replaced_chars}
use Rattle.rules.specs.declared.Context.TheVariants.{InAscii}
use Rattle.encode_ascii.specs.Wide.{quoted_unit}
use Rattle.rules.specs.Ascii.{refer_to}
use Rattle.rules.specs.declared.Escape.{Escape}

-- The unit of a character by its number; nothing where it is plain.
abbrev pub unit_for : ℕ → List ℕ
unit_for code = cond (leb 0x80 code) (refer_to (utf8 code)) (quoted_unit code)

-- A byte that no plain stretch has: one above 7F, or a character that the context replaces.
abbrev pub is_halt : ℕ → Bool
is_halt b = leb 128 b || any (same_bytes (b ∷ [])) (replaced_chars InAscii)

-- Such a byte stands at place k of the text.
abbrev pub halt_at : List ℕ → ℕ → Bool
halt_at t k = is_halt (get_or t k 0)

-- Any character with which the bytes begin has this number.
abbrev pub HasNumber : List ℕ → ℕ → Type 0
HasNumber s n = (a r : List ℕ) → IsChar a → s ≡ a ++ r → n ≡ code_of a

-- The unit of a character was compared with the head of s: it stands there, or it is none or another.
abbrev pub Exactly : ℕ → List ℕ → Option Escape → Type 0
Exactly code s (Some e) = (e.character ≡ code) × (e.taken ≡ length (unit_for code)) × (e.taken ≡ 0 → ⊥) × (stands (unit_for code) s ≡ true)
Exactly code s None = (length (unit_for code) ≡ 0) ⊎ (stands (unit_for code) s ≡ false)

-- What was read is the move of the rule at the head of s, and fits.
abbrev pub Tells : Move → List ℕ → Option Escape → Type 0
Tells m s (Some e) =
    (m ≡ swap (take e.taken s) (utf8 e.character)) × (1 ≤ e.taken) × (e.taken ≤ length s) × (length (utf8 e.character) ≤ e.taken) × (e.character ≤ 0x10FFFF)
Tells m s None = (w : ℕ) × (m ≡ stop w)
