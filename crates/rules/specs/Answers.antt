-- RULES 14. What each case of an answer that is an enum means, and what a pass over a text measures. Contexts and operations are in RULES 4, the
-- cases of the refusal table in RULES 13; enums that one crate alone uses have theirs in its own specs.
-- Assumes nothing.
use Rattle.std.specs.Prelude.{Option as Maybe, Some, None, Result, Ok, Err, cond, ◌≡◌, List, [], ◌∷◌, ℕ, zero, suc, ◌-◌, ◌/◌, ◌%◌, eqb, length as size, take, drop, get_or}
use Rattle.std.proofs.Math.Option.{Option, none, some}
use Rattle.rules.specs.Bytes.{ascii}
use Rattle.rules.specs.Moves.{Move, keep, swap, leave, result, replaced, place as place_of, first_left, reason_number}
use Rattle.rules.specs.Utf8.{utf8, substitute}
use Rattle.rules.specs.Tables.{Row, key, value, slashed, hex_row, line_separator, paragraph_separator}
use Rattle.rules.specs.Encoding.{keep_byte}
use Rattle.rules.specs.declared.Notation.{Notation}
use Rattle.rules.specs.declared.Left.{Left}
use Rattle.rules.specs.declared.Measured.{Measured}
use Rattle.rules.specs.declared.DecodedEntityValue.{DecodedEntityValue}
use Rattle.rules.specs.declared.DecodedEntityValue.TheVariants.{Named, Character}
use Rattle.rules.specs.declared.DecodedEntity.{DecodedEntity}
use Rattle.rules.specs.declared.Reason.{Reason}
use Rattle.rules.specs.declared.Escape.{Escape}
use Rattle.rules.specs.declared.Replacement.{Replacement}
use Rattle.rules.specs.declared.Replacement.TheVariants.{Slashed, Hex, Separator, Substitute}

-- The bytes that are packed into a number, at most k, the first lowest; none of them is 0.
abbrev pub unpack_to : ℕ → ℕ → List ℕ
unpack_to zero n = []
unpack_to (suc k) n = cond (eqb n 0) [] ((n % 256) ∷ unpack_to k (n / 256))

-- The bytes of what a reference stands for.
abbrev pub value_bytes : DecodedEntityValue → List ℕ
value_bytes (Named n) = unpack_to 6 n
value_bytes (Character n) = utf8 n

-- What a body stands for.
abbrev pub meaning_bytes : Maybe DecodedEntityValue → Option (List ℕ)
meaning_bytes (Some v) = some (value_bytes v)
meaning_bytes None = none

-- A reference of a text gives way to its value.
abbrev pub give_way : List ℕ → DecodedEntity → Move
give_way t e = swap (take (e.end - e.start) (drop e.start t)) (value_bytes e.value)

-- The move at an `&` of a text, where decode's reader was asked: the reference gives way, or it stays for a reason.
abbrev pub decode_move : List ℕ → Result DecodedEntity Reason → Move
decode_move t (Ok e) = give_way t e
decode_move t (Err r) = leave r (ascii "&")

-- The same where browse's reader was asked: a reference that stays has no reason.
abbrev pub browse_move : List ℕ → Maybe DecodedEntity → Move
browse_move t (Some e) = give_way t e
browse_move t None = keep (ascii "&")

-- An escape of n bytes for the character c.
abbrev pub escape_for : ℕ → ℕ → Maybe Escape
escape_for n c = Some (record { taken = n; character = c })

-- The move at the head of s, where the reader of escapes was asked.
abbrev pub escape_move : List ℕ → Maybe Escape → Move
escape_move s (Some e) = swap (take e.taken s) (utf8 e.character)
escape_move s None = keep_byte s

-- The row is written.
abbrev pub write_row : Row → Move
write_row row = swap (key row) (value row)

-- The move of a replacement at the head of s, in a string that is written so.
-- U+2028 ends in A8, U+2029 in A9.
abbrev pub replacement_move : Notation → List ℕ → Replacement → Move
replacement_move notation s Slashed = write_row (slashed (get_or s 0 0))
replacement_move notation s Hex = write_row (hex_row notation (get_or s 0 0))
replacement_move notation s Separator = write_row (cond (eqb (get_or s 2 0) 0xA8) line_separator paragraph_separator)
replacement_move notation s Substitute = swap (take 1 s) substitute

-- The move at the head of s, where the encoder of strings was asked.
abbrev pub replaced_move : Notation → List ℕ → Maybe Replacement → Move
replaced_move notation s (Some r) = replacement_move notation s r
replaced_move notation s None = keep_byte s

-- What a pass finds that leaves no reference.
abbrev pub whole : ℕ → ℕ → ℕ → Measured
whole n p k = record { length = n; place = p; replaced = k; left = None }

-- Place and number of the reason of a reference that stays; 0 and 0 where there is none.
abbrev pub left_numbers : Maybe Left → ℕ × ℕ
left_numbers None = (0, 0)
left_numbers (Some l) = (l.place, reason_number l.reason)

-- What a pass over a text finds is read off the moves through it.
pub record Measures (found : Measured) (ms : List Move) : Type 0 where
  pub long : found.length ≡ size (result ms)
  pub reach : found.place ≡ place_of ms
  pub many : found.replaced ≡ replaced ms
  pub first : left_numbers found.left ≡ first_left ms
