-- Numbers kept under a ceiling.
-- Assumes nothing.
use Rattle.std.specs.Prelude.{Result, Ok, Err, cond, ◌≡◌, List, ℕ, ◌≤◌, leb, eqb, length}
use Rattle.std.proofs.Math.Option.{Option, none, some}
use Rattle.rules.specs.References.{digit, hex_digit_at, digits}
use Rattle.rules.specs.Browsing.{digits_at}
use Rattle.rules.specs.Answers.{value_bytes}
use Rattle.rules.specs.declared.Reason.{Reason}
use Rattle.rules.specs.declared.DecodedEntityValue.{DecodedEntityValue}
use Rattle.decode_html.specs.Taking.{Real}

-- The digits of base 16, and of base 10.
abbrev pub digit_by : ℕ → ℕ → Option ℕ
digit_by base byte = cond (eqb base 16) (hex_digit_at byte) (digit byte)

-- The ceiling, 110000, stands for every number above 10FFFF.
abbrev pub ceiling_of : ℕ → ℕ
ceiling_of n = cond (leb n 0x10FFFF) n 0x110000

-- A number, if there is one, under the ceiling.
abbrev pub capped : Option ℕ → Option ℕ
capped none = none
capped (some n) = some (ceiling_of n)

-- The digits of a base at the head of s are k, and n is their number under the ceiling, 0 if there is none.
pub record Runs (base : ℕ) (s : List ℕ) (n k : ℕ) : Type 0 where
  pub within : k ≤ length s
  pub size : k ≡ length (digits_at (digit_by base) s)
  pub number : capped (digits (digit_by base) base 0 (digits_at (digit_by base) s)) ≡ some n

-- The number o was found, under the ceiling; or there is none, for the reason w.
abbrev pub Numbers : Result ℕ Reason → Option ℕ → Reason → Type 0
Numbers (Ok n) o w = some n ≡ capped o
Numbers (Err r) o w = (none ≡ o) × (r ≡ w)

-- What a number stands for is o; or it is nothing, for the reason w.
abbrev pub Means : Result DecodedEntityValue Reason → Option (List ℕ) → Reason → Type 0
Means (Ok v) o w = (some (value_bytes v) ≡ o) × Real v
Means (Err r) o w = (none ≡ o) × (r ≡ w)
