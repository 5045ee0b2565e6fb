-- The units of a clear text, told of byte by byte.
-- Assumes nothing.
use Rattle.std.specs.Prelude.{Option, Some, None, Bool, ◌&&◌, ◌||◌, cond, ◌≡◌, List, ℕ, zero, suc, ◌+◌, ◌-◌, ◌%◌, ◌≤◌, ◌<◌, eqb, length, get_or}
use Rattle.rules.specs.Contexts.{string_of}
use Rattle.rules.specs.declared.Language.{Language}
use Rattle.rules.specs.declared.Quotes.{Quotes}
use Rattle.base.specs.Places.{Nearest}
use Rattle.base.proofs.Counted.{Counted}
use Rattle.reader.specs.Units.{byte_step}
use Rattle.read_strings.specs.Units.{is_form}
use Rattle.read_strings.specs.declared.dense.Begun.{Begun}

-- 1 if the byte b begins a unit, given the same of the byte before it, else 0: a backslash does that does not stand right after one that does.
abbrev pub start_by : ℕ → ℕ → ℕ
start_by last b = cond (eqb b 0x5C && eqb last 0) 1 0

-- The same of the byte before place k of the text, and of the byte at place k.
abbrev pub last_of : List ℕ → ℕ → ℕ
last_of t zero = 0
last_of t (suc k) = start_by (last_of t k) (get_or t k 0)

abbrev pub start_at : List ℕ → ℕ → ℕ
start_at t k = start_by (last_of t k) (get_or t k 0)

-- The second byte is that of a unit of two bytes.
abbrev pub is_short : ℕ → Bool
is_short b = eqb (b % 8) 2 || eqb (b % 8) 4 || eqb (b % 8) 7

-- A number that counts unless the test is passed.
abbrev pub unless_it : Bool → ℕ → ℕ
unless_it x n = cond x 0 n

-- 1 if at place k begins a longer unit, and if what begins there is no unit.
abbrev pub longer_at : List ℕ → ℕ → ℕ
longer_at t k = unless_it (is_short (get_or t (k + 1) 0)) (start_at t k)

abbrev pub wrong_at : Language → List ℕ → List ℕ → ℕ → ℕ
wrong_at l keys t k = unless_it (is_form l keys (get_or t (k + 1) 0) (get_or t (k + 2) 0) (get_or t (k + 3) 0) (get_or t (k + 4) 0) (get_or t (k + 5) 0)) (start_at t k)

-- The sum of the numbers of the places before n.
abbrev pub sum_to : (ℕ → ℕ) → ℕ → ℕ
sum_to f zero = 0
sum_to f (suc k) = sum_to f k + f k

-- What a measuring loop may begin with at the next backslash: what is counted up to there. Nothing is, where offsets are kept.
abbrev pub Ready : Language → Quotes → List ℕ → ℕ → Option Begun → Type 0
Ready l q t listed (Some a) =
    (a.from ≤ length t) × (0 < listed → a.units ≡ 0) × (a.units ≡ 0 → a.from ≡ 0)
    × ((r : ℕ) → Nearest t a.from 0x5C r → (a.gain ≤ r) × (a.units ≤ r) × Counted (byte_step (string_of l q)) t r (r - a.gain) a.units)
Ready l q t listed None = Unit {0}
