-- What the writer of long texts knows of a byte by itself, and how far it has come.
-- Assumes nothing.
use Rattle.std.specs.Prelude.{Bool, cond, ◌≡◌, List, ℕ, ◌+◌, ◌≤◌, ◌<◌, eqb, ltb, length, drop, get_or}
use Rattle.std.specs.Int.Bits.{bit_and, bit_xor}
use Rattle.rules.specs.Moves.{gives, through, replaced}
use Rattle.rules.specs.Contexts.{written_in}
use Rattle.rules.specs.Encoding.{encode_step}
use Rattle.rules.specs.Operations.{encode_of}
use Rattle.rules.specs.declared.Notation.{Notation}
use Rattle.rules.specs.declared.Quotes.{Quotes}
use Rattle.base.specs.Words.{word_of}
use Rattle.plain.specs.Plain.{lesser}
use Rattle.encode_strings.specs.Strings.{alone}

-- The word of what is written for the byte; for E2, where that depends on the bytes after it, one that is higher than all of these.
unfoldable pub word_in : Notation → Quotes → ℕ → ℕ
word_in notation quotes b = cond (eqb b 0xE2) 0x800000000000000 (word_of (gives (alone notation quotes b)))

-- The byte is copied wherever it stands: its word has one byte.
unfoldable pub copies : Notation → Quotes → ℕ → Bool
copies notation quotes b = ltb (word_in notation quotes b) 0x200000000000000

-- The word of every byte, in the order of the bytes.
abbrev pub Table : Notation → Quotes → List ℕ → Type 0
Table notation quotes table = (b : ℕ) → b < 256 → get_or table b 0 ≡ word_in notation quotes b

-- 0 where the byte is a control, `<`, `\`, E2 or one of the quotes: the least of its differences from them, bit by bit.
abbrev pub far_in : ℕ → ℕ → ℕ → ℕ
far_in single double b =
    lesser
    (lesser (lesser (bit_and b 0xE0) (bit_xor b 0x3C)) (lesser (bit_xor b 0x5C) (bit_xor b 0xE2)))
    (lesser (bit_xor b single) (bit_xor b double))

-- The first i bytes of a text give the first n bytes of what is written for it, and have k places replaced.
pub record Reached (notation : Notation) (quotes : Quotes) (t : List ℕ) (i n k : ℕ) : Type 0 where
  pub inside : i ≤ length t
  pub next : drop n (encode_of (written_in notation quotes) t) ≡ encode_of (written_in notation quotes) (drop i t)
  pub long : n + length (encode_of (written_in notation quotes) (drop i t)) ≡ length (encode_of (written_in notation quotes) t)
  pub many : k + replaced (through (encode_step (written_in notation quotes)) (drop i t)) ≡ replaced (through (encode_step (written_in notation quotes)) t)
