-- Where a replaced character stands: by the byte that it begins with, and for U+2028 and U+2029 by two bytes more.
-- Assumes nothing.
use Rattle.std.specs.Prelude.{Bool, false, not, ◌&&◌, ◌||◌, cond, ◌≡◌, List, [], ◌∷◌, ℕ, ◌+◌, ◌-◌, ◌/◌, ◌%◌, ◌^◌, ◌<◌, eqb, ltb, drop, get_or}
use Rattle.rules.specs.Bytes.{any, stands, inside}
use Rattle.rules.specs.Tables.{letter_or_digit, replaced_chars}
use Rattle.rules.specs.declared.Language.{Language}
use Rattle.rules.specs.declared.Language.TheVariants.{Script, Style}
use Rattle.rules.specs.declared.Context.{Context}

-- The first byte of a character is b.
abbrev pub headed : ℕ → List ℕ → Bool
headed b [] = false
headed b (x ∷ k) = eqb x b

-- A replaced character of the context begins with the byte.
unfoldable pub begins : Context → ℕ → Bool
begins c b = any (headed b) (replaced_chars c)

-- A test of bytes that passes exactly those.
abbrev pub Leads : Context → (ℕ → Bool) → Type 0
Leads c test = (b : ℕ) → b < 256 → test b ≡ begins c b

-- The byte is one of these: the ends of a range, five bytes more, and 1 where every ASCII byte that is no letter or digit is one instead.
unfoldable pub is_lead : List ℕ → ℕ → Bool
is_lead leads b =
    cond (eqb (get_or leads 7 0) 1) (ltb b 128 && not (letter_or_digit b))
    (inside (get_or leads 0 0, get_or leads 1 0) b || eqb b (get_or leads 2 0) || eqb b (get_or leads 3 0) || eqb b (get_or leads 4 0) || eqb b (get_or leads 5 0) || eqb b (get_or leads 6 0))

-- The byte is in a set of 256 bits, in words of 64.
unfoldable pub in_set : List ℕ → ℕ → Bool
in_set set b = eqb (get_or set (b / 64) 0 / 2 ^ (b % 64) % 2) 1

-- The two representations have the same bytes.
abbrev pub Same : List ℕ → List ℕ → Type 0
Same leads set = (b : ℕ) → b < 256 → in_set set b ≡ is_lead leads b

-- E2 begins U+2028 and U+2029, which a script string replaces; a style string has the backslash in its place, which it replaces anyway.
abbrev pub separator_lead : Language → ℕ
separator_lead Script = 0xE2
separator_lead Style = 0x5C

-- The bit of a byte in its word of a set.
abbrev pub bit_of : ℕ → ℕ
bit_of b = 2 ^ (b % 64)

-- The bits of the bytes from a to b, which are in one word.
abbrev pub bits_of : ℕ → ℕ → ℕ
bits_of a b = bit_of b - bit_of a + bit_of b

-- The word of a string's set that has E2.
abbrev pub separator_word : Language → ℕ
separator_word Script = bit_of 0xE2
separator_word Style = 0

-- False only if s begins with E2 and with neither U+2028 nor U+2029.
abbrev pub is_whole : List ℕ → Bool
is_whole s = not (eqb (get_or s 0 0) 0xE2) || (stands (0xE2 ∷ 0x80 ∷ 0xA8 ∷ []) s || stands (0xE2 ∷ 0x80 ∷ 0xA9 ∷ []) s)

-- One of them stands at place k of the text.
abbrev pub begins_at : List ℕ → List ℕ → ℕ → Bool
begins_at leads t k = is_lead leads (get_or t k 0)

-- One of a set does.
abbrev pub member_at : List ℕ → List ℕ → ℕ → Bool
member_at set t k = in_set set (get_or t k 0)

-- A replaced character stands there.
abbrev pub replaced_at : List ℕ → List ℕ → ℕ → Bool
replaced_at leads t k = begins_at leads t k && is_whole (drop k t)
