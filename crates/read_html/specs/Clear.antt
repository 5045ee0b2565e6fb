-- A text in which a context replaces no byte but `&`.
-- Assumes nothing.
use Rattle.std.specs.Prelude.{false, ◌≡◌, List, [], ◌∷◌, ℕ, ◌<◌, length, get_or}
use Rattle.std.specs.Int.Bits.{bit_or, bit_xor}
use Rattle.rules.specs.declared.Html.{Html}
use Rattle.rules.specs.declared.Html.TheVariants.{TextMinimal, Text, DoubleQuoted, SingleQuoted, Quoted, Safe, Unquoted}
use Rattle.rules.specs.declared.Context.TheVariants.{InHtml}
use Rattle.plain.specs.Plain.{lesser}
use Rattle.reader.specs.Replaced.{begins}

-- Every byte of the text is ASCII, and no replaced character begins with one of them but `&`.
abbrev pub Clear : Html → List ℕ → Type 0
Clear h t = (k : ℕ) → k < length t → (get_or t k 0 < 128) × ((get_or t k 0 ≡ 38 → ⊥) → begins (InHtml h) (get_or t k 0) ≡ false)

-- The same, but where the context is the unquoted attribute.
abbrev pub Tame : Html → List ℕ → Type 0
Tame h t = (h ≡ Unquoted → ⊥) → Clear h t

-- What a byte is compared with: a mask and a key, twice, and a key. No byte passes in an unquoted attribute.
abbrev pub keys_of : Html → List ℕ
keys_of TextMinimal = 0 ∷ 0xBC ∷ 0 ∷ 0xBC ∷ 0xBC ∷ []
keys_of Text = 2 ∷ 0xBE ∷ 0 ∷ 0xBC ∷ 0xBC ∷ []
keys_of DoubleQuoted = 2 ∷ 0xBE ∷ 0 ∷ 0xBC ∷ 0xA2 ∷ []
keys_of SingleQuoted = 2 ∷ 0xBE ∷ 0 ∷ 0xA7 ∷ 0xBC ∷ []
keys_of Quoted = 2 ∷ 0xBE ∷ 0 ∷ 0xA7 ∷ 0xA2 ∷ []
keys_of Safe = 2 ∷ 0xBE ∷ 8 ∷ 0xAF ∷ 0xA2 ∷ []
keys_of Unquoted = 255 ∷ 255 ∷ 255 ∷ 255 ∷ 255 ∷ []

-- The least xor of a byte with the keys, under their masks.
abbrev pub far_of : List ℕ → ℕ → ℕ
far_of keys b =
    lesser
    (lesser (bit_xor (bit_or b (get_or keys 0 0)) (get_or keys 1 0)) (bit_xor (bit_or b (get_or keys 2 0)) (get_or keys 3 0)))
    (bit_xor b (get_or keys 4 0))
