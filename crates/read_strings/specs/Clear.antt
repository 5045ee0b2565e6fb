-- A text in which a string replaces no byte but backslashes, and quotes right after a backslash.
-- Assumes nothing.
use Rattle.std.specs.Prelude.{Bool, true, false, not, ◌&&◌, ◌||◌, cond, ◌≡◌, List, [], ◌∷◌, ℕ, zero, suc, ◌<◌, eqb, length, get_or}
use Rattle.rules.specs.Bytes.{inside}
use Rattle.rules.specs.Contexts.{string_of}
use Rattle.rules.specs.Moves.{before}
use Rattle.rules.specs.declared.Language.{Language}
use Rattle.rules.specs.declared.Quotes.{Quotes}
use Rattle.rules.specs.declared.Quotes.TheVariants.{Single, Double, Both}
use Rattle.reader.specs.Replaced.{begins}

-- The quotes that a string replaces: two, or one twice.
abbrev pub keys_of : Quotes → List ℕ
keys_of Single = 0x27 ∷ 0x27 ∷ []
keys_of Double = 0x22 ∷ 0x22 ∷ []
keys_of Both = 0x27 ∷ 0x22 ∷ []

-- The byte is one of them.
abbrev pub is_key : List ℕ → ℕ → Bool
is_key keys b = eqb b (get_or keys 0 0) || eqb b (get_or keys 1 0)

-- The byte b may stand after p: it is ASCII, no control and no `<`, and no such quote unless p is a backslash.
abbrev pub is_good : List ℕ → ℕ → ℕ → Bool
is_good keys p b = inside (32, 127) b && not (eqb b 0x3C) && (eqb p 0x5C || not (is_key keys b))

-- The same as a number.
abbrev pub far_of : List ℕ → ℕ → ℕ → ℕ
far_of keys p b = cond (is_good keys p b) 255 0

-- The byte before place i of a part that follows the byte p.
abbrev pub before_in : ℕ → List ℕ → ℕ → ℕ
before_in p part zero = p
before_in p part (suc i) = get_or part i 0

-- Every byte of the text is ASCII, and no replaced character begins with one of them but with backslashes, and with quotes right after a backslash.
abbrev pub Clear : Language → Quotes → List ℕ → Type 0
Clear l q t =
    (k : ℕ) → k < length t
    → (get_or t k 0 < 128) × ((get_or t k 0 ≡ 0x5C → ⊥) → (is_key (keys_of q) (get_or t k 0) ≡ true → before t k ≡ 0x5C → ⊥) → begins (string_of l q) (get_or t k 0) ≡ false)

-- At place i of the text is no such quote right after a backslash.
abbrev pub Fresh : Quotes → List ℕ → ℕ → Type 0
Fresh q t i = i < length t → is_key (keys_of q) (get_or t i 0) ≡ true → before t i ≡ 0x5C → ⊥
