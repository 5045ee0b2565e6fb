-- What the UTF-8 check tests of single bytes and of blocks of a text. The laws of proofs/ tie it to the sequences of RFC 3629 in `rules`.
-- Assumes nothing.
use Rattle.std.specs.Prelude.{Bool, true, cond, ◌&&◌, ◌||◌, ◌≡◌, List, [], ◌∷◌, ℕ, eqb, leb, ltb, get_or, replicate}
use Rattle.rules.specs.Bytes.{Range, inside}

-- The byte d can start a character.
abbrev pub is_start : ℕ → Bool
is_start d = ltb d 0x80 || leb 0xC2 d && leb d 0xF4

-- The range of the byte that may follow the byte c of an unfinished character: four first bytes narrow it.
abbrev pub onward : ℕ → Range
onward c = (cond (eqb c 0xE0) 0xA0 (cond (eqb c 0xF0) 0x90 0x80), cond (eqb c 0xED) 0x9F (cond (eqb c 0xF4) 0x8F 0xBF))

-- The ranges of the bytes after the first in a character that starts with d.
unfoldable pub tails_of : ℕ → List Range
tails_of d = cond (ltb d 0x80) [] (onward d ∷ replicate (cond (ltb d 0xE0) 0 (cond (ltb d 0xF0) 1 2)) (0x80, 0xBF))

-- The bytes a, b and c end within a character.
abbrev pub is_open : ℕ → ℕ → ℕ → Bool
is_open a b c = leb 0xC0 c || leb 0xE0 b || leb 0xF0 a

-- The byte d may follow them: as a continuation of an unfinished character, else as the start of one.
unfoldable pub fits_after : ℕ → ℕ → ℕ → ℕ → Bool
fits_after a b c d = cond (is_open a b c) (inside (onward c) d) (is_start d)

-- The first three bytes of a block may start a text.
abbrev pub heads_fit : List ℕ → Bool
heads_fit w = fits_after 0 0 0 (get_or w 0 0) && fits_after 0 0 (get_or w 0 0) (get_or w 1 0) && fits_after 0 (get_or w 0 0) (get_or w 1 0) (get_or w 2 0)

-- Each byte of a block may follow the three before it; a, b and c come before the block.
abbrev pub AllFit : ℕ → ℕ → ℕ → List ℕ → Type 0
AllFit a b c [] = Unit {0}
AllFit a b c (d ∷ w) = (fits_after a b c d ≡ true) × AllFit b c d w

-- How many of the last bytes a, b and c belong to an unfinished character.
abbrev pub pending : ℕ → ℕ → ℕ → ℕ
pending a b c = cond (leb 0xC0 c) 1 (cond (leb 0xE0 b) 2 (cond (leb 0xF0 a) 3 0))

-- The same at the end of a block that a, b and c come before.
abbrev pub pending_in : ℕ → ℕ → ℕ → List ℕ → ℕ
pending_in a b c [] = pending a b c
pending_in a b c (d ∷ w) = pending_in b c d w
