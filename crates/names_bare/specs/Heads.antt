-- The name without `;` at the head of a text.
-- Assumes nothing.
use Rattle.std.specs.Prelude.{◌≡◌, List, [], ◌∷◌, ◌++◌, ℕ, zero, suc, ◌*◌, ◌+◌, ◌/◌, ◌%◌, ◌≤◌, ◌<◌, T, length, take}
use Rattle.rules.specs.Bytes.{In, stands}
use Rattle.rules.specs.Utf8.{utf8}
use Rattle.rules.specs.Names.{names}
use Rattle.rules.specs.References.{lookup}
use Rattle.rules.specs.Bare.{bare}
use Rattle.rules.specs.Browsing.{given}
use Rattle.names_bare.specs.declared.BareName.{BareName}

-- The first bytes are a name without `;`, and its character's number is that of the character that it stands for.
abbrev pub Heads : List ℕ → BareName → Type 0
Heads t b = (b.length ≤ length t) × In (take b.length t) bare × (utf8 b.character ≡ given (lookup names (take b.length t)))

-- No such name stands there.
abbrev pub Headless : List ℕ → Type 0
Headless t = (name : List ℕ) → In name bare → T (stands name t) → ⊥

-- Bytes as one number, the first highest, behind the number w.
abbrev pub word_of : ℕ → List ℕ → ℕ
word_of w [] = w
word_of w (b ∷ s) = word_of (w * 256 + b) s

-- The n bytes of a number.
abbrev pub spell : ℕ → ℕ → List ℕ
spell zero w = []
spell (suc n) w = spell n (w / 256) ++ w % 256 ∷ []

-- The number has that many bytes at most.
pub record Bounded (n w : ℕ) : Type 0 where
  pub none : n ≤ 0 → w < 1
  pub one : n ≤ 1 → w < 0x100
  pub two : n ≤ 2 → w < 0x10000
  pub three : n ≤ 3 → w < 0x1000000
  pub four : n ≤ 4 → w < 0x100000000
  pub five : n ≤ 5 → w < 0x10000000000
  pub six : n ≤ 6 → w < 0x1000000000000

-- The first n bytes of a text are those of the number w.
pub record Spelled (t : List ℕ) (n w : ℕ) : Type 0 where
  pub within : n ≤ length t
  pub bounded : Bounded n w
  pub word : w ≡ word_of 0 (take n t)
  pub bytes : spell n w ≡ take n t
