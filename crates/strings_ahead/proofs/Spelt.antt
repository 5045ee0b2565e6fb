-- The word of a byte as the code makes it, by the rule for its escape.
-- Assumes nothing.
use Rattle.std.specs.Prelude.{Option, Some, None}
use mathlib.Core.Bool.{Bool, true, false, cond}
use mathlib.Core.Path.{◌≡◌, refl, sym, ap, ◌∙◌}
use mathlib.Core.List.{[], ◌∷◌}
use Prim.Native.Nat.{ℕ, ◌+◌, ◌*◌, ◌≤◌}
use native.Mathlib.Omega.{arith}
use borrow.Author.Tests.{ne_eqb}
use Rattle.rules.specs.Moves.{Move, gives}
use Rattle.rules.specs.Answers.{replacement_move, replaced_move}
use Rattle.rules.specs.declared.Notation.{Notation}
use Rattle.rules.specs.declared.Notation.TheVariants.{Script, Style, Json}
use Rattle.rules.specs.declared.Quotes.{Quotes}
use Rattle.rules.specs.declared.Replacement.{Replacement}
use Rattle.rules.specs.declared.Replacement.TheVariants.{Slashed}
use Rattle.rules.proofs.Stream.{true-false}
use Rattle.base.specs.Words.{word_of}
use Rattle.encode_strings.specs.Strings.{quotes_in, single_key, double_key, is_slashed, is_hexed, hex_by, hex_in, separates}
use Rattle.strings_ahead.specs.Ahead.{word_in}
use Rattle.encode_strings.proofs.Finds.{byte-ruled, ruled-other}

-- ---- a byte that is written in hex

-- In a script and in JSON by its digits.
pub hexed-digits : (notation : Notation) (b : ℕ) → separates notation ≡ true → word_of (hex_in notation b) ≡ word_of (gives (replacement_move notation (b ∷ []) (hex_by notation b)))
hexed-digits Script b e = refl
hexed-digits Style b e = true-false (sym e)
hexed-digits Json b e = refl

-- In a style sheet NUL as U+FFFD.
pub hexed-nul : (notation : Notation) → separates notation ≡ false → 0x300000000BDBFEF ≡ word_of (gives (replacement_move notation (0 ∷ []) (hex_by notation 0)))
unfolding word_of
hexed-nul Script e = true-false e
hexed-nul Style e = refl
hexed-nul Json e = true-false e

-- And the others by their digits.
pub hexed-style : (notation : Notation) (b : ℕ) → separates notation ≡ false → (b ≡ 0 → ⊥) → word_of (hex_in notation b) ≡ word_of (gives (replacement_move notation (b ∷ []) (hex_by notation b)))
hexed-style Script b e n = true-false e
hexed-style Style b e n = rw (ne_eqb b 0 n)
hexed-style Json b e n = true-false e

-- ---- any byte but E2

-- The word of a byte after a backslash.
slashed-spelt : (b : ℕ) → 0x20000000000005C + b * 0x100 ≡ word_of (0x5C ∷ b ∷ [])
unfolding word_of
slashed-spelt b = omega arith

module _ (notation : Notation) (quotes : Quotes) (b : ℕ) (ne : b ≡ 0xE2 → ⊥) where
  -- The rule, by the two tests.
  abbrev ruled : Bool → Bool → ℕ
  ruled t u = word_of (gives (replaced_move notation (b ∷ []) (cond t (Some Slashed) (cond u (Some (hex_by notation b)) None))))

  word-ruled : ruled (is_slashed (single_key notation quotes) (double_key notation quotes) b) (is_hexed b) ≡ word_in notation quotes b
  unfolding word_in
  word-ruled = rw (ne_eqb b 0xE2 ne) (ap (λ (m : Move). word_of (gives m)) (byte-ruled notation quotes b ne 0 []))

  pub word-slashed : is_slashed (single_key notation quotes) (double_key notation quotes) b ≡ true → 0x20000000000005C + b * 0x100 ≡ word_in notation quotes b
  word-slashed e = slashed-spelt b ∙ rw e at word-ruled

  pub word-hexed : is_slashed (single_key notation quotes) (double_key notation quotes) b ≡ false → is_hexed b ≡ true
      → word_of (gives (replacement_move notation (b ∷ []) (hex_by notation b))) ≡ word_in notation quotes b
  word-hexed e h = rw (e, h) at word-ruled

  pub word-plain : is_slashed (single_key notation quotes) (double_key notation quotes) b ≡ false → is_hexed b ≡ false → word_of (b ∷ []) ≡ word_in notation quotes b
  word-plain e h = rw (e, h) at word-ruled

  -- A byte above the backslash is copied.
  pub word-high : 93 ≤ b → word_of (b ∷ []) ≡ word_in notation quotes b
  word-high h =
      let other = ruled-other notation (quotes_in notation quotes) b (omega arith) (λ e. omega arith) (λ e. omega arith) (λ e. omega arith) (λ e. omega arith) in
      ap (λ (r : Option Replacement). word_of (gives (replaced_move notation (b ∷ []) r))) (sym other) ∙ word-ruled

-- The word of E2.
pub word-lead : (notation : Notation) (quotes : Quotes) → 0x800000000000000 ≡ word_in notation quotes 0xE2
unfolding word_in
word-lead notation quotes = refl
