-- The word of a byte is the choice that the code makes, and its bytes are what is written: computed tests of every byte in every context.
-- Assumes nothing.
use mathlib.Core.Bool.{true, false, not, ◌||◌, cond}
use mathlib.Core.Path.{◌≡◌, refl, ap}
use mathlib.Core.List.{[], ◌∷◌}
use Prim.Native.Nat.{ℕ, ◌+◌, ◌*◌, ◌/◌, ◌%◌, ◌<◌}
use native.Mathlib.Omega.{arith}
use lib.Dec.{eqb, ltb}
use lib.ListN.{length, take}
use Rattle.rules.specs.Bytes.{ascii, same_bytes}
use Rattle.rules.specs.Tables.{letter_or_digit, hex_digit, value, reference}
use Rattle.rules.specs.Encoding.{encode_step}
use Rattle.rules.specs.declared.Html.{Html}
use Rattle.rules.specs.declared.Html.TheVariants.{Unquoted}
use Rattle.rules.proofs.Tests.{same_bytes_lem}
use Rattle.plain.specs.Plain.{unquoted}
use Rattle.encode_html.specs.Written.{written, only_text}
use Rattle.base.specs.Words.{word_of, eight}
use Rattle.encode_html.proofs.Seven.{seven-bytes, agree}

-- The choice between `&`, `<`, `>` and the byte itself, and that between all six.
unfoldable pub choice3 : Html → ℕ → ℕ
choice3 h b = cond (eqb b 38) (word_of (ascii "&amp;")) (cond (eqb b 60) (word_of (ascii "&lt;")) (cond (eqb b 62) (word_of (written h 62)) (word_of (b ∷ []))))

unfoldable pub choice6 : Html → ℕ → ℕ
choice6 h b = cond (eqb b 34) (word_of (written h 34)) (cond (eqb b 39) (word_of (written h 39)) (cond (eqb b 47) (word_of (written h 47)) (choice3 h b)))

-- The choice in an unquoted attribute.
unfoldable pub choice_of_all : ℕ → ℕ
choice_of_all b =
    cond (ltb 127 b || letter_or_digit b) (word_of (b ∷ []))
    (cond (eqb b 38) (word_of (ascii "&amp;"))
    (cond (eqb b 60) (word_of (ascii "&lt;"))
    (cond (eqb b 62) (word_of (ascii "&gt;"))
    (cond (eqb b 34) (word_of (ascii "&quot;"))
    (word_of (value (reference b)))))))

-- In each kind of context the choice is the word of what is written.
pub word3 : (h : Html) (b : ℕ) → b < 256 → only_text h ≡ true → choice3 h b ≡ word_of (written h b)
unfolding choice3 word_of written encode_step
word3 = agree only_text choice3 (λ h b. word_of (written h b)) tt

pub word6 : (h : Html) (b : ℕ) → b < 256 → unquoted h ≡ false → choice6 h b ≡ word_of (written h b)
unfolding choice3 choice6 word_of written encode_step
word6 h b l e = agree (λ h. not (unquoted h)) choice6 (λ h b. word_of (written h b)) tt h b l (ap not e)

pub word-all : (b : ℕ) → b < 256 → choice_of_all b ≡ word_of (written Unquoted b)
unfolding choice_of_all word_of written encode_step
word-all b l = agree unquoted (λ h b. choice_of_all b) (λ h b. word_of (written h b)) tt Unquoted b l refl

pub word-unquoted : (h : Html) (b : ℕ) → b < 256 → unquoted h ≡ true → word_of (written Unquoted b) ≡ word_of (written h b)
unfolding word_of written encode_step
word-unquoted = agree unquoted (λ h b. word_of (written Unquoted b)) (λ h b. word_of (written h b)) tt

-- The highest byte of a word says how many of the others are written, and these are they.
pub word-is : (h : Html) (b : ℕ) → b < 256
    → (word_of (written h b) / 0x100000000000000 ≡ length (written h b)) × (take (length (written h b)) (eight (word_of (written h b))) ≡ written h b)
unfolding word_of written encode_step
word-is h b l = (
  agree (λ h. true) (λ h b. word_of (written h b) / 0x100000000000000) (λ h b. length (written h b)) tt h b l refl,
  same_bytes_lem (take (length (written h b)) (eight (word_of (written h b)))) (written h b)
      (seven-bytes (λ h b. same_bytes (take (length (written h b)) (eight (word_of (written h b)))) (written h b)) tt h b l),
)

-- The word of a reference, by its two digits.
pub word-hex : (b : ℕ) → 0x06003B0000782326 + hex_digit (b / 16) * 0x1000000 + hex_digit (b % 16) * 0x100000000 ≡ word_of (value (reference b))
unfolding word_of
word-hex b = omega arith
