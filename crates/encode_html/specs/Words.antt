-- What is written for each byte of a context, as one word of eight bytes.
-- Assumes nothing.
use Rattle.std.specs.Prelude.{Bool, ◌≡◌, List, ℕ, ◌<◌, get_or}
use Rattle.rules.specs.declared.Html.{Html}
use Rattle.base.specs.Words.{word_of}
use Rattle.plain.specs.Plain.{unquoted as unquoted_of}
use Rattle.encode_html.specs.Written.{written, only_text}

-- The parts of the words of a context: which kind it is, and the words of `>`, `"`, `'` and `/`.
abbrev pub AreWordsOf : Html → Bool → Bool → ℕ → ℕ → ℕ → ℕ → Type 0
AreWordsOf h text unquoted gt double single slash =
    (text ≡ only_text h) × (unquoted ≡ unquoted_of h) × (gt ≡ word_of (written h 62)) × (double ≡ word_of (written h 34)) × (single ≡ word_of (written h 39)) × (slash ≡ word_of (written h 47))

-- The word of every byte, in the order of the bytes.
abbrev pub Table : Html → List ℕ → Type 0
Table h table = (b : ℕ) → b < 256 → get_or table b 0 ≡ word_of (written h b)
