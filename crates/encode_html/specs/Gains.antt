-- By how many bytes a byte grows in its encoding.
-- Assumes nothing.
use Rattle.std.specs.Prelude.{Bool, cond, ◌≡◌, List, ℕ, ◌+◌, ◌-◌, ◌*◌, ◌≤◌, ◌<◌, eqb, length, get_or}
use Rattle.rules.specs.Moves.{through, replaced}
use Rattle.rules.specs.Encoding.{encode_step}
use Rattle.rules.specs.Operations.{encode_of}
use Rattle.rules.specs.declared.Html.{Html}
use Rattle.rules.specs.declared.Context.TheVariants.{InHtml}
use Rattle.plain.specs.Plain.{unquoted as unquoted_of}
use Rattle.encode_html.specs.Written.{written, only_text}

-- By how many bytes the encoding of a byte is longer than the byte.
abbrev pub gain_of : Html → ℕ → ℕ
gain_of h b = length (written h b) - 1

-- 1 for a byte that grows, else 0.
abbrev pub grows : Html → ℕ → ℕ
grows h b = cond (eqb (gain_of h b) 0) 0 1

-- 1 for a byte that grows by n bytes, else 0.
abbrev pub grows_by : Html → ℕ → ℕ → ℕ
grows_by h n b = cond (eqb (gain_of h b) n) 1 0

-- What is known of a context: which kind it is, and which of `>`, `"`, `'` and `/` grow.
abbrev pub AreGainsOf : Html → Bool → Bool → ℕ → ℕ → ℕ → ℕ → Type 0
AreGainsOf h text unquoted gt double single slash =
    (text ≡ only_text h) × (unquoted ≡ unquoted_of h) × (gt ≡ grows h 62) × (double ≡ grows h 34) × (single ≡ grows h 39) × (slash ≡ grows h 47)

-- A text grows by n bytes, which is at most five times its length.
abbrev pub Grows : Html → List ℕ → ℕ → Type 0
Grows h t n = (length t + n ≡ length (encode_of (InHtml h) t)) × (n ≤ 5 * length t)

-- How many places of a text are replaced.
abbrev pub hits_of : Html → List ℕ → ℕ
hits_of h t = replaced (through (encode_step (InHtml h)) t)

-- They are n, at most as many as it has bytes.
abbrev pub Hits : Html → List ℕ → ℕ → Type 0
Hits h t n = (n ≡ hits_of h t) × (n ≤ length t)

-- Every byte of a text has the property.
abbrev pub Each : (ℕ → Type 0) → List ℕ → Type 0
Each p t = (k : ℕ) → k < length t → p (get_or t k 0)

-- An ASCII byte.
abbrev pub Ascii : ℕ → Type 0
Ascii b = b < 128

-- An ASCII byte that is not replaced.
abbrev pub Unchanged : Html → ℕ → Type 0
Unchanged h b = (length (written h b) ≡ 1) × (b < 128)
