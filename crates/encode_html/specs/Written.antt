-- What is written for one byte. The encoding of a text is that of its bytes, one after the other.
-- Assumes nothing.
use Rattle.std.specs.Prelude.{Bool, true, false, List, [], ◌∷◌, ℕ}
use Rattle.rules.specs.Operations.{encode_of}
use Rattle.rules.specs.declared.Html.{Html}
use Rattle.rules.specs.declared.Html.TheVariants.{TextMinimal, Text, DoubleQuoted, SingleQuoted, Quoted, Safe, Unquoted}
use Rattle.rules.specs.declared.Context.TheVariants.{InHtml}

-- The encoding of the text that is this one byte.
unfoldable pub written : Html → ℕ → List ℕ
written h b = encode_of (InHtml h) (b ∷ [])

-- The context replaces nothing but `&`, `<` and `>`.
abbrev pub only_text : Html → Bool
only_text TextMinimal = true
only_text Text = true
only_text DoubleQuoted = false
only_text SingleQuoted = false
only_text Quoted = false
only_text Safe = false
only_text Unquoted = false
