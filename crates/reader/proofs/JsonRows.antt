-- The rows of a JSON string by the byte that each stands for: a byte after a backslash, two hex digits after `\\u00`, U+2028 and U+2029.
-- Assumes nothing.
use mathlib.Core.Bool.{true, false}
use mathlib.Core.Path.{◌≡◌, refl}
use mathlib.Core.List.{List, [], ◌++◌, map}
use Prim.Native.Nat.{ℕ}
use Rattle.std.specs.Prelude.{Option, Some, None}
use Rattle.rules.specs.Bytes.{ascii}
use Rattle.rules.specs.Tables.{json_hex, rows}
use Rattle.rules.specs.declared.Context.TheVariants.{InJson}
use Rattle.rules.specs.declared.Language.TheVariants.{Script}
use Rattle.rules.specs.declared.Quotes.TheVariants.{Double}
use Rattle.rules.specs.declared.Escape.{Escape}
use Rattle.decode_strings.specs.Finds.{Finds}
use Rattle.rules.specs.Answers.{escape_for}
use Rattle.decode_strings.specs.Hex.{hex_between}
use Rattle.decode_strings.specs.Strings.{slashed_rows, is_hexed, hexed_bytes, separators}
use Rattle.decode_strings.proofs.Finding.{Coded, finds-byte, finds-no-byte, finds-first, finds-second}
use Rattle.decode_strings.proofs.Hex.{pair-digits, stands-between}
use Rattle.decode_strings.proofs.Strings.{small-byte, hexed-in, hexed-out}

json-rows : rows InJson ≡ slashed_rows Double ++ (map json_hex (hexed_bytes Script) ++ separators Script)
json-rows = refl

json-coded : Coded json_hex (hex_between (ascii "\\u00") []) (hexed_bytes Script) 5
unfolding hex_between
json-coded = record {
  finds = λ b i r. pair-digits b (small-byte Script b i);
  sound = λ s b e i. stands-between (ascii "\\u00") [] s b e;
  keys = λ b. refl;
  sizes = λ b. refl;
  small = tt;
}

module _ (s : List ℕ) where
  -- Two hex digits of a byte that is written so,
  pub json-hexed : (v : ℕ) → hex_between (ascii "\\u00") [] s ≡ Some v → is_hexed Script v ≡ true → Finds (map json_hex (hexed_bytes Script)) s (escape_for 6 v)
  json-hexed v e h = finds-byte json-coded s v e (hexed-in Script v h)

  -- or of none.
  pub json-unhexed : ((v : ℕ) → hex_between (ascii "\\u00") [] s ≡ Some v → is_hexed Script v ≡ false) → Finds (map json_hex (hexed_bytes Script)) s None
  json-unhexed h = finds-no-byte json-coded s (λ v e. hexed-out Script v (h v e))

  -- The rows of the three kinds, one kind after the other.
  pub json-slashed : {e : Escape} → Finds (slashed_rows Double) s (Some e) → Finds (rows InJson) s (Some e)
  json-slashed f = rw json-rows (finds-first (slashed_rows Double) (map json_hex (hexed_bytes Script) ++ separators Script) f)

  pub json-digits : {e : Escape} → Finds (slashed_rows Double) s None → Finds (map json_hex (hexed_bytes Script)) s (Some e) → Finds (rows InJson) s (Some e)
  json-digits n f =
      rw json-rows
      (finds-second (slashed_rows Double) (map json_hex (hexed_bytes Script) ++ separators Script) n
      (finds-first (map json_hex (hexed_bytes Script)) (separators Script) f))

  pub json-rest : {r : Option Escape} → Finds (slashed_rows Double) s None → Finds (map json_hex (hexed_bytes Script)) s None → Finds (separators Script) s r → Finds (rows InJson) s r
  json-rest n m f =
      rw json-rows
      (finds-second (slashed_rows Double) (map json_hex (hexed_bytes Script) ++ separators Script) n
      (finds-second (map json_hex (hexed_bytes Script)) (separators Script) m f))
