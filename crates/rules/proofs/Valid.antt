-- Valid UTF-8 is the code of the table with no rows: its units are the characters.
-- Assumes nothing.
use mathlib.Core.Logic.{◌↔◌}
use mathlib.Core.Path.{◌≡◌, refl, ap, ◌∙◌}
use mathlib.Core.List.{List, [], ◌∷◌, ◌++◌}
use Prim.Native.Nat.{ℕ, ◌≤◌}
use lib.ListN.{length, take}
use Rattle.rules.specs.Bytes.{All, join}
use Rattle.rules.specs.Moves.{Move, keep, swap, leave, stop, taken}
use Rattle.rules.specs.Utf8.{IsChar, IsText, valid_to, char_step}
use Rattle.rules.proofs.Machine.{place-within}
use Rattle.rules.proofs.Codes.{Reads, IsWritten, place-written, place-longest, written-iff}
use Rattle.rules.proofs.Tables.{IsEntry, table-reads}

pub chars-read : Reads (IsEntry [] []) char_step
unfolding char_step
chars-read = table-reads [] [] tt

pub chars-run : (cs : List (List ℕ)) → All IsChar cs → (us : List Move) × All (IsEntry [] []) us × (join cs ≡ taken us)
chars-run [] h = ([], tt, refl)
chars-run (a ∷ cs) h = let (us, g, e) = chars-run cs h.1 in (keep a ∷ us, ((h.0, λ i. i), g), ap (λ (s : List ℕ). a ++ s) e)

run-chars : (us : List Move) → All (IsEntry [] []) us → (cs : List (List ℕ)) × All IsChar cs × (taken us ≡ join cs)
run-chars [] g = ([], tt, refl)
run-chars (keep a ∷ us) g = let (cs, h, e) = run-chars us g.1 in (a ∷ cs, (g.0.0, h), ap (λ (s : List ℕ). a ++ s) e)
run-chars (swap v k ∷ us) g = absurd g.0
run-chars (leave r a ∷ us) g = absurd g.0
run-chars (stop w ∷ us) g = absurd g.0

text-written : (s : List ℕ) → IsText s → IsWritten (IsEntry [] []) s
text-written s t = let (cs, h, e) = t in let (us, g, q) = chars-run cs h in (us, g, e ∙ q)

written-text : (s : List ℕ) → IsWritten (IsEntry [] []) s → IsText s
written-text s w = let (us, g, e) = w in let (cs, h, q) = run-chars us g in (cs, h, e ∙ q)

-- A text is valid exactly if its longest valid prefix is all of it.
pub valid-iff : (s : List ℕ) → IsText s ↔ (valid_to s ≡ length s)
valid-iff s =
    let iff : IsWritten (IsEntry [] []) s ↔ (valid_to s ≡ length s) = written-iff chars-read s in
    (λ t. iff.0 (text-written s t), λ e. written-text s (iff.1 e))

-- That prefix is valid.
pub valid-prefix : (s : List ℕ) → IsText (take (valid_to s) s)
valid-prefix s = written-text (take (valid_to s) s) (place-written chars-read s)

-- It is a prefix.
pub valid-within : (s : List ℕ) → valid_to s ≤ length s
valid-within = place-within (IsEntry [] []) char_step chars-read.fair

-- No longer prefix is valid.
pub valid-longest : (s u r : List ℕ) → IsText u → s ≡ u ++ r → length u ≤ valid_to s
valid-longest s u r t = place-longest chars-read s u r (text-written u t)
