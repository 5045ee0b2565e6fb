-- What encode writes in a JSON string: the content of a string by the RFC, with no `<` in it. The decoder takes each unit of a form, so it takes the
-- whole; and neither a plain character nor a value of the table has the byte.
-- Assumes nothing.
use mathlib.Core.Bool.{Bool, not}
use mathlib.Core.Logic.{inl, inr, ⊎_elim}
use mathlib.Core.Option.{none-ne-some}
use mathlib.Core.Path.{sym, ap, ◌∙◌, subst}
use mathlib.Core.List.{List, [], ◌∷◌, ◌++◌}
use Prim.Native.Nat.{ℕ}
use lib.Dec.{T, eqb}
use lib.ListN.{length}
use Rattle.rules.specs.Bytes.{In, All, all, stands}
use Rattle.rules.specs.Moves.{Move, keep, swap, leave, stop, takes, taken, place, through}
use Rattle.rules.specs.Utf8.{IsText}
use Rattle.rules.specs.Tables.{Row, value, rows, replaced_chars}
use Rattle.rules.specs.Units.{IsUnit, IsRun, IsForm}
use Rattle.rules.specs.Json.{IsContent, json_step}
use Rattle.rules.specs.Operations.{decode_step, encode_of}
use Rattle.rules.specs.declared.Context.TheVariants.{InJson}
use Rattle.rules.proofs.Tests.{all_in, same_in, in-append}
use Rattle.rules.proofs.Machine.{taken-cut}
use Rattle.rules.proofs.Chars.{is_tail, char-tails}
use Rattle.rules.proofs.Tables.{bar-stops}
use Rattle.rules.proofs.Every.{values-code}
use Rattle.rules.proofs.Decoder.{IsDecoded, decode-cut}
use Rattle.rules.proofs.Json.{content-iff}
use Rattle.rules.proofs.Laws.{encode-any}

-- Nothing is excepted in a JSON string.
run-decoded : (us : List Move) → IsRun InJson us → All (IsDecoded InJson) us
run-decoded [] g = tt
run-decoded (u ∷ us) g = ((g.0, λ i. i), run-decoded us g.1)

-- A form of json is content of a JSON string.
pub form-content : (s : List ℕ) → IsForm InJson s → IsContent s
unfolding decode_step
form-content s f =
    let (us, g, e) = f in
    (content-iff s).1
    (ap (λ (l : List ℕ). place (through json_step l)) e
    ∙ ap place (decode-cut InJson us (run-decoded us g))
    ∙ ap length (taken-cut us)
    ∙ ap length (sym e))

-- What encode writes is.
pub encode-content : (s : List ℕ) → IsText s → IsContent (encode_of InJson s)
encode-content s t = form-content (encode_of InJson s) (encode-any InJson s t)

-- ---- no `<`

-- The value of a row has none.
abbrev no_less : Row → Bool
no_less e = all (λ (b : ℕ). not (eqb b 0x3C)) (value e)

less-barred : In (0x3C ∷ []) (replaced_chars InJson)
less-barred = same_in (0x3C ∷ []) (replaced_chars InJson) tt

unit-less : (u : Move) → IsUnit InJson (rows InJson) u → In 0x3C (takes u) → ⊥
unit-less (keep []) g i = i
unit-less (keep (x ∷ a)) g (inl e) =
    bar-stops value (rows InJson) (replaced_chars InJson) (values-code InJson) (x ∷ a) [] (g.0, g.1) (0x3C ∷ []) less-barred
    (subst (λ (y : ℕ). T (stands (0x3C ∷ []) (y ∷ (a ++ [])))) e tt)
unit-less (keep (x ∷ a)) g (inr i) = all_in is_tail a (char-tails x a g.0) 0x3C i
unit-less (swap v k) (inl g) i = all_in (λ (b : ℕ). not (eqb b 0x3C)) v (all_in no_less (rows InJson) tt (k, v) g) 0x3C i
unit-less (swap v k) (inr e) i = none-ne-some v e
unit-less (leave r a) g i = g
unit-less (stop w) g i = g

run-less : (us : List Move) → IsRun InJson us → In 0x3C (taken us) → ⊥
run-less [] g i = i
run-less (u ∷ us) g i = ⊎_elim (unit-less u g.0) (run-less us g.1) (in-append 0x3C (takes u) (taken us) i)

-- A form of json has no `<`, so that it can neither end nor open a tag in a script element.
pub form-less : (s : List ℕ) → IsForm InJson s → In 0x3C s → ⊥
form-less s f i = let (us, g, e) = f in run-less us g (subst (In 0x3C) e i)

-- Nor has what encode writes.
pub encode-less : (s : List ℕ) → IsText s → In 0x3C (encode_of InJson s) → ⊥
encode-less s t = form-less (encode_of InJson s) (encode-any InJson s t)
