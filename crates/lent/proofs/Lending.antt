-- A call over the lent state: what the call of crate stream leaves is what the arrays then hold.
-- Assumes nothing.
use mathlib.Core.Bool.{Bool}
use mathlib.Core.Path.{◌≡◌, sym, ◌∙◌, subst}
use mathlib.Core.List.{List}
use Prim.Native.Nat.{ℕ}
use Rattle.rules.specs.Stream.{PartAllowed}
use Rattle.rules.specs.declared.Answer.{Answer}
use Rattle.rules.specs.declared.RawPart.{RawPart}
use Rattle.rules.specs.declared.RawState.{RawState}
use Rattle.lent.specs.Lent.{state_of, Kept, PartLent}

pub part-lent : (last : Bool) (held numbers t out : List ℕ) (st : RawState) → st ≡ state_of held numbers → (part : RawPart) (o : List ℕ)
    → PartAllowed last st t out part.answer part.state o → (a : Answer) (held' numbers' : List ℕ) → a ≡ part.answer → Kept part held numbers held' numbers'
    → PartLent last held numbers t out a held' numbers' o
part-lent last held numbers t out st e part o p a held' numbers' q k =
    let w = subst (λ (s : RawState). PartAllowed last s t out part.answer part.state o) e p in
    (q ∙ w.0, subst (λ (r : RawPart). Kept r held numbers held' numbers') (λ i. record { answer = sym q i; state = w.1 i }) k, w.2)
