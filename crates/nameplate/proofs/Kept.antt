-- A name that `escape_title` wrote can be had back: where both calls pass, `take` gives the name itself. By the laws of the library alone: what take gives
-- encodes to what it took, that is what was written for the name, and no two names are written alike.
-- Assumes nothing.
use mathlib.Core.Bool.{false}
use mathlib.Core.Path.{◌≡◌, ◌∙◌}
use mathlib.Core.List.{List, [], ◌∷◌}
use Prim.Native.Nat.{ℕ}
use Rattle.rules.specs.Bytes.{In, All}
use Rattle.rules.specs.Utf8.{IsText, IsFree}
use Rattle.rules.specs.Refusals.{Allowed, view_of}
use Rattle.rules.specs.declared.Answer.{Answer}
use Rattle.rules.specs.declared.Operation.TheVariants.{Encode, Read}
use Rattle.rules.specs.declared.AnyContext.TheVariants.{Units}
use Rattle.rules.specs.declared.Context.{Context}
use Rattle.rules.specs.declared.Context.TheVariants.{InHtml}
use Rattle.rules.specs.declared.Html.TheVariants.{DoubleQuoted}
use Rattle.rules.proofs.Calls.{passed-view, passed-given, status-allowed}
use Rattle.rules.proofs.Laws.{encode_injective}
use Rattle.rules.proofs.Back.{read-gives}

-- The context of the title.
abbrev title : Context
title = InHtml DoubleQuoted

-- Every text is free of no character.
free : (t : List ℕ) → IsText t → IsFree [] t
free t (cs, h, e) = (cs, h, none cs, e)
  where
    none : (cs : List (List ℕ)) → All (λ (a : List ℕ). In a [] → ⊥) cs
    none [] = tt
    none (a ∷ cs) = (λ i. i, none cs)

-- What take gives of a title that was written is the name.
pub title-kept : (name out back : List ℕ) (w g : Answer) (o p : List ℕ)
    → Allowed Encode (Units title) false name out w o → w.status ≡ 0
    → Allowed Read (Units title) false (view_of name o w.same w.length) back g p → g.status ≡ 0
    → view_of (view_of name o w.same w.length) p g.same g.length ≡ name
title-kept name out back w g o p wrote fine took passed =
    let given = passed-given Encode (Units title) false name out (status-allowed Encode (Units title) false name out w o wrote fine) in
    let got = read-gives title false (view_of name o w.same w.length) back g p took passed in
    encode_injective title _ name got.0 (free name given.0) (got.2 ∙ passed-view Encode (Units title) false name out w o wrote fine)
