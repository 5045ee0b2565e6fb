-- The references that the HTML contexts write are read back by every place that reads references, whatever follows: each row is looked up once for each
-- kind of place.
-- Assumes nothing.
use mathlib.Core.Bool.{Bool, false, ◌&&◌, cond}
use mathlib.Core.Option.{Option, none, some}
use mathlib.Core.Path.{◌≡◌, refl, sym, ap, ◌∙◌, subst}
use mathlib.Core.List.{List, [], ◌∷◌, ◌++◌}
use Prim.Native.Nat.{ℕ}
use lib.Dec.{T, eqb, eqb→eq}
use lib.ListN.{length}
use Rattle.rules.specs.Bytes.{all, any, same_bytes}
use Rattle.rules.specs.Moves.{swap}
use Rattle.rules.specs.Utf8.{substitute}
use Rattle.rules.specs.Tables.{Row, key, value, html_rows}
use Rattle.rules.specs.Names.{names}
use Rattle.rules.specs.Bare.{bare}
use Rattle.rules.specs.References.{renumbering}
use Rattle.rules.specs.Browsing.{identifiers, reference_at, at_amp}
use Rattle.rules.specs.declared.Html.TheVariants.{Unquoted}
use Rattle.rules.specs.declared.Kind.{Kind}
use Rattle.rules.specs.declared.Kind.TheVariants.{InText, InAttribute}
use Rattle.rules.proofs.Tests.{and_left, and_right, all_in, any-in, same_bytes_lem}
use Rattle.rules.proofs.Machine.{Makes}
use Rattle.places.specs.Places.{Place, entry_at, act_on, refers, after_amp, place_step}
use Rattle.contained.proofs.Settled.{amp_settled, reference-settled}

-- ---- a reference

-- Where the reference s ++ r behind an `&` is the bytes s, whatever r is, the place takes `&` and s, and gives what it stands for.
pub reference-made : (p : Place) (kind : Kind) → p.references ≡ some kind → (s v r : List ℕ) → reference_at kind (s ++ r) ≡ some (s, v) → Makes (place_step p) (swap (38 ∷ s) v) r
unfolding place_step
reference-made p kind e s v r f = (
  length s,
  refl,
  λ q. ap (λ (o : Option Kind). cond (refers o 38) (after_amp o (s ++ r)) (act_on (entry_at p.entries (38 ∷ (s ++ r))) (38 ∷ (s ++ r)))) e ∙ ap at_amp f,
)

-- ---- the rows of the HTML contexts

-- What a reference to k gives: U+FFFD for NUL, and k otherwise.
abbrev pub meant : List ℕ → List ℕ
meant k = cond (same_bytes k (0 ∷ [])) substitute k

abbrev is_row : Option Row → List ℕ → List ℕ → Bool
is_row none s v = false
is_row (some row) s v = same_bytes (key row) s && same_bytes (value row) v

is-row : (o : Option Row) (s v : List ℕ) → T (is_row o s v) → o ≡ some (s, v)
is-row none s v t = absurd t
is-row (some row) s v t =
    λ i. some (same_bytes_lem (key row) s (and_left (same_bytes (key row) s) (same_bytes (value row) v) t) i, same_bytes_lem (value row) v (and_right (same_bytes (key row) s) (same_bytes (value row) v) t) i)

-- What stands behind the `&` of the written form is read as the whole reference.
abbrev reads : Kind → List ℕ → List ℕ → Bool
reads kind k [] = false
reads kind k (b ∷ s) = eqb b 38 && (amp_settled s && is_row (reference_at kind s) s (meant k))

abbrev reads_row : Kind → Row → Bool
reads_row kind e = reads kind (key e) (value e)

units-read : (kind : Kind) → T (all (reads_row kind) (html_rows Unquoted))
unfolding names bare identifiers renumbering
units-read InText = tt
units-read InAttribute = tt

-- The row is one of theirs, and the place reads references. (The rows of the other HTML contexts are among those of `unquoted`.)
abbrev same_row : Row → Row → Bool
same_row e f = same_bytes (key e) (key f) && same_bytes (value e) (value f)

abbrev pub known : Option Kind → Row → Bool
known none e = false
known (some kind) e = any (same_row e) (html_rows Unquoted)

same_row_lem : (e f : Row) → T (same_row e f) → e ≡ f
same_row_lem e f t =
    let k = same_bytes (key e) (key f) in
    let v = same_bytes (value e) (value f) in
    λ i. (same_bytes_lem (key e) (key f) (and_left k v t) i, same_bytes_lem (value e) (value f) (and_right k v t) i)

known-reads : (kind : Kind) (e : Row) → T (any (same_row e) (html_rows Unquoted)) → T (reads_row kind e)
known-reads kind e t =
    let (g, i, s) = any-in (same_row e) (html_rows Unquoted) t in
    subst (λ (x : Row). T (reads_row kind x)) (sym (same_row_lem e g s)) (all_in (reads_row kind) (html_rows Unquoted) (units-read kind) g i)

pub known-made : (p : Place) (e : Row) → T (known p.references e) → (r : List ℕ) → Makes (place_step p) (swap (value e) (meant (key e))) r
known-made p e t r = kinds p.references refl t
  where
    go : (kind : Kind) → p.references ≡ some kind → (v : List ℕ) → T (reads kind (key e) v) → Makes (place_step p) (swap v (meant (key e))) r
    go kind q [] u = absurd u
    go kind q (b ∷ s) u =
        let row = is_row (reference_at kind s) s (meant (key e)) in
        let w = and_right (eqb b 38) (amp_settled s && row) u in
        subst (λ (x : ℕ). Makes (place_step p) (swap (x ∷ s) (meant (key e))) r) (sym (eqb→eq b 38 (and_left (eqb b 38) (amp_settled s && row) u)))
        (reference-made p kind q s (meant (key e)) r (reference-settled kind s r (and_left (amp_settled s) row w) ∙ is-row (reference_at kind s) s (meant (key e)) (and_right (amp_settled s) row w)))

    kinds : (o : Option Kind) → p.references ≡ o → T (known o e) → Makes (place_step p) (swap (value e) (meant (key e))) r
    kinds none q t = absurd t
    kinds (some kind) q t = go kind q (value e) (known-reads kind e t)
