-- What a test of a pattern at the start of a text says, and the name of a closing tag.
-- Assumes nothing.
use mathlib.Core.Bool.{Bool, true, false, ◌&&◌, ◌||◌, cond, and-true, and-false}
use mathlib.Core.Path.{◌≡◌, refl, sym, ap, ◌∙◌}
use mathlib.Core.List.{List, [], ◌∷◌, map}
use Prim.Native.Nat.{ℕ, ◌+◌, ◌-◌, ◌≤◌, ◌<◌}
use native.Mathlib.Numerals.{add-one}
use borrow.Author.Tests.{eq-eqb}
use lib.Dec.{eqb, eqb-suc-zero, eqb-suc-suc}
use lib.ListN.{length, drop, get_or, drop_of_length-le}
use lib.Seq.{drop-cons}
use Rattle.std.specs.List.{starts_with}
use Rattle.rules.specs.Bytes.{fits, stands, inside, one_of}
use Rattle.rules.specs.Encoding.{any_case, terminators, closes, closes_at_end}
use Rattle.base.specs.Closing.{named}

-- What a slice's `starts_with` says is that the pattern stands there.
pub starts-stands : (p s : List ℕ) → starts_with eqb s p ≡ stands p s
starts-stands [] s = refl
starts-stands (x ∷ p) [] = refl
starts-stands (x ∷ p) (y ∷ s) = ap (λ (b : Bool). eqb x y && b) (starts-stands p s)

-- ---- a name in any letter case, and what ends it

-- A byte is one of the cases of itself.
pub same_case : (a : ℕ) → one_of (any_case a) a ≡ true
same_case a = go (inside (97, 122) a)
  where
    go : (t : Bool) → one_of (cond t (a ∷ (a - 32) ∷ []) (a ∷ [])) a ≡ true
    go true = rw (eq-eqb a a refl)
    go false = rw (eq-eqb a a refl)

-- Named is what the rules say: a terminator follows, or the text ends where that counts.
pub named-closes : (last : Bool) (name s : List ℕ) → named last name s ≡ (closes name s || (last && closes_at_end name s))
named-closes last [] [] = sym (and-true last)
named-closes last [] (b ∷ s) = go (one_of terminators b) (sym (and-false last) ∙ ap (λ (x : Bool). last && x) (sym (eqb-suc-zero (length s))))
  where
    go : (x : Bool) {y : Bool} → false ≡ y → x ≡ (x && true) || y
    go true e = refl
    go false e = e
named-closes last (a ∷ name) [] = sym (and-false last)
named-closes last (a ∷ name) (b ∷ s) =
    ap (λ (x : Bool). one_of (any_case a) b && x) (named-closes last name s)
    ∙ go (one_of (any_case a) b) (closes name s) (fits one_of (map any_case name) s)
    ∙ ap (λ (x : Bool). (one_of (any_case a) b && closes name s) || (last && ((one_of (any_case a) b && fits one_of (map any_case name) s) && x))) (sym (eqb-suc-suc (length s) (length name)))
  where
    go : (p x f : Bool) → (p && (x || (last && (f && eqb (length s) (length name))))) ≡ ((p && x) || (last && ((p && f) && eqb (length s) (length name))))
    go true x f = refl
    go false x f = sym (and-false last)

-- ---- what the loop over the name needs

module _ (last : Bool) (name s : List ℕ) (i : ℕ) where
  unfold-named : i < length name → i < length s → named last (drop i name) (drop i s) ≡ (one_of (any_case (get_or name i 0)) (get_or s i 0) && named last (drop (i + 1) name) (drop (i + 1) s))
  unfold-named h k = rw (add-one, drop-cons name i 0 h, drop-cons s i 0 k)

  pub named-off : i < length name → i < length s → one_of (any_case (get_or name i 0)) (get_or s i 0) ≡ false → named last (drop i name) (drop i s) ≡ false
  named-off h k e = unfold-named h k ∙ ap (λ (b : Bool). b && named last (drop (i + 1) name) (drop (i + 1) s)) e

  pub named-short : i < length name → length s ≤ i → named last (drop i name) (drop i s) ≡ false
  named-short h k = rw (drop-cons name i 0 h, drop_of_length-le s k)

  pub named_end : length name ≤ i → length s ≤ i → named last (drop i name) (drop i s) ≡ last
  named_end h k = rw (drop_of_length-le name h, drop_of_length-le s k)

  pub named-last : length name ≤ i → i < length s → named last (drop i name) (drop i s) ≡ one_of terminators (get_or s i 0)
  named-last h k = rw (drop_of_length-le name h, drop-cons s i 0 k)
