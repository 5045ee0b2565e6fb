-- The last arm of a match on a number knows that the number is none of the keys, and so it is in no pair.
-- Assumes nothing.
use mathlib.Core.Bool.{Bool, cond}
use mathlib.Core.Logic.{inl, inr}
use mathlib.Core.Path.{◌≡◌, refl, ap, ◌∙◌}
use mathlib.Core.List.{List, [], ◌∷◌, map}
use Prim.Native.Nat.{ℕ}
use borrow.Author.Tests.{ne_eqb}
use Rattle.rules.specs.Bytes.{In}
use Rattle.names_search.specs.Pairs.{beside}

-- What it knows: beside A, that n is none of the keys.
abbrev pub Rest : ℕ → Type 0 → List ℕ → Type 0
Rest n A [] = A
Rest n A (k ∷ ks) = Rest n (A × (n ≡ k → ⊥)) ks

rest-first : (n : ℕ) (A : Type 0) (ks : List ℕ) → Rest n A ks → A
rest-first n A [] r = r
rest-first n A (k ∷ ks) r = (rest-first n (A × (n ≡ k → ⊥)) ks r).0

pub rest-none : (n : ℕ) (A : Type 0) (ks : List ℕ) → Rest n A ks → In n ks → ⊥
rest-none n A [] r i = i
rest-none n A (k ∷ ks) r (inl e) = (rest-first n (A × (n ≡ k → ⊥)) ks r).1 e
rest-none n A (k ∷ ks) r (inr i) = rest-none n (A × (n ≡ k → ⊥)) ks r i

-- A number that is in no pair has nothing beside it.
pub beside-out : {A : Type 0} (other : A) (pairs : List (ℕ × A)) (n : ℕ) → (In n (map (λ (pair : ℕ × A). pair.0) pairs) → ⊥) → beside other pairs n ≡ other
beside-out other [] n h = refl
beside-out other (pair ∷ pairs) n h =
    ap (λ (b : Bool). cond b pair.1 (beside other pairs n)) (ne_eqb n pair.0 (λ e. h (inl e))) ∙ beside-out other pairs n (λ i. h (inr i))
