-- The preferred entry is one of the list, passes the test, and is preferred to every other that does; where there is none, none passes.
-- Assumes nothing.
use mathlib.Core.Bool.{Bool, true, false}
use mathlib.Core.Logic.{◌⊎◌, inl, inr}
use mathlib.Core.Option.{Option, none, some, some-injective, none-ne-some, some-ne-none}
use mathlib.Core.Path.{◌≡◌, refl, sym, ◌∙◌, subst}
use mathlib.Core.List.{List, [], ◌∷◌}
use lib.Dec.{T}
use Rattle.rules.specs.Bytes.{In, pick, best}

-- A preference: of any two entries one is preferred to the other, each to itself, and it goes on.
pub record Prefers {A : Type 0} (over : A → A → Bool) : Type 0 where
  pub self : (x : A) → T (over x x)
  pub total : (x y : A) → over x y ≡ false → T (over y x)
  pub trans : (x y z : A) → T (over x y) → T (over y z) → T (over x z)

module _ {A : Type 0} (over : A → A → Bool) (fits : A → Bool) where
  pub best-in : (xs : List A) (b : A) → best over fits xs ≡ some b → In b xs × T (fits b)
  best-in [] b e = absurd (none-ne-some b e)
  best-in (x ∷ xs) b e = go (fits x) refl (best over fits xs) refl (best-in xs) e
    where
      chosen : (y : A) (t : Bool) → fits x ≡ true → In y xs × T (fits y) → elim t [ true ↦ x | false ↦ y ] ≡ b → In b (x ∷ xs) × T (fits b)
      chosen y true q h e = (inl (sym e), subst (λ (z : A). T (fits z)) e (subst T (sym q) tt))
      chosen y false q h e = (inr (subst (λ (z : A). In z xs) e h.0), subst (λ (z : A). T (fits z)) e h.1)

      go : (t : Bool) → fits x ≡ t → (o : Option A) → best over fits xs ≡ o → ((b : A) → best over fits xs ≡ some b → In b xs × T (fits b))
          → elim t [ true ↦ some (pick over x o) | false ↦ o ] ≡ some b → In b (x ∷ xs) × T (fits b)
      go true q none f ih e = let w : x ≡ b = some-injective x b e in (inl (sym w), subst (λ (z : A). T (fits z)) w (subst T (sym q) tt))
      go true q (some y) f ih e = chosen y (over x y) q (ih y f) (some-injective (pick over x (some y)) b e)
      go false q o f ih e = let (i, t) = ih b (f ∙ e) in (inr i, t)

  pub best_none : (xs : List A) → best over fits xs ≡ none → (a : A) → In a xs → T (fits a) → ⊥
  best_none [] e a i t = i
  best_none (x ∷ xs) e a i t = go (fits x) refl i (λ f j. best_none xs f a j t) e
    where
      go : (s : Bool) → fits x ≡ s → (a ≡ x) ⊎ In a xs → (best over fits xs ≡ none → In a xs → ⊥)
          → ◌≡◌ {A = Option A} (elim s [ true ↦ some (pick over x (best over fits xs)) | false ↦ best over fits xs ]) none → ⊥
      go true q i ih e = some-ne-none (pick over x (best over fits xs)) e
      go false q (inl j) ih e = subst T q (subst (λ (z : A). T (fits z)) j t)
      go false q (inr j) ih e = ih e j

  module _ (p : Prefers over) where
    pub best-over : (xs : List A) (b : A) → best over fits xs ≡ some b → (a : A) → In a xs → T (fits a) → T (over b a)
    best-over [] b e a i t = absurd i
    best-over (x ∷ xs) b e a i t = go (fits x) refl (best over fits xs) refl (λ c f j. best-over xs c f a j t) i e
      where
        chosen : (y : A) (s : Bool) → over x y ≡ s → (In a xs → T (over y a)) → (a ≡ x) ⊎ In a xs → elim s [ true ↦ x | false ↦ y ] ≡ b → T (over b a)
        chosen y true q h (inl j) e = subst (λ (z : A). T (over z a)) e (subst (λ (z : A). T (over x z)) (sym j) (p.self x))
        chosen y true q h (inr j) e = subst (λ (z : A). T (over z a)) e (p.trans x y a (subst T (sym q) tt) (h j))
        chosen y false q h (inl j) e = subst (λ (z : A). T (over z a)) e (subst (λ (z : A). T (over y z)) (sym j) (p.total x y q))
        chosen y false q h (inr j) e = subst (λ (z : A). T (over z a)) e (h j)

        alone : best over fits xs ≡ none → (a ≡ x) ⊎ In a xs → x ≡ b → T (over b a)
        alone f (inl j) w = subst (λ (z : A). T (over z a)) w (subst (λ (z : A). T (over x z)) (sym j) (p.self x))
        alone f (inr j) w = absurd (best_none xs f a j t)

        go : (s : Bool) → fits x ≡ s → (o : Option A) → best over fits xs ≡ o → ((c : A) → best over fits xs ≡ some c → In a xs → T (over c a)) → (a ≡ x) ⊎ In a xs
            → elim s [ true ↦ some (pick over x o) | false ↦ o ] ≡ some b → T (over b a)
        go true q none f ih i e = alone f i (some-injective x b e)
        go true q (some y) f ih i e = chosen y (over x y) refl (ih y f) i (some-injective (pick over x (some y)) b e)
        go false q o f ih (inl j) e = absurd (subst T q (subst (λ (z : A). T (fits z)) j t))
        go false q o f ih (inr j) e = ih b (f ∙ e) j
