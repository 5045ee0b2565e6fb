-- The name of a character: the computed one is the one in words, since "shorter, or as long and not after by bytes" is an order of all names.
-- Assumes nothing.
use mathlib.Core.Bool.{Bool, true, false, not, ◌&&◌}
use mathlib.Core.Logic.{◌⊎◌, inl, inr, ◌↔◌}
use mathlib.Core.Option.{Option, none, some, some-injective, none-ne-some}
use mathlib.Core.Path.{◌≡◌, refl, sym, ap, ◌∙◌, subst}
use mathlib.Core.List.{List, [], ◌∷◌}
use Prim.Native.Nat.{ℕ, ◌<◌}
use native.Mathlib.Omega.{arith}
use borrow.Author.Tests.{lt-ltb, le-ltb, eq-eqb, ltb-true, ltb-false}
use lib.Dec.{T, eqb, ltb, eqb→eq, ltb→lt}
use lib.ListN.{length}
use Rattle.rules.specs.Bytes.{In, best, same_bytes}
use Rattle.rules.specs.Tables.{Row, key, value}
use Rattle.rules.specs.Names.{names, below}
use Rattle.rules.specs.Ascii.{is_before, IsNameOf, key_of, name_in, name_of}
use Rattle.rules.proofs.Tests.{and_left, and_right, or_cases, is_false, same_bytes_lem, same_refl}
use Rattle.rules.proofs.Best.{Prefers, best-in, best-over, best_none}
use Rattle.rules.proofs.Order.{below-head, below_rest, below_self, below-trans}

-- ---- the order of names

-- Of two names one comes before the other by bytes, or they are the same.
below_both : (a b : List ℕ) → T (below a b) ⊎ ((a ≡ b) ⊎ T (below b a))
below_both [] [] = inr (inl refl)
below_both [] (y ∷ b) = inl tt
below_both (x ∷ a) [] = inr (inr tt)
below_both (x ∷ a) (y ∷ b) = go (ltb x y) refl (ltb y x) refl (below_both a b)
  where
    same : ltb x y ≡ false → ltb y x ≡ false → x ≡ y
    same e f = let h = ltb-false x y e in let k = ltb-false y x f in omega arith

    go : (p : Bool) → ltb x y ≡ p → (q : Bool) → ltb y x ≡ q → T (below a b) ⊎ ((a ≡ b) ⊎ T (below b a))
        → T (below (x ∷ a) (y ∷ b)) ⊎ ((x ∷ a ≡ y ∷ b) ⊎ T (below (y ∷ b) (x ∷ a)))
    go true e q f h = inl (below-head x y a b (ltb-true x y e))
    go false e true f h = inr (inr (below-head y x b a (ltb-true y x f)))
    go false e false f (inl h) = inl (below_rest x y a b (same e f) h)
    go false e false f (inr (inl h)) = inr (inl (λ i. same e f i ∷ h i))
    go false e false f (inr (inr h)) = inr (inr (below_rest y x b a (sym (same e f)) h))

-- What the test says.
abbrev Before : List ℕ → List ℕ → Type 0
Before n m = (length n < length m) ⊎ ((length n ≡ length m) × (T (below m n) → ⊥))

pub before-says : (n m : List ℕ) → T (is_before n m) → Before n m
before-says n m t = go (or_cases (ltb (length n) (length m)) (eqb (length n) (length m) && not (below m n)) t)
  where
    denied : (b : Bool) → T (not b) → T b → ⊥
    denied true s t = s
    denied false s t = t

    go : T (ltb (length n) (length m)) ⊎ T (eqb (length n) (length m) && not (below m n)) → Before n m
    go (inl h) = inl (ltb→lt (length n) (length m) h)
    go (inr h) = inr (
      eqb→eq (length n) (length m) (and_left (eqb (length n) (length m)) (not (below m n)) h),
      denied (below m n) (and_right (eqb (length n) (length m)) (not (below m n)) h),
    )

says-before : (n m : List ℕ) → Before n m → T (is_before n m)
says-before n m (inl h) = rw (lt-ltb (length n) (length m) h) tt
says-before n m (inr h) = rw (le-ltb (length n) (length m) (omega (arith, h.0)), eq-eqb (length n) (length m) h.0, is_false (below m n) h.1) tt

before-total : (x y : List ℕ) → is_before x y ≡ false → T (is_before y x)
before-total x y e = says-before y x (go (ltb (length y) (length x)) refl (ltb (length x) (length y)) refl)
  where
    never : Before x y → ⊥
    never b = subst T e (says-before x y b)

    go : (p : Bool) → ltb (length y) (length x) ≡ p → (q : Bool) → ltb (length x) (length y) ≡ q → Before y x
    go true f q g = inl (ltb-true (length y) (length x) f)
    go false f true g = absurd (never (inl (ltb-true (length x) (length y) g)))
    go false f false g =
        let h = ltb-false (length y) (length x) f in
        let k = ltb-false (length x) (length y) g in
        inr (omega arith, λ t. never (inr (omega arith, λ u. below_self x (below-trans x y x t u))))

before-trans : (x y z : List ℕ) → Before x y → Before y z → Before x z
before-trans x y z (inl h) (inl k) = inl (omega arith)
before-trans x y z (inl h) (inr k) = inl (omega (arith, h, k.0))
before-trans x y z (inr h) (inl k) = inl (omega (arith, h.0, k))
before-trans x y z (inr h) (inr k) = inr (h.0 ∙ k.0, λ t. go (below_both y x) t)
  where
    go : T (below y x) ⊎ ((y ≡ x) ⊎ T (below x y)) → T (below z x) → ⊥
    go (inl u) t = h.1 u
    go (inr (inl u)) t = k.1 (subst (λ (v : List ℕ). T (below z v)) (sym u) t)
    go (inr (inr u)) t = k.1 (below-trans z x y t u)

-- Two names that are each before the other are the same.
before-both : (n m : List ℕ) → Before n m → Before m n → n ≡ m
before-both n m (inl h) (inl k) = absurd (let f : ⊥ = omega arith in f)
before-both n m (inl h) (inr k) = absurd (let f : ⊥ = omega (arith, h, k.0) in f)
before-both n m (inr h) (inl k) = absurd (let f : ⊥ = omega (arith, h.0, k) in f)
before-both n m (inr h) (inr k) = go (below_both n m)
  where
    go : T (below n m) ⊎ ((n ≡ m) ⊎ T (below m n)) → n ≡ m
    go (inl u) = absurd (k.1 u)
    go (inr (inl u)) = u
    go (inr (inr u)) = absurd (h.1 u)

abbrev over : Row → Row → Bool
over x y = is_before (key x) (key y)

first_of : Prefers over
first_of = record {
  self = λ x. says-before (key x) (key x) (inr (refl, below_self (key x)));
  total = λ x y. before-total (key x) (key y);
  trans = λ x y z s t. says-before (key x) (key z) (before-trans (key x) (key y) (key z) (before-says (key x) (key y) s) (before-says (key y) (key z) t));
}

-- ---- the name in words and the name that is computed, over any table

abbrev pub IsNameIn : List Row → List ℕ → List ℕ → Type 0
IsNameIn table n a = In (n, a) table × ((m : List ℕ) → In (m, a) table → T (is_before n m))

module _ (table : List Row) (a : List ℕ) where
  abbrev fit : Row → Bool
  fit row = same_bytes (value row) a

  pub name_in_lem : (n : List ℕ) → name_in table a ≡ some n → IsNameIn table n a
  name_in_lem n e = go (best over fit table) refl e
    where
      go : (o : Option Row) → best over fit table ≡ o → key_of o ≡ some n → IsNameIn table n a
      go none p q = absurd (none-ne-some n q)
      go (some row) p q =
          let (i, t) = best-in over fit table row p in
          let w : row ≡ (n, a) = λ j. (some-injective (key row) n q j, same_bytes_lem (value row) a t j) in (
            subst (λ (r : Row). In r table) w i,
            λ m k. subst (λ (l : List ℕ). T (is_before l m)) (some-injective (key row) n q) (best-over over fit first_of table row p (m, a) k (same_refl a)),
          )

  pub in-name : (n : List ℕ) → IsNameIn table n a → name_in table a ≡ some n
  in-name n h = go (best over fit table) refl
    where
      go : (o : Option Row) → best over fit table ≡ o → name_in table a ≡ some n
      go none p = absurd (best_none over fit table p (n, a) h.0 (same_refl a))
      go (some row) p =
          let e : name_in table a ≡ some (key row) = ap key_of p in
          let (i, most) = name_in_lem (key row) e in
          e ∙ ap some (before-both (key row) n (before-says (key row) n (most n h.0)) (before-says n (key row) (h.1 (key row) i)))

  -- Where none is computed the table has no name for the character.
  pub no_name : name_in table a ≡ none → (n : List ℕ) → In (n, a) table → ⊥
  no_name e n i = go (best over fit table) refl e
    where
      go : (o : Option Row) → best over fit table ≡ o → key_of o ≡ none → ⊥
      go none p q = best_none over fit table p (n, a) i (same_refl a)
      go (some row) p q = none-ne-some (key row) (sym q)

-- The name that is computed is the name in words, and the only one.
pub name-iff : (a n : List ℕ) → (name_of a ≡ some n) ↔ IsNameOf n a
unfolding name_of
name-iff a n = (name_in_lem names a n, in-name names a n)

-- Where there is none the table has no name for exactly that character.
pub name-none : (a : List ℕ) → name_of a ≡ none → (n : List ℕ) → In (n, a) names → ⊥
unfolding name_of
name-none a = no_name names a
