-- Laws of the tests on lists of bytes.
-- Assumes nothing.
use mathlib.Core.Bool.{Bool, true, false, not, ◌&&◌, ◌||◌}
use mathlib.Core.Logic.{◌⊎◌, inl, inr}
use mathlib.Core.Option.{none, some, some-injective, none-ne-some, some-ne-none}
use mathlib.Core.Path.{◌≡◌, refl, sym, ap, ◌∙◌, subst}
use mathlib.Core.List.{List, [], ◌∷◌, ◌++◌, map}
use Prim.Native.Nat.{ℕ, suc}
use native.Mathlib.Nat.{suc_inj, suc-ne-zero}
use lib.Dec.{T, eqb, eqb→eq, eqb_refl, T_not}
use lib.ListN.{length, take}
use Rattle.rules.specs.Bytes.{In, all, any, first, fits, stands, same_bytes}

pub and_left : (a b : Bool) → T (a && b) → T a
and_left true b t = tt
and_left false b t = t

pub and_right : (a b : Bool) → T (a && b) → T b
and_right true b t = t
and_right false b t = absurd t

pub and_both : (a b : Bool) → T a → T b → T (a && b)
and_both true b s t = t
and_both false b s t = s

pub or_cases : (a b : Bool) → T (a || b) → T a ⊎ T b
or_cases true b t = inl tt
or_cases false b t = inr t

pub all_in : {A : Type 0} (f : A → Bool) (xs : List A) → T (all f xs) → (a : A) → In a xs → T (f a)
all_in f [] t a i = absurd i
all_in f (x ∷ xs) t a (inl e) = subst (λ a. T (f a)) (sym e) (and_left (f x) (all f xs) t)
all_in f (x ∷ xs) t a (inr i) = all_in f xs (and_right (f x) (all f xs) t) a i

pub any-in : {A : Type 0} (f : A → Bool) (xs : List A) → T (any f xs) → (a : A) × In a xs × T (f a)
any-in f [] t = absurd t
any-in {A = A} f (x ∷ xs) t = go (or_cases (f x) (any f xs) t) (any-in f xs)
  where
    go : T (f x) ⊎ T (any f xs) → (T (any f xs) → (a : A) × In a xs × T (f a)) → (a : A) × In a (x ∷ xs) × T (f a)
    go (inl h) ih = (x, inl refl, h)
    go (inr h) ih = let (a, i, t) = ih h in (a, inr i, t)

pub or_left : (a b : Bool) → T a → T (a || b)
or_left true b t = tt
or_left false b t = absurd t

pub or_right : (a b : Bool) → T b → T (a || b)
or_right true b t = tt
or_right false b t = t

pub any-intro : {A : Type 0} (f : A → Bool) (xs : List A) (a : A) → In a xs → T (f a) → T (any f xs)
any-intro f [] a i t = i
any-intro f (x ∷ xs) a (inl e) t = or_left (f x) (any f xs) (subst (λ a. T (f a)) e t)
any-intro f (x ∷ xs) a (inr i) t = or_right (f x) (any f xs) (any-intro f xs a i t)

-- no two entries of the list can fit the same bytes, by a test
abbrev pub distinct : {E : Type 0} → (E → E → Bool) → List E → Bool
distinct apart [] = true
distinct apart (e ∷ es) = all (apart e) es && distinct apart es

module _ {E : Type 0} (fit : E → List ℕ → Bool) where
  pub first-sound : (es : List E) (s : List ℕ) (e : E) → first fit es s ≡ some e → In e es × T (fit e s)
  first-sound [] s e p = absurd (none-ne-some e p)
  first-sound (x ∷ es) s e p = go (fit x s) refl (first-sound es s e)
    where
      go : (b : Bool) → fit x s ≡ b → (first fit es s ≡ some e → In e es × T (fit e s)) → In e (x ∷ es) × T (fit e s)
      go true q ih =
          let w : x ≡ e = some-injective x e (sym (rw (q, first) refl) ∙ p) in
          (inl (sym w), subst (λ e. T (fit e s)) w (subst T (sym q) tt))
      go false q ih = let (i, t) = ih (sym (rw (q, first) refl) ∙ p) in (inr i, t)

  first-yes : (x : E) (es : List E) (s : List ℕ) → T (fit x s) → first fit (x ∷ es) s ≡ some x
  first-yes x es s t = go (fit x s) refl t
    where
      go : (b : Bool) → fit x s ≡ b → T b → first fit (x ∷ es) s ≡ some x
      go true q t = rw (q, first)
      go false q t = absurd t

  first-no : (x : E) (es : List E) (s : List ℕ) → (T (fit x s) → ⊥) → first fit (x ∷ es) s ≡ first fit es s
  first-no x es s h = go (fit x s) refl
    where
      go : (b : Bool) → fit x s ≡ b → first fit (x ∷ es) s ≡ first fit es s
      go true q = absurd (h (subst T (sym q) tt))
      go false q = rw (q, first)

  pub first-none : (es : List E) (s : List ℕ) → ((e : E) → In e es → T (fit e s) → ⊥) → first fit es s ≡ none
  first-none [] s h = refl
  first-none (x ∷ es) s h = first-no x es s (h x (inl refl)) ∙ first-none es s (λ e i. h e (inr i))

  pub none-fits : (es : List E) (s : List ℕ) → first fit es s ≡ none → (e : E) → In e es → T (fit e s) → ⊥
  none-fits [] s p e i t = i
  none-fits (x ∷ es) s p e (inl q) t = some-ne-none x (sym (first-yes x es s (subst (λ e. T (fit e s)) q t)) ∙ p)
  none-fits (x ∷ es) s p e (inr i) t = go (fit x s) refl (λ q. none-fits es s q e i t)
    where
      go : (b : Bool) → fit x s ≡ b → (first fit es s ≡ none → ⊥) → ⊥
      go true q rest = some-ne-none x (sym (first-yes x es s (subst T (sym q) tt)) ∙ p)
      go false q rest = rest (sym (first-no x es s (λ t. subst T q t)) ∙ p)

  -- an entry that fits is the first, if no two can fit
  pub first-in : (apart : E → E → Bool) → ((a b : E) (s : List ℕ) → T (apart a b) → T (fit a s) → T (fit b s) → ⊥)
      → (es : List E) → T (distinct apart es) → (e : E) (s : List ℕ) → In e es → T (fit e s) → first fit es s ≡ some e
  first-in apart law [] d e s i t = absurd i
  first-in apart law (x ∷ es) d e s (inl q) t = subst (λ y. first fit (x ∷ es) s ≡ some y) (sym q) (first-yes x es s (subst (λ e. T (fit e s)) q t))
  first-in apart law (x ∷ es) d e s (inr i) t =
      first-no x es s (λ h. law x e s (all_in (apart x) es (and_left (all (apart x) es) (distinct apart es) d) e i) h t)
      ∙ first-in apart law es (and_right (all (apart x) es) (distinct apart es) d) e s i t

abbrev pub apart : {B : Type 0} → (B → B → Bool) → List B → List B → Bool
apart d [] qs = false
apart d (p ∷ ps) [] = false
apart d (p ∷ ps) (q ∷ qs) = d p q || apart d ps qs

module _ {B : Type 0} (m : B → ℕ → Bool) where
  pub fits-append : (ps : List B) (s r : List ℕ) → T (fits m ps s) → T (fits m ps (s ++ r))
  fits-append [] s r t = tt
  fits-append (p ∷ ps) [] r t = absurd t
  fits-append (p ∷ ps) (x ∷ xs) r t =
      and_both (m p x) (fits m ps (xs ++ r)) (and_left (m p x) (fits m ps xs) t) (fits-append ps xs r (and_right (m p x) (fits m ps xs) t))

  pub fits-take : (ps : List B) (s : List ℕ) → T (fits m ps s) → T (fits m ps (take (length ps) s))
  fits-take [] s t = tt
  fits-take (p ∷ ps) [] t = absurd t
  fits-take (p ∷ ps) (x ∷ xs) t =
      and_both (m p x) (fits m ps (take (length ps) xs)) (and_left (m p x) (fits m ps xs) t) (fits-take ps xs (and_right (m p x) (fits m ps xs) t))

  pub fits-length : (ps : List B) (s : List ℕ) → T (fits m ps s) → length (take (length ps) s) ≡ length ps
  fits-length [] s t = refl
  fits-length (p ∷ ps) [] t = absurd t
  fits-length (p ∷ ps) (x ∷ xs) t = ap suc (fits-length ps xs (and_right (m p x) (fits m ps xs) t))

  pub apart-law : (d : B → B → Bool) → ((p q : B) (x : ℕ) → T (d p q) → T (m p x) → T (m q x) → ⊥)
      → (ps qs : List B) (s : List ℕ) → T (apart d ps qs) → T (fits m ps s) → T (fits m qs s) → ⊥
  apart-law d law [] qs s a t u = a
  apart-law d law (p ∷ ps) [] s a t u = a
  apart-law d law (p ∷ ps) (q ∷ qs) [] a t u = t
  apart-law d law (p ∷ ps) (q ∷ qs) (x ∷ xs) a t u = go (or_cases (d p q) (apart d ps qs) a)
      (λ h. apart-law d law ps qs xs h (and_right (m p x) (fits m ps xs) t) (and_right (m q x) (fits m qs xs) u))
    where
      go : T (d p q) ⊎ T (apart d ps qs) → (T (apart d ps qs) → ⊥) → ⊥
      go (inl h) ih = law p q x h (and_left (m p x) (fits m ps xs) t) (and_left (m q x) (fits m qs xs) u)
      go (inr h) ih = ih h

pub stands_self : (v r : List ℕ) → T (stands v (v ++ r))
stands_self [] r = tt
stands_self (x ∷ v) r = and_both (eqb x x) (stands v (v ++ r)) (eqb_refl x) (stands_self v r)

pub stands-split : (v s : List ℕ) → T (stands v s) → (r : List ℕ) × (s ≡ v ++ r)
stands-split [] s t = (s, refl)
stands-split (x ∷ v) [] t = absurd t
stands-split (x ∷ v) (y ∷ s) t =
    let (r, e) = stands-split v s (and_right (eqb x y) (stands v s) t) in
    (r, λ i. sym (eqb→eq x y (and_left (eqb x y) (stands v s) t)) i ∷ e i)

abbrev pub differ : List ℕ → List ℕ → Bool
differ u v = apart (λ a b. not (eqb a b)) u v

pub differ-law : (u v s : List ℕ) → T (differ u v) → T (stands u s) → T (stands v s) → ⊥
differ-law u v s = apart-law eqb (λ a b. not (eqb a b))
    (λ p q x d t h. T_not (eqb p q) d (subst (λ (z : ℕ). T (eqb p z)) (eqb→eq p x t ∙ sym (eqb→eq q x h)) (eqb_refl p))) u v s

pub is_false : (b : Bool) → (T b → ⊥) → b ≡ false
is_false true h = absurd (h tt)
is_false false h = refl

pub or-false : (b : Bool) → T (b || false) → T b
or-false true t = tt
or-false false t = absurd t

pub same_bytes_lem : (a b : List ℕ) → T (same_bytes a b) → a ≡ b
same_bytes_lem [] [] t = refl
same_bytes_lem [] (y ∷ b) t = absurd t
same_bytes_lem (x ∷ a) [] t = absurd t
same_bytes_lem (x ∷ a) (y ∷ b) t = λ i. eqb→eq x y (and_left (eqb x y) (same_bytes a b) t) i ∷ same_bytes_lem a b (and_right (eqb x y) (same_bytes a b) t) i

pub same_in : (a : List ℕ) (bs : List (List ℕ)) → T (any (same_bytes a) bs) → In a bs
same_in a [] t = absurd t
same_in a (b ∷ bs) t = go (or_cases (same_bytes a b) (any (same_bytes a) bs) t) (same_in a bs)
  where
    go : T (same_bytes a b) ⊎ T (any (same_bytes a) bs) → (T (any (same_bytes a) bs) → In a bs) → In a (b ∷ bs)
    go (inl h) ih = inl (same_bytes_lem a b h)
    go (inr h) ih = inr (ih h)

pub same_refl : (a : List ℕ) → T (same_bytes a a)
same_refl [] = tt
same_refl (x ∷ a) = and_both (eqb x x) (same_bytes a a) (eqb_refl x) (same_refl a)

pub in-same : (a : List ℕ) (bs : List (List ℕ)) → In a bs → T (any (same_bytes a) bs)
in-same a bs i = any-intro (same_bytes a) bs a i (same_refl a)

pub in-append : {A : Type 0} (a : A) (xs ys : List A) → In a (xs ++ ys) → In a xs ⊎ In a ys
in-append a [] ys i = inr i
in-append a (x ∷ xs) ys (inl e) = inl (inl e)
in-append a (x ∷ xs) ys (inr i) = go (in-append a xs ys i)
  where
    go : In a xs ⊎ In a ys → In a (x ∷ xs) ⊎ In a ys
    go (inl j) = inl (inr j)
    go (inr j) = inr j

pub in_right : {A : Type 0} (a : A) (xs ys : List A) → In a ys → In a (xs ++ ys)
in_right a [] ys i = i
in_right a (x ∷ xs) ys i = inr (in_right a xs ys i)

pub in_map : {A B : Type 0} (f : A → B) (b : B) (xs : List A) → In b (map f xs) → (a : A) × In a xs × (b ≡ f a)
in_map f b [] i = absurd i
in_map f b (x ∷ xs) (inl e) = (x, inl refl, e)
in_map f b (x ∷ xs) (inr i) = let (a, j, e) = in_map f b xs i in (a, inr j, e)

pub map-in : {A B : Type 0} (f : A → B) (a : A) (xs : List A) → In a xs → In (f a) (map f xs)
map-in f a [] i = i
map-in f a (x ∷ xs) (inl e) = inl (ap f e)
map-in f a (x ∷ xs) (inr i) = inr (map-in f a xs i)

pub length-pos : (s : List ℕ) (k : ℕ) → length s ≡ suc k → (x : ℕ) × (xs : List ℕ) × (s ≡ x ∷ xs) × (length xs ≡ k)
length-pos [] k e = absurd (suc-ne-zero k (sym e))
length-pos (x ∷ xs) k e = (x, xs, refl, suc_inj e)
