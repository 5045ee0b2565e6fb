-- The order of names goes by bytes: no name comes before itself. So in a table that rises each name is looked up to the value beside it.
-- Assumes nothing.
use mathlib.Core.Bool.{Bool, true, false, ◌&&◌}
use mathlib.Core.Logic.{◌⊎◌, inl, inr}
use mathlib.Core.Option.{some}
use mathlib.Core.Path.{◌≡◌, refl, sym, ap, ◌∙◌, subst}
use mathlib.Core.List.{List, [], ◌∷◌}
use Prim.Native.Nat.{ℕ, ◌<◌}
use native.Mathlib.Omega.{arith}
use lib.Dec.{T, eqb, ltb, eqb→eq, eqb_refl, ltb→lt, lt→ltb}
use borrow.Author.Tests.{eq-eqb}
use Rattle.rules.specs.Bytes.{In, first, same_bytes}
use Rattle.rules.specs.Tables.{Row, key, value}
use Rattle.rules.specs.Names.{names, below, rising_from, rising}
use Rattle.rules.specs.References.{value_of, lookup}
use Rattle.rules.proofs.Tests.{and_left, and_right, and_both, or_cases, or_left, or_right, is_false, same_bytes_lem}
use Rattle.rules.proofs.Names.{names-rise}

-- One name comes before another by its first byte, or by the rest where the first bytes are the same.
pub below-head : (x y : ℕ) (a b : List ℕ) → x < y → T (below (x ∷ a) (y ∷ b))
below-head x y a b h = or_left (ltb x y) (eqb x y && below a b) (lt→ltb x y h)

pub below_rest : (x y : ℕ) (a b : List ℕ) → x ≡ y → T (below a b) → T (below (x ∷ a) (y ∷ b))
below_rest x y a b e t =
    or_right (ltb x y) (eqb x y && below a b) (and_both (eqb x y) (below a b) (subst (λ (z : ℕ). T (eqb x z)) e (eqb_refl x)) t)

below-cases : (x y : ℕ) (a b : List ℕ) → T (below (x ∷ a) (y ∷ b)) → (x < y) ⊎ ((x ≡ y) × T (below a b))
below-cases x y a b t = go (or_cases (ltb x y) (eqb x y && below a b) t)
  where
    go : T (ltb x y) ⊎ T (eqb x y && below a b) → (x < y) ⊎ ((x ≡ y) × T (below a b))
    go (inl h) = inl (ltb→lt x y h)
    go (inr h) = inr (eqb→eq x y (and_left (eqb x y) (below a b) h), and_right (eqb x y) (below a b) h)

-- No name comes before itself.
pub below_self : (a : List ℕ) → T (below a a) → ⊥
below_self [] t = t
below_self (x ∷ a) t = go (below-cases x x a a t) (below_self a)
  where
    go : (x < x) ⊎ ((x ≡ x) × T (below a a)) → (T (below a a) → ⊥) → ⊥
    go (inl h) ih = omega arith
    go (inr h) ih = ih h.1

pub below-trans : (a b c : List ℕ) → T (below a b) → T (below b c) → T (below a c)
below-trans [] [] c s t = absurd s
below-trans [] (y ∷ b) [] s t = t
below-trans [] (y ∷ b) (z ∷ c) s t = tt
below-trans (x ∷ a) [] c s t = absurd s
below-trans (x ∷ a) (y ∷ b) [] s t = t
below-trans (x ∷ a) (y ∷ b) (z ∷ c) s t = go (below-cases x y a b s) (below-cases y z b c t) (below-trans a b c)
  where
    go : (x < y) ⊎ ((x ≡ y) × T (below a b)) → (y < z) ⊎ ((y ≡ z) × T (below b c)) → (T (below a b) → T (below b c) → T (below a c))
        → T (below (x ∷ a) (z ∷ c))
    go (inl h) (inl k) ih = below-head x z a c (omega arith)
    go (inl h) (inr k) ih = below-head x z a c (omega arith)
    go (inr h) (inl k) ih = below-head x z a c (omega arith)
    go (inr h) (inr k) ih = below_rest x z a c (h.0 ∙ k.0) (ih h.1 k.1)

pub same_self : (a : List ℕ) → same_bytes a a ≡ true
same_self [] = refl
same_self (x ∷ a) = simp (eq-eqb x x refl) (same_self a)

-- ---- looked up in a table that rises

rising-past : (a : List ℕ) (rows : List Row) → T (rising_from a rows) → (row : Row) → In row rows → T (below a (key row))
rising-past a [] t row i = absurd i
rising-past a (r ∷ rows) t row (inl e) = subst (λ (x : Row). T (below a (key x))) (sym e) (and_left (below a (key r)) (rising_from (key r) rows) t)
rising-past a (r ∷ rows) t row (inr i) =
    below-trans a (key r) (key row) (and_left (below a (key r)) (rising_from (key r) rows) t)
    (rising-past (key r) rows (and_right (below a (key r)) (rising_from (key r) rows) t) row i)

abbrev fit : Row → List ℕ → Bool
fit row = same_bytes (key row)

lookup-here : (row : Row) (rows : List Row) → lookup (row ∷ rows) (key row) ≡ some (value row)
lookup-here row rows = ap (λ (b : Bool). value_of (elim b [ true ↦ some row | false ↦ first fit rows (key row) ])) (same_self (key row))

lookup-past : (row : Row) (rows : List Row) (n : List ℕ) → (key row ≡ n → ⊥) → lookup (row ∷ rows) n ≡ lookup rows n
lookup-past row rows n h =
    ap (λ (b : Bool). value_of (elim b [ true ↦ some row | false ↦ first fit rows n ])) (is_false (same_bytes (key row) n) (λ t. h (same_bytes_lem (key row) n t)))

lookup-rising : (rows : List Row) → T (rising rows) → (row : Row) → In row rows → lookup rows (key row) ≡ some (value row)
lookup-rising [] t row i = absurd i
lookup-rising (r ∷ rows) t row (inl e) = subst (λ (x : Row). lookup (r ∷ rows) (key x) ≡ some (value x)) (sym e) (lookup-here r rows)
lookup-rising (r ∷ rows) t row (inr i) =
    lookup-past r rows (key row) (λ e. below_self (key row) (subst (λ (n : List ℕ). T (below n (key row))) e (rising-past (key r) rows t row i)))
    ∙ lookup-rising rows (later rows t) row i
  where
    later : (rows : List Row) → T (rising_from (key r) rows) → T (rising rows)
    later [] t = tt
    later (q ∷ rows) t = and_right (below (key r) (key q)) (rising_from (key q) rows) t

-- Each name of the table is looked up to the value beside it.
pub lookup-in : (row : Row) → In row names → lookup names (key row) ≡ some (value row)
lookup-in = lookup-rising names names-rise
