-- Tests that are computed: of each number below a bound, and of two tests that agree.
-- Assumes nothing.
use mathlib.Core.Bool.{Bool, true, false, not}
use mathlib.Core.Logic.{◌⊎◌, inl, inr}
use mathlib.Core.Path.{◌≡◌, refl, sym, ap, ◌∙◌}
use mathlib.Core.List.{map}
use Prim.Native.Nat.{ℕ, zero, suc, ◌+◌, ◌≤◌, ◌<◌}
use native.Mathlib.Nat.{eq-or-lt_of_le, add-zero}
use native.Mathlib.Omega.{arith}
use borrow.Author.Tests.{eq-eqb, ne_eqb, eqb-true, eqb-false}
use lib.Dec.{T, eqb}
use lib.ListN.{get_or}
use Rattle.rules.specs.Bytes.{In, all, count}
use Rattle.rules.proofs.Tests.{all_in}

-- What stands at a place of a list that was made of the numbers from a on.
pub counted : (f : ℕ → ℕ) (a n k : ℕ) → k < n → get_or (map f (count a n)) k 0 ≡ f (a + k)
counted f a zero k h = absurd (omega arith)
counted f a (suc n) zero h = rw add-zero
counted f a (suc n) (suc k) h = let e : suc a + k ≡ a + suc k = omega arith in counted f (suc a) n k (omega arith) ∙ ap f e

pub count-in : (a n k : ℕ) → a ≤ k → k < a + n → In k (count a n)
count-in a zero k h l = absurd (omega arith)
count-in a (suc n) k h l = go (eq-or-lt_of_le h) (λ i. count-in (suc a) n k i (omega arith))
  where
    go : (a ≡ k) ⊎ (a < k) → (a < k → In k (count (suc a) n)) → In k (count a (suc n))
    go (inl e) ih = inl (sym e)
    go (inr i) ih = inr (ih i)

-- What is computed of the numbers below n holds of each.
pub below : (f : ℕ → Bool) (n : ℕ) → T (all f (count 0 n)) → (k : ℕ) → k < n → T (f k)
below f n t k h = all_in f (count 0 n) t k (count-in 0 n k (omega arith) (omega arith))

-- The two tests say the same.
abbrev pub agree : Bool → Bool → Bool
agree true b = b
agree false b = not b

pub agrees : (a b : Bool) → T (agree a b) → a ≡ b
agrees true true t = refl
agrees true false t = absurd t
agrees false true t = absurd t
agrees false false t = refl

pub eqb_comm : (m n : ℕ) → eqb m n ≡ eqb n m
eqb_comm m n = go (eqb m n) refl
  where
    go : (t : Bool) → eqb m n ≡ t → t ≡ eqb n m
    go true e = sym (eq-eqb n m (sym (eqb-true m n e)))
    go false e = sym (ne_eqb n m (λ q. eqb-false m n e (sym q)))
