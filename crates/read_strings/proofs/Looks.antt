-- The look by parts: what holds of every byte of a part with the byte before it holds of the text's.
-- Assumes nothing.
use mathlib.Core.Bool.{Bool, true, false, ◌&&◌, cond}
use mathlib.Core.Path.{◌≡◌, refl, sym, ap, ◌∙◌, subst}
use mathlib.Core.List.{List}
use Prim.Native.Nat.{ℕ, zero, suc, ◌+◌, ◌-◌, ◌≤◌, ◌<◌}
use native.Mathlib.Omega.{arith}
use borrow.Author.Tests.{ltb-true, ltb-false}
use lib.Dec.{ltb}
use lib.ListN.{length, take, drop, get_or}
use Rattle.rules.specs.Moves.{before}
use Rattle.base.proofs.Part.{part_length, part_at}
use Rattle.read_strings.specs.Clear.{before_in}

-- The byte before a place that is not the first.
pub before_at : (t : List ℕ) (i : ℕ) → 1 ≤ i → before t i ≡ get_or t (i - 1) 0
before_at t zero h = absurd (omega arith)
before_at t (suc i) h = let e : suc i - 1 ≡ i = omega arith in ap (λ (k : ℕ). get_or t k 0) (sym e)

pub before-in : (p : ℕ) (part : List ℕ) (i : ℕ) → 1 ≤ i → before_in p part i ≡ get_or part (i - 1) 0
before-in p part zero h = absurd (omega arith)
before-in p part (suc i) h = let e : suc i - 1 ≡ i = omega arith in ap (λ (k : ℕ). get_or part k 0) (sym e)

-- What holds of 0 holds below 1.
pub first-only : (P : ℕ → Type 0) → P 0 → (k : ℕ) → k < 1 → P k
first-only P p zero h = p
first-only P p (suc k) h = absurd (omega arith)

-- A test that counts is passed.
pub counts : (x : Bool) → 1 ≤ cond x 255 0 → x ≡ true
counts true h = refl
counts false h = absurd (omega arith)

-- Two tests that are passed together.
pub both : (a b : Bool) → a && b ≡ true → (a ≡ true) × (b ≡ true)
both true b e = (refl, e)
both false b e = let never : ◌≡◌ {A = ℕ} 0 1 = ap (λ (x : Bool). cond x 1 0) e in absurd (omega (arith, never))

module _ (t : List ℕ) (i e p : ℕ) (h : i ≤ e) (l : e ≤ length t) (same : p ≡ before t i) where
  -- The byte before a place of a part.
  part-before : (j : ℕ) → j < e - i → before_in p (take (e - i) (drop i t)) j ≡ before t (i + j)
  part-before zero b = same ∙ (let z : i ≡ i + 0 = omega arith in ap (before t) z)
  part-before (suc j) b =
      let z : i + j ≡ i + suc j - 1 = omega arith in
      part_at t i e j (omega arith) ∙ ap (λ (k : ℕ). get_or t k 0) z ∙ sym (before_at t (i + suc j) (omega arith))

  pub pairs-part : (P : ℕ → ℕ → Type 0) → ((k : ℕ) → k < i → P (before t k) (get_or t k 0))
      → ((j : ℕ) → j < length (take (e - i) (drop i t)) → P (before_in p (take (e - i) (drop i t)) j) (get_or (take (e - i) (drop i t)) j 0)) → (k : ℕ) → k < e → P (before t k) (get_or t k 0)
  pairs-part P f g k b = go (ltb k i) refl
    where
      go : (x : Bool) → ltb k i ≡ x → P (before t k) (get_or t k 0)
      go true q = f k (ltb-true k i q)
      go false q =
          let m : i ≤ k = ltb-false k i q in
          let j : i + (k - i) ≡ k = omega arith in
          let less : k - i < e - i = omega arith in
          subst (λ (k : ℕ). P (before t k) (get_or t k 0)) j
          (subst (λ (x : ℕ). P x (get_or t (i + (k - i)) 0)) (part-before (k - i) less)
          (subst (P (before_in p (take (e - i) (drop i t)) (k - i))) (part_at t i e (k - i) less) (g (k - i) (rw (part_length t i e h l) (omega arith)))))
