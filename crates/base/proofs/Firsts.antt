-- How a search goes on: stretches where the test passes nowhere are joined, a place or a stretch at a time.
-- Assumes nothing.
use mathlib.Core.Bool.{Bool, true, false}
use mathlib.Core.Path.{◌≡◌, refl, sym, ap, ◌∙◌}
use Prim.Native.Nat.{ℕ, ◌+◌, ◌-◌, ◌≤◌, ◌<◌}
use native.Mathlib.Omega.{arith}
use borrow.Author.Tests.{ltb-true, ltb-false}
use lib.Dec.{ltb}
use lib.ListN.{length, take, drop, get_or}
use mathlib.Core.List.{List}
use Rattle.base.proofs.Part.{part_length, part_at}
use Rattle.base.specs.First.{Free}

module _ (test : ℕ → Bool) where
  -- Of no places nothing is asked.
  pub free-start : (a : ℕ) → Free test a a
  free-start a k h l = absurd (omega arith)

  pub free-join : (a i e : ℕ) → Free test a i → Free test i e → Free test a e
  free-join a i e f g k h l = go (ltb k i) refl
    where
      go : (x : Bool) → ltb k i ≡ x → test k ≡ false
      go true z = f k h (ltb-true k i z)
      go false z = g k (ltb-false k i z) l

  -- One place more.
  pub free_step : (a e : ℕ) → Free test a e → test e ≡ false → Free test a (e + 1)
  free_step a e f n = free-join a e (e + 1) f (λ k h l. ap test (let same : k ≡ e = omega arith in same) ∙ n)

-- Before the first byte in what is left from i on that passes a test, which std's search gives, the test passes nowhere.
module _ (p : ℕ → Bool) (t : List ℕ) (i : ℕ) where
  abbrev rest : List ℕ
  rest = take (length t - i) (drop i t)

  pub free-found : (k : ℕ) → k ≤ length rest → ((j d : ℕ) → 0 ≤ j → j < k → p (get_or rest j d) ≡ false) → i ≤ length t → Free (λ k. p (get_or t k 0)) i (i + k)
  free-found k h f l j a b =
      let le : length t ≤ length t = omega arith in
      let s : i + (j - i) ≡ j = omega arith in
      ap p (sym (part_at t i (length t) (j - i) (omega (arith, h, part_length t i (length t) l le)) ∙ ap (λ (n : ℕ). get_or t n 0) s)) ∙ f (j - i) 0 (omega arith) (omega arith)

  pub rest-size : i ≤ length t → i + length rest ≡ length t
  rest-size l = let le : length t ≤ length t = omega arith in omega (arith, part_length t i (length t) l le)
