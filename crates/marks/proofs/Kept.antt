-- The list of the units' places: one place more is kept, and those before stay as they were.
-- Assumes nothing.
use mathlib.Core.Bool.{Bool, true, false}
use mathlib.Core.Path.{◌≡◌, refl, sym, ap}
use mathlib.Core.List.{List}
use Prim.Native.Nat.{ℕ, zero, suc, ◌+◌, ◌≤◌, ◌<◌}
use native.Mathlib.Omega.{arith}
use native.Mathlib.Numerals.{add-one}
use borrow.Author.Tests.{ltb-true, ltb-false}
use lib.Dec.{ltb}
use Rattle.std.proofs.Common.{min}
use Rattle.std.proofs.lemmas.List.{length-take}
use lib.ListN.{length, take, get_or, set, length-set}
use lib.Seq.{get_or-set_same, get_or-set_other, get_or-take}
use Rattle.base.specs.Places.{Nearest}
use Rattle.marks.specs.Marks.{end_by, start_of, Marked}

module _ (size : ℕ → ℕ) (mark : ℕ) (t places : List ℕ) (n i : ℕ) where
  -- What is kept at place n changes no other.
  other : (k : ℕ) → (k ≡ n → ⊥) → get_or (set places n i) k 0 ≡ get_or places k 0
  other k h = get_or-set_other places n k i 0 h

  start-same : (k : ℕ) → k ≤ n → start_of size t (set places n i) k ≡ start_of size t places k
  start-same zero h = refl
  start-same (suc k) h = ap (end_by size t) (other k (λ e. omega (arith, e, h)))

  pub marked_more : Marked size mark t places n → (n ≤ length places → Nearest t (start_of size t places n) mark i) → i < length t
      → Marked size mark t (set places n i) (n + 1)
  marked_more m next here k l s = go (ltb k n) refl
    where
      same : length (set places n i) ≡ length places
      same = length-set places n i

      go : (x : Bool) → ltb k n ≡ x → Nearest t (start_of size t (set places n i) k) mark (get_or (set places n i) k 0) × (get_or (set places n i) k 0 < length t)
      go true q =
          let b = ltb-true k n q in
          rw (start-same k (omega arith), other k (λ e. omega (arith, e, b))) (m k b (omega (arith, s, same)))
      go false q =
          let e : k ≡ n = omega (arith, l, ltb-false k n q) in
          rw (start-same k (omega (arith, e)), e, get_or-set_same places n i 0 (omega (arith, s, same, e))) (next (omega (arith, s, same, e)), here)

  -- From the end of this one on the next is searched.
  pub start-next : n + 1 ≤ length (set places n i) → start_of size t (set places n i) (n + 1) ≡ end_by size t i
  start-next h = rw add-one (ap (end_by size t) (get_or-set_same places n i 0 (omega (arith, h, length-set places n i))))

-- The first of the places that are kept.
pub marked-take : (size : ℕ → ℕ) (mark : ℕ) (t places : List ℕ) (count n : ℕ) → n ≤ count → Marked size mark t places count → Marked size mark t (take n places) (length (take n places))
marked-take size mark t places count n h m k l s = rw (start-take k (omega (arith, size-is, l)), at k (omega (arith, size-is, l))) (m k (omega (arith, size-is, l, h)) (omega (arith, size-is, l)))
  where
    size-is : length (take n places) ≡ min n (length places)
    size-is = length-take n places

    at : (k : ℕ) → k < n → get_or (take n places) k 0 ≡ get_or places k 0
    at k h = get_or-take n places k 0 h

    start-take : (k : ℕ) → k < n → start_of size t (take n places) k ≡ start_of size t places k
    start-take zero h = refl
    start-take (suc k) h = ap (end_by size t) (at k (omega arith))

-- The same where places are read.
pub start-after : (size : ℕ → ℕ) (t places : List ℕ) (k p : ℕ) → p ≡ get_or places k 0 → start_of size t places (k + 1) ≡ end_by size t p
start-after size t places k p e = rw add-one (ap (end_by size t) (sym e))
