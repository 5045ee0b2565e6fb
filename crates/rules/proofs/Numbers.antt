-- The 27 numbers that browse takes for others: what is asked of their table is computed over its pairs, and the two laws of browse follow from it.
-- Assumes nothing.
use mathlib.Core.Bool.{Bool, true, false, not, ◌&&◌, ◌||◌, cond}
use mathlib.Core.Logic.{inl, inr}
use mathlib.Core.Option.{none, some, none-ne-some}
use mathlib.Core.Path.{◌≡◌, refl, sym, ap, ◌∙◌, subst}
use mathlib.Core.List.{List, [], ◌∷◌, map}
use Prim.Native.Nat.{ℕ}
use borrow.Author.Tests.{eqb-true}
use lib.Dec.{T, eqb, leb, eqb→eq}
use lib.ListN.{length}
use Rattle.rules.specs.Bytes.{In, all, only, bytes, inside, one_of}
use Rattle.rules.specs.Utf8.{utf8, substitute}
use Rattle.rules.specs.Names.{rising}
use Rattle.rules.specs.References.{scalar, decode_char, renumbering, renumbered, stands_for, browse_char}
use Rattle.rules.specs.Data.{as_row}
use Rattle.rules.proofs.Tests.{and_left, and_right, all_in}

pub renumbering-size : length renumbering ≡ 27
unfolding renumbering
renumbering-size = refl

-- The numbers rise strictly, so that none is there twice.
pub renumbering-rise : T (rising (map as_row renumbering))
unfolding renumbering
renumbering-rise = tt

-- They are between 80 and 9F.
pub renumbering-in : T (all (inside (0x80, 0x9F)) renumbered)
unfolding renumbering
renumbering-in = tt

-- All of these are there but five, which stand for themselves.
pub renumbering-range : renumbered ≡ only (λ (n : ℕ). not (one_of (0x81 ∷ 0x8D ∷ 0x8F ∷ 0x90 ∷ 0x9D ∷ []) n)) (bytes 0x80 0x9F)
unfolding renumbering
renumbering-range = refl

-- ---- what a number stands for

-- A number that is in no pair stands for itself.
pub stands-out : (pairs : List (ℕ × ℕ)) (n : ℕ) → (In n (map (λ (pair : ℕ × ℕ). pair.0) pairs) → ⊥) → stands_for pairs n ≡ n
stands-out [] n h = refl
stands-out (pair ∷ pairs) n h = go (eqb n pair.0) refl (stands-out pairs n (λ i. h (inr i)))
  where
    go : (b : Bool) → eqb n pair.0 ≡ b → stands_for pairs n ≡ n → cond b pair.1 (stands_for pairs n) ≡ n
    go true e ih = absurd (h (inl (eqb-true n pair.0 e)))
    go false e ih = ih

-- Any number that is not between 80 and 9F does.
pub stands-beyond : (n : ℕ) → (T (inside (0x80, 0x9F) n) → ⊥) → stands_for renumbering n ≡ n
stands-beyond n h = stands-out renumbering n (λ i. h (all_in (inside (0x80, 0x9F)) renumbered renumbering-in n i))

-- A test that n and every number to the right pass, the number that n stands for passes too.
pub stands_good : (good : ℕ → Bool) (pairs : List (ℕ × ℕ)) (n : ℕ) → T (all (λ (pair : ℕ × ℕ). good pair.1) pairs) → T (good n) → T (good (stands_for pairs n))
stands_good good [] n t g = g
stands_good good (pair ∷ pairs) n t g =
    let rest = all (λ (pair : ℕ × ℕ). good pair.1) pairs in
    go (eqb n pair.0) (and_left (good pair.1) rest t) (stands_good good pairs n (and_right (good pair.1) rest t) g)
  where
    go : (b : Bool) → T (good pair.1) → T (good (stands_for pairs n)) → T (good (cond b pair.1 (stands_for pairs n)))
    go true s ih = s
    go false s ih = ih

-- A character's number stands for a character's number.
pub stands-scalar : (n : ℕ) → T (scalar n) → T (scalar (stands_for renumbering n))
unfolding renumbering
stands-scalar n = stands_good scalar renumbering n tt

-- ---- what browse gives for it

-- The number on the left has a character, and stands for the one on the right.
abbrev paired : ℕ × ℕ → Bool
paired pair = (scalar pair.0 && not (eqb pair.0 0)) && eqb (stands_for renumbering pair.0) pair.1

renumbering-paired : T (all paired renumbering)
unfolding renumbering
renumbering-paired = tt

-- For each of the 27 browse gives the character of the number beside it.
pub browse-pair : (n m : ℕ) → In (n, m) renumbering → browse_char n ≡ some (utf8 m)
browse-pair n m i = go (scalar n && not (eqb n 0)) (all_in paired renumbering renumbering-paired (n, m) i)
  where
    go : (b : Bool) → T (b && eqb (stands_for renumbering n) m) → some (cond b (utf8 (stands_for renumbering n)) substitute) ≡ some (utf8 m)
    go true t = ap (λ (k : ℕ). some (utf8 k)) (eqb→eq (stands_for renumbering n) m t)
    go false t = absurd t

-- For every other number that decode takes browse gives what decode gives.
pub browse-decode : (n : ℕ) (v : List ℕ) → decode_char n ≡ some v → (In n renumbered → ⊥) → browse_char n ≡ some v
browse-decode n v e h = go (scalar n) (decoded n) refl (eqb n 0) refl e
  where
    decoded : ℕ → Bool
    decoded k = leb 32 k || one_of (9 ∷ 10 ∷ 12 ∷ 13 ∷ []) k

    go : (a b : Bool) → decoded n ≡ b → (c : Bool) → eqb n 0 ≡ c → cond (a && b) (some (utf8 n)) none ≡ some v
        → some (cond (a && not c) (utf8 (stands_for renumbering n)) substitute) ≡ some v
    go true true f false q e = ap (λ (k : ℕ). some (utf8 k)) (stands-out renumbering n h) ∙ e
    go true true f true q e = absurd (subst (λ (k : ℕ). T (decoded k)) (eqb-true n 0 q) (subst T (sym f) tt))
    go true false f c q e = absurd (none-ne-some v e)
    go false b f c q e = absurd (none-ne-some v e)
