-- The names have two to six bytes, and one that stands at the head of a text is no longer than it.
-- Assumes nothing.
use mathlib.Core.Bool.{Bool, true, false}
use mathlib.Core.Path.{◌≡◌, refl}
use mathlib.Core.List.{List, [], ◌∷◌}
use Prim.Native.Nat.{ℕ, ◌+◌, ◌*◌, ◌≤◌, ◌<◌}
use native.Mathlib.Omega.{arith}
use borrow.Author.Tests.{ltb-true, ltb-false}
use lib.Dec.{T, eqb, ltb, leb, leb→le}
use lib.ListN.{length}
use Rattle.rules.specs.Bytes.{In, all, stands, inside}
use Rattle.rules.specs.Bare.{bare}
use Rattle.rules.proofs.Tests.{and_left, and_right, all_in}
use Rattle.names_bare.specs.Heads.{Spelled}
use Rattle.names_bare.specs.Words.{char_for, words}
use Rattle.names_bare.proofs.Words.{missed}

abbrev sized : List ℕ → Bool
sized name = inside (2, 6) (length name)

bare-sized : T (all sized bare)
unfolding bare
bare-sized = tt

pub at_least : (name : List ℕ) → In name bare → 2 ≤ length name
at_least name i = leb→le 2 (length name) (and_left (leb 2 (length name)) (leb (length name) 6) (all_in sized bare bare-sized name i))

pub at_most : (name : List ℕ) → In name bare → length name ≤ 6
at_most name i = leb→le (length name) 6 (and_right (leb 2 (length name)) (leb (length name) 6) (all_in sized bare bare-sized name i))

pub stands-within : (v s : List ℕ) → T (stands v s) → length v ≤ length s
stands-within [] s t = omega arith
stands-within (x ∷ v) [] t = absurd t
stands-within (x ∷ v) (y ∷ s) t = let h = stands-within v s (and_right (eqb x y) (stands v s) t) in omega (arith, h)

-- One length more.
pub next : (t : List ℕ) (n w : ℕ) → ((name : List ℕ) → In name bare → length name < n → T (stands name t) → ⊥) → Spelled t n w → char_for words (w * 8 + n) ≡ 0
    → (name : List ℕ) → In name bare → length name < n + 1 → T (stands name t) → ⊥
next t n w before s e name i l u = go (ltb (length name) n) refl
  where
    go : (b : Bool) → ltb (length name) n ≡ b → ⊥
    go true f = before name i (ltb-true (length name) n f) u
    go false f = missed t n w s e name i (let h = ltb-false (length name) n f in omega (arith, h, l)) u
