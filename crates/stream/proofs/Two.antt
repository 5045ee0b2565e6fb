-- Two pieces that are written one after the other fill the output with both: the held bytes and the first of a part, and what is written for the seam and
-- for the rest.
-- Assumes nothing.
use mathlib.Core.Path.{◌≡◌, refl, sym, subst}
use mathlib.Core.List.{List, [], ◌++◌, append-nil}
use Prim.Native.Nat.{ℕ, ◌+◌, ◌≤◌}
use native.Mathlib.Omega.{arith}
use lib.ListN.{length, length-append}
use Rattle.rules.specs.Bytes.{over}
use Rattle.base.proofs.Filled.{Filled, Next, filled-start, filled_more}

-- The second is all that is left after the first.
pub second : (b : List ℕ) → Next b b []
second b = record { next = sym (append-nil b) }

-- The first is written.
pub first-filled : (a b out : List ℕ) → length a + length b ≤ length out → (o : List ℕ) (n : ℕ) → n ≡ length a → o ≡ over a out → Filled (a ++ b) b out o n
first-filled a b out room o n e p =
    let l = length-append a b in
    let z : 0 + length a ≡ n = omega (arith, e) in
    subst (λ (m : ℕ). Filled (a ++ b) b out o m) z (filled_more a b o (filled-start (a ++ b) out (omega (arith, l, room))) refl p)
