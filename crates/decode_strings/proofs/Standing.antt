-- What stands at the head of a text is a part of it.
-- Assumes nothing.
use mathlib.Core.Bool.{false, true, ◌&&◌}
use mathlib.Core.Path.{◌≡◌, sym, ap, ◌∙◌, subst}
use mathlib.Core.List.{List, [], ◌∷◌, ◌++◌}
use Prim.Native.Nat.{ℕ, ◌≤◌}
use native.Mathlib.Omega.{arith}
use lib.Dec.{T, eqb, eqb→eq}
use lib.ListN.{length, take, length-append}
use lib.Seq.{take-append-le}
use Rattle.rules.specs.Bytes.{ascii, stands, one_of}
use Rattle.rules.specs.Encoding.{closes}
use Rattle.rules.proofs.Tests.{and_left, and_right, or-false, stands-split}

-- What stands at the head of a text is no longer than it.
pub stands-within : (p s : List ℕ) → stands p s ≡ true → length p ≤ length s
stands-within p s e = let (r, x) = stands-split p s (subst T (sym e) tt) in omega (arith, ap length x ∙ length-append p r)

-- Nor is it other than the text.
pub stands-take : (p s : List ℕ) (n : ℕ) → n ≤ length p → stands p s ≡ true → take n s ≡ take n p
stands-take p s n h e = let (r, x) = stands-split p s (subst T (sym e) tt) in ap (take n) x ∙ take-append-le n p r h

-- A pattern that begins with `\/` stands where these two do.
pub closes-slash : (name s : List ℕ) → closes (ascii "\\/" ++ name) s ≡ true → (take 2 s ≡ ascii "\\/") × (2 ≤ length s)
closes-slash name [] e = absurd (subst T (sym e) tt)
closes-slash name (x ∷ []) e = absurd (and_right (one_of (92 ∷ []) x) false (subst T (sym e) tt))
closes-slash name (x ∷ y ∷ s) e =
    let t : T (one_of (92 ∷ []) x && (one_of (47 ∷ []) y && closes name s)) = subst T (sym e) tt in
    let a = eqb→eq x 92 (or-false (eqb x 92) (and_left (one_of (92 ∷ []) x) (one_of (47 ∷ []) y && closes name s) t)) in
    let b = eqb→eq y 47 (or-false (eqb y 47) (and_left (one_of (47 ∷ []) y) (closes name s) (and_right (one_of (92 ∷ []) x) (one_of (47 ∷ []) y && closes name s) t))) in
    ((λ i. a i ∷ b i ∷ []), omega arith)
