-- What a loop over the text needs: at each place, one move and then the moves from the next place.
-- Assumes nothing.
use mathlib.Core.Path.{◌≡◌, refl, ap, ◌∙◌}
use mathlib.Core.List.{List, [], ◌∷◌}
use Prim.Native.Nat.{ℕ, zero, suc, ◌+◌, ◌≤◌, ◌<◌}
use native.Mathlib.Omega.{arith}
use native.Mathlib.Numerals.{add-one}
use lib.ListN.{length, drop, get_or, drop_of_length-le}
use lib.Seq.{drop-cons, drop-drop, get_or-drop}
use Rattle.rules.specs.Moves.{Move, stop, takes, Rule, and_then, moves, before, from}
use Rattle.rules.proofs.Machine.{and-then}

-- The byte before the rest, after k bytes more.
abbrev past : ℕ → ℕ → List ℕ → ℕ
past p zero r = p
past p (suc k) r = get_or r k 0

skip-past : (rule : Rule) (p k : ℕ) (r : List ℕ) → moves rule p k r ≡ moves rule (past p k r) 0 (drop k r)
skip-past rule p zero r = refl
skip-past rule p (suc k) [] = refl
skip-past rule p (suc zero) (b ∷ r) = refl
skip-past rule p (suc (suc k)) (b ∷ r) = skip-past rule b (suc k) r

past-before : (t : List ℕ) (i k : ℕ) → past (get_or t i 0) k (drop (i + 1) t) ≡ before t (i + suc k)
past-before t i zero = rw add-one
past-before t i (suc k) = get_or-drop (i + 1) t k 0 ∙ far (i + 1 + k) (i + suc (suc k)) (omega arith)
  where
    far : (j n : ℕ) → n ≡ suc j → get_or t j 0 ≡ before t n
    far j n e = rw e

pub drop-next : (t : List ℕ) (i : ℕ) → i < length t → drop i t ≡ get_or t i 0 ∷ drop (i + 1) t
drop-next t i h = rw add-one (drop-cons t i 0 h)

-- A turn of the loop.
pub from_next : (rule : Rule) (t : List ℕ) (i k : ℕ) (m : Move) → i < length t → rule (before t i) (drop i t) ≡ m → length (takes m) ≡ suc k
    → from rule t i ≡ m ∷ from rule t (i + suc k)
from_next rule t i k m h e z =
    let d = drop-next t i h in
    let a : i + 1 + k ≡ i + suc k = omega arith in
    let e' : rule (before t i) (get_or t i 0 ∷ drop (i + 1) t) ≡ m = rw d at e in
    rw (d, e', z) (ap (and_then m) (skip-past rule (get_or t i 0) k (drop (i + 1) t) ∙ rw (past-before, drop-drop, a)) ∙ and-then m k (from rule t (i + suc k)) z)

-- A stop ends it.
pub from-stop : (rule : Rule) (t : List ℕ) (i : ℕ) {w : ℕ} → i < length t → rule (before t i) (drop i t) ≡ stop w → from rule t i ≡ []
from-stop rule t i {w} h e =
    let d = drop-next t i h in
    let e' : rule (before t i) (get_or t i 0 ∷ drop (i + 1) t) ≡ stop w = rw d at e in
    rw (d, e')

-- The end of the text ends it.
pub from_end : (rule : Rule) (t : List ℕ) (i : ℕ) → length t ≤ i → from rule t i ≡ []
from_end rule t i h = rw (drop_of_length-le t h)
