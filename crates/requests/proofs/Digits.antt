-- Decimal digits, written one after the other.
-- Assumes nothing.
use mathlib.Core.Bool.{Bool, true, false, cond}
use mathlib.Core.Path.{◌≡◌, refl, ap, ◌∙◌}
use mathlib.Core.List.{List, [], ◌∷◌, ◌++◌, append_assoc}
use Prim.Native.Nat.{ℕ, zero, suc, ◌+◌, ◌-◌, ◌/◌, ◌%◌, ◌≤◌, ◌<◌}
use native.Mathlib.Numerals.{add-one}
use native.Mathlib.Omega.{arith}
use borrow.Author.Tests.{lt-ltb, le-ltb}
use lib.Dec.{ltb}
use lib.ListN.{length, drop, get_or, set, length-append}
use lib.Seq.{drop-cons, set_at}
use Rattle.rules.specs.Bytes.{over}
use Rattle.rules.specs.Program.{last_digits}

-- A number below ten has one digit.
pub last-digit : (most n : ℕ) → 0 < most → n < 10 → last_digits most n ≡ (48 + n) ∷ []
last-digit zero n h l = absurd (omega arith)
last-digit (suc k) n h l = rw (lt-ltb n 10 l)

-- Another number has those of its tenth and one more.
pub more-digits : (most n : ℕ) → 0 < most → 10 ≤ n → last_digits most n ≡ last_digits (most - 1) (n / 10) ++ (48 + n % 10) ∷ []
more-digits zero n h l = absurd (omega arith)
more-digits (suc k) n h l = let e : suc k - 1 ≡ k = omega arith in rw (le-ltb n 10 l, e)

-- There are no more than that.
pub digits-length : (most n : ℕ) → length (last_digits most n) ≤ most
digits-length zero n = omega arith
digits-length (suc k) n = go (ltb n 10) (digits-length k (n / 10))
  where
    go : (b : Bool) → length (last_digits k (n / 10)) ≤ k → length (cond b ((48 + n) ∷ []) (last_digits k (n / 10) ++ (48 + n % 10) ∷ [])) ≤ suc k
    go true h = omega arith
    go false h = omega (arith, length-append (last_digits k (n / 10)) ((48 + n % 10) ∷ []))

-- One more byte after those that are written.
pub over-more : (w out : List ℕ) (x : ℕ) → length w < length out → set (over w out) (length w) x ≡ over (w ++ x ∷ []) out
over-more w out x h =
    let n : length (w ++ x ∷ []) ≡ suc (length w) = length-append w (x ∷ []) ∙ add-one (length w) in
    ap (λ (l : List ℕ). set (w ++ l) (length w) x) (drop-cons out (length w) 0 h)
    ∙ set_at w (get_or out (length w) 0) (drop (suc (length w)) out) x (length w) refl
    ∙ rw (n, append_assoc)
