-- The value of a digit is that of the rules: one test, computed for every byte.
-- Assumes nothing.
use mathlib.Core.Bool.{Bool, true, false, cond, ◌&&◌}
use mathlib.Core.Option.{Option, none, some}
use mathlib.Core.Path.{◌≡◌, refl, sym, ap, ◌∙◌}
use Prim.Native.Nat.{ℕ, ◌-◌, ◌<◌}
use lib.Dec.{T, eqb, eqb→eq}
use Rattle.std.specs.Prelude.{Option as Maybe, Some, None}
use Rattle.rules.specs.Bytes.{inside}
use Rattle.rules.specs.References.{digit, hex_digit_at}
use Rattle.rules.proofs.Tests.{and_left, and_right}
use Rattle.rules.proofs.Below.{below as up_to}
use Rattle.base.specs.Digits.{found_as, under, upper_of, letter_of, value_with, of_sixteen, upper_digit}

-- What the code has found is what the rules find.
pub found-some : (o : Option ℕ) (n : ℕ) → found_as o ≡ Some n → o ≡ some n
found-some none n e = cc
found-some (some m) n e = let h : m ≡ n = cc in ap some h

pub found-none : (o : Option ℕ) → found_as o ≡ None → o ≡ none
found-none none e = refl
found-none (some m) e = cc

-- What is found tells what the rules find.
found-same : (m n : Option ℕ) → found_as m ≡ found_as n → m ≡ n
found-same m none e = found-none m e
found-same m (some n) e = found-some m n e

abbrev same : Maybe ℕ → Maybe ℕ → Bool
same None None = true
same None (Some n) = false
same (Some m) None = false
same (Some m) (Some n) = eqb m n

same-option : (m n : Maybe ℕ) → T (same m n) → m ≡ n
same-option None None t = refl
same-option None (Some n) t = absurd t
same-option (Some m) None t = absurd t
same-option (Some m) (Some n) t = ap Some (eqb→eq m n t)

-- What the code gives for a byte: a decimal digit, or a letter of either case.
abbrev digit_as : ℕ → Maybe ℕ
digit_as b = cond (inside (48, 57) b) (Some (b - 48)) (of_sixteen (letter_of (upper_of b)))

abbrev right : ℕ → Bool
right b =
    same (found_as (under 10 (digit_as b))) (found_as (digit b))
    && (same (digit_as b) (found_as (hex_digit_at b)) && same (of_sixteen (value_with b b)) (upper_digit b))

all_right : (b : ℕ) → b < 256 → T (right b)
unfolding letter_of upper_digit
all_right = up_to right 256 tt

module _ (b : ℕ) (h : b < 256) where
  abbrev ten : Bool
  ten = same (found_as (under 10 (digit_as b))) (found_as (digit b))

  abbrev sixteen : Bool
  sixteen = same (digit_as b) (found_as (hex_digit_at b))

  abbrev upper : Bool
  upper = same (of_sixteen (value_with b b)) (upper_digit b)

  -- A digit or a letter of either case.
  pub value-right : (v : Maybe ℕ) → digit_as b ≡ v → v ≡ found_as (hex_digit_at b)
  value-right v e = sym e ∙ same-option _ _ (and_left sixteen upper (and_right ten (sixteen && upper) (all_right b h)))

  -- A decimal digit.
  pub decimal-right : (v : Maybe ℕ) → digit_as b ≡ v → under 10 v ≡ digit b
  decimal-right v e = ap (under 10) (sym e) ∙ found-same _ _ (same-option _ _ (and_left ten (sixteen && upper) (all_right b h)))

  -- A digit or an upper-case letter.
  pub upper-right : of_sixteen (value_with b b) ≡ upper_digit b
  upper-right = same-option _ _ (and_right sixteen upper (and_right ten (sixteen && upper) (all_right b h)))
