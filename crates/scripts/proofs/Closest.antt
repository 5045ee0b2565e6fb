-- At three bytes that are far from every mark there is none: where one is, the xors of its bytes are 0.
-- Assumes nothing.
use mathlib.Core.Bool.{Bool, true, false, ◌&&◌, ◌||◌}
use mathlib.Core.Path.{◌≡◌, refl, sym, ap, ◌∙◌}
use Prim.Native.Nat.{ℕ, ◌<◌}
use native.Mathlib.Omega.{arith}
use borrow.Author.Tests.{eqb-true}
use lib.Bits.{bit_or, bit_xor, xor_self}
use lib.Dec.{eqb}
use Rattle.plain.specs.Plain.{lesser}
use Rattle.plain.proofs.Xors.{lesser-most}
use Rattle.scripts.specs.Marks.{mark}

-- The xor of two bytes that are the same.
same : (a k : ℕ) → eqb a k ≡ true → bit_xor a k ≡ 0
same a k e = ap (λ (n : ℕ). bit_xor n k) (eqb-true a k e) ∙ xor_self k

-- The lesser of two of which one is 0.
least-left : (a b : ℕ) → a ≡ 0 → lesser a b ≡ 0
least-left a b e = omega (arith, e, lesser-most a b)

least-right : (a b : ℕ) → b ≡ 0 → lesser a b ≡ 0
least-right a b e = omega (arith, e, lesser-most a b)

never : true ≡ false → ⊥
never e = let z : ◌≡◌ {A = ℕ} 0 1 = cc in omega arith

module _ (letter dash a b c : ℕ) where
  abbrev next : ℕ
  next = lesser (lesser (bit_xor b 47) (bit_xor b 83)) (bit_xor b letter)

  abbrev tag : ℕ
  tag = bit_or (bit_xor a 60) next

  abbrev end : ℕ
  end = bit_or (bit_or (bit_xor a dash) (bit_xor b 45)) (bit_xor c 62)

  -- One of the three bytes after a `<`.
  next-zero : (x y z : Bool) → eqb b 47 ≡ x → eqb b 83 ≡ y → eqb b letter ≡ z → (x || y) || z ≡ true → next ≡ 0
  next-zero true y z p q r t = least-left (lesser (bit_xor b 47) (bit_xor b 83)) (bit_xor b letter) (least-left (bit_xor b 47) (bit_xor b 83) (same b 47 p))
  next-zero false true z p q r t = least-left (lesser (bit_xor b 47) (bit_xor b 83)) (bit_xor b letter) (least-right (bit_xor b 47) (bit_xor b 83) (same b 83 q))
  next-zero false false true p q r t = least-right (lesser (bit_xor b 47) (bit_xor b 83)) (bit_xor b letter) (same b letter r)
  next-zero false false false p q r t = absurd (never (sym t))

  tag-zero : (w : Bool) → eqb a 60 ≡ w → w && ((eqb b 47 || eqb b 83) || eqb b letter) ≡ true → tag ≡ 0
  tag-zero true p t = rw (same a 60 p, next-zero (eqb b 47) (eqb b 83) (eqb b letter) refl refl refl t)
  tag-zero false p t = absurd (never (sym t))

  end-zero : (x y z : Bool) → eqb a dash ≡ x → eqb b 45 ≡ y → eqb c 62 ≡ z → (x && y) && z ≡ true → end ≡ 0
  end-zero true true true p q r t = rw (same a dash p, same b 45 q, same c 62 r)
  end-zero true true false p q r t = absurd (never (sym t))
  end-zero true false z p q r t = absurd (never (sym t))
  end-zero false y z p q r t = absurd (never (sym t))

  pub far_none : 0 < lesser tag end → mark letter dash a b c ≡ false
  unfolding mark
  far_none h = go (eqb a 60 && ((eqb b 47 || eqb b 83) || eqb b letter)) ((eqb a dash && eqb b 45) && eqb c 62) refl refl
    where
      go : (x y : Bool) → eqb a 60 && ((eqb b 47 || eqb b 83) || eqb b letter) ≡ x → (eqb a dash && eqb b 45) && eqb c 62 ≡ y → x || y ≡ false
      go true y p q = absurd (omega (arith, h, least-left tag end (tag-zero (eqb a 60) refl p)))
      go false true p q = absurd (omega (arith, h, least-right tag end (end-zero (eqb a dash) (eqb b 45) (eqb c 62) refl refl refl q)))
      go false false p q = refl
