-- What the least xor of some bytes tells of each of them: it is at most that of each, and above 128 only for the bytes that are looked for. Of one key that
-- is by the highest bit and the seven others; of all that are not plain it is computed for every byte.
-- Assumes nothing.
use mathlib.Core.Bool.{Bool, true, false, not, ◌||◌}
use mathlib.Core.Path.{◌≡◌, refl, ap, ◌∙◌, subst}
use Prim.Native.Nat.{ℕ, ◌+◌, ◌-◌, ◌*◌, ◌≤◌, ◌<◌}
use native.Mathlib.Omega.{arith}
use borrow.Author.Tests.{ltb-true, ltb-false, lt-ltb}
use lib.Bits.{bit_xor, xor_self, xor_lt, xor_block}
use lib.Dec.{T, ltb}
use Rattle.rules.proofs.EveryByte.{every_byte_lem}
use Rattle.plain.specs.Plain.{plain, lesser, far_of}

-- The lesser of two is at most each.
pub lesser-most : (a b : ℕ) → (lesser a b ≤ a) × (lesser a b ≤ b)
lesser-most a b = (omega arith, omega arith)

-- The lesser of two is above 0 only if both are.
pub lesser-some : (a b : ℕ) → 0 < lesser a b → (0 < a) × (0 < b)
lesser-some a b l = let most = lesser-most a b in (omega (arith, l, most), omega (arith, l, most))

-- The xor of a byte with a key whose highest bit is set.
xor-high : (h b k : ℕ) → b < 128 → k < 128 → bit_xor (h * 128 + b) (1 * 128 + k) ≡ bit_xor h 1 * 128 + bit_xor b k
xor-high h b k l m = xor_block 7 h 1 b k l m

pub xor-tells : (b k : ℕ) → b < 256 → k < 128 → 128 < bit_xor b (k + 128) → (b < 128) × (b ≡ k → ⊥)
xor-tells b k l m g = go (ltb b 128) refl
  where
    key : k + 128 ≡ 1 * 128 + k
    key = omega arith

    zero : k ≡ 0 * 128 + k
    zero = omega arith

    same : bit_xor k (k + 128) ≡ 128
    same = ap (λ (n : ℕ). bit_xor n (k + 128)) zero ∙ ap (bit_xor (0 * 128 + k)) key ∙ xor-high 0 k k m m ∙ ap (λ (n : ℕ). bit_xor 0 1 * 128 + n) (xor_self k)

    go : (x : Bool) → ltb b 128 ≡ x → (b < 128) × (b ≡ k → ⊥)
    go true q = (ltb-true b 128 q, λ e. omega (arith, g, ap (λ (n : ℕ). bit_xor n (k + 128)) e ∙ same))
    go false q =
        let h = ltb-false b 128 q in
        let r : b ≡ 1 * 128 + (b - 128) = omega (arith, h) in
        let small = xor_lt 7 (b - 128) k (omega (arith, l)) m in
        let s : bit_xor b (k + 128) ≡ 0 * 128 + bit_xor (b - 128) k = ap (λ (n : ℕ). bit_xor n (k + 128)) r ∙ ap (bit_xor (1 * 128 + (b - 128))) key ∙ xor-high 1 (b - 128) k (omega (arith, l)) m in
        absurd (omega (arith, g, s, small))

-- A byte that is far from all that are not plain is plain.
far-all : (b : ℕ) → b < 256 → T (not (ltb 128 (far_of b)) || plain false b)
unfolding plain
far-all b l = every_byte_lem (λ (b : ℕ). not (ltb 128 (far_of b)) || plain false b) tt b l

pub far-plain : (b : ℕ) → b < 256 → 128 < far_of b → not (plain false b) ≡ false
far-plain b l h = denied (plain false b) (subst (λ (x : Bool). T (not x || plain false b)) (lt-ltb 128 (far_of b) h) (far-all b l))
  where
    denied : (x : Bool) → T x → not x ≡ false
    denied true t = refl
    denied false t = absurd t
