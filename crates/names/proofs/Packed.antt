-- Bytes that are packed into a number are unpacked one by one, until the number is 0 or six are read.
-- Assumes nothing.
use mathlib.Core.Bool.{Bool, true, false, cond}
use mathlib.Core.Path.{◌≡◌, refl, ap, ◌∙◌}
use mathlib.Core.List.{List, [], ◌∷◌}
use Prim.Native.Nat.{ℕ, zero, suc, ◌+◌, ◌-◌, ◌*◌, ◌/◌, ◌%◌, ◌≤◌, ◌<◌}
use native.Mathlib.Numerals.{add-one}
use native.Mathlib.Omega.{arith}
use lib.Dec.{leb, eqb}
use lib.ListN.{length, set}
use lib.Seq.{set_split, drop-drop}
use borrow.Author.Tests.{eqb-true, eqb-false, leb-true, leb-false, ne_eqb, le-leb, lt-leb}
use Rattle.rules.specs.Bytes.{over}
use Rattle.rules.specs.Answers.{unpack_to}
use Rattle.base.proofs.Filled.{Filled, filled-start, filled_more, filled-end}

-- ---- how many

-- 1 if n is at least `least`
abbrev pub reach : ℕ → ℕ → ℕ
reach least n = cond (leb least n) 1 0

unpack-zero : (k : ℕ) → unpack_to k 0 ≡ []
unpack-zero zero = refl
unpack-zero (suc k) = refl

length-next : (k n : ℕ) → length (unpack_to (suc k) n) ≡ reach 1 n + length (unpack_to k (n / 256))
length-next k n = go (eqb n 0) refl
  where
    go : (b : Bool) → eqb n 0 ≡ b → length (unpack_to (suc k) n) ≡ reach 1 n + length (unpack_to k (n / 256))
    go true e = rw (eqb-true n 0 e, unpack-zero k)
    go false e = let h : 1 ≤ n = omega (arith, eqb-false n 0 e) in rw (e, le-leb 1 n h) (omega arith)

reach-next : (least n : ℕ) → reach least (n / 256) ≡ reach (least * 256) n
reach-next least n = go (leb least (n / 256)) refl
  where
    go : (b : Bool) → leb least (n / 256) ≡ b → reach least (n / 256) ≡ reach (least * 256) n
    go true e = let h : least * 256 ≤ n = omega (arith, leb-true least (n / 256) e) in rw (e, le-leb (least * 256) n h)
    go false e = let h : n < least * 256 = omega (arith, leb-false least (n / 256) e) in rw (e, lt-leb (least * 256) n h)

-- how many of k powers of 256, from `least` on, the number reaches
abbrev pub reaches : ℕ → ℕ → ℕ → ℕ
reaches zero least n = 0
reaches (suc k) least n = reach least n + reaches k (least * 256) n

reaches-next : (k least n : ℕ) → reaches k least (n / 256) ≡ reaches k (least * 256) n
reaches-next zero least n = refl
reaches-next (suc k) least n = rw (reach-next least n, reaches-next k (least * 256) n)

-- There is a byte for each of these powers.
pub unpack-length : (k n : ℕ) → length (unpack_to k n) ≡ reaches k 1 n
unpack-length zero n = refl
unpack-length (suc k) n = length-next k n ∙ rw (unpack-length k (n / 256), reaches-next k 1 n)

-- ---- one by one

-- The number is read as far as n bytes, which are written; `rest` is what is left of it.
pub record Unpacked (value : ℕ) (out₀ out : List ℕ) (rest n : ℕ) : Type 0 where
  pub most : n ≤ 6
  pub filled : Filled (unpack_to 6 value) (unpack_to (6 - n) rest) out₀ out n

pub unpacked-start : (value : ℕ) (out : List ℕ) → length (unpack_to 6 value) ≤ length out → Unpacked value out out value 0
unpacked-start value out h = record { most = omega arith; filled = filled-start (unpack_to 6 value) out h }

module _ {value : ℕ} {out₀ out : List ℕ} {rest n : ℕ} (u : Unpacked value out₀ out rest n) where
  -- nothing is left
  pub unpacked-end : unpack_to (6 - n) rest ≡ [] → (n ≡ length (unpack_to 6 value)) × (n ≤ 6) × (out ≡ over (unpack_to 6 value) out₀)
  unpacked-end e =
      let f : Filled (unpack_to 6 value) [] out₀ out n = rw e at u.filled in
      (omega (arith, f.sum), u.most, filled-end f)

  pub unpacked-zero : rest ≡ 0 → unpack_to (6 - n) rest ≡ []
  unpacked-zero e = rw e (unpack-zero (6 - n))

  -- six bytes are written
  pub unpacked-six : 6 ≤ n → (6 ≡ length (unpack_to 6 value)) × (6 ≤ 6) × (out ≡ over (unpack_to 6 value) out₀)
  unpacked-six h =
      let z : 6 - n ≡ 0 = omega arith in
      let e : n ≡ 6 = omega (arith, u.most) in
      rw e at (unpacked-end (rw z))

  module _ (h : n < 6) (z : rest ≡ 0 → ⊥) where
    next : unpack_to (6 - n) rest ≡ (rest % 256) ∷ unpack_to (6 - (n + 1)) (rest / 256)
    next = let k : 6 - n ≡ suc (6 - (n + 1)) = omega arith in rw (k, ne_eqb rest 0 z)

    -- there is room for one byte more
    pub unpacked-room : n < length out
    unpacked-room = omega (arith, u.filled.sum, u.filled.kept, u.filled.room, ap length next)

    pub unpacked-next : Unpacked value out₀ (set out n (rest % 256)) (rest / 256) (n + 1)
    unpacked-next = record {
      most = omega arith;
      filled = filled_more ((rest % 256) ∷ []) (unpack_to (6 - (n + 1)) (rest / 256)) (set out n (rest % 256)) u.filled next
          (set_split out n (rest % 256) unpacked-room ∙ rw (drop-drop, add-one));
    }
