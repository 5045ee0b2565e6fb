-- The two halves of RFC 3629 agree: the bytes that section 3 makes of a character's number are a character of section 4, by the range of its first byte.
-- Assumes nothing.
use mathlib.Core.Bool.{Bool, true, false, not, ◌&&◌, cond}
use mathlib.Core.Logic.{inl, inr}
use mathlib.Core.Path.{◌≡◌, refl, sym}
use mathlib.Core.List.{List, [], ◌∷◌, append-nil}
use Prim.Native.Nat.{ℕ, ◌+◌, ◌*◌, ◌/◌, ◌%◌, ◌≤◌, ◌<◌}
use native.Mathlib.Nat.{div-add-mod'}
use native.Mathlib.Omega.{arith}
use borrow.Author.Tests.{ltb-true, ltb-false}
use lib.Dec.{T, leb, ltb, leb→le, le→leb, T_not}
use Rattle.rules.specs.Bytes.{In, Range, inside}
use Rattle.rules.specs.Utf8.{sequences, IsChar, IsText, utf8}
use Rattle.rules.specs.References.{scalar}
use Rattle.rules.proofs.Tests.{and_left, and_right, and_both}

-- A character is a text.
pub char-text : (a : List ℕ) → IsChar a → IsText a
char-text a c = (a ∷ [], (c, tt), sym (append-nil a))

within : (r : Range) (x : ℕ) → r.0 ≤ x → x ≤ r.1 → T (inside r x)
within r x h k = and_both (leb r.0 x) (leb x r.1) (le→leb r.0 x h) (le→leb x r.1 k)

-- ---- a sequence of ranges, byte by byte

abbrev tail : Range
tail = (0x80, 0xBF)

two : (a : Range) → In (a ∷ tail ∷ []) sequences → (x y : ℕ) → a.0 ≤ x → x ≤ a.1 → 0x80 ≤ y → y ≤ 0xBF → IsChar (x ∷ y ∷ [])
two a i x y h k l m = (a ∷ tail ∷ [], i, and_both (inside a x) (inside tail y && true) (within a x h k) (and_both (inside tail y) true (within tail y l m) tt), refl)

three : (a b : Range) → In (a ∷ b ∷ tail ∷ []) sequences → (x y z : ℕ) → a.0 ≤ x → x ≤ a.1 → b.0 ≤ y → y ≤ b.1 → 0x80 ≤ z → z ≤ 0xBF → IsChar (x ∷ y ∷ z ∷ [])
three a b i x y z h k l m n o = (
  a ∷ b ∷ tail ∷ [],
  i,
  and_both (inside a x) (inside b y && (inside tail z && true)) (within a x h k)
      (and_both (inside b y) (inside tail z && true) (within b y l m) (and_both (inside tail z) true (within tail z n o) tt)),
  refl,
)

four : (a b : Range) → In (a ∷ b ∷ tail ∷ tail ∷ []) sequences → (x y z w : ℕ) → a.0 ≤ x → x ≤ a.1 → b.0 ≤ y → y ≤ b.1 → 0x80 ≤ z → z ≤ 0xBF → 0x80 ≤ w → w ≤ 0xBF
    → IsChar (x ∷ y ∷ z ∷ w ∷ [])
four a b i x y z w h k l m n o p q = (
  a ∷ b ∷ tail ∷ tail ∷ [],
  i,
  and_both (inside a x) (inside b y && (inside tail z && (inside tail w && true))) (within a x h k)
      (and_both (inside b y) (inside tail z && (inside tail w && true)) (within b y l m)
      (and_both (inside tail z) (inside tail w && true) (within tail z n o) (and_both (inside tail w) true (within tail w p q) tt))),
  refl,
)

-- ---- the numbers of each length

module _ (n : ℕ) where
  -- The number in three bytes, and in four.
  abbrev in_three : List ℕ
  in_three = (0xE0 + n / 4096) ∷ (0x80 + n / 64 % 64) ∷ (0x80 + n % 64) ∷ []

  abbrev in_four : List ℕ
  in_four = (0xF0 + n / 262144) ∷ (0x80 + n / 4096 % 64) ∷ (0x80 + n / 64 % 64) ∷ (0x80 + n % 64) ∷ []

  -- Two digits of base 64 make one of base 4,096, and three one of base 262,144.
  pairs : n / 64 ≡ 64 * (n / 4096) + n / 64 % 64
  pairs = omega (arith, div-add-mod' n 64, div-add-mod' n 4096, div-add-mod' (n / 64) 64)

  triples : n / 4096 ≡ 64 * (n / 262144) + n / 4096 % 64
  triples = omega (arith, div-add-mod' n 4096, div-add-mod' n 262144, div-add-mod' (n / 4096) 64)

  low : n < 0x80 → IsChar (n ∷ [])
  low h = ((0x00, 0x7F) ∷ [], inl refl, and_both (inside (0x00, 0x7F) n) true (within (0x00, 0x7F) n (omega arith) (omega arith)) tt, refl)

  pair : 0x80 ≤ n → n < 0x800 → IsChar ((0xC0 + n / 64) ∷ (0x80 + n % 64) ∷ [])
  pair l h = two (0xC2, 0xDF) (inr (inl refl)) (0xC0 + n / 64) (0x80 + n % 64) (omega arith) (omega arith) (omega arith) (omega arith)

  -- Three bytes: the first says which range the second has.
  triple : 0x800 ≤ n → n < 0x10000 → (0xD800 ≤ n → n ≤ 0xDFFF → ⊥) → IsChar in_three
  triple l h s = first (ltb n 0x1000) refl
    where
      make : (a b : Range) → In (a ∷ b ∷ tail ∷ []) sequences → a.0 ≤ 0xE0 + n / 4096 → 0xE0 + n / 4096 ≤ a.1 → b.0 ≤ 0x80 + n / 64 % 64 → 0x80 + n / 64 % 64 ≤ b.1
          → IsChar in_three
      make a b i j k m o = three a b i (0xE0 + n / 4096) (0x80 + n / 64 % 64) (0x80 + n % 64) j k m o (omega arith) (omega arith)

      last : (x : Bool) → ltb n 0xE000 ≡ x → 0xD000 ≤ n → IsChar in_three
      last true e k =
          let u = ltb-true n 0xE000 e in
          let v : n < 0xD800 = below (λ q. s q (omega arith)) in
          make (0xED, 0xED) (0x80, 0x9F) (inr (inr (inr (inr (inl refl))))) (omega arith) (omega arith) (omega arith) (omega (arith, pairs))
        where
          below : (0xD800 ≤ n → ⊥) → n < 0xD800
          below f = omega arith
      last false e k =
          let u = ltb-false n 0xE000 e in
          make (0xEE, 0xEF) (0x80, 0xBF) (inr (inr (inr (inr (inr (inl refl)))))) (omega arith) (omega arith) (omega arith) (omega arith)

      middle : (x : Bool) → ltb n 0xD000 ≡ x → 0x1000 ≤ n → IsChar in_three
      middle true e k =
          let u = ltb-true n 0xD000 e in
          make (0xE1, 0xEC) (0x80, 0xBF) (inr (inr (inr (inl refl)))) (omega arith) (omega arith) (omega arith) (omega arith)
      middle false e k = last (ltb n 0xE000) refl (ltb-false n 0xD000 e)

      first : (x : Bool) → ltb n 0x1000 ≡ x → IsChar in_three
      first true e =
          let u = ltb-true n 0x1000 e in
          make (0xE0, 0xE0) (0xA0, 0xBF) (inr (inr (inl refl))) (omega arith) (omega arith) (omega (arith, pairs)) (omega arith)
      first false e = middle (ltb n 0xD000) refl (ltb-false n 0x1000 e)

  -- Four bytes likewise.
  quad : 0x10000 ≤ n → n ≤ 0x10FFFF → IsChar in_four
  quad l h = first (ltb n 0x40000) refl
    where
      make : (a b : Range) → In (a ∷ b ∷ tail ∷ tail ∷ []) sequences → a.0 ≤ 0xF0 + n / 262144 → 0xF0 + n / 262144 ≤ a.1 → b.0 ≤ 0x80 + n / 4096 % 64 → 0x80 + n / 4096 % 64 ≤ b.1
          → IsChar in_four
      make a b i j k m o =
          four a b i (0xF0 + n / 262144) (0x80 + n / 4096 % 64) (0x80 + n / 64 % 64) (0x80 + n % 64) j k m o (omega arith) (omega arith) (omega arith) (omega arith)

      middle : (x : Bool) → ltb n 0x100000 ≡ x → 0x40000 ≤ n → IsChar in_four
      middle true e k =
          let u = ltb-true n 0x100000 e in
          make (0xF1, 0xF3) (0x80, 0xBF) (inr (inr (inr (inr (inr (inr (inr (inl refl)))))))) (omega arith) (omega arith) (omega arith) (omega arith)
      middle false e k =
          let u = ltb-false n 0x100000 e in
          make (0xF4, 0xF4) (0x80, 0x8F) (inr (inr (inr (inr (inr (inr (inr (inr (inl refl))))))))) (omega arith) (omega arith) (omega arith) (omega (arith, triples))

      first : (x : Bool) → ltb n 0x40000 ≡ x → IsChar in_four
      first true e =
          let u = ltb-true n 0x40000 e in
          make (0xF0, 0xF0) (0x90, 0xBF) (inr (inr (inr (inr (inr (inr (inl refl))))))) (omega arith) (omega arith) (omega (arith, triples)) (omega arith)
      first false e = middle (ltb n 0x100000) refl (ltb-false n 0x40000 e)

  -- The bytes of a number that is at most 10FFFF and no surrogate are a character.
  pub utf8-char : T (scalar n) → IsChar (utf8 n)
  utf8-char t = go (ltb n 0x80) refl (ltb n 0x800) refl (ltb n 0x10000) refl
    where
      top : n ≤ 0x10FFFF
      top = leb→le n 0x10FFFF (and_left (leb n 0x10FFFF) (not (inside (0xD800, 0xDFFF) n)) t)

      plain : 0xD800 ≤ n → n ≤ 0xDFFF → ⊥
      plain h k = T_not (inside (0xD800, 0xDFFF) n) (and_right (leb n 0x10FFFF) (not (inside (0xD800, 0xDFFF) n)) t) (within (0xD800, 0xDFFF) n h k)

      go : (a : Bool) → ltb n 0x80 ≡ a → (b : Bool) → ltb n 0x800 ≡ b → (c : Bool) → ltb n 0x10000 ≡ c
          → IsChar (cond a (n ∷ [])
          (cond b ((0xC0 + n / 64) ∷ (0x80 + n % 64) ∷ [])
          (cond c in_three in_four)))
      go true e b f c g = low (ltb-true n 0x80 e)
      go false e true f c g = pair (ltb-false n 0x80 e) (ltb-true n 0x800 f)
      go false e false f true g = triple (ltb-false n 0x800 f) (ltb-true n 0x10000 g) plain
      go false e false f false g = quad (ltb-false n 0x10000 g) top
