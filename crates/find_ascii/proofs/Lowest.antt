-- The lowest bit of the hits is in the first byte that is searched: byte by byte, since no sum carries into the next byte.
-- Assumes nothing.
use mathlib.Core.Bool.{Bool, true, false, ◌||◌, cond}
use mathlib.Core.Path.{◌≡◌, refl, sym, ap, ◌∙◌, subst}
use mathlib.Core.List.{List, ◌++◌}
use Prim.Native.Nat.{ℕ, zero, suc, ◌+◌, ◌-◌, ◌*◌, ◌/◌, ◌%◌, ◌^◌, ◌≤◌, ◌<◌}
use native.Mathlib.Omega.{arith}
use borrow.Author.Tests.{eqb-true, eq-eqb, ne_eqb, ltb-true, ltb-false}
use lib.Bits.{bit_and, bit_xor, xor_block, and_block, xor_lt}
use lib.Count.{count_trailing_zeros}
use lib.Dec.{T, eqb, ltb, eqb→eq}
use lib.ListN.{length, take, drop, get_or, get_or-eq_default}
use Rattle.rules.proofs.EveryByte.{every_byte_lem}
use Rattle.base.specs.Places.{Absent, Nearest}
use Rattle.base.proofs.Part.{part_length, parted, cut-within, cut-here}
use Rattle.std.specs.Int.{w64, from_le_bytes}
use Rattle.find_ascii.specs.Words.{word_of, word_at, repeat, hits_of, Ascii}

-- ---- zeros below the lowest bit

tz-even : (d n : ℕ) → count_trailing_zeros (suc d) (n * 2) ≡ suc (count_trailing_zeros d n)
unfolding count_trailing_zeros
tz-even d n =
    let e : n * 2 % 2 ≡ 0 = omega arith in
    let h : n * 2 / 2 ≡ n = omega arith in
    rw (e, h)

tz_odd : (d n : ℕ) → count_trailing_zeros (suc d) (n * 2 + 1) ≡ 0
unfolding count_trailing_zeros
tz_odd d n = let e : (n * 2 + 1) % 2 ≡ 1 = omega arith in rw e

-- Eight more digits.
abbrev pub eight : ℕ → ℕ
eight d = suc (suc (suc (suc (suc (suc (suc (suc d)))))))

tz-eight : (d n : ℕ) → count_trailing_zeros (eight d) (n * 256) ≡ eight (count_trailing_zeros d n)
tz-eight d n =
    let e : n * 256 ≡ n * 2 * 2 * 2 * 2 * 2 * 2 * 2 * 2 = omega arith in
    ap (count_trailing_zeros (eight d)) e
    ∙ tz-even (suc (suc (suc (suc (suc (suc (suc d))))))) (n * 2 * 2 * 2 * 2 * 2 * 2 * 2)
    ∙ ap suc (tz-even (suc (suc (suc (suc (suc (suc d)))))) (n * 2 * 2 * 2 * 2 * 2 * 2)
    ∙ ap suc (tz-even (suc (suc (suc (suc (suc d))))) (n * 2 * 2 * 2 * 2 * 2)
    ∙ ap suc (tz-even (suc (suc (suc (suc d)))) (n * 2 * 2 * 2 * 2)
    ∙ ap suc (tz-even (suc (suc (suc d))) (n * 2 * 2 * 2)
    ∙ ap suc (tz-even (suc (suc d)) (n * 2 * 2)
    ∙ ap suc (tz-even (suc d) (n * 2)
    ∙ ap suc (tz-even d n)))))))

tz-seven : (d n : ℕ) → count_trailing_zeros (eight d) (n * 256 + 128) ≡ 7
tz-seven d n =
    let m = n * 2 + 1 in
    let e : n * 256 + 128 ≡ m * 2 * 2 * 2 * 2 * 2 * 2 * 2 = omega arith in
    ap (count_trailing_zeros (eight d)) e
    ∙ tz-even (suc (suc (suc (suc (suc (suc (suc d))))))) (m * 2 * 2 * 2 * 2 * 2 * 2)
    ∙ ap suc (tz-even (suc (suc (suc (suc (suc (suc d)))))) (m * 2 * 2 * 2 * 2 * 2)
    ∙ ap suc (tz-even (suc (suc (suc (suc (suc d))))) (m * 2 * 2 * 2 * 2)
    ∙ ap suc (tz-even (suc (suc (suc (suc d)))) (m * 2 * 2 * 2)
    ∙ ap suc (tz-even (suc (suc (suc d))) (m * 2 * 2)
    ∙ ap suc (tz-even (suc (suc d)) (m * 2)
    ∙ ap suc (tz-even (suc d) m
    ∙ ap suc (tz_odd d n)))))))

-- The digits of n bytes.
abbrev pub digits : ℕ → ℕ
digits zero = 0
digits (suc n) = eight (digits n)

-- ---- one byte

-- The highest bits of a number and the next one differ only at 127.
abbrev hit : ℕ → ℕ
hit x = bit_and (bit_xor (x + 1) x) 128

abbrev crossed : ℕ → Bool
crossed x = eqb x 255 || eqb (hit x) (cond (eqb x 127) 128 0)

hit-of : (x : ℕ) → x < 255 → hit x ≡ cond (eqb x 127) 128 0
hit-of x h = eqb→eq (hit x) (cond (eqb x 127) 128 0) (subst (λ (b : Bool). T (b || eqb (hit x) (cond (eqb x 127) 128 0))) (ne_eqb x 255 (λ e. omega (arith, e, h))) (every_byte_lem crossed tt x (omega arith)))

hits-step : (k b n w : ℕ) → b + k < 255 → hits_of k (suc n) (b + 256 * w) ≡ hits_of k n w * 256 + hit (b + k)
hits-step k b n w h =
    let a = repeat (suc k) n in
    let c = repeat k n in
    let x : b + 256 * w + (suc k + 256 * a) ≡ (w + a) * 2 ^ 8 + (b + k + 1) = omega arith in
    let y : b + 256 * w + (k + 256 * c) ≡ (w + c) * 2 ^ 8 + (b + k) = omega arith in
    let z : 128 + 256 * repeat 128 n ≡ repeat 128 n * 2 ^ 8 + 128 = omega arith in
    (λ j. bit_and (bit_xor (x j) (y j)) (z j))
    ∙ ap (λ (m : ℕ). bit_and m (repeat 128 n * 2 ^ 8 + 128)) (xor_block 8 (w + a) (w + c) (b + k + 1) (b + k) (omega arith) (omega arith))
    ∙ and_block 8 (bit_xor (w + a) (w + c)) (repeat 128 n) (bit_xor (b + k + 1) (b + k)) 128 (xor_lt 8 (b + k + 1) (b + k) (omega arith) (omega arith)) (omega arith)

-- ---- some bytes

module _ (byte k : ℕ) (sum : k + byte ≡ 127) where
  -- Where there is no hit, none of the bytes is it,
  pub none-hit : (n : ℕ) (f : ℕ → ℕ) → ((j : ℕ) → f j < 128) → hits_of k n (word_of f n) ≡ 0 → (j : ℕ) → j < n → f j ≡ byte → ⊥
  none-hit zero f low e j h = absurd (omega arith)
  none-hit (suc n) f low e j h =
      let s = hits-step k (f 0) n (word_of (λ j. f (suc j)) n) (omega (arith, low 0, sum)) in
      let o = hit-of (f 0 + k) (omega (arith, low 0, sum)) in
      go (eqb (f 0 + k) 127) refl (sym s ∙ e) o (λ z. none-hit n (λ j. f (suc j)) (λ j. low (suc j)) z) j h
    where
      go : (x : Bool) → eqb (f 0 + k) 127 ≡ x → hits_of k n (word_of (λ j. f (suc j)) n) * 256 + hit (f 0 + k) ≡ 0 → hit (f 0 + k) ≡ cond (eqb (f 0 + k) 127) 128 0
          → (hits_of k n (word_of (λ j. f (suc j)) n) ≡ 0 → (j : ℕ) → j < n → f (suc j) ≡ byte → ⊥) → (j : ℕ) → j < suc n → f j ≡ byte → ⊥
      go true q z o ih j h = λ y. let p : hit (f 0 + k) ≡ 128 = o ∙ ap (λ (x : Bool). cond x 128 0) q in omega (arith, z, p)
      go false q z o ih zero h = λ y. let p : f 0 + k ≡ 127 = omega (arith, y, sum) in subst T (sym (eq-eqb (f 0 + k) 127 p) ∙ q) tt
      go false q z o ih (suc j) h = ih (omega (arith, z)) j (omega arith)

  -- and else the lowest bit is in the first that is.
  pub first-hit : (n : ℕ) (f : ℕ → ℕ) → ((j : ℕ) → f j < 128) → (hits_of k n (word_of f n) ≡ 0 → ⊥)
      → let r = count_trailing_zeros (digits n) (hits_of k n (word_of f n)) / 8 in (r < n) × ((j : ℕ) → j < r → f j ≡ byte → ⊥) × (f r ≡ byte)
  first-hit zero f low e = absurd (e refl)
  first-hit (suc n) f low e =
      let s = hits-step k (f 0) n (word_of (λ j. f (suc j)) n) (omega (arith, low 0, sum)) in
      let o = hit-of (f 0 + k) (omega (arith, low 0, sum)) in
      subst (λ (m : ℕ). (count_trailing_zeros (eight (digits n)) m / 8 < suc n) × ((j : ℕ) → j < count_trailing_zeros (eight (digits n)) m / 8 → f j ≡ byte → ⊥) × (f (count_trailing_zeros (eight (digits n)) m / 8) ≡ byte)) (sym s)
      (go (eqb (f 0 + k) 127) refl o (λ z. e (s ∙ z)) (λ z. first-hit n (λ j. f (suc j)) (λ j. low (suc j)) z))
    where
      rest : ℕ
      rest = hits_of k n (word_of (λ j. f (suc j)) n)

      -- What is found at the place of these zeros.
      At : ℕ → Type 0
      At t = (t / 8 < suc n) × ((j : ℕ) → j < t / 8 → f j ≡ byte → ⊥) × (f (t / 8) ≡ byte)

      later : (t : ℕ) → (t / 8 < n) × ((j : ℕ) → j < t / 8 → f (suc j) ≡ byte → ⊥) × (f (suc (t / 8)) ≡ byte) → (f 0 ≡ byte → ⊥) → At (eight t)
      later t (l, apart, here) other =
          let d : eight t / 8 ≡ suc (t / 8) = omega arith in
          subst (λ (r : ℕ). (r < suc n) × ((j : ℕ) → j < r → f j ≡ byte → ⊥) × (f r ≡ byte)) (sym d) (omega arith, before, here)
        where
          before : (j : ℕ) → j < suc (t / 8) → f j ≡ byte → ⊥
          before zero h = other
          before (suc j) h = apart j (omega arith)

      go : (x : Bool) → eqb (f 0 + k) 127 ≡ x → hit (f 0 + k) ≡ cond (eqb (f 0 + k) 127) 128 0 → (rest * 256 + hit (f 0 + k) ≡ 0 → ⊥)
          → ((rest ≡ 0 → ⊥) → (count_trailing_zeros (digits n) rest / 8 < n) × ((j : ℕ) → j < count_trailing_zeros (digits n) rest / 8 → f (suc j) ≡ byte → ⊥) × (f (suc (count_trailing_zeros (digits n) rest / 8)) ≡ byte))
          → At (count_trailing_zeros (eight (digits n)) (rest * 256 + hit (f 0 + k)))
      go true q o e ih =
          let p : hit (f 0 + k) ≡ 128 = o ∙ ap (λ (x : Bool). cond x 128 0) q in
          let same : f 0 + k ≡ 127 = eqb-true (f 0 + k) 127 q in
          let here : f 0 ≡ byte = omega (arith, same, sum) in
          subst At (sym (ap (λ (h : ℕ). count_trailing_zeros (eight (digits n)) (rest * 256 + h)) p ∙ tz-seven (digits n) rest)) (omega arith, λ j h. absurd (omega arith), here)
      go false q o e ih =
          let p : hit (f 0 + k) ≡ 0 = o ∙ ap (λ (x : Bool). cond x 128 0) q in
          let zero_more : rest * 256 + 0 ≡ rest * 256 = omega arith in
          let some : rest ≡ 0 → ⊥ = λ z. e (omega (arith, z, p)) in
          let other : f 0 ≡ byte → ⊥ = λ y. let w : f 0 + k ≡ 127 = omega (arith, y, sum) in subst T (sym (eq-eqb (f 0 + k) 127 w) ∙ q) tt in
          subst At (sym (ap (λ (h : ℕ). count_trailing_zeros (eight (digits n)) (rest * 256 + h)) p ∙ ap (count_trailing_zeros (eight (digits n))) zero_more ∙ tz-eight (digits n) rest))
          (later (count_trailing_zeros (digits n) rest) (ih some) other)

-- ---- eight bytes of a text

-- Every byte of an ASCII text is below 128, and past its end too.
pub ascii-all : (t : List ℕ) → Ascii t → (k : ℕ) → get_or t k 0 < 128
ascii-all t a k = go (ltb k (length t)) refl
  where
    go : (x : Bool) → ltb k (length t) ≡ x → get_or t k 0 < 128
    go true q = a k (ltb-true k (length t) q)
    go false q = let e = get_or-eq_default t 0 (ltb-false k (length t) q) in omega (arith, e)

module _ (t : List ℕ) (ascii : Ascii t) (byte i : ℕ) (small : byte < 128) where
  abbrev f : ℕ → ℕ
  f j = get_or t (i + j) 0

  low : (j : ℕ) → f j < 128
  low j = ascii-all t ascii (i + j)

  pub word-most : word_at t i 8 ≤ 0x7F7F7F7F7F7F7F7F
  word-most = omega (arith, low 0, low 1, low 2, low 3, low 4, low 5, low 6, low 7)

  at_place : (k : ℕ) → i ≤ k → f (k - i) ≡ get_or t k 0
  at_place k h = let e : i + (k - i) ≡ k = omega arith in ap (λ (k : ℕ). get_or t k 0) e

  hits-none : hits_of (127 - byte) 8 (word_at t i 8) ≡ 0 → Absent t i (i + 8) byte
  hits-none e k a b z = none-hit byte (127 - byte) (omega arith) 8 f low e (k - i) (omega arith) (at_place k a ∙ z)

  hits-some : i + 8 ≤ length t → (hits_of (127 - byte) 8 (word_at t i 8) ≡ 0 → ⊥) → (r : ℕ) → r ≡ count_trailing_zeros 64 (hits_of (127 - byte) 8 (word_at t i 8)) / 8 → Nearest t i byte (i + r) × (r < 8)
  hits-some l e r q =
      let d : digits 8 ≡ 64 = refl in
      let m = hits_of (127 - byte) 8 (word_at t i 8) in
      let found : (r < 8) × ((j : ℕ) → j < r → f j ≡ byte → ⊥) × (f r ≡ byte) =
      subst (λ (r : ℕ). (r < 8) × ((j : ℕ) → j < r → f j ≡ byte → ⊥) × (f r ≡ byte)) (ap (λ (d : ℕ). count_trailing_zeros d m / 8) d ∙ sym q) (first-hit byte (127 - byte) (omega arith) 8 f low e) in
      let less = found.0 in (
        record {
          after = omega arith;
          within = omega (arith, less);
          none = λ k a b z. found.1 (k - i) (omega arith) (at_place k a ∙ z);
          here = λ h. found.2;
        },
        less,
      )

  -- So the hits of the eight bytes tell where the byte is: nowhere if they are 0, and else their lowest bit gives the first place.
  module _ (w h : ℕ) (e : w ≡ word_at t i 8) (q : h ≡ hits_of (127 - byte) 8 w) where
    same : h ≡ hits_of (127 - byte) 8 (word_at t i 8)
    same = q ∙ ap (hits_of (127 - byte) 8) e

    pub told-none : h ≡ 0 → Absent t i (i + 8) byte
    told-none z = hits-none (sym same ∙ z)

    pub told-some : i + 8 ≤ length t → (h ≡ 0 → ⊥) → (r : ℕ) → r ≡ count_trailing_zeros 64 h / 8 → Nearest t i byte (i + r) × (r < 8)
    told-some l n r p = hits-some l (λ z. n (same ∙ z)) r (p ∙ ap (λ (m : ℕ). count_trailing_zeros 64 m / 8) same)

-- Eight bytes, as std makes one number of them.
pub word-same : (v : List ℕ) → from_le_bytes w64 v ≡ word_at v 0 8
word-same v = omega arith

-- ---- eight bytes of a text

module _ (t : List ℕ) (i : ℕ) (byte : ℕ) where
  -- The first place in a block of eight that is cut off the text, and in the text.
  pub cut-near : (x r : List ℕ) (j : ℕ) → i ≤ length t → drop i t ≡ x ++ r → length x ≡ 8 → Nearest x 0 byte j × (j < 8) → Nearest t i byte (i + j) × (j < 8)
  cut-near x r j h e s (q, l) =
      let whole = cut-within t x r i 8 h e s in
      let here = cut-here t x r i 8 h e s in
      let back : i + j - i ≡ j = omega arith in (
        record {
          after = omega arith;
          within = omega (arith, l, whole);
          none = λ k a b z. q.none (k - i) (omega arith) (omega arith) (here k a (omega (arith, b, l)) ∙ z);
          here = λ m. sym (here (i + j) (omega arith) (omega (arith, l))) ∙ ap (λ (n : ℕ). get_or x n 0) back ∙ q.here (omega (arith, l, s));
        },
        l,
      )

  pub cut-absent : (x r : List ℕ) → i ≤ length t → drop i t ≡ x ++ r → length x ≡ 8 → Absent x 0 8 byte → Absent t i (i + 8) byte
  cut-absent x r h e s f k a b z = f (k - i) (omega arith) (omega arith) (cut-here t x r i 8 h e s k a b ∙ z)

  pub cut-ascii : (x r : List ℕ) → i ≤ length t → drop i t ≡ x ++ r → length x ≡ 8 → Ascii t → Ascii x
  cut-ascii x r h e s f k l =
      let back : i + k - i ≡ k = omega arith in
      let same = ap (λ (n : ℕ). get_or x n 0) (sym back) ∙ cut-here t x r i 8 h e s (i + k) (omega arith) (omega (arith, l, s)) in
      omega (arith, same, f (i + k) (omega (arith, l, s, cut-within t x r i 8 h e s)))

-- The eight bytes of a text from i up to e, as a call that is lent them sees them.
module _ (t : List ℕ) (i e : ℕ) (n : e ≡ i + 8) (h : i + 8 ≤ length t) where
  abbrev lent : List ℕ
  lent = take (e - i) (drop i t)

  long : length lent ≡ 8
  long = omega (arith, n, part_length t i e (omega (arith, n)) (omega (arith, n, h)))

  split : drop i t ≡ lent ++ drop e t
  split = sym (parted t i e (omega (arith, n)))

  pub eight-near : (byte j : ℕ) → Nearest lent 0 byte j × (j < 8) → Nearest t i byte (i + j) × (j < 8)
  eight-near byte j = cut-near t i byte lent (drop e t) j (omega arith) split long

  pub eight-absent : (byte : ℕ) → Absent lent 0 8 byte → Absent t i (i + 8) byte
  eight-absent byte = cut-absent t i byte lent (drop e t) (omega arith) split long

  pub eight-ascii : Ascii t → (length lent ≡ 8) × Ascii lent
  eight-ascii f = (long, cut-ascii t i 0 lent (drop e t) (omega arith) split long f)
