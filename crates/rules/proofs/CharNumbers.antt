-- A character's bytes and its number are each other's: by the ranges of RFC 3629, sequence by sequence.
-- Assumes nothing.
use mathlib.Core.Bool.{Bool, true, false, ◌&&◌, cond}
use mathlib.Core.Logic.{◌⊎◌, inl, inr}
use mathlib.Core.Option.{Option, none, some}
use mathlib.Core.Path.{◌≡◌, refl, sym, ap, ◌∙◌, subst}
use mathlib.Core.List.{List, [], ◌∷◌, ◌++◌}
use Prim.Native.Nat.{ℕ, ◌+◌, ◌-◌, ◌*◌, ◌/◌, ◌%◌, ◌≤◌, ◌<◌}
use native.Mathlib.Nat.{suc_inj, suc-ne-zero}
use native.Mathlib.Omega.{arith}
use borrow.Author.Tests.{lt-ltb, le-ltb, le-leb, lt-leb, ltb-true, ltb-false}
use lib.Dec.{T, leb, ltb, leb→le}
use lib.ListN.{length, take, drop, take-append-drop}
use lib.Seq.{take_at}
use Rattle.rules.specs.Bytes.{In, fits, Range, inside}
use Rattle.rules.specs.Utf8.{sequences, IsChar, utf8, code_of, sequence_at, char_at}
use Rattle.rules.specs.References.{scalar}
use Rattle.rules.proofs.Tests.{and_left, and_right, all_in, first-none}
use Rattle.rules.proofs.Chars.{disjoint, disjoint-law, is_tail, sequence-of-char}

-- ---- the character at the head of a list

-- It is the character that was put there.
pub char-at : (a r : List ℕ) → IsChar a → char_at (a ++ r) ≡ a
char-at a r c =
    ap (λ (o : Option (List Range)). elim o [ none ↦ [] | some q ↦ take (length q) (a ++ r) ]) (sequence-of-char a r c) ∙ take_at a r (length c.0) c.3

-- What there is of it stands there.
pub char-stands : (s : List ℕ) → 2 ≤ length (char_at s) → (r : List ℕ) × (s ≡ char_at s ++ r)
char-stands s l = go (sequence_at s) l
  where
    go : (o : Option (List Range)) → 2 ≤ length {A = ℕ} (elim o [ none ↦ [] | some q ↦ take (length q) s ])
        → (r : List ℕ) × (s ≡ elim o [ none ↦ [] | some q ↦ take (length q) s ] ++ r)
    go none l = absurd (let f : ⊥ = omega arith in f)
    go (some q) l = (drop (length q) s, sym (take-append-drop (length q) s))

-- No sequence begins with a byte 80 to BF.
abbrev leads_apart : List Range → Bool
leads_apart q = elim q [ [] ↦ false | r ∷ rs ↦ disjoint r (0x80, 0xBF) ]

pub tail_at : (y : ℕ) (s : List ℕ) → T (is_tail y) → char_at (y ∷ s) ≡ []
tail_at y s t =
    ap (λ (o : Option (List Range)). elim o [ none ↦ [] | some q ↦ take (length q) (y ∷ s) ])
    (first-none (fits inside) sequences (y ∷ s) (λ q i h. led q (all_in leads_apart sequences tt q i) h))
  where
    led : (q : List Range) → T (leads_apart q) → T (fits inside q (y ∷ s)) → ⊥
    led [] l h = l
    led (r ∷ rs) l h = disjoint-law r (0x80, 0xBF) y l (and_left (inside r y) (fits inside rs s) h) t

-- ---- from the bytes to the number and back

-- The number makes the bytes again, it is one of a character, and above 7F where there is more than one byte.
abbrev Coded : List ℕ → Type 0
Coded a = (utf8 (code_of a) ≡ a) × T (scalar (code_of a)) × (2 ≤ length a → 0x80 ≤ code_of a)

scalar-of : (n : ℕ) → n ≤ 0x10FFFF → (n < 0xD800) ⊎ (0xDFFF < n) → T (scalar n)
scalar-of n h (inl k) = rw (le-leb n 0x10FFFF h, lt-leb 0xD800 n k) tt
scalar-of n h (inr k) = rw (le-leb n 0x10FFFF h, le-leb 0xD800 n (omega arith), lt-leb n 0xDFFF k) tt

one-coded : (x : ℕ) → x ≤ 0x7F → Coded (x ∷ [])
one-coded x h = (rw (lt-ltb x 0x80 (omega arith)) refl, scalar-of x (omega arith) (inl (omega arith)), λ l. omega arith)

two-coded : (x y : ℕ) → 0xC2 ≤ x → x ≤ 0xDF → 0x80 ≤ y → y ≤ 0xBF → Coded (x ∷ y ∷ [])
two-coded x y a b c d =
    let p : 0xC0 + ((x - 0xC0) * 64 + (y - 0x80)) / 64 ≡ x = omega arith in
    let q : 0x80 + ((x - 0xC0) * 64 + (y - 0x80)) % 64 ≡ y = omega arith in (
      rw (le-ltb ((x - 0xC0) * 64 + (y - 0x80)) 0x80 (omega arith), lt-ltb ((x - 0xC0) * 64 + (y - 0x80)) 0x800 (omega arith)) (λ i. p i ∷ q i ∷ []),
      scalar-of ((x - 0xC0) * 64 + (y - 0x80)) (omega arith) (inl (omega arith)),
      λ l. omega arith,
    )

three_coded : (x y z : ℕ) → 0xE0 ≤ x → x ≤ 0xEF → 0x80 ≤ y → y ≤ 0xBF → 0x80 ≤ z → z ≤ 0xBF → 0x800 ≤ code_of (x ∷ y ∷ z ∷ [])
    → (code_of (x ∷ y ∷ z ∷ []) < 0xD800) ⊎ (0xDFFF < code_of (x ∷ y ∷ z ∷ [])) → Coded (x ∷ y ∷ z ∷ [])
three_coded x y z a b c d e f g s =
    let p : 0xE0 + ((x - 0xE0) * 4096 + (y - 0x80) * 64 + (z - 0x80)) / 4096 ≡ x = omega arith in
    let q : 0x80 + ((x - 0xE0) * 4096 + (y - 0x80) * 64 + (z - 0x80)) / 64 % 64 ≡ y = omega arith in
    let r : 0x80 + ((x - 0xE0) * 4096 + (y - 0x80) * 64 + (z - 0x80)) % 64 ≡ z = omega arith in (
      rw (
        le-ltb ((x - 0xE0) * 4096 + (y - 0x80) * 64 + (z - 0x80)) 0x80 (omega arith),
        le-ltb ((x - 0xE0) * 4096 + (y - 0x80) * 64 + (z - 0x80)) 0x800 (omega arith),
        lt-ltb ((x - 0xE0) * 4096 + (y - 0x80) * 64 + (z - 0x80)) 0x10000 (omega arith),
      ) (λ i. p i ∷ q i ∷ r i ∷ []),
      scalar-of ((x - 0xE0) * 4096 + (y - 0x80) * 64 + (z - 0x80)) (omega arith) s,
      λ l. omega arith,
    )

four_coded : (x y z w : ℕ) → 0xF0 ≤ x → x ≤ 0xF4 → 0x80 ≤ y → y ≤ 0xBF → 0x80 ≤ z → z ≤ 0xBF → 0x80 ≤ w → w ≤ 0xBF → 0x10000 ≤ code_of (x ∷ y ∷ z ∷ w ∷ [])
    → code_of (x ∷ y ∷ z ∷ w ∷ []) ≤ 0x10FFFF → Coded (x ∷ y ∷ z ∷ w ∷ [])
four_coded x y z w a b c d e f g h k m =
    let p : 0xF0 + ((x - 0xF0) * 262144 + (y - 0x80) * 4096 + (z - 0x80) * 64 + (w - 0x80)) / 262144 ≡ x = omega arith in
    let q : 0x80 + ((x - 0xF0) * 262144 + (y - 0x80) * 4096 + (z - 0x80) * 64 + (w - 0x80)) / 4096 % 64 ≡ y = omega arith in
    let r : 0x80 + ((x - 0xF0) * 262144 + (y - 0x80) * 4096 + (z - 0x80) * 64 + (w - 0x80)) / 64 % 64 ≡ z = omega arith in
    let s : 0x80 + ((x - 0xF0) * 262144 + (y - 0x80) * 4096 + (z - 0x80) * 64 + (w - 0x80)) % 64 ≡ w = omega arith in (
      rw (
        le-ltb ((x - 0xF0) * 262144 + (y - 0x80) * 4096 + (z - 0x80) * 64 + (w - 0x80)) 0x80 (omega arith),
        le-ltb ((x - 0xF0) * 262144 + (y - 0x80) * 4096 + (z - 0x80) * 64 + (w - 0x80)) 0x800 (omega arith),
        le-ltb ((x - 0xF0) * 262144 + (y - 0x80) * 4096 + (z - 0x80) * 64 + (w - 0x80)) 0x10000 (omega arith),
      ) (λ i. p i ∷ q i ∷ r i ∷ s i ∷ []),
      scalar-of ((x - 0xF0) * 262144 + (y - 0x80) * 4096 + (z - 0x80) * 64 + (w - 0x80)) m (inr (omega arith)),
      λ l. omega arith,
    )

-- ---- each sequence

low : (r : Range) (x : ℕ) → T (inside r x) → r.0 ≤ x
low r x t = leb→le r.0 x (and_left (leb r.0 x) (leb x r.1) t)

high : (r : Range) (x : ℕ) → T (inside r x) → x ≤ r.1
high r x t = leb→le x r.1 (and_right (leb r.0 x) (leb x r.1) t)

abbrev tail : Range
tail = (0x80, 0xBF)

one : (r : Range) → r.1 ≤ 0x7F → (a : List ℕ) → T (fits inside (r ∷ []) a) → length a ≡ 1 → Coded a
one r k [] t e = absurd t
one r k (x ∷ []) t e = one-coded x (let h = high r x (and_left (inside r x) true t) in omega arith)
one r k (x ∷ y ∷ a) t e = absurd (suc-ne-zero (length a) (suc_inj e))

two : (r : Range) → 0xC2 ≤ r.0 → r.1 ≤ 0xDF → (a : List ℕ) → T (fits inside (r ∷ tail ∷ []) a) → length a ≡ 2 → Coded a
two r k l [] t e = absurd t
two r k l (x ∷ []) t e = absurd (suc-ne-zero 0 (sym (suc_inj e)))
two r k l (x ∷ y ∷ []) t e =
    let s = and_left (inside r x) (inside tail y && true) t in
    let u = and_left (inside tail y) true (and_right (inside r x) (inside tail y && true) t) in
    two-coded x y (let h = low r x s in omega arith) (let h = high r x s in omega arith) (low tail y u) (high tail y u)
two r k l (x ∷ y ∷ z ∷ a) t e = absurd (suc-ne-zero (length a) (suc_inj (suc_inj e)))

-- What the first two ranges say of the number.
abbrev Three : Range → Range → Type 0
Three r s =
    (x y z : ℕ) → r.0 ≤ x → x ≤ r.1 → s.0 ≤ y → y ≤ s.1 → 0x80 ≤ z → z ≤ 0xBF
    → (0x800 ≤ code_of (x ∷ y ∷ z ∷ [])) × ((code_of (x ∷ y ∷ z ∷ []) < 0xD800) ⊎ (0xDFFF < code_of (x ∷ y ∷ z ∷ [])))

three : (r s : Range) → 0xE0 ≤ r.0 → r.1 ≤ 0xEF → 0x80 ≤ s.0 → s.1 ≤ 0xBF → Three r s
    → (a : List ℕ) → T (fits inside (r ∷ s ∷ tail ∷ []) a) → length a ≡ 3 → Coded a
three r s k l m n ok [] t e = absurd t
three r s k l m n ok (x ∷ []) t e = absurd (suc-ne-zero 1 (sym (suc_inj e)))
three r s k l m n ok (x ∷ y ∷ []) t e = absurd (suc-ne-zero 0 (sym (suc_inj (suc_inj e))))
three r s k l m n ok (x ∷ y ∷ z ∷ []) t e =
    let rest = and_right (inside r x) (inside s y && (inside tail z && true)) t in
    let u = and_left (inside r x) (inside s y && (inside tail z && true)) t in
    let v = and_left (inside s y) (inside tail z && true) rest in
    let w = and_left (inside tail z) true (and_right (inside s y) (inside tail z && true) rest) in
    let (f, g) = ok x y z (low r x u) (high r x u) (low s y v) (high s y v) (low tail z w) (high tail z w) in
    three_coded x y z (let h = low r x u in omega arith) (let h = high r x u in omega arith) (let h = low s y v in omega arith) (let h = high s y v in omega arith)
    (low tail z w) (high tail z w) f g
three r s k l m n ok (x ∷ y ∷ z ∷ w ∷ a) t e = absurd (suc-ne-zero (length a) (suc_inj (suc_inj (suc_inj e))))

abbrev Four : Range → Range → Type 0
Four r s =
    (x y z w : ℕ) → r.0 ≤ x → x ≤ r.1 → s.0 ≤ y → y ≤ s.1 → 0x80 ≤ z → z ≤ 0xBF → 0x80 ≤ w → w ≤ 0xBF
    → (0x10000 ≤ code_of (x ∷ y ∷ z ∷ w ∷ [])) × (code_of (x ∷ y ∷ z ∷ w ∷ []) ≤ 0x10FFFF)

four : (r s : Range) → 0xF0 ≤ r.0 → r.1 ≤ 0xF4 → 0x80 ≤ s.0 → s.1 ≤ 0xBF → Four r s
    → (a : List ℕ) → T (fits inside (r ∷ s ∷ tail ∷ tail ∷ []) a) → length a ≡ 4 → Coded a
four r s k l m n ok [] t e = absurd t
four r s k l m n ok (x ∷ []) t e = absurd (suc-ne-zero 2 (sym (suc_inj e)))
four r s k l m n ok (x ∷ y ∷ []) t e = absurd (suc-ne-zero 1 (sym (suc_inj (suc_inj e))))
four r s k l m n ok (x ∷ y ∷ z ∷ []) t e = absurd (suc-ne-zero 0 (sym (suc_inj (suc_inj (suc_inj e)))))
four r s k l m n ok (x ∷ y ∷ z ∷ w ∷ []) t e =
    let rest = and_right (inside r x) (inside s y && (inside tail z && (inside tail w && true))) t in
    let last = and_right (inside s y) (inside tail z && (inside tail w && true)) rest in
    let u = and_left (inside r x) (inside s y && (inside tail z && (inside tail w && true))) t in
    let v = and_left (inside s y) (inside tail z && (inside tail w && true)) rest in
    let o = and_left (inside tail z) (inside tail w && true) last in
    let q = and_left (inside tail w) true (and_right (inside tail z) (inside tail w && true) last) in
    let (f, g) = ok x y z w (low r x u) (high r x u) (low s y v) (high s y v) (low tail z o) (high tail z o) (low tail w q) (high tail w q) in
    four_coded x y z w (let h = low r x u in omega arith) (let h = high r x u in omega arith) (let h = low s y v in omega arith) (let h = high s y v in omega arith)
    (low tail z o) (high tail z o) (low tail w q) (high tail w q) f g
four r s k l m n ok (x ∷ y ∷ z ∷ w ∷ v ∷ a) t e = absurd (suc-ne-zero (length a) (suc_inj (suc_inj (suc_inj (suc_inj e)))))

char-coded : (a : List ℕ) → IsChar a → Coded a
char-coded a (q, i, t, e) = go i
  where
    at : (f : List Range) → q ≡ f → T (fits inside f a)
    at f p = subst (λ (q : List Range). T (fits inside q a)) p t

    long : (f : List Range) → q ≡ f → length a ≡ length f
    long f p = e ∙ ap length p

    go : In q sequences → Coded a
    go (inl p) = one (0x00, 0x7F) (omega arith) a (at ((0x00, 0x7F) ∷ []) p) (long ((0x00, 0x7F) ∷ []) p)
    go (inr (inl p)) = two (0xC2, 0xDF) (omega arith) (omega arith) a (at ((0xC2, 0xDF) ∷ tail ∷ []) p) (long ((0xC2, 0xDF) ∷ tail ∷ []) p)
    go (inr (inr (inl p))) =
        three (0xE0, 0xE0) (0xA0, 0xBF) (omega arith) (omega arith) (omega arith) (omega arith) (λ x y z b c d f g h. (omega arith, inl (omega arith)))
        a (at ((0xE0, 0xE0) ∷ (0xA0, 0xBF) ∷ tail ∷ []) p) (long ((0xE0, 0xE0) ∷ (0xA0, 0xBF) ∷ tail ∷ []) p)
    go (inr (inr (inr (inl p)))) =
        three (0xE1, 0xEC) (0x80, 0xBF) (omega arith) (omega arith) (omega arith) (omega arith) (λ x y z b c d f g h. (omega arith, inl (omega arith)))
        a (at ((0xE1, 0xEC) ∷ tail ∷ tail ∷ []) p) (long ((0xE1, 0xEC) ∷ tail ∷ tail ∷ []) p)
    go (inr (inr (inr (inr (inl p))))) =
        three (0xED, 0xED) (0x80, 0x9F) (omega arith) (omega arith) (omega arith) (omega arith) (λ x y z b c d f g h. (omega arith, inl (omega arith)))
        a (at ((0xED, 0xED) ∷ (0x80, 0x9F) ∷ tail ∷ []) p) (long ((0xED, 0xED) ∷ (0x80, 0x9F) ∷ tail ∷ []) p)
    go (inr (inr (inr (inr (inr (inl p)))))) =
        three (0xEE, 0xEF) (0x80, 0xBF) (omega arith) (omega arith) (omega arith) (omega arith) (λ x y z b c d f g h. (omega arith, inr (omega arith)))
        a (at ((0xEE, 0xEF) ∷ tail ∷ tail ∷ []) p) (long ((0xEE, 0xEF) ∷ tail ∷ tail ∷ []) p)
    go (inr (inr (inr (inr (inr (inr (inl p))))))) =
        four (0xF0, 0xF0) (0x90, 0xBF) (omega arith) (omega arith) (omega arith) (omega arith) (λ x y z w b c d f g h j k. (omega arith, omega arith))
        a (at ((0xF0, 0xF0) ∷ (0x90, 0xBF) ∷ tail ∷ tail ∷ []) p) (long ((0xF0, 0xF0) ∷ (0x90, 0xBF) ∷ tail ∷ tail ∷ []) p)
    go (inr (inr (inr (inr (inr (inr (inr (inl p)))))))) =
        four (0xF1, 0xF3) (0x80, 0xBF) (omega arith) (omega arith) (omega arith) (omega arith) (λ x y z w b c d f g h j k. (omega arith, omega arith))
        a (at ((0xF1, 0xF3) ∷ tail ∷ tail ∷ tail ∷ []) p) (long ((0xF1, 0xF3) ∷ tail ∷ tail ∷ tail ∷ []) p)
    go (inr (inr (inr (inr (inr (inr (inr (inr (inl p))))))))) =
        four (0xF4, 0xF4) (0x80, 0x8F) (omega arith) (omega arith) (omega arith) (omega arith) (λ x y z w b c d f g h j k. (omega arith, omega arith))
        a (at ((0xF4, 0xF4) ∷ (0x80, 0x8F) ∷ tail ∷ tail ∷ []) p) (long ((0xF4, 0xF4) ∷ (0x80, 0x8F) ∷ tail ∷ tail ∷ []) p)
    go (inr (inr (inr (inr (inr (inr (inr (inr (inr p))))))))) = absurd p

-- The number of a character makes its bytes.
pub utf8-code : (a : List ℕ) → IsChar a → utf8 (code_of a) ≡ a
utf8-code a c = (char-coded a c).0

-- It is at most 10FFFF and no surrogate.
pub code-scalar : (a : List ℕ) → IsChar a → T (scalar (code_of a))
code-scalar a c = (char-coded a c).1

-- It is above 7F where the character has more than one byte.
pub code-high : (a : List ℕ) → IsChar a → 2 ≤ length a → 0x80 ≤ code_of a
code-high a c = (char-coded a c).2

-- ---- from the number to the bytes and back

-- The bytes of a number have that number.
pub code-utf8 : (n : ℕ) → n ≤ 0x10FFFF → code_of (utf8 n) ≡ n
code-utf8 n top = go (ltb n 0x80) refl (ltb n 0x800) refl (ltb n 0x10000) refl
  where
    steps : (n a b c x y z : ℕ) → n ≡ a * 64 + x → a ≡ b * 64 + y → b ≡ c * 64 + z
        → (0xF0 + c - 0xF0) * 262144 + (0x80 + z - 0x80) * 4096 + (0x80 + y - 0x80) * 64 + (0x80 + x - 0x80) ≡ n
    steps n a b c x y z e f g = omega arith

    quad : 0x10000 ≤ n → code_of ((0xF0 + n / 262144) ∷ (0x80 + n / 4096 % 64) ∷ (0x80 + n / 64 % 64) ∷ (0x80 + n % 64) ∷ []) ≡ n
    quad a =
        let p : n / 4096 ≡ n / 64 / 64 = omega arith in
        let q : n / 262144 ≡ n / 4096 / 64 = omega arith in
        let r : n ≡ n / 64 * 64 + n % 64 = omega arith in
        let s : n / 64 ≡ n / 64 / 64 * 64 + n / 64 % 64 = omega arith in
        let t : n / 4096 ≡ n / 4096 / 64 * 64 + n / 4096 % 64 = omega arith in
        steps n (n / 64) (n / 4096) (n / 262144) (n % 64) (n / 64 % 64) (n / 4096 % 64) r (s ∙ ap (λ (m : ℕ). m * 64 + n / 64 % 64) (sym p))
        (t ∙ ap (λ (m : ℕ). m * 64 + n / 4096 % 64) (sym q))

    go : (a : Bool) → ltb n 0x80 ≡ a → (b : Bool) → ltb n 0x800 ≡ b → (c : Bool) → ltb n 0x10000 ≡ c
        → code_of (cond a (n ∷ [])
        (cond b ((0xC0 + n / 64) ∷ (0x80 + n % 64) ∷ [])
        (cond c ((0xE0 + n / 4096) ∷ (0x80 + n / 64 % 64) ∷ (0x80 + n % 64) ∷ [])
        ((0xF0 + n / 262144) ∷ (0x80 + n / 4096 % 64) ∷ (0x80 + n / 64 % 64) ∷ (0x80 + n % 64) ∷ []))))
        ≡ n
    go true e b f c g = refl
    go false e true f c g = let h = ltb-false n 0x80 e in let k = ltb-true n 0x800 f in omega arith
    go false e false f true g = let h = ltb-false n 0x800 f in let k = ltb-true n 0x10000 g in omega arith
    go false e false f false g = quad (ltb-false n 0x10000 g)
