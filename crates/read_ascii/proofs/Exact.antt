-- A reference is a unit exactly if it is what is written for the character that it stands for in decode: that character is the only one whose unit can
-- stand there.
-- Assumes nothing.
use Rattle.decode_html.specs.Taking.{Gives, Stays}
use mathlib.Core.Bool.{Bool, true, false, not, ◌&&◌, ◌||◌, cond}
use mathlib.Core.Logic.{◌⊎◌, inl, inr}
use mathlib.Core.Option.{none, some}
use mathlib.Core.Path.{◌≡◌, refl, sym, ap, ◌∙◌, subst}
use mathlib.Core.List.{List, [], ◌∷◌, ◌++◌, append-nil}
use Prim.Native.Nat.{ℕ, zero, suc, ◌+◌, ◌-◌, ◌*◌, ◌/◌, ◌%◌, ◌≤◌, ◌<◌}
use native.Mathlib.Nat.{suc-ne-zero}
use native.Mathlib.Omega.{arith}
use borrow.Author.Tests.{le-leb, lt-leb, leb-false, lt-ltb, le-ltb}
use lib.Dec.{T, eqb, leb, ltb, leb→le}
use lib.ListN.{length, take, drop, get_or, length-append}
use lib.Seq.{take_at}
use Rattle.rules.specs.Bytes.{ascii, count, In, all, any, same_bytes, stands, inside}
use Rattle.rules.specs.Moves.{Move, keep, swap, leave, stop, gives}
use Rattle.rules.specs.Utf8.{IsChar, utf8, code_of, char_at}
use Rattle.rules.specs.Tables.{Row, key, value, rows, replaced_chars}
use Rattle.rules.specs.Ascii.{is_high, refer_to}
use Rattle.rules.specs.References.{scalar, reference_step}
use Rattle.rules.specs.Reading.{read_step}
use Rattle.rules.specs.Answers.{unpack_to, value_bytes}
use Rattle.rules.specs.declared.DecodedEntityValue.{DecodedEntityValue}
use Rattle.rules.specs.declared.DecodedEntityValue.TheVariants.{Named, Character}
use Rattle.rules.specs.declared.Escape.{Escape}
use Rattle.std.specs.Prelude.{Option as Maybe, Some, None}
use Rattle.rules.specs.Answers.{escape_for}
use Rattle.rules.proofs.Loops.{drop-next}
use Rattle.rules.specs.declared.DecodedEntity.{DecodedEntity}
use Rattle.rules.specs.declared.Reason.{Reason}
use Rattle.rules.specs.declared.Context.TheVariants.{InAscii}
use Rattle.rules.proofs.Tests.{and_left, and_right, all_in, any-in, or_cases, same_bytes_lem, stands_self, stands-split}
use Rattle.rules.proofs.Below.{below}
use Rattle.rules.proofs.Chars.{is_char, is-char, char-unique}
use Rattle.rules.proofs.Characters.{utf8-char}
use Rattle.rules.proofs.CharNumbers.{utf8-code, code-scalar, code-high, char-at}
use Rattle.rules.proofs.Ascii.{rule-high, rule-char, rule-refers, rule-longer}
use Rattle.rules.proofs.Decoder.{quoted-refers}
use Rattle.rules.proofs.Reader.{context-reads}
use Rattle.encode_ascii.proofs.Heads.{Head, text-wide, high-char}
use Rattle.encode_ascii.specs.Wide.{quoted_unit}
use Rattle.encode_ascii.proofs.Next.{low-char}
use Rattle.read_ascii.specs.Units.{unit_for, HasNumber, Exactly, Tells}
use Rattle.read_ascii.proofs.Contents.{U, stops-where, unit-begins, no_char, bar-head}

-- ---- the unit of a character

abbrev is_empty : List ℕ → Bool
is_empty [] = true
is_empty (b ∷ n) = false

-- An ASCII character has the unit of its row, or none.
abbrev rowed : ℕ → Bool
rowed b = is_empty (quoted_unit b) || any (λ (e : Row). same_bytes (key e) (b ∷ []) && same_bytes (value e) (quoted_unit b)) (rows InAscii)

all-rowed : T (all rowed (count 0 128))
all-rowed = tt

-- A row's value is the unit of its key.
abbrev united : Row → Bool
united e = leb (code_of (key e)) 127 && (same_bytes (quoted_unit (code_of (key e))) (value e) && is_char (key e))

wide-utf8 : (code : ℕ) → 0x80 ≤ code → 2 ≤ length (utf8 code)
wide-utf8 code h = rw (le-ltb code 0x80 h) (go (ltb code 0x800) (ltb code 0x10000))
  where
    go : (a b : Bool)
        → 2 ≤ length {A = ℕ} (cond a ((0xC0 + code / 64) ∷ (0x80 + code % 64) ∷ [])
        (cond b ((0xE0 + code / 4096) ∷ (0x80 + code / 64 % 64) ∷ (0x80 + code % 64) ∷ [])
        ((0xF0 + code / 262144) ∷ (0x80 + code / 4096 % 64) ∷ (0x80 + code / 64 % 64) ∷ (0x80 + code % 64) ∷ [])))
    go true b = omega arith
    go false true = omega arith
    go false false = omega arith

pub unit-is : (code : ℕ) → T (scalar code) → 1 ≤ length (unit_for code) → U (swap (unit_for code) (utf8 code))
unit-is code t l = go (leb 0x80 code) refl l
  where
    written : (b : Bool) → T b → cond b (some (refer_to (utf8 code))) none ≡ some (refer_to (utf8 code))
    written true t = refl
    written false t = absurd t

    low : code < 128 → 1 ≤ length (quoted_unit code) → T (is_empty (quoted_unit code)) ⊎ T (any (λ (e : Row). same_bytes (key e) (code ∷ []) && same_bytes (value e) (quoted_unit code)) (rows InAscii))
        → U (swap (quoted_unit code) (utf8 code))
    low h l (inl m) = absurd (empty (quoted_unit code) m l)
      where
        empty : (n : List ℕ) → T (is_empty n) → 1 ≤ length n → ⊥
        empty [] m l = let f : ⊥ = omega arith in f
        empty (b ∷ n) m l = m
    low h l (inr m) =
        let (e, i, both) = any-in (λ (e : Row). same_bytes (key e) (code ∷ []) && same_bytes (value e) (quoted_unit code)) (rows InAscii) m in
        let k : key e ≡ utf8 code = same_bytes_lem (key e) (code ∷ []) (and_left (same_bytes (key e) (code ∷ [])) (same_bytes (value e) (quoted_unit code)) both) ∙ (rw (lt-ltb code 0x80 h) refl) in
        let v : value e ≡ quoted_unit code = same_bytes_lem (value e) (quoted_unit code) (and_right (same_bytes (key e) (code ∷ [])) (same_bytes (value e) (quoted_unit code)) both) in
        inl (subst (λ (row : Row). In row (rows InAscii)) (λ j. (k j, v j)) i)

    go : (b : Bool) → leb 0x80 code ≡ b → 1 ≤ length (cond b (refer_to (utf8 code)) (quoted_unit code)) → U (swap (cond b (refer_to (utf8 code)) (quoted_unit code)) (utf8 code))
    go true e l = inr (written (is_high (utf8 code)) (high-char (utf8 code) (utf8-char code t) (wide-utf8 code (leb→le 0x80 code (subst T (sym e) tt)))))
    go false e l =
        let h : code < 128 = let k = leb-false 0x80 code e in omega arith in
        low h l (or_cases (is_empty (quoted_unit code)) (any (λ (e : Row). same_bytes (key e) (code ∷ []) && same_bytes (value e) (quoted_unit code)) (rows InAscii)) (below rowed 128 all-rowed code h))

rows-united : T (all united (rows InAscii))
rows-united = tt

-- The unit of a character is the only one.
pub unit-only : (v k : List ℕ) (code : ℕ) → U (swap v k) → code ≡ code_of k → unit_for code ≡ v
unit-only v k code (inl i) e =
    let t = all_in united (rows InAscii) rows-united (k, v) i in
    let low = leb→le (code_of k) 127 (and_left (leb (code_of k) 127) (same_bytes (quoted_unit (code_of k)) v && is_char k) t) in
    let q = same_bytes_lem (quoted_unit (code_of k)) v (and_left (same_bytes (quoted_unit (code_of k)) v) (is_char k) (and_right (leb (code_of k) 127) (same_bytes (quoted_unit (code_of k)) v && is_char k) t)) in
    ap unit_for e ∙ ap (λ (b : Bool). cond b (refer_to (utf8 (code_of k))) (quoted_unit (code_of k))) (lt-leb 0x80 (code_of k) (omega arith)) ∙ q
unit-only v k code (inr w) e =
    let (t, q) = rule-high k v w in
    let (c, l) = rule-char InAscii k v w in
    ap unit_for e ∙ ap (λ (b : Bool). cond b (refer_to (utf8 (code_of k))) (quoted_unit (code_of k))) (le-leb 0x80 (code_of k) (code-high k c l)) ∙ ap refer_to (utf8-code k c) ∙ q

pub unit-char : (v k : List ℕ) → U (swap v k) → IsChar k
unit-char v k (inl i) =
    let t = all_in united (rows InAscii) rows-united (k, v) i in
    is-char k (and_right (same_bytes (quoted_unit (code_of k)) v) (is_char k) (and_right (leb (code_of k) 127) (same_bytes (quoted_unit (code_of k)) v && is_char k) t))
unit-char v k (inr w) = (rule-char InAscii k v w).0

-- decode reads it as its character.
pub unit-decoded : (v k : List ℕ) → U (swap v k) → (p : ℕ) (r : List ℕ) → reference_step p (v ++ r) ≡ swap v k
unit-decoded v k (inl i) p r = quoted-refers (k, v) i r p
unit-decoded v k (inr w) p r = rule-refers k v w p r

abbrev no_longer : Row → Bool
no_longer e = leb (length (key e)) (length (value e))

pub unit-longer : (v k : List ℕ) → U (swap v k) → length k ≤ length v
unit-longer v k (inl i) = leb→le (length k) (length v) (all_in no_longer (rows InAscii) tt (k, v) i)
unit-longer v k (inr w) = rule-longer InAscii k v w

-- ---- at an `&`

abbrev IsSwap : Move → Type 0
IsSwap (keep a) = ⊥
IsSwap (swap a b) = Unit {0}
IsSwap (leave r a) = ⊥
IsSwap (stop w) = ⊥

-- No plain character begins there.
no_plain : (s : List ℕ) → get_or s 0 0 ≡ 38 → (a r : List ℕ) → U (keep a) → s ≡ a ++ r → ⊥
no_plain s e [] r u q = no_char u.0
no_plain s e (x ∷ a) r u q = bar-head x a u (subst (λ (y : ℕ). T (any (same_bytes (y ∷ [])) (replaced_chars InAscii))) (sym e ∙ ap (λ (l : List ℕ). get_or l 0 0) q) tt)

-- Where decode leaves the reference, or reads it as a character whose unit is another, the reader stops.
pub left-stops : (s : List ℕ) (m : Move) → (IsSwap m → ⊥) → get_or s 0 0 ≡ 38 → ((p : ℕ) → m ≡ reference_step p s) → (p : ℕ) → (x : ℕ) × (read_step InAscii p s ≡ stop x)
left-stops s m n amp move p =
    stops-where p s (no_plain s amp) (λ v k r u q. n (subst IsSwap (sym (move 0 ∙ ap (reference_step 0) q ∙ unit-decoded v k u 0 r)) tt))

module _ (s taken value bytes zeros : List ℕ) (code : ℕ) (amp : get_or s 0 0 ≡ 38) (move : (p : ℕ) → swap taken value ≡ reference_step p s) (held : bytes ≡ value ++ zeros) (number : HasNumber bytes code) where
  -- The only character whose unit can stand here has the number that was found.
  found_number : (v k r : List ℕ) → U (swap v k) → s ≡ v ++ r → code ≡ code_of k
  found_number v k r u q =
      let same : value ≡ k = ap gives (move 0 ∙ ap (reference_step 0) q ∙ unit-decoded v k u 0 r) in
      number k zeros (unit-char v k u) (held ∙ ap (λ (x : List ℕ). x ++ zeros) same)

  pub odd-stops : scalar code ≡ false → (p : ℕ) → (x : ℕ) × (read_step InAscii p s ≡ stop x)
  odd-stops e p = stops-where p s (no_plain s amp) (λ v k r u q. subst T (ap scalar (sym (found_number v k r u q)) ∙ e) (code-scalar k (unit-char v k u)))

  pub none-stops : length (unit_for code) ≡ 0 → (p : ℕ) → (x : ℕ) × (read_step InAscii p s ≡ stop x)
  none-stops e p = stops-where p s (no_plain s amp) (λ v k r u q. let (w, z) = unit-begins v k u in suc-ne-zero (length w) (sym (ap length z) ∙ sym (ap length (unit-only v k code u (found_number v k r u q))) ∙ e))

  pub other-stops : stands (unit_for code) s ≡ false → (p : ℕ) → (x : ℕ) × (read_step InAscii p s ≡ stop x)
  other-stops e p =
      stops-where p s (no_plain s amp)
      (λ v k r u q. subst T e (subst (λ (l : List ℕ). T (stands (unit_for code) l)) (sym q) (subst (λ (x : List ℕ). T (stands (unit_for code) (x ++ r))) (unit-only v k code u (found_number v k r u q)) (stands_self (unit_for code) r))))

-- Where the unit of a character stands it is read.
pub unit-read : (s : List ℕ) (code n : ℕ) → scalar code ≡ true → n ≡ length (unit_for code) → (n ≡ 0 → ⊥) → stands (unit_for code) s ≡ true → (p : ℕ)
    → (read_step InAscii p s ≡ swap (take n s) (utf8 code)) × (1 ≤ n) × (n ≤ length s) × (length (utf8 code) ≤ n) × (code ≤ 0x10FFFF)
unit-read s code n t e z st p =
    let (r, q) = stands-split (unit_for code) s (subst T (sym st) tt) in
    let some : 1 ≤ n = positive n z in
    let u = unit-is code (subst T (sym t) tt) (omega (arith, e, some)) in
    let top : code ≤ 0x10FFFF = leb→le code 0x10FFFF (and_left (leb code 0x10FFFF) (not (inside (0xD800, 0xDFFF) code)) (subst T (sym t) tt)) in (
      ap (read_step InAscii p) q ∙ ((context-reads InAscii).finds (swap (unit_for code) (utf8 code)) u r).2 p ∙ (λ i. swap (sym (ap (take n) q ∙ take_at (unit_for code) r n (sym e)) i) (utf8 code)),
      some,
      omega (arith, e, ap length q, length-append (unit_for code) r),
      omega (arith, e, unit-longer (unit_for code) (utf8 code) u),
      top,
    )
  where
    positive : (n : ℕ) → (n ≡ 0 → ⊥) → 1 ≤ n
    positive zero z = absurd (z refl)
    positive (suc n) z = omega arith

-- ---- the number of a character, by the arithmetic of the code

pub scalar-high : (code : ℕ) → code ≤ 0x10FFFF → 0xD800 ≤ code → ltb 0xDFFF code ≡ scalar code
scalar-high code top low = rw (le-leb code 0x10FFFF top, le-leb 0xD800 code low) (go (leb code 0xDFFF) refl)
  where
    go : (b : Bool) → leb code 0xDFFF ≡ b → ltb 0xDFFF code ≡ not b
    go true e = le-ltb 0xDFFF code (leb→le code 0xDFFF (subst T (sym e) tt))
    go false e = lt-ltb 0xDFFF code (leb-false code 0xDFFF e)

lead-of : (s a r : List ℕ) → IsChar a → s ≡ a ++ r → get_or a 0 0 ≡ get_or s 0 0
lead-of s [] r c q = absurd (no_char c)
lead-of s (x ∷ a) r c q = sym (ap (λ (l : List ℕ). get_or l 0 0) q)

-- One byte.
pub number-low : (s : List ℕ) → get_or s 0 0 < 0x80 → HasNumber s (get_or s 0 0)
number-low s h a r c q =
    let e = lead-of s a r c q in
    let same : a ≡ get_or a 0 0 ∷ [] = go a c (subst (λ (n : ℕ). n < 0x80) (sym e) h) in
    sym e ∙ sym (ap code_of same)
  where
    go : (a : List ℕ) → IsChar a → get_or a 0 0 < 0x80 → a ≡ get_or a 0 0 ∷ []
    go [] c l = absurd (no_char c)
    go (x ∷ a) c l = char-unique (x ∷ a) (x ∷ []) [] a c (low-char x l) (append-nil (x ∷ a))

module _ (s a r : List ℕ) (c : IsChar a) (q : s ≡ a ++ r) (h : 0x80 ≤ get_or s 0 0) where
  lead : get_or a 0 0 ≡ get_or s 0 0
  lead = lead-of s a r c q

  self : char_at a ≡ a
  self = ap char_at (sym (append-nil a)) ∙ char-at a [] c

  head : Head a
  head = text-wide a (a ∷ [], (c, tt), sym (append-nil a)) (positive a c) (subst (λ (n : ℕ). 0x80 ≤ n) (sym lead) h)
    where
      positive : (a : List ℕ) → IsChar a → 0 < length a
      positive [] c = absurd (no_char c)
      positive (x ∷ a) c = omega arith

-- Two bytes, three, four.
pub number-two : (s : List ℕ) → 0x80 ≤ get_or s 0 0 → get_or s 0 0 < 0xE0 → HasNumber s (get_or s 0 0 % 32 * 64 + get_or s 1 0 % 64)
number-two s h l a r c q =
    let hd = head s a r c q h in
    let e = lead s a r c q h in
    let (f, n, m) = hd.two (subst (λ (x : ℕ). x < 0xE0) (sym e) l) in
    let w : a ≡ get_or a 0 0 ∷ get_or a 1 0 ∷ [] = sym (self s a r c q h) ∙ f in
    let y : get_or s 1 0 ≡ get_or a 1 0 = ap (λ (x : List ℕ). get_or x 1 0) (q ∙ ap (λ (x : List ℕ). x ++ r) w) in
    let z : code_of a ≡ (get_or a 0 0 - 0xC0) * 64 + (get_or a 1 0 - 0x80) = ap code_of w in
    omega (arith, e, y, z, m, l, hd.second.1, hd.second.2)

pub number-three : (s : List ℕ) → 0xE0 ≤ get_or s 0 0 → get_or s 0 0 < 0xF0 → HasNumber s (get_or s 0 0 % 16 * 4096 + get_or s 1 0 % 64 * 64 + get_or s 2 0 % 64)
number-three s h l a r c q =
    let h₀ : 0x80 ≤ get_or s 0 0 = omega arith in
    let hd = head s a r c q h₀ in
    let e = lead s a r c q h₀ in
    let k = subst (λ (x : ℕ). 0xE0 ≤ x) (sym e) h in
    let (f, n) = hd.three k (subst (λ (x : ℕ). x < 0xF0) (sym e) l) in
    let w : a ≡ get_or a 0 0 ∷ get_or a 1 0 ∷ get_or a 2 0 ∷ [] = sym (self s a r c q h₀) ∙ f in
    let y : get_or s 1 0 ≡ get_or a 1 0 = ap (λ (x : List ℕ). get_or x 1 0) (q ∙ ap (λ (x : List ℕ). x ++ r) w) in
    let y₂ : get_or s 2 0 ≡ get_or a 2 0 = ap (λ (x : List ℕ). get_or x 2 0) (q ∙ ap (λ (x : List ℕ). x ++ r) w) in
    let z : code_of a ≡ (get_or a 0 0 - 0xE0) * 4096 + (get_or a 1 0 - 0x80) * 64 + (get_or a 2 0 - 0x80) = ap code_of w in
    let t = hd.third k in
    omega (arith, e, y, y₂, z, h, l, hd.second.1, hd.second.2, t.1, t.2)

four-bits : (x y z w : ℕ) → 0xF0 ≤ x → x ≤ 0xF4 → 0x80 ≤ y → y ≤ 0xBF → 0x80 ≤ z → z ≤ 0xBF → 0x80 ≤ w → w ≤ 0xBF
    → x % 8 * 262144 + y % 64 * 4096 + z % 64 * 64 + w % 64 ≡ (x - 0xF0) * 262144 + (y - 0x80) * 4096 + (z - 0x80) * 64 + (w - 0x80)
four-bits x y z w a b c d e f g h =
    let p : x % 8 ≡ x - 0xF0 = omega arith in
    let q : y % 64 ≡ y - 0x80 = omega arith in
    let r : z % 64 ≡ z - 0x80 = omega arith in
    let s : w % 64 ≡ w - 0x80 = omega arith in
    λ i. p i * 262144 + q i * 4096 + r i * 64 + s i

pub number-four : (s : List ℕ) → 0xF0 ≤ get_or s 0 0 → HasNumber s (get_or s 0 0 % 8 * 262144 + get_or s 1 0 % 64 * 4096 + get_or s 2 0 % 64 * 64 + get_or s 3 0 % 64)
number-four s h a r c q =
    let h₀ : 0x80 ≤ get_or s 0 0 = omega arith in
    let hd = head s a r c q h₀ in
    let e = lead s a r c q h₀ in
    let k = subst (λ (x : ℕ). 0xF0 ≤ x) (sym e) h in
    let k₂ : 0xE0 ≤ get_or a 0 0 = omega (arith, k) in
    let (f, n, m) = hd.four k in
    let w : a ≡ get_or a 0 0 ∷ get_or a 1 0 ∷ get_or a 2 0 ∷ get_or a 3 0 ∷ [] = sym (self s a r c q h₀) ∙ f in
    let y : get_or s 1 0 ≡ get_or a 1 0 = ap (λ (x : List ℕ). get_or x 1 0) (q ∙ ap (λ (x : List ℕ). x ++ r) w) in
    let y₂ : get_or s 2 0 ≡ get_or a 2 0 = ap (λ (x : List ℕ). get_or x 2 0) (q ∙ ap (λ (x : List ℕ). x ++ r) w) in
    let y₃ : get_or s 3 0 ≡ get_or a 3 0 = ap (λ (x : List ℕ). get_or x 3 0) (q ∙ ap (λ (x : List ℕ). x ++ r) w) in
    let z : code_of a ≡ (get_or a 0 0 - 0xF0) * 262144 + (get_or a 1 0 - 0x80) * 4096 + (get_or a 2 0 - 0x80) * 64 + (get_or a 3 0 - 0x80) = ap code_of w in
    let t = hd.third k₂ in
    let u = hd.fourth k in
    (λ i. (sym e i % 8) * 262144 + (y i % 64) * 4096 + (y₂ i % 64) * 64 + y₃ i % 64)
    ∙ four-bits (get_or a 0 0) (get_or a 1 0) (get_or a 2 0) (get_or a 3 0) k m hd.second.1 hd.second.2 t.1 t.2 u.1 u.2
    ∙ sym z

-- ---- what read_unit answers

-- A value has at most six bytes.
pub value-six : (v : DecodedEntityValue) → length (value_bytes v) ≤ 6
value-six (Named n) = unpacked 6 n
  where
    unpacked : (k n : ℕ) → length (unpack_to k n) ≤ k
    unpacked zero n = omega arith
    unpacked (suc k) n = go (eqb n 0) (unpacked k (n / 256))
      where
        go : (b : Bool) → length (unpack_to k (n / 256)) ≤ k → length {A = ℕ} (cond b [] ((n % 256) ∷ unpack_to k (n / 256))) ≤ suc k
        go true h = omega arith
        go false h = omega arith
value-six (Character n) = go (ltb n 0x80) (ltb n 0x800) (ltb n 0x10000)
  where
    go : (x a b : Bool)
        → length {A = ℕ} (cond x (n ∷ [])
        (cond a ((0xC0 + n / 64) ∷ (0x80 + n % 64) ∷ [])
        (cond b ((0xE0 + n / 4096) ∷ (0x80 + n / 64 % 64) ∷ (0x80 + n % 64) ∷ [])
        ((0xF0 + n / 262144) ∷ (0x80 + n / 4096 % 64) ∷ (0x80 + n / 64 % 64) ∷ (0x80 + n % 64) ∷ []))))
        ≤ 6
    go true a b = omega arith
    go false true b = omega arith
    go false false true = omega arith
    go false false false = omega arith

module _ (t : List ℕ) (at : ℕ) (l : at < length t) (amp : get_or t at 0 ≡ 38) where
  head-amp : get_or (drop at t) 0 0 ≡ 38
  head-amp = ap (λ (s : List ℕ). get_or s 0 0) (drop-next t at l) ∙ amp

  pub left-read : (w : Reason) → Stays t at w → (p : ℕ) → Tells (read_step InAscii p (drop at t)) (drop at t) None
  left-read w stays = left-stops (drop at t) (leave w (ascii "&")) (λ x. x) head-amp stays

  module _ (e : DecodedEntity) (gives : Gives reference_step t at e) (bytes zeros : List ℕ) (held : bytes ≡ value_bytes e.value ++ zeros) (code : ℕ)
      (number : HasNumber bytes code) where
    move : (p : ℕ) → swap (take (e.end - e.start) (drop e.start t)) (value_bytes e.value) ≡ reference_step p (drop at t)
    move = gives.move

    pub odd-read : scalar code ≡ false → (p : ℕ) → Tells (read_step InAscii p (drop at t)) (drop at t) None
    odd-read = odd-stops (drop at t) (take (e.end - e.start) (drop e.start t)) (value_bytes e.value) bytes zeros code head-amp move held number

    pub exact_read : scalar code ≡ true → (x : Maybe Escape) → Exactly code (drop at t) x → (p : ℕ) → Tells (read_step InAscii p (drop at t)) (drop at t) x
    exact_read sc (Some x) (same, size, least, st) p =
        subst (λ (k : ℕ). Tells (read_step InAscii p (drop at t)) (drop at t) (escape_for x.taken k)) (sym same) (unit-read (drop at t) code x.taken sc size least st p)
    exact_read sc None (inl nil) p = none-stops (drop at t) (take (e.end - e.start) (drop e.start t)) (value_bytes e.value) bytes zeros code head-amp move held number nil p
    exact_read sc None (inr other) p = other-stops (drop at t) (take (e.end - e.start) (drop e.start t)) (value_bytes e.value) bytes zeros code head-amp move held number other p

pub scalar-top : (code : ℕ) → scalar code ≡ true → code ≤ 0x10FFFF
scalar-top code e = leb→le code 0x10FFFF (and_left (leb code 0x10FFFF) (not (inside (0xD800, 0xDFFF) code)) (subst T (sym e) tt))
