-- An escape as the code reads it is the move of the rule: a row of the two-character escapes by its second byte, else the number of four hex digits.
-- Assumes nothing.
use mathlib.Core.Bool.{Bool, true, false, not, ◌&&◌, cond}
use mathlib.Core.Option.{Option, none, some}
use mathlib.Core.Path.{◌≡◌, refl, sym, ap, ◌∙◌, subst}
use mathlib.Core.List.{List, [], ◌∷◌}
use Prim.Native.Nat.{ℕ, ◌+◌, ◌*◌, ◌/◌, ◌%◌, ◌^◌, ◌≤◌, ◌<◌}
use native.Mathlib.Omega.{arith}
use borrow.Author.Tests.{lt-ltb}
use lib.Dec.{T, eqb, ltb, leb, eqb→eq, ltb→lt, leb→le}
use lib.ListN.{length, take, drop, get_or}
use Rattle.rules.specs.Bytes.{inside, one_of, same_bytes}
use Rattle.rules.specs.Moves.{Move, keep, swap, stop, why}
use Rattle.rules.specs.Utf8.{utf8}
use Rattle.rules.specs.Tables.{Row, row_at, key, value}
use Rattle.rules.specs.Reading.{undo, unless}
use Rattle.rules.specs.References.{hex_digit_at, number}
use Rattle.rules.specs.Json.{escaped_only, short_escapes, highs, lows, pair_of, unicode_at, at_high, at_unicode, keep_unescaped, at_escape, json_step}
use Rattle.std.specs.Prelude.{Option as Maybe, Some, None, is_some}
use Rattle.rules.specs.Answers.{escape_for}
use Rattle.rules.specs.declared.Escape.{Escape}
use Rattle.rules.proofs.Tests.{and_left, and_right, is_false, same_bytes_lem}
use Rattle.rules.proofs.EveryByte.{every_byte_lem}
use Rattle.rules.proofs.Json.{at-unicode}
use Rattle.base.specs.Digits.{found_as}
use Rattle.base.proofs.Widths.{utf8-length}
use Rattle.decode_json.specs.Escapes.{char_of, short_of, Tells}

-- ---- two characters

-- A row that is found has the value `\b`, and its key is one ASCII character.
abbrev row_is : Option Row → ℕ → Bool
row_is none b = true
row_is (some row) b = same_bytes (value row) (0x5C ∷ b ∷ []) && (same_bytes (key row) (get_or (key row) 0 0 ∷ []) && ltb (get_or (key row) 0 0) 128)

row_is_lem : (b : ℕ) → b < 256 → T (row_is (row_at value short_escapes (0x5C ∷ b ∷ [])) b)
row_is_lem = every_byte_lem (λ (b : ℕ). row_is (row_at value short_escapes (0x5C ∷ b ∷ [])) b) tt

-- Where the byte after the backslash makes no row, the rule looks at a number.
short_none : (b : ℕ) (s : List ℕ) → short_of b ≡ None → row_at value short_escapes (0x5C ∷ b ∷ s) ≡ none
unfolding short_of
short_none b s e = go (row_at value short_escapes (0x5C ∷ b ∷ [])) e
  where
    go : (o : Option Row) → char_of o ≡ None → o ≡ none
    go none e = refl
    go (some row) e = cc

-- Two characters are an escape, by a bit of a word; its character is the byte, or four bits of a word: computed for every byte.
abbrev short-bit : ℕ → Bool
short-bit b = ltb b 128 && eqb (cond (ltb b 64) 0x800400000000 0x14404410000000 / 2 ^ (b % 64) % 2) 1

abbrev short-char : ℕ → ℕ
short-char b = cond (ltb b 98) b (0x9D0A000C080 / 2 ^ (b % 32 * 2) % 16)

abbrev same : Maybe ℕ → Maybe ℕ → Bool
same None None = true
same None (Some n) = false
same (Some m) None = false
same (Some m) (Some n) = eqb m n

same_lem : (m n : Maybe ℕ) → T (same m n) → m ≡ n
same_lem None None t = refl
same_lem None (Some n) t = absurd t
same_lem (Some m) None t = absurd t
same_lem (Some m) (Some n) t = ap (λ (n : ℕ). Some n) (eqb→eq m n t)

short-law : (b : ℕ) → b < 256 → short_of b ≡ cond (short-bit b) (Some (short-char b)) None
unfolding short_of
short-law b h = same_lem (short_of b) (cond (short-bit b) (Some (short-char b)) None) (every_byte_lem (λ (b : ℕ). same (short_of b) (cond (short-bit b) (Some (short-char b)) None)) tt b h)

pub short-test : (b : ℕ) → b < 256 → short-bit b ≡ is_some (short_of b)
short-test b h = rw (short-law b h) (by (short-bit b))
  where
    by : (t : Bool) → t ≡ is_some (cond t (Some (short-char b)) None)
    by true = refl
    by false = refl

pub short-value : (b : ℕ) → b < 256 → is_some (short_of b) ≡ true → Some (short-char b) ≡ short_of b
short-value b h e = rw (short-law b h, short-test b h ∙ e)

pub utf8-low : (n : ℕ) → n < 128 → utf8 n ≡ n ∷ []
utf8-low n h = rw (lt-ltb n 0x80 h)

-- Where it does, the two bytes give way to the character.
short-some : (b : ℕ) (s : List ℕ) (c : ℕ) → b < 256 → short_of b ≡ Some c → (p : ℕ) → Tells (json_step p (0x5C ∷ b ∷ s)) (0x5C ∷ b ∷ s) (escape_for 2 c)
unfolding short_of json_step
short-some b s c h e p = go (row_at value short_escapes (0x5C ∷ b ∷ [])) (row_is_lem b h) e
  where
    small : (c : ℕ) → c < 128 → (length (utf8 c) ≤ 2) × (c ≤ 0x10FFFF)
    small c h = (rw (utf8-low c h) (omega arith), omega arith)

    go : (o : Option Row) → T (row_is o b) → char_of o ≡ Some c → Tells (undo o (at_escape (unicode_at (0x5C ∷ b ∷ s)) (0x5C ∷ b ∷ s))) (0x5C ∷ b ∷ s) (escape_for 2 c)
    go none t e = cc
    go (some row) t e =
        let k₀ = get_or (key row) 0 0 in
        let q : k₀ ≡ c = cc in
        let one = same_bytes (key row) (k₀ ∷ []) in
        let t₁ = and_right (same_bytes (value row) (0x5C ∷ b ∷ [])) (one && ltb k₀ 128) t in
        let low : c < 128 = rw q at (ltb→lt k₀ 128 (and_right one (ltb k₀ 128) t₁)) in
        let v = same_bytes_lem (value row) (0x5C ∷ b ∷ []) (and_left (same_bytes (value row) (0x5C ∷ b ∷ [])) (one && ltb k₀ 128) t) in
        let k = same_bytes_lem (key row) (k₀ ∷ []) (and_left one (ltb k₀ 128) t₁) in
        ((λ i. swap (v i) ((k ∙ ap (λ (n : ℕ). n ∷ []) q ∙ sym (utf8-low c low)) i)), omega arith, omega arith, (small c low).0, (small c low).1)

-- ---- a number

-- Four digits, one after the other.
abbrev pub by_four : Option ℕ → Option ℕ → Option ℕ → Option ℕ → Option ℕ
by_four o p q r =
    elim o [
      | none ↦ none
      | some i ↦ elim p [ none ↦ none | some j ↦ elim q [ none ↦ none | some k ↦ elim r [ none ↦ none | some l ↦ some ((((0 * 16 + i) * 16 + j) * 16 + k) * 16 + l) ] ] ]
    ]

-- What is read of them, digit by digit.
pub four-read : (o p q r : Option ℕ) (w x y z : ℕ) → Some w ≡ found_as o → Some x ≡ found_as p → Some y ≡ found_as q → Some z ≡ found_as r
    → Some (((w * 16 + x) * 16 + y) * 16 + z) ≡ found_as (by_four o p q r)
four-read none p q r w x y z a b c d = cc
four-read (some i) none q r w x y z a b c d = cc
four-read (some i) (some j) none r w x y z a b c d = cc
four-read (some i) (some j) (some k) none w x y z a b c d = cc
four-read (some i) (some j) (some k) (some l) w x y z a b c d =
    let e : w ≡ i = cc in
    let f : x ≡ j = cc in
    let g : y ≡ k = cc in
    let h : z ≡ l = cc in
    ap (λ (n : ℕ). Some n) (omega arith)

-- The last of them may be none.
pub four-unread : (o p q r : Option ℕ) (w x y : ℕ) → Some w ≡ found_as o → Some x ≡ found_as p → Some y ≡ found_as q → None ≡ found_as r
    → None ≡ found_as (by_four o p q r)
four-unread none p q r w x y a b c d = refl
four-unread (some i) none q r w x y a b c d = refl
four-unread (some i) (some j) none r w x y a b c d = refl
four-unread (some i) (some j) (some k) none w x y a b c d = refl
four-unread (some i) (some j) (some k) (some l) w x y a b c d = cc

-- The number of an escape is that of its four bytes.
pub unicode-long : (s : List ℕ) → 6 ≤ length s → get_or s 0 0 ≡ 0x5C → get_or s 1 0 ≡ 0x75 → unicode_at s ≡ number hex_digit_at 16 (get_or s 2 0 ∷ get_or s 3 0 ∷ get_or s 4 0 ∷ get_or s 5 0 ∷ [])
unicode-long [] h e f = absurd (omega arith)
unicode-long (x ∷ []) h e f = absurd (omega arith)
unicode-long (x ∷ y ∷ []) h e f = absurd (omega arith)
unicode-long (x ∷ y ∷ a ∷ []) h e f = absurd (omega arith)
unicode-long (x ∷ y ∷ a ∷ b ∷ []) h e f = absurd (omega arith)
unicode-long (x ∷ y ∷ a ∷ b ∷ c ∷ []) h e f = absurd (omega arith)
unicode-long (x ∷ y ∷ a ∷ b ∷ c ∷ d ∷ s) h e f = λ i. unicode_at (e i ∷ f i ∷ a ∷ b ∷ c ∷ d ∷ s)

-- A character has four bytes at most.
pub four_bytes : (n : ℕ) → length (utf8 n) ≤ 4
four_bytes n = subst (λ (k : ℕ). k ≤ 4) (utf8-length n) (go (leb 0x80 n) (leb 0x800 n) (leb 0x10000 n))
  where
    go : (a b c : Bool) → 1 + cond a 1 0 + cond b 1 0 + cond c 1 0 ≤ 4
    go true true true = omega arith
    go true true false = omega arith
    go true false true = omega arith
    go true false false = omega arith
    go false true true = omega arith
    go false true false = omega arith
    go false false true = omega arith
    go false false false = omega arith

-- A text that begins with a backslash, taken apart.
slashed : (s : List ℕ) → 0 < length s → get_or s 0 0 ≡ 0x5C → (r : List ℕ) × (s ≡ 0x5C ∷ r)
slashed [] h e = absurd (omega arith)
slashed (x ∷ s) h e = (s, λ i. e i ∷ s)

-- A second half is in its range, and a first one.
pub low-bounds : (l : ℕ) → inside lows l ≡ true → (0xDC00 ≤ l) × (l ≤ 0xDFFF)
low-bounds l e =
    let t = subst T (sym e) tt in
    (leb→le 0xDC00 l (and_left (leb 0xDC00 l) (leb l 0xDFFF) t), leb→le l 0xDFFF (and_right (leb 0xDC00 l) (leb l 0xDFFF) t))

pub high-bounds : (n : ℕ) → inside highs n ≡ true → (0xD800 ≤ n) × (n ≤ 0xDBFF)
high-bounds n e =
    let t = subst T (sym e) tt in
    (leb→le 0xD800 n (and_left (leb 0xD800 n) (leb n 0xDBFF) t), leb→le n 0xDBFF (and_right (leb 0xD800 n) (leb n 0xDBFF) t))

high-no-low : (n : ℕ) → inside highs n ≡ true → inside lows n ≡ false
high-no-low n e =
    let b = high-bounds n e in
    is_false (inside lows n) (λ t. over n b.1 (leb→le 0xDC00 n (and_left (leb 0xDC00 n) (leb n 0xDFFF) t)))
  where
    over : (n : ℕ) → n ≤ 0xDBFF → 0xDC00 ≤ n → ⊥
    over n a b = omega arith

-- At a second half the rule stops.
pub low-tells : (s : List ℕ) (n : ℕ) → inside lows n ≡ true → Tells (at_unicode n s) s None
low-tells s n l = (10, rw l)

-- At a first half it looks at what follows.
pub high-moves : (s : List ℕ) (n : ℕ) → inside highs n ≡ true → at_unicode n s ≡ at_high n (unicode_at (drop 6 s)) s
high-moves s n h = rw (high-no-low n h, h)

-- Any other number stands for its character.
pub single-tells : (s : List ℕ) (n : ℕ) → n < 0x10000 → 6 ≤ length s → inside lows n ≡ false → inside highs n ≡ false → Tells (at_unicode n s) s (escape_for 6 n)
single-tells s n small long l h = (rw (l, h), omega arith, long, omega (arith, four_bytes n), omega arith)

-- The two halves of a pair give way to their character.
pub pair-tells : (s : List ℕ) (h l : ℕ) → 0xD800 ≤ h → h ≤ 0xDBFF → unicode_at (drop 6 s) ≡ some l → 12 ≤ length s → inside lows l ≡ true
    → Tells (at_high h (unicode_at (drop 6 s)) s) s (escape_for 12 (pair_of h l))
pair-tells s h l a b e long low =
    let bounds = low-bounds l low in
    (rw (e, low), omega arith, long, omega (arith, four_bytes (pair_of h l)), omega (arith, bounds.0, bounds.1))

-- A first half with no second one stops the rule.
pub alone-tells : (s : List ℕ) (h : ℕ) → unicode_at (drop 6 s) ≡ none → Tells (at_high h (unicode_at (drop 6 s)) s) s None
alone-tells s h e = (10, rw e)

pub unpaired-tells : (s : List ℕ) (h l : ℕ) → unicode_at (drop 6 s) ≡ some l → inside lows l ≡ false → Tells (at_high h (unicode_at (drop 6 s)) s) s None
unpaired-tells s h l e low = (10, rw (e, low))

-- ---- an escape

-- A number that was read decides, whatever stands before.
pub number-tells : (s : List ℕ) (n : ℕ) (r : Maybe Escape) → unicode_at s ≡ some n → Tells (at_unicode n s) s r → (p : ℕ) → Tells (json_step p s) s r
number-tells s n r e h p = subst (λ (m : Move). Tells m s r) (sym (at-unicode p n s e)) h

-- A backslash and a byte that stand for a character.
pub short-tells : (s : List ℕ) (c : ℕ) → 2 ≤ length s → get_or s 0 0 ≡ 0x5C → get_or s 1 0 < 256 → short_of (get_or s 1 0) ≡ Some c → (p : ℕ) → Tells (json_step p s) s (escape_for 2 c)
short-tells [] c h e b q p = absurd (omega arith)
short-tells (x ∷ []) c h e b q p = absurd (omega arith)
short-tells (x ∷ y ∷ s) c h e b q p = subst (λ (x : ℕ). Tells (json_step p (x ∷ y ∷ s)) (x ∷ y ∷ s) (escape_for 2 c)) (sym e) (short-some y s c b q p)

-- Where there is neither a number nor such a byte, the rule stops.
pub none-tells : (s : List ℕ) → 0 < length s → get_or s 0 0 ≡ 0x5C → unicode_at s ≡ none → (2 ≤ length s → short_of (get_or s 1 0) ≡ None) → (p : ℕ) → Tells (json_step p s) s None
unfolding json_step
none-tells [] h e n q p = absurd (omega arith)
none-tells (x ∷ []) h e n q p = subst (λ (x : ℕ). Tells (undo (row_at value short_escapes (x ∷ [])) (at_escape (unicode_at (x ∷ [])) (x ∷ []))) (x ∷ []) None) (sym e) (4, refl)
none-tells (x ∷ y ∷ s) h e n q p = (
  4,
  ap (λ (o : Option ℕ). undo (row_at value short_escapes (x ∷ y ∷ s)) (at_escape o (x ∷ y ∷ s))) n
      ∙ rw (e, short_none y s (q (omega arith))),
)

-- ---- half a pair alone

-- At a first half: it is alone exactly if no second one follows.
pub lone-high : (s : List ℕ) (n : ℕ) → unicode_at s ≡ some n → inside highs n ≡ true → unicode_at (drop 6 s) ≡ none → true ≡ eqb (why (json_step 0 s)) 10
lone-high s n e h k = rw (at-unicode 0 n s e, high-moves s n h, k)

pub lone-paired : (s : List ℕ) (n l : ℕ) → unicode_at s ≡ some n → inside highs n ≡ true → unicode_at (drop 6 s) ≡ some l → not (inside lows l) ≡ eqb (why (json_step 0 s)) 10
lone-paired s n l e h k = rw (at-unicode 0 n s e, high-moves s n h, k) (by (inside lows l) (utf8 (pair_of n l)))
  where
    by : (x : Bool) (w : List ℕ) → not x ≡ eqb (why (cond x (swap (take 12 s) w) (stop 10))) 10
    by true w = refl
    by false w = refl

-- At another number only a second half stops the rule so,
pub lone-other : (s : List ℕ) (n : ℕ) → unicode_at s ≡ some n → inside highs n ≡ false → inside lows n ≡ eqb (why (json_step 0 s)) 10
lone-other s n e h = rw (at-unicode 0 n s e, h) (by (inside lows n))
  where
    by : (x : Bool) → x ≡ eqb (why (cond x (stop 10) (swap (take 6 s) (utf8 n)))) 10
    by true = refl
    by false = refl

-- and nothing does elsewhere.
pub lone-none : (s : List ℕ) → unicode_at s ≡ none → false ≡ eqb (why (json_step 0 s)) 10
unfolding json_step
lone-none s e = kept s (row_at value short_escapes s) ∙ ap (λ (o : Option ℕ). eqb (why (undo (row_at value short_escapes s) (at_escape o s))) 10) (sym e)
  where
    kept : (s : List ℕ) (o : Option Row) → false ≡ eqb (why (undo o (keep_unescaped s))) 10
    kept s (some row) = refl
    kept [] none = refl
    kept (b ∷ s) none = by (one_of escaped_only b)
      where
        by : (x : Bool) → false ≡ eqb (why (unless x (keep (b ∷ [])))) 10
        by true = refl
        by false = refl
