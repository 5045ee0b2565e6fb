-- decode of a JSON string takes exactly the content of RFC 8259: at each element the rule makes that element's move, every move that it makes is an
-- element that stands there, and where it stops with 10, half a surrogate pair stands alone.
-- Assumes nothing.
use mathlib.Core.Bool.{Bool, true, false, cond}
use mathlib.Core.Logic.{◌⊎◌, inl, inr, ◌↔◌}
use mathlib.Core.Option.{Option, none, some, none-ne-some, some-injective}
use mathlib.Core.Path.{◌≡◌, refl, sym, ap, ◌∙◌, subst}
use mathlib.Core.List.{List, [], ◌∷◌, ◌++◌, append_assoc, append-nil}
use Prim.Native.Nat.{ℕ, suc, pred, ◌+◌, ◌-◌, ◌*◌, ◌≤◌, ◌<◌}
use native.Mathlib.Omega.{arith}
use lib.Dec.{T, eqb, leb, eqb→eq, leb→le}
use lib.ListN.{length, take, drop, length-append}
use lib.Seq.{drop-append_seam}
use Rattle.rules.specs.Bytes.{ascii, All, stands, inside, between, one_of}
use Rattle.rules.specs.Moves.{Move, keep, swap, leave, stop, takes, and_then, moves, taken, place, through, before, why, why_at}
use Rattle.rules.specs.Utf8.{utf8}
use Rattle.rules.specs.Tables.{Row, row_at, value}
use Rattle.rules.specs.Reading.{undo, unless}
use Rattle.rules.specs.References.{hex_digit_at, number}
use Rattle.rules.specs.Json.{escaped_only, short_escapes, Spells, highs, lows, pair_of, IsSingle, IsPair, IsElement, IsContent, BeginsLow, BeginsLone, IsLone, four_at, unicode_at, at_high, at_unicode, keep_unescaped, at_escape, json_step, content_to}
use Rattle.rules.proofs.Tests.{and_left, and_right, is_false, first-none, first-sound, stands-split, all_in}
use Rattle.rules.proofs.Machine.{Makes, Fair, retrace, moves-fair, place-within}
use Rattle.rules.proofs.Codes.{Reads, follows, units-unique, place-written, place-longest, written-iff}
use Rattle.rules.proofs.Tables.{is_code, row-length, row_first}

-- ---- the escape of a number

is_true : (b : Bool) → T b → b ≡ true
is_true true t = refl
is_true false t = absurd t

four-shape : (s : List ℕ) (n : ℕ) → four_at s ≡ some n
    → (a : ℕ) × (b : ℕ) × (c : ℕ) × (d : ℕ) × (r : List ℕ) × (s ≡ a ∷ b ∷ c ∷ d ∷ r) × (number hex_digit_at 16 (a ∷ b ∷ c ∷ d ∷ []) ≡ some n)
four-shape [] n e = absurd (none-ne-some n e)
four-shape (a ∷ []) n e = absurd (none-ne-some n e)
four-shape (a ∷ b ∷ []) n e = absurd (none-ne-some n e)
four-shape (a ∷ b ∷ c ∷ []) n e = absurd (none-ne-some n e)
four-shape (a ∷ b ∷ c ∷ d ∷ r) n e = (a, b, c, d, r, refl, e)

-- A hex digit is below 16, and an ASCII byte.
hex-digit : (b k : ℕ) → hex_digit_at b ≡ some k → (k < 16) × (b < 0x80)
hex-digit b k e = go (between "A" "F" b) refl (between "a" "f" b) refl (between "0" "9" b) refl e
  where
    ends : (lo hi : ℕ) → inside (lo, hi) b ≡ true → (lo ≤ b) × (b ≤ hi)
    ends lo hi e = (leb→le lo b (and_left (leb lo b) (leb b hi) (subst T (sym e) tt)), leb→le b hi (and_right (leb lo b) (leb b hi) (subst T (sym e) tt)))

    upper : (b k : ℕ) → (65 ≤ b) × (b ≤ 70) → b - 55 ≡ k → (k < 16) × (b < 0x80)
    upper b k h e = (omega (arith, h.0, h.1), omega (arith, h.1))

    lower : (b k : ℕ) → (97 ≤ b) × (b ≤ 102) → b - 87 ≡ k → (k < 16) × (b < 0x80)
    lower b k h e = (omega (arith, h.0, h.1), omega (arith, h.1))

    figure : (b k : ℕ) → (48 ≤ b) × (b ≤ 57) → b - 48 ≡ k → (k < 16) × (b < 0x80)
    figure b k h e = (omega (arith, h.0, h.1), omega (arith, h.1))

    go : (x : Bool) → between "A" "F" b ≡ x → (y : Bool) → between "a" "f" b ≡ y → (z : Bool) → between "0" "9" b ≡ z
        → cond x (some (b - 55)) (cond y (some (b - 87)) (cond z (some (b - 48)) none)) ≡ some k → (k < 16) × (b < 0x80)
    go true f y g z h e = upper b k (ends 65 70 f) (some-injective (b - 55) k e)
    go false f true g z h e = lower b k (ends 97 102 g) (some-injective (b - 87) k e)
    go false f false g true h e = figure b k (ends 48 57 h) (some-injective (b - 48) k e)
    go false f false g false h e = absurd (none-ne-some k e)

-- Four of them spell a number of 16 bits.
four-digits : (a b c d n : ℕ) → number hex_digit_at 16 (a ∷ b ∷ c ∷ d ∷ []) ≡ some n → (n < 0x10000) × (d < 0x80)
four-digits a b c d n = go (hex_digit_at a) refl (hex_digit_at b) refl (hex_digit_at c) refl (hex_digit_at d) refl
  where
    most : (w x y z n : ℕ) → w < 16 → x < 16 → y < 16 → z < 16 → (((0 * 16 + w) * 16 + x) * 16 + y) * 16 + z ≡ n → n < 0x10000
    most w x y z n a b c d e = omega arith

    go : (w : Option ℕ) → hex_digit_at a ≡ w → (x : Option ℕ) → hex_digit_at b ≡ x → (y : Option ℕ) → hex_digit_at c ≡ y → (z : Option ℕ) → hex_digit_at d ≡ z
        → elim w [
          | none ↦ none
          | some i ↦ elim x [ none ↦ none | some j ↦ elim y [ none ↦ none | some k ↦ elim z [ none ↦ none | some l ↦ some ((((0 * 16 + i) * 16 + j) * 16 + k) * 16 + l) ] ] ]
        ] ≡ some n → (n < 0x10000) × (d < 0x80)
    go none p x q y r z s e = absurd (none-ne-some n e)
    go (some i) p none q y r z s e = absurd (none-ne-some n e)
    go (some i) p (some j) q none r z s e = absurd (none-ne-some n e)
    go (some i) p (some j) q (some k) r none s e = absurd (none-ne-some n e)
    go (some i) p (some j) q (some k) r (some l) s e = (
      most i j k l n (hex-digit a i p).0 (hex-digit b j q).0 (hex-digit c k r).0 (hex-digit d l s).0 (some-injective ((((0 * 16 + i) * 16 + j) * 16 + k) * 16 + l) n e),
      (hex-digit d l s).1,
    )

-- Where the escape of a number stands, it spells that number.
pub unicode-shape : (s : List ℕ) (n : ℕ) → unicode_at s ≡ some n → (v : List ℕ) × (r : List ℕ) × Spells n v × (s ≡ v ++ r)
unicode-shape s n e = go (stands (ascii "\\u") s) refl e
  where
    go : (b : Bool) → stands (ascii "\\u") s ≡ b → cond b (four_at (drop 2 s)) none ≡ some n → (v : List ℕ) × (r : List ℕ) × Spells n v × (s ≡ v ++ r)
    go false f e = absurd (none-ne-some n e)
    go true f e =
        let (q, w) = stands-split (ascii "\\u") s (subst T (sym f) tt) in
        let (a, b, c, d, r, g, h) = four-shape q n (subst (λ (l : List ℕ). four_at (drop 2 l) ≡ some n) w e) in
        (ascii "\\u" ++ a ∷ b ∷ c ∷ d ∷ [], r, (a, b, c, d, refl, h), w ∙ ap (λ (l : List ℕ). ascii "\\u" ++ l) g)

-- And the other way round.
spelled : (n : ℕ) (v r : List ℕ) → Spells n v → unicode_at (v ++ r) ≡ some n
spelled n v r s = let (a, b, c, d, e, h) = s in ap (λ (l : List ℕ). unicode_at (l ++ r)) e ∙ h

no_row : (n : ℕ) (v r : List ℕ) → Spells n v → row_at value short_escapes (v ++ r) ≡ none
no_row n v r s = let (a, b, c, d, e, h) = s in ap (λ (l : List ℕ). row_at value short_escapes (l ++ r)) e

spelled-six : (n : ℕ) (v r : List ℕ) → Spells n v → take 6 (v ++ r) ≡ v
spelled-six n v r s = let (a, b, c, d, e, h) = s in ap (λ (l : List ℕ). take 6 (l ++ r)) e ∙ sym e

spelled-rest : (n : ℕ) (v r : List ℕ) → Spells n v → drop 6 (v ++ r) ≡ r
spelled-rest n v r s = let (a, b, c, d, e, h) = s in ap (λ (l : List ℕ). drop 6 (l ++ r)) e

-- The escape ends with an ASCII byte, and its number has 16 bits.
pub spelled-digits : (n : ℕ) (v : List ℕ) → Spells n v → (a : ℕ) × (b : ℕ) × (c : ℕ) × (d : ℕ) × (v ≡ ascii "\\u" ++ a ∷ b ∷ c ∷ d ∷ []) × (n < 0x10000) × (d < 0x80)
spelled-digits n v s = let (a, b, c, d, e, h) = s in let (small, low) = four-digits a b c d n h in (a, b, c, d, e, small, low)

pub spelled-long : (n : ℕ) (v : List ℕ) → Spells n v → length v ≡ 6
spelled-long n v s = let (a, b, c, d, e, h) = s in ap length e

spelled-twelve : (h l : ℕ) (a b r : List ℕ) → Spells h a → Spells l b → take 12 (a ++ (b ++ r)) ≡ a ++ b
spelled-twelve h l a b r s t =
    let (x, y, z, w, e, f) = s in
    let (x', y', z', w', e', f') = t in
    (λ i. take 12 (e i ++ (e' i ++ r))) ∙ sym (λ i. e i ++ e' i)

pub pair-long : (v k : List ℕ) → IsPair v k → length v ≡ 12
pair-long v k u = let (h, l, a, b, s, t, ih, il, e, q) = u in ap length e ∙ length-append a b ∙ (λ i. spelled-long h a s i + spelled-long l b t i)

-- What the rule makes of the escape of a number.
at-spelled : (p n : ℕ) (v r : List ℕ) → Spells n v → json_step p (v ++ r) ≡ at_unicode n (v ++ r)
unfolding json_step
at-spelled p n v r s = (λ i. undo (no_row n v r s i) (at_escape (unicode_at (v ++ r)) (v ++ r))) ∙ ap (λ (o : Option ℕ). at_escape o (v ++ r)) (spelled n v r s)

-- The same by the number that is read there.
pub at-unicode : (p n : ℕ) (s : List ℕ) → unicode_at s ≡ some n → json_step p s ≡ at_unicode n s
at-unicode p n s e = let (v, r, sp, g) = unicode-shape s n e in ap (json_step p) g ∙ at-spelled p n v r sp ∙ ap (at_unicode n) (sym g)

-- ---- at an element the rule makes its move

-- The backslash begins each two-character escape.
abbrev slash : List (List ℕ)
slash = ascii "\\" ∷ []

short-code : T (is_code value short_escapes slash)
short-code = tt

abbrev slashes : Row → Bool
slashes row = stands (ascii "\\") (value row)

-- A byte that may stand by itself is no backslash, so that no escape stands there.
not-slash : (b : ℕ) → (T (one_of escaped_only b) → ⊥) → T (eqb 92 b) → ⊥
not-slash b h t = h (subst (λ (x : ℕ). T (one_of escaped_only x)) (eqb→eq 92 b t) tt)

short-begins : (v s : List ℕ) (b : ℕ) → T (stands (ascii "\\") v) → T (stands v (b ∷ s)) → T (eqb 92 b)
short-begins [] s b t h = absurd t
short-begins (x ∷ v) s b t h =
    subst (λ (y : ℕ). T (eqb y b)) (sym (eqb→eq 92 x (and_left (eqb 92 x) true t))) (and_left (eqb x b) (stands v s) h)

-- At any other byte than a backslash the byte decides.
pub no-escape : (p b : ℕ) (r : List ℕ) → (T (eqb 92 b) → ⊥) → json_step p (b ∷ r) ≡ keep_unescaped (b ∷ r)
unfolding json_step
no-escape p b r n =
    ap (λ (o : Option Row). undo o (at_escape (unicode_at (b ∷ r)) (b ∷ r)))
    (first-none (λ (row : Row). stands (value row)) short_escapes (b ∷ r) (λ e i t. n (short-begins (value e) r b (all_in slashes short_escapes tt e i) t)))
    ∙ ap (λ (c : Bool). at_escape (cond c (four_at (drop 2 (b ∷ r))) none) (b ∷ r))
    (is_false (stands (ascii "\\u") (b ∷ r)) (λ t. n (and_left (eqb 92 b) (stands (ascii "u") r) t)))

-- A byte that may stand by itself is kept.
pub element-keeps : (p b : ℕ) (r : List ℕ) → (T (one_of escaped_only b) → ⊥) → json_step p (b ∷ r) ≡ keep (b ∷ [])
element-keeps p b r h = no-escape p b r (not-slash b h) ∙ ap (λ (c : Bool). unless c (keep (b ∷ []))) (is_false (one_of escaped_only b) h)

single-makes : (p : ℕ) (v k r : List ℕ) → IsSingle v k → json_step p (v ++ r) ≡ swap v k
single-makes p v k r u =
    let (n, s, nh, nl, e) = u in
    at-spelled p n v r s
    ∙ ap (λ (b : Bool). cond b (stop 10) (cond (inside highs n) (at_high n (unicode_at (drop 6 (v ++ r))) (v ++ r)) (swap (take 6 (v ++ r)) (utf8 n)))) (is_false (inside lows n) nl)
    ∙ ap (λ (b : Bool). cond b (at_high n (unicode_at (drop 6 (v ++ r))) (v ++ r)) (swap (take 6 (v ++ r)) (utf8 n))) (is_false (inside highs n) nh)
    ∙ (λ i. swap (spelled-six n v r s i) (sym e i))

-- A high half is no low one.
apart : (n : ℕ) → T (inside highs n) → T (inside lows n) → ⊥
apart n h l =
    go n (leb→le n 0xDBFF (and_right (leb 0xD800 n) (leb n 0xDBFF) h)) (leb→le 0xDC00 n (and_left (leb 0xDC00 n) (leb n 0xDFFF) l))
  where
    go : (n : ℕ) → n ≤ 0xDBFF → 0xDC00 ≤ n → ⊥
    go n a b = omega arith

-- At a first half the rule looks at what follows.
at_high_lem : (p n : ℕ) (v r : List ℕ) → Spells n v → T (inside highs n) → json_step p (v ++ r) ≡ at_high n (unicode_at r) (v ++ r)
at_high_lem p n v r s h =
    at-spelled p n v r s
    ∙ ap (λ (b : Bool). cond b (stop 10) (cond (inside highs n) (at_high n (unicode_at (drop 6 (v ++ r))) (v ++ r)) (swap (take 6 (v ++ r)) (utf8 n)))) (is_false (inside lows n) (apart n h))
    ∙ ap (λ (b : Bool). cond b (at_high n (unicode_at (drop 6 (v ++ r))) (v ++ r)) (swap (take 6 (v ++ r)) (utf8 n))) (is_true (inside highs n) h)
    ∙ ap (λ (l : List ℕ). at_high n (unicode_at l) (v ++ r)) (spelled-rest n v r s)

pair-makes : (p : ℕ) (v k r : List ℕ) → IsPair v k → json_step p (v ++ r) ≡ swap v k
pair-makes p v k r u =
    let (h, l, a, b, s, t, ih, il, e, q) = u in
    ap (json_step p) (ap (λ (x : List ℕ). x ++ r) e ∙ append_assoc a b r)
    ∙ at_high_lem p h a (b ++ r) s ih
    ∙ ap (λ (o : Option ℕ). at_high h o (a ++ (b ++ r))) (spelled l b r t)
    ∙ ap (λ (c : Bool). cond c (swap (take 12 (a ++ (b ++ r))) (utf8 (pair_of h l))) (stop 10)) (is_true (inside lows l) il)
    ∙ (λ i. swap ((spelled-twelve h l a b r s t ∙ sym e) i) (sym q i))

finds : (u : Move) → IsElement u → (r : List ℕ) → Makes json_step u r
unfolding json_step
finds (keep a) (b, e, h) r = (0, ap length e, λ p. ap (λ (l : List ℕ). json_step p (l ++ r)) e ∙ element-keeps p b r h ∙ ap keep (sym e))
finds (swap v k) (inl i) r = (
  pred (length v),
  row-length value short_escapes slash short-code (k, v) i,
  λ p. ap (λ (o : Option Row). undo o (at_escape (unicode_at (v ++ r)) (v ++ r))) (row_first value short_escapes slash short-code (k, v) i r),
)
finds (swap v k) (inr (inl u)) r = (5, spelled-long u.0 v u.1, λ p. single-makes p v k r u)
finds (swap v k) (inr (inr u)) r = (11, pair-long v k u, λ p. pair-makes p v k r u)
finds (leave w a) i r = absurd i
finds (stop w) i r = absurd i

-- ---- every move that it makes is an element that stands there, and a stop with 10 is a half alone

pub json-fair : (p : ℕ) (s : List ℕ) → Fair IsElement (json_step p s) s
unfolding json_step
json-fair p s = go (row_at value short_escapes s) refl (unicode_at s) refl
  where
    kept : (s : List ℕ) → Fair IsElement (keep_unescaped s) s
    kept [] = tt
    kept (b ∷ s) = by (one_of escaped_only b) refl
      where
        by : (c : Bool) → one_of escaped_only b ≡ c → Fair IsElement (unless c (keep (b ∷ []))) (b ∷ s)
        by true e = tt
        by false e = ((b, refl, λ t. subst T e t), s, refl, 0, refl)

    pair : (n : ℕ) (v r : List ℕ) → Spells n v → T (inside highs n) → (o : Option ℕ) → unicode_at r ≡ o → Fair IsElement (at_high n o (v ++ r)) (v ++ r)
    pair n v r sp h none e = tt
    pair n v r sp h (some l) e = by (inside lows l) refl
      where
        by : (c : Bool) → inside lows l ≡ c → Fair IsElement (cond c (swap (take 12 (v ++ r)) (utf8 (pair_of n l))) (stop 10)) (v ++ r)
        by false f = tt
        by true f =
            let (w, q, sw, g) = unicode-shape r l e in
            let twelve : take 12 (v ++ r) ≡ v ++ w = ap (λ (x : List ℕ). take 12 (v ++ x)) g ∙ spelled-twelve n l v w q sp sw in (
              inr (inr (n, l, v, w, sp, sw, h, subst T (sym f) tt, twelve, refl)),
              q,
              ap (λ (x : List ℕ). v ++ x) g ∙ sym (append_assoc v w q) ∙ ap (λ (x : List ℕ). x ++ q) (sym twelve),
              11,
              ap length twelve ∙ pair-long (v ++ w) (utf8 (pair_of n l)) (n, l, v, w, sp, sw, h, subst T (sym f) tt, refl, refl),
            )

    coded : (n : ℕ) (v r : List ℕ) → Spells n v → Fair IsElement (at_unicode n (v ++ r)) (v ++ r)
    coded n v r sp = by (inside lows n) refl (inside highs n) refl
      where
        by : (c : Bool) → inside lows n ≡ c → (d : Bool) → inside highs n ≡ d
            → Fair IsElement (cond c (stop 10) (cond d (at_high n (unicode_at (drop 6 (v ++ r))) (v ++ r)) (swap (take 6 (v ++ r)) (utf8 n)))) (v ++ r)
        by true f d g = tt
        by false f true g =
            subst (λ (l : List ℕ). Fair IsElement (at_high n (unicode_at l) (v ++ r)) (v ++ r)) (sym (spelled-rest n v r sp)) (pair n v r sp (subst T (sym g) tt) (unicode_at r) refl)
        by false f false g = (
          inr (inl (n, subst (Spells n) (sym (spelled-six n v r sp)) sp, (λ t. subst T g t), (λ t. subst T f t), refl)),
          r,
          ap (λ (x : List ℕ). x ++ r) (sym (spelled-six n v r sp)),
          5,
          ap length (spelled-six n v r sp) ∙ spelled-long n v sp,
        )

    escape : (o : Option ℕ) → unicode_at s ≡ o → Fair IsElement (at_escape o s) s
    escape none e = kept s
    escape (some n) e = let (v, r, sp, g) = unicode-shape s n e in subst (λ (l : List ℕ). Fair IsElement (at_unicode n l) l) (sym g) (coded n v r sp)

    go : (o : Option Row) → row_at value short_escapes s ≡ o → (n : Option ℕ) → unicode_at s ≡ n → Fair IsElement (undo o (at_escape n s)) s
    go (some row) f n g =
        let (i, t) = first-sound (λ (row : Row). stands (value row)) short_escapes s row f in
        let (r, w) = stands-split (value row) s t in
        (inl i, r, w, pred (length (value row)), row-length value short_escapes slash short-code row i)
    go none f n g = escape n g

pub json-reads : Reads IsElement json_step
json-reads = record { finds = finds; fair = json-fair }

-- What is undone by itself is undone whatever follows.
pub json-row : (v k r : List ℕ) (p : ℕ) → json_step 0 v ≡ swap v k → json_step p (v ++ r) ≡ swap v k
json-row v k r p e = (json-reads.finds (swap v k) (subst (λ (m : Move). Fair IsElement m v) e (json-fair 0 v)).0 r).2 p

-- A text is content exactly if decode takes all of it.
pub content-iff : (s : List ℕ) → IsContent s ↔ (content_to s ≡ length s)
content-iff = written-iff json-reads

-- Where it stops, what it took is content.
pub content-prefix : (s : List ℕ) → IsContent (take (content_to s) s)
content-prefix = place-written json-reads

-- No longer prefix is: the place of a refusal is the length of the longest prefix that is content.
pub content-longest : (s u r : List ℕ) → IsContent u → s ≡ u ++ r → length u ≤ content_to s
content-longest = place-longest json-reads

-- It is a prefix.
pub content-within : (s : List ℕ) → content_to s ≤ length s
content-within = place-within IsElement json_step json-fair

-- Content is one run of elements only.
pub content-unique : (us vs : List Move) → All IsElement us → All IsElement vs → taken us ≡ taken vs → us ≡ vs
content-unique = units-unique json-reads

-- ---- half a pair alone

-- Where it stands the rule stops with 10.
half-stops : (p : ℕ) (s : List ℕ) → BeginsLone s → json_step p s ≡ stop 10
half-stops p s h = let (n, v, r, sp, half, e) = h in ap (json_step p) e ∙ go n v r sp half
  where
    high : (n : ℕ) (v r : List ℕ) → (BeginsLow r → ⊥) → (o : Option ℕ) → unicode_at r ≡ o → at_high n o (v ++ r) ≡ stop 10
    high n v r alone none e = refl
    high n v r alone (some l) e = by (inside lows l) refl
      where
        by : (c : Bool) → inside lows l ≡ c → cond c (swap (take 12 (v ++ r)) (utf8 (pair_of n l))) (stop 10) ≡ stop 10
        by false f = refl
        by true f = let (w, q, sw, g) = unicode-shape r l e in absurd (alone (l, w, q, sw, subst T (sym f) tt, g))

    go : (n : ℕ) (v r : List ℕ) → Spells n v → T (inside lows n) ⊎ (T (inside highs n) × (BeginsLow r → ⊥)) → json_step p (v ++ r) ≡ stop 10
    go n v r sp (inl low) =
        at-spelled p n v r sp
        ∙ ap (λ (b : Bool). cond b (stop 10) (cond (inside highs n) (at_high n (unicode_at (drop 6 (v ++ r))) (v ++ r)) (swap (take 6 (v ++ r)) (utf8 n)))) (is_true (inside lows n) low)
    go n v r sp (inr (h, alone)) = at_high_lem p n v r sp h ∙ high n v r alone (unicode_at r) refl

nought-ten : ◌≡◌ {A = ℕ} 0 10 → ⊥
nought-ten e = omega arith

four-ten : ◌≡◌ {A = ℕ} 4 10 → ⊥
four-ten e = omega arith

-- Where it stops with 10, half a pair stands alone.
ten-half : (p : ℕ) (s : List ℕ) → why (json_step p s) ≡ 10 → BeginsLone s
unfolding json_step
ten-half p s = go (row_at value short_escapes s) (unicode_at s) refl
  where
    kept : (s : List ℕ) → why (keep_unescaped s) ≡ 10 → ⊥
    kept [] e = four-ten e
    kept (b ∷ s) e = by (one_of escaped_only b) e
      where
        by : (c : Bool) → why (unless c (keep (b ∷ []))) ≡ 10 → ⊥
        by true e = four-ten e
        by false e = nought-ten e

    no-low : (r : List ℕ) (o : Option ℕ) → unicode_at r ≡ o → ((l : ℕ) → o ≡ some l → inside lows l ≡ false) → BeginsLow r → ⊥
    no-low r o e other b =
        let (l, v, q, sp, i, g) = b in
        subst T (other l (sym e ∙ ap unicode_at g ∙ spelled l v q sp)) i

    high : (n : ℕ) (v r : List ℕ) (o : Option ℕ) → unicode_at r ≡ o → why (at_high n o (v ++ r)) ≡ 10 → BeginsLow r → ⊥
    high n v r none e y = no-low r none e (λ l q. absurd (none-ne-some l q))
    high n v r (some m) e y = by (inside lows m) refl y
      where
        by : (c : Bool) → inside lows m ≡ c → why (cond c (swap (take 12 (v ++ r)) (utf8 (pair_of n m))) (stop 10)) ≡ 10 → BeginsLow r → ⊥
        by true f y = absurd (nought-ten y)
        by false f y = no-low r (some m) e (λ l q. ap (inside lows) (sym (some-injective m l q)) ∙ f)

    coded : (n : ℕ) (v r : List ℕ) → Spells n v → why (at_unicode n (v ++ r)) ≡ 10 → BeginsLone (v ++ r)
    coded n v r sp = by (inside lows n) refl (inside highs n) refl
      where
        by : (c : Bool) → inside lows n ≡ c → (d : Bool) → inside highs n ≡ d
            → why (cond c (stop 10) (cond d (at_high n (unicode_at (drop 6 (v ++ r))) (v ++ r)) (swap (take 6 (v ++ r)) (utf8 n)))) ≡ 10 → BeginsLone (v ++ r)
        by true f d g y = (n, v, r, sp, inl (subst T (sym f) tt), refl)
        by false f true g y =
            (n, v, r, sp, inr (subst T (sym g) tt, high n v r (unicode_at r) refl (subst (λ (l : List ℕ). why (at_high n (unicode_at l) (v ++ r)) ≡ 10) (spelled-rest n v r sp) y)), refl)
        by false f false g y = absurd (nought-ten y)

    escape : (o : Option ℕ) → unicode_at s ≡ o → why (at_escape o s) ≡ 10 → BeginsLone s
    escape none e y = absurd (kept s y)
    escape (some n) e y =
        let (v, r, sp, g) = unicode-shape s n e in
        subst BeginsLone (sym g) (coded n v r sp (subst (λ (l : List ℕ). why (at_unicode n l) ≡ 10) g y))

    go : (o : Option Row) (n : Option ℕ) → unicode_at s ≡ n → why (undo o (at_escape n s)) ≡ 10 → BeginsLone s
    go (some row) n e y = absurd (nought-ten y)
    go none n e y = escape n e y

-- A half is something.
half-some : (s : List ℕ) → BeginsLone s → (x : ℕ) × (xs : List ℕ) × (s ≡ x ∷ xs)
half-some s h = let (n, v, r, sp, half, e) = h in let (a, b, c, d, f, g) = sp in (92, (117 ∷ a ∷ b ∷ c ∷ d ∷ []) ++ r, e ∙ ap (λ (l : List ℕ). l ++ r) f)

half-ends : (q : ℕ) (s : List ℕ) → BeginsLone s → moves json_step q 0 s ≡ []
half-ends q s h =
    let (x, xs, e) = half-some s h in
    ap (moves json_step q 0) e
    ∙ ap (λ (m : Move). and_then m (moves json_step x (pred (length (takes m))) xs)) (half-stops q (x ∷ xs) (subst BeginsLone e h))

-- Half a pair stands alone behind content exactly if the rule stops before the end, with 10.
pub lone-iff : (s : List ℕ) → IsLone s ↔ ((content_to s < length s) × (why_at json_step s ≡ 10))
lone-iff s = (there, back)
  where
    less : (a b c : ℕ) → a ≡ b + suc c → b < a
    less a b c e = omega arith

    there : IsLone s → (content_to s < length s) × (why_at json_step s ≡ 10)
    there lone =
        let (u, r, (us, g, w), half, e) = lone in
        let (q, m) = retrace json_step 0 us r (follows json-reads us g r) in
        let ends : content_to s ≡ length u =
        ap content_to (e ∙ ap (λ (l : List ℕ). l ++ r) w) ∙ ap place (m ∙ ap (λ (ms : List Move). us ++ ms) (half-ends q r half) ∙ append-nil us) ∙ ap length (sym w) in
        let rest : drop (content_to s) s ≡ r = (λ i. drop (ends i) (e i)) ∙ drop-append_seam u r in
        let (x, xs, f) = half-some r half in (
          subst (λ (n : ℕ). n < length s) (sym ends) (less (length s) (length u) (length xs) (ap length e ∙ length-append u r ∙ ap (λ (l : List ℕ). length u + length l) f)),
          ap (λ (l : List ℕ). why (json_step (before s (content_to s)) l)) rest ∙ ap why (half-stops (before s (content_to s)) r half),
        )

    back : (content_to s < length s) × (why_at json_step s ≡ 10) → IsLone s
    back (h, y) =
        let (g, r, e, end) = moves-fair IsElement json_step json-fair 0 0 s in
        let rest : drop (content_to s) s ≡ r = ap (drop (content_to s)) e ∙ drop-append_seam (taken (through json_step s)) r in
        (taken (through json_step s), r, (through json_step s, g, refl), ten-half (before s (content_to s)) r (subst (λ (l : List ℕ). why (json_step (before s (content_to s)) l) ≡ 10) rest y), e)

-- In content no half stands alone.
pub content-alone : (s : List ℕ) → IsContent s → IsLone s → ⊥
content-alone s c l = go (content_to s) (length s) ((content-iff s).0 c) ((lone-iff s).0 l).0
  where
    go : (a b : ℕ) → a ≡ b → a < b → ⊥
    go a b e h = omega arith
