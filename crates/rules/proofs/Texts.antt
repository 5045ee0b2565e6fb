-- What each operation gives of a valid text is valid UTF-8: a replaced place begins and ends with ASCII, and what takes its place is a text, so that
-- the bytes before, between and after such places are still whole characters.
-- Assumes nothing.
use mathlib.Core.Bool.{Bool, true, false, not, ◌&&◌, ◌||◌, cond}
use mathlib.Core.Logic.{inl, inr}
use mathlib.Core.Option.{Option, none, some, none-ne-some, some-injective}
use mathlib.Core.Path.{◌≡◌, refl, sym, ap, subst}
use mathlib.Core.List.{List, [], ◌∷◌, ◌++◌}
use Prim.Native.Nat.{ℕ, pred, ◌<◌, ◌≤◌}
use native.Mathlib.Nat.{suc-ne-zero}
use native.Mathlib.Omega.{arith}
use borrow.Author.Tests.{leb-false, lt-ltb}
use lib.Dec.{T, leb, ltb, eqb, leb→le, le→leb, ltb→lt, eqb→eq}
use lib.ListN.{length, drop, get_or}
use Rattle.rules.specs.Bytes.{ascii, In, All, all, fits, join, Range, inside, one_of}
use Rattle.rules.specs.Moves.{Move, keep, swap, leave, stop, taken, result, through}
use Rattle.rules.specs.declared.Reason.{Reason}
use Rattle.rules.specs.Utf8.{sequences, IsChar, IsText, utf8, substitute}
use Rattle.rules.specs.Tables.{Row, key, value, rows}
use Rattle.rules.specs.Encoding.{raw_step, parted}
use Rattle.rules.specs.Names.{names}
use Rattle.rules.specs.References.{scalar, decode_char, renumbering, stands_for, browse_char, number_of, lookup, meaning, reference_step}
use Rattle.rules.specs.Json.{short_escapes, Spells, highs, lows, pair_of, IsElement, json_step}
use Rattle.rules.specs.Operations.{decode_step, decode_of, raw_of}
use Rattle.rules.specs.declared.Context.{Context}
use Rattle.rules.specs.declared.Context.TheVariants.{InHtml, InScript, InStyle, InJson, InAscii}
use Rattle.rules.proofs.Tests.{and_left, and_right, and_both, all_in}
use Rattle.rules.proofs.Machine.{Fair, fair-map, moves-fair}
use Rattle.rules.proofs.Chars.{is_char, is-char, is_tail, char-tails, sequence-pos}
use Rattle.rules.proofs.Valid.{valid-iff}
use Rattle.rules.proofs.Every.{every}
use Rattle.rules.proofs.Encoder.{text-append}
use Rattle.rules.proofs.Growth.{raw-whole}
use Rattle.rules.proofs.Whole.{reference-fair, escape-fair}
use Rattle.rules.proofs.Json.{spelled-digits, json-fair}
use Rattle.rules.proofs.Names.{value-valid}
use Rattle.rules.proofs.Numbers.{stands-scalar}
use Rattle.rules.proofs.Characters.{utf8-char, char-text}

-- ---- lists

no-cons : {A : Type 0} (x : A) (s : List A) → x ∷ s ≡ [] → ⊥
no-cons x s e = suc-ne-zero (length s) (ap length e)

same_head : (x y : ℕ) (s r : List ℕ) → x ∷ s ≡ y ∷ r → x ≡ y
same_head x y s r e = ap (λ (l : List ℕ). get_or l 0 0) e

same_rest : (x y : ℕ) (s r : List ℕ) → x ∷ s ≡ y ∷ r → s ≡ r
same_rest x y s r e = ap (drop 1) e

-- ---- ASCII and the bytes after the first of a character

abbrev is_ascii : ℕ → Bool
is_ascii x = ltb x 0x80

not-tail : (x : ℕ) → T (is_ascii x) → T (is_tail x) → ⊥
not-tail x a t = go x (ltb→lt x 0x80 a) (leb→le 0x80 x (and_left (leb 0x80 x) (leb x 0xBF) t))
  where
    go : (x : ℕ) → x < 0x80 → 0x80 ≤ x → ⊥
    go x h k = omega arith

no_char : IsChar [] → ⊥
no_char c = go c.0 (sequence-pos c.0 c.1) c.3
  where
    go : (q : List Range) → T (ltb 0 (length q)) → 0 ≡ length q → ⊥
    go [] t e = t
    go (q ∷ qs) t e = suc-ne-zero (length qs) (sym e)

-- A sequence of more than one byte begins with no ASCII byte.
abbrev high_lead : List Range → Bool
high_lead [] = false
high_lead (q ∷ []) = true
high_lead (q ∷ p ∷ qs) = leb 0x80 q.0

-- An ASCII byte is a character by itself.
ascii-alone : (x z : ℕ) (zs : List ℕ) → IsChar (x ∷ z ∷ zs) → T (is_ascii x) → ⊥
ascii-alone x z zs c a = go c.0 (all_in high_lead sequences tt c.0 c.1) c.2 c.3
  where
    low : (q0 x : ℕ) → 0x80 ≤ q0 → q0 ≤ x → x < 0x80 → ⊥
    low q0 x h i j = omega arith

    go : (q : List Range) → T (high_lead q) → T (fits inside q (x ∷ z ∷ zs)) → length (x ∷ z ∷ zs) ≡ length q → ⊥
    go [] h f e = h
    go (q ∷ []) h f e = suc-ne-zero (length zs) (ap (λ (n : ℕ). pred n) e)
    go (q ∷ p ∷ qs) h f e =
        low q.0 x (leb→le 0x80 q.0 h) (leb→le q.0 x (and_left (leb q.0 x) (leb x q.1) (and_left (inside q x) (fits inside (p ∷ qs) (z ∷ zs)) f))) (ltb→lt x 0x80 a)

-- The last byte is ASCII.
abbrev pub ends_ascii : List ℕ → Bool
ends_ascii [] = false
ends_ascii (x ∷ []) = is_ascii x
ends_ascii (x ∷ y ∷ s) = ends_ascii (y ∷ s)

-- The first is, too.
abbrev pub edged : List ℕ → Bool
edged [] = false
edged (x ∷ s) = is_ascii x && ends_ascii (x ∷ s)

ends-append : (b : List ℕ) (y : ℕ) → T (is_ascii y) → T (ends_ascii (b ++ y ∷ []))
ends-append [] y t = t
ends-append (x ∷ []) y t = t
ends-append (x ∷ z ∷ b) y t = ends-append (z ∷ b) y t

-- Where a and r are the rest ys of a character and then whole characters, and a ends with ASCII, r is a text.
after : (a r ys : List ℕ) (cs : List (List ℕ)) → T (ends_ascii a) → T (all is_tail ys) → All IsChar cs → a ++ r ≡ ys ++ join cs → IsText r
after [] r ys cs t y h e = absurd t
after (x ∷ []) r (z ∷ zs) cs t y h e =
    absurd (not-tail x t (subst (λ (n : ℕ). T (is_tail n)) (sym (same_head x z r (zs ++ join cs) e)) (and_left (is_tail z) (all is_tail zs) y)))
after (x ∷ []) r [] [] t y h e = absurd (no-cons x r e)
after (x ∷ []) r [] ([] ∷ cs) t y h e = absurd (no_char h.0)
after (x ∷ []) r [] ((z ∷ []) ∷ cs) t y h e = (cs, h.1, same_rest x z r (join cs) e)
after (x ∷ []) r [] ((z ∷ w ∷ zs) ∷ cs) t y h e =
    absurd (ascii-alone z w zs h.0 (subst (λ (n : ℕ). T (is_ascii n)) (same_head x z r (w ∷ zs ++ join cs) e) t))
after (x ∷ x' ∷ a) r (z ∷ zs) cs t y h e =
    after (x' ∷ a) r zs cs t (and_right (is_tail z) (all is_tail zs) y) h (same_rest x z (x' ∷ a ++ r) (zs ++ join cs) e)
after (x ∷ x' ∷ a) r [] [] t y h e = absurd (no-cons x (x' ∷ a ++ r) e)
after (x ∷ x' ∷ a) r [] ([] ∷ cs) t y h e = absurd (no_char h.0)
after (x ∷ x' ∷ a) r [] ((z ∷ zs) ∷ cs) t y h e = after (x' ∷ a) r zs cs t (char-tails z zs h.0) h.1 (same_rest x z (x' ∷ a ++ r) (zs ++ join cs) e)

-- ---- moves that keep texts valid

-- One byte is kept; or bytes that begin and end with ASCII give way to a text, or are left, being one.
abbrev pub Regroups : Move → Type 0
Regroups (keep []) = ⊥
Regroups (keep (x ∷ [])) = Unit {0}
Regroups (keep (x ∷ y ∷ a)) = ⊥
Regroups (swap a v) = T (edged a) × IsText v
Regroups (leave r a) = T (edged a) × IsText a
Regroups (stop w) = ⊥

no_edge : (a s zs : List ℕ) (z : ℕ) → T (edged a) → T (is_tail z) → a ++ s ≡ z ∷ zs → ⊥
no_edge [] s zs z t y e = t
no_edge (x ∷ a) s zs z t y e =
    not-tail x (and_left (is_ascii x) (ends_ascii (x ∷ a)) t) (subst (λ (n : ℕ). T (is_tail n)) (sym (same_head x z (a ++ s) zs e)) y)

edge-end : (a : List ℕ) → T (edged a) → T (ends_ascii a)
edge-end [] t = absurd t
edge-end (x ∷ a) t = and_right (is_ascii x) (ends_ascii (x ∷ a)) t

-- Where bytes a, which begin and end with ASCII, and what the moves ms take are the rest of a character and a text, that rest is empty; and a text v and
-- what ms give of what is left are a text.
edged-text : (a v : List ℕ) (ms : List Move) (ys : List ℕ) (cs : List (List ℕ)) → T (edged a) → IsText v → T (all is_tail ys) → All IsChar cs → a ++ taken ms ≡ ys ++ join cs
    → ((ds : List (List ℕ)) → All IsChar ds → taken ms ≡ join ds → (w : List ℕ) × IsText w × (result ms ≡ w))
    → (w : List ℕ) × IsText w × (v ++ result ms ≡ ys ++ w)
edged-text a v ms (z ∷ zs) cs l u y h e rest = absurd (no_edge a (taken ms) (zs ++ join cs) z l (and_left (is_tail z) (all is_tail zs) y) e)
edged-text a v ms [] cs l u y h e rest =
    let (ds, i, q) = after a (taken ms) [] cs (edge-end a l) tt h e in
    let (w, t, r) = rest ds i q in
    (v ++ w, text-append v w u t, ap (λ (l : List ℕ). v ++ l) r)

-- Where the rest ys of a character and a text are taken, that rest and a text are given.
regroup : (ms : List Move) (ys : List ℕ) (cs : List (List ℕ)) → All Regroups ms → T (all is_tail ys) → All IsChar cs → taken ms ≡ ys ++ join cs
    → (w : List ℕ) × IsText w × (result ms ≡ ys ++ w)
regroup [] [] cs g y h e = ([], ([], tt, refl), refl)
regroup [] (z ∷ zs) cs g y h e = absurd (no-cons z (zs ++ join cs) (sym e))
regroup (keep [] ∷ ms) ys cs g y h e = absurd g.0
regroup (keep (x ∷ x' ∷ a) ∷ ms) ys cs g y h e = absurd g.0
regroup (keep (x ∷ []) ∷ ms) (z ∷ zs) cs g y h e =
    let (w, t, q) = regroup ms zs cs g.1 (and_right (is_tail z) (all is_tail zs) y) h (same_rest x z (taken ms) (zs ++ join cs) e) in
    (w, t, λ i. same_head x z (taken ms) (zs ++ join cs) e i ∷ q i)
regroup (keep (x ∷ []) ∷ ms) [] [] g y h e = absurd (no-cons x (taken ms) e)
regroup (keep (x ∷ []) ∷ ms) [] ([] ∷ cs) g y h e = absurd (no_char h.0)
regroup (keep (x ∷ []) ∷ ms) [] ((z ∷ zs) ∷ cs) g y h e =
    let (w, t, q) = regroup ms zs cs g.1 (char-tails z zs h.0) h.1 (same_rest x z (taken ms) (zs ++ join cs) e) in
    ((z ∷ zs) ++ w, text-append (z ∷ zs) w (char-text (z ∷ zs) h.0) t, λ i. same_head x z (taken ms) (zs ++ join cs) e i ∷ q i)
regroup (swap a v ∷ ms) ys cs g y h e = edged-text a v ms ys cs g.0.0 g.0.1 y h e (λ ds i q. regroup ms [] ds g.1 tt i q)
regroup (leave r a ∷ ms) ys cs g y h e = edged-text a a ms ys cs g.0.0 g.0.1 y h e (λ ds i q. regroup ms [] ds g.1 tt i q)
regroup (stop w ∷ ms) ys cs g y h e = absurd g.0

-- What such moves give of a text is a text.
pub moves-text : (ms : List Move) → All Regroups ms → IsText (taken ms) → IsText (result ms)
moves-text ms g t =
    let (cs, h, e) = t in
    let (w, u, q) = regroup ms [] cs g tt h e in
    subst IsText (sym q) u

-- ---- what a reference or an escape stands for

scalar-text : (n : ℕ) → T (scalar n) → IsText (utf8 n)
scalar-text n t = char-text (utf8 n) (utf8-char n t)

decode-char : (n : ℕ) (v : List ℕ) → decode_char n ≡ some v → IsText v
decode-char n v e = go (scalar n && (leb 32 n || one_of (9 ∷ 10 ∷ 12 ∷ 13 ∷ []) n)) refl e
  where
    go : (b : Bool) → scalar n && (leb 32 n || one_of (9 ∷ 10 ∷ 12 ∷ 13 ∷ []) n) ≡ b → cond b (some (utf8 n)) none ≡ some v → IsText v
    go true f e =
        subst IsText (some-injective (utf8 n) v e) (scalar-text n (and_left (scalar n) (leb 32 n || one_of (9 ∷ 10 ∷ 12 ∷ 13 ∷ []) n) (subst T (sym f) tt)))
    go false f e = absurd (none-ne-some v e)

pub browse-char : (n : ℕ) (v : List ℕ) → browse_char n ≡ some v → IsText v
browse-char n v e = subst IsText (some-injective (cond (scalar n && not (eqb n 0)) (utf8 (stands_for renumbering n)) substitute) v e) (go (scalar n && not (eqb n 0)) refl)
  where
    go : (b : Bool) → scalar n && not (eqb n 0) ≡ b → IsText (cond b (utf8 (stands_for renumbering n)) substitute)
    go true f = scalar-text (stands_for renumbering n) (stands-scalar n (and_left (scalar n) (not (eqb n 0)) (subst T (sym f) tt)))
    go false f = char-text substitute (is-char substitute tt)

meaning-text : (char : ℕ → Option (List ℕ)) → ((n : ℕ) (v : List ℕ) → char n ≡ some v → IsText v) → (body v : List ℕ) → meaning char body ≡ some v → IsText v
meaning-text char text body v e = go (number_of body) e
  where
    go : (o : Option ℕ) → elim o [ some n ↦ char n | none ↦ lookup names body ] ≡ some v → IsText v
    go (some n) e = text n v e
    go none e = (valid-iff v).1 (value-valid body v e)

reference-regroups : (char : ℕ → Option (List ℕ)) → ((n : ℕ) (v : List ℕ) → char n ≡ some v → IsText v)
    → (body v : List ℕ) → meaning char body ≡ some v → Regroups (swap (ascii "&" ++ body ++ ascii ";") v)
reference-regroups char text body v e = (ends-append (38 ∷ body) 59 tt, meaning-text char text body v e)

left-regroups : (w : Reason) → Regroups (leave w (ascii "&"))
left-regroups w = (tt, char-text (ascii "&") (is-char (ascii "&") tt))

-- A row's value begins and ends with ASCII, and its key is a character.
abbrev row_edged : Row → Bool
row_edged e = edged (value e) && is_char (key e)

row-regroups : (c : Context) (row : Row) → In row (rows c) → Regroups (swap (value row) (key row))
row-regroups c row i =
    let t = all_in row_edged (rows c) (every (λ (c : Context). all row_edged (rows c)) tt c) row i in
    (and_left (edged (value row)) (is_char (key row)) t, char-text (key row) (is-char (key row) (and_right (edged (value row)) (is_char (key row)) t)))

bang : Regroups (swap (ascii "\\!") (ascii "!"))
bang = (tt, char-text (ascii "!") (is-char (ascii "!") tt))

slash : Regroups (swap (ascii "\\/") (ascii "/"))
slash = (tt, char-text (ascii "/") (is-char (ascii "/") tt))

-- The escape of a number begins and ends with ASCII, and so does that of a pair.
spelled-edged : (n : ℕ) (v : List ℕ) → Spells n v → T (edged v)
spelled-edged n v s = let (a, b, c, d, e, small, low) = spelled-digits n v s in subst (λ (l : List ℕ). T (edged l)) (sym e) (subst T (sym (lt-ltb d 0x80 low)) tt)

pair-edged : (h l : ℕ) (a b : List ℕ) → Spells h a → Spells l b → T (edged (a ++ b))
pair-edged h l a b s t =
    let (p, q, r, u, e, small, low) = spelled-digits h a s in
    let (p', q', r', u', e', small', low') = spelled-digits l b t in
    subst (λ (x : List ℕ). T (edged x)) (sym (λ i. e i ++ e' i)) (subst T (sym (lt-ltb u' 0x80 low')) tt)

-- Its number is that of a character.
single-scalar : (n : ℕ) (v : List ℕ) → Spells n v → (T (inside highs n) → ⊥) → (T (inside lows n) → ⊥) → T (scalar n)
single-scalar n v s h l =
    let (a, b, c, d, e, small, low) = spelled-digits n v s in
    and_both (leb n 0x10FFFF) (not (inside (0xD800, 0xDFFF) n)) (le→leb n 0x10FFFF (omega arith)) (not-inside (inside (0xD800, 0xDFFF) n) refl)
  where
    within : (lo hi : ℕ) → lo ≤ n → n ≤ hi → T (inside (lo, hi) n)
    within lo hi a b = and_both (leb lo n) (leb n hi) (le→leb lo n a) (le→leb n hi b)

    half : (x : Bool) → leb n 0xDBFF ≡ x → 0xD800 ≤ n → n ≤ 0xDFFF → ⊥
    half true e a b = h (within 0xD800 0xDBFF a (leb→le n 0xDBFF (subst T (sym e) tt)))
    half false e a b = l (within 0xDC00 0xDFFF (leb-false n 0xDBFF e) b)

    not-inside : (x : Bool) → inside (0xD800, 0xDFFF) n ≡ x → T (not x)
    not-inside false e = tt
    not-inside true e =
        let t = subst T (sym e) tt in
        half (leb n 0xDBFF) refl (leb→le 0xD800 n (and_left (leb 0xD800 n) (leb n 0xDFFF) t)) (leb→le n 0xDFFF (and_right (leb 0xD800 n) (leb n 0xDFFF) t))

pair-scalar : (h l : ℕ) → T (inside highs h) → T (inside lows l) → T (scalar (pair_of h l))
pair-scalar h l a b =
    let hi = leb→le h 0xDBFF (and_right (leb 0xD800 h) (leb h 0xDBFF) a) in
    let lo = leb→le l 0xDFFF (and_right (leb 0xDC00 l) (leb l 0xDFFF) b) in
    and_both (leb (pair_of h l) 0x10FFFF) (not (inside (0xD800, 0xDFFF) (pair_of h l))) (le→leb (pair_of h l) 0x10FFFF (most h l hi lo)) (beyond (inside (0xD800, 0xDFFF) (pair_of h l)) refl)
  where
    most : (h l : ℕ) → h ≤ 0xDBFF → l ≤ 0xDFFF → pair_of h l ≤ 0x10FFFF
    most h l a b = omega arith

    above : (h l : ℕ) → pair_of h l ≤ 0xDFFF → ⊥
    above h l a = omega arith

    beyond : (x : Bool) → inside (0xD800, 0xDFFF) (pair_of h l) ≡ x → T (not x)
    beyond false e = tt
    beyond true e = absurd (above h l (leb→le (pair_of h l) 0xDFFF (and_right (leb 0xD800 (pair_of h l)) (leb (pair_of h l) 0xDFFF) (subst T (sym e) tt))))

-- An element of a JSON string.
element-regroups : (m : Move) → IsElement m → Regroups m
element-regroups (keep a) (b, e, h) = subst (λ (l : List ℕ). Regroups (keep l)) (sym e) tt
element-regroups (swap v k) (inl i) =
    let t = all_in row_edged short_escapes tt (k, v) i in
    (and_left (edged v) (is_char k) t, char-text k (is-char k (and_right (edged v) (is_char k) t)))
element-regroups (swap v k) (inr (inl u)) =
    let (n, s, h, l, e) = u in
    (spelled-edged n v s, subst IsText (sym e) (scalar-text n (single-scalar n v s h l)))
element-regroups (swap v k) (inr (inr u)) =
    let (h, l, a, b, s, t, ih, il, e, q) = u in
    (subst (λ (x : List ℕ). T (edged x)) (sym e) (pair-edged h l a b s t), subst IsText (sym q) (scalar-text (pair_of h l) (pair-scalar h l ih il)))
element-regroups (leave r a) i = absurd i
element-regroups (stop w) i = absurd i

-- ---- the operations

decode-regroups : (c : Context) (p : ℕ) (s : List ℕ) → Fair Regroups (decode_step c p s) s
unfolding decode_step reference_step
decode-regroups (InHtml h) = reference-fair Regroups (λ x. tt) left-regroups decode_char (reference-regroups decode_char decode-char)
decode-regroups (InScript q) = escape-fair Regroups (λ x. tt) bang slash (InScript q) (row-regroups (InScript q)) (ascii "script")
decode-regroups (InStyle q) = escape-fair Regroups (λ x. tt) bang slash (InStyle q) (row-regroups (InStyle q)) (ascii "style")
decode-regroups InAscii = reference-fair Regroups (λ x. tt) left-regroups decode_char (reference-regroups decode_char decode-char)
decode-regroups InJson = λ p s. fair-map element-regroups (json_step p s) s (json-fair p s)

pub raw-regroups : (p : ℕ) (s : List ℕ) → Fair Regroups (raw_step p s) s
unfolding raw_step
raw-regroups p [] = tt
raw-regroups p (b ∷ s) = go (eqb b 60 && parted s) refl
  where
    go : (t : Bool) → eqb b 60 && parted s ≡ t → Fair Regroups (cond t (swap (b ∷ []) (b ∷ ascii "\\")) (keep (b ∷ []))) (b ∷ s)
    go true e =
        let less : b ≡ 60 = eqb→eq b 60 (and_left (eqb b 60) (parted s) (subst T (sym e) tt)) in
        (subst (λ (b : ℕ). Regroups (swap (b ∷ []) (b ∷ ascii "\\"))) (sym less) (tt, valid-less), s, refl, 0, refl)
      where
        valid-less : IsText (ascii "<\\")
        valid-less = text-append (ascii "<") (ascii "\\") (char-text (ascii "<") (is-char (ascii "<") tt)) (char-text (ascii "\\") (is-char (ascii "\\") tt))
    go false e = (tt, s, refl, 0, refl)

-- What decode gives of a valid text that it takes as a whole is valid UTF-8.
pub decode-text : (c : Context) (s : List ℕ) → IsText s → taken (through (decode_step c) s) ≡ s → IsText (decode_of c s)
decode-text c s t w = moves-text (through (decode_step c) s) (moves-fair Regroups (decode_step c) (decode-regroups c) 0 0 s).0 (subst IsText (sym w) t)

-- What encode writes in script_raw is.
pub raw-text : (s : List ℕ) → IsText s → IsText (raw_of s)
raw-text s t = moves-text (through raw_step s) (moves-fair Regroups raw_step raw-regroups 0 0 s).0 (subst IsText (sym (raw-whole s)) t)
