-- What ascii_quoted writes for a character above 7F is a reference that decode takes for exactly that character, whatever follows: its name is in the
-- table, which looks it up, or its number is read from its digits. It is ASCII, and longer than the character, at most 22 bytes for 3.
-- Assumes nothing.
use mathlib.Core.Bool.{Bool, true, false, not, ◌&&◌, ◌||◌, cond}
use mathlib.Core.Logic.{◌⊎◌, inl, inr}
use mathlib.Core.Option.{Option, none, some, some-injective, none-ne-some}
use mathlib.Core.Path.{◌≡◌, refl, sym, ap, ◌∙◌, subst}
use mathlib.Core.List.{List, [], ◌∷◌, ◌++◌, append_assoc}
use Prim.Native.Nat.{ℕ, zero, suc, ◌+◌, ◌*◌, ◌/◌, ◌%◌, ◌≤◌, ◌<◌}
use native.Mathlib.Omega.{arith}
use borrow.Author.Tests.{lt-ltb, ltb-true, ltb-false, le-leb}
use lib.Dec.{T, eqb, ltb, leb, eqb→eq, leb→le, ltb→lt}
use lib.ListN.{length, length-append}
use Rattle.rules.specs.Bytes.{ascii, In, all, any, fits, same_bytes, Range, inside, one_of}
use Rattle.rules.specs.Moves.{swap}
use Rattle.rules.specs.Utf8.{sequences, sequence_at, IsChar, utf8, code_of}
use Rattle.rules.specs.Tables.{Row, key, value, hex_digit, numeral, letter_or_digit}
use Rattle.rules.specs.Names.{names, below as comes_before}
use Rattle.rules.specs.References.{hex_digit_at, digits, number, number_of, scalar, decode_char, lookup, meaning, refer, at_amp, body_of, reference_step}
use Rattle.rules.specs.Reading.{exactly, stands_in, reference_back, rule_back}
use Rattle.rules.specs.Ascii.{is_before, name_of, is_high, body_for, refer_to, by_rule}
use Rattle.rules.specs.declared.Context.{Context}
use Rattle.rules.specs.declared.Context.TheVariants.{InHtml, InScript, InStyle, InJson, InAscii}
use Rattle.rules.proofs.Tests.{and_left, and_right, and_both, or_cases, or_left, is_false, all_in, any-in, first-sound, same_bytes_lem}
use Rattle.rules.proofs.CharNumbers.{utf8-code, code-scalar, code-high}
use Rattle.rules.proofs.Below.{below}
use Rattle.rules.proofs.Order.{lookup-in, same_self}
use Rattle.rules.proofs.Search.{body-some}
use Rattle.rules.proofs.Identifiers.{name-wordy}
use Rattle.rules.proofs.CharNames.{name-iff, before-says}
use Rattle.rules.proofs.Whole.{body-split}

-- ---- characters above 7F

pub high-char : (a : List ℕ) → T (is_high a) → IsChar a × (2 ≤ length a)
high-char a t = go (sequence_at a) refl t
  where
    go : (o : Option (List Range)) → sequence_at a ≡ o → T (elim o [ none ↦ false | some q ↦ eqb (length a) (length q) && ltb 1 (length q) ]) → IsChar a × (2 ≤ length a)
    go none e t = absurd t
    go (some q) e t =
        let (i, h) = first-sound (fits inside) sequences a q e in
        let l : length a ≡ length q = eqb→eq (length a) (length q) (and_left (eqb (length a) (length q)) (ltb 1 (length q)) t) in
        let m : 1 < length q = ltb→lt 1 (length q) (and_right (eqb (length a) (length q)) (ltb 1 (length q)) t) in
        ((q, i, h, l), omega (arith, l, m))

-- What the rule writes something for is such a character, in ascii_quoted.
pub rule-high : (k v : List ℕ) → by_rule InAscii k ≡ some v → T (is_high k) × (refer_to k ≡ v)
rule-high k v e = go (is_high k) refl e
  where
    go : (b : Bool) → is_high k ≡ b → cond b (some (refer_to k)) none ≡ some v → T (is_high k) × (refer_to k ≡ v)
    go true p q = (subst T (sym p) tt, some-injective (refer_to k) v q)
    go false p q = absurd (none-ne-some v q)

high-rule : (k : List ℕ) → T (is_high k) → by_rule InAscii k ≡ some (refer_to k)
high-rule k t = go (is_high k) t
  where
    go : (b : Bool) → T b → cond b (some (refer_to k)) none ≡ some (refer_to k)
    go true t = refl
    go false t = absurd t

-- ---- hex digits

abbrev reads_back : ℕ → Bool
reads_back j = elim (hex_digit_at (hex_digit j)) [ none ↦ false | some x ↦ eqb x j ] && letter_or_digit (hex_digit j)

digit-facts : (j : ℕ) → j < 16 → T (reads_back j)
digit-facts = below reads_back 16 tt

digit-back : (j : ℕ) → j < 16 → hex_digit_at (hex_digit j) ≡ some j
digit-back j h = go (hex_digit_at (hex_digit j)) (and_left (elim (hex_digit_at (hex_digit j)) [ none ↦ false | some x ↦ eqb x j ]) (letter_or_digit (hex_digit j)) (digit-facts j h))
  where
    go : (o : Option ℕ) → T (elim o [ none ↦ false | some x ↦ eqb x j ]) → o ≡ some j
    go none t = absurd t
    go (some x) t = ap some (eqb→eq x j t)

digit-word : (j : ℕ) → j < 16 → T (letter_or_digit (hex_digit j))
digit-word j h = and_right (elim (hex_digit_at (hex_digit j)) [ none ↦ false | some x ↦ eqb x j ]) (letter_or_digit (hex_digit j)) (digit-facts j h)

rest_below : (n : ℕ) → n % 16 < 16
rest_below n = omega arith

abbrev hex_of : ℕ → ℕ → List ℕ
hex_of k n = numeral hex_digit 16 k n

pub all_append : (f : ℕ → Bool) (s r : List ℕ) → T (all f s) → T (all f r) → T (all f (s ++ r))
all_append f [] r t u = u
all_append f (x ∷ s) r t u = and_both (f x) (all f (s ++ r)) (and_left (f x) (all f s) t) (all_append f s r (and_right (f x) (all f s) t) u)

hex-word : (k n : ℕ) → T (all letter_or_digit (hex_of k n))
hex-word zero n = tt
hex-word (suc k) n = go (ltb n 16) refl (hex-word k (n / 16))
  where
    go : (b : Bool) → ltb n 16 ≡ b → T (all letter_or_digit (hex_of k (n / 16)))
        → T (all letter_or_digit (cond b (hex_digit n ∷ []) (hex_of k (n / 16) ++ hex_digit (n % 16) ∷ [])))
    go true e ih = and_both (letter_or_digit (hex_digit n)) true (digit-word n (ltb-true n 16 e)) tt
    go false e ih =
        all_append letter_or_digit (hex_of k (n / 16)) (hex_digit (n % 16) ∷ []) ih (and_both (letter_or_digit (hex_digit (n % 16))) true (digit-word (n % 16) (rest_below n)) tt)

-- At most k digits, and at least one.
hex-most : (k n : ℕ) → length (hex_of k n) ≤ k
hex-most zero n = omega arith
hex-most (suc k) n = go (ltb n 16) (hex-most k (n / 16))
  where
    go : (b : Bool) → length (hex_of k (n / 16)) ≤ k → length (cond b (hex_digit n ∷ []) (hex_of k (n / 16) ++ hex_digit (n % 16) ∷ [])) ≤ suc k
    go true ih = omega arith
    go false ih = omega (arith, length-append (hex_of k (n / 16)) (hex_digit (n % 16) ∷ []))

hex-least : (k n : ℕ) → 1 ≤ length (hex_of (suc k) n)
hex-least k n = go (ltb n 16)
  where
    go : (b : Bool) → 1 ≤ length (cond b (hex_digit n ∷ []) (hex_of k (n / 16) ++ hex_digit (n % 16) ∷ []))
    go true = omega arith
    go false = omega (arith, length-append (hex_of k (n / 16)) (hex_digit (n % 16) ∷ []))

-- One digit more at the end.
digits_append : (m x j b : ℕ) (s : List ℕ) → digits hex_digit_at 16 m s ≡ some x → hex_digit_at b ≡ some j → digits hex_digit_at 16 m (s ++ b ∷ []) ≡ some (x * 16 + j)
digits_append m x j b [] e f =
    ap (λ (o : Option ℕ). elim o [ none ↦ none | some k ↦ some (m * 16 + k) ]) f ∙ ap (λ (n : ℕ). some (n * 16 + j)) (some-injective m x e)
digits_append m x j b (y ∷ s) e f = go (hex_digit_at y) (λ k e. digits_append (m * 16 + k) x j b s e f) e
  where
    go : (o : Option ℕ) → ((k : ℕ) → digits hex_digit_at 16 (m * 16 + k) s ≡ some x → digits hex_digit_at 16 (m * 16 + k) (s ++ b ∷ []) ≡ some (x * 16 + j)) → ◌≡◌ {A = Option ℕ} (elim o [ none ↦ none | some k ↦ digits hex_digit_at 16 (m * 16 + k) s ]) (some x)
        → ◌≡◌ {A = Option ℕ} (elim o [ none ↦ none | some k ↦ digits hex_digit_at 16 (m * 16 + k) (s ++ b ∷ []) ]) (some (x * 16 + j))
    go none ih e = absurd (none-ne-some x e)
    go (some k) ih e = ih k e

-- Sixteen to the power k.
abbrev bound : ℕ → ℕ
bound zero = 1
bound (suc k) = 16 * bound k

one-digit : (n : ℕ) → n < 16 → digits hex_digit_at 16 0 (hex_digit n ∷ []) ≡ some n
one-digit n l =
    ap (λ (o : Option ℕ). elim o [ none ↦ none | some k ↦ some (0 * 16 + k) ]) (digit-back n l) ∙ ap some (let e : 0 * 16 + n ≡ n = omega arith in e)

hex-digits : (k n : ℕ) → n < bound (suc k) → digits hex_digit_at 16 0 (hex_of (suc k) n) ≡ some n
hex-digits zero n h = go (ltb n 16) refl
  where
    go : (b : Bool) → ltb n 16 ≡ b → digits hex_digit_at 16 0 (cond b (hex_digit n ∷ []) (hex_digit (n % 16) ∷ [])) ≡ some n
    go true e = one-digit n (ltb-true n 16 e)
    go false e = absurd (let l = ltb-false n 16 e in let f : ⊥ = omega arith in f)
hex-digits (suc k) n h = go (ltb n 16) refl (hex-digits k (n / 16) (smaller (bound (suc k)) h))
  where
    smaller : (b : ℕ) → n < 16 * b → n / 16 < b
    smaller b h = omega arith

    go : (b : Bool) → ltb n 16 ≡ b → digits hex_digit_at 16 0 (hex_of (suc k) (n / 16)) ≡ some (n / 16)
        → digits hex_digit_at 16 0 (cond b (hex_digit n ∷ []) (hex_of (suc k) (n / 16) ++ hex_digit (n % 16) ∷ [])) ≡ some n
    go true e ih = one-digit n (ltb-true n 16 e)
    go false e ih =
        digits_append 0 (n / 16) (n % 16) (hex_digit (n % 16)) (hex_of (suc k) (n / 16)) ih (digit-back (n % 16) (rest_below n))
        ∙ ap some (let e : n / 16 * 16 + n % 16 ≡ n = omega arith in e)

-- The digits of a number below 16^6 are read as that number.
hex-read : (n : ℕ) → n ≤ 0x10FFFF → number hex_digit_at 16 (hex_of 6 n) ≡ some n
hex-read n h = some-digits (hex_of 6 n) (hex-least 5 n) ∙ hex-digits 5 n (omega arith)
  where
    some-digits : (s : List ℕ) → 1 ≤ length s → number hex_digit_at 16 s ≡ digits hex_digit_at 16 0 s
    some-digits [] h = absurd (let f : ⊥ = omega arith in f)
    some-digits (b ∷ s) h = refl

-- ---- the body

-- A byte of a body: a letter, a digit or `#`.
abbrev pub is_bodily : ℕ → Bool
is_bodily b = letter_or_digit b || eqb b 35

bodily-word : (s : List ℕ) → T (all letter_or_digit s) → T (all is_bodily s)
bodily-word [] t = tt
bodily-word (b ∷ s) t =
    and_both (is_bodily b) (all is_bodily s) (or_left (letter_or_digit b) (eqb b 35) (and_left (letter_or_digit b) (all letter_or_digit s) t))
    (bodily-word s (and_right (letter_or_digit b) (all letter_or_digit s) t))

-- What holds of the name and of the digits holds of the body.
by-body : (P : List ℕ → Type 0) (a : List ℕ) → ((n : List ℕ) → name_of a ≡ some n → P n) → (name_of a ≡ none → P (ascii "#x" ++ hex_of 6 (code_of a))) → P (body_for a)
by-body P a named numbered = go (name_of a) refl
  where
    go : (o : Option (List ℕ)) → name_of a ≡ o → P (elim o [ some n ↦ n | none ↦ ascii "#x" ++ hex_of 6 (code_of a) ])
    go none e = numbered e
    go (some n) e = named n e

name-word : (a n : List ℕ) → name_of a ≡ some n → T (all letter_or_digit n)
name-word a n e = name-wordy (n, a) ((name-iff a n).0 e).0

pub body-bodily : (a : List ℕ) → T (all is_bodily (body_for a))
body-bodily a = by-body (λ (b : List ℕ). T (all is_bodily b)) a (λ n e. bodily-word n (name-word a n e)) (λ e. bodily-word (hex_of 6 (code_of a)) (hex-word 6 (code_of a)))

pub body-ends : (a r : List ℕ) → body_of (body_for a ++ 59 ∷ r) ≡ some (body_for a)
body-ends a r =
    body-some (body_for a) r (λ x i e. subst (λ (b : ℕ). T (is_bodily b)) (eqb→eq x 38 e) (all_in is_bodily (body_for a) (body-bodily a) x i))
    (λ x i e. subst (λ (b : ℕ). T (is_bodily b)) (eqb→eq x 59 e) (all_in is_bodily (body_for a) (body-bodily a) x i))

-- A word is no number.
word_number : (n : List ℕ) → T (all letter_or_digit n) → number_of n ≡ none
word_number [] t = refl
word_number (x ∷ s) t =
    let e : eqb 35 x ≡ false = is_false (eqb 35 x) (λ h. subst (λ (b : ℕ). T (letter_or_digit b)) (sym (eqb→eq 35 x h)) (and_left (letter_or_digit x) (all letter_or_digit s) t)) in
    rw (e) refl

-- A number of a character above 7F is taken by decode.
decode-high : (n : ℕ) → T (scalar n) → 0x80 ≤ n → decode_char n ≡ some (utf8 n)
decode-high n t h = go (scalar n) t
  where
    go : (b : Bool) → T b → cond (b && (leb 32 n || one_of (9 ∷ 10 ∷ 12 ∷ 13 ∷ []) n)) (some (utf8 n)) none ≡ some (utf8 n)
    go true t = rw (le-leb 32 n (omega arith)) refl
    go false t = absurd t

-- What the body stands for, for any reader of numbers: the character itself where it has a name, and else what is read for its number.
pub body-means : (char : ℕ → Option (List ℕ)) (a b : List ℕ) → T (is_high a) → ((n : List ℕ) → name_of a ≡ some n → a ≡ b) → (name_of a ≡ none → char (code_of a) ≡ some b)
    → meaning char (body_for a) ≡ some b
body-means char a b t same takes = by-body (λ (body : List ℕ). meaning char body ≡ some b) a named numbered
  where
    named : (n : List ℕ) → name_of a ≡ some n → meaning char n ≡ some b
    named n e =
        ap (λ (o : Option ℕ). elim o [ some m ↦ char m | none ↦ lookup names n ]) (word_number n (name-word a n e))
        ∙ lookup-in (n, a) ((name-iff a n).0 e).0
        ∙ ap some (same n e)

    top : code_of a ≤ 0x10FFFF
    top = leb→le (code_of a) 0x10FFFF (and_left (leb (code_of a) 0x10FFFF) (not (inside (0xD800, 0xDFFF) (code_of a))) (code-scalar a (high-char a t).0))

    numbered : name_of a ≡ none → meaning char (ascii "#x" ++ hex_of 6 (code_of a)) ≡ some b
    numbered e =
        ap (λ (o : Option ℕ). elim o [ some m ↦ char m | none ↦ lookup names (ascii "#x" ++ hex_of 6 (code_of a)) ]) (hex-read (code_of a) top) ∙ takes e

pub body-decoded : (a : List ℕ) → T (is_high a) → meaning decode_char (body_for a) ≡ some a
body-decoded a t =
    let (c, l) = high-char a t in
    body-means decode_char a a t (λ n e. refl) (λ e. decode-high (code_of a) (code-scalar a c) (code-high a c l) ∙ ap some (utf8-code a c))

-- ---- what is written

pub written-split : (a r : List ℕ) → refer_to a ++ r ≡ 38 ∷ (body_for a ++ 59 ∷ r)
written-split a r = ap (λ (s : List ℕ). 38 ∷ s) (append_assoc (body_for a) (ascii ";") r)

-- It is a reference to the character: the one law about named writing.
pub rule-refers : (k v : List ℕ) → by_rule InAscii k ≡ some v → (p : ℕ) (r : List ℕ) → reference_step p (v ++ r) ≡ swap v k
unfolding reference_step
rule-refers k v e p r =
    let (t, w) = rule-high k v e in
    subst (λ (v : List ℕ). reference_step p (v ++ r) ≡ swap v k) w
    (ap (reference_step p) (written-split k r) ∙ ap (at_amp decode_char) (body-ends k r) ∙ ap (refer (body_for k)) (body-decoded k t))

-- The strict reader finds the character and what is written for it,
pub rule-back : (k v : List ℕ) → by_rule InAscii k ≡ some v → (r : List ℕ) → rule_back InAscii (v ++ r) ≡ some (k, v)
rule-back k v e r =
    let (t, w) = rule-high k v e in
    subst (λ (v : List ℕ). rule_back InAscii (v ++ r) ≡ some (k, v)) w
    (ap (reference_back InAscii) (written-split k r)
    ∙ ap (λ (o : Option (List ℕ)). exactly InAscii o (stands_in o)) (body-ends k r)
    ∙ ap (exactly InAscii (some (body_for k))) (body-decoded k t)
    ∙ ap (λ (o : Option (List ℕ)). elim o [ none ↦ none | some v ↦ cond (same_bytes v (refer_to k)) (some (k, v)) none ]) (high-rule k t)
    ∙ ap (λ (b : Bool). cond b (some (k, refer_to k)) none) (same_self (refer_to k)))

-- and nothing else.
pub back-rule : (s : List ℕ) (row : Row) → rule_back InAscii s ≡ some row → (by_rule InAscii (key row) ≡ some (value row)) × (r : List ℕ) × (s ≡ value row ++ r)
back-rule [] row e = absurd (none-ne-some row e)
back-rule (b ∷ s) row e = amp (eqb b 38) refl (body_of s) refl e
  where
    Found : Type 0
    Found = (by_rule InAscii (key row) ≡ some (value row)) × (r : List ℕ) × (b ∷ s ≡ value row ++ r)

    same : (body k v : List ℕ) → b ≡ 38 → body_of s ≡ some body → by_rule InAscii k ≡ some v → (t : Bool) → same_bytes v (ascii "&" ++ body ++ ascii ";") ≡ t
        → cond t (some (k, v)) none ≡ some row → Found
    same body k v h i j true f g =
        let w : (k, v) ≡ row = some-injective (k, v) row g in
        let u : v ≡ 38 ∷ (body ++ ascii ";") = same_bytes_lem v (ascii "&" ++ body ++ ascii ";") (subst T (sym f) tt) in
        let (r, q) = body-split s body i in
        subst (λ (row : Row). (by_rule InAscii (key row) ≡ some (value row)) × (r : List ℕ) × (b ∷ s ≡ value row ++ r)) w
        (j, r, (λ i. h i ∷ q i) ∙ ap (λ (s : List ℕ). 38 ∷ s) (sym (append_assoc body (ascii ";") r)) ∙ ap (λ (v : List ℕ). v ++ r) (sym u))
    same body k v h i j false f g = absurd (none-ne-some row g)

    written : (body k : List ℕ) → b ≡ 38 → body_of s ≡ some body → (o : Option (List ℕ)) → by_rule InAscii k ≡ o
        → ◌≡◌ {A = Option Row} (elim o [ none ↦ none | some v ↦ cond (same_bytes v (ascii "&" ++ body ++ ascii ";")) (some (k, v)) none ]) (some row) → Found
    written body k h i none j f = absurd (none-ne-some row f)
    written body k h i (some v) j f = same body k v h i j (same_bytes v (ascii "&" ++ body ++ ascii ";")) refl f

    meant : (body : List ℕ) → b ≡ 38 → body_of s ≡ some body → (o : Option (List ℕ)) → exactly InAscii (some body) o ≡ some row → Found
    meant body h i none f = absurd (none-ne-some row f)
    meant body h i (some k) f = written body k h i (by_rule InAscii k) refl f

    bodied : b ≡ 38 → (o : Option (List ℕ)) → body_of s ≡ o → exactly InAscii o (stands_in o) ≡ some row → Found
    bodied h none i f = absurd (none-ne-some row f)
    bodied h (some body) i f = meant body h i (meaning decode_char body) f

    amp : (t : Bool) → eqb b 38 ≡ t → (o : Option (List ℕ)) → body_of s ≡ o → cond t (exactly InAscii (body_of s) (stands_in (body_of s))) none ≡ some row → Found
    amp true h o i f = bodied (eqb→eq b 38 (subst T (sym h) tt)) (body_of s) refl f
    amp false h o i f = absurd (none-ne-some row f)

-- ---- of every context

-- What a rule writes something for is a character of two bytes or more.
pub rule-char : (c : Context) (k v : List ℕ) → by_rule c k ≡ some v → IsChar k × (2 ≤ length k)
rule-char InAscii k v e = high-char k (rule-high k v e).0
rule-char (InHtml h) k v e = absurd (none-ne-some v e)
rule-char (InScript q) k v e = absurd (none-ne-some v e)
rule-char (InStyle q) k v e = absurd (none-ne-some v e)
rule-char InJson k v e = absurd (none-ne-some v e)

-- Bytes that are not a whole character have none.
pub rule-empty : (c : Context) → by_rule c [] ≡ none
rule-empty InAscii = refl
rule-empty (InHtml h) = refl
rule-empty (InScript q) = refl
rule-empty (InStyle q) = refl
rule-empty InJson = refl

-- `#` to `z`: all that a reference is made of.
abbrev pub is_printed : ℕ → Bool
is_printed b = inside (35, 122) b

bodily-printed : (b : ℕ) → T (is_bodily b) → T (is_printed b)
bodily-printed b t = go (or_cases (letter_or_digit b) (eqb b 35) t)
  where
    within : (a z : ℕ) → 35 ≤ a → z ≤ 122 → T (inside (a, z) b) → T (is_printed b)
    within a z h k t =
        let l = leb→le a b (and_left (leb a b) (leb b z) t) in
        let m = leb→le b z (and_right (leb a b) (leb b z) t) in
        rw (le-leb 35 b (omega arith), le-leb b 122 (omega arith)) tt

    word : T (inside (48, 57) b || inside (65, 90) b) ⊎ T (inside (97, 122) b) → T (is_printed b)
    word (inl t) = upper (or_cases (inside (48, 57) b) (inside (65, 90) b) t)
      where
        upper : T (inside (48, 57) b) ⊎ T (inside (65, 90) b) → T (is_printed b)
        upper (inl t) = within 48 57 (omega arith) (omega arith) t
        upper (inr t) = within 65 90 (omega arith) (omega arith) t
    word (inr t) = within 97 122 (omega arith) (omega arith) t

    go : T (letter_or_digit b) ⊎ T (eqb b 35) → T (is_printed b)
    go (inl t) = word (or_cases (inside (48, 57) b || inside (65, 90) b) (inside (97, 122) b) t)
    go (inr t) = subst (λ (x : ℕ). T (is_printed x)) (sym (eqb→eq b 35 t)) tt

pub all_weaker : (f g : ℕ → Bool) → ((b : ℕ) → T (f b) → T (g b)) → (s : List ℕ) → T (all f s) → T (all g s)
all_weaker f g h [] t = tt
all_weaker f g h (b ∷ s) t = and_both (g b) (all g s) (h b (and_left (f b) (all f s) t)) (all_weaker f g h s (and_right (f b) (all f s) t))

-- What a rule writes is of these bytes alone,
pub rule-printed : (c : Context) (k v : List ℕ) → by_rule c k ≡ some v → T (all is_printed v)
rule-printed InAscii k v e =
    subst (λ (v : List ℕ). T (all is_printed v)) (rule-high k v e).1
    (all_append is_printed (body_for k) (ascii ";") (all_weaker is_bodily is_printed bodily-printed (body_for k) (body-bodily k)) tt)
rule-printed (InHtml h) k v e = absurd (none-ne-some v e)
rule-printed (InScript q) k v e = absurd (none-ne-some v e)
rule-printed (InStyle q) k v e = absurd (none-ne-some v e)
rule-printed InJson k v e = absurd (none-ne-some v e)

abbrev pub is_ascii : ℕ → Bool
is_ascii b = ltb b 128

-- so that it is ASCII.
pub rule-ascii : (c : Context) (k v : List ℕ) → by_rule c k ≡ some v → T (all is_ascii v)
rule-ascii c k v e = all_weaker is_printed is_ascii low v (rule-printed c k v e)
  where
    low : (b : ℕ) → T (is_printed b) → T (is_ascii b)
    low b t = let m = leb→le b 122 (and_right (leb 35 b) (leb b 122) t) in rw (lt-ltb b 128 (omega arith)) tt

-- ---- how long it is

-- A name with its `&` and `;` is at most 22 bytes for 3 of the character,
abbrev short : Row → Bool
short row = leb (3 * (length (key row) + 2)) (22 * length (value row))

-- or another name of the same character is; and it is longer than the character.
abbrev bounded : Row → Bool
bounded row =
    not (is_high (value row))
    || ((short row || any (λ (other : Row). same_bytes (value other) (value row) && short other) names) && ltb (length (value row)) (length (key row) + 2))

names-bounded : T (all bounded names)
unfolding names
names-bounded = tt

pub rule-grows : (k v : List ℕ) → by_rule InAscii k ≡ some v → (3 * length v ≤ 22 * length k) × (suc (length k) ≤ length v)
rule-grows k v e =
    let (t, w) = rule-high k v e in
    subst (λ (v : List ℕ). (3 * length v ≤ 22 * length k) × (suc (length k) ≤ length v)) w
    (by-body (λ (b : List ℕ). (3 * length (ascii "&" ++ b ++ ascii ";") ≤ 22 * length k) × (suc (length k) ≤ length (ascii "&" ++ b ++ ascii ";"))) k (named t) (numbered t))
  where
    long : (b : List ℕ) → length (ascii "&" ++ b ++ ascii ";") ≡ length b + 2
    long b = let h = length-append b (ascii ";") in omega arith

    denied : (b d : Bool) → T b → T (not b || d) → T d
    denied true d t u = u
    denied false d t u = absurd t

    named : T (is_high k) → (n : List ℕ) → name_of k ≡ some n
        → (3 * length (ascii "&" ++ n ++ ascii ";") ≤ 22 * length k) × (suc (length k) ≤ length (ascii "&" ++ n ++ ascii ";"))
    named t n e =
        let (i, most) = (name-iff k n).0 e in
        let others : Bool = any (λ (other : Row). same_bytes (value other) k && short other) names in
        let b = denied (is_high k) ((short (n, k) || others) && ltb (length k) (length n + 2)) t (all_in bounded names names-bounded (n, k) i) in
        let g : length k < length n + 2 = ltb→lt (length k) (length n + 2) (and_right (short (n, k) || others) (ltb (length k) (length n + 2)) b) in
        (best most (or_cases (short (n, k)) others (and_left (short (n, k) || others) (ltb (length k) (length n + 2)) b)), omega (arith, g, long n))
      where
        no_longer_lem : (m : List ℕ) → (length n < length m) ⊎ ((length n ≡ length m) × (T (comes_before m n) → ⊥)) → length n ≤ length m
        no_longer_lem m (inl h) = omega arith
        no_longer_lem m (inr h) = omega (arith, h.0)

        best : ((m : List ℕ) → In (m, k) names → T (is_before n m)) → T (short (n, k)) ⊎ T (any (λ (other : Row). same_bytes (value other) k && short other) names)
            → 3 * length (ascii "&" ++ n ++ ascii ";") ≤ 22 * length k
        best most (inl s) = omega (arith, leb→le (3 * (length n + 2)) (22 * length k) s, long n)
        best most (inr s) =
            let (other, j, u) = any-in (λ (other : Row). same_bytes (value other) k && short other) names s in
            let q : value other ≡ k = same_bytes_lem (value other) k (and_left (same_bytes (value other) k) (short other) u) in
            let r = leb→le (3 * (length (key other) + 2)) (22 * length (value other)) (and_right (same_bytes (value other) k) (short other) u) in
            let l : length n ≤ length (key other) = no_longer_lem (key other) (before-says n (key other) (most (key other) (subst (λ (v : List ℕ). In (key other, v) names) q j))) in
            omega (arith, r, l, ap length q, long n)

    numbered : T (is_high k) → name_of k ≡ none
        → (3 * length (ascii "&" ++ (ascii "#x" ++ hex_of 6 (code_of k)) ++ ascii ";") ≤ 22 * length k) × (suc (length k) ≤ length (ascii "&" ++ (ascii "#x" ++ hex_of 6 (code_of k)) ++ ascii ";"))
    numbered t e =
        let (c, l) = high-char k t in
        let most = hex-most 6 (code_of k) in
        let least = hex-least 5 (code_of k) in
        let four : length k ≤ 4 = char-four k c in
        let h = long (ascii "#x" ++ hex_of 6 (code_of k)) in
        (omega arith, omega arith)
      where
        char-four : (a : List ℕ) → IsChar a → length a ≤ 4
        char-four a (q, i, t, e) = omega (arith, e, leb→le (length q) 4 (all_in (λ (q : List Range). leb (length q) 4) sequences tt q i))

-- It has a byte.
pub rule-long : (c : Context) (k v : List ℕ) → by_rule c k ≡ some v → 0 < length v
rule-long InAscii k v e = let h = (rule-grows k v e).1 in omega arith
rule-long (InHtml h) k v e = absurd (none-ne-some v e)
rule-long (InScript q) k v e = absurd (none-ne-some v e)
rule-long (InStyle q) k v e = absurd (none-ne-some v e)
rule-long InJson k v e = absurd (none-ne-some v e)

-- It is longer than the character.
pub rule-longer : (c : Context) (k v : List ℕ) → by_rule c k ≡ some v → length k ≤ length v
rule-longer InAscii k v e = let h = (rule-grows k v e).1 in omega arith
rule-longer (InHtml h) k v e = absurd (none-ne-some v e)
rule-longer (InScript q) k v e = absurd (none-ne-some v e)
rule-longer (InStyle q) k v e = absurd (none-ne-some v e)
rule-longer InJson k v e = absurd (none-ne-some v e)
