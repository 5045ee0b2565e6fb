-- The character at the head of a text by its first byte: how many bytes it has, and that the arithmetic of the code gives its number.
-- Assumes nothing.
use mathlib.Core.Bool.{Bool, true, false, not, ◌&&◌, ◌||◌}
use mathlib.Core.Logic.{◌⊎◌, inl, inr}
use mathlib.Core.Option.{Option, none, some}
use mathlib.Core.Path.{◌≡◌, refl, sym, ap, ◌∙◌, subst}
use mathlib.Core.List.{List, [], ◌∷◌, ◌++◌, append-nil}
use Prim.Native.Nat.{ℕ, ◌+◌, ◌-◌, ◌*◌, ◌≤◌, ◌<◌}
use native.Mathlib.Nat.{suc_inj, suc-ne-zero}
use native.Mathlib.Omega.{arith}
use borrow.Author.Tests.{eq-eqb, lt-ltb}
use lib.Dec.{T, eqb, leb, ltb, eqb→eq, leb→le, ltb→lt}
use lib.ListN.{length, get_or, drop, length-append, length-drop}
use lib.Seq.{drop_at, get_or-drop}
use Rattle.rules.specs.Bytes.{all, fits, join, Range, inside}
use Rattle.rules.specs.Utf8.{sequences, sequence_at, char_at, IsChar, IsText, utf8, code_of}
use Rattle.rules.specs.Ascii.{is_high}
use Rattle.rules.proofs.Tests.{and_left, and_right, or_cases, all_in}
use Rattle.rules.proofs.Chars.{is_tail, char-tails, sequence-of-char}
use Rattle.rules.proofs.CharNumbers.{char-at, utf8-code, code-scalar, code-high}
use Rattle.encode_ascii.specs.Wide.{Reads}

-- ---- the head of a text

-- A text that is not empty is a character and a text.
pub text_head : (s : List ℕ) → IsText s → 0 < length s → (a r : List ℕ) × IsChar a × IsText r × (s ≡ a ++ r)
text_head s ([], h, e) l = absurd (let f : ⊥ = omega (arith, l, ap length e) in f)
text_head s (a ∷ cs, h, e) l = (a, join cs, h.0, (cs, h.1, refl), e)

-- What stands at its head is that character, and what follows it is a text.
pub head-is : (s a r : List ℕ) → IsChar a → s ≡ a ++ r → char_at s ≡ a
head-is s a r c e = ap char_at e ∙ char-at a r c

pub rest-text : (s : List ℕ) → IsText s → 0 < length s → IsText (drop (length (char_at s)) s)
rest-text s t l =
    let (a, r, c, u, e) = text_head s t l in
    subst IsText (sym (ap (λ (b : List ℕ). drop (length b) s) (head-is s a r c e) ∙ ap (drop (length a)) e ∙ drop_at a r (length a) refl)) u

-- ---- by the first byte

-- A sequence by its first range: ASCII, or two, three or four bytes.
abbrev shaped : List Range → Bool
shaped [] = false
shaped (r ∷ rs) =
    ltb r.1 0x80
    || (((leb 0xC2 r.0 && leb r.1 0xDF) && eqb (length rs) 1)
    || (((leb 0xE0 r.0 && leb r.1 0xEF) && eqb (length rs) 2) || ((leb 0xF0 r.0 && leb r.1 0xF4) && eqb (length rs) 3)))

-- What that says of a character.
abbrev Wide : ℕ → List ℕ → Type 0
Wide x a =
    ((0xC2 ≤ x) × (x ≤ 0xDF) × (length a ≡ 1)) ⊎ (((0xE0 ≤ x) × (x ≤ 0xEF) × (length a ≡ 2)) ⊎ ((0xF0 ≤ x) × (x ≤ 0xF4) × (length a ≡ 3)))

wide : (x : ℕ) (a : List ℕ) → IsChar (x ∷ a) → 0x80 ≤ x → Wide x a
wide x a (q, i, t, e) high = go q (all_in shaped sequences tt q i) t e
  where
    ends : (lo hi n : ℕ) (r : Range) (rs : List Range) → T ((leb lo r.0 && leb r.1 hi) && eqb (length rs) n) → T (inside r x) → length a ≡ length rs → (lo ≤ x) × (x ≤ hi) × (length a ≡ n)
    ends lo hi n r rs s t e =
        let both = and_left (leb lo r.0 && leb r.1 hi) (eqb (length rs) n) s in
        let l = leb→le lo r.0 (and_left (leb lo r.0) (leb r.1 hi) both) in
        let h = leb→le r.1 hi (and_right (leb lo r.0) (leb r.1 hi) both) in
        let m = leb→le r.0 x (and_left (leb r.0 x) (leb x r.1) t) in
        let k = leb→le x r.1 (and_right (leb r.0 x) (leb x r.1) t) in
        (omega arith, omega arith, e ∙ eqb→eq (length rs) n (and_right (leb lo r.0 && leb r.1 hi) (eqb (length rs) n) s))

    go : (q : List Range) → T (shaped q) → T (fits inside q (x ∷ a)) → length (x ∷ a) ≡ length q → Wide x a
    go [] s t e = absurd s
    go (r ∷ rs) s t e = first (or_cases (ltb r.1 0x80) (two || (three || four)) s)
      where
        two : Bool
        two = (leb 0xC2 r.0 && leb r.1 0xDF) && eqb (length rs) 1

        three : Bool
        three = (leb 0xE0 r.0 && leb r.1 0xEF) && eqb (length rs) 2

        four : Bool
        four = (leb 0xF0 r.0 && leb r.1 0xF4) && eqb (length rs) 3

        here : T (inside r x)
        here = and_left (inside r x) (fits inside rs a) t

        third : T three ⊎ T four → Wide x a
        third (inl u) = inr (inl (ends 0xE0 0xEF 2 r rs u here (suc_inj e)))
        third (inr u) = inr (inr (ends 0xF0 0xF4 3 r rs u here (suc_inj e)))

        second : T two ⊎ T (three || four) → Wide x a
        second (inl u) = inl (ends 0xC2 0xDF 1 r rs u here (suc_inj e))
        second (inr u) = third (or_cases three four u)

        first : T (ltb r.1 0x80) ⊎ T (two || (three || four)) → Wide x a
        first (inl u) = absurd (let k = leb→le x r.1 (and_right (leb r.0 x) (leb x r.1) here) in let m = ltb→lt r.1 0x80 u in let f : ⊥ = omega arith in f)
        first (inr u) = second (or_cases two (three || four) u)

-- A character of more than one byte is above 7F.
pub high-char : (a : List ℕ) → IsChar a → 2 ≤ length a → T (is_high a)
high-char a (q, i, t, e) l =
    let at : sequence_at a ≡ some q = ap sequence_at (sym (append-nil a)) ∙ sequence-of-char a [] (q, i, t, e) in
    subst (λ (o : Option (List Range)). T (elim o [ none ↦ false | some q ↦ eqb (length a) (length q) && ltb 1 (length q) ])) (sym at)
    (rw (eq-eqb (length a) (length q) e, lt-ltb 1 (length q) (omega (arith, e, l))) tt)

-- What is known of the character above 7F at the head of a text.
pub record Head (s : List ℕ) : Type 0 where
  pub char : IsChar (char_at s)
  pub high : T (is_high (char_at s))
  pub most : code_of (char_at s) ≤ 0x10FFFF
  pub least : 0x80 ≤ code_of (char_at s)
  pub same : utf8 (code_of (char_at s)) ≡ char_at s
  pub within : length (char_at s) ≤ length s
  pub two : get_or s 0 0 < 0xE0 → (char_at s ≡ get_or s 0 0 ∷ get_or s 1 0 ∷ []) × (2 ≤ length s) × (0xC2 ≤ get_or s 0 0)
  pub three : 0xE0 ≤ get_or s 0 0 → get_or s 0 0 < 0xF0 → (char_at s ≡ get_or s 0 0 ∷ get_or s 1 0 ∷ get_or s 2 0 ∷ []) × (3 ≤ length s)
  pub four : 0xF0 ≤ get_or s 0 0 → (char_at s ≡ get_or s 0 0 ∷ get_or s 1 0 ∷ get_or s 2 0 ∷ get_or s 3 0 ∷ []) × (4 ≤ length s) × (get_or s 0 0 ≤ 0xF4)
  pub second : (2 ≤ length s) × (0x80 ≤ get_or s 1 0) × (get_or s 1 0 ≤ 0xBF)
  pub third : 0xE0 ≤ get_or s 0 0 → (3 ≤ length s) × (0x80 ≤ get_or s 2 0) × (get_or s 2 0 ≤ 0xBF)
  pub fourth : 0xF0 ≤ get_or s 0 0 → (4 ≤ length s) × (0x80 ≤ get_or s 3 0) × (get_or s 3 0 ≤ 0xBF)

no_char : IsChar [] → ⊥
no_char (q, i, t, e) = subst (λ (n : ℕ). T (ltb 0 n)) (sym e) (all_in (λ (q : List Range). ltb 0 (length q)) sequences tt q i)

tail-low : (y : ℕ) → T (is_tail y) → 0x80 ≤ y
tail-low y t = leb→le 0x80 y (and_left (leb 0x80 y) (leb y 0xBF) t)

tail-high : (y : ℕ) → T (is_tail y) → y ≤ 0xBF
tail-high y t = leb→le y 0xBF (and_right (leb 0x80 y) (leb y 0xBF) t)

module _ (x : ℕ) (a r : List ℕ) (c : IsChar (x ∷ a)) where
  here : char_at ((x ∷ a) ++ r) ≡ x ∷ a
  here = char-at (x ∷ a) r c

  tails : T (all is_tail a)
  tails = char-tails x a c

  top : code_of (x ∷ a) ≤ 0x10FFFF
  top = leb→le (code_of (x ∷ a)) 0x10FFFF (and_left (leb (code_of (x ∷ a)) 0x10FFFF) (not (inside (0xD800, 0xDFFF) (code_of (x ∷ a)))) (code-scalar (x ∷ a) c))

  long : length (x ∷ a) ≤ length ((x ∷ a) ++ r)
  long = omega (arith, length-append (x ∷ a) r)

head-two : (x y : ℕ) (r : List ℕ) → IsChar (x ∷ y ∷ []) → 0xC2 ≤ x → x ≤ 0xDF → Head (x ∷ y ∷ r)
head-two x y r c l h =
    let e : char_at (x ∷ y ∷ r) ≡ x ∷ y ∷ [] = here x (y ∷ []) r c in
    let t = and_left (is_tail y) true (tails x (y ∷ []) r c) in
    record {
      char = subst IsChar (sym e) c;
      high = subst (λ (b : List ℕ). T (is_high b)) (sym e) (high-char (x ∷ y ∷ []) c (omega arith));
      most = subst (λ (b : List ℕ). code_of b ≤ 0x10FFFF) (sym e) (top x (y ∷ []) r c);
      least = subst (λ (b : List ℕ). 0x80 ≤ code_of b) (sym e) (code-high (x ∷ y ∷ []) c (omega arith));
      same = subst (λ (b : List ℕ). utf8 (code_of b) ≡ b) (sym e) (utf8-code (x ∷ y ∷ []) c);
      within = subst (λ (b : List ℕ). length b ≤ length (x ∷ y ∷ r)) (sym e) (long x (y ∷ []) r c);
      two = λ k. (e, omega arith, l);
      three = λ k m. absurd (let f : ⊥ = omega arith in f);
      four = λ k. absurd (let f : ⊥ = omega arith in f);
      second = (omega arith, tail-low y t, tail-high y t);
      third = λ k. absurd (let f : ⊥ = omega arith in f);
      fourth = λ k. absurd (let f : ⊥ = omega arith in f);
    }

head_three : (x y z : ℕ) (r : List ℕ) → IsChar (x ∷ y ∷ z ∷ []) → 0xE0 ≤ x → x ≤ 0xEF → Head (x ∷ y ∷ z ∷ r)
head_three x y z r c l h =
    let e : char_at (x ∷ y ∷ z ∷ r) ≡ x ∷ y ∷ z ∷ [] = here x (y ∷ z ∷ []) r c in
    let ts = tails x (y ∷ z ∷ []) r c in
    let t = and_left (is_tail y) (is_tail z && true) ts in
    let u = and_left (is_tail z) true (and_right (is_tail y) (is_tail z && true) ts) in
    record {
      char = subst IsChar (sym e) c;
      high = subst (λ (b : List ℕ). T (is_high b)) (sym e) (high-char (x ∷ y ∷ z ∷ []) c (omega arith));
      most = subst (λ (b : List ℕ). code_of b ≤ 0x10FFFF) (sym e) (top x (y ∷ z ∷ []) r c);
      least = subst (λ (b : List ℕ). 0x80 ≤ code_of b) (sym e) (code-high (x ∷ y ∷ z ∷ []) c (omega arith));
      same = subst (λ (b : List ℕ). utf8 (code_of b) ≡ b) (sym e) (utf8-code (x ∷ y ∷ z ∷ []) c);
      within = subst (λ (b : List ℕ). length b ≤ length (x ∷ y ∷ z ∷ r)) (sym e) (long x (y ∷ z ∷ []) r c);
      two = λ k. absurd (let f : ⊥ = omega arith in f);
      three = λ k m. (e, omega arith);
      four = λ k. absurd (let f : ⊥ = omega arith in f);
      second = (omega arith, tail-low y t, tail-high y t);
      third = λ k. (omega arith, tail-low z u, tail-high z u);
      fourth = λ k. absurd (let f : ⊥ = omega arith in f);
    }

head-four : (x y z w : ℕ) (r : List ℕ) → IsChar (x ∷ y ∷ z ∷ w ∷ []) → 0xF0 ≤ x → x ≤ 0xF4 → Head (x ∷ y ∷ z ∷ w ∷ r)
head-four x y z w r c l h =
    let e : char_at (x ∷ y ∷ z ∷ w ∷ r) ≡ x ∷ y ∷ z ∷ w ∷ [] = here x (y ∷ z ∷ w ∷ []) r c in
    let ts = tails x (y ∷ z ∷ w ∷ []) r c in
    let t = and_left (is_tail y) (is_tail z && (is_tail w && true)) ts in
    let us = and_right (is_tail y) (is_tail z && (is_tail w && true)) ts in
    let u = and_left (is_tail z) (is_tail w && true) us in
    let v = and_left (is_tail w) true (and_right (is_tail z) (is_tail w && true) us) in
    record {
      char = subst IsChar (sym e) c;
      high = subst (λ (b : List ℕ). T (is_high b)) (sym e) (high-char (x ∷ y ∷ z ∷ w ∷ []) c (omega arith));
      most = subst (λ (b : List ℕ). code_of b ≤ 0x10FFFF) (sym e) (top x (y ∷ z ∷ w ∷ []) r c);
      least = subst (λ (b : List ℕ). 0x80 ≤ code_of b) (sym e) (code-high (x ∷ y ∷ z ∷ w ∷ []) c (omega arith));
      same = subst (λ (b : List ℕ). utf8 (code_of b) ≡ b) (sym e) (utf8-code (x ∷ y ∷ z ∷ w ∷ []) c);
      within = subst (λ (b : List ℕ). length b ≤ length (x ∷ y ∷ z ∷ w ∷ r)) (sym e) (long x (y ∷ z ∷ w ∷ []) r c);
      two = λ k. absurd (let f : ⊥ = omega arith in f);
      three = λ k m. absurd (let f : ⊥ = omega arith in f);
      four = λ k. (e, omega arith, h);
      second = (omega arith, tail-low y t, tail-high y t);
      third = λ k. (omega arith, tail-low z u, tail-high z u);
      fourth = λ k. (omega arith, tail-low w v, tail-high w v);
    }

-- A byte above 7F at the head of a text begins such a character.
pub text-wide : (s : List ℕ) → IsText s → 0 < length s → 0x80 ≤ get_or s 0 0 → Head s
text-wide s t l h =
    let (a, r, c, u, e) = text_head s t l in
    subst Head (sym e) (lead a r c (subst (λ (z : List ℕ). 0x80 ≤ get_or z 0 0) e h))
  where
    tail : (x : ℕ) (a r : List ℕ) → IsChar (x ∷ a) → Wide x a → Head (x ∷ (a ++ r))
    tail x [] r c (inl (l, h, n)) = absurd (suc-ne-zero 0 (sym n))
    tail x (y ∷ []) r c (inl (l, h, n)) = head-two x y r c l h
    tail x (y ∷ z ∷ a) r c (inl (l, h, n)) = absurd (suc-ne-zero (length a) (suc_inj n))
    tail x [] r c (inr (inl (l, h, n))) = absurd (suc-ne-zero 1 (sym n))
    tail x (y ∷ []) r c (inr (inl (l, h, n))) = absurd (suc-ne-zero 0 (sym (suc_inj n)))
    tail x (y ∷ z ∷ []) r c (inr (inl (l, h, n))) = head_three x y z r c l h
    tail x (y ∷ z ∷ w ∷ a) r c (inr (inl (l, h, n))) = absurd (suc-ne-zero (length a) (suc_inj (suc_inj n)))
    tail x [] r c (inr (inr (l, h, n))) = absurd (suc-ne-zero 2 (sym n))
    tail x (y ∷ []) r c (inr (inr (l, h, n))) = absurd (suc-ne-zero 1 (sym (suc_inj n)))
    tail x (y ∷ z ∷ []) r c (inr (inr (l, h, n))) = absurd (suc-ne-zero 0 (sym (suc_inj (suc_inj n))))
    tail x (y ∷ z ∷ w ∷ []) r c (inr (inr (l, h, n))) = head-four x y z w r c l h
    tail x (y ∷ z ∷ w ∷ v ∷ a) r c (inr (inr (l, h, n))) = absurd (suc-ne-zero (length a) (suc_inj (suc_inj (suc_inj n))))

    lead : (a r : List ℕ) → IsChar a → 0x80 ≤ get_or (a ++ r) 0 0 → Head (a ++ r)
    lead [] r c h = absurd (no_char c)
    lead (x ∷ a) r c h = tail x a r c (wide x a c h)

-- ---- in a text, at an offset

-- The same of the bytes of a text from offset `at` on.
pub record At (t : List ℕ) (at : ℕ) : Type 0 where
  pub second : (at + 1 < length t) × (0x80 ≤ get_or t (at + 1) 0) × (get_or t (at + 1) 0 ≤ 0xBF)
  pub third : 0xE0 ≤ get_or t at 0 → (at + 2 < length t) × (0x80 ≤ get_or t (at + 2) 0) × (get_or t (at + 2) 0 ≤ 0xBF)
  pub fourth : 0xF0 ≤ get_or t at 0 → (at + 3 < length t) × (0x80 ≤ get_or t (at + 3) 0) × (get_or t (at + 3) 0 ≤ 0xBF) × (get_or t at 0 ≤ 0xF4)
  pub least : get_or t at 0 < 0xE0 → 0xC2 ≤ get_or t at 0
  pub reads_two : get_or t at 0 < 0xE0 → (n : ℕ) → n ≡ (get_or t at 0 - 0xC0) * 64 + (get_or t (at + 1) 0 - 0x80) → Reads (drop at t) (record { code = n; width = 2 })
  pub reads_three : 0xE0 ≤ get_or t at 0 → get_or t at 0 < 0xF0 → (n : ℕ)
      → n ≡ (get_or t at 0 - 0xE0) * 4096 + (get_or t (at + 1) 0 - 0x80) * 64 + (get_or t (at + 2) 0 - 0x80) → Reads (drop at t) (record { code = n; width = 3 })
  pub reads-four : 0xF0 ≤ get_or t at 0 → (n : ℕ)
      → n ≡ (get_or t at 0 - 0xF0) * 262144 + (get_or t (at + 1) 0 - 0x80) * 4096 + (get_or t (at + 2) 0 - 0x80) * 64 + (get_or t (at + 3) 0 - 0x80)
      → Reads (drop at t) (record { code = n; width = 4 })

pub text_at : (t : List ℕ) (at : ℕ) → at < length t → 0x80 ≤ get_or t at 0 → IsText (drop at t) → At t at
text_at t at l high text = record {
  second = (omega (arith, size, h.second.0), subst (λ (b : ℕ). 0x80 ≤ b) (byte 1) h.second.1, subst (λ (b : ℕ). b ≤ 0xBF) (byte 1) h.second.2);
  third = λ k. let f = h.third (lead-least 0xE0 k) in (omega (arith, size, f.0), subst (λ (b : ℕ). 0x80 ≤ b) (byte 2) f.1, subst (λ (b : ℕ). b ≤ 0xBF) (byte 2) f.2);
  fourth = λ k. let f = h.fourth (lead-least 0xF0 k) in (
    omega (arith, size, f.0),
    subst (λ (b : ℕ). 0x80 ≤ b) (byte 3) f.1,
    subst (λ (b : ℕ). b ≤ 0xBF) (byte 3) f.2,
    subst (λ (b : ℕ). b ≤ 0xF4) lead (h.four (lead-least 0xF0 k)).2,
  );
  least = λ k. subst (λ (b : ℕ). 0xC2 ≤ b) lead (h.two (lead-most k)).2;
  reads_two = λ k n e. told n 2 _ (get_or s 0 0 ∷ get_or s 1 0 ∷ []) (λ i. (lead i - 0xC0) * 64 + (byte 1 i - 0x80)) (h.two (lead-most k)).0 e refl;
  reads_three = λ k m n e. told n 3 _ (get_or s 0 0 ∷ get_or s 1 0 ∷ get_or s 2 0 ∷ []) (λ i. (lead i - 0xE0) * 4096 + (byte 1 i - 0x80) * 64 + (byte 2 i - 0x80)) (h.three (lead-least 0xE0 k) (lead-below m)).0 e refl;
  reads-four = λ k n e. told n 4 _ (get_or s 0 0 ∷ get_or s 1 0 ∷ get_or s 2 0 ∷ get_or s 3 0 ∷ []) (λ i. (lead i - 0xF0) * 262144 + (byte 1 i - 0x80) * 4096 + (byte 2 i - 0x80) * 64 + (byte 3 i - 0x80)) (h.four (lead-least 0xF0 k)).0 e refl;
}
  where
    s : List ℕ
    s = drop at t

    size : length s ≡ length t - at
    size = length-drop at t

    byte : (k : ℕ) → get_or s k 0 ≡ get_or t (at + k) 0
    byte k = get_or-drop at t k 0

    lead : get_or s 0 0 ≡ get_or t at 0
    lead = byte 0 ∙ ap (λ (n : ℕ). get_or t n 0) (let z : at + 0 ≡ at = omega arith in z)

    h : Head s
    h = text-wide s text (omega (arith, size)) (subst (λ (b : ℕ). 0x80 ≤ b) (sym lead) high)

    lead-least : (n : ℕ) → n ≤ get_or t at 0 → n ≤ get_or s 0 0
    lead-least n k = subst (λ (b : ℕ). n ≤ b) (sym lead) k

    lead-most : get_or t at 0 < 0xE0 → get_or s 0 0 < 0xE0
    lead-most k = subst (λ (b : ℕ). b < 0xE0) (sym lead) k

    lead-below : get_or t at 0 < 0xF0 → get_or s 0 0 < 0xF0
    lead-below k = subst (λ (b : ℕ). b < 0xF0) (sym lead) k

    told : (n w m : ℕ) (a : List ℕ) → code_of a ≡ m → char_at s ≡ a → n ≡ m → length a ≡ w → Reads s (record { code = n; width = w })
    told n w m a c e f z =
        let k : code_of (char_at s) ≡ n = ap code_of e ∙ c ∙ sym f in (
          ap utf8 (sym k) ∙ h.same,
          sym (ap length e ∙ z),
          h.high,
          subst (λ (x : ℕ). 0x80 ≤ x) k h.least,
          subst (λ (x : ℕ). x ≤ 0x10FFFF) k h.most,
          subst (λ (x : ℕ). x ≤ length s) (ap length e ∙ z) h.within,
        )
