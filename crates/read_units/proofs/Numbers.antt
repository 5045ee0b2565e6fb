-- Six bytes whose number is that of a unit begin with the unit: two numbers to the base 256 are the same only if their digits are.
-- Assumes nothing.
use mathlib.Core.Bool.{Bool, true, false, ◌&&◌, ◌||◌}
use mathlib.Core.Logic.{◌⊎◌, inl, inr}
use mathlib.Core.Path.{◌≡◌, refl, sym, ap, ◌∙◌, subst}
use mathlib.Core.List.{List, [], ◌∷◌}
use Prim.Native.Nat.{ℕ, zero, suc, ◌+◌, ◌*◌, ◌%◌, ◌<◌}
use native.Mathlib.Omega.{arith}
use lib.Dec.{T, eqb, leb, eqb→eq, leb→le, eqb_refl}
use lib.ListN.{length, drop, get_or}
use lib.Seq.{get_or-drop, drop-drop}
use Rattle.rules.specs.Bytes.{In, all, any, stands, inside}
use Rattle.rules.specs.Tables.{Row, value, html_rows}
use Rattle.rules.specs.declared.Html.{Html}
use Rattle.rules.proofs.Tests.{and_left, and_right, and_both, or_cases, any-in}
use Rattle.encode_html.proofs.Seven.{seven}
use Rattle.read_units.specs.Units.{lowest, words_of, is_word}

-- The first byte, and the number of the others.
none : (n : ℕ) → lowest n [] ≡ 0
none zero = refl
none (suc n) = refl

pub lowest-next : (n : ℕ) (s : List ℕ) → lowest (suc n) s ≡ get_or s 0 0 + 256 * lowest n (drop 1 s)
lowest-next n [] = let z = none n in omega (arith, z)
lowest-next n (b ∷ s) = refl

-- Bytes that are not 0 stand where the number of as many bytes is theirs.
pub lowest-stands : (v s : List ℕ) → T (all (inside (1, 255)) v) → ((k : ℕ) → get_or s k 0 < 256) → lowest (length v) s ≡ lowest (length v) v → T (stands v s)
lowest-stands [] s f g e = tt
lowest-stands (a ∷ v) [] f g e =
    let some = leb→le 1 a (and_left (leb 1 a) (leb a 255) (and_left (inside (1, 255) a) (all (inside (1, 255)) v) f)) in
    absurd (omega (arith, e, some))
lowest-stands (a ∷ v) (b ∷ s) f g e =
    let here = and_left (inside (1, 255) a) (all (inside (1, 255)) v) f in
    let most = leb→le a 255 (and_right (leb 1 a) (leb a 255) here) in
    let byte = g 0 in
    let x : a ≡ b = omega (arith, e, most, byte) in
    let rest : lowest (length v) s ≡ lowest (length v) v = omega (arith, e, most, byte) in
    and_both (eqb a b) (stands v s) (subst (λ (b : ℕ). T (eqb a b)) x (eqb_refl a)) (lowest-stands v s (and_right (inside (1, 255) a) (all (inside (1, 255)) v) f) (λ k. g (suc k)) rest)

-- Six bytes, one by one.
six-of : (s : List ℕ) → lowest 6 s ≡ lowest 6 (get_or s 0 0 ∷ get_or s 1 0 ∷ get_or s 2 0 ∷ get_or s 3 0 ∷ get_or s 4 0 ∷ get_or s 5 0 ∷ [])
six-of [] = refl
six-of (a ∷ []) = refl
six-of (a ∷ b ∷ []) = refl
six-of (a ∷ b ∷ c ∷ []) = refl
six-of (a ∷ b ∷ c ∷ d ∷ []) = refl
six-of (a ∷ b ∷ c ∷ d ∷ e ∷ []) = refl
six-of (a ∷ b ∷ c ∷ d ∷ e ∷ f ∷ s) = refl

pub six-at : (t : List ℕ) (at : ℕ)
    → lowest 6 (get_or t at 0 ∷ get_or t (at + 1) 0 ∷ get_or t (at + 2) 0 ∷ get_or t (at + 3) 0 ∷ get_or t (at + 4) 0 ∷ get_or t (at + 5) 0 ∷ []) ≡ lowest 6 (drop at t)
six-at t at =
    let g : (k : ℕ) → get_or (drop at t) k 0 ≡ get_or t (at + k) 0 = λ k. get_or-drop at t k 0 in
    let z : at + 0 ≡ at = omega arith in
    sym (six-of (drop at t) ∙ (λ j. lowest 6 ((g 0 ∙ ap (λ (i : ℕ). get_or t i 0) z) j ∷ g 1 j ∷ g 2 j ∷ g 3 j ∷ g 4 j ∷ g 5 j ∷ [])))

-- Six bytes to the base 256, and the first four and five of them.
module _ (s : List ℕ) (g : (k : ℕ) → get_or s k 0 < 256) where
  head : (n : ℕ) → get_or (drop n s) 0 0 < 256
  head n = rw (get_or-drop n s 0 0) (g (n + 0))

  step : (n k j : ℕ) → j ≡ k + 1 → lowest (suc n) (drop k s) ≡ get_or (drop k s) 0 0 + 256 * lowest n (drop j s)
  step n k j e = lowest-next n (drop k s) ∙ ap (λ (r : List ℕ). get_or (drop k s) 0 0 + 256 * lowest n r) (drop-drop 1 k s ∙ ap (λ (i : ℕ). drop i s) (sym e))

  pub six-below : lowest 6 s < 0x1000000000000
  six-below = omega (arith, step 5 0 1 refl, step 4 1 2 refl, step 3 2 3 refl, step 2 3 4 refl, step 1 4 5 refl, step 0 5 6 refl, head 0, head 1, head 2, head 3, head 4, head 5)

  four : lowest 6 s % 0x100000000 ≡ lowest 4 s
  four =
      let low : lowest 4 s < 0x100000000 = omega (arith, step 3 0 1 refl, step 2 1 2 refl, step 1 2 3 refl, step 0 3 4 refl, head 0, head 1, head 2, head 3) in
      let sum : lowest 6 s ≡ lowest 4 s + 0x100000000 * lowest 2 (drop 4 s) =
      omega (arith, step 5 0 1 refl, step 4 1 2 refl, step 3 2 3 refl, step 2 3 4 refl, step 3 0 1 refl, step 2 1 2 refl, step 1 2 3 refl, step 0 3 4 refl) in
      cut (lowest 6 s) (lowest 4 s) (lowest 2 (drop 4 s)) low sum
    where
      cut : (x y q : ℕ) → y < 0x100000000 → x ≡ y + 0x100000000 * q → x % 0x100000000 ≡ y
      cut x y q l e = omega arith

  five : lowest 6 s % 0x10000000000 ≡ lowest 5 s
  five =
      let low : lowest 5 s < 0x10000000000 = omega (arith, step 4 0 1 refl, step 3 1 2 refl, step 2 2 3 refl, step 1 3 4 refl, step 0 4 5 refl, head 0, head 1, head 2, head 3, head 4) in
      let sum : lowest 6 s ≡ lowest 5 s + 0x10000000000 * lowest 1 (drop 5 s) =
      omega (arith, step 5 0 1 refl, step 4 1 2 refl, step 3 2 3 refl, step 2 3 4 refl, step 1 4 5 refl, step 4 0 1 refl, step 3 1 2 refl, step 2 2 3 refl, step 1 3 4 refl, step 0 4 5 refl) in
      cut (lowest 6 s) (lowest 5 s) (lowest 1 (drop 5 s)) low sum
    where
      cut : (x y q : ℕ) → y < 0x10000000000 → x ≡ y + 0x10000000000 * q → x % 0x10000000000 ≡ y
      cut x y q l e = omega arith

-- A row whose value has n bytes, none of them 0, and this number.
abbrev fit : ℕ → ℕ → Row → Bool
fit n word e = eqb (length (value e)) n && (eqb (lowest n (value e)) word && all (inside (1, 255)) (value e))

-- A context has such a row, or no six bytes have the number.
abbrev known : ℕ → ℕ → Html → Bool
known n word h = leb 0x1000000000000 word || any (fit n word) (html_rows h)

-- It is so for all that is compared.
abbrev compared : Html → Bool
compared h =
    known 4 0x3B746C26 h && (known 4 (get_or (words_of h) 0 0) h && (known 5 0x3B706D6126 h
    && (known 6 (get_or (words_of h) 1 0) h && (known 6 (get_or (words_of h) 2 0) h && known 6 (get_or (words_of h) 3 0) h))))

-- A row of the context stands at the head of s.
abbrev pub Stands : Html → List ℕ → Type 0
Stands h s = (e : Row) × In e (html_rows h) × T (stands (value e) s)

module _ (h : Html) (s : List ℕ) (g : (k : ℕ) → get_or s k 0 < 256) where
  found : (n word : ℕ) → T (known n word h) → word < 0x1000000000000 → lowest n s ≡ word → Stands h s
  found n word t l q = go (or_cases (leb 0x1000000000000 word) (any (fit n word) (html_rows h)) t)
    where
      go : T (leb 0x1000000000000 word) ⊎ T (any (fit n word) (html_rows h)) → Stands h s
      go (inl f) = absurd (omega (arith, l, leb→le 0x1000000000000 word f))
      go (inr f) =
          let (e, i, w) = any-in (fit n word) (html_rows h) f in
          let size = eqb→eq (length (value e)) n (and_left (eqb (length (value e)) n) (eqb (lowest n (value e)) word && all (inside (1, 255)) (value e)) w) in
          let w' = and_right (eqb (length (value e)) n) (eqb (lowest n (value e)) word && all (inside (1, 255)) (value e)) w in
          let same = eqb→eq (lowest n (value e)) word (and_left (eqb (lowest n (value e)) word) (all (inside (1, 255)) (value e)) w') in
          let some = and_right (eqb (lowest n (value e)) word) (all (inside (1, 255)) (value e)) w' in
          (e, i, lowest-stands (value e) s some g (rw size (q ∙ sym same)))

  abbrev w : ℕ → ℕ
  w k = get_or (words_of h) k 0

  abbrev k₁ : Bool
  k₁ = known 4 0x3B746C26 h

  abbrev k₂ : Bool
  k₂ = known 4 (w 0) h

  abbrev k₃ : Bool
  k₃ = known 5 0x3B706D6126 h

  abbrev k₄ : Bool
  k₄ = known 6 (w 1) h

  abbrev k₅ : Bool
  k₅ = known 6 (w 2) h

  abbrev k₆ : Bool
  k₆ = known 6 (w 3) h

  all_known : T (k₁ && (k₂ && (k₃ && (k₄ && (k₅ && k₆)))))
  all_known = seven compared tt h

  -- Six bytes that are found to begin with a unit do.
  pub word_stands : T (is_word (words_of h) (lowest 6 s)) → Stands h s
  word_stands t =
      let x = lowest 6 s in
      let small = six-below s g in
      let r₁ = all_known in
      let r₂ = and_right k₁ (k₂ && (k₃ && (k₄ && (k₅ && k₆)))) r₁ in
      let r₃ = and_right k₂ (k₃ && (k₄ && (k₅ && k₆))) r₂ in
      let r₄ = and_right k₃ (k₄ && (k₅ && k₆)) r₃ in
      let r₅ = and_right k₄ (k₅ && k₆) r₄ in
      let whole : (word : ℕ) → T (known 6 word h) → T (eqb x word) → Stands h s = λ word k q. let e = eqb→eq x word q in found 6 word k (omega (arith, small, e)) e in
      let shorter : (n m word : ℕ) → x % m ≡ lowest n s → lowest n s < 0x1000000000000 → T (known n word h) → T (eqb (x % m) word) → Stands h s =
      λ n m word c b k q. let e = eqb→eq (x % m) word q in found n word k (omega (arith, b, c, e)) (sym c ∙ e) in
      let b₄ : lowest 4 s < 0x1000000000000 = omega (arith, four s g) in
      let b₅ : lowest 5 s < 0x1000000000000 = omega (arith, five s g) in
      cases (eqb (x % 0x100000000) 0x3B746C26) (eqb (x % 0x100000000) (w 0)) (eqb (x % 0x10000000000) 0x3B706D6126) (eqb x (w 1)) (eqb x (w 2)) (eqb x (w 3)) t
      (shorter 4 0x100000000 0x3B746C26 (four s g) b₄ (and_left k₁ (k₂ && (k₃ && (k₄ && (k₅ && k₆)))) r₁))
      (shorter 4 0x100000000 (w 0) (four s g) b₄ (and_left k₂ (k₃ && (k₄ && (k₅ && k₆))) r₂))
      (shorter 5 0x10000000000 0x3B706D6126 (five s g) b₅ (and_left k₃ (k₄ && (k₅ && k₆)) r₃))
      (whole (w 1) (and_left k₄ (k₅ && k₆) r₄))
      (whole (w 2) (and_left k₅ k₆ r₅))
      (whole (w 3) (and_right k₅ k₆ r₅))
    where
      cases : (a b c d e f : Bool) → T (a || b || c || d || e || f) → (T a → Stands h s) → (T b → Stands h s) → (T c → Stands h s) → (T d → Stands h s) → (T e → Stands h s) → (T f → Stands h s) → Stands h s
      cases true b c d e f t x₁ x₂ x₃ x₄ x₅ x₆ = x₁ tt
      cases false true c d e f t x₁ x₂ x₃ x₄ x₅ x₆ = x₂ tt
      cases false false true d e f t x₁ x₂ x₃ x₄ x₅ x₆ = x₃ tt
      cases false false false true e f t x₁ x₂ x₃ x₄ x₅ x₆ = x₄ tt
      cases false false false false true f t x₁ x₂ x₃ x₄ x₅ x₆ = x₅ tt
      cases false false false false false true t x₁ x₂ x₃ x₄ x₅ x₆ = x₆ tt
      cases false false false false false false t x₁ x₂ x₃ x₄ x₅ x₆ = absurd t
