-- The character at the head of a text, by its first byte. What may follow a first byte in the sequences of RFC 3629 is computed once for each of the
-- 256 bytes, and is what the check tests.
-- Assumes nothing.
use mathlib.Core.Bool.{Bool, true, false, cond, ◌&&◌, ◌||◌, and-false, or-false}
use mathlib.Core.Option.{Option, none, some}
use mathlib.Core.Path.{◌≡◌, refl, sym, ap, ◌∙◌, subst}
use mathlib.Core.List.{List, [], ◌∷◌}
use Prim.Native.Nat.{ℕ, zero, suc, ◌-◌, ◌≤◌, ◌<◌}
use native.Mathlib.Nat.{le_of_suc-le-suc, not-suc-le-zero}
use native.Mathlib.Omega.{arith}
use borrow.Author.Tests.{lt-ltb, le-ltb, le-leb, ltb-true, ltb-false}
use lib.Count.{count_leading_zeros}
use lib.Dec.{T, eqb, leb, ltb, eqb→eq, leb→le}
use lib.ListN.{length, take, drop, get_or, replicate, length-drop, length-replicate}
use lib.Seq.{drop-cons, take_all, take-length}
use Rattle.rules.specs.Bytes.{all, any, first, fits, opens, Range, inside}
use Rattle.rules.specs.Moves.{takes}
use Rattle.rules.specs.Utf8.{sequences, sequence_at, keep_char, char_step, is_cut, IsChar}
use Rattle.rules.proofs.Tests.{and_left, and_right, first-sound, fits-take, fits-length}
use Rattle.rules.proofs.EveryByte.{every_byte_lem}
use Rattle.utf8.specs.Check.{is_start, onward, tails_of}

-- ---- two lists are the same, by a test of their entries

abbrev same : {A : Type 0} → (A → A → Bool) → List A → List A → Bool
same eq [] [] = true
same eq [] (y ∷ ys) = false
same eq (x ∷ xs) [] = false
same eq (x ∷ xs) (y ∷ ys) = eq x y && same eq xs ys

same-law : {A : Type 0} (eq : A → A → Bool) → ((x y : A) → T (eq x y) → x ≡ y) → (xs ys : List A) → T (same eq xs ys) → xs ≡ ys
same-law eq law [] [] t = refl
same-law eq law [] (y ∷ ys) t = absurd t
same-law eq law (x ∷ xs) [] t = absurd t
same-law eq law (x ∷ xs) (y ∷ ys) t =
    rw (law x y (and_left (eq x y) (same eq xs ys) t), same-law eq law xs ys (and_right (eq x y) (same eq xs ys) t))

abbrev same_range : Range → Range → Bool
same_range p q = eqb p.0 q.0 && eqb p.1 q.1

same-range : (p q : Range) → T (same_range p q) → p ≡ q
same-range (a, b) (c, d) t = rw (eqb→eq a c (and_left (eqb a c) (eqb b d) t), eqb→eq b d (and_right (eqb a c) (eqb b d) t))

-- ---- what may follow a first byte

-- The sequences that the byte d can start, without their first range.
abbrev follow : ℕ → List (List Range) → List (List Range)
follow d [] = []
follow d ([] ∷ qs) = follow d qs
follow d ((p ∷ q) ∷ qs) = cond (inside p d) (q ∷ follow d qs) (follow d qs)

-- The length of the character whose first byte those may follow, where w comes after it; 0 where none fits.
abbrev reach : List (List Range) → List ℕ → ℕ
reach [] w = 0
reach (q ∷ qs) w = cond (fits inside q w) (suc (length q)) (reach qs w)

abbrev has_byte : List Range → Bool
has_byte [] = false
has_byte (p ∷ q) = true

-- The character that whole sequences find is as long as what may follow its first byte says.
reach-first : (d : ℕ) (w : List ℕ) (qs : List (List Range)) → T (all has_byte qs)
    → length (takes (keep_char (first (fits inside) qs (d ∷ w)) (d ∷ w))) ≡ reach (follow d qs) w
reach-first d w [] t = refl
reach-first d w ([] ∷ qs) t = absurd t
reach-first d w ((p ∷ q) ∷ qs) t = go (inside p d) refl (fits inside q w) refl (reach-first d w qs t)
  where
    go : (b : Bool) → inside p d ≡ b → (c : Bool) → fits inside q w ≡ c
        → length (takes (keep_char (first (fits inside) qs (d ∷ w)) (d ∷ w))) ≡ reach (follow d qs) w
        → length (takes (keep_char (first (fits inside) ((p ∷ q) ∷ qs) (d ∷ w)) (d ∷ w))) ≡ reach (follow d ((p ∷ q) ∷ qs)) w
    go true e true f ih = rw (e, f, first) (ap suc (fits-length inside q w (subst T (sym f) tt)))
    go true e false f ih = rw (e, f, first) ih
    go false e c f ih = rw (e, first) ih

-- Where there are too few bytes nothing fits.
fits-short : (q : List Range) (w : List ℕ) → length w < length q → fits inside q w ≡ false
fits-short [] w h = absurd (not-suc-le-zero h)
fits-short (p ∷ q) [] h = refl
fits-short (p ∷ q) (x ∷ w) h = rw (fits-short q w (le_of_suc-le-suc h)) (and-false (inside p x))

-- What begins a sequence begins, after the first byte, what may follow that byte.
opens-first : (d : ℕ) (w : List ℕ) (qs : List (List Range)) → any (λ (q : List Range). opens inside q (d ∷ w)) qs ≡ any (λ (q : List Range). opens inside q w) (follow d qs)
opens-first d w [] = refl
opens-first d w ([] ∷ qs) = opens-first d w qs
opens-first d w ((p ∷ q) ∷ qs) = go (inside p d) refl (opens-first d w qs)
  where
    go : (b : Bool) → inside p d ≡ b → any (λ (q : List Range). opens inside q (d ∷ w)) qs ≡ any (λ (q : List Range). opens inside q w) (follow d qs)
        → any (λ (q : List Range). opens inside q (d ∷ w)) ((p ∷ q) ∷ qs) ≡ any (λ (q : List Range). opens inside q w) (follow d ((p ∷ q) ∷ qs))
    go true e ih = rw e (ap (λ (b : Bool). opens inside q w || b) ih)
    go false e ih = rw e ih

-- It begins them only where a range is left, and then it fills the ranges before.
opens-long : (q : List Range) (w : List ℕ) → length q ≤ length w → opens inside q w ≡ false
opens-long [] w h = refl
opens-long (p ∷ q) [] h = absurd (not-suc-le-zero h)
opens-long (p ∷ q) (x ∷ w) h = rw (opens-long q w (le_of_suc-le-suc h)) (and-false (inside p x))

opens-short : (q : List Range) (w : List ℕ) → length w < length q → opens inside q w ≡ fits inside (take (length w) q) w
opens-short [] w h = absurd (not-suc-le-zero h)
opens-short (p ∷ q) [] h = refl
opens-short (p ∷ q) (x ∷ w) h = ap (λ (b : Bool). inside p x && b) (opens-short q w (le_of_suc-le-suc h))

take-replicate : {A : Type 0} (k m : ℕ) (a : A) → k ≤ m → take k (replicate m a) ≡ replicate k a
take-replicate zero m a h = refl
take-replicate (suc k) zero a h = absurd (not-suc-le-zero h)
take-replicate (suc k) (suc m) a h = ap (λ (r : List _). a ∷ r) (take-replicate k m a (le_of_suc-le-suc h))

-- What the check takes to follow a first byte.
abbrev tested : ℕ → List (List Range)
tested d = cond (is_start d) (tails_of d ∷ []) []

-- It is what the sequences say.
follow-tested : (d : ℕ) → d < 256 → follow d sequences ≡ tested d
unfolding tails_of
follow-tested d h =
    same-law (same same_range) (same-law same_range same-range) (follow d sequences) (tested d)
    (every_byte_lem (λ (b : ℕ). same (same same_range) (follow b sequences) (tested b)) tt d h)

-- The one-bits that a first byte above ASCII starts with are as many as its character has bytes.
pub ones-size : (d : ℕ) → 0xC2 ≤ d → d ≤ 0xF4 → count_leading_zeros 8 (255 - d) ≡ suc (length (tails_of d))
unfolding tails_of count_leading_zeros
ones-size d l h =
    let t = every_byte_lem (λ (b : ℕ). cond (leb 0xC2 b && leb b 0xF4) (eqb (count_leading_zeros 8 (255 - b)) (suc (length (tails_of b)))) true) tt d (omega arith) in
    eqb→eq _ _ (rw (le-leb 0xC2 d l, le-leb d 0xF4 h) at t)

pub cond-most : (b : Bool) (x y n : ℕ) → x ≤ n → y ≤ n → cond b x y ≤ n
cond-most true x y n p q = p
cond-most false x y n p q = q

-- They are two, three or four.
pub lead-size : (d : ℕ) → 0x80 ≤ d → (2 ≤ suc (length (tails_of d))) × (suc (length (tails_of d)) ≤ 4)
unfolding tails_of
lead-size d l =
    let m = cond-most (ltb d 0xE0) 0 (cond (ltb d 0xF0) 1 2) 2 (omega arith) (cond-most (ltb d 0xF0) 1 2 2 (omega arith) (omega arith)) in
    rw (le-ltb d 0x80 l, length-replicate) (omega arith, omega arith)

-- ---- the character at the head

-- The length of the character at the head, by its first byte.
size : (d : ℕ) (w : List ℕ) → d < 256 → length (takes (char_step 0 (d ∷ w))) ≡ reach (tested d) w
unfolding char_step
size d w h = reach-first d w sequences tt ∙ rw (follow-tested d h)

-- What is taken at the head is a character.
pub char-here : (s : List ℕ) (n : ℕ) → n ≡ length (takes (char_step 0 s)) → 0 < n → IsChar (take n s)
unfolding char_step
char-here s n e h = go (sequence_at s) refl
  where
    go : (o : Option (List Range)) → sequence_at s ≡ o → IsChar (take n s)
    go none f = absurd (omega (arith, rw f at e))
    go (some q) f =
        let (i, t) = first-sound (fits inside) sequences s q f in
        let l : n ≡ length q = rw f at e ∙ fits-length inside q s t in
        rw l (q, i, fits-take inside q s t, fits-length inside q s t)

-- A first byte above ASCII.
pub lead-byte : (d : ℕ) → 0x80 ≤ d → is_start d ≡ true → (0xC2 ≤ d) × (d ≤ 0xF4)
lead-byte d h e =
    let t : T (leb 0xC2 d && leb d 0xF4) = subst T (sym (rw (le-ltb d 0x80 h) at e)) tt in
    (leb→le 0xC2 d (and_left (leb 0xC2 d) (leb d 0xF4) t), leb→le d 0xF4 (and_right (leb 0xC2 d) (leb d 0xF4) t))

start-byte : (d : ℕ) → is_start d ≡ true → d < 256
start-byte d e = go (ltb d 0x80) refl
  where
    go : (b : Bool) → ltb d 0x80 ≡ b → d < 256
    go true f = omega (arith, ltb-true d 0x80 f)
    go false f = omega (arith, (lead-byte d (ltb-false d 0x80 f) e).1)

-- A first byte, and after it what the check asks for, is a character.
pub char_of_lem : (d : ℕ) (w : List ℕ) → is_start d ≡ true → fits inside (tails_of d) w ≡ true → length w ≡ length (tails_of d) → IsChar (d ∷ w)
char_of_lem d w s f l =
    let e : length (takes (char_step 0 (d ∷ w))) ≡ suc (length w) = size d w (start-byte d s) ∙ rw (s, f, l) in
    rw take-length at (char-here (d ∷ w) (suc (length w)) (sym e) (omega arith))

-- ---- the same by place, as the code reads

pub size_none : (s : List ℕ) → length s ≡ 0 → length (takes (char_step 0 s)) ≡ 0
unfolding char_step
size_none [] e = refl
size_none (x ∷ s) e = absurd (omega arith)

module _ (s : List ℕ) (h : 0 < length s) (byte : get_or s 0 0 < 256) where
  size-at : length (takes (char_step 0 s)) ≡ reach (tested (get_or s 0 0)) (drop 1 s)
  size-at = let e : s ≡ get_or s 0 0 ∷ drop 1 s = drop-cons s 0 0 h in ap (λ (l : List ℕ). length (takes (char_step 0 l))) e ∙ size (get_or s 0 0) (drop 1 s) byte

  pub size-one : get_or s 0 0 < 0x80 → length (takes (char_step 0 s)) ≡ 1
  unfolding tails_of
  size-one l = size-at ∙ rw (lt-ltb (get_or s 0 0) 0x80 l)

  pub size-no-start : is_start (get_or s 0 0) ≡ false → length (takes (char_step 0 s)) ≡ 0
  size-no-start e = size-at ∙ rw e

  size_fits : is_start (get_or s 0 0) ≡ true → (b : Bool) → fits inside (tails_of (get_or s 0 0)) (drop 1 s) ≡ b
      → length (takes (char_step 0 s)) ≡ cond b (suc (length (tails_of (get_or s 0 0)))) 0
  size_fits e b f = size-at ∙ rw (e, f)

  pub size-more : is_start (get_or s 0 0) ≡ true → (n : ℕ) → n ≡ suc (length (tails_of (get_or s 0 0))) → (b : Bool) → fits inside (take (n - 1) (tails_of (get_or s 0 0))) (drop 1 s) ≡ b
      → length (takes (char_step 0 s)) ≡ cond b n 0
  size-more e n l b f =
      let w : take (n - 1) (tails_of (get_or s 0 0)) ≡ tails_of (get_or s 0 0) = take_all (n - 1) (tails_of (get_or s 0 0)) (omega arith) in
      size_fits e b (ap (λ (q : List Range). fits inside q (drop 1 s)) (sym w) ∙ f) ∙ ap (λ (m : ℕ). cond b m 0) (sym l)

  pub size-short : is_start (get_or s 0 0) ≡ true → length s < suc (length (tails_of (get_or s 0 0))) → length (takes (char_step 0 s)) ≡ 0
  size-short e l = size_fits e false (fits-short (tails_of (get_or s 0 0)) (drop 1 s) (rw length-drop (omega arith)))

  -- Whether the bytes are the start of a character.
  cut_at : is_cut s ≡ any (λ (q : List Range). opens inside q (drop 1 s)) (tested (get_or s 0 0))
  unfolding is_cut
  cut_at =
      let e : s ≡ get_or s 0 0 ∷ drop 1 s = drop-cons s 0 0 h in
      ap is_cut e ∙ opens-first (get_or s 0 0) (drop 1 s) sequences ∙ rw (follow-tested (get_or s 0 0) byte)

  pub cut-ascii : get_or s 0 0 < 0x80 → is_cut s ≡ false
  unfolding tails_of
  cut-ascii l = cut_at ∙ rw (lt-ltb (get_or s 0 0) 0x80 l)

  pub cut-no-start : is_start (get_or s 0 0) ≡ false → is_cut s ≡ false
  cut-no-start e = cut_at ∙ rw e

  cut-start : is_start (get_or s 0 0) ≡ true → is_cut s ≡ opens inside (tails_of (get_or s 0 0)) (drop 1 s)
  cut-start e = cut_at ∙ rw e (or-false (opens inside (tails_of (get_or s 0 0)) (drop 1 s)))

  pub cut-long : is_start (get_or s 0 0) ≡ true → suc (length (tails_of (get_or s 0 0))) ≤ length s → is_cut s ≡ false
  cut-long e l = cut-start e ∙ opens-long (tails_of (get_or s 0 0)) (drop 1 s) (rw length-drop (omega arith))

  pub cut_short : is_start (get_or s 0 0) ≡ true → length s < suc (length (tails_of (get_or s 0 0)))
      → is_cut s ≡ fits inside (take (length s - 1) (tails_of (get_or s 0 0))) (drop 1 s)
  cut_short e l =
      cut-start e ∙ opens-short (tails_of (get_or s 0 0)) (drop 1 s) (rw length-drop (omega arith))
      ∙ ap (λ (n : ℕ). fits inside (take n (tails_of (get_or s 0 0))) (drop 1 s)) (length-drop 1 s)

-- The first n bytes, where the character has at least as many.
module _ (s : List ℕ) (n : ℕ) (l : 0x80 ≤ get_or s 0 0) (two : 2 ≤ n) (e : n ≤ suc (length (tails_of (get_or s 0 0)))) where
  tails-of : take (n - 1) (tails_of (get_or s 0 0)) ≡ onward (get_or s 0 0) ∷ replicate (n - 2) (0x80, 0xBF)
  unfolding tails_of
  tails-of =
      let d = get_or s 0 0 in
      let m : ℕ = cond (ltb d 0xE0) 0 (cond (ltb d 0xF0) 1 2) in
      let k : n - 1 ≡ suc (n - 2) = omega arith in
      let h : n - 2 ≤ m = omega (arith, rw (le-ltb d 0x80 l, length-replicate) at e) in
      rw (le-ltb d 0x80 l, k, take-replicate {A = Range} (n - 2) m (0x80, 0xBF) h)

  pub second-tail : 1 < length s
      → fits inside (take (n - 1) (tails_of (get_or s 0 0))) (drop 1 s) ≡ (inside (onward (get_or s 0 0)) (get_or s 1 0) && fits inside (replicate (n - 2) (0x80, 0xBF)) (drop 2 s))
  second-tail h = rw (tails-of, drop-cons s 1 0 h)

-- A byte after the second.
pub next-tail : (s : List ℕ) (n k : ℕ) → k < n → k < length s
    → fits inside (replicate (n - k) (0x80, 0xBF)) (drop k s) ≡ (inside (0x80, 0xBF) (get_or s k 0) && fits inside (replicate (n - suc k) (0x80, 0xBF)) (drop (suc k) s))
next-tail s n k l h = let e : n - k ≡ suc (n - suc k) = omega arith in rw (e, drop-cons s k 0 h)
