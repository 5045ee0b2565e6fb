-- A part whose bytes fit, each after the three before it, is a text and then the bytes of a character that is unfinished: by its characters, each
-- read off its first byte.
-- Assumes nothing.
use mathlib.Core.Bool.{Bool, true, false, cond, ◌&&◌, ◌||◌, and-eq-true_iff}
use mathlib.Core.Path.{◌≡◌, refl, sym, ap, ◌∙◌, subst}
use mathlib.Core.List.{List, [], ◌∷◌, ◌++◌, append_assoc}
use Prim.Native.Nat.{ℕ, zero, suc, ◌+◌, ◌-◌, ◌≤◌, ◌<◌}
use native.Mathlib.Nat.{le_of_suc-le-suc, not-suc-le-zero}
use native.Mathlib.Omega.{arith}
use borrow.Author.Tests.{lt-ltb, le-ltb, le-leb, lt-leb, ne_eqb, ltb-true, ltb-false}
use lib.Dec.{T, eqb, leb, ltb, leb→le}
use lib.ListN.{length, take, drop, get_or, length-append}
use lib.Seq.{take_at}
use Rattle.base.proofs.Part.{window_at}
use Rattle.rules.specs.Bytes.{inside}
use Rattle.rules.specs.Utf8.{IsChar, IsText}
use Rattle.rules.proofs.Tests.{and_right}
use Rattle.utf8.specs.Check.{is_start, onward, tails_of, is_open, pending, fits_after, heads_fit, AllFit, pending_in}
use Rattle.utf8.proofs.Chars.{cond-most, lead-byte, char_of_lem}
use Rattle.utf8.proofs.Texts.{no_text, char-text}

-- ---- the range of the byte that goes on

onward-most : (c d : ℕ) → inside (onward c) d ≡ true → d ≤ 0xBF
onward-most c d e =
    let h = leb→le d (onward c).1 (and_right (leb (onward c).0 d) (leb d (onward c).1) (subst T (sym e) tt)) in
    omega (arith, cond-most (eqb c 0xED) 0x9F (cond (eqb c 0xF4) 0x8F 0xBF) 0xBF (omega arith) (cond-most (eqb c 0xF4) 0x8F 0xBF 0xBF (omega arith) (omega arith)))

-- After a byte that is no first byte it is 80 to BF.
onward-tail : (c d : ℕ) → c ≤ 0xBF → inside (onward c) d ≡ true → inside (0x80, 0xBF) d ≡ true
onward-tail c d h t = rw (ne_eqb c 0xE0 (λ e. omega arith), ne_eqb c 0xF0 (λ e. omega arith), ne_eqb c 0xED (λ e. omega arith), ne_eqb c 0xF4 (λ e. omega arith)) at t

-- ---- the characters

tails1 : (d : ℕ) → d < 0x80 → tails_of d ≡ []
unfolding tails_of
tails1 d h = rw (lt-ltb d 0x80 h)

tails2 : (d : ℕ) → 0x80 ≤ d → d < 0xE0 → tails_of d ≡ onward d ∷ []
unfolding tails_of
tails2 d l h = rw (le-ltb d 0x80 l, lt-ltb d 0xE0 h)

tails3 : (d : ℕ) → 0xE0 ≤ d → d < 0xF0 → tails_of d ≡ onward d ∷ (0x80, 0xBF) ∷ []
unfolding tails_of
tails3 d l h = rw (le-ltb d 0x80 (omega arith), le-ltb d 0xE0 l, lt-ltb d 0xF0 h)

tails4 : (d : ℕ) → 0xF0 ≤ d → tails_of d ≡ onward d ∷ (0x80, 0xBF) ∷ (0x80, 0xBF) ∷ []
unfolding tails_of
tails4 d l = rw (le-ltb d 0x80 (omega arith), le-ltb d 0xE0 (omega arith), le-ltb d 0xF0 l)

-- ---- what fits

pending0 : (a b c : ℕ) → c < 0xC0 → b < 0xE0 → a < 0xF0 → pending a b c ≡ 0
pending0 a b c p q r = rw (lt-leb 0xC0 c p, lt-leb 0xE0 b q, lt-leb 0xF0 a r)

pending1 : (a b c : ℕ) → 0xC0 ≤ c → pending a b c ≡ 1
pending1 a b c p = rw (le-leb 0xC0 c p)

pending2 : (a b c : ℕ) → c ≤ 0xBF → 0xE0 ≤ b → pending a b c ≡ 2
pending2 a b c p q = rw (lt-leb 0xC0 c (omega arith), le-leb 0xE0 b q)

pending3 : (a b c : ℕ) → c ≤ 0xBF → b ≤ 0xBF → 0xF0 ≤ a → pending a b c ≡ 3
pending3 a b c p q r = rw (lt-leb 0xC0 c (omega arith), lt-leb 0xE0 b (omega arith), le-leb 0xF0 a r)

open-pending : (a b c : ℕ) → is_open a b c ≡ ltb 0 (pending a b c)
open-pending a b c = go (leb 0xC0 c) (leb 0xE0 b) (leb 0xF0 a)
  where
    go : (x y z : Bool) → (x || y || z) ≡ ltb 0 (cond x 1 (cond y 2 (cond z 3 0)))
    go true y z = refl
    go false true z = refl
    go false false true = refl
    go false false false = refl

fits-start : (a b c d : ℕ) → pending a b c ≡ 0 → fits_after a b c d ≡ true → is_start d ≡ true
unfolding fits_after
fits-start a b c d e f = rw (open-pending, e) at f

fits_on : (a b c d k : ℕ) → pending a b c ≡ suc k → fits_after a b c d ≡ true → inside (onward c) d ≡ true
unfolding fits_after
fits_on a b c d k e f = rw (open-pending, e, lt-ltb 0 (suc k) (omega arith)) at f

-- ---- the part

-- The part w is a text but for its last l bytes.
pub record Cut (w : List ℕ) (l : ℕ) : Type 0 where
  pub done : List ℕ
  pub rest : List ℕ
  pub splits : w ≡ done ++ rest
  pub valid : IsText done
  pub left : length rest ≡ l

all_left : (w : List ℕ) (l : ℕ) → l ≡ length w → Cut w l
all_left w l e = record { done = []; rest = w; splits = refl; valid = no_text; left = sym e }

more : (a w : List ℕ) (l : ℕ) → IsChar a → Cut w l → Cut (a ++ w) l
more a w l h c =
    record {
      done = a ++ c.done;
      rest = c.rest;
      splits = ap (λ (s : List ℕ). a ++ s) c.splits ∙ sym (append_assoc a c.done c.rest);
      valid = char-text a c.done h c.valid;
      left = c.left;
    }

module _ (k : ℕ) (ih : (a b c : ℕ) (w : List ℕ) → length w ≤ k → c < 0xC0 → b < 0xE0 → a < 0xF0 → AllFit a b c w → Cut w (pending_in a b c w))
    (b c d : ℕ) (hb : b < 0xE0) (hc : c < 0xC0) (s : is_start d ≡ true) where
  -- The second, third and fourth byte from d on.
  on-second : (x : ℕ) → 0xC0 ≤ d → fits_after b c d x ≡ true → (inside (onward d) x ≡ true) × (x ≤ 0xBF)
  on-second x l f = let t = fits_on b c d x 0 (pending1 b c d l) f in (t, onward-most d x t)

  on-third : (x y : ℕ) → 0xE0 ≤ d → x ≤ 0xBF → fits_after c d x y ≡ true → (inside (0x80, 0xBF) y ≡ true) × (y ≤ 0xBF)
  on-third x y l m f = let t = fits_on c d x y 1 (pending2 c d x m l) f in (onward-tail x y m t, onward-most x y t)

  on-fourth : (x y z : ℕ) → 0xF0 ≤ d → x ≤ 0xBF → y ≤ 0xBF → fits_after d x y z ≡ true → (inside (0x80, 0xBF) z ≡ true) × (z ≤ 0xBF)
  on-fourth x y z l m n f = let t = fits_on d x y z 2 (pending3 d x y n m l) f in (onward-tail y z n t, onward-most y z t)

  -- A character of one, two, three and four bytes from d on.
  one_byte : (w : List ℕ) → length w ≤ k → d < 0x80 → AllFit b c d w → Cut (d ∷ w) (pending_in b c d w)
  one_byte w h u f = more (d ∷ []) w _ (char_of_lem d [] s (rw (tails1 d u)) (rw (tails1 d u))) (ih b c d w h (omega arith) (omega arith) (omega arith) f)

  two_bytes : (w : List ℕ) → length w ≤ k → 0xC0 ≤ d → d < 0xE0 → AllFit b c d w → Cut (d ∷ w) (pending_in b c d w)
  two_bytes [] h l u f = all_left (d ∷ []) _ (pending1 b c d l)
  two_bytes (x ∷ w) h l u f =
      let (t, m) = on-second x l f.0 in
      let e = tails2 d (omega arith) u in
      more (d ∷ x ∷ []) w _ (char_of_lem d (x ∷ []) s (rw (e, t)) (rw e)) (ih c d x w (omega arith) (omega arith) u (omega arith) f.1)

  three-bytes : (w : List ℕ) → length w ≤ k → 0xE0 ≤ d → d < 0xF0 → AllFit b c d w → Cut (d ∷ w) (pending_in b c d w)
  three-bytes [] h l u f = all_left (d ∷ []) _ (pending1 b c d (omega arith))
  three-bytes (x ∷ []) h l u f = let (t, m) = on-second x (omega arith) f.0 in all_left (d ∷ x ∷ []) _ (pending2 c d x m l)
  three-bytes (x ∷ y ∷ w) h l u f =
      let (t, m) = on-second x (omega arith) f.0 in
      let (t', m') = on-third x y l m f.1.0 in
      let e = tails3 d l u in
      more (d ∷ x ∷ y ∷ []) w _ (char_of_lem d (x ∷ y ∷ []) s (rw (e, t, t')) (rw e)) (ih d x y w (omega arith) (omega arith) (omega arith) u f.1.1)

  four_bytes : (w : List ℕ) → length w ≤ k → 0xF0 ≤ d → AllFit b c d w → Cut (d ∷ w) (pending_in b c d w)
  four_bytes [] h l f = all_left (d ∷ []) _ (pending1 b c d (omega arith))
  four_bytes (x ∷ []) h l f = let (t, m) = on-second x (omega arith) f.0 in all_left (d ∷ x ∷ []) _ (pending2 c d x m (omega arith))
  four_bytes (x ∷ y ∷ []) h l f =
      let (t, m) = on-second x (omega arith) f.0 in
      let (t', m') = on-third x y (omega arith) m f.1.0 in
      all_left (d ∷ x ∷ y ∷ []) _ (pending3 d x y m' m l)
  four_bytes (x ∷ y ∷ z ∷ w) h l f =
      let (t, m) = on-second x (omega arith) f.0 in
      let (t', m') = on-third x y (omega arith) m f.1.0 in
      let (t'', m'') = on-fourth x y z l m m' f.1.1.0 in
      let e = tails4 d l in
      more (d ∷ x ∷ y ∷ z ∷ []) w _ (char_of_lem d (x ∷ y ∷ z ∷ []) s (rw (e, t, t', t'')) (rw e))
      (ih x y z w (omega arith) (omega arith) (omega arith) (omega arith) f.1.1.1)

  any-bytes : (w : List ℕ) → length w ≤ k → AllFit b c d w → Cut (d ∷ w) (pending_in b c d w)
  any-bytes w h f = go (ltb d 0x80) refl (ltb d 0xE0) refl (ltb d 0xF0) refl
    where
      go : (p : Bool) → ltb d 0x80 ≡ p → (q : Bool) → ltb d 0xE0 ≡ q → (r : Bool) → ltb d 0xF0 ≡ r → Cut (d ∷ w) (pending_in b c d w)
      go true e q e' r e'' = one_byte w h (ltb-true d 0x80 e) f
      go false e true e' r e'' = two_bytes w h (omega (arith, (lead-byte d (ltb-false d 0x80 e) s).0)) (ltb-true d 0xE0 e') f
      go false e false e' true e'' = three-bytes w h (ltb-false d 0xE0 e') (ltb-true d 0xF0 e'') f
      go false e false e' false e'' = four_bytes w h (ltb-false d 0xF0 e'') f

cut : (k a b c : ℕ) (w : List ℕ) → length w ≤ k → c < 0xC0 → b < 0xE0 → a < 0xF0 → AllFit a b c w → Cut w (pending_in a b c w)
cut zero a b c [] h p q r f = all_left [] _ (pending0 a b c p q r)
cut zero a b c (d ∷ w) h p q r f = absurd (not-suc-le-zero h)
cut (suc k) a b c [] h p q r f = all_left [] _ (pending0 a b c p q r)
cut (suc k) a b c (d ∷ w) h p q r f =
    any-bytes k (λ a b c w h p q r f. cut k a b c w h p q r f) b c d q p (fits-start a b c d (pending0 a b c p q r) f.0) w (le_of_suc-le-suc h) f.1

-- A part that fits is a text but for the bytes of an unfinished character.
pub fit-text : (w : List ℕ) (n : ℕ) → n ≡ pending_in 0 0 0 w → AllFit 0 0 0 w → IsText (take (length w - n) w)
fit-text w n e f =
    let c = cut (length w) 0 0 0 w (omega arith) (omega arith) (omega arith) (omega arith) f in
    let l : length c.done ≡ length w - n = omega (arith, c.left, e, rw length-append at (ap length c.splits)) in
    let t : take (length w - n) w ≡ c.done = ap (take (length w - n)) c.splits ∙ take_at c.done c.rest (length w - n) l in
    rw t c.valid

-- ---- by place

-- What is pending at the end of a part, by its last three bytes.
last-three : (n a b c : ℕ) (w : List ℕ) → length w ≡ suc (suc (suc n)) → pending_in a b c w ≡ pending (get_or w n 0) (get_or w (suc n) 0) (get_or w (suc (suc n)) 0)
last-three zero a b c [] e = absurd (omega arith)
last-three zero a b c (x ∷ []) e = absurd (omega arith)
last-three zero a b c (x ∷ y ∷ []) e = absurd (omega arith)
last-three zero a b c (x ∷ y ∷ z ∷ []) e = refl
last-three zero a b c (x ∷ y ∷ z ∷ v ∷ w) e = absurd (omega arith)
last-three (suc n) a b c [] e = absurd (omega arith)
last-three (suc n) a b c (x ∷ w) e = last-three n b c x w (omega arith)

pub pending-at : (w : List ℕ) → 3 ≤ length w → pending_in 0 0 0 w ≡ pending (get_or w (length w - 3) 0) (get_or w (length w - 2) 0) (get_or w (length w - 1) 0)
pending-at w h =
    let n = length w - 3 in
    let e : length w - 2 ≡ suc n = omega arith in
    let f : length w - 1 ≡ suc (suc n) = omega arith in
    rw (e, f) (last-three n 0 0 0 w (omega arith))

-- The byte three after place k fits.
abbrev pub FitsAt : List ℕ → ℕ → Type 0
FitsAt w k = fits_after (get_or w k 0) (get_or w (suc k) 0) (get_or w (suc (suc k)) 0) (get_or w (suc (suc (suc k))) 0) ≡ true

-- A window of four bytes from place k on.
pub fits-window : (w v : List ℕ) (k : ℕ) → v ≡ take 4 (drop k w) → fits_after (get_or v 0 0) (get_or v 1 0) (get_or v 2 0) (get_or v 3 0) ≡ true → FitsAt w k
fits-window w v k e f = rw (at 0 k (omega arith) (omega arith), at 1 (suc k) (omega arith) (omega arith), at 2 (suc (suc k)) (omega arith) (omega arith), at 3 (suc (suc (suc k))) (omega arith) (omega arith)) at f
  where
    at : (j i : ℕ) → j < 4 → k + j ≡ i → get_or v j 0 ≡ get_or w i 0
    at j i h s = window_at w v k 4 j e h ∙ ap (λ (n : ℕ). get_or w n 0) s

all_from : (a b c : ℕ) (w : List ℕ) → ((k : ℕ) → k < length w → FitsAt (a ∷ b ∷ c ∷ w) k) → AllFit a b c w
all_from a b c [] f = tt
all_from a b c (d ∷ w) f = (f 0 (omega arith), all_from b c d w (λ k h. f (suc k) (omega arith)))

-- Bytes that fit, place by place, are a part that fits.
pub all_fit : (w : List ℕ) → 3 ≤ length w → heads_fit w ≡ true → ((k : ℕ) → k + 3 < length w → FitsAt w k) → AllFit 0 0 0 w
all_fit [] h e f = absurd (omega arith)
all_fit (x ∷ []) h e f = absurd (omega arith)
all_fit (x ∷ y ∷ []) h e f = absurd (omega arith)
all_fit (x ∷ y ∷ z ∷ w) h e f =
    let (p, r) = (and-eq-true_iff (fits_after 0 0 0 x && fits_after 0 0 x y) (fits_after 0 x y z)).0 e in
    let (p, q) = (and-eq-true_iff (fits_after 0 0 0 x) (fits_after 0 0 x y)).0 p in
    (p, (q, (r, all_from x y z w (λ k l. f k (omega arith)))))
