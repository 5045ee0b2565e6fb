-- What script_raw wrote it leaves as it is: a backslash only ever follows a `<`, and what is parted from a `<` has none, so that the same bytes are
-- parted before and after; but behind a parted `<` is a backslash now.
-- Assumes nothing.
use mathlib.Core.Bool.{Bool, true, false, not, ◌&&◌, ◌||◌, cond}
use mathlib.Core.Path.{◌≡◌, refl, sym, ap, ◌∙◌}
use mathlib.Core.List.{List, [], ◌∷◌, ◌++◌, map}
use Prim.Native.Nat.{ℕ, suc, pred}
use native.Mathlib.Nat.{suc-ne-zero, suc_inj}
use borrow.Author.Tests.{eqb-true, eqb-false, eq-eqb, ne_eqb}
use lib.Dec.{T, eqb}
use lib.ListN.{length}
use Rattle.rules.specs.Bytes.{ascii, is, all, fits, one_of}
use Rattle.rules.specs.Moves.{Move, keep, swap, takes, gives, and_then, moves, through, result, replaced}
use Rattle.rules.specs.Encoding.{any_case, terminators, closes_at_end, parted, raw_step}
use Rattle.rules.specs.Operations.{raw_of}
use Rattle.rules.proofs.Laws.{raw_same}

-- ---- byte by byte

-- A backslash goes in after the byte b, where s follows.
abbrev pub marked : ℕ → List ℕ → Bool
marked b s = is "<" b && parted s

marked-less : (b : ℕ) (s : List ℕ) → marked b s ≡ true → b ≡ 60
marked-less b s m = eqb-true b 60 (go (is "<" b) m)
  where
    go : (x : Bool) → (x && parted s) ≡ true → x ≡ true
    go true z = refl
    go false z = z

abbrev pub raw_move : Bool → ℕ → Move
raw_move x b = cond x (swap (b ∷ []) (b ∷ ascii "\\")) (keep (b ∷ []))

raw-moves : (p b : ℕ) (s : List ℕ) → moves raw_step p 0 (b ∷ s) ≡ raw_move (marked b s) b ∷ moves raw_step b 0 s
unfolding raw_step
raw-moves p b s = go (marked b s)
  where
    go : (x : Bool) → and_then (raw_move x b) (moves raw_step b (pred (length (takes (raw_move x b)))) s) ≡ raw_move x b ∷ moves raw_step b 0 s
    go true = refl
    go false = refl

pub raw-through : (b : ℕ) (s : List ℕ) → through raw_step (b ∷ s) ≡ raw_move (marked b s) b ∷ through raw_step s
raw-through b s = raw-moves 0 b s ∙ ap (λ (ms : List Move). raw_move (marked b s) b ∷ ms) (go s)
  where
    go : (s : List ℕ) → moves raw_step b 0 s ≡ through raw_step s
    go [] = refl
    go (c ∷ s) = raw-moves b c s ∙ sym (raw-moves 0 c s)

-- What is written for a byte.
abbrev pub piece : Bool → ℕ → List ℕ
piece true b = b ∷ ascii "\\"
piece false b = b ∷ []

pub raw-cons : (b : ℕ) (s : List ℕ) → raw_of (b ∷ s) ≡ piece (marked b s) b ++ raw_of s
raw-cons b s = ap result (raw-through b s) ∙ go (marked b s)
  where
    go : (x : Bool) → gives (raw_move x b) ++ raw_of s ≡ piece x b ++ raw_of s
    go true = refl
    go false = refl

-- How many backslashes go in.
abbrev pub marks : List ℕ → ℕ
marks s = replaced (through raw_step s)

abbrev pub tally : Bool → ℕ → ℕ
tally true n = suc n
tally false n = n

pub marks-cons : (b : ℕ) (s : List ℕ) → marks (b ∷ s) ≡ tally (marked b s) (marks s)
marks-cons b s = ap replaced (raw-through b s) ∙ go (marked b s)
  where
    go : (x : Bool) → replaced (raw_move x b ∷ through raw_step s) ≡ tally x (marks s)
    go true = refl
    go false = refl

-- ---- what is parted stays so

eqb-suc : (m n : ℕ) → eqb (suc m) (suc n) ≡ eqb m n
eqb-suc m n = go (eqb m n) refl
  where
    go : (x : Bool) → eqb m n ≡ x → eqb (suc m) (suc n) ≡ x
    go true e = eq-eqb (suc m) (suc n) (ap suc (eqb-true m n e))
    go false e = ne_eqb (suc m) (suc n) (λ q. eqb-false m n e (suc_inj q))

module _ {B : Type 0} (m : B → ℕ → Bool) where
  -- No item takes a `<`.
  abbrev pub less_free : List B → Bool
  less_free p = all (λ (a : B). not (m a 60)) p

  fits-raw : (p : List B) (s : List ℕ) → T (less_free p) → fits m p (raw_of s) ≡ fits m p s
  fits-raw [] s f = refl
  fits-raw (a ∷ p) [] f = refl
  fits-raw (a ∷ p) (b ∷ s) f = ap (fits m (a ∷ p)) (raw-cons b s) ∙ go (marked b s) refl (m a 60) refl f (fits-raw p s)
    where
      go : (x : Bool) → marked b s ≡ x → (y : Bool) → m a 60 ≡ y → T (not y && less_free p) → (T (less_free p) → fits m p (raw_of s) ≡ fits m p s)
          → fits m (a ∷ p) (piece x b ++ raw_of s) ≡ fits m (a ∷ p) (b ∷ s)
      go x e true g f ih = absurd f
      go true e false g f ih = rw (marked-less b s e, g)
      go false e false g f ih = ap (λ (z : Bool). m a b && z) (ih f)

  -- The whole of the text fits.
  abbrev whole : List B → List ℕ → Bool
  whole [] [] = true
  whole [] (x ∷ s) = false
  whole (a ∷ p) [] = false
  whole (a ∷ p) (x ∷ s) = m a x && whole p s

  whole-raw : (p : List B) (s : List ℕ) → T (less_free p) → whole p (raw_of s) ≡ whole p s
  whole-raw [] [] f = refl
  whole-raw [] (b ∷ s) f = ap (whole []) (raw-cons b s) ∙ go (marked b s)
    where
      go : (x : Bool) → whole [] (piece x b ++ raw_of s) ≡ false
      go true = refl
      go false = refl
  whole-raw (a ∷ p) [] f = refl
  whole-raw (a ∷ p) (b ∷ s) f = ap (whole (a ∷ p)) (raw-cons b s) ∙ go (marked b s) refl (m a 60) refl f (whole-raw p s)
    where
      go : (x : Bool) → marked b s ≡ x → (y : Bool) → m a 60 ≡ y → T (not y && less_free p) → (T (less_free p) → whole p (raw_of s) ≡ whole p s)
          → whole (a ∷ p) (piece x b ++ raw_of s) ≡ whole (a ∷ p) (b ∷ s)
      go x e true g f ih = absurd f
      go true e false g f ih = rw (marked-less b s e, g)
      go false e false g f ih = ap (λ (z : Bool). m a b && z) (ih f)

  fits_whole : (p : List B) (s : List ℕ) → (fits m p s && eqb (length s) (length p)) ≡ whole p s
  fits_whole [] [] = refl
  fits_whole [] (x ∷ s) = ne_eqb (suc (length s)) 0 (suc-ne-zero (length s))
  fits_whole (a ∷ p) [] = refl
  fits_whole (a ∷ p) (x ∷ s) = go (m a x) (fits_whole p s)
    where
      go : (y : Bool) → (fits m p s && eqb (length s) (length p)) ≡ whole p s → ((y && fits m p s) && eqb (length (x ∷ s)) (length (a ∷ p))) ≡ (y && whole p s)
      go true h = ap (λ (z : Bool). fits m p s && z) (eqb-suc (length s) (length p)) ∙ h
      go false h = refl

parted-raw : (s : List ℕ) → parted (raw_of s) ≡ parted s
parted-raw s =
    let tag = map any_case (ascii "/script") in
    let e : closes_at_end (ascii "/script") (raw_of s) ≡ closes_at_end (ascii "/script") s =
    fits_whole one_of tag (raw_of s) ∙ whole-raw one_of tag s tt ∙ sym (fits_whole one_of tag s) in
    λ i. (fits-raw eqb (ascii "!--") s tt i || fits-raw one_of (map any_case (ascii "/script") ++ terminators ∷ []) s tt i) || e i

-- ---- the laws

-- Nothing is replaced in what was written.
pub raw-quiet : (s : List ℕ) → marks (raw_of s) ≡ 0
raw-quiet [] = refl
raw-quiet (b ∷ s) = ap marks (raw-cons b s) ∙ go (marked b s) refl (raw-quiet s)
  where
    less : (r : List ℕ) → marks (60 ∷ 92 ∷ r) ≡ marks r
    less r = marks-cons 60 (92 ∷ r) ∙ marks-cons 92 r

    go : (x : Bool) → marked b s ≡ x → marks (raw_of s) ≡ 0 → marks (piece x b ++ raw_of s) ≡ 0
    go true e ih = ap (λ (x : ℕ). marks (piece true x ++ raw_of s)) (marked-less b s e) ∙ less (raw_of s) ∙ ih
    go false e ih = marks-cons b (raw_of s) ∙ rw (parted-raw s, e) ih

-- To encode it again changes nothing.
pub raw-again : (s : List ℕ) → raw_of (raw_of s) ≡ raw_of s
raw-again s = (raw_same (raw_of s)).0 (raw-quiet s)
