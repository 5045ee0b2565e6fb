-- Numbers under a ceiling: what is above every character's number stays above it, and every number above stands for the same, so that the
-- ceiling may take its place at each digit.
-- Assumes nothing.
use mathlib.Core.Bool.{Bool, true, false, not, cond}
use mathlib.Core.Logic.{◌⊎◌, inl, inr}
use mathlib.Core.Option.{Option, none, some, some-ne-none}
use mathlib.Core.Path.{◌≡◌, refl, sym, ap, ◌∙◌}
use mathlib.Core.List.{List, [], ◌∷◌}
use Prim.Native.Nat.{ℕ, ◌+◌, ◌*◌, ◌≤◌, ◌<◌}
use native.Mathlib.Nat.{le-mul_of_pos_right}
use native.Mathlib.Omega.{arith}
use borrow.Author.Tests.{leb-true, leb-false, lt-leb}
use lib.Dec.{T, leb, leb→le}
use lib.ListN.{length}
use Rattle.rules.specs.Bytes.{inside}
use Rattle.rules.specs.References.{digits, number, number_of, scalar, decode_char, why_digits, why}
use Rattle.rules.specs.declared.Reason.TheVariants.{Empty, NoDigit, NotAllowed}
use Rattle.rules.proofs.Reasons.{number-body}
use Rattle.rules.proofs.Tests.{and_left}
use Rattle.decode_html.specs.Taking.{char_of}
use Rattle.decode_html.specs.Digits.{ceiling_of, capped}

-- ---- the ceiling

more : (a base k : ℕ) → 1 ≤ base → 0x10FFFF < a → 0x10FFFF < a * base + k
more a base k h l = omega (arith, le-mul_of_pos_right a h)

above : (d : ℕ → Option ℕ) (base a b : ℕ) (s : List ℕ) → 1 ≤ base → 0x10FFFF < a → 0x10FFFF < b → capped (digits d base a s) ≡ capped (digits d base b s)
above d base a b [] h l m = rw (lt-leb a 0x10FFFF l, lt-leb b 0x10FFFF m)
above d base a b (x ∷ s) h l m = go (d x) (λ k. above d base (a * base + k) (b * base + k) s h (more a base k h l) (more b base k h m))
  where
    go : (o : Option ℕ) → ((k : ℕ) → capped (digits d base (a * base + k) s) ≡ capped (digits d base (b * base + k) s))
        → capped (elim o [ none ↦ none | some k ↦ digits d base (a * base + k) s ]) ≡ capped (elim o [ none ↦ none | some k ↦ digits d base (b * base + k) s ])
    go none ih = refl
    go (some k) ih = ih k

-- At each digit the ceiling may take the number's place.
pub capped-digits : (d : ℕ → Option ℕ) (base n : ℕ) (s : List ℕ) → 1 ≤ base → capped (digits d base (ceiling_of n) s) ≡ capped (digits d base n s)
capped-digits d base n s h = go (leb n 0x10FFFF) refl
  where
    go : (x : Bool) → leb n 0x10FFFF ≡ x → capped (digits d base (cond x n 0x110000) s) ≡ capped (digits d base n s)
    go true e = refl
    go false e = above d base 0x110000 n s h (omega arith) (leb-false n 0x10FFFF e)

pub ceiling-most : (n : ℕ) → ceiling_of n ≤ 0x110000
ceiling-most n = go (leb n 0x10FFFF) refl
  where
    go : (x : Bool) → leb n 0x10FFFF ≡ x → cond x n 0x110000 ≤ 0x110000
    go true e = omega (arith, leb-true n 0x10FFFF e)
    go false e = omega arith

-- A number under it stays.
pub ceiling-same : (n : ℕ) → n ≤ 0x110000 → ceiling_of n ≡ n
ceiling-same n h = go (leb n 0x10FFFF) refl
  where
    go : (x : Bool) → leb n 0x10FFFF ≡ x → cond x n 0x110000 ≡ n
    go true e = refl
    go false e = omega (arith, leb-false n 0x10FFFF e)

-- ---- digits

-- Either base is a number from 1 to 16.
pub base-some : (base : ℕ) → (base ≡ 10) ⊎ (base ≡ 16) → 1 ≤ base
base-some base (inl e) = omega arith
base-some base (inr e) = omega arith

pub base-small : (base : ℕ) → (base ≡ 10) ⊎ (base ≡ 16) → base ≤ 16
base-small base (inl e) = omega arith
base-small base (inr e) = omega arith

pub base-most : (base n : ℕ) → (base ≡ 10) ⊎ (base ≡ 16) → n ≤ 0x110000 → n * base ≤ 0x1100000
base-most base n (inl e) h = rw e (omega arith)
base-most base n (inr e) h = rw e (omega arith)

pub number-none : (d : ℕ → Option ℕ) (base : ℕ) (s : List ℕ) → length s ≡ 0 → number d base s ≡ none
number-none d base [] h = refl
number-none d base (b ∷ s) h = absurd (omega arith)

pub number-some : (d : ℕ → Option ℕ) (base : ℕ) (s : List ℕ) → (length s ≡ 0 → ⊥) → number d base s ≡ digits d base 0 s
number-some d base [] h = absurd (h refl)
number-some d base (b ∷ s) h = refl

-- The reasons of digits that stand for nothing.
pub why-none : (d : ℕ → Option ℕ) (base : ℕ) (s : List ℕ) → length s ≡ 0 → Empty ≡ why_digits d base s
why-none d base [] h = refl
why-none d base (b ∷ s) h = absurd (omega arith)

pub why-undigit : (d : ℕ → Option ℕ) (base : ℕ) (s : List ℕ) → (length s ≡ 0 → ⊥) → digits d base 0 s ≡ none → NoDigit ≡ why_digits d base s
why-undigit d base [] h e = absurd (h refl)
why-undigit d base (b ∷ s) h e = sym (ap (λ (o : Option ℕ). elim o [ none ↦ NoDigit | some n ↦ NotAllowed ]) e)

-- A body that is a number is one that is not allowed.
pub why-number : (body : List ℕ) (n : ℕ) → some n ≡ capped (number_of body) → NotAllowed ≡ why body
why-number body n e = go (number_of body) refl e
  where
    go : (o : Option ℕ) → number_of body ≡ o → some n ≡ capped o → NotAllowed ≡ why body
    go none f e = absurd (some-ne-none n e)
    go (some m) f e = sym (number-body body m f)

-- ---- characters

pub scalar-most : (n : ℕ) → T (scalar n) → n ≤ 0x10FFFF
scalar-most n t = leb→le n 0x10FFFF (and_left (leb n 0x10FFFF) (not (inside (0xD800, 0xDFFF) n)) t)

-- Every number above the last character's stands for the same.
char-capped : (o : Option ℕ) → char_of decode_char (capped o) ≡ char_of decode_char o
char-capped none = refl
char-capped (some n) = go (leb n 0x10FFFF) refl
  where
    go : (x : Bool) → leb n 0x10FFFF ≡ x → decode_char (cond x n 0x110000) ≡ decode_char n
    go true e = refl
    go false e = rw e

-- So what the digit reader finds stands for what the digits make.
pub found-char : (n : ℕ) (o : Option ℕ) → some n ≡ capped o → decode_char n ≡ char_of decode_char o
found-char n o e = ap (char_of decode_char) e ∙ char-capped o
