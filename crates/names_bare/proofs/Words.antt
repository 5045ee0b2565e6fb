-- The numbers are those of the names: computed over each name, and over each number. A text whose first bytes are spelled by a number takes one byte more.
-- Assumes nothing.
use mathlib.Core.Bool.{Bool, true, false, ◌&&◌, cond}
use mathlib.Core.Logic.{inl, inr}
use mathlib.Core.Path.{◌≡◌, refl, sym, ap, ◌∙◌, subst}
use mathlib.Core.List.{List, [], ◌∷◌, ◌++◌}
use Prim.Native.Nat.{ℕ, suc, ◌*◌, ◌+◌, ◌/◌, ◌%◌, ◌≤◌, ◌<◌}
use native.Mathlib.Omega.{arith}
use borrow.Author.Tests.{eqb-true}
use lib.Dec.{T, eqb, ltb, eqb→eq}
use lib.ListN.{length, take, get_or}
use lib.Seq.{take-suc, length-take-le, take-append-le, take-append_seam}
use Rattle.rules.specs.Bytes.{In, all, any, stands, same_bytes}
use Rattle.rules.specs.Names.{names}
use Rattle.rules.specs.References.{lookup}
use Rattle.rules.specs.Utf8.{utf8}
use Rattle.rules.specs.Bare.{bare}
use Rattle.rules.specs.Browsing.{given}
use Rattle.rules.proofs.Tests.{and_left, and_right, all_in, any-in, same_bytes_lem, stands-split}
use Rattle.names_bare.specs.Heads.{word_of, spell, Bounded, Spelled}
use Rattle.names_bare.specs.Words.{char_for, words, heads}

-- ---- the tables

-- The number of a name.
abbrev key_of : List ℕ → ℕ
key_of name = word_of 0 name * 8 + length name

abbrev numbered : List ℕ → Bool
numbered name = ltb 0 (char_for words (key_of name)) && same_bytes (utf8 (char_for words (key_of name))) (given (lookup names name))

bare-numbered : T (all numbered bare)
unfolding bare names words
bare-numbered = tt

abbrev is_name : ℕ × ℕ → Bool
is_name pair = any (same_bytes (spell (pair.0 % 8) (pair.0 / 8))) bare

words-named : T (all is_name words)
unfolding bare words
words-named = tt

abbrev begun : List ℕ → Bool
begun name = any (eqb (word_of 0 (take 2 name))) heads

heads-begin : T (all begun bare)
unfolding bare heads
heads-begin = tt

-- What is looked up is a pair.
in_pairs : (pairs : List (ℕ × ℕ)) (n v : ℕ) → v ≡ char_for pairs n → (v ≡ 0 → ⊥) → In (n, v) pairs
in_pairs [] n v e h = absurd (h e)
in_pairs (pair ∷ pairs) n v e h = go (eqb n pair.0) refl e (λ f. in_pairs pairs n v f h)
  where
    go : (b : Bool) → eqb n pair.0 ≡ b → v ≡ cond b pair.1 (char_for pairs n) → (v ≡ char_for pairs n → In (n, v) pairs) → In (n, v) (pair ∷ pairs)
    go true f e ih = inl (λ i. (eqb-true n pair.0 f i, e i))
    go false f e ih = inr (ih e)

-- ---- one byte more

word_more : (w b : ℕ) (s : List ℕ) → word_of w (s ++ b ∷ []) ≡ word_of w s * 256 + b
word_more w b [] = refl
word_more w b (x ∷ s) = word_more (w * 256 + x) b s

bounded-more : (n w b : ℕ) → b < 256 → Bounded n w → Bounded (n + 1) (w * 256 + b)
bounded-more n w b h k = record {
  none = λ l. absurd (omega (arith, l));
  one = λ l. let z = k.none (omega (arith, l)) in omega (arith, h, z);
  two = λ l. let z = k.one (omega (arith, l)) in omega (arith, h, z);
  three = λ l. let z = k.two (omega (arith, l)) in omega (arith, h, z);
  four = λ l. let z = k.three (omega (arith, l)) in omega (arith, h, z);
  five = λ l. let z = k.four (omega (arith, l)) in omega (arith, h, z);
  six = λ l. let z = k.five (omega (arith, l)) in omega (arith, h, z);
}

module _ (t : List ℕ) where
  nothing_yet : Spelled t 0 0
  nothing_yet = record {
    within = omega arith;
    bounded = record { none = λ l. omega arith; one = λ l. omega arith; two = λ l. omega arith; three = λ l. omega arith; four = λ l. omega arith; five = λ l. omega arith; six = λ l. omega arith };
    word = refl;
    bytes = refl;
  }

  pub spelled-more : (n w b : ℕ) → Spelled t n w → n < length t → b ≡ get_or t n 0 → b < 256 → Spelled t (n + 1) (w * 256 + b)
  spelled-more n w b s l e h =
      let one : n + 1 ≡ suc n = omega arith in
      let d : (w * 256 + b) / 256 ≡ w = omega arith in
      let m : (w * 256 + b) % 256 ≡ b = omega arith in
      let next : take (suc n) t ≡ take n t ++ b ∷ [] = take-suc t n 0 l ∙ ap (λ (x : ℕ). take n t ++ x ∷ []) (sym e) in
      record {
        within = omega arith;
        bounded = bounded-more n w b h s.bounded;
        word = ap (λ (x : ℕ). x * 256 + b) s.word ∙ sym (word_more 0 b (take n t)) ∙ ap (word_of 0) (sym next) ∙ ap (λ (k : ℕ). word_of 0 (take k t)) (sym one);
        bytes = rw one (rw (d, m) (ap (λ (a : List ℕ). a ++ b ∷ []) s.bytes ∙ sym next));
      }

  -- The first two.
  pub spelled-two : (a b : ℕ) → 2 ≤ length t → a ≡ get_or t 0 0 → b ≡ get_or t 1 0 → a < 256 → b < 256 → Spelled t 2 (a * 256 + b)
  spelled-two a b l e f h k =
      let z : 0 * 256 + a ≡ a = omega arith in
      subst (λ (x : ℕ). Spelled t 2 (x * 256 + b)) z (spelled-more 1 (0 * 256 + a) b (spelled-more 0 0 a nothing_yet (omega arith) e h) (omega arith) f k)

  -- ---- what the tables say of it

  -- A name that stands at the head of the text is its first bytes.
  stands-take : (name : List ℕ) → T (stands name t) → take (length name) t ≡ name
  stands-take name s = let (r, e) = stands-split name t s in ap (take (length name)) e ∙ take-append_seam name r

  module _ (n w : ℕ) (s : Spelled t n w) where
    key : key_of (take n t) ≡ w * 8 + n
    key = (λ i. sym s.word i * 8 + length-take-le n t s.within i)

    -- It is a name: the number says which, and its character.
    pub found : (v : ℕ) → v ≡ char_for words (w * 8 + n) → (v ≡ 0 → ⊥) → n ≤ 6 → In (take n t) bare × (utf8 v ≡ given (lookup names (take n t)))
    found v e h l =
        let d : (w * 8 + n) / 8 ≡ w = omega arith in
        let m : (w * 8 + n) % 8 ≡ n = omega arith in
        let (name, i, same) = any-in (same_bytes (spell ((w * 8 + n) % 8) ((w * 8 + n) / 8))) bare (all_in is_name words words-named (w * 8 + n, v) (in_pairs words (w * 8 + n) v e h)) in
        let is : take n t ≡ name = sym s.bytes ∙ (λ j. spell (sym m j) (sym d j)) ∙ same_bytes_lem (spell ((w * 8 + n) % 8) ((w * 8 + n) / 8)) name same in
        let here : In (take n t) bare = subst (λ (a : List ℕ). In a bare) (sym is) i in
        let value = same_bytes_lem (utf8 (char_for words (key_of (take n t)))) (given (lookup names (take n t))) (and_right (ltb 0 (char_for words (key_of (take n t)))) (same_bytes (utf8 (char_for words (key_of (take n t)))) (given (lookup names (take n t)))) (all_in numbered bare bare-numbered (take n t) here)) in
        (here, ap utf8 (e ∙ ap (char_for words) (sym key)) ∙ value)

    -- It is none: no name of so many bytes stands there.
    pub missed : char_for words (w * 8 + n) ≡ 0 → (name : List ℕ) → In name bare → length name ≡ n → T (stands name t) → ⊥
    missed e name i l u =
        let is : take n t ≡ name = ap (λ (k : ℕ). take k t) (sym l) ∙ stands-take name u in
        let zero : char_for words (key_of name) ≡ 0 = ap (λ (a : List ℕ). char_for words (key_of a)) (sym is) ∙ ap (char_for words) key ∙ e in
        subst (λ (x : ℕ). T (ltb 0 x)) zero (and_left (ltb 0 (char_for words (key_of name))) (same_bytes (utf8 (char_for words (key_of name))) (given (lookup names name))) (all_in numbered bare bare-numbered name i))

  -- The first two bytes begin none.
  pub unbegun : (w : ℕ) → Spelled t 2 w → (In w heads → ⊥) → (name : List ℕ) → In name bare → 2 ≤ length name → T (stands name t) → ⊥
  unbegun w s h name i l u =
      let (r, e) = stands-split name t u in
      let two : take 2 t ≡ take 2 name = ap (take 2) e ∙ take-append-le 2 name r l in
      let (x, j, same) = any-in (eqb (word_of 0 (take 2 name))) heads (all_in begun bare heads-begin name i) in
      h (subst (λ (k : ℕ). In k heads) (sym (s.word ∙ ap (word_of 0) two ∙ eqb→eq (word_of 0 (take 2 name)) x same)) j)
