-- Laws of what a reader finds: a table's rows may be read part by part, and rows that a byte each stands for by finding that byte.
-- Assumes nothing.
use mathlib.Core.Bool.{Bool, true, false, ◌&&◌}
use mathlib.Core.Option.{Option, none, some}
use mathlib.Core.Path.{◌≡◌, refl, sym, ap, ◌∙◌, subst}
use mathlib.Core.List.{List, [], ◌∷◌, ◌++◌, map}
use Prim.Native.Nat.{ℕ, suc, ◌+◌, ◌<◌}
use native.Mathlib.Omega.{arith}
use lib.Dec.{T, leb, ltb, eqb, leb→le, ltb→lt, eqb→eq}
use lib.ListN.{length, take, length-append}
use lib.Seq.{take-append_seam, take_at}
use borrow.Author.Tests.{lt-ltb}
use Rattle.rules.specs.Bytes.{In, all, stands, one_of}
use Rattle.rules.specs.Moves.{Move, swap}
use Rattle.rules.specs.Utf8.{utf8}
use Rattle.rules.specs.Tables.{Row, row_at, key, value}
use Rattle.rules.specs.Reading.{undo}
use Rattle.std.specs.Prelude.{Option as Maybe, Some, None}
use Rattle.rules.specs.declared.Escape.{Escape}
use Rattle.rules.proofs.Tests.{and_left, and_right, all_in, any-in, first-sound, none-fits, in_map, map-in, stands-split}
use Rattle.decode_strings.specs.Finds.{Finds}
use Rattle.rules.specs.Answers.{escape_for}

-- ---- part by part

undo-append : (xs ys : List Row) (s : List ℕ) (other : Move) → undo (row_at value (xs ++ ys) s) other ≡ undo (row_at value xs s) (undo (row_at value ys s) other)
undo-append [] ys s other = refl
undo-append (e ∷ xs) ys s other = go (stands (value e) s) (undo-append xs ys s other)
  where
    go : (b : Bool) → undo (row_at value (xs ++ ys) s) other ≡ undo (row_at value xs s) (undo (row_at value ys s) other)
        → undo (elim b [ true ↦ some e | false ↦ row_at value (xs ++ ys) s ]) other
        ≡ undo (elim b [ true ↦ some e | false ↦ row_at value xs s ]) (undo (row_at value ys s) other)
    go true ih = refl
    go false ih = ih

-- What is found in the first part counts.
pub finds-first : (xs ys : List Row) {s : List ℕ} {e : Escape} → Finds xs s (Some e) → Finds (xs ++ ys) s (Some e)
finds-first xs ys {s} f = record { undoes = λ other. undo-append xs ys s other ∙ f.undoes (undo (row_at value ys s) other); within = f.within }

-- Where nothing is, the second part counts.
pub undo-second : (xs ys : List Row) (s : List ℕ) (other : Move) → Finds xs s None → undo (row_at value (xs ++ ys) s) other ≡ undo (row_at value ys s) other
undo-second xs ys s other f = undo-append xs ys s other ∙ f.undoes (undo (row_at value ys s) other)

pub finds-second : (xs ys : List Row) {s : List ℕ} {r : Maybe Escape} → Finds xs s None → Finds ys s r → Finds (xs ++ ys) s r
finds-second xs ys {s} f g = record { undoes = λ other. undo-second xs ys s other f ∙ g.undoes other; within = g.within }

-- ---- row by row

-- A row whose value is no shorter than its character, which is at most U+10FFFF.
abbrev shortens : Row → ℕ → Bool
shortens e c = ltb 0 (length (value e)) && (leb (length (utf8 c)) (length (value e)) && leb c 0x10FFFF)

-- A row that stands is found.
pub finds-here : (e : Row) (es : List Row) {s : List ℕ} (c : ℕ) → stands (value e) s ≡ true → key e ≡ utf8 c → T (shortens e c)
    → Finds (e ∷ es) s (escape_for (length (value e)) c)
finds-here e es {s} c t k w =
    let (r, q) = stands-split (value e) s (subst T (sym t) tt) in
    let some_byte = ltb 0 (length (value e)) in
    let shorter = leb (length (utf8 c)) (length (value e)) in
    let w' = and_right some_byte (shorter && leb c 0x10FFFF) w in
    record {
      undoes = λ other. ap (λ (b : Bool). undo (elim b [ true ↦ some e | false ↦ row_at value es s ]) other) t
          ∙ (λ i. swap (sym (ap (take (length (value e))) q ∙ take-append_seam (value e) r) i) (k i));
      within = (
        ltb→lt 0 (length (value e)) (and_left some_byte (shorter && leb c 0x10FFFF) w),
        omega (arith, ap length q ∙ length-append (value e) r),
        leb→le (length (utf8 c)) (length (value e)) (and_left shorter (leb c 0x10FFFF) w'),
        leb→le c 0x10FFFF (and_right shorter (leb c 0x10FFFF) w'),
      );
    }

-- One that does not is passed.
pub finds-later : {e : Row} {es : List Row} {s : List ℕ} {r : Maybe Escape} → stands (value e) s ≡ false → Finds es s r → Finds (e ∷ es) s r
finds-later {e} {es} {s} {r} t f = record {
  undoes = λ other. ap (λ (b : Bool). undo (elim b [ true ↦ some e | false ↦ row_at value es s ]) other) t ∙ f.undoes other;
  within = f.within;
}

-- An empty table has nothing.
pub finds-end : {s : List ℕ} → Finds [] s None
finds-end = record { undoes = λ other. refl; within = tt }

-- ---- rows that stand each for a byte

-- A byte that is one of a set, by the test, is in it.
pub one-of-in : (bs : List ℕ) (x : ℕ) → T (one_of bs x) → In x bs
one-of-in bs x t = let (b, i, e) = any-in (eqb x) bs t in subst (λ (b : ℕ). In b bs) (sym (eqb→eq x b e)) i

-- An ASCII byte is its own character.
pub utf8-ascii : (b : ℕ) → b < 128 → utf8 b ≡ b ∷ []
utf8-ascii b h = rw (lt-ltb b 128 h)

-- The rows f b of the bytes bs are read by g: where one stands, g reads its byte; and where g reads one of the bytes, its row stands.
pub record Coded (f : ℕ → Row) (g : List ℕ → Maybe ℕ) (bs : List ℕ) (n : ℕ) : Type 0 where
  pub finds : (b : ℕ) → In b bs → (r : List ℕ) → g (value (f b) ++ r) ≡ Some b
  pub sound : (s : List ℕ) (b : ℕ) → g s ≡ Some b → In b bs → T (stands (value (f b)) s)
  pub keys : (b : ℕ) → key (f b) ≡ b ∷ []
  pub sizes : (b : ℕ) → length (value (f b)) ≡ suc n
  pub small : T (all (λ (b : ℕ). ltb b 128) bs)

module _ {f : ℕ → Row} {g : List ℕ → Maybe ℕ} {bs : List ℕ} {n : ℕ} (code : Coded f g bs n) where
  below : (b : ℕ) → In b bs → b < 128
  below b i = ltb→lt b 128 (all_in (λ (b : ℕ). ltb b 128) bs code.small b i)

  -- Where g reads one of the bytes, that is what is found.
  pub finds-byte : (s : List ℕ) (v : ℕ) → g s ≡ Some v → In v bs → Finds (map f bs) s (escape_for (suc n) v)
  finds-byte s v read i = go (row_at value (map f bs) s) refl
    where
      go : (o : Option Row) → row_at value (map f bs) s ≡ o → Finds (map f bs) s (escape_for (suc n) v)
      go (some e) q =
          let (j, t) = first-sound (λ (row : Row). stands (value row)) (map f bs) s e q in
          let (b, k, w) = in_map f e bs j in
          let (r, x) = stands-split (value e) s t in
          let here : g s ≡ Some b = ap g (x ∙ ap (λ (e : Row). value e ++ r) w) ∙ code.finds b k r in
          let h : v ≡ b = cc in
          let len : length (value e) ≡ suc n = ap (λ (e : Row). length (value e)) w ∙ code.sizes b in
          let u : utf8 v ≡ v ∷ [] = utf8-ascii v (below v i) in
          let size : length s ≡ length (value e) + length r = ap length x ∙ length-append (value e) r in
          record {
            undoes = λ other. ap (λ (o : Option Row). undo o other) q
                ∙ (λ i. swap (sym (ap (take (suc n)) x ∙ take_at (value e) r (suc n) len) i) ((ap key w ∙ code.keys b ∙ ap (λ (b : ℕ). b ∷ []) (sym h) ∙ sym u) i));
            within = (omega arith, omega (arith, size, len), rw u (omega arith), omega (arith, below v i));
          }
      go none q = absurd (none-fits (λ (row : Row). stands (value row)) (map f bs) s q (f v) (map-in f v bs i) (code.sound s v read i))

  -- Where it reads none of them, nothing is.
  pub finds-no-byte : (s : List ℕ) → ((b : ℕ) → g s ≡ Some b → In b bs → ⊥) → Finds (map f bs) s None
  finds-no-byte s h = go (row_at value (map f bs) s) refl
    where
      go : (o : Option Row) → row_at value (map f bs) s ≡ o → Finds (map f bs) s None
      go (some e) q =
          let (j, t) = first-sound (λ (row : Row). stands (value row)) (map f bs) s e q in
          let (b, i, w) = in_map f e bs j in
          let (r, x) = stands-split (value e) s t in
          absurd (h b (ap g (x ∙ ap (λ (e : Row). value e ++ r) w) ∙ code.finds b i r) i)
      go none q = record { undoes = λ other. ap (λ (o : Option Row). undo o other) q; within = tt }
