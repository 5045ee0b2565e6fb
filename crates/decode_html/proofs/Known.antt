-- The three references that every encoder writes: what the test of their bytes says, and the move that each makes.
-- Assumes nothing.
use mathlib.Core.Bool.{Bool, true, false, ◌&&◌, ◌||◌, cond}
use mathlib.Core.Logic.{◌⊎◌, inl, inr}
use mathlib.Core.Option.{Option}
use mathlib.Core.Path.{◌≡◌, refl, sym, ◌∙◌, subst}
use mathlib.Core.List.{List, ◌∷◌, []}
use Prim.Native.Nat.{ℕ, ◌+◌, ◌-◌, ◌≤◌, ◌<◌}
use native.Mathlib.Omega.{arith}
use lib.Dec.{T, eqb, eqb→eq}
use lib.ListN.{length, take, drop, get_or}
use Rattle.rules.specs.Bytes.{ascii}
use Rattle.rules.specs.Moves.{swap}
use Rattle.rules.specs.Names.{names}
use Rattle.rules.specs.References.{decode_char, reference_by, reference_step}
use Rattle.rules.specs.Answers.{unpack_to}
use Rattle.rules.specs.declared.DecodedEntityValue.TheVariants.{Named}
use Rattle.rules.proofs.Loops.{drop-next}
use Rattle.rules.proofs.Tests.{and_left, and_right, or_cases}
use Rattle.decode_html.specs.Taking.{Gives}
use Rattle.decode_html.specs.Bodies.{KnownBytes, Known, known_value}

-- ---- the test

-- The bytes after the `&` of `&lt;` and `&gt;`, and of `&amp;`.
abbrev angle : ℕ → ℕ → ℕ → Bool
angle a b c = (eqb a 108 || eqb a 103) && (eqb b 116 && eqb c 59)

abbrev ampersand : ℕ → ℕ → ℕ → ℕ → Bool
ampersand a b c d = eqb a 97 && (eqb b 109 && (eqb c 112 && eqb d 59))

-- The sum of the two lengths is that of the one reference that stands there, if one does.
pub known-sum : (a b c d m n : ℕ) → m ≡ cond (angle a b c) 4 0 → n ≡ cond (ampersand a b c d) 5 0 → (m + n ≡ 0 → ⊥) → KnownBytes a b c d (m + n)
known-sum a b c d m n e f some = first (angle a b c) refl
  where
    second : (y : Bool) → ampersand a b c d ≡ y → m ≡ 0 → KnownBytes a b c d (m + n)
    second false q z = absurd (some (let s : n ≡ 0 = f ∙ rw q in omega arith))
    second true q z =
        let t : T (ampersand a b c d) = subst T (sym q) tt in
        let u = and_right (eqb a 97) (eqb b 109 && (eqb c 112 && eqb d 59)) t in
        let v = and_right (eqb b 109) (eqb c 112 && eqb d 59) u in
        inr (
          (let s : n ≡ 5 = f ∙ rw q in omega arith),
          eqb→eq a 97 (and_left (eqb a 97) (eqb b 109 && (eqb c 112 && eqb d 59)) t),
          eqb→eq b 109 (and_left (eqb b 109) (eqb c 112 && eqb d 59) u),
          eqb→eq c 112 (and_left (eqb c 112) (eqb d 59) v),
          eqb→eq d 59 (and_right (eqb c 112) (eqb d 59) v),
        )

    letters : T (eqb a 108) ⊎ T (eqb a 103) → (m ≡ 4) → (b ≡ 116) → (c ≡ 59) → KnownBytes a b c d (m + n)
    letters (inl t) h g k =
        let l = eqb→eq a 108 t in
        inl ((let s : n ≡ 0 = f ∙ rw l in omega arith), inl l, g, k)
    letters (inr t) h g k =
        let l = eqb→eq a 103 t in
        inl ((let s : n ≡ 0 = f ∙ rw l in omega arith), inr l, g, k)

    first : (x : Bool) → angle a b c ≡ x → KnownBytes a b c d (m + n)
    first false q = second (ampersand a b c d) refl (e ∙ rw q)
    first true q =
        let t : T (angle a b c) = subst T (sym q) tt in
        let u = and_right (eqb a 108 || eqb a 103) (eqb b 116 && eqb c 59) t in
        letters
        (or_cases (eqb a 108) (eqb a 103) (and_left (eqb a 108 || eqb a 103) (eqb b 116 && eqb c 59) t))
        (e ∙ rw q)
        (eqb→eq b 116 (and_left (eqb b 116) (eqb c 59) u))
        (eqb→eq c 59 (and_right (eqb b 116) (eqb c 59) u))

pub known-most : {a b c d n : ℕ} → KnownBytes a b c d n → n ≤ 5
known-most (inl k) = omega (arith, k.0)
known-most (inr k) = omega (arith, k.0)

-- ---- the move

lt-move : (char : ℕ → Option (List ℕ)) (p : ℕ) (r : List ℕ) → reference_by char p (38 ∷ 108 ∷ 116 ∷ 59 ∷ r) ≡ swap (ascii "&lt;") (60 ∷ [])
unfolding names
lt-move char p r = refl

gt-move : (char : ℕ → Option (List ℕ)) (p : ℕ) (r : List ℕ) → reference_by char p (38 ∷ 103 ∷ 116 ∷ 59 ∷ r) ≡ swap (ascii "&gt;") (62 ∷ [])
unfolding names
gt-move char p r = refl

amp-move : (char : ℕ → Option (List ℕ)) (p : ℕ) (r : List ℕ) → reference_by char p (38 ∷ 97 ∷ 109 ∷ 112 ∷ 59 ∷ r) ≡ swap (ascii "&amp;") (38 ∷ [])
unfolding names
amp-move char p r = refl

by : (p : ℕ) (s : List ℕ) → reference_step p s ≡ reference_by decode_char p s
unfolding reference_step
by p s = refl

-- The first four bytes from a place on, and the fifth.
four : (t : List ℕ) (i : ℕ) → i + 4 ≤ length t → drop i t ≡ get_or t i 0 ∷ get_or t (i + 1) 0 ∷ get_or t (i + 2) 0 ∷ get_or t (i + 3) 0 ∷ drop (i + 4) t
four t i h =
    let two : i + 1 + 1 ≡ i + 2 = omega arith in
    let three : i + 2 + 1 ≡ i + 3 = omega arith in
    let last : i + 3 + 1 ≡ i + 4 = omega arith in
    rw (drop-next t i (omega arith), drop-next t (i + 1) (omega arith), two, drop-next t (i + 2) (omega arith), three, drop-next t (i + 3) (omega arith), last)

five : (t : List ℕ) (i : ℕ) → i + 5 ≤ length t
    → drop i t ≡ get_or t i 0 ∷ get_or t (i + 1) 0 ∷ get_or t (i + 2) 0 ∷ get_or t (i + 3) 0 ∷ get_or t (i + 4) 0 ∷ drop (i + 4 + 1) t
five t i h = four t i (omega arith) ∙ rw (drop-next t (i + 4) (omega arith))

module _ (t : List ℕ) (i n : ℕ) (amp : get_or t i 0 ≡ 38) (known : Known t i n) where
  -- The move is the one that the bytes say.
  move : (p : ℕ) → KnownBytes (get_or t (i + 1) 0) (get_or t (i + 2) 0) (get_or t (i + 3) 0) (get_or t (i + 4) 0) n
      → swap (take (i + n - i) (drop i t)) (unpack_to 6 (known_value (get_or t (i + 1) 0))) ≡ reference_step p (drop i t)
  move p (inl (e, inl a, b, c)) =
      let w : i + n - i ≡ 4 = omega arith in
      rw (w, four t i (omega (arith, known.within)), amp, a, b, c) (sym (by p (38 ∷ 108 ∷ 116 ∷ 59 ∷ drop (i + 4) t) ∙ lt-move decode_char p (drop (i + 4) t)))
  move p (inl (e, inr a, b, c)) =
      let w : i + n - i ≡ 4 = omega arith in
      rw (w, four t i (omega (arith, known.within)), amp, a, b, c) (sym (by p (38 ∷ 103 ∷ 116 ∷ 59 ∷ drop (i + 4) t) ∙ gt-move decode_char p (drop (i + 4) t)))
  move p (inr (e, a, b, c, d)) =
      let w : i + n - i ≡ 5 = omega arith in
      rw (w, five t i (omega (arith, known.within)), amp, a, b, c, d)
      (sym (by p (38 ∷ 97 ∷ 109 ∷ 112 ∷ 59 ∷ drop (i + 4 + 1) t) ∙ amp-move decode_char p (drop (i + 4 + 1) t)))

  pub known-gives : Gives reference_step t i (record { start = i; end = i + n; value = Named (known_value (get_or t (i + 1) 0)) })
  known-gives = record { move = λ p. move p known.bytes; lies = (refl, size known.bytes, known.within, tt) }
    where
      size : KnownBytes (get_or t (i + 1) 0) (get_or t (i + 2) 0) (get_or t (i + 3) 0) (get_or t (i + 4) 0) n → i < i + n
      size (inl k) = omega (arith, k.0)
      size (inr k) = omega (arith, k.0)
