-- What the reader does at a backslash: a row that stands there gives way to its character, whose bytes the bytes after the backslash tell; where none
-- stands, the reader stops. It stops at a quote that is replaced too.
-- Assumes nothing.
use mathlib.Core.Bool.{Bool, true, false, not, ◌&&◌, ◌||◌}
use mathlib.Core.Logic.{◌⊎◌, inl, inr}
use mathlib.Core.Option.{Option, none, some}
use mathlib.Core.Path.{◌≡◌, refl, sym, ap, ◌∙◌, subst}
use mathlib.Core.List.{List, [], ◌∷◌}
use Prim.Native.Nat.{ℕ, ◌+◌, ◌-◌, ◌%◌, ◌≤◌, ◌<◌}
use native.Mathlib.Omega.{arith}
use borrow.Author.Tests.{eq-eqb, ne_eqb}
use lib.Dec.{T, eqb, leb, eqb→eq, leb→le}
use lib.ListN.{length, take, drop, get_or, length-drop, length-append, get_or-append}
use lib.Seq.{get_or-drop, take-append_seam}
use Rattle.rules.specs.Bytes.{all, stands, same_bytes}
use Rattle.rules.specs.Contexts.{string_of}
use Rattle.rules.specs.Moves.{swap, before, from}
use Rattle.rules.specs.Tables.{Row, key, value, row_at, rows, replaced_chars}
use Rattle.rules.specs.Reading.{undo, unless}
use Rattle.rules.specs.Encoding.{keep_byte}
use Rattle.rules.specs.declared.Language.{Language}
use Rattle.rules.specs.declared.Language.TheVariants.{Script, Style}
use Rattle.rules.specs.declared.Quotes.{Quotes}
use Rattle.rules.specs.declared.Quotes.TheVariants.{Single, Double, Both}
use Rattle.rules.proofs.Tests.{and_left, and_right, or_cases, all_in, first-sound, stands-split, same_bytes_lem}
use Rattle.rules.proofs.Tables.{barred, row_first}
use Rattle.rules.proofs.Every.{values-code}
use Rattle.rules.proofs.Loops.{drop-next, from-stop}
use Rattle.reader.specs.Units.{mark_of, byte_step}
use Rattle.reader.proofs.Placed.{finds-none, has, none-there}
use Rattle.reader.proofs.Characters.{no-unit-here, stops-there}
use Rattle.read_strings.specs.Clear.{keys_of, is_key}
use Rattle.read_strings.specs.Units.{length_of, gain_of, byte_of, chars_of, chars_at, end_of, UnitAt}
use Rattle.read_strings.proofs.Six.{six, given}
use Rattle.read_strings.proofs.Forms.{Stands}

-- ---- each row

abbrev second : Row → ℕ
second e = get_or (value e) 1 0

-- Length, character and gain of a row are told by its bytes.
abbrev sized : Row → Bool
sized e = eqb (length_of (second e)) (length (value e))

abbrev named : Language → Row → Bool
named l e = same_bytes (chars_of l (second e) (get_or (value e) 2 0) (get_or (value e) 3 0) (get_or (value e) 5 0)) (key e)

abbrev lighter : Row → Bool
lighter e = eqb (length (key e) + gain_of (second e)) (length (value e))

-- Only two backslashes end with one.
abbrev ended : Row → Bool
ended e = eqb (second e) 0x5C || not (eqb (get_or (value e) (length (value e) - 1) 0) 0x5C)

-- There are as many bytes as are looked at.
abbrev long : Row → Bool
long e = leb 2 (length (value e)) && ((eqb (length (value e)) 2 || leb 4 (length (value e))) && (not (eqb (second e) 0x75) || eqb (length (value e)) 6))

abbrev right : Language → Row → Bool
right l e = sized e && (named l e && (lighter e && (ended e && long e)))

abbrev told : Language → Quotes → Bool
told l q = all (right l) (rows (string_of l q))

is_true : (x : Bool) → T x → x ≡ true
is_true true t = refl
is_true false t = absurd t

-- Which bytes count for the character.
chars-same : (l : Language) (b c d f c' d' f' : ℕ) → (eqb (length_of b) 2 ≡ false → (c ≡ c') × (d ≡ d')) → (eqb b 0x75 ≡ true → f ≡ f') → chars_of l b c d f ≡ chars_of l b c' d' f'
chars-same l b c d f c' d' f' g h = go (eqb b 0x75) refl (eqb (length_of b) 2) refl
  where
    go : (x : Bool) → eqb b 0x75 ≡ x → (y : Bool) → eqb (length_of b) 2 ≡ y → chars_of l b c d f ≡ chars_of l b c' d' f'
    go true p y r = rw (p, h p)
    go false p true r = rw (p, r)
    go false p false r = let u = g r in rw (p, u.0, u.1)

-- With `u` it has three bytes, and else one.
pub chars-three : (l : Language) (b c d f : ℕ) → b ≡ 0x75 → chars_of l b c d f ≡ 0xE2 ∷ 0x80 ∷ (0xA8 + f % 2) ∷ []
chars-three l b c d f e = rw (eq-eqb b 0x75 e)

pub chars-one : (l : Language) (b c d f : ℕ) → (b ≡ 0x75 → ⊥) → chars_of l b c d f ≡ byte_of l b c d ∷ []
chars-one l b c d f e = rw (ne_eqb b 0x75 e)

-- A unit of two bytes stands for the second.
pub byte-short : (l : Language) (b c d : ℕ) → length_of b ≡ 2 → byte_of l b c d ≡ b
byte-short l b c d e = rw (eq-eqb (length_of b) 2 e)

-- A quote that is replaced is a replaced character, and no backslash.
key-first : (l : Language) (q : Quotes) (s : List ℕ) → barred (replaced_chars (string_of l q)) (get_or (keys_of q) 0 0 ∷ s) ≡ true
key-first Script Single s = refl
key-first Script Double s = refl
key-first Script Both s = refl
key-first Style Single s = refl
key-first Style Double s = refl
key-first Style Both s = refl

key-last : (l : Language) (q : Quotes) (s : List ℕ) → barred (replaced_chars (string_of l q)) (get_or (keys_of q) 1 0 ∷ s) ≡ true
key-last Script Single s = refl
key-last Script Double s = refl
key-last Script Both s = refl
key-last Style Single s = refl
key-last Style Double s = refl
key-last Style Both s = refl

key-other : (q : Quotes) → (eqb (get_or (keys_of q) 0 0) 0x5C ≡ false) × (eqb (get_or (keys_of q) 1 0) 0x5C ≡ false)
key-other Single = (refl, refl)
key-other Double = (refl, refl)
key-other Both = (refl, refl)

mark-is : (l : Language) (q : Quotes) → mark_of (string_of l q) ≡ 0x5C
mark-is Script q = refl
mark-is Style q = refl

module _ (l : Language) (q : Quotes) (t : List ℕ) (i : ℕ) where
  -- Where a row stands is its unit, which ends with a backslash only after another one.
  pub unit-there : Stands l q (drop i t) → i ≤ length t → UnitAt l q t i × ((get_or t (i + 1) 0 ≡ 0x5C → ⊥) → get_or t (end_of t i - 1) 0 ≡ 0x5C → ⊥)
  unfolding byte_step
  unit-there (e, i', w) le =
      let v = value e in
      let a = all_in (right l) (rows (string_of l q)) (six told tt l q) e i' in
      let size : length_of (second e) ≡ length v = eqb→eq (length_of (second e)) (length v) (and_left (sized e) (named l e && (lighter e && (ended e && long e))) a) in
      let a₁ = and_right (sized e) (named l e && (lighter e && (ended e && long e))) a in
      let name = same_bytes_lem (chars_of l (second e) (get_or v 2 0) (get_or v 3 0) (get_or v 5 0)) (key e) (and_left (named l e) (lighter e && (ended e && long e)) a₁) in
      let a₂ = and_right (named l e) (lighter e && (ended e && long e)) a₁ in
      let light : length (key e) + gain_of (second e) ≡ length v = eqb→eq (length (key e) + gain_of (second e)) (length v) (and_left (lighter e) (ended e && long e) a₂) in
      let a₃ = and_right (lighter e) (ended e && long e) a₂ in
      let last = and_left (ended e) (long e) a₃ in
      let a₄ = and_right (ended e) (long e) a₃ in
      let two = leb→le 2 (length v) (and_left (leb 2 (length v)) ((eqb (length v) 2 || leb 4 (length v)) && (not (eqb (second e) 0x75) || eqb (length v) 6)) a₄) in
      let a₅ = and_right (leb 2 (length v)) ((eqb (length v) 2 || leb 4 (length v)) && (not (eqb (second e) 0x75) || eqb (length v) 6)) a₄ in
      let some-or-four = and_left (eqb (length v) 2 || leb 4 (length v)) (not (eqb (second e) 0x75) || eqb (length v) 6) a₅ in
      let six-long = and_right (eqb (length v) 2 || leb 4 (length v)) (not (eqb (second e) 0x75) || eqb (length v) 6) a₅ in
      let (r, s) = stands-split v (drop i t) w in
      let at : (k : ℕ) → k < length v → get_or t (i + k) 0 ≡ get_or v k 0 = λ k b. sym (get_or-drop i t k 0) ∙ ap (λ (l : List ℕ). get_or l k 0) s ∙ get_or-append v r 0 k b in
      let next : get_or t (i + 1) 0 ≡ get_or v 1 0 = at 1 (omega (arith, two)) in
      let four : eqb (length_of (second e)) 2 ≡ false → 4 ≤ length v =
      λ z. leb→le 4 (length v) (subst (λ (x : Bool). T (x || leb 4 (length v))) (ap (λ (n : ℕ). eqb n 2) (sym size) ∙ z) some-or-four) in
      let sixth : eqb (second e) 0x75 ≡ true → length v ≡ 6 =
      λ z. eqb→eq (length v) 6 (given (eqb (second e) 0x75) (eqb (length v) 6) six-long (subst T (sym z) tt)) in
      let n : length_of (get_or t (i + 1) 0) ≡ length v = ap length_of next ∙ size in
      let chars : chars_at l t i ≡ key e =
      ap (λ (b : ℕ). chars_of l b (get_or t (i + 2) 0) (get_or t (i + 3) 0) (get_or t (i + 5) 0)) next
      ∙ chars-same l (second e) (get_or t (i + 2) 0) (get_or t (i + 3) 0) (get_or t (i + 5) 0) (get_or v 2 0) (get_or v 3 0) (get_or v 5 0)
      (λ z. let f = four z in (at 2 (omega (arith, f)), at 3 (omega (arith, f)))) (λ z. let f = sixth z in at 5 (omega (arith, f)))
      ∙ name in
      let whole : take (length_of (get_or t (i + 1) 0)) (drop i t) ≡ v = ap (λ (m : ℕ). take m (drop i t)) n ∙ ap (take (length v)) s ∙ take-append_seam v r in
      let first : row_at value (rows (string_of l q)) (drop i t) ≡ some e = ap (row_at value (rows (string_of l q))) s ∙ row_first value (rows (string_of l q)) (replaced_chars (string_of l q)) (values-code (string_of l q)) e i' r in
      let fits : i + length v ≤ length t = omega (arith, ap length s, length-append v r, length-drop i t, le) in
      let end : end_of t i - 1 ≡ i + (length v - 1) = ap (λ (m : ℕ). i + m - 1) n ∙ omega (arith, two) in
      let closing : get_or t (end_of t i - 1) 0 ≡ get_or v (length v - 1) 0 = ap (λ (k : ℕ). get_or t k 0) end ∙ at (length v - 1) (omega (arith, two)) in (
        record {
          moves = ap (λ (o : Option Row). undo o (unless (barred (replaced_chars (string_of l q)) (drop i t)) (keep_byte (drop i t)))) first ∙ sym (λ j. swap (whole j) (chars j));
          ends = subst (λ (m : ℕ). i + m ≤ length t) (sym n) fits;
          shorter = (λ j. length (chars j) + gain_of (next j)) ∙ light ∙ sym n;
        },
        λ other z. fail (get_or v 1 0) (get_or v (length v - 1) 0) (or_cases (eqb (get_or v 1 0) 0x5C) (not (eqb (get_or v (length v - 1) 0) 0x5C)) last) (λ y. other (next ∙ y)) (sym closing ∙ z),
      )
    where
      fail : (b x : ℕ) → T (eqb b 0x5C) ⊎ T (not (eqb x 0x5C)) → (b ≡ 0x5C → ⊥) → x ≡ 0x5C → ⊥
      fail b x (inl w) other z = other (eqb→eq b 0x5C w)
      fail b x (inr w) other z = subst (λ (x : ℕ). T (not (eqb x 0x5C))) z w

  -- At a backslash a row stands, unless nothing is read from there on.
  pub unit-goes : i < length t → get_or t i 0 ≡ 0x5C → (from (byte_step (string_of l q)) t i ≡ [] → ⊥) → UnitAt l q t i
  unit-goes h m live = go (row_at value (rows (string_of l q)) (drop i t)) refl
    where
      go : (o : Option Row) → row_at value (rows (string_of l q)) (drop i t) ≡ o → UnitAt l q t i
      go (some e) p = let (n, w) = first-sound (λ (row : Row). stands (value row)) (rows (string_of l q)) (drop i t) e p in (unit-there (e, n, w) (omega arith)).0
      go none p = absurd (live (from-stop (byte_step (string_of l q)) t i h (no-unit-here (string_of l q) t i h (m ∙ sym (mark-is l q)) (finds-none p))))

  -- And nothing is read from a quote on that is replaced.
  pub key-stops : i < length t → is_key (keys_of q) (get_or t i 0) ≡ true → from (byte_step (string_of l q)) t i ≡ []
  key-stops h k =
      let (in_table, apart) = go (or_cases (eqb (get_or t i 0) (get_or (keys_of q) 0 0)) (eqb (get_or t i 0) (get_or (keys_of q) 1 0)) (subst T (sym k) tt)) in
      from-stop (byte_step (string_of l q)) t i h
      (stops-there (string_of l q) (before t i) (drop i t) (rw (drop-next t i h) in_table)
      (finds-none (none-there 0 (λ (b : ℕ). eqb b 0x5C) (rows (string_of l q)) (six marked tt l q) (drop i t) (rw (drop-next t i h) apart))))
    where
      marked : Language → Quotes → Bool
      marked l q = all (has 0 (λ (b : ℕ). eqb b 0x5C)) (rows (string_of l q))

      go : T (eqb (get_or t i 0) (get_or (keys_of q) 0 0)) ⊎ T (eqb (get_or t i 0) (get_or (keys_of q) 1 0))
          → (barred (replaced_chars (string_of l q)) (get_or t i 0 ∷ drop (i + 1) t) ≡ true) × (eqb (get_or t i 0) 0x5C ≡ false)
      go (inl w) =
          let e = eqb→eq (get_or t i 0) (get_or (keys_of q) 0 0) w in
          (ap (λ (x : ℕ). barred (replaced_chars (string_of l q)) (x ∷ drop (i + 1) t)) e ∙ key-first l q (drop (i + 1) t), ap (λ (x : ℕ). eqb x 0x5C) e ∙ (key-other q).0)
      go (inr w) =
          let e = eqb→eq (get_or t i 0) (get_or (keys_of q) 1 0) w in
          (ap (λ (x : ℕ). barred (replaced_chars (string_of l q)) (x ∷ drop (i + 1) t)) e ∙ key-last l q (drop (i + 1) t), ap (λ (x : ℕ). eqb x 0x5C) e ∙ (key-other q).1)
