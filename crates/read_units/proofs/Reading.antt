-- What the reader does at an `&`: a row that stands there gives way to its character, and its second byte and its digits tell its length and the
-- character; where none stands, the reader stops.
-- Assumes nothing.
use mathlib.Core.Bool.{Bool, true, false, not, ◌&&◌, ◌||◌}
use mathlib.Core.Option.{Option, none, some}
use mathlib.Core.Path.{◌≡◌, refl, sym, ap, ◌∙◌, subst}
use mathlib.Core.List.{List, [], ◌∷◌}
use Prim.Native.Nat.{ℕ, zero, suc, ◌+◌, ◌-◌, ◌≤◌, ◌<◌}
use native.Mathlib.Omega.{arith}
use lib.Dec.{T, eqb, ltb, eqb→eq, ltb→lt}
use lib.ListN.{length, take, drop, get_or, length-drop, length-append, get_or-append}
use lib.Seq.{get_or-drop, take-append_seam}
use Rattle.rules.specs.Bytes.{all, stands, same_bytes}
use Rattle.rules.specs.Moves.{from}
use Rattle.rules.specs.Tables.{Row, key, value, row_at, html_rows, replaced_chars}
use Rattle.rules.specs.Reading.{undo, unless}
use Rattle.rules.specs.Encoding.{keep_byte}
use Rattle.rules.specs.declared.Html.{Html}
use Rattle.rules.specs.declared.Context.TheVariants.{InHtml}
use Rattle.rules.proofs.Tests.{and_left, and_right, all_in, first-sound, stands-split, same_bytes_lem}
use Rattle.rules.proofs.Tables.{barred, row_first}
use Rattle.rules.proofs.Every.{values-code}
use Rattle.rules.proofs.Loops.{from-stop}
use Rattle.encode_html.proofs.Seven.{seven}
use Rattle.reader.specs.Units.{byte_step}
use Rattle.reader.proofs.Placed.{finds-none}
use Rattle.reader.proofs.Characters.{no-unit-here}
use Rattle.read_units.specs.Units.{length_of, char_of, UnitAt}
use Rattle.read_units.proofs.Numbers.{Stands}

-- The length and the character of a row are told by its second byte, and by its fourth and fifth where the second is `#`; it begins with `&`, and is ASCII.
abbrev sized : Row → Bool
sized e = eqb (length_of (get_or (value e) 1 0)) (length (value e))

abbrev named : Row → Bool
named e = same_bytes (char_of (get_or (value e) 1 0) (get_or (value e) 3 0) (get_or (value e) 4 0) ∷ []) (key e)

-- Only a row of six bytes has `#` there.
abbrev six : Row → Bool
six e = not (eqb (get_or (value e) 1 0) 35) || eqb (length (value e)) 6

abbrev ascii : Row → Bool
ascii e = eqb (get_or (value e) 0 0) 38 && all (λ (b : ℕ). ltb b 128) (value e)

abbrev told : Html → Bool
told h = all (λ (e : Row). sized e && (named e && (six e && ascii e))) (html_rows h)

pub is_true : (x : Bool) → T x → x ≡ true
is_true true t = refl
is_true false t = absurd t

all-at : (p : ℕ → Bool) (v : List ℕ) → T (all p v) → (k : ℕ) → k < length v → T (p (get_or v k 0))
all-at p [] t k l = absurd (omega arith)
all-at p (x ∷ v) t zero l = and_left (p x) (all p v) t
all-at p (x ∷ v) t (suc k) l = all-at p v (and_right (p x) (all p v) t) k (omega arith)

-- A fifth byte counts only where the second is `#`.
char-same : (b d x y : ℕ) → (T (eqb b 35) → x ≡ y) → char_of b d x ≡ char_of b d y
char-same b d x y f = go (eqb b 35) refl
  where
    go : (z : Bool) → eqb b 35 ≡ z → char_of b d x ≡ char_of b d y
    go true q = ap (char_of b d) (f (subst T (sym q) tt))
    go false q = rw q

module _ (h : Html) (t : List ℕ) (i : ℕ) where
  -- Where a row stands is its unit.
  pub unit-there : Stands h (drop i t) → i ≤ length t → UnitAt h t i
  unfolding byte_step
  unit-there (e, i', w) l =
      let v = value e in
      let a = all_in (λ (e : Row). sized e && (named e && (six e && ascii e))) (html_rows h) (seven told tt h) e i' in
      let size = eqb→eq (length_of (get_or v 1 0)) (length v) (and_left (sized e) (named e && (six e && ascii e)) a) in
      let a₂ = and_right (sized e) (named e && (six e && ascii e)) a in
      let name = same_bytes_lem (char_of (get_or v 1 0) (get_or v 3 0) (get_or v 4 0) ∷ []) (key e) (and_left (named e) (six e && ascii e) a₂) in
      let a₃ = and_right (named e) (six e && ascii e) a₂ in
      let long = and_left (six e) (ascii e) a₃ in
      let a₄ = and_right (six e) (ascii e) a₃ in
      let low = all (λ (b : ℕ). ltb b 128) v in
      let (r, s) = stands-split v (drop i t) w in
      let at : (k : ℕ) → k < length v → get_or t (i + k) 0 ≡ get_or v k 0 = λ k b. sym (get_or-drop i t k 0) ∙ ap (λ (l : List ℕ). get_or l k 0) s ∙ get_or-append v r 0 k b in
      let four : 4 ≤ length v = omega (arith, size) in
      let second : get_or t (i + 1) 0 ≡ get_or v 1 0 = at 1 (omega (arith, four)) in
      let fourth : get_or t (i + 3) 0 ≡ get_or v 3 0 = at 3 (omega (arith, four)) in
      let fifth : T (eqb (get_or v 1 0) 35) → get_or t (i + 4) 0 ≡ get_or v 4 0 =
      λ z. at 4 (let six : length v ≡ 6 = eqb→eq (length v) 6 (subst (λ (x : Bool). T (not x || eqb (length v) 6)) (is_true (eqb (get_or v 1 0) 35) z) long) in omega (arith, six)) in
      let whole : take (length v) (drop i t) ≡ v = ap (take (length v)) s ∙ take-append_seam v r in
      let n : length_of (get_or t (i + 1) 0) ≡ length v = ap length_of second ∙ size in
      let char : char_of (get_or t (i + 1) 0) (get_or t (i + 3) 0) (get_or t (i + 4) 0) ∷ [] ≡ key e =
      (λ j. char_of (second j) (fourth j) (get_or t (i + 4) 0) ∷ []) ∙ ap (λ (b : ℕ). b ∷ []) (char-same (get_or v 1 0) (get_or v 3 0) (get_or t (i + 4) 0) (get_or v 4 0) fifth) ∙ name in
      let first : row_at value (html_rows h) (drop i t) ≡ some e = ap (row_at value (html_rows h)) s ∙ row_first value (html_rows h) (replaced_chars (InHtml h)) (values-code (InHtml h)) e i' r in
      let fits : i + length v ≤ length t = omega (arith, ap length s, length-append v r, length-drop i t, l) in
      record {
        moves = ap (λ (o : Option Row). undo o (unless (barred (replaced_chars (InHtml h)) (drop i t)) (keep_byte (drop i t)))) first ∙ rw (n, char, whole);
        mark = ap (λ (j : ℕ). get_or t j 0) (let z : i ≡ i + 0 = omega arith in z) ∙ at 0 (omega (arith, four)) ∙ eqb→eq (get_or v 0 0) 38 (and_left (eqb (get_or v 0 0) 38) low a₄);
        ends = rw n fits;
        low = λ k a b.
            let m : i + (k - i) ≡ k = omega (arith, a) in
            let l : k - i < length v = omega (arith, a, b, n) in
            subst (λ (x : ℕ). x < 128) (sym (at (k - i) l) ∙ ap (λ (j : ℕ). get_or t j 0) m) (ltb→lt (get_or v (k - i) 0) 128 (all-at (λ (b : ℕ). ltb b 128) v (and_right (eqb (get_or v 0 0) 38) low a₄) (k - i) l));
      }

  -- At an `&` a row stands, unless nothing is read from there on.
  pub unit-goes : i < length t → get_or t i 0 ≡ 38 → (from (byte_step (InHtml h)) t i ≡ [] → ⊥) → UnitAt h t i
  unit-goes l m live = go (row_at value (html_rows h) (drop i t)) refl
    where
      go : (o : Option Row) → row_at value (html_rows h) (drop i t) ≡ o → UnitAt h t i
      go (some e) q = let (n, w) = first-sound (λ (row : Row). stands (value row)) (html_rows h) (drop i t) e q in unit-there (e, n, w) (omega arith)
      go none q = absurd (live (from-stop (byte_step (InHtml h)) t i l (no-unit-here (InHtml h) t i l m (finds-none q))))
