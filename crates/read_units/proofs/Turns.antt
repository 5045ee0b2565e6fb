-- One turn of a loop through a text: what lies before the next `&` is kept, and a unit gives way to its character. Where the text can be read to its
-- end, a byte that is not `&` is kept, and at an `&` is a unit, as the reader would stop there otherwise.
-- Assumes nothing.
use mathlib.Core.Bool.{Bool, true, false, not, ◌&&◌}
use mathlib.Core.Path.{◌≡◌, refl, sym, ap, ◌∙◌, subst}
use mathlib.Core.List.{List, [], ◌∷◌}
use Prim.Native.Nat.{ℕ, zero, suc, ◌+◌, ◌-◌, ◌≤◌, ◌<◌}
use native.Mathlib.Omega.{arith}
use borrow.Author.Tests.{ltb-true, ltb-false, eqb-true, eqb-false, ne_eqb}
use lib.Dec.{ltb, eqb}
use lib.ListN.{length, take, drop, get_or, length-append, length-drop}
use lib.Seq.{length-take-le}
use Rattle.rules.specs.Bytes.{all}
use Rattle.rules.specs.Answers.{Measures, whole}
use Rattle.rules.specs.Reading.{read_step}
use Rattle.rules.specs.Moves.{keep, taken, place, before, through, from}
use Rattle.rules.specs.Tables.{html_rows, replaced_chars}
use Rattle.rules.specs.declared.Html.{Html}
use Rattle.rules.specs.declared.Context.TheVariants.{InHtml}
use Rattle.rules.proofs.Tables.{barred}
use Rattle.rules.proofs.Loops.{from-stop, from_end, drop-next}
use Rattle.rules.proofs.Quiet.{Keeps, quiet-place}
use Rattle.base.specs.Places.{Nearest}
use Rattle.base.proofs.Filled.{Next}
use Rattle.base.proofs.Part.{part_length}
use Rattle.base.proofs.Counted.{Counted, counted_start, counted-quiet, counted-swap, counted-end, step-swap, next-quiet, next-swap}
use Rattle.utf8.proofs.Texts.{ascii-valid}
use Rattle.encode_html.proofs.Seven.{seven}
use Rattle.find_ascii.specs.Words.{Ascii}
use Rattle.reader.specs.Units.{byte_step}
use Rattle.reader.proofs.Placed.{has, none-there, finds-none}
use Rattle.reader.specs.Replaced.{begins, is_whole}
use Rattle.reader.proofs.Bytewise.{read-measures}
use Rattle.reader.proofs.Characters.{keeps-plain, stops-there, replaced-here}
use Rattle.read_units.specs.Units.{length_of, char_at, step_length, step_at, UnitAt}
use Rattle.read_units.specs.Marks.{Rest, Reaches, Marked}
use Rattle.read_units.proofs.Reading.{unit-goes}

-- A test that is denied falsely holds.
pub affirmed : (x : Bool) → not x ≡ false → x ≡ true
affirmed true e = refl
affirmed false e = let never : ◌≡◌ {A = ℕ} 0 1 = cc in absurd (omega arith)

-- A place that is within a text and not its end is before it.
pub before-end : (p len : ℕ) → p ≤ len → (p ≡ len → ⊥) → p < len
before-end p len h n = omega (arith, n)

-- ---- a text that can be read to its end

-- Every unit begins with `&`.
abbrev marked : Html → Bool
marked h = all (has 0 (λ (b : ℕ). eqb b 38)) (html_rows h)

module _ (h : Html) (t : List ℕ) where
  -- Something is read from every place before the end on.
  reach_live : (i : ℕ) → Reaches h t i → i < length t → from (byte_step (InHtml h)) t i ≡ [] → ⊥
  reach_live i r l e = omega (arith, r, l, ap place e)

  pub reach-unit : (i : ℕ) → Reaches h t i → i < length t → get_or t i 0 ≡ 38 → UnitAt h t i
  reach-unit i r l m = unit-goes h t i l m (reach_live i r l)

  reach-byte : (i : ℕ) → Reaches h t i → i < length t → (get_or t i 0 ≡ 38 → ⊥) → byte_step (InHtml h) (before t i) (drop i t) ≡ keep (get_or t i 0 ∷ [])
  reach-byte i r l n = go (barred (replaced_chars (InHtml h)) (drop i t)) refl
    where
      go : (x : Bool) → barred (replaced_chars (InHtml h)) (drop i t) ≡ x → byte_step (InHtml h) (before t i) (drop i t) ≡ keep (get_or t i 0 ∷ [])
      go true q =
          absurd (reach_live i r l (from-stop (byte_step (InHtml h)) t i l (stops-there (InHtml h) (before t i) (drop i t) q
          (finds-none (none-there 0 (λ (b : ℕ). eqb b 38) (html_rows h) (seven marked tt h) (drop i t) (rw (drop-next t i l) (ne_eqb (get_or t i 0) 38 n)))))))
      go false q = rw (drop-next t i l) (keeps-plain (InHtml h) (before t i) (get_or t i 0) (drop (i + 1) t) (rw (drop-next t i l) at q))

  -- It can be read so from behind what is kept,
  reach-quiet : (i r : ℕ) → Reaches h t i → i ≤ r → r ≤ length t → Keeps (byte_step (InHtml h)) t i r → Reaches h t r
  reach-quiet i r e a l q = omega (arith, e, quiet-place (byte_step (InHtml h)) t i r a l q)

  -- and from behind a unit.
  pub reach-next : (i m : ℕ) → m ≡ length_of (get_or t (i + 1) 0) → UnitAt h t i → Reaches h t i → Reaches h t (i + m)
  reach-next i m e u r =
      let w = take m (drop i t) in
      let ends : i + m ≤ length t = subst (λ (m : ℕ). i + m ≤ length t) (sym e) u.ends in
      let goes = step-swap (byte_step (InHtml h)) t i m (char_at t i ∷ []) (omega (arith, e)) ends (rw e u.moves) in
      let size : length w ≡ m = length-take-le m (drop i t) (rw length-drop (omega (arith, ends))) in
      omega (arith, r, ap place goes, length-append w (taken (from (byte_step (InHtml h)) t (i + m))), size)

  -- Up to the next `&` each byte is kept.
  module _ (i r : ℕ) (e : Reaches h t i) (p : Nearest t i 38 r) where
    kept_next : (n : ℕ) → i + suc n ≤ r → Keeps (byte_step (InHtml h)) t i (i + n) → Keeps (byte_step (InHtml h)) t i (i + suc n)
    kept_next n l q k a b = go (ltb k (i + n)) refl
      where
        go : (x : Bool) → ltb k (i + n) ≡ x → byte_step (InHtml h) (before t k) (drop k t) ≡ keep (get_or t k 0 ∷ [])
        go true z = q k a (ltb-true k (i + n) z)
        go false z =
            let same : i + n ≡ k = omega (arith, b, ltb-false k (i + n) z) in
            let here = reach-quiet i (i + n) e (omega arith) (omega (arith, l, p.within)) q in
            reach-byte k (subst (Reaches h t) same here) (omega (arith, b, l, p.within)) (p.none k a (omega (arith, b, l)))

    kept-to : (n : ℕ) → i + n ≤ r → Keeps (byte_step (InHtml h)) t i (i + n)
    kept-to zero l = λ k a b. absurd (omega (arith, a, b))
    kept-to (suc n) l = kept_next n l (kept-to n (omega (arith, l)))

    pub near-keeps : Keeps (byte_step (InHtml h)) t i r
    near-keeps = let s : i + (r - i) ≡ r = omega (arith, p.after) in subst (Keeps (byte_step (InHtml h)) t i) s (kept-to (r - i) (omega (arith, s)))

    pub reach_near : Reaches h t r
    reach_near = reach-quiet i r e p.after p.within near-keeps

    -- What stands next in the result: the bytes up to there, of which these are so many,
    pub near-length : length (take (r - i) (drop i t)) ≡ r - i
    near-length = part_length t i r p.after p.within

    pub next-mark : Next (Rest h t i) (take (r - i) (drop i t)) (Rest h t r)
    next-mark = next-quiet (byte_step (InHtml h)) t i r p.after p.within near-keeps

  -- and the character of a unit.
  pub next-unit : (i m : ℕ) → m ≡ length_of (get_or t (i + 1) 0) → UnitAt h t i → Next (Rest h t i) (char_at t i ∷ []) (Rest h t (i + m))
  next-unit i m e u =
      subst (λ (m : ℕ). Next (Rest h t i) (char_at t i ∷ []) (Rest h t (i + m))) (sym e)
      (next-swap (byte_step (InHtml h)) t i (length_of (get_or t (i + 1) 0)) (char_at t i ∷ []) (omega arith) u.ends u.moves)

  -- One step: a byte or a unit.
  pub record Step (i m : ℕ) : Type 0 where
    pub ends : i + m ≤ length t
    pub reaches : Reaches h t (i + m)
    pub next : Next (Rest h t i) (step_at t i ∷ []) (Rest h t (i + m))

  pub step-here : (i m : ℕ) → Reaches h t i → i < length t → m ≡ step_length (get_or t i 0) (get_or t (i + 1) 0) → Step i m
  step-here i m r l e = go (eqb (get_or t i 0) 38) refl
    where
      go : (x : Bool) → eqb (get_or t i 0) 38 ≡ x → Step i m
      go true q =
          let u = reach-unit i r l (eqb-true (get_or t i 0) 38 q) in
          let n : m ≡ length_of (get_or t (i + 1) 0) = e ∙ rw q in
          record { ends = subst (λ (m : ℕ). i + m ≤ length t) (sym n) u.ends; reaches = reach-next i m n u r; next = rw q (next-unit i m n u) }
      go false q =
          let one : 1 ≡ m = sym (e ∙ rw q) in
          let keeps : Keeps (byte_step (InHtml h)) t i (i + 1) = λ k a b. let same : i ≡ k = omega (arith, a, b) in subst (λ (k : ℕ). byte_step (InHtml h) (before t k) (drop k t) ≡ keep (get_or t k 0 ∷ [])) same (reach-byte i r l (eqb-false (get_or t i 0) 38 q)) in
          let size : i + 1 - i ≡ 1 = omega arith in
          let first : take (i + 1 - i) (drop i t) ≡ get_or t i 0 ∷ [] = rw (size, drop-next t i l) in
          subst (Step i) one
          (record {
            ends = omega (arith, l);
            reaches = reach-quiet i (i + 1) r (omega arith) (omega (arith, l)) keeps;
            next = rw q (subst (λ (w : List ℕ). Next (Rest h t i) w (Rest h t (i + 1))) first (next-quiet (byte_step (InHtml h)) t i (i + 1) (omega arith) (omega (arith, l)) keeps));
          })

-- ---- measuring, where the bytes up to the next unit are known to be kept

module _ (h : Html) (t : List ℕ) where
  -- A byte is kept with which no replaced character begins.
  pub byte-kept : (k : ℕ) → k < length t → get_or t k 0 < 256 → begins (InHtml h) (get_or t k 0) ≡ false → byte_step (InHtml h) (before t k) (drop k t) ≡ keep (get_or t k 0 ∷ [])
  byte-kept k l small free =
      let x = get_or t k 0 in
      let s = drop (k + 1) t in
      rw (drop-next t k l) (keeps-plain (InHtml h) (before t k) x s (sym (replaced-here (InHtml h) x s small) ∙ ap (λ (b : Bool). b && is_whole (x ∷ s)) free))

  -- The first unit.
  pub count-start : (r : ℕ) → r ≤ length t → Keeps (byte_step (InHtml h)) t 0 r → Counted (byte_step (InHtml h)) t r (r - 0) 0
  count-start r l q =
      let n : 0 + (r - 0) ≡ r - 0 = omega arith in
      subst (λ (n : ℕ). Counted (byte_step (InHtml h)) t r n 0) n (counted-quiet (counted_start (byte_step (InHtml h)) t) r (omega arith) l q)

  -- From one unit to the next, where the result is `gain` bytes shorter than the text so far.
  pub count_next : (i gain k m r : ℕ) → Counted (byte_step (InHtml h)) t i (i - gain) k → gain ≤ i → UnitAt h t i → m ≡ length_of (get_or t (i + 1) 0)
      → i + m ≤ r → r ≤ length t → Keeps (byte_step (InHtml h)) t (i + m) r
      → Counted (byte_step (InHtml h)) t r (r - (gain + (m - 1))) (k + 1) × (gain + (m - 1) ≤ r)
  count_next i gain k m r c g u e after within q =
      let some : 1 ≤ m = omega (arith, e) in
      let n : i - gain + 1 + (r - (i + m)) ≡ r - (gain + (m - 1)) = omega (arith, some, after, g) in
      let one = subst (λ (m : ℕ). Counted (byte_step (InHtml h)) t (i + m) (i - gain + 1) (k + 1)) (sym e)
      (counted-swap c (length_of (get_or t (i + 1) 0)) (char_at t i ∷ []) (omega arith) u.ends (omega arith) u.moves) in
      (subst (λ (n : ℕ). Counted (byte_step (InHtml h)) t r n (k + 1)) n (counted-quiet one r after within q), omega (arith, some, after, g))

  -- At the end of the text all is told.
  pub told-end : (places : List ℕ) (i gain k : ℕ) → Ascii t → Counted (byte_step (InHtml h)) t i (i - gain) k → i ≡ length t → Marked t places k
      → Ascii t × Measures (whole (length t - gain) (length t) k) (through (read_step (InHtml h)) t)
      × (place (through (byte_step (InHtml h)) t) ≡ length t) × Marked t places k
  told-end places i gain k ascii c end marked =
      let none = from_end (byte_step (InHtml h)) t i (omega (arith, end)) in (
        ascii,
        subst (λ (i : ℕ). Measures (whole (i - gain) i k) (through (read_step (InHtml h)) t)) end
            (read-measures (InHtml h) (λ k. refl) t i (i - gain) k (ascii-valid t ascii) c none),
        sym (counted-end c none).2 ∙ end,
        marked,
      )
