-- One turn of a loop from backslash to backslash: what lies between is kept, and the unit gives way to its character.
-- Assumes nothing.
use mathlib.Core.Bool.{Bool, true, false, not}
use mathlib.Core.Path.{◌≡◌, refl, sym, ap, ◌∙◌, subst}
use mathlib.Core.List.{List, []}
use Prim.Native.Nat.{ℕ, ◌+◌, ◌-◌, ◌≤◌, ◌<◌}
use native.Mathlib.Omega.{arith}
use lib.Dec.{T}
use lib.ListN.{length, take, drop, get_or}
use lib.Seq.{get_or-drop}
use Rattle.rules.specs.Contexts.{string_of}
use Rattle.rules.specs.Moves.{swap, result, place, through, before, from}
use Rattle.rules.specs.declared.Language.{Language}
use Rattle.rules.specs.declared.Language.TheVariants.{Script, Style}
use Rattle.rules.specs.declared.Quotes.{Quotes}
use Rattle.rules.proofs.Quiet.{Keeps}
use Rattle.base.specs.Places.{Nearest, Holds, part}
use Rattle.base.proofs.Filled.{Filled, Next, filled-room}
use Rattle.base.proofs.Part.{part_length}
use Rattle.base.proofs.Counted.{Counted, counted_start, counted-quiet, counted-swap, next-quiet, next-swap}
use Rattle.reader.specs.Units.{Ruleless, byte_step}
use Rattle.read_strings.specs.Clear.{keys_of, is_key, Clear, Fresh}
use Rattle.read_strings.specs.Units.{is_form, length_of, gain_of, chars_at, end_of, UnitAt}
use Rattle.marks.proofs.Ahead.{with-last, ahead-size, filled-ahead}
use Rattle.read_strings.proofs.Looks.{before_at}
use Rattle.read_strings.proofs.Clearing.{clear-keeps}
use Rattle.read_strings.proofs.Forms.{form-stands, form-alone, gain-less}
use Rattle.read_strings.proofs.Reading.{unit-there, unit-goes, key-stops}

-- A test that is denied falsely holds.
pub affirmed : (x : Bool) → not x ≡ false → x ≡ true
affirmed true e = refl
affirmed false e = let never : ◌≡◌ {A = ℕ} 0 1 = cc in absurd (omega arith)

-- The second byte of a unit is within the text.
pub second-within : (p n len : ℕ) → 2 ≤ n → p + n ≤ len → p + 1 < len
second-within p n len h l = omega arith

pub at_least : {n : ℕ} → 2 ≤ n → 1 ≤ n
at_least h = omega arith

-- A place that is within a text and not its end is before it.
pub before-end : (p len : ℕ) → p ≤ len → (p ≡ len → ⊥) → p < len
before-end p len h n = omega (arith, n)

-- No rule stands beside the table of a string.
pub ruleless : (l : Language) (q : Quotes) → Ruleless (string_of l q)
ruleless Script q a = refl
ruleless Style q a = refl

-- What read gives of the text from place i on, byte by byte.
abbrev pub Rest : Language → Quotes → List ℕ → ℕ → List ℕ
Rest l q t i = result (from (byte_step (string_of l q)) t i)

-- At the start is no quote after a backslash.
pub fresh_start : (q : Quotes) (t : List ℕ) → Fresh q t 0
fresh_start q t h k e = omega (arith, e)

-- What is found to be a unit is one, and after it is no quote right after a backslash.
pub form-unit : (l : Language) (q : Quotes) (t : List ℕ) → ((k : ℕ) → get_or t k 0 < 256) → (i : ℕ) → i < length t → get_or t i 0 ≡ 0x5C
    → T (is_form l (keys_of q) (get_or t (i + 1) 0) (get_or t (i + 2) 0) (get_or t (i + 3) 0) (get_or t (i + 4) 0) (get_or t (i + 5) 0)) → UnitAt l q t i × Fresh q t (end_of t i)
form-unit l q t bytes i h m w =
    let s = drop i t in
    let g : (k : ℕ) → get_or s k 0 ≡ get_or t (i + k) 0 = λ k. get_or-drop i t k 0 in
    let z : i + 0 ≡ i = omega arith in
    let w' : T (is_form l (keys_of q) (get_or s 1 0) (get_or s 2 0) (get_or s 3 0) (get_or s 4 0) (get_or s 5 0)) =
    subst T (sym (λ j. is_form l (keys_of q) (g 1 j) (g 2 j) (g 3 j) (g 4 j) (g 5 j))) w in
    let u = unit-there l q t i (form-stands q s (λ k. subst (λ (b : ℕ). b < 256) (sym (g k)) (bytes (i + k))) (g 0 ∙ ap (λ (k : ℕ). get_or t k 0) z ∙ m) l w') (omega arith) in
    let one : 1 ≤ end_of t i = omega (arith, gain-less (get_or t (i + 1) 0) (bytes (i + 1))) in
    (u.0, λ b k e. u.1 (λ y. free y k) (sym (before_at t (end_of t i) one) ∙ e))
  where
    free : get_or t (i + 1) 0 ≡ 0x5C → is_key (keys_of q) (get_or t (end_of t i) 0) ≡ true → ⊥
    free y k =
        let two : end_of t i ≡ i + 2 = ap (λ (b : ℕ). i + length_of b) y in
        let none = form-alone l q (get_or t (i + 2) 0) (get_or t (i + 3) 0) (get_or t (i + 4) 0) (get_or t (i + 5) 0)
        (subst (λ (b : ℕ). T (is_form l (keys_of q) b (get_or t (i + 2) 0) (get_or t (i + 3) 0) (get_or t (i + 4) 0) (get_or t (i + 5) 0))) y w) in
        subst T (sym (sym none ∙ ap (λ (p : ℕ). is_key (keys_of q) (get_or t p 0)) (sym two) ∙ k)) tt

module _ (l : Language) (q : Quotes) (t : List ℕ) (clear : Clear l q t) where
  near-keeps : (i r : ℕ) → Nearest t i 0x5C r → Fresh q t i → Keeps (byte_step (string_of l q)) t i r
  near-keeps i r p f = clear-keeps l q t clear i r p.within p.none f

  -- The first backslash.
  pub count-start : (r : ℕ) → Nearest t 0 0x5C r → Counted (byte_step (string_of l q)) t r (r - 0) 0
  count-start r p =
      let n : 0 + (r - 0) ≡ r - 0 = omega arith in
      subst (λ (n : ℕ). Counted (byte_step (string_of l q)) t r n 0) n
      (counted-quiet (counted_start (byte_step (string_of l q)) t) r (omega arith) p.within (near-keeps 0 r p (fresh_start q t)))

  module _ (i n k : ℕ) (c : Counted (byte_step (string_of l q)) t i n k) where
    -- From a place to the next backslash.
    pub count-mark : Fresh q t i → (mark : ℕ) → Nearest t i 0x5C mark → Counted (byte_step (string_of l q)) t mark (n + (mark - i)) k
    count-mark f mark p = counted-quiet c mark p.after p.within (near-keeps i mark p f)

    -- And past a unit.
    pub count-unit : (m : ℕ) → m ≡ length_of (get_or t (i + 1) 0) → 1 ≤ m → UnitAt l q t i → Counted (byte_step (string_of l q)) t (i + m) (n + length (chars_at l t i)) (k + 1)
    count-unit m e some u =
        let less : length (chars_at l t i) ≤ m = omega (arith, u.shorter ∙ sym e) in
        counted-swap c m (chars_at l t i) some (subst (λ (m : ℕ). i + m ≤ length t) (sym e) u.ends) less
        (subst (λ (m : ℕ). byte_step (string_of l q) (before t i) (drop i t) ≡ swap (take m (drop i t)) (chars_at l t i)) (sym e) u.moves)

    -- At a backslash of a text that is read to its end is a unit, and at no place of it a quote right after a backslash.
    live : place (through (byte_step (string_of l q)) t) ≡ length t → i < length t → from (byte_step (string_of l q)) t i ≡ [] → ⊥
    live whole h e = omega (arith, c.far, whole, h, ap place e)

    pub mark-unit : place (through (byte_step (string_of l q)) t) ≡ length t → i < length t → get_or t i 0 ≡ 0x5C → UnitAt l q t i
    mark-unit whole h m = unit-goes l q t i h m (live whole h)

    pub whole_fresh : place (through (byte_step (string_of l q)) t) ≡ length t → Fresh q t i
    whole_fresh whole h k e = live whole h (key-stops l q t i h k)

  -- From one backslash to the next, where the result is `gain` bytes shorter than the text so far.
  pub count_next : (i gain k m g r : ℕ) → Counted (byte_step (string_of l q)) t i (i - gain) k → gain ≤ i → UnitAt l q t i × Fresh q t (end_of t i)
      → m ≡ length_of (get_or t (i + 1) 0) → g ≡ gain_of (get_or t (i + 1) 0) → 1 ≤ m → Nearest t (i + m) 0x5C r → Counted (byte_step (string_of l q)) t r (r - (gain + g)) (k + 1)
  count_next i gain k m g r c most (u, f) e d some p =
      let after = p.after in
      let w : length (chars_at l t i) + g ≡ m = ap (λ (g : ℕ). length (chars_at l t i) + g) d ∙ u.shorter ∙ sym e in
      let n : i - gain + length (chars_at l t i) + (r - (i + m)) ≡ r - (gain + g) = sums i gain (length (chars_at l t i)) g m r most w after in
      subst (λ (n : ℕ). Counted (byte_step (string_of l q)) t r n (k + 1)) n
      (count-mark (i + m) (i - gain + length (chars_at l t i)) (k + 1) (count-unit i (i - gain) k c m e some u) (subst (λ (m : ℕ). Fresh q t (i + m)) (sym e) f) r p)
    where
      sums : (i gain w g m r : ℕ) → gain ≤ i → w + g ≡ m → i + m ≤ r → i - gain + w + (r - (i + m)) ≡ r - (gain + g)
      sums i gain w g m r a b c = omega arith

  -- What stands next in the result: the bytes up to the next backslash,
  pub next-mark : (i mark : ℕ) → Nearest t i 0x5C mark → Fresh q t i → Next (Rest l q t i) (take (mark - i) (drop i t)) (Rest l q t mark)
  next-mark i mark p f = next-quiet (byte_step (string_of l q)) t i mark p.after p.within (near-keeps i mark p f)

  -- for which there is room,
  pub mark-room : {whole out₀ out : List ℕ} {at : ℕ} (i : ℕ) → Filled whole (Rest l q t i) out₀ out at → Fresh q t i → Holds t i 0x5C (length (take (length out - at) (drop at out)))
  mark-room i full f r p = omega (arith, filled-room full (next-mark i r p f), part_length t i r p.after p.within, p.after)

  pub mark-copied : {whole out₀ out : List ℕ} {at : ℕ} (i mark : ℕ) → Filled whole (Rest l q t i) out₀ out at → Nearest t i 0x5C mark → Fresh q t i
      → (last : List ℕ) (n : ℕ) → n ≡ mark - i → length last ≡ length (take (length out - at) (drop at out)) → take n last ≡ part t i mark
      → Filled whole (Rest l q t mark) (with-last at out last) (with-last at out last) (at + n)
  mark-copied i mark full p f last n h m e = filled-ahead full (next-mark i mark p f) last m n (h ∙ sym (part_length t i mark p.after p.within)) e

  pub mark-size : {whole out₀ out : List ℕ} {at : ℕ} (i mark : ℕ) → Filled whole (Rest l q t i) out₀ out at → Nearest t i 0x5C mark → Fresh q t i
      → (last : List ℕ) → length last ≡ length (take (length out - at) (drop at out)) → length (with-last at out last) ≡ length out
  mark-size i mark full p f last n = ahead-size full (next-mark i mark p f) last n

  -- At a place that is not the end the next backslash begins a unit.
  pub unit-after : (i n k mark : ℕ) → Counted (byte_step (string_of l q)) t i n k → place (through (byte_step (string_of l q)) t) ≡ length t → Nearest t i 0x5C mark → (mark ≡ length t → ⊥)
      → UnitAt l q t mark
  unit-after i n k mark c whole p other =
      let h = before-end mark (length t) p.within other in
      mark-unit mark (n + (mark - i)) k (count-mark i n k c (whole_fresh i n k c whole) mark p) whole h (p.here h)

  -- and the character of a unit.
  pub next-unit : (i m : ℕ) → m ≡ length_of (get_or t (i + 1) 0) → 1 ≤ m → UnitAt l q t i → Next (Rest l q t i) (chars_at l t i) (Rest l q t (i + m))
  next-unit i m e some u =
      next-swap (byte_step (string_of l q)) t i m (chars_at l t i) some (subst (λ (m : ℕ). i + m ≤ length t) (sym e) u.ends)
      (subst (λ (m : ℕ). byte_step (string_of l q) (before t i) (drop i t) ≡ swap (take m (drop i t)) (chars_at l t i)) (sym e) u.moves)
