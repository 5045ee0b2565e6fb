-- What a measuring loop has counted at place i of a text, for any rule: n bytes of the result and k replaced places. With what the moves from i
-- on have, these are the numbers of the whole.
-- Assumes nothing.
use mathlib.Core.Path.{◌≡◌, refl, sym, ap, ◌∙◌, subst}
use mathlib.Core.List.{List, [], ◌∷◌, ◌++◌}
use Prim.Native.Nat.{ℕ, zero, suc, ◌+◌, ◌-◌, ◌*◌, ◌≤◌, ◌<◌}
use native.Mathlib.Omega.{arith}
use lib.ListN.{length, take, drop, get_or, length-append, length-drop}
use lib.Seq.{length-take-le}
use Rattle.rules.specs.Bytes.{ascii, over}
use Rattle.rules.specs.Moves.{Move, keep, swap, leave, Rule, taken, result, replaced, lefts_at, first_of, first_left, place, through, before, from}
use Rattle.rules.specs.Encoding.{keep_byte}
use Rattle.rules.specs.declared.Reason.{Reason}
use Rattle.std.specs.Prelude.{Option as Maybe, Some, None, unwrap_or}
use Rattle.rules.specs.declared.Left.{Left}
use Rattle.rules.specs.Answers.{Measures, left_numbers}
use Rattle.rules.proofs.Loops.{from_next, drop-next}
use Rattle.rules.proofs.Quiet.{Keeps, quiet-result, quiet-place, quiet-replaced, quiet-lefts}
use Rattle.base.proofs.Filled.{Filled, Next, filled-end}
use Rattle.base.proofs.Part.{part_length}

pub record Counted (rule : Rule) (t : List ℕ) (i n k : ℕ) : Type 0 where
  pub inside : i ≤ length t
  pub most : 5 * n ≤ 6 * i
  pub few : k ≤ i
  pub long : n + length (result (from rule t i)) ≡ length (result (through rule t))
  pub many : k + replaced (from rule t i) ≡ replaced (through rule t)
  pub far : i + place (from rule t i) ≡ place (through rule t)

module _ (rule : Rule) (t : List ℕ) where
  -- One byte is kept.
  pub step-keep : (i : ℕ) → i < length t → rule (before t i) (drop i t) ≡ keep_byte (drop i t) → from rule t i ≡ keep (get_or t i 0 ∷ []) ∷ from rule t (i + 1)
  step-keep i h e = from_next rule t i 0 (keep (get_or t i 0 ∷ [])) h (e ∙ ap keep_byte (drop-next t i h)) refl

  -- The first bytes of what is left give way to others.
  pub step-swap : (i n : ℕ) (w : List ℕ) → 1 ≤ n → i + n ≤ length t → rule (before t i) (drop i t) ≡ swap (take n (drop i t)) w
      → from rule t i ≡ swap (take n (drop i t)) w ∷ from rule t (i + n)
  step-swap i zero w h l e = absurd (omega arith)
  step-swap i (suc k) w h l e =
      from_next rule t i k (swap (take (suc k) (drop i t)) w) (omega arith) e (length-take-le (suc k) (drop i t) (rw length-drop (omega arith)))

  -- A reference stays.
  pub step-leave : (i : ℕ) (w : Reason) → i < length t → rule (before t i) (drop i t) ≡ leave w (ascii "&") → from rule t i ≡ leave w (ascii "&") ∷ from rule t (i + 1)
  step-leave i w h e = from_next rule t i 0 (leave w (ascii "&")) h e refl

  pub counted_start : Counted rule t 0 0 0
  counted_start = record { inside = omega arith; most = omega arith; few = omega arith; long = omega arith; many = omega arith; far = omega arith }

module _ {rule : Rule} {t : List ℕ} {i n k : ℕ} (c : Counted rule t i n k) where
  -- A stretch of kept bytes.
  pub counted-quiet : (r : ℕ) → i ≤ r → r ≤ length t → Keeps rule t i r → Counted rule t r (n + (r - i)) k
  counted-quiet r h l q =
      let e : length (result (from rule t i)) ≡ (r - i) + length (result (from rule t r)) =
      ap length (quiet-result rule t i r h l q) ∙ length-append (take (r - i) (drop i t)) (result (from rule t r)) ∙ rw (part_length t i r h l) in
      record {
        inside = l;
        most = omega (arith, c.most);
        few = omega (arith, c.few);
        long = omega (arith, c.long, e);
        many = omega (arith, c.many, quiet-replaced rule t i r h l q);
        far = omega (arith, c.far, quiet-place rule t i r h l q);
      }

  -- One byte that is kept.
  pub counted-keep : i < length t → rule (before t i) (drop i t) ≡ keep_byte (drop i t) → Counted rule t (i + 1) (n + 1) k
  counted-keep h e =
      let s = step-keep rule t i h e in
      record {
        inside = omega arith;
        most = omega (arith, c.most);
        few = omega (arith, c.few);
        long = omega (arith, c.long, ap (λ (ms : List Move). length (result ms)) s);
        many = omega (arith, c.many, ap replaced s);
        far = omega (arith, c.far, ap place s);
      }

  -- A reference that stays.
  pub counted-leave : (w : Reason) → i < length t → rule (before t i) (drop i t) ≡ leave w (ascii "&") → Counted rule t (i + 1) (n + 1) k
  counted-leave w h e =
      let s = step-leave rule t i w h e in
      record {
        inside = omega arith;
        most = omega (arith, c.most);
        few = omega (arith, c.few);
        long = omega (arith, c.long, ap (λ (ms : List Move). length (result ms)) s);
        many = omega (arith, c.many, ap replaced s);
        far = omega (arith, c.far, ap place s);
      }

  -- Some bytes that give way to others, at most a fifth more than they are.
  pub counted-grow : (m : ℕ) (w : List ℕ) → 1 ≤ m → i + m ≤ length t → 5 * length w ≤ 6 * m → rule (before t i) (drop i t) ≡ swap (take m (drop i t)) w
      → Counted rule t (i + m) (n + length w) (k + 1)
  counted-grow m w h l f e =
      let s = step-swap rule t i m w h l e in
      let r = from rule t (i + m) in
      let z : length (take m (drop i t)) ≡ m = length-take-le m (drop i t) (rw length-drop (omega arith)) in
      record {
        inside = l;
        most = omega (arith, c.most);
        few = omega (arith, c.few);
        long = omega (arith, c.long, ap (λ (ms : List Move). length (result ms)) s, length-append w (result r));
        many = omega (arith, c.many, ap replaced s);
        far = omega (arith, c.far, ap place s, length-append (take m (drop i t)) (taken r), z);
      }

  -- The same where they are no more.
  pub counted-swap : (m : ℕ) (w : List ℕ) → 1 ≤ m → i + m ≤ length t → length w ≤ m → rule (before t i) (drop i t) ≡ swap (take m (drop i t)) w
      → Counted rule t (i + m) (n + length w) (k + 1)
  counted-swap m w h l f e = counted-grow m w h l (omega arith) e

  -- Where no move is left, all is counted.
  pub counted-end : from rule t i ≡ [] → (n ≡ length (result (through rule t))) × (k ≡ replaced (through rule t)) × (i ≡ place (through rule t))
  counted-end e = (
    omega (arith, c.long, ap (λ (ms : List Move). length (result ms)) e),
    omega (arith, c.many, ap replaced e),
    omega (arith, c.far, ap place e),
  )

  -- So they are what a pass over the text finds, with the first reference that stays.
  pub counted-measures : (left : Maybe Left) → from rule t i ≡ [] → first_left (through rule t) ≡ left_numbers left
      → Measures (record { length = n; place = i; replaced = k; left = left }) (through rule t)
  counted-measures left e f = let (long, many, far) = counted-end e in record { long = long; reach = far; many = many; first = sym f }

-- ---- the first reference that stays

-- Place and reason of the noted reference, and those of a later one where none is noted.
abbrev pub noted_or : Maybe Left → ℕ × ℕ → ℕ × ℕ
noted_or None later = later
noted_or (Some l) later = left_numbers (Some l)

-- What a loop has noted at place i: the first reference that stays before i; where there is none, the first is still to come.
pub record Noted (rule : Rule) (t : List ℕ) (i : ℕ) (left : Maybe Left) : Type 0 where
  pub first : first_left (through rule t) ≡ noted_or left (first_of (lefts_at i (from rule t i)))

pub noted-start : (rule : Rule) (t : List ℕ) → Noted rule t 0 None
noted-start rule t = record { first = refl }

module _ {rule : Rule} {t : List ℕ} {i : ℕ} {left : Maybe Left} (c : Noted rule t i left) where
  -- The same references stay from place j on.
  on : (j : ℕ) → lefts_at i (from rule t i) ≡ lefts_at j (from rule t j) → Noted rule t j left
  on j e = record { first = c.first ∙ ap (λ (ls : List (ℕ × Reason)). noted_or left (first_of ls)) e }

  -- A stretch of kept bytes.
  pub noted-quiet : (j : ℕ) → i ≤ j → j ≤ length t → Keeps rule t i j → Noted rule t j left
  noted-quiet j h k q = on j (quiet-lefts rule t i j h k q)

  -- Some bytes that give way to others.
  pub noted-swap : (m : ℕ) (w : List ℕ) → 1 ≤ m → i + m ≤ length t → rule (before t i) (drop i t) ≡ swap (take m (drop i t)) w → Noted rule t (i + m) left
  noted-swap m w h k e =
      let z : length (take m (drop i t)) ≡ m = length-take-le m (drop i t) (rw length-drop (omega arith)) in
      on (i + m) (ap (lefts_at i) (step-swap rule t i m w h k e) ∙ ap (λ (n : ℕ). lefts_at (i + n) (from rule t (i + m))) z)

-- A reference that stays: it is the first, or another was.
pub noted-leave : {rule : Rule} {t : List ℕ} {i : ℕ} (left : Maybe Left) → Noted rule t i left → (w : Reason) → i < length t
    → rule (before t i) (drop i t) ≡ leave w (ascii "&") → Noted rule t (i + 1) (Some (unwrap_or left (record { place = i; reason = w })))
noted-leave {rule = rule} {t = t} {i = i} None c w h e = record { first = c.first ∙ ap (λ (ms : List Move). first_of (lefts_at i ms)) (step-leave rule t i w h e) }
noted-leave (Some l) c w h e = record { first = c.first }

-- Where no move is left, it is the first of all.
pub noted-end : {rule : Rule} {t : List ℕ} {i : ℕ} (left : Maybe Left) → Noted rule t i left → from rule t i ≡ [] → first_left (through rule t) ≡ left_numbers left
noted-end {i = i} None c e = c.first ∙ ap (λ (ms : List Move). first_of (lefts_at i ms)) e
noted-end (Some l) c e = c.first

-- ---- the same for a writing loop: what stands next in the result

module _ (rule : Rule) (t : List ℕ) where
  pub next-quiet : (i r : ℕ) → i ≤ r → r ≤ length t → Keeps rule t i r → Next (result (from rule t i)) (take (r - i) (drop i t)) (result (from rule t r))
  next-quiet i r h l q = record { next = quiet-result rule t i r h l q }

  pub next-keep : (i : ℕ) → i < length t → rule (before t i) (drop i t) ≡ keep_byte (drop i t)
      → Next (result (from rule t i)) (take (i + 1 - i) (drop i t)) (result (from rule t (i + 1)))
  next-keep i h e =
      let z : i + 1 - i ≡ 1 = omega arith in
      let w : take (i + 1 - i) (drop i t) ≡ get_or t i 0 ∷ [] = rw (z, drop-next t i h) in
      record { next = ap result (step-keep rule t i h e) ∙ ap (λ (w : List ℕ). w ++ result (from rule t (i + 1))) (sym w) }

  pub next-swap : (i n : ℕ) (w : List ℕ) → 1 ≤ n → i + n ≤ length t → rule (before t i) (drop i t) ≡ swap (take n (drop i t)) w
      → Next (result (from rule t i)) w (result (from rule t (i + n)))
  next-swap i n w h l e = record { next = ap result (step-swap rule t i n w h l e) }

-- Where no move is left, all is written.
pub filled-all : {whole rest out₀ out : List ℕ} {at : ℕ} → Filled whole rest out₀ out at → rest ≡ [] → (at ≡ length whole) × (out ≡ over whole out₀)
filled-all {whole} {rest} {out₀} {out} {at} f e = (omega (arith, f.sum, ap length e), filled-end (subst (λ (r : List ℕ). Filled whole r out₀ out at) e f))

-- The fill position is within the output.
pub filled_within : {whole rest out₀ out : List ℕ} {at : ℕ} → Filled whole rest out₀ out at → at ≤ length out
filled_within f = omega (arith, f.sum, f.kept, f.room)
