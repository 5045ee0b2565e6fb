-- What is told byte by byte of a clear text is what a loop from backslash to backslash counts: where every unit that begins is one, none begins within it.
-- Assumes nothing.
use Rattle.std.specs.Prelude.{Some}
use mathlib.Core.Bool.{Bool, true, false, not, ◌&&◌, cond}
use mathlib.Core.Path.{◌≡◌, refl, sym, ap, ◌∙◌, subst}
use mathlib.Core.List.{List}
use Prim.Native.Nat.{ℕ, zero, suc, ◌+◌, ◌-◌, ◌*◌, ◌≤◌, ◌<◌}
use native.Mathlib.Omega.{arith}
use borrow.Author.Tests.{eq-eqb, ne_eqb, ltb-true, ltb-false, eqb-true, eqb-false}
use lib.Dec.{T, eqb, leb, ltb, eqb→eq, leb→le}
use lib.ListN.{length, drop, get_or, get_or-append}
use lib.Seq.{get_or-drop}
use Rattle.rules.specs.Bytes.{all}
use Rattle.rules.specs.Contexts.{string_of}
use Rattle.rules.specs.Tables.{Row, value, rows}
use Rattle.rules.specs.declared.Language.{Language}
use Rattle.rules.specs.declared.Quotes.{Quotes}
use Rattle.rules.proofs.EveryByte.{every_byte_lem}
use Rattle.rules.proofs.Tests.{and_left, and_right, all_in, stands-split}
use Rattle.base.specs.Places.{Nearest, Absent}
use Rattle.base.proofs.Counted.{Counted, counted_start, counted-quiet}
use Rattle.reader.specs.Units.{byte_step}
use Rattle.read_strings.specs.Clear.{keys_of, Clear, Fresh}
use Rattle.read_strings.specs.Units.{is_form, length_of, gain_of, chars_at, end_of}
use Rattle.read_strings.specs.Dense.{start_by, last_of, start_at, is_short, unless_it, longer_at, wrong_at, sum_to, Ready}
use Rattle.read_strings.specs.declared.dense.Begun.{Begun}
use Rattle.read_strings.proofs.Six.{six}
use Rattle.read_strings.proofs.Looks.{before_at}
use Rattle.read_strings.proofs.Clearing.{clear-keeps}
use Rattle.read_strings.proofs.Forms.{Stands, form-stands, length_two}
use Rattle.read_strings.proofs.Turns.{fresh_start, form-unit, count-start, count-unit}

-- ---- sums

pub sum-next : (f : ℕ → ℕ) (n j : ℕ) → sum_to f (n + (j + 1)) ≡ sum_to f (n + j) + f (n + j)
sum-next f n j = let e : n + (j + 1) ≡ suc (n + j) = omega arith in ap (sum_to f) e

sum_one : (f : ℕ → ℕ) (n : ℕ) → sum_to f (n + 1) ≡ sum_to f n + f n
sum_one f n = let e : n + 1 ≡ suc n = omega arith in ap (sum_to f) e

pub sum-zero : (f : ℕ → ℕ) (n : ℕ) → sum_to f (n + 0) ≡ sum_to f n + 0
sum-zero f n =
    let e : n + 0 ≡ n = omega arith in
    let z : sum_to f n ≡ sum_to f n + 0 = omega arith in
    ap (sum_to f) e ∙ z

-- Places that add nothing.
sum-flat : (f : ℕ → ℕ) (n m : ℕ) → ((k : ℕ) → n ≤ k → k < n + m → f k ≡ 0) → sum_to f (n + m) ≡ sum_to f n
sum-flat f n zero h = let e : n + 0 ≡ n = omega arith in ap (sum_to f) e
sum-flat f n (suc m) h =
    let e : n + suc m ≡ suc (n + m) = omega arith in
    let z : f (n + m) ≡ 0 = h (n + m) (omega arith) (omega arith) in
    let s : sum_to f (n + m) + f (n + m) ≡ sum_to f n = omega (arith, z, sum-flat f n m (λ k a b. h k a (omega arith))) in
    ap (sum_to f) e ∙ s

-- A sum that is 0 has no other number.
sum-none : (f : ℕ → ℕ) (n k : ℕ) → sum_to f n ≡ 0 → k < n → f k ≡ 0
sum-none f zero k e h = absurd (omega arith)
sum-none f (suc n) k e h = go (sum-none f n k) (ltb k n) refl
  where
    e' : sum_to f n + f n ≡ 0
    e' = e

    go : (sum_to f n ≡ 0 → k < n → f k ≡ 0) → (x : Bool) → ltb k n ≡ x → f k ≡ 0
    go rec true p = rec (omega (arith, e')) (ltb-true k n p)
    go rec false p = let m : n ≡ k = omega (arith, ltb-false k n p) in subst (λ (k : ℕ). f k ≡ 0) m (omega (arith, e'))

-- ---- bytes that begin a unit

pub last-next : (t : List ℕ) (n j : ℕ) → last_of t (n + (j + 1)) ≡ start_at t (n + j)
last-next t n j = let e : n + (j + 1) ≡ suc (n + j) = omega arith in ap (last_of t) e

last_one : (t : List ℕ) (n : ℕ) → last_of t (n + 1) ≡ start_at t n
last_one t n = let e : n + 1 ≡ suc n = omega arith in ap (last_of t) e

pub start-most : (last b : ℕ) → start_by last b ≤ 1
start-most last b = go (eqb b 0x5C && eqb last 0)
  where
    go : (x : Bool) → cond x 1 0 ≤ 1
    go true = omega arith
    go false = omega arith

pub last-most : (t : List ℕ) (k : ℕ) → last_of t k ≤ 1
last-most t zero = omega arith
last-most t (suc k) = start-most (last_of t k) (get_or t k 0)

start_is : (last b : ℕ) → b ≡ 0x5C → last ≡ 0 → start_by last b ≡ 1
start_is last b p q = rw (eq-eqb b 0x5C p, eq-eqb last 0 q)

start-other : (last b : ℕ) → (b ≡ 0x5C → ⊥) → start_by last b ≡ 0
start-other last b h = rw (ne_eqb b 0x5C h)

start-after : (last b : ℕ) → (last ≡ 0 → ⊥) → start_by last b ≡ 0
start-after last b h = rw (ne_eqb last 0 h) (go (eqb b 0x5C))
  where
    go : (x : Bool) → ◌≡◌ {A = ℕ} (cond (x && false) 1 0) 0
    go true = refl
    go false = refl

unless-zero : (x : Bool) (n : ℕ) → n ≡ 0 → unless_it x n ≡ 0
unless-zero true n e = refl
unless-zero false n e = e

unless-passed : (x : Bool) (n : ℕ) → unless_it x n ≡ 0 → n ≡ 1 → T x
unless-passed true n e o = tt
unless-passed false n e o = let z : n ≡ 0 = e in absurd (omega (arith, z, o))

-- By how much a unit is longer than its character.
gain-is : (b : ℕ) → b < 256 → gain_of b ≡ 1 + unless_it (is_short b) 1 * 2
gain-is b h = eqb→eq (gain_of b) (1 + unless_it (is_short b) 1 * 2) (every_byte_lem (λ (b : ℕ). eqb (gain_of b) (1 + unless_it (is_short b) 1 * 2)) tt b h)

-- ---- what lies within a unit

abbrev free : Row → ℕ → Bool
free e k = not (eqb (get_or (value e) k 0) 0x5C)

-- A row has the length that its second byte tells, and after the second byte no backslash.
abbrev inner : Row → Bool
inner e = eqb (length_of (get_or (value e) 1 0)) (length (value e)) && ((leb 2 (length (value e)) && leb (length (value e)) 6) && ((free e 2 && free e 3) && (free e 4 && free e 5)))

abbrev told : Language → Quotes → Bool
told l q = all inner (rows (string_of l q))

no-mark : (x : ℕ) → T (not (eqb x 0x5C)) → x ≡ 0x5C → ⊥
no-mark x w z = subst (λ (x : ℕ). T (not (eqb x 0x5C))) z w

row-free : (e : Row) → T (inner e) → (k : ℕ) → 2 ≤ k → k < length (value e) → get_or (value e) k 0 ≡ 0x5C → ⊥
row-free e w = go
  where
    rest : T ((leb 2 (length (value e)) && leb (length (value e)) 6) && ((free e 2 && free e 3) && (free e 4 && free e 5)))
    rest = and_right (eqb (length_of (get_or (value e) 1 0)) (length (value e))) ((leb 2 (length (value e)) && leb (length (value e)) 6) && ((free e 2 && free e 3) && (free e 4 && free e 5))) w

    most : length (value e) ≤ 6
    most = leb→le (length (value e)) 6 (and_right (leb 2 (length (value e))) (leb (length (value e)) 6) (and_left (leb 2 (length (value e)) && leb (length (value e)) 6) ((free e 2 && free e 3) && (free e 4 && free e 5)) rest))

    four : T ((free e 2 && free e 3) && (free e 4 && free e 5))
    four = and_right (leb 2 (length (value e)) && leb (length (value e)) 6) ((free e 2 && free e 3) && (free e 4 && free e 5)) rest

    low : T (free e 2 && free e 3)
    low = and_left (free e 2 && free e 3) (free e 4 && free e 5) four

    high : T (free e 4 && free e 5)
    high = and_right (free e 2 && free e 3) (free e 4 && free e 5) four

    go : (k : ℕ) → 2 ≤ k → k < length (value e) → get_or (value e) k 0 ≡ 0x5C → ⊥
    go zero a b = absurd (omega arith)
    go (suc zero) a b = absurd (omega arith)
    go (suc (suc zero)) a b = no-mark (get_or (value e) 2 0) (and_left (free e 2) (free e 3) low)
    go (suc (suc (suc zero))) a b = no-mark (get_or (value e) 3 0) (and_right (free e 2) (free e 3) low)
    go (suc (suc (suc (suc zero)))) a b = no-mark (get_or (value e) 4 0) (and_left (free e 4) (free e 5) high)
    go (suc (suc (suc (suc (suc zero))))) a b = no-mark (get_or (value e) 5 0) (and_right (free e 4) (free e 5) high)
    go (suc (suc (suc (suc (suc (suc k)))))) a b = absurd (omega (arith, most))

module _ (l : Language) (q : Quotes) (t : List ℕ) (bytes : (k : ℕ) → get_or t k 0 < 256) where
  stands-free : (i : ℕ) → Stands l q (drop i t) → (k : ℕ) → 2 ≤ k → k < length_of (get_or t (i + 1) 0) → get_or t (i + k) 0 ≡ 0x5C → ⊥
  stands-free i (e, n, w) k a b m =
      let v = value e in
      let p = all_in inner (rows (string_of l q)) (six told tt l q) e n in
      let size : length_of (get_or v 1 0) ≡ length v = eqb→eq (length_of (get_or v 1 0)) (length v) (and_left (eqb (length_of (get_or v 1 0)) (length v)) ((leb 2 (length v) && leb (length v) 6) && ((free e 2 && free e 3) && (free e 4 && free e 5))) p) in
      let rest = and_right (eqb (length_of (get_or v 1 0)) (length v)) ((leb 2 (length v) && leb (length v) 6) && ((free e 2 && free e 3) && (free e 4 && free e 5))) p in
      let two : 2 ≤ length v = leb→le 2 (length v) (and_left (leb 2 (length v)) (leb (length v) 6) (and_left (leb 2 (length v) && leb (length v) 6) ((free e 2 && free e 3) && (free e 4 && free e 5)) rest)) in
      let (r, s) = stands-split v (drop i t) w in
      let at : (k : ℕ) → k < length v → get_or t (i + k) 0 ≡ get_or v k 0 = λ k b. sym (get_or-drop i t k 0) ∙ ap (λ (l : List ℕ). get_or l k 0) s ∙ get_or-append v r 0 k b in
      let next : get_or t (i + 1) 0 ≡ get_or v 1 0 = at 1 (omega (arith, two)) in
      let less : k < length v = omega (arith, b, ap length_of next, size) in
      row-free e p k a less (sym (at k less) ∙ m)

  form-free : (i : ℕ) → get_or t i 0 ≡ 0x5C → T (is_form l (keys_of q) (get_or t (i + 1) 0) (get_or t (i + 2) 0) (get_or t (i + 3) 0) (get_or t (i + 4) 0) (get_or t (i + 5) 0))
      → (k : ℕ) → 2 ≤ k → k < length_of (get_or t (i + 1) 0) → get_or t (i + k) 0 ≡ 0x5C → ⊥
  form-free i m w =
      let s = drop i t in
      let g : (k : ℕ) → get_or s k 0 ≡ get_or t (i + k) 0 = λ k. get_or-drop i t k 0 in
      let z : i + 0 ≡ i = omega arith in
      let w' : T (is_form l (keys_of q) (get_or s 1 0) (get_or s 2 0) (get_or s 3 0) (get_or s 4 0) (get_or s 5 0)) =
      subst T (sym (λ j. is_form l (keys_of q) (g 1 j) (g 2 j) (g 3 j) (g 4 j) (g 5 j))) w in
      stands-free i (form-stands q s (λ k. subst (λ (b : ℕ). b < 256) (sym (g k)) (bytes (i + k))) (g 0 ∙ ap (λ (k : ℕ). get_or t k 0) z ∙ m) l w')

-- ---- from unit to unit

-- What is counted so far at a place where none has begun.
abbrev gain_to : List ℕ → ℕ → ℕ
gain_to t p = sum_to (start_at t) p + sum_to (longer_at t) p * 2

pub record Between (l : Language) (q : Quotes) (t : List ℕ) (p : ℕ) : Type 0 where
  pub count : Counted (byte_step (string_of l q)) t p (p - gain_to t p) (sum_to (start_at t) p)
  pub less : gain_to t p ≤ p
  pub fresh : Fresh q t p
  pub none : last_of t p ≡ 0

pub recount : (l : Language) (q : Quotes) (t : List ℕ) (p n n' k k' : ℕ) → n ≡ n' → k ≡ k' → Counted (byte_step (string_of l q)) t p n k → Counted (byte_step (string_of l q)) t p n' k'
recount l q t p n n' k k' e d c = subst (λ (n : ℕ). Counted (byte_step (string_of l q)) t p n k') e (subst (λ (k : ℕ). Counted (byte_step (string_of l q)) t p n k) d c)

module _ (l : Language) (q : Quotes) (t : List ℕ) (clear : Clear l q t) (bytes : (k : ℕ) → get_or t k 0 < 256) where
  -- Past a byte that is kept.
  plain_step : (p : ℕ) → p < length t → (get_or t p 0 ≡ 0x5C → ⊥) → Between l q t p → Between l q t (p + 1)
  plain_step p h other b =
      let none : start_at t p ≡ 0 = start-other (last_of t p) (get_or t p 0) other in
      let u : sum_to (start_at t) (p + 1) ≡ sum_to (start_at t) p = omega (arith, sum_one (start_at t) p, none) in
      let long : longer_at t p ≡ 0 = unless-zero (is_short (get_or t (p + 1) 0)) (start_at t p) none in
      let v : sum_to (longer_at t) (p + 1) ≡ sum_to (longer_at t) p = omega (arith, sum_one (longer_at t) p, long) in
      let g = b.less in
      record {
        count =
            recount l q t (p + 1) (p - gain_to t p + (p + 1 - p)) (p + 1 - gain_to t (p + 1)) (sum_to (start_at t) p) (sum_to (start_at t) (p + 1)) (omega (arith, u, v, g)) (sym u)
            (counted-quiet b.count (p + 1) (omega arith) (omega arith) (clear-keeps l q t clear p (p + 1) (omega arith) absent b.fresh));
        less = omega (arith, u, v, g);
        fresh = λ h k e. other (at_place ∙ sym (before_at t (p + 1) (omega arith)) ∙ e);
        none = last_one t p ∙ none;
      }
    where
      absent : Absent t p (p + 1) 0x5C
      absent k a c e = let m : k ≡ p = omega arith in other (subst (λ (k : ℕ). get_or t k 0 ≡ 0x5C) m e)

      at_place : get_or t p 0 ≡ get_or t (p + 1 - 1) 0
      at_place = let m : p ≡ p + 1 - 1 = omega arith in ap (λ (k : ℕ). get_or t k 0) m

  module _ (p : ℕ) (h : p < length t) (m : get_or t p 0 ≡ 0x5C) (none : last_of t p ≡ 0)
      (w : T (is_form l (keys_of q) (get_or t (p + 1) 0) (get_or t (p + 2) 0) (get_or t (p + 3) 0) (get_or t (p + 4) 0) (get_or t (p + 5) 0))) where
    starts : start_at t p ≡ 1
    starts = start_is (last_of t p) (get_or t p 0) m none

    abbrev n : ℕ
    n = length_of (get_or t (p + 1) 0)

    two : 2 ≤ n
    two = length_two (get_or t (p + 1) 0) (bytes (p + 1))

    -- Within a unit none begins.
    within : (k : ℕ) → 1 ≤ k → k < n → start_at t (p + k) ≡ 0
    within zero a b = absurd (omega arith)
    within (suc zero) a b = start-after (last_of t (p + 1)) (get_or t (p + 1) 0) (λ z. omega (arith, z, last_one t p, starts))
    within (suc (suc k)) a b = start-other (last_of t (p + suc (suc k))) (get_or t (p + suc (suc k)) 0) (form-free l q t bytes p m w (suc (suc k)) (omega arith) b)

    sum-unit : (f : ℕ → ℕ) → ((k : ℕ) → start_at t k ≡ 0 → f k ≡ 0) → sum_to f (p + n) ≡ sum_to f p + f p
    sum-unit f z =
        let e : p + 1 + (n - 1) ≡ p + n = omega (arith, two) in
        sym (ap (sum_to f) e) ∙ sum-flat f (p + 1) (n - 1) (λ k a b. z k (at k a b)) ∙ sum_one f p
      where
        at : (k : ℕ) → p + 1 ≤ k → k < p + 1 + (n - 1) → start_at t k ≡ 0
        at k a b = let e : p + (k - p) ≡ k = omega arith in subst (λ (k : ℕ). start_at t k ≡ 0) e (within (k - p) (omega arith) (omega (arith, two)))

    unit-step : Between l q t p → Between l q t (p + n)
    unit-step b =
        let (u, f) = form-unit l q t bytes p h m w in
        let s : sum_to (start_at t) (p + n) ≡ sum_to (start_at t) p + 1 = sum-unit (start_at t) (λ k e. e) ∙ ap (λ (x : ℕ). sum_to (start_at t) p + x) starts in
        let v : sum_to (longer_at t) (p + n) ≡ sum_to (longer_at t) p + longer_at t p = sum-unit (longer_at t) (λ k e. unless-zero (is_short (get_or t (k + 1) 0)) (start_at t k) e) in
        let gain : gain_of (get_or t (p + 1) 0) ≡ 1 + longer_at t p * 2 = gain-is (get_or t (p + 1) 0) (bytes (p + 1)) ∙ ap (λ (x : ℕ). 1 + unless_it (is_short (get_or t (p + 1) 0)) x * 2) (sym starts) in
        let g = b.less in
        let short = u.shorter in
        let e : p + (n - 1) + 1 ≡ p + n = omega (arith, two) in
        record {
          count =
              recount l q t (p + n) (p - gain_to t p + length (chars_at l t p)) (p + n - gain_to t (p + n)) (sum_to (start_at t) p + 1) (sum_to (start_at t) (p + n)) (omega (arith, s, v, gain, g, short)) (sym s)
              (count-unit l q t clear p (p - gain_to t p) (sum_to (start_at t) p) b.count n refl (omega (arith, two)) u);
          less = omega (arith, s, v, gain, g, short);
          fresh = f;
          none = sym (ap (last_of t) e) ∙ last_one t (p + (n - 1)) ∙ within (n - 1) (omega (arith, two)) (omega (arith, two));
        }

    unit_ends : end_of t p ≤ length t
    unit_ends = (form-unit l q t bytes p h m w).0.ends

  -- Up to the next backslash from place i on, if all that begins before i is a unit.
  module _ (i r : ℕ) (near : Nearest t (i + last_of t i) 0x5C r) (right : sum_to (wrong_at l (keys_of q) t) i ≡ 0) where
    flat : (k : ℕ) → i ≤ k → k < r → start_at t k ≡ 0
    flat k a b = go (ltb i k) refl
      where
        here : (x : Bool) → eqb (last_of t i) 0 ≡ x → i < r → start_at t i ≡ 0
        here true e c = start-other (last_of t i) (get_or t i 0) (near.none i (omega (arith, eqb-true (last_of t i) 0 e)) c)
        here false e c = start-after (last_of t i) (get_or t i 0) (eqb-false (last_of t i) 0 e)

        go : (x : Bool) → ltb i k ≡ x → start_at t k ≡ 0
        go true e = start-other (last_of t k) (get_or t k 0) (near.none k (omega (arith, ltb-true i k e, last-most t i)) b)
        go false e = let m : i ≡ k = omega (arith, ltb-false i k e) in subst (λ (k : ℕ). start_at t k ≡ 0) m (here (eqb (last_of t i) 0) refl (omega arith))

    after : i ≤ r
    after = omega (arith, near.after)

    sum_near : (f : ℕ → ℕ) → ((k : ℕ) → start_at t k ≡ 0 → f k ≡ 0) → sum_to f r ≡ sum_to f i
    sum_near f z = let e : i + (r - i) ≡ r = omega (arith, after) in sym (ap (sum_to f) e) ∙ sum-flat f i (r - i) (λ k a b. z k (flat k a (omega (arith, e))))

    form-at : (k : ℕ) → k < r → start_at t k ≡ 1 → T (is_form l (keys_of q) (get_or t (k + 1) 0) (get_or t (k + 2) 0) (get_or t (k + 3) 0) (get_or t (k + 4) 0) (get_or t (k + 5) 0))
    form-at k b one =
        let all : sum_to (wrong_at l (keys_of q) t) r ≡ 0 = sum_near (wrong_at l (keys_of q) t) (λ k e. unless-zero (is_form l (keys_of q) (get_or t (k + 1) 0) (get_or t (k + 2) 0) (get_or t (k + 3) 0) (get_or t (k + 4) 0) (get_or t (k + 5) 0)) (start_at t k) e) ∙ right in
        unless-passed (is_form l (keys_of q) (get_or t (k + 1) 0) (get_or t (k + 2) 0) (get_or t (k + 3) 0) (get_or t (k + 4) 0) (get_or t (k + 5) 0)) (start_at t k) (sum-none (wrong_at l (keys_of q) t) r k all b) one

    -- The next backslash begins a unit.
    last-near : last_of t r ≡ 0
    last-near = go (ltb i r) refl
      where
        go : (x : Bool) → ltb i r ≡ x → last_of t r ≡ 0
        go true e = let p = ltb-true i r e in let m : r - 1 + 1 ≡ r = omega arith in sym (ap (last_of t) m) ∙ last_one t (r - 1) ∙ flat (r - 1) (omega arith) (omega arith)
        go false e = let m : i ≡ r = omega (arith, ltb-false i r e, after) in subst (λ (k : ℕ). last_of t k ≡ 0) m (omega (arith, near.after))

    fits : (p : ℕ) → p < r → (h : p < length t) (m : get_or t p 0 ≡ 0x5C) (none : last_of t p ≡ 0)
        (w : T (is_form l (keys_of q) (get_or t (p + 1) 0) (get_or t (p + 2) 0) (get_or t (p + 3) 0) (get_or t (p + 4) 0) (get_or t (p + 5) 0))) → p + length_of (get_or t (p + 1) 0) ≤ r
    fits p b h m none w = go (ltb r (p + length_of (get_or t (p + 1) 0))) refl (ltb r (length t)) refl
      where
        end : end_of t p ≤ length t
        end = unit_ends p h m none w

        go : (x : Bool) → ltb r (p + length_of (get_or t (p + 1) 0)) ≡ x → (y : Bool) → ltb r (length t) ≡ y → p + length_of (get_or t (p + 1) 0) ≤ r
        go false e y d = ltb-false r (p + length_of (get_or t (p + 1) 0)) e
        go true e false d = omega (arith, end, ltb-false r (length t) d)
        go true e true d =
            let inside = ltb-true r (p + length_of (get_or t (p + 1) 0)) e in
            let one : start_at t r ≡ 1 = start_is (last_of t r) (get_or t r 0) (near.here (ltb-true r (length t) d)) last-near in
            let k : p + (r - p) ≡ r = omega arith in
            let no : start_at t r ≡ 0 = subst (λ (k : ℕ). start_at t k ≡ 0) k (within p h m none w (r - p) (omega arith) (omega (arith, inside))) in
            absurd (omega (arith, one, no))

    walk : (f p : ℕ) → r ≤ p + f → p ≤ r → Between l q t p → Between l q t r
    walk zero p a b s = let m : p ≡ r = omega arith in subst (Between l q t) m s
    walk (suc f) p a b s = go (walk f) (ltb p r) refl
      where
        turn : ((p : ℕ) → r ≤ p + f → p ≤ r → Between l q t p → Between l q t r) → p < r → (x : Bool) → eqb (get_or t p 0) 0x5C ≡ x → Between l q t r
        turn rec c false e = rec (p + 1) (omega arith) (omega arith) (plain_step p (omega (arith, near.within)) (eqb-false (get_or t p 0) 0x5C e) s)
        turn rec c true e =
            let m = eqb-true (get_or t p 0) 0x5C e in
            let h : p < length t = omega (arith, near.within) in
            let w = form-at p c (start_is (last_of t p) (get_or t p 0) m s.none) in
            let two = length_two (get_or t (p + 1) 0) (bytes (p + 1)) in
            rec (p + length_of (get_or t (p + 1) 0)) (omega (arith, two)) (fits p c h m s.none w) (unit-step p h m s.none w s)

        go : ((p : ℕ) → r ≤ p + f → p ≤ r → Between l q t p → Between l q t r) → (x : Bool) → ltb p r ≡ x → Between l q t r
        go rec true e = turn rec (ltb-true p r e) (eqb (get_or t p 0) 0x5C) refl
        go rec false e = let m : p ≡ r = omega (arith, ltb-false p r e) in subst (Between l q t) m s

    pub counted-near : (sum_to (start_at t) i + sum_to (longer_at t) i * 2 ≤ r) × Counted (byte_step (string_of l q)) t r (r - (sum_to (start_at t) i + sum_to (longer_at t) i * 2)) (sum_to (start_at t) i)
    counted-near =
        let b = walk r 0 (omega arith) (omega arith) (record { count = counted_start (byte_step (string_of l q)) t; less = omega arith; fresh = fresh_start q t; none = refl }) in
        let u : sum_to (start_at t) r ≡ sum_to (start_at t) i = sum_near (start_at t) (λ k e. e) in
        let v : sum_to (longer_at t) r ≡ sum_to (longer_at t) i = sum_near (longer_at t) (λ k e. unless-zero (is_short (get_or t (k + 1) 0)) (start_at t k) e) in
        let g = b.less in
        (omega (arith, u, v, g), recount l q t r (r - gain_to t r) (r - (sum_to (start_at t) i + sum_to (longer_at t) i * 2)) (sum_to (start_at t) r) (sum_to (start_at t) i) (omega (arith, u, v)) u b.count)

-- A loop may begin with nothing measured.
pub ready-none : (l : Language) (q : Quotes) (t : List ℕ) → Clear l q t → (listed : ℕ) (a : Begun) → a.gain ≡ 0 → a.units ≡ 0 → a.from ≡ 0 → Ready l q t listed (Some a)
ready-none l q t clear listed a g u f =
    (omega (arith, f), λ z. u, λ y. f, λ r p. (omega (arith, g), omega (arith, u), recount l q t r (r - 0) (r - a.gain) 0 a.units (ap (λ (n : ℕ). r - n) (sym g)) (sym u) (count-start l q t clear r (subst (λ (s : ℕ). Nearest t s 0x5C r) f p))))

-- A number that is 0 unless nothing is kept, and no more than what is kept.
pub none_kept : (u n : ℕ) → (0 < n → u ≡ 0) → u ≤ n → u ≡ 0
none_kept u zero h l = omega arith
none_kept u (suc n) h l = h (omega arith)
