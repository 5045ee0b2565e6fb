-- Letters and digits: the reader keeps them, they are ASCII, and none is `&`. A byte that is off neither the letters nor the digits is one of them.
-- Assumes nothing.
use Rattle.std.proofs.Common.{◌≡◌, ℕ, ◌+◌, ◌-◌, ◌%◌, ◌<◌, ◌≤◌, Bool, true, false, not, ◌&&◌, ◌||◌, T, ltb, leb, eqb, List, ◌++◌, length, take, drop, get_or, sym, refl, ap, ◌∙◌, subst, arith, T_not, ltb-false, ltb-true, le-leb}
use Rattle.std.proofs.lemmas.Bool.{eqb-true, eqb-false}
use lib.Bits.{bit_or, or_lt, or_add_and, and_le_l, and_le_r}
use Rattle.rules.specs.Tables.{letter_or_digit}
use Rattle.rules.specs.declared.Html.TheVariants.{Unquoted}
use Rattle.rules.specs.declared.Context.TheVariants.{InHtml}
use Rattle.rules.proofs.EveryByte.{every_byte_lem}
use Rattle.rules.proofs.Quiet.{Keeps}
use Rattle.rules.proofs.Tests.{is_false}
use Rattle.base.specs.First.{Free}
use Rattle.base.specs.Places.{Absent}
use Rattle.base.proofs.Firsts.{free-found, rest-size}
use Rattle.base.proofs.Part.{part_at, cut-here}
use Rattle.plain.specs.Plain.{plain, special_at, lesser}
use Rattle.plain.proofs.Kept.{plain-low}
use Rattle.reader.specs.Replaced.{begins}
use Rattle.reader.specs.Units.{byte_step}
use Rattle.read_units.proofs.Reading.{is_true}
use Rattle.read_units.proofs.Turns.{affirmed, byte-kept}

holds : (x : Bool) → not x ≡ false → T x
holds x e = subst T (sym (affirmed x e)) tt

pub plain_at : (t : List ℕ) (k : ℕ) → letter_or_digit (get_or t k 0) ≡ true → special_at true t k ≡ false
unfolding plain
plain_at t k e = ap not e

-- No replaced character begins with one.
free_all : (b : ℕ) → b < 256 → T (not (plain true b) || not (begins (InHtml Unquoted) b))
unfolding plain begins
free_all b l = every_byte_lem (λ (b : ℕ). not (plain true b) || not (begins (InHtml Unquoted) b)) tt b l

free_one : (b : ℕ) → b < 256 → T (plain true b) → begins (InHtml Unquoted) b ≡ false
free_one b l p = is_false (begins (InHtml Unquoted) b) (T_not (begins (InHtml Unquoted) b) (subst (λ (x : Bool). T (not x || not (begins (InHtml Unquoted) b))) (is_true (plain true b) p) (free_all b l)))

no-mark : T (plain true 38) → ⊥
unfolding plain
no-mark t = t

module _ (t : List ℕ) (i r : ℕ) (f : Free (special_at true t) i r) where
  pub letters-low : (k : ℕ) → i ≤ k → k < r → get_or t k 0 < 128
  letters-low k a b = plain-low true (get_or t k 0) (holds (plain true (get_or t k 0)) (f k a b))

  pub letters-absent : Absent t i r 38
  letters-absent k a b e = no-mark (subst (λ (x : ℕ). T (plain true x)) e (holds (plain true (get_or t k 0)) (f k a b)))

  pub letters-keep : r ≤ length t → Keeps (byte_step (InHtml Unquoted)) t i r
  letters-keep l k a b =
      let small : get_or t k 0 < 256 = omega (arith, letters-low k a b) in
      byte-kept Unquoted t k (omega (arith, l, b)) small (free_one (get_or t k 0) small (holds (plain true (get_or t k 0)) (f k a b)))

-- ---- by blocks, and by a search

-- A block of letters and digits that is cut off a text.
pub letters-cut : (t x r : List ℕ) (i n : ℕ) → i ≤ length t → drop i t ≡ x ++ r → length x ≡ n → Free (special_at true x) 0 (length x) → Free (special_at true t) i (i + n)
letters-cut t x r i n h e s f k l m = ap (λ (b : ℕ). not (plain true b)) (sym (cut-here t x r i n h e s k l m)) ∙ f (k - i) (omega arith) (omega (arith, s))

-- The first n bytes of a part that are letters and digits.
pub letters-part : (t : List ℕ) (i e n : ℕ) → n ≤ e - i → Free (special_at true (take (e - i) (drop i t))) 0 n → Free (special_at true t) i (i + n)
letters-part t i e n h f k l m =
    let j : i + (k - i) ≡ k = omega arith in
    ap (λ (b : ℕ). not (plain true b)) (sym (part_at t i e (k - i) (omega arith) ∙ ap (λ (n : ℕ). get_or t n 0) j)) ∙ f (k - i) (omega arith) (omega arith)

module _ (t : List ℕ) (i : ℕ) (h : i ≤ length t) where
  abbrev rest : List ℕ
  rest = take (length t - i) (drop i t)

  abbrev size : i + length rest ≡ length t
  size = rest-size (λ (b : ℕ). not (letter_or_digit b)) t i h

  pub letters-found : (k : ℕ) → (k < length rest) × ((d : ℕ) → not (letter_or_digit (get_or rest k d)) ≡ true) × ((j d : ℕ) → 0 ≤ j → j < k → not (letter_or_digit (get_or rest j d)) ≡ false)
      → (i ≤ i + k) × (i + k ≤ length t) × Free (special_at true t) i (i + k)
  unfolding plain
  letters-found k q = (omega arith, omega (arith, q.0, size), free-found (λ (b : ℕ). not (letter_or_digit b)) t i k (omega (arith, q.0)) q.2 h)

  pub letters_all : ((j d : ℕ) → 0 ≤ j → j < length rest → not (letter_or_digit (get_or rest j d)) ≡ false) → (i ≤ length t) × (length t ≤ length t) × Free (special_at true t) i (length t)
  unfolding plain
  letters_all f = (h, omega arith, subst (λ (n : ℕ). Free (special_at true t) i n) size (free-found (λ (b : ℕ). not (letter_or_digit b)) t i (length rest) (omega arith) f h))

-- The text so far is ASCII, and so are a unit and the letters after it.
pub low-more : (t : List ℕ) (i e r : ℕ) → ((k : ℕ) → k < i → get_or t k 0 < 128) → ((k : ℕ) → i ≤ k → k < e → get_or t k 0 < 128) → ((k : ℕ) → e ≤ k → k < r → get_or t k 0 < 128)
    → (k : ℕ) → k < r → get_or t k 0 < 128
low-more t i e r f g h k l = go (ltb k i) refl (ltb k e) refl
  where
    go : (x : Bool) → ltb k i ≡ x → (y : Bool) → ltb k e ≡ y → get_or t k 0 < 128
    go true p y q = f k (ltb-true k i p)
    go false p true q = g k (ltb-false k i p) (ltb-true k e q)
    go false p false q = h k (ltb-false k e q) l

-- What holds of the places before j and before m holds of one more, up to the lesser of m and x.
pub more-letters : (P : ℕ → Type 0) (j m n x : ℕ) → ((k : ℕ) → k < j → k < m → P k) → n ≤ m → n ≤ x → (j < x → P j) → (k : ℕ) → k < j + 1 → k < n → P k
more-letters P j m n x f a b g k h s = go (ltb k j) refl
  where
    go : (y : Bool) → ltb k j ≡ y → P k
    go true q = f k (ltb-true k j q) (omega (arith, s, a))
    go false q = let e : j ≡ k = omega (arith, h, ltb-false k j q) in subst P e (g (omega (arith, s, b, e)))

-- ---- what is compared

-- Of two numbers the lesser is 0 only where one is.
pub lesser-none : {P : Type 0} (a b : ℕ) → lesser a b ≡ 0 → (a ≡ 0 → P) → (b ≡ 0 → P) → P
lesser-none {P} a b e f g = go (eqb a 0) refl
  where
    go : (x : Bool) → eqb a 0 ≡ x → P
    go true q = f (eqb-true a 0 q)
    go false q = let n = eqb-false a 0 q in g (omega (arith, e, n))

lower-all : (b : ℕ) → b < 256 → T (not (leb 97 (bit_or b 32) && leb (bit_or b 32) 122) || letter_or_digit b)
lower-all b l = every_byte_lem (λ (b : ℕ). not (leb 97 (bit_or b 32) && leb (bit_or b 32) 122) || letter_or_digit b) tt b l

pub near-letters : (b x : ℕ) → b < 256 → x ≡ (bit_or b 32 + 159) % 256 → x ≤ 25 → letter_or_digit b ≡ true
near-letters b x l e h =
    let small = or_lt 8 b 32 l (omega arith) in
    let low : 97 ≤ bit_or b 32 = omega (arith, e, h, small) in
    let high : bit_or b 32 ≤ 122 = omega (arith, e, h, small) in
    is_true (letter_or_digit b) (subst (λ (y : Bool). T (not y || letter_or_digit b)) (λ j. le-leb 97 (bit_or b 32) low j && le-leb (bit_or b 32) 122 high j) (lower-all b l))

digit-all : (b : ℕ) → b < 256 → T (not (leb 48 b && leb b 57) || letter_or_digit b)
digit-all b l = every_byte_lem (λ (b : ℕ). not (leb 48 b && leb b 57) || letter_or_digit b) tt b l

pub near-digits : (b x : ℕ) → b < 256 → x ≡ (b + 208) % 256 → x ≤ 9 → letter_or_digit b ≡ true
near-digits b x l e h =
    let low : 48 ≤ b = omega (arith, e, h) in
    let high : b ≤ 57 = omega (arith, e, h) in
    is_true (letter_or_digit b) (subst (λ (y : Bool). T (not y || letter_or_digit b)) (λ j. le-leb 48 b low j && le-leb b 57 high j) (digit-all b l))

-- Bits that are joined are 0 only where both are.
pub or-none : (a b : ℕ) → bit_or a b ≡ 0 → (a ≡ 0) × (b ≡ 0)
or-none a b e = let sum = or_add_and a b in (omega (arith, sum, e, and_le_r a b), omega (arith, sum, e, and_le_l a b))
