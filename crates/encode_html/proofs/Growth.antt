-- A byte grows by three, four or five bytes where the code counts it so: computed tests of every byte in every context. And a text grows by what its
-- bytes and its parts do.
-- Assumes nothing.
use mathlib.Core.Bool.{Bool, true, false, not, ◌||◌, cond}
use mathlib.Core.Path.{◌≡◌, refl, ap, ◌∙◌, subst}
use mathlib.Core.List.{List, [], ◌∷◌, ◌++◌}
use Prim.Native.Nat.{ℕ, ◌+◌, ◌*◌, ◌≤◌, ◌<◌}
use native.Mathlib.Omega.{arith}
use borrow.Author.Tests.{leb-false}
use mir.Val.{bool_byte}
use lib.Dec.{eqb, ltb, leb, leb→le}
use lib.ListN.{length, drop, get_or, length-append, drop_of_length-le}
use Rattle.rules.specs.Tables.{letter_or_digit}
use Rattle.rules.specs.Encoding.{encode_step}
use Rattle.rules.specs.Operations.{encode_of}
use Rattle.rules.specs.declared.Html.{Html}
use Rattle.rules.specs.declared.Html.TheVariants.{Unquoted}
use Rattle.rules.specs.declared.Context.TheVariants.{InHtml}
use Rattle.plain.specs.Plain.{unquoted}
use Rattle.encode_html.specs.Written.{written, only_text}
use Rattle.encode_html.specs.Gains.{gain_of, grows, grows_by, Grows, hits_of, Hits}
use Rattle.base.specs.Words.{word_of}
use Rattle.encode_html.proofs.Seven.{seven-bytes, agree}
use Rattle.encode_html.proofs.Text.{written-most, next-byte, next-none, hits-byte, next-cut, hits-cut}

-- ---- a byte

-- A byte grows by four, by three or by five bytes where the code's tests say so.
pub four_is : (h : Html) (b : ℕ) → b < 256 → cond (eqb b 38) 1 0 ≡ grows_by h 4 b
unfolding written encode_step
four_is h b l = agree (λ h. true) (λ h b. cond (eqb b 38) 1 0) (λ h b. grows_by h 4 b) tt h b l refl

pub three-is : (h : Html) (b : ℕ) → b < 256 → cond (eqb b 60) 1 0 + cond (eqb b 62) (grows h 62) 0 ≡ grows_by h 3 b
unfolding written encode_step
three-is h b l = agree (λ h. true) (λ h b. cond (eqb b 60) 1 0 + cond (eqb b 62) (grows h 62) 0) (λ h b. grows_by h 3 b) tt h b l refl

pub five-none : (h : Html) (b : ℕ) → b < 256 → only_text h ≡ true → 0 ≡ grows_by h 5 b
unfolding written encode_step
five-none = agree only_text (λ h b. 0) (λ h b. grows_by h 5 b) tt

unfoldable pub other : ℕ → ℕ
other b = cond (ltb 127 b || letter_or_digit b || eqb b 38 || eqb b 60 || eqb b 62) 0 1

pub other-is : (b : ℕ) → b < 256 → other b ≡ grows_by Unquoted 5 b
unfolding other written encode_step
other-is b l = agree unquoted (λ h b. other b) (λ h b. grows_by h 5 b) tt Unquoted b l refl

pub five-unquoted : (h : Html) (b : ℕ) → b < 256 → unquoted h ≡ true → grows_by Unquoted 5 b ≡ grows_by h 5 b
unfolding written encode_step
five-unquoted = agree unquoted (λ h b. grows_by Unquoted 5 b) (λ h b. grows_by h 5 b) tt

unfoldable pub quotes : Html → ℕ → ℕ
quotes h b = cond (eqb b 34) (grows h 34) 0 + cond (eqb b 39) (grows h 39) 0 + cond (eqb b 47) (grows h 47) 0

pub five-is : (h : Html) (b : ℕ) → b < 256 → unquoted h ≡ false → quotes h b ≡ grows_by h 5 b
unfolding quotes written encode_step
five-is h b l e = agree (λ h. not (unquoted h)) quotes (λ h b. grows_by h 5 b) tt h b l (ap not e)

-- What is counted of a byte is small.
one : (x : Bool) → cond x 1 0 ≤ 1
one true = omega arith
one false = omega arith

none : (x : Bool) → cond x 0 1 ≤ 1
none true = omega arith
none false = omega arith

pub few : (h : Html) (n b r : ℕ) → r ≡ grows_by h n b → (r ≡ grows_by h n b) × (r ≤ 1)
few h n b r e = (e, rw e (one (eqb (gain_of h b) n)))

pub small : (h : Html) (b x : ℕ) → x ≡ grows h b → x ≤ 1
small h b x e = rw e (none (eqb (gain_of h b) 0))

-- The length of a byte's word tells whether it grows.
word-grows : (h : Html) (b : ℕ) → b < 256 → cond (ltb (word_of (written h b)) 0x200000000000000) 0 1 ≡ grows h b
unfolding word_of written encode_step
word-grows h b l = agree (λ h. true) (λ h b. cond (ltb (word_of (written h b)) 0x200000000000000) 0 1) grows tt h b l refl

pub grows-is : (h : Html) (b x r : ℕ) → b < 256 → x ≡ word_of (written h b) → r ≡ cond (ltb x 0x200000000000000) 0 1 → r ≡ grows h b
grows-is h b x r l e q = q ∙ ap (λ (x : ℕ). cond (ltb x 0x200000000000000) 0 1) e ∙ word-grows h b l

-- The three counts of a byte are its growth, and whether it is replaced.
grown-sum : (h : Html) (b : ℕ) → b < 256 → 3 * grows_by h 3 b + 4 * grows_by h 4 b + 5 * grows_by h 5 b + 1 ≡ length (written h b)
unfolding written encode_step
grown-sum h b l = agree (λ h. true) (λ h b. 3 * grows_by h 3 b + 4 * grows_by h 4 b + 5 * grows_by h 5 b + 1) (λ h b. length (written h b)) tt h b l refl

hits-sum : (h : Html) (b : ℕ) → b < 256 → grows_by h 3 b + grows_by h 4 b + grows_by h 5 b ≡ hits_of h (b ∷ [])
unfolding written encode_step
hits-sum h b l = agree (λ h. true) (λ h b. grows_by h 3 b + grows_by h 4 b + grows_by h 5 b) (λ h b. hits_of h (b ∷ [])) tt h b l refl

hits_few : (h : Html) (b : ℕ) → b < 256 → hits_of h (b ∷ []) ≤ 1
unfolding written encode_step
hits_few h b l = leb→le (hits_of h (b ∷ [])) 1 (seven-bytes (λ h b. leb (hits_of h (b ∷ [])) 1) tt h b l)

-- What tells that the greatest byte is ASCII.
pub low-most : (b : ℕ) → bool_byte (leb 128 b) ≡ 0 → b < 128
low-most b e = go (leb 128 b) refl e
  where
    go : (x : Bool) → leb 128 b ≡ x → bool_byte x ≡ 0 → b < 128
    go true q z = absurd (omega (arith, z))
    go false q z = leb-false 128 b q

-- ---- a text

-- The first i bytes grow by n: with what is left they are the whole.
abbrev pub Grown : Html → List ℕ → ℕ → ℕ → Type 0
Grown h t i n = (i ≤ length t) × (n ≤ 5 * i) × (i + n + length (encode_of (InHtml h) (drop i t)) ≡ length (encode_of (InHtml h) t))

module _ (h : Html) (t : List ℕ) where
  pub grown-start : Grown h t 0 0
  grown-start = (omega arith, omega arith, omega arith)

  -- One byte more.
  pub grown-byte : (i n w : ℕ) → i < length t → (w + 1 ≡ length (written h (get_or t i 0))) × (w ≤ 5) → Grown h t i n → Grown h t (i + 1) (n + w)
  grown-byte i n w l e g = (omega arith, omega arith, omega (arith, rw length-append at (ap length (next-byte h t i l).next)))

  -- The same by the three counts.
  pub grown-counts : (i x y z p q r : ℕ) → i < length t → get_or t i 0 < 256
      → p ≡ grows_by h 3 (get_or t i 0) → q ≡ grows_by h 4 (get_or t i 0) → r ≡ grows_by h 5 (get_or t i 0)
      → Grown h t i (3 * x + 4 * y + 5 * z) → Grown h t (i + 1) (3 * (x + p) + 4 * (y + q) + 5 * (z + r))
  grown-counts i x y z p q r l k a b c g =
      let w = 3 * p + 4 * q + 5 * r in
      let s : w + 1 ≡ length (written h (get_or t i 0)) = rw (a, b, c) (grown-sum h (get_or t i 0) k) in
      let same : 3 * x + 4 * y + 5 * z + w ≡ 3 * (x + p) + 4 * (y + q) + 5 * (z + r) = omega arith in
      subst (Grown h t (i + 1)) same (grown-byte i (3 * x + 4 * y + 5 * z) w l (s, omega (arith, s, written-most h (get_or t i 0))) g)

  -- At the end it is the whole.
  pub grown-end : (i n : ℕ) → length t ≤ i → Grown h t i n → Grows h t n
  grown-end i n l g = (omega (arith, ap length (next-none h t i l)), omega arith)

-- The text but for its end r grows by n: with what is left it is the whole.
abbrev pub GrownTo : Html → List ℕ → List ℕ → ℕ → Type 0
GrownTo h t r n = (n + 5 * length r ≤ 5 * length t) × (length t + n + length (encode_of (InHtml h) r) ≡ length (encode_of (InHtml h) t) + length r)

-- One part more.
pub grown-cut : (h : Html) (t r x r' : List ℕ) (n w : ℕ) → r ≡ x ++ r' → Grows h x w → GrownTo h t r n → GrownTo h t r' (n + w)
grown-cut h t r x r' n w e p g =
    let s = ap length e ∙ length-append x r' in
    let q = ap length (next-cut h r x r' e).next ∙ length-append (encode_of (InHtml h) x) (encode_of (InHtml h) r') in
    (omega (arith, s), omega (arith, s, q))

-- Where nothing is left it is the whole.
pub grown-all : (h : Html) (t r : List ℕ) (n : ℕ) → length r ≡ 0 → GrownTo h t r n → Grows h t n
grown-all h t [] n e g = (omega arith, omega arith)
grown-all h t (b ∷ r) n e g = absurd (omega arith)

-- ---- how many places are replaced

-- Of the first i bytes k are replaced: with what is left they are the whole.
abbrev pub Hit : Html → List ℕ → ℕ → ℕ → Type 0
Hit h t i k = (k ≤ i) × (k + hits_of h (drop i t) ≡ hits_of h t)

module _ (h : Html) (t : List ℕ) where
  pub hit-start : Hit h t 0 0
  hit-start = (omega arith, omega arith)

  -- One byte more.
  pub hit-byte : (i k w : ℕ) → i < length t → (w ≡ hits_of h (get_or t i 0 ∷ [])) × (w ≤ 1) → Hit h t i k → Hit h t (i + 1) (k + w)
  hit-byte i k w l e g = (omega (arith, e.1, g.0), omega (arith, e.0, g.1, hits-byte h t i l))

  -- The same by the three counts.
  pub hit-counts : (i x y z p q r : ℕ) → i < length t → get_or t i 0 < 256
      → p ≡ grows_by h 3 (get_or t i 0) → q ≡ grows_by h 4 (get_or t i 0) → r ≡ grows_by h 5 (get_or t i 0)
      → Hit h t i (x + y + z) → Hit h t (i + 1) (x + p + (y + q) + (z + r))
  hit-counts i x y z p q r l k a b c g =
      let s : p + q + r ≡ hits_of h (get_or t i 0 ∷ []) = rw (a, b, c) (hits-sum h (get_or t i 0) k) in
      let same : x + y + z + (p + q + r) ≡ x + p + (y + q) + (z + r) = omega arith in
      subst (Hit h t (i + 1)) same (hit-byte i (x + y + z) (p + q + r) l (s, omega (arith, s, hits_few h (get_or t i 0) k)) g)

  -- At the end it is the whole.
  pub hit-end : (i k : ℕ) → i ≤ length t → length t ≤ i → Hit h t i k → Hits h t k
  hit-end i k l m g = (omega (arith, g.1, ap (hits_of h) (drop_of_length-le t {i = i} m)), omega (arith, g.0))

-- Of the text but for its end r so many are replaced: with what is left they are the whole.
abbrev pub HitTo : Html → List ℕ → List ℕ → ℕ → Type 0
HitTo h t r k = (k + length r ≤ length t) × (k + hits_of h r ≡ hits_of h t)

-- One part more.
pub hit-cut : (h : Html) (t r x r' : List ℕ) (k w : ℕ) → r ≡ x ++ r' → Hits h x w → HitTo h t r k → HitTo h t r' (k + w)
hit-cut h t r x r' k w e p g = (omega (arith, ap length e ∙ length-append x r'), omega (arith, p.0, g.1, hits-cut h r x r' e))

pub hit-all : (h : Html) (t r : List ℕ) (k : ℕ) → length r ≡ 0 → HitTo h t r k → Hits h t k
hit-all h t [] k e g = (omega arith, omega arith)
hit-all h t (b ∷ r) k e g = absurd (omega arith)
