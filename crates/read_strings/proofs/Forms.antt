-- The bytes that the code takes for a unit are the value of a row: computed for the bytes that a backslash stands before, for each first digit with
-- every second one, and for the last digit of U+2028 and U+2029.
-- Assumes nothing.
use mathlib.Core.Bool.{Bool, true, false, not, ◌&&◌, ◌||◌}
use mathlib.Core.Logic.{◌⊎◌, inl, inr}
use mathlib.Core.Path.{◌≡◌, refl, sym, ap, ◌∙◌, subst}
use mathlib.Core.List.{List, [], ◌∷◌}
use Prim.Native.Nat.{ℕ, zero, suc, ◌≤◌, ◌<◌}
use native.Mathlib.Omega.{arith}
use lib.Dec.{T, eqb, leb, ltb, eqb→eq, leb→le, ltb→lt, eqb_refl, T_not}
use lib.ListN.{length, get_or}
use Rattle.rules.specs.Bytes.{In, all, any, stands, inside, same_bytes}
use Rattle.rules.specs.Contexts.{string_of}
use Rattle.rules.specs.Tables.{Row, value, rows}
use Rattle.rules.specs.declared.Language.{Language}
use Rattle.rules.specs.declared.Language.TheVariants.{Script, Style}
use Rattle.rules.specs.declared.Quotes.{Quotes}
use Rattle.rules.specs.declared.Quotes.TheVariants.{Single, Double, Both}
use Rattle.rules.proofs.EveryByte.{every_byte_lem}
use Rattle.rules.proofs.Tests.{and_left, and_right, and_both, or_cases, or_left, or_right, any-in, same_bytes_lem, is_false}
use Rattle.read_strings.specs.Clear.{keys_of, is_key}
use Rattle.read_strings.specs.Units.{is_digit, is_hexed, is_hex, is_separator, is_slashed, is_form, length_of, gain_of}
use Rattle.read_strings.proofs.Six.{six-bytes, given}

-- A unit is longer than its character.
pub gain-less : (b : ℕ) → b < 256 → gain_of b < length_of b
gain-less b h = ltb→lt (gain_of b) (length_of b) (every_byte_lem (λ (b : ℕ). ltb (gain_of b) (length_of b)) tt b h)

-- It has two bytes at least.
pub length_two : (b : ℕ) → b < 256 → 2 ≤ length_of b
length_two b h = leb→le 2 (length_of b) (every_byte_lem (λ (b : ℕ). leb 2 (length_of b)) tt b h)

-- Two, if it has fewer than four.
pub length-short : (b : ℕ) → b < 256 → length_of b < 4 → length_of b ≡ 2
length-short b h l = go (or_cases (leb 4 (length_of b)) (eqb (length_of b) 2) (every_byte_lem (λ (b : ℕ). leb 4 (length_of b) || eqb (length_of b) 2) tt b h))
  where
    go : T (leb 4 (length_of b)) ⊎ T (eqb (length_of b) 2) → length_of b ≡ 2
    go (inl w) = absurd (omega (arith, leb→le 4 (length_of b) w, l))
    go (inr w) = eqb→eq (length_of b) 2 w

-- A row of the string stands at the head of s.
abbrev pub Stands : Language → Quotes → List ℕ → Type 0
Stands l q s = (e : Row) × In e (rows (string_of l q)) × T (stands (value e) s)

-- Bytes that are not 0 stand where the text has them.
stands_by : (v s : List ℕ) → T (all (inside (1, 255)) v) → ((k : ℕ) → k < length v → get_or s k 0 ≡ get_or v k 0) → T (stands v s)
stands_by [] s n at = tt
stands_by (a ∷ v) [] n at =
    let some = leb→le 1 a (and_left (leb 1 a) (leb a 255) (and_left (inside (1, 255) a) (all (inside (1, 255)) v) n)) in
    let none : 0 ≡ a = at 0 (omega arith) in
    absurd (omega (arith, some, none))
stands_by (a ∷ v) (b ∷ s) n at =
    and_both (eqb a b) (stands v s) (subst (λ (b : ℕ). T (eqb a b)) (sym (at 0 (omega arith))) (eqb_refl a))
    (stands_by v s (and_right (inside (1, 255) a) (all (inside (1, 255)) v) n) (λ k h. at (suc k) (omega arith)))

-- The bytes are the value of a row, and not 0.
abbrev is_value : List ℕ → Row → Bool
is_value v e = same_bytes (value e) v

abbrev fits : Language → Quotes → List ℕ → Bool
fits l q v = any (is_value v) (rows (string_of l q)) && all (inside (1, 255)) v

found : (l : Language) (q : Quotes) (v s : List ℕ) → T (fits l q v) → ((k : ℕ) → k < length v → get_or s k 0 ≡ get_or v k 0) → Stands l q s
found l q v s t at =
    let (e, i, w) = any-in (is_value v) (rows (string_of l q)) (and_left (any (is_value v) (rows (string_of l q))) (all (inside (1, 255)) v) t) in
    (e, i, rw (same_bytes_lem (value e) v w) (stands_by v s (and_right (any (is_value v) (rows (string_of l q))) (all (inside (1, 255)) v) t) at))

-- ---- what is computed

abbrev marked : Quotes → ℕ → Bool
marked q b = is_key (keys_of q) b || eqb b 0x5C

abbrev slash_test : Language → Quotes → ℕ → Bool
slash_test l q b = not (marked q b) || fits l q (0x5C ∷ b ∷ [])

-- A byte in hex, by its digits.
abbrev hex_bytes : Language → ℕ → ℕ → List ℕ
hex_bytes Script a b = 0x5C ∷ 0x78 ∷ a ∷ b ∷ []
hex_bytes Style a b = 0x5C ∷ a ∷ b ∷ 0x20 ∷ []

-- A style sheet writes no 0.
abbrev written : Language → ℕ → ℕ → Bool
written Script a b = true
written Style a b = not (eqb a 0x30) || not (eqb b 0x30)

abbrev hex_test : ℕ → Language → Quotes → ℕ → Bool
hex_test a l q b = not (is_hexed a b && written l a b) || fits l q (hex_bytes l a b)

abbrev separator_test : Language → Quotes → ℕ → Bool
separator_test Script q f = not (inside (0x38, 0x39) f) || fits Script q (0x5C ∷ 0x75 ∷ 0x32 ∷ 0x30 ∷ 0x32 ∷ f ∷ [])
separator_test Style q f = true

-- The first digit.
first-digit : (a b : ℕ) → T (is_hexed a b) → (a ≡ 0x30) ⊎ ((a ≡ 0x31) ⊎ (a ≡ 0x33))
first-digit a b t = go (or_cases (inside (0x30, 0x31) a && is_digit b) (eqb a 0x33 && eqb b 0x43) t)
  where
    near : T (inside (0x30, 0x31) a) → (x : Bool) → eqb a 0x30 ≡ x → (a ≡ 0x30) ⊎ ((a ≡ 0x31) ⊎ (a ≡ 0x33))
    near w true e = inl (eqb→eq a 0x30 (subst T (sym e) tt))
    near w false e =
        let lo = leb→le 0x30 a (and_left (leb 0x30 a) (leb a 0x31) w) in
        let hi = leb→le a 0x31 (and_right (leb 0x30 a) (leb a 0x31) w) in
        let no : a ≡ 0x30 → ⊥ = λ z. subst T (sym (ap (λ (a : ℕ). eqb a 0x30) z) ∙ e) tt in
        inr (inl (omega (arith, lo, hi, no)))

    go : T (inside (0x30, 0x31) a && is_digit b) ⊎ T (eqb a 0x33 && eqb b 0x43) → (a ≡ 0x30) ⊎ ((a ≡ 0x31) ⊎ (a ≡ 0x33))
    go (inl w) = near (and_left (inside (0x30, 0x31) a) (is_digit b) w) (eqb a 0x30) refl
    go (inr w) = inr (inr (eqb→eq a 0x33 (and_left (eqb a 0x33) (eqb b 0x43) w)))

hex-fits : (l : Language) (q : Quotes) (a b : ℕ) → b < 256 → T (is_hexed a b) → T (written l a b) → T (fits l q (hex_bytes l a b))
hex-fits l q a b h x w = go (first-digit a b x)
  where
    goal : ℕ → Type 0
    goal a = T (is_hexed a b) → T (written l a b) → T (fits l q (hex_bytes l a b))

    by : (n : ℕ) → T (hex_test n l q b) → goal n
    by n t x w = given (is_hexed n b && written l n b) (fits l q (hex_bytes l n b)) t (and_both (is_hexed n b) (written l n b) x w)

    go : (a ≡ 0x30) ⊎ ((a ≡ 0x31) ⊎ (a ≡ 0x33)) → T (fits l q (hex_bytes l a b))
    go (inl e) = subst goal (sym e) (by 0x30 (six-bytes (hex_test 0x30) tt l q b h)) x w
    go (inr (inl e)) = subst goal (sym e) (by 0x31 (six-bytes (hex_test 0x31) tt l q b h)) x w
    go (inr (inr e)) = subst goal (sym e) (by 0x33 (six-bytes (hex_test 0x33) tt l q b h)) x w

-- ---- the bytes of a text

module _ (q : Quotes) (s : List ℕ) (bytes : (k : ℕ) → get_or s k 0 < 256) (mark : get_or s 0 0 ≡ 0x5C) where
  abbrev b : ℕ
  b = get_or s 1 0

  abbrev c : ℕ
  c = get_or s 2 0

  abbrev d : ℕ
  d = get_or s 3 0

  abbrev e : ℕ
  e = get_or s 4 0

  abbrev f : ℕ
  f = get_or s 5 0

  slashed-stands : (l : Language) → T (is_slashed (keys_of q) b c) → Stands l q s
  slashed-stands l t = found l q (0x5C ∷ b ∷ []) s (given (marked q b) (fits l q (0x5C ∷ b ∷ [])) (six-bytes slash_test tt l q b (bytes 1)) (go (or_cases (is_key (keys_of q) b) (eqb b 0x5C && not (is_key (keys_of q) c)) t))) at
    where
      go : T (is_key (keys_of q) b) ⊎ T (eqb b 0x5C && not (is_key (keys_of q) c)) → T (marked q b)
      go (inl w) = or_left (is_key (keys_of q) b) (eqb b 0x5C) w
      go (inr w) = or_right (is_key (keys_of q) b) (eqb b 0x5C) (and_left (eqb b 0x5C) (not (is_key (keys_of q) c)) w)

      at : (k : ℕ) → k < 2 → get_or s k 0 ≡ get_or (0x5C ∷ b ∷ []) k 0
      at zero h = mark
      at (suc zero) h = refl
      at (suc (suc k)) h = absurd (omega arith)

  hex-stands : (l : Language) → T (is_hex l b c d) → Stands l q s
  hex-stands Script t = found Script q (0x5C ∷ 0x78 ∷ c ∷ d ∷ []) s (hex-fits Script q c d (bytes 3) (and_right (eqb b 0x78) (is_hexed c d) t) tt) at
    where
      at : (k : ℕ) → k < 4 → get_or s k 0 ≡ get_or (0x5C ∷ 0x78 ∷ c ∷ d ∷ []) k 0
      at zero h = mark
      at (suc zero) h = eqb→eq b 0x78 (and_left (eqb b 0x78) (is_hexed c d) t)
      at (suc (suc zero)) h = refl
      at (suc (suc (suc zero))) h = refl
      at (suc (suc (suc (suc k)))) h = absurd (omega arith)
  hex-stands Style t = found Style q (0x5C ∷ b ∷ c ∷ 0x20 ∷ []) s (hex-fits Style q b c (bytes 2) (and_right (eqb d 0x20) (is_hexed b c) w) (and_right (eqb d 0x20 && is_hexed b c) (not (eqb b 0x30) || not (eqb c 0x30)) t)) at
    where
      w : T (eqb d 0x20 && is_hexed b c)
      w = and_left (eqb d 0x20 && is_hexed b c) (not (eqb b 0x30) || not (eqb c 0x30)) t

      at : (k : ℕ) → k < 4 → get_or s k 0 ≡ get_or (0x5C ∷ b ∷ c ∷ 0x20 ∷ []) k 0
      at zero h = mark
      at (suc zero) h = refl
      at (suc (suc zero)) h = refl
      at (suc (suc (suc zero))) h = eqb→eq d 0x20 (and_left (eqb d 0x20) (is_hexed b c) w)
      at (suc (suc (suc (suc k)))) h = absurd (omega arith)

  separator-stands : (l : Language) → T (is_separator l b c d e f) → Stands l q s
  separator-stands Style t = absurd t
  separator-stands Script t = found Script q (0x5C ∷ 0x75 ∷ 0x32 ∷ 0x30 ∷ 0x32 ∷ f ∷ []) s (given (inside (0x38, 0x39) f) (fits Script q (0x5C ∷ 0x75 ∷ 0x32 ∷ 0x30 ∷ 0x32 ∷ f ∷ [])) (six-bytes separator_test tt Script q f (bytes 5)) (and_right (eqb b 0x75 && eqb c 0x32 && eqb d 0x30 && eqb e 0x32) (inside (0x38, 0x39) f) t)) at
    where
      w₄ : T (eqb b 0x75 && eqb c 0x32 && eqb d 0x30 && eqb e 0x32)
      w₄ = and_left (eqb b 0x75 && eqb c 0x32 && eqb d 0x30 && eqb e 0x32) (inside (0x38, 0x39) f) t

      w₃ : T (eqb b 0x75 && eqb c 0x32 && eqb d 0x30)
      w₃ = and_left (eqb b 0x75 && eqb c 0x32 && eqb d 0x30) (eqb e 0x32) w₄

      w₂ : T (eqb b 0x75 && eqb c 0x32)
      w₂ = and_left (eqb b 0x75 && eqb c 0x32) (eqb d 0x30) w₃

      at : (k : ℕ) → k < 6 → get_or s k 0 ≡ get_or (0x5C ∷ 0x75 ∷ 0x32 ∷ 0x30 ∷ 0x32 ∷ f ∷ []) k 0
      at zero h = mark
      at (suc zero) h = eqb→eq b 0x75 (and_left (eqb b 0x75) (eqb c 0x32) w₂)
      at (suc (suc zero)) h = eqb→eq c 0x32 (and_right (eqb b 0x75) (eqb c 0x32) w₂)
      at (suc (suc (suc zero))) h = eqb→eq d 0x30 (and_right (eqb b 0x75 && eqb c 0x32) (eqb d 0x30) w₃)
      at (suc (suc (suc (suc zero)))) h = eqb→eq e 0x32 (and_right (eqb b 0x75 && eqb c 0x32 && eqb d 0x30) (eqb e 0x32) w₄)
      at (suc (suc (suc (suc (suc zero))))) h = refl
      at (suc (suc (suc (suc (suc (suc k)))))) h = absurd (omega arith)

  -- What is found to be a unit is one.
  pub form-stands : (l : Language) → T (is_form l (keys_of q) b c d e f) → Stands l q s
  form-stands l t = go (or_cases (is_slashed (keys_of q) b c || is_hex l b c d) (is_separator l b c d e f) t)
    where
      near : T (is_slashed (keys_of q) b c) ⊎ T (is_hex l b c d) → Stands l q s
      near (inl w) = slashed-stands l w
      near (inr w) = hex-stands l w

      go : T (is_slashed (keys_of q) b c || is_hex l b c d) ⊎ T (is_separator l b c d e f) → Stands l q s
      go (inl w) = near (or_cases (is_slashed (keys_of q) b c) (is_hex l b c d) w)
      go (inr w) = separator-stands l w

-- After two backslashes that are found to be one is no quote.
pub form-alone : (l : Language) (q : Quotes) (c d e f : ℕ) → T (is_form l (keys_of q) 0x5C c d e f) → is_key (keys_of q) c ≡ false
form-alone l q c d e f t = is_false (is_key (keys_of q) c) (T_not (is_key (keys_of q) c) (go (or_cases (is_slashed (keys_of q) 0x5C c || is_hex l 0x5C c d) (is_separator l 0x5C c d e f) t)))
  where
    slash : (q : Quotes) → T (is_slashed (keys_of q) 0x5C c) → T (not (is_key (keys_of q) c))
    slash Single w = w
    slash Double w = w
    slash Both w = w

    hex : (l : Language) → T (is_hex l 0x5C c d) → ⊥
    hex Script w = w
    hex Style w = and_right (eqb d 0x20) (is_hexed 0x5C c) (and_left (eqb d 0x20 && is_hexed 0x5C c) (not (eqb 0x5C 0x30) || not (eqb c 0x30)) w)

    separator : (l : Language) → T (is_separator l 0x5C c d e f) → ⊥
    separator Script w = w
    separator Style w = w

    near : T (is_slashed (keys_of q) 0x5C c) ⊎ T (is_hex l 0x5C c d) → T (not (is_key (keys_of q) c))
    near (inl w) = slash q w
    near (inr w) = absurd (hex l w)

    go : T (is_slashed (keys_of q) 0x5C c || is_hex l 0x5C c d) ⊎ T (is_separator l 0x5C c d e f) → T (not (is_key (keys_of q) c))
    go (inl w) = near (or_cases (is_slashed (keys_of q) 0x5C c) (is_hex l 0x5C c d) w)
    go (inr w) = absurd (separator l w)
