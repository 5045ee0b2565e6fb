-- What is found at the head of a text. One test, computed for every ASCII byte in every string: the rule makes the move of the definition, and the byte
-- grows as much as the code counts. Of the other bytes only E2 begins keys, those of the line separators.
-- Assumes nothing.
use Rattle.std.specs.Prelude.{Option as Maybe, Some, None}
use mathlib.Core.Bool.{Bool, true, false, ◌&&◌, ◌||◌, cond}
use mathlib.Core.Logic.{◌⊎◌, inl, inr}
use mathlib.Core.Option.{Option, none, some}
use mathlib.Core.Path.{◌≡◌, refl, sym, ap, ◌∙◌, subst}
use mathlib.Core.List.{List, [], ◌∷◌, ◌++◌}
use Prim.Native.Nat.{ℕ, ◌+◌, ◌-◌, ◌<◌, ◌≤◌}
use native.Mathlib.Nat.{not-suc-le-zero}
use native.Mathlib.Omega.{arith}
use borrow.Author.Tests.{ne_eqb, lt-ltb, le-ltb, eqb-true, eqb-false, ltb-true, ltb-false}
use lib.Dec.{T, eqb, leb, ltb, eqb→eq, leb→le}
use lib.ListN.{length, drop, get_or}
use Rattle.rules.specs.Bytes.{ascii, inside, stands, same_bytes}
use Rattle.rules.specs.Moves.{Move, keep, swap, leave, stop, takes, gives, replaced}
use Rattle.rules.specs.Tables.{Row, row_at, key, value, table, line_separator, paragraph_separator}
use Rattle.rules.specs.Encoding.{write, keep_byte, encode_step}
use Rattle.rules.specs.Answers.{replacement_move, replaced_move}
use Rattle.rules.specs.declared.Quotes.{Quotes}
use Rattle.rules.specs.declared.Quotes.TheVariants.{Single, Double, Both}
use Rattle.rules.specs.declared.Context.TheVariants.{InStyle}
use Rattle.rules.specs.declared.Replacement.{Replacement}
use Rattle.rules.specs.declared.Replacement.TheVariants.{Slashed, Hex, Separator, Substitute}
use Rattle.rules.proofs.Tests.{and_left, and_right, or_cases, same_bytes_lem}
use Rattle.rules.proofs.Below.{below, eqb_comm}
use Rattle.encode_strings.specs.Strings.{alone, is_slashed, is_hexed, hex_by, replaced_by, starts, Held, HeldAt, single_key, double_key, escaped_of, hexed_of, same_of, ends_of, ended, quotes_in, single_of, double_of, separates, more_of, replaced_with}
use Rattle.rules.proofs.Bytewise.{by-table}
use Rattle.encode_strings.proofs.Heads.{strings-ruleless, not_ascii, kept, no_start, lone}
use Rattle.rules.specs.Contexts.{written_in}
use Rattle.rules.specs.declared.Notation.{Notation}
use Rattle.rules.specs.declared.Notation.TheVariants.{Script, Style, Json}

abbrev same_move : Move → Move → Bool
same_move (keep a) (keep b) = same_bytes a b
same_move (keep a) (swap c d) = false
same_move (keep a) (leave r c) = false
same_move (keep a) (stop w) = false
same_move (swap a b) (keep c) = false
same_move (swap a b) (swap c d) = same_bytes a c && same_bytes b d
same_move (swap a b) (leave r c) = false
same_move (swap a b) (stop w) = false
same_move (leave r a) m = false
same_move (stop w) (keep a) = false
same_move (stop w) (swap a b) = false
same_move (stop w) (leave r c) = false
same_move (stop v) (stop w) = eqb v w

same_move_lem : (m n : Move) → T (same_move m n) → m ≡ n
same_move_lem (keep a) (keep b) t = ap keep (same_bytes_lem a b t)
same_move_lem (keep a) (swap c d) t = absurd t
same_move_lem (keep a) (leave r c) t = absurd t
same_move_lem (keep a) (stop w) t = absurd t
same_move_lem (swap a b) (keep c) t = absurd t
same_move_lem (swap a b) (swap c d) t =
    let e = same_bytes_lem a c (and_left (same_bytes a c) (same_bytes b d) t) in
    let f = same_bytes_lem b d (and_right (same_bytes a c) (same_bytes b d) t) in
    λ i. swap (e i) (f i)
same_move_lem (swap a b) (leave r c) t = absurd t
same_move_lem (swap a b) (stop w) t = absurd t
same_move_lem (leave r a) m t = absurd t
same_move_lem (stop w) (keep a) t = absurd t
same_move_lem (stop w) (swap a b) t = absurd t
same_move_lem (stop w) (leave r c) t = absurd t
same_move_lem (stop v) (stop w) t = ap stop (eqb→eq v w t)

-- ---- the test

-- By how much less than it counts a byte grows: NUL in a style sheet.
abbrev pub less : Notation → ℕ → ℕ
less Script b = 0
less Style b = same_of 0 b
less Json b = 0

abbrev ruled : Notation → Quotes → ℕ → Bool
ruled notation quotes b = same_move (replaced_move notation (b ∷ []) (replaced_by notation quotes b)) (alone notation quotes b)

abbrev grown : Notation → Quotes → ℕ → Bool
grown notation quotes b =
    eqb (length (takes (alone notation quotes b))) 1
    && eqb (length (gives (alone notation quotes b)) + less notation b) (1 + (escaped_of (single_key notation quotes) (double_key notation quotes) b + more_of notation b))
    && eqb (replaced (alone notation quotes b ∷ [])) (escaped_of (single_key notation quotes) (double_key notation quotes) b)

-- A byte by itself takes one byte, and gives as much more as it grows, but one less for NUL in a style sheet; and it is replaced where it is escaped.
abbrev pub Grows : Notation → Quotes → ℕ → Type 0
Grows notation quotes b =
    (length (takes (alone notation quotes b)) ≡ 1)
    × (length (gives (alone notation quotes b)) + less notation b ≡ 1 + (escaped_of (single_key notation quotes) (double_key notation quotes) b + more_of notation b))
    × (replaced (alone notation quotes b ∷ []) ≡ escaped_of (single_key notation quotes) (double_key notation quotes) b)

abbrev right : Notation → Quotes → ℕ → Bool
right notation quotes b = ruled notation quotes b && grown notation quotes b

all_right : (notation : Notation) (q : Quotes) (b : ℕ) → b < 0x80 → T (right notation q b)
unfolding encode_step is_slashed is_hexed escaped_of hexed_of more_of same_of
all_right Style Single = below (right Style Single) 0x80 tt
all_right Style Double = below (right Style Double) 0x80 tt
all_right Style Both = below (right Style Both) 0x80 tt
all_right Script Single = below (right Script Single) 0x80 tt
all_right Script Double = below (right Script Double) 0x80 tt
all_right Script Both = below (right Script Both) 0x80 tt
all_right Json Single = below (right Json Single) 0x80 tt
all_right Json Double = below (right Json Double) 0x80 tt
all_right Json Both = below (right Json Both) 0x80 tt

module _ (notation : Notation) (quotes : Quotes) (b : ℕ) (h : b < 0x80) where
  -- How much a byte grows by itself.
  pub ascii-grows : Grows notation quotes b
  ascii-grows =
      let one = eqb (length (takes (alone notation quotes b))) 1 in
      let more = eqb (length (gives (alone notation quotes b)) + less notation b) (1 + (escaped_of (single_key notation quotes) (double_key notation quotes) b + more_of notation b)) in
      let hit = eqb (replaced (alone notation quotes b ∷ [])) (escaped_of (single_key notation quotes) (double_key notation quotes) b) in
      let g = and_right (ruled notation quotes b) (grown notation quotes b) (all_right notation quotes b h) in
      let k = and_left (one && more) hit g in
      (eqb→eq _ _ (and_left one more k), eqb→eq _ _ (and_right one more k), eqb→eq _ _ (and_right (one && more) hit g))

  ascii-ruled : replaced_move notation (b ∷ []) (replaced_by notation quotes b) ≡ alone notation quotes b
  ascii-ruled = same_move_lem _ (alone notation quotes b) (and_left (ruled notation quotes b) (grown notation quotes b) (all_right notation quotes b h))

-- ---- the rule is the definition's

-- No byte above ASCII is escaped by itself.
slashed-with : (q : Quotes) (b : ℕ) → 0x80 ≤ b → is_slashed (single_of q) (double_of q) b ≡ false
unfolding is_slashed
slashed-with Single b h = rw (not_ascii b 0x5C h (omega arith), not_ascii b 0x27 h (omega arith))
slashed-with Double b h = rw (not_ascii b 0x5C h (omega arith), not_ascii b 0x22 h (omega arith))
slashed-with Both b h = rw (not_ascii b 0x5C h (omega arith), not_ascii b 0x27 h (omega arith), not_ascii b 0x22 h (omega arith))

pub slashed-high : (notation : Notation) (q : Quotes) (b : ℕ) → 0x80 ≤ b → is_slashed (single_key notation q) (double_key notation q) b ≡ false
slashed-high notation q = slashed-with (quotes_in notation q)

pub hexed-high : (b : ℕ) → 0x80 ≤ b → is_hexed b ≡ false
unfolding is_hexed
hexed-high b h = rw (le-ltb b 32 (omega arith), not_ascii b 0x3C h (omega arith))

-- The rule makes the move of the definition at every byte but E2.
pub byte-ruled : (notation : Notation) (quotes : Quotes) (b : ℕ) → (b ≡ 0xE2 → ⊥)
    → (p : ℕ) (s : List ℕ) → replaced_move notation (b ∷ s) (replaced_by notation quotes b) ≡ encode_step (written_in notation quotes) p (b ∷ s)
byte-ruled notation quotes b ne p s =
    headmost notation (is_slashed (single_key notation quotes) (double_key notation quotes) b) (is_hexed b) (eqb b 0) refl ∙ go (ltb b 0x80) refl ∙ sym (lone (written_in notation quotes) (strings-ruleless notation quotes) p b s ne)
  where
    headmost : (notation : Notation) (t u v : Bool) → eqb b 0 ≡ v
        → replaced_move notation (b ∷ s) (cond t (Some Slashed) (cond u (Some (hex_by notation b)) None)) ≡ replaced_move notation (b ∷ []) (cond t (Some Slashed) (cond u (Some (hex_by notation b)) None))
    headmost notation true u v e = refl
    headmost Script false true v e = refl
    headmost Json false true v e = refl
    headmost Style false true true e = rw e
    headmost Style false true false e = rw e
    headmost notation false false v e = refl

    go : (t : Bool) → ltb b 0x80 ≡ t → replaced_move notation (b ∷ []) (replaced_by notation quotes b) ≡ alone notation quotes b
    go true l = ascii-ruled notation quotes b (ltb-true b 0x80 l)
    go false l =
        let h = ltb-false b 0x80 l in
        rw (slashed-high notation quotes b h, hexed-high b h) (sym (kept (written_in notation quotes) (strings-ruleless notation quotes) 0 b [] (no_start (written_in notation quotes) (strings-ruleless notation quotes) b h ne)))

-- ---- what the rule says of the bytes that the code tells apart

-- The test for the bytes from `]` to 7F.
pub letter-bounds : (b : ℕ) → inside (0x5D, 0x7F) b ≡ true → (0x5D ≤ b) × (b ≤ 0x7F)
letter-bounds b e =
    let t : T (leb 0x5D b && leb b 0x7F) = subst T (sym e) tt in
    (leb→le 0x5D b (and_left (leb 0x5D b) (leb b 0x7F) t), leb→le b 0x7F (and_right (leb 0x5D b) (leb b 0x7F) t))

module _ (notation : Notation) where
  -- The control bytes are written in hex.
  pub ruled-control : (q : Quotes) (b : ℕ) → b ≤ 31 → replaced_with notation q b ≡ Some (hex_by notation b)
  unfolding is_slashed is_hexed
  ruled-control q b h = rw (lt-ltb b 32 (omega arith), ne_eqb b 0x5C (λ e. omega arith), below-quote q)
    where
      below-quote : (q : Quotes) → eqb b (single_of q) || eqb b (double_of q) ≡ false
      below-quote Single = rw (ne_eqb b 0x27 (λ e. omega arith), ne_eqb b 0x5C (λ e. omega arith))
      below-quote Double = rw (ne_eqb b 0x5C (λ e. omega arith), ne_eqb b 0x22 (λ e. omega arith))
      below-quote Both = rw (ne_eqb b 0x27 (λ e. omega arith), ne_eqb b 0x22 (λ e. omega arith))

  -- From the space on four bytes alone are escaped.
  pub ruled-other : (q : Quotes) (b : ℕ) → 32 ≤ b → (b ≡ 0x22 → ⊥) → (b ≡ 0x27 → ⊥) → (b ≡ 0x3C → ⊥) → (b ≡ 0x5C → ⊥) → replaced_with notation q b ≡ None
  unfolding is_slashed is_hexed
  ruled-other Single b h d s l k = rw (le-ltb b 32 h, ne_eqb b 0x3C l, ne_eqb b 0x5C k, ne_eqb b 0x27 s)
  ruled-other Double b h d s l k = rw (le-ltb b 32 h, ne_eqb b 0x3C l, ne_eqb b 0x5C k, ne_eqb b 0x22 d)
  ruled-other Both b h d s l k = rw (le-ltb b 32 h, ne_eqb b 0x3C l, ne_eqb b 0x5C k, ne_eqb b 0x27 s, ne_eqb b 0x22 d)

  -- The four.
  pub ruled-double : (q : Quotes) → replaced_with notation q 0x22 ≡ cond (eqb 0x22 (double_of q)) (Some Slashed) None
  unfolding is_slashed is_hexed
  ruled-double Single = refl
  ruled-double Double = refl
  ruled-double Both = refl

  pub ruled-single : (q : Quotes) → replaced_with notation q 0x27 ≡ cond (eqb 0x27 (single_of q)) (Some Slashed) None
  unfolding is_slashed is_hexed
  ruled-single Single = refl
  ruled-single Double = refl
  ruled-single Both = refl

  pub ruled-slash : (q : Quotes) → replaced_with notation q 0x5C ≡ Some Slashed
  unfolding is_slashed
  ruled-slash q = refl

pub ruled-less : (notation : Notation) (q : Quotes) → replaced_with notation q 0x3C ≡ Some Hex
unfolding is_slashed is_hexed
ruled-less Script Single = refl
ruled-less Script Double = refl
ruled-less Script Both = refl
ruled-less Style Single = refl
ruled-less Style Double = refl
ruled-less Style Both = refl
ruled-less Json Single = refl
ruled-less Json Double = refl
ruled-less Json Both = refl

-- ---- the line separators

-- What ends a separator is 80, and A8 or A9.
pub ends-are : (b c : ℕ) → ends_of b c ≡ true → (b ≡ 0x80) × (0xA8 ≤ c) × (c ≤ 0xA9)
unfolding ends_of
ends-are b c e =
    let t : T (eqb b 0x80 && (eqb c 0xA8 || eqb c 0xA9)) = subst T (sym e) tt in
    let last = go (or_cases (eqb c 0xA8) (eqb c 0xA9) (and_right (eqb b 0x80) (eqb c 0xA8 || eqb c 0xA9) t)) in
    (eqb→eq b 0x80 (and_left (eqb b 0x80) (eqb c 0xA8 || eqb c 0xA9) t), last.0, last.1)
  where
    go : T (eqb c 0xA8) ⊎ T (eqb c 0xA9) → (0xA8 ≤ c) × (c ≤ 0xA9)
    go (inl t) = let e = eqb→eq c 0xA8 t in (omega arith, omega arith)
    go (inr t) = let e = eqb→eq c 0xA9 t in (omega arith, omega arith)

-- Three bytes give way to six, and the last of the six is the last of the three less 70.
pub separator-sizes : (b : Bool) → (length (key (cond b line_separator paragraph_separator)) ≡ 3) × (length (value (cond b line_separator paragraph_separator)) ≡ 6)
separator-sizes true = (refl, refl)
separator-sizes false = (refl, refl)

pub separator-value : (c : ℕ) → 0xA8 ≤ c → c ≤ 0xA9 → value (cond (eqb c 0xA8) line_separator paragraph_separator) ≡ ascii "\\u202" ++ (c - 0x70) ∷ []
separator-value c l h = go (eqb c 0xA8) refl
  where
    go : (b : Bool) → eqb c 0xA8 ≡ b → value (cond b line_separator paragraph_separator) ≡ ascii "\\u202" ++ (c - 0x70) ∷ []
    go true e = rw (eqb-true c 0xA8 e)
    go false e =
        let last : c ≡ 0xA9 = omega (arith, eqb-false c 0xA8 e) in rw last

-- What is found where E2 stands before s.
abbrev pub separator_at : List ℕ → Maybe Replacement
separator_at s = cond (ended s) (Some Separator) None

-- The row of the one, of the other, or none.
abbrev two : Bool → Bool → Option Row
two t u =
    elim t [
      | true ↦ some line_separator
      | false ↦ elim u [ true ↦ some paragraph_separator | false ↦ none ]
    ]

lead-row : (notation : Notation) (q : Quotes) → separates notation ≡ true → (s : List ℕ)
    → row_at key (table (written_in notation q)) (0xE2 ∷ s) ≡ two (stands (0x80 ∷ 0xA8 ∷ []) s) (stands (0x80 ∷ 0xA9 ∷ []) s)
lead-row Script Single w s = refl
lead-row Script Double w s = refl
lead-row Script Both w s = refl
lead-row Style q w s = absurd (let z : ◌≡◌ {A = ℕ} 0 1 = ap (λ (x : Bool). cond x 1 0) w in omega arith)
lead-row Json q w s = refl

separator-row : (notation : Notation) (s : List ℕ) → write (two (stands (0x80 ∷ 0xA8 ∷ []) s) (stands (0x80 ∷ 0xA9 ∷ []) s)) (keep (0xE2 ∷ [])) ≡ replaced_move notation (0xE2 ∷ s) (separator_at s)
unfolding ends_of
separator-row notation [] = refl
separator-row notation (x ∷ []) = go (eqb 0x80 x)
  where
    go : (a : Bool) → write (two (a && false) (a && false)) (keep (0xE2 ∷ [])) ≡ keep (0xE2 ∷ [])
    go true = refl
    go false = refl
separator-row notation (x ∷ y ∷ s) =
    go (eqb 0x80 x) (eqb 0xA8 y) (eqb 0xA9 y) refl refl refl
    ∙ (λ i. replaced_move notation (0xE2 ∷ x ∷ y ∷ s) (cond (eqb_comm 0x80 x i && (eqb_comm 0xA8 y i || eqb_comm 0xA9 y i)) (Some Separator) None))
  where
    go : (a b c : Bool) → eqb 0x80 x ≡ a → eqb 0xA8 y ≡ b → eqb 0xA9 y ≡ c
        → write (two (a && (b && true)) (a && (c && true))) (keep (0xE2 ∷ [])) ≡ replaced_move notation (0xE2 ∷ x ∷ y ∷ s) (cond (a && (b || c)) (Some Separator) None)
    go true true c e f g = rw (sym (eqb-true 0xA8 y f))
    go true false true e f g = rw (sym (eqb-true 0xA9 y g))
    go true false false e f g = refl
    go false b c e f g = refl

-- The move at E2 where line separators are escaped.
module _ (notation : Notation) (w : separates notation ≡ true) (q : Quotes) where
  lead-moves : (p : ℕ) (s : List ℕ) → replaced_move notation (0xE2 ∷ s) (separator_at s) ≡ encode_step (written_in notation q) p (0xE2 ∷ s)
  lead-moves p s =
      sym (by-table (written_in notation q) (strings-ruleless notation q) p (0xE2 ∷ s) ∙ ap (λ (o : Option Row). write o (keep (0xE2 ∷ []))) (lead-row notation q w s) ∙ separator-row notation s)

  -- It is kept where no separator is ended.
  pub lead-kept : (s : List ℕ) → ended s ≡ false → encode_step (written_in notation q) 0 (0xE2 ∷ s) ≡ keep (0xE2 ∷ [])
  lead-kept s e = sym (lead-moves 0 s) ∙ rw e

  -- Where one is, all of it is taken.
  pub lead-taken : (s : List ℕ) → ended s ≡ true → encode_step (written_in notation q) 0 (0xE2 ∷ s) ≡ replacement_move notation (0xE2 ∷ s) Separator
  lead-taken s e = sym (lead-moves 0 s) ∙ rw e

  -- At E2, of the bytes that the code is lent.
  pub found-lead : (s : List ℕ) (r : Maybe Replacement) → 0 < length s → get_or s 0 0 ≡ 0xE2 → separator_at (drop 1 s) ≡ r
      → (p : ℕ) → replaced_move notation s r ≡ encode_step (written_in notation q) p s
  found-lead [] r h e k p = absurd (not-suc-le-zero h)
  found-lead (x ∷ s) r h e k p = rw (e, ← k) (lead-moves p s)

-- E2 begins no key in a style sheet.
pub lead-style : (q : Quotes) → starts (table (InStyle q)) 0xE2 ≡ false
unfolding starts
lead-style Single = refl
lead-style Double = refl
lead-style Both = refl

-- ---- the same of the bytes that the code is lent

module _ (notation : Notation) (quotes : Quotes) where
  -- At every byte but E2.
  pub found-ruled : (s : List ℕ) (r : Maybe Replacement) → 0 < length s → (get_or s 0 0 ≡ 0xE2 → ⊥) → replaced_by notation quotes (get_or s 0 0) ≡ r
      → (p : ℕ) → replaced_move notation s r ≡ encode_step (written_in notation quotes) p s
  found-ruled [] r h ne k p = absurd (not-suc-le-zero h)
  found-ruled (x ∷ s) r h ne k p = rw (← k) (byte-ruled notation quotes x ne p s)

  -- At a byte from the space on that is none of the five.
  pub found_plain : (s : List ℕ) → 0 < length s → 32 ≤ get_or s 0 0
      → (get_or s 0 0 ≡ 0x22 → ⊥) → (get_or s 0 0 ≡ 0x27 → ⊥) → (get_or s 0 0 ≡ 0x3C → ⊥) → (get_or s 0 0 ≡ 0x5C → ⊥) → (get_or s 0 0 ≡ 0xE2 → ⊥)
      → (p : ℕ) → replaced_move notation s None ≡ encode_step (written_in notation quotes) p s
  found_plain s h l d g n k e = found-ruled s None h e (ruled-other notation (quotes_in notation quotes) (get_or s 0 0) l d g n k)

  -- At a quote k, which is escaped if it is the key.
  pub found-quote : (s : List ℕ) (r : Maybe Replacement) (k key : ℕ) → 0 < length s → get_or s 0 0 ≡ k → (k ≡ 0xE2 → ⊥) → r ≡ cond (eqb (get_or s 0 0) key) (Some Slashed) None
      → replaced_by notation quotes k ≡ cond (eqb k key) (Some Slashed) None → ((p : ℕ) → replaced_move notation s r ≡ encode_step (written_in notation quotes) p s) × HeldAt r s
  found-quote s r k key h e ne f g = (found-ruled s r h (λ q. ne (sym e ∙ q)) (rw e (g ∙ rw (← e) (sym f))), rw f (held (eqb (get_or s 0 0) key)))
    where
      held : (t : Bool) → HeldAt (cond t (Some Slashed) None) s
      held true = h
      held false = h

-- In a style sheet it is kept.
pub found-style : (notation : Notation) (q : Quotes) (s : List ℕ) → separates notation ≡ false → 0 < length s → get_or s 0 0 ≡ 0xE2
    → (p : ℕ) → replaced_move notation s None ≡ encode_step (written_in notation q) p s
found-style Script q s w h e p = absurd (let z : ◌≡◌ {A = ℕ} 1 0 = ap (λ (x : Bool). cond x 1 0) w in omega arith)
found-style Json q s w h e p = absurd (let z : ◌≡◌ {A = ℕ} 1 0 = ap (λ (x : Bool). cond x 1 0) w in omega arith)
found-style Style q [] w h e p = absurd (not-suc-le-zero h)
found-style Style q (x ∷ s) w h e p = rw e (sym (kept (InStyle q) (λ a. refl) p 0xE2 s (lead-style q)))

-- Less than two bytes after it end no separator; otherwise the two tell.
pub ended-short : (s : List ℕ) → length s < 3 → ended (drop 1 s) ≡ false
ended-short [] h = refl
ended-short (x ∷ []) h = refl
ended-short (x ∷ y ∷ []) h = refl
ended-short (x ∷ y ∷ z ∷ s) h = absurd (omega arith)

pub ended-long : (s : List ℕ) → 3 ≤ length s → ended (drop 1 s) ≡ ends_of (get_or s 1 0) (get_or s 2 0)
ended-long [] h = absurd (omega arith)
ended-long (x ∷ []) h = absurd (omega arith)
ended-long (x ∷ y ∷ []) h = absurd (omega arith)
ended-long (x ∷ y ∷ z ∷ s) h = refl

-- ---- what the writer of a replacement needs

pub held-some : (r : Replacement) (s : List ℕ) → Held r s → 1 ≤ length s
held-some Slashed s h = h
held-some Hex s h = h
held-some Separator s h = omega (arith, h.0)
held-some Substitute s h = h

pub hex-held : (notation : Notation) (b : ℕ) (s : List ℕ) → 1 ≤ length s → Held (hex_by notation b) s
hex-held Script b s h = h
hex-held Json b s h = h
hex-held Style b s h = go (eqb b 0)
  where
    go : (t : Bool) → Held (cond t Substitute Hex) s
    go true = h
    go false = h

-- Where nothing replaces it the first byte is given.
pub kept_gives : (s : List ℕ) → 1 ≤ length s → gives (keep_byte s) ≡ get_or s 0 0 ∷ []
kept_gives [] h = absurd (not-suc-le-zero h)
kept_gives (x ∷ s) h = refl
