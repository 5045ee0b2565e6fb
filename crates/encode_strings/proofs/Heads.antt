-- The first byte of a text settles the move there: where no key begins with it the byte is kept, and a key is one ASCII byte unless E2 begins it.
-- Assumes nothing.
use mathlib.Core.Bool.{Bool, true, false, ◌||◌}
use mathlib.Core.Logic.{◌⊎◌, inl, inr}
use mathlib.Core.Option.{Option, some}
use mathlib.Core.Path.{◌≡◌, refl, sym, ap, ◌∙◌, subst}
use mathlib.Core.List.{List, [], ◌∷◌}
use Prim.Native.Nat.{ℕ, ◌≤◌, ◌<◌}
use native.Mathlib.Omega.{arith}
use borrow.Author.Tests.{ne_eqb}
use lib.Dec.{T, eqb, ltb, eqb→eq, ltb→lt}
use Rattle.rules.specs.Bytes.{In, all, stands}
use Rattle.rules.specs.Moves.{keep}
use Rattle.rules.specs.Tables.{Row, row_at, key, table}
use Rattle.rules.specs.Encoding.{write, encode_step}
use Rattle.rules.specs.Contexts.{written_in}
use Rattle.rules.specs.declared.Quotes.{Quotes}
use Rattle.rules.specs.declared.Notation.{Notation}
use Rattle.rules.specs.declared.Notation.TheVariants.{Script, Style, Json}
use Rattle.rules.specs.declared.Context.{Context}
use Rattle.rules.proofs.Tests.{and_left, and_right, or_cases, is_false, all_in, any-in, any-intro, first-none}
use Rattle.rules.proofs.Every.{every}
use Rattle.rules.proofs.Bytewise.{Ruleless, by-table}
use Rattle.encode_strings.specs.Strings.{headed, starts}

-- A byte that is not ASCII is no ASCII byte.
pub not_ascii : (b k : ℕ) → 0x80 ≤ b → k < 0x80 → eqb b k ≡ false
not_ascii b k h l = ne_eqb b k (λ e. omega arith)

-- A key of one ASCII byte, or one that E2 begins.
abbrev short : List ℕ → Bool
short [] = false
short (x ∷ []) = ltb x 0x80 || eqb x 0xE2
short (x ∷ y ∷ k) = eqb x 0xE2

keys-short : (c : Context) → T (all (λ (row : Row). short (key row)) (table c))
keys-short = every (λ (c : Context). all (λ (row : Row). short (key row)) (table c)) tt

stands-headed : (k : List ℕ) (b : ℕ) (s : List ℕ) → T (stands k (b ∷ s)) → T (headed b k)
stands-headed [] b s t = tt
stands-headed (x ∷ k) b s t = and_left (eqb x b) (stands k s) t

short-head : (k : List ℕ) (b : ℕ) → T (short k) → T (headed b k) → (b < 0x80) ⊎ (b ≡ 0xE2)
short-head [] b t h = absurd t
short-head (x ∷ []) b t h = go (or_cases (ltb x 0x80) (eqb x 0xE2) t)
  where
    go : T (ltb x 0x80) ⊎ T (eqb x 0xE2) → (b < 0x80) ⊎ (b ≡ 0xE2)
    go (inl u) = inl (omega (arith, ltb→lt x 0x80 u, eqb→eq x b h))
    go (inr u) = inr (sym (eqb→eq x b h) ∙ eqb→eq x 0xE2 u)
short-head (x ∷ y ∷ k) b t h = inr (sym (eqb→eq x b h) ∙ eqb→eq x 0xE2 t)

lone-key : (k : List ℕ) (b : ℕ) (s : List ℕ) → T (short k) → (b ≡ 0xE2 → ⊥) → stands k (b ∷ s) ≡ stands k (b ∷ [])
lone-key [] b s t n = absurd t
lone-key (x ∷ []) b s t n = refl
lone-key (x ∷ y ∷ k) b s t n = let e : eqb x b ≡ false = ne_eqb x b (λ e. n (sym e ∙ eqb→eq x 0xE2 t)) in rw e

lone_row : (rows : List Row) (b : ℕ) (s : List ℕ) → T (all (λ (row : Row). short (key row)) rows) → (b ≡ 0xE2 → ⊥) → row_at key rows (b ∷ s) ≡ row_at key rows (b ∷ [])
lone_row [] b s t n = refl
lone_row (row ∷ rows) b s t n =
    let all_short = all (λ (row : Row). short (key row)) rows in
    let e = lone-key (key row) b s (and_left (short (key row)) all_short t) n in
    let r = lone_row rows b s (and_right (short (key row)) all_short t) n in
    λ i. elim (e i) [ true ↦ some row | false ↦ r i ]

-- No rule stands beside the table of a string.
pub strings-ruleless : (notation : Notation) (quotes : Quotes) → Ruleless (written_in notation quotes)
strings-ruleless Script quotes a = refl
strings-ruleless Style quotes a = refl
strings-ruleless Json quotes a = refl

module _ (c : Context) (ruleless : Ruleless c) where
  -- A byte that begins no key is kept.
  pub kept : (p b : ℕ) (s : List ℕ) → starts (table c) b ≡ false → encode_step c p (b ∷ s) ≡ keep (b ∷ [])
  unfolding starts
  kept p b s e =
      by-table c ruleless p (b ∷ s)
      ∙ ap (λ (o : Option Row). write o (keep (b ∷ [])))
      (first-none (λ (row : Row). stands (key row)) (table c) (b ∷ s)
      (λ row i t. subst T e (any-intro (λ (row : Row). headed b (key row)) (table c) row i (stands-headed (key row) b s t))))

  -- Beside ASCII only E2 begins keys.
  pub no_start : (b : ℕ) → 0x80 ≤ b → (b ≡ 0xE2 → ⊥) → starts (table c) b ≡ false
  unfolding starts
  no_start b h n = is_false (starts (table c) b) (λ t. found (any-in (λ (row : Row). headed b (key row)) (table c) t))
    where
      none : (b < 0x80) ⊎ (b ≡ 0xE2) → ⊥
      none (inl l) = omega arith
      none (inr e) = n e

      found : (row : Row) × In row (table c) × T (headed b (key row)) → ⊥
      found f = none (short-head (key f.0) b (all_in (λ (row : Row). short (key row)) (table c) (keys-short c) f.0 f.1) f.2)

  -- The move at any byte but E2 is its own.
  pub lone : (p b : ℕ) (s : List ℕ) → (b ≡ 0xE2 → ⊥) → encode_step c p (b ∷ s) ≡ encode_step c 0 (b ∷ [])
  lone p b s n =
      by-table c ruleless p (b ∷ s)
      ∙ ap (λ (o : Option Row). write o (keep (b ∷ []))) (lone_row (table c) b s (keys-short c) n)
      ∙ sym (by-table c ruleless 0 (b ∷ []))
