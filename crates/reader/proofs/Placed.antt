-- What stands at the head of a text has the text's byte at each of its places. So one byte tells which rows of a table can stand there: those
-- that have another one at its place may be left out.
-- Assumes nothing.
use mathlib.Core.Bool.{Bool, true, false, ◌&&◌, cond}
use mathlib.Core.Logic.{inl, inr}
use mathlib.Core.Option.{Option, none, some}
use mathlib.Core.Path.{◌≡◌, refl, sym, ap, ◌∙◌, subst}
use mathlib.Core.List.{List, [], ◌∷◌, map}
use Prim.Native.Nat.{ℕ, zero, suc, ◌<◌}
use native.Mathlib.Omega.{arith}
use lib.Dec.{T, ltb, eqb, eqb→eq, eqb_refl, ltb→lt}
use lib.ListN.{length, get_or}
use Rattle.rules.specs.Bytes.{ascii, In, all, only, stands, one_of}
use Rattle.rules.specs.Tables.{Row, row_at, value, reference, others, html_rows}
use Rattle.rules.specs.Reading.{undo}
use Rattle.rules.specs.declared.Html.TheVariants.{Unquoted}
use Rattle.std.specs.Prelude.{Option as Maybe, None}
use Rattle.rules.specs.declared.Escape.{Escape}
use Rattle.rules.proofs.Tests.{and_left, and_right, all_in, first-none}
use Rattle.decode_strings.specs.Finds.{Finds}
use Rattle.rules.specs.Answers.{escape_for}
use Rattle.decode_strings.proofs.Finding.{finds-later, finds-end}

byte-stands : (k : ℕ) (v s : List ℕ) → k < length v → T (stands v s) → get_or v k 0 ≡ get_or s k 0
byte-stands k [] s h t = absurd (omega arith)
byte-stands k (a ∷ v) [] h t = absurd t
byte-stands zero (a ∷ v) (y ∷ s) h t = eqb→eq a y (and_left (eqb a y) (stands v s) t)
byte-stands (suc k) (a ∷ v) (y ∷ s) h t = byte-stands k v s (omega arith) (and_right (eqb a y) (stands v s) t)

-- A table that has no row there has nothing.
pub finds-none : {es : List Row} {s : List ℕ} → row_at value es s ≡ none → Finds es s None
finds-none e = record { undoes = λ other. ap (λ (o : Option Row). undo o other) e; within = tt }

-- The value has a byte at place k, and it passes the test.
abbrev pub has : ℕ → (ℕ → Bool) → Row → Bool
has k p e = ltb k (length (value e)) && p (get_or (value e) k 0)

module _ (k : ℕ) (p : ℕ → Bool) (es : List Row) (ok : T (all (has k p) es)) (s : List ℕ) where
  -- The text's byte is that of a row which stands.
  row-byte : (e : Row) → In e es → T (stands (value e) s) → (get_or (value e) k 0 ≡ get_or s k 0) × T (p (get_or (value e) k 0))
  row-byte e i t =
      let w = all_in (has k p) es ok e i in
      (byte-stands k (value e) s (ltb→lt k (length (value e)) (and_left (ltb k (length (value e))) (p (get_or (value e) k 0)) w)) t, and_right (ltb k (length (value e))) (p (get_or (value e) k 0)) w)

  -- Where all rows have a byte there that passes and the text has not, none stands.
  pub none-there : p (get_or s k 0) ≡ false → row_at value es s ≡ none
  none-there h = first-none (λ (row : Row). stands (value row)) es s (λ e i t. let w = row-byte e i t in subst T h (subst (λ (b : ℕ). T (p b)) w.0 w.1))

only-there : (p : Row → Bool) (es : List Row) (s : List ℕ) → ((e : Row) → In e es → T (stands (value e) s) → T (p e)) → row_at value (only p es) s ≡ row_at value es s
only-there p [] s h = refl
only-there p (e ∷ es) s h = go (p e) refl (stands (value e) s) refl (only-there p es s (λ f i. h f (inr i)))
  where
    go : (b : Bool) → p e ≡ b → (t : Bool) → stands (value e) s ≡ t → row_at value (only p es) s ≡ row_at value es s
        → row_at value (elim b [ true ↦ e ∷ only p es | false ↦ only p es ]) s ≡ elim t [ true ↦ some e | false ↦ row_at value es s ]
    go true q true k ih = ap (λ (t : Bool). elim t [ true ↦ some e | false ↦ row_at value (only p es) s ]) k
    go true q false k ih = ap (λ (t : Bool). elim t [ true ↦ some e | false ↦ row_at value (only p es) s ]) k ∙ ih
    go false q true k ih = absurd (subst T q (h e (inl refl) (subst T (sym k) tt)))
    go false q false k ih = ih

-- ---- the units of `unquoted`, by their second byte

-- The second bytes.
abbrev seconds : List ℕ
seconds = ascii "algq#"

-- The rows with this one.
abbrev rows_by : ℕ → List Row
rows_by x = only (λ (e : Row). eqb (get_or (value e) 1 0) x) (html_rows Unquoted)

module _ (s : List ℕ) where
  -- Only they count.
  finds-by : (x : ℕ) {r : Maybe Escape} → get_or s 1 0 ≡ x → Finds (rows_by x) s r → Finds (html_rows Unquoted) s r
  finds-by x h f = record {
    undoes = λ other. ap (λ (o : Option Row). undo o other)
        (sym (only-there (λ (e : Row). eqb (get_or (value e) 1 0) x) (html_rows Unquoted) s
        (λ e i t. subst (λ (b : ℕ). T (eqb b x)) (sym ((row-byte 1 (one_of seconds) (html_rows Unquoted) tt s e i t).0 ∙ h)) (eqb_refl x))))
        ∙ f.undoes other;
    within = f.within;
  }

  -- A second byte that only the row e has: that row, or nothing.
  pub finds-named : (e : Row) (x n ch : ℕ) (r : Maybe Escape) → get_or s 1 0 ≡ x → rows_by x ≡ e ∷ [] → (stands (value e) s ≡ true → Finds (e ∷ []) s (escape_for n ch))
      → r ≡ cond (stands (value e) s) (escape_for n ch) None → Finds (html_rows Unquoted) s r
  finds-named e x n ch r h o f q = rw q (go (stands (value e) s) refl)
    where
      go : (b : Bool) → stands (value e) s ≡ b → Finds (html_rows Unquoted) s (cond b (escape_for n ch) None)
      go true t = finds-by x h (rw o (f t))
      go false t = finds-by x h (rw o (finds-later t finds-end))

  -- `#`: one of those with digits.
  pub finds-numbered : {r : Maybe Escape} → get_or s 1 0 ≡ 0x23 → Finds (map reference others) s r → Finds (html_rows Unquoted) s r
  finds-numbered h f = finds-by 0x23 h f

  -- Any other byte: nothing.
  pub finds-no-unit : one_of seconds (get_or s 1 0) ≡ false → Finds (html_rows Unquoted) s None
  finds-no-unit h = finds-none (none-there 1 (one_of seconds) (html_rows Unquoted) tt s h)

-- A text of one byte or none has no second one.
pub no_second : (s : List ℕ) → length s < 2 → get_or s 1 0 ≡ 0
no_second [] h = refl
no_second (x ∷ []) h = refl
no_second (x ∷ y ∷ s) h = absurd (omega arith)
