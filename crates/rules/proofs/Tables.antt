-- Laws of a table of rows: each side is a code, and the strict reader reads it.
-- Assumes nothing.
use mathlib.Core.Bool.{Bool, true, false, ◌&&◌}
use mathlib.Core.Option.{Option, none, some}
use mathlib.Core.Path.{◌≡◌, refl, sym, ap, ◌∙◌, subst}
use mathlib.Core.List.{List, ◌++◌, append_assoc}
use Prim.Native.Nat.{ℕ, suc, pred}
use lib.Dec.{T, ltb}
use lib.ListN.{length, take, drop, take-append-drop}
use lib.Seq.{take_at}
use Rattle.rules.specs.Bytes.{In, all, any, fits, stands, Range, inside}
use Rattle.rules.specs.Moves.{Move, keep, swap, leave, stop}
use Rattle.rules.specs.Utf8.{sequences, sequence_at, IsChar, keep_char}
use Rattle.rules.specs.Tables.{Row, row_at, value}
use Rattle.rules.specs.Reading.{undo, unless, read_by}
use Rattle.rules.proofs.Tests.{and_left, and_right, is_false, all_in, any-in, any-intro, first-in, first-none, first-sound, distinct, differ, differ-law, fits-take, fits-length, stands_self, stands-split}
use Rattle.rules.proofs.Chars.{sequence-of-char, sequence-pos, char-unique, is_char, is-char, pred_of}
use Rattle.rules.proofs.Machine.{Makes, Fair}
use Rattle.rules.proofs.Codes.{Reads}

-- A unit of a table alone: a plain character that is not among the barred ones, or the value of a row, standing for its key.
abbrev pub IsEntry : List Row → List (List ℕ) → Move → Type 0
IsEntry rows bars (keep a) = IsChar a × (In a bars → ⊥)
IsEntry rows bars (swap v k) = In (k, v) rows
IsEntry rows bars (leave r a) = ⊥
IsEntry rows bars (stop w) = ⊥

-- One of the barred characters stands at the head of s.
abbrev pub barred : List (List ℕ) → List ℕ → Bool
barred bars s = any (λ (k : List ℕ). stands k s) bars

-- The test of a side of a table: no two rows can stand at the same place; each begins with a barred character; these are characters.
abbrev pub unlike : (Row → List ℕ) → Row → Row → Bool
unlike side e f = differ (side e) (side f)

abbrev pub begun : (Row → List ℕ) → List (List ℕ) → Row → Bool
begun side bars e = ltb 0 (length (side e)) && barred bars (side e)

abbrev pub is_code : (Row → List ℕ) → List Row → List (List ℕ) → Bool
is_code side rows bars = distinct (unlike side) rows && (all (begun side bars) rows && all is_char bars)

module _ (side : Row → List ℕ) (rows : List Row) (bars : List (List ℕ)) (ok : T (is_code side rows bars)) where
  code_apart : T (distinct (unlike side) rows)
  code_apart = and_left (distinct (unlike side) rows) (all (begun side bars) rows && all is_char bars) ok

  code-begun : T (all (begun side bars) rows)
  code-begun = and_left (all (begun side bars) rows) (all is_char bars) (and_right (distinct (unlike side) rows) (all (begun side bars) rows && all is_char bars) ok)

  pub code-chars : T (all is_char bars)
  code-chars = and_right (all (begun side bars) rows) (all is_char bars) (and_right (distinct (unlike side) rows) (all (begun side bars) rows && all is_char bars) ok)

  -- No barred character stands where a plain one does.
  pub bar-stops : (a r : List ℕ) → IsEntry rows bars (keep a) → (k : List ℕ) → In k bars → T (stands k (a ++ r)) → ⊥
  bar-stops a r u k i t =
      let (r', e) = stands-split k (a ++ r) t in
      u.1 (subst (λ (b : List ℕ). In b bars) (sym (char-unique a k r r' u.0 (is-char k (all_in is_char bars code-chars k i)) e)) i)

  -- Nor does a row.
  pub row-stops : (a r : List ℕ) → IsEntry rows bars (keep a) → (e : Row) → In e rows → T (stands (side e) (a ++ r)) → ⊥
  row-stops a r u e i t =
      let v = side e in
      let (k, j, h) = any-in (λ (k : List ℕ). stands k v) bars (and_right (ltb 0 (length v)) (barred bars v) (all_in (begun side bars) rows code-begun e i)) in
      let (r₁, e₁) = stands-split v (a ++ r) t in
      let (r₂, e₂) = stands-split k v h in
      bar-stops a r u k j
      (subst (λ (s : List ℕ). T (stands k s)) (sym (e₁ ∙ ap (λ (v : List ℕ). v ++ r₁) e₂ ∙ append_assoc k r₂ r₁)) (stands_self k (r₂ ++ r₁)))

  pub row-length : (e : Row) → In e rows → length (side e) ≡ suc (pred (length (side e)))
  row-length e i = pred_of (length (side e)) (and_left (ltb 0 (length (side e))) (barred bars (side e)) (all_in (begun side bars) rows code-begun e i))

  -- Where a row stands it is the first that does.
  pub row_first : (e : Row) → In e rows → (r : List ℕ) → row_at side rows (side e ++ r) ≡ some e
  row_first e i r =
      first-in (λ (row : Row). stands (side row)) (unlike side) (λ a b s. differ-law (side a) (side b) s) rows code_apart e (side e ++ r) i
      (stands_self (side e) r)

-- ---- the strict reader

module _ (rows : List Row) (bars : List (List ℕ)) (ok : T (is_code value rows bars)) where
  -- At a unit the reader makes that unit's move.
  pub read-finds : (u : Move) → IsEntry rows bars u → (r : List ℕ) → Makes (read_by rows bars) u r
  read-finds (swap v k) i r = (
    pred (length v),
    row-length value rows bars ok (k, v) i,
    λ p. ap (λ (o : Option Row). undo o (unless (barred bars (v ++ r)) (keep_char (sequence_at (v ++ r)) (v ++ r)))) (row_first value rows bars ok (k, v) i r),
  )
  read-finds (leave w a) i r = absurd i
  read-finds (stop w) i r = absurd i
  read-finds (keep a) u r =
      let (q, i, h, len) = u.0 in (
        pred (length q),
        len ∙ pred_of (length q) (sequence-pos q i),
        λ p. ap (λ (o : Option Row). undo o (unless (barred bars (a ++ r)) (keep_char (sequence_at (a ++ r)) (a ++ r))))
            (first-none (λ (row : Row). stands (value row)) rows (a ++ r) (row-stops value rows bars ok a r u))
            ∙ ap (λ (b : Bool). unless b (keep_char (sequence_at (a ++ r)) (a ++ r)))
            (is_false (barred bars (a ++ r)) (λ t. stopped (any-in (λ (k : List ℕ). stands k (a ++ r)) bars t)))
            ∙ ap (λ (o : Option (List Range)). keep_char o (a ++ r)) (sequence-of-char a r u.0)
            ∙ ap keep (take_at a r (length q) len),
      )
    where
      stopped : (k : List ℕ) × In k bars × T (stands k (a ++ r)) → ⊥
      stopped x = bar-stops value rows bars ok a r u x.0 x.1 x.2

  -- Every move that the reader makes is a unit that stands there, or a stop.
  pub read-fair : (p : ℕ) (s : List ℕ) → Fair (IsEntry rows bars) (read_by rows bars p s) s
  read-fair p s = go (row_at value rows s) refl (barred bars s) refl (sequence_at s) refl
    where
      go : (o : Option Row) → row_at value rows s ≡ o → (b : Bool) → barred bars s ≡ b → (q : Option (List Range)) → sequence_at s ≡ q
          → Fair (IsEntry rows bars) (undo o (unless b (keep_char q s))) s
      go (some e) f b g q h =
          let (i, t) = first-sound (λ (row : Row). stands (value row)) rows s e f in
          let (r, w) = stands-split (value e) s t in
          (i, r, w, pred (length (value e)), row-length value rows bars ok e i)
      go none f true g q h = tt
      go none f false g none h = tt
      go none f false g (some q) h =
          let (i, t) = first-sound (fits inside) sequences s q h in
          let a = take (length q) s in
          let e : s ≡ a ++ drop (length q) s = sym (take-append-drop (length q) s) in (
            (
              (q, i, fits-take inside q s t, fits-length inside q s t),
              λ j. subst T g (any-intro (λ (k : List ℕ). stands k s) bars a j (subst (λ (l : List ℕ). T (stands a l)) (sym e) (stands_self a (drop (length q) s)))),
            ),
            drop (length q) s,
            e,
            pred (length q),
            fits-length inside q s t ∙ pred_of (length q) (sequence-pos q i),
          )

  pub table-reads : Reads (IsEntry rows bars) (read_by rows bars)
  table-reads = record { finds = read-finds; fair = read-fair }
