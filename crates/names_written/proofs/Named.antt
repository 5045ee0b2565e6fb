-- A tied table has the name of each character of its range: the names that stand there are the rule's, and where none stands no row of the range has that
-- character. The name over the rows of the range is the one over all names.
-- Assumes nothing.
use mathlib.Core.Bool.{Bool, true, false, not, ◌&&◌, ◌||◌}
use mathlib.Core.Logic.{◌⊎◌, inl, inr}
use mathlib.Core.Option.{Option, none, some}
use mathlib.Core.Path.{◌≡◌, refl, sym, ap, ◌∙◌, subst}
use mathlib.Core.List.{List, [], ◌∷◌}
use Prim.Native.Nat.{ℕ, zero, suc, ◌+◌, ◌-◌, ◌≤◌, ◌<◌}
use native.Mathlib.Omega.{arith}
use lib.Dec.{T, leb, leb→le, le→leb, T_not}
use lib.ListN.{length, get_or}
use Rattle.rules.specs.Bytes.{all, any, only, pick, best, Range, inside, same_bytes}
use Rattle.rules.specs.Utf8.{utf8, code_of}
use Rattle.rules.specs.Tables.{Row, key, value}
use Rattle.rules.specs.Names.{names}
use Rattle.rules.specs.Ascii.{is_before, key_of, name_in, name_of}
use Rattle.rules.specs.Browsing.{given}
use Rattle.rules.proofs.Tests.{and_left, and_right, and_both, or_cases, all_in, same_bytes_lem, same_refl}
use Rattle.rules.proofs.CharNumbers.{code-utf8}
use Rattle.rules.proofs.CharNames.{name_in_lem}
use Rattle.names_written.specs.Ties.{part, name_at, is_one, within, is_empty, is_name, cuts_names, has_name, is_tied}

-- ---- rows that cannot be preferred do not count

abbrev over : Row → Row → Bool
over x y = is_before (key x) (key y)

abbrev fit : List ℕ → Row → Bool
fit a row = same_bytes (value row) a

best-only : (test : Row → Bool) (a : List ℕ) → ((row : Row) → T (fit a row) → T (test row)) → (rows : List Row) → best over (fit a) (only test rows) ≡ best over (fit a) rows
best-only test a h [] = refl
best-only test a h (row ∷ rows) = go (test row) refl (fit a row) refl (best-only test a h rows)
  where
    pick_of : Bool → Option Row → Option Row
    pick_of b o = elim b [ true ↦ some (pick over row o) | false ↦ o ]

    go : (t : Bool) → test row ≡ t → (f : Bool) → fit a row ≡ f → best over (fit a) (only test rows) ≡ best over (fit a) rows
        → best over (fit a) (elim (test row) [ true ↦ row ∷ only test rows | false ↦ only test rows ]) ≡ best over (fit a) (row ∷ rows)
    go true p f q ih = ap (λ (t : Bool). best over (fit a) (elim t [ true ↦ row ∷ only test rows | false ↦ only test rows ])) p ∙ ap (pick_of (fit a row)) ih
    go false p true q ih = absurd (subst T p (h row (subst T (sym q) tt)))
    go false p false q ih = ap (λ (t : Bool). best over (fit a) (elim t [ true ↦ row ∷ only test rows | false ↦ only test rows ])) p ∙ ih ∙ sym (ap (λ (f : Bool). pick_of f (best over (fit a) rows)) q)

-- ---- each place of the table

abbrev Place : List Row → List ℕ → ℕ → ℕ → ℕ → Type 0
Place rows bytes k a e = T ((leb a e && leb e (length bytes)) && (leb (e - a) 20 && is_name rows k (part bytes a e)))

cut_at : (rows : List Row) (bytes : List ℕ) (k : ℕ) (offsets : List ℕ) → T (cuts_names rows bytes k offsets) → (i : ℕ) → i + 1 < length offsets
    → Place rows bytes (k + i) (get_or offsets i 0) (get_or offsets (i + 1) 0)
cut_at rows bytes k [] t i h = absurd (let f : ⊥ = omega arith in f)
cut_at rows bytes k (a ∷ []) t i h = absurd (let f : ⊥ = omega arith in f)
cut_at rows bytes k (a ∷ e ∷ offsets) t zero h =
    let z : k + 0 ≡ k = omega arith in
    rw z (and_left ((leb a e && leb e (length bytes)) && (leb (e - a) 20 && is_name rows k (part bytes a e))) (cuts_names rows bytes (suc k) (e ∷ offsets)) t)
cut_at rows bytes k (a ∷ e ∷ offsets) t (suc i) h =
    let z : k + suc i ≡ suc k + i = omega arith in
    let w : suc i + 1 ≡ suc (i + 1) = omega arith in
    rw (z, w) (cut_at rows bytes (suc k) (e ∷ offsets) (and_right ((leb a e && leb e (length bytes)) && (leb (e - a) 20 && is_name rows k (part bytes a e))) (cuts_names rows bytes (suc k) (e ∷ offsets)) t) i (omega arith))

-- ---- the name of a character of the range

none-there : (n : List ℕ) → T (is_empty n) → n ≡ []
none-there [] t = refl
none-there (b ∷ n) t = absurd t

-- What is known of a place: the offsets are in order and within the bytes, and the bytes between them are the name.
pub record Tied (bytes offsets : List ℕ) (at code : ℕ) : Type 0 where
  pub forward : get_or offsets at 0 ≤ get_or offsets (at + 1) 0
  pub inside-bytes : get_or offsets (at + 1) 0 ≤ length bytes
  pub short : get_or offsets (at + 1) 0 - get_or offsets at 0 ≤ 20
  pub name : name_at bytes offsets at ≡ given (name_of (utf8 code))

pub tied_at : (low : ℕ) (bytes offsets : List ℕ) (code : ℕ) → T (is_tied low bytes offsets) → low ≤ code → code - low + 1 < length offsets → code ≤ 0x10FFFF
    → Tied bytes offsets (code - low) code
unfolding is_tied name_of
tied_at low bytes offsets code t l h top =
    let place = cut_at rows bytes low offsets (and_left (cuts_names rows bytes low offsets) (all (has_name bytes offsets low) rows) t) (code - low) h in
    let bounds = and_left (leb a e && leb e (length bytes)) (leb (e - a) 20 && is_name rows (low + (code - low)) (part bytes a e)) place in
    let rest = and_right (leb a e && leb e (length bytes)) (leb (e - a) 20 && is_name rows (low + (code - low)) (part bytes a e)) place in
    record {
      forward = leb→le a e (and_left (leb a e) (leb e (length bytes)) bounds);
      inside-bytes = leb→le e (length bytes) (and_right (leb a e) (leb e (length bytes)) bounds);
      short = leb→le (e - a) 20 (and_left (leb (e - a) 20) (is_name rows (low + (code - low)) (part bytes a e)) rest);
      name = named (or_cases (is_empty (part bytes a e)) (same_bytes (given (name_in rows (utf8 (low + (code - low))))) (part bytes a e)) (and_right (leb (e - a) 20) (is_name rows (low + (code - low)) (part bytes a e)) rest));
    }
  where
    a : ℕ
    a = get_or offsets (code - low) 0

    e : ℕ
    e = get_or offsets (code - low + 1) 0

    range : Range
    range = (low, low + length offsets - 2)

    rows : List Row
    rows = within range names

    same : low + (code - low) ≡ code
    same = omega arith

    inner : T (inside range code)
    inner = and_both (leb low code) (leb code (low + length offsets - 2)) (le→leb low code l) (le→leb code (low + length offsets - 2) (omega arith))

    -- A row of this character is in the range.
    one : (row : Row) → T (fit (utf8 code) row) → T (is_one range row)
    one row f =
        let v : value row ≡ utf8 code = same_bytes_lem (value row) (utf8 code) f in
        let k : code_of (value row) ≡ code = ap code_of v ∙ code-utf8 code top in
        and_both (inside range (code_of (value row))) (same_bytes (utf8 (code_of (value row))) (value row)) (subst (λ (n : ℕ). T (inside range n)) (sym k) inner)
        (subst (λ (w : List ℕ). T (same_bytes w (value row))) (v ∙ ap utf8 (sym k)) (same_refl (value row)))

    here : name_in rows (utf8 code) ≡ name_in names (utf8 code)
    here = ap key_of (best-only (is_one range) (utf8 code) one names)

    listed : all (has_name bytes offsets low) rows ≡ all (has_name bytes offsets low) rows
    listed = refl

    nothing : T (is_empty (part bytes a e)) → (o : Option (List ℕ)) → name_in rows (utf8 code) ≡ o → given o ≡ []
    nothing m none p = refl
    nothing m (some n) p =
        let (i, before) = name_in_lem rows (utf8 code) n p in
        let has = all_in (has_name bytes offsets low) rows (and_right (cuts_names rows bytes low offsets) (all (has_name bytes offsets low) rows) t) (n, utf8 code) i in
        absurd (T_not (is_empty (part bytes a e)) (subst (λ (k : ℕ). T (not (is_empty (name_at bytes offsets (k - low))))) (code-utf8 code top) has) m)

    named : T (is_empty (part bytes a e)) ⊎ T (same_bytes (given (name_in rows (utf8 (low + (code - low))))) (part bytes a e)) → name_at bytes offsets (code - low) ≡ given (name_in names (utf8 code))
    named (inl m) = none-there (part bytes a e) m ∙ sym (nothing m (name_in rows (utf8 code)) refl) ∙ ap given here
    named (inr m) = sym (same_bytes_lem (given (name_in rows (utf8 (low + (code - low))))) (part bytes a e) m) ∙ ap (λ (k : ℕ). given (name_in rows (utf8 k))) same ∙ ap given here

-- ---- the numbers of a range

pub in_table : (code low high places : ℕ) → low ≤ code → code ≤ high → high + 1 < low + places → code - low + 1 < places
in_table code low high places a b c = omega arith

pub in-unicode : (code high : ℕ) → code ≤ high → high ≤ 0x10FFFF → code ≤ 0x10FFFF
in-unicode code high a b = omega arith

-- ---- characters outside of every range

-- A row that stands for one character of the span has one of a range.
abbrev pub is_ranged : Range → List Range → Row → Bool
is_ranged span ranges row = not (is_one span row) || any (λ (range : Range). inside range (code_of (value row))) ranges

-- So any other character of the span has no name.
pub none-outside : (span : Range) (ranges : List Range) → T (all (is_ranged span ranges) names) → (code : ℕ) → span.0 ≤ code → code ≤ span.1 → code ≤ 0x10FFFF
    → any (λ (range : Range). inside range code) ranges ≡ false → given (name_of (utf8 code)) ≡ []
unfolding name_of
none-outside span ranges ranged code low high top out = go (name_in names (utf8 code)) refl
  where
    back : code_of (utf8 code) ≡ code
    back = code-utf8 code top

    one : (n : List ℕ) → T (is_one span (n, utf8 code))
    one n =
        and_both (inside span (code_of (utf8 code))) (same_bytes (utf8 (code_of (utf8 code))) (utf8 code))
        (subst (λ (k : ℕ). T (inside span k)) (sym back) (and_both (leb span.0 code) (leb code span.1) (le→leb span.0 code low) (le→leb code span.1 high)))
        (subst (λ (k : ℕ). T (same_bytes (utf8 k) (utf8 code))) (sym back) (same_refl (utf8 code)))

    denied : (a b : Bool) → T a → T (not a || b) → T b
    denied true b t u = u
    denied false b t u = absurd t

    go : (o : Option (List ℕ)) → name_in names (utf8 code) ≡ o → given o ≡ []
    go none e = refl
    go (some n) e =
        let (i, most) = name_in_lem names (utf8 code) n e in
        let t = denied (is_one span (n, utf8 code)) (any (λ (range : Range). inside range (code_of (utf8 code))) ranges) (one n) (all_in (is_ranged span ranges) names ranged (n, utf8 code) i) in
        absurd (subst T out (subst (λ (k : ℕ). T (any (λ (range : Range). inside range k) ranges)) back t))

-- What the test of a range says.
pub among : (r : Bool) (low high code : ℕ) → r ≡ inside (low, high) code → r ≡ true → (low ≤ code) × (code ≤ high)
among r low high code e t =
    let u : T (inside (low, high) code) = subst T (e) (subst T (sym t) tt) in
    (leb→le low code (and_left (leb low code) (leb code high) u), leb→le code high (and_right (leb low code) (leb code high) u))
