-- What the table says of a name by its first letter, and of a name that is known to be in it.
-- Assumes nothing.
use mathlib.Core.Bool.{Bool, true, false, ◌&&◌}
use mathlib.Core.Option.{none, some}
use mathlib.Core.Path.{◌≡◌, refl, sym, ap, ◌∙◌}
use mathlib.Core.List.{List, [], ◌∷◌, ◌++◌, map}
use Prim.Native.Nat.{ℕ, suc, ◌-◌, ◌≤◌, ◌<◌}
use native.Mathlib.Omega.{arith}
use lib.Dec.{T, leb, eqb, leb→le, eqb→eq}
use lib.ListN.{length, take, drop, get_or}
use lib.Seq.{take_all}
use borrow.Author.Tests.{eqb-true, eqb-false}
use Rattle.rules.specs.Bytes.{In, all, same_bytes}
use Rattle.rules.specs.Tables.{Row, key}
use Rattle.rules.specs.Names.{
  names,
  upper-A,
  upper-B,
  upper-C,
  upper-D,
  upper-E,
  upper-F,
  upper-G,
  upper-H,
  upper-I,
  upper-J,
  upper-K,
  upper-L,
  upper-M,
  upper-N,
  upper-O,
  upper-P,
  upper-Q,
  upper-R,
  upper-S,
  upper-T,
  upper-U,
  upper-V,
  upper-W,
  upper-X,
  upper-Y,
  upper-Z,
  lower-a,
  lower-b,
  lower-c,
  lower-d,
  lower-e,
  lower-f,
  lower-g,
  lower-h,
  lower-i,
  lower-j,
  lower-k,
  lower-l,
  lower-m,
  lower-n,
  lower-o,
  lower-p,
  lower-q,
  lower-r,
  lower-s,
  lower-t,
  lower-u,
  lower-v,
  lower-w,
  lower-x,
  lower-y,
  lower-z,
}
use Rattle.rules.specs.References.{lookup}
use Rattle.rules.proofs.Tests.{and_left, and_right, same_bytes_lem}
use Rattle.rules.proofs.Names.{empty-unnamed}
use Rattle.names_search.specs.Pairs.{beside}
use Rattle.names_search.proofs.Arms.{beside-out}
use Rattle.names_search.proofs.Lookups.{other, before}

-- The lists of the table, each beside its letter.
unfoldable pub letters : List (ℕ × List Row)
letters =
    (0x41, upper-A) ∷ (0x42, upper-B) ∷ (0x43, upper-C) ∷ (0x44, upper-D) ∷ (0x45, upper-E) ∷ (0x46, upper-F) ∷ (0x47, upper-G) ∷ (0x48, upper-H)
    ∷ (0x49, upper-I) ∷ (0x4A, upper-J) ∷ (0x4B, upper-K) ∷ (0x4C, upper-L) ∷ (0x4D, upper-M) ∷ (0x4E, upper-N) ∷ (0x4F, upper-O) ∷ (0x50, upper-P)
    ∷ (0x51, upper-Q) ∷ (0x52, upper-R) ∷ (0x53, upper-S) ∷ (0x54, upper-T) ∷ (0x55, upper-U) ∷ (0x56, upper-V) ∷ (0x57, upper-W) ∷ (0x58, upper-X)
    ∷ (0x59, upper-Y) ∷ (0x5A, upper-Z) ∷ (0x61, lower-a) ∷ (0x62, lower-b) ∷ (0x63, lower-c) ∷ (0x64, lower-d) ∷ (0x65, lower-e) ∷ (0x66, lower-f)
    ∷ (0x67, lower-g) ∷ (0x68, lower-h) ∷ (0x69, lower-i) ∷ (0x6A, lower-j) ∷ (0x6B, lower-k) ∷ (0x6C, lower-l) ∷ (0x6D, lower-m) ∷ (0x6E, lower-n)
    ∷ (0x6F, lower-o) ∷ (0x70, lower-p) ∷ (0x71, lower-q) ∷ (0x72, lower-r) ∷ (0x73, lower-s) ∷ (0x74, lower-t) ∷ (0x75, lower-u) ∷ (0x76, lower-v)
    ∷ (0x77, lower-w) ∷ (0x78, lower-x) ∷ (0x79, lower-y) ∷ (0x7A, lower-z) ∷ []

-- ---- a table in lists

-- The key of the row begins with the byte b.
abbrev begins : ℕ → Row → Bool
begins b row = eqb (get_or (key row) 0 0) b

-- The rows of the lists, one after the other.
abbrev rows_in : List (ℕ × List Row) → List Row
rows_in [] = []
rows_in (pair ∷ pairs) = pair.1 ++ rows_in pairs

-- The letters rise from `low` on, and all rows of a list begin with its letter.
abbrev lettered : ℕ → List (ℕ × List Row) → Bool
lettered low [] = true
lettered low (pair ∷ pairs) = leb low pair.0 && (all (begins pair.0) pair.1 && lettered (suc pair.0) pairs)

-- Rows that begin with another byte do not count.
others : (b : ℕ) (rows more : List Row) (name : List ℕ) → T (all (begins b) rows) → (get_or name 0 0 ≡ b → ⊥) → lookup (rows ++ more) name ≡ lookup more name
others b [] more name t n = refl
others b (row ∷ rows) more name t n =
    let e : get_or (key row) 0 0 ≡ b = eqb→eq _ _ (and_left (begins b row) (all (begins b) rows) t) in
    other row (rows ++ more) name (λ p. n (ap (λ (a : List ℕ). get_or a 0 0) (sym p) ∙ e)) ∙ others b rows more name (and_right (begins b row) (all (begins b) rows) t) n

-- Nor do later rows among which the name is not.
nothing-after : (rows more : List Row) (name : List ℕ) → lookup more name ≡ none → lookup (rows ++ more) name ≡ lookup rows name
nothing-after [] more name e = e
nothing-after (row ∷ rows) more name e = before row (rows ++ more) rows name (nothing-after rows more name e)

-- A name that begins below all letters is in no list.
below_all : (low : ℕ) (pairs : List (ℕ × List Row)) (name : List ℕ) → T (lettered low pairs) → get_or name 0 0 < low → lookup (rows_in pairs) name ≡ none
below_all low [] name t h = refl
below_all low (pair ∷ pairs) name t h =
    let s = and_right (leb low pair.0) (all (begins pair.0) pair.1 && lettered (suc pair.0) pairs) t in
    let l : low ≤ pair.0 = leb→le _ _ (and_left (leb low pair.0) (all (begins pair.0) pair.1 && lettered (suc pair.0) pairs) t) in
    others pair.0 pair.1 (rows_in pairs) name (and_left (all (begins pair.0) pair.1) (lettered (suc pair.0) pairs) s) (λ e. omega arith)
    ∙ below_all (suc pair.0) pairs name (and_right (all (begins pair.0) pair.1) (lettered (suc pair.0) pairs) s) (omega arith)

-- A name is looked up in the list of its first letter.
in_list : (low : ℕ) (pairs : List (ℕ × List Row)) (name : List ℕ) → T (lettered low pairs)
    → lookup (rows_in pairs) name ≡ lookup (beside [] pairs (get_or name 0 0)) name
in_list low [] name t = refl
in_list low (pair ∷ pairs) name t = go (eqb (get_or name 0 0) pair.0) refl (λ later. in_list (suc pair.0) pairs name later)
  where
    s : T (all (begins pair.0) pair.1 && lettered (suc pair.0) pairs)
    s = and_right (leb low pair.0) (all (begins pair.0) pair.1 && lettered (suc pair.0) pairs) t

    later : T (lettered (suc pair.0) pairs)
    later = and_right (all (begins pair.0) pair.1) (lettered (suc pair.0) pairs) s

    go : (b : Bool) → eqb (get_or name 0 0) pair.0 ≡ b
        → (T (lettered (suc pair.0) pairs) → lookup (rows_in pairs) name ≡ lookup (beside [] pairs (get_or name 0 0)) name)
        → lookup (pair.1 ++ rows_in pairs) name ≡ lookup (beside [] (pair ∷ pairs) (get_or name 0 0)) name
    go true e ih =
        let h : get_or name 0 0 < suc pair.0 = omega (arith, eqb-true (get_or name 0 0) pair.0 e) in
        rw e (nothing-after pair.1 (rows_in pairs) name (below_all (suc pair.0) pairs name later h))
    go false e ih =
        let t = and_left (all (begins pair.0) pair.1) (lettered (suc pair.0) pairs) s in
        rw e (others pair.0 pair.1 (rows_in pairs) name t (eqb-false (get_or name 0 0) pair.0 e) ∙ ih later)

-- ---- the table of names

letters-rise : T (lettered 0 letters)
unfolding letters names
letters-rise = tt

names-listed : rows_in letters ≡ names
unfolding letters names
names-listed = refl

by-letter : (name : List ℕ) → lookup names name ≡ lookup (beside [] letters (get_or name 0 0)) name
by-letter name = ap (λ (rows : List Row). lookup rows name) (sym names-listed) ∙ in_list 0 letters name letters-rise

-- The name that is the letter b and the bytes `rest`.
pub at-letter : (b first : ℕ) (rest : List ℕ) → first ≡ b → lookup (beside [] letters b) (b ∷ rest) ≡ lookup names (first ∷ rest)
at-letter b first rest e = rw e (sym (by-letter (b ∷ rest)))

-- No name begins with another byte.
pub no-letter : (first : ℕ) (rest : List ℕ) → (In first (map (λ (pair : ℕ × List Row). pair.0) letters) → ⊥) → none ≡ lookup names (first ∷ rest)
no-letter first rest h = sym (by-letter (first ∷ rest) ∙ ap (λ (rows : List Row). lookup rows (first ∷ rest)) (beside-out [] letters first h))

-- The empty name is none.
pub unnamed : (name : List ℕ) → length name ≡ 0 → none ≡ lookup names name
unnamed [] e = sym empty-unnamed
unnamed (x ∷ s) e = let f : ⊥ = omega arith in absurd f

-- ---- a known name

-- A name that is the same as one that is known to be in the table.
pub known : (key v name : List ℕ) → lookup names key ≡ some v → name ≡ key → lookup names name ≡ some v
known key v name e s = rw s e
