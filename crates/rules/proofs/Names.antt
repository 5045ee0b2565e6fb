-- The rule of the table of names: each statement is one test, computed over all its rows; what a looked-up name gives follows from it.
-- Assumes nothing.
use mathlib.Core.Bool.{Bool, ◌&&◌}
use mathlib.Core.Option.{Option, none, some, some-injective, none-ne-some}
use mathlib.Core.Path.{◌≡◌, refl, subst}
use mathlib.Core.List.{List, [], ◌∷◌, map}
use Prim.Native.Nat.{ℕ, zero, suc, ◌+◌, ◌*◌, ◌/◌, ◌%◌, ◌≤◌}
use native.Mathlib.Nat.{not-suc-le-zero, le_of_suc-le-suc}
use native.Mathlib.Omega.{arith}
use borrow.Author.Tests.{ne_eqb}
use lib.Dec.{T, leb, eqb→eq, leb→le}
use lib.ListN.{length}
use Rattle.rules.specs.Bytes.{ascii, In, all, only, first, same_bytes, inside}
use Rattle.rules.specs.Utf8.{valid_to, char_step}
use Rattle.rules.specs.Tables.{Row, key, value}
use Rattle.rules.specs.Names.{names, rising, valid, sound, grows}
use Rattle.rules.specs.Answers.{unpack_to}
use Rattle.rules.specs.References.{lookup, value_of}
use Rattle.rules.proofs.Tests.{and_left, and_right, all_in, first-sound, same_bytes_lem}

-- The value has one to six bytes, and none of them is NUL.
abbrev pub short : Row → Bool
short row = inside (1, 6) (length (value row)) && all (inside (1, 255)) (value row)

pub names-size : length names ≡ 2125
unfolding names
names-size = refl

-- One test computes the order of the table and the validity of its values.
names-sound : T (sound names)
unfolding names char_step
names-sound = tt

-- The names rise strictly, byte by byte.
pub names-rise : T (rising names)
names-rise = and_left (rising names) (all valid names) names-sound

-- Every value is valid UTF-8.
pub names-valid : T (all valid names)
names-valid = and_right (rising names) (all valid names) names-sound

-- Only two references are shorter than what they stand for: `&nGt;` and `&nLt;`.
pub names-grow : map key (only grows names) ≡ ascii "nGt" ∷ ascii "nLt" ∷ []
unfolding names
names-grow = refl

pub names-short : T (all short names)
unfolding names
names-short = tt

-- ---- what a looked-up name gives

-- A looked-up name is a key of the table, and what it gives is the value beside it.
pub looked-up : (table : List Row) (body v : List ℕ) → lookup table body ≡ some v → In (body, v) table
looked-up table body v e = go (first (λ (row : Row). same_bytes (key row)) table body) refl e
  where
    go : (o : Option Row) → first (λ (row : Row). same_bytes (key row)) table body ≡ o → value_of o ≡ some v → In (body, v) table
    go none p q = absurd (none-ne-some v q)
    go (some row) p q =
        let (i, t) = first-sound (λ (row : Row). same_bytes (key row)) table body row p in
        subst (λ (row : Row). In row table) (λ j. (same_bytes_lem (key row) body t j, some-injective (value row) v q j)) i

-- No name is empty or begins with `#`: the only bodies of these kinds that stand for anything are numbers.
pub empty-unnamed : lookup names [] ≡ none
unfolding names
empty-unnamed = refl

pub hash-unnamed : (s : List ℕ) → lookup names (35 ∷ s) ≡ none
unfolding names
hash-unnamed s = refl

-- It is valid UTF-8.
pub value-valid : (body v : List ℕ) → lookup names body ≡ some v → valid_to v ≡ length v
value-valid body v e = eqb→eq (valid_to v) (length v) (all_in valid names names-valid (body, v) (looked-up names body v e))

value-short : (body v : List ℕ) → lookup names body ≡ some v → T (short (body, v))
value-short body v e = all_in short names names-short (body, v) (looked-up names body v e)

-- It has one to six bytes.
pub value-size : (body v : List ℕ) → lookup names body ≡ some v → (1 ≤ length v) × (length v ≤ 6)
value-size body v e =
    let t = and_left (inside (1, 6) (length v)) (all (inside (1, 255)) v) (value-short body v e) in
    (leb→le 1 (length v) (and_left (leb 1 (length v)) (leb (length v) 6) t), leb→le (length v) 6 (and_right (leb 1 (length v)) (leb (length v) 6) t))

-- ---- packed values

-- Bytes packed into a number, the first lowest.
abbrev pub pack : List ℕ → ℕ
pack [] = 0
pack (b ∷ v) = b + 256 * pack v

-- At most k bytes, none of them NUL, are packed without loss.
pub pack-kept : (k : ℕ) (v : List ℕ) → length v ≤ k → T (all (inside (1, 255)) v) → unpack_to k (pack v) ≡ v
pack-kept zero [] h t = refl
pack-kept zero (b ∷ v) h t = absurd (not-suc-le-zero h)
pack-kept (suc k) [] h t = refl
pack-kept (suc k) (b ∷ v) h t =
    let s = and_left (inside (1, 255) b) (all (inside (1, 255)) v) t in
    let low : 1 ≤ b = leb→le 1 b (and_left (leb 1 b) (leb b 255) s) in
    let high : b ≤ 255 = leb→le b 255 (and_right (leb 1 b) (leb b 255) s) in
    let first : (b + 256 * pack v) % 256 ≡ b = omega arith in
    let rest : (b + 256 * pack v) / 256 ≡ pack v = omega arith in
    rw (ne_eqb (b + 256 * pack v) 0 (λ e. omega arith), first, rest, pack-kept k v (le_of_suc-le-suc h) (and_right (inside (1, 255) b) (all (inside (1, 255)) v) t))

-- So is every value of the table.
pub value-packed : (body v : List ℕ) → lookup names body ≡ some v → unpack_to 6 (pack v) ≡ v
value-packed body v e =
    pack-kept 6 v (value-size body v e).1 (and_right (inside (1, 6) (length v)) (all (inside (1, 255)) v) (value-short body v e))
