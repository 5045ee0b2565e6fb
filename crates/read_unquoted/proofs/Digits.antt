-- Six bytes with the number of `&#xHH;` are a row of the context.
-- Assumes nothing.
use Rattle.std.proofs.Common.{◌≡◌, ℕ, ◌<◌, Bool, true, false, not, ◌&&◌, ◌||◌, T, List, get_or, sym, refl, subst, arith}
use Rattle.rules.specs.Bytes.{all, any, stands, inside, same_bytes}
use Rattle.rules.specs.Tables.{Row, value, reference, html_rows}
use Rattle.rules.specs.declared.Html.TheVariants.{Unquoted}
use Rattle.rules.proofs.Below.{below}
use Rattle.rules.proofs.Tests.{and_left, and_right, any-in, same_bytes_lem}
use Rattle.reader.specs.Units.{is_other}
use Rattle.reader.proofs.Narrow.{other-small}
use Rattle.read_units.specs.Units.{lowest}
use Rattle.read_units.proofs.Numbers.{Stands, lowest-stands}
use Rattle.read_unquoted.specs.Numbered.{Numbered}

pub both : (x y : Bool) → (x && y) ≡ true → (x ≡ true) × (y ≡ true)
both true y e = (refl, e)
both false y e = let never : ◌≡◌ {A = ℕ} 0 1 = cc in absurd (omega arith)

pub either : {P : Type 0} (x y : Bool) → (x || y) ≡ true → (x ≡ true → P) → (y ≡ true → P) → P
either true y e f g = f refl
either false y e f g = g e

-- The unit of a byte is a row.
abbrev is_row : ℕ → Bool
is_row v = any (λ (e : Row). same_bytes (value e) (value (reference v))) (html_rows Unquoted)

-- It has no byte of 0.
abbrev some : ℕ → Bool
some v = all (inside (1, 255)) (value (reference v))

rows_all : (v : ℕ) → v < 128 → T (not (is_other v) || (is_row v && some v))
rows_all = below (λ (v : ℕ). not (is_other v) || (is_row v && some v)) 128 tt

pub numbered-stands : (s : List ℕ) → ((k : ℕ) → get_or s k 0 < 256) → Numbered (lowest 6 s) → Stands Unquoted s
numbered-stands s g (v, o, e) =
    let t = subst (λ (x : Bool). T (not x || (is_row v && some v))) o (rows_all v (other-small v o)) in
    let (row, i, same) = any-in (λ (e : Row). same_bytes (value e) (value (reference v))) (html_rows Unquoted) (and_left (is_row v) (some v) t) in
    let there = lowest-stands (value (reference v)) s (and_right (is_row v) (some v) t) g e in
    (row, i, subst (λ (w : List ℕ). T (stands w s)) (sym (same_bytes_lem (value row) (value (reference v)) same)) there)
