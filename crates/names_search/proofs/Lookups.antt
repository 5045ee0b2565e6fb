-- Which row of a table a name is looked up to: the first whose key it is, and rows with another byte at a place do not count.
-- Assumes nothing.
use mathlib.Core.Bool.{Bool, true, false, true≢false}
use mathlib.Core.Path.{◌≡◌, refl, sym, ◌∙◌}
use mathlib.Core.List.{List, [], ◌∷◌}
use Prim.Native.Nat.{ℕ, ◌≤◌}
use lib.ListN.{get_or}
use borrow.Author.Tests.{le-leb}
use Rattle.rules.specs.Bytes.{first, same_bytes, only, inside}
use Rattle.rules.specs.Tables.{Row, key}
use Rattle.rules.specs.References.{lookup}
use Rattle.rules.proofs.Tests.{is_false, same_bytes_lem}
use Rattle.names_search.specs.Having.{having}

-- a row with another key
pub other : (row : Row) (rows : List Row) (name : List ℕ) → (key row ≡ name → ⊥) → lookup (row ∷ rows) name ≡ lookup rows name
other row rows name h = rw (is_false (same_bytes (key row) name) (λ t. h (same_bytes_lem (key row) name t)), first)

-- the same row before two tables in which the name is looked up alike
pub before : (row : Row) (rows others : List Row) (name : List ℕ) → lookup rows name ≡ lookup others name
    → lookup (row ∷ rows) name ≡ lookup (row ∷ others) name
before row rows others name e = go (same_bytes (key row) name) refl
  where
    go : (b : Bool) → same_bytes (key row) name ≡ b → lookup (row ∷ rows) name ≡ lookup (row ∷ others) name
    go true q = rw (q, first)
    go false q = rw (q, first) e

module _ (place low high : ℕ) (name : List ℕ) (l : low ≤ get_or name place 0) (h : get_or name place 0 ≤ high) where
  -- A name is looked up in the part that its byte at a place leads to as it is in the whole table.
  pub in-part : (rows : List Row) → lookup (having place (low, high) rows) name ≡ lookup rows name
  in-part [] = refl
  in-part (row ∷ rows) = go (inside (low, high) (get_or (key row) place 0)) refl (in-part rows)
    where
      go : (b : Bool) → inside (low, high) (get_or (key row) place 0) ≡ b → lookup (having place (low, high) rows) name ≡ lookup rows name
          → lookup (having place (low, high) (row ∷ rows)) name ≡ lookup (row ∷ rows) name
      go true q e = rw (q, only) (before row (having place (low, high) rows) rows name e)
      go false q e = rw (q, only) (e ∙ sym (other row rows name (λ p. true≢false (rw (p, le-leb _ _ l, le-leb _ _ h) at q))))
