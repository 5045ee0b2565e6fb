-- A name is looked up in a lent table row by row, by the rows that are left of it.
-- Assumes nothing.
use mathlib.Core.Bool.{true, false, ◌&&◌, true≢false}
use mathlib.Core.Logic.{◌⊎◌, inl, inr}
use mathlib.Core.Option.{none, some}
use mathlib.Core.Path.{◌≡◌, refl, sym, ◌∙◌, subst}
use mathlib.Core.List.{List, [], ◌∷◌}
use Prim.Native.Nat.{ℕ, ◌-◌, ◌≤◌}
use lib.Dec.{T, leb, eqb, leb→le}
use lib.ListN.{length, take, drop, get_or}
use lib.Pointwise.{pointwise}
use native.Mathlib.Omega.{arith}
use borrow.Author.Tests.{eq-eqb}
use Rattle.rules.specs.Bytes.{first, same_bytes}
use Rattle.rules.specs.References.{lookup}
use Rattle.rules.proofs.Tests.{is_false, and_left, and_right, same_bytes_lem}
use Rattle.names_search.specs.Lent.{code_bytes, rows_of, is_table}

-- What `==` says of two slices is what `same_bytes` does.
pointwise-same : (a b : List ℕ) → pointwise eqb a b ≡ same_bytes a b
pointwise-same [] [] = refl
pointwise-same [] (y ∷ b) = refl
pointwise-same (x ∷ a) [] = refl
pointwise-same (x ∷ a) (y ∷ b) = rw (pointwise-same a b)

-- Two names of which one is longer, or that end with other bytes, are not the same.
pub unlike : (a b : List ℕ) → false ≡ (eqb (length a) (length b) && eqb (get_or a (length b - 1) 0) (get_or b (length b - 1) 0)) → false ≡ pointwise eqb a b
unlike a b d = sym (pointwise-same a b ∙ is_false (same_bytes a b) (λ t. true≢false (sym (end (same_bytes_lem a b t)))))
  where
    end : a ≡ b → false ≡ true
    end e = rw (e, eq-eqb (length b) (length b) refl, eq-eqb (get_or b (length b - 1) 0) (get_or b (length b - 1) 0) refl) at d

-- The rows passed are not the name's; those that are left have the bytes `rest`, the lengths ls and the values vs.
pub record Scanned (name bytes lengths values rest ls vs : List ℕ) : Type 0 where
  pub table : T (is_table rest ls vs)
  pub rows : (b : ℕ) → lookup (rows_of b rest ls vs) (b ∷ name) ≡ lookup (rows_of b bytes lengths values) (b ∷ name)

pub scanned-start : (name bytes lengths values : List ℕ) {ls vs : List ℕ} → is_table bytes lengths values ≡ true → ls ≡ lengths → vs ≡ values
    → Scanned name bytes lengths values bytes ls vs
scanned-start name bytes lengths values t e f = rw (e, f) (record { table = subst T (sym t) tt; rows = λ b. refl })

-- No row is left.
pub scanned-end : {name bytes lengths values rest : List ℕ} (ls vs : List ℕ) → Scanned name bytes lengths values rest ls vs → (length ls ≡ 0) ⊎ (length vs ≡ 0)
    → (b : ℕ) → none ≡ lookup (rows_of b bytes lengths values) (b ∷ name)
scanned-end [] vs s h b = s.rows b
scanned-end (n ∷ ls) [] s h b = s.rows b
scanned-end (n ∷ ls) (v ∷ vs) s (inl e) b = absurd (omega arith)
scanned-end (n ∷ ls) (v ∷ vs) s (inr e) b = absurd (omega arith)

-- A row is left: its name lies within the bytes. If it is the name that is looked up, its value is the result, and otherwise it is passed.
module _ {name bytes lengths values rest ls vs : List ℕ} {n v : ℕ} {ls' vs' : List ℕ} (s : Scanned name bytes lengths values rest ls vs) (e : ls ≡ n ∷ ls') (f : vs ≡ v ∷ vs') where
  table : T (leb n (length rest) && is_table (drop n rest) ls' vs')
  table = rw (e, f) at s.table

  pub scanned-room : n ≤ length rest
  scanned-room = leb→le n (length rest) (and_left (leb n (length rest)) (is_table (drop n rest) ls' vs') table)

  rows : (b : ℕ) → lookup (rows_of b rest (n ∷ ls') (v ∷ vs')) (b ∷ name) ≡ lookup (rows_of b bytes lengths values) (b ∷ name)
  rows b = rw (e, f) at (s.rows b)

  pub scanned-found : true ≡ pointwise eqb (take n rest) name → (b : ℕ) → some (code_bytes v) ≡ lookup (rows_of b bytes lengths values) (b ∷ name)
  scanned-found t b = rw (eq-eqb b b refl, sym (pointwise-same (take n rest) name) ∙ sym t, first) at (rows b)

  pub scanned-next : false ≡ pointwise eqb (take n rest) name → Scanned name bytes lengths values (drop n rest) ls' vs'
  scanned-next t = record {
    table = and_right (leb n (length rest)) (is_table (drop n rest) ls' vs') table;
    rows = λ b. rw (eq-eqb b b refl, sym (pointwise-same (take n rest) name) ∙ sym t, first) at (rows b);
  }
