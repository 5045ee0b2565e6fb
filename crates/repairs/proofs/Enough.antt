-- The first 8,220 bytes of a request decide what is printed: the longest header has 27, and a field is looked at only where it is at most 8,192 bytes
-- long. So a reader may stop there.
-- Assumes nothing.
use mathlib.Core.Bool.{Bool, true, false, cond}
use mathlib.Core.Path.{◌≡◌, refl, sym, ap, ◌∙◌}
use mathlib.Core.List.{List}
use Prim.Native.Nat.{ℕ, ◌≤◌, ◌<◌}
use native.Mathlib.Omega.{arith}
use borrow.Author.Tests.{lt-ltb, ltb-true, ltb-false}
use lib.Dec.{eqb, ltb}
use lib.ListN.{length as size, take, length-take}
use lib.Seq.{take_all}
use Rattle.rules.specs.Refusals.{check_of}
use Rattle.rules.specs.declared.AnyContext.{AnyContext}
use Rattle.rules.specs.declared.Operation.TheVariants.{Read}
use Rattle.requests.proofs.Enough.{context-cut}
use Rattle.repairs.specs.Repair.{is_html, status_line, mended, repaired, repaired_by, repair_of}

-- Of a field that is too long only the context matters.
long-field : (n : AnyContext) (t : List ℕ) → 8192 < size t → repaired n t ≡ cond (is_html n) (status_line 1) (status_line 5)
long-field n t l =
    ap (λ (s : ℕ). cond (eqb s 0) (mended n t) (status_line s)) (ap (λ (b : Bool). cond (is_html n) (cond b 1 (check_of n t).status) 5) (lt-ltb 8192 (size t) l))
    ∙ go (is_html n)
  where
    go : (b : Bool) → cond (eqb (cond b 1 5) 0) (mended n t) (status_line (cond b 1 5)) ≡ cond b (status_line 1) (status_line 5)
    go true = refl
    go false = refl

field_cut : (n : AnyContext) (t : List ℕ) (k : ℕ) → 8193 ≤ k → repaired n (take k t) ≡ repaired n t
field_cut n t k h = go (ltb 8192 (size t)) refl
  where
    go : (b : Bool) → ltb 8192 (size t) ≡ b → repaired n (take k t) ≡ repaired n t
    go true e = let l = ltb-true 8192 (size t) e in long-field n (take k t) (omega (arith, l, length-take k t)) ∙ sym (long-field n t l)
    go false e = ap (λ (x : List ℕ). repaired n x) (take_all k t (omega (arith, ltb-false 8192 (size t) e)))

-- What comes after the first 8,220 bytes changes nothing.
pub enough : (s : List ℕ) (n : ℕ) → 8220 ≤ n → repair_of (take n s) ≡ repair_of s
unfolding repair_of
enough s n h = context-cut repaired_by Read (λ c t k l. field_cut c t k l) s n h
