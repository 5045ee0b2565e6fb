-- `byte_of` meets its contract: the length tells which it is.
-- Assumes nothing.
use mathlib.Core.Bool.{Bool, true, false, cond}
use mathlib.Core.Path.{◌≡◌, sym, ap, ◌∙◌}
use Prim.Native.Nat.{ℕ}
use lib.Dec.{eqb}
use Rattle.read_strings.specs.Units.{length_of, value_of}
use borrow.Author.Tests.{eq-eqb, ne_eqb}
use Rattle.read_strings.proofs.units.byte_of.Goals as goal

itself : (x : Bool) (b v : ℕ) → x ≡ true → b ≡ cond x b v
itself x b v e = sym (ap (λ (x : Bool). cond x b v) e)

digits : (x : Bool) (b v : ℕ) → x ≡ false → v ≡ cond x b v
digits x b v e = sym (ap (λ (x : Bool). cond x b v) e)

pub returns-then-length_of-eq2 : goal.returns-then-length_of-eq2
returns-then-length_of-eq2 c =
    let a = c.args in
    itself (eqb (length_of a.b) 2) a.b (value_of a.language a.b a.c a.d) (eq-eqb (length_of a.b) 2 (sym c.length_of.ensures.0 ∙ c.if-length_of-eq2.true))

pub returns-else-length_of-eq2 : goal.returns-else-length_of-eq2
returns-else-length_of-eq2 c =
    let a = c.args in
    c.value_of-value.ensures
    ∙ digits (eqb (length_of a.b) 2) a.b (value_of a.language a.b a.c a.d) (ne_eqb (length_of a.b) 2 (λ z. c.if-length_of-eq2.false (c.length_of.ensures.0 ∙ z)))
