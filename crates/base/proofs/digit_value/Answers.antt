-- `base::digit_value` meets its contract: what it gives is that of the computed law.
-- Assumes nothing.
use mathlib.Core.Path.{ap, ◌∙◌}
use Prim.Native.Nat.{◌-◌}
use borrow.Author.Rules.{rules}
use Rattle.std.specs.Prelude.{Some}
use Rattle.base.specs.Digits.{upper_of, letter_of, of_sixteen}
use Rattle.base.proofs.Digits.{value-right, decimal-right}
use Rattle.base.proofs.digit_value.Goals as goal

pub returns-then-is_within-clause-value : goal.returns-then-is_within-clause-value
returns-then-is_within-clause-value c =
    let b = c.args.byte in
    value-right b (search rules) (Some (b - 48)) (rw (← c.is_within.ensures, c.if-is_within.true))

pub returns-then-is_within-clause-decimal : goal.returns-then-is_within-clause-decimal
returns-then-is_within-clause-decimal c =
    let b = c.args.byte in
    decimal-right b (search rules) (Some (b - 48)) (rw (← c.is_within.ensures, c.if-is_within.true))

pub returns-clause-value : goal.returns-clause-value
returns-clause-value c =
    let b = c.args.byte in
    let e = c.of_sixteen.ensures ∙ ap of_sixteen (c.letter_value.ensures ∙ ap letter_of c.to_upper.ensures) in
    rw e (value-right b (search rules) (of_sixteen (letter_of (upper_of b))) (rw (← c.is_within.ensures, c.if-is_within.false)))

pub returns-clause-decimal : goal.returns-clause-decimal
returns-clause-decimal c =
    let b = c.args.byte in
    let e = c.of_sixteen.ensures ∙ ap of_sixteen (c.letter_value.ensures ∙ ap letter_of c.to_upper.ensures) in
    rw e (decimal-right b (search rules) (of_sixteen (letter_of (upper_of b))) (rw (← c.is_within.ensures, c.if-is_within.false)))
