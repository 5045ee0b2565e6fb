-- `browse_html::digits::browsed` meets its contract: a character's number stands for a character's number.
-- Assumes nothing.
use borrow.Author.Rules.{rules}
use mathlib.Core.Path.{sym, ◌∙◌, subst}
use borrow.Author.Tests.{ne_eqb}
use lib.Dec.{T}
use Rattle.rules.specs.References.{renumbering, stands_for}
use Rattle.rules.proofs.Numbers.{stands-scalar}
use Rattle.decode_html.proofs.Ceiling.{scalar-most}
use Rattle.browse_html.proofs.digits.browsed.Goals as goal

pub returns-then-number-eq0 : goal.returns-then-number-eq0
returns-then-number-eq0 c = (rw c.if-number-eq0.true, search rules)

pub returns-then-is_scalar : goal.returns-then-is_scalar
returns-then-is_scalar c =
    let n = c.args.number in
    let e = sym c.is_scalar.ensures ∙ c.if-is_scalar.true in
    let t = stands-scalar n (subst T (sym e) tt) in
    (rw (c.stands_for.ensures, ne_eqb _ _ c.if-number-eq0.false, e), rw c.stands_for.ensures (scalar-most (stands_for renumbering n) t))

pub returns : goal.returns
returns c = (rw (← c.is_scalar.ensures, c.if-is_scalar.false), search rules)
