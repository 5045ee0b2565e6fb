-- `has_tails` meets its contract: as many ranges are asked for as there are bytes to test after the first.
-- Assumes nothing.
use mathlib.Core.Bool.{and-true, and_assoc}
use mathlib.Core.Path.{◌≡◌}
use borrow.Author.Rules.{rules}
use Rattle.utf8.proofs.Chars.{second-tail, next-tail}
use Rattle.utf8.proofs.has_tails.Goals as goal

pub returns-then-n-eq2 : goal.returns-then-n-eq2
returns-then-n-eq2 c =
    let a = c.args in
    rw (second-tail a.rest.now a.n (search rules) (search rules) (search rules) (search rules), c.if-n-eq2.true, and-true) c.goes_on-two.ensures

pub returns-then-n-eq3 : goal.returns-then-n-eq3
returns-then-n-eq3 c =
    let g = c in
    let s = g.args.rest.now in
    let n = g.args.n in
    rw (second-tail s n (search rules) (search rules) (search rules) (search rules), next-tail s n 2 (search rules) (search rules), c.if-n-eq3.true, and-true)
    (rw (g.goes_on-two.ensures, c.is_within.ensures))

pub returns : goal.returns
returns c =
    let w = c in
    let g = w in
    let s = g.args.rest.now in
    let n = g.args.n in
    let e : n ≡ 4 = search rules in
    rw (second-tail s n (search rules) (search rules) (search rules) (search rules), next-tail s n 2 (search rules) (search rules), next-tail s n 3 (search rules) (search rules), e, and-true)
    (rw (← g.goes_on-two.ensures, ← w.is_within.ensures, ← c.is_within-2.ensures, and_assoc))
