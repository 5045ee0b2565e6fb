-- `first` meets its contract. The invariant: every byte that is passed and comes before the least so far is a letter or digit.
-- Assumes nothing.
use Rattle.std.proofs.Common.{◌≡◌, ℕ, true, get_or, arith}
use Rattle.rules.specs.Tables.{letter_or_digit}
use Rattle.read_unquoted.proofs.Letters.{plain_at, more-letters}
use Rattle.read_unquoted.proofs.walk.first.Goals as goal

pub loop-j-preserved : goal.loop-j-preserved
loop-j-preserved c =
    let l = c.loop-j in
    let t = c.args.block.now in
    let first = c.min-m.ensures in
    (omega (arith, first, l.invariant.0), more-letters (λ (k : ℕ). letter_or_digit (get_or t k 0) ≡ true) l.j l.m c.min-m.result c.pick.result l.invariant.1 (omega (arith, first)) (omega (arith, first)) c.pick.ensures)

pub returns : goal.returns
returns c =
    let l = c.loop-j in
    (omega (arith, c.from.ensures, l.invariant.0), λ k h s. plain_at c.args.block.now k (l.invariant.1 k (omega (arith, s, c.from.ensures, l.invariant.0)) (omega (arith, s, c.from.ensures))))
