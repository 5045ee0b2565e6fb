-- `next` meets its contract: the stretches that are passed are joined.
-- Assumes nothing.
use Rattle.std.proofs.Common.{◌≡◌, ℕ, ◌+◌, true, subst, arith}
use Rattle.base.specs.First.{Free}
use Rattle.base.proofs.Firsts.{free-start, free-join}
use Rattle.plain.specs.Plain.{special_at}
use Rattle.read_unquoted.proofs.Letters.{letters-part}
use Rattle.read_unquoted.proofs.walk.next.Goals as goal

pub returns-then-from-text : goal.returns-then-from-text
returns-then-from-text c = (omega arith, omega (arith, c.requires), free-start _ _)

pub returns-then-text-from-lt-BLOCK : goal.returns-then-text-from-lt-BLOCK
returns-then-text-from-lt-BLOCK c = c.walk.ensures

pub first-near-requires : goal.first-near-requires
first-near-requires c = omega (arith, c.if-text-from-lt-BLOCK.false, c.requires)

pub overflow_add-result : goal.overflow_add-result
overflow_add-result c = omega (arith, c.first-near.ensures.0, c.if-text-from-lt-BLOCK.false, c.requires)

pub returns-then-near-lt-BLOCK : goal.returns-then-near-lt-BLOCK
returns-then-near-lt-BLOCK c = (omega arith, omega (arith, c.first-near.ensures.0, c.if-text-from-lt-BLOCK.false, c.requires), letters-part c.args.text.now c.args.from (c.args.from + 16) c.first-near.result (omega (arith, c.first-near.ensures.0)) c.first-near.ensures.1)

pub returns : goal.returns
returns c =
    let a = c.args in
    let t = a.text.now in
    let near : c.first-near.result ≡ 16 = omega (arith, c.first-near.ensures.0, c.if-near-lt-BLOCK.false) in
    let one = subst (λ (n : ℕ). Free (special_at true t) a.from (a.from + n)) near (letters-part t a.from (a.from + 16) c.first-near.result (omega (arith, c.first-near.ensures.0)) c.first-near.ensures.1) in
    let p = c.pass.ensures in
    let w = c.walk-2.ensures in
    (omega (arith, p.0, w.0), w.1, free-join (special_at true t) a.from (a.from + 16) c.walk-2.result one (free-join (special_at true t) (a.from + 16) c.pass.result c.walk-2.result p.2 w.2))
