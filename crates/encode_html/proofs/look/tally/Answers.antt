-- The counts so far are the growth of the first bytes and how many of them are replaced, and with what is left they are the whole; no byte so far is
-- above the greatest.
-- Assumes nothing.
use Rattle.std.proofs.Common.{sym, ◌∙◌}
use native.Mathlib.Omega.{arith}
use borrow.Author.Count.{below_more}
use borrow.Author.Rules.{rules}
use Rattle.encode_html.proofs.Growth.{grown-start, grown-counts, grown-end, low-most, hit-start, hit-counts, hit-end}
use Rattle.encode_html.proofs.look.tally.Goals as goal

pub loop-b-init : goal.loop-b-init
loop-b-init c = (grown-start c.args.g.html c.args.part.now, hit-start c.args.g.html c.args.part.now, λ k l. absurd (omega arith))

pub loop-b-preserved : goal.loop-b-preserved
loop-b-preserved c =
    let s = c in
    let l = c.loop-b in
    let h = s.args.g.html in
    let t = s.args.part.now in
    let x = c.three-threes in
    let y = c.four-fours in
    let z = c.five-fives in
    let fits = (c.type_inv.part l.b-index).fits in (
      grown-counts h t l.b-index l.threes l.fours l.fives x.result y.result z.result (search rules) fits x.ensures.0 y.ensures.0 z.ensures.0 l.invariant.0,
      hit-counts h t l.b-index l.threes l.fours l.fives x.result y.result z.result (search rules) fits x.ensures.0 y.ensures.0 z.ensures.0 l.invariant.1,
      below_more _ _ (λ k b. omega (arith, l.invariant.2 k b, c.max-greatest.ensures)) (omega (arith, c.max-greatest.ensures)),
    )

pub returns : goal.returns
returns c =
    let s = c in
    let l = c.loop-b in
    let left = c.loop-b-test.false in (
      grown-end s.args.g.html s.args.part.now l.b-index _ left l.invariant.0,
      hit-end s.args.g.html s.args.part.now l.b-index _ l.invariant.0.0 left l.invariant.1,
      λ e k b. omega (arith, low-most c.loop-b.greatest (sym c.from.ensures ∙ e), l.invariant.2 k (omega arith)),
    )
