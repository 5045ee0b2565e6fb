-- `pass` meets its contract. The invariant: what is left to cut is what is left from place i on, and every byte before is a letter or digit.
-- Assumes nothing.
use Rattle.std.proofs.Common.{true, ◌+◌, sym, ap, ◌∙◌, rules}
use Rattle.std.specs.Slice.Iter.{chunks_exact_rest, chunks_exact_size}
use Rattle.base.proofs.Filled.{lent-rest}
use Rattle.base.proofs.Firsts.{free-start, free-join}
use Rattle.base.proofs.Part.{cut-rest, cut-within}
use Rattle.plain.specs.Plain.{special_at}
use Rattle.read_unquoted.proofs.Letters.{letters-cut}
use Rattle.read_unquoted.proofs.walk.pass.Goals as goal

pub loop-block-init : goal.loop-block-init
loop-block-init c =
    let e = c.into_iter-block-iterator.ensures.into_iter_gives in
    let s = c.chunks_exact-block-items.ensures in
    (ap chunks_exact_size e ∙ s.size, sym (ap chunks_exact_rest e ∙ s.rest ∙ lent-rest c.args.from c.args.text.now), search rules, search rules, free-start _ _)

pub loop-block-preserved : goal.loop-block-preserved
loop-block-preserved c =
    let l = c.loop-block in
    let t = c.args.text.now in
    let x = c.in-Some.block.now in
    let s = c.in-Some.ensures.steps in
    let e = l.invariant.1 ∙ s.1.0 in
    let n = s.1.1 ∙ l.invariant.0 in (
      s.0 ∙ l.invariant.0,
      cut-rest t x _ l.i 16 l.invariant.3 e n,
      search rules,
      cut-within t x _ l.i 16 l.invariant.3 e n,
      free-join (special_at true t) c.args.from l.i (l.i + 16) l.invariant.4 (letters-cut t x _ l.i 16 l.invariant.3 e n (c.oddest.ensures c.if-oddest-ne0.false)),
    )
