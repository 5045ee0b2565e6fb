-- `encode_raw::skip_blocks` meets its contract. The invariant: no backslash goes in after a byte that is passed.
-- Assumes nothing.
use borrow.Author.Rules.{rules}
use Prim.Native.Nat.{◌+◌}
use Rattle.base.proofs.Firsts.{free-start, free-join}
use Rattle.encode_raw.specs.Cuts.{cut_at}
use Rattle.encode_raw.proofs.Cuts.{uncut-block}
use Rattle.encode_raw.proofs.skip_blocks.Goals as goal

pub loop-i-init : goal.loop-i-init
loop-i-init c = (search rules, search rules, free-start (cut_at c.args.text.now) c.args.from)

pub loop-i-preserved : goal.loop-i-preserved
loop-i-preserved c =
    let a = c.args in
    let l = c.loop-i in
    (search rules, search rules, free-join (cut_at a.text.now) a.from l.i (l.i + 16) l.invariant.2 (uncut-block a.text.now l.i (search rules) (c.has_suspect.ensures c.if-has_suspect.false)))
