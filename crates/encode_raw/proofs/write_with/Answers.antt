-- `encode_raw::write_with` meets its contract: what is written for a text without `<` is the text.
-- Assumes nothing.
use mathlib.Core.Path.{sym, ap}
use native.Mathlib.Omega.{arith}
use lib.ListN.{length}
use lib.Seq.{length-take-le}
use borrow.Author.Rules.{rules}
use Rattle.encode_raw.proofs.Cuts.{clear-moves}
use Rattle.encode_raw.proofs.write_with.Goals as goal

pub slice_bounds-put-end : goal.slice_bounds-put-end
slice_bounds-put-end c = sym (length-take-le _ _ (search rules))

pub put-requires : goal.put-requires
put-requires c =
    let s = c in
    let e = ap length (clear-moves s.args.text.now s.args.end s.requires.0 (s.requires.2 c.if-clear.true)) in
    omega (arith, e, s.requires.1)

pub returns-then-clear : goal.returns-then-clear
returns-then-clear c =
    let s = c in
    rw (clear-moves s.args.text.now s.args.end s.requires.0 (s.requires.2 c.if-clear.true)) c.put.ensures

pub write_to-requires : goal.write_to-requires
write_to-requires c = (c.requires.0, c.requires.1)

pub returns : goal.returns
returns c = c.write_to.ensures
