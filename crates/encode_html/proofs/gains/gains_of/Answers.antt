-- The highest byte of a word is the length of what is written for the byte, which tells whether it grows.
-- Assumes nothing.
use native.Mathlib.Omega.{arith}
use Rattle.encode_html.proofs.Growth.{grows-is}
use Rattle.encode_html.proofs.gains.gains_of.Goals as goal

pub invariant_of-result : goal.invariant_of-result
invariant_of-result c =
    let s = c in
    let h = s.args.w.html in
    let gt = grows-is h 62 _ _ (omega arith) s.args.w.right.2 c.grows_to.ensures in
    let double = grows-is h 34 _ _ (omega arith) s.args.w.right.3 c.grows_to-2.ensures in
    let single = grows-is h 39 _ _ (omega arith) s.args.w.right.4 c.grows_to-3.ensures in
    let slash = grows-is h 47 _ _ (omega arith) s.args.w.right.5 c.grows_to-4.ensures in
    record { right = (s.args.w.right.0, s.args.w.right.1, gt, double, single, slash) }
