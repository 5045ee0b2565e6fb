-- `encode_strings::growth::weigh` meets its contract. The invariant: each sum so far, with that of the bytes from here on, is the whole sum. The measure is
-- what is left of the part.
-- Assumes nothing.
use mathlib.Core.Bool.{Bool, ◌||◌, cond}
use mathlib.Core.Path.{ap, ◌∙◌}
use native.Mathlib.Omega.{arith}
use Rattle.encode_strings.specs.Strings.{escaped_of, hexed_of, same_of}
use Rattle.encode_strings.proofs.Sums.{total-more, total-none}
use Rattle.encode_strings.proofs.growth.weigh.Goals as goal

pub loop-b-preserved : goal.loop-b-preserved
unfolding escaped_of hexed_of same_of
loop-b-preserved c =
    let second = c in
    let first = second in
    let tests = first in
    let test = tests in
    let l = test.loop-b in
    let a = test.args in
    let s = a.part.now in
    let h = test.loop-b-test.true in
    let slashed = tests.is_slashed.ensures in
    let hexed = tests.is_hexed-hex.ensures in
    let one = first.bit-escaped.ensures.0 ∙ (λ i. cond (slashed i || hexed i) 1 0) in
    let two = second.bit-hexed.ensures.0 ∙ ap (λ (x : Bool). cond x 1 0) hexed in (
      omega (arith, total-more (escaped_of a.single a.double) s l.b-index h, one),
      omega (arith, total-more hexed_of s l.b-index h, two),
      omega (arith, total-more (same_of a.odd) s l.b-index h, c.when-n.ensures.0),
      omega (arith, first.bit-escaped.ensures.1),
      omega (arith, second.bit-hexed.ensures.1),
      omega (arith, c.when-n.ensures.1),
    )

pub returns : goal.returns
returns c =
    let a = c.args in
    let l = c.loop-b in
    let s = a.part.now in
    let h = c.loop-b-test.false in record {
      escaped_value = (
        omega (arith, total-none (escaped_of a.single a.double) s l.b-index h),
        omega (arith, total-none hexed_of s l.b-index h),
        omega (arith, total-none (same_of a.odd) s l.b-index h),
      );
      escaped_in_bounds = (omega arith, omega arith);
    }
