-- `bits` meets its contract: twice the last bit still fits a word.
-- Assumes nothing.
use mathlib.Core.Path.{◌≡◌}
use Prim.Native.Nat.{◌%◌, ◌^◌}
use native.Mathlib.Omega.{arith}
use Rattle.reader.proofs.Characters.{bit-small, bit-some}
use Rattle.reader.proofs.replaced.bits.Goals as goal

pub overflow_add-result : goal.overflow_add-result
overflow_add-result c =
    let bit = c.bit-top in
    let a = c.args in
    let fits = c.ranges in
    let e : bit.result ≡ 2 ^ (a.last % 64) = bit.ensures in
    let f : c.bit.result ≡ 2 ^ (a.first % 64) = c.bit.ensures in
    omega (arith, e, f, bit-small a.last fits.last.fits, bit-some a.first fits.first.fits)
