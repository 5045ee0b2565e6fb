-- `hits` meets its contract: a byte times the number of eight ones is the number of that byte eight times.
-- Assumes nothing.
use mathlib.Core.Path.{◌≡◌}
use Prim.Native.Nat.{suc, ◌+◌, ◌-◌, ◌*◌}
use native.Mathlib.Omega.{arith}
use lib.Bits.{bit_and, bit_xor}
use Rattle.find_ascii.specs.Words.{repeat}
use Rattle.find_ascii.proofs.hits.Goals as goal

pub returns : goal.returns
returns c =
    let a = c.args in
    let x : a.word + c.from.result * 0x0101010101010101 ≡ a.word + repeat (suc (127 - a.byte)) 8 = omega (arith, c.from.ensures, c.requires.0) in
    let y : a.word + c.from-2.result * 0x0101010101010101 ≡ a.word + repeat (127 - a.byte) 8 = omega (arith, c.from-2.ensures, c.requires.0) in
    λ j. bit_and (bit_xor (x j) (y j)) 0x8080808080808080
