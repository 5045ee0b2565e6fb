-- `names_written::choice::put_from_2300` meets its contract: the name is in the table of the range that the character is in, and there is none outside of
-- all ranges.
-- Made by tools/make_names.py. Assumes nothing.
use mathlib.Core.Bool.{false}
use mathlib.Core.Path.{◌≡◌, refl, sym, ◌∙◌}
use mathlib.Core.List.{[], ◌∷◌}
use native.Mathlib.Omega.{arith}
use Rattle.rules.specs.Bytes.{inside}
use Rattle.rules.specs.Names.{names}
use Rattle.names_written.proofs.Named.{among, none-outside}
use Rattle.names_written.proofs.choice.put_from_2300.Goals as goal

pub from_2305-requires : goal.from_2305-requires
from_2305-requires c =
    let (l, h) = among c.is_among.result 0x2305 0x24C8 c.args.code c.is_among.ensures c.if-is_among.true in
    (l, h, c.requires.2)

pub from_2500-requires : goal.from_2500-requires
from_2500-requires c =
    let (l, h) = among c.is_among-2.result 0x2500 0x25FC c.args.code c.is_among-2.ensures c.if-is_among-2.true in
    (l, h, c.requires.2)

pub from_2605-requires : goal.from_2605-requires
from_2605-requires c =
    let (l, h) = among c.is_among-3.result 0x2605 0x27FF c.args.code c.is_among-3.ensures c.if-is_among-3.true in
    (l, h, c.requires.2)

pub returns : goal.returns
unfolding names
returns c =
    let code = c.args.code in
    let h = c.requires in
    let e1 : inside (0x2305, 0x24C8) code ≡ false = sym c.is_among.ensures ∙ c.if-is_among.false in
    let e2 : inside (0x2500, 0x25FC) code ≡ false = sym c.is_among-2.ensures ∙ c.if-is_among-2.false in
    let e3 : inside (0x2605, 0x27FF) code ≡ false = sym c.is_among-3.ensures ∙ c.if-is_among-3.false in
    let none = none-outside (0x2300, 0x27FF) ((0x2305, 0x24C8) ∷ (0x2500, 0x25FC) ∷ (0x2605, 0x27FF) ∷ []) tt code h.0 h.1 (omega (arith, h)) (rw (e1, e2, e3) refl) in
    (rw none (refl, refl), omega arith)
