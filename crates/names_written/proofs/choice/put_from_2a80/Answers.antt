-- `names_written::choice::put_from_2a80` meets its contract: the name is in the table of the range that the character is in, and there is none outside of
-- all ranges.
-- Made by tools/make_names.py. Assumes nothing.
use mathlib.Core.Bool.{false}
use mathlib.Core.Path.{◌≡◌, refl, sym, ◌∙◌}
use mathlib.Core.List.{[], ◌∷◌}
use native.Mathlib.Omega.{arith}
use Rattle.rules.specs.Bytes.{inside}
use Rattle.rules.specs.Names.{names}
use Rattle.names_written.proofs.Named.{among, none-outside}
use Rattle.names_written.proofs.choice.put_from_2a80.Goals as goal

pub from_2a80-requires : goal.from_2a80-requires
from_2a80-requires c =
    let (l, h) = among c.is_among.result 0x2A80 0x2AFD c.args.code c.is_among.ensures c.if-is_among.true in
    (l, h, c.requires.2)

pub from_fb00-requires : goal.from_fb00-requires
from_fb00-requires c =
    let (l, h) = among c.is_among-2.result 0xFB00 0xFB04 c.args.code c.is_among-2.ensures c.if-is_among-2.true in
    (l, h, c.requires.2)

pub from_1d49c-requires : goal.from_1d49c-requires
from_1d49c-requires c =
    let (l, h) = among c.is_among-3.result 0x1D49C 0x1D56B c.args.code c.is_among-3.ensures c.if-is_among-3.true in
    (l, h, c.requires.2)

pub returns : goal.returns
unfolding names
returns c =
    let code = c.args.code in
    let h = c.requires in
    let e1 : inside (0x2A80, 0x2AFD) code ≡ false = sym c.is_among.ensures ∙ c.if-is_among.false in
    let e2 : inside (0xFB00, 0xFB04) code ≡ false = sym c.is_among-2.ensures ∙ c.if-is_among-2.false in
    let e3 : inside (0x1D49C, 0x1D56B) code ≡ false = sym c.is_among-3.ensures ∙ c.if-is_among-3.false in
    let none = none-outside (0x2A80, 0x10FFFF) ((0x2A80, 0x2AFD) ∷ (0xFB00, 0xFB04) ∷ (0x1D49C, 0x1D56B) ∷ []) tt code h.0 h.1 (omega (arith, h)) (rw (e1, e2, e3) refl) in
    (rw none (refl, refl), omega arith)
