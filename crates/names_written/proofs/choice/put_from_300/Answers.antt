-- `names_written::choice::put_from_300` meets its contract: the name is in the table of the range that the character is in, and there is none outside of
-- all ranges.
-- Made by tools/make_names.py. Assumes nothing.
use mathlib.Core.Bool.{false}
use mathlib.Core.Path.{◌≡◌, refl, sym, ◌∙◌}
use mathlib.Core.List.{[], ◌∷◌}
use native.Mathlib.Omega.{arith}
use Rattle.rules.specs.Bytes.{inside}
use Rattle.rules.specs.Names.{names}
use Rattle.names_written.proofs.Named.{among, none-outside}
use Rattle.names_written.proofs.choice.put_from_300.Goals as goal

pub from_311-requires : goal.from_311-requires
from_311-requires c =
    let (l, h) = among c.is_among.result 0x311 0x45F c.args.code c.is_among.ensures c.if-is_among.true in
    (l, h, c.requires.2)

pub from_2002-requires : goal.from_2002-requires
from_2002-requires c =
    let (l, h) = among c.is_among-2.result 0x2002 0x20DC c.args.code c.is_among-2.ensures c.if-is_among-2.true in
    (l, h, c.requires.2)

pub from_2102-requires : goal.from_2102-requires
from_2102-requires c =
    let (l, h) = among c.is_among-3.result 0x2102 0x215E c.args.code c.is_among-3.ensures c.if-is_among-3.true in
    (l, h, c.requires.2)

pub returns : goal.returns
unfolding names
returns c =
    let code = c.args.code in
    let h = c.requires in
    let e1 : inside (0x311, 0x45F) code ≡ false = sym c.is_among.ensures ∙ c.if-is_among.false in
    let e2 : inside (0x2002, 0x20DC) code ≡ false = sym c.is_among-2.ensures ∙ c.if-is_among-2.false in
    let e3 : inside (0x2102, 0x215E) code ≡ false = sym c.is_among-3.ensures ∙ c.if-is_among-3.false in
    let none = none-outside (0x300, 0x215F) ((0x311, 0x45F) ∷ (0x2002, 0x20DC) ∷ (0x2102, 0x215E) ∷ []) tt code h.0 h.1 (omega (arith, h)) (rw (e1, e2, e3) refl) in
    (rw none (refl, refl), omega arith)
