-- `names_written::choice::put_from_80` meets its contract: the name is in the table of the range that the character is in, and there is none outside of
-- all ranges.
-- Made by tools/make_names.py. Assumes nothing.
use mathlib.Core.Bool.{false}
use mathlib.Core.Path.{◌≡◌, refl, sym, ◌∙◌}
use mathlib.Core.List.{[], ◌∷◌}
use native.Mathlib.Omega.{arith}
use Rattle.rules.specs.Bytes.{inside}
use Rattle.rules.specs.Names.{names}
use Rattle.names_written.proofs.Named.{among, none-outside}
use Rattle.names_written.proofs.choice.put_from_80.Goals as goal

pub from_a0-requires : goal.from_a0-requires
from_a0-requires c =
    let (l, h) = among c.is_among.result 0xA0 0xFF c.args.code c.is_among.ensures c.if-is_among.true in
    (l, h, c.requires.2)

pub from_100-requires : goal.from_100-requires
from_100-requires c =
    let (l, h) = among c.is_among-2.result 0x100 0x17E c.args.code c.is_among-2.ensures c.if-is_among-2.true in
    (l, h, c.requires.2)

pub from_192-requires : goal.from_192-requires
from_192-requires c =
    let (l, h) = among c.is_among-3.result 0x192 0x2DD c.args.code c.is_among-3.ensures c.if-is_among-3.true in
    (l, h, c.requires.2)

pub returns : goal.returns
unfolding names
returns c =
    let code = c.args.code in
    let h = c.requires in
    let e1 : inside (0xA0, 0xFF) code ≡ false = sym c.is_among.ensures ∙ c.if-is_among.false in
    let e2 : inside (0x100, 0x17E) code ≡ false = sym c.is_among-2.ensures ∙ c.if-is_among-2.false in
    let e3 : inside (0x192, 0x2DD) code ≡ false = sym c.is_among-3.ensures ∙ c.if-is_among-3.false in
    let none = none-outside (0x80, 0x2FF) ((0xA0, 0xFF) ∷ (0x100, 0x17E) ∷ (0x192, 0x2DD) ∷ []) tt code h.0 h.1 (omega (arith, h)) (rw (e1, e2, e3) refl) in
    (rw none (refl, refl), omega arith)
