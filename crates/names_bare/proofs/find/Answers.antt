-- `names_bare::find` meets its contract: a text of fewer than two bytes begins with no name, and one whose first two begin none neither.
-- Assumes nothing.
use native.Mathlib.Omega.{arith}
use Rattle.names_bare.proofs.Words.{spelled-two, unbegun}
use Rattle.names_bare.proofs.Heads.{at_least, stands-within}
use Rattle.names_bare.proofs.find.Goals as goal

pub returns-in_default : goal.returns-in_default
returns-in_default c =
    let t = c.args.text.now in
    λ name i s. let h = at_least name i in let k = stands-within name t s in let l = c.in_default.len_below in omega (arith, h, k, l)

-- The first two bytes, as one number.
pub find_from-requires : goal.find_from-requires
find_from-requires c =
    let t = c.args.text.now in
    spelled-two t c.from.result c.from-2.result c.in-len2-up.len_at_least c.from.ensures c.from-2.ensures
    (omega (arith, c.from.ensures, c.type_inv.text 0)) (omega (arith, c.from-2.ensures, c.type_inv.text 1))

pub returns-then-not-begins : goal.returns-then-not-begins
returns-then-not-begins c =
    let t = c.args.text.now in
    let two = spelled-two t c.from.result c.from-2.result c.in-len2-up.len_at_least c.from.ensures c.from-2.ensures
    (omega (arith, c.from.ensures, c.type_inv.text 0)) (omega (arith, c.from-2.ensures, c.type_inv.text 1)) in
    λ name i s. unbegun t _ two (c.begins.ensures c.if-not-begins.true) name i (at_least name i) s
