-- `find_near` meets its contract: the first eight bytes have none, or the first of them is the first place, and so have the next eight (Lowest).
-- Assumes nothing.
use Rattle.std.proofs.Common.{◌+◌, refl, arith}
use Rattle.base.proofs.Places.{nearest-after}
use Rattle.find_ascii.proofs.Lowest.{eight-near, eight-absent, eight-ascii}
use Rattle.find_ascii.proofs.find_near.Goals as goal

pub first_of_eight-requires : goal.first_of_eight-requires
first_of_eight-requires c = let t = c.args.text.now in (let q = eight-ascii t c.args.from (c.args.from + 8) refl (omega arith) c.requires.2 in (c.requires.0, q.0, q.1))

pub returns-in-Some : goal.returns-in-Some
returns-in-Some c = let a = c.args in (eight-near a.text.now a.from (a.from + 8) refl (omega arith) a.byte c.in-Some.j c.in-Some.ensures).0

pub first_of_eight-requires-then-text-from-ge16 : goal.first_of_eight-requires-then-text-from-ge16
first_of_eight-requires-then-text-from-ge16 c = let t = c.args.text.now in (let q = eight-ascii t (c.args.from + 8) (c.args.from + 16) (omega arith) (omega arith) c.requires.2 in (c.requires.0, q.0, q.1))

pub returns-in-Some-first_of_eight : goal.returns-in-Some-first_of_eight
returns-in-Some-first_of_eight c =
    let a = c.args in
    let j = c.in-Some-first_of_eight.j in
    nearest-after a.text.now a.from (a.from + 8) a.byte (a.from + 8 + j) (omega arith) (eight-absent a.text.now a.from (a.from + 8) refl (omega arith) a.byte c.in_default.ensures)
    (eight-near a.text.now (a.from + 8) (a.from + 16) (omega arith) (omega arith) a.byte j c.in-Some-first_of_eight.ensures).0
