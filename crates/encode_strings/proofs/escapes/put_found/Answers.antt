-- `put_found` meets its contract: one case for each replacement, each a copy of the bytes that it gives.
-- Assumes nothing.
use lib.ListN.{get_or}
use Rattle.encode_strings.proofs.Finds.{held-some, separator-value}
use Rattle.encode_strings.proofs.escapes.put_found.Goals as goal

pub bounds-rest-0 : goal.bounds-rest-0
bounds-rest-0 c =
    let a = c.args in
    let pre = c.requires in
    held-some a.found a.rest.now pre.0

pub put-requires : goal.put-requires
put-requires c = rw c.in-Slashed.is at c.requires.1

pub put_hex-requires : goal.put_hex-requires
put_hex-requires c = rw c.in-Hex.is at c.requires.1

pub put-requires-in-Separator : goal.put-requires-in-Separator
put-requires-in-Separator c =
    let c₁ = c in
    let c₂ = c₁ in
    let h = rw c₁.in-Separator.is at c₂.requires.0 in
    rw (c₁.in-Separator.is, separator-value (get_or c₂.args.rest.now 2 0) h.1 h.2) at c₂.requires.1

pub put-requires-in-Substitute : goal.put-requires-in-Substitute
put-requires-in-Substitute c = rw c.in-Substitute.is at c.requires.1

pub returns-in-Slashed : goal.returns-in-Slashed
returns-in-Slashed c = rw c.in-Slashed.is c.put.ensures

pub returns-in-Hex : goal.returns-in-Hex
returns-in-Hex c = rw c.in-Hex.is c.put_hex.ensures

pub returns-in-Separator : goal.returns-in-Separator
returns-in-Separator c =
    let c₁ = c in
    let c₂ = c₁ in
    let h = rw c₁.in-Separator.is at c₂.requires.0 in
    rw (c₁.in-Separator.is, separator-value (get_or c₂.args.rest.now 2 0) h.1 h.2) c.put-in-Separator.ensures

pub returns-in-Substitute : goal.returns-in-Substitute
returns-in-Substitute c = rw c.in-Substitute.is c.put-in-Substitute.ensures
