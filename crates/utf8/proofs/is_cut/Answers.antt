-- `is_cut` meets its contract: the first byte says how long its character is, and what there is of it has to fill the first ranges.
-- Assumes nothing.
use mathlib.Core.Bool.{true}
use mathlib.Core.Path.{◌≡◌, sym, ap, ◌∙◌}
use Prim.Native.Nat.{ℕ, ◌-◌}
use borrow.Author.Rules.{rules}
use lib.ListN.{take, drop, get_or}
use Rattle.rules.specs.Bytes.{fits, inside}
use Rattle.utf8.specs.Check.{is_start, tails_of}
use Rattle.utf8.proofs.Chars.{lead-byte, cut-ascii, cut-no-start, cut-long, cut_short}
use Rattle.utf8.proofs.is_cut.Goals as goal
use Rattle.utf8.proofs.is_cut.Goals.{Else-not-is_start}

pub returns-then-a-lt128 : goal.returns-then-a-lt128
returns-then-a-lt128 c =
    let k = c in
    sym (cut-ascii k.args.rest.now (search rules) (k.type_inv.rest 0).fits c.if-a-lt128.true)

pub returns-then-not-is_start : goal.returns-then-not-is_start
returns-then-not-is_start c =
    let f = c.is_start in
    let k = c in
    sym (cut-no-start k.args.rest.now (search rules) (k.type_inv.rest 0).fits (sym f.ensures ∙ c.if-not-is_start.true))

-- Past the two tests of the first byte.

starts : (c : Else-not-is_start) → is_start (get_or c.args.rest.now 0 0) ≡ true
starts c = let f = c.is_start in sym f.ensures ∙ c.if-not-is_start.false

pub lead_ones-requires : goal.lead_ones-requires
lead_ones-requires c = lead-byte (get_or c.args.rest.now 0 0) c.if-a-lt128.false (starts (goal.at.lead_ones-requires c).Else-not-is_start)

pub returns-then-lead_ones-rest : goal.returns-then-lead_ones-rest
returns-then-lead_ones-rest c =
    let e = c in
    let k = e in
    sym (cut-long k.args.rest.now (search rules) (k.type_inv.rest 0).fits (starts (goal.at.returns-then-lead_ones-rest e).Else-not-is_start) (rw (← c.lead_ones.ensures.0) c.if-lead_ones-rest.true))

pub returns-then-rest-eq1 : goal.returns-then-rest-eq1
returns-then-rest-eq1 c =
    let l = c.lead_ones in
    let e = c in
    let k = e in
    let s = k.args.rest.now in
    sym
    (cut_short s (search rules) (k.type_inv.rest 0).fits (starts (goal.at.returns-then-rest-eq1 e).Else-not-is_start) (rw (← l.ensures.0) c.if-lead_ones-rest.false)
    ∙ ap (λ (n : ℕ). fits inside (take (n - 1) (tails_of (get_or s 0 0))) (drop 1 s)) c.if-rest-eq1.true)

pub returns : goal.returns
returns c =
    let l = c.lead_ones in
    let e = c in
    let k = e in
    let s = k.args.rest.now in
    c.has_tails.ensures ∙ sym (cut_short s (search rules) (k.type_inv.rest 0).fits (starts (goal.at.returns e).Else-not-is_start) (rw (← l.ensures.0) c.if-lead_ones-rest.false))
