-- `sequence` meets its contract: each test settles the length of the character at the head, by its first byte.
-- Assumes nothing.
use mathlib.Core.Bool.{true, false}
use mathlib.Core.Path.{sym, ◌∙◌}
use borrow.Author.Rules.{rules}
use lib.ListN.{get_or}
use Rattle.utf8.proofs.Chars.{lead-byte, size_none, size-one, size-no-start, size-short, size-more}
use Rattle.utf8.proofs.sequence.Goals as goal

pub returns-then-is_empty : goal.returns-then-is_empty
returns-then-is_empty c = size_none c.args.rest.now (search rules)

pub returns-then-a-lt128 : goal.returns-then-a-lt128
returns-then-a-lt128 c =
    let k = c in
    let s = k.args.rest.now in
    (sym (size-one s (search rules) (k.type_inv.rest 0).fits c.if-a-lt128.true), search rules, search rules)

pub returns-then-not-is_start : goal.returns-then-not-is_start
returns-then-not-is_start c =
    let f = c.is_start in
    let k = c in
    let s = k.args.rest.now in
    size-no-start s (search rules) (k.type_inv.rest 0).fits (sym f.ensures ∙ c.if-not-is_start.true)

pub lead_ones-n-requires : goal.lead_ones-n-requires
lead_ones-n-requires c =
    let f = c.is_start in
    let s = c.args.rest.now in
    lead-byte (get_or s 0 0) c.if-a-lt128.false (sym f.ensures ∙ c.if-not-is_start.false)

pub returns-then-rest-n : goal.returns-then-rest-n
returns-then-rest-n c =
    let f = c.is_start in
    let start = sym f.ensures ∙ c.if-not-is_start.false in
    let k = c in
    let s = k.args.rest.now in
    size-short s (search rules) (k.type_inv.rest 0).fits start (rw (← c.lead_ones-n.ensures.0) c.if-rest-n.true)

pub returns-then-has_tails : goal.returns-then-has_tails
returns-then-has_tails c =
    let f = c.is_start in
    let start = sym f.ensures ∙ c.if-not-is_start.false in
    let k = c in
    let s = k.args.rest.now in
    let n = c.lead_ones-n in
    let tails = sym c.has_tails.ensures ∙ c.if-has_tails.true in
    (sym (size-more s (search rules) (k.type_inv.rest 0).fits start n.result n.ensures.0 true tails), search rules, search rules)

pub returns : goal.returns
returns c =
    let f = c.is_start in
    let start = sym f.ensures ∙ c.if-not-is_start.false in
    let k = c in
    let s = k.args.rest.now in
    let n = c.lead_ones-n in
    let tails = sym c.has_tails.ensures ∙ c.if-has_tails.false in
    size-more s (search rules) (k.type_inv.rest 0).fits start n.result n.ensures.0 false tails
