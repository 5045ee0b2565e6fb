-- `write_escape` meets its contract: the word of a byte is what is written for it, and what does not count of it is spilt.
-- Assumes nothing.
use mathlib.Core.Path.{◌∙◌}
use native.Mathlib.Omega.{arith}
use lib.ListN.{take, get_or}
use borrow.Author.Rules.{rules}
use Rattle.rules.specs.Operations.{encode_of}
use Rattle.rules.specs.Contexts.{written_in}
use Rattle.base.proofs.Spilt.{put-spills}
use Rattle.strings_ahead.proofs.Turns.{as_long_lem, reached-escape, word-spills}
use Rattle.strings_ahead.proofs.ahead.Words.write_escape.Goals as goal

pub returns-then-b : goal.returns-then-b
returns-then-b c =
    let a = c.args in
    let x = c.write_lead in record { reached = x.ensures.reached; spills = rw x.ensures.output_after (put-spills 16 (take x.result.length (encode_of (written_in a.self.now.notation a.self.now.quotes) a.text.now)) a.output.now) }

pub overflow_cast-b : goal.overflow_cast-b
overflow_cast-b c = let byte = (c.shared_slice_known-1.given 0).fits in search rules

pub offset_bounds-self-b : goal.offset_bounds-self-b
offset_bounds-self-b c = let byte = (c.shared_slice_known-1.given 0).fits in search rules

pub bounds-self-b : goal.bounds-self-b
bounds-self-b c = let byte = (c.shared_slice_known-1.given 0).fits in search rules

pub store-requires : goal.store-requires
store-requires c =
    let a = c.args in
    let pre = c.requires in
    omega (arith, pre.text_eight.0, pre.text_in_bounds, as_long_lem a.self.now.notation a.self.now.quotes a.text.now)

pub returns : goal.returns
returns c =
    let a = c.args in
    let pre = c.requires in
    let t = a.text.now in
    let l = (c.shared_slice_known-1.given 0).fits in
    let r = reached-escape a.self.now.notation a.self.now.quotes t (omega (arith, pre.text_eight.0)) l c.if-b.false pre.text_eight.1 in
    let p = c.store in
    let w = word-spills a.self.now.notation a.self.now.quotes (get_or t 0 0) _ a.output.now l c.if-b.false (a.self.now.table_right _ l) in
    rw (c.whole.ensures, p.ensures.0 ∙ w.0, r.1, p.ensures.1) (record { reached = (r.0, omega arith, omega arith, omega arith); spills = w.1 })
