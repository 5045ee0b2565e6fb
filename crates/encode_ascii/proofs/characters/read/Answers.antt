-- `read` meets its contract.
-- Assumes nothing.
use Rattle.encode_ascii.proofs.Heads.{text_at}
use native.Mathlib.Omega.{arith}
use Rattle.encode_ascii.proofs.characters.read.Goals as goal

pub bounds-text-at-2 : goal.bounds-text-at-2
bounds-text-at-2 c = let h = text_at c.args.text.now c.args.at c.requires.0 c.requires.1 c.requires.2 in h.second.0

pub low_bits-second-requires : goal.low_bits-second-requires
low_bits-second-requires c = let h = text_at c.args.text.now c.args.at c.requires.0 c.requires.1 c.requires.2 in h.second.1

pub overflow_sub-result : goal.overflow_sub-result
overflow_sub-result c = let h = text_at c.args.text.now c.args.at c.requires.0 c.requires.1 c.requires.2 in omega (arith, h.least c.if-lead-lt224.true)

pub overflow_add-result : goal.overflow_add-result
overflow_add-result c = let h = text_at c.args.text.now c.args.at c.requires.0 c.requires.1 c.requires.2 in omega (arith, h.second.2, c.low_bits-second.ensures, c.if-lead-lt224.true)

pub returns-then-lead-lt224 : goal.returns-then-lead-lt224
returns-then-lead-lt224 c = let h = text_at c.args.text.now c.args.at c.requires.0 c.requires.1 c.requires.2 in h.reads_two c.if-lead-lt224.true _ (omega (arith, c.low_bits-second.ensures, h.second.1))

pub bounds-text-at-3 : goal.bounds-text-at-3
bounds-text-at-3 c = let h = text_at c.args.text.now c.args.at c.requires.0 c.requires.1 c.requires.2 in (h.third c.if-lead-lt224.false).0

pub low_bits-third-requires : goal.low_bits-third-requires
low_bits-third-requires c = let h = text_at c.args.text.now c.args.at c.requires.0 c.requires.1 c.requires.2 in (h.third c.if-lead-lt224.false).1

pub overflow_mul-result-then-lead-lt240-2 : goal.overflow_mul-result-then-lead-lt240-2
overflow_mul-result-then-lead-lt240-2 c = let h = text_at c.args.text.now c.args.at c.requires.0 c.requires.1 c.requires.2 in omega (arith, h.second.2, c.low_bits-second.ensures)

pub overflow_add-result-then-lead-lt240 : goal.overflow_add-result-then-lead-lt240
overflow_add-result-then-lead-lt240 c = let h = text_at c.args.text.now c.args.at c.requires.0 c.requires.1 c.requires.2 in omega (arith, h.second.2, c.low_bits-second.ensures, c.if-lead-lt240.true)

pub overflow_add-result-then-lead-lt240-2 : goal.overflow_add-result-then-lead-lt240-2
overflow_add-result-then-lead-lt240-2 c = let h = text_at c.args.text.now c.args.at c.requires.0 c.requires.1 c.requires.2 in omega (arith, h.second.2, (h.third c.if-lead-lt224.false).2, c.low_bits-second.ensures, c.low_bits-third.ensures, c.if-lead-lt240.true)

pub returns-then-lead-lt240 : goal.returns-then-lead-lt240
returns-then-lead-lt240 c = let h = text_at c.args.text.now c.args.at c.requires.0 c.requires.1 c.requires.2 in h.reads_three c.if-lead-lt224.false c.if-lead-lt240.true _ (omega (arith, c.low_bits-second.ensures, c.low_bits-third.ensures, h.second.1, (h.third c.if-lead-lt224.false).1))

pub bounds-text-at-4 : goal.bounds-text-at-4
bounds-text-at-4 c = let h = text_at c.args.text.now c.args.at c.requires.0 c.requires.1 c.requires.2 in (h.fourth c.if-lead-lt240.false).0

pub low_bits-fourth-requires : goal.low_bits-fourth-requires
low_bits-fourth-requires c = let h = text_at c.args.text.now c.args.at c.requires.0 c.requires.1 c.requires.2 in (h.fourth c.if-lead-lt240.false).1

pub overflow_cast-result-2 : goal.overflow_cast-result-2
overflow_cast-result-2 c = omega (arith, c.shared_slice_known-2-1.given c.args.at)

pub overflow_mul-result-2 : goal.overflow_mul-result-2
overflow_mul-result-2 c = let h = text_at c.args.text.now c.args.at c.requires.0 c.requires.1 c.requires.2 in omega (arith, (h.fourth c.if-lead-lt240.false).3)

pub overflow_mul-result-3 : goal.overflow_mul-result-3
overflow_mul-result-3 c = let h = text_at c.args.text.now c.args.at c.requires.0 c.requires.1 c.requires.2 in omega (arith, h.second.2, c.low_bits-second.ensures)

pub overflow_add-result-2 : goal.overflow_add-result-2
overflow_add-result-2 c = let h = text_at c.args.text.now c.args.at c.requires.0 c.requires.1 c.requires.2 in omega (arith, h.second.2, c.low_bits-second.ensures, (h.fourth c.if-lead-lt240.false).3)

pub overflow_mul-result-4 : goal.overflow_mul-result-4
overflow_mul-result-4 c = let h = text_at c.args.text.now c.args.at c.requires.0 c.requires.1 c.requires.2 in omega (arith, (h.third c.if-lead-lt224.false).2, c.low_bits-third.ensures)

pub overflow_add-result-3 : goal.overflow_add-result-3
overflow_add-result-3 c = let h = text_at c.args.text.now c.args.at c.requires.0 c.requires.1 c.requires.2 in omega (arith, h.second.2, (h.third c.if-lead-lt224.false).2, c.low_bits-second.ensures, c.low_bits-third.ensures, (h.fourth c.if-lead-lt240.false).3)

pub overflow_add-result-4 : goal.overflow_add-result-4
overflow_add-result-4 c = let h = text_at c.args.text.now c.args.at c.requires.0 c.requires.1 c.requires.2 in omega (arith, h.second.2, (h.third c.if-lead-lt224.false).2, (h.fourth c.if-lead-lt240.false).2, c.low_bits-second.ensures, c.low_bits-third.ensures, c.low_bits-fourth.ensures, (h.fourth c.if-lead-lt240.false).3)

pub returns : goal.returns
returns c = let h = text_at c.args.text.now c.args.at c.requires.0 c.requires.1 c.requires.2 in h.reads-four c.if-lead-lt240.false _ (omega (arith, c.low_bits-second.ensures, c.low_bits-third.ensures, c.low_bits-fourth.ensures, h.second.1, (h.third c.if-lead-lt224.false).1, (h.fourth c.if-lead-lt240.false).1))
