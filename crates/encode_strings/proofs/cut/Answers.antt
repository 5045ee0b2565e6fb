-- `encode_strings::cut` meets its contract: the end is that of the text, or E2 stands there, or neither of the two bytes before it is E2.
-- Assumes nothing.
use mathlib.Core.Logic.{inl, inr}
use Prim.Native.Nat.{◌+◌}
use borrow.Author.Rules.{rules}
use Rattle.encode_strings.proofs.Cuts.{two-before}
use Rattle.encode_strings.proofs.cut.Goals as goal

pub returns-then-text-at : goal.returns-then-text-at
returns-then-text-at c = (search rules, search rules, search rules, inl (search rules))

pub returns-then-text-end : goal.returns-then-text-end
returns-then-text-end c = (search rules, search rules, search rules, inr (inl c.if-text-end.true))

pub returns-then-text-end-2 : goal.returns-then-text-end-2
returns-then-text-end-2 c = (search rules, search rules, search rules, inr (inl c.if-text-end-2.true))

pub returns : goal.returns
returns c =
    let c₁ = c in
    (search rules, search rules, search rules, inr (inr (two-before c₁.args.text.now (c₁.args.at + c₁.args.step) c.if-text-end.false c.if-text-end-2.false)))
