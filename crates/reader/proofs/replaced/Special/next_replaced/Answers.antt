-- The list and the set of a context have the same bytes, those that begin its replaced characters.
-- Assumes nothing.
use Rattle.std.proofs.Common.{rules, sym, ◌∙◌}
use Rattle.reader.proofs.replaced.Special.next_replaced.Goals as goal

pub next_replaced-requires : goal.next_replaced-requires
next_replaced-requires c = let s = c.args.self.now in (λ b h. s.kept b h ∙ sym (s.listed b h), search rules)
