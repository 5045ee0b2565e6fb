-- `next_halt` meets its contract: what has been passed so far has no such byte.
-- Assumes nothing.
use mathlib.Core.Path.{sym, ◌∙◌}
use Rattle.base.proofs.Firsts.{free_step}
use Rattle.read_ascii.specs.Units.{halt_at}
use Rattle.read_ascii.proofs.next_halt.Goals as goal

pub loop-i-preserved : goal.loop-i-preserved
loop-i-preserved c = free_step (halt_at c.args.text.now) c.args.from c.loop-i.i c.loop-i.invariant (sym c.is_halt.ensures ∙ c.if-is_halt.false)
