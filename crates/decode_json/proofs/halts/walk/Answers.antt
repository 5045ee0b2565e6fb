-- `walk` meets its contract: none of the bytes so far is such a byte.
-- Assumes nothing.
use mathlib.Core.Path.{sym, ◌∙◌}
use Rattle.base.proofs.Firsts.{free_step}
use Rattle.decode_json.specs.Escapes.{halt_at}
use Rattle.decode_json.proofs.halts.walk.Goals as goal

pub loop-i-preserved : goal.loop-i-preserved
loop-i-preserved c = free_step (halt_at c.args.text.now) c.args.from c.loop-i.i c.loop-i.invariant (sym c.is_halt.ensures ∙ c.if-is_halt.false)
