-- `valid_to` meets its contract: a text of bytes below 128 is valid to its end.
-- Assumes nothing.
use mathlib.Core.Path.{sym}
use Rattle.utf8.proofs.Texts.{ascii-valid}
use Rattle.jobs.proofs.work.valid_to.Goals as goal

pub returns-then-high-eq0 : goal.returns-then-high-eq0
returns-then-high-eq0 c = sym (ascii-valid c.args.text.now (c.requires c.if-high-eq0.true))
