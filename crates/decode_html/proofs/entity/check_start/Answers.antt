-- By the byte after the `&`: without one, or before another `&`, there is no body, and the empty body is no name.
-- Assumes nothing.
use Prim.Native.Nat.{◌+◌}
use borrow.Author.Rules.{rules}
use lib.ListN.{drop_of_length-le}
use Rattle.decode_html.proofs.Readings.{stays-nobody, stays-amp, stays-empty}
use Rattle.decode_html.proofs.entity.check_start.Goals as goal

pub returns-in-None : goal.returns-in-None
returns-in-None c = stays-nobody c.args.text.now c.args.start c.requires.0 c.requires.1 (rw (drop_of_length-le c.args.text.now {i = c.args.start + 1} (search rules)))

pub returns-in-Some-eq38 : goal.returns-in-Some-eq38
returns-in-Some-eq38 c = stays-amp c.args.text.now c.args.start c.requires.0 c.requires.1 (search rules) (search rules)

pub returns-in-Some-eq59 : goal.returns-in-Some-eq59
returns-in-Some-eq59 c = stays-empty c.args.text.now c.args.start c.requires.0 c.requires.1 (search rules) (search rules)
