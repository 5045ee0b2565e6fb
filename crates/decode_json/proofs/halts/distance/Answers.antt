-- `distance` meets its contract: the least of three numbers, computed for every byte.
-- Assumes nothing.
use mathlib.Core.Path.{sym, subst}
use borrow.Author.Rules.{rules}
use Rattle.decode_json.proofs.Contents.{Distant, distant}
use Rattle.decode_json.proofs.halts.distance.Goals as goal

pub returns : goal.returns
returns c = rw (c.min-2.ensures, c.min.ensures) (distant c.args.b (search rules))
