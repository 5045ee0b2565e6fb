-- `names_written::table::from_2605` meets its contract: computed, its numbers are the names of the rule.
-- Made by tools/make_names.py. Assumes nothing.
use native.Mathlib.Omega.{arith}
use Rattle.rules.specs.Names.{names}
use Rattle.names_written.specs.Ties.{is_tied}
use Rattle.names_written.proofs.Named.{in_table, in-unicode}
use Rattle.names_written.proofs.table.from_2605.Goals as goal

pub put_named-requires : goal.put_named-requires
unfolding is_tied names
put_named-requires c =
    let h = c.requires in
    (h.0, in_table c.args.code 0x2605 0x27FF 508 h.0 h.1 (omega arith), in-unicode c.args.code 0x27FF h.1 (omega arith), h.2, tt)

pub returns : goal.returns
returns c = c.put_named.ensures
