-- `names_search::Table::find` meets its contract: the rows that the loop has passed are not the name's.
-- Assumes nothing.
use Rattle.names_search.proofs.Scanning.{Scanned}
use Rattle.names_search.proofs.Table.find.Given as goal

abbrev pub invariant-loop-length : goal.invariant-loop-length
invariant-loop-length l = Scanned l.name l.self.names.now l.self.lengths.now l.self.values.now l.rest l.length-iterator.a.rest.now l.length-iterator.b.rest.now
