-- The words of the bytes so far stand in the table.
-- Assumes nothing.
use Rattle.std.proofs.Common.{◌≡◌, ℕ, ◌<◌, length, get_or}
use Rattle.base.specs.Words.{word_of}
use Rattle.encode_html.specs.Written.{written}
use Rattle.encode_html.proofs.words.table_of.Given as goal

abbrev pub invariant-loop-b : goal.invariant-loop-b
invariant-loop-b l = (length l.table ≡ 256) × ((k : ℕ) → k < l.b → get_or l.table k 0 ≡ word_of (written l.w.html k))
