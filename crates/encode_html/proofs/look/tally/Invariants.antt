-- The counts so far are the growth of the first bytes and how many of them are replaced, and with what is left they are the whole; no byte so far is
-- above the greatest.
-- Assumes nothing.
use Rattle.std.proofs.Common.{ℕ, ◌+◌, ◌*◌, ◌≤◌, ◌<◌, get_or}
use Rattle.encode_html.proofs.Growth.{Grown, Hit}
use Rattle.encode_html.proofs.look.tally.Given as goal

abbrev pub invariant-loop-b : goal.invariant-loop-b
invariant-loop-b l =
    Grown l.g.html l.part l.b-index (3 * l.threes + 4 * l.fours + 5 * l.fives) × Hit l.g.html l.part l.b-index (l.threes + l.fours + l.fives) × ((k : ℕ) → k < l.b-index → get_or l.part k 0 ≤ l.greatest)
