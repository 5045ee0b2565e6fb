-- `fill_page` meets its contract: its loop makes the turns of all records, which leave the page (Loop).
-- Assumes nothing.
use Rattle.std.proofs.Common.{◌≡◌}
use Rattle.page.specs.Turns.{after}
use Rattle.page.proofs.fill_page.Given as goal

abbrev pub invariant-loop-index : goal.invariant-loop-index
invariant-loop-index l =
    let p = after l.text l.fn.fields l.fn.output l.index in
    (l.fields ≡ p.fields) × (l.output ≡ p.output) × (l.filled ≡ p.filled) × (l.end ≡ p.end)
