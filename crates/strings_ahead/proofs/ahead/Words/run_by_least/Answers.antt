-- `run_by_least` meets its contract: bytes that are far from all that is escaped are copied.
-- Assumes nothing.
use native.Mathlib.Omega.{arith}
use lib.ListN.{get_or}
use Rattle.strings_ahead.proofs.Reach.{far-copies}
use Rattle.strings_ahead.proofs.ahead.Words.run_by_least.Goals as goal

pub returns-then-least-gt0 : goal.returns-then-least-gt0
returns-then-least-gt0 c =
    let a = c.args in
    let q = c.requires in (
      omega arith,
      λ i l. far-copies a.self.now.notation a.self.now.quotes (get_or a.text.now i 0) (c.shared_slice_known-1.given i).fits (rw (a.self.now.single_right, a.self.now.double_right) at (c.least.ensures c.if-least-gt0.true i l)),
      λ h. absurd (omega arith),
    )
