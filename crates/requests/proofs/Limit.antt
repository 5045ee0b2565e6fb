-- The program's limit of 8,192 bytes in a call whose own limit is 65,536: a text within the first is within both, and of a longer one the answer for
-- the empty text tells what is left to tell, whether the operation has the context.
-- Assumes nothing.
use mathlib.Core.Bool.{false}
use mathlib.Core.Option.{Option, none, some}
use mathlib.Core.Path.{◌≡◌, refl}
use mathlib.Core.List.{List, []}
use Prim.Native.Nat.{ℕ, ◌≤◌, ◌<◌}
use native.Mathlib.Omega.{arith}
use borrow.Author.Tests.{lt-ltb, le-ltb}
use lib.ListN.{length as size}
use Rattle.rules.specs.Moves.{Rule}
use Rattle.rules.specs.Refusals.{moves_of, case_by, text_limit, answer_at, out_at, answer_by, out_by}
use Rattle.requests.specs.Asked.{refused}

-- Within both limits.
pub limit-kept : (by : Option Rule) (t : List ℕ) (room : ℕ) → size t ≤ 8192 → case_by by false text_limit t room ≡ case_by by false 8192 t room
unfolding case_by
limit-kept none t room h = refl
limit-kept (some rule) t room h = rw (le-ltb 8192 (size t) h, le-ltb 65536 (size t) (omega arith))

-- Beyond the program's.
pub limit-passed : (by : Option Rule) (t out : List ℕ) → 8192 < size t
    → (refused (answer_by by false [] out) ≡ answer_at (case_by by false 8192 t (size out)) t (moves_of by t))
    × (out_by by false [] out ≡ out_at (case_by by false 8192 t (size out)) (moves_of by t) out)
unfolding case_by
limit-passed none t out h = (refl, refl)
limit-passed (some rule) t out h = rw (lt-ltb 8192 (size t) h, le-ltb (size out) 0 (omega arith)) (refl, refl)
