-- What `view` returns: which of the two lent slices it is a part of, and its bytes.
-- Assumes nothing.
use Rattle.std.specs.Prelude.{cond, ◌≡◌, List, ℕ, eqb}
use Rattle.std.specs.Borrow.{Bor}
use Rattle.rules.specs.Refusals.{view_of}
use Rattle.rules.specs.declared.Answer.{Answer}

-- A lent slice of bytes: where it begins in memory (`ptr`), and its bytes (`now`).
abbrev pub Slice : Type 0
Slice = Bor (List ℕ)

-- The part r begins where the text begins if same is 1, and else where the output begins, and has the bytes of view_of.
abbrev pub Viewed : Slice → Slice → Answer → Slice → Type 0
Viewed text output a r = (r.ref_ptr ≡ cond (eqb a.same 1) text.ref_ptr output.ref_ptr) × (r.now ≡ view_of text.now output.now a.same a.length)
