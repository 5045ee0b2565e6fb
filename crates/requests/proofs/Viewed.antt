-- What view gives after the call of a request is what the program prints: the result, or nothing after a refusal.
-- Assumes nothing.
use mathlib.Core.Bool.{Bool, true, false, cond}
use mathlib.Core.Path.{◌≡◌, refl, sym, ap, ◌∙◌, subst}
use mathlib.Core.List.{List, [], ◌++◌}
use Prim.Native.Nat.{ℕ, ◌≤◌, ◌<◌}
use native.Mathlib.Omega.{arith}
use borrow.Author.Tests.{le-leb, lt-leb}
use lib.ListN.{length as size}
use Rattle.rules.specs.Moves.{Move, result}
use Rattle.rules.specs.Contexts.{context_of}
use Rattle.rules.specs.Operations.{rule_of}
use Rattle.rules.specs.Refusals.{Call, Case, bad-context, too_long, not-utf8, cut_short, not-a-form, lone-surrogate, lent, no_room, written, Given, moves_in, case_of, answer_at, out_at, view_of}
use Rattle.rules.specs.Program.{shown, printed, printed_call}
use Rattle.rules.specs.declared.Answer.{Answer}
use Rattle.rules.specs.declared.Operation.{Operation}
use Rattle.rules.proofs.Refused.{case-given}
use Rattle.rules.proofs.Calls.{passed}
use Rattle.requests.specs.Asked.{asked, answer_to, output_of}
use Rattle.requests.proofs.Limit.{limit-kept}
use Rattle.requests.proofs.Parted.{printed-text}

true-false : false ≡ true → ⊥
true-false e = subst (λ (b : Bool). cond b ⊥ (Unit {0})) e tt

not-below : (a b : ℕ) → (b < a → ⊥) → a ≤ b
not-below a b h = omega arith

-- A refusal that names no length shows nothing.
nothing : (t out : List ℕ) → view_of t out 0 0 ≡ []
nothing t out = rw (le-leb 0 (size out) (omega arith))

module _ (o : Operation) (number : ℕ) (t out : List ℕ) where
  abbrev k : Call
  k = asked o number t (size out)

  abbrev ms : List Move
  ms = moves_in k

  abbrev Views : Case → Type 0
  Views row = view_of t (out_at row ms out) (answer_at row t ms).same (answer_at row t ms).length ≡ shown (answer_at row t ms) (result ms)

  -- The result, or nothing.
  viewed : view_of t (output_of k out) (answer_to k).same (answer_to k).length ≡ shown (answer_to k) (result ms)
  viewed = go (case_of k) refl (case-given k)
    where
      go : (row : Case) → case_of k ≡ row → Given k row → Views row
      go bad-context e h = nothing t out
      go too_long e h = nothing t out
      go not-utf8 e h = nothing t out
      go cut_short e h = nothing t out
      go not-a-form e h = nothing t out
      go lone-surrogate e h = nothing t out
      go lent e h = absurd (true-false h.0.0)
      go no_room e h = rw (lt-leb (size (result ms)) (size out) h.0)
      go written e h =
          let q = limit-kept (rule_of o (context_of number)) t (size out) (not-below (size t) 8192 h.1.1.0) ∙ e in
          subst (λ (row : Case). view_of t (out_at row ms out) (answer_at row t ms).same (answer_at row t ms).length ≡ result ms) q
          (passed o (context_of number) false t out (ap (λ (row : Case). (answer_at row t ms).status) q)).view

  -- It fits into the output of the call.
  shown-room : size (shown (answer_to k) (result ms)) ≤ size out
  shown-room = go (case_of k) (case-given k)
    where
      go : (row : Case) → Given k row → size (shown (answer_at row t ms) (result ms)) ≤ size out
      go bad-context h = omega arith
      go too_long h = omega arith
      go not-utf8 h = omega arith
      go cut_short h = omega arith
      go not-a-form h = omega arith
      go lone-surrogate h = omega arith
      go lent h = absurd (true-false h.0.0)
      go no_room h = omega arith
      go written h = not-below (size (result ms)) (size out) h.1.1.1.1.1.1.1.1.0

  -- What the program prints: the lines of the answer, and then what view gives.
  pub said : (a : Answer) (after view : List ℕ) → 60074 ≡ size out → a ≡ answer_to k → after ≡ output_of k out → view ≡ view_of t after a.same a.length
      → (printed_call (asked o number t 60074) ≡ printed a [] ++ view) × (size view ≤ 60074)
  said a after view r p q v =
      let w : view ≡ shown (answer_to k) (result ms) = v ∙ (λ i. view_of t (q i) (p i).same (p i).length) ∙ viewed in (
        ap (λ (m : ℕ). printed_call (asked o number t m)) r ∙ printed-text (answer_to k) (shown (answer_to k) (result ms)) ∙ (λ i. printed (sym p i) [] ++ sym w i),
        omega (arith, ap size w, shown-room, r),
      )
