-- What a quick reader tells of a text settles the row of the refusal table, and with it answer and output.
-- Assumes nothing.
use mathlib.Core.Bool.{Bool, true, false, ◌&&◌}
use mathlib.Core.Path.{◌≡◌, refl, sym, ap, subst}
use mathlib.Core.List.{List}
use Prim.Native.Nat.{ℕ, ◌≤◌, ◌<◌}
use native.Mathlib.Omega.{arith}
use borrow.Author.Tests.{ne_eqb}
use lib.Dec.{eqb}
use lib.ListN.{length as size}
use Rattle.rules.specs.Bytes.{over}
use Rattle.rules.specs.Moves.{Rule, result, replaced, taken, first_of, through}
use Rattle.rules.specs.Answers.{Measures, whole as whole_of}
use Rattle.std.specs.Prelude.{None}
use Rattle.rules.specs.Reading.{read_step}
use Rattle.rules.specs.Refusals.{refusal, success}
use Rattle.rules.specs.declared.Answer.{Answer}
use Rattle.rules.specs.declared.Context.{Context}
use Rattle.rules.proofs.Reasons.{no-lefts, read-leaveless}
use Rattle.outcomes.specs.Outcomes.{Whole}
use Rattle.jobs.specs.Jobs.{rule_by, Same, Leaves}
use Rattle.jobs.specs.declared.job.Job.{Job}
use Rattle.jobs.specs.declared.job.Job.TheVariants.{Read}
use Rattle.jobs.proofs.Found.{job-whole}
use Rattle.frame.proofs.Rows.{room_row, written_row}

-- What a call leaves, where the output was as it is at the start.
pub leaves_at_lem : (rule : Rule) (borrows : Bool) (t : List ℕ) {now out last : List ℕ} {a : Answer} → now ≡ out → Leaves rule borrows t now a last → Leaves rule borrows t out a last
leaves_at_lem rule borrows t {now} {out} {last} {a} e l = subst (λ (out : List ℕ). Leaves rule borrows t out a last) e l

module _ (job : Job) (c : Context) (is : job ≡ Read c) (t : List ℕ) (w : Whole (through (read_step c) t) t) where
  whole : taken (through (read_step c) t) ≡ t
  unfolding rule_by
  whole = job-whole (Read c) t (omega (arith, w.2))

  -- Nothing is replaced.
  pub quick-same : replaced (through (read_step c) t) ≡ 0 → Same (rule_by job) t None
  unfolding rule_by
  quick-same z =
      subst (λ (job : Job). Same (rule_by job) t None) (sym is)
      (record {
        short = w.0;
        valid = w.1;
        whole = whole;
        none = z;
        first = sym (ap first_of (no-lefts (read_step c) (read-leaveless c) 0 0 0 t));
      })

  module _ (n : replaced (through (read_step c) t) ≡ 0 → ⊥) where
    -- Where something is replaced, a borrowing call copies too.
    copies : (borrows : Bool) → borrows && eqb (replaced (through (read_step c) t)) 0 ≡ false
    copies true = ne_eqb (replaced (through (read_step c) t)) 0 n
    copies false = refl

    -- The result has no room,
    pub quick-room : (borrows : Bool) (out : List ℕ) (k : ℕ) → k ≡ size (result (through (read_step c) t)) → size out < k
        → Leaves (rule_by job) borrows t out (refusal 3 k 0) out
    unfolding rule_by
    quick-room borrows out k e l =
        subst (λ (job : Job). Leaves (rule_by job) borrows t out (refusal 3 k 0) out) (sym is)
        (room_row (read_step c) borrows t out w.0 w.1 whole (copies borrows) k e l)

    -- or it is written.
    pub quick-written : (borrows : Bool) (out : List ℕ) (k r : ℕ) → Measures (whole_of k (size t) r) (through (read_step c) t)
        → size (result (through (read_step c) t)) ≤ size out
        → Leaves (rule_by job) borrows t out (success k r (0, 0)) (over (result (through (read_step c) t)) out)
    unfolding rule_by
    quick-written borrows out k r m l =
        subst (λ (job : Job). Leaves (rule_by job) borrows t out (success k r (0, 0)) (over (result (through (read_step c) t)) out)) (sym is)
        (written_row (read_step c) borrows t out w.0 w.1 whole (copies borrows) (whole_of k (size t) r) m l)
