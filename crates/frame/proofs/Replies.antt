-- The numbers of every answer fit a reply: a status is at most 10 and a reason at most 5, and a place is within a text that is not too long.
-- Assumes nothing.
use mathlib.Core.Bool.{Bool, true, false, ◌&&◌, cond}
use mathlib.Core.Option.{Option, none, some}
use mathlib.Core.Path.{◌≡◌, refl}
use mathlib.Core.List.{List, [], ◌∷◌}
use Prim.Native.Nat.{ℕ, ◌≤◌, ◌<◌}
use native.Mathlib.Omega.{arith}
use borrow.Author.Tests.{ltb-true, ltb-false}
use lib.Dec.{ltb, eqb}
use lib.ListN.{length as size, drop}
use Rattle.rules.specs.Moves.{Move, Rule, result, replaced, place, through, why_at, reason_number, first_of, lefts}
use Rattle.rules.specs.Utf8.{valid_to, is_cut}
use Rattle.rules.specs.Refusals.{case_by, answer_at, text_limit, answer_by}
use Rattle.rules.specs.declared.Reason.{Reason}
use Rattle.rules.specs.declared.Reason.TheVariants.{NoEnd, Empty, UnknownName, NoDigit, NotAllowed}
use Rattle.rules.proofs.Refused.{chosen}
use Rattle.rules.specs.declared.Answer.{Answer}
use Rattle.std.specs.Prelude.{Result, Ok, Err, MatchResult}
use Rattle.frame.specs.Refused.{refused, answer_in}
use Rattle.frame.specs.Replies.{Small}
use Rattle.frame.specs.declared.refusals.Refusal.{Refusal}

reason-small : (ls : List (ℕ × Reason)) → (first_of ls).1 < 0x100
reason-small [] = omega arith
reason-small (l ∷ ls) = go l.1
  where
    go : (r : Reason) → reason_number r < 0x100
    go NoEnd = omega arith
    go Empty = omega arith
    go UnknownName = omega arith
    go NoDigit = omega arith
    go NotAllowed = omega arith

same-small : (b : Bool) → ◌≡◌ {A = ℕ} (cond b 1 0) (cond (eqb (cond b 1 0) 1) 1 0)
same-small true = refl
same-small false = refl

module _ (t : List ℕ) (ms : List Move) where
  -- By the tests of the table: whether the text is too long, how far it is valid, whether it is cut, how far it is read, and the rest.
  rows : (long invalid cut unread half lends narrow : Bool) → (long ≡ false → size t ≤ text_limit) → (invalid ≡ true → valid_to t < size t) → (unread ≡ true → place ms < size t)
      → Small (answer_at (chosen long invalid cut unread half lends narrow) t ms)
  rows true invalid cut unread half lends narrow a b c = (omega arith, refl, omega arith, omega arith)
  rows false true true unread half lends narrow a b c = (omega arith, refl, omega (arith, a refl, b refl), omega arith)
  rows false true false unread half lends narrow a b c = (omega arith, refl, omega (arith, a refl, b refl), omega arith)
  rows false false cut true true lends narrow a b c = (omega arith, refl, omega (arith, a refl, c refl), omega arith)
  rows false false cut true false lends narrow a b c = (omega arith, refl, omega (arith, a refl, c refl), omega arith)
  rows false false cut false half true narrow a b c = (omega arith, refl, omega arith, reason-small (lefts ms))
  rows false false cut false half false true a b c = (omega arith, refl, omega arith, omega arith)
  rows false false cut false half false false a b c = (omega arith, same-small (eqb (replaced ms) 0), omega arith, reason-small (lefts ms))

pub answer-small : (by : Option Rule) (borrows : Bool) (t out : List ℕ) → Small (answer_by by borrows t out)
unfolding case_by
answer-small none borrows t out = (omega arith, refl, omega arith, omega arith)
answer-small (some rule) borrows t out =
    rows t (through rule t) (ltb text_limit (size t)) (ltb (valid_to t) (size t)) (is_cut (drop (valid_to t) t)) (ltb (place (through rule t)) (size t)) (eqb (why_at rule t) 10)
    (borrows && eqb (replaced (through rule t)) 0) (ltb (size out) (size (result (through rule t))))
    (ltb-false text_limit (size t)) (ltb-true (valid_to t) (size t)) (ltb-true (place (through rule t)) (size t))

-- The answer of a call, where a refusal is told as one.
pub answered : (r : Result Answer Refusal) (a : Answer) → MatchResult r (λ x. a ≡ x) (λ why. a ≡ refused why) → a ≡ answer_in r
answered (Ok x) a h = h
answered (Err why) a h = h
