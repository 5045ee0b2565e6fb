-- `walk` meets its contract: before the first in what is left that is none, all are letters and digits.
-- Assumes nothing.
use Rattle.std.proofs.Common.{◌≡◌, ℕ, true, false, not, rules}
use borrow.Author.Tests.{tests}
use Rattle.std.proofs.lemmas.Iterator.{IsFirst-from_position, YieldsList-from_slice}
use Rattle.rules.specs.Tables.{letter_or_digit}
use Rattle.read_unquoted.proofs.Letters.{letters-found, letters_all}
use Rattle.read_unquoted.proofs.walk.walk.Goals as goal

pub returns-in-Some : goal.returns-in-Some
returns-in-Some c =
    letters-found c.args.text.now c.args.from c.requires c.in-Some.k
    (IsFirst-from_position _ _ _ (λ (b : ℕ). not (letter_or_digit b) ≡ true) (λ (b : ℕ). not (letter_or_digit b) ≡ false) c.in-Some.ensures.ran (YieldsList-from_slice _ c.iter.ensures.rest) (λ x q k. search (rules, tests)) (λ x q k. search (rules, tests)))

pub returns-in-None : goal.returns-in-None
returns-in-None c =
    letters_all c.args.text.now c.args.from c.requires
    (IsFirst-from_position _ _ _ (λ (b : ℕ). not (letter_or_digit b) ≡ true) (λ (b : ℕ). not (letter_or_digit b) ≡ false) c.in-None.ensures.ran (YieldsList-from_slice _ c.iter.ensures.rest) (λ x q k. search (rules, tests)) (λ x q k. search (rules, tests)))
