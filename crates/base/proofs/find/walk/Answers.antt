-- `crate::find::walk` meets its contract: the first in what is left is the first from there on.
-- Assumes nothing.
use Rattle.std.proofs.Common.{rules, ◌≡◌, ◌≢◌, ℕ}
use borrow.Author.Tests.{tests}
use Rattle.std.proofs.lemmas.Iterator.{IsFirst-from_position, YieldsList-from_slice}
use Rattle.base.proofs.Places.{nearest-found, nearest-none}
use Rattle.base.proofs.find.walk.Goals as goal

pub returns-in-Some : goal.returns-in-Some
returns-in-Some c =
    nearest-found c.args.text.now c.args.from c.args.byte c.requires c.in-Some.k
    (IsFirst-from_position _ _ _ (λ (b : ℕ). b ≡ c.args.byte) (λ (b : ℕ). b ≢ c.args.byte) c.in-Some.ensures.ran (YieldsList-from_slice _ c.iter.ensures.rest) (λ x q k. search (rules, tests)) (λ x q k. search (rules, tests)))

pub returns-in-None : goal.returns-in-None
returns-in-None c =
    nearest-none c.args.text.now c.args.from c.args.byte c.requires
    (IsFirst-from_position _ _ _ (λ (b : ℕ). b ≡ c.args.byte) (λ (b : ℕ). b ≢ c.args.byte) c.in-None.ensures.ran (YieldsList-from_slice _ c.iter.ensures.rest) (λ x q k. search (rules, tests)) (λ x q k. search (rules, tests)))
