-- `names_search::listed::listed_value` meets its contract: each number of the table is one arm, and a number of none of them stands for none.
-- Made by tools/make_names.py. Assumes nothing.
use mathlib.Core.Path.{sym}
use mathlib.Core.List.{map}
use Prim.Native.Nat.{ℕ}
use Rattle.names_search.specs.Listed.{listed}
use Rattle.names_search.proofs.Arms.{rest-none, beside-out}
use Rattle.names_search.proofs.listed.listed_value.Goals as goal

pub returns-in-61440 : goal.returns-in-61440
unfolding listed
returns-in-61440 c = rw c.in-61440.is

pub returns-in-61441 : goal.returns-in-61441
unfolding listed
returns-in-61441 c = rw c.in-61441.is

pub returns-in-61442 : goal.returns-in-61442
unfolding listed
returns-in-61442 c = rw c.in-61442.is

pub returns-in-61443 : goal.returns-in-61443
unfolding listed
returns-in-61443 c = rw c.in-61443.is

pub returns-in-61444 : goal.returns-in-61444
unfolding listed
returns-in-61444 c = rw c.in-61444.is

pub returns-in-61445 : goal.returns-in-61445
unfolding listed
returns-in-61445 c = rw c.in-61445.is

pub returns-in-61446 : goal.returns-in-61446
unfolding listed
returns-in-61446 c = rw c.in-61446.is

pub returns-in-61447 : goal.returns-in-61447
unfolding listed
returns-in-61447 c = rw c.in-61447.is

pub returns-in-61448 : goal.returns-in-61448
unfolding listed
returns-in-61448 c = rw c.in-61448.is

pub returns-in-61449 : goal.returns-in-61449
unfolding listed
returns-in-61449 c = rw c.in-61449.is

pub returns-in-61450 : goal.returns-in-61450
unfolding listed
returns-in-61450 c = rw c.in-61450.is

pub returns-in-61451 : goal.returns-in-61451
unfolding listed
returns-in-61451 c = rw c.in-61451.is

pub returns-in-61452 : goal.returns-in-61452
unfolding listed
returns-in-61452 c = rw c.in-61452.is

pub returns-in-61453 : goal.returns-in-61453
unfolding listed
returns-in-61453 c = rw c.in-61453.is

pub returns-in-61454 : goal.returns-in-61454
unfolding listed
returns-in-61454 c = rw c.in-61454.is

pub returns-in-61455 : goal.returns-in-61455
unfolding listed
returns-in-61455 c = rw c.in-61455.is

pub returns-in-61456 : goal.returns-in-61456
unfolding listed
returns-in-61456 c = rw c.in-61456.is

pub returns-in-61457 : goal.returns-in-61457
unfolding listed
returns-in-61457 c = rw c.in-61457.is

pub returns-in-61458 : goal.returns-in-61458
unfolding listed
returns-in-61458 c = rw c.in-61458.is

pub returns-in-61459 : goal.returns-in-61459
unfolding listed
returns-in-61459 c = rw c.in-61459.is

pub returns-in-61460 : goal.returns-in-61460
unfolding listed
returns-in-61460 c = rw c.in-61460.is

pub returns-in-61461 : goal.returns-in-61461
unfolding listed
returns-in-61461 c = rw c.in-61461.is

pub returns-in-61462 : goal.returns-in-61462
unfolding listed
returns-in-61462 c = rw c.in-61462.is

pub returns-in-61463 : goal.returns-in-61463
unfolding listed
returns-in-61463 c = rw c.in-61463.is

pub returns-in-61464 : goal.returns-in-61464
unfolding listed
returns-in-61464 c = rw c.in-61464.is

pub returns-in-61465 : goal.returns-in-61465
unfolding listed
returns-in-61465 c = rw c.in-61465.is

pub returns-in-61466 : goal.returns-in-61466
unfolding listed
returns-in-61466 c = rw c.in-61466.is

pub returns-in-61467 : goal.returns-in-61467
unfolding listed
returns-in-61467 c = rw c.in-61467.is

pub returns-in-61468 : goal.returns-in-61468
unfolding listed
returns-in-61468 c = rw c.in-61468.is

pub returns-in-61469 : goal.returns-in-61469
unfolding listed
returns-in-61469 c = rw c.in-61469.is

pub returns-in-61470 : goal.returns-in-61470
unfolding listed
returns-in-61470 c = rw c.in-61470.is

pub returns-in-61471 : goal.returns-in-61471
unfolding listed
returns-in-61471 c = rw c.in-61471.is

pub returns-in-61472 : goal.returns-in-61472
unfolding listed
returns-in-61472 c = rw c.in-61472.is

pub returns-in-61473 : goal.returns-in-61473
unfolding listed
returns-in-61473 c = rw c.in-61473.is

pub returns-in-61474 : goal.returns-in-61474
unfolding listed
returns-in-61474 c = rw c.in-61474.is

pub returns-in-61475 : goal.returns-in-61475
unfolding listed
returns-in-61475 c = rw c.in-61475.is

pub returns-in-61476 : goal.returns-in-61476
unfolding listed
returns-in-61476 c = rw c.in-61476.is

pub returns-in-61477 : goal.returns-in-61477
unfolding listed
returns-in-61477 c = rw c.in-61477.is

pub returns-in-61478 : goal.returns-in-61478
unfolding listed
returns-in-61478 c = rw c.in-61478.is

pub returns-in-61479 : goal.returns-in-61479
unfolding listed
returns-in-61479 c = rw c.in-61479.is

pub returns-in-61480 : goal.returns-in-61480
unfolding listed
returns-in-61480 c = rw c.in-61480.is

pub returns-in-61481 : goal.returns-in-61481
unfolding listed
returns-in-61481 c = rw c.in-61481.is

pub returns-in-61482 : goal.returns-in-61482
unfolding listed
returns-in-61482 c = rw c.in-61482.is

pub returns-in-61483 : goal.returns-in-61483
unfolding listed
returns-in-61483 c = rw c.in-61483.is

pub returns-in-61484 : goal.returns-in-61484
unfolding listed
returns-in-61484 c = rw c.in-61484.is

pub returns-in-61485 : goal.returns-in-61485
unfolding listed
returns-in-61485 c = rw c.in-61485.is

pub returns-in-61486 : goal.returns-in-61486
unfolding listed
returns-in-61486 c = rw c.in-61486.is

pub returns-in-61487 : goal.returns-in-61487
unfolding listed
returns-in-61487 c = rw c.in-61487.is

pub returns-in-61488 : goal.returns-in-61488
unfolding listed
returns-in-61488 c = rw c.in-61488.is

pub returns-in-61489 : goal.returns-in-61489
unfolding listed
returns-in-61489 c = rw c.in-61489.is

pub returns-in-61490 : goal.returns-in-61490
unfolding listed
returns-in-61490 c = rw c.in-61490.is

pub returns-in-61491 : goal.returns-in-61491
unfolding listed
returns-in-61491 c = rw c.in-61491.is

pub returns-in-61492 : goal.returns-in-61492
unfolding listed
returns-in-61492 c = rw c.in-61492.is

pub returns-in-61493 : goal.returns-in-61493
unfolding listed
returns-in-61493 c = rw c.in-61493.is

pub returns-in-61494 : goal.returns-in-61494
unfolding listed
returns-in-61494 c = rw c.in-61494.is

pub returns-in-61495 : goal.returns-in-61495
unfolding listed
returns-in-61495 c = rw c.in-61495.is

pub returns-in-61496 : goal.returns-in-61496
unfolding listed
returns-in-61496 c = rw c.in-61496.is

pub returns-in-61497 : goal.returns-in-61497
unfolding listed
returns-in-61497 c = rw c.in-61497.is

pub returns-in-61498 : goal.returns-in-61498
unfolding listed
returns-in-61498 c = rw c.in-61498.is

pub returns-in-61499 : goal.returns-in-61499
unfolding listed
returns-in-61499 c = rw c.in-61499.is

pub returns-in-61500 : goal.returns-in-61500
unfolding listed
returns-in-61500 c = rw c.in-61500.is

pub returns-in-61501 : goal.returns-in-61501
unfolding listed
returns-in-61501 c = rw c.in-61501.is

pub returns-in-61502 : goal.returns-in-61502
unfolding listed
returns-in-61502 c = rw c.in-61502.is

pub returns-in-61503 : goal.returns-in-61503
unfolding listed
returns-in-61503 c = rw c.in-61503.is

pub returns-in-61504 : goal.returns-in-61504
unfolding listed
returns-in-61504 c = rw c.in-61504.is

pub returns-in-61505 : goal.returns-in-61505
unfolding listed
returns-in-61505 c = rw c.in-61505.is

pub returns-in-61506 : goal.returns-in-61506
unfolding listed
returns-in-61506 c = rw c.in-61506.is

pub returns-in-61507 : goal.returns-in-61507
unfolding listed
returns-in-61507 c = rw c.in-61507.is

pub returns-in-61508 : goal.returns-in-61508
unfolding listed
returns-in-61508 c = rw c.in-61508.is

pub returns-in-61509 : goal.returns-in-61509
unfolding listed
returns-in-61509 c = rw c.in-61509.is

pub returns-in_default : goal.returns-in_default
unfolding listed
returns-in_default c = let n = c.args.code in sym (beside-out 0 listed n (rest-none n _ (map (λ (pair : ℕ × ℕ). pair.0) listed) c.in_default.in_default-own.rest))
