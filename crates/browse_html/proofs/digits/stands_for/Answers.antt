-- `browse_html::digits::stands_for` meets its contract: each pair of the table is one arm, and a number of none of them stands for itself.
-- Assumes nothing.
use mathlib.Core.Path.{sym}
use native.Mathlib.Omega.{arith}
use lib.Dec.{leb, leb→le}
use Rattle.rules.specs.References.{renumbering, renumbered}
use Rattle.rules.proofs.Tests.{and_left, and_right}
use Rattle.rules.proofs.Numbers.{stands-out, stands-beyond}
use Rattle.names_search.proofs.Arms.{rest-none}
use Rattle.browse_html.proofs.digits.stands_for.Goals as goal

pub returns-then-number-lt128 : goal.returns-then-number-lt128
returns-then-number-lt128 c =
    let n = c.args.number in
    sym (stands-beyond n (λ t. let l = leb→le 0x80 n (and_left (leb 0x80 n) (leb n 0x9F) t) in omega arith))

pub returns-then-number-gt159 : goal.returns-then-number-gt159
returns-then-number-gt159 c =
    let n = c.args.number in
    sym (stands-beyond n (λ t. let l = leb→le n 0x9F (and_right (leb 0x80 n) (leb n 0x9F) t) in omega arith))

pub returns-in-128 : goal.returns-in-128
unfolding renumbering
returns-in-128 c = rw c.in-128.is

pub returns-in-130 : goal.returns-in-130
unfolding renumbering
returns-in-130 c = rw c.in-130.is

pub returns-in-131 : goal.returns-in-131
unfolding renumbering
returns-in-131 c = rw c.in-131.is

pub returns-in-132 : goal.returns-in-132
unfolding renumbering
returns-in-132 c = rw c.in-132.is

pub returns-in-133 : goal.returns-in-133
unfolding renumbering
returns-in-133 c = rw c.in-133.is

pub returns-in-134 : goal.returns-in-134
unfolding renumbering
returns-in-134 c = rw c.in-134.is

pub returns-in-135 : goal.returns-in-135
unfolding renumbering
returns-in-135 c = rw c.in-135.is

pub returns-in-136 : goal.returns-in-136
unfolding renumbering
returns-in-136 c = rw c.in-136.is

pub returns-in-137 : goal.returns-in-137
unfolding renumbering
returns-in-137 c = rw c.in-137.is

pub returns-in-138 : goal.returns-in-138
unfolding renumbering
returns-in-138 c = rw c.in-138.is

pub returns-in-139 : goal.returns-in-139
unfolding renumbering
returns-in-139 c = rw c.in-139.is

pub returns-in-140 : goal.returns-in-140
unfolding renumbering
returns-in-140 c = rw c.in-140.is

pub returns-in-142 : goal.returns-in-142
unfolding renumbering
returns-in-142 c = rw c.in-142.is

pub returns-in-145 : goal.returns-in-145
unfolding renumbering
returns-in-145 c = rw c.in-145.is

pub returns-in-146 : goal.returns-in-146
unfolding renumbering
returns-in-146 c = rw c.in-146.is

pub returns-in-147 : goal.returns-in-147
unfolding renumbering
returns-in-147 c = rw c.in-147.is

pub returns-in-148 : goal.returns-in-148
unfolding renumbering
returns-in-148 c = rw c.in-148.is

pub returns-in-149 : goal.returns-in-149
unfolding renumbering
returns-in-149 c = rw c.in-149.is

pub returns-in-150 : goal.returns-in-150
unfolding renumbering
returns-in-150 c = rw c.in-150.is

pub returns-in-151 : goal.returns-in-151
unfolding renumbering
returns-in-151 c = rw c.in-151.is

pub returns-in-152 : goal.returns-in-152
unfolding renumbering
returns-in-152 c = rw c.in-152.is

pub returns-in-153 : goal.returns-in-153
unfolding renumbering
returns-in-153 c = rw c.in-153.is

pub returns-in-154 : goal.returns-in-154
unfolding renumbering
returns-in-154 c = rw c.in-154.is

pub returns-in-155 : goal.returns-in-155
unfolding renumbering
returns-in-155 c = rw c.in-155.is

pub returns-in-156 : goal.returns-in-156
unfolding renumbering
returns-in-156 c = rw c.in-156.is

pub returns-in-158 : goal.returns-in-158
unfolding renumbering
returns-in-158 c = rw c.in-158.is

pub returns-in-159 : goal.returns-in-159
unfolding renumbering
returns-in-159 c = rw c.in-159.is

pub returns-in_default : goal.returns-in_default
unfolding renumbering
returns-in_default c = let n = c.args.number in sym (stands-out renumbering n (rest-none n _ renumbered c.in_default.in_default-own.rest))
