-- `count` meets its contract: the sums so far are those of the places that are passed.
-- Assumes nothing.
use mathlib.Core.Path.{◌≡◌, sym, ap, ◌∙◌}
use Prim.Native.Nat.{ℕ, ◌+◌}
use native.Mathlib.Omega.{arith}
use lib.ListN.{get_or}
use Rattle.read_strings.specs.Dense.{last_of, start_at, unless_it, longer_at, wrong_at, sum_to}
use Rattle.read_strings.proofs.Starts.{sum-zero, sum-next, start-most}
use Rattle.read_strings.proofs.dense.count.Goals as goal

pub loop-j-init : goal.loop-j-init
loop-j-init c =
    let a = c.args in
    (omega arith, omega arith, omega arith, sum-zero (start_at a.text.now) a.from, sum-zero (longer_at a.text.now) a.from, sum-zero (wrong_at a.language a.keys.now a.text.now) a.from)

pub overflow_add-units : goal.overflow_add-units
overflow_add-units c =
    let a = c.args in
    let l = c.loop-j in
    let t = a.text.now in
    let told : get_or a.flags.now l.j 0 ≡ start_at t (a.from + l.j) = c.requires.1 l.j c.loop-j-test.true in
    let most = start-most (last_of t (a.from + l.j)) (get_or t (a.from + l.j) 0) in
    omega (arith, told, most, l.invariant.0)

pub overflow_add-longer : goal.overflow_add-longer
overflow_add-longer c =
    let a = c.args in
    let l = c.loop-j in
    let t = a.text.now in
    let told : get_or a.flags.now l.j 0 ≡ start_at t (a.from + l.j) = c.requires.1 l.j c.loop-j-test.true in
    let most = start-most (last_of t (a.from + l.j)) (get_or t (a.from + l.j) 0) in
    omega (arith, told, most, l.invariant.1, c.unless-longer.ensures.1)

pub overflow_add-wrong : goal.overflow_add-wrong
overflow_add-wrong c =
    let a = c.args in
    let l = c.loop-j in
    let t = a.text.now in
    let told : get_or a.flags.now l.j 0 ≡ start_at t (a.from + l.j) = c.requires.1 l.j c.loop-j-test.true in
    let most = start-most (last_of t (a.from + l.j)) (get_or t (a.from + l.j) 0) in
    omega (arith, told, most, l.invariant.2, c.unless-wrong.ensures.1)

pub loop-j-preserved : goal.loop-j-preserved
loop-j-preserved c =
    let a = c.args in
    let l = c.loop-j in
    let t = a.text.now in
    let told : get_or a.flags.now l.j 0 ≡ start_at t (a.from + l.j) = c.requires.1 l.j c.loop-j-test.true in
    let most = start-most (last_of t (a.from + l.j)) (get_or t (a.from + l.j) 0) in
    let longer : c.unless-longer.result ≡ longer_at t (a.from + l.j) = c.unless-longer.ensures.0 ∙ (λ i. unless_it (c.is_short.ensures i) (told i)) in
    let wrong : c.unless-wrong.result ≡ wrong_at a.language a.keys.now t (a.from + l.j) = c.unless-wrong.ensures.0 ∙ (λ i. unless_it (c.is_form-form.ensures i) (told i)) in (
      omega (arith, told, most, l.invariant.0),
      omega (arith, told, most, l.invariant.1, c.unless-longer.ensures.1),
      omega (arith, told, most, l.invariant.2, c.unless-wrong.ensures.1),
      omega (arith, sum-next (start_at t) a.from l.j, l.invariant.3, told),
      omega (arith, sum-next (longer_at t) a.from l.j, l.invariant.4, longer),
      omega (arith, sum-next (wrong_at a.language a.keys.now t) a.from l.j, l.invariant.5, wrong),
    )

pub returns : goal.returns
returns c =
    let a = c.args in
    let l = c.loop-j in
    let e : l.j ≡ 240 = omega arith in
    let at : (f : ℕ → ℕ) → sum_to f (a.from + 240) ≡ sum_to f (a.from + l.j) = λ f. ap (λ (j : ℕ). sum_to f (a.from + j)) (sym e) in
    (at (start_at a.text.now) ∙ l.invariant.3, at (longer_at a.text.now) ∙ l.invariant.4, at (wrong_at a.language a.keys.now a.text.now) ∙ l.invariant.5)
