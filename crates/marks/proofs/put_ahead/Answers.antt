-- `put_ahead` meets its contract: of the bytes that are put the first are the run (Ahead).
-- Assumes nothing.
use mathlib.Core.Path.{◌≡◌, refl, sym, ap, ◌∙◌}
use Prim.Native.Nat.{ℕ, ◌+◌, ◌-◌, ◌≤◌}
use native.Mathlib.Omega.{arith}
use lib.ListN.{length, take, drop, length-drop}
use lib.Seq.{length-take-le}
use Rattle.base.specs.Places.{part}
use Rattle.base.proofs.Part.{part_length}
use Rattle.marks.proofs.Ahead.{head-put, size-put}
use borrow.Author.Rules.{rules}
use Rattle.marks.proofs.put_ahead.Goals as goal

pub returns-then-mark-from : goal.returns-then-mark-from
returns-then-mark-from c =
    let a = c.args in
    let none : a.mark - a.from ≡ 0 = omega (arith, c.if-mark-from.true) in
    (sym none, refl, sym (ap (λ (n : ℕ). take n (drop a.from a.text.now)) none))

pub returns-then-min-ge-AHEAD : goal.returns-then-min-ge-AHEAD
returns-then-min-ge-AHEAD c =
    let a = c.args in
    let t = a.text.now in
    let long : a.from + 16 ≤ length t = search rules in
    let room : 16 ≤ length a.output.now = search rules in
    let few : a.mark - a.from ≤ 16 = search rules in
    let m : a.from + 16 - a.from ≡ 16 = omega arith in
    let w = take (a.from + 16 - a.from) (drop a.from t) in
    let size : length w ≡ a.from + 16 - a.from = length-take-le (a.from + 16 - a.from) (drop a.from t) (rw length-drop (omega (arith, long, m))) in
    let e = c.put_short.ensures.1 in
    (refl, ap length e ∙ size-put w a.output.now (omega (arith, size, m, room)), ap (take (a.mark - a.from)) e ∙ head-put (a.mark - a.from) (a.from + 16 - a.from) (drop a.from t) a.output.now (omega (arith, few, m)) (omega (arith, size, m, few)))

pub returns : goal.returns
returns c =
    let a = c.args in
    let t = a.text.now in
    let w = part t a.from a.mark in
    let size : length w ≡ a.mark - a.from = part_length t a.from a.mark c.requires.0 c.requires.1 in
    let r = c.put_run.ensures in
    let n = c.put_run.result in
    let many : n ≡ a.mark - a.from = r.0 ∙ size in
    (many, ap length r.1 ∙ size-put w a.output.now (omega (arith, size, c.requires.2)), ap (take n) r.1 ∙ head-put n (a.mark - a.from) (drop a.from t) a.output.now (omega (arith, many)) (omega (arith, size, many)) ∙ ap (λ (k : ℕ). take k (drop a.from t)) many)
