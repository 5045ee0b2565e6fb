-- `flag` meets its contract: of each byte that is passed is told what the definition says, and the last is what is told of the byte before the next.
-- Assumes nothing.
use mathlib.Core.Path.{◌≡◌, sym, ap, ◌∙◌}
use Prim.Native.Nat.{ℕ, ◌+◌}
use native.Mathlib.Omega.{arith}
use lib.ListN.{get_or, length-set}
use lib.Seq.{get_or-set_same, get_or-set_other}
use borrow.Author.Count.{below_more}
use Rattle.read_strings.specs.Dense.{start_by, last_of, start_at}
use Rattle.read_strings.proofs.Starts.{last-next}
use Rattle.read_strings.proofs.dense.flag.Goals as goal

pub loop-j-init : goal.loop-j-init
loop-j-init c =
    let a = c.args in
    let z : a.from ≡ a.from + 0 = omega arith in
    (c.requires.2, c.requires.1 ∙ ap (last_of a.text.now) z, λ k h. absurd (omega arith))

pub loop-j-preserved : goal.loop-j-preserved
loop-j-preserved c =
    let a = c.args in
    let l = c.loop-j in
    let t = a.text.now in
    let x = c.start_of-before in
    let v : x.result ≡ start_at t (a.from + l.j) = x.ensures ∙ ap (λ (b : ℕ). start_by b (get_or t (a.from + l.j) 0)) l.invariant.1 in
    (length-set l.flags l.j x.result ∙ l.invariant.0, v ∙ sym (last-next t a.from l.j), below_more _ _ (λ k h. get_or-set_other l.flags l.j k x.result 0 (λ e. omega (arith, e, h)) ∙ l.invariant.2 k h) (get_or-set_same l.flags l.j x.result 0 (omega (arith, l.invariant.0, c.loop-j-test.true)) ∙ v))

pub returns : goal.returns
returns c =
    let a = c.args in
    let l = c.loop-j in
    let e : l.j ≡ 240 = omega arith in
    (l.invariant.1 ∙ ap (λ (j : ℕ). last_of a.text.now (a.from + j)) e, λ j h. l.invariant.2 j (omega (arith, e)), l.invariant.0)
