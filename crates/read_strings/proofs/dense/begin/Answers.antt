-- `begin` meets its contract: the sums so far are those of the places that are passed, and with no wrong one they are what a loop from backslash to
-- backslash counts (Starts). The measure is what is left of the text.
-- Assumes nothing.
use mathlib.Core.Path.{◌≡◌, refl, sym, subst}
use mathlib.Core.List.{List}
use Prim.Native.Nat.{ℕ, ◌+◌, ◌-◌, ◌*◌}
use native.Mathlib.Omega.{arith}
use Rattle.base.specs.Places.{Nearest}
use Rattle.read_strings.specs.Dense.{start_at, longer_at, wrong_at, sum_to}
use Rattle.read_strings.proofs.Starts.{last-most, recount, ready-none, counted-near}
use Rattle.read_strings.proofs.dense.begin.Goals as goal

pub returns-then-listed-gt0 : goal.returns-then-listed-gt0
returns-then-listed-gt0 c =
    let a = c.args in
    ready-none a.language a.quotes a.text.now c.requires.2 a.listed c.start.result c.start.ensures.0 c.start.ensures.1 c.start.ensures.2

pub loop-i-init : goal.loop-i-init
loop-i-init c = (omega arith, refl, refl, refl, refl, refl, omega arith, omega arith, omega arith)

pub flag-last-requires : goal.flag-last-requires
flag-last-requires c = (omega (arith, c.loop-i-test.true), c.loop-i.invariant.1, c.loop-i.invariant.2)

pub count-s-requires : goal.count-s-requires
count-s-requires c = (omega (arith, c.loop-i-test.true), c.flag-last.ensures.1)

pub loop-i-preserved : goal.loop-i-preserved
loop-i-preserved c =
    let t = c.args.text.now in
    let l = c.loop-i in
    let fl = c.flag-last in
    let cn = c.count-s in
    let test = c.loop-i-test.true in (
      omega (arith, test, fl.ensures.0, last-most t (l.i + 240)),
      fl.ensures.0,
      fl.ensures.2,
      omega (arith, l.invariant.3, cn.ensures.0),
      omega (arith, l.invariant.4, cn.ensures.1),
      omega (arith, l.invariant.5, cn.ensures.2),
      omega (arith, l.invariant.6),
      omega (arith, l.invariant.7),
      omega (arith, l.invariant.8),
    )

pub returns-then-units-eq0 : goal.returns-then-units-eq0
returns-then-units-eq0 c =
    let a = c.args in
    ready-none a.language a.quotes a.text.now c.requires.2 a.listed c.start-then-units-eq0.result c.start-then-units-eq0.ensures.0 c.start-then-units-eq0.ensures.1 c.start-then-units-eq0.ensures.2

pub returns : goal.returns
returns c =
    let a = c.args in
    let t = a.text.now in
    let l = c.loop-i in
    let u = l.invariant.3 in
    let v = l.invariant.4 in
    let right = subst (λ (ks : List ℕ). sum_to (wrong_at a.language ks t) l.i ≡ 0) c.requires.0 (omega (arith, l.invariant.5, c.if-wrong-gt0.false)) in (
      l.invariant.0,
      λ z. absurd (omega (arith, z, c.if-listed-gt0.false)),
      λ y. absurd (c.if-units-eq0.false y),
      λ r p.
          let (g, k) = counted-near a.language a.quotes t c.requires.2 (λ k. (c.shared_slice_known-1.given k).fits) l.i r (subst (λ (x : ℕ). Nearest t (l.i + x) 92 r) l.invariant.1 p) right in (
            omega (arith, g, u, v),
            omega (arith, k.few, u),
            recount a.language a.quotes t r (r - (sum_to (start_at t) l.i + sum_to (longer_at t) l.i * 2)) (r - (l.units + l.longer * 2)) (sum_to (start_at t) l.i) l.units (λ j. r - (sym u j + sym v j * 2)) (sym u) k,
          ),
    )
