-- Of the two lengths at most one is not 0.
-- Assumes nothing.
use mathlib.Core.Path.{refl}
use Prim.Native.Nat.{◌+◌}
use native.Mathlib.Omega.{arith}
use lib.ListN.{get_or}
use Rattle.decode_html.proofs.Known.{known-sum, known-most}
use Rattle.decode_html.proofs.entity.known_length.Goals as goal

pub returns-then-text-start-lt5 : goal.returns-then-text-start-lt5
returns-then-text-start-lt5 c = λ h. absurd (h refl)

pub returns : goal.returns
returns c =
    let t = c.args.text.now in
    let i = c.args.start in
    let m = c.length_if in
    let n = c.length_if-2 in
    λ h.
    let k = known-sum (get_or t (i + 1) 0) (get_or t (i + 2) 0) (get_or t (i + 3) 0) (get_or t (i + 4) 0) m.result n.result m.ensures.0 n.ensures.0 h in
    record { within = omega (arith, known-most k); bytes = k }
