-- `put_near` meets its contract: none of the bytes so far is such a byte, and they stand at the start of the output.
-- Assumes nothing.
use mathlib.Core.List.{List}
use mathlib.Core.Path.{◌≡◌, sym, ap, ◌∙◌}
use Prim.Native.Nat.{ℕ, ◌-◌, ◌+◌, ◌≤◌}
use native.Mathlib.Omega.{arith}
use lib.ListN.{length, take, drop, get_or}
use Rattle.rules.specs.Bytes.{over}
use Rattle.base.proofs.Firsts.{free_step}
use Rattle.base.proofs.Part.{part_length}
use Rattle.decode_json.specs.Escapes.{halt_at}
use Rattle.decode_json.proofs.Contents.{part-next, one_more}
use Rattle.decode_json.proofs.halts.put_near.Goals as goal

pub bounds-output-i : goal.bounds-output-i
bounds-output-i c =
    let a = c.args in
    let l = c.loop-i in
    let free = free_step (halt_at a.text.now) a.from l.i l.invariant.0 (sym c.is_halt.ensures ∙ c.if-is_halt.false) in
    let room : l.i + 1 ≤ a.from + length a.output.now = c.requires.2 (l.i + 1) (omega arith) (omega arith) free in
    omega (arith, room, l.auto.output)

pub loop-i-preserved : goal.loop-i-preserved
loop-i-preserved c =
    let a = c.args in
    let l = c.loop-i in
    let t = a.text.now in
    let free = free_step (halt_at t) a.from l.i l.invariant.0 (sym c.is_halt.ensures ∙ c.if-is_halt.false) in
    let room : l.i + 1 ≤ a.from + length a.output.now = c.requires.2 (l.i + 1) (omega arith) (omega arith) free in
    let more = one_more (take (l.i - a.from) (drop a.from t)) a.output.now l.output (l.i - a.from) (get_or t l.i 0) (part_length t a.from l.i (omega arith) (omega arith)) (omega (arith, room)) l.invariant.1 in
    (free, more ∙ ap (λ (w : List ℕ). over w a.output.now) (sym (part-next t a.from l.i (omega arith) (omega arith))))
