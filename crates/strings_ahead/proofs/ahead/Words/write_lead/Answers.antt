-- `write_lead` meets its contract: what is found at E2 is the move there.
-- Assumes nothing.
use mathlib.Core.List.{List}
use mathlib.Core.Path.{sym, ap, ◌∙◌}
use Prim.Native.Nat.{ℕ}
use native.Mathlib.Omega.{arith}
use Rattle.rules.specs.Bytes.{over}
use Rattle.encode_strings.proofs.Steps.{taken-some}
use Rattle.strings_ahead.proofs.Turns.{taken-few, reached-kept, reached-found}
use Rattle.strings_ahead.proofs.ahead.Words.write_lead.Goals as goal

pub put-requires : goal.put-requires
put-requires c =
    let a = c.args in
    let pre = c.requires in
    let k = reached-kept a.self.now.notation a.self.now.quotes a.text.now pre.text_nonzero.0 (rw c.in_default.is at (c.separator.ensures.0 a.self.now.quotes 0)) in omega (arith, k.0.long, pre.text_in_bounds)

pub returns-in_default : goal.returns-in_default
returns-in_default c =
    let a = c.args in
    let k = reached-kept a.self.now.notation a.self.now.quotes a.text.now c.requires.text_nonzero.0 (rw c.in_default.is at (c.separator.ensures.0 a.self.now.quotes 0)) in
    let p = c.put in
    rw (c.whole.ensures, p.ensures.0) (record { reached = (k.0, omega arith, omega arith, omega arith); output_after = p.ensures.1 ∙ ap (λ (w : List ℕ). over w a.output.now) (sym k.1) })

pub put_found-requires : goal.put_found-requires
put_found-requires c =
    let a = c.args in
    let kind = rw c.in-Some.is at c.separator.ensures in
    let k = reached-found a.self.now.notation a.self.now.quotes a.text.now c.in-Some.found kind.1 (kind.0 a.self.now.quotes 0) in
    (kind.1, omega (arith, k.0.long, c.requires.text_in_bounds))

pub returns : goal.returns
returns c =
    let a = c.args in
    let kind = rw c.in-Some.is at c.separator.ensures in
    let k = reached-found a.self.now.notation a.self.now.quotes a.text.now c.in-Some.found kind.1 (kind.0 a.self.now.quotes 0) in
    let p = c.put_found in
    let t = c.taken in
    let f = c.in-Some.found in
    rw (c.whole-2.ensures, t.ensures.0, p.ensures.0) (record { reached = (k.0, omega (arith, taken-some f), taken-few f, omega (arith, taken-some f)); output_after = p.ensures.1 ∙ ap (λ (w : List ℕ). over w a.output.now) (sym k.1) })
