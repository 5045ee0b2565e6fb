-- `write_long` meets its contract: most of the text, and then the rest, which has at least the sixteen bytes that were spilt over it.
-- Assumes nothing.
use mathlib.Core.Path.{ap}
use native.Mathlib.Omega.{arith}
use lib.ListN.{length, length-drop}
use Rattle.rules.specs.Contexts.{written_in}
use Rattle.rules.proofs.Growth.{encode-whole}
use Rattle.base.proofs.Filled.{lent-rest}
use Rattle.encode_strings.proofs.Sums.{hits_few}
use Rattle.strings_ahead.proofs.Turns.{both-measured, both-over}
use Rattle.strings_ahead.proofs.ahead.Words.write.Goals as goal

pub write-rest-requires : goal.write-rest-requires
write-rest-requires c =
    let a = c.args in
    let t = a.text.now in
    let m = c.write_most-most in
    let r = m.ensures.reached.0 in
    (rw (lent-rest, length-drop) (omega (arith, c.requires.1)), rw (lent-rest, lent-rest, length-drop) (omega (arith, r.long, c.requires.2, m.auto.output)))

pub overflow_add-i : goal.overflow_add-i
overflow_add-i c =
    let a = c.args in
    let t = a.text.now in
    let m = c.write_most-most in
    let x = c.write-rest in
    let r = both-measured a.self.now.notation a.self.now.quotes t m.result.place m.result.length m.result.replaced x.result m.ensures.reached.0 (rw (lent-rest m.result.place t) at x.ensures.0) in
    omega (arith, r.reach, ap length (encode-whole (written_in a.self.now.notation a.self.now.quotes) t), c.requires.1)

pub overflow_add-most : goal.overflow_add-most
overflow_add-most c =
    let a = c.args in
    let t = a.text.now in
    let m = c.write_most-most in
    let x = c.write-rest in
    let r = both-measured a.self.now.notation a.self.now.quotes t m.result.place m.result.length m.result.replaced x.result m.ensures.reached.0 (rw (lent-rest m.result.place t) at x.ensures.0) in
    omega (arith, hits_few a.self.now.notation a.self.now.quotes t _ r.many, c.requires.1)

pub returns : goal.returns
returns c =
    let a = c.args in
    let t = a.text.now in
    let m = c.write_most-most in
    let x = c.write-rest in (
      rw c.whole.ensures (both-measured a.self.now.notation a.self.now.quotes t m.result.place m.result.length m.result.replaced x.result m.ensures.reached.0 (rw (lent-rest m.result.place t) at x.ensures.0)),
      both-over a.self.now.notation a.self.now.quotes m.ensures.reached.0 m.ensures.reached.1 a.output.now m.new.output x.new.output m.ensures.spills x.ensures.1,
    )
