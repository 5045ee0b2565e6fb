-- `encode_raw::write` meets its contract: there are as many moves as bytes, so that the moves of all bytes are all moves.
-- Assumes nothing.
use mathlib.Core.Path.{refl, sym, ap, ◌∙◌, subst}
use mathlib.Core.List.{List}
use Prim.Native.Nat.{◌≤◌}
use borrow.Author.Rules.{rules}
use lib.ListN.{length}
use Rattle.rules.specs.Bytes.{over}
use Rattle.rules.specs.Moves.{Move, result}
use Rattle.encode_raw.proofs.Cuts.{whole-moves}
use Rattle.encode_raw.proofs.write.Goals as goal

pub write_to-requires : goal.write_to-requires
write_to-requires c =
    let a = c in
    (search rules, subst (λ (ms : List Move). length (result ms) ≤ length a.args.output.now) (sym (whole-moves a.args.text.now (length a.args.text.now) refl)) a.requires)

pub returns : goal.returns
returns c =
    let a = c.args in
    let w = c.write_to.ensures in
    let e = whole-moves a.text.now (length a.text.now) refl in
    (w.0 ∙ ap (λ (ms : List Move). length (result ms)) e, w.1 ∙ ap (λ (ms : List Move). over (result ms) a.output.now) e)
