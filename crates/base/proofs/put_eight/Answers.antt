-- `put_eight` meets its contract: eight stores one after the other leave the eight bytes over the start.
-- Assumes nothing.
use mathlib.Core.Path.{ap, ◌∙◌}
use mathlib.Core.List.{List, [], ◌∷◌}
use Prim.Native.Nat.{ℕ}
use lib.ListN.{get_or, length-set}
use lib.Seq.{sets-eq}
use borrow.Author.Rules.{rules}
use Rattle.rules.specs.Bytes.{over}
use Rattle.base.proofs.Eights.{eight-first}
use Rattle.base.proofs.put_eight.Goals as goal

pub bounds-output-1 : goal.bounds-output-1
bounds-output-1 c = simp length-set (search rules)

pub bounds-output-2 : goal.bounds-output-2
bounds-output-2 c = simp length-set (search rules)

pub bounds-output-3 : goal.bounds-output-3
bounds-output-3 c = simp length-set (search rules)

pub bounds-output-4 : goal.bounds-output-4
bounds-output-4 c = simp length-set (search rules)

pub bounds-output-5 : goal.bounds-output-5
bounds-output-5 c = simp length-set (search rules)

pub bounds-output-6 : goal.bounds-output-6
bounds-output-6 c = simp length-set (search rules)

pub bounds-output-7 : goal.bounds-output-7
bounds-output-7 c = simp length-set (search rules)

pub shape_of-output : goal.shape_of-output
shape_of-output c = simp length-set (search rules)

pub returns : goal.returns
returns c =
    let f = c in
    let t = f.args.text.now in
    let o = f.args.output.now in
    sets-eq (get_or t 0 0 ∷ get_or t 1 0 ∷ get_or t 2 0 ∷ get_or t 3 0 ∷ get_or t 4 0 ∷ get_or t 5 0 ∷ get_or t 6 0 ∷ get_or t 7 0 ∷ []) o 0 f.requires.1
    ∙ ap (λ (w : List ℕ). over w o) (eight-first t f.requires.0)
