-- `names_bare::find_from` meets its contract: the first bytes are those of the number, and no shorter name stands there.
-- Assumes nothing.
use borrow.Author.Rules.{rules}
use mathlib.Core.List.{List}
use mathlib.Core.Path.{◌≡◌}
use Prim.Native.Nat.{ℕ, ◌≤◌, ◌<◌}
use native.Mathlib.Omega.{arith}
use lib.ListN.{length, get_or}
use Rattle.rules.specs.Bytes.{In}
use Rattle.rules.specs.Bare.{bare}
use Rattle.names_bare.proofs.Words.{spelled-more, found}
use Rattle.names_bare.proofs.Heads.{at_least, at_most, stands-within, next}
use Rattle.names_bare.proofs.find_from.Goals as goal

pub loop-length-init : goal.loop-length-init
loop-length-init c = (c.requires, λ name i l t. none-shorter name i l)
  where
    none-shorter : (name : List ℕ) → In name bare → length name < 2 → ⊥
    none-shorter name i l = let h = at_least name i in omega (arith, h, l)

pub returns-in-Some : goal.returns-in-Some
returns-in-Some c =
    let l = c.loop-length in
    let e = c.in-Some.ensures in
    let f = found c.args.text.now l.length l.word l.invariant.0 c.in-Some.character e.0 (λ z. omega (arith, e.1, z)) (search rules) in
    (l.invariant.0.within, f.0, f.1)

pub returns-in_err-get : goal.returns-in_err-get
returns-in_err-get c =
    let t = c.args.text.now in
    let l = c.loop-length in
    let end : length t ≤ l.length = search rules in
    rw c.from_residual.ensures
    (λ name i s. next t l.length l.word l.invariant.1 l.invariant.0 c.in_default.ensures name i (let h = stands-within name t s in omega (arith, h)) s)

pub loop-length-preserved : goal.loop-length-preserved
loop-length-preserved c =
    let t = c.args.text.now in
    let l = c.loop-length in
    let byte = c.from.result in
    let here : byte ≡ get_or t l.length 0 = search rules in
    (spelled-more t l.length l.word byte l.invariant.0 (search rules) here (omega (arith, here, c.type_inv.text l.length)), next t l.length l.word l.invariant.1 l.invariant.0 c.in_default.ensures)

pub returns : goal.returns
returns c =
    let l = c.loop-length in
    λ name i s. l.invariant.1 name i (let h = at_most name i in omega (arith, h)) s
