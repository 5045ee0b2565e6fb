-- `separator_at` meets its contract: the two bytes after E2 tell, where there are two.
-- Assumes nothing.
use mathlib.Core.Bool.{true}
use mathlib.Core.Path.{◌≡◌, sym, ◌∙◌}
use Prim.Native.Nat.{◌≤◌}
use native.Mathlib.Omega.{arith}
use lib.ListN.{length, get_or}
use Rattle.std.specs.Prelude.{Some, None}
use Rattle.rules.specs.declared.Replacement.TheVariants.{Separator}
use Rattle.encode_strings.specs.Strings.{ends_of}
use Rattle.encode_strings.proofs.Finds.{found-lead, ended-short, ended-long, ends-are}
use Rattle.encode_strings.proofs.escapes.separator_at.Goals as goal

pub returns-in-len3-up : goal.returns-in-len3-up
returns-in-len3-up c =
    let s = c.args.rest.now in
    let l : 3 ≤ length s = c.in-len3-up.len_at_least in
    let e : ends_of (get_or s 1 0) (get_or s 2 0) ≡ true = sym c.ends_separator.ensures ∙ c.if-ends_separator.true in
    let ends = ends-are (get_or s 1 0) (get_or s 2 0) e in
    ((λ n w q. found-lead n w q s (Some Separator) c.requires.0 c.requires.1 (rw (ended-long s l, e))), (l, ends.1, ends.2))

pub returns-in_default : goal.returns-in_default
returns-in_default c =
    let s = c.args.rest.now in
    ((λ n w q. found-lead n w q s None c.requires.0 c.requires.1 (rw (ended-short s c.in_default.len_below))), c.requires.0)

pub returns-in_default-2 : goal.returns-in_default-2
returns-in_default-2 c =
    let s = c.args.rest.now in
    let l : 3 ≤ length s = omega arith in
    ((λ n w q. found-lead n w q s None c.requires.0 c.requires.1 (rw (ended-long s l, ← c.ends_separator.ensures, c.if-ends_separator.false))), c.requires.0)
