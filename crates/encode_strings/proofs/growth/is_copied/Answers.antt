-- `encode_strings::growth::is_copied` meets its contract: what is replaced are the escaped bytes and, but in a style sheet, the line separators.
-- Assumes nothing.
use mathlib.Core.Path.{refl, sym, ◌∙◌}
use borrow.Author.Rules.{rules}
use Rattle.encode_strings.proofs.Sums.{beside-free, hits-some, hits-beside}
use Rattle.encode_strings.proofs.growth.is_copied.Goals as goal

pub returns-then-found-ne0 : goal.returns-then-found-ne0
returns-then-found-ne0 c = let a = c in hits-some a.args.notation a.args.quotes a.args.part.now a.args.found.escaped a.requires.1.0 c.if-found-ne0.true

pub returns-then-found-eq0 : goal.returns-then-found-eq0
returns-then-found-eq0 c =
    let a = c in
    let z = beside-free a.args.notation a.args.part.now (sym a.requires.1.2 ∙ c.if-found-eq0.true) in
    hits-beside a.args.notation a.args.quotes a.args.part.now a.args.found.escaped a.requires.1.0 (search rules) 0 z

pub returns-then-separates : goal.returns-then-separates
returns-then-separates c =
    let a = c in
    let by = sym c.separates.ensures ∙ c.if-separates.true in
    hits-beside a.args.notation a.args.quotes a.args.part.now a.args.found.escaped a.requires.1.0 (search rules) c.separators.result (rw by c.separators.ensures.0)

pub returns : goal.returns
returns c =
    let a = c in
    let by = sym c.separates.ensures ∙ c.if-separates.false in
    hits-beside a.args.notation a.args.quotes a.args.part.now a.args.found.escaped a.requires.1.0 (search rules) 0 (rw by refl)
