-- `browse_html::find_ended` meets its contract: what decode takes for a name is the reference; where it takes none, no name with its `;` stands there.
-- Assumes nothing.
use borrow.Author.Rules.{rules}
use mathlib.Core.Path.{◌≡◌, sym, ap, ◌∙◌, subst}
use lib.Dec.{T}
use Rattle.rules.specs.Tables.{letter_or_digit}
use Prim.Native.Nat.{◌+◌}
use lib.ListN.{get_or, get_or-eq_default}
use Rattle.rules.specs.declared.Kind.TheVariants.{InText}
use Rattle.browse_html.proofs.Readings.{gives-decoded, left-named, wordless}
use Rattle.browse_html.proofs.find_ended.Goals as goal

pub returns-in_err-get : goal.returns-in_err-get
returns-in_err-get c =
    let a = c.args in
    let t = a.text.now in
    let past : get_or t (a.start + 1) 0 ≡ 0 = get_or-eq_default t 0 {n = a.start + 1} (search rules) in
    rw c.from_residual.ensures (λ plain. wordless InText t a.start c.requires.0 c.requires.1 plain (rw past))

pub returns-then-not-is_letter_or_digit : goal.returns-then-not-is_letter_or_digit
returns-then-not-is_letter_or_digit c =
    let a = c.args in
    let here : c.in_ok-get.field-0.now ≡ get_or a.text.now (a.start + 1) 0 = search rules in
    λ plain. wordless InText a.text.now a.start c.requires.0 c.requires.1 plain (rw here at (sym c.if-not-is_letter_or_digit.ensures))

pub returns-in_default : goal.returns-in_default
returns-in_default c =
    let a = c.args in
    λ plain. left-named InText a.text.now a.start c.requires.0 c.requires.1 plain c.in_default.field-0 c.in_default.ensures

pub returns : goal.returns
returns c =
    let a = c.args in
    let here : c.in_ok-get.field-0.now ≡ get_or a.text.now (a.start + 1) 0 = search rules in
    let word = rw here at (sym c.if-not-is_letter_or_digit.ensures) in
    λ kind. gives-decoded kind a.text.now a.start c.requires.0 c.requires.1 (λ e. subst T (sym word ∙ ap letter_or_digit e) tt) c.in-Ok.found c.in-Ok.ensures
