-- `closes_element` meets its contract, language by language.
-- Assumes nothing.
use mathlib.Core.Bool.{or-false}
use mathlib.Core.List.{◌++◌}
use mathlib.Core.Path.{◌≡◌, sym, subst}
use Rattle.rules.specs.Bytes.{ascii}
use Rattle.rules.specs.Encoding.{closes}
use Rattle.decode_strings.specs.Strings.{name_of}
use Rattle.rules.specs.declared.Language.{Language}
use Rattle.decode_strings.proofs.closes_element.Goals as goal

pub returns-in-Script : goal.returns-in-Script
returns-in-Script c = subst (λ (l : Language). c.closes_with.result ≡ closes (ascii "\\/" ++ name_of l) c.args.rest.now) (sym c.in-Script.is) (rw or-false at c.closes_with.ensures)

pub returns-in-Style : goal.returns-in-Style
returns-in-Style c = subst (λ (l : Language). c.closes_with-in-Style.result ≡ closes (ascii "\\/" ++ name_of l) c.args.rest.now) (sym c.in-Style.is) (rw or-false at c.closes_with-in-Style.ensures)
