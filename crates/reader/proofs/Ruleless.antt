-- Which contexts have no rule beside their table.
-- Assumes nothing.
use mathlib.Core.Path.{◌≡◌, refl}
use Rattle.rules.specs.declared.Context.{Context}
use Rattle.rules.specs.declared.Context.TheVariants.{InHtml, InScript, InStyle, InJson, InAscii}
use Rattle.reader.specs.Units.{Ruleless}

-- A context that is not ascii_quoted has none.
pub ruleless : (c : Context) → (c ≡ InAscii → ⊥) → Ruleless c
ruleless (InHtml h) n a = refl
ruleless (InScript q) n a = refl
ruleless (InStyle q) n a = refl
ruleless InJson n a = refl
ruleless InAscii n a = absurd (n refl)
