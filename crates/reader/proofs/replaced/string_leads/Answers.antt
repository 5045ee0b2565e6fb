-- `string_leads` meets its contract: each list is compared with the rules, byte by byte.
-- Assumes nothing.
use Rattle.rules.specs.declared.Language.{Language}
use Rattle.rules.specs.declared.Language.TheVariants.{Script, Style}
use Rattle.rules.specs.declared.Quotes.TheVariants.{Single, Double, Both}
use Rattle.rules.specs.Contexts.{string_of}
use mathlib.Core.List.{[], ◌∷◌}
use Rattle.reader.specs.Replaced.{begins, Leads, is_lead, separator_lead}
use Rattle.reader.proofs.Characters.{leads-checked}
use Rattle.reader.proofs.replaced.string_leads.Goals as goal

single : (language : Language) → Leads (string_of language Single) (is_lead (0 ∷ 31 ∷ 0x27 ∷ 0x27 ∷ 0x3C ∷ 0x5C ∷ separator_lead language ∷ 0 ∷ []))
unfolding is_lead begins
single Script = leads-checked (string_of Script Single) _ tt
single Style = leads-checked (string_of Style Single) _ tt

double : (language : Language) → Leads (string_of language Double) (is_lead (0 ∷ 31 ∷ 0x22 ∷ 0x22 ∷ 0x3C ∷ 0x5C ∷ separator_lead language ∷ 0 ∷ []))
unfolding is_lead begins
double Script = leads-checked (string_of Script Double) _ tt
double Style = leads-checked (string_of Style Double) _ tt

both : (language : Language) → Leads (string_of language Both) (is_lead (0 ∷ 31 ∷ 0x22 ∷ 0x27 ∷ 0x3C ∷ 0x5C ∷ separator_lead language ∷ 0 ∷ []))
unfolding is_lead begins
both Script = leads-checked (string_of Script Both) _ tt
both Style = leads-checked (string_of Style Both) _ tt

pub returns-in-Single : goal.returns-in-Single
returns-in-Single c =
    let a = c.args in
    rw (c.in-Single.is, c.separator_lead-last.ensures) (single a.language)

pub returns-in-Double : goal.returns-in-Double
returns-in-Double c =
    let a = c.args in
    rw (c.in-Double.is, c.separator_lead-last.ensures) (double a.language)

pub returns-in-Both : goal.returns-in-Both
returns-in-Both c =
    let a = c.args in
    rw (c.in-Both.is, c.separator_lead-last.ensures) (both a.language)
