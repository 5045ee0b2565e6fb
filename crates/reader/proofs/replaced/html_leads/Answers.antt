-- `html_leads` meets its contract: each list is compared with the rules, byte by byte.
-- Assumes nothing.
use Rattle.rules.specs.declared.Html.TheVariants.{TextMinimal, Text, DoubleQuoted, SingleQuoted, Quoted, Safe, Unquoted}
use Rattle.rules.specs.declared.Context.TheVariants.{InHtml}
use Rattle.reader.specs.Replaced.{begins, is_lead}
use Rattle.reader.proofs.Characters.{leads-checked}
use Rattle.reader.proofs.replaced.html_leads.Goals as goal

pub returns-in-TextMinimal : goal.returns-in-TextMinimal
unfolding is_lead begins
returns-in-TextMinimal c = rw c.in-TextMinimal.is (leads-checked (InHtml TextMinimal) _ tt)

pub returns-in-Text : goal.returns-in-Text
unfolding is_lead begins
returns-in-Text c = rw c.in-Text.is (leads-checked (InHtml Text) _ tt)

pub returns-in-DoubleQuoted : goal.returns-in-DoubleQuoted
unfolding is_lead begins
returns-in-DoubleQuoted c = rw c.in-DoubleQuoted.is (leads-checked (InHtml DoubleQuoted) _ tt)

pub returns-in-SingleQuoted : goal.returns-in-SingleQuoted
unfolding is_lead begins
returns-in-SingleQuoted c = rw c.in-SingleQuoted.is (leads-checked (InHtml SingleQuoted) _ tt)

pub returns-in-Quoted : goal.returns-in-Quoted
unfolding is_lead begins
returns-in-Quoted c = rw c.in-Quoted.is (leads-checked (InHtml Quoted) _ tt)

pub returns-in-Safe : goal.returns-in-Safe
unfolding is_lead begins
returns-in-Safe c = rw c.in-Safe.is (leads-checked (InHtml Safe) _ tt)

pub returns-in-Unquoted : goal.returns-in-Unquoted
unfolding is_lead begins
returns-in-Unquoted c = rw c.in-Unquoted.is (leads-checked (InHtml Unquoted) _ tt)
