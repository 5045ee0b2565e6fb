-- `leads_of` meets its contract: each context by its kind; JSON replaces the characters that a script string in double quotes does.
-- Assumes nothing.
-- src/replaced.rt:59:25
-- src/replaced.rt:59:31
-- src/replaced.rt:60:27
-- src/replaced.rt:60:38
-- src/replaced.rt:61:26
-- src/replaced.rt:61:37
-- src/replaced.rt:62:41
-- src/replaced.rt:62:28
-- src/replaced.rt:55:1
use Rattle.reader.specs.Replaced.{begins}
use Rattle.reader.proofs.replaced.leads_of.Goals as goal

pub returns-in-InHtml : goal.returns-in-InHtml
returns-in-InHtml c = rw c.in-InHtml.is c.html_leads.ensures

-- src/replaced.rt:55:1

pub returns-in-InScript : goal.returns-in-InScript
returns-in-InScript c = rw c.in-InScript.is c.string_leads.ensures

-- src/replaced.rt:55:1

pub returns-in-InStyle : goal.returns-in-InStyle
returns-in-InStyle c = rw c.in-InStyle.is c.string_leads-in-InStyle.ensures

-- src/replaced.rt:55:1

pub returns-in-InJson : goal.returns-in-InJson
unfolding begins
returns-in-InJson c = rw c.in-InJson.is c.string_leads-in-InJson.ensures

pub returns-in-InAscii : goal.returns-in-InAscii
unfolding begins
returns-in-InAscii c = rw c.in-InAscii.is c.html_leads-in-InAscii.ensures
