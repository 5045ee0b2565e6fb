-- `set_of` meets its contract: each context by its kind; JSON replaces the characters that a script string in double quotes does.
-- Assumes nothing.
-- src/replaced.rt:156:25
-- src/replaced.rt:156:31
-- src/replaced.rt:157:27
-- src/replaced.rt:157:38
-- src/replaced.rt:158:26
-- src/replaced.rt:158:37
-- src/replaced.rt:159:39
-- src/replaced.rt:159:28
-- src/replaced.rt:152:1
use Rattle.reader.specs.Replaced.{begins}
use Rattle.reader.proofs.replaced.set_of.Goals as goal

pub returns-in-InHtml : goal.returns-in-InHtml
returns-in-InHtml c = rw c.in-InHtml.is c.html_set.ensures

-- src/replaced.rt:152:1

pub returns-in-InScript : goal.returns-in-InScript
returns-in-InScript c = rw c.in-InScript.is c.string_set.ensures

-- src/replaced.rt:152:1

pub returns-in-InStyle : goal.returns-in-InStyle
returns-in-InStyle c = rw c.in-InStyle.is c.string_set-in-InStyle.ensures

-- src/replaced.rt:152:1

pub returns-in-InJson : goal.returns-in-InJson
unfolding begins
returns-in-InJson c = rw c.in-InJson.is c.string_set-in-InJson.ensures

pub returns-in-InAscii : goal.returns-in-InAscii
unfolding begins
returns-in-InAscii c = rw c.in-InAscii.is c.html_set-in-InAscii.ensures
