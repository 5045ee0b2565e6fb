-- `hex_growth` meets its contract: two or four bytes more for each, of at most 255.
-- Assumes nothing.
-- src/growth.rt:104:29
-- src/growth.rt:104:29
-- src/growth.rt:105:28
-- src/growth.rt:105:28
-- src/growth.rt:106:27
-- src/growth.rt:106:27
-- src/growth.rt:99:1
use borrow.Author.Rules.{rules}
use mathlib.Core.Path.{refl}
use Rattle.encode_strings.proofs.growth.hex_growth.Goals as goal

pub returns-in-Script : goal.returns-in-Script
returns-in-Script c = rw c.in-Script.is (refl, search rules)

-- src/growth.rt:99:1

pub returns-in-Style : goal.returns-in-Style
returns-in-Style c = rw c.in-Style.is (refl, search rules)

-- src/growth.rt:99:1

pub returns-in-Json : goal.returns-in-Json
returns-in-Json c = rw c.in-Json.is (refl, search rules)
