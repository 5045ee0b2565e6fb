-- `put_hex` meets its contract: a copy of four bytes, two of them the digits that `hex_digit` gives.
-- Assumes nothing.
-- src/escapes.rt:115:9
-- src/escapes.rt:116:9
-- src/escapes.rt:118:40
-- src/escapes.rt:118:39
-- src/escapes.rt:118:29
use Rattle.encode_strings.proofs.escapes.put_hex.Goals as goal

pub put-requires : goal.put-requires
put-requires c = rw c.in-Script.is at c.requires

-- src/escapes.rt:119:39

-- src/escapes.rt:119:38

-- src/escapes.rt:119:28

pub put-requires-in-Style : goal.put-requires-in-Style
put-requires-in-Style c = rw c.in-Style.is at c.requires

-- src/escapes.rt:120:38

-- src/escapes.rt:120:37

-- src/escapes.rt:120:27

pub put-requires-in-Json : goal.put-requires-in-Json
put-requires-in-Json c = rw c.in-Json.is at c.requires

-- src/escapes.rt:111:1

-- src/escapes.rt:111:1

pub returns-in-Script : goal.returns-in-Script
returns-in-Script c =
    let told = c.in-Script in
    let hex-digit = c.hex_digit-high in
    let hex-digit2 = c.hex_digit-low in
    rw (told.is, ← hex-digit.ensures.0, ← hex-digit2.ensures.0) c.put.ensures

-- src/escapes.rt:111:1

-- src/escapes.rt:111:1

pub returns-in-Style : goal.returns-in-Style
returns-in-Style c =
    let told = c.in-Style in
    let hex-digit = c.hex_digit-high in
    let hex-digit2 = c.hex_digit-low in
    rw (told.is, ← hex-digit.ensures.0, ← hex-digit2.ensures.0) c.put-in-Style.ensures

-- src/escapes.rt:111:1

-- src/escapes.rt:111:1

pub returns-in-Json : goal.returns-in-Json
returns-in-Json c =
    let told = c.in-Json in
    let hex-digit = c.hex_digit-high in
    let hex-digit2 = c.hex_digit-low in
    rw (told.is, ← hex-digit.ensures.0, ← hex-digit2.ensures.0) c.put-in-Json.ensures
