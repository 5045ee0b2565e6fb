-- `put_char` meets its contract: each return writes the bytes of one width of the definition.
-- Assumes nothing.
use borrow.Author.Tests.{lt-ltb, le-ltb}
use Rattle.base.proofs.chars.put_char.Goals as goal

pub put-requires : goal.put-requires
put-requires c = rw (lt-ltb c.args.number 128 c.if-number-lt128.true) at c.requires.1

pub returns-then-number-lt128 : goal.returns-then-number-lt128
returns-then-number-lt128 c = rw (lt-ltb c.args.number 128 c.if-number-lt128.true) c.put.ensures

pub put-requires-then-number-lt2048 : goal.put-requires-then-number-lt2048
put-requires-then-number-lt2048 c = rw (le-ltb c.args.number 128 c.if-number-lt128.false, lt-ltb c.args.number 2048 c.if-number-lt2048.true) at c.requires.1

pub returns-then-number-lt2048 : goal.returns-then-number-lt2048
returns-then-number-lt2048 c = rw (le-ltb c.args.number 128 c.if-number-lt128.false, lt-ltb c.args.number 2048 c.if-number-lt2048.true) c.put-then-number-lt2048.ensures

pub put-requires-then-number-lt65536 : goal.put-requires-then-number-lt65536
put-requires-then-number-lt65536 c = rw (le-ltb c.args.number 128 c.if-number-lt128.false, le-ltb c.args.number 2048 c.if-number-lt2048.false, lt-ltb c.args.number 65536 c.if-number-lt65536.true) at c.requires.1

pub returns-then-number-lt65536 : goal.returns-then-number-lt65536
returns-then-number-lt65536 c = rw (le-ltb c.args.number 128 c.if-number-lt128.false, le-ltb c.args.number 2048 c.if-number-lt2048.false, lt-ltb c.args.number 65536 c.if-number-lt65536.true) c.put-then-number-lt65536.ensures

pub put-requires-2 : goal.put-requires-2
put-requires-2 c = rw (le-ltb c.args.number 128 c.if-number-lt128.false, le-ltb c.args.number 2048 c.if-number-lt2048.false, le-ltb c.args.number 65536 c.if-number-lt65536.false) at c.requires.1

pub returns : goal.returns
returns c = rw (le-ltb c.args.number 128 c.if-number-lt128.false, le-ltb c.args.number 2048 c.if-number-lt2048.false, le-ltb c.args.number 65536 c.if-number-lt65536.false) c.put-2.ensures
