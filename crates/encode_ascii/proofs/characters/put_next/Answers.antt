-- `put_next` meets its contract: what is written for an ASCII character, or the reference to another (Next).
-- Assumes nothing.
use lib.ListN.{drop}
use Rattle.encode_ascii.proofs.Next.{low-put, high-put}
use Rattle.encode_ascii.proofs.characters.put_next.Goals as goal

pub returns-then-text-at-lt128 : goal.returns-then-text-at-lt128
returns-then-text-at-lt128 c = low-put c.args.text.now c.args.at c.requires.0 c.if-text-at-lt128.true c.put_low-n.result c.changed.result c.args.room.now c.put_low-n.new.room c.put_low-n.ensures.0 c.put_low-n.ensures.1 c.put_low-n.ensures.2 c.changed.ensures

pub returns : goal.returns
returns c = high-put (drop c.args.at c.args.text.now) c.read-c.result c.read-c.ensures c.put_reference.result c.args.room.now c.put_reference.new.room c.put_reference.ensures.0 c.put_reference.ensures.1
