-- `is_scalar` meets its contract.
-- Assumes nothing.
use Rattle.read_ascii.proofs.Exact.{scalar-high}
use mathlib.Core.Path.{refl}
use borrow.Author.Tests.{le-leb, lt-leb}
use Rattle.read_ascii.proofs.units.is_scalar.Goals as goal

pub returns-then-code-gt1114111 : goal.returns-then-code-gt1114111
returns-then-code-gt1114111 c = rw (lt-leb c.args.code 0x10FFFF c.if-code-gt1114111.true) refl

pub returns-then-code-lt55296 : goal.returns-then-code-lt55296
returns-then-code-lt55296 c = rw (le-leb c.args.code 0x10FFFF c.if-code-gt1114111.false, lt-leb 0xD800 c.args.code c.if-code-lt55296.true) refl

pub returns : goal.returns
returns c = scalar-high c.args.code c.if-code-gt1114111.false c.if-code-lt55296.false
