-- `encode_html::look::keys_of` meets its contract: field by field.
-- Assumes nothing.
use Rattle.encode_html.proofs.look.keys_of.Goals as goal

pub returns : goal.returns
returns c = rw (c.key.ensures, c.key-2.ensures, c.key-3.ensures, c.key-4.ensures, c.args.g.right.0, c.args.g.right.2, c.args.g.right.3, c.args.g.right.4, c.args.g.right.5)
