-- `decode_html::entity::far_end` meets its contract: the next `&`, and the first `;` of the part before it.
-- Assumes nothing.
use Rattle.decode_html.proofs.Bodies.{far_none, far_some}
use Rattle.decode_html.proofs.entity.far_end.Goals as goal

pub returns-then-end-amp : goal.returns-then-end-amp
returns-then-end-amp c = far_none c.args.text.now c.args.from c.find_byte-amp.result c.find_byte.result c.find_byte-amp.ensures c.find_byte.ensures c.if-end-amp.true

pub returns : goal.returns
returns c = far_some c.args.text.now c.args.from c.find_byte-amp.result c.find_byte.result c.find_byte-amp.ensures c.find_byte.ensures c.if-end-amp.false
