-- `read_unit` meets its contract.
-- Assumes nothing.
use Rattle.read_ascii.proofs.Exact.{left-read, value-six, scalar-top, exact_read, odd-read}
use native.Mathlib.Omega.{arith}
use mathlib.Core.Path.{sym, ◌∙◌}
use Rattle.read_ascii.proofs.units.read_unit.Goals as goal

pub find_decoded_entity-requires : goal.find_decoded_entity-requires
find_decoded_entity-requires c = (c.requires.0, c.requires.1)

pub returns-in_default : goal.returns-in_default
returns-in_default c = left-read c.args.text.now c.args.at c.requires.0 c.requires.1 c.in_default.field-0 c.in_default.ensures

pub put_value-requires : goal.put_value-requires
put_value-requires c = (c.in-Ok.ensures.lies.3, omega (arith, value-six c.in-Ok.found.value))

pub slice_bounds-code_of-end : goal.slice_bounds-code_of-end
slice_bounds-code_of-end c = sym c.put_value.auto.output

pub code_of-code-requires : goal.code_of-code-requires
code_of-code-requires c = omega (arith, c.put_value.auto.output)

pub exact_unit-requires : goal.exact_unit-requires
exact_unit-requires c = (scalar-top c.code_of-code.result (sym c.is_scalar.ensures ∙ c.if-is_scalar.true), omega (arith, c.requires.0))

pub returns-then-is_scalar : goal.returns-then-is_scalar
returns-then-is_scalar c = exact_read c.args.text.now c.args.at c.requires.0 c.requires.1 c.in-Ok.found c.in-Ok.ensures c.put_value.new.output _ c.put_value.ensures.1 c.code_of-code.result c.code_of-code.ensures.0 (sym c.is_scalar.ensures ∙ c.if-is_scalar.true) c.exact_unit.result c.exact_unit.ensures

pub returns : goal.returns
returns c = odd-read c.args.text.now c.args.at c.requires.0 c.requires.1 c.in-Ok.found c.in-Ok.ensures c.put_value.new.output _ c.put_value.ensures.1 c.code_of-code.result c.code_of-code.ensures.0 (sym c.is_scalar.ensures ∙ c.if-is_scalar.false)
