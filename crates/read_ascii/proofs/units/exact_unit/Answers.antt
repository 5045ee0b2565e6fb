-- `exact_unit` meets its contract.
-- Assumes nothing.
use Rattle.read_ascii.specs.Units.{unit_for}
use Rattle.encode_ascii.proofs.Grown.{put_holds}
use Rattle.base.proofs.Filled.{lent-rest}
use Rattle.rules.specs.Bytes.{stands}
use lib.ListN.{length}
use mathlib.Core.Logic.{inl, inr}
use mathlib.Core.Path.{refl, sym, ap, ◌∙◌}
use Rattle.read_ascii.proofs.units.exact_unit.Goals as goal

pub returns-then-n-eq0 : goal.returns-then-n-eq0
returns-then-n-eq0 c = inl (sym c.put_unit-n.ensures.0.0 ∙ c.if-n-eq0.true)

pub slice_bounds-starts-end : goal.slice_bounds-starts-end
slice_bounds-starts-end c = c.put_unit-n.ensures.0.0 ∙ sym (ap length (put_holds (unit_for c.args.code) _ c.put_unit-n.new.room c.put_unit-n.result c.put_unit-n.ensures.0.0 c.put_unit-n.ensures.0.1))

pub returns-then-starts : goal.returns-then-starts
returns-then-starts c = (refl, c.put_unit-n.ensures.0.0, c.if-n-eq0.false, (λ i. stands (sym (put_holds (unit_for c.args.code) _ c.put_unit-n.new.room c.put_unit-n.result c.put_unit-n.ensures.0.0 c.put_unit-n.ensures.0.1) i) (sym (lent-rest c.args.at c.args.text.now) i)) ∙ sym c.starts.ensures ∙ c.if-starts.true)

pub returns : goal.returns
returns c = inr ((λ i. stands (sym (put_holds (unit_for c.args.code) _ c.put_unit-n.new.room c.put_unit-n.result c.put_unit-n.ensures.0.0 c.put_unit-n.ensures.0.1) i) (sym (lent-rest c.args.at c.args.text.now) i)) ∙ sym c.starts.ensures ∙ c.if-starts.false)
