-- `names::common` meets its contract: each of the common names is looked up in the table, by computing.
-- Assumes nothing.
use mathlib.Core.Path.{refl}
use native.Mathlib.Omega.{arith}
use Rattle.std.proofs.lemmas.Slice.Eq.{text_from_reads}
use Rattle.rules.specs.Bytes.{ascii}
use Rattle.rules.specs.Names.{names}
use Rattle.names.proofs.Letters.{known}
use Rattle.names.proofs.common.Goals as goal

pub returns-in-lt : goal.returns-in-lt
unfolding names
returns-in-lt c = known (ascii "lt") _ c.args.name.now refl (text_from_reads _ (ascii "lt") (omega arith) (omega arith, (omega arith, tt)))

pub returns-in-gt : goal.returns-in-gt
unfolding names
returns-in-gt c = known (ascii "gt") _ c.args.name.now refl (text_from_reads _ (ascii "gt") (omega arith) (omega arith, (omega arith, tt)))

pub returns-in-quot : goal.returns-in-quot
unfolding names
returns-in-quot c = known (ascii "quot") _ c.args.name.now refl (text_from_reads _ (ascii "quot") (omega arith) (omega arith, (omega arith, (omega arith, (omega arith, tt)))))

pub returns-in-apos : goal.returns-in-apos
unfolding names
returns-in-apos c = known (ascii "apos") _ c.args.name.now refl (text_from_reads _ (ascii "apos") (omega arith) (omega arith, (omega arith, (omega arith, (omega arith, tt)))))

pub returns-in-nbsp : goal.returns-in-nbsp
unfolding names
returns-in-nbsp c = known (ascii "nbsp") _ c.args.name.now refl (text_from_reads _ (ascii "nbsp") (omega arith) (omega arith, (omega arith, (omega arith, (omega arith, tt)))))
