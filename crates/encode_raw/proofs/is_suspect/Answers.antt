-- `encode_raw::is_suspect` meets its contract: its tests are the definition's.
-- Assumes nothing.
use mathlib.Core.Path.{refl}
use Rattle.encode_raw.specs.Cuts.{suspect}
use Rattle.encode_raw.proofs.is_suspect.Goals as goal

pub returns : goal.returns
unfolding suspect
returns c = refl
