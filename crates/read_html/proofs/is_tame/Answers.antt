-- `is_tame` meets its contract, by the context.
-- Assumes nothing.
use Rattle.read_html.proofs.is_tame.Goals as goal

pub returns-in-Unquoted : goal.returns-in-Unquoted
returns-in-Unquoted c = λ z n. absurd (n c.in-Unquoted.is)

pub returns : goal.returns
returns c = λ z n. c.is_clear.ensures z
