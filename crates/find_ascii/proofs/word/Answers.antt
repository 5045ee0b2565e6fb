-- `word` meets its contract: the bytes of the number are those of the block.
-- Assumes nothing.
use Rattle.std.proofs.Common.{◌∙◌, ap, List, ℕ}
use Rattle.find_ascii.specs.Words.{word_at}
use Rattle.find_ascii.proofs.Lowest.{word-same}
use Rattle.find_ascii.proofs.word.Goals as goal

pub returns : goal.returns
returns c = c.from_le_bytes.ensures ∙ word-same c.copy_from_slice.new.self ∙ ap (λ (l : List ℕ). word_at l 0 8) c.copy_from_slice.ensures.after
