-- In each context the four words are computed from what is written for `>`, `"`, `'` and `/`.
-- Assumes nothing.
use Rattle.std.proofs.Common.{refl}
use Rattle.rules.specs.Encoding.{encode_step}
use Rattle.base.specs.Words.{word_of}
use Rattle.encode_html.specs.Written.{written}
use Rattle.encode_html.proofs.words.words_of.Goals as goal

pub new-requires : goal.new-requires
unfolding word_of written encode_step
new-requires c = rw c.in-TextMinimal.is (refl, refl, refl, refl, refl, refl)

pub new-requires-in-Text : goal.new-requires-in-Text
unfolding word_of written encode_step
new-requires-in-Text c = rw c.in-Text.is (refl, refl, refl, refl, refl, refl)

pub new-requires-in-DoubleQuoted : goal.new-requires-in-DoubleQuoted
unfolding word_of written encode_step
new-requires-in-DoubleQuoted c = rw c.in-DoubleQuoted.is (refl, refl, refl, refl, refl, refl)

pub new-requires-in-SingleQuoted : goal.new-requires-in-SingleQuoted
unfolding word_of written encode_step
new-requires-in-SingleQuoted c = rw c.in-SingleQuoted.is (refl, refl, refl, refl, refl, refl)

pub new-requires-in-Quoted : goal.new-requires-in-Quoted
unfolding word_of written encode_step
new-requires-in-Quoted c = rw c.in-Quoted.is (refl, refl, refl, refl, refl, refl)

pub new-requires-in-Safe : goal.new-requires-in-Safe
unfolding word_of written encode_step
new-requires-in-Safe c = rw c.in-Safe.is (refl, refl, refl, refl, refl, refl)

pub new-requires-in-Unquoted : goal.new-requires-in-Unquoted
unfolding word_of written encode_step
new-requires-in-Unquoted c = rw c.in-Unquoted.is (refl, refl, refl, refl, refl, refl)
