-- The answer of each refusal.
-- Assumes nothing.
use Rattle.std.specs.Prelude.{Bool, List, ℕ, cond, drop, Result, Ok, Err}
use Rattle.rules.specs.Utf8.{is_cut}
use Rattle.rules.specs.Refusals.{refusal}
use Rattle.rules.specs.declared.Answer.{Answer}
use Rattle.frame.specs.declared.refusals.Refusal.{Refusal}
use Rattle.frame.specs.declared.refusals.Refusal.TheVariants.{BadContext, TooLong, NotUtf8, CutShort, NotAForm, LoneSurrogate, NoRoom, BadRange, BadRequest}

-- The answer of a refusal: its row of the table.
abbrev pub refused : Refusal → Answer
refused BadContext = refusal 5 0 0
refused TooLong = refusal 1 0 0
refused (NotUtf8 p) = refusal 2 0 p
refused (CutShort p) = refusal 7 0 p
refused (NotAForm p) = refusal 4 0 p
refused (LoneSurrogate p) = refusal 10 0 p
refused (NoRoom n) = refusal 3 n 0
refused BadRange = refusal 8 0 0
refused BadRequest = refusal 6 0 0

-- The answer of a call, passed or refused.
abbrev pub answer_in : Result Answer Refusal → Answer
answer_in (Ok a) = a
answer_in (Err why) = refused why

-- The refusal of a text that is valid up to its byte p and no further.
abbrev pub invalid : List ℕ → ℕ → Refusal
invalid t p = cond (is_cut (drop p t)) (CutShort p) (NotUtf8 p)

-- The refusal of a text that is taken up to its byte p and no further; `half` says that half a surrogate pair stands alone there.
abbrev pub unread : Bool → ℕ → Refusal
unread half p = cond half (LoneSurrogate p) (NotAForm p)
