-- A reply and its answer.
-- Assumes nothing.
use Rattle.std.specs.Prelude.{cond, ◌≡◌, ◌<◌, eqb}
use Rattle.rules.specs.declared.Answer.{Answer}
use Rattle.frame.specs.declared.Reply.{Reply}

-- The answer that a reply tells: its numbers, with 1 or 0 for whether nothing is replaced.
abbrev pub told : Reply → Answer
told r = record { status = r.status; length = r.length; same = cond r.same 1 0; replaced = r.replaced; place = r.place; left = r.left; reason = r.reason }

-- The numbers of an answer fit those of a reply.
abbrev pub Small : Answer → Type 0
Small a = (a.status < 0x100) × (a.same ≡ cond (eqb a.same 1) 1 0) × (a.place < 0x100000000) × (a.reason < 0x100)
