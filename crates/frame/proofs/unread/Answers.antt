-- `unread` meets its contract: only decode of a JSON string stops for half a pair, and the rest of the text from the place on tells whether it did.
-- Assumes nothing.
use mathlib.Core.Bool.{Bool}
use mathlib.Core.Path.{sym, ap, ◌∙◌}
use Rattle.frame.specs.Refused.{unread}
use Rattle.jobs.proofs.Found.{four-only, half-there}
use Rattle.frame.proofs.unread.Goals as goal

pub returns-in_default : goal.returns-in_default
returns-in_default c =
    let a = c.args in
    ap (λ (b : Bool). unread b a.place) (sym (four-only a.job a.text.now c.in_default.not-DecodeJson (rw c.requires.0 at c.requires.1)))

pub returns-then-is_lone : goal.returns-then-is_lone
returns-then-is_lone c =
    let a = c.args in
    let j = c.in-DecodeJson.is in
    let h = half-there a.text.now a.place (rw j at c.requires.0) c.is_lone.result c.is_lone.ensures ∙ c.if-is_lone.true in
    rw j (ap (λ (b : Bool). unread b a.place) (sym h))

pub returns : goal.returns
returns c =
    let a = c.args in
    let j = c.in-DecodeJson.is in
    let h = half-there a.text.now a.place (rw j at c.requires.0) c.is_lone.result c.is_lone.ensures ∙ c.if-is_lone.false in
    rw j (ap (λ (b : Bool). unread b a.place) (sym h))
