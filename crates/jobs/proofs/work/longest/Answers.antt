-- `longest` meets its contract: the bounds of the results (Found), job by job.
-- Assumes nothing.
use native.Mathlib.Omega.{arith}
use Rattle.rules.specs.Contexts.{string_of, written_in}
use Rattle.rules.specs.declared.Context.TheVariants.{InHtml}
use Rattle.rules.specs.declared.Html.TheVariants.{Text}
use Rattle.rules.specs.Operations.{decode_step}
use Rattle.rules.proofs.Growth.{strings-sixfold}
use Rattle.jobs.specs.Jobs.{rule_by}
use Rattle.jobs.proofs.Found.{strings-endless, encode-fits, raw-fits, browse-fits, decode-fits}
use Rattle.jobs.proofs.work.longest.Goals as goal

pub returns-in-EncodeString : goal.returns-in-EncodeString
unfolding rule_by
returns-in-EncodeString c =
    let a = c.in-EncodeString in
    λ t e room h. rw a.is (encode-fits (written_in a.field-0 a.field-1) (strings-sixfold a.field-0 a.field-1) t room (omega arith))

pub returns-in-EncodeRaw : goal.returns-in-EncodeRaw
unfolding rule_by
returns-in-EncodeRaw c = λ t e room h. rw c.in-EncodeRaw.is (raw-fits t room (omega arith))

pub returns-in-DecodeReferences : goal.returns-in-DecodeReferences
unfolding rule_by decode_step
returns-in-DecodeReferences c = λ t e room h. rw c.in-DecodeReferences.is (decode-fits (InHtml Text) tt t room (omega arith))

pub returns-in-DecodeString : goal.returns-in-DecodeString
unfolding rule_by
returns-in-DecodeString c =
    let a = c.in-DecodeString in
    λ t e room h. rw a.is (decode-fits (string_of a.field-0 a.field-1) (strings-endless a.field-0 a.field-1) t room (omega arith))

pub returns-in-BrowseReferences : goal.returns-in-BrowseReferences
unfolding rule_by
returns-in-BrowseReferences c = λ t e room h. rw c.in-BrowseReferences.is (browse-fits c.in-BrowseReferences.field-0 t room (omega arith))
