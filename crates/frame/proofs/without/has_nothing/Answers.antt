-- Where the look finds none of the byte, the job's rule keeps every byte (Plain); every other answer is false.
-- Assumes nothing.
use mathlib.Core.Path.{sym, subst}
use Rattle.std.specs.Prelude.{None}
use Rattle.jobs.specs.Jobs.{rule_by, Same}
use Rattle.jobs.specs.declared.job.Job.{Job}
use Rattle.frame.proofs.Plain.{decode-same, browse-same, raw_same}
use Rattle.frame.proofs.without.has_nothing.Goals as goal

pub returns-in-EncodeRaw : goal.returns-in-EncodeRaw
returns-in-EncodeRaw c =
    let t = c.args.text.now in
    λ z. subst (λ (job : Job). Same (rule_by job) t None) (sym c.in-EncodeRaw.is) (raw_same t c.if-text-gt-TEXT_LIMIT.false (c.is_without.ensures z))

pub returns-in-DecodeReferences : goal.returns-in-DecodeReferences
returns-in-DecodeReferences c =
    let t = c.args.text.now in
    λ z. subst (λ (job : Job). Same (rule_by job) t None) (sym c.in-DecodeReferences.is) (decode-same t c.if-text-gt-TEXT_LIMIT.false (c.is_without-in-DecodeReferences.ensures z))

pub returns-in-BrowseReferences : goal.returns-in-BrowseReferences
returns-in-BrowseReferences c =
    let t = c.args.text.now in
    λ z. subst (λ (job : Job). Same (rule_by job) t None) (sym c.in-BrowseReferences.is) (browse-same c.in-BrowseReferences.field-0 t c.if-text-gt-TEXT_LIMIT.false (c.is_without-in-BrowseReferences.ensures z))
