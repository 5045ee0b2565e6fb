-- `fill_page` meets its contract: at the end all records had their turn, and the turns of all records leave the page (Loop).
-- Assumes nothing.
use Rattle.std.proofs.Common.{◌≡◌, ◌∙◌, ap, length, arith}
use Rattle.rules.specs.Pages.{Page, page_of}
use Rattle.page.specs.Turns.{after}
use Rattle.page.proofs.Loop.{after-all}
use Rattle.page.proofs.fill_page.Goals as goal

pub returns : goal.returns
returns c =
    let a = c.args in
    let l = c.loop-index in
    let p = l.invariant in
    let n : l.index ≡ length a.fields.now = omega arith in
    let e : after a.text.now a.fields.now a.output.now l.index ≡ page_of a.text.now a.fields.now a.output.now =
    ap (after a.text.now a.fields.now a.output.now) n ∙ after-all a.text.now a.fields.now a.output.now in
    (p.2 ∙ ap (λ (q : Page). q.filled) e, p.0 ∙ ap (λ (q : Page). q.fields) e, p.1 ∙ ap (λ (q : Page). q.output) e)
