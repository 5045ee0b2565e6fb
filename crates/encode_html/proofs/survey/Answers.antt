-- An unchanged text does not grow, and nothing in it is replaced.
-- Assumes nothing.
use Rattle.std.proofs.Common.{◌≡◌, sym, ◌∙◌, subst, arith}
use Rattle.rules.specs.declared.Html.{Html}
use Rattle.encode_html.specs.Gains.{Grows, Hits, Each, Ascii, Unchanged}
use Rattle.encode_html.proofs.Text.{unchanged-length, unchanged-hits}
use Rattle.encode_html.proofs.survey.Goals as goal

pub returns-then-is_unchanged : goal.returns-then-is_unchanged
returns-then-is_unchanged c =
    let a = c.args in
    let t = a.text.now in
    let f = subst (λ (h : Html). Each (Unchanged h) t) (c.gains_of-g.ensures ∙ c.words_of-w.ensures) (c.is_unchanged.ensures c.if-is_unchanged.true) in
    record { grow_len = (omega (arith, unchanged-length a.h t f), omega arith, sym (unchanged-hits a.h t f)); k_bound = λ e k l. (f k l).1 }

pub returns : goal.returns
returns c =
    let t = c.args.text.now in
    let r = c.count.result in
    let y = subst (λ (h : Html). Grows h t r.grow × Hits h t r.replaced × (r.high ≡ 0 → Each Ascii t)) (c.gains_of-g.ensures ∙ c.words_of-w.ensures) c.count.ensures in
    record { grow_len = (y.0.0, y.0.1, y.1.0); k_bound = y.2 }
