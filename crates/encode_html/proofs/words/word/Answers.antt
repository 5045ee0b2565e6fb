-- The choices are those that are computed for every byte in every context.
-- Assumes nothing.
use mathlib.Core.Path.{◌≡◌, sym, ◌∙◌}
use Rattle.base.specs.Words.{word_of}
use Rattle.encode_html.proofs.Choices.{choice3, choice6, word3, word6, word-unquoted}
use Rattle.encode_html.proofs.words.word.Goals as goal

pub returns-then-w : goal.returns-then-w
returns-then-w c =
    let s = c in
    let e = word-unquoted s.args.w.html s.args.b s.ranges.b.fits (sym s.args.w.right.1 ∙ c.if-w.true) in
    c.word_unquoted.ensures ∙ e

pub returns-then-w-2 : goal.returns-then-w-2
unfolding choice3 word_of
returns-then-w-2 c = let s = c in
    let a = s.args in
    let first = c in
    let choice : first.select-x-3.result ≡ choice3 a.w.html a.b =
    rw (first.select-x-3.ensures, first.select-x-2.ensures, first.select-x.ensures, first.plain.ensures, a.w.right.2) in
    choice ∙ word3 a.w.html a.b s.ranges.b.fits (sym s.args.w.right.0 ∙ c.if-w-2.true)

pub returns : goal.returns
unfolding choice3 choice6 word_of
returns c = let s = c in
    let a = s.args in
    let first = c in
    let x : first.select-x-3.result ≡ choice3 a.w.html a.b =
    rw (first.select-x-3.ensures, first.select-x-2.ensures, first.select-x.ensures, first.plain.ensures, a.w.right.2) in
    let y : c.select.result ≡ choice6 a.w.html a.b = rw (c.select.ensures, c.select-x-5.ensures, c.select-x-4.ensures, x, a.w.right.3, a.w.right.4, a.w.right.5) in
    let kind = sym s.args.w.right.1 ∙ c.if-w.false in
    y ∙ word6 a.w.html a.b s.ranges.b.fits kind
