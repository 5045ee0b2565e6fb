-- `ahead` meets its contract: what is valid up to `i` grows by the part, where it is ASCII, or by the text that the part starts with, where its bytes fit.
-- Assumes nothing.
use Prim.Native.Nat.{◌-◌}
use borrow.Author.Rules.{rules}
use Rattle.utf8.proofs.Texts.{ascii-text, text-part, text-more}
use Rattle.utf8.proofs.ahead.Goals as goal

pub returns-then-is_ascii : goal.returns-then-is_ascii
returns-then-is_ascii c =
    let a = c in
    let e = c.clip-e.result in (
      search rules,
      search rules,
      text-part a.args.text.now a.args.i e (search rules) a.requires.1 (ascii-text _ (c.is_ascii.ensures c.if-is_ascii.true)),
    )

pub returns-then-f-i-lt-WINDOWS_LEAST : goal.returns-then-f-i-lt-WINDOWS_LEAST
returns-then-f-i-lt-WINDOWS_LEAST c = (search rules, search rules, c.requires.1)

pub returns : goal.returns
returns c =
    let a = c in
    let f = c.clip-f.result in (
      search rules,
      search rules,
      text-more a.args.text.now a.args.i (f - a.args.i) c.fitting.result (search rules) a.requires.1 c.fitting.ensures.1,
    )
