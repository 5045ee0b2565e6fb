-- One context inside another, of the functions that are linked: what two encode calls wrote is undone by two decode calls, or two takes, the outer one
-- first; and a string is such a double form exactly if check passes it outside, and passes inside what take gives of it.
-- Assumes nothing.
use mathlib.Core.Bool.{Bool}
use mathlib.Core.Logic.{◌↔◌}
use mathlib.Core.Option.{some-ne-none}
use mathlib.Core.Path.{◌≡◌, sym, ap, ◌∙◌, subst}
use mathlib.Core.List.{List}
use Prim.Native.Nat.{ℕ, ◌≤◌}
use native.Mathlib.Omega.{arith}
use lib.Dec.{T}
use lib.ListN.{length as size}
use Rattle.rules.specs.Utf8.{IsText, IsFree}
use Rattle.rules.specs.Units.{IsForm, unread, undecoded}
use Rattle.rules.specs.Operations.{encode_of, read_of}
use Rattle.rules.specs.Nested.{IsNested, carries}
use Rattle.rules.specs.Refusals.{text_limit, Allowed, check_of}
use Rattle.rules.specs.declared.Answer.{Answer}
use Rattle.rules.specs.declared.Checked.{Checked}
use Rattle.rules.specs.declared.Context.{Context}
use Rattle.rules.specs.declared.Operation.{Operation}
use Rattle.rules.specs.declared.Operation.TheVariants.{Encode, Decode, Read}
use Rattle.rules.specs.declared.AnyContext.TheVariants.{Units}
use Rattle.rules.proofs.Laws.{form-within, form-text, read_length}
use Rattle.rules.proofs.Calls.{passed-given, passed-view}
use Rattle.rules.proofs.Back.{passes}
use Rattle.rules.proofs.Nested.{inner-carried, inner-read, nested-form}
use Rattle.lintelrye.proofs.RoundTrip.{Seen, AlwaysGives, there_and_back}

-- A call that passes got a text, within the limit.
given : (op : Operation) (c : Context) (borrows : Bool) (t out : List ℕ) (a : Answer) (o : List ℕ) → Allowed op (Units c) borrows t out a o → a.status ≡ 0
    → IsText t × (size t ≤ text_limit)
given op c borrows t out a o allowed fine = passed-given op (Units c) borrows t out (sym (ap (λ (x : Answer). x.status) allowed.0) ∙ fine)

module _ (outer inner : Context) (fits : T (carries outer inner)) where
  -- Two encode calls that pass, the second one on what the first one wrote.
  module _ (t : List ℕ) (a : Answer) (o : List ℕ) (b : Answer) (p : List ℕ)
      (x : Bool) (room : List ℕ) (inside : Allowed Encode (Units inner) x t room a o) (fine : a.status ≡ 0)
      (y : Bool) (space : List ℕ) (outside : Allowed Encode (Units outer) y (Seen t a o) space b p) (good : b.status ≡ 0)
      (short : size (Seen (Seen t a o) b p) ≤ text_limit) where
    text : IsText t
    text = (given Encode inner x t room a o inside fine).0

    wrote : Seen t a o ≡ encode_of inner t
    wrote = passed-view Encode (Units inner) x t room a o inside fine

    within : size (Seen t a o) ≤ text_limit
    within = (given Encode outer y (Seen t a o) space b p outside good).1

    -- decode outside gives what the first call wrote, and decode inside gives the text: every text, but for the characters that inner decode does not
    -- give back, of which a script string has none.
    pub nested-back : IsFree (undecoded inner) t
        → AlwaysGives Decode outer (Seen (Seen t a o) b p) (Seen t a o) × AlwaysGives Decode inner (Seen t a o) t
    nested-back free = (
      (there_and_back outer).decode-after-encode y (Seen t a o) space b p outside good
          (subst (IsFree (undecoded outer)) (sym wrote) (inner-carried outer inner fits t text)) short,
      (there_and_back inner).decode-after-encode x t room a o inside fine free within,
    )

    -- So do the two takes.
    pub nested-taken : IsFree (unread inner) t → AlwaysGives Read outer (Seen (Seen t a o) b p) (Seen t a o) × AlwaysGives Read inner (Seen t a o) t
    nested-taken free = (
      (there_and_back outer).take-after-encode y (Seen t a o) space b p outside good
          (subst (IsFree (unread outer)) (sym wrote) (inner-read outer inner fits t text)) short,
      (there_and_back inner).take-after-encode x t room a o inside fine free within,
    )

  -- A string within the limit is a double form exactly if check passes it in the outer context, and in the inner one passes what take gives of it.
  pub nested-checked : (s : List ℕ) → size s ≤ text_limit → (k : Checked) → k ≡ check_of (Units outer) s
      → (y : Bool) (out : List ℕ) (a : Answer) (o : List ℕ) → size s ≤ size out → Allowed Read (Units outer) y s out a o
      → (j : Checked) → j ≡ check_of (Units inner) (Seen s a o) → IsNested outer inner s ↔ ((k.status ≡ 0) × (j.status ≡ 0))
  nested-checked s short k is y out a o room allowed j also = (
    λ w. let (f, g) = (nested-form outer inner fits s).0 w in (
      ((there_and_back outer).check-passes s k is).1 (f, short),
      ((there_and_back inner).check-passes (Seen s a o) j also).1 (subst (IsForm inner) (sym (gives f)) g, subst (λ (l : List ℕ). size l ≤ text_limit) (sym (gives f)) less),
    ),
    λ w. let f = (((there_and_back outer).check-passes s k is).0 w.0).0 in
        (nested-form outer inner fits s).1 (f, subst (IsForm inner) (gives f) (((there_and_back inner).check-passes (Seen s a o) j also).0 w.1).0),
  )
    where
      less : size (read_of outer s) ≤ text_limit
      less = let m = read_length outer s in let n = form-within outer s in omega (arith, m, n)

      fitting : size (read_of outer s) ≤ size out
      fitting = let m = read_length outer s in let n = form-within outer s in omega (arith, m, n)

      gives : IsForm outer s → Seen s a o ≡ read_of outer s
      gives f = passed-view Read (Units outer) y s out a o allowed
          (ap (λ (x : Answer). x.status) allowed.0 ∙ passes Read (Units outer) y s out (λ q. some-ne-none _ q) short (form-text outer s f) (λ no. no f) (λ q. q) fitting)
