-- The lines that are reported one after the other are those that the program prints; and a text is looked at only where it is at most 8,192 bytes long.
-- Assumes nothing.
use mathlib.Core.Bool.{Bool, true, false, cond}
use mathlib.Core.Option.{some}
use mathlib.Core.Path.{◌≡◌, refl, sym, ap, ◌∙◌}
use mathlib.Core.List.{List, [], ◌++◌, append_assoc, append-nil}
use Prim.Native.Nat.{ℕ, ◌+◌, ◌≤◌, ◌<◌}
use native.Mathlib.Omega.{arith}
use borrow.Author.Tests.{lt-ltb, ltb-true, ltb-false, ne_eqb}
use lib.Dec.{eqb, ltb}
use lib.ListN.{length as size, take, drop, length-append, length-take, drop_of_length-le}
use lib.Seq.{take_all}
use Rattle.rules.specs.Bytes.{ascii, over}
use Rattle.rules.specs.Moves.{Rule, lefts}
use Rattle.rules.specs.References.{decode_char, reference_step}
use Rattle.rules.specs.Reasons.{lefts_in}
use Rattle.rules.specs.Operations.{decode_step}
use Rattle.rules.specs.Refusals.{Case, too_long, case_by, moves_in, answer_at}
use Rattle.rules.specs.Program.{decimal, decoding, left_lines, reasons_of}
use Rattle.rules.specs.declared.Html.TheVariants.{Text}
use Rattle.rules.specs.declared.Context.TheVariants.{InHtml}
use Rattle.rules.proofs.Reasons.{lefts-here}
use Rattle.rules.specs.Moves.{reason_number}
use Rattle.rules.specs.declared.Left.{Left}
use Rattle.decode_html.specs.Taking.{NextLeft}
use Rattle.requests.proofs.Digits.{digits-length}
use Rattle.reports.specs.Lines.{status_of, refusal_line, line_of, lines_from, Reported}

-- The line of a status.
abbrev pub status_line : ℕ → List ℕ
status_line s = ascii "status=" ++ decimal s ++ ascii "\n"

-- What is printed: the line of a refusal, or the lines from the start on.
pub printed : (t : List ℕ) → reasons_of t ≡ refusal_line t ++ cond (eqb (status_of t) 0) (lines_from t 0) []
unfolding reasons_of decode_step reference_step
printed t = go (eqb (status_of t) 0)
  where
    go : (b : Bool) → cond b (left_lines (lefts (moves_in (decoding t)))) (status_line (status_of t)) ≡ cond b [] (status_line (status_of t)) ++ cond b (lines_from t 0) []
    go true = ap left_lines (lefts-here decode_char 0 0 t)
    go false = sym (append-nil (status_line (status_of t)))

-- ---- how much is read

long-case : (rule : Rule) (t : List ℕ) (room : ℕ) → 8192 < size t → case_by (some rule) false 8192 t room ≡ too_long
unfolding case_by
long-case rule t room h = rw (lt-ltb 8192 (size t) h)

long-status : (t : List ℕ) → 8192 < size t → status_of t ≡ 1
long-status t h = ap (λ (row : Case). (answer_at row t (moves_in (decoding t))).status) (long-case (decode_step (InHtml Text)) t 60074 h)

long-text : (t : List ℕ) → 8192 < size t → reasons_of t ≡ status_line 1
unfolding reasons_of
long-text t h = ap (λ (s : ℕ). cond (eqb s 0) (left_lines (lefts (moves_in (decoding t)))) (status_line s)) (long-status t h)

-- The first 8,193 bytes decide what is printed.
pub enough : (n : ℕ) (s : List ℕ) → 8193 ≤ n → reasons_of (take n s) ≡ reasons_of s
enough n s h = go (ltb 8192 (size s)) refl
  where
    go : (b : Bool) → ltb 8192 (size s) ≡ b → reasons_of (take n s) ≡ reasons_of s
    go true e =
        let l = ltb-true 8192 (size s) e in
        long-text (take n s) (omega (arith, l, length-take n s)) ∙ sym (long-text s l)
    go false e = ap reasons_of (take_all n s (omega (arith, ltb-false 8192 (size s) e)))

-- ---- a line

-- What is written over the start of an output is within it.
pub written-within : (w out₀ out : List ℕ) (n : ℕ) → n ≡ size w → out ≡ over w out₀ → n ≤ size out
written-within w out₀ out n e p = omega (arith, e, ap size p ∙ length-append w (drop (size w) out₀))

-- Status 0 has no line of a refusal.
pub passes : (t : List ℕ) (s : ℕ) → s ≡ status_of t → s ≡ 0 → refusal_line t ≡ []
passes t s e z = ap (λ (s : ℕ). cond (eqb s 0) [] (status_line s)) (sym e ∙ z)

-- Any other has the line of its number.
pub refuses : (t : List ℕ) (s : ℕ) → s ≡ status_of t → (s ≡ 0 → ⊥) → refusal_line t ≡ status_line s
refuses t s e z = ap (λ (s : ℕ). cond (eqb s 0) [] (status_line s)) (sym e) ∙ ap (λ (b : Bool). cond b [] (status_line s)) (ne_eqb s 0 z)

-- The line in its two parts: the place, and the reason with the line's end.
pub line-parts : (i r : ℕ) → (ascii "place=" ++ decimal i) ++ (ascii " reason=" ++ decimal r ++ ascii "\n") ≡ line_of i r
line-parts i r = simp append_assoc

-- It takes at most 55 bytes: 15 of names and its end, and two numbers of at most twenty digits.
pub line-room : (i r : ℕ) → size (line_of i r) ≤ 55
line-room i r =
    omega (
      arith,
      ap size (line-parts i r),
      length-append (ascii "place=" ++ decimal i) (ascii " reason=" ++ decimal r ++ ascii "\n"),
      length-append (ascii "place=") (decimal i),
      length-append (ascii " reason=" ++ decimal r) (ascii "\n"),
      length-append (ascii " reason=") (decimal r),
      digits-length 20 i,
      digits-length 20 r,
    )

-- No reference stays from place i on: there is no line, and from a place within the text a report of no bytes that goes on to the text's end says so.
pub none_left : (t out : List ℕ) (i : ℕ) → lefts_in reference_step i (drop i t) ≡ [] → (lines_from t i ≡ []) × (i < size t → Reported t i 0 (size t) out out)
none_left t out i none = (
  ap left_lines none,
  λ h.
      let ended : lefts_in reference_step (size t) (drop (size t) t) ≡ [] = rw (drop_of_length-le t {i = size t} (omega arith)) in
      record {
        lines = [];
        splits = ap left_lines none ∙ sym (ap left_lines ended);
        long = refl;
        holds = refl;
        fits = omega arith;
        on = h;
        within = omega arith;
      },
)

-- A reference stays: its line, and then those from behind its `&` on.
pub one_left : (t out₀ out : List ℕ) (i k : ℕ) (l : Left) → NextLeft t i l → k ≡ size (line_of l.place (reason_number l.reason))
    → out ≡ over (line_of l.place (reason_number l.reason)) out₀ → Reported t i k (l.place + 1) out₀ out
one_left t out₀ out i k l next e w = record {
  lines = line_of l.place (reason_number l.reason);
  splits = ap left_lines next.2;
  long = e;
  holds = w;
  fits = written-within (line_of l.place (reason_number l.reason)) out₀ out k e w;
  on = omega (arith, next.0);
  within = omega (arith, next.1);
}
