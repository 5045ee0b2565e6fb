-- The first 8,230 bytes of a request decide what is printed: the longest header has 37, and a text is looked at only where it is at most 8,192 bytes
-- long. So a reader may stop there.
-- Assumes nothing.
use mathlib.Core.Bool.{Bool, true, false, ◌&&◌, cond}
use mathlib.Core.Option.{Option, none, some}
use mathlib.Core.Path.{◌≡◌, refl, sym, ap, ◌∙◌}
use mathlib.Core.List.{List, [], ◌∷◌}
use Prim.Native.Nat.{ℕ, zero, suc, ◌+◌, ◌-◌, ◌≤◌, ◌<◌}
use native.Mathlib.Omega.{arith}
use borrow.Author.Tests.{lt-ltb, ltb-true, ltb-false}
use lib.Dec.{T, eqb, leb, ltb, leb→le}
use lib.ListN.{length as size, take, drop, length-take}
use lib.Seq.{take_all, take-nil}
use Rattle.rules.specs.Bytes.{ascii, all, first, stands}
use Rattle.rules.specs.Moves.{Rule, through, result, replaced, place, why_at}
use Rattle.rules.specs.Utf8.{valid_to, is_cut}
use Rattle.rules.specs.Contexts.{Label, context_names, operation_names}
use Rattle.rules.specs.Operations.{rule_of}
use Rattle.rules.specs.Refusals.{Call, Case, moves_of, case_by, refusal as refused, answer_at}
use Rattle.rules.specs.Program.{line, text_of, context_line, printed, shown, printed_call, entity_of}
use Rattle.rules.specs.declared.AnyContext.{AnyContext}
use Rattle.rules.specs.declared.Operation.{Operation}
use Rattle.rules.proofs.Tests.{and_left, and_right}
use Rattle.rules.proofs.Refused.{chosen}
use Rattle.requests.specs.Asked.{printed_by}
use Rattle.requests.proofs.Header.{on_label}

-- ---- the start of a list

-- What stands at its head is told by as many bytes.
stands-cut : (v s : List ℕ) (n : ℕ) → size v ≤ n → stands v (take n s) ≡ stands v s
stands-cut [] s n h = refl
stands-cut (x ∷ v) s zero h = absurd (omega arith)
stands-cut (x ∷ v) [] (suc n) h = refl
stands-cut (x ∷ v) (y ∷ s) (suc n) h = ap (λ (b : Bool). eqb x y && b) (stands-cut v s n (omega arith))

-- Its first bytes go from the start as from the whole.
drop-cut : (k n : ℕ) (s : List ℕ) → k ≤ n → drop k (take n s) ≡ take (n - k) (drop k s)
drop-cut zero n s h = let e : n ≡ n - 0 = omega arith in ap (λ (m : ℕ). take m s) e
drop-cut (suc k) zero s h = absurd (omega arith)
drop-cut (suc k) (suc n) [] h = sym (take-nil (suc n - suc k))
drop-cut (suc k) (suc n) (x ∷ s) h = let e : n - k ≡ suc n - suc k = omega arith in drop-cut k n s (omega arith) ∙ ap (λ (m : ℕ). take m (drop k s)) e

-- ---- the text

module _ (t : List ℕ) (long : 8192 < size t) where
  -- What is printed for a text that is too long, by the rule, if there is one.
  abbrev refusal : Option Rule → List ℕ
  refusal none = printed (refused 5 0 0) []
  refusal (some rule) = printed (refused 1 0 0) []

  abbrev prints : Option Rule → Case → List ℕ
  prints by row = printed (answer_at row t (moves_of by t)) (shown (answer_at row t (moves_of by t)) (result (moves_of by t)))

  -- The text itself does not matter.
  long-text : (by : Option Rule) → prints by (case_by by false 8192 t (60074)) ≡ refusal by
  unfolding case_by
  long-text none = refl
  long-text (some rule) =
      λ i. prints (some rule)
      (chosen (lt-ltb 8192 (size t) long i) (ltb (valid_to t) (size t)) (is_cut (drop (valid_to t) t)) (ltb (place (through rule t)) (size t)) (eqb (why_at rule t) 10) (false && eqb (replaced (through rule t)) 0)
      (ltb (60074) (size (result (through rule t)))))

-- The call of a text.
abbrev pub calls : Operation → AnyContext → List ℕ → Call
calls o c t = record { operation = o; context = c; borrows = false; limit = 8192; text = t; room = 60074 }

call-cut : (o : Operation) (c : AnyContext) (t : List ℕ) (n : ℕ) → 8193 ≤ n → printed_call (calls o c (take n t)) ≡ printed_call (calls o c t)
call-cut o c t n h = go (ltb 8192 (size t)) refl
  where
    go : (b : Bool) → ltb 8192 (size t) ≡ b → printed_call (calls o c (take n t)) ≡ printed_call (calls o c t)
    go true e =
        let l = ltb-true 8192 (size t) e in
        long-text (take n t) (omega (arith, l, length-take n t)) (rule_of o c) ∙ sym (long-text t l (rule_of o c))
    go false e = ap (λ (x : List ℕ). printed_call (calls o c x)) (take_all n t (omega (arith, ltb-false 8192 (size t) e)))

-- ---- the text and the lines before it, whatever is printed for a call

module _ (by : Option Call → List ℕ) where
  -- Where what is printed for a call is told by the first 8,193 bytes of its text, `text=` and they are enough.
  text-cut : (o : Operation) (c : AnyContext) → ((t : List ℕ) (n : ℕ) → 8193 ≤ n → by (some (calls o c (take n t))) ≡ by (some (calls o c t)))
      → (s : List ℕ) (n : ℕ) → 8198 ≤ n → by (text_of o c (take n s)) ≡ by (text_of o c s)
  text-cut o c cut s n h =
      ap (λ (b : Bool). by (cond b (some (calls o c (drop 5 (take n s)))) none)) (stands-cut (ascii "text=") s n (omega arith)) ∙ go (stands (ascii "text=") s)
    where
      go : (b : Bool) → by (cond b (some (calls o c (drop 5 (take n s)))) none) ≡ by (cond b (some (calls o c (drop 5 s))) none)
      go true = ap (λ (x : List ℕ). by (some (calls o c x))) (drop-cut 5 n s (omega arith)) ∙ cut (drop 5 s) (n - 5) (omega arith)
      go false = refl

  module _ {A : Type 0} (field : List ℕ) (k : A → List ℕ → Option Call) (most m : ℕ)
      (rest : (a : A) (s : List ℕ) (n : ℕ) → m ≤ n → by (k a (take n s)) ≡ by (k a s)) (s : List ℕ) (n : ℕ) (h : most + m ≤ n) where
    -- A line before what is cut.
    line-cut : (ls : List (Label A)) → T (all (λ (l : Label A). leb (size (line field l)) most) ls)
        → by (on_label field (take n s) k (first (λ (l : Label A). stands (line field l)) ls (take n s)))
        ≡ by (on_label field s k (first (λ (l : Label A). stands (line field l)) ls s))
    line-cut [] t = refl
    line-cut (l ∷ ls) t =
        let z : size (line field l) ≤ most = leb→le (size (line field l)) most (and_left (leb (size (line field l)) most) (all (λ (l : Label A). leb (size (line field l)) most) ls) t) in
        ap (λ (b : Bool). by (on_label field (take n s) k (elim b [ true ↦ some l | false ↦ first (λ (l : Label A). stands (line field l)) ls (take n s) ])))
        (stands-cut (line field l) s n (omega (arith, z, h)))
        ∙ go (stands (line field l) s) z (line-cut ls (and_right (leb (size (line field l)) most) (all (λ (l : Label A). leb (size (line field l)) most) ls) t))
      where
        go : (b : Bool) → size (line field l) ≤ most
            → by (on_label field (take n s) k (first (λ (l : Label A). stands (line field l)) ls (take n s)))
            ≡ by (on_label field s k (first (λ (l : Label A). stands (line field l)) ls s))
            → by (on_label field (take n s) k (elim b [ true ↦ some l | false ↦ first (λ (l : Label A). stands (line field l)) ls (take n s) ]))
            ≡ by (on_label field s k (elim b [ true ↦ some l | false ↦ first (λ (l : Label A). stands (line field l)) ls s ]))
        go true z p =
            ap (λ (x : List ℕ). by (k l.names x)) (drop-cut (size (line field l)) n s (omega (arith, z, h)))
            ∙ rest l.names (drop (size (line field l)) s) (n - size (line field l)) (omega (arith, z, h))
        go false z p = p

  -- From the line of the context on, the first 8,220 bytes are enough.
  pub context-cut : (o : Operation) → ((c : AnyContext) (t : List ℕ) (n : ℕ) → 8193 ≤ n → by (some (calls o c (take n t))) ≡ by (some (calls o c t)))
      → (s : List ℕ) (n : ℕ) → 8220 ≤ n → by (context_line o (take n s)) ≡ by (context_line o s)
  context-cut o cut s n h = line-cut (ascii "context=") (text_of o) 22 8198 (λ c s n h. text-cut o c (cut c) s n h) s n h context_names tt

-- ---- the whole

-- What comes after the first 8,230 bytes changes nothing.
pub enough : (s : List ℕ) (n : ℕ) → 8230 ≤ n → entity_of (take n s) ≡ entity_of s
unfolding entity_of
enough s n h = line-cut printed_by (ascii "op=") context_line 10 8220 (λ o s n h. context-cut printed_by o (call-cut o) s n h) s n h operation_names tt
