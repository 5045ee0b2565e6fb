-- Laws of the moves, for any rule.
-- Assumes nothing.
use mathlib.Core.Path.{◌≡◌, refl, sym, ap, ◌∙◌, subst}
use mathlib.Core.List.{List, [], ◌∷◌, ◌++◌, map, append_assoc, append-nil}
use Prim.Native.Nat.{ℕ, zero, suc, pred, ◌+◌, ◌≤◌}
use native.Mathlib.Nat.{suc_inj, suc-ne-zero, le-add_right}
use native.Mathlib.Omega.{arith}
use lib.ListN.{length, drop, length-append}
use lib.Seq.{drop_at}
use Rattle.rules.specs.Bytes.{All}
use Rattle.rules.specs.Moves.{Move, keep, swap, leave, stop, takes, Rule, and_then, moves, taken, result, replaced, lefts_at, place, through}
use Rattle.rules.specs.declared.Reason.{Reason}
use Rattle.rules.proofs.Tests.{length-pos}

-- ---- where a rule makes given moves, they are the moves of the text

-- The rule makes the move m where its bytes stand and r follows, whatever the byte before; and m takes a byte.
abbrev pub Makes : Rule → Move → List ℕ → Type 0
Makes rule m r = (k : ℕ) × (length (takes m) ≡ suc k) × ((p : ℕ) → rule p (takes m ++ r) ≡ m)

-- The rule makes these moves one after the other, where r follows them.
abbrev pub Follows : Rule → List Move → List ℕ → Type 0
Follows rule [] r = Unit {0}
Follows rule (m ∷ ms) r = Makes rule m (taken ms ++ r) × Follows rule ms r

skipped : (rule : Rule) (p k : ℕ) (xs r : List ℕ) → length xs ≡ k → (q : ℕ) × (moves rule p k (xs ++ r) ≡ moves rule q 0 r)
skipped rule p zero [] r e = (p, refl)
skipped rule p (suc k) [] r e = absurd (suc-ne-zero k (sym e))
skipped rule p zero (x ∷ xs) r e = absurd (suc-ne-zero (length xs) e)
skipped rule p (suc k) (x ∷ xs) r e = skipped rule x k xs r (suc_inj e)

pub and-then : (m : Move) (k : ℕ) (ms : List Move) → length (takes m) ≡ suc k → and_then m ms ≡ m ∷ ms
and-then (keep a) k ms e = refl
and-then (swap a b) k ms e = refl
and-then (leave r a) k ms e = refl
and-then (stop w) k ms e = absurd (suc-ne-zero k (sym e))

-- One move, and then the moves from its end on.
pub one-move : (rule : Rule) (p : ℕ) (m : Move) (r : List ℕ) → Makes rule m r → (q : ℕ) × (moves rule p 0 (takes m ++ r) ≡ m ∷ moves rule q 0 r)
one-move rule p m r h =
    let (k, len, e) = h in
    let (x, xs, eq, l) = length-pos (takes m) k len in
    let (q, sk) = skipped rule x k xs r l in
    let e' : rule p (x ∷ (xs ++ r)) ≡ m = subst (λ (v : List ℕ). rule p (v ++ r) ≡ m) eq (e p) in (
      q,
      ap (λ (v : List ℕ). moves rule p 0 (v ++ r)) eq
          ∙ ap (λ (n : Move). and_then n (moves rule x (pred (length (takes n))) (xs ++ r))) e'
          ∙ ap (λ (j : ℕ). and_then m (moves rule x (pred j) (xs ++ r))) len
          ∙ ap (and_then m) sk
          ∙ and-then m k (moves rule q 0 r) len,
    )

-- Where the rule makes these moves, they are the moves of the text.
pub retrace : (rule : Rule) (p : ℕ) (ms : List Move) (r : List ℕ) → Follows rule ms r → (q : ℕ) × (moves rule p 0 (taken ms ++ r) ≡ ms ++ moves rule q 0 r)
retrace rule p [] r h = (p, refl)
retrace rule p (m ∷ ms) r h =
    let (q, e) = one-move rule p m (taken ms ++ r) h.0 in
    let (q', e') = retrace rule q ms r h.1 in
    (q', ap (moves rule p 0) (append_assoc (takes m) (taken ms) r) ∙ e ∙ ap (λ (ns : List Move). m ∷ ns) e')

-- The same where nothing follows.
pub retrace-all : (rule : Rule) (p : ℕ) (ms : List Move) → Follows rule ms [] → moves rule p 0 (taken ms) ≡ ms
retrace-all rule p ms h = ap (moves rule p 0) (sym (append-nil (taken ms))) ∙ (retrace rule p ms [] h).1 ∙ append-nil ms

pub taken-append : (ms ns : List Move) → taken (ms ++ ns) ≡ taken ms ++ taken ns
taken-append [] ns = refl
taken-append (m ∷ ms) ns = ap (λ (s : List ℕ). takes m ++ s) (taken-append ms ns) ∙ sym (append_assoc (takes m) (taken ms) (taken ns))

pub follows-append : (rule : Rule) (ms ns : List Move) (r : List ℕ) → Follows rule ms (taken ns ++ r) → Follows rule ns r → Follows rule (ms ++ ns) r
follows-append rule [] ns r h i = i
follows-append rule (m ∷ ms) ns r h i =
    (subst (Makes rule m) (sym (ap (λ (s : List ℕ). s ++ r) (taken-append ms ns) ∙ append_assoc (taken ms) (taken ns) r)) h.0, follows-append rule ms ns r h.1 i)

-- ---- of any text: what the moves take stands at its head, and they end at its end or at a stop

-- A good move whose bytes stand at the head of s, at least one.
abbrev pub Stands : (Move → Type 0) → Move → List ℕ → Type 0
Stands good m s = good m × (r : List ℕ) × (s ≡ takes m ++ r) × (k : ℕ) × (length (takes m) ≡ suc k)

-- A move that is fair at s: a stop, or a good move that stands there.
abbrev pub Fair : (Move → Type 0) → Move → List ℕ → Type 0
Fair good (keep a) s = Stands good (keep a) s
Fair good (swap a b) s = Stands good (swap a b) s
Fair good (leave r a) s = Stands good (leave r a) s
Fair good (stop w) s = Unit {0}

-- What is good in one way is fair in another that it implies.
pub fair-map : {good other : Move → Type 0} → ((m : Move) → good m → other m) → (m : Move) (s : List ℕ) → Fair good m s → Fair other m s
fair-map f (keep a) s h = let (g, r, e, k, l) = h in (f (keep a) g, r, e, k, l)
fair-map f (swap a b) s h = let (g, r, e, k, l) = h in (f (swap a b) g, r, e, k, l)
fair-map f (leave r a) s h = let (g, t, e, k, l) = h in (f (leave r a) g, t, e, k, l)
fair-map f (stop w) s h = tt

-- The text ends here, or the rule stops.
abbrev pub Ends : Rule → List ℕ → Type 0
Ends rule [] = Unit {0}
Ends rule (x ∷ xs) = (p : ℕ) × (w : ℕ) × (rule p (x ∷ xs) ≡ stop w)

-- No stop.
abbrev pub Goes : Move → Type 0
Goes (keep a) = Unit {0}
Goes (swap a b) = Unit {0}
Goes (leave r a) = Unit {0}
Goes (stop w) = ⊥

module _ (good : Move → Type 0) (rule : Rule) (fair : (p : ℕ) (s : List ℕ) → Fair good (rule p s) s) where
  -- The moves of a fair rule are good, take what stands at the head of the text, and end at its end or at a stop.
  pub moves-fair : (p k : ℕ) (s : List ℕ) → All good (moves rule p k s) × (r : List ℕ) × (drop k s ≡ taken (moves rule p k s) ++ r) × Ends rule r
  moves-fair p zero [] = (tt, [], refl, tt)
  moves-fair p (suc k) [] = (tt, [], refl, tt)
  moves-fair p (suc k) (x ∷ xs) = moves-fair x k xs
  moves-fair p zero (x ∷ xs) = go (rule p (x ∷ xs)) refl (fair p (x ∷ xs)) (λ k. moves-fair x k xs)
    where
      Rest : List Move → List ℕ → Type 0
      Rest ms s = All good ms × (r : List ℕ) × (s ≡ taken ms ++ r) × Ends rule r

      step : (m : Move) → Stands good m (x ∷ xs) → ((k : ℕ) → Rest (moves rule x k xs) (drop k xs)) → Rest (m ∷ moves rule x (pred (length (takes m))) xs) (x ∷ xs)
      step m h ih =
          let (g, r, eq, k, len) = h in
          let (gs, r', eq', end) = ih (pred (length (takes m))) in
          let d : drop (pred (length (takes m))) xs ≡ r =
          ap (λ (j : ℕ). drop (pred j) xs) len ∙ ap (drop (suc k)) eq ∙ drop_at (takes m) r (suc k) len in (
            (g, gs),
            r',
            eq ∙ ap (λ (s : List ℕ). takes m ++ s) (sym d ∙ eq') ∙ sym (append_assoc (takes m) (taken (moves rule x (pred (length (takes m))) xs)) r'),
            end,
          )

      go : (m : Move) → rule p (x ∷ xs) ≡ m → Fair good m (x ∷ xs) → ((k : ℕ) → Rest (moves rule x k xs) (drop k xs))
          → Rest (and_then m (moves rule x (pred (length (takes m))) xs)) (x ∷ xs)
      go (keep a) e f ih = step (keep a) f ih
      go (swap a b) e f ih = step (swap a b) f ih
      go (leave r a) e f ih = step (leave r a) f ih
      go (stop w) e f ih = (tt, x ∷ xs, refl, (p, w, e))

  -- A rule that never stops takes the whole text.
  pub whole : ((p x : ℕ) (xs : List ℕ) → Goes (rule p (x ∷ xs))) → (s : List ℕ) → taken (through rule s) ≡ s
  whole goes s = let (g, r, e, end) = moves-fair 0 0 s in go r end e
    where
      go : (r : List ℕ) → Ends rule r → s ≡ taken (through rule s) ++ r → taken (through rule s) ≡ s
      go [] end e = sym (e ∙ append-nil (taken (through rule s)))
      go (x ∷ xs) end e = absurd (subst Goes end.2 (goes end.0 x xs))

  -- A rule that takes as many bytes as the text has takes the text.
  pub whole-if : (s : List ℕ) → length s ≤ place (through rule s) → taken (through rule s) ≡ s
  whole-if s h = let (g, r, e, end) = moves-fair 0 0 s in go r e
    where
      none_over : (a b c : ℕ) → a ≤ b → a ≡ b + suc c → ⊥
      none_over a b c h e = omega arith

      go : (r : List ℕ) → s ≡ taken (through rule s) ++ r → taken (through rule s) ≡ s
      go [] e = sym (e ∙ append-nil (taken (through rule s)))
      go (x ∷ xs) e = absurd (none_over (length s) (place (through rule s)) (length xs) h (ap length e ∙ length-append (taken (through rule s)) (x ∷ xs)))

  -- It never takes more than the text.
  pub place-within : (s : List ℕ) → place (through rule s) ≤ length s
  place-within s =
      let (g, r, e, end) = moves-fair 0 0 s in
      subst (λ (n : ℕ). place (through rule s) ≤ n) (sym (ap length e ∙ length-append (taken (through rule s)) r)) (le-add_right (place (through rule s)) (length r))

-- Where nothing is replaced the result is what was taken.
pub same-result : (ms : List Move) → replaced ms ≡ 0 → result ms ≡ taken ms
same-result [] e = refl
same-result (keep a ∷ ms) e = ap (λ (s : List ℕ). a ++ s) (same-result ms e)
same-result (swap a b ∷ ms) e = absurd (suc-ne-zero (replaced ms) e)
same-result (leave r a ∷ ms) e = ap (λ (s : List ℕ). a ++ s) (same-result ms e)
same-result (stop w ∷ ms) e = same-result ms e

-- ---- the other way round, and byte by byte

-- The move that goes back.
abbrev pub turn : Move → Move
turn (keep a) = keep a
turn (swap a b) = swap b a
turn (leave r a) = leave r a
turn (stop w) = stop w

pub taken-turn : (ms : List Move) → taken (map turn ms) ≡ result ms
taken-turn [] = refl
taken-turn (keep a ∷ ms) = ap (λ (s : List ℕ). a ++ s) (taken-turn ms)
taken-turn (swap a b ∷ ms) = ap (λ (s : List ℕ). b ++ s) (taken-turn ms)
taken-turn (leave r a ∷ ms) = ap (λ (s : List ℕ). a ++ s) (taken-turn ms)
taken-turn (stop w ∷ ms) = taken-turn ms

pub result-turn : (ms : List Move) → result (map turn ms) ≡ taken ms
result-turn [] = refl
result-turn (keep a ∷ ms) = ap (λ (s : List ℕ). a ++ s) (result-turn ms)
result-turn (swap a b ∷ ms) = ap (λ (s : List ℕ). a ++ s) (result-turn ms)
result-turn (leave r a ∷ ms) = ap (λ (s : List ℕ). a ++ s) (result-turn ms)
result-turn (stop w ∷ ms) = result-turn ms

-- Each byte kept by itself.
abbrev pub singly : List ℕ → List Move
singly a = map (λ (x : ℕ). keep (x ∷ [])) a

-- Moves with all that is kept cut into single bytes.
abbrev pub cut : List Move → List Move
cut [] = []
cut (keep a ∷ ms) = singly a ++ cut ms
cut (swap a b ∷ ms) = swap a b ∷ cut ms
cut (leave r a ∷ ms) = leave r a ∷ cut ms
cut (stop w ∷ ms) = cut ms

pub taken-singly : (a : List ℕ) (ms : List Move) → taken (singly a ++ ms) ≡ a ++ taken ms
taken-singly [] ms = refl
taken-singly (x ∷ a) ms = ap (λ (s : List ℕ). x ∷ s) (taken-singly a ms)

pub result-singly : (a : List ℕ) (ms : List Move) → result (singly a ++ ms) ≡ a ++ result ms
result-singly [] ms = refl
result-singly (x ∷ a) ms = ap (λ (s : List ℕ). x ∷ s) (result-singly a ms)

pub taken-cut : (ms : List Move) → taken (cut ms) ≡ taken ms
taken-cut [] = refl
taken-cut (keep a ∷ ms) = taken-singly a (cut ms) ∙ ap (λ (s : List ℕ). a ++ s) (taken-cut ms)
taken-cut (swap a b ∷ ms) = ap (λ (s : List ℕ). a ++ s) (taken-cut ms)
taken-cut (leave r a ∷ ms) = ap (λ (s : List ℕ). a ++ s) (taken-cut ms)
taken-cut (stop w ∷ ms) = taken-cut ms

pub result-cut : (ms : List Move) → result (cut ms) ≡ result ms
result-cut [] = refl
result-cut (keep a ∷ ms) = result-singly a (cut ms) ∙ ap (λ (s : List ℕ). a ++ s) (result-cut ms)
result-cut (swap a b ∷ ms) = ap (λ (s : List ℕ). b ++ s) (result-cut ms)
result-cut (leave r a ∷ ms) = ap (λ (s : List ℕ). a ++ s) (result-cut ms)
result-cut (stop w ∷ ms) = result-cut ms

replaced-singly : (a : List ℕ) (ms : List Move) → replaced (singly a ++ ms) ≡ replaced ms
replaced-singly [] ms = refl
replaced-singly (x ∷ a) ms = replaced-singly a ms

pub replaced-cut : (ms : List Move) → replaced (cut ms) ≡ replaced ms
replaced-cut [] = refl
replaced-cut (keep a ∷ ms) = replaced-singly a (cut ms) ∙ replaced-cut ms
replaced-cut (swap a b ∷ ms) = ap suc (replaced-cut ms)
replaced-cut (leave r a ∷ ms) = replaced-cut ms
replaced-cut (stop w ∷ ms) = replaced-cut ms

-- Bytes that are kept one by one leave nothing,
pub lefts-singly : (i : ℕ) (a : List ℕ) (ms : List Move) → lefts_at i (singly a ++ ms) ≡ lefts_at (i + length a) ms
lefts-singly i [] ms = ap (λ (n : ℕ). lefts_at n ms) (let e : i ≡ i + 0 = omega arith in e)
lefts-singly i (x ∷ a) ms =
    lefts-singly (i + 1) a ms ∙ ap (λ (n : ℕ). lefts_at n ms) (let e : i + 1 + length a ≡ i + suc (length a) = omega arith in e)

-- so that the same references stay.
pub lefts-cut : (i : ℕ) (ms : List Move) → lefts_at i (cut ms) ≡ lefts_at i ms
lefts-cut i [] = refl
lefts-cut i (keep a ∷ ms) = lefts-singly i a (cut ms) ∙ lefts-cut (i + length a) ms
lefts-cut i (swap a b ∷ ms) = lefts-cut (i + length a) ms
lefts-cut i (leave r a ∷ ms) = ap (λ (ls : List (ℕ × Reason)). (i, r) ∷ ls) (lefts-cut (i + length a) ms)
lefts-cut i (stop w ∷ ms) = lefts-cut i ms

-- A rule that keeps each byte of what is kept, and makes each swap, has these moves byte by byte, if none leaves a reference.
module _ (rule : Rule) (unit : Move → Type 0) (keeps : (a : List ℕ) → unit (keep a) → (r : List ℕ) → Follows rule (singly a) r)
    (swaps : (a b : List ℕ) → unit (swap a b) → (r : List ℕ) → Makes rule (swap a b) r) (none : (w : Reason) (a : List ℕ) → unit (leave w a) → ⊥) where
  pub follows-cut : (ms : List Move) → All unit ms → (r : List ℕ) → Follows rule (cut ms) r
  follows-cut [] g r = tt
  follows-cut (keep a ∷ ms) g r = follows-append rule (singly a) (cut ms) r (keeps a g.0 (taken (cut ms) ++ r)) (follows-cut ms g.1 r)
  follows-cut (swap a b ∷ ms) g r = (swaps a b g.0 (taken (cut ms) ++ r), follows-cut ms g.1 r)
  follows-cut (leave w a ∷ ms) g r = absurd (none w a g.0)
  follows-cut (stop w ∷ ms) g r = follows-cut ms g.1 r

  -- The moves of such a rule are these, byte by byte.
  pub cut-moves : (p : ℕ) (ms : List Move) → All unit ms → moves rule p 0 (taken ms) ≡ cut ms
  cut-moves p ms g = ap (moves rule p 0) (sym (taken-cut ms)) ∙ retrace-all rule p (cut ms) (follows-cut ms g [])
