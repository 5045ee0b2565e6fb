-- The layers of a field, one reading after the other: what check and take say of a text is its next layer, the layers off and those left are all of
-- them, and what is below is a text that encode writes within the length of the field.
-- Assumes nothing.
use mathlib.Core.Bool.{Bool, true, false, not, ◌&&◌, cond}
use mathlib.Core.Option.{Option, none, some, some-injective, some-ne-none, none-ne-some}
use mathlib.Core.Path.{◌≡◌, refl, sym, ap, ◌∙◌, subst}
use mathlib.Core.List.{List, []}
use Prim.Native.Nat.{ℕ, zero, suc, ◌+◌, ◌-◌, ◌≤◌, ◌<◌}
use native.Mathlib.Omega.{arith}
use borrow.Author.Tests.{eqb-true, eq-eqb, ne_eqb, ltb-false}
use lib.Dec.{eqb, ltb}
use lib.ListN.{length as size, take}
use Rattle.rules.specs.Bytes.{over}
use Rattle.rules.specs.Moves.{through, result, replaced, place}
use Rattle.rules.specs.Utf8.{IsText}
use Rattle.rules.specs.Units.{IsForm}
use Rattle.rules.specs.Reading.{read_step}
use Rattle.rules.specs.Operations.{encode_of, read_of, read_to}
use Rattle.rules.specs.Refusals.{Call, Case, bad-context, too_long, not-utf8, cut_short, not-a-form, lone-surrogate, lent, no_room, written, Given, Allowed, call, moves_in, case_of, answer_at, out_at, text_limit, case_by, answer_of, out_of, check_of}
use Rattle.rules.specs.declared.Answer.{Answer}
use Rattle.rules.specs.declared.AnyContext.{AnyContext}
use Rattle.rules.specs.declared.AnyContext.TheVariants.{Units, ScriptRaw, Unknown}
use Rattle.rules.specs.declared.Checked.{Checked}
use Rattle.rules.specs.declared.Context.{Context}
use Rattle.rules.specs.declared.Context.TheVariants.{InHtml, InScript, InStyle, InJson, InAscii}
use Rattle.rules.specs.declared.Operation.TheVariants.{Encode, Read}
use Rattle.rules.proofs.Machine.{same-result}
use Rattle.rules.proofs.Laws.{form-iff, form-within, form-text, form-free, read_whole, read_length, encode-read}
use Rattle.rules.proofs.Cut.{cut-no-text}
use Rattle.rules.proofs.Refused.{case-given}
use Rattle.rules.proofs.Calls.{numbers, passed}
use Rattle.rules.proofs.Check.{check-take, check-form, check-length}
use Rattle.repairs.specs.Repair.{reading, writing, peel, layers, core, status_of}
use Rattle.repairs.specs.Layers.{Writable}

-- ---- one reading

-- A reading that takes the whole text, by whether it replaces something.
peel-by : (n : AnyContext) (t : List ℕ) → place (reading n t) ≡ size t → (b : Bool) → eqb (replaced (reading n t)) 0 ≡ b
    → peel n t ≡ cond (not b) (some (result (reading n t))) none
peel-by n t w b q = λ i. cond (eq-eqb (place (reading n t)) (size t) w i && not (q i)) (some (result (reading n t))) none

-- Without a rule no layer comes off.
nothing_read : (t : List ℕ) → ◌≡◌ {A = Option (List ℕ)} none (cond (eqb 0 (size t) && false) (some []) none)
nothing_read t = go (eqb 0 (size t))
  where
    go : (b : Bool) → ◌≡◌ {A = Option (List ℕ)} none (cond (b && false) (some []) none)
    go true = refl
    go false = refl

-- Nor where check refuses.
pub peel-refused : (n : AnyContext) (t : List ℕ) → size t ≤ text_limit → ((check_of n t).status ≡ 0 → ⊥) → none ≡ peel n t
peel-refused (Units c) t h q = go (eqb (read_to c t) (size t)) refl
  where
    go : (b : Bool) → eqb (read_to c t) (size t) ≡ b → none ≡ cond (b && not (eqb (replaced (through (read_step c) t)) 0)) (some (read_of c t)) none
    go true e = absurd (q ((check-form c t).1 ((form-iff c t).1 (eqb-true (read_to c t) (size t) e), h)))
    go false e = refl
peel-refused ScriptRaw t h q = nothing_read t
peel-refused Unknown t h q = nothing_read t

-- What take answers where check passes and the output has room for the text.
pub record Reads (n : AnyContext) (t out : List ℕ) : Type 0 where
  pub long : (answer_of Read n false t out).length ≤ size t
  pub none-off : (answer_of Read n false t out).replaced ≡ 0 → none ≡ peel n t
  pub one-off : ((answer_of Read n false t out).replaced ≡ 0 → ⊥) → some (take (answer_of Read n false t out).length (out_of Read n false t out)) ≡ peel n t

-- check passes nothing without a rule.
no-check : (t : List ℕ) → (((check_of ScriptRaw t).status ≡ 0) → ⊥) × (((check_of Unknown t).status ≡ 0) → ⊥)
unfolding case_by
no-check t = (λ e. numbers 5 0 e tt, λ e. numbers 5 0 e tt)

pub reads : (n : AnyContext) (t out : List ℕ) → (check_of n t).status ≡ 0 → size t ≤ size out → Reads n t out
reads (Units c) t out e r =
    let short : size (read_of c t) ≤ size t = omega (arith, read_length c t, form-within c t) in
    let room : (check_of (Units c) t).length ≤ size out = subst (λ (k : Checked). k.length ≤ size out) (sym (check-length c t e)) (omega (arith, short, r)) in
    let p = passed Read (Units c) false t out (sym (check-take (Units c) false t out room) ∙ e) in
    let by = peel-by (Units c) t (ap size p.whole) in
    record {
      long = omega (arith, p.long, short);
      none-off = λ z. sym (by true (eq-eqb (replaced (reading (Units c) t)) 0 (sym p.count ∙ z)));
      one-off = λ z. ap some (p.head (λ x. z (p.count ∙ x.1))) ∙ sym (by false (ne_eqb (replaced (reading (Units c) t)) 0 (λ q. z (p.count ∙ q))));
    }
reads ScriptRaw t out e r = absurd ((no-check t).0 e)
reads Unknown t out e r = absurd ((no-check t).1 e)

-- ---- again and again

-- What a reading gives, taken apart.
abbrev core_by : ℕ → AnyContext → List ℕ → Option (List ℕ) → List ℕ
core_by k n s none = s
core_by k n s (some u) = core k n u

abbrev layers_by : ℕ → AnyContext → Option (List ℕ) → ℕ
layers_by k n none = 0
layers_by k n (some u) = suc (layers k n u)

pub core-by : (k : ℕ) (n : AnyContext) (s : List ℕ) (o : Option (List ℕ)) → peel n s ≡ o → core (suc k) n s ≡ core_by k n s o
core-by k n s o e = ap (λ (o : Option (List ℕ)). elim o [ none ↦ s | some u ↦ core k n u ]) e ∙ go o
  where
    go : (o : Option (List ℕ)) → ◌≡◌ {A = List ℕ} (elim o [ none ↦ s | some u ↦ core k n u ]) (core_by k n s o)
    go none = refl
    go (some u) = refl

pub layers-by : (k : ℕ) (n : AnyContext) (s : List ℕ) (o : Option (List ℕ)) → peel n s ≡ o → layers (suc k) n s ≡ layers_by k n o
layers-by k n s o e = ap (λ (o : Option (List ℕ)). elim o [ none ↦ 0 | some u ↦ suc (layers k n u) ]) e ∙ go o
  where
    go : (o : Option (List ℕ)) → ◌≡◌ {A = ℕ} (elim o [ none ↦ 0 | some u ↦ suc (layers k n u) ]) (layers_by k n o)
    go none = refl
    go (some u) = refl

-- After i readings of a text t, each of which replaced something, the text is s.
pub record Peeling (n : AnyContext) (t s : List ℕ) (i : ℕ) : Type 0 where
  pub few : i ≤ 4
  pub count : i + layers (4 - i) n s ≡ layers 4 n t
  pub last : core (4 - i) n s ≡ core 4 n t

pub peeling-start : (n : AnyContext) (t : List ℕ) → Peeling n t t 0
peeling-start n t = record { few = omega arith; count = omega arith; last = refl }

module _ {n : AnyContext} {t s : List ℕ} {i : ℕ} (p : Peeling n t s i) where
  left : i < 4 → 4 - i ≡ suc (4 - (i + 1))
  left h = omega arith

  -- One layer more.
  pub peeling-next : (u : List ℕ) → i < 4 → some u ≡ peel n s → Peeling n t u (i + 1)
  peeling-next u h e =
      let l : layers (4 - i) n s ≡ suc (layers (4 - (i + 1)) n u) = ap (λ (k : ℕ). layers k n s) (left h) ∙ layers-by (4 - (i + 1)) n s (some u) (sym e) in
      record {
        few = omega arith;
        count = omega (arith, p.count, l);
        last = sym (ap (λ (k : ℕ). core k n s) (left h) ∙ core-by (4 - (i + 1)) n s (some u) (sym e)) ∙ p.last;
      }

  -- No layer more comes off.
  pub peeling-ends : i < 4 → none ≡ peel n s → (i ≡ layers 4 n t) × (s ≡ core 4 n t)
  peeling-ends h e =
      let l : layers (4 - i) n s ≡ 0 = ap (λ (k : ℕ). layers k n s) (left h) ∙ layers-by (4 - (i + 1)) n s none (sym e) in (
        omega (arith, p.count, l),
        sym (ap (λ (k : ℕ). core k n s) (left h) ∙ core-by (4 - (i + 1)) n s none (sym e)) ∙ p.last,
      )

  -- Or four are off.
  pub peeling-done : 4 ≤ i → (i ≡ layers 4 n t) × (s ≡ core 4 n t)
  peeling-done h =
      let z : 4 - i ≡ 0 = omega arith in
      (omega (arith, p.count, ap (λ (k : ℕ). layers k n s) z), sym (ap (λ (k : ℕ). core k n s) z) ∙ p.last)

-- ---- what is below

module _ (c : Context) where
  -- A reading that replaces something is one of a form.
  pub peel-some : (s u : List ℕ) → peel (Units c) s ≡ some u → IsForm c s × (read_of c s ≡ u)
  peel-some s u e = go (eqb (read_to c s) (size s)) refl (eqb (replaced (through (read_step c) s)) 0) e
    where
      go : (x : Bool) → eqb (read_to c s) (size s) ≡ x → (y : Bool) → cond (x && not y) (some (read_of c s)) none ≡ some u → IsForm c s × (read_of c s ≡ u)
      go true f true e = absurd (none-ne-some u e)
      go true f false e = ((form-iff c s).1 (eqb-true (read_to c s) (size s) f), some-injective (read_of c s) u e)
      go false f y e = absurd (none-ne-some u e)

  -- A form of which no layer comes off is read as itself.
  peel-none : (s : List ℕ) → IsForm c s → peel (Units c) s ≡ none → read_of c s ≡ s
  peel-none s f e = go (eqb (replaced (through (read_step c) s)) 0) refl (rw (eq-eqb (read_to c s) (size s) ((form-iff c s).0 f)) at e)
    where
      go : (y : Bool) → eqb (replaced (through (read_step c) s)) 0 ≡ y → cond (not y) (some (read_of c s)) none ≡ none → read_of c s ≡ s
      go true q e =
          same-result (through (read_step c) s) (eqb-true (replaced (through (read_step c) s)) 0 q)
          ∙ read_whole c s (let z = (form-iff c s).0 f in omega (arith, z))
      go false q e = absurd (some-ne-none (read_of c s) e)

  -- So it is what encode writes for it.
  pub kept : (s : List ℕ) → IsForm c s → peel (Units c) s ≡ none → encode_of c s ≡ s
  kept s f e = sym (ap (encode_of c) (peel-none s f e)) ∙ encode-read c s f

  one-back : (s u : List ℕ) → IsForm c s → read_of c s ≡ u → encode_of c u ≡ s
  one-back s u f e = ap (encode_of c) (sym e) ∙ encode-read c s f

  as_long_lem : (a b : List ℕ) → a ≡ b → size a ≤ size b
  as_long_lem a b e = subst (λ (l : List ℕ). size a ≤ size l) e (omega arith)

  shorter : (s u : List ℕ) → read_of c s ≡ u → size u ≤ size s
  shorter s u e = subst (λ (l : List ℕ). size l ≤ size s) e (let a = read_length c s in let b = form-within c s in omega (arith, a, b))

  -- What is printed is no longer than the stored field.
  pub core-fits : (k : ℕ) (s : List ℕ) → IsForm c s → size (encode_of c (core (suc k) (Units c) s)) ≤ size s
  core-fits zero s f = go (peel (Units c) s) refl
    where
      go : (o : Option (List ℕ)) → peel (Units c) s ≡ o → size (encode_of c (elim o [ none ↦ s | some u ↦ u ])) ≤ size s
      go none e = as_long_lem (encode_of c s) s (kept s f e)
      go (some u) e = as_long_lem (encode_of c u) s (one-back s u f (peel-some s u e).1)
  core-fits (suc k) s f = go (peel (Units c) s) refl (λ u. core-fits k u)
    where
      deep : (s u : List ℕ) → IsForm c s → read_of c s ≡ u → (o : Option (List ℕ)) → peel (Units c) u ≡ o → (IsForm c u → size (encode_of c (core (suc k) (Units c) u)) ≤ size u)
          → size (encode_of c (core (suc k) (Units c) u)) ≤ size s
      deep s u f q none e ih = subst (λ (l : List ℕ). size (encode_of c l) ≤ size s) (sym (core-by k (Units c) u none e)) (as_long_lem (encode_of c u) s (one-back s u f q))
      deep s u f q (some v) e ih = let a = ih (peel-some u v e).0 in let b = shorter s u q in omega (arith, a, b)

      go : (o : Option (List ℕ)) → peel (Units c) s ≡ o → ((u : List ℕ) → IsForm c u → size (encode_of c (core (suc k) (Units c) u)) ≤ size u)
          → size (encode_of c (elim o [ none ↦ s | some u ↦ core (suc k) (Units c) u ])) ≤ size s
      go none e ih = as_long_lem (encode_of c s) s (kept s f e)
      go (some u) e ih = deep s u f (peel-some s u e).1 (peel (Units c) u) refl (ih u)

  -- The last text is a text, no longer than the field.
  pub core-text : (k : ℕ) (s : List ℕ) → IsText s → IsText (core k (Units c) s) × (size (core k (Units c) s) ≤ size s)
  core-text zero s x = (x, omega arith)
  core-text (suc k) s x = go (peel (Units c) s) refl (λ u. core-text k u)
    where
      go : (o : Option (List ℕ)) → peel (Units c) s ≡ o → ((u : List ℕ) → IsText u → IsText (core k (Units c) u) × (size (core k (Units c) u) ≤ size u))
          → IsText (elim o [ none ↦ s | some u ↦ core k (Units c) u ]) × (size {A = ℕ} (elim o [ none ↦ s | some u ↦ core k (Units c) u ]) ≤ size s)
      go none e ih = (x, omega arith)
      go (some u) e ih =
          let (f, q) = peel-some s u e in
          let (cs, g, b, w) = form-free c s f in
          let (a, l) = ih u (subst IsText q (cs, g, w)) in
          (a, omega (arith, l, shorter s u q))

  -- A field that check passes, of at most 8,192 bytes: encode writes its last text within as many.
  within : (t : List ℕ) (b : Bool) → ltb 8192 (size t) ≡ b → cond b 1 (check_of (Units c) t).status ≡ 0 → Writable (Units c) (core 4 (Units c) t) × (size t ≤ 8192)
  within t true l e = absurd (numbers 1 0 e tt)
  within t false l e =
      let f = ((check-form c t).0 e).0 in
      let (x, z) = core-text 4 t (form-text c t f) in
      let m = ltb-false 8192 (size t) l in
      (record { known = λ q. some-ne-none _ q; valid = x; short = omega (arith, z, m); fits = omega (arith, core-fits 3 t f, m) }, m)

-- A field that passes has at most 8,192 bytes, and encode writes its last text within as many.
pub writable : (n : AnyContext) (t : List ℕ) → status_of n t ≡ 0 → Writable n (core 4 n t) × (size t ≤ 8192)
writable (Units (InHtml h)) t = within (InHtml h) t (ltb 8192 (size t)) refl
writable (Units InAscii) t = within InAscii t (ltb 8192 (size t)) refl
writable (Units (InScript q)) t = λ e. absurd (numbers 5 0 e tt)
writable (Units (InStyle q)) t = λ e. absurd (numbers 5 0 e tt)
writable (Units InJson) t = λ e. absurd (numbers 5 0 e tt)
writable ScriptRaw t = λ e. absurd (numbers 5 0 e tt)
writable Unknown t = λ e. absurd (numbers 5 0 e tt)

-- ---- what is written

-- encode passes on such a text, and leaves its result in an output that has room for it.
pub encoded : (n : AnyContext) (t out : List ℕ) (a : Answer) (o : List ℕ) → Writable n t → size (writing n t) ≤ size out → Allowed Encode n false t out a o
    → (a.length ≡ size (writing n t)) × (o ≡ over (writing n t) out)
encoded n t out a o w r allowed = go (case_of k) (case-given k) allowed
  where
    k : Call
    k = call Encode n false t out

    untrue : false ≡ true → ⊥
    untrue e = subst (λ (b : Bool). cond b ⊥ (Unit {0})) e tt

    over-long : (a b : ℕ) → a ≤ b → b < a → ⊥
    over-long a b h q = omega arith

    go : (row : Case) → Given k row → (a ≡ answer_at row t (moves_in k)) × (o ≡ out_at row (moves_in k) out) → (a.length ≡ size (writing n t)) × (o ≡ over (writing n t) out)
    go bad-context h q = absurd (w.known h.0)
    go too_long h q = absurd (over-long (size t) text_limit (omega (arith, w.short)) h.0)
    go not-utf8 h q = absurd (h.0.0 w.valid)
    go cut_short h q = absurd (cut-no-text t h.0 w.valid)
    go not-a-form h q = absurd h.0
    go lone-surrogate h q = absurd h.0
    go lent h q = absurd (untrue h.0.0)
    go no_room h q = absurd (over-long (size (writing n t)) (size out) r h.0)
    go written h q = (ap (λ (a : Answer). a.length) q.0, q.1)
