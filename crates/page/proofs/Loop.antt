-- The turns of all records leave the page: as long as none is refused the rest of the page is filled behind them; after a refusal, and above the limit,
-- a turn leaves all as it is.
-- Assumes nothing.
use mathlib.Core.Bool.{Bool, true, false, cond}
use mathlib.Core.Logic.{◌⊎◌, inl, inr}
use mathlib.Core.Path.{◌≡◌, refl, sym, ap, ◌∙◌, subst}
use mathlib.Core.List.{List, [], ◌∷◌, ◌++◌, append_assoc, append-nil, map}
use Prim.Native.Nat.{ℕ, zero, suc, ◌+◌, ◌≤◌, ◌<◌}
use native.Mathlib.Nat.{add-zero, suc-ne-zero}
use native.Mathlib.Omega.{arith}
use borrow.Author.Tests.{eq-eqb, ne_eqb, eqb-true, eqb-false, lt-ltb, le-ltb, ltb-true, ltb-false}
use lib.Dec.{eqb, ltb}
use lib.ListN.{length as size, get_or, set, take, drop, length-set, take-append-drop}
use lib.Seq.{set-get_or, get_or-drop, drop-cons, drop-set-lt, take-suc-set, set_split, take_all, map-set_same, drop-length}
use Rattle.rules.specs.Pages.{single, field_limit, filled_as, answered, Page, behind, output_by, fill_from, page_of}
use Rattle.rules.specs.declared.Answer.{Answer}
use Rattle.rules.specs.declared.Field.{Field}
use Rattle.rules.specs.declared.Filled.{Filled}
use Rattle.rules.proofs.Pages.{single-refused, output-size, fill-passed, fill-refused}
use Rattle.page.specs.Turns.{turned, turned_to, turned_by, output_after, nobody, next, after}

module _ (text : List ℕ) (p : Page) (k : ℕ) where
  abbrev f : Field
  f = get_or p.fields k nobody

  abbrev a : Answer
  a = single text f (drop p.end p.output)

  -- A turn after a refusal, of a record that passes, and of one that is refused.
  next-stopped : (p.filled.status ≡ 0 → ⊥) → next text p k ≡ p
  unfolding turned output_after
  next-stopped h = rw (ne_eqb p.filled.status 0 h) (ap (λ (l : List Field). record { fields = l; output = p.output; filled = p.filled; end = p.end }) (set-get_or p.fields k nobody))

  next-passes : p.filled.status ≡ 0 → a.status ≡ 0
      → next text p k ≡ record { fields = set p.fields k (answered f a p.end); output = output_by text p.end f p.output; filled = p.filled; end = p.end + a.length }
  unfolding turned output_after
  next-passes e q = rw (eq-eqb p.filled.status 0 e, eq-eqb a.status 0 q) refl

  next-stops : p.filled.status ≡ 0 → (a.status ≡ 0 → ⊥)
      → next text p k ≡ record { fields = set p.fields k (answered f a 0); output = p.output; filled = filled_as a.status k; end = p.end }
  unfolding turned output_after
  next-stops e q =
      rw (eq-eqb p.filled.status 0 e, ne_eqb a.status 0 q)
      (ap (λ (l : List ℕ). record { fields = set p.fields k (answered f a 0); output = l; filled = filled_as a.status k; end = p.end })
      (ap (λ (l : List ℕ). take p.end p.output ++ l) (single-refused text f (drop p.end p.output) q) ∙ take-append-drop p.end p.output))

-- ---- what stays through all turns

module _ (text : List ℕ) (fs : List Field) (out : List ℕ) where
  -- As many records, and as many bytes, as there were; and each record keeps its context.
  pub kept-fields : (k : ℕ) → size (after text fs out k).fields ≡ size fs
  kept-fields zero = refl
  kept-fields (suc k) = length-set (after text fs out k).fields k _ ∙ kept-fields k

  pub kept-output : (k : ℕ) → size (after text fs out k).output ≡ size out
  unfolding output_after
  kept-output zero = refl
  kept-output (suc k) = let p = after text fs out k in one (eqb p.filled.status 0) p.end (get_or p.fields k nobody) p.output ∙ kept-output k
    where
      one : (b : Bool) (end : ℕ) (f : Field) (o : List ℕ) → size (cond b (output_by text end f o) o) ≡ size o
      one true end f o = output-size text end f o
      one false end f o = refl

  pub kept-contexts : (k : ℕ) → map (λ (f : Field). f.context) (after text fs out k).fields ≡ map (λ (f : Field). f.context) fs
  unfolding turned
  kept-contexts zero = refl
  kept-contexts (suc k) =
      let p = after text fs out k in
      let f = get_or p.fields k nobody in
      map-set_same (λ (f : Field). f.context) p.fields k _ nobody (one (eqb p.filled.status 0) (single text f (drop p.end p.output)) p.filled p.end f) ∙ kept-contexts k
    where
      two : (b : Bool) (a : Answer) (q : Filled) (end : ℕ) (f : Field) → (cond b (turned_to q (end + a.length) (answered f a end)) (turned_to (filled_as a.status k) end (answered f a 0))).field.context ≡ f.context
      two true a q end f = refl
      two false a q end f = refl

      one : (b : Bool) (a : Answer) (q : Filled) (end : ℕ) (f : Field) → (cond b (turned_by a q end k f) (turned_to q end f)).field.context ≡ f.context
      one true a q end f = two (eqb a.status 0) a q end f
      one false a q end f = refl

-- ---- the turns are the page

module _ (text : List ℕ) (fs : List Field) (out : List ℕ) where
  abbrev n : ℕ
  n = size fs

  abbrev whole : Page
  whole = fill_from text 0 0 fs out

  -- No record of the first k was refused.
  record Goes (k : ℕ) (p : Page) : Type 0 where
    is : p.filled ≡ filled_as 0 n
    rest : drop k p.fields ≡ drop k fs
    fills : whole ≡ behind (take k p.fields) (fill_from text p.end k (drop k fs) p.output)

  -- One was: the page is made.
  abbrev Made : Page → Type 0
  Made p = (p ≡ whole) × (p.filled.status ≡ 0 → ⊥)

  first : (l : List Field) (k : ℕ) → drop k l ≡ drop k fs → get_or l k nobody ≡ get_or fs k nobody
  first l k e = at l ∙ ap (λ (m : List Field). get_or m 0 nobody) e ∙ sym (at fs)
    where
      at : (m : List Field) → get_or m k nobody ≡ get_or (drop k m) 0 nobody
      at m = ap (λ (j : ℕ). get_or m j nobody) (sym (add-zero k)) ∙ sym (get_or-drop k m 0 nobody)

  behind-rest : (l : List Field) (k : ℕ) → drop k l ≡ drop k fs → drop (suc k) l ≡ drop (suc k) fs
  behind-rest l k e = after_one l k ∙ ap (drop 1) e ∙ sym (after_one fs k)
    where
      after_one : (m : List Field) (j : ℕ) → drop (suc j) m ≡ drop 1 (drop j m)
      after_one m zero = refl
      after_one [] (suc j) = refl
      after_one (x ∷ m) (suc j) = after_one m j

  go_on : (k : ℕ) (p : Page) → k < n → size p.fields ≡ n → Goes k p → Goes (suc k) (next text p k) ⊎ Made (next text p k)
  go_on k p h s g = decide (eqb (a text p k).status 0) refl
    where
      e : p.filled.status ≡ 0
      e = ap (λ (q : Filled). q.status) g.is

      here : drop k fs ≡ f text p k ∷ drop (suc k) fs
      here = drop-cons fs k nobody h ∙ ap (λ (x : Field). x ∷ drop (suc k) fs) (sym (first p.fields k g.rest))

      within : k < size p.fields
      within = subst (λ (m : ℕ). k < m) (sym s) h

      starts : whole ≡ behind (take k p.fields) (fill_from text p.end k (f text p k ∷ drop (suc k) fs) p.output)
      starts = g.fills ∙ ap (λ (l : List Field). behind (take k p.fields) (fill_from text p.end k l p.output)) here

      decide : (b : Bool) → eqb (a text p k).status 0 ≡ b → Goes (suc k) (next text p k) ⊎ Made (next text p k)
      decide true q =
          let yes = eqb-true (a text p k).status 0 q in
          let g' = answered (f text p k) (a text p k) p.end in
          let rest = fill_from text (p.end + (a text p k).length) (suc k) (drop (suc k) fs) (output_by text p.end (f text p k) p.output) in
          inl (subst (Goes (suc k)) (sym (next-passes text p k e yes)) (record {
            is = g.is;
            rest = drop-set-lt (suc k) p.fields k g' (omega arith) ∙ behind-rest p.fields k g.rest;
            fills =
                starts ∙ ap (behind (take k p.fields)) (fill-passed text p.end k (f text p k) (drop (suc k) fs) p.output yes)
                ∙ ap (λ (l : List Field). record { fields = l; output = rest.output; filled = rest.filled; end = rest.end })
                (sym (append_assoc (take k p.fields) (g' ∷ []) rest.fields) ∙ ap (λ (l : List Field). l ++ rest.fields) (sym (take-suc-set p.fields k g' within)));
          }))
      decide false q =
          let no = eqb-false (a text p k).status 0 q in
          let g' = answered (f text p k) (a text p k) 0 in
          let ends = next-stops text p k e no in
          inr (
            ends
                ∙ ap (λ (l : List Field). record { fields = l; output = p.output; filled = filled_as (a text p k).status k; end = p.end })
                (set_split p.fields k g' within ∙ ap (λ (l : List Field). take k p.fields ++ g' ∷ l) (behind-rest p.fields k g.rest))
                ∙ sym (starts ∙ ap (behind (take k p.fields)) (fill-refused text p.end k (f text p k) (drop (suc k) fs) p.output no)),
            λ z. no (sym (ap (λ (q : Page). q.filled.status) ends) ∙ z),
          )

  goes : n ≤ field_limit → (k : ℕ) → k ≤ n → Goes k (after text fs out k) ⊎ Made (after text fs out k)
  goes short zero h = inl (record { is = ap (λ (b : Bool). cond b (filled_as 1 0) (filled_as 0 n)) (le-ltb field_limit n short); rest = refl; fills = refl })
  goes short (suc k) h = step (goes short k (omega arith))
    where
      p : Page
      p = after text fs out k

      step : Goes k p ⊎ Made p → Goes (suc k) (next text p k) ⊎ Made (next text p k)
      step (inl g) = go_on k p (omega arith) (kept-fields text fs out k) g
      step (inr (e, s)) = inr (subst Made (sym (next-stopped text p k s)) (e, s))

  ended : n ≤ field_limit → after text fs out n ≡ whole
  unfolding fill_from
  ended short = last (goes short n (omega arith))
    where
      p : Page
      p = after text fs out n

      last : Goes n p ⊎ Made p → p ≡ whole
      last (inr (e, s)) = e
      last (inl g) =
          sym
          (g.fills
          ∙ ap (λ (l : List Field). behind (take n p.fields) (fill_from text p.end n l p.output)) (drop-length fs)
          ∙ (λ i. record { fields = (append-nil (take n p.fields) ∙ take_all n p.fields (subst (λ (m : ℕ). m ≤ n) (sym (kept-fields text fs out n)) (omega arith))) i; output = p.output; filled = sym g.is i; end = p.end }))

  -- Above the limit.
  untouched : field_limit < n → (k : ℕ) → after text fs out k ≡ record { fields = fs; output = out; filled = filled_as 1 0; end = 0 }
  untouched long zero = ap (λ (b : Bool). record { fields = fs; output = out; filled = cond b (filled_as 1 0) (filled_as 0 n); end = 0 }) (lt-ltb field_limit n long)
  untouched long (suc k) =
      let e = untouched long k in
      next-stopped text (after text fs out k) k (λ q. suc-ne-zero 0 (sym (ap (λ (p : Page). p.filled.status) e) ∙ q)) ∙ e

  pub after-all : after text fs out n ≡ page_of text fs out
  unfolding page_of
  after-all = go (ltb field_limit n) refl
    where
      go : (b : Bool) → ltb field_limit n ≡ b → after text fs out n ≡ page_of text fs out
      go true e = untouched (ltb-true field_limit n e) n ∙ ap (λ (b : Bool). cond b (record { fields = fs; output = out; filled = filled_as 1 0; end = 0 }) whole) (sym e)
      go false e = ended (ltb-false field_limit n e) ∙ ap (λ (b : Bool). cond b (record { fields = fs; output = out; filled = filled_as 1 0; end = 0 }) whole) (sym e)
