-- Places that are left at a `<` only: what has no `<` stays there, before one. So does each form of every context that replaces `<`, also where an `&` of the
-- form takes bytes behind it for a reference, since no reference has a `<`.
-- Assumes nothing.
use mathlib.Core.Bool.{Bool, true, false, not, ◌&&◌, ◌||◌, cond}
use mathlib.Core.Logic.{◌⊎◌, inl, inr}
use mathlib.Core.Option.{Option, none, some, none-ne-some}
use mathlib.Core.Path.{◌≡◌, refl, sym, ap, ◌∙◌, subst}
use mathlib.Core.List.{List, [], ◌∷◌, ◌++◌, append-nil}
use Prim.Native.Nat.{ℕ, zero, suc, pred, ◌<◌}
use native.Mathlib.Nat.{suc_inj, suc-ne-zero}
use lib.Dec.{T, eqb, leb, eqb→eq, T_not}
use lib.ListN.{length, take, drop}
use Rattle.rules.specs.Bytes.{ascii, In, All, all, any, fits, stands, one_of, same_bytes}
use Rattle.rules.specs.Moves.{Move, keep, swap, leave, stop, takes, and_then, moves, through, taken}
use Rattle.rules.specs.Utf8.{IsText}
use Rattle.rules.specs.Tables.{Row, key, value, table, replaced_chars}
use Rattle.rules.specs.Units.{IsUnit}
use Rattle.rules.specs.Names.{names}
use Rattle.rules.specs.Bare.{bare}
use Rattle.rules.specs.References.{digit, hex_digit_at}
use Rattle.rules.specs.Browsing.{identifiers, digits_at, end_at, reference_at, at_amp}
use Rattle.rules.specs.Operations.{encode_of}
use Rattle.rules.specs.declared.Kind.{Kind}
use Rattle.rules.specs.declared.Context.{Context}
use Rattle.rules.proofs.Tests.{and_left, and_right, and_both, or_cases, or-false, all_in, first-sound, same_bytes_lem, same_in, stands_self, stands-split}
use Rattle.rules.proofs.Chars.{is_tail, char-tails}
use Rattle.rules.proofs.Encoder.{encode-run, table-run}
use Rattle.rules.proofs.Browsing.{Cases, reference-cases, reference-here}
use Rattle.places.specs.Places.{Effect, leaves, means, single, Entry, Place, entry_at, act, act_on, refers, after_amp, place_step}
use Rattle.contained.proofs.Steps.{goes, prev-free, step-free, then_append, taken_then, leaves_at, left_there}
use Rattle.contained.proofs.Heads.{single-takes, char-case}
use Rattle.contained.proofs.Ruled.{rule-bytes}

-- No `<`.
abbrev pub no_less : List ℕ → Bool
no_less w = all (λ (b : ℕ). not (eqb b 60)) w

less-append : (a b : List ℕ) → T (no_less a) → T (no_less b) → T (no_less (a ++ b))
less-append [] b s t = t
less-append (x ∷ a) b s t = and_both (not (eqb x 60)) (no_less (a ++ b)) (and_left (not (eqb x 60)) (no_less a) s) (less-append a b (and_right (not (eqb x 60)) (no_less a) s) t)

-- The move takes the byte b and some bytes of w behind it, and goes.
abbrev Reaches : ℕ → List ℕ → Move → Type 0
Reaches b w m = (u : List ℕ) × (v : List ℕ) × (w ≡ u ++ v) × (takes m ≡ b ∷ u) × T (goes m)

reach-one : (b : ℕ) (w : List ℕ) (m : Move) → takes m ≡ b ∷ [] → T (goes m) → Reaches b w m
reach-one b w m e g = ([], w, refl, e, g)

-- ---- a reference has no `<`

names-less : T (all (λ (e : Row). no_less (key e)) identifiers)
unfolding names bare identifiers
names-less = tt

digits-less : (d : ℕ → Option ℕ) → d 60 ≡ none → (s : List ℕ) → T (no_less (digits_at d s))
digits-less d n [] = tt
digits-less d n (b ∷ s) = go (d b) refl (digits-less d n s)
  where
    go : (o : Option ℕ) → d b ≡ o → T (no_less (digits_at d s)) → T (no_less (elim o [ none ↦ [] | some k ↦ b ∷ digits_at d s ]))
    go none q ih = tt
    go (some k) q ih = and_both (not (eqb b 60)) (no_less (digits_at d s)) (other (eqb b 60) refl) ih
      where
        other : (x : Bool) → eqb b 60 ≡ x → T (not x)
        other false e = tt
        other true e = absurd (none-ne-some k (sym n ∙ sym (ap d (eqb→eq b 60 (subst T (sym e) tt))) ∙ q))

end-less : (s : List ℕ) → T (no_less (end_at s))
end-less s = go (stands (ascii ";") s)
  where
    go : (b : Bool) → T (no_less (cond b (ascii ";") []))
    go true = tt
    go false = tt

-- The mark of a number.
mark-less : (mark s : List ℕ) → T (no_less mark) → T (stands mark s) → T (no_less (take (length mark) s))
mark-less mark s n t = let (r, e) = stands-split mark s t in subst (λ (w : List ℕ). T (no_less (take (length mark) w))) (sym e) (subst (λ (w : List ℕ). T (no_less w)) (sym (take-append mark r)) n)
  where
    take-append : (a r : List ℕ) → take (length a) (a ++ r) ≡ a
    take-append [] r = refl
    take-append (x ∷ a) r = ap (λ (l : List ℕ). x ∷ l) (take-append a r)

reference-less : (kind : Kind) (s : List ℕ) (row : Row) → reference_at kind s ≡ some row → T (no_less (key row))
reference-less kind s row e = go (reference-cases kind s row e)
  where
    number : (d : ℕ → Option ℕ) → d 60 ≡ none → (mark w : List ℕ) → T (no_less mark) → key row ≡ mark ++ digits_at d w ++ end_at (drop (length (digits_at d w)) w) → T (no_less (key row))
    number d n mark w m q =
        subst (λ (l : List ℕ). T (no_less l)) (sym q)
        (less-append (mark ++ digits_at d w) (end_at (drop (length (digits_at d w)) w)) (less-append mark (digits_at d w) m (digits-less d n w)) (end-less (drop (length (digits_at d w)) w)))

    either : T (stands (ascii "#x") s) ⊎ T (stands (ascii "#X") s) → T (no_less (take 2 s))
    either (inl t) = mark-less (ascii "#x") s tt t
    either (inr t) = mark-less (ascii "#X") s tt t

    go : Cases kind s row → T (no_less (key row))
    go (inl (l, b)) = all_in (λ (e : Row). no_less (key e)) identifiers names-less row l.0
    go (inr (inl (t, c))) = number hex_digit_at refl (take 2 s) (drop 2 s) (either (or_cases (stands (ascii "#x") s) (stands (ascii "#X") s) t)) c.0
    go (inr (inr (t, c))) = number digit refl (take 1 s) (drop 1 s) (mark-less (ascii "#") s tt t) c.0

-- What has no `<` and stands before one ends before it.
stands-within : (k w r : List ℕ) → T (no_less k) → T (stands k (w ++ 60 ∷ r)) → (v : List ℕ) × (w ≡ k ++ v)
stands-within [] w r n s = (w, refl)
stands-within (x ∷ k) [] r n s = absurd (T_not (eqb x 60) (and_left (not (eqb x 60)) (no_less k) n) (and_left (eqb x 60) (stands k r) s))
stands-within (x ∷ k) (y ∷ w) r n s =
    let (v, e) = stands-within k w r (and_right (not (eqb x 60)) (no_less k) n) (and_right (eqb x y) (stands k (w ++ 60 ∷ r)) s) in
    (v, λ i. sym (eqb→eq x y (and_left (eqb x y) (stands k (w ++ 60 ∷ r)) s)) i ∷ e i)

amp-reaches : (o : Option Kind) (w r : List ℕ) → Reaches 38 w (after_amp o (w ++ 60 ∷ r))
amp-reaches none w r = reach-one 38 w (keep (38 ∷ [])) refl tt
amp-reaches (some kind) w r = go (reference_at kind (w ++ 60 ∷ r)) refl
  where
    go : (o : Option Row) → reference_at kind (w ++ 60 ∷ r) ≡ o → Reaches 38 w (at_amp o)
    go none q = reach-one 38 w (keep (38 ∷ [])) refl tt
    go (some row) q =
        let (z, e) = reference-here kind (w ++ 60 ∷ r) row q in
        let (v, f) = stands-within (key row) w r (reference-less kind (w ++ 60 ∷ r) row q) (subst (λ (s : List ℕ). T (stands (key row) s)) (sym e) (stands_self (key row) z)) in
        (key row, v, f, refl, tt)

-- ---- the place

-- The pattern begins with `<`.
abbrev from_less : List (List ℕ) → Bool
from_less [] = false
from_less (set ∷ ps) = same_bytes set (60 ∷ [])

-- Each entry begins with `<`, or takes one byte.
abbrev pub less_only : Place → Bool
less_only p = all (λ (e : Entry). from_less e.0 || single e.1) p.entries

from_less_lem : (ps : List (List ℕ)) (b : ℕ) (s : List ℕ) → T (from_less ps) → T (fits one_of ps (b ∷ s)) → T (eqb b 60)
from_less_lem [] b s t f = absurd t
from_less_lem (set ∷ ps) b s t f = or-false (eqb b 60) (subst (λ (set : List ℕ). T (one_of set b)) (same_bytes_lem set (60 ∷ []) t) (and_left (one_of set b) (fits one_of ps s) f))

is-amp : (o : Option Kind) (b : ℕ) → T (refers o b) → b ≡ 38
is-amp none b t = absurd t
is-amp (some kind) b t = eqb→eq b 38 t

single-goes : (d : Effect) (s : List ℕ) → T (single d) → T (goes (act d s))
single-goes leaves s t = absurd t
single-goes (means n f) s t = tt

module _ (p : Place) (ok : T (less_only p)) where
  step-reaches : (b : ℕ) (w r : List ℕ) → (T (eqb b 60) → ⊥) → Reaches b w (place_step p 0 (b ∷ (w ++ 60 ∷ r)))
  unfolding place_step
  step-reaches b w r n = go (refers p.references b) refl
    where
      entry : (o : Option Entry) → entry_at p.entries (b ∷ (w ++ 60 ∷ r)) ≡ o → Reaches b w (act_on o (b ∷ (w ++ 60 ∷ r)))
      entry none q = reach-one b w (keep (b ∷ [])) refl tt
      entry (some e) q =
          let (i, f) = first-sound (λ (e : Entry). fits one_of e.0) p.entries (b ∷ (w ++ 60 ∷ r)) e q in
          cases (or_cases (from_less e.0) (single e.1) (all_in (λ (e : Entry). from_less e.0 || single e.1) p.entries ok e i)) f
        where
          cases : T (from_less e.0) ⊎ T (single e.1) → T (fits one_of e.0 (b ∷ (w ++ 60 ∷ r))) → Reaches b w (act e.1 (b ∷ (w ++ 60 ∷ r)))
          cases (inl t) f = absurd (n (from_less_lem e.0 b (w ++ 60 ∷ r) t f))
          cases (inr t) f = reach-one b w (act e.1 (b ∷ (w ++ 60 ∷ r))) (single-takes e.1 b (w ++ 60 ∷ r) t) (single-goes e.1 (b ∷ (w ++ 60 ∷ r)) t)

      go : (c : Bool) → refers p.references b ≡ c → Reaches b w (cond c (after_amp p.references (w ++ 60 ∷ r)) (act_on (entry_at p.entries (b ∷ (w ++ 60 ∷ r))) (b ∷ (w ++ 60 ∷ r))))
      go false q = entry (entry_at p.entries (b ∷ (w ++ 60 ∷ r))) refl
      go true q = subst (λ (x : ℕ). Reaches x w (after_amp p.references (w ++ 60 ∷ r))) (sym (is-amp p.references b (subst T (sym q) tt))) (amp-reaches p.references w r)

  -- Through bytes without `<`, of which the first belong to the move before.
  less_moves : (w : List ℕ) → T (no_less w) → (k : ℕ) (u v : List ℕ) → w ≡ u ++ v → length u ≡ k → (q : ℕ) (r : List ℕ)
      → (ms : List Move) × (moves (place_step p) q k (w ++ 60 ∷ r) ≡ ms ++ moves (place_step p) 0 0 (60 ∷ r)) × (taken ms ≡ v)
  less_moves [] n k [] v e l q r = ([], subst (λ (k : ℕ). moves (place_step p) q k (60 ∷ r) ≡ moves (place_step p) 0 0 (60 ∷ r)) l (prev-free p q 0 (60 ∷ r)), e)
  less_moves [] n k (x ∷ u) v e l q r = absurd (suc-ne-zero (length (u ++ v)) (sym (ap length e)))
  less_moves (b ∷ w) n zero (x ∷ u) v e l q r = absurd (suc-ne-zero (length u) l)
  less_moves (b ∷ w) n (suc k) [] v e l q r = absurd (suc-ne-zero k (sym l))
  less_moves (b ∷ w) n (suc k) (x ∷ u) v e l q r = less_moves w (and_right (not (eqb b 60)) (no_less w) n) k u v (ap (drop 1) e) (suc_inj l) b r
  less_moves (b ∷ w) n zero [] v e l q r =
      let m = place_step p 0 (b ∷ (w ++ 60 ∷ r)) in
      let (u', v', z, t, g) = step-reaches b w r (T_not (eqb b 60) (and_left (not (eqb b 60)) (no_less w) n)) in
      let len : pred (length (takes m)) ≡ length u' = ap (λ (s : List ℕ). pred (length s)) t in
      let (ms, f, y) = less_moves w (and_right (not (eqb b 60)) (no_less w) n) (length u') u' v' z refl b r in (
        and_then m ms,
        ap (λ (x : Move). and_then x (moves (place_step p) b (pred (length (takes x))) (w ++ 60 ∷ r))) (step-free p q b (w ++ 60 ∷ r))
            ∙ ap (λ (j : ℕ). and_then m (moves (place_step p) b j (w ++ 60 ∷ r))) len ∙ ap (and_then m) f ∙ then_append m ms (moves (place_step p) 0 0 (60 ∷ r)) g,
        taken_then m ms g ∙ (λ i. t i ++ y i) ∙ ap (λ (s : List ℕ). b ∷ s) (sym z) ∙ e,
      )

-- ---- the contexts

-- The context replaces `<`,
abbrev replaces_less : Context → Bool
replaces_less c = any (same_bytes (60 ∷ [])) (replaced_chars c)

-- and writes none.
abbrev writes_no_less : Context → Bool
writes_no_less c = all (λ (e : Row). no_less (value e)) (table c)

abbrev pub less_free : Context → Bool
less_free c = replaces_less c && writes_no_less c

high-less : (x : ℕ) → T (leb 0x80 x) → T (not (eqb x 60))
high-less x h = go (eqb x 60) refl
  where
    go : (b : Bool) → eqb x 60 ≡ b → T (not b)
    go true q = absurd (subst (λ (y : ℕ). T (leb 0x80 y)) (eqb→eq x 60 (subst T (sym q) tt)) h)
    go false q = tt

tails-less : (a : List ℕ) → T (all is_tail a) → T (no_less a)
tails-less [] t = tt
tails-less (y ∷ a) t =
    let here = and_left (is_tail y) (all is_tail a) t in
    and_both (not (eqb y 60)) (no_less a) (high-less y (and_left (leb 0x80 y) (leb y 0xBF) here)) (tails-less a (and_right (is_tail y) (all is_tail a) t))

module _ (c : Context) (ok : T (less_free c)) where
  unit-less : (u : Move) → IsUnit c (table c) u → T (no_less (takes u))
  unit-less (keep []) u = tt
  unit-less (keep (x ∷ a)) u = and_both (not (eqb x 60)) (no_less a) (go (char-case x a u.0)) (tails-less a (char-tails x a u.0))
    where
      go : ((x < 128) × (a ≡ [])) ⊎ T (leb 0x80 x) → T (not (eqb x 60))
      go (inr h) = high-less x h
      go (inl l) = other (eqb x 60) refl
        where
          other : (b : Bool) → eqb x 60 ≡ b → T (not b)
          other false q = tt
          other true q = absurd (u.1 (subst (λ (z : List ℕ). In z (replaced_chars c)) (λ i. sym (eqb→eq x 60 (subst T (sym q) tt)) i ∷ sym l.1 i)
              (same_in (60 ∷ []) (replaced_chars c) (and_left (replaces_less c) (writes_no_less c) ok))))
  unit-less (swap v k) (inl i) = all_in (λ (e : Row). no_less (value e)) (table c) (and_right (replaces_less c) (writes_no_less c) ok) (k, v) i
  unit-less (swap v k) (inr e) = rule-bytes c (λ (b : ℕ). not (eqb b 60)) tt k v e
  unit-less (leave x a) u = absurd u
  unit-less (stop w) u = absurd u

  run-less : (us : List Move) → All (IsUnit c (table c)) us → T (no_less (taken us))
  run-less [] g = tt
  run-less (u ∷ us) g = less-append (takes u) (taken us) (unit-less u g.0) (run-less us g.1)

  -- No form has a `<`.
  pub form-less : (s : List ℕ) → IsText s → T (no_less (encode_of c s))
  form-less s t =
      let (cs, h, e) = t in
      let (us, g, q) = table-run c cs h in
      subst (λ (w : List ℕ). T (no_less w)) (sym (ap (encode_of c) (e ∙ q) ∙ encode-run c us g)) (run-less us g)

  -- Every text: a place that is left at `<` only is left behind the form, where that is followed by an end that begins with `<`.
  pub less-contained : (p : Place) → T (less_only p) → (end : List ℕ) → T (leaves_at p (60 ∷ end)) → (s : List ℕ) → IsText s → (r : List ℕ)
      → taken (through (place_step p) (encode_of c s ++ (60 ∷ end ++ r))) ≡ encode_of c s
  less-contained p lo end l s t r =
      let w = encode_of c s in
      let (ms, f, y) = less_moves p lo w (form-less s t) 0 [] w refl refl 0 (end ++ r) in
      ap taken (f ∙ ap (λ (ns : List Move). ms ++ ns) (left_there p (60 ∷ end) r l) ∙ append-nil ms) ∙ y
