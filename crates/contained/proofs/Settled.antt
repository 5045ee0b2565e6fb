-- What a place does at some bytes is settled by them, whatever follows, where no pattern and no name of a reference goes on past them: a computed test.
-- Assumes nothing.
use mathlib.Core.Bool.{Bool, true, false, not, ◌&&◌, ◌||◌, cond}
use mathlib.Core.Option.{Option, none, some}
use mathlib.Core.Path.{◌≡◌, refl, ap, ◌∙◌}
use mathlib.Core.List.{List, [], ◌∷◌, ◌++◌}
use Prim.Native.Nat.{ℕ, zero, suc, ◌≤◌}
use native.Mathlib.Nat.{not-suc-le-zero, le_of_suc-le-suc}
use lib.Dec.{T, eqb, leb, leb→le}
use lib.ListN.{length, take, drop}
use Rattle.rules.specs.Bytes.{ascii, all, pick, best, fits, opens, stands, one_of}
use Rattle.rules.specs.Moves.{swap}
use Rattle.rules.specs.Tables.{Row, key}
use Rattle.rules.specs.References.{digit, hex_digit_at, number}
use Rattle.rules.specs.Browsing.{identifiers, as_long, matched, ended, goes_on, blocked, unblocked, digits_at, end_at, beside, browsed_as, number_at, reference_at, at_amp}
use Rattle.rules.specs.declared.Kind.{Kind}
use Rattle.rules.specs.declared.Kind.TheVariants.{InText, InAttribute}
use Rattle.rules.proofs.Tests.{and_left, and_right}
use Rattle.places.specs.Places.{Effect, leaves, means, Entry, Place, entry_at, act, act_on, refers, after_amp, place_step}

-- ---- patterns

fits-settled : {B : Type 0} (m : B → ℕ → Bool) (ps : List B) (w r : List ℕ) → T (not (opens m ps w)) → fits m ps (w ++ r) ≡ fits m ps w
fits-settled m [] w r t = refl
fits-settled m (p ∷ ps) [] r t = absurd t
fits-settled m (p ∷ ps) (x ∷ w) r t = go (m p x) t (fits-settled m ps w r)
  where
    go : (b : Bool) → T (not (b && opens m ps w)) → (T (not (opens m ps w)) → fits m ps (w ++ r) ≡ fits m ps w) → (b && fits m ps (w ++ r)) ≡ (b && fits m ps w)
    go true t ih = ih t
    go false t ih = refl

-- No entry goes on past w.
abbrev pub all_settled : List Entry → List ℕ → Bool
all_settled es w = all (λ (e : Entry). not (opens one_of e.0 w)) es

entry-settled : (es : List Entry) (w r : List ℕ) → T (all_settled es w) → entry_at es (w ++ r) ≡ entry_at es w
entry-settled [] w r t = refl
entry-settled (e ∷ es) w r t =
    (λ i. elim (fits-settled one_of e.0 w r (and_left (not (opens one_of e.0 w)) (all_settled es w) t) i) [
      | true ↦ some e
      | false ↦ entry-settled es w r (and_right (not (opens one_of e.0 w)) (all_settled es w) t) i
    ])

-- What the entry takes is within w.
abbrev within_effect : Effect → List ℕ → Bool
within_effect leaves w = true
within_effect (means n f) w = leb n (length w)

abbrev pub within_entry : Option Entry → List ℕ → Bool
within_entry none w = true
within_entry (some e) w = within_effect e.1 w

take_within : (n : ℕ) (w r : List ℕ) → n ≤ length w → take n (w ++ r) ≡ take n w
take_within zero w r h = refl
take_within (suc n) [] r h = absurd (not-suc-le-zero h)
take_within (suc n) (x ∷ w) r h = ap (λ (s : List ℕ). x ∷ s) (take_within n w r (le_of_suc-le-suc h))

act-settled : (d : Effect) (w r : List ℕ) → T (within_effect d w) → act d (w ++ r) ≡ act d w
act-settled leaves w r t = refl
act-settled (means n f) w r t = ap (λ (s : List ℕ). swap s (f s)) (take_within n w r (leb→le n (length w) t))

acted-settled : (o : Option Entry) (x : ℕ) (w r : List ℕ) → T (within_entry o (x ∷ w)) → act_on o (x ∷ (w ++ r)) ≡ act_on o (x ∷ w)
acted-settled none x w r t = refl
acted-settled (some e) x w r t = act-settled e.1 (x ∷ w) r t

-- ---- references

-- No identifier goes on past w.
abbrev names_settled : List Row → List ℕ → Bool
names_settled ids w = all (λ (e : Row). not (opens eqb (key e) w)) ids

-- The longest of some identifiers.
abbrev longest : List Row → List ℕ → Option Row
longest ids s = best as_long (λ (row : Row). stands (key row) s) ids

longest-settled : (ids : List Row) (w r : List ℕ) → T (names_settled ids w) → longest ids (w ++ r) ≡ longest ids w
longest-settled [] w r t = refl
longest-settled (e ∷ ids) w r t =
    (λ i. elim (fits-settled eqb (key e) w r (and_left (not (opens eqb (key e) w)) (names_settled ids w) t) i) [
      | true ↦ some (pick as_long e (longest-settled ids w r (and_right (not (opens eqb (key e) w)) (names_settled ids w) t) i))
      | false ↦ longest-settled ids w r (and_right (not (opens eqb (key e) w)) (names_settled ids w) t) i
    ])

-- The match, if any, has its `;`.
abbrev ended_match : Option Row → Bool
ended_match none = true
ended_match (some e) = ended (key e)

not-blocked : (kind : Kind) (name a b : List ℕ) → T (ended name) → blocked kind name a ≡ blocked kind name b
not-blocked InText name a b t = refl
not-blocked InAttribute name a b t = go (ended name) t
  where
    go : (c : Bool) → T c → (not c && goes_on a) ≡ (not c && goes_on b)
    go true t = refl
    go false t = absurd t

match-settled : (kind : Kind) (o : Option Row) (a b : List ℕ) → T (ended_match o) → unblocked kind a o ≡ unblocked kind b o
match-settled kind none a b t = refl
match-settled kind (some e) a b t =
    ap (λ (c : Bool). cond c none (some e)) (not-blocked kind (key e) (drop (length (key e)) a) (drop (length (key e)) b) t)

-- A byte that is no digit stands in w.
abbrev digits_end : (ℕ → Option ℕ) → List ℕ → Bool
digits_end d [] = false
digits_end d (b ∷ w) = elim (d b) [ none ↦ true | some k ↦ digits_end d w ]

digits-settled : (d : ℕ → Option ℕ) (w r : List ℕ) → T (digits_end d w)
    → (digits_at d (w ++ r) ≡ digits_at d w) × (end_at (drop (length (digits_at d w)) (w ++ r)) ≡ end_at (drop (length (digits_at d w)) w))
digits-settled d [] r t = absurd t
digits-settled d (b ∷ w) r t = go (d b) t (digits-settled d w r)
  where
    Run : Option ℕ → List ℕ → List ℕ
    Run o s = elim o [ none ↦ [] | some k ↦ b ∷ digits_at d s ]

    go : (o : Option ℕ) → T (elim o [ none ↦ true | some k ↦ digits_end d w ])
        → (T (digits_end d w) → (digits_at d (w ++ r) ≡ digits_at d w) × (end_at (drop (length (digits_at d w)) (w ++ r)) ≡ end_at (drop (length (digits_at d w)) w)))
        → (Run o (w ++ r) ≡ Run o w) × (end_at (drop (length (Run o w)) (b ∷ (w ++ r))) ≡ end_at (drop (length (Run o w)) (b ∷ w)))
    go none t ih = (refl, refl)
    go (some k) t ih = let (e, f) = ih t in (ap (λ (s : List ℕ). b ∷ s) e, f)

number-settled : (d : ℕ → Option ℕ) (base : ℕ) (mark w r : List ℕ) → T (digits_end d w) → number_at d base mark (w ++ r) ≡ number_at d base mark w
number-settled d base mark w r t =
    let (e, f) = digits-settled d w r t in
    ap (λ (ds : List ℕ). beside (mark ++ ds ++ end_at (drop (length ds) (w ++ r))) (browsed_as (number d base ds))) e
    ∙ ap (λ (z : List ℕ). beside (mark ++ digits_at d w ++ z) (browsed_as (number d base (digits_at d w)))) f

-- After `&#`.
abbrev hash_settled : List ℕ → Bool
hash_settled [] = false
hash_settled (b ∷ w) = cond (eqb 120 b && true || eqb 88 b && true) (digits_end hex_digit_at w) (digits_end digit (b ∷ w))

-- After `&`.
abbrev pub amp_settled : List ℕ → Bool
amp_settled [] = false
amp_settled (b ∷ w) = cond (eqb 35 b) (hash_settled w) (names_settled identifiers (b ∷ w) && ended_match (matched (b ∷ w)))

-- The reference, by whether a `#` stands here.
abbrev by_hash : Kind → Bool → ℕ → List ℕ → Option Row
by_hash kind c b s =
    cond ((c && stands (ascii "x") s) || (c && stands (ascii "X") s)) (number_at hex_digit_at 16 (take 2 (b ∷ s)) (drop 1 s))
    (cond (c && true) (number_at digit 10 (b ∷ []) s) (unblocked kind (b ∷ s) (matched (b ∷ s))))

hash-settled : (kind : Kind) (b : ℕ) (w r : List ℕ) → T (hash_settled w) → by_hash kind true b (w ++ r) ≡ by_hash kind true b w
hash-settled kind b [] r t = absurd t
hash-settled kind b (x ∷ w) r t = go (eqb 120 x && true || eqb 88 x && true) t
  where
    go : (c : Bool) → T (cond c (digits_end hex_digit_at w) (digits_end digit (x ∷ w)))
        → cond c (number_at hex_digit_at 16 (b ∷ x ∷ []) (w ++ r)) (number_at digit 10 (b ∷ []) (x ∷ (w ++ r)))
        ≡ cond c (number_at hex_digit_at 16 (b ∷ x ∷ []) w) (number_at digit 10 (b ∷ []) (x ∷ w))
    go true t = number-settled hex_digit_at 16 (b ∷ x ∷ []) w r t
    go false t = number-settled digit 10 (b ∷ []) (x ∷ w) r t

pub reference-settled : (kind : Kind) (w r : List ℕ) → T (amp_settled w) → reference_at kind (w ++ r) ≡ reference_at kind w
reference-settled kind [] r t = absurd t
reference-settled kind (b ∷ w) r t = go (eqb 35 b) t
  where
    names : Bool
    names = names_settled identifiers (b ∷ w)

    whole : Bool
    whole = ended_match (matched (b ∷ w))

    go : (c : Bool) → T (cond c (hash_settled w) (names && whole)) → by_hash kind c b (w ++ r) ≡ by_hash kind c b w
    go true t = hash-settled kind b w r t
    go false t =
        ap (unblocked kind (b ∷ (w ++ r))) (longest-settled identifiers (b ∷ w) r (and_left names whole t))
        ∙ match-settled kind (matched (b ∷ w)) (b ∷ (w ++ r)) (b ∷ w) (and_right names whole t)

pub amp-settled : (o : Option Kind) (w r : List ℕ) → T (amp_settled w) → after_amp o (w ++ r) ≡ after_amp o w
amp-settled none w r t = refl
amp-settled (some kind) w r t = ap at_amp (reference-settled kind w r t)

-- ---- the rule

-- What the place does here is settled by these bytes.
abbrev pub settled : Place → List ℕ → Bool
settled p [] = false
settled p (b ∷ w) = cond (refers p.references b) (amp_settled w) (all_settled p.entries (b ∷ w) && within_entry (entry_at p.entries (b ∷ w)) (b ∷ w))

pub step-settled : (p : Place) (q : ℕ) (w r : List ℕ) → T (settled p w) → place_step p q (w ++ r) ≡ place_step p 0 w
unfolding place_step
step-settled p q [] r t = absurd t
step-settled p q (b ∷ w) r t = go (refers p.references b) t
  where
    here : Bool
    here = all_settled p.entries (b ∷ w)

    inside : Bool
    inside = within_entry (entry_at p.entries (b ∷ w)) (b ∷ w)

    go : (c : Bool) → T (cond c (amp_settled w) (here && inside))
        → cond c (after_amp p.references (w ++ r)) (act_on (entry_at p.entries (b ∷ (w ++ r))) (b ∷ (w ++ r)))
        ≡ cond c (after_amp p.references w) (act_on (entry_at p.entries (b ∷ w)) (b ∷ w))
    go true t = amp-settled p.references w r t
    go false t =
        ap (λ (o : Option Entry). act_on o (b ∷ (w ++ r))) (entry-settled p.entries (b ∷ w) r (and_left here inside t))
        ∙ acted-settled (entry_at p.entries (b ∷ w)) b w r (and_right here inside t)
