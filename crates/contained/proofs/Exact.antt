-- Every text, with no exception: what a place holds of a form is the text as the place's own input stage leaves it (CR LF and CR as LF, NUL as U+FFFD or
-- dropped), where the context copies what that stage changes and the end begins with no byte that it looks for. Of what is written by rule the text has the
-- character that a browser takes it for.
-- Assumes nothing.
use mathlib.Core.Bool.{Bool, true, false, not, ◌&&◌, ◌||◌}
use mathlib.Core.Logic.{◌⊎◌, inl, inr}
use mathlib.Core.Option.{Option, none, some}
use mathlib.Core.Path.{◌≡◌, refl, sym, ap, ◌∙◌, subst}
use mathlib.Core.List.{List, [], ◌∷◌, ◌++◌, map, append_assoc, append-nil}
use Prim.Native.Nat.{ℕ, ◌<◌}
use lib.Dec.{T, leb, eqb→eq, T_not}
use lib.ListN.{take}
use Rattle.rules.specs.Bytes.{In, All, all, only, join, fits, one_of}
use Rattle.rules.specs.Moves.{Move, keep, swap, leave, stop, takes, gives, moves, through, taken, result}
use Rattle.rules.specs.Utf8.{IsChar}
use Rattle.rules.specs.Tables.{Row, key, value, table, replaced_chars}
use Rattle.rules.specs.Units.{IsUnit}
use Rattle.rules.specs.Operations.{encode_of}
use Rattle.places.specs.Places.{Effect, leaves, means, Entry, Place, entry_at, act, act_on, refers, place_step, single, stage}
use Rattle.rules.specs.Ascii.{by_rule}
use Rattle.rules.specs.declared.Kind.{Kind}
use Rattle.rules.specs.declared.Context.{Context}
use Rattle.rules.proofs.Tests.{and_left, and_right, and_both, or_cases, or_right, is_false, all_in, in-same}
use Rattle.rules.proofs.Machine.{singly, result-singly}
use Rattle.rules.proofs.Chars.{is_tail, char-tails}
use Rattle.rules.proofs.AsciiBrowsed.{browsed}
use Rattle.rules.proofs.Encoder.{encode-run, key-ruleless, unit-of}
use Rattle.contained.specs.Matrix.{held_as}
use Rattle.contained.proofs.Steps.{prev-free, made-first, one_byte, result-append, leaves_at, left_there}
use Rattle.contained.proofs.Heads.{head_has, heads_single, head-has, mild, mild-takes, quiet, quiet_keeps, no-amp, ascii_set, high-apart, char-case}
use Rattle.contained.proofs.Ruled.{where_ruled, where-ruled, rule-amp, unread-none, rule-made, rule-browsed}
use Rattle.contained.proofs.Judged.{among, stays_in, holds_but, stays-byte, holds-rule}
use Rattle.contained.proofs.Contained.{high_held, unit-held}
use Rattle.contained.proofs.Begins.{to-not}

-- ---- the same byte, before the same or another text

-- The entries of the input stage: those that take one byte.
abbrev singles : List Entry → List Entry
singles es = only (λ (e : Entry). single e.1) es

-- Where the entries that can begin with x stand before s exactly if they do before u, what is given for x is the same by all of them and by those that take one byte.
abbrev Agrees : ℕ → List ℕ → List ℕ → Entry → Type 0
Agrees x s u e = T (single e.1) → fits one_of e.0 (x ∷ s) ≡ fits one_of e.0 (x ∷ u)

act-one : (d : Effect) (x : ℕ) (s u : List ℕ) → T (single d) → gives (act d (x ∷ s)) ≡ gives (act d (x ∷ u))
act-one leaves x s u t = absurd t
act-one (means n f) x s u t = ap (λ (k : ℕ). f (take k (x ∷ s))) (eqb→eq n 1 t) ∙ sym (ap (λ (k : ℕ). f (take k (x ∷ u))) (eqb→eq n 1 t))

same-given : (es : List Entry) (x : ℕ) (s u : List ℕ) → T (heads_single es x) → All (Agrees x s u) es
    → gives (act_on (entry_at es (x ∷ s)) (x ∷ s)) ≡ gives (act_on (entry_at (singles es) (x ∷ u)) (x ∷ u))
same-given [] x s u m a = refl
same-given (e ∷ es) x s u m a =
    go (single e.1) refl (fits one_of e.0 (x ∷ s)) refl (fits one_of e.0 (x ∷ u)) refl a.0 (and_left (not (head_has e.0 x) || single e.1) (heads_single es x) m)
    (same-given es x s u (and_right (not (head_has e.0 x) || single e.1) (heads_single es x) m) a.1)
  where
    go : (b : Bool) → single e.1 ≡ b → (f : Bool) → fits one_of e.0 (x ∷ s) ≡ f → (g : Bool) → fits one_of e.0 (x ∷ u) ≡ g
        → (T (single e.1) → fits one_of e.0 (x ∷ s) ≡ fits one_of e.0 (x ∷ u)) → T (not (head_has e.0 x) || single e.1)
        → gives (act_on (entry_at es (x ∷ s)) (x ∷ s)) ≡ gives (act_on (entry_at (singles es) (x ∷ u)) (x ∷ u))
        → gives (act_on (elim f [ true ↦ some e | false ↦ entry_at es (x ∷ s) ]) (x ∷ s))
        ≡ gives (act_on (entry_at (elim b [ true ↦ e ∷ singles es | false ↦ singles es ]) (x ∷ u)) (x ∷ u))
    go true q true f true g a m ih = act-one e.1 x s u (subst T (sym q) tt) ∙ sym (ap (λ (b : Bool). gives (act_on (elim b [ true ↦ some e | false ↦ entry_at (singles es) (x ∷ u) ]) (x ∷ u))) g)
    go true q false f false g a m ih = ih ∙ sym (ap (λ (b : Bool). gives (act_on (elim b [ true ↦ some e | false ↦ entry_at (singles es) (x ∷ u) ]) (x ∷ u))) g)
    go true q true f false g a m ih = absurd (subst T (sym f ∙ a (subst T (sym q) tt) ∙ g) tt)
    go true q false f true g a m ih = absurd (subst T (sym (sym f ∙ a (subst T (sym q) tt) ∙ g)) tt)
    go false q true f g h a m ih = absurd (cases (or_cases (not (head_has e.0 x)) (single e.1) m))
      where
        cases : T (not (head_has e.0 x)) ⊎ T (single e.1) → ⊥
        cases (inl n) = T_not (head_has e.0 x) n (head-has e.0 x s (subst T (sym f) tt))
        cases (inr t) = subst T q t
    go false q false f g h a m ih = ih

-- ---- bytes that the place's input stage keeps

all-intro : {A : Type 0} (f : A → Bool) (xs : List A) → ((a : A) → In a xs → T (f a)) → T (all f xs)
all-intro f [] h = tt
all-intro f (x ∷ xs) h = and_both (f x) (all f xs) (h x (inl refl)) (all-intro f xs (λ a i. h a (inr i)))

bytes-kept : (p : Place) (a rest : List ℕ) → T (all (quiet p) a) → (q : ℕ) → moves (place_step p) q 0 (a ++ rest) ≡ singly a ++ moves (place_step p) 0 0 rest
bytes-kept p [] rest t q = prev-free p q 0 rest
bytes-kept p (y ∷ a) rest t q =
    one_byte p q y (a ++ rest) (ap takes (quiet_keeps p 0 y (a ++ rest) (and_left (quiet p y) (all (quiet p) a) t)))
    ∙ (λ i. quiet_keeps p 0 y (a ++ rest) (and_left (quiet p y) (all (quiet p) a) t) i ∷ bytes-kept p a rest (and_right (quiet p y) (all (quiet p) a) t) 0 i)

-- The pattern begins with ASCII.
abbrev low_head : List (List ℕ) → Bool
low_head [] = false
low_head (set ∷ ps) = ascii_set set

-- So do those of the input stage.
abbrev low_heads : Place → Bool
low_heads p = all (λ (e : Entry). low_head e.0) (stage p).entries

quiet-high : (p : Place) → T (low_heads p) → (y : ℕ) → T (leb 0x80 y) → T (quiet (stage p) y)
quiet-high p ok y h = all-intro (λ (e : Entry). not (head_has e.0 y)) (stage p).entries (λ e i. to-not (head_has e.0 y) (go e.0 (all_in (λ (e : Entry). low_head e.0) (stage p).entries ok e i)))
  where
    go : (ps : List (List ℕ)) → T (low_head ps) → T (head_has ps y) → ⊥
    go [] l t = l
    go (set ∷ ps) l t = high-apart set y l h t

-- ---- the test

-- The bytes are there, and do not begin with one of the set.
abbrev apart_from : List ℕ → List ℕ → Bool
apart_from set [] = false
apart_from set (b ∷ s) = not (one_of set b)

abbrev apart_row : List ℕ → Row → Bool
apart_row set e = apart_from set (key e) && apart_from set (value e)

-- The set is of ASCII bytes other than `&`, with which begins what is written by rule.
abbrev apart_rule : Context → List ℕ → Bool
apart_rule c set = where_ruled c (ascii_set set && not (one_of set 38))

-- An entry of the input stage looks at most one byte ahead, for a byte that the context copies and that no row and no end begins with.
abbrev looks_ahead : Context → List ℕ → List (List ℕ) → Bool
looks_ahead c end [] = false
looks_ahead c end (set ∷ []) = true
looks_ahead c end (set ∷ next ∷ []) = apart_from next end && (all (apart_row next) (table c) && apart_rule c next)
looks_ahead c end (set ∷ next ∷ more ∷ ps) = false

abbrev entry_looks : Context → List ℕ → Entry → Bool
entry_looks c end e = not (single e.1) || looks_ahead c end e.0

-- The input stage keeps the byte.
abbrev stage_keeps : Place → ℕ → Bool
stage_keeps p b = leb 0x80 b || quiet (stage p) b

-- The row is of no exception, and the input stage keeps what it stands for.
abbrev row_kept : List (List ℕ) → Place → Row → Bool
row_kept bad p e = not (among bad (key e)) && all (stage_keeps p) (key e)

-- The rows are of no exception, and the input stage looks at nothing else in the form than in the text.
abbrev pub exact_in : List (List ℕ) → Context → Place → List ℕ → Bool
exact_in bad c p end = all (row_kept bad p) (table c) && (all (entry_looks c end) p.entries && low_heads p)

module _ (bad : List (List ℕ)) (c : Context) (p : Place) (end : List ℕ) (ok : T (stays_in c p)) (holding : T (holds_but bad c p)) (exactly : T (exact_in bad c p end)) where
  abbrev rows_kept : Bool
  rows_kept = all (row_kept bad p) (table c)

  abbrev entries_look : Bool
  entries_look = all (entry_looks c end) p.entries

  ok_rows : T rows_kept
  ok_rows = and_left rows_kept (entries_look && low_heads p) exactly

  ok-entries : T entries_look
  ok-entries = and_left entries_look (low_heads p) (and_right rows_kept (entries_look && low_heads p) exactly)

  ok-heads : T (low_heads p)
  ok-heads = and_right entries_look (low_heads p) (and_right rows_kept (entries_look && low_heads p) exactly)

  -- The text that a run gives, with what a browser takes each character for.
  abbrev held : List Move → List ℕ
  held us = join (map (λ (u : Move). held_as c (gives u)) us)

  plain-held : (a : List ℕ) → by_rule c a ≡ none → held_as c a ≡ a
  plain-held a e = ap (λ (o : Option (List ℕ)). elim o [ none ↦ a | some v ↦ browsed a ]) e

  row_plain : (v k : List ℕ) → In (k, v) (table c) → held_as c k ≡ k
  row_plain v k i = plain-held k (key-ruleless c (k, v) i)

  rule-held : (v k : List ℕ) → by_rule c k ≡ some v → held_as c k ≡ browsed k
  rule-held v k e = ap (λ (o : Option (List ℕ)). elim o [ none ↦ k | some v ↦ browsed k ]) e

  -- What stands next is one of the set in the form exactly if it is in the text.
  module _ (next : List ℕ) (a : T (apart_from next end)) (b : T (all (apart_row next) (table c))) (d : T (apart_rule c next)) where
    not-next : (s w : List ℕ) → T (apart_from next s) → fits one_of (next ∷ []) (s ++ w) ≡ false
    not-next [] w t = absurd t
    not-next (y ∷ s) w t = is_false (one_of next y && true) (λ u. T_not (one_of next y) t (and_left (one_of next y) true u))

    -- Neither what is written nor what it stands for begins with one of the set.
    both-apart : (v k s u r : List ℕ) → T (apart_from next v) → T (apart_from next k) → fits one_of (next ∷ []) ((v ++ s) ++ (end ++ r)) ≡ fits one_of (next ∷ []) (k ++ u)
    both-apart v k s u r t w = ap (fits one_of (next ∷ [])) (append_assoc v s (end ++ r)) ∙ not-next v (s ++ (end ++ r)) t ∙ sym (not-next k u w)

    rule-apart : (v k : List ℕ) → by_rule c k ≡ some v → T (apart_from next v) × T (apart_from next (browsed k))
    rule-apart v k e =
        let t = where-ruled c (ascii_set next && not (one_of next 38)) d k v e in
        let (s, q) = rule-amp c k v e in
        let (x, u, w, high, tails) = rule-browsed c k v e in (
          subst (λ (v : List ℕ). T (apart_from next v)) (sym q) (and_right (ascii_set next) (not (one_of next 38)) t),
          subst (λ (k : List ℕ). T (apart_from next k)) (sym w) (to-not (one_of next x) (high-apart next x (and_left (ascii_set next) (not (one_of next 38)) t) high)),
        )

    next-same : (r : List ℕ) (us : List Move) → All (IsUnit c (table c)) us → fits one_of (next ∷ []) (taken us ++ (end ++ r)) ≡ fits one_of (next ∷ []) (held us)
    next-same r [] g = not-next end r a
    next-same r (keep [] ∷ us) g = next-same r us g.1 ∙ ap (λ (s : List ℕ). fits one_of (next ∷ []) (s ++ held us)) (sym (plain-held [] g.0.2))
    next-same r (keep (y ∷ s) ∷ us) g = ap (λ (t : List ℕ). fits one_of (next ∷ []) (t ++ held us)) (sym (plain-held (y ∷ s) g.0.2))
    next-same r (leave x w ∷ us) g = absurd g.0
    next-same r (stop w ∷ us) g = absurd g.0
    next-same r (swap v k ∷ us) (inl i, g) =
        let t = all_in (apart_row next) (table c) b (k, v) i in
        both-apart v k (taken us) (held us) r (and_right (apart_from next k) (apart_from next v) t) (and_left (apart_from next k) (apart_from next v) t)
        ∙ ap (λ (s : List ℕ). fits one_of (next ∷ []) (s ++ held us)) (sym (row_plain v k i))
    next-same r (swap v k ∷ us) (inr e, g) =
        both-apart v (browsed k) (taken us) (held us) r (rule-apart v k e).0 (rule-apart v k e).1
        ∙ ap (λ (s : List ℕ). fits one_of (next ∷ []) (s ++ held us)) (sym (rule-held v k e))

  all-agree : (x : ℕ) (us : List Move) (r : List ℕ) → All (IsUnit c (table c)) us → (es : List Entry)
      → T (all (entry_looks c end) es) → All (Agrees x (taken us ++ (end ++ r)) (held us)) es
  all-agree x us r g [] t = tt
  all-agree x us r g (e ∷ es) t = (
    one (or_cases (not (single e.1)) (looks_ahead c end e.0) (and_left (entry_looks c end e) (all (entry_looks c end) es) t)),
    all-agree x us r g es (and_right (entry_looks c end e) (all (entry_looks c end) es) t),
  )
    where
      ahead : (ps : List (List ℕ)) → T (looks_ahead c end ps) → fits one_of ps (x ∷ (taken us ++ (end ++ r))) ≡ fits one_of ps (x ∷ held us)
      ahead [] l = absurd l
      ahead (set ∷ []) l = refl
      ahead (set ∷ next ∷ []) l =
          let rows_apart = all (apart_row next) (table c) in
          let written = and_right (apart_from next end) (rows_apart && apart_rule c next) l in
          ap (λ (b : Bool). one_of set x && b)
          (next-same next (and_left (apart_from next end) (rows_apart && apart_rule c next) l) (and_left rows_apart (apart_rule c next) written)
          (and_right rows_apart (apart_rule c next) written) r us g)
      ahead (set ∷ next ∷ more ∷ ps) l = absurd l

      one : T (not (single e.1)) ⊎ T (looks_ahead c end e.0) → Agrees x (taken us ++ (end ++ r)) (held us) e
      one (inl n) s = absurd (T_not (single e.1) n s)
      one (inr l) s = ahead e.0 l

  only-mild : (x : ℕ) → T (mild (stage p) x)
  only-mild x = go p.entries
    where
      go : (es : List Entry) → T (all (λ (e : Entry). not (head_has e.0 x) || single e.1) (singles es))
      go [] = tt
      go (e ∷ es) = cases (single e.1) refl (go es)
        where
          cases : (b : Bool) → single e.1 ≡ b → T (all (λ (e : Entry). not (head_has e.0 x) || single e.1) (singles es))
              → T (all (λ (e : Entry). not (head_has e.0 x) || single e.1) (elim b [ true ↦ e ∷ singles es | false ↦ singles es ]))
          cases true q ih = and_both (not (head_has e.0 x) || single e.1) (all (λ (e : Entry). not (head_has e.0 x) || single e.1) (singles es)) (or_right (not (head_has e.0 x)) (single e.1) (subst T (sym q) tt)) ih
          cases false q ih = ih

  abbrev Exact : List ℕ → List ℕ → List ℕ → Type 0
  Exact form text r =
      (ms : List Move) × ((q : ℕ) → moves (place_step p) q 0 (form ++ (end ++ r)) ≡ ms ++ moves (place_step p) 0 0 (end ++ r)) × (result ms ≡ result (through (place_step (stage p)) text))

  -- A plain ASCII byte.
  byte-exact : (x : ℕ) (us : List Move) (r : List ℕ) → x < 128 → (In (x ∷ []) (replaced_chars c) → ⊥) → All (IsUnit c (table c)) us → Exact (taken us) (held us) r → Exact (x ∷ taken us) (x ∷ held us) r
  byte-exact x us r l n g ih =
      let (ms, f, e) = ih in
      let s = taken us ++ (end ++ r) in
      let m = place_step p 0 (x ∷ s) in
      let m' = place_step (stage p) 0 (x ∷ held us) in
      let mi = stays-byte c p ok x l n in
      let same : gives m ≡ gives m' =
      ap gives (no-amp p 0 x s (T_not (refers p.references x) (and_left (not (refers p.references x)) (heads_single p.entries x) mi)))
      ∙ same-given p.entries x s (held us) (and_right (not (refers p.references x)) (heads_single p.entries x) mi) (all-agree x us r g p.entries ok-entries)
      ∙ sym (ap gives (no-amp (stage p) 0 x (held us) (λ a. a))) in (
        m ∷ ms,
        (λ q. one_byte p q x s (mild-takes p 0 x s mi) ∙ ap (λ (ns : List Move). m ∷ ns) (f 0)),
        (λ i. same i ++ e i) ∙ sym (ap result (one_byte (stage p) 0 x (held us) (mild-takes (stage p) 0 x (held us) (only-mild x)))),
      )

  -- What is taken and held as it should be, and what the stage keeps.
  kept-exact : (a k form text r : List ℕ) → (ms : List Move) → ((q : ℕ) → moves (place_step p) q 0 (a ++ (form ++ (end ++ r))) ≡ ms ++ moves (place_step p) 0 0 (form ++ (end ++ r))) → result ms ≡ k
      → T (all (quiet (stage p)) k) → Exact form text r → Exact (a ++ form) (k ++ text) r
  kept-exact a k form text r ms f e t ih =
      let (ns, h, w) = ih in (
        ms ++ ns,
        (λ q. ap (moves (place_step p) q 0) (append_assoc a form (end ++ r)) ∙ f q ∙ ap (λ (l : List Move). ms ++ l) (h 0) ∙ sym (append_assoc ms ns (moves (place_step p) 0 0 (end ++ r)))),
        result-append ms ns ∙ (λ i. e i ++ w i) ∙ sym (ap result (bytes-kept (stage p) k text t 0) ∙ result-singly k (through (place_step (stage p)) text)),
      )

  tails-quiet : (a : List ℕ) → T (all is_tail a) → T (all (quiet (stage p)) a)
  tails-quiet [] t = tt
  tails-quiet (y ∷ a) t =
      and_both (quiet (stage p) y) (all (quiet (stage p)) a) (quiet-high p ok-heads y (and_left (leb 0x80 y) (leb y 0xBF) (and_left (is_tail y) (all is_tail a) t))) (tails-quiet a (and_right (is_tail y) (all is_tail a) t))

  key-quiet : (k : List ℕ) → T (all (stage_keeps p) k) → T (all (quiet (stage p)) k)
  key-quiet [] t = tt
  key-quiet (y ∷ k) t =
      and_both (quiet (stage p) y) (all (quiet (stage p)) k) (go (or_cases (leb 0x80 y) (quiet (stage p) y) (and_left (stage_keeps p y) (all (stage_keeps p) k) t)))
      (key-quiet k (and_right (stage_keeps p y) (all (stage_keeps p) k) t))
    where
      go : T (leb 0x80 y) ⊎ T (quiet (stage p) y) → T (quiet (stage p) y)
      go (inl h) = quiet-high p ok-heads y h
      go (inr q) = q

  -- What begins above 7F and goes on with bytes 80 to BF.
  high-quiet : (x : ℕ) (a : List ℕ) → T (leb 0x80 x) → T (all is_tail a) → T (all (quiet (stage p)) (x ∷ a))
  high-quiet x a h t = and_both (quiet (stage p) x) (all (quiet (stage p)) a) (quiet-high p ok-heads x h) (tails-quiet a t)

  -- The unit of a character, before those of the text behind it.
  abbrev Next : Move → Type 0
  Next u = (us : List Move) (r : List ℕ) → All (IsUnit c (table c)) us → Exact (taken us) (held us) r → Exact (takes u ++ taken us) (held_as c (gives u) ++ held us) r

  -- Where the character is held as k.
  as-held : (a b k : List ℕ) (us : List Move) (r : List ℕ) → held_as c b ≡ k → Exact (a ++ taken us) (k ++ held us) r → Exact (a ++ taken us) (held_as c b ++ held us) r
  as-held a b k us r e = subst (λ (s : List ℕ). Exact (a ++ taken us) (s ++ held us) r) (sym e)

  row-exact : (v k : List ℕ) → In (k, v) (table c) → Next (swap v k)
  row-exact v k i us r g ih =
      let (ms, f, t, w, y) = unit-held c p bad ok (swap v k) (taken us ++ (end ++ r)) (inl i) in
      let row = all_in (row_kept bad p) (table c) ok_rows (k, v) i in
      as-held v k k us r (row_plain v k i)
      (kept-exact v k (taken us) (held us) r ms f
      (w holding (λ j. T_not (among bad k) (and_left (not (among bad k)) (all (stage_keeps p) k) row) (in-same k bad j)))
      (key-quiet k (and_right (not (among bad k)) (all (stage_keeps p) k) row)) ih)

  rule-exact : (v k : List ℕ) → by_rule c k ≡ some v → Next (swap v k)
  rule-exact v k e us r g ih =
      let (x, a, w, high, tails) = rule-browsed c k v e in
      as-held v k (browsed k) us r (rule-held v k e)
      (kept-exact v (browsed k) (taken us) (held us) r (swap v (browsed k) ∷ []) (read p.references refl) (append-nil (browsed k))
      (subst (λ (s : List ℕ). T (all (quiet (stage p)) s)) (sym w) (high-quiet x a high tails)) ih)
    where
      read : (o : Option Kind) → p.references ≡ o → (q : ℕ) → moves (place_step p) q 0 (v ++ (taken us ++ (end ++ r))) ≡ swap v (browsed k) ∷ moves (place_step p) 0 0 (taken us ++ (end ++ r))
      read (some kind) o q = made-first p q (swap v (browsed k)) (taken us ++ (end ++ r)) (rule-made c p kind o k v e (taken us ++ (end ++ r)))
      read none o q = absurd (unread-none p o (holds-rule bad c p holding k v e).0)

  char-exact : (x : ℕ) (a : List ℕ) → IsUnit c (table c) (keep (x ∷ a)) → Next (keep (x ∷ a))
  char-exact x a u us r g ih = as-held (x ∷ a) (x ∷ a) (x ∷ a) us r (plain-held (x ∷ a) u.2) (go (char-case x a u.0))
    where
      go : ((x < 128) × (a ≡ [])) ⊎ T (leb 0x80 x) → Exact (x ∷ (a ++ taken us)) (x ∷ (a ++ held us)) r
      go (inl l) =
          subst (λ (b : List ℕ). Exact (x ∷ (b ++ taken us)) (x ∷ (b ++ held us)) r) (sym l.1)
          (byte-exact x us r l.0 (subst (λ (b : List ℕ). In (x ∷ b) (replaced_chars c) → ⊥) l.1 u.1) g ih)
      go (inr h) =
          let (ms, f, t, w, y) = high_held c p bad ok x a (taken us ++ (end ++ r)) u h (Unit {0}) in
          kept-exact (x ∷ a) (x ∷ a) (taken us) (held us) r ms f (w holding tt) (high-quiet x a h (char-tails x a u.0)) ih

  unit-exact : (u : Move) → IsUnit c (table c) u → Next u
  unit-exact (keep []) u = λ us r g ih. as-held [] [] [] us r (plain-held [] u.2) ih
  unit-exact (keep (x ∷ a)) u = char-exact x a u
  unit-exact (swap v k) (inl i) = row-exact v k i
  unit-exact (swap v k) (inr e) = rule-exact v k e
  unit-exact (leave x a) u = absurd u
  unit-exact (stop w) u = absurd u

  run-exact : (us : List Move) (r : List ℕ) → All (IsUnit c (table c)) us → Exact (taken us) (held us) r
  run-exact [] r g = ([], (λ q. prev-free p q 0 (end ++ r)), refl)
  run-exact (u ∷ us) r g = unit-exact u g.0 us r g.1 (run-exact us r g.1)

  -- The units of some characters, with what these are held as.
  units-held : (cs : List (List ℕ)) → All IsChar cs → (us : List Move) × All (IsUnit c (table c)) us × (join cs ≡ result us) × (held us ≡ join (map (held_as c) cs))
  units-held [] h = ([], tt, refl, refl)
  units-held (a ∷ cs) h =
      let (u, i, e) = unit-of c a h.0 in
      let (us, g, q, w) = units-held cs h.1 in
      (u ∷ us, (i, g), (λ i. sym e i ++ q i), λ i. held_as c (e i) ++ w i)

  -- Of every text the place holds what its input stage makes of it, each character as a browser takes it.
  pub held-exactly : T (leaves_at p end) → (cs : List (List ℕ)) → All IsChar cs → (r : List ℕ)
      → result (through (place_step p) (encode_of c (join cs) ++ (end ++ r))) ≡ result (through (place_step (stage p)) (join (map (held_as c) cs)))
  held-exactly l cs h r =
      let (us, g, q, w) = units-held cs h in
      let (ms, f, e) = run-exact us r g in
      ap (λ (a : List ℕ). result (through (place_step p) (a ++ (end ++ r)))) (ap (encode_of c) q ∙ encode-run c us g)
      ∙ ap result (f 0 ∙ ap (λ (ns : List Move). ms ++ ns) (left_there p end r l) ∙ append-nil ms) ∙ e ∙ ap (λ (a : List ℕ). result (through (place_step (stage p)) a)) w
