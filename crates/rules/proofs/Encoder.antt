-- The encoder writes each character of a text as its unit.
-- Assumes nothing.
use mathlib.Core.Bool.{Bool, true, false, not, ◌&&◌}
use mathlib.Core.Logic.{◌⊎◌, inl, inr}
use mathlib.Core.Option.{Option, none, some, none-ne-some}
use mathlib.Core.Path.{◌≡◌, refl, sym, ap, ◌∙◌, subst}
use mathlib.Core.List.{List, [], ◌∷◌, ◌++◌, map, append_assoc, append-nil}
use Prim.Native.Nat.{ℕ, pred, ◌≤◌}
use native.Mathlib.Omega.{arith}
use lib.Dec.{T, eqb, leb, eqb→eq, le→leb, ltb→lt, lt→ltb, T_not}
use lib.ListN.{length}
use Rattle.rules.specs.Bytes.{In, All, all, any, join, stands, same_bytes, inside}
use Rattle.rules.specs.Moves.{Move, keep, swap, leave, stop, gives, taken, result, through}
use Rattle.rules.specs.Utf8.{IsChar, IsText, IsFree, char_step, char_at, valid_to}
use Rattle.rules.specs.Tables.{Row, row_at, key, value, rows, lossy, table, replaced_chars}
use Rattle.rules.specs.Units.{unread}
use Rattle.rules.specs.declared.Context.{Context}
use Rattle.rules.specs.Units.{IsUnit, IsRun}
use Rattle.rules.specs.Ascii.{by_rule}
use Rattle.rules.specs.Encoding.{write, keep_byte, encode_by, encode_step}
use Rattle.rules.specs.Operations.{encode_of}
use Rattle.rules.proofs.Tests.{and_left, and_right, and_both, all_in, same_in, in-same, first-none, first-sound, none-fits, stands_self, stands-split, in-append, in_right, in_map, map-in}
use Rattle.rules.proofs.Machine.{Makes, Follows, turn, singly, cut, cut-moves, taken-turn, result-turn, result-cut}
use Rattle.rules.proofs.Chars.{is_char, is-char, is_tail, char-unique, char-singly, pred_of}
use Rattle.rules.proofs.CharNumbers.{char-at, tail_at}
use Rattle.rules.proofs.Tables.{code-chars, row-stops, row-length, row_first}
use Rattle.rules.proofs.Valid.{valid-iff}
use Rattle.rules.proofs.Every.{every, keys-code}
use Rattle.rules.proofs.Ascii.{is_ascii, rule-char, rule-empty, rule-ascii}

-- No key begins with a byte 80 to BF.
abbrev leads : Row → Bool
leads e = elim (key e) [ [] ↦ false | x ∷ xs ↦ not (is_tail x) ]

keys-lead : (c : Context) → T (all leads (table c))
keys-lead = every (λ (c : Context). all leads (table c)) tt

lead-stops : (k v : List ℕ) (y : ℕ) (s : List ℕ) → T (leads (k, v)) → T (is_tail y) → T (stands k (y ∷ s)) → ⊥
lead-stops [] v y s l t h = l
lead-stops (x ∷ k) v y s l t h = T_not (is_tail x) l (subst (λ (z : ℕ). T (is_tail z)) (sym (eqb→eq x y (and_left (eqb x y) (stands k s) h))) t)

-- ---- texts one after the other

pub join-append : (cs ds : List (List ℕ)) → join (cs ++ ds) ≡ join cs ++ join ds
join-append [] ds = refl
join-append (a ∷ cs) ds = ap (λ (s : List ℕ). a ++ s) (join-append cs ds) ∙ sym (append_assoc a (join cs) (join ds))

chars-append : (cs ds : List (List ℕ)) → All IsChar cs → All IsChar ds → All IsChar (cs ++ ds)
chars-append [] ds h i = i
chars-append (a ∷ cs) ds h i = (h.0, chars-append cs ds h.1 i)

pub text-append : (s u : List ℕ) → IsText s → IsText u → IsText (s ++ u)
text-append s u t v =
    let (cs, h, e) = t in
    let (ds, i, f) = v in
    (cs ++ ds, chars-append cs ds h i, (λ i. e i ++ f i) ∙ sym (join-append cs ds))

-- What a row writes is a text, by a computed test.
abbrev is_text : Row → Bool
unfolding char_step
is_text e = eqb (valid_to (value e)) (length (value e))

value-text : (c : Context) (e : Row) → In e (rows c) → IsText (value e)
unfolding char_step
value-text c e i = (valid-iff (value e)).1 (eqb→eq (valid_to (value e)) (length (value e)) (all_in is_text (rows c) (every (λ (c : Context). all is_text (rows c)) tt c) e i))

-- What a row writes is a character that the context copies.
abbrev is_plain : Context → Row → Bool
is_plain c e = is_char (value e) && not (any (same_bytes (value e)) (replaced_chars c))

-- ---- each context

-- The rule writes nothing for the bytes a.
abbrev is_ruleless : Context → List ℕ → Bool
is_ruleless c a = elim (by_rule c a) [ none ↦ true | some v ↦ false ]

none_written : (o : Option (List ℕ)) → T (elim o [ none ↦ true | some v ↦ false ]) → o ≡ none
none_written none t = refl
none_written (some v) t = absurd t

-- ASCII bytes are a text.
pub ascii-text : (s : List ℕ) → T (all is_ascii s) → IsText s
ascii-text [] t = ([], tt, refl)
ascii-text (x ∷ s) t =
    let h : x ≤ 0x7F = let l = ltb→lt x 128 (and_left (is_ascii x) (all is_ascii s) t) in omega arith in
    let char : IsChar (x ∷ []) = ((0x00, 0x7F) ∷ [], inl refl, and_both (inside (0x00, 0x7F) x) true (and_both (leb 0 x) (leb x 0x7F) (le→leb 0 x (omega arith)) (le→leb x 0x7F h)) tt, refl) in
    text-append (x ∷ []) s ((x ∷ []) ∷ [], (char, tt), refl) (ascii-text s (and_right (is_ascii x) (all is_ascii s) t))

module _ (c : Context) where
  key-char : (e : Row) → In e (table c) → IsChar (key e)
  key-char e i = is-char (key e) (all_in is_char (replaced_chars c) (code-chars key (table c) (replaced_chars c) (keys-code c)) (key e) (map-in key e (table c) i))

  -- The rule writes nothing for the characters that the table replaces, writes, or that read does not give back.
  pub key-ruleless : (e : Row) → In e (table c) → by_rule c (key e) ≡ none
  key-ruleless e i =
      none_written (by_rule c (key e)) (all_in (λ (e : Row). is_ruleless c (key e)) (table c) (every (λ (c : Context). all (λ (e : Row). is_ruleless c (key e)) (table c)) tt c) e i)

  lossy-ruleless : (e : Row) → In e (lossy c) → by_rule c (value e) ≡ none
  lossy-ruleless e i =
      none_written (by_rule c (value e)) (all_in (λ (e : Row). is_ruleless c (value e)) (lossy c) (every (λ (c : Context). all (λ (e : Row). is_ruleless c (value e)) (lossy c)) tt c) e i)

  ruled-readable : (k v : List ℕ) → by_rule c k ≡ some v → In k (unread c) → ⊥
  ruled-readable k v e i =
      none-ne-some v (sym (none_written (by_rule c k) (all_in (is_ruleless c) (unread c) (every (λ (c : Context). all (is_ruleless c) (unread c)) tt c) k i)) ∙ e)

  -- Where the rule writes nothing the table counts.
  pub by-table : (p : ℕ) (s : List ℕ) → by_rule c (char_at s) ≡ none → encode_step c p s ≡ encode_by (table c) p s
  unfolding encode_step
  by-table p s e = ap (λ (o : Option (List ℕ)). write (elim o [ none ↦ none | some v ↦ some (char_at s, v) ]) (encode_by (table c) p s)) e

  kept-where : (p x : ℕ) (s : List ℕ) → by_rule c (char_at (x ∷ s)) ≡ none → ((e : Row) → In e (table c) → T (stands (key e) (x ∷ s)) → ⊥) → encode_step c p (x ∷ s) ≡ keep (x ∷ [])
  kept-where p x s n h = by-table p (x ∷ s) n ∙ ap (λ (o : Option Row). write o (keep (x ∷ []))) (first-none (λ (row : Row). stands (key row)) (table c) (x ∷ s) h)

  encode-keeps : (a : List ℕ) → IsUnit c (table c) (keep a) → (r : List ℕ) → Follows (encode_step c) (singly a) r
  encode-keeps [] u r = tt
  encode-keeps (x ∷ a) u r =
      char-singly (encode_step c)
      (λ p y s t. kept-where p y s (ap (by_rule c) (tail_at y s t) ∙ rule-empty c) (λ e i h. lead-stops e.0 e.1 y s (all_in leads (table c) (keys-lead c) e i) t h))
      x a r u.0
      (λ p. kept-where p x (a ++ r) (ap (by_rule c) (char-at (x ∷ a) r u.0) ∙ u.2) (row-stops key (table c) (replaced_chars c) (keys-code c) (x ∷ a) r (u.0, u.1)))

  encode-swaps : (k v : List ℕ) → IsUnit c (table c) (swap v k) → (r : List ℕ) → Makes (encode_step c) (swap k v) r
  unfolding encode_step
  encode-swaps k v (inl i) r = (
    pred (length k),
    row-length key (table c) (replaced_chars c) (keys-code c) (k, v) i,
    λ p. by-table p (k ++ r) (ap (by_rule c) (char-at k r (key-char (k, v) i)) ∙ key-ruleless (k, v) i)
        ∙ ap (λ (o : Option Row). write o (keep_byte (k ++ r))) (row_first key (table c) (replaced_chars c) (keys-code c) (k, v) i r),
  )
  encode-swaps k v (inr e) r =
      let (h, l) = rule-char c k v e in (
        pred (length k),
        pred_of (length k) (lt→ltb 0 (length k) (omega arith)),
        λ p. ap (λ (a : List ℕ). write (elim (by_rule c a) [ none ↦ none | some w ↦ some (a, w) ]) (encode_by (table c) p (k ++ r))) (char-at k r h)
            ∙ ap (λ (o : Option (List ℕ)). write (elim o [ none ↦ none | some w ↦ some (k, w) ]) (encode_by (table c) p (k ++ r))) e,
      )

  turned : (us : List Move) → All (IsUnit c (table c)) us → All (λ (m : Move). IsUnit c (table c) (turn m)) (map turn us)
  turned [] g = tt
  turned (keep a ∷ us) g = (g.0, turned us g.1)
  turned (swap v k ∷ us) g = (g.0, turned us g.1)
  turned (leave r a ∷ us) g = absurd g.0
  turned (stop w ∷ us) g = absurd g.0

  -- Through the text of a run the encoder goes the run back, byte by byte.
  pub encode-moves : (us : List Move) → All (IsUnit c (table c)) us → through (encode_step c) (result us) ≡ cut (map turn us)
  encode-moves us g =
      ap (through (encode_step c)) (sym (taken-turn us))
      ∙ cut-moves (encode_step c) (λ (m : Move). IsUnit c (table c) (turn m)) encode-keeps encode-swaps (λ w a u. u) 0 (map turn us) (turned us g)

  -- What it writes is the form.
  pub encode-run : (us : List Move) → All (IsUnit c (table c)) us → encode_of c (result us) ≡ taken us
  encode-run us g = ap result (encode-moves us g) ∙ result-cut (map turn us) ∙ result-turn us

  -- Each character has a unit.
  pub unit-of : (a : List ℕ) → IsChar a → (u : Move) × IsUnit c (table c) u × (gives u ≡ a)
  unit-of a h = go (row_at key (table c) a) refl
    where
      go : (o : Option Row) → row_at key (table c) a ≡ o → (u : Move) × IsUnit c (table c) u × (gives u ≡ a)
      go (some e) q =
          let (i, t) = first-sound (λ (row : Row). stands (key row)) (table c) a e q in
          let (r, s) = stands-split (key e) a t in
          (swap e.1 e.0, inl i, sym (char-unique a (key e) [] r h (key-char e i) (append-nil a ∙ s)))
      go none q = ruled (by_rule c a) refl
        where
          ruled : (o : Option (List ℕ)) → by_rule c a ≡ o → (u : Move) × IsUnit c (table c) u × (gives u ≡ a)
          ruled (some v) f = (swap v a, inr f, refl)
          ruled none f = (
            keep a,
            (
              h,
              (λ i. let (e, j, w) = in_map key a (table c) i in
                  none-fits (λ (row : Row). stands (key row)) (table c) a q e j (subst (λ (s : List ℕ). T (stands (key e) s)) (append-nil (key e) ∙ sym w) (stands_self (key e) []))),
              f,
            ),
            refl,
          )

  -- The characters that read does not give back are replaced, by no row that is read.
  unread-replaced : (a : List ℕ) → In a (unread c) → In a (replaced_chars c)
  unread-replaced a i = same_in a (replaced_chars c)
      (all_in (λ (a : List ℕ). any (same_bytes a) (replaced_chars c)) (unread c) (every (λ (c : Context). all (λ (a : List ℕ). any (same_bytes a) (replaced_chars c)) (unread c)) tt c) a i)

  rows-readable : (e : Row) → In e (rows c) → In (key e) (unread c) → ⊥
  rows-readable e i j =
      T_not (any (same_bytes (key e)) (unread c))
      (all_in (λ (e : Row). not (any (same_bytes (key e)) (unread c))) (rows c) (every (λ (c : Context). all (λ (e : Row). not (any (same_bytes (key e)) (unread c))) (rows c)) tt c) e i)
      (in-same (key e) (unread c) j)

  -- A unit that does not come from NUL in a style string is a unit of the context's forms.
  readable : (u : Move) → IsUnit c (table c) u → (In (gives u) (unread c) → ⊥) → IsUnit c (rows c) u
  readable (keep a) i s = i
  readable (leave r a) i s = i
  readable (stop w) i s = i
  readable (swap v k) (inr e) s = inr e
  readable (swap v k) (inl i) s = inl (go (in-append (k, v) (lossy c) (rows c) i))
    where
      go : In (k, v) (lossy c) ⊎ In (k, v) (rows c) → In (k, v) (rows c)
      go (inl j) = absurd (s (map-in key (k, v) (lossy c) j))
      go (inr j) = j

  -- A text that is free of some characters is what a run of units gives, and each unit gives none of them.
  pub run_of : (bad : List (List ℕ)) → ((a : List ℕ) → In a (unread c) → In a bad) → (cs : List (List ℕ)) → All IsChar cs → All (λ (a : List ℕ). In a bad → ⊥) cs
      → (us : List Move) × IsRun c us × All (λ (u : Move). In (gives u) bad → ⊥) us × (join cs ≡ result us)
  run_of bad sub [] h f = ([], tt, tt, refl)
  run_of bad sub (a ∷ cs) h f =
      let (u, i, e) = unit-of a h.0 in
      let (us, g, b, q) = run_of bad sub cs h.1 f.1 in
      let ok : In (gives u) bad → ⊥ = subst (λ (l : List ℕ). In l bad → ⊥) (sym e) f.0 in
      (u ∷ us, (readable u i (λ j. ok (sub (gives u) j)), g), (ok, b), λ i. sym e i ++ q i)

  -- And a run of units gives such a text.
  pub run-free : (us : List Move) → IsRun c us → IsFree (unread c) (result us)
  run-free [] g = ([], tt, tt, refl)
  run-free (keep a ∷ us) g =
      let (cs, h, f, e) = run-free us g.1 in
      (a ∷ cs, (g.0.0, h), ((λ i. g.0.1 (unread-replaced a i)), f), ap (λ (s : List ℕ). a ++ s) e)
  run-free (swap v k ∷ us) (inl u, g) =
      let (cs, h, f, e) = run-free us g in
      (k ∷ cs, (key-char (k, v) (in_right (k, v) (lossy c) (rows c) u), h), ((λ i. rows-readable (k, v) u i), f), ap (λ (s : List ℕ). k ++ s) e)
  run-free (swap v k ∷ us) (inr u, g) =
      let (cs, h, f, e) = run-free us g in
      (k ∷ cs, ((rule-char c k v u).0, h), (ruled-readable k v u, f), ap (λ (s : List ℕ). k ++ s) e)
  run-free (leave r a ∷ us) g = absurd g.0
  run-free (stop w ∷ us) g = absurd g.0

  -- The units of a form are units of the whole table.
  pub wide : (us : List Move) → IsRun c us → All (IsUnit c (table c)) us
  wide [] g = tt
  wide (keep a ∷ us) g = (g.0, wide us g.1)
  wide (swap v k ∷ us) (inl u, g) = (inl (in_right (k, v) (lossy c) (rows c) u), wide us g)
  wide (swap v k ∷ us) (inr u, g) = (inr u, wide us g)
  wide (leave r a ∷ us) g = absurd g.0
  wide (stop w ∷ us) g = absurd g.0

  -- Any text is what a run of units of the whole table gives.
  pub table-run : (cs : List (List ℕ)) → All IsChar cs → (us : List Move) × All (IsUnit c (table c)) us × (join cs ≡ result us)
  table-run [] h = ([], tt, refl)
  table-run (a ∷ cs) h =
      let (u, i, e) = unit-of a h.0 in
      let (us, g, q) = table-run cs h.1 in
      (u ∷ us, (i, g), λ i. sym e i ++ q i)

  -- What is written for NUL in a style string is a plain character.
  lossy-plain : (e : Row) → In e (lossy c) → IsUnit c (rows c) (keep (value e))
  lossy-plain e i =
      let t = all_in (is_plain c) (lossy c) (every (λ (c : Context). all (is_plain c) (lossy c)) tt c) e i in (
        is-char (value e) (and_left (is_char (value e)) (not (any (same_bytes (value e)) (replaced_chars c))) t),
        (λ j. T_not (any (same_bytes (value e)) (replaced_chars c)) (and_right (is_char (value e)) (not (any (same_bytes (value e)) (replaced_chars c))) t)
            (in-same (value e) (replaced_chars c) j)),
        lossy-ruleless e i,
      )

  -- So what such a run takes is a form.
  pub plain-run : (us : List Move) → All (IsUnit c (table c)) us → (vs : List Move) × IsRun c vs × (taken us ≡ taken vs)
  plain-run [] g = ([], tt, refl)
  plain-run (keep a ∷ us) g = let (vs, h, e) = plain-run us g.1 in (keep a ∷ vs, (g.0, h), ap (λ (s : List ℕ). a ++ s) e)
  plain-run (swap v k ∷ us) (inr u, g) = let (vs, h, e) = plain-run us g in (swap v k ∷ vs, (inr u, h), ap (λ (s : List ℕ). v ++ s) e)
  plain-run (swap v k ∷ us) (inl u, g) = let (vs, h, e) = plain-run us g in go (in-append (k, v) (lossy c) (rows c) u) vs h e
    where
      go : In (k, v) (lossy c) ⊎ In (k, v) (rows c) → (vs : List Move) → IsRun c vs → taken us ≡ taken vs
          → (ws : List Move) × IsRun c ws × (v ++ taken us ≡ taken ws)
      go (inl i) vs h e = (keep v ∷ vs, (lossy-plain (k, v) i, h), ap (λ (s : List ℕ). v ++ s) e)
      go (inr i) vs h e = (swap v k ∷ vs, (inl i, h), ap (λ (s : List ℕ). v ++ s) e)
  plain-run (leave r a ∷ us) g = absurd g.0
  plain-run (stop w ∷ us) g = absurd g.0

  -- A form is a text.
  pub run-text : (us : List Move) → IsRun c us → IsText (taken us)
  run-text [] g = ([], tt, refl)
  run-text (keep a ∷ us) g = let (cs, h, e) = run-text us g.1 in (a ∷ cs, (g.0.0, h), ap (λ (s : List ℕ). a ++ s) e)
  run-text (swap v k ∷ us) (inl u, g) = text-append v (taken us) (value-text c (k, v) u) (run-text us g)
  run-text (swap v k ∷ us) (inr u, g) = text-append v (taken us) (ascii-text v (rule-ascii c k v u)) (run-text us g)
  run-text (leave r a ∷ us) g = absurd g.0
  run-text (stop w ∷ us) g = absurd g.0
