-- Contained: whatever is typed and whatever follows, the place takes exactly the written form, and holds the text. Once over context and place: a form is a
-- run of units, and each unit is a copied byte, a character above 7F, what a row writes or what is written by rule, which the tests have judged.
-- Assumes nothing.
use mathlib.Core.Bool.{Bool, not, ◌&&◌, cond}
use mathlib.Core.Logic.{◌⊎◌, inl, inr}
use mathlib.Core.Option.{Option, none, some}
use mathlib.Core.Path.{◌≡◌, refl, sym, ap, ◌∙◌, subst}
use mathlib.Core.List.{List, [], ◌∷◌, ◌++◌, append_assoc, append-nil}
use Prim.Native.Nat.{ℕ, ◌<◌}
use lib.Dec.{T, leb, T_not}
use Rattle.rules.specs.Bytes.{In, All, all, same_bytes}
use Rattle.rules.specs.Moves.{Move, keep, swap, leave, stop, takes, gives, moves, through, taken, result}
use Rattle.rules.specs.Utf8.{IsText, IsFree, substitute}
use Rattle.rules.specs.Tables.{table, replaced_chars}
use Rattle.rules.specs.Units.{IsUnit}
use Rattle.rules.specs.Operations.{encode_of}
use Rattle.rules.specs.Ascii.{by_rule}
use Rattle.rules.specs.declared.Kind.{Kind}
use Rattle.rules.specs.declared.Context.{Context}
use Rattle.rules.proofs.Tests.{and_left, and_right, or_cases, is_false, same_bytes_lem}
use Rattle.rules.proofs.Machine.{Follows, retrace, singly, taken-append, result-singly}
use Rattle.rules.proofs.Chars.{taken-singles, char-singly}
use Rattle.rules.proofs.Ascii.{rule-char}
use Rattle.rules.proofs.AsciiBrowsed.{browsed, free-browsed}
use Rattle.rules.proofs.Encoder.{encode-run, run_of, wide, table-run}
use Rattle.places.specs.Places.{Place, place_step}
use Rattle.contained.proofs.Steps.{prev-free, made-first, one_byte, result-append, steady, steady-moves, leaves_at, left_there}
use Rattle.contained.proofs.Heads.{mild, mild-takes, quiet, quiet_keeps, char-case, tail-kept, lead-kept}
use Rattle.contained.proofs.Written.{meant, known, known-made}
use Rattle.contained.proofs.Ruled.{reads, unread-none, amp-read, rule-amp, rule-made, bytes-taken}
use Rattle.contained.proofs.Judged.{stays_in, holds_but, copies_in, row_holds, row_copied, stays-high, stays-byte, stays-row, stays-rule, holds-unread, holds-byte, holds_row, holds-rule, copies-byte, copies-row, copies-rule}

-- ---- through a run of units

module _ (c : Context) (p : Place) (bad : List (List ℕ)) where
  -- What the unit stands for is not one of the bad characters.
  abbrev Free : Move → Type 0
  Free u = In (gives u) bad → ⊥

  -- Moves of the place that take a, whatever the byte before, and then its moves through r. Where the context is held but for the bad characters, and what
  -- is asked for is so, they give g; where its forms are copied, they give a.
  abbrev Taking : Type 0 → List ℕ → List ℕ → List ℕ → Type 0
  Taking asked a g r =
      (ms : List Move) × ((q : ℕ) → moves (place_step p) q 0 (a ++ r) ≡ ms ++ moves (place_step p) 0 0 r) × (taken ms ≡ a)
      × (T (holds_but bad c p) → asked → result ms ≡ g) × (T (copies_in c p) → result ms ≡ a)

  -- The moves through v by itself, where the place makes of it one reference to k.
  known-moves : (v k : List ℕ) → T (known p.references (k, v)) → through (place_step p) v ≡ swap v (meant k) ∷ []
  known-moves v k t = ap (moves (place_step p) 0 0) (sym (append-nil v)) ∙ made-first p 0 (swap v (meant k)) [] (known-made p (k, v) t [])

  -- A row that is held gives its key.
  row_gives : (v k : List ℕ) → T (row_holds p (k, v)) → result (through (place_step p) v) ≡ k
  row_gives v k t = go (or_cases (known p.references (k, v) && not (same_bytes k (0 ∷ []))) (same_bytes (result (through (place_step p) v)) k) t)
    where
      other : Bool
      other = same_bytes k (0 ∷ [])

      go : T (known p.references (k, v) && not other) ⊎ T (same_bytes (result (through (place_step p) v)) k) → result (through (place_step p) v) ≡ k
      go (inr n) = same_bytes_lem (result (through (place_step p) v)) k n
      go (inl n) =
          ap result (known-moves v k (and_left (known p.references (k, v)) (not other) n)) ∙ append-nil (meant k)
          ∙ ap (λ (b : Bool). cond b substitute k) (is_false other (T_not other (and_right (known p.references (k, v)) (not other) n)))

  module _ (ok : T (stays_in c p)) where
    -- An ASCII byte that is copied.
    byte-held : (x : ℕ) (r : List ℕ) → x < 128 → (In (x ∷ []) (replaced_chars c) → ⊥) → Taking (In (x ∷ []) bad → ⊥) (x ∷ []) (x ∷ []) r
    byte-held x r l n =
        let m = place_step p 0 (x ∷ r) in
        let e = mild-takes p 0 x r (stays-byte c p ok x l n) in (
          m ∷ [],
          (λ q. one_byte p q x r e),
          append-nil (takes m) ∙ e,
          (λ h f. append-nil (gives m) ∙ ap gives (quiet_keeps p 0 x r (holds-byte bad c p h x l n f))),
          λ k. append-nil (gives m) ∙ ap gives (quiet_keeps p 0 x r (copies-byte c p k x l n)),
        )

    -- A character above 7F that is copied.
    pub high_held : (x : ℕ) (a r : List ℕ) → IsUnit c (table c) (keep (x ∷ a)) → T (leb 0x80 x) → (asked : Type 0) → Taking asked (x ∷ a) (x ∷ a) r
    high_held x a r u h asked =
        let high = stays-high c p ok in
        let f : Follows (place_step p) (singly (x ∷ a)) r = char-singly (place_step p) (tail-kept c p high) x a r u.0 (λ q. lead-kept c p high q x a r u h) in (
          singly (x ∷ a),
          (λ q. ap (λ (s : List ℕ). moves (place_step p) q 0 (s ++ r)) (sym (taken-singles (x ∷ a)))
              ∙ (retrace (place_step p) q (singly (x ∷ a)) r f).1
              ∙ ap (λ (ms : List Move). singly (x ∷ a) ++ ms) (prev-free p (retrace (place_step p) q (singly (x ∷ a)) r f).0 0 r)),
          taken-singles (x ∷ a),
          (λ k g. kept),
          λ k. kept,
        )
      where
        kept : result (singly (x ∷ a)) ≡ x ∷ a
        kept = ap result (sym (append-nil (singly (x ∷ a)))) ∙ result-singly (x ∷ a) [] ∙ append-nil (x ∷ a)

    -- What a row writes.
    row-held : (v k r : List ℕ) → In (k, v) (table c) → Taking (In k bad → ⊥) v k r
    row-held v k r i = go (or_cases (known p.references (k, v)) (steady p 0 v && whole) (stays-row c p ok (k, v) i))
      where
        whole : Bool
        whole = same_bytes (taken (through (place_step p) v)) v

        copied : T (copies_in c p) → T (row_copied p (k, v))
        copied l = copies-row c p l (k, v) i

        go : T (known p.references (k, v)) ⊎ T (steady p 0 v && whole) → Taking (In k bad → ⊥) v k r
        go (inl t) = (
          swap v (meant k) ∷ [],
          (λ q. made-first p q (swap v (meant k)) r (known-made p (k, v) t r)),
          append-nil v,
          (λ h f. sym (ap result (known-moves v k t)) ∙ row_gives v k (holds_row bad c p h (k, v) i f)),
          λ l. absurd (T_not (known p.references (k, v)) (and_left (not (known p.references (k, v))) (same_bytes (result (through (place_step p) v)) v) (copied l)) t),
        )
        go (inr t) = (
          through (place_step p) v,
          (λ q. steady-moves p q 0 v r (and_left (steady p 0 v) whole t) ∙ ap (λ (ms : List Move). ms ++ moves (place_step p) 0 0 r) (prev-free p q 0 v)),
          same_bytes_lem (taken (through (place_step p) v)) v (and_right (steady p 0 v) whole t),
          (λ h f. row_gives v k (holds_row bad c p h (k, v) i f)),
          λ l. same_bytes_lem (result (through (place_step p) v)) v (and_right (not (known p.references (k, v))) (same_bytes (result (through (place_step p) v)) v) (copied l)),
        )

    -- What is written by rule.
    rule-held : (v k r : List ℕ) → by_rule c k ≡ some v → Taking (In k bad → ⊥) v k r
    rule-held v k r e = go p.references refl (stays-rule c p ok k v e)
      where
        read : (kind : Kind) → p.references ≡ some kind → Taking (In k bad → ⊥) v k r
        read kind q = (
          swap v (browsed k) ∷ [],
          (λ n. made-first p n (swap v (browsed k)) r (rule-made c p kind q k v e r)),
          append-nil v,
          (λ h f. append-nil (browsed k) ∙ free-browsed k (rule-char c k v e).0 (λ i. f ((holds-rule bad c p h k v e).1 k i))),
          λ l. absurd (amp-read p kind q (rule-amp c k v e).0 (subst (λ (v : List ℕ). T (all (quiet p) v)) (rule-amp c k v e).1 (copies-rule c p l k v e))),
        )

        passed : p.references ≡ none → T (all (mild p) v) → Taking (In k bad → ⊥) v k r
        passed q m =
            let (ms, f, t, w) = bytes-taken p v r m in
            (ms, f, t, (λ h f. absurd (unread-none p q (holds-rule bad c p h k v e).0)), λ l. w (copies-rule c p l k v e))

        go : (o : Option Kind) → p.references ≡ o → T (reads p) ⊎ T (all (mild p) v) → Taking (In k bad → ⊥) v k r
        go (some kind) q t = read kind q
        go none q (inl t) = absurd (unread-none p q t)
        go none q (inr m) = passed q m

    pub unit-held : (u : Move) (r : List ℕ) → IsUnit c (table c) u → Taking (Free u) (takes u) (gives u) r
    unit-held (keep []) r u = ([], (λ q. prev-free p q 0 r), refl, (λ h f. refl), λ k. refl)
    unit-held (keep (x ∷ a)) r u = go (char-case x a u.0)
      where
        go : ((x < 128) × (a ≡ [])) ⊎ T (leb 0x80 x) → Taking (In (x ∷ a) bad → ⊥) (x ∷ a) (x ∷ a) r
        go (inl l) =
            subst (λ (b : List ℕ). Taking (In (x ∷ b) bad → ⊥) (x ∷ b) (x ∷ b) r) (sym l.1)
            (byte-held x r l.0 (subst (λ (b : List ℕ). In (x ∷ b) (replaced_chars c) → ⊥) l.1 u.1))
        go (inr h) = high_held x a r u h (In (x ∷ a) bad → ⊥)
    unit-held (swap v k) r (inl i) = row-held v k r i
    unit-held (swap v k) r (inr e) = rule-held v k r e
    unit-held (leave x a) r u = absurd u
    unit-held (stop w) r u = absurd u

    run-held : (us : List Move) (r : List ℕ) → All (IsUnit c (table c)) us → Taking (All Free us) (taken us) (result us) r
    run-held [] r g = ([], (λ q. prev-free p q 0 r), refl, (λ h f. refl), λ k. refl)
    run-held (u ∷ us) r g =
        let (ms, e, t, w, y) = unit-held u (taken us ++ r) g.0 in
        let (ns, f, s, z, x) = run-held us r g.1 in (
          ms ++ ns,
          (λ q. ap (moves (place_step p) q 0) (append_assoc (takes u) (taken us) r) ∙ e q ∙ ap (λ (l : List Move). ms ++ l) (f 0) ∙ sym (append_assoc ms ns (moves (place_step p) 0 0 r))),
          taken-append ms ns ∙ (λ i. t i ++ s i),
          (λ h b. result-append ms ns ∙ (λ i. w h b.0 i ++ z h b.1 i)),
          λ k. result-append ms ns ∙ (λ i. y k i ++ x k i),
        )

    -- Whatever is typed, and whatever follows: the moves of the place take exactly the form, and then come those of what follows. Where the place copies
    -- the forms, it holds the form.
    pub stays : (s : List ℕ) → IsText s → (r : List ℕ)
        → (ms : List Move) × (through (place_step p) (encode_of c s ++ r) ≡ ms ++ through (place_step p) r) × (taken ms ≡ encode_of c s) × (T (copies_in c p) → result ms ≡ encode_of c s)
    stays s t r =
        let (cs, h, e) = t in
        let (us, g, q) = table-run c cs h in
        let w : encode_of c s ≡ taken us = ap (encode_of c) (e ∙ q) ∙ encode-run c us g in
        let (ms, f, k, z, y) = run-held us r g in
        (ms, ap (λ (a : List ℕ). through (place_step p) (a ++ r)) w ∙ f 0, k ∙ sym w, λ o. y o ∙ sym w)

    -- And it holds the text, where that is free of the bad characters.
    pub holds : T (holds_but bad c p) → (s : List ℕ) → IsFree bad s → (r : List ℕ)
        → (ms : List Move) × (through (place_step p) (encode_of c s ++ r) ≡ ms ++ through (place_step p) r) × (taken ms ≡ encode_of c s) × (result ms ≡ s)
    holds ht s t r =
        let (cs, h, b, e) = t in
        let (us, g, d, q) = run_of c bad (holds-unread bad c p ht) cs h b in
        let w : encode_of c s ≡ taken us = ap (encode_of c) (e ∙ q) ∙ encode-run c us (wide c us g) in
        let (ms, f, k, z, y) = run-held us r (wide c us g) in
        (ms, ap (λ (a : List ℕ). through (place_step p) (a ++ r)) w ∙ f 0, k ∙ sym w, z ht d ∙ sym (e ∙ q))

-- ---- up to what leaves the place

module _ (c : Context) (p : Place) (ok : T (stays_in c p)) (end : List ℕ) (out : T (leaves_at p end)) where
  -- Every text: the place is left behind its form, and nowhere earlier.
  pub contained : (s : List ℕ) → IsText s → (r : List ℕ) → taken (through (place_step p) (encode_of c s ++ (end ++ r))) ≡ encode_of c s
  contained s t r =
      let (ms, e, k, y) = stays c p [] ok s t (end ++ r) in
      ap taken (e ∙ ap (λ (ns : List Move). ms ++ ns) (left_there p end r out) ∙ append-nil ms) ∙ k

  -- What the place holds then is the text.
  pub contained-text : (bad : List (List ℕ)) → T (holds_but bad c p) → (s : List ℕ) → IsFree bad s → (r : List ℕ) → result (through (place_step p) (encode_of c s ++ (end ++ r))) ≡ s
  contained-text bad h s t r =
      let (ms, e, k, y) = holds c p bad ok h s t (end ++ r) in
      ap result (e ∙ ap (λ (ns : List Move). ms ++ ns) (left_there p end r out) ∙ append-nil ms) ∙ y
