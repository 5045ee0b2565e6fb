-- The rows of the table of a call, one law for each, said of what the code has tested and made: of a part by its seam and its rest, and of finish.
-- A seam that is broken breaks the text; else its settled bytes are whole characters, and the rest has the other tests by itself.
-- Assumes nothing.
use mathlib.Core.Bool.{Bool, true, false, not, ◌&&◌, cond}
use mathlib.Core.Logic.{inl, inr}
use mathlib.Core.Path.{◌≡◌, refl, sym, ap, ◌∙◌, subst}
use mathlib.Core.List.{List, [], ◌∷◌, ◌++◌, append_assoc, append-nil}
use Prim.Native.Nat.{ℕ, zero, suc, ◌+◌, ◌-◌, ◌*◌, ◌/◌, ◌≤◌, ◌<◌}
use native.Mathlib.Omega.{arith}
use borrow.Author.Tests.{lt-ltb, le-ltb}
use lib.Dec.{ltb}
use lib.ListN.{length, take, drop, length-append, take-append-drop, drop_of_length-le}
use lib.Seq.{drop_at, drop-drop, drop-append-le, take_all, length-take-le}
use Rattle.rules.specs.Bytes.{over}
use Rattle.rules.specs.Moves.{Move, gives, through, result, replaced}
use Rattle.rules.specs.Utf8.{IsText, valid_to, is_cut}
use Rattle.rules.specs.Encoding.{raw_step}
use Rattle.rules.specs.Operations.{raw_of}
use Rattle.rules.specs.Refusals.{refusal, part_success, text_limit}
use Rattle.rules.specs.Stream.{held, settled, settled_moves, moves_at, held_in, holding, PartCall, PartCase, finished, too_long, not-utf8, cut_short, no_room, written, broken, unfinished, part_case, part_answer, part_state, part_moves, part_call}
use Rattle.rules.specs.declared.Answer.{Answer}
use Rattle.rules.specs.declared.RawState.{RawState}
use Rattle.rules.proofs.Growth.{raw-replaced}
use Rattle.rules.proofs.RawAgain.{marked, raw_move, raw-through}
use Rattle.rules.proofs.Blind.{result-append}
use Rattle.rules.proofs.Stream.{settled-parts, held-parts, held-tail, held-short, settled-sum, settled-add}
use Rattle.rules.proofs.Released.{settled-text, valid-after, broken-place, broken-far, broken-after}
use Rattle.rules.proofs.Quarter.{raw-quarter}
use Rattle.rules.proofs.Parts.{chosen, case-chosen}
use Rattle.base.proofs.Filled.{lent-rest}
use Rattle.stream.specs.Seams.{Sound, front, both, Needed, Released, Leaves, Joined}

-- ---- what becomes of a call, by its tests

settles : (k : PartCall) (out : List ℕ) (row : PartCase) → part_case k ≡ row → Leaves k out (part_answer row k) (part_state row k) (over (result (part_moves row k)) out)
settles k out row e = ((λ i. part_answer (sym e i) k), (λ i. part_state (sym e i) k), (λ i. over (result (part_moves (sym e i) k)) out))

module _ (k : PartCall) (out : List ℕ) where
  abbrev j : List ℕ
  j = k.joined

  abbrev long : Bool
  long = ltb text_limit (k.state.done + length j)

  abbrev tight : Bool
  tight = ltb k.room (length (result (moves_at k.last j)))

  pub finished-row : k.state.finished ≡ true → Leaves k out (refusal 9 0 0) k.state out
  finished-row f = settles k out finished (case-chosen k ∙ (λ i. chosen (f i) long (broken j) (k.last && unfinished j) tight))

  module _ (f : k.state.finished ≡ false) where
    pub long-row : long ≡ true → Leaves k out (refusal 1 0 0) k.state out
    long-row l = settles k out too_long (case-chosen k ∙ (λ i. chosen (f i) (l i) (broken j) (k.last && unfinished j) tight))

    module _ (l : long ≡ false) where
      pub broken-row : broken j ≡ true → (p : ℕ) → p ≡ k.state.done + valid_to j → Leaves k out (refusal 2 0 p) k.state out
      broken-row b p q = rw q (settles k out not-utf8 (case-chosen k ∙ (λ i. chosen (f i) (l i) (b i) (k.last && unfinished j) tight)))

      module _ (b : broken j ≡ false) where
        pub cut-row : (k.last && unfinished j) ≡ true → (p : ℕ) → p ≡ k.state.done + valid_to j → Leaves k out (refusal 7 0 p) k.state out
        cut-row c p q = rw q (settles k out cut_short (case-chosen k ∙ (λ i. chosen (f i) (l i) (b i) (c i) tight)))

        module _ (c : (k.last && unfinished j) ≡ false) where
          pub room_row : (n : ℕ) → n ≡ length (result (moves_at k.last j)) → k.room < n → Leaves k out (refusal 3 n 0) k.state out
          room_row n q h =
              rw q (settles k out no_room (case-chosen k ∙ (λ i. chosen (f i) (l i) (b i) (c i) (lt-ltb k.room (length (result (moves_at k.last j))) (rw q at h) i))))

          pub written_row : length (result (moves_at k.last j)) ≤ k.room → Leaves k out (part_answer written k) (part_state written k) (over (result (moves_at k.last j)) out)
          written_row h = settles k out written (case-chosen k ∙ (λ i. chosen (f i) (l i) (b i) (c i) (le-ltb k.room (length (result (moves_at k.last j))) h i)))

-- ---- where a text breaks

pub sound-whole : (t : List ℕ) (r : ℕ) → r ≡ valid_to t → r ≡ length t → Sound t r
sound-whole t r v e =
    record {
      within = omega (arith, e);
      bad = λ h. absurd (omega (arith, h, e));
      fine = λ h. ap (λ (b : Bool). b && not (is_cut (drop (valid_to t) t))) (le-ltb (valid_to t) (length t) (omega (arith, v, e)));
    }

pub sound-cut : (t : List ℕ) (r : ℕ) → r ≡ valid_to t → is_cut (drop r t) ≡ true → Sound t (length t)
sound-cut t r v c = record { within = omega arith; bad = λ h. absurd (omega (arith, h)); fine = λ h. go (ltb (valid_to t) (length t)) }
  where
    e : is_cut (drop (valid_to t) t) ≡ true
    e = ap (λ (n : ℕ). is_cut (drop n t)) (sym v) ∙ c

    go : (x : Bool) → (x && not (is_cut (drop (valid_to t) t))) ≡ false
    go true = ap not e
    go false = refl

pub sound-broken : (t : List ℕ) (r : ℕ) → r ≡ valid_to t → r < length t → is_cut (drop r t) ≡ false → Sound t r
sound-broken t r v h c =
    let e : is_cut (drop (valid_to t) t) ≡ false = ap (λ (n : ℕ). is_cut (drop n t)) (sym v) ∙ c in
    record {
      within = omega (arith, h);
      bad = λ l. ((λ i. lt-ltb (valid_to t) (length t) (omega (arith, v, h)) i && not (e i)), v);
      fine = λ l. absurd (omega (arith, h, l));
    }

-- ---- room

shorter : (n : ℕ) (ms : List Move) → length (result (take n ms)) ≤ length (result ms)
shorter n ms =
    let l = ap (λ (l : List Move). length (result l)) (take-append-drop n ms) in
    let a = ap length (result-append (take n ms) (drop n ms)) in
    let b = length-append (result (take n ms)) (result (drop n ms)) in
    omega (arith, l, a, b)

-- What is written for both is at most a quarter longer than both.
pub both-short : (seam : List ℕ) (s : ℕ) (rest : List ℕ) (e : ℕ) → 4 * (length (front s seam) + length (front e rest)) ≤ 5 * (length seam + length rest)
both-short seam s rest e =
    let a = shorter s (through raw_step seam) in
    let b = shorter e (through raw_step rest) in
    let p = raw-quarter seam in
    let q = raw-quarter rest in
    omega (arith, a, b, p, q)

module _ (seam : List ℕ) (s : ℕ) (rest : List ℕ) (e room : ℕ) where
  sum : length (both seam s rest e) ≡ length (front s seam) + length (front e rest)
  sum = length-append (front s seam) (front e rest)

  -- There is room for a quarter more.
  pub needed-quick : length seam + length rest + (length seam + length rest) / 4 ≤ room → Needed seam s rest e room room
  needed-quick h =
      let b = both-short seam s rest e in
      let l = sum in
      record { more = λ m. absurd (omega (arith, m)); enough = λ m. omega (arith, h, b, l) }

  -- What is written is measured.
  pub needed-measured : (a b : ℕ) → a ≡ length (front s seam) → b ≡ length (front e rest) → Needed seam s rest e room (a + b)
  needed-measured a b p q = let l = sum in record { more = λ m. omega (arith, p, q, l); enough = λ m. omega (arith, p, q, l, m) }

  pub needed-room : {r : ℕ} → Needed seam s rest e room r → r ≤ room → length (front s seam) + length (front e rest) ≤ room
  needed-room n h =
      let m = n.enough h in
      let l = sum in
      omega (arith, m, l)

-- The first n bytes are written with a byte more for each backslash.
raw-first : (n : ℕ) (t : List ℕ) → n ≤ length t → length (result (take n (through raw_step t))) ≡ replaced (take n (through raw_step t)) + n
raw-first zero t h = omega arith
raw-first (suc n) [] h = absurd (omega arith)
raw-first (suc n) (b ∷ t) h = rw (raw-through b t) (go (marked b t) (raw-first n t (omega arith)))
  where
    go : (x : Bool) → length (result (take n (through raw_step t))) ≡ replaced (take n (through raw_step t)) + n
        → length (gives (raw_move x b) ++ result (take n (through raw_step t))) ≡ replaced (raw_move x b ∷ take n (through raw_step t)) + suc n
    go true ih = omega (arith, ih)
    go false ih = omega (arith, ih)

-- So it has at least as many bytes.
pub front_long : (n : ℕ) (t : List ℕ) → n ≤ length t → n ≤ length (front n t)
front_long n t h = let r = raw-first n t h in omega (arith, r)

module _ (seam : List ℕ) (s : ℕ) (rest : List ℕ) (e : ℕ) (out : List ℕ) where
  -- There is no room for it,
  pub released-none : {r : ℕ} {a : Answer} → Needed seam s rest e (length out) r → length out < r → a ≡ refusal 3 r 0 → Released seam s rest e out a out
  released-none {r} {a} n h p =
      let m = n.more h in
      inl (omega (arith, h, m), p ∙ ap (λ (n : ℕ). refusal 3 n 0) m, refl)

  -- or it is written.
  pub released-all : {n : ℕ} {a : Answer} {o : List ℕ} → length (front s seam) + length (front e rest) ≤ length out → (n ≡ length (both seam s rest e)) × (o ≡ over (both seam s rest e) out)
      → a ≡ part_success n (n - (s + e)) → Released seam s rest e out a o
  released-all {n} {a} {o} h w p =
      let l = length-append (front s seam) (front e rest) in
      inr (omega (arith, h, l), p ∙ ap (λ (n : ℕ). part_success n (n - (s + e))) w.0, w.1)

-- ---- a part call by its seam

-- The rest is what the seam holds and then u, so that the text of the call is the settled bytes of the seam and the rest.
module _ (st : RawState) (seam rest u out : List ℕ) (s : ℕ) (p : s ≡ settled seam) (small : st.done + s + length rest ≤ 65536) (e : rest ≡ held seam ++ u) (f : st.finished ≡ false) where
  abbrev k : PartCall
  k = record { last = false; state = st; joined = seam ++ u; room = length out }

  split : seam ++ u ≡ take (settled seam) seam ++ rest
  split =
      ap (λ (l : List ℕ). l ++ u) (sym (take-append-drop (settled seam) seam) ∙ ap (λ (l : List ℕ). take (settled seam) seam ++ l) (sym (held-tail seam)))
      ∙ append_assoc (take (settled seam) seam) (held seam) u
      ∙ ap (λ (l : List ℕ). take (settled seam) seam ++ l) (sym e)

  short : ltb text_limit (st.done + length (seam ++ u)) ≡ false
  short =
      let a = length-append seam u in
      let b = ap length e ∙ length-append (held seam) u in
      let c = settled-sum seam in
      le-ltb text_limit (st.done + length (seam ++ u)) (omega (arith, a, b, c, p, small))

  -- The seam breaks.
  pub seam-broken : {a : Answer} (v : ℕ) → Sound seam v → v < length seam → a ≡ refusal 2 0 (st.done + v) → Leaves k out a st out
  seam-broken v s h q =
      let b = s.bad h in
      let w = broken-row k out f short (broken-far seam u b.0) (st.done + v) (ap (λ (n : ℕ). st.done + n) (b.1 ∙ sym (broken-place seam u b.0))) in
      (q ∙ w.0, w.1, w.2)

  module _ (v : ℕ) (sound : Sound seam v) (whole : length seam ≤ v) where
    text : IsText (take (settled seam) seam)
    text = settled-text seam (sound.fine whole)

    settled-length : length (take (settled seam) seam) ≡ settled seam
    settled-length = let s = settled-sum seam in length-take-le (settled seam) seam (omega (arith, s))

    same-breaks : broken (seam ++ u) ≡ broken rest
    same-breaks = ap broken split ∙ broken-after (take (settled seam) seam) rest text

    -- The rest does.
    pub rest-broken : {a : Answer} (w : ℕ) → Sound rest w → w < length rest → a ≡ refusal 2 0 (st.done + s + w) → Leaves k out a st out
    rest-broken w r h q =
        let b = r.bad h in
        let v : valid_to (seam ++ u) ≡ settled seam + valid_to rest = ap valid_to split ∙ valid-after (take (settled seam) seam) rest text ∙ ap (λ (n : ℕ). n + valid_to rest) settled-length in
        let d = b.1 in
        let l = broken-row k out f short (same-breaks ∙ b.0) (st.done + s + w) (omega (arith, v, d, p)) in
        (q ∙ l.0, l.1, l.2)

    module _ (w : ℕ) (fine : Sound rest w) (all : length rest ≤ w) where
      good : broken (seam ++ u) ≡ false
      good = same-breaks ∙ fine.fine all

      writes : result (settled_moves (seam ++ u)) ≡ both seam (settled seam) rest (settled rest)
      writes =
          ap result (settled-parts seam u) ∙ result-append (settled_moves seam) (settled_moves (held seam ++ u))
          ∙ ap (λ (l : List ℕ). result (settled_moves seam) ++ result (settled_moves l)) (sym e)

      -- Each backslash is one byte more.
      grown : length (result (settled_moves (seam ++ u))) ≡ replaced (settled_moves (seam ++ u)) + settled (seam ++ u)
      grown = raw-first (settled (seam ++ u)) (seam ++ u) (let s = settled-sum (seam ++ u) in omega (arith, s))

      sum-settled : settled (seam ++ u) ≡ settled seam + settled rest
      sum-settled = settled-add seam u ∙ ap (λ (l : List ℕ). settled seam + settled l) (sym e)

      module _ (n : ℕ) (q : n ≡ settled rest) where
        exact : {a : Answer} {o : List ℕ} → Released seam s rest n out a o → Released seam (settled seam) rest (settled rest) out a o
        exact {a} {o} h = subst (λ (m : ℕ). Released seam m rest (settled rest) out a o) p (subst (λ (m : ℕ). Released seam s rest m out a o) q h)

        -- There is no room.
        pub part-refused : {a : Answer} {o : List ℕ} → Released seam s rest n out a o → (a.status ≡ 0 → ⊥) → Leaves k out a st o
        part-refused {a} {o} h z = go (exact h)
          where
            go : Released seam (settled seam) rest (settled rest) out a o → Leaves k out a st o
            go (inl h) =
                let (l, x, g) = h in
                let w = room_row k out f short good refl (length (both seam (settled seam) rest (settled rest))) (sym (ap length writes)) l in
                (x ∙ w.0, w.1, g ∙ w.2)
            go (inr h) = absurd (z (ap (λ (b : Answer). b.status) h.1))

        -- What is released is the answer and the output of the call; the state after it holds what the rest holds.
        pub part-passed : {a : Answer} {o : List ℕ} {next : RawState} → Released seam s rest n out a o → a.status ≡ 0 → next ≡ holding (drop n rest) (st.done + s + n) false
            → Leaves k out a next o
        part-passed {a} {o} {next} h z x = go (exact h)
          where
            after : holding (drop n rest) (st.done + s + n) false ≡ part_state written k
            after =
                let t = sum-settled in
                let d : st.done + s + n ≡ st.done + settled (seam ++ u) = omega (arith, t, p, q) in
                let g : drop n rest ≡ held (seam ++ u) = ap (λ (m : ℕ). drop m rest) q ∙ sym (held-tail rest) ∙ ap held e ∙ sym (held-parts seam u) in
                λ i. holding (g i) (d i) false

            go : Released seam (settled seam) rest (settled rest) out a o → Leaves k out a next o
            go (inl h) = let t : a.status ≡ 3 = ap (λ (b : Answer). b.status) h.1 in absurd (omega (arith, t, z))
            go (inr h) =
                let (l, y, g) = h in
                let m = ap length writes in
                let d = grown in
                let t = sum-settled in
                let r : replaced (settled_moves (seam ++ u)) ≡ length (both seam (settled seam) rest (settled rest)) - (settled seam + settled rest) = omega (arith, m, d, t) in
                let w = written_row k out f short good refl (omega (arith, m, l)) in
                (y ∙ (λ i. part_success (sym m i) (sym r i)) ∙ w.0, x ∙ after ∙ w.1, g ∙ ap (λ (l : List ℕ). over l out) (sym writes) ∙ w.2)

-- ---- the seam of a part

module _ (h t : List ℕ) where
  abbrev seam : List ℕ
  seam = h ++ take 8 t

  -- The seam and what is behind it.
  pub seam-all : h ++ t ≡ seam ++ drop 8 t
  seam-all = ap (λ (l : List ℕ). h ++ l) (sym (take-append-drop 8 t)) ∙ sym (append_assoc h (take 8 t) (drop 8 t))

  -- What it does not settle; a short text has nothing behind it.
  pub rest-short : length t ≤ 8 → drop (settled seam) seam ≡ held seam ++ drop 8 t
  rest-short l = sym (held-tail seam) ∙ sym (append-nil (held seam)) ∙ ap (λ (l : List ℕ). held seam ++ l) (sym (drop_of_length-le t l))

  -- Of a long text the settled bytes are at least those that were held before,
  pub rest-after : 8 ≤ length t → length h ≤ settled seam
  rest-after l =
      let s = settled-sum seam in
      let m = held-short seam in
      let n = length-append h (take 8 t) in
      let q = length-take-le 8 t l in
      omega (arith, s, m, n, q)

  -- and what is not settled lies in the text.
  pub rest-long : 8 ≤ length t → drop (settled seam - length h) t ≡ held seam ++ drop 8 t
  rest-long l =
      let a = rest-after l in
      let s = settled-sum seam in
      let n = length-append h (take 8 t) in
      let q = length-take-le 8 t l in
      let k = settled seam - length h in
      let e : length h + k ≡ settled seam = omega (arith, a) in
      let small : k ≤ length (take 8 t) = omega (arith, a, s, n, q) in
      let d : held seam ≡ drop k (take 8 t) =
      held-tail seam ∙ ap (λ (n : ℕ). drop n seam) (sym e) ∙ sym (drop-drop k (length h) seam) ∙ ap (drop k) (drop_at h (take 8 t) (length h) refl) in
      ap (drop k) (sym (take-append-drop 8 t)) ∙ drop-append-le k (take 8 t) (drop 8 t) small ∙ ap (λ (l : List ℕ). l ++ drop 8 t) (sym d)

module _ (h t seam : List ℕ) (e : seam ≡ h ++ take 8 t) (s : ℕ) (p : s ≡ settled seam) where
  exact-settled : s ≡ settled (h ++ take 8 t)
  exact-settled = p ∙ ap settled e

  -- The rest of a short text is lent of the seam,
  pub short-rest : length t ≤ 8 → take (length seam - s) (drop s seam) ≡ held (h ++ take 8 t) ++ drop 8 t
  short-rest l = lent-rest s seam ∙ (λ i. drop (exact-settled i) (e i)) ∙ rest-short h t l

  pub short-size : length t ≤ 8 → length seam ≡ length h + length t
  short-size l = ap length e ∙ length-append h (take 8 t) ∙ ap (λ (x : List ℕ). length h + length x) (take_all 8 t l)

  -- and that of a long one of the text.
  module _ (n : ℕ) (q : n ≡ length h) (l : 8 ≤ length t) where
    pub long_after : n ≤ s
    long_after =
        let a = rest-after h t l in
        let b = exact-settled in
        omega (arith, a, b, q)

    pub long_rest : take (length t - (s - n)) (drop (s - n) t) ≡ held (h ++ take 8 t) ++ drop 8 t
    long_rest = lent-rest (s - n) t ∙ (λ i. drop (exact-settled i - q i) t) ∙ rest-long h t l

    pub long-size : length seam ≡ n + 8
    long-size = ap length e ∙ length-append h (take 8 t) ∙ (λ i. sym q i + length-take-le 8 t l i)

-- A call of the seam and what is behind it is the call of the part.
pub part-joined : (st : RawState) (t out seam : List ℕ) {rest : List ℕ} {a : Answer} {s : RawState} {o : List ℕ} → seam ≡ held_in st ++ take 8 t → st.finished ≡ false
    → rest ≡ held (held_in st ++ take 8 t) ++ drop 8 t → Joined st seam rest out a s o → Leaves (part_call false st t out) out a s o
part-joined st t out seam {rest} {a} {s} {o} p f e l =
    subst (λ (j : List ℕ). Leaves (record { last = false; state = st; joined = j; room = length out }) out a s o)
    (ap (λ (l : List ℕ). l ++ drop 8 t) p ∙ sym (seam-all (held_in st) t)) (l (drop 8 t) (e ∙ ap (λ (l : List ℕ). held l ++ drop 8 t) (sym p)) f)

-- ---- a call that is finished, or too long

pub finished-part : (last : Bool) (st : RawState) (t out : List ℕ) {a : Answer} → st.finished ≡ true → a ≡ refusal 9 0 0 → Leaves (part_call last st t out) out a st out
finished-part last st t out f q = let l = finished-row (part_call last st t out) out f in (q ∙ l.0, l.1, l.2)

-- The limit is tested of the count of the held bytes.
pub long-part : (last : Bool) (st : RawState) (t out : List ℕ) (r : ℕ) {b : Bool} {a : Answer} → st.finished ≡ false → r ≡ length (held_in st)
    → b ≡ ltb 65536 (st.done + (r + length t)) → b ≡ true → a ≡ refusal 1 0 0 → Leaves (part_call last st t out) out a st out
long-part last st t out r f e p b q =
    let n = length-append (held_in st) t in
    let s : st.done + length (held_in st ++ t) ≡ st.done + (r + length t) = omega (arith, n, e) in
    let l = long-row (part_call last st t out) out f (ap (ltb 65536) s ∙ sym p ∙ b) in
    (q ∙ l.0, l.1, l.2)

-- ---- finish

module _ (st : RawState) (h out : List ℕ) (f : st.finished ≡ false) (short : ltb text_limit (st.done + length h) ≡ false) where
  abbrev last : PartCall
  last = record { last = true; state = st; joined = h; room = length out }

  pub finish-invalid : (v n : ℕ) → v ≡ valid_to h → v < length h → n ≡ cond (is_cut (drop v h)) 7 2 → Leaves last out (refusal n 0 (st.done + v)) st out
  finish-invalid v n e m c =
      let l : valid_to h < length h = omega (arith, e, m) in
      let w = go l (is_cut (drop (valid_to h) h)) refl in
      let s : n ≡ cond (is_cut (drop (valid_to h) h)) 7 2 = c ∙ ap (λ (k : ℕ). cond (is_cut (drop k h)) 7 2) e in
      ((λ i. refusal (s i) 0 (st.done + e i)) ∙ w.0, w.1, w.2)
    where
      below : valid_to h < length h → ltb (valid_to h) (length h) ≡ true
      below l = lt-ltb (valid_to h) (length h) l

      go : valid_to h < length h → (x : Bool) → is_cut (drop (valid_to h) h) ≡ x → Leaves last out (refusal (cond x 7 2) 0 (st.done + valid_to h)) st out
      go l true e = cut-row last out f short (λ i. below l i && not (e i)) (λ i. below l i && e i) (st.done + valid_to h) refl
      go l false e = broken-row last out f short (λ i. below l i && not (e i)) (st.done + valid_to h) refl

  module _ (valid : length h ≤ valid_to h) where
    whole : (x : Bool) → (ltb (valid_to h) (length h) && x) ≡ false
    whole x = ap (λ (b : Bool). b && x) (le-ltb (valid_to h) (length h) valid)

    pub finish-room : (n : ℕ) → n ≡ length (raw_of h) → length out < n → Leaves last out (refusal 3 n 0) st out
    finish-room n e l = room_row last out f short (whole (not (is_cut (drop (valid_to h) h)))) (whole (is_cut (drop (valid_to h) h))) n e l

    pub finish-written : (n : ℕ) → n ≡ length (raw_of h) → n ≤ length out
        → Leaves last out (part_success n (n - length h)) (holding [] (st.done + length h) true) (over (raw_of h) out)
    finish-written n e l =
        let r = raw-replaced h in
        let m : replaced (through raw_step h) ≡ n - length h = omega (arith, e, r) in
        let w = written_row last out f short (whole (not (is_cut (drop (valid_to h) h)))) (whole (is_cut (drop (valid_to h) h))) (omega (arith, e, l)) in
        ((λ i. part_success (e i) (sym m i)) ∙ w.0, w.1, w.2)

-- The call of what is held is finish.
pub finish-held : (st : RawState) (h out : List ℕ) {a : Answer} {s : RawState} {o : List ℕ} → h ≡ held_in st
    → Leaves (record { last = true; state = st; joined = h; room = length out }) out a s o → Leaves (part_call true st [] out) out a s o
finish-held st h out {a} {s} {o} e l =
    subst (λ (j : List ℕ). Leaves (record { last = true; state = st; joined = j; room = length out }) out a s o) (e ∙ sym (append-nil (held_in st))) l
