-- Between two bytes that may not stand by themselves each byte is kept; at one of them that is no backslash the rule stops.
-- Assumes nothing.
use mathlib.Core.Bool.{Bool, true, false, ◌||◌, ◌&&◌, cond}
use mathlib.Core.Path.{◌≡◌, refl, sym, ap, ◌∙◌, subst}
use mathlib.Core.List.{List, [], ◌∷◌, ◌++◌, append-nil}
use Prim.Native.Nat.{ℕ, ◌+◌, ◌-◌, ◌*◌, ◌/◌, ◌≤◌, ◌<◌, min}
use native.Mathlib.Numerals.{add-one}
use native.Mathlib.Omega.{arith}
use borrow.Author.Tests.{ltb-true, ltb-false}
use lib.Bits.{bit_xor}
use lib.Dec.{T, eqb, ltb, leb, eqb→eq, leb→le}
use lib.ListN.{length, take, drop, get_or, set, length-append, length-drop}
use lib.Seq.{drop-drop, set_split, take-add}
use Rattle.rules.specs.Bytes.{one_of, over}
use Rattle.rules.specs.Moves.{keep, stop, before, from, result}
use Rattle.rules.specs.Reading.{unless}
use Rattle.rules.specs.Json.{escaped_only, json_step}
use Rattle.rules.proofs.Tests.{and_left, and_right}
use Rattle.rules.proofs.EveryByte.{every_byte_lem}
use Rattle.rules.proofs.Below.{agree, agrees}
use Rattle.rules.proofs.Loops.{drop-next}
use Rattle.rules.proofs.Quiet.{Keeps}
use Rattle.rules.proofs.Json.{no-escape, element-keeps}
use Rattle.rules.specs.Utf8.{utf8}
use Rattle.rules.specs.declared.Escape.{Escape}
use Rattle.std.specs.Prelude.{Option as Maybe, Some}
use Rattle.base.specs.First.{Free, First}
use Rattle.base.proofs.Filled.{Filled, Next, filled_more, filled_put, filled-end, lent-rest}
use Rattle.base.proofs.Counted.{Counted, counted-swap, next-swap}
use Rattle.decode_json.specs.Escapes.{halt_at, Tells}

-- The test of a byte, as the code has it.
pub halt-test : (b : ℕ) → b < 256 → (ltb b 32 || eqb b 0x22 || eqb b 0x5C) ≡ one_of escaped_only b
halt-test b h =
    agrees (ltb b 32 || eqb b 0x22 || eqb b 0x5C) (one_of escaped_only b) (every_byte_lem (λ (b : ℕ). agree (ltb b 32 || eqb b 0x22 || eqb b 0x5C) (one_of escaped_only b)) tt b h)

-- The distance of a byte from those, as the code has it: computed for every byte.
abbrev far : ℕ → ℕ
far b = min (min (b / 32) (bit_xor b 34)) (bit_xor b 92)

abbrev pub Distant : ℕ → ℕ → Type 0
Distant b r = (r ≤ 7) × (eqb r 0 ≡ one_of escaped_only b)

pub distant : (b : ℕ) → b < 256 → Distant b (far b)
distant b h =
    let t = every_byte_lem (λ (b : ℕ). leb (far b) 7 && agree (eqb (far b) 0) (one_of escaped_only b)) tt b h in
    (leb→le (far b) 7 (and_left (leb (far b) 7) (agree (eqb (far b) 0) (one_of escaped_only b)) t), agrees (eqb (far b) 0) (one_of escaped_only b) (and_right (leb (far b) 7) (agree (eqb (far b) 0) (one_of escaped_only b)) t))

-- ---- the first of sixteen

-- Of the j places from `at` on that were looked at, none before place n - 1 passes the test; n is below 17 only if the test passes there.
pub record Sought (test : ℕ → Bool) (at j n : ℕ) : Type 0 where
  pub few : j ≤ 16
  pub some : 1 ≤ n
  pub most : n ≤ 17
  pub none : (k : ℕ) → at ≤ k → k < at + j → k + 1 < at + n → test k ≡ false
  pub here : n < 17 → test (at + (n - 1)) ≡ true

pub sought-start : (test : ℕ → Bool) (at : ℕ) → Sought test at 0 17
sought-start test at = record { few = omega arith; some = omega arith; most = omega arith; none = λ k a b c. absurd (omega arith); here = λ h. absurd (omega arith) }

pub sought-end : (test : ℕ → Bool) (at n : ℕ) → Sought test at 16 n → First test (at + 16) at (at + (n - 1))
sought-end test at n s = record {
  after = omega arith;
  within = omega (arith, s.most);
  none = λ k a b. s.none k a (omega (arith, s.most)) (omega (arith, s.some));
  here = λ h. s.here (omega (arith, s.some));
}

-- The lesser of two numbers, by a test.
lesser : (m n : ℕ) → cond (ltb m n) m n ≡ min m n
lesser m n = go (ltb m n) refl
  where
    go : (x : Bool) → ltb m n ≡ x → cond x m n ≡ min m n
    go true z = let l = ltb-true m n z in omega arith
    go false z = let l = ltb-false m n z in omega arith

-- One place more: d is 0 exactly if the test passes there.
pub sought-next : (test : ℕ → Bool) (at j n d : ℕ) → Sought test at j n → j < 16 → eqb d 0 ≡ test (at + j) → Sought test at (j + 1) (min n (d * 32 + (j + 1)))
sought-next test at j n d s h e = rw (← lesser n (d * 32 + (j + 1))) (go (test (at + j)) refl (ltb n (d * 32 + (j + 1))) refl)
  where
    -- The place is one of those before, or the new one.
    at_new : test (at + j) ≡ false → (k : ℕ) → at ≤ k → k < at + (j + 1) → k + 1 < at + n → test k ≡ false
    at_new f k a b c = by (ltb k (at + j)) refl
      where
        by : (x : Bool) → ltb k (at + j) ≡ x → test k ≡ false
        by true z = s.none k a (ltb-true k (at + j) z) c
        by false z = let l = ltb-false k (at + j) z in ap test (let same : k ≡ at + j = omega arith in same) ∙ f

    zero-d : test (at + j) ≡ true → d ≡ 0
    zero-d f = eqb→eq d 0 (subst T (sym (e ∙ f)) tt)

    some-d : test (at + j) ≡ false → 1 ≤ d
    some-d f = by (ltb 0 d) refl
      where
        by : (x : Bool) → ltb 0 d ≡ x → 1 ≤ d
        by true z = ltb-true 0 d z
        by false z = absurd (let l = ltb-false 0 d z in let q : d ≡ 0 = omega arith in subst T (ap (λ (m : ℕ). eqb m 0) (sym q) ∙ e ∙ f) tt)

    go : (x : Bool) → test (at + j) ≡ x → (y : Bool) → ltb n (d * 32 + (j + 1)) ≡ y → Sought test at (j + 1) (cond y n (d * 32 + (j + 1)))
    go true f true z =
        let q = zero-d f in
        let l = ltb-true n (d * 32 + (j + 1)) z in
        record { few = omega arith; some = s.some; most = s.most; none = λ k a b c. s.none k a (omega arith) c; here = s.here }
    go true f false z =
        let q = zero-d f in
        let l = ltb-false n (d * 32 + (j + 1)) z in
        let same : d * 32 + (j + 1) ≡ j + 1 = omega arith in
        let last : at + (j + 1 - 1) ≡ at + j = omega arith in
        rw same (record { few = omega arith; some = omega arith; most = omega arith; none = λ k a b c. s.none k a (omega arith) (omega arith); here = λ m. ap test last ∙ f })
    go false f true z = record { few = omega arith; some = s.some; most = s.most; none = at_new f; here = s.here }
    go false f false z = absurd (let q = some-d f in let l = ltb-false n (d * 32 + (j + 1)) z in omega (arith, s.most))

-- ---- a stretch that is copied

-- A part of a text in two.
pub part_join : (t : List ℕ) (a i e : ℕ) → a ≤ i → i ≤ e → take (e - a) (drop a t) ≡ take (i - a) (drop a t) ++ take (e - i) (drop i t)
part_join t a i e h l =
    let sum : e - a ≡ i - a + (e - i) = omega arith in
    let back : a + (i - a) ≡ i = omega arith in
    ap (λ (n : ℕ). take n (drop a t)) sum ∙ take-add (i - a) (e - i) (drop a t)
    ∙ ap (λ (s : List ℕ). take (i - a) (drop a t) ++ take (e - i) s) (drop-drop (i - a) a t ∙ ap (λ (n : ℕ). drop n t) back)

pub part-next : (t : List ℕ) (a i : ℕ) → a ≤ i → i < length t → take (i + 1 - a) (drop a t) ≡ take (i - a) (drop a t) ++ get_or t i 0 ∷ []
part-next t a i h l =
    let one : i + 1 - i ≡ 1 = omega arith in
    let last : take (i + 1 - i) (drop i t) ≡ get_or t i 0 ∷ [] = rw (one, drop-next t i l) in
    part_join t a i (i + 1) h (omega arith) ∙ ap (λ (s : List ℕ). take (i - a) (drop a t) ++ s) last

-- The bytes w stand at the start of the output, and v is to follow.
pub begun : (w v out₀ out : List ℕ) (n : ℕ) → length w ≡ n → n + length v ≤ length out₀ → out ≡ over w out₀ → Filled (w ++ v) v out₀ out n
begun w v out₀ out n size room e =
    let long = length-append w v in
    record {
      done = w;
      size = size;
      sum = omega arith;
      kept = omega (arith, ap length e, length-append w (drop (length w) out₀), length-drop (length w) out₀);
      room = omega arith;
      holds = e ∙ ap (λ (m : ℕ). w ++ drop m out₀) size;
      goes = refl;
    }

-- What is written over the start of an output leaves its length.
pub over-length : (w out : List ℕ) → length w ≤ length out → length (over w out) ≡ length out
over-length w out h = omega (arith, length-append w (drop (length w) out), length-drop (length w) out)

-- One byte more.
pub one_more : (w out₀ out : List ℕ) (n x : ℕ) → length w ≡ n → n < length out₀ → out ≡ over w out₀ → set out n x ≡ over (w ++ x ∷ []) out₀
one_more w out₀ out n x size room e =
    let f = begun w (x ∷ []) out₀ out n size (omega arith) e in
    filled-end (filled_more (x ∷ []) [] (set out n x) f refl (set_split out n x (omega (arith, f.kept)) ∙ rw (drop-drop, add-one)))

-- A part more, written into the rest of the output.
pub part-more : (w v out₀ out last : List ℕ) (n : ℕ) → length w ≡ n → n + length v ≤ length out₀ → out ≡ over w out₀ → last ≡ over v (take (length out - n) (drop n out))
    → take n out ++ (last ++ drop (length out - n) (drop n out)) ≡ over (w ++ v) out₀
part-more w v out₀ out last n size room e l =
    let f = begun w v out₀ out n size room e in
    let next : Next v v [] = record { next = sym (append-nil v) } in
    filled-end (filled_put f next last (length v) refl l)

module _ (t : List ℕ) where
  -- Each byte of a stretch without one of those is kept.
  pub content-quiet : (i e : ℕ) → e ≤ length t → Free (halt_at t) i e → Keeps json_step t i e
  content-quiet i e within none k h l =
      ap (json_step (before t k)) (drop-next t k (omega arith)) ∙ element-keeps (before t k) (get_or t k 0) (drop (k + 1) t) (λ x. subst T (none k h l) x)

  -- At such a byte that is no backslash the rule stops.
  pub halt-stops : (i : ℕ) → i < length t → halt_at t i ≡ true → (get_or t i 0 ≡ 0x5C → ⊥) → json_step (before t i) (drop i t) ≡ stop 4
  halt-stops i h b n =
      ap (json_step (before t i)) (drop-next t i h)
      ∙ no-escape (before t i) (get_or t i 0) (drop (i + 1) t) (λ x. n (sym (eqb→eq 0x5C (get_or t i 0) x)))
      ∙ ap (λ (c : Bool). unless c (keep (get_or t i 0 ∷ []))) b

  -- The rest of the text from a backslash on, as it is lent, begins with it.
  pub rest-begins : (i : ℕ) → i < length t → get_or t i 0 ≡ 0x5C → (0 < length (take (length t - i) (drop i t))) × (get_or (take (length t - i) (drop i t)) 0 0 ≡ 0x5C)
  rest-begins i h e = rw (lent-rest i t, drop-next t i h) (omega arith, e)

  -- What was read there from the rest that is lent is the move there.
  pub told-here : (i : ℕ) (r : Maybe Escape) → ((p : ℕ) → Tells (json_step p (take (length t - i) (drop i t))) (take (length t - i) (drop i t)) r)
      → Tells (json_step (before t i) (drop i t)) (drop i t) r
  told-here i r h = rw (lent-rest i t) at (h (before t i))

  -- It lies within the text.
  pub read-within : (i : ℕ) (e : Escape) → i < length t → Tells (json_step (before t i) (drop i t)) (drop i t) (Some e)
      → (1 ≤ e.taken) × (i + e.taken ≤ length t) × (length (utf8 e.character) ≤ e.taken) × (e.character ≤ 0x10FFFF)
  read-within i e h (m, some, ends, shorter, most) = (some, omega (arith, h, rw length-drop at ends), shorter, most)

  -- So the count goes on past it,
  pub counted-told : {i n k : ℕ} → Counted json_step t i n k → (e : Escape) → i < length t → Tells (json_step (before t i) (drop i t)) (drop i t) (Some e)
      → Counted json_step t (i + e.taken) (n + length (utf8 e.character)) (k + 1)
  counted-told {i} c e h tells = let w = read-within i e h tells in counted-swap c e.taken (utf8 e.character) w.0 w.1 w.2 tells.0

  -- and its character stands next in the result.
  pub next-told : (i : ℕ) (e : Escape) → i < length t → Tells (json_step (before t i) (drop i t)) (drop i t) (Some e)
      → Next (result (from json_step t i)) (utf8 e.character) (result (from json_step t (i + e.taken)))
  next-told i e h tells = let w = read-within i e h tells in next-swap json_step t i e.taken (utf8 e.character) w.0 w.1 tells.0
