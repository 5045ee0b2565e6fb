-- The laws of raw script by parts, over states and calls. The moves of passed calls, one after the other, are those of one encode of the parts, from any
-- state: a part call makes the settled moves and keeps the bytes of the others. The tests of a call are those of the whole text so far.
-- Assumes nothing.
use mathlib.Core.Bool.{Bool, true, false, not, ◌&&◌, cond}
use mathlib.Core.Logic.{◌↔◌}
use mathlib.Core.Path.{◌≡◌, refl, sym, ap, ◌∙◌, subst}
use mathlib.Core.List.{List, [], ◌∷◌, ◌++◌, append_assoc, append-nil}
use Prim.Native.Nat.{ℕ, ◌+◌, ◌-◌, ◌*◌, ◌≤◌}
use native.Mathlib.Omega.{arith}
use borrow.Author.Tests.{ltb-false, le-ltb}
use lib.Dec.{ltb}
use lib.ListN.{length as size, take, drop, length-append, take-append-drop}
use lib.Seq.{take_at, drop_at, drop-drop, take-add, length-take-le}
use Rattle.rules.specs.Bytes.{All, over}
use Rattle.rules.specs.Moves.{Move, through, result, replaced}
use Rattle.rules.specs.Utf8.{IsText, valid_to, is_cut}
use Rattle.rules.specs.Encoding.{raw_step}
use Rattle.rules.specs.Operations.{raw_of}
use Rattle.rules.specs.Refusals.{text_limit}
use Rattle.rules.specs.Stream.{held, settled, settled_moves, moves_at, held_in, started, holding, PartCall, PartCase, finished, too_long, not-utf8, cut_short, no_room, written, before, PartSays, PartGiven, broken, unfinished, part_case, part_answer, part_state, part_moves, part_call, PartAllowed}
use Rattle.rules.specs.declared.Answer.{Answer}
use Rattle.rules.specs.declared.RawState.{RawState}
use Rattle.rules.proofs.Valid.{valid-iff, valid-within}
use Rattle.rules.proofs.Encoder.{text-append}
use Rattle.rules.proofs.Texts.{raw-text}
use Rattle.rules.proofs.Refused.{off, refuted, below-iff, cut-says, broken-says}
use Rattle.rules.proofs.Stream.{true-false, moves-parts, settled-parts, held-parts, held-tail, settled-sum, settled-add, raw-parts}
use Rattle.rules.proofs.Blind.{result-append, replaced-append}
use Rattle.rules.proofs.Released.{settled-text, settled-valid-text, valid-after, broken-far, broken-after, short-after, drop-after}
use Rattle.rules.proofs.Quarter.{raw-quarter}

-- ---- the table is given exactly when its words say

-- The tests of the table, one after the other.
abbrev pub chosen : Bool → Bool → Bool → Bool → Bool → PartCase
chosen f a b c e = cond f finished (cond a too_long (cond b not-utf8 (cond c cut_short (cond e no_room written))))

module _ (says : PartCase → Type 0) (sure : says written) where
  abbrev Row : PartCase → Type 0
  Row row = says row × All (λ (other : PartCase). says other → ⊥) (before row)

  chosen-given : (f : Bool) → (f ≡ true) ↔ says finished → (a : Bool) → (a ≡ true) ↔ says too_long → (b : Bool) → (b ≡ true) ↔ says not-utf8
      → (c : Bool) → (c ≡ true) ↔ says cut_short → (e : Bool) → (e ≡ true) ↔ says no_room → Row (chosen f a b c e)
  chosen-given true o a p b q c r e s = (o.0 refl, tt)
  chosen-given false o true p b q c r e s = (p.0 refl, (refuted o, tt))
  chosen-given false o false p true q c r e s = (q.0 refl, (refuted o, (refuted p, tt)))
  chosen-given false o false p false q true r e s = (r.0 refl, (refuted o, (refuted p, (refuted q, tt))))
  chosen-given false o false p false q false r true s = (s.0 refl, (refuted o, (refuted p, (refuted q, (refuted r, tt)))))
  chosen-given false o false p false q false r false s = (sure, (refuted o, (refuted p, (refuted q, (refuted r, (refuted s, tt))))))

  given-chosen : (f : Bool) → (f ≡ true) ↔ says finished → (a : Bool) → (a ≡ true) ↔ says too_long → (b : Bool) → (b ≡ true) ↔ says not-utf8
      → (c : Bool) → (c ≡ true) ↔ says cut_short → (e : Bool) → (e ≡ true) ↔ says no_room → (row : PartCase) → Row row → chosen f a b c e ≡ row
  given-chosen f o a p b q c r e s finished h = λ i. chosen (o.1 h.0 i) a b c e
  given-chosen f o a p b q c r e s too_long h = λ i. chosen (off f o h.1.0 i) (p.1 h.0 i) b c e
  given-chosen f o a p b q c r e s not-utf8 h = λ i. chosen (off f o h.1.0 i) (off a p h.1.1.0 i) (q.1 h.0 i) c e
  given-chosen f o a p b q c r e s cut_short h = λ i. chosen (off f o h.1.0 i) (off a p h.1.1.0 i) (off b q h.1.1.1.0 i) (r.1 h.0 i) e
  given-chosen f o a p b q c r e s no_room h =
      λ i. chosen (off f o h.1.0 i) (off a p h.1.1.0 i) (off b q h.1.1.1.0 i) (off c r h.1.1.1.1.0 i) (s.1 h.0 i)
  given-chosen f o a p b q c r e s written h =
      λ i. chosen (off f o h.1.0 i) (off a p h.1.1.0 i) (off b q h.1.1.1.0 i) (off c r h.1.1.1.1.0 i) (off e s h.1.1.1.1.1.0 i)

at-end : {P : Type 0} (last x : Bool) → (x ≡ true) ↔ P → (last && x ≡ true) ↔ ((last ≡ true) × P)
at-end true x i = (λ e. (refl, i.0 e), λ h. i.1 h.1)
at-end false x i = (λ e. true-false (sym e), λ h. h.0)

itself : (b : Bool) → (b ≡ true) ↔ (b ≡ true)
itself b = (λ e. e, λ e. e)

module _ (k : PartCall) where
  abbrev long : Bool
  long = ltb text_limit (k.state.done + size k.joined)

  abbrev tight : Bool
  tight = ltb k.room (size (result (moves_at k.last k.joined)))

  pub case-chosen : part_case k ≡ chosen k.state.finished long (broken k.joined) (k.last && unfinished k.joined) tight
  unfolding part_case
  case-chosen = refl

  -- Each row is given exactly when its words hold and those of no earlier row do.
  pub part-case-iff : (row : PartCase) → (part_case k ≡ row) ↔ PartGiven k row
  part-case-iff row = (
    λ e. subst (PartGiven k) (sym case-chosen ∙ e)
        (chosen-given (PartSays k) tt k.state.finished (itself k.state.finished) long (below-iff text_limit (k.state.done + size k.joined))
        (broken k.joined) (broken-says k.joined) (k.last && unfinished k.joined) (at-end k.last (unfinished k.joined) (cut-says k.joined))
        tight (below-iff k.room (size (result (moves_at k.last k.joined))))),
    λ h. case-chosen
        ∙ given-chosen (PartSays k) tt k.state.finished (itself k.state.finished) long (below-iff text_limit (k.state.done + size k.joined))
        (broken k.joined) (broken-says k.joined) (k.last && unfinished k.joined) (at-end k.last (unfinished k.joined) (cut-says k.joined))
        tight (below-iff k.room (size (result (moves_at k.last k.joined)))) row h,
  )

-- The tests of a call that passes, one by one.
pub record Passes (k : PartCall) : Type 0 where
  pub going : k.state.finished ≡ false
  pub short : k.state.done + size k.joined ≤ text_limit
  pub sound : broken k.joined ≡ false
  pub ended : (k.last && unfinished k.joined) ≡ false
  pub fits : size (result (moves_at k.last k.joined)) ≤ k.room

pub passed-tests : (k : PartCall) → part_case k ≡ written → Passes k
passed-tests k e =
    let h = (part-case-iff k written).0 e in
    record {
      going = off k.state.finished (itself k.state.finished) h.1.0;
      short = ltb-false text_limit (k.state.done + size k.joined) (off (long k) (below-iff text_limit (k.state.done + size k.joined)) h.1.1.0);
      sound = off (broken k.joined) (broken-says k.joined) h.1.1.1.0;
      ended = off (k.last && unfinished k.joined) (at-end k.last (unfinished k.joined) (cut-says k.joined)) h.1.1.1.1.0;
      fits = ltb-false k.room (size (result (moves_at k.last k.joined))) (off (tight k) (below-iff k.room (size (result (moves_at k.last k.joined)))) h.1.1.1.1.1.0);
    }

pub tests-passed : (k : PartCall) → Passes k → part_case k ≡ written
tests-passed k p =
    case-chosen k
    ∙ (λ i. chosen (p.going i) (le-ltb text_limit (k.state.done + size k.joined) p.short i) (p.sound i) (p.ended i)
    (le-ltb k.room (size (result (moves_at k.last k.joined))) p.fits i))

-- ---- refusals

-- A call that makes no moves is refused, and leaves the state and the output as they were.
pub part-refused : (k : PartCall) (out : List ℕ) → ((part_answer (part_case k) k).status ≡ 0 → ⊥) → (part_state (part_case k) k ≡ k.state) × (over (result (part_moves (part_case k) k)) out ≡ out)
part-refused k out n = go (part_case k) n
  where
    go : (row : PartCase) → ((part_answer row k).status ≡ 0 → ⊥) → (part_state row k ≡ k.state) × (over (result (part_moves row k)) out ≡ out)
    go finished n = (refl, refl)
    go too_long n = (refl, refl)
    go not-utf8 n = (refl, refl)
    go cut_short n = (refl, refl)
    go no_room n = (refl, refl)
    go written n = absurd (n refl)

-- Two results of one call are equal.
pub part-determined : (last : Bool) (st : RawState) (t out : List ℕ) (a b : Answer) (s u : RawState) (x y : List ℕ) → PartAllowed last st t out a s x → PartAllowed last st t out b u y
    → (a ≡ b) × (s ≡ u) × (x ≡ y)
part-determined last st t out a b s u x y p q = (p.0 ∙ sym q.0, p.1 ∙ sym q.1, p.2 ∙ sym q.2)

-- After a passed finish every call is refused.
pub finished-refuses : (k : PartCall) → k.state.finished ≡ true → part_case k ≡ finished
finished-refuses k e = (part-case-iff k finished).1 (e, tt)

-- ---- any number of calls, from any state

-- A state that holds h.
pub holds : (h : List ℕ) (n : ℕ) (end : Bool) → held_in (holding h n end) ≡ h
holds h n end = take_at h (drop (size h) started.held) (size h) refl

-- The call of a part with some room.
abbrev part_of : RawState → List ℕ × ℕ → PartCall
part_of st c = record { last = false; state = st; joined = held_in st ++ c.0; room = c.1 }

-- The text of a part that passes.
abbrev passing : PartCase → List ℕ → List ℕ
passing finished t = []
passing too_long t = []
passing not-utf8 t = []
passing cut_short t = []
passing no_room t = []
passing written t = t

-- The state after calls, each a part and its room; the texts that pass, joined; and the moves that are made.
abbrev pub after : RawState → List (List ℕ × ℕ) → RawState
after st [] = st
after st (c ∷ cs) = after (part_state (part_case (part_of st c)) (part_of st c)) cs

abbrev pub passed : RawState → List (List ℕ × ℕ) → List ℕ
passed st [] = []
passed st (c ∷ cs) = passing (part_case (part_of st c)) c.0 ++ passed (part_state (part_case (part_of st c)) (part_of st c)) cs

abbrev pub made : RawState → List (List ℕ × ℕ) → List Move
made st [] = []
made st (c ∷ cs) = part_moves (part_case (part_of st c)) (part_of st c) ++ made (part_state (part_case (part_of st c)) (part_of st c)) cs

-- The moves that are made, and those through what is held at the end, are the moves of one encode of all that passed.
pub calls-moves : (st : RawState) (cs : List (List ℕ × ℕ)) → made st cs ++ through raw_step (held_in (after st cs)) ≡ through raw_step (held_in st ++ passed st cs)
calls-moves st [] = ap (through raw_step) (sym (append-nil (held_in st)))
calls-moves st (c ∷ cs) = go (part_case (part_of st c)) (λ s. calls-moves s cs)
  where
    Goal : PartCase → Type 0
    Goal row =
        (part_moves row (part_of st c) ++ made (part_state row (part_of st c)) cs) ++ through raw_step (held_in (after (part_state row (part_of st c)) cs))
        ≡ through raw_step (held_in st ++ (passing row c.0 ++ passed (part_state row (part_of st c)) cs))

    go : (row : PartCase) → ((s : RawState) → made s cs ++ through raw_step (held_in (after s cs)) ≡ through raw_step (held_in s ++ passed s cs)) → Goal row
    go finished ih = ih st
    go too_long ih = ih st
    go not-utf8 ih = ih st
    go cut_short ih = ih st
    go no_room ih = ih st
    go written ih =
        let j = held_in st ++ c.0 in
        let s = part_state written (part_of st c) in
        append_assoc (settled_moves j) (made s cs) (through raw_step (held_in (after s cs)))
        ∙ ap (λ (ms : List Move). settled_moves j ++ ms) (ih s ∙ ap (λ (h : List ℕ). through raw_step (h ++ passed s cs)) (holds (held j) (st.done + settled j) false))
        ∙ sym (moves-parts j (passed s cs))
        ∙ ap (through raw_step) (append_assoc (held_in st) c.0 (passed s cs))

-- The outputs of the passed calls, joined, and then that of a passed finish, are one encode of the parts joined; and the counts add up.
module _ (st : RawState) (cs : List (List ℕ × ℕ)) (out : List ℕ) where
  abbrev last : PartCall
  last = part_call true (after st cs) [] out

  ending : part_case last ≡ written → made st cs ++ part_moves (part_case last) last ≡ through raw_step (held_in st ++ passed st cs)
  ending e =
      ap (λ (row : PartCase). made st cs ++ part_moves row last) e
      ∙ ap (λ (h : List ℕ). made st cs ++ through raw_step h) (append-nil (held_in (after st cs)))
      ∙ calls-moves st cs

  pub calls-encode : part_case last ≡ written → result (made st cs) ++ result (part_moves (part_case last) last) ≡ raw_of (held_in st ++ passed st cs)
  calls-encode e = sym (result-append (made st cs) (part_moves (part_case last) last)) ∙ ap result (ending e)

  pub calls-replaced : part_case last ≡ written → replaced (made st cs) + replaced (part_moves (part_case last) last) ≡ replaced (through raw_step (held_in st ++ passed st cs))
  calls-replaced e = sym (replaced-append (made st cs) (part_moves (part_case last) last)) ∙ ap replaced (ending e)

-- ---- a call is its bytes one by one

-- A part that passes does as its first bytes and then its others: the state, what is written, and the backslashes.
module _ (st : RawState) (a b : List ℕ) (room : ℕ) (e : part_case (part_of st (a ++ b, room)) ≡ written) where
  abbrev j : List ℕ
  j = held_in st ++ a

  abbrev first : PartCall
  first = part_of st (a, room)

  abbrev between : RawState
  between = holding (held j) (st.done + settled j) false

  abbrev second : PartCall
  second = part_of between (b, room - size (result (settled_moves j)))

  both : Passes (part_of st (a ++ b, room))
  both = passed-tests (part_of st (a ++ b, room)) e

  all : held_in st ++ (a ++ b) ≡ j ++ b
  all = sym (append_assoc (held_in st) a b)

  rest : held_in between ++ b ≡ held j ++ b
  rest = ap (λ (h : List ℕ). h ++ b) (holds (held j) (st.done + settled j) false)

  sound-all : broken (j ++ b) ≡ false
  sound-all = ap broken (sym all) ∙ both.sound

  sound-first : broken j ≡ false
  sound-first = go (broken j) refl
    where
      go : (x : Bool) → broken j ≡ x → x ≡ false
      go true f = sym (broken-far j b f) ∙ sound-all
      go false f = refl

  text-first : IsText (take (settled j) j)
  text-first = settled-text j sound-first

  split : j ++ b ≡ take (settled j) j ++ (held j ++ b)
  split =
      ap (λ (l : List ℕ). l ++ b) (sym (take-append-drop (settled j) j) ∙ ap (λ (l : List ℕ). take (settled j) j ++ l) (sym (held-tail j)))
      ∙ append_assoc (take (settled j) j) (held j) b

  writes : result (settled_moves (held_in st ++ (a ++ b))) ≡ result (settled_moves j) ++ result (settled_moves (held j ++ b))
  writes = ap (λ (l : List ℕ). result (settled_moves l)) all ∙ ap result (settled-parts j b) ∙ result-append (settled_moves j) (settled_moves (held j ++ b))

  total : size (result (settled_moves j)) + size (result (settled_moves (held j ++ b))) ≤ room
  total = let l = ap size writes ∙ length-append (result (settled_moves j)) (result (settled_moves (held j ++ b))) in let f = both.fits in omega (arith, l, f)

  sizes : st.done + size j + size b ≤ text_limit
  sizes = let l = ap size all ∙ length-append j b in let s = both.short in omega (arith, l, s)

  pub first_passes : part_case first ≡ written
  first_passes =
      tests-passed first
      (record { going = both.going; short = let s = sizes in omega (arith, s); sound = sound-first; ended = refl; fits = let t = total in omega (arith, t) })

  pub second-passes : part_case second ≡ written
  second-passes =
      tests-passed second
      (record {
        going = refl;
        short =
            let s = sizes in
            let l = ap size rest ∙ length-append (held j) b in
            let m = settled-sum j in
            omega (arith, s, l, m);
        sound = ap broken rest ∙ sym (broken-after (take (settled j) j) (held j ++ b) text-first) ∙ ap broken (sym split) ∙ sound-all;
        ended = refl;
        fits =
            let l = ap (λ (t : List ℕ). size (result (settled_moves t))) rest in
            let t = total in
            omega (arith, l, t);
      })

  pub bytewise-writes : result (settled_moves (held_in st ++ (a ++ b))) ≡ result (settled_moves j) ++ result (settled_moves (held_in between ++ b))
  bytewise-writes = writes ∙ ap (λ (l : List ℕ). result (settled_moves j) ++ result (settled_moves l)) (sym rest)

  pub bytewise-replaced : replaced (settled_moves (held_in st ++ (a ++ b))) ≡ replaced (settled_moves j) + replaced (settled_moves (held_in between ++ b))
  bytewise-replaced =
      ap (λ (l : List ℕ). replaced (settled_moves l)) all ∙ ap replaced (settled-parts j b) ∙ replaced-append (settled_moves j) (settled_moves (held j ++ b))
      ∙ ap (λ (l : List ℕ). replaced (settled_moves j) + replaced (settled_moves l)) (sym rest)

  pub bytewise-state : part_state written (part_of st (a ++ b, room)) ≡ part_state written second
  bytewise-state =
      let h : held (held_in st ++ (a ++ b)) ≡ held (held_in between ++ b) = ap held all ∙ held-parts j b ∙ ap held (sym rest) in
      let n : settled (held_in st ++ (a ++ b)) ≡ settled j + settled (held_in between ++ b) =
      ap settled all ∙ settled-add j b ∙ ap (λ (l : List ℕ). settled j + settled l) (sym rest) in
      let d : st.done + settled (held_in st ++ (a ++ b)) ≡ st.done + settled j + settled (held_in between ++ b) = omega (arith, n) in
      λ i. holding (h i) (d i) false

-- ---- what is written is valid UTF-8

pub part-text : (k : PartCall) → part_case k ≡ written → IsText (result (moves_at k.last k.joined))
part-text k e = let p = passed-tests k e in go k.last p.sound p.ended
  where
    go : (last : Bool) → broken k.joined ≡ false → (last && unfinished k.joined) ≡ false → IsText (result (moves_at last k.joined))
    go false s u = settled-valid-text k.joined s
    go true s u =
        let l = ltb-false (valid_to k.joined) (size k.joined) (neither (ltb (valid_to k.joined) (size k.joined)) (is_cut (drop (valid_to k.joined) k.joined)) s u) in
        let w = valid-within k.joined in
        raw-text k.joined ((valid-iff k.joined).1 (omega (arith, l, w)))
      where
        neither : (b x : Bool) → b && not x ≡ false → b && x ≡ false → b ≡ false
        neither true true e f = f
        neither true false e f = e
        neither false x e f = refl

-- ---- places count from the start

-- The state after parts that join to p: so many of its bytes are taken, they are whole characters, and the others are held.
pub record Reached (st : RawState) (p : List ℕ) : Type 0 where
  pub going : st.finished ≡ false
  pub within : st.done ≤ size p
  pub holds-rest : held_in st ≡ drop st.done p
  pub text : IsText (take st.done p)

pub started-reached : Reached started []
started-reached = record { going = refl; within = omega arith; holds-rest = refl; text = ([], tt, refl) }

module _ (st : RawState) (p t : List ℕ) (r : Reached st p) where
  abbrev here : List ℕ
  here = held_in st ++ t

  parted : p ++ t ≡ take st.done p ++ here
  parted =
      ap (λ (l : List ℕ). l ++ t) (sym (take-append-drop st.done p) ∙ ap (λ (l : List ℕ). take st.done p ++ l) (sym r.holds-rest))
      ∙ append_assoc (take st.done p) (held_in st) t

  done-size : size (take st.done p) ≡ st.done
  done-size = length-take-le st.done p r.within

  -- The place of a refusal is the longest valid prefix of all the parts and this one.
  pub reached-place : st.done + valid_to here ≡ valid_to (p ++ t)
  reached-place = sym (ap valid_to parted ∙ valid-after (take st.done p) here r.text ∙ ap (λ (n : ℕ). n + valid_to here) done-size)

  -- The limit is that of all the parts and this one.
  pub reached-size : st.done + size here ≡ size (p ++ t)
  reached-size = sym (ap size parted ∙ length-append (take st.done p) here ∙ ap (λ (n : ℕ). n + size here) done-size)

  -- And they are broken, or end within a character, exactly if what the call sees does.
  pub reached-broken : broken here ≡ broken (p ++ t)
  reached-broken = sym (ap broken parted ∙ broken-after (take st.done p) here r.text)

  pub reached-unfinished : unfinished here ≡ unfinished (p ++ t)
  reached-unfinished = sym (ap unfinished parted ∙ (λ i. short-after (take st.done p) here r.text i && is_cut (drop-after (take st.done p) here r.text i)))

  -- A passed part leaves such a state.
  pub reached-next : (room : ℕ) → part_case (part_of st (t, room)) ≡ written → Reached (part_state written (part_of st (t, room))) (p ++ t)
  reached-next room e =
      let s = (passed-tests (part_of st (t, room)) e).sound in
      let m = settled-sum here in
      let n = reached-size in
      let d : drop (st.done + settled here) (p ++ t) ≡ held here =
      ap (drop (st.done + settled here)) parted ∙ sym (drop-drop (settled here) st.done (take st.done p ++ here))
      ∙ ap (drop (settled here)) (drop_at (take st.done p) here st.done done-size) ∙ sym (held-tail here) in
      let w : take (st.done + settled here) (p ++ t) ≡ take st.done p ++ take (settled here) here =
      ap (take (st.done + settled here)) parted ∙ take-add st.done (settled here) (take st.done p ++ here)
      ∙ (λ i. take_at (take st.done p) here st.done done-size i ++ take (settled here) (drop_at (take st.done p) here st.done done-size i)) in
      record {
        going = refl;
        within = omega (arith, m, n);
        holds-rest = holds (held here) (st.done + settled here) false ∙ sym d;
        text = subst IsText (sym w) (text-append (take st.done p) (take (settled here) here) r.text (settled-text here s));
      }

-- ---- room

-- A part of n bytes writes at most n + n / 4 + 10 bytes, and so does finish, where n is 0.
pub part_room : (last : Bool) (st : RawState) (t : List ℕ) → size (held_in st) ≤ 8 → 4 * size (result (moves_at last (held_in st ++ t))) ≤ 5 * (size t + 8)
part_room last st t h = go last
  where
    j : List ℕ
    j = held_in st ++ t

    n : size j ≡ size (held_in st) + size t
    n = length-append (held_in st) t

    q : 4 * size (raw_of j) ≤ 5 * size j
    q = raw-quarter j

    less : size (raw_of j) ≡ size (result (settled_moves j)) + size (raw_of (held j))
    less =
        ap (λ (l : List ℕ). size (raw_of l)) (sym (append-nil j)) ∙ ap size (raw-parts j []) ∙ length-append (result (settled_moves j)) (raw_of (held j ++ []))
        ∙ ap (λ (l : List ℕ). size (result (settled_moves j)) + size (raw_of l)) (append-nil (held j))

    go : (last : Bool) → 4 * size (result (moves_at last j)) ≤ 5 * (size t + 8)
    go true = omega (arith, n, q, h)
    go false = omega (arith, n, q, h, less)
