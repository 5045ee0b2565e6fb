-- A turn of the loops over a text: bytes before the next `&`, or the reference at an `&`, which gives way or stays. Each is a move of the rule; what it
-- counts, and what it gives next in the result, follows by the laws of any rule. decode's loops and browse's use the same laws; they differ in what a
-- reference that stays leaves to note.
-- Assumes nothing.
use mathlib.Core.Path.{◌≡◌, sym, ap, ◌∙◌}
use mathlib.Core.List.{List, [], ◌∷◌}
use Prim.Native.Nat.{ℕ, ◌+◌, ◌-◌, ◌*◌, ◌≤◌, ◌<◌}
use native.Mathlib.Omega.{arith}
use lib.ListN.{length, take, drop, get_or, length-drop}
use lib.Seq.{length-take-le}
use Rattle.std.specs.Prelude.{Option as Maybe, Some, unwrap_or}
use Rattle.rules.specs.Bytes.{ascii}
use Rattle.rules.specs.Moves.{Rule, keep, swap, leave, result, before, from}
use Rattle.rules.specs.References.{reference_step}
use Rattle.rules.specs.Answers.{value_bytes}
use Rattle.rules.specs.declared.DecodedEntity.{DecodedEntity}
use Rattle.rules.specs.declared.Reason.{Reason}
use Rattle.rules.specs.declared.Left.{Left}
use Rattle.rules.proofs.Machine.{Fair}
use Rattle.rules.specs.Operations.{decode_step}
use Rattle.rules.specs.declared.Html.TheVariants.{Text}
use Rattle.rules.specs.declared.Context.TheVariants.{InHtml}
use Rattle.rules.proofs.Whole.{Fifth, decode-fair}
use Rattle.rules.proofs.Loops.{drop-next}
use Rattle.rules.proofs.Quiet.{Keeps}
use Rattle.base.proofs.Filled.{Next}
use Rattle.base.proofs.Counted.{Counted, Noted, step-leave, counted-leave, counted-grow, noted-leave, noted-swap, next-quiet, next-swap}
use Rattle.base.specs.Places.{Nearest}
use Rattle.decode_html.specs.Taking.{Gives, Stays}
use Rattle.decode_html.proofs.Readings.{step-quiet}

-- What the loops need of a rule: what a move gives is at most a fifth longer than what it takes, and any byte but `&` is kept.
pub record Turning (rule : Rule) : Type 0 where
  pub fair : (p : ℕ) (s : List ℕ) → Fair Fifth (rule p s) s
  pub keeps : (p x : ℕ) (s : List ℕ) → (x ≡ 38 → ⊥) → rule p (x ∷ s) ≡ keep (x ∷ [])

module _ {rule : Rule} (turning : Turning rule) (t : List ℕ) where
  -- Bytes before the next `&` are kept.
  pub quiet : (i p : ℕ) → Nearest t i 38 p → Keeps rule t i p
  quiet i p n k h l = let m : k < length t = omega (arith, n.within) in rw (drop-next t k m) (turning.keeps (before t k) (get_or t k 0) (drop (k + 1) t) (n.none k h l))

  pub quiet_next : (i p : ℕ) → Nearest t i 38 p → Next (result (from rule t i)) (take (p - i) (drop i t)) (result (from rule t p))
  quiet_next i p n = next-quiet rule t i p n.after n.within (quiet i p n)

  -- The reference gives way to its value.
  module _ (p : ℕ) (e : DecodedEntity) (gives : Gives rule t p e) where
    some : 1 ≤ e.end - p
    some = omega (arith, gives.lies.1)

    within : p + (e.end - p) ≤ length t
    within = omega (arith, gives.lies.1, gives.lies.2)

    here : p + (e.end - p) ≡ e.end
    here = omega (arith, gives.lies.1)

    found : rule (before t p) (drop p t) ≡ swap (take (e.end - p) (drop p t)) (value_bytes e.value)
    found = sym (gives.move (before t p)) ∙ rw gives.lies.0

    fifth : 5 * length (value_bytes e.value) ≤ 6 * (e.end - p)
    fifth =
        let long : length (take (e.end - p) (drop p t)) ≡ e.end - p = length-take-le (e.end - p) (drop p t) (rw length-drop (omega (arith, within))) in
        rw long at (rw found at (turning.fair (before t p) (drop p t))).0

    pub counted-found : {n k : ℕ} → Counted rule t p n k → Counted rule t e.end (n + length (value_bytes e.value)) (k + 1)
    counted-found c = rw here at (counted-grow c (e.end - p) (value_bytes e.value) some within fifth found)

    pub noted-found : {left : Maybe Left} → Noted rule t p left → Noted rule t e.end left
    noted-found c = rw here at (noted-swap c (e.end - p) (value_bytes e.value) some within found)

    pub found-next : Next (result (from rule t p)) (value_bytes e.value) (result (from rule t e.end))
    found-next = rw here at (next-swap rule t p (e.end - p) (value_bytes e.value) some within found)

-- ---- decode: a reference that stays has a reason

pub decoding : Turning reference_step
unfolding decode_step
decoding = record { fair = decode-fair (InHtml Text); keeps = step-quiet }

-- The reference stays, and its `&` is kept.
module _ (t : List ℕ) (p : ℕ) (w : Reason) (inside : p < length t) (stays : Stays t p w) where
  left-here : reference_step (before t p) (drop p t) ≡ leave w (ascii "&")
  left-here = sym (stays (before t p))

  pub stays-next : Next (result (from reference_step t p)) (38 ∷ []) (result (from reference_step t (p + 1)))
  stays-next = record { next = ap result (step-leave reference_step t p w inside left-here) }

  pub counted-stays : {n k : ℕ} → Counted reference_step t p n k → Counted reference_step t (p + 1) (n + 1) k
  counted-stays c = counted-leave c w inside left-here

  -- It is noted where none was.
  pub noted-stays : (left : Maybe Left) → Noted reference_step t p left → (l : Left) → l ≡ unwrap_or left (record { place = p; reason = w }) → Noted reference_step t (p + 1) (Some l)
  noted-stays left c l e = rw e (noted-leave left c w inside left-here)
