-- Bytes of which none is a key are their own encoding: a byte that is no key is written as itself, which is computed for every byte in
-- each of the seven HTML contexts but the unquoted attribute.
-- Assumes nothing.
use mathlib.Core.Bool.{Bool, false, not, cond}
use mathlib.Core.Path.{◌≡◌, sym, ap, ◌∙◌, subst}
use mathlib.Core.List.{List}
use Prim.Native.Nat.{ℕ, ◌<◌}
use borrow.Author.Tests.{lt-ltb}
use lib.Dec.{ltb}
use lib.ListN.{length, get_or}
use Rattle.rules.specs.Encoding.{encode_step}
use Rattle.rules.specs.Operations.{encode_of}
use Rattle.rules.specs.declared.Html.{Html}
use Rattle.rules.specs.declared.Context.TheVariants.{InHtml}
use Rattle.plain.specs.Plain.{unquoted}
use Rattle.encode_html.specs.Written.{written}
use Rattle.encode_html.specs.Keys.{keys_of, far_of}
use Rattle.encode_html.specs.declared.look.Keys.{Keys}
use Rattle.encode_html.proofs.Seven.{agree}
use Rattle.encode_html.proofs.Text.{copied, single-length}

far-single : (h : Html) → unquoted h ≡ false → (b : ℕ) → b < 256 → 0 < far_of (keys_of h) b → length (written h b) ≡ 1
unfolding written encode_step
far-single h u b l f =
    ap (λ (x : Bool). cond x (length (written h b)) 1) (sym (lt-ltb 0 (far_of (keys_of h) b) f))
    ∙ agree (λ h. not (unquoted h)) (λ h b. cond (ltb 0 (far_of (keys_of h) b)) (length (written h b)) 1) (λ h b. 1) tt h b l (ap not u)

pub cold-copied : (h : Html) (k : Keys) → unquoted h ≡ false → k ≡ keys_of h → (t : List ℕ)
    → ((i : ℕ) → get_or t i 0 < 256) → ((i : ℕ) → i < length t → 0 < far_of k (get_or t i 0)) → encode_of (InHtml h) t ≡ t
cold-copied h k u e t fits f =
    copied h t
    (single-length h t (λ i l. far-single h u (get_or t i 0) (fits i) (subst (λ (k : Keys). 0 < far_of k (get_or t i 0)) e (f i l))))
