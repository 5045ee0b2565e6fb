-- A test of every context, computed once; and the tests of the tables.
-- Assumes nothing.
use mathlib.Core.Bool.{Bool}
use mathlib.Core.Logic.{inl, inr}
use mathlib.Core.Path.{refl}
use mathlib.Core.List.{List, [], ◌∷◌}
use lib.Dec.{T}
use Rattle.rules.specs.Bytes.{In, all}
use Rattle.rules.specs.Tables.{key, value, rows, table, replaced_chars}
use Rattle.rules.specs.declared.Html.TheVariants.{TextMinimal, Text, DoubleQuoted, SingleQuoted, Quoted, Safe, Unquoted}
use Rattle.rules.specs.declared.Quotes.TheVariants.{Single, Double, Both}
use Rattle.rules.specs.declared.Context.{Context}
use Rattle.rules.specs.declared.Context.TheVariants.{InHtml, InScript, InStyle, InJson, InAscii}
use Rattle.rules.proofs.Tests.{all_in}
use Rattle.rules.proofs.Tables.{is_code}

-- All contexts that have units.
abbrev pub contexts : List Context
contexts =
    InHtml TextMinimal ∷ InHtml Text ∷ InHtml DoubleQuoted ∷ InHtml SingleQuoted ∷ InHtml Quoted ∷ InHtml Safe ∷ InHtml Unquoted
    ∷ InScript Single ∷ InScript Double ∷ InScript Both
    ∷ InStyle Single ∷ InStyle Double ∷ InStyle Both
    ∷ InJson ∷ InAscii
    ∷ []

listed : (c : Context) → In c contexts
listed (InHtml TextMinimal) = inl refl
listed (InHtml Text) = inr (inl refl)
listed (InHtml DoubleQuoted) = inr (inr (inl refl))
listed (InHtml SingleQuoted) = inr (inr (inr (inl refl)))
listed (InHtml Quoted) = inr (inr (inr (inr (inl refl))))
listed (InHtml Safe) = inr (inr (inr (inr (inr (inl refl)))))
listed (InHtml Unquoted) = inr (inr (inr (inr (inr (inr (inl refl))))))
listed (InScript Single) = inr (inr (inr (inr (inr (inr (inr (inl refl)))))))
listed (InScript Double) = inr (inr (inr (inr (inr (inr (inr (inr (inl refl))))))))
listed (InScript Both) = inr (inr (inr (inr (inr (inr (inr (inr (inr (inl refl)))))))))
listed (InStyle Single) = inr (inr (inr (inr (inr (inr (inr (inr (inr (inr (inl refl))))))))))
listed (InStyle Double) = inr (inr (inr (inr (inr (inr (inr (inr (inr (inr (inr (inl refl)))))))))))
listed (InStyle Both) = inr (inr (inr (inr (inr (inr (inr (inr (inr (inr (inr (inr (inl refl))))))))))))
listed InJson = inr (inr (inr (inr (inr (inr (inr (inr (inr (inr (inr (inr (inr (inl refl)))))))))))))
listed InAscii = inr (inr (inr (inr (inr (inr (inr (inr (inr (inr (inr (inr (inr (inr (inl refl))))))))))))))

-- What is computed of the list holds of each context.
pub every : (f : Context → Bool) → T (all f contexts) → (c : Context) → T (f c)
every f t c = all_in f contexts t c (listed c)

-- The keys of each table are a code.
pub keys-code : (c : Context) → T (is_code key (table c) (replaced_chars c))
keys-code = every (λ (c : Context). is_code key (table c) (replaced_chars c)) tt

-- The values of its rows are one.
pub values-code : (c : Context) → T (is_code value (rows c) (replaced_chars c))
values-code = every (λ (c : Context). is_code value (rows c) (replaced_chars c)) tt
