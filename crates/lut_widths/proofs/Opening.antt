-- The children of modes that don't hold LUTs themselves, mode by mode.
use Rattle.std.proofs.Common.{◌≡◌, ◌≤◌, ◌<◌, ◌+◌, ◌⊎◌, ◌↔◌, inl, inr, ℕ, Bool, true, IsTrue, List, [], ◌∷◌, ◌++◌, length, take, get_or, sym, ap, ◌∙◌, subst}
use Rattle.std.proofs.lemmas.List.{take_more, take_all}
use Rattle.vtr_base.specs.Lists.{Has}
use Rattle.list_laws.proofs.Members.{has_left, has_right, has_last, has_either, has_pushed}
use Rattle.arch_types.specs.declared.block.PbType.{PbType}
use Rattle.arch_types.specs.declared.block.Mode.{Mode}
use Rattle.arch_types.specs.declared.block.Meta.{Meta}
use Rattle.arch_types.specs.Tree.{kids_of, metas_of}
use Rattle.meta_said.specs.Owners.{HoldsLuts}
use Rattle.lut_widths.specs.Tables.{IsKidOf, AreOpenKids}

abbrev AddsOpen : List PbType → List PbType → Mode → Type 0
AddsOpen old new mode = (kid : PbType) → Has new kid ↔ (Has old kid ⊎ IsKidOf mode kid)

pub adds_none : (old : List PbType) (mode : Mode) → HoldsLuts (metas_of mode) → AddsOpen old old mode
adds_none old mode holds kid = (λ has. inl has, back)
  where
    back : Has old kid ⊎ IsKidOf mode kid → Has old kid
    back (inl has) = has
    back (inr of) = absurd (of.bare holds)

pub adds_kids : (old new : List PbType) (mode : Mode) → (HoldsLuts (metas_of mode) → ⊥) → new ≡ old ++ kids_of mode → AddsOpen old new mode
adds_kids old new mode bare is kid =
    (λ has. forth (has_either old (kids_of mode) kid (subst (λ (l : List PbType). Has l kid) is has)), λ either. subst (λ (l : List PbType). Has l kid) (sym is) (back either))
  where
    forth : Has old kid ⊎ Has (kids_of mode) kid → Has old kid ⊎ IsKidOf mode kid
    forth (inl has) = inl has
    forth (inr has) = inr (record { bare = bare; among = has })

    back : Has old kid ⊎ IsKidOf mode kid → Has (old ++ kids_of mode) kid
    back (inl has) = has_left old (kids_of mode) kid has
    back (inr of) = has_right old (kids_of mode) kid of.among

pub no_open_kids : AreOpenKids [] []
no_open_kids kid = (λ has. absurd has, λ some. absurd some.1)

pub open_kids_more : (modes : List Mode) (n : ℕ) (mode : Mode) (old new : List PbType) → n < length modes → mode ≡ get_or modes n mode → AddsOpen old new mode → AreOpenKids (take n modes) old →
    AreOpenKids (take (n + 1) modes) new
open_kids_more modes n mode old new within is adds are = subst (λ (l : List Mode). AreOpenKids l new) (sym longer) (λ kid. (λ has. forth kid ((adds kid).0 has), λ some. (adds kid).1 (back kid some)))
  where
    longer : take (n + 1) modes ≡ take n modes ++ mode ∷ []
    longer = take_more modes n mode within ∙ ap (λ (m : Mode). take n modes ++ m ∷ []) (sym is)

    forth : (kid : PbType) → Has old kid ⊎ IsKidOf mode kid → (m : Mode) × Has (take n modes ++ mode ∷ []) m × IsKidOf m kid
    forth kid (inl has) = let o = (are kid).0 has in (o.0, has_left (take n modes) (mode ∷ []) o.0 o.1, o.2)
    forth kid (inr of) = (mode, has_last (take n modes) mode, of)

    at : (kid : PbType) (m : Mode) → Has (take n modes) m ⊎ (m ≡ mode) → IsKidOf m kid → Has old kid ⊎ IsKidOf mode kid
    at kid m (inl front) of = inl ((are kid).1 (m, front, of))
    at kid m (inr last) of = inr (subst (λ (x : Mode). IsKidOf x kid) last of)

    back : (kid : PbType) → ((m : Mode) × Has (take n modes ++ mode ∷ []) m × IsKidOf m kid) → Has old kid ⊎ IsKidOf mode kid
    back kid some = at kid some.0 (has_pushed (take n modes) mode some.0 some.1) some.2

pub open_kids_all : (modes : List Mode) (n : ℕ) (kids : List PbType) → length modes ≤ n → AreOpenKids (take n modes) kids → AreOpenKids modes kids
open_kids_all modes n kids end are = subst (λ (l : List Mode). AreOpenKids l kids) (take_all n modes end) are

-- what a test of a mode's metadata tells
pub held_by : (mode : Mode) (metas : List Meta) (test : Bool) → metas ≡ metas_of mode → IsTrue test ↔ HoldsLuts metas → (test ≡ true) ↔ HoldsLuts (metas_of mode)
held_by mode metas test are is = (λ yes. subst HoldsLuts are (is.0 yes), λ holds. is.1 (subst HoldsLuts (sym are) holds))
