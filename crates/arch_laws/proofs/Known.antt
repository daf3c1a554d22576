-- The models of boxes are known, at an element and in it.
use Rattle.std.proofs.Common.{◌≡◌, ◌⊎◌, inl, inr, ℕ, Bool, true, false, List, [], ◌∷◌, ◌++◌, Option, Some, None, codes, refl, ◌∙◌, ap, subst, if◌then◌else◌}
use Rattle.std.specs.List.{All, flat_map}
use Rattle.std.proofs.lemmas.List.Elements.{All-nil, All-cons}
use Rattle.std.specs.Option.{option_and_then}
use Rattle.elem_text.specs.declared.elem.Elem.{Elem, out-Elem}
use Rattle.elem_attrs.specs.Attributes.{value_of, has_tag}
use Rattle.arch_links.specs.First.{IsOfNone}
use Rattle.arch_links.specs.Links.{IsUnknown, model_in, listed, own_model, holds_blocks, models_at}
use Rattle.arch_links.proofs.Rows.{models_is}
use Rattle.arch_rules.specs.Elements.{kids_of}
use Rattle.arch_laws.proofs.Leaves.{KnowsModel}

pub none_left : {X : Type 0} (P : X → Type 0) (xs ys : List X) → IsOfNone P (xs ++ ys) → IsOfNone P xs
none_left P [] ys none = tt
none_left P (x ∷ xs) ys none = (none.0, none_left P xs ys none.1)

pub none_right : {X : Type 0} (P : X → Type 0) (xs ys : List X) → IsOfNone P (xs ++ ys) → IsOfNone P ys
none_right P [] ys none = none
none_right P (x ∷ xs) ys none = none_right P xs ys none.1

-- each of these names stands in the list
abbrev pub AreKnown : List (List ℕ) → List (List ℕ) → Type 0
AreKnown models names = IsOfNone (IsUnknown models) names

abbrev pub models_in : List Elem → List (List ℕ)
models_in elems = flat_map models_at elems

-- an element in which pb_types are read
abbrev pub HoldsBlocks : Elem → Type 0
HoldsBlocks e = (has_tag e (codes "pb_type") ≡ true) ⊎ (has_tag e (codes "mode") ≡ true)

below_is : (e : Elem) (below : List (List ℕ)) → HoldsBlocks e → holds_blocks e below ≡ below
below_is e below (inl tag) = ap (λ b. if b then below else if has_tag e (codes "mode") then below else []) tag
below_is e below (inr tag) = go (has_tag e (codes "pb_type")) (has_tag e (codes "mode")) tag
  where
    go : (a b : Bool) → b ≡ true → (if a then below else if b then below else []) ≡ below
    go true b is = refl
    go false true is = refl
    go false false is = absurd (cc)

pub known_kids : (models : List (List ℕ)) (e : Elem) → HoldsBlocks e → AreKnown models (models_at e) → AreKnown models (models_in (kids_of e))
known_kids models e holds known =
    subst (λ l. AreKnown models l) (below_is e (models_in (kids_of e)) holds)
    (none_right (IsUnknown models) (own_model e) (holds_blocks e (models_in (kids_of e))) (subst (λ l. AreKnown models l) (models_is e) known))

listed_known : (models : List (List ℕ)) (o : Option (List ℕ)) (model : List ℕ) → AreKnown models (listed o) → o ≡ Some model → IsUnknown models model → ⊥
listed_known models None model known is = absurd (cc)
listed_known models (Some name) model known is = let same : name ≡ model = cc in subst (λ n. IsUnknown models n → ⊥) same known.0

pub known_own : (models : List (List ℕ)) (e : Elem) (text : List ℕ) → has_tag e (codes "pb_type") ≡ true →
    value_of (out-Elem e).attrs (codes "blif_model") ≡ Some text → AreKnown models (models_at e) → KnowsModel models text
known_own models e text tag is known model named =
    let own : AreKnown models (own_model e) =
    none_left (IsUnknown models) (own_model e) (holds_blocks e (models_in (kids_of e))) (subst (λ l. AreKnown models l) (models_is e) known) in
    let is_listed : own_model e ≡ listed (model_in text) =
    ap (λ b. if b then listed (option_and_then model_in (value_of (out-Elem e).attrs (codes "blif_model"))) else []) tag
    ∙ ap (λ o. listed (option_and_then model_in o)) is in
    listed_known models (model_in text) model (subst (λ l. AreKnown models l) is_listed own) named

pub none_each : {X Y : Type 0} (P : Y → Type 0) (f : X → List Y) (xs : List X) → IsOfNone P (flat_map f xs) → All (λ x. IsOfNone P (f x)) xs
none_each P f [] none = All-nil (λ x. IsOfNone P (f x))
none_each P f (x ∷ xs) none =
    All-cons (λ y. IsOfNone P (f y)) x xs (none_left P (f x) (flat_map f xs) none) (none_each P f xs (none_right P (f x) (flat_map f xs) none))
