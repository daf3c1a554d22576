-- One meta more of an owner.
use Rattle.std.proofs.Common.{◌≡◌, ◌⊎◌, inl, inr, ℕ, List, [], ◌∷◌, ◌++◌, Option, Some, None, Result, Ok, Err, MatchOption, codes, nat_eq, true, false, get_or, refl, sym, ap, ◌∙◌, subst, arith}
use Rattle.std.proofs.lemmas.Bool.Decides.{nat_tests}
use Rattle.arch_types.specs.declared.block.Meta.{Meta}
use Rattle.meta_lines.specs.declared.error.LineError.{LineError}
use Rattle.meta_lines.specs.declared.error.LineError.TheVariants.{OutOfMemory}
use Rattle.meta_lines.specs.declared.types.LutType.{LutType}
use Rattle.meta_lines.specs.declared.types.Feature.{Feature}
use Rattle.meta_lines.specs.declared.types.ParamField.{ParamField}
use Rattle.meta_lines.specs.Features.{ListsFeatures, RefusesList}
use Rattle.meta_lines.specs.Fields.{ListsParams, RefusesParams}
use Rattle.meta_lines.specs.Only.{SaysType, RefusesType}
use Rattle.meta_lines.specs.Prefixes.{ArePrefixes, RefusesPrefixes}
use Rattle.meta_said.specs.declared.types.OwnerMeta.{OwnerMeta}
use Rattle.meta_said.specs.declared.types.LutFields.{LutFields}
use Rattle.meta_said.specs.declared.types.MetaSort.{MetaSort}
use Rattle.meta_said.specs.declared.types.MetaSort.TheVariants.{Prefix, Features, Kind, Luts, Params}
use Rattle.meta_said.specs.Firsts.{LacksName, IsFirstText, SaysFirst, ReadsInto}
use Rattle.meta_said.specs.Owners.{name_of, SaysFields, RefusesFields, SaysPrefixes, SaysLuts, SaysWith, RefusesAs, RefusesMeta, StepsTo}
use Rattle.meta_said.proofs.Firsting.{says_on, says_still, first_here}

nat_itself : (n : ℕ) → nat_eq n n ≡ true
nat_itself n = grind (arith, nat_tests)

-- texts that differ at a place
apart_at : (a b : List ℕ) (k : ℕ) → nat_eq (get_or a k 0) (get_or b k 0) ≡ false → a ≡ b → ⊥
apart_at a b k differ same =
    let equal : nat_eq (get_or a k 0) (get_or b k 0) ≡ true = subst (λ (l : List ℕ). nat_eq (get_or a k 0) (get_or l k 0) ≡ true) same (nat_itself (get_or a k 0)) in
    cc

-- the sorts differ by name
pub one_sort : (s t : MetaSort) → name_of s ≡ name_of t → s ≡ t
one_sort Prefix Prefix e = refl
one_sort Features Features e = refl
one_sort Kind Kind e = refl
one_sort Luts Luts e = refl
one_sort Params Params e = refl
one_sort Prefix Features e = absurd (apart_at (name_of Prefix) (name_of Features) 5 refl e)
one_sort Prefix Kind e = absurd (apart_at (name_of Prefix) (name_of Kind) 5 refl e)
one_sort Prefix Luts e = absurd (apart_at (name_of Prefix) (name_of Luts) 5 refl e)
one_sort Prefix Params e = absurd (apart_at (name_of Prefix) (name_of Params) 6 refl e)
one_sort Features Prefix e = absurd (apart_at (name_of Features) (name_of Prefix) 5 refl e)
one_sort Features Kind e = absurd (apart_at (name_of Features) (name_of Kind) 5 refl e)
one_sort Features Luts e = absurd (apart_at (name_of Features) (name_of Luts) 5 refl e)
one_sort Features Params e = absurd (apart_at (name_of Features) (name_of Params) 5 refl e)
one_sort Kind Prefix e = absurd (apart_at (name_of Kind) (name_of Prefix) 5 refl e)
one_sort Kind Features e = absurd (apart_at (name_of Kind) (name_of Features) 5 refl e)
one_sort Kind Luts e = absurd (apart_at (name_of Kind) (name_of Luts) 5 refl e)
one_sort Kind Params e = absurd (apart_at (name_of Kind) (name_of Params) 5 refl e)
one_sort Luts Prefix e = absurd (apart_at (name_of Luts) (name_of Prefix) 5 refl e)
one_sort Luts Features e = absurd (apart_at (name_of Luts) (name_of Features) 5 refl e)
one_sort Luts Kind e = absurd (apart_at (name_of Luts) (name_of Kind) 5 refl e)
one_sort Luts Params e = absurd (apart_at (name_of Luts) (name_of Params) 5 refl e)
one_sort Params Prefix e = absurd (apart_at (name_of Params) (name_of Prefix) 6 refl e)
one_sort Params Features e = absurd (apart_at (name_of Params) (name_of Features) 5 refl e)
one_sort Params Kind e = absurd (apart_at (name_of Params) (name_of Kind) 5 refl e)
one_sort Params Luts e = absurd (apart_at (name_of Params) (name_of Luts) 5 refl e)

other_sort : (meta : Meta) (s t : MetaSort) → (s ≡ t → ⊥) → meta.name ≡ name_of s → meta.name ≡ name_of t → ⊥
other_sort meta s t apart named also = apart (one_sort s t (sym named ∙ also))

prefixes_on : (count : Option ℕ) (front : List Meta) (meta : Meta) (found : Option (List (List ℕ))) → (meta.name ≡ name_of Prefix → ⊥) →
    SaysPrefixes count front found → SaysPrefixes count (front ++ meta ∷ []) found
prefixes_on None front meta found other says = says
prefixes_on (Some count) front meta found other says = says_on (λ text prefixes. ArePrefixes text count prefixes) (name_of Prefix) front meta found other says

luts_on : (kind : Option LutType) (front : List Meta) (meta : Meta) (found : Option LutFields) → (meta.name ≡ name_of Luts → ⊥) →
    SaysLuts kind front found → SaysLuts kind (front ++ meta ∷ []) found
luts_on None front meta found other says = says
luts_on (Some kind) front meta found other says = says_on (SaysFields kind) (name_of Luts) front meta found other says

-- what is read of the meta of a name
took : {V : Type 0} (SaysText : List ℕ → V → Type 0) (name : List ℕ) (front : List Meta) (meta : Meta) (old new : Option V) → meta.name ≡ name →
    SaysFirst SaysText name front old → MatchOption old ((v : V) × (new ≡ Some v) × SaysText meta.text v) (λ v. new ≡ Some v) → SaysFirst SaysText name (front ++ meta ∷ []) new
took SaysText name front meta None new named says read =
    subst (SaysFirst SaysText name (front ++ meta ∷ [])) (sym read.1) (meta.text, first_here name front meta [] says named, read.2)
took SaysText name front meta (Some v) new named says read =
    subst (SaysFirst SaysText name (front ++ meta ∷ [])) (sym read) (says_still SaysText name front (meta ∷ []) v says)

new_name : {V : Type 0} (SaysText : List ℕ → V → Type 0) (name : List ℕ) (front : List Meta) (found : Option V) → found ≡ None → SaysFirst SaysText name front found → LacksName name front
new_name SaysText name front found none says = subst (SaysFirst SaysText name front) none says

-- a meta that changes nothing
abbrev pub Keeps : Option LutType → Option ℕ → Meta → OwnerMeta → Type 0
Keeps kind count meta old = (front : List Meta) → SaysWith kind count front old → SaysWith kind count (front ++ meta ∷ []) old

pub unknown_step : (kind : Option LutType) (count : Option ℕ) (meta : Meta) (old : OwnerMeta) → ((sort : MetaSort) → meta.name ≡ name_of sort → ⊥) → Keeps kind count meta old
unknown_step kind count meta old other = λ front says. record {
  prefixes = prefixes_on count front meta old.prefixes (other Prefix) says.prefixes;
  features = says_on ListsFeatures (name_of Features) front meta old.features (other Features) says.features;
  lut_type = says_on SaysType (name_of Kind) front meta old.lut_type (other Kind) says.lut_type;
  luts = luts_on kind front meta old.luts (other Luts) says.luts;
  params = says_on ListsParams (name_of Params) front meta old.params (other Params) says.params;
}

no_prefix_step : (kind : Option LutType) (meta : Meta) (old : OwnerMeta) → meta.name ≡ name_of Prefix → Keeps kind None meta old
no_prefix_step kind meta old named = λ front says. record {
  prefixes = says.prefixes;
  features = says_on ListsFeatures (name_of Features) front meta old.features (other_sort meta Prefix Features (λ e. cc) named) says.features;
  lut_type = says_on SaysType (name_of Kind) front meta old.lut_type (other_sort meta Prefix Kind (λ e. cc) named) says.lut_type;
  luts = luts_on kind front meta old.luts (other_sort meta Prefix Luts (λ e. cc) named) says.luts;
  params = says_on ListsParams (name_of Params) front meta old.params (other_sort meta Prefix Params (λ e. cc) named) says.params;
}

no_luts_step : (count : Option ℕ) (meta : Meta) (old : OwnerMeta) → meta.name ≡ name_of Luts → Keeps None count meta old
no_luts_step count meta old named = λ front says. record {
  prefixes = prefixes_on count front meta old.prefixes (other_sort meta Luts Prefix (λ e. cc) named) says.prefixes;
  features = says_on ListsFeatures (name_of Features) front meta old.features (other_sort meta Luts Features (λ e. cc) named) says.features;
  lut_type = says_on SaysType (name_of Kind) front meta old.lut_type (other_sort meta Luts Kind (λ e. cc) named) says.lut_type;
  luts = says.luts;
  params = says_on ListsParams (name_of Params) front meta old.params (other_sort meta Luts Params (λ e. cc) named) says.params;
}

prefixes_step : {R : Type 0} (kind : Option LutType) (count : ℕ) (meta : Meta) (old : OwnerMeta) (new : Option (List (List ℕ))) (result : Result R LineError) → meta.name ≡ name_of Prefix →
    ReadsInto (λ text prefixes. ArePrefixes text count prefixes) (λ text e. RefusesPrefixes text count e) meta.text old.prefixes new result →
    StepsTo kind (Some count) meta old (record old { prefixes = new }) result
prefixes_step kind count meta old new (Ok r) named read = λ front says. record {
  prefixes = took (λ text prefixes. ArePrefixes text count prefixes) (name_of Prefix) front meta old.prefixes new named says.prefixes read;
  features = says_on ListsFeatures (name_of Features) front meta old.features (other_sort meta Prefix Features (λ e. cc) named) says.features;
  lut_type = says_on SaysType (name_of Kind) front meta old.lut_type (other_sort meta Prefix Kind (λ e. cc) named) says.lut_type;
  luts = luts_on kind front meta old.luts (other_sort meta Prefix Luts (λ e. cc) named) says.luts;
  params = says_on ListsParams (name_of Params) front meta old.params (other_sort meta Prefix Params (λ e. cc) named) says.params;
}
prefixes_step kind count meta old new (Err e) named (inl short) = inl short
prefixes_step kind count meta old new (Err e) named (inr refused) = inr (λ front says. record {
  sort = Prefix;
  named = named;
  new = new_name (λ text prefixes. ArePrefixes text count prefixes) (name_of Prefix) front old.prefixes refused.0 says.prefixes;
  refuses = refused.1;
})

features_step : {R : Type 0} (kind : Option LutType) (count : Option ℕ) (meta : Meta) (old : OwnerMeta) (new : Option (List Feature)) (result : Result R LineError) → meta.name ≡ name_of Features →
    ReadsInto ListsFeatures RefusesList meta.text old.features new result → StepsTo kind count meta old (record old { features = new }) result
features_step kind count meta old new (Ok r) named read = λ front says. record {
  prefixes = prefixes_on count front meta old.prefixes (other_sort meta Features Prefix (λ e. cc) named) says.prefixes;
  features = took ListsFeatures (name_of Features) front meta old.features new named says.features read;
  lut_type = says_on SaysType (name_of Kind) front meta old.lut_type (other_sort meta Features Kind (λ e. cc) named) says.lut_type;
  luts = luts_on kind front meta old.luts (other_sort meta Features Luts (λ e. cc) named) says.luts;
  params = says_on ListsParams (name_of Params) front meta old.params (other_sort meta Features Params (λ e. cc) named) says.params;
}
features_step kind count meta old new (Err e) named (inl short) = inl short
features_step kind count meta old new (Err e) named (inr refused) = inr (λ front says. record {
  sort = Features;
  named = named;
  new = new_name ListsFeatures (name_of Features) front old.features refused.0 says.features;
  refuses = refused.1;
})

type_step : {R : Type 0} (kind : Option LutType) (count : Option ℕ) (meta : Meta) (old : OwnerMeta) (new : Option LutType) (result : Result R LineError) → meta.name ≡ name_of Kind →
    ReadsInto SaysType RefusesType meta.text old.lut_type new result → StepsTo kind count meta old (record old { lut_type = new }) result
type_step kind count meta old new (Ok r) named read = λ front says. record {
  prefixes = prefixes_on count front meta old.prefixes (other_sort meta Kind Prefix (λ e. cc) named) says.prefixes;
  features = says_on ListsFeatures (name_of Features) front meta old.features (other_sort meta Kind Features (λ e. cc) named) says.features;
  lut_type = took SaysType (name_of Kind) front meta old.lut_type new named says.lut_type read;
  luts = luts_on kind front meta old.luts (other_sort meta Kind Luts (λ e. cc) named) says.luts;
  params = says_on ListsParams (name_of Params) front meta old.params (other_sort meta Kind Params (λ e. cc) named) says.params;
}
type_step kind count meta old new (Err e) named (inl short) = inl short
type_step kind count meta old new (Err e) named (inr refused) = inr (λ front says. record {
  sort = Kind;
  named = named;
  new = new_name SaysType (name_of Kind) front old.lut_type refused.0 says.lut_type;
  refuses = refused.1;
})

luts_step : {R : Type 0} (kind : LutType) (count : Option ℕ) (meta : Meta) (old : OwnerMeta) (new : Option LutFields) (result : Result R LineError) → meta.name ≡ name_of Luts →
    ReadsInto (SaysFields kind) (RefusesFields kind) meta.text old.luts new result → StepsTo (Some kind) count meta old (record old { luts = new }) result
luts_step kind count meta old new (Ok r) named read = λ front says. record {
  prefixes = prefixes_on count front meta old.prefixes (other_sort meta Luts Prefix (λ e. cc) named) says.prefixes;
  features = says_on ListsFeatures (name_of Features) front meta old.features (other_sort meta Luts Features (λ e. cc) named) says.features;
  lut_type = says_on SaysType (name_of Kind) front meta old.lut_type (other_sort meta Luts Kind (λ e. cc) named) says.lut_type;
  luts = took (SaysFields kind) (name_of Luts) front meta old.luts new named says.luts read;
  params = says_on ListsParams (name_of Params) front meta old.params (other_sort meta Luts Params (λ e. cc) named) says.params;
}
luts_step kind count meta old new (Err e) named (inl short) = inl short
luts_step kind count meta old new (Err e) named (inr refused) = inr (λ front says. record {
  sort = Luts;
  named = named;
  new = new_name (SaysFields kind) (name_of Luts) front old.luts refused.0 says.luts;
  refuses = refused.1;
})

params_step : {R : Type 0} (kind : Option LutType) (count : Option ℕ) (meta : Meta) (old : OwnerMeta) (new : Option (List ParamField)) (result : Result R LineError) → meta.name ≡ name_of Params →
    ReadsInto ListsParams RefusesParams meta.text old.params new result → StepsTo kind count meta old (record old { params = new }) result
params_step kind count meta old new (Ok r) named read = λ front says. record {
  prefixes = prefixes_on count front meta old.prefixes (other_sort meta Params Prefix (λ e. cc) named) says.prefixes;
  features = says_on ListsFeatures (name_of Features) front meta old.features (other_sort meta Params Features (λ e. cc) named) says.features;
  lut_type = says_on SaysType (name_of Kind) front meta old.lut_type (other_sort meta Params Kind (λ e. cc) named) says.lut_type;
  luts = luts_on kind front meta old.luts (other_sort meta Params Luts (λ e. cc) named) says.luts;
  params = took ListsParams (name_of Params) front meta old.params new named says.params read;
}
params_step kind count meta old new (Err e) named (inl short) = inl short
params_step kind count meta old new (Err e) named (inr refused) = inr (λ front says. record {
  sort = Params;
  named = named;
  new = new_name ListsParams (name_of Params) front old.params refused.0 says.params;
  refuses = refused.1;
})

-- the same of a meta of a sort, whose text was read

named_as : (meta : Meta) (sort is : MetaSort) → meta.name ≡ name_of sort → sort ≡ is → meta.name ≡ name_of is
named_as meta sort is named same = named ∙ ap name_of same

pub no_prefix_at : (kind : Option LutType) (count : Option ℕ) (meta : Meta) (old : OwnerMeta) (sort : MetaSort) → meta.name ≡ name_of sort → sort ≡ Prefix → count ≡ None → Keeps kind count meta old
no_prefix_at kind count meta old sort named same none = subst (λ (o : Option ℕ). Keeps kind o meta old) (sym none) (no_prefix_step kind meta old (named_as meta sort Prefix named same))

pub no_luts_at : (kind : Option LutType) (count : Option ℕ) (meta : Meta) (old : OwnerMeta) (sort : MetaSort) → meta.name ≡ name_of sort → sort ≡ Luts → kind ≡ None → Keeps kind count meta old
no_luts_at kind count meta old sort named same none = subst (λ (o : Option LutType). Keeps o count meta old) (sym none) (no_luts_step count meta old (named_as meta sort Luts named same))

pub prefixes_at : {R : Type 0} (kind : Option LutType) (count : Option ℕ) (n : ℕ) (meta : Meta) (old : OwnerMeta) (new : Option (List (List ℕ))) (result : Result R LineError) (text : List ℕ) (sort : MetaSort) →
    meta.name ≡ name_of sort → sort ≡ Prefix → count ≡ Some n → text ≡ meta.text →
    ReadsInto (λ t prefixes. ArePrefixes t n prefixes) (λ t e. RefusesPrefixes t n e) text old.prefixes new result → StepsTo kind count meta old (record old { prefixes = new }) result
prefixes_at {R = R} kind count n meta old new result text sort named same some is read =
    subst (λ (o : Option ℕ). StepsTo {R = R} kind o meta old (record old { prefixes = new }) result) (sym some)
    (prefixes_step kind n meta old new result (named_as meta sort Prefix named same)
    (subst (λ (t : List ℕ). ReadsInto {R = R} (λ u prefixes. ArePrefixes u n prefixes) (λ u e. RefusesPrefixes u n e) t old.prefixes new result) is read))

pub features_at : {R : Type 0} (kind : Option LutType) (count : Option ℕ) (meta : Meta) (old : OwnerMeta) (new : Option (List Feature)) (result : Result R LineError) (text : List ℕ) (sort : MetaSort) →
    meta.name ≡ name_of sort → sort ≡ Features → text ≡ meta.text →
    ReadsInto ListsFeatures RefusesList text old.features new result → StepsTo kind count meta old (record old { features = new }) result
features_at {R = R} kind count meta old new result text sort named same is read =
    features_step kind count meta old new result (named_as meta sort Features named same) (subst (λ (t : List ℕ). ReadsInto {R = R} ListsFeatures RefusesList t old.features new result) is read)

pub type_at : {R : Type 0} (kind : Option LutType) (count : Option ℕ) (meta : Meta) (old : OwnerMeta) (new : Option LutType) (result : Result R LineError) (text : List ℕ) (sort : MetaSort) →
    meta.name ≡ name_of sort → sort ≡ Kind → text ≡ meta.text →
    ReadsInto SaysType RefusesType text old.lut_type new result → StepsTo kind count meta old (record old { lut_type = new }) result
type_at {R = R} kind count meta old new result text sort named same is read =
    type_step kind count meta old new result (named_as meta sort Kind named same) (subst (λ (t : List ℕ). ReadsInto {R = R} SaysType RefusesType t old.lut_type new result) is read)

pub luts_at : {R : Type 0} (kind : Option LutType) (k : LutType) (count : Option ℕ) (meta : Meta) (old : OwnerMeta) (new : Option LutFields) (result : Result R LineError) (text : List ℕ) (sort : MetaSort) →
    meta.name ≡ name_of sort → sort ≡ Luts → kind ≡ Some k → text ≡ meta.text →
    ReadsInto (SaysFields k) (RefusesFields k) text old.luts new result → StepsTo kind count meta old (record old { luts = new }) result
luts_at {R = R} kind k count meta old new result text sort named same some is read =
    subst (λ (o : Option LutType). StepsTo {R = R} o count meta old (record old { luts = new }) result) (sym some)
    (luts_step k count meta old new result (named_as meta sort Luts named same)
    (subst (λ (t : List ℕ). ReadsInto {R = R} (SaysFields k) (RefusesFields k) t old.luts new result) is read))

pub params_at : {R : Type 0} (kind : Option LutType) (count : Option ℕ) (meta : Meta) (old : OwnerMeta) (new : Option (List ParamField)) (result : Result R LineError) (text : List ℕ) (sort : MetaSort) →
    meta.name ≡ name_of sort → sort ≡ Params → text ≡ meta.text →
    ReadsInto ListsParams RefusesParams text old.params new result → StepsTo kind count meta old (record old { params = new }) result
params_at {R = R} kind count meta old new result text sort named same is read =
    params_step kind count meta old new result (named_as meta sort Params named same) (subst (λ (t : List ℕ). ReadsInto {R = R} ListsParams RefusesParams t old.params new result) is read)
