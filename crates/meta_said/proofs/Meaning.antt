-- What the metadata of an owner says is one, and is told in one way.
use Rattle.std.proofs.Common.{◌≡◌, ◌⊎◌, inl, inr, ℕ, List, [], ◌∷◌, ◌++◌, Option, Some, None, IsSome, is_some, true, false, ◌↔◌, codes, Result, Ok, Err, IfOk, ◌<◌, ◌≤◌, ◌+◌, length, take, drop, get_or, refl, sym, ap, ◌∙◌, subst}
use Rattle.std.proofs.lemmas.List.{take_all}
use Rattle.arch_types.specs.declared.block.Meta.{Meta}
use Rattle.arch_types.specs.declared.block.PbType.{PbType}
use Rattle.arch_types.specs.declared.block.Mode.{Mode}
use Rattle.arch_types.specs.declared.block.Inter.{Inter}
use Rattle.meta_lines.specs.declared.error.LineError.{LineError}
use Rattle.meta_lines.specs.declared.error.LineError.TheVariants.{OutOfMemory}
use Rattle.meta_lines.specs.declared.types.LutType.{LutType}
use Rattle.meta_lines.specs.declared.types.LutType.TheVariants.{Lut, SplitLut}
use Rattle.meta_lines.specs.declared.types.Feature.{Feature}
use Rattle.meta_lines.specs.declared.types.ParamField.{ParamField}
use Rattle.meta_lines.specs.Features.{ListsFeatures, RefusesList}
use Rattle.meta_lines.specs.Fields.{ListsChildren, RefusesChildren, ListsParams, RefusesParams}
use Rattle.meta_lines.specs.Meanings.{HasOneMeaning}
use Rattle.meta_lines.specs.Muxes.{ListsMux, RefusesMuxText}
use Rattle.meta_lines.specs.Only.{SaysType, RefusesType, SaysField, RefusesField}
use Rattle.meta_lines.specs.Prefixes.{ArePrefixes, RefusesPrefixes}
use Rattle.meta_said.specs.declared.types.OwnerMeta.{OwnerMeta}
use Rattle.meta_said.specs.declared.types.LutFields.{LutFields}
use Rattle.meta_said.specs.declared.types.LutFields.TheVariants.{One, Children}
use Rattle.meta_said.specs.declared.types.MetaSort.{MetaSort}
use Rattle.meta_said.specs.declared.types.MetaSort.TheVariants.{Prefix, Features, Kind, Luts, Params}
use Rattle.meta_said.specs.Answers.{HasOneAnswer}
use Rattle.meta_said.specs.Firsts.{LacksName, IsFirstText, SaysFirst}
use Rattle.meta_said.specs.Owners.{name_of, SaysFields, RefusesFields, SaysPrefixes, SaysLuts, SaysWith, Says, IsKind, HoldsLuts, RefusesAs, RefusesMeta, IsRefused}
use Rattle.meta_said.specs.Inters.{SaysInter, RefusesInter}
use Rattle.meta_said.proofs.Firsting.{cut_read, first_here, one_first, first_lacks, one_said, said_apart}
use Rattle.meta_said.proofs.Stepping.{one_sort}

-- what a caller knows of the texts
pub record Means : Type 0 where
  pub prefix : (count : ℕ) → HasOneMeaning (λ text prefixes. ArePrefixes text count prefixes) (λ text e. RefusesPrefixes text count e)
  pub features : HasOneMeaning ListsFeatures RefusesList
  pub kind : HasOneMeaning SaysType RefusesType
  pub lut : HasOneMeaning SaysField RefusesField
  pub children : HasOneMeaning ListsChildren RefusesChildren
  pub params : HasOneMeaning ListsParams RefusesParams

one_fields : Means → (kind : LutType) (text : List ℕ) (a b : LutFields) → SaysFields kind text a → SaysFields kind text b → a ≡ b
one_fields means Lut text (One f) (One g) x y = ap One (means.lut.one text f g x y)
one_fields means SplitLut text (Children c) (Children d) x y = ap Children (means.children.one text c d x y)
one_fields means Lut text (Children c) b x y = absurd x
one_fields means SplitLut text (One f) b x y = absurd x
one_fields means Lut text (One f) (Children d) x y = absurd y
one_fields means SplitLut text (Children c) (One g) x y = absurd y

fields_apart : Means → (kind : LutType) (text : List ℕ) (a : LutFields) (e : LineError) → SaysFields kind text a → RefusesFields kind text e → ⊥
fields_apart means Lut text (One f) e x r = means.lut.apart text f e x r
fields_apart means SplitLut text (Children c) e x r = means.children.apart text c e x r
fields_apart means Lut text (Children c) e x r = x
fields_apart means SplitLut text (One f) e x r = x

one_prefixes : Means → (count : Option ℕ) (metas : List Meta) (a b : Option (List (List ℕ))) → SaysPrefixes count metas a → SaysPrefixes count metas b → a ≡ b
one_prefixes means None metas a b x y = x ∙ sym y
one_prefixes means (Some count) metas a b x y =
    one_said (λ text prefixes. ArePrefixes text count prefixes) (means.prefix count).one (name_of Prefix) metas a b x y

one_luts : Means → (kind : Option LutType) (metas : List Meta) (a b : Option LutFields) → SaysLuts kind metas a → SaysLuts kind metas b → a ≡ b
one_luts means None metas a b x y = x ∙ sym y
one_luts means (Some kind) metas a b x y = one_said (SaysFields kind) (one_fields means kind) (name_of Luts) metas a b x y

-- the type that the metas say is the one that was read
pub kind_is : Means → (metas : List Meta) (kind found : Option LutType) → IsKind metas kind → SaysFirst SaysType (name_of Kind) metas found → kind ≡ found
kind_is means metas None None is says = refl
kind_is means metas None (Some k) is says = absurd (is k says.0 says.1 says.2)
kind_is means metas (Some k) None is says = absurd (first_lacks (name_of Kind) metas is.0 is.1 says)
kind_is means metas (Some k) (Some l) is says =
    ap Some (means.kind.one says.0 k l (subst (λ t. SaysType t k) (one_first (name_of Kind) metas is.0 says.0 is.1 says.1) is.2) says.2)

one_kind : Means → (metas : List Meta) (k l : Option LutType) → IsKind metas k → IsKind metas l → k ≡ l
one_kind means metas None None x y = refl
one_kind means metas None (Some l) x y = absurd (x l y.0 y.1 y.2)
one_kind means metas (Some k) None x y = absurd (y k x.0 x.1 x.2)
one_kind means metas (Some k) (Some l) x y =
    ap Some (means.kind.one y.0 k l (subst (λ t. SaysType t k) (one_first (name_of Kind) metas x.0 y.0 x.1 y.1) x.2) y.2)

abbrev owner : Option (List (List ℕ)) → Option (List Feature) → Option LutType → Option LutFields → Option (List ParamField) → OwnerMeta
owner prefixes features kind luts params = record { prefixes = prefixes; features = features; lut_type = kind; luts = luts; params = params }

same_owner : (p q : Option (List (List ℕ))) (f g : Option (List Feature)) (k l : Option LutType) (t u : Option LutFields) (r s : Option (List ParamField)) →
    p ≡ q → f ≡ g → k ≡ l → t ≡ u → r ≡ s → owner p f k t r ≡ owner q g l u s
same_owner p q f g k l t u r s a b c d e = cc

one_owner : Means → (count : Option ℕ) (metas : List Meta) (a b : OwnerMeta) → Says count metas a → Says count metas b → a ≡ b
one_owner means count metas a b x y =
    let kind = one_said SaysType means.kind.one (name_of Kind) metas a.lut_type b.lut_type x.lut_type y.lut_type in
    same_owner a.prefixes b.prefixes a.features b.features a.lut_type b.lut_type a.luts b.luts a.params b.params
    (one_prefixes means count metas a.prefixes b.prefixes x.prefixes y.prefixes)
    (one_said ListsFeatures means.features.one (name_of Features) metas a.features b.features x.features y.features)
    kind
    (one_luts means b.lut_type metas a.luts b.luts (subst (λ k. SaysLuts k metas a.luts) kind x.luts) y.luts)
    (one_said ListsParams means.params.one (name_of Params) metas a.params b.params x.params y.params)

-- what is said isn't refused
sort_apart : Means → (kind : Option LutType) (count : Option ℕ) (metas : List Meta) (said : OwnerMeta) → SaysWith kind count metas said → (sort : MetaSort) (text : List ℕ) (e : LineError) →
    IsFirstText (name_of sort) metas text → RefusesAs kind count sort text e → ⊥
sort_apart means kind None metas said says Prefix text e first refuses = refuses
sort_apart means kind (Some count) metas said says Prefix text e first refuses =
    said_apart (λ t prefixes. ArePrefixes t count prefixes) (λ t d. RefusesPrefixes t count d) (means.prefix count).apart (name_of Prefix) metas said.prefixes text e says.prefixes first refuses
sort_apart means kind count metas said says Features text e first refuses =
    said_apart ListsFeatures RefusesList means.features.apart (name_of Features) metas said.features text e says.features first refuses
sort_apart means kind count metas said says Kind text e first refuses =
    said_apart SaysType RefusesType means.kind.apart (name_of Kind) metas said.lut_type text e says.lut_type first refuses
sort_apart means None count metas said says Luts text e first refuses = refuses
sort_apart means (Some kind) count metas said says Luts text e first refuses =
    said_apart (SaysFields kind) (RefusesFields kind) (fields_apart means kind) (name_of Luts) metas said.luts text e says.luts first refuses
sort_apart means kind count metas said says Params text e first refuses =
    said_apart ListsParams RefusesParams means.params.apart (name_of Params) metas said.params text e says.params first refuses

fields_refused : Means → (kind : LutType) (text : List ℕ) (e f : LineError) → RefusesFields kind text e → RefusesFields kind text f → e ≡ f
fields_refused means Lut text e f r s = means.lut.refused text e f r s
fields_refused means SplitLut text e f r s = means.children.refused text e f r s

sort_refused : Means → (kind : Option LutType) (count : Option ℕ) (sort : MetaSort) (text : List ℕ) (e f : LineError) → RefusesAs kind count sort text e → RefusesAs kind count sort text f → e ≡ f
sort_refused means kind None Prefix text e f r s = absurd r
sort_refused means kind (Some count) Prefix text e f r s = (means.prefix count).refused text e f r s
sort_refused means kind count Features text e f r s = means.features.refused text e f r s
sort_refused means kind count Kind text e f r s = means.kind.refused text e f r s
sort_refused means None count Luts text e f r s = absurd r
sort_refused means (Some kind) count Luts text e f r s = fields_refused means kind text e f r s
sort_refused means kind count Params text e f r s = means.params.refused text e f r s

owner_apart : Means → (count : Option ℕ) (metas : List Meta) (a : OwnerMeta) (e : LineError) → Says count metas a → IsRefused count metas e → ⊥
owner_apart means count metas a e says r =
    let kind = kind_is means metas r.kind a.lut_type r.is_kind says.lut_type in
    let first = first_here (name_of r.refused.sort) r.front r.meta r.behind r.refused.new r.refused.named in
    sort_apart means r.kind count metas a (subst (λ k. SaysWith k count metas a) (sym kind) says) r.refused.sort r.meta.text e
    (subst (λ l. IsFirstText (name_of r.refused.sort) l r.meta.text) (sym r.spelled) first) r.refused.refuses

-- two cuts of one list: at one place, or one of them in the other's front
pub data Cuts {X : Type 0} (front : List X) (x : X) (other : List X) (y : X) : Type 0 where
  at_one : front ≡ other → x ≡ y → Cuts front x other y
  before : (rest : List X) → other ≡ front ++ x ∷ rest → Cuts front x other y
  after : (rest : List X) → front ≡ other ++ y ∷ rest → Cuts front x other y

cuts : {X : Type 0} (front : List X) (x : X) (behind other : List X) (y : X) (below : List X) → front ++ x ∷ behind ≡ other ++ y ∷ below → Cuts front x other y
cuts [] x behind [] y below same = at_one refl (heads x y behind below same)
  where
    heads : {X : Type 0} (a b : X) (us vs : List X) → a ∷ us ≡ b ∷ vs → a ≡ b
    heads a b us vs e = cc
cuts [] x behind (b ∷ other) y below same = before other (heads b x other behind (other ++ y ∷ below) same)
  where
    heads : {X : Type 0} (b x : X) (rest us vs : List X) → x ∷ us ≡ b ∷ vs → b ∷ rest ≡ x ∷ rest
    heads b x rest us vs e = cc
cuts (a ∷ front) x behind [] y below same = after front (heads a y front (front ++ x ∷ behind) below same)
  where
    heads : {X : Type 0} (a y : X) (rest us vs : List X) → a ∷ us ≡ y ∷ vs → a ∷ rest ≡ y ∷ rest
    heads a y rest us vs e = cc
cuts (a ∷ front) x behind (b ∷ other) y below same =
    on a b front x other y (heads a b (front ++ x ∷ behind) (other ++ y ∷ below) same) (cuts front x behind other y below (tails a b (front ++ x ∷ behind) (other ++ y ∷ below) same))
  where
    heads : {X : Type 0} (a b : X) (us vs : List X) → a ∷ us ≡ b ∷ vs → a ≡ b
    heads a b us vs e = cc

    tails : {X : Type 0} (a b : X) (us vs : List X) → a ∷ us ≡ b ∷ vs → us ≡ vs
    tails a b us vs e = cc

    on : {X : Type 0} (a b : X) (front : List X) (x : X) (other : List X) (y : X) → a ≡ b → Cuts front x other y → Cuts (a ∷ front) x (b ∷ other) y
    on a b front x other y e (at_one f g) = at_one (cc (e, f)) g
    on a b front x other y e (before rest f) = before rest (cc (e, f))
    on a b front x other y e (after rest f) = after rest (cc (e, f))

owner_refused : Means → (count : Option ℕ) (metas : List Meta) (e f : LineError) → IsRefused count metas e → IsRefused count metas f → e ≡ f
owner_refused means count metas e f r s = by (cuts r.front r.meta r.behind s.front s.meta s.behind (sym r.spelled ∙ s.spelled))
  where
    kind : r.kind ≡ s.kind
    kind = one_kind means metas r.kind s.kind r.is_kind s.is_kind

    by : Cuts r.front r.meta s.front s.meta → e ≡ f
    by (at_one front meta) =
        let sort = one_sort r.refused.sort s.refused.sort (sym r.refused.named ∙ (ap (λ (m : Meta). m.name) meta ∙ s.refused.named)) in
        let here = subst (λ t. RefusesAs r.kind count r.refused.sort t e) (ap (λ (m : Meta). m.text) meta) r.refused.refuses in
        let so = subst (λ k. RefusesAs k count r.refused.sort s.meta.text e) kind here in
        sort_refused means s.kind count s.refused.sort s.meta.text e f (subst (λ q. RefusesAs s.kind count q s.meta.text e) sort so) s.refused.refuses
    by (before rest is) =
        absurd (sort_apart means s.kind count s.front s.before s.said r.refused.sort r.meta.text e
        (subst (λ l. IsFirstText (name_of r.refused.sort) l r.meta.text) (sym is) (first_here (name_of r.refused.sort) r.front r.meta rest r.refused.new r.refused.named))
        (subst (λ k. RefusesAs k count r.refused.sort r.meta.text e) kind r.refused.refuses))
    by (after rest is) =
        absurd (sort_apart means r.kind count r.front r.before r.said s.refused.sort s.meta.text f
        (subst (λ l. IsFirstText (name_of s.refused.sort) l s.meta.text) (sym is) (first_here (name_of s.refused.sort) s.front s.meta rest s.refused.new s.refused.named))
        (subst (λ k. RefusesAs k count s.refused.sort s.meta.text f) (sym kind) s.refused.refuses))

pub owner_means_one : Means → (count : Option ℕ) (metas : List Meta) → HasOneAnswer (Says count metas) (IsRefused count metas)
owner_means_one means count metas = record {
  one = one_owner means count metas;
  refused = owner_refused means count metas;
  apart = owner_apart means count metas;
}

pub inter_means_one : (block : PbType) (mode : Mode) (inter : Inter) → HasOneMeaning (λ text given. ListsMux block mode inter text given) (λ text e. RefusesMuxText block mode inter text e) →
    HasOneAnswer (SaysInter block mode inter) (RefusesInter block mode inter)
inter_means_one block mode inter means = record {
  one = λ a b x y. one_said (ListsMux block mode inter) means.one (codes "fasm_mux") inter.metas a b x y;
  refused = λ e f r s. means.refused s.text e f (subst (λ t. RefusesMuxText block mode inter t e) (one_first (codes "fasm_mux") inter.metas r.text s.text r.first s.first) r.refused) s.refused;
  apart = λ a e x r. said_apart (ListsMux block mode inter) (RefusesMuxText block mode inter) means.apart (codes "fasm_mux") inter.metas a r.text e x r.first r.refused;
}

none_some : {V : Type 0} (o : Option V) → o ≡ None → IsSome o → ⊥
none_some o none some = let e : false ≡ true = ap is_some (sym none) ∙ some in cc

held : (kind : Option LutType) (metas : List Meta) (luts : Option LutFields) → SaysFirst SaysType (name_of Kind) metas kind → SaysLuts kind metas luts → IsSome luts ↔ HoldsLuts metas
held None metas luts lacks none = (
  λ some. absurd (none_some luts none some),
  λ holds. absurd (first_lacks (name_of Kind) metas holds.0.0 holds.0.1 lacks),
)
held (Some kind) metas None says lacks = (λ some. absurd (none_some {V = LutFields} None refl some), λ holds. absurd (first_lacks (name_of Luts) metas holds.1.0 holds.1.1 lacks))
held (Some kind) metas (Some luts) says fields = (λ some. ((says.0, says.1), (fields.0, fields.1)), λ holds. refl)

pub luts_held : (count : Option ℕ) (metas : List Meta) (said : OwnerMeta) → Says count metas said → IsSome said.luts ↔ HoldsLuts metas
luts_held count metas said says = held said.lut_type metas said.luts says.lut_type says.luts

-- the metas that were read say this

pub all_said : Means → (kind : Option LutType) (count : Option ℕ) (metas : List Meta) (k : ℕ) (said : OwnerMeta) → IsKind metas kind → length metas ≤ k → SaysWith kind count (take k metas) said → Says count metas said
all_said means kind count metas k said is whole says =
    let all = subst (λ (l : List Meta). SaysWith kind count l said) (take_all k metas whole) says in
    subst (λ (o : Option LutType). SaysWith o count metas said) (kind_is means metas kind said.lut_type is all.lut_type) all

pub stops_here : (kind : Option LutType) (count : Option ℕ) (metas : List Meta) (k : ℕ) (meta : Meta) (old : OwnerMeta) (e : LineError) → IsKind metas kind → k < length metas → meta ≡ get_or metas k meta →
    SaysWith kind count (take k metas) old → (e ≡ OutOfMemory) ⊎ ((front : List Meta) → SaysWith kind count front old → RefusesMeta kind count front meta e) → (e ≡ OutOfMemory) ⊎ IsRefused count metas e
stops_here kind count metas k meta old e is within read says (inl short) = inl short
stops_here kind count metas k meta old e is within read says (inr refused) = inr (record {
  kind = kind;
  is_kind = is;
  front = take k metas;
  meta = meta;
  behind = drop (k + 1) metas;
  spelled = cut_read metas k meta within read;
  before = old;
  said = says;
  refused = refused (take k metas) says;
})

-- a text that says no type

pub no_kind_said : {E : Type 0} (metas : List Meta) (text : List ℕ) (e : LineError) (r : Result (Option LutType) E) → HasOneMeaning SaysType RefusesType → IsFirstText (name_of Kind) metas text →
    (e ≡ OutOfMemory) ⊎ RefusesType text e → IfOk r (λ k. (k ≡ None) × (e ≡ OutOfMemory → ⊥)) → IfOk r (IsKind metas)
no_kind_said metas text e (Err f) means first refused none = none
no_kind_said metas text e (Ok k) means first refused none = subst (IsKind metas) (sym none.0) (λ kind other there says. by kind other there says refused)
  where
    by : (kind : LutType) (other : List ℕ) → IsFirstText (name_of Kind) metas other → SaysType other kind → (e ≡ OutOfMemory) ⊎ RefusesType text e → ⊥
    by kind other there says (inl short) = none.1 short
    by kind other there says (inr refuses) = means.apart text kind e (subst (λ (t : List ℕ). SaysType t kind) (one_first (name_of Kind) metas other text there first) says) refuses
