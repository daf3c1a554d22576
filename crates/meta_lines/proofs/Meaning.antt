-- What lines of features and fields say is one, and is told in one way.
use Rattle.std.proofs.Common.{◌≡◌, ◌⊎◌, inl, inr, ℕ, List, [], ◌∷◌, map, refl, sym, ap, ◌∙◌, subst, IsUtf8, codes}
use Rattle.std.specs.List.{All, slice_split}
use Rattle.fasm_text.specs.Names.{IsFeatureName}
use Rattle.meta_parts.specs.Words.{is_gap, is_comma, words_by, words_of}
use Rattle.meta_parts.specs.Lines.{LineAt, said_lines}
use Rattle.meta_parts.specs.Divisions.{HasSides}
use Rattle.meta_parts.specs.Forms.{HasBit, HasRange, HasChild}
use Rattle.meta_lines.specs.declared.types.Feature.{Feature}
use Rattle.meta_lines.specs.declared.types.Field.{Field}
use Rattle.meta_lines.specs.declared.types.ChildField.{ChildField}
use Rattle.meta_lines.specs.declared.types.ParamField.{ParamField}
use Rattle.meta_lines.specs.declared.error.LineError.{LineError}
use Rattle.meta_lines.specs.declared.error.LineError.TheVariants.{BadLine, PrefixCount, UnknownInput, FeatureName, OutOfMemory}
use Rattle.meta_lines.specs.Each.{Each}
use Rattle.meta_lines.specs.Features.{IsForm, HasOwnForm, AreNamed, SaysFeatures, RefusesFeatures, ListsFeatures, RefusesList}
use Rattle.meta_lines.specs.Fields.{IsFieldForm, NamesChild, NamesParam, HasChildForm, HasParamForm, SaysNamed, RefusesNamed, ListsChildren, RefusesChildren, ListsParams, RefusesParams}
use Rattle.meta_lines.specs.Meanings.{HasOneMeaning}
use Rattle.meta_lines.specs.Readings.{LinesSay, StopsAt}
use Rattle.meta_lines.specs.Muxes.{IsPart, HasParts, HasMuxForm}
use Rattle.meta_lines.proofs.Listing.{one_each}
use Rattle.meta_lines.proofs.Saying.{SaysOne, RefusesOne, AreApart, one_saying, say_or_stop, one_stop}

-- what a caller knows of forms
abbrev pub OneBit : Type 0
OneBit = (word n m : List ℕ) (a b : ℕ) → HasBit word n a → HasBit word m b → (n ≡ m) × (a ≡ b)

abbrev pub OneRange : Type 0
OneRange = (word n m : List ℕ) (lo hi bottom top : ℕ) → HasRange word n lo hi → HasRange word m bottom top → (n ≡ m) × (lo ≡ bottom) × (hi ≡ top)

abbrev pub OneChild : Type 0
OneChild = (word n m : List ℕ) (a b : ℕ) → HasChild word n a → HasChild word m b → (n ≡ m) × (a ≡ b)

abbrev pub OneSides : Type 0
OneSides = (line l r m s : List ℕ) → HasSides line l r → HasSides line m s → (l ≡ m) × (r ≡ s)

abbrev feature : List ℕ → ℕ → List ℕ → Feature
feature n b t = record { name = n; bit = b; text = t }

same_feature : (n m t s : List ℕ) (a b : ℕ) → n ≡ m → a ≡ b → t ≡ s → feature n a t ≡ feature m b s
same_feature n m t s a b x y z = cc

pub one_form_of : OneBit → (word : List ℕ) (f g : Feature) → IsForm word f → IsForm word g → f ≡ g
one_form_of one word f g a b =
    let same = one word f.name g.name f.bit g.bit a.form b.form in
    same_feature f.name g.name f.text g.text f.bit g.bit same.0 same.1 (a.text ∙ sym b.text)

pub only_same : (v w : List ℕ) (words : List (List ℕ)) → words ≡ v ∷ [] → words ≡ w ∷ [] → v ≡ w
only_same v w words a b = cc

pub one_part : OneBit → (part : List ℕ) (f g : Feature) → IsPart part f → IsPart part g → f ≡ g
one_part one part f g a b = one_form_of one b.word f g (subst (λ w. IsForm w f) (only_same a.word b.word (words_of part) a.only b.only) a.form) b.form

pub own_form : (word : List ℕ) (f : Feature) → IsForm word f → HasOwnForm f
own_form word f is = subst (λ w. HasBit w f.name f.bit) (sym is.text) is.form

pub own_part : (part : List ℕ) (f : Feature) → IsPart part f → HasOwnForm f
own_part part f is = own_form is.word f is.form

-- features

one_features : OneBit → SaysOne SaysFeatures
one_features one before line a b x y = one_each IsForm (one_form_of one) (words_by is_gap line.text) a b x.0 y.0

features_apart : OneBit → AreApart SaysFeatures RefusesFeatures
features_apart one before line a (BadLine at) x r = r.1 a x.0
features_apart one before line a (FeatureName at) x r =
    r.1.2 (subst AreNamed (one_each IsForm (one_form_of one) (words_by is_gap line.text) a r.1.0 x.0 r.1.1) x.1)
features_apart one before line a PrefixCount x r = r
features_apart one before line a (UnknownInput at) x r = r
features_apart one before line a OutOfMemory x r = r

features_refused : RefusesOne RefusesFeatures
features_refused before line (BadLine at) (BadLine to) r s = ap BadLine (r.0 ∙ sym s.0)
features_refused before line (BadLine at) (FeatureName to) r s = absurd (r.1 s.1.0 s.1.1)
features_refused before line (FeatureName at) (BadLine to) r s = absurd (s.1 r.1.0 r.1.1)
features_refused before line (FeatureName at) (FeatureName to) r s = ap FeatureName (r.0 ∙ sym s.0)
features_refused before line PrefixCount f r s = absurd r
features_refused before line (UnknownInput at) f r s = absurd r
features_refused before line OutOfMemory f r s = absurd r
features_refused before line e PrefixCount r s = absurd s
features_refused before line e (UnknownInput to) r s = absurd s
features_refused before line e OutOfMemory r s = absurd s

pub features_mean_one : OneBit → HasOneMeaning ListsFeatures RefusesList
features_mean_one one = record {
  one = λ text a b. one_saying SaysFeatures (one_features one) [] (said_lines text) a b;
  refused = λ text e f. one_stop SaysFeatures RefusesFeatures (one_features one) features_refused (features_apart one) (said_lines text) e f;
  apart = λ text a e. say_or_stop SaysFeatures RefusesFeatures (one_features one) (features_apart one) (said_lines text) a e;
}

-- lines of one field

abbrev pub OneForm : {V : Type 0} → (LineAt → V → Type 0) → Type 0
OneForm {V = V} HasForm = (line : LineAt) (v w : V) → HasForm line v → HasForm line w → v ≡ w

one_named : {V : Type 0} (HasForm : LineAt → V → Type 0) (name : V → List ℕ) → OneForm HasForm → SaysOne (SaysNamed HasForm name)
one_named HasForm name one before line a b x y =
    x.1 ∙ (ap (λ v. v ∷ []) (one line x.0 y.0 x.2 y.2) ∙ sym y.1)

named_apart : {V : Type 0} (HasForm : LineAt → V → Type 0) (name : V → List ℕ) → OneForm HasForm → AreApart (SaysNamed HasForm name) (RefusesNamed HasForm name)
named_apart HasForm name one before line a (BadLine at) x r = r.1 x.0 x.2
named_apart HasForm name one before line a (FeatureName at) x r =
    r.1.2 (subst (λ v. IsFeatureName (name v)) (one line x.0 r.1.0 x.2 r.1.1) x.3)
named_apart HasForm name one before line a PrefixCount x r = r
named_apart HasForm name one before line a (UnknownInput at) x r = r
named_apart HasForm name one before line a OutOfMemory x r = r

named_refused : {V : Type 0} (HasForm : LineAt → V → Type 0) (name : V → List ℕ) → RefusesOne (RefusesNamed HasForm name)
named_refused HasForm name before line (BadLine at) (BadLine to) r s = ap BadLine (r.0 ∙ sym s.0)
named_refused HasForm name before line (BadLine at) (FeatureName to) r s = absurd (r.1 s.1.0 s.1.1)
named_refused HasForm name before line (FeatureName at) (BadLine to) r s = absurd (s.1 r.1.0 r.1.1)
named_refused HasForm name before line (FeatureName at) (FeatureName to) r s = ap FeatureName (r.0 ∙ sym s.0)
named_refused HasForm name before line PrefixCount f r s = absurd r
named_refused HasForm name before line (UnknownInput at) f r s = absurd r
named_refused HasForm name before line OutOfMemory f r s = absurd r
named_refused HasForm name before line e PrefixCount r s = absurd s
named_refused HasForm name before line e (UnknownInput to) r s = absurd s
named_refused HasForm name before line e OutOfMemory r s = absurd s

abbrev field_of : List ℕ → ℕ → ℕ → Field
field_of n lo hi = record { name = n; lo = lo; hi = hi }

same_field : (n m : List ℕ) (lo hi bottom top : ℕ) → n ≡ m → lo ≡ bottom → hi ≡ top → field_of n lo hi ≡ field_of m bottom top
same_field n m lo hi bottom top x y z = cc

pub one_field : OneRange → (text : List ℕ) (f g : Field) → IsFieldForm text f → IsFieldForm text g → f ≡ g
one_field range text f g a b =
    let same = range b.word f.name g.name f.lo f.hi g.lo g.hi (subst (λ w. HasRange w f.name f.lo f.hi) (only_same a.word b.word (words_of text) a.only b.only) a.form) b.form in
    same_field f.name g.name f.lo f.hi g.lo g.hi same.0 same.1 same.2

one_child : OneChild → (text n m : List ℕ) (i j : ℕ) → NamesChild text n i → NamesChild text m j → (n ≡ m) × (i ≡ j)
one_child child text n m i j a b =
    child b.word n m i j (subst (λ w. HasChild w n i) (only_same a.word b.word (words_of text) a.only b.only) a.form) b.form

abbrev child_of : ℕ → Field → List ℕ → ℕ → ChildField
child_of l f c i = record { line = l; field = f; child = c; instance = i }

same_child : (l k : ℕ) (f g : Field) (c d : List ℕ) (i j : ℕ) → l ≡ k → f ≡ g → c ≡ d → i ≡ j → child_of l f c i ≡ child_of k g d j
same_child l k f g c d i j x y z u = cc

children_one : OneSides → OneRange → OneChild → OneForm HasChildForm
children_one sides range child line v w a b =
    let two = sides line.text a.left a.right b.left b.right a.sides b.sides in
    let field = one_field range b.left v.field w.field (subst (λ t. IsFieldForm t v.field) two.0 a.field) b.field in
    let named = one_child child b.right v.child w.child v.instance w.instance (subst (λ t. NamesChild t v.child v.instance) two.1 a.child) b.child in
    same_child v.line w.line v.field w.field v.child w.child v.instance w.instance (a.number ∙ sym b.number) field named.0 named.1

abbrev param_of : Field → List ℕ → ParamField
param_of f p = record { field = f; param = p }

same_param : (f g : Field) (p q : List ℕ) → f ≡ g → p ≡ q → param_of f p ≡ param_of g q
same_param f g p q x y = cc

params_one : OneSides → OneRange → OneForm HasParamForm
params_one sides range line v w a b =
    let two = sides line.text a.left a.right b.left b.right a.sides b.sides in
    let field = one_field range b.left v.field w.field (subst (λ t. IsFieldForm t v.field) two.0 a.field) b.field in
    let param = only_same v.param w.param (words_of b.right) (subst (λ t. words_of t ≡ v.param ∷ []) two.1 a.param.only) b.param.only in
    same_param v.field w.field v.param w.param field param

named_means_one : {V : Type 0} (HasForm : LineAt → V → Type 0) (name : V → List ℕ) → OneForm HasForm →
    HasOneMeaning (λ text vs. LinesSay (SaysNamed HasForm name) [] (said_lines text) vs)
    (λ text e. StopsAt (SaysNamed HasForm name) (RefusesNamed HasForm name) (said_lines text) e)
named_means_one HasForm name one = record {
  one = λ text a b. one_saying (SaysNamed HasForm name) (one_named HasForm name one) [] (said_lines text) a b;
  refused = λ text e f. one_stop (SaysNamed HasForm name) (RefusesNamed HasForm name) (one_named HasForm name one) (named_refused HasForm name) (named_apart HasForm name one) (said_lines text) e f;
  apart = λ text a e. say_or_stop (SaysNamed HasForm name) (RefusesNamed HasForm name) (one_named HasForm name one) (named_apart HasForm name one) (said_lines text) a e;
}

pub children_mean_one : OneSides → OneRange → OneChild → HasOneMeaning ListsChildren RefusesChildren
children_mean_one sides range child = named_means_one HasChildForm (λ c. c.field.name) (children_one sides range child)

pub params_mean_one : OneSides → OneRange → HasOneMeaning ListsParams RefusesParams
params_mean_one sides range = named_means_one HasParamForm (λ p. p.field.name) (params_one sides range)
