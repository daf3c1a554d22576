-- Texts of one line, and prefixes: what they say is one, and is told in one way.
use Rattle.std.proofs.Common.{◌≡◌, ◌⊎◌, inl, inr, ℕ, List, [], ◌∷◌, ◌++◌, map, length, refl, sym, ap, ◌∙◌, subst, codes}
use Rattle.std.specs.List.{All, flat_map}
use Rattle.std.proofs.lemmas.List.Elements.{All-head, All-tail, All-cons, All-nil}
use Rattle.fasm_text.specs.Names.{IsFeatureName}
use Rattle.meta_parts.specs.Words.{words_of}
use Rattle.meta_parts.specs.Lines.{LineAt, said_lines}
use Rattle.meta_lines.specs.declared.types.Field.{Field}
use Rattle.meta_lines.specs.declared.types.LutType.{LutType}
use Rattle.meta_lines.specs.declared.types.LutType.TheVariants.{Lut, SplitLut}
use Rattle.meta_lines.specs.declared.types.LineField.{LineField}
use Rattle.meta_lines.specs.declared.error.LineError.{LineError}
use Rattle.meta_lines.specs.declared.error.LineError.TheVariants.{BadLine, PrefixCount, UnknownInput, FeatureName, OutOfMemory}
use Rattle.meta_lines.specs.Meanings.{HasOneMeaning}
use Rattle.meta_lines.specs.Only.{SaysOnly, RefusesOnly, type_name, IsType, IsNoType, SaysType, RefusesType, IsFieldLine, IsField, IsNoField, SaysField, RefusesField}
use Rattle.meta_lines.specs.Prefixes.{prefix_words, ArePrefixes, IsBadPrefix, RefusesPrefixes}
use Rattle.meta_lines.proofs.Meaning.{OneRange, OneForm, only_same, one_field}

only_one : {V : Type 0} (Says : LineAt → V → Type 0) → OneForm Says → (lines : List LineAt) (a b : V) → SaysOnly Says lines a → SaysOnly Says lines b → a ≡ b
only_one Says one [] a b x y = absurd x
only_one Says one (line ∷ []) a b x y = one line a b x y
only_one Says one (line ∷ second ∷ lines) a b x y = absurd x

only_apart : {V : Type 0} (Says : LineAt → V → Type 0) (Refuses : LineAt → LineError → Type 0) → ((line : LineAt) (v : V) (e : LineError) → Says line v → Refuses line e → ⊥) →
    (lines : List LineAt) (a : V) (e : LineError) → SaysOnly Says lines a → RefusesOnly Says Refuses lines e → ⊥
only_apart Says Refuses apart [] a e x r = x
only_apart Says Refuses apart (line ∷ []) a e x r = apart line a e x r
only_apart Says Refuses apart (line ∷ second ∷ lines) a e x r = x

only_refused : {V : Type 0} (Says : LineAt → V → Type 0) (Refuses : LineAt → LineError → Type 0) → ((line : LineAt) (v : V) (e : LineError) → Says line v → Refuses line e → ⊥) →
    ((line : LineAt) (e f : LineError) → Refuses line e → Refuses line f → e ≡ f) →
    (lines : List LineAt) (e f : LineError) → RefusesOnly Says Refuses lines e → RefusesOnly Says Refuses lines f → e ≡ f
only_refused Says Refuses apart one [] e f r s = r ∙ sym s
only_refused Says Refuses apart one (line ∷ []) e f r s = one line e f r s
only_refused Says Refuses apart one (line ∷ second ∷ lines) e f (inl r) (inl s) = one line e f r s
only_refused Says Refuses apart one (line ∷ second ∷ lines) e f (inl r) (inr s) = absurd (apart line s.0.0 e s.0.1 r)
only_refused Says Refuses apart one (line ∷ second ∷ lines) e f (inr r) (inl s) = absurd (apart line r.0.0 f r.0.1 s)
only_refused Says Refuses apart one (line ∷ second ∷ lines) e f (inr r) (inr s) = r.1 ∙ sym s.1

-- types

one_type : OneForm IsType
one_type line Lut Lut x y = refl
one_type line Lut SplitLut x y = absurd (other (only_same (codes "LUT") (codes "SPLIT_LUT") (words_of line.text) x y))
  where
    other : codes "LUT" ≡ codes "SPLIT_LUT" → ⊥
    other e = cc
one_type line SplitLut Lut x y = absurd (other (only_same (codes "LUT") (codes "SPLIT_LUT") (words_of line.text) y x))
  where
    other : codes "LUT" ≡ codes "SPLIT_LUT" → ⊥
    other e = cc
one_type line SplitLut SplitLut x y = refl

type_apart : (line : LineAt) (v : LutType) (e : LineError) → IsType line v → IsNoType line e → ⊥
type_apart line v (BadLine at) x r = r.1 v x
type_apart line v (FeatureName at) x r = r
type_apart line v PrefixCount x r = r
type_apart line v (UnknownInput at) x r = r
type_apart line v OutOfMemory x r = r

type_refused : (line : LineAt) (e f : LineError) → IsNoType line e → IsNoType line f → e ≡ f
type_refused line (BadLine at) (BadLine to) r s = ap BadLine (r.0 ∙ sym s.0)
type_refused line (FeatureName at) f r s = absurd r
type_refused line PrefixCount f r s = absurd r
type_refused line (UnknownInput at) f r s = absurd r
type_refused line OutOfMemory f r s = absurd r
type_refused line e (FeatureName at) r s = absurd s
type_refused line e PrefixCount r s = absurd s
type_refused line e (UnknownInput at) r s = absurd s
type_refused line e OutOfMemory r s = absurd s

pub types_mean_one : HasOneMeaning SaysType RefusesType
types_mean_one = record {
  one = λ text a b. only_one IsType one_type (said_lines text) a b;
  refused = λ text e f. only_refused IsType IsNoType type_apart type_refused (said_lines text) e f;
  apart = λ text a e. only_apart IsType IsNoType type_apart (said_lines text) a e;
}

-- the field of all LUTs

abbrev line_field : ℕ → Field → LineField
line_field l f = record { line = l; field = f }

same_line_field : (l k : ℕ) (f g : Field) → l ≡ k → f ≡ g → line_field l f ≡ line_field k g
same_line_field l k f g x y = cc

one_field_line : OneRange → (line : LineAt) (v w : LineField) → IsFieldLine line v → IsFieldLine line w → v ≡ w
one_field_line range line v w a b = same_line_field v.line w.line v.field w.field (a.number ∙ sym b.number) (one_field range line.text v.field w.field a.form b.form)

field_apart : OneRange → (line : LineAt) (v : LineField) (e : LineError) → IsField line v → IsNoField line e → ⊥
field_apart range line v (BadLine at) x r = r.1 v x.form
field_apart range line v (FeatureName at) x r =
    r.1.2 (subst (λ (f : LineField). IsFeatureName f.field.name) (one_field_line range line v r.1.0 x.form r.1.1) x.named)
field_apart range line v PrefixCount x r = r
field_apart range line v (UnknownInput at) x r = r
field_apart range line v OutOfMemory x r = r

field_refused : (line : LineAt) (e f : LineError) → IsNoField line e → IsNoField line f → e ≡ f
field_refused line (BadLine at) (BadLine to) r s = ap BadLine (r.0 ∙ sym s.0)
field_refused line (BadLine at) (FeatureName to) r s = absurd (r.1 s.1.0 s.1.1)
field_refused line (FeatureName at) (BadLine to) r s = absurd (s.1 r.1.0 r.1.1)
field_refused line (FeatureName at) (FeatureName to) r s = ap FeatureName (r.0 ∙ sym s.0)
field_refused line PrefixCount f r s = absurd r
field_refused line (UnknownInput at) f r s = absurd r
field_refused line OutOfMemory f r s = absurd r
field_refused line e PrefixCount r s = absurd s
field_refused line e (UnknownInput at) r s = absurd s
field_refused line e OutOfMemory r s = absurd s

pub fields_mean_one : OneRange → HasOneMeaning SaysField RefusesField
fields_mean_one range = record {
  one = λ text a b. only_one IsField (λ line v w x y. one_field_line range line v w x.form y.form) (said_lines text) a b;
  refused = λ text e f. only_refused IsField IsNoField (field_apart range) field_refused (said_lines text) e f;
  apart = λ text a e. only_apart IsField IsNoField (field_apart range) (said_lines text) a e;
}

-- prefixes

all_right : (P : List ℕ → Type 0) (xs ys : List (List ℕ)) → All P (xs ++ ys) → All P ys
all_right P [] ys all = all
all_right P (x ∷ xs) ys all = all_right P xs ys (All-tail P x (xs ++ ys) all)

all_left : (P : List ℕ → Type 0) (xs ys : List (List ℕ)) → All P (xs ++ ys) → All P xs
all_left P [] ys all = All-nil P
all_left P (x ∷ xs) ys all = All-cons P x xs (All-head P x (xs ++ ys) all) (all_left P xs ys (All-tail P x (xs ++ ys) all))

-- what holds of the words of all lines holds of one line's
front_names : (P : List ℕ → Type 0) (front : List LineAt) (line : LineAt) (behind : List LineAt) → All P (flat_map (λ l. words_of l.text) (front ++ line ∷ behind)) → All P (words_of line.text)
front_names P [] line behind all = all_left P (words_of line.text) (flat_map (λ l. words_of l.text) behind) all
front_names P (f ∷ front) line behind all =
    front_names P front line behind (all_right P (words_of f.text) (flat_map (λ l. words_of l.text) (front ++ line ∷ behind)) all)

-- two first lines with a bad name are one
same_bad : (front : List LineAt) (line : LineAt) (behind above : List LineAt) (other : LineAt) (below : List LineAt) → front ++ line ∷ behind ≡ above ++ other ∷ below →
    All IsFeatureName (flat_map (λ l. words_of l.text) front) → All IsFeatureName (flat_map (λ l. words_of l.text) above) →
    (All IsFeatureName (words_of line.text) → ⊥) → (All IsFeatureName (words_of other.text) → ⊥) → line.number ≡ other.number
same_bad [] line behind [] other below same x y bad worse = ap (λ (l : LineAt). l.number) (heads line other behind below same)
  where
    heads : (a b : LineAt) (xs ys : List LineAt) → a ∷ xs ≡ b ∷ ys → a ≡ b
    heads a b xs ys e = cc
same_bad [] line behind (a ∷ above) other below same x y bad worse =
    let is : a ≡ line = cc in
    absurd (bad (subst (λ (l : LineAt). All IsFeatureName (words_of l.text)) is (all_left IsFeatureName (words_of a.text) (flat_map (λ l. words_of l.text) above) y)))
same_bad (a ∷ front) line behind [] other below same x y bad worse =
    let is : a ≡ other = cc in
    absurd (worse (subst (λ (l : LineAt). All IsFeatureName (words_of l.text)) is (all_left IsFeatureName (words_of a.text) (flat_map (λ l. words_of l.text) front) x)))
same_bad (a ∷ front) line behind (b ∷ above) other below same x y bad worse =
    let later : front ++ line ∷ behind ≡ above ++ other ∷ below = cc in
    same_bad front line behind above other below later (all_right IsFeatureName (words_of a.text) (flat_map (λ l. words_of l.text) front) x)
    (all_right IsFeatureName (words_of b.text) (flat_map (λ l. words_of l.text) above) y) bad worse

prefixes_apart : (text : List ℕ) (count : ℕ) (a : List (List ℕ)) (e : LineError) → ArePrefixes text count a → RefusesPrefixes text count e → ⊥
prefixes_apart text count a PrefixCount x r = r (ap length (sym x.words) ∙ x.count_of)
prefixes_apart text count a (FeatureName at) x r =
    let b = r.1 in
    b.bad (front_names IsFeatureName b.front b.line b.behind
    (subst (λ ls. All IsFeatureName (flat_map (λ l. words_of l.text) ls)) b.spelled (subst (All IsFeatureName) x.words x.names)))
prefixes_apart text count a (BadLine at) x r = r
prefixes_apart text count a (UnknownInput at) x r = r
prefixes_apart text count a OutOfMemory x r = r

prefixes_refused : (text : List ℕ) (count : ℕ) (e f : LineError) → RefusesPrefixes text count e → RefusesPrefixes text count f → e ≡ f
prefixes_refused text count PrefixCount PrefixCount r s = refl
prefixes_refused text count PrefixCount (FeatureName to) r s = absurd (r s.0)
prefixes_refused text count (FeatureName at) PrefixCount r s = absurd (s r.0)
prefixes_refused text count (FeatureName at) (FeatureName to) r s =
    let a = r.1 in
    let b = s.1 in
    ap FeatureName (a.number ∙ (same_bad a.front a.line a.behind b.front b.line b.behind (sym a.spelled ∙ b.spelled) a.names b.names a.bad b.bad ∙ sym b.number))
prefixes_refused text count (BadLine at) f r s = absurd r
prefixes_refused text count (UnknownInput at) f r s = absurd r
prefixes_refused text count OutOfMemory f r s = absurd r
prefixes_refused text count e (BadLine at) r s = absurd s
prefixes_refused text count e (UnknownInput at) r s = absurd s
prefixes_refused text count e OutOfMemory r s = absurd s

pub prefixes_mean_one : (count : ℕ) → HasOneMeaning (λ text prefixes. ArePrefixes text count prefixes) (λ text e. RefusesPrefixes text count e)
prefixes_mean_one count = record {
  one = λ text a b x y. x.words ∙ sym y.words;
  refused = λ text e f. prefixes_refused text count e f;
  apart = λ text a e. prefixes_apart text count a e;
}
