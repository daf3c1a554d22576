-- Lines of a mux: what they say is one, and is told in one way.
use Rattle.std.proofs.Common.{◌≡◌, ◌⊎◌, ◌↔◌, inl, inr, ℕ, Bool, true, false, List, [], ◌∷◌, ◌++◌, map, refl, sym, ap, ◌∙◌, subst, codes}
use Rattle.std.specs.List.{slice_split}
use Rattle.vtr_base.specs.Lists.{Has}
use Rattle.list_laws.proofs.Members.{has_left, has_right, has_either, has_pushed, has_last}
use Rattle.arch_types.specs.declared.block.PbType.{PbType}
use Rattle.arch_types.specs.declared.block.Mode.{Mode}
use Rattle.arch_types.specs.declared.block.Inter.{Inter}
use Rattle.mode_edges.specs.PinWords.{ReadsPins, ReadsPin, HasOneReading}
use Rattle.mode_edges.specs.declared.pin.EdgeEnd.TheVariants.{Source}
use Rattle.mode_edges.specs.declared.pin.LocalPin.{LocalPin}
use Rattle.meta_parts.specs.Words.{is_comma, words_of}
use Rattle.meta_parts.specs.Lines.{LineAt, said_lines}
use Rattle.meta_parts.specs.Divisions.{HasSides}
use Rattle.meta_lines.specs.declared.types.Feature.{Feature}
use Rattle.meta_lines.specs.declared.types.PinFeatures.{PinFeatures}
use Rattle.meta_lines.specs.declared.error.LineError.{LineError}
use Rattle.meta_lines.specs.declared.error.LineError.TheVariants.{BadLine, PrefixCount, UnknownInput, FeatureName, OutOfMemory}
use Rattle.meta_lines.specs.Each.{Each}
use Rattle.meta_lines.specs.Features.{AreNamed}
use Rattle.meta_lines.specs.Meanings.{HasOneMeaning}
use Rattle.meta_lines.specs.Muxes.{IsPart, IsNull, HasParts, HasMuxForm, NamesInput, pins_in, GivesPin, GivesAgain, NamesNoInput, MisnamesFeature, SaysMux, RefusesMux, ListsMux, RefusesMuxText}
use Rattle.meta_lines.specs.Inputs.{AreInputs, HaveSame}
use Rattle.meta_lines.proofs.Listing.{one_each}
use Rattle.meta_lines.proofs.Meaning.{OneBit, OneSides, one_part}
use Rattle.meta_lines.proofs.Saying.{SaysOne, RefusesOne, AreApart, one_saying, say_or_stop, one_stop}

one_parts : OneBit → (right : List ℕ) (fs gs : List Feature) → HasParts right fs → HasParts right gs → fs ≡ gs
one_parts one right fs gs (inl a) (inl b) = a.1 ∙ sym b.1
one_parts one right fs gs (inl a) (inr b) = absurd (b.0 a.0)
one_parts one right fs gs (inr a) (inl b) = absurd (a.0 b.0)
one_parts one right fs gs (inr a) (inr b) = one_each IsPart (one_part one) (slice_split is_comma right) fs gs a.1 b.1

one_mux_form : OneBit → OneSides → (text l m : List ℕ) (fs gs : List Feature) → HasMuxForm text l fs → HasMuxForm text m gs → (l ≡ m) × (fs ≡ gs)
one_mux_form one sides text l m fs gs a b =
    let two = sides text l a.right m b.right a.sides b.sides in
    (two.0, one_parts one b.right fs gs (subst (λ r. HasParts r fs) two.1 a.parts) b.parts)

first_pin : (p q : LocalPin) → p ∷ [] ≡ q ∷ [] → p ≡ q
first_pin p q e = cc

one_input : HasOneReading → (block : PbType) (mode : Mode) (inter : Inter) (text : List ℕ) (p q : LocalPin) → NamesInput block mode inter text p → NamesInput block mode inter text q → p ≡ q
one_input reading block mode inter text p q a b = first_pin p q (reading block mode Source text (p ∷ []) (q ∷ []) a.reads b.reads)

abbrev given_of : LocalPin → List Feature → PinFeatures
given_of p fs = record { pin = p; features = fs }

same_given : (p q : LocalPin) (fs gs : List Feature) → p ≡ q → fs ≡ gs → given_of p fs ≡ given_of q gs
same_given p q fs gs x y = cc

one_mux : OneBit → OneSides → HasOneReading → (block : PbType) (mode : Mode) (inter : Inter) → SaysOne (SaysMux block mode inter)
one_mux one sides reading block mode inter before line a b x y =
    let g = x.2 in
    let h = y.2 in
    let form = one_mux_form one sides line.text g.left h.left x.0.features y.0.features g.form h.form in
    let pin = one_input reading block mode inter h.left x.0.pin y.0.pin (subst (λ t. NamesInput block mode inter t x.0.pin) form.0 g.names) h.names in
    x.1 ∙ (ap (λ v. v ∷ []) (same_given x.0.pin y.0.pin x.0.features y.0.features pin form.1) ∙ sym y.1)

mux_apart : OneBit → OneSides → HasOneReading → (block : PbType) (mode : Mode) (inter : Inter) → AreApart (SaysMux block mode inter) (RefusesMux block mode inter)
mux_apart one sides reading block mode inter before line a (BadLine at) x r = by r.1
  where
    by : ((left : List ℕ) (fs : List Feature) → HasMuxForm line.text left fs → ⊥) ⊎ GivesAgain block mode inter before line → ⊥
    by (inl none) = none x.2.left x.0.features x.2.form
    by (inr again) =
        let form = one_mux_form one sides line.text again.left x.2.left again.features x.0.features again.form x.2.form in
        let pin = one_input reading block mode inter x.2.left again.pin x.0.pin (subst (λ t. NamesInput block mode inter t again.pin) form.0 again.names) x.2.names in
        x.2.new (subst (Has (pins_in before)) pin again.again)
mux_apart one sides reading block mode inter before line a (UnknownInput at) x r =
    let form = one_mux_form one sides line.text x.2.left r.1.left x.0.features r.1.features x.2.form r.1.form in
    r.1.none x.0.pin (subst (λ t. NamesInput block mode inter t x.0.pin) form.0 x.2.names)
mux_apart one sides reading block mode inter before line a (FeatureName at) x r =
    let form = one_mux_form one sides line.text x.2.left r.1.left x.0.features r.1.features x.2.form r.1.form in
    r.1.misnamed (subst AreNamed form.1 x.2.named)
mux_apart one sides reading block mode inter before line a PrefixCount x r = r
mux_apart one sides reading block mode inter before line a OutOfMemory x r = r

-- a line that is bad isn't told in another way
bad_apart : OneBit → OneSides → HasOneReading → (block : PbType) (mode : Mode) (inter : Inter) (before : List PinFeatures) (line : LineAt) (left : List ℕ) (fs : List Feature) →
    HasMuxForm line.text left fs → ((pin : LocalPin) → NamesInput block mode inter left pin → Has (pins_in before) pin → ⊥) →
    ((l : List ℕ) (gs : List Feature) → HasMuxForm line.text l gs → ⊥) ⊎ GivesAgain block mode inter before line → ⊥
bad_apart one sides reading block mode inter before line left fs form new (inl none) = none left fs form
bad_apart one sides reading block mode inter before line left fs form new (inr again) =
    let same = one_mux_form one sides line.text again.left left again.features fs again.form form in
    new again.pin (subst (λ t. NamesInput block mode inter t again.pin) same.0 again.names) again.again

unknown_new : (block : PbType) (mode : Mode) (inter : Inter) (before : List PinFeatures) (line : LineAt) (n : NamesNoInput block mode inter line) →
    (pin : LocalPin) → NamesInput block mode inter n.left pin → Has (pins_in before) pin → ⊥
unknown_new block mode inter before line n pin names had = n.none pin names

misnamed_new : HasOneReading → (block : PbType) (mode : Mode) (inter : Inter) (before : List PinFeatures) (line : LineAt) (m : MisnamesFeature block mode inter before line) →
    (pin : LocalPin) → NamesInput block mode inter m.left pin → Has (pins_in before) pin → ⊥
misnamed_new reading block mode inter before line m pin names had =
    m.new (subst (Has (pins_in before)) (one_input reading block mode inter m.left pin m.pin names m.names) had)

unknown_misnamed : OneBit → OneSides → (block : PbType) (mode : Mode) (inter : Inter) (before : List PinFeatures) (line : LineAt) →
    NamesNoInput block mode inter line → MisnamesFeature block mode inter before line → ⊥
unknown_misnamed one sides block mode inter before line n m =
    let same = one_mux_form one sides line.text m.left n.left m.features n.features m.form n.form in
    n.none m.pin (subst (λ t. NamesInput block mode inter t m.pin) same.0 m.names)

mux_refused : OneBit → OneSides → HasOneReading → (block : PbType) (mode : Mode) (inter : Inter) → RefusesOne (RefusesMux block mode inter)
mux_refused one sides reading block mode inter before line (BadLine at) (BadLine to) r s = ap BadLine (r.0 ∙ sym s.0)
mux_refused one sides reading block mode inter before line (BadLine at) (UnknownInput to) r s =
    absurd (bad_apart one sides reading block mode inter before line s.1.left s.1.features s.1.form (unknown_new block mode inter before line s.1) r.1)
mux_refused one sides reading block mode inter before line (BadLine at) (FeatureName to) r s =
    absurd (bad_apart one sides reading block mode inter before line s.1.left s.1.features s.1.form (misnamed_new reading block mode inter before line s.1) r.1)
mux_refused one sides reading block mode inter before line (UnknownInput at) (BadLine to) r s =
    absurd (bad_apart one sides reading block mode inter before line r.1.left r.1.features r.1.form (unknown_new block mode inter before line r.1) s.1)
mux_refused one sides reading block mode inter before line (UnknownInput at) (UnknownInput to) r s = ap UnknownInput (r.0 ∙ sym s.0)
mux_refused one sides reading block mode inter before line (UnknownInput at) (FeatureName to) r s = absurd (unknown_misnamed one sides block mode inter before line r.1 s.1)
mux_refused one sides reading block mode inter before line (FeatureName at) (BadLine to) r s =
    absurd (bad_apart one sides reading block mode inter before line r.1.left r.1.features r.1.form (misnamed_new reading block mode inter before line r.1) s.1)
mux_refused one sides reading block mode inter before line (FeatureName at) (UnknownInput to) r s = absurd (unknown_misnamed one sides block mode inter before line s.1 r.1)
mux_refused one sides reading block mode inter before line (FeatureName at) (FeatureName to) r s = ap FeatureName (r.0 ∙ sym s.0)
mux_refused one sides reading block mode inter before line PrefixCount f r s = absurd r
mux_refused one sides reading block mode inter before line OutOfMemory f r s = absurd r
mux_refused one sides reading block mode inter before line e PrefixCount r s = absurd s
mux_refused one sides reading block mode inter before line e OutOfMemory r s = absurd s

pub mux_means_one : OneBit → OneSides → HasOneReading → (block : PbType) (mode : Mode) (inter : Inter) →
    HasOneMeaning (λ text given. ListsMux block mode inter text given) (λ text e. RefusesMuxText block mode inter text e)
mux_means_one one sides reading block mode inter = record {
  one = λ text a b. one_saying (SaysMux block mode inter) (one_mux one sides reading block mode inter) [] (said_lines text) a b;
  refused = λ text e f. one_stop (SaysMux block mode inter) (RefusesMux block mode inter) (one_mux one sides reading block mode inter)
      (mux_refused one sides reading block mode inter) (mux_apart one sides reading block mode inter) (said_lines text) e f;
  apart = λ text a e. say_or_stop (SaysMux block mode inter) (RefusesMux block mode inter) (one_mux one sides reading block mode inter)
      (mux_apart one sides reading block mode inter) (said_lines text) a e;
}
