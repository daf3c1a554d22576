-- Words and parts in the forms of features and fields, as they are read.
use Rattle.std.proofs.Common.{◌≡◌, ◌<◌, ◌+◌, ◌++◌, inl, inr, ℕ, List, [], ◌∷◌, Option, length, map, take, get_or, refl, sym, ap, ◌∙◌, subst, Bor, arith}
use Rattle.std.proofs.lemmas.List.{map-append}
use Rattle.meta_parts.specs.Words.{words_of}
use Rattle.meta_parts.specs.Lines.{LineAt}
use Rattle.meta_parts.specs.Forms.{HasBit, HasRange, HasChild}
use Rattle.meta_parts.specs.declared.forms.BitForm.{BitForm}
use Rattle.meta_parts.specs.declared.forms.RangeForm.{RangeForm}
use Rattle.fasm_text.specs.Names.{IsFeatureName}
use Rattle.meta_lines.specs.declared.types.Feature.{Feature}
use Rattle.meta_lines.specs.declared.types.Field.{Field}
use Rattle.meta_lines.specs.Each.{Each}
use Rattle.meta_lines.specs.Features.{IsForm, HasOwnForm, AreNamed, form_of}
use Rattle.meta_lines.specs.Fields.{IsFieldForm, NamesChild, field_said}
use Rattle.meta_lines.specs.Muxes.{IsPart}
use Rattle.meta_lines.proofs.Listing.{each_at, each_more}
use Rattle.meta_lines.proofs.Meaning.{only_same}

pub formed : (word : List ℕ) (f : BitForm) → HasBit word f.name.now f.bit × (f.word.now ≡ word) → IsForm word (form_of f)
formed word f h = record { text = h.1; form = h.0 }

-- a word of no form
pub unformed : (words : List (Bor (List ℕ))) (k : ℕ) (d : Bor (List ℕ)) → k < length words → ((name : List ℕ) (bit : ℕ) → HasBit (get_or words k d).now name bit → ⊥) →
    (fs : List Feature) → Each IsForm (map (λ w. w.now) words) fs → ⊥
unformed words k d within none fs each =
    let here = each_at IsForm (λ (w : Bor (List ℕ)). w.now) words k d fs within each in
    none here.0.name here.0.bit here.1.form

pub unparted : (parts : List (Bor (List ℕ))) (k : ℕ) (d : Bor (List ℕ)) → k < length parts → ((f : Feature) → IsPart (get_or parts k d).now f → ⊥) →
    (fs : List Feature) → Each IsPart (map (λ w. w.now) parts) fs → ⊥
unparted parts k d within none fs each =
    let here = each_at IsPart (λ (w : Bor (List ℕ)). w.now) parts k d fs within each in
    none here.0 here.1

pub parted : (part word : List ℕ) (f : BitForm) → words_of part ≡ word ∷ [] → HasBit word f.name.now f.bit × (f.word.now ≡ word) → IsPart part (form_of f)
parted part word f only h = record { word = word; only = only; form = formed word f h }

pub no_part : (part word : List ℕ) → words_of part ≡ word ∷ [] → ((name : List ℕ) (bit : ℕ) → HasBit word name bit → ⊥) → (f : Feature) → IsPart part f → ⊥
no_part part word only none f is = none f.name f.bit (subst (λ w. HasBit w f.name f.bit) (only_same is.word word (words_of part) is.only only) is.form.form)

pub fielded : (text word : List ℕ) (f : RangeForm) → words_of text ≡ word ∷ [] → HasRange word f.name.now f.bits.lo f.bits.hi → IsFieldForm text (field_said f)
fielded text word f only h = record { word = word; only = only; form = h }

pub no_field : (text word : List ℕ) → words_of text ≡ word ∷ [] → ((name : List ℕ) (lo hi : ℕ) → HasRange word name lo hi → ⊥) → (f : Field) → IsFieldForm text f → ⊥
no_field text word only none f is = none f.name f.lo f.hi (subst (λ w. HasRange w f.name f.lo f.hi) (only_same is.word word (words_of text) is.only only) is.form)

-- one more form
pub form_more : (R : List ℕ → Feature → Type 0) (words : List (Bor (List ℕ))) (k : ℕ) (d : Bor (List ℕ)) (forms longer : List BitForm) (form : BitForm) → k < length words →
    Each R (map (λ w. w.now) (take k words)) (map form_of forms) → R (get_or words k d).now (form_of form) → longer ≡ forms ++ form ∷ [] →
    Each R (map (λ w. w.now) (take (k + 1) words)) (map form_of longer)
form_more R words k d forms longer form within each is grown =
    subst (λ l. Each R (map (λ w. w.now) (take (k + 1) words)) l) (sym (ap (map form_of) grown ∙ map-append form_of forms (form ∷ [])))
    (each_more R (λ (w : Bor (List ℕ)). w.now) words k d (map form_of forms) (form_of form) within each is)
