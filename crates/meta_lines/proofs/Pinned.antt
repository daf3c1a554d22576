-- What a line of a mux says, or how it fails, as it is read.
use Rattle.std.proofs.Common.{◌≡◌, ◌⊎◌, ◌↔◌, ◌<◌, inl, inr, ℕ, List, [], ◌∷◌, ◌++◌, map, take, get_or, length, refl, sym, ap, ◌∙◌, subst}
use Rattle.std.proofs.lemmas.List.{map-append}
use Rattle.vtr_base.specs.Lists.{Has}
use Rattle.arch_types.specs.declared.block.PbType.{PbType}
use Rattle.arch_types.specs.declared.block.Mode.{Mode}
use Rattle.arch_types.specs.declared.block.Inter.{Inter}
use Rattle.indexmap.specs.IndexSet.{insert_key}
use Rattle.mode_edges.specs.PinWords.{ReadsPins, ReadsPin, HasOneReading}
use Rattle.mode_edges.specs.Pairs.{same_pin}
use Rattle.mode_edges.specs.declared.pin.EdgeEnd.TheVariants.{Source}
use Rattle.mode_edges.specs.declared.pin.LocalPin.{LocalPin}
use Rattle.meta_parts.specs.Lines.{LineAt, said_lines}
use Rattle.meta_parts.specs.Seen.{seen}
use Rattle.meta_parts.specs.declared.by_line.Line.{Line}
use Rattle.meta_lines.specs.declared.error.LineError.{LineError}
use Rattle.meta_lines.specs.declared.error.LineError.TheVariants.{OutOfMemory}
use Rattle.meta_lines.proofs.Stopping.{stop_here}
use Rattle.meta_parts.specs.Divisions.{HasSides}
use Rattle.meta_lines.specs.declared.types.Feature.{Feature}
use Rattle.meta_lines.specs.declared.types.PinFeatures.{PinFeatures}
use Rattle.meta_parts.specs.declared.forms.BitForm.{BitForm}
use Rattle.meta_lines.specs.Features.{AreNamed, HasOwnForm, form_of}
use Rattle.meta_lines.specs.Inputs.{AreInputs, HaveSame}
use Rattle.meta_lines.specs.Muxes.{IsPart, HasParts, HasMuxForm, NamesInput, pins_in, GivesPin, GivesAgain, NamesNoInput, MisnamesFeature, SaysMux, RefusesMux, RefusesMuxText}
use Rattle.meta_lines.specs.Readings.{LinesSay}
use Rattle.meta_lines.proofs.Keys.{same_push}
use Rattle.meta_lines.proofs.Listing.{each_all}
use Rattle.meta_lines.proofs.Meaning.{OneSides, own_part}
use Rattle.meta_lines.proofs.Saying.{say_more}
use Rattle.std.specs.List.{All}
use Rattle.std.proofs.lemmas.List.Elements.{All-nil}

pub own_parts : (right : List ℕ) (fs : List Feature) → HasParts right fs → All HasOwnForm fs
own_parts right fs (inl null) = subst (All HasOwnForm) (sym null.1) (All-nil HasOwnForm)
own_parts right fs (inr parts) = each_all IsPart HasOwnForm own_part _ fs parts.1

pub no_right : OneSides → (text left right : List ℕ) → HasSides text left right → ((fs : List Feature) → HasParts right fs → ⊥) → (l : List ℕ) (fs : List Feature) → HasMuxForm text l fs → ⊥
no_right one text left right sides none l fs form =
    none fs (subst (λ r. HasParts r fs) (one text l form.right left right form.sides sides).1 form.parts)

pub pin_known : (block : PbType) (mode : Mode) (inter : Inter) (text : List ℕ) (pin : LocalPin) → ReadsPin block mode Source text pin →
    ((inputs : List LocalPin) × ReadsPins block mode Source inter.input inputs × Has inputs pin) → NamesInput block mode inter text pin
pin_known block mode inter text pin reads known = record { reads = reads; inputs = known.0; are = known.1; among = known.2 }

one_of : (p q : LocalPin) → p ∷ [] ≡ q ∷ [] → p ≡ q
one_of p q e = cc

pub pin_unknown : HasOneReading → (block : PbType) (mode : Mode) (inter : Inter) (keys : List LocalPin) (text : List ℕ) (pin : LocalPin) → AreInputs block mode inter keys → ReadsPin block mode Source text pin →
    (Has keys pin → ⊥) → (q : LocalPin) → NamesInput block mode inter text q → ⊥
pin_unknown one block mode inter keys text pin are reads none q names =
    none (subst (Has keys) (one_of q pin (one block mode Source text (q ∷ []) (pin ∷ []) names.reads reads)) ((are q).1 (names.inputs, names.are, names.among)))

-- one more line
pub mux_more : (block : PbType) (mode : Mode) (inter : Inter) (lines longer : List LineAt) (line : LineAt) (given more : List PinFeatures) (here : PinFeatures) (keys new : List LocalPin) →
    longer ≡ lines ++ line ∷ [] → more ≡ given ++ here ∷ [] → new ≡ insert_key same_pin keys here.pin →
    LinesSay (SaysMux block mode inter) [] lines given × HaveSame keys (pins_in given) → ((before : List PinFeatures) → HaveSame keys (pins_in before) → GivesPin block mode inter before line here) →
    LinesSay (SaysMux block mode inter) [] longer more × HaveSame new (pins_in more)
mux_more block mode inter lines longer line given more here keys new is grown added said gives = (
  subst (λ l. LinesSay (SaysMux block mode inter) [] l more) (sym is)
      (subst (LinesSay (SaysMux block mode inter) [] (lines ++ line ∷ [])) (sym grown)
      (say_more (SaysMux block mode inter) [] lines given line (here ∷ []) said.0 (here, refl, gives given said.1))),
  same_push keys new (pins_in given) (pins_in more) here.pin added (ap pins_in grown ∙ map-append (λ (g : PinFeatures). g.pin) given (here ∷ [])) said.1,
)

pub inputs_are : HasOneReading → (block : PbType) (mode : Mode) (inter : Inter) (keys pins : List LocalPin) → ReadsPins block mode Source inter.input pins → HaveSame keys pins →
    AreInputs block mode inter keys
inputs_are one block mode inter keys pins reads same =
    λ pin. (
      λ has. (pins, reads, (same pin).0 has),
      λ known. (same pin).1 (subst (λ l. Has l pin) (one block mode Source inter.input known.0 pins known.1 reads) known.2),
    )

pub no_inputs : (block : PbType) (mode : Mode) (inter : Inter) (keys : List LocalPin) → keys ≡ [] → ((pins : List LocalPin) → ReadsPins block mode Source inter.input pins → ⊥) →
    AreInputs block mode inter keys
no_inputs block mode inter keys empty none =
    λ pin. (
      λ has. absurd (subst (λ l. Has l pin) empty has),
      λ known. absurd (none known.0 known.1),
    )

pub pushed_forms : (features items start : List Feature) (now forms : List BitForm) → features ≡ items → items ≡ start ++ map form_of now → start ≡ [] → now ≡ forms → features ≡ map form_of forms
pushed_forms features items start now forms a b c d = a ∙ (b ∙ (ap (λ l. l ++ map form_of now) c ∙ ap (map form_of) d))

pub gives_pin : (block : PbType) (mode : Mode) (inter : Inter) (before : List PinFeatures) (line : LineAt) (left right : List ℕ) (pin : LocalPin) (features fs : List Feature) → features ≡ fs →
    HasSides line.text left right → HasParts right fs → NamesInput block mode inter left pin → (Has (pins_in before) pin → ⊥) → AreNamed fs →
    GivesPin block mode inter before line (record { pin = pin; features = features })
gives_pin block mode inter before line left right pin features fs are sides parts names new named = record {
  left = left;
  form = record { right = right; sides = sides; parts = subst (HasParts right) (sym are) parts };
  names = names;
  new = new;
  named = subst AreNamed (sym are) named;
}

-- the line at which a text is refused
pub mux_stops : (block : PbType) (mode : Mode) (inter : Inter) (text : List ℕ) (lines : List Line) (k : ℕ) (d : Line) (given : List PinFeatures) (keys : List LocalPin) (e : LineError) →
    k < length lines → map seen lines ≡ said_lines text → LinesSay (SaysMux block mode inter) [] (map seen (take k lines)) given × HaveSame keys (pins_in given) →
    (e ≡ OutOfMemory) ⊎ ((before : List PinFeatures) → HaveSame keys (pins_in before) → RefusesMux block mode inter before (seen (get_or lines k d)) e) →
    (e ≡ OutOfMemory) ⊎ RefusesMuxText block mode inter text e
mux_stops block mode inter text lines k d given keys e within are said (inl short) = inl short
mux_stops block mode inter text lines k d given keys e within are said (inr refused) =
    stop_here (SaysMux block mode inter) (RefusesMux block mode inter) text lines k d given e within are said.0 (inr (refused given said.1))
