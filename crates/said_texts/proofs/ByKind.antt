-- The lines of an atom, by its kind.
use Rattle.std.proofs.Common.{◌≡◌, ◌<◌, ◌≤◌, ◌^◌, ℕ, List, [], ◌∷◌, ◌++◌, Some, length, append_assoc, append-nil, refl, sym, ap, ◌∙◌, subst, arith}
use Rattle.std.specs.Prelude.{codes, flat_map, slice_get}
use Rattle.std.specs.List.{All}
use Rattle.std.proofs.lemmas.List.{length-map}
use Rattle.std.proofs.lemmas.List.Concat.{flat_map-append}
use Rattle.std.proofs.lemmas.List.Elements.{All-nil, All-cons, All-head, All-tail, All-append, All-weaker}
use Rattle.std.proofs.lemmas.List.Sums.{AllPass-from_list_all}
use Rattle.list_laws.proofs.Members.{each_has, has_at, has_left, has_right}
use Rattle.vtr_base.specs.Lists.{Has}
use Rattle.arch_types.specs.declared.arch.CellModel.{CellModel}
use Rattle.arch_types.specs.declared.block.AtomKind.{AtomKind}
use Rattle.arch_types.specs.declared.block.AtomKind.TheVariants.{InPad, OutPad, Lut, Latch, Cell}
use Rattle.arch_types.specs.Models.{IsPortName, IsModel, AreModels}
use Rattle.net_types.specs.declared.atom.Atom.{Atom}
use Rattle.net_types.specs.declared.atom.Conn.{Conn}
use Rattle.net_types.specs.Atoms.{IsInPad, IsOutPad, IsLut, IsLatch, IsBox, FitsKind}
use Rattle.net_types.specs.Fits.{IsInput, IsOutput, IsOfModel}
use Rattle.net_types.specs.Words.{IsWord, IsNetName}
use Rattle.blif_elems.specs.Nets.{IsNet}
use Rattle.blif_elems.specs.Statements.{Said, says_inputs, says_outputs, says_names, says_latch, says_box}
use Rattle.blif_elems.specs.Written.{HaveKeywords}
use Rattle.blif_text.specs.Atoms.{input_text, output_text, lut_text, latch_nets_text, latch_text, box_text, IsBoxText, IsKindText}
use Rattle.blif_text.specs.Boxes.{pins_text, params_text}
use Rattle.blif_text.specs.Rows.{rows_text}
use Rattle.blif_text.specs.Words.{name_at, nets_text}
use Rattle.word_texts.specs.Spaced.{spaced}
use Rattle.said_texts.specs.Statements.{named, pin_words, row_lines, param_lines, IsKindSaid}
use Rattle.said_texts.proofs.Inks.{is_ink, ink_ascii, ink_word}
use Rattle.said_texts.proofs.Lines.{IsSaidText, Divides, no_text, line_then}
use Rattle.said_texts.proofs.Rows.{rows_said}
use Rattle.said_texts.proofs.Boxes.{all_of, all_merge, nets_spaced, nets_named, IsGoodPin, pins_spaced, pins_words, params_said}

-- the keywords are words

inputs_word : IsWord (codes ".inputs")
inputs_word = ink_word (codes ".inputs") (λ e. cc e) (ink_ascii (codes ".inputs") (AllPass-from_list_all is_ink (codes ".inputs") refl))

outputs_word : IsWord (codes ".outputs")
outputs_word = ink_word (codes ".outputs") (λ e. cc e) (ink_ascii (codes ".outputs") (AllPass-from_list_all is_ink (codes ".outputs") refl))

names_word : IsWord (codes ".names")
names_word = ink_word (codes ".names") (λ e. cc e) (ink_ascii (codes ".names") (AllPass-from_list_all is_ink (codes ".names") refl))

latch_word : IsWord (codes ".latch")
latch_word = ink_word (codes ".latch") (λ e. cc e) (ink_ascii (codes ".latch") (AllPass-from_list_all is_ink (codes ".latch") refl))

rising_word : IsWord (codes "re")
rising_word = ink_word (codes "re") (λ e. cc e) (ink_ascii (codes "re") (AllPass-from_list_all is_ink (codes "re") refl))

subckt_word : IsWord (codes ".subckt")
subckt_word = ink_word (codes ".subckt") (λ e. cc e) (ink_ascii (codes ".subckt") (AllPass-from_list_all is_ink (codes ".subckt") refl))

-- names of nets are words, and name nets

are_words : (names : List (List ℕ)) → All IsNetName names → All IsWord names
are_words names are = All-weaker IsNetName IsWord (λ name is. is.word) names are

are_nets : (names : List (List ℕ)) → All IsNetName names → All IsNet names
are_nets names are = All-weaker IsNetName IsNet (λ name is. is.free) names are

one_name : (name : List ℕ) → IsNetName name → All IsNetName (name ∷ [])
one_name name is = All-cons IsNetName name [] is (All-nil IsNetName)

-- what is asked of the atom
pub record IsGoodAtom (nets : List (List ℕ)) (atom : Atom) : Type 0 where
  pub ins : All (λ (c : Conn). c.net < length nets) atom.ins
  pub outs : All (λ (c : Conn). c.net < length nets) atom.outs

-- its lines say this
pub record HasSaid (models : List CellModel) (nets : List (List ℕ)) (k : AtomKind) (atom : Atom) (text : List ℕ) : Type 0 where
  pub said : List Said
  pub is : IsKindSaid models nets k atom said
  pub are : IsSaidText text said

module _ (divides : Divides) (keys : HaveKeywords) (models : List CellModel) (nets : List (List ℕ)) (are : All IsNetName nets) where
  abbrev Within : List Conn → Type 0
  Within conns = All (λ (c : Conn). c.net < length nets) conns

  only_net : (conns : List Conn) (conn : Conn) → conns ≡ conn ∷ [] → Within conns → IsNetName (name_at nets conn.net)
  only_net conns conn only within =
      let low = All-head (λ (c : Conn). c.net < length nets) conn [] (subst Within only within) in
      are conn.net [] low

  input_said : (atom : Atom) → IsInPad atom → IsGoodAtom nets atom → HasSaid models nets InPad atom (input_text nets atom)
  input_said atom is good =
      let name = name_at nets is.outs.conn.net in
      let named' = one_name name (only_net atom.outs is.outs.conn is.outs.only good.outs) in
      let text = line_then divides (codes ".inputs") (name ∷ []) (says_inputs (name ∷ [])) [] [] inputs_word (are_words (name ∷ []) named') (keys.inputs (name ∷ []) (are_nets (name ∷ []) named')) no_text in
      record {
        said = says_inputs (name ∷ []) ∷ [];
        is = record { out = is.outs; is = refl };
        are = subst (λ l. IsSaidText (codes ".inputs" ++ (nets_text nets l ++ 32 ∷ 10 ∷ [])) (says_inputs (name ∷ []) ∷ [])) (sym is.outs.only) text;
      }

  output_said : (atom : Atom) → IsOutPad atom → IsGoodAtom nets atom → HasSaid models nets OutPad atom (output_text nets atom)
  output_said atom is good =
      let name = name_at nets is.ins.conn.net in
      let named' = one_name name (only_net atom.ins is.ins.conn is.ins.only good.ins) in
      let text = line_then divides (codes ".outputs") (name ∷ []) (says_outputs (name ∷ [])) [] [] outputs_word (are_words (name ∷ []) named') (keys.outputs (name ∷ []) (are_nets (name ∷ []) named')) no_text in
      record {
        said = says_outputs (name ∷ []) ∷ [];
        is = record { taken = is.ins; is = refl };
        are = subst (λ l. IsSaidText (codes ".outputs" ++ (nets_text nets l ++ 32 ∷ 10 ∷ [])) (says_outputs (name ∷ []) ∷ [])) (sym is.ins.only) text;
      }

  lut_said : (atom : Atom) → IsLut atom → IsGoodAtom nets atom → HasSaid models nets Lut atom (lut_text nets atom)
  lut_said atom is good =
      let ins = named nets atom.ins in
      let name = name_at nets is.outs.conn.net in
      let rows = rows_text (length atom.ins) 0 atom.table in
      let s = says_names ins name in
      let all = All-append IsNetName ins (name ∷ []) (nets_named nets atom.ins are good.ins) (one_name name (only_net atom.outs is.outs.conn is.outs.only good.outs)) in
      let few : length ins ≤ 8 = omega (arith, is.few, length-map atom.ins (λ (c : Conn). name_at nets c.net)) in
      let text = line_then divides (codes ".names") (ins ++ name ∷ []) s rows (row_lines (length atom.ins) 0 atom.table) names_word (are_words (ins ++ name ∷ []) all)
      (keys.names ins name (are_nets (ins ++ name ∷ []) all) few) (rows_said divides (length atom.ins) 0 atom.table) in
      let tail = 32 ∷ 10 ∷ rows in
      let cut : flat_map spaced (ins ++ name ∷ []) ++ tail ≡ nets_text nets atom.ins ++ (nets_text nets atom.outs ++ tail) =
      ap (λ l. l ++ tail) (flat_map-append spaced ins (name ∷ [])) ∙ (append_assoc (flat_map spaced ins) (flat_map spaced (name ∷ [])) tail ∙
      (ap (λ l. l ++ (flat_map spaced (name ∷ []) ++ tail)) (sym (nets_spaced nets atom.ins)) ∙ ap (λ l. nets_text nets atom.ins ++ (nets_text nets l ++ tail)) (sym is.outs.only))) in
      record {
        said = s ∷ row_lines (length atom.ins) 0 atom.table;
        is = record { out = is.outs; is = refl };
        are = subst (λ t. IsSaidText (codes ".names" ++ t) (s ∷ row_lines (length atom.ins) 0 atom.table)) cut text;
      }

  latch_said : (atom : Atom) → IsLatch atom → IsGoodAtom nets atom → HasSaid models nets Latch atom (latch_text nets atom)
  latch_said atom is good =
      let two = subst Within is.ins.only good.ins in
      let at = λ (c : Conn). c.net < length nets in
      let data_low = All-head at is.ins.data_pin (is.ins.control ∷ []) two in
      let control_low = All-head at is.ins.control [] (All-tail at is.ins.data_pin (is.ins.control ∷ []) two) in
      let loaded = name_at nets is.ins.data_pin.net in
      let made = name_at nets is.outs.conn.net in
      let control = name_at nets is.ins.control.net in
      let a = are is.ins.data_pin.net [] data_low in
      let b = only_net atom.outs is.outs.conn is.outs.only good.outs in
      let c = are is.ins.control.net [] control_low in
      let words : All IsWord (loaded ∷ made ∷ codes "re" ∷ control ∷ []) =
      All-cons IsWord loaded (made ∷ codes "re" ∷ control ∷ []) a.word (All-cons IsWord made (codes "re" ∷ control ∷ []) b.word (All-cons IsWord (codes "re") (control ∷ []) rising_word (are_words (control ∷ []) (one_name control c)))) in
      let s = says_latch loaded made control in
      let text = line_then divides (codes ".latch") (loaded ∷ made ∷ codes "re" ∷ control ∷ []) s [] [] latch_word words (keys.latch loaded made control a.free b.free c.free) no_text in
      let last = spaced (codes "re") ++ (spaced control ++ []) in
      let cut : flat_map spaced (loaded ∷ made ∷ codes "re" ∷ control ∷ []) ≡ latch_nets_text nets (is.ins.data_pin ∷ is.ins.control ∷ []) (is.outs.conn ∷ []) =
      ap (λ l. l ++ (spaced made ++ last)) (sym (append-nil (spaced loaded))) ∙ ap (λ l. (spaced loaded ++ []) ++ (l ++ last)) (sym (append-nil (spaced made))) in
      let whole : flat_map spaced (loaded ∷ made ∷ codes "re" ∷ control ∷ []) ≡ latch_nets_text nets atom.ins atom.outs =
      cut ∙ (ap (λ l. latch_nets_text nets l (is.outs.conn ∷ [])) (sym is.ins.only) ∙ ap (λ l. latch_nets_text nets atom.ins l) (sym is.outs.only)) in
      record {
        said = s ∷ [];
        is = record { ins = is.ins; out = is.outs; is = refl };
        are = subst (λ t. IsSaidText (codes ".latch" ++ (t ++ 32 ∷ 10 ∷ [])) (s ∷ [])) whole text;
      }

  module _ (of_models : AreModels models) where
    low : (atom : Atom) → IsBox atom → (c : Conn) → Has (atom.ins ++ atom.outs) c → c.bit < 2 ^ 32
    low atom is c has = each_has (λ (d : Conn). d.bit < 2 ^ 32) (atom.ins ++ atom.outs) is.bits c has

    box_said : (number : ℕ) (atom : Atom) (text : List ℕ) → IsBox atom → IsOfModel models nets number atom → IsGoodAtom nets atom → IsBoxText models nets number atom text →
        HasSaid models nets (Cell number) atom text
    box_said number atom text is of good t =
        let model = t.model in
        let same : of.model ≡ model = (let e : Some of.model ≡ Some model = sym of.there ∙ t.there in cc e) in
        let m : IsModel model = each_has IsModel models of_models.each model (has_at models number model t.there) in
        let word : IsWord model.name = subst (λ (x : CellModel). IsWord x.name) same of.word in
        let input : All (IsInput nets model) atom.ins = subst (λ (x : CellModel). All (IsInput nets x) atom.ins) same of.ins in
        let output : All (IsOutput nets model) atom.outs = subst (λ (x : CellModel). All (IsOutput nets x) atom.outs) same of.outs in
        let ins : All (IsGoodPin nets) atom.ins = all_of (IsGoodPin nets) atom.ins (λ c has. record {
          port = each_has IsPortName model.ins m.ins.each c.port (each_has (IsInput nets model) atom.ins input c has).port;
          bit = low atom is c (has_left atom.ins atom.outs c has);
          net = each_has (λ (d : Conn). d.net < length nets) atom.ins good.ins c has;
        }) in
        let outs : All (IsGoodPin nets) atom.outs = all_of (IsGoodPin nets) atom.outs (λ c has. record {
          port = each_has IsPortName model.outs m.outs.each c.port (each_has (IsOutput nets model) atom.outs output c has).port;
          bit = low atom is c (has_right atom.ins atom.outs c has);
          net = each_has (λ (d : Conn). d.net < length nets) atom.outs good.outs c has;
        }) in
        let pins = all_merge (IsGoodPin nets) atom.ins atom.outs t.pins t.ordered.merged ins outs in
        let words = pin_words nets t.pins in
        let all = All-cons IsWord model.name words word (pins_words nets t.pins are pins) in
        let s = says_box model.name words in
        let tail = 32 ∷ 10 ∷ params_text atom.params in
        let lines = line_then divides (codes ".subckt") (model.name ∷ words) s (params_text atom.params) (param_lines atom.params) subckt_word all (keys.subckt model.name words)
        (params_said divides keys atom.params is.params) in
        let cut : flat_map spaced (model.name ∷ words) ++ tail ≡ spaced model.name ++ (pins_text nets t.pins ++ tail) =
        append_assoc (spaced model.name) (flat_map spaced words) tail ∙ ap (λ l. spaced model.name ++ (l ++ tail)) (sym (pins_spaced nets t.pins)) in
        record {
          said = s ∷ param_lines atom.params;
          is = record { model = model; there = t.there; pins = t.pins; ordered = t.ordered; is = refl };
          are = subst (λ l. IsSaidText l (s ∷ param_lines atom.params)) (ap (λ l. codes ".subckt" ++ l) cut ∙ sym t.is) lines;
        }

  pub kind_said : AreModels models → (k : AtomKind) (atom : Atom) (text : List ℕ) → FitsKind k atom → ((number : ℕ) → k ≡ Cell number → IsOfModel models nets number atom) → IsGoodAtom nets atom →
      IsKindText models nets k atom text → HasSaid models nets k atom text
  kind_said of InPad atom text fits model good is = subst (λ t. HasSaid models nets InPad atom t) (sym is) (input_said atom fits good)
  kind_said of OutPad atom text fits model good is = subst (λ t. HasSaid models nets OutPad atom t) (sym is) (output_said atom fits good)
  kind_said of Lut atom text fits model good is = subst (λ t. HasSaid models nets Lut atom t) (sym is) (lut_said atom fits good)
  kind_said of Latch atom text fits model good is = subst (λ t. HasSaid models nets Latch atom t) (sym is) (latch_said atom fits good)
  kind_said of (Cell number) atom text fits model good is = box_said of number atom text fits (model number refl) good is
