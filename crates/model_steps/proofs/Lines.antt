-- Each line of a model leaves what it keeps.
use Rattle.std.proofs.Common.{◌≡◌, ◌≤◌, ◌+◌, ℕ, List, [], ◌∷◌, ◌++◌, Some, map, length, length-append, append-nil, refl, sym, ap, subst, arith}
use Rattle.std.specs.Prelude.{slice_get}
use Rattle.std.specs.List.{All, flat_map}
use Rattle.std.proofs.lemmas.List.Elements.{All-nil}
use Rattle.std.proofs.lemmas.Option.{slice_get-map}
use Rattle.arch_types.specs.declared.arch.CellModel.{CellModel}
use Rattle.arch_types.specs.Models.{model_names}
use Rattle.net_types.specs.Words.{IsWord, IsNetName}
use Rattle.net_types.specs.Atoms.{IsParam}
use Rattle.blif_elems.specs.Statements.{Said, says_nothing, says_model, says_inputs, says_outputs, says_names, says_latch, says_box, says_param, says_passed, says_end, says_row}
use Rattle.blif_books.specs.Books.{BookSaid, MentionsAll}
use Rattle.blif_items.specs.Items.{ElemSaid, is_lut, is_latch, is_cell, outs_of}
use Rattle.blif_parts.specs.Models.{ItemSaid, is_input, is_output, is_elem, ModelSaid, elems_of, boxes_of}
use Rattle.blif_parts.specs.Adds.{out_name, AddsInputs, AddsOutputs, AddsNames, AddsLatch, AddsBox, AddsParamTo, AddsRow, Adds}
use Rattle.model_words.specs.Plain.{ArePlainNets, IsPlainBox, IsPlain}
use Rattle.model_steps.specs.Items.{nets_by, outs_by, AreCalled}
use Rattle.model_steps.specs.Fits.{IsPinOf, FitElems}
use Rattle.model_steps.specs.Keeps.{Keeps}
use Rattle.model_steps.proofs.Growing.{AreAt, IsGrown, grown}
use Rattle.model_steps.proofs.Appending.{keeps_weaker, keeps_more, more_of}
use Rattle.model_steps.proofs.Pins.{good_pins, actuals, actuals_few, actual_nets, nets_at, pins_placed}
use Rattle.model_steps.proofs.Changing.{keeps_changed, are_put}

as_many : (nets names : List (List ℕ)) (numbers : List ℕ) → AreAt nets names numbers → length numbers ≡ length names
as_many nets [] [] are = refl
as_many nets [] (n ∷ ns) are = absurd are
as_many nets (name ∷ names) [] are = absurd are
as_many nets (name ∷ names) (n ∷ ns) are = let rest = as_many nets names ns are.1 in omega (arith, rest)

-- inputs and outputs

input_nets : (numbers : List ℕ) → flat_map nets_by (map is_input numbers) ≡ numbers
input_nets [] = refl
input_nets (n ∷ ns) = ap (λ l. n ∷ l) (input_nets ns)

input_outs : (numbers : List ℕ) → flat_map outs_by (map is_input numbers) ≡ numbers
input_outs [] = refl
input_outs (n ∷ ns) = ap (λ l. n ∷ l) (input_outs ns)

output_nets : (numbers : List ℕ) → flat_map nets_by (map is_output numbers) ≡ numbers
output_nets [] = refl
output_nets (n ∷ ns) = ap (λ l. n ∷ l) (output_nets ns)

output_outs : (numbers : List ℕ) → flat_map outs_by (map is_output numbers) ≡ []
output_outs [] = refl
output_outs (n ∷ ns) = output_outs ns

inputs_called : (nets names : List (List ℕ)) (numbers : List ℕ) → AreAt nets names numbers → AreCalled nets (map is_input numbers) names
inputs_called nets [] [] are = refl
inputs_called nets [] (n ∷ ns) are = absurd are
inputs_called nets (name ∷ names) [] are = absurd are
inputs_called nets (name ∷ names) (n ∷ ns) are = (are.0, inputs_called nets names ns are.1)

outputs_called : (nets names : List (List ℕ)) (numbers : List ℕ) → AreAt nets names numbers → AreCalled nets (map is_output numbers) (map out_name names)
outputs_called nets [] [] are = refl
outputs_called nets [] (n ∷ ns) are = absurd are
outputs_called nets (name ∷ names) [] are = absurd are
outputs_called nets (name ∷ names) (n ∷ ns) are = ((name, are.0, refl), outputs_called nets names ns are.1)

no_input_elems : (numbers : List ℕ) → elems_of (map is_input numbers) ≡ []
no_input_elems [] = refl
no_input_elems (n ∷ ns) = no_input_elems ns

no_output_elems : (numbers : List ℕ) → elems_of (map is_output numbers) ≡ []
no_output_elems [] = refl
no_output_elems (n ∷ ns) = no_output_elems ns

-- the last of those that are at numbers
last_at : (nets names : List (List ℕ)) (name : List ℕ) (numbers : List ℕ) (number : ℕ) → AreAt nets (names ++ name ∷ []) (numbers ++ number ∷ []) → slice_get nets number ≡ Some name
last_at nets [] name [] number are = are.0
last_at nets [] name (n ∷ []) number are = absurd are.1
last_at nets [] name (n ∷ k ∷ ns) number are = absurd are.1
last_at nets (a ∷ []) name [] number are = absurd are.1
last_at nets (a ∷ b ∷ names) name [] number are = absurd are.1
last_at nets (a ∷ names) name (n ∷ ns) number are = last_at nets names name ns number are.1

module _ (models : List CellModel) (words limit : ℕ) (m : ModelSaid) (k : Keeps models words m) where
  grows : (names : List (List ℕ)) (mentioned : BookSaid) (numbers : List ℕ) → All IsNetName names → MentionsAll m.book names mentioned numbers → IsGrown m.book.nets names mentioned.nets numbers
  grows names mentioned numbers nets mentions = grown m.book.nets names mentioned.nets numbers k.nets k.nets_once nets mentions.numbered

  by_inputs : (nets : List (List ℕ)) (new : ModelSaid) → ArePlainNets limit nets → AddsInputs m nets new → Keeps models (words + limit) new
  by_inputs nets new plain adds =
      let g = grows nets adds.mentioned adds.numbers plain.each adds.mentions in
      let many = as_many adds.mentioned.nets nets adds.numbers g.are in
      keeps_more models words limit m (map is_input adds.numbers) new k
      (more_of models words limit m nets adds.mentioned adds.numbers adds.numbers nets adds.book (map is_input adds.numbers) new k plain.few (omega (arith, many, plain.few)) g
      adds.mentions adds.makes adds.appends (input_nets adds.numbers) (input_outs adds.numbers) (inputs_called adds.mentioned.nets nets adds.numbers g.are)
      (subst (FitElems models adds.mentioned.nets (boxes_of m.items)) (sym (no_input_elems adds.numbers)) tt))

  by_outputs : (nets : List (List ℕ)) (new : ModelSaid) → ArePlainNets limit nets → AddsOutputs m nets new → Keeps models (words + limit) new
  by_outputs nets new plain adds =
      let g = grows nets adds.mentioned adds.numbers plain.each adds.mentions in
      let many = as_many adds.mentioned.nets nets adds.numbers g.are in
      keeps_more models words limit m (map is_output adds.numbers) new k
      (more_of models words limit m nets adds.mentioned adds.numbers [] (map out_name nets) adds.book (map is_output adds.numbers) new k plain.few (omega (arith, many, plain.few)) g
      adds.mentions adds.makes adds.appends (output_nets adds.numbers) (output_outs adds.numbers) (outputs_called adds.mentioned.nets nets adds.numbers g.are)
      (subst (FitElems models adds.mentioned.nets (boxes_of m.items)) (sym (no_output_elems adds.numbers)) tt))

  by_names : (inputs : List (List ℕ)) (output : List ℕ) (new : ModelSaid) → ArePlainNets limit (inputs ++ output ∷ []) → length inputs ≤ 8 → AddsNames m inputs output new →
      Keeps models (words + limit) new
  by_names inputs output new plain few adds =
      let nets = inputs ++ output ∷ [] in
      let numbers = adds.ins ++ adds.out ∷ [] in
      let item = is_elem (is_lut output adds.ins adds.out []) in
      let g = grows nets adds.mentioned numbers plain.each adds.mentions in
      let many = as_many adds.mentioned.nets nets numbers g.are in
      let ins : length adds.ins ≤ 8 = omega (arith, many, few, length-append inputs (output ∷ []), length-append adds.ins (adds.out ∷ [])) in
      keeps_more models words limit m (item ∷ []) new k
      (more_of models words limit m nets adds.mentioned numbers (adds.out ∷ []) (output ∷ []) adds.book (item ∷ []) new k plain.few (omega (arith, many, plain.few)) g
      adds.mentions adds.makes adds.appends (append-nil numbers) refl (refl, refl)
      ((ins, last_at adds.mentioned.nets inputs output adds.ins adds.out g.are), tt))

  by_latch : (loaded made control : List ℕ) (new : ModelSaid) → ArePlainNets limit (loaded ∷ made ∷ control ∷ []) → AddsLatch m loaded made control new → Keeps models (words + limit) new
  by_latch loaded made control new plain adds =
      let nets = loaded ∷ made ∷ control ∷ [] in
      let numbers = adds.data_net ∷ adds.out ∷ adds.control_net ∷ [] in
      let item = is_elem (is_latch made adds.data_net adds.out adds.control_net) in
      let g = grows nets adds.mentioned numbers plain.each adds.mentions in
      let many = as_many adds.mentioned.nets nets numbers g.are in
      keeps_more models words limit m (item ∷ []) new k
      (more_of models words limit m nets adds.mentioned numbers (adds.out ∷ []) (made ∷ []) adds.book (item ∷ []) new k plain.few (omega (arith, many, plain.few)) g
      adds.mentions adds.makes adds.appends refl refl (refl, refl) (g.are.1.0, tt))

  by_box : (name : List ℕ) (pin_words : List (List ℕ)) (new : ModelSaid) → IsPlainBox limit name pin_words → AddsBox models m name pin_words new → Keeps models (words + limit) new
  by_box name pin_words new plain adds =
      let good = good_pins adds.model pin_words adds.pins plain.each adds.are_pins in
      let placed = pins_placed adds.model adds.pins m.book adds.mentioned adds.placed good.each good.once adds.places in
      let nets = actuals adds.pins in
      let numbers = nets_at adds.placed in
      let item = is_elem (is_cell adds.atom adds.number adds.placed []) in
      let g = grows nets adds.mentioned numbers (actual_nets adds.model adds.pins good.each) placed.mentions in
      let many = as_many adds.mentioned.nets nets numbers g.are in
      let few : length nets ≤ limit = omega (arith, actuals_few adds.pins, good.few, plain.few) in
      let called : adds.model.name ≡ name = model_called adds.number adds.model name adds.is adds.found.there in
      keeps_more models words limit m (item ∷ []) new k
      (more_of models words limit m nets adds.mentioned numbers (outs_of adds.placed) (adds.atom ∷ []) adds.book (item ∷ []) new k few (omega (arith, many, few)) g
      placed.mentions adds.makes adds.appends (append-nil numbers) (append-nil (outs_of adds.placed)) (refl, refl) (
        record {
          model = adds.model;
          there = adds.is;
          word = subst IsWord (sym called) plain.word;
          each_pin = subst (λ l. All (IsPinOf adds.model l) adds.placed) (append-nil adds.mentioned.nets) (placed.fits []);
          once = placed.once;
          named = adds.named;
          each_param = All-nil IsParam;
          names = tt;
        },
        tt,
      ))
    where
      model_called : (number : ℕ) (model : CellModel) (name : List ℕ) → slice_get models number ≡ Some model → slice_get (model_names models) number ≡ Some name → model.name ≡ name
      model_called number model name is at =
          let mapped = slice_get-map (λ (c : CellModel). c.name) models number in
          cc (is, at, mapped)

  by_param_to : (front : List ItemSaid) (last : ElemSaid) (pads : List ItemSaid) (name value : List ℕ) (new : ModelSaid) → m.items ≡ front ++ is_elem last ∷ pads → IsWord name → IsWord value →
      AddsParamTo m front pads name value new last → Keeps models (words + limit) new
  by_param_to front (is_lut atom inputs output rows) pads name value new are word also adds = subst (Keeps models (words + limit)) (sym adds) (keeps_weaker models words limit m k)
  by_param_to front (is_latch atom loaded made control) pads name value new are word also adds = subst (Keeps models (words + limit)) (sym adds) (keeps_weaker models words limit m k)
  by_param_to front (is_cell atom number pins params) pads name value new are word also adds =
      keeps_changed models words limit m front pads (is_cell atom number pins params) (is_cell atom number pins adds.0) new k are adds.2
      (record {
        nets_same = refl;
        outs_same = refl;
        name_same = refl;
        kind_same = refl;
        fits = λ boxes is. (let put = are_put params name value adds.0 is.each_param is.names word also adds.1 in record {
          model = is.model;
          there = is.there;
          word = is.word;
          each_pin = is.each_pin;
          once = is.once;
          named = is.named;
          each_param = put.each;
          names = put.once;
        });
      })

  by_row : (row_words : List (List ℕ)) (new : ModelSaid) → AddsRow m row_words new → Keeps models (words + limit) new
  by_row row_words new adds =
      let last = is_lut adds.atom adds.inputs adds.output adds.rows in
      let next = is_lut adds.atom adds.inputs adds.output (adds.rows ++ adds.row ∷ []) in
      keeps_changed models words limit m adds.front adds.pads last next new k adds.has_last.are adds.changes
      (record { nets_same = refl; outs_same = refl; name_same = refl; kind_same = refl; fits = λ boxes is. is })

  same_model : (new : ModelSaid) → new ≡ m → Keeps models (words + limit) new
  same_model new is = subst (Keeps models (words + limit)) (sym is) (keeps_weaker models words limit m k)

  pub keeps_line : (s : Said) (new : ModelSaid) → IsPlain limit s → Adds models m s new → Keeps models (words + limit) new
  keeps_line says_nothing new plain adds = same_model new adds
  keeps_line (says_model name) new plain adds = same_model new adds
  keeps_line (says_inputs nets) new plain adds = by_inputs nets new plain adds
  keeps_line (says_outputs nets) new plain adds = by_outputs nets new plain adds
  keeps_line (says_names inputs output) new plain adds = by_names inputs output new plain.0 plain.1 adds
  keeps_line (says_latch loaded made control) new plain adds = by_latch loaded made control new plain adds
  keeps_line (says_box name words') new plain adds = by_box name words' new plain adds
  keeps_line (says_param name value) new plain adds = by_param_to adds.front adds.last adds.pads name value new adds.has_last.are plain.0 plain.1 adds.adds
  keeps_line says_passed new plain adds = same_model new adds
  keeps_line says_end new plain adds = same_model new adds
  keeps_line (says_row words') new plain adds = by_row words' new adds
