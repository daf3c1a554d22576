-- The line that a node is written as spells it.
use Rattle.std.proofs.Common.{◌≡◌, ◌<◌, ◌^◌, ◌||◌, ℕ, Bool, true, false, not, List, [], ◌∷◌, Some, get_or, length, map, slice_get, refl, sym, ap, subst, ◌∙◌, arith, inl, inr}
use Rattle.std.specs.List.{AllPass, All}
use Rattle.std.specs.Option.{option_and_then, option_map_or, unwrap_or}
use Rattle.std.specs.Fmt.{decimal}
use Rattle.std.proofs.lemmas.Fmt.{decimal_is_IsNumeral}
use Rattle.std.proofs.lemmas.List.Elements.{All-head, All-tail}
use Rattle.std.proofs.lemmas.Option.{slice_get_within}
use Rattle.vtr_base.specs.Lists.{Has}
use Rattle.vtr_base.specs.Spans.{is_white, is_word_byte}
use Rattle.list_laws.proofs.Members.{has_at}
use Rattle.list_laws.proofs.Places.{element}
use Rattle.arch_types.specs.declared.block.PbType.{PbType}
use Rattle.arch_types.specs.Tree.{modes_of, name_of_mode}
use Rattle.arch_types.specs.Address.{Address, at}
use Rattle.pb_expand.specs.declared.number.Edge.{Edge}
use Rattle.pb_expand.specs.declared.number.EdgeIx.{EdgeIx}
use Rattle.pb_expand.specs.declared.number.PinIx.{PinIx}
use Rattle.pb_expand.specs.Graph.{Graph, edge_ix, mode_at, into_from}
use Rattle.pb_expand.specs.Ends.{ListsEnds}
use Rattle.pb_expand.specs.Expansion.{IsExpansion, IsEdgeOf}
use Rattle.prog_map.specs.Choices.{IsEdgeInto}
use Rattle.prog_text.specs.Names.{pin_name}
use Rattle.prog_text.specs.Plain.{is_name_byte, HasPlainNames}
use Rattle.prog_text.specs.Spelling.{mode_name}
use Rattle.name_laws.specs.Laws.{AreWords}
use Rattle.tree_lines.specs.Words.{AreEach, IsNumber, IsNeed, NamesAtom, IsPin}
use Rattle.tree_lines.specs.Variables.{NamesModeInto}
use Rattle.task_types.specs.declared.task.Task.{Task}
use Rattle.tree_write.specs.Spelling.{edge_mode_name, mode_into_name}
use Rattle.tree_write.specs.There.{ArePins, ArePlaces}
use Rattle.tree_back.proofs.AtomNames.{dark_decimal}

name_is_dark : (x : ℕ) → is_name_byte x ≡ true → is_word_byte x ≡ true
name_is_dark x e = by (is_white x) _ e
  where
    by : (w : Bool) (more : Bool) → not (w || more) ≡ true → not w ≡ true
    by true more e = cc
    by false more e = refl

dark_name : (name : List ℕ) → AllPass is_name_byte name → AllPass is_word_byte name
dark_name name all = λ k d inside. name_is_dark (get_or name k d) (all k d inside)

-- a number is written as its digits
pub number_back : (n : ℕ) → n < 2 ^ 32 → IsNumber (decimal n) n
number_back n small =
    let fits : n < 2 ^ 64 = omega arith in
    let is = decimal_is_IsNumeral n fits in
    record { digits = is.0; value = is.1; small = small }

module _ (g : Graph) (law : IsExpansion g) (lists : ListsEnds g) (plain : HasPlainNames g.root) where
  -- the mode's name for an edge into a pin
  pub record HasModeName (pin mode : ℕ) : Type 0 where
    pub into : NamesModeInto g pin (mode_into_name g pin mode) mode
    pub dark : AllPass is_word_byte (mode_into_name g pin mode)

  named_by : (pin mode : ℕ) (list : List EdgeIx) (x : EdgeIx) (xs : List EdgeIx) (e : Edge) → list ≡ into_from 0 g.edges pin mode → list ≡ x ∷ xs → slice_get g.edges x.0 ≡ Some e →
      e.dst.0 ≡ pin → e.mode ≡ mode → HasModeName pin mode
  named_by pin mode list x xs e are is there ends in_mode =
      let of : IsEdgeOf g e = law.has_edges.each e (has_at g.edges x.0 e there) in
      let found : mode_at g e.owner.0 e.mode ≡ Some of.mode =
      ap (λ o. option_and_then (λ (block : PbType). slice_get (modes_of block.kind) e.mode) (option_and_then (λ (a : Address). at g.root a) o)) of.is_owner ∙
      ap (option_and_then (λ (block : PbType). slice_get (modes_of block.kind) e.mode)) of.is_block ∙ of.is_mode in
      let text : mode_into_name g pin mode ≡ name_of_mode of.mode =
      ap (λ l. option_map_or (edge_mode_name g) (slice_get l 0) []) (sym are ∙ is) ∙
      ap (λ o. option_map_or (λ (f : Edge). mode_name g f.owner.0 f.mode) o []) there ∙ ap (λ o. option_map_or name_of_mode o []) found in
      let named = (plain of.address of.block of.is_block).modes.named e.mode of.mode of.is_mode in
      record {
        into = record {
          number = x.0;
          edge = e;
          is = there;
          ends = ends;
          in_mode = in_mode;
          named = record { is = of.mode; there = ap (λ m. mode_at g e.owner.0 m) (sym in_mode) ∙ found; spelled = text };
        };
        dark = subst (AllPass is_word_byte) (sym text) (dark_name (name_of_mode of.mode) named.whole);
      }

  pub mode_named : (pin mode number : ℕ) → IsEdgeInto g pin mode number → HasModeName pin mode
  mode_named pin mode number into = by (into_from 0 g.edges pin mode) refl
    where
      has : Has (into_from 0 g.edges pin mode) (edge_ix number)
      has = ((lists pin mode).exact number).1 (into.edge, into.there, (into.ends, into.in_mode))

      by : (list : List EdgeIx) → list ≡ into_from 0 g.edges pin mode → HasModeName pin mode
      by [] e = absurd (subst (λ l. Has l (edge_ix number)) (sym e) has)
      by (x ∷ xs) e =
          let there = ((lists pin mode).exact x.0).0 (subst (λ l. Has l (edge_ix x.0)) e (inl refl)) in
          named_by pin mode (x ∷ xs) x xs there.0 e refl there.1 there.2.0 there.2.1

  pub end_inside : (pin mode number : ℕ) → IsEdgeInto g pin mode number → pin < length g.pins
  end_inside pin mode number into =
      let of : IsEdgeOf g into.edge = law.has_edges.each into.edge (has_at g.edges number into.edge into.there) in
      subst (λ p. p < length g.pins) into.ends (slice_get_within g.pins into.edge.dst.0 _ of.is_dst.is_pin)

  -- lists of pins
  pub pins_back : (pins : List PinIx) → ArePins g pins → AreEach (IsPin g) (map (λ (p : PinIx). pin_name g p.0) pins) pins
  pins_back [] all = tt
  pins_back (p ∷ pins) all = (
    record { is = record { there = All-head (λ (pin : PinIx). pin.0 < length g.pins) p pins all; spelled = refl } },
    pins_back pins (All-tail (λ (pin : PinIx). pin.0 < length g.pins) p pins all),
  )

  pub pins_dark : AreWords g → (pins : List PinIx) → ArePins g pins → (w : List ℕ) → Has (map (λ (p : PinIx). pin_name g p.0) pins) w → AllPass is_word_byte w
  pins_dark words [] all w has = absurd has
  pins_dark words (p ∷ pins) all w (inl is) =
      subst (AllPass is_word_byte) (sym is) (words.pins p.0 (All-head (λ (pin : PinIx). pin.0 < length g.pins) p pins all))
  pins_dark words (p ∷ pins) all w (inr has) = pins_dark words pins (All-tail (λ (pin : PinIx). pin.0 < length g.pins) p pins all) w has

-- lists of needs
pub needs_back : (t : Task) (needs : List ℕ) → ArePlaces (length t.needs) needs → All (λ need. need < 2 ^ 32) needs → AreEach (IsNeed t) (map decimal needs) needs
needs_back t [] all small = tt
needs_back t (n ∷ needs) all small = (
  record { number = number_back n (All-head (λ need. need < 2 ^ 32) n needs small); there = All-head (λ place. place < length t.needs) n needs all },
  needs_back t needs (All-tail (λ place. place < length t.needs) n needs all) (All-tail (λ need. need < 2 ^ 32) n needs small),
)

pub needs_dark : (needs : List ℕ) → All (λ need. need < 2 ^ 32) needs → (w : List ℕ) → Has (map decimal needs) w → AllPass is_word_byte w
needs_dark [] small w has = absurd has
needs_dark (n ∷ needs) small w (inl is) =
    let low = All-head (λ need. need < 2 ^ 32) n needs small in
    let fits : n < 2 ^ 64 = omega (arith, low) in
    subst (AllPass is_word_byte) (sym is) (dark_decimal n fits)
needs_dark (n ∷ needs) small w (inr has) = needs_dark needs (All-tail (λ need. need < 2 ^ 32) n needs small) w has

-- lists of atoms
pub atoms_back : (names : List (List ℕ)) (atoms : List ℕ) → ArePlaces (length names) atoms →
    AreEach (NamesAtom names) (map (λ (place : ℕ). unwrap_or (slice_get names place) []) atoms) atoms
atoms_back names [] all = tt
atoms_back names (a ∷ atoms) all =
    let x = element names a (All-head (λ place. place < length names) a atoms all) in
    (record { is = x.1 ∙ ap (λ o. Some (unwrap_or o [])) (sym x.1) }, atoms_back names atoms (All-tail (λ place. place < length names) a atoms all))

pub atoms_dark : (names : List (List ℕ)) → ((k : ℕ) (name : List ℕ) → slice_get names k ≡ Some name → AllPass is_word_byte name) → (atoms : List ℕ) → ArePlaces (length names) atoms →
    (w : List ℕ) → Has (map (λ (place : ℕ). unwrap_or (slice_get names place) []) atoms) w → AllPass is_word_byte w
atoms_dark names dark [] all w has = absurd has
atoms_dark names dark (a ∷ atoms) all w (inl is) =
    let x = element names a (All-head (λ place. place < length names) a atoms all) in
    subst (AllPass is_word_byte) (sym (is ∙ ap (λ o. unwrap_or o []) x.1)) (dark a x.0 x.1)
atoms_dark names dark (a ∷ atoms) all w (inr has) = atoms_dark names dark atoms (All-tail (λ place. place < length names) a atoms all) w has
