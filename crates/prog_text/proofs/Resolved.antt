-- The site and the choice that a line's words name, or what they lack.
use Rattle.std.proofs.Common.{◌≡◌, ◌<◌, ◌≤◌, ℕ, min, ◌^◌, List, [], ◌∷◌, Option, Some, None, length, refl, sym, ap, subst, ◌∙◌, arith}
use Rattle.std.specs.Prelude.{codes, slice_get}
use Rattle.std.specs.List.{AllPass}
use Rattle.std.specs.Str.Parse.{IsNumeral, digits_value}
use Rattle.std.proofs.lemmas.Option.{slice_get_within}
use Rattle.pb_expand.specs.declared.number.PinIx.{PinIx}
use Rattle.pb_expand.specs.declared.number.EdgeIx.{EdgeIx}
use Rattle.pb_expand.specs.declared.number.PbIx.{PbIx}
use Rattle.pb_expand.specs.declared.number.Edge.{Edge}
use Rattle.pb_expand.specs.Graph.{Graph}
use Rattle.prog_map.specs.declared.choice.LutChoice.TheVariants.{Wire, Table}
use Rattle.prog_map.specs.declared.setting.Setting.TheVariants.{Mode, Pick, Used, Lut}
use Rattle.prog_map.specs.Leaves.{IsLeaf, IsLut, HasModes, AreInputs}
use Rattle.prog_map.specs.Choices.{IsLutChoice}
use Rattle.prog_text.specs.Names.{NamesInstance, NamesPin, NamesMode}
use Rattle.prog_text.specs.NamedEdges.{IsNamedEdge, IsEdgeWanted}
use Rattle.prog_text.specs.Sayings.{IsWord, AreWords, Saying, says_mode, says_pin, says_used, says_wire, says_table, is_bit, SaysBehind, SaysWire, SaysTable}
use Rattle.prog_text.specs.Settings.{table_of, IsNamed, LacksSite, LacksChoice, LacksInstance, LacksSource}
use Rattle.prog_map.proofs.Climbs.{some_injective}
use Rattle.prog_map.proofs.Through.{one_inputs}
use Rattle.prog_text.proofs.Tabled.{length-table_of}

-- what is said, and lacks its site or its choice
abbrev SaidWith : (Saying → Type 0) → (Saying → Type 0) → Type 0
SaidWith Said P = (s : Saying) × Said s × P s

module _ (g : Graph) (rest instance mode : List ℕ) (are : AreWords rest (instance ∷ mode ∷ [])) where
  said : SaysBehind (codes "mode") rest (says_mode instance mode)
  said = record { words = instance ∷ mode ∷ []; divided = are; say = refl }

  pub mode_named : (pb : PbIx) (number : ℕ) → NamesInstance g instance pb.0 × HasModes g pb.0 → NamesMode g pb.0 mode number →
      IsNamed g (SaysBehind (codes "mode") rest) (Mode pb number)
  mode_named pb number at is = record { saying = says_mode instance mode; said = said; names = (at.0, at.1, is) }

  pub mode_lacks_site : LacksInstance g instance (HasModes g) → SaidWith (SaysBehind (codes "mode") rest) (LacksSite g)
  mode_lacks_site lacks = (says_mode instance mode, said, lacks)

  pub mode_lacks_choice : (pb : ℕ) → NamesInstance g instance pb × HasModes g pb → ((number : ℕ) → NamesMode g pb mode number → ⊥) →
      SaidWith (SaysBehind (codes "mode") rest) (LacksChoice g)
  mode_lacks_choice pb at none = (says_mode instance mode, said, (pb, at.0, at.1, none))

module _ (g : Graph) (rest : List ℕ) (word : IsWord rest) where
  used_said : SaysBehind (codes "used") rest (says_used rest)
  used_said = record { words = rest ∷ []; divided = (refl, word); say = refl }

  pub used_named : (pb : PbIx) → NamesInstance g rest pb.0 × IsLeaf g pb.0 → IsNamed g (SaysBehind (codes "used") rest) (Used pb)
  used_named pb at = record { saying = says_used rest; said = used_said; names = (at.0, at.1) }

  pub used_lacks_site : LacksInstance g rest (IsLeaf g) → SaidWith (SaysBehind (codes "used") rest) (LacksSite g)
  used_lacks_site lacks = (says_used rest, used_said, lacks)

module _ (g : Graph) (rest pin mode source : List ℕ) (are : AreWords rest (pin ∷ mode ∷ source ∷ [])) where
  pin_said : SaysBehind (codes "pin") rest (says_pin pin mode source)
  pin_said = record { words = pin ∷ mode ∷ source ∷ []; divided = are; say = refl }

  pub pin_lacks_site : LacksSite g (says_pin pin mode source) → SaidWith (SaysBehind (codes "pin") rest) (LacksSite g)
  pin_lacks_site lacks = (says_pin pin mode source, pin_said, lacks)

  pub pin_lacks_choice : (n : ℕ) → NamesPin g pin n → (edge : ℕ) → IsEdgeWanted g edge n mode None → LacksSource g n mode source →
      SaidWith (SaysBehind (codes "pin") rest) (LacksChoice g)
  pin_lacks_choice n is_pin edge wanted lacks = (says_pin pin mode source, pin_said, (n, is_pin, (edge, wanted), lacks))

  pub pin_named : (into from : PinIx) (number : EdgeIx) (edge : Edge) → NamesPin g pin into.0 → NamesPin g source from.0 →
      IsEdgeWanted g number.0 into.0 mode (Some from) → slice_get g.edges number.0 ≡ Some edge →
      IsNamed g (SaysBehind (codes "pin") rest) (Pick into edge.mode number)
  pin_named into from number edge is_pin is_source wanted there =
      let same : edge ≡ wanted.edge = some_injective (sym there ∙ wanted.named.is) in
      record {
        saying = says_pin pin mode source;
        said = pin_said;
        names = record {
          edge = wanted.edge;
          is_pin = is_pin;
          is_source = subst (λ n. NamesPin g source n) (sym wanted.comes) is_source;
          named = wanted.named;
          is_mode = ap (λ (e : Edge). e.mode) same;
        };
      }

-- no edge from that source
pub none_from : (g : Graph) (pin : ℕ) (mode : List ℕ) (source : PinIx) → ((edge : ℕ) → IsEdgeWanted g edge pin mode (Some source) → ⊥) →
    (edge : ℕ) → IsNamedEdge g edge pin mode source.0 → ⊥
none_from g pin mode source none edge is = none edge (record {
  edge = is.edge;
  named = record { is = is.named.is; ends = is.named.ends; starts = refl; is_mode = is.named.is_mode };
  comes = is.named.starts;
})

pub wanted_inside : (g : Graph) (edge pin : ℕ) (mode : List ℕ) (wanted : Option PinIx) → IsEdgeWanted g edge pin mode wanted → edge < length g.edges
wanted_inside g edge pin mode wanted is = slice_get_within g.edges edge is.edge is.named.is

module _ (g : Graph) (instance digits : List ℕ) where
  pub wire_lacks_site : IsNumeral 10 digits → LacksInstance g instance (IsLut g) → SaidWith (SaysWire instance digits) (LacksSite g)
  wire_lacks_site numeral lacks =
      let said : SaysWire instance digits (says_wire instance (digits_value 10 digits)) = record { input = digits_value 10 digits; is = refl; numeral = numeral; value = refl } in
      (says_wire instance (digits_value 10 digits), said, lacks)

  wire_lacks : IsNumeral 10 digits → (pb : ℕ) → NamesInstance g instance pb × IsLut g pb → (IsLutChoice g pb (Wire (digits_value 10 digits)) → ⊥) →
      SaidWith (SaysWire instance digits) (LacksChoice g)
  wire_lacks numeral pb at none =
      let said : SaysWire instance digits (says_wire instance (digits_value 10 digits)) = record { input = digits_value 10 digits; is = refl; numeral = numeral; value = refl } in
      (says_wire instance (digits_value 10 digits), said, (pb, at.0, at.1, none))

  pub wire_no_inputs : IsNumeral 10 digits → (pb : ℕ) → NamesInstance g instance pb × IsLut g pb → ((port width : ℕ) → AreInputs g pb port width → ⊥) →
      SaidWith (SaysWire instance digits) (LacksChoice g)
  wire_no_inputs numeral pb at none = wire_lacks numeral pb at (λ c. none c.port c.width c.inputs)

  pub wire_too_large : (input port width pb : ℕ) → IsNumeral 10 digits × (input ≡ min (digits_value 10 digits) 4294967295) → NamesInstance g instance pb × IsLut g pb →
      AreInputs g pb port width → width ≤ input → SaidWith (SaysWire instance digits) (LacksChoice g)
  wire_too_large input port width pb value at inputs large =
      wire_lacks value.0 pb at (λ c.
      let same = one_inputs g pb c.port c.width port width c.inputs inputs in
      omega (arith, c.fits, same.1, large, value.1))

  pub wire_named : (input port width : ℕ) (pb : PbIx) → IsNumeral 10 digits × (input ≡ min (digits_value 10 digits) 4294967295) →
      NamesInstance g instance pb.0 × IsLut g pb.0 → AreInputs g pb.0 port width → input < width → width < 2 ^ 32 →
      IsNamed g (SaysWire instance digits) (Lut pb (Wire input))
  wire_named input port width pb value at inputs small narrow =
      let exact : digits_value 10 digits ≡ input = omega (arith, small, narrow, value.1) in
      record {
        saying = says_wire instance input;
        said = record { input = input; is = refl; numeral = value.0; value = exact };
        names = (at.0, refl, record { port = port; width = width; inputs = inputs; fits = small });
      }

  table_said : AllPass is_bit digits → SaysTable instance digits (says_table instance digits)
  table_said bits = record { is = refl; bits = bits }

  table_lacks : AllPass is_bit digits → (pb : ℕ) → NamesInstance g instance pb × IsLut g pb → (IsLutChoice g pb (Table (table_of digits)) → ⊥) →
      SaidWith (SaysTable instance digits) (LacksChoice g)
  table_lacks bits pb at none = (says_table instance digits, table_said bits, (pb, at.0, at.1, none))

  pub table_no_inputs : AllPass is_bit digits → (pb : ℕ) → NamesInstance g instance pb × IsLut g pb → ((port width : ℕ) → AreInputs g pb port width → ⊥) →
      SaidWith (SaysTable instance digits) (LacksChoice g)
  table_no_inputs bits pb at none = table_lacks bits pb at (λ c. none c.port c.width c.inputs)

  pub table_other_size : (port width pb : ℕ) → AllPass is_bit digits → NamesInstance g instance pb × IsLut g pb → AreInputs g pb port width →
      (length digits ≡ 2 ^ width → ⊥) → SaidWith (SaysTable instance digits) (LacksChoice g)
  table_other_size port width pb bits at inputs other =
      table_lacks bits pb at (λ c.
      let same = one_inputs g pb c.port c.width port width c.inputs inputs in
      other (sym (length-table_of digits) ∙ c.fits ∙ ap (λ w. 2 ^ w) same.1))

  pub table_named : (port width : ℕ) (pb : PbIx) (bits : _) → AllPass is_bit digits → NamesInstance g instance pb.0 × IsLut g pb.0 → AreInputs g pb.0 port width →
      length digits ≡ 2 ^ width → bits ≡ table_of digits → IsNamed g (SaysTable instance digits) (Lut pb (Table bits))
  table_named port width pb bits all at inputs size is = record {
    saying = says_table instance digits;
    said = table_said all;
    names = (
      at.0,
      ap Table is,
      record { port = port; width = width; inputs = inputs; fits = ap length is ∙ length-table_of digits ∙ size },
    );
  }
