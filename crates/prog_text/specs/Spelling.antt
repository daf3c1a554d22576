-- The text that a programming is written as: a line for each site that has a choice, in the order of
-- sites.
use Rattle.std.specs.Prelude.{◌≡◌, ◌<◌, ℕ, Bool, List, [], ◌∷◌, ◌++◌, Option, Some, None, codes, flat_map, length, slice_get, if◌then◌else◌}
use Rattle.std.specs.Option.{option_map, option_map_or}
use Rattle.std.specs.Fmt.{decimal}
use Rattle.arch_types.specs.Tree.{name_of_mode}
use Rattle.pb_expand.specs.declared.number.Edge.{Edge}
use Rattle.pb_expand.specs.Graph.{Graph, mode_at, edge_ix}
use Rattle.prog_map.specs.declared.choice.LSite.{LSite}
use Rattle.prog_map.specs.declared.choice.LSite.TheVariants as site
use Rattle.prog_map.specs.declared.choice.LutChoice.{LutChoice}
use Rattle.prog_map.specs.declared.choice.LutChoice.TheVariants.{Wire, Table}
use Rattle.prog_map.specs.declared.setting.Setting.{Setting}
use Rattle.prog_map.specs.declared.setting.Setting.TheVariants.{Mode, Pick, Used, Lut}
use Rattle.prog_map.specs.Choices.{Choices, mode_of, pick_of, is_used, lut_of}
use Rattle.prog_text.specs.Names.{instance_name, pin_name}
use Rattle.prog_map.specs.Order.{site_order}

-- what a programming says of a site
abbrev pub setting_at : Choices → LSite → Option Setting
setting_at c (site.Mode pb) = option_map (λ mode. Mode pb mode) (mode_of c pb.0)
setting_at c (site.Pin pin mode) = option_map (λ edge. Pick pin mode (edge_ix edge)) (pick_of c pin.0 mode)
setting_at c (site.Used pb) = if is_used c pb.0 then Some (Used pb) else None
setting_at c (site.Lut pb) = option_map (λ choice. Lut pb choice) (lut_of c pb.0)

abbrev pub mode_name : Graph → ℕ → ℕ → List ℕ
mode_name g pb mode = option_map_or name_of_mode (mode_at g pb mode) []

-- the mode of an edge and the pin that it leads from
abbrev pub edge_text : Graph → ℕ → List ℕ
edge_text g number = option_map_or (λ (edge : Edge). mode_name g edge.owner.0 edge.mode ++ 32 ∷ pin_name g edge.src.0) (slice_get g.edges number) []

-- 0 or 1
abbrev pub bit_digit : Bool → ℕ
bit_digit bit = if bit then 49 else 48

-- the digits of a table, the highest bit first
abbrev pub digits_of : List Bool → List ℕ
digits_of [] = []
digits_of (bit ∷ bits) = digits_of bits ++ bit_digit bit ∷ []

-- `wire K` or `table BITS`
abbrev pub choice_text : LutChoice → List ℕ
choice_text (Wire input) = codes "wire" ++ 32 ∷ decimal input
choice_text (Table table) = codes "table" ++ 32 ∷ digits_of table

-- `mode INST MODE`, `pin PIN MODE PIN`, `used INST`, `lut INST wire K` or `lut INST table BITS`
abbrev pub line_of : Graph → Setting → List ℕ
line_of g (Mode pb mode) = codes "mode" ++ 32 ∷ (instance_name g pb.0 ++ 32 ∷ mode_name g pb.0 mode)
line_of g (Pick pin mode edge) = codes "pin" ++ 32 ∷ (pin_name g pin.0 ++ 32 ∷ edge_text g edge.0)
line_of g (Used pb) = codes "used" ++ 32 ∷ instance_name g pb.0
line_of g (Lut pb choice) = codes "lut" ++ 32 ∷ (instance_name g pb.0 ++ 32 ∷ choice_text choice)

-- a site's line, which ends at a line feed; nothing where the site has no choice
abbrev pub site_text : Graph → Choices → LSite → List ℕ
site_text g c s = option_map_or (λ setting. line_of g setting ++ 10 ∷ []) (setting_at c s) []

abbrev pub prog_text : Graph → Choices → List ℕ
prog_text g c = flat_map (site_text g c) (site_order g)

-- a front of the text was appended to the old bytes
pub record IsPart (old text new : List ℕ) : Type 0 where
  pub front : List ℕ
  pub rest : List ℕ
  pub whole : text ≡ front ++ rest
  pub appended : new ≡ old ++ front

-- the instance or the pin of a site is there
abbrev pub IsInside : Graph → LSite → Type 0
IsInside g (site.Mode pb) = pb.0 < length g.instances
IsInside g (site.Pin pin mode) = pin.0 < length g.pins
IsInside g (site.Used pb) = pb.0 < length g.instances
IsInside g (site.Lut pb) = pb.0 < length g.instances
