-- What is known of the instances and pins of a sound tree.
use Rattle.std.proofs.Common.{◌≡◌, ◌≤◌, List, length, sym, ap, ◌∙◌, subst}
use Rattle.arch_types.specs.declared.block.PbType.{PbType}
use Rattle.arch_types.specs.Address.{instances_of}
use Rattle.arch_types.specs.Numbering.{IsNumbering}
use Rattle.arch_types.proofs.Numbered.{is_numbering}
use Rattle.pb_expand.specs.declared.number.Step.{Step}
use Rattle.pb_expand.specs.declared.number.PinAt.{PinAt}
use Rattle.pb_expand.specs.Graph.{pins_of, pins_from}
use Rattle.pb_expand.specs.Rows.{addresses, IsTree}
use Rattle.pb_expand.specs.Types.{modes_in_tree}
use Rattle.pb_expand.specs.Refusals.{AreSound}
use Rattle.pb_expand.specs.Making.{AreBlocks, AreShort, AreParts}
use Rattle.pb_expand.proofs.Numbers.{numbered, few_blocks}
use Rattle.pb_expand.proofs.PinPlaces.{have_places}
use Rattle.pb_expand.proofs.Verdicts.{sound_at}

pub parts : (root : PbType) (rows : List Step) (pins : List PinAt) (blocks : List PbType) → IsTree rows → addresses rows ≡ instances_of root →
    AreBlocks root (instances_of root) blocks → AreShort blocks → pins ≡ pins_of root → length rows ≤ 1048575 → length pins ≤ 1048576 → AreSound (modes_in_tree root) →
    AreParts blocks rows pins
parts root rows pins blocks tree instances are short is_pins few_rows few_pins sound =
    let here = subst (λ l. AreBlocks root l blocks) (sym instances) are in
    let numbering = subst (λ l. IsNumbering root l) (sym instances) (is_numbering root) in
    let over = is_pins ∙ ap (λ l. pins_from root 0 l) (sym instances) in
    record {
      numbered = numbered root rows pins tree instances is_pins few_rows few_pins;
      short = short;
      all = few_blocks root rows blocks instances are;
      all_addresses = are.all ∙ sym (ap length instances);
      sound = sound_at root blocks (instances_of root) sound are;
      places = have_places root rows pins blocks tree numbering over here;
    }
