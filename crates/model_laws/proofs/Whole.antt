-- The model of a file.
use Rattle.std.proofs.Common.{◌≡◌, ◌<◌, ◌+◌, ◌-◌, ◌^◌, ℕ, List, [], ◌∷◌, ◌++◌, map, length, append_assoc, sym, ap, ◌∙◌, subst, arith}
use Rattle.std.specs.List.{All, flat_map, sum_by}
use Rattle.std.proofs.lemmas.List.Concat.{flat_map_single}
use Rattle.std.proofs.lemmas.List.Sums.{sum_by-append}
use Rattle.vtr_base.specs.Lists.{Has}
use Rattle.list_laws.specs.Orders.{Once}
use Rattle.arch_types.specs.declared.arch.CellModel.{CellModel}
use Rattle.net_types.specs.declared.atom.Atom.{Atom}
use Rattle.net_types.specs.declared.atom.Conn.{Conn}
use Rattle.net_types.specs.Atoms.{IsAtom}
use Rattle.net_types.specs.Merges.{IsMerge}
use Rattle.net_types.specs.Order.{of_group, AreGrouped, HaveLineOrder}
use Rattle.net_types.specs.Names.{AreNamed}
use Rattle.net_types.specs.WellFormed.{HaveNets, count_conns}
use Rattle.blif_lines.specs.Lines.{LineSaid}
use Rattle.blif_items.specs.declared.elem.Elem.{Elem}
use Rattle.blif_items.specs.Seen.{AreElems}
use Rattle.blif_parts.specs.declared.parts.ModelParts.{ModelParts}
use Rattle.blif_parts.specs.Models.{ModelSaid, inputs_of, outputs_of, elems_of, AreParts}
use Rattle.blif_parts.specs.Atoms.{input_atom, output_atom, elem_atom, atoms_of}
use Rattle.blif_parts.specs.Facts.{HaveOneMaker, IsModel}
use Rattle.model_words.specs.Laws.{HavePlainWords}
use Rattle.model_steps.specs.Items.{nets_by}
use Rattle.model_steps.specs.Keeps.{Keeps}
use Rattle.model_laws.proofs.Merges.{all_of, merge_sum, merges_once, merges_has}
use Rattle.model_laws.proofs.Good.{IsGood}
use Rattle.model_laws.proofs.Ordering.{pad_atoms, line_atoms, pads_merge, lines_merge, lines_number, mention_below, drives, lines_drive, called, lines_called, lines_conns, lines_good}
use Rattle.model_laws.proofs.Makers.{one_maker}
use Rattle.model_laws.proofs.Grouping.{three, first_group, second_group, third_group, are_grouped, are_named}

abbrev conns : Atom → ℕ
conns a = length a.ins + length a.outs

module _ (models : List CellModel) (words : ℕ) (m : ModelSaid) (elems : List Elem) (k : Keeps models words m) (are : AreElems (elems_of m.items) elems) (few : words < 2 ^ 32 - 1) where
  abbrev nets : List (List ℕ)
  nets = m.book.nets

  abbrev ins : List Atom
  ins = map (input_atom nets) (inputs_of m.items)

  abbrev outs : List Atom
  outs = map (output_atom nets) (outputs_of m.items)

  abbrev others : List Atom
  others = map elem_atom elems

  abbrev pads : List Atom
  pads = pad_atoms nets m.items

  abbrev lines : List Atom
  lines = line_atoms nets m.items elems

  abbrev atoms : List Atom
  atoms = three nets (inputs_of m.items) (outputs_of m.items) elems

  first : IsMerge ins outs pads
  first = pads_merge nets m.items

  then' : IsMerge pads others lines
  then' = lines_merge nets m.items elems are

  good : (a : Atom) → Has atoms a → IsGood models nets (length nets) a
  good a has =
      lines_good models nets (length nets) 0 m.items elems are k.fit (λ n mentioned. mention_below 0 (flat_map nets_by m.items) (length nets) n k.mentioned mentioned) a
      (merges_has ins outs others pads lines a first then' has)

  drives_once : Once (flat_map drives atoms)
  drives_once =
      let on_lines : Once (flat_map drives lines) = subst Once (k.driven ∙ lines_drive nets m.items elems are) k.driven_once in
      merges_once drives ins outs others pads lines first then' on_lines

  names_once : Once (map called atoms)
  names_once =
      let single = λ (a : Atom). called a ∷ [] in
      let on_lines : Once (flat_map single lines) = subst Once (lines_called nets m.items elems m.book.names are k.named ∙ sym (flat_map_single called lines)) k.names_once in
      subst Once (flat_map_single called atoms) (merges_once single ins outs others pads lines first then' on_lines)

  few_conns : count_conns atoms < 2 ^ 32 - 1
  few_conns =
      omega (
        arith,
        sum_by-append conns ins (outs ++ others),
        sum_by-append conns outs others,
        merge_sum conns ins outs pads first,
        merge_sum conns pads others lines then',
        lines_conns nets m.items elems are,
        k.few,
        few,
      )

  order : HaveLineOrder (length nets) atoms
  order = record {
    pads = pads;
    are_pads = subst (λ l. IsMerge l (of_group 1 atoms) pads) (sym (first_group nets (inputs_of m.items) (outputs_of m.items) elems))
        (subst (λ l. IsMerge ins l pads) (sym (second_group nets (inputs_of m.items) (outputs_of m.items) elems)) first);
    lines = lines;
    are_lines = subst (λ l. IsMerge pads l lines) (sym (third_group nets (inputs_of m.items) (outputs_of m.items) elems)) then';
    number = lines_number nets 0 m.items elems (length nets) are k.mentioned;
  }

  within : HaveNets (length nets) atoms
  within = all_of (λ (a : Atom). All (λ (c : Conn). c.net < length nets) a.ins × All (λ (c : Conn). c.net < length nets) a.outs) atoms
      (λ a has. let g = good a has in (g.within.ins, g.within.outs))

  abbrev made : ModelParts
  made = record { nets = nets; inputs = inputs_of m.items; outputs = outputs_of m.items; elems = elems }

  same : atoms ≡ atoms_of made
  same = sym (append_assoc ins outs others)

  is_model : IsModel models made
  is_model = record {
    nets = record { each = k.nets; once = k.nets_once; few = omega (arith, k.nets_few, few) };
    each = subst (All IsAtom) same (all_of IsAtom atoms (λ a has. (good a has).atom));
    grouped = subst AreGrouped same (are_grouped nets (inputs_of m.items) (outputs_of m.items) elems);
    once = subst (λ (l : List Atom). Once (map called l)) same names_once;
    few_conns = subst (λ (l : List Atom). count_conns l < 2 ^ 32 - 1) same few_conns;
    named = subst (AreNamed nets) same (are_named models nets m.items m.book.names (elems_of m.items) elems k.named k.fit are);
    within = subst (HaveNets (length nets)) same within;
    one_maker = subst HaveOneMaker same (one_maker atoms drives_once);
    order = subst (HaveLineOrder (length nets)) same order;
    fits = λ number a has kind. (good a (subst (λ (l : List Atom). Has l a) (sym same) has)).of_model number kind;
  }

parts_are : (m : ModelSaid) (parts : ModelParts) → AreParts m parts → record { nets = m.book.nets; inputs = inputs_of m.items; outputs = outputs_of m.items; elems = parts.elems } ≡ parts
parts_are m parts are =
    ap (λ n. parts_of n (inputs_of m.items) (outputs_of m.items)) (sym are.nets) ∙
    (ap (λ i. parts_of parts.nets i (outputs_of m.items)) (sym are.inputs) ∙ ap (λ o. parts_of parts.nets parts.inputs o) (sym are.outputs))
  where
    parts_of : List (List ℕ) → List ℕ → List ℕ → ModelParts
    parts_of nets inputs outputs = record { nets = nets; inputs = inputs; outputs = outputs; elems = parts.elems }

abbrev long : LineSaid → ℕ
long l = length l.text

pub whole : (models : List CellModel) (bytes : List ℕ) (ls : List LineSaid) (m : ModelSaid) (parts : ModelParts) → length bytes < 2 ^ 32 - 1 → HavePlainWords bytes ls →
    Keeps models (0 + sum_by long ls) m → AreParts m parts → IsModel models parts
whole models bytes ls m parts short plain k are =
    subst (IsModel models) (parts_are m parts are) (is_model models (0 + sum_by long ls) m parts.elems k are.elems (omega (arith, short, plain.few)))
