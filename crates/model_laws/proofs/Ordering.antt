-- The atoms of a model in the order of its lines.
use Rattle.std.proofs.Common.{◌≡◌, ◌<◌, ◌≤◌, ◌+◌, inl, inr, ℕ, suc, true, false, List, [], ◌∷◌, ◌++◌, Some, map, length, length-append, refl, sym, ap, ◌∙◌, subst, arith}
use Rattle.std.specs.Prelude.{codes, slice_get, if◌then◌else◌}
use Rattle.std.specs.List.{flat_map}
use Rattle.std.proofs.lemmas.List.Sums.{sum_by-cons}
use Rattle.std.proofs.lemmas.Option.{get_or_from_slice_get}
use Rattle.vtr_base.specs.Lists.{Has}
use Rattle.list_laws.proofs.Members.{has_left, has_right}
use Rattle.arch_types.specs.declared.arch.CellModel.{CellModel}
use Rattle.net_types.specs.declared.atom.Atom.{Atom}
use Rattle.net_types.specs.declared.atom.Conn.{Conn}
use Rattle.net_types.specs.Merges.{IsMerge, Mention}
use Rattle.net_types.specs.Order.{nets_of, LinesNumber}
use Rattle.net_types.specs.WellFormed.{count_conns}
use Rattle.blif_items.specs.declared.elem.Elem.{Elem}
use Rattle.blif_items.specs.declared.elem.Elem.TheVariants as elem
use Rattle.blif_items.specs.declared.elem.PinAt.{PinAt}
use Rattle.blif_items.specs.Seen.{AreElems}
use Rattle.blif_parts.specs.Models.{ItemSaid, is_input, is_output, is_elem, inputs_of, outputs_of, elems_of, is_cell_elem}
use Rattle.blif_parts.specs.Adds.{out_name}
use Rattle.blif_parts.specs.Atoms.{name_at, input_atom, output_atom, conns_on, elem_atom}
use Rattle.model_steps.specs.Items.{nets_in, nets_by, outs_by, AreCalled}
use Rattle.model_steps.specs.Fits.{FitElems}
use Rattle.model_laws.proofs.Elements.{bare, is_bare, bits_long, box_mentions}
use Rattle.model_laws.proofs.Good.{IsGood, good_input, good_output, good_elem, elem_mentions, elem_drives, elem_called}

-- inputs and outputs, and all

abbrev pub pad_atoms : List (List ℕ) → List ItemSaid → List Atom
pad_atoms nets [] = []
pad_atoms nets (is_input net ∷ items) = input_atom nets net ∷ pad_atoms nets items
pad_atoms nets (is_output net ∷ items) = output_atom nets net ∷ pad_atoms nets items
pad_atoms nets (is_elem e ∷ items) = pad_atoms nets items

abbrev pub line_atoms : List (List ℕ) → List ItemSaid → List Elem → List Atom
line_atoms nets [] elems = []
line_atoms nets (is_input net ∷ items) elems = input_atom nets net ∷ line_atoms nets items elems
line_atoms nets (is_output net ∷ items) elems = output_atom nets net ∷ line_atoms nets items elems
line_atoms nets (is_elem e ∷ items) [] = []
line_atoms nets (is_elem e ∷ items) (x ∷ elems) = elem_atom x ∷ line_atoms nets items elems

pub pads_merge : (nets : List (List ℕ)) (items : List ItemSaid) → IsMerge (map (input_atom nets) (inputs_of items)) (map (output_atom nets) (outputs_of items)) (pad_atoms nets items)
pads_merge nets [] = (refl, refl)
pads_merge nets (is_input net ∷ items) = inl (map (input_atom nets) (inputs_of items), refl, pads_merge nets items)
pads_merge nets (is_output net ∷ items) = inr (map (output_atom nets) (outputs_of items), refl, pads_merge nets items)
pads_merge nets (is_elem e ∷ items) = pads_merge nets items

pub lines_merge : (nets : List (List ℕ)) (items : List ItemSaid) (elems : List Elem) → AreElems (elems_of items) elems → IsMerge (pad_atoms nets items) (map elem_atom elems) (line_atoms nets items elems)
lines_merge nets [] elems are = (refl, ap (map elem_atom) are)
lines_merge nets (is_input net ∷ items) elems are = inl (pad_atoms nets items, refl, lines_merge nets items elems are)
lines_merge nets (is_output net ∷ items) elems are = inl (pad_atoms nets items, refl, lines_merge nets items elems are)
lines_merge nets (is_elem e ∷ items) [] are = absurd are
lines_merge nets (is_elem e ∷ items) (x ∷ elems) are = inr (map elem_atom elems, refl, lines_merge nets items elems are.1)

-- they number the nets

mention_split : (a : ℕ) (xs ys : List ℕ) (c : ℕ) → Mention a (xs ++ ys) c → (b : ℕ) × Mention a xs b × Mention b ys c
mention_split a [] ys c m = (a, refl, m)
mention_split a (x ∷ xs) ys c (inl known) = let r = mention_split a xs ys c known.1 in (r.0, inl (known.0, r.1), r.2)
mention_split a (x ∷ xs) ys c (inr fresh) = let r = mention_split (suc a) xs ys c fresh.1 in (r.0, inr (fresh.0, r.1), r.2)

pub lines_number : (nets : List (List ℕ)) (known : ℕ) (items : List ItemSaid) (elems : List Elem) (next : ℕ) → AreElems (elems_of items) elems → Mention known (flat_map nets_by items) next →
    LinesNumber known (line_atoms nets items elems) next
lines_number nets known [] elems next are m = m
lines_number nets known (is_input net ∷ items) elems next are m =
    let r = mention_split known (net ∷ []) (flat_map nets_by items) next m in (net ∷ [], r.0, refl, r.1, lines_number nets r.0 items elems next are r.2)
lines_number nets known (is_output net ∷ items) elems next are m =
    let r = mention_split known (net ∷ []) (flat_map nets_by items) next m in (net ∷ [], r.0, refl, r.1, lines_number nets r.0 items elems next are r.2)
lines_number nets known (is_elem e ∷ items) [] next are m = absurd are
lines_number nets known (is_elem e ∷ items) (x ∷ elems) next are m =
    let r = mention_split known (nets_in e) (flat_map nets_by items) next m in
    let same = (is_bare e x are.0).nets in
    (nets_in (bare x), r.0, elem_mentions x, subst (λ l. Mention known l r.0) same r.1, lines_number nets r.0 items elems next are.1 r.2)

-- each net that is mentioned is there

mention_rises : (a : ℕ) (xs : List ℕ) (b : ℕ) → Mention a xs b → a ≤ b
mention_rises a [] b m = omega (arith, m)
mention_rises a (x ∷ xs) b (inl known) = mention_rises a xs b known.1
mention_rises a (x ∷ xs) b (inr fresh) = omega (arith, mention_rises (suc a) xs b fresh.1)

pub mention_below : (a : ℕ) (xs : List ℕ) (b : ℕ) (n : ℕ) → Mention a xs b → Has xs n → n < b
mention_below a [] b n m has = absurd has
mention_below a (x ∷ xs) b n (inl known) (inl is) = omega (arith, is, known.0, mention_rises a xs b known.1)
mention_below a (x ∷ xs) b n (inl known) (inr later) = mention_below a xs b n known.1 later
mention_below a (x ∷ xs) b n (inr fresh) (inl is) = omega (arith, is, fresh.0, mention_rises (suc a) xs b fresh.1)
mention_below a (x ∷ xs) b n (inr fresh) (inr later) = mention_below (suc a) xs b n fresh.1 later

-- names and nets that are driven

abbrev pub drives : Atom → List ℕ
drives a = nets_of a.outs

pub lines_drive : (nets : List (List ℕ)) (items : List ItemSaid) (elems : List Elem) → AreElems (elems_of items) elems → flat_map outs_by items ≡ flat_map drives (line_atoms nets items elems)
lines_drive nets [] elems are = refl
lines_drive nets (is_input net ∷ items) elems are = ap (λ l. net ∷ l) (lines_drive nets items elems are)
lines_drive nets (is_output net ∷ items) elems are = lines_drive nets items elems are
lines_drive nets (is_elem e ∷ items) [] are = absurd are
lines_drive nets (is_elem e ∷ items) (x ∷ elems) are =
    ap (λ l. l ++ flat_map outs_by items) ((is_bare e x are.0).outs ∙ elem_drives x) ∙ ap (λ l. nets_of (elem_atom x).outs ++ l) (lines_drive nets items elems are.1)

abbrev pub called : Atom → List ℕ
called a = a.name

pub name_is : (nets : List (List ℕ)) (net : ℕ) (name : List ℕ) → slice_get nets net ≡ Some name → name ≡ name_at nets net
name_is nets net name at = sym (get_or_from_slice_get nets net name [] at)

pub lines_called : (nets : List (List ℕ)) (items : List ItemSaid) (elems : List Elem) (names : List (List ℕ)) → AreElems (elems_of items) elems → AreCalled nets items names →
    names ≡ map called (line_atoms nets items elems)
lines_called nets [] elems names are named = named
lines_called nets (is_input net ∷ items) elems [] are named = absurd named
lines_called nets (is_input net ∷ items) elems (name ∷ names) are named =
    ap (λ x. x ∷ names) (name_is nets net name named.0) ∙ ap (λ l. name_at nets net ∷ l) (lines_called nets items elems names are named.1)
lines_called nets (is_output net ∷ items) elems [] are named = absurd named
lines_called nets (is_output net ∷ items) elems (name ∷ names) are named =
    ap (λ x. x ∷ names) (named.0.2 ∙ ap out_name (name_is nets net named.0.0 named.0.1)) ∙ ap (λ l. out_name (name_at nets net) ∷ l) (lines_called nets items elems names are named.1)
lines_called nets (is_elem e ∷ items) [] names are named = absurd are
lines_called nets (is_elem e ∷ items) (x ∷ elems) [] are named = absurd named
lines_called nets (is_elem e ∷ items) (x ∷ elems) (name ∷ names) are named =
    ap (λ y. y ∷ names) (named.0 ∙ ((is_bare e x are.0).name ∙ elem_called x)) ∙ ap (λ l. (elem_atom x).name ∷ l) (lines_called nets items elems names are.1 named.1)

-- how many connections there are

abbrev conns : Atom → ℕ
conns a = length a.ins + length a.outs

merge_long : (xs ys zs : List ℕ) → IsMerge xs ys zs → length zs ≡ length xs + length ys
merge_long xs ys [] m = omega (arith, ap length m.0, ap length m.1)
merge_long xs ys (z ∷ zs) (inl m) = omega (arith, merge_long m.0 ys zs m.2, ap length m.1)
merge_long xs ys (z ∷ zs) (inr m) = omega (arith, merge_long xs m.0 zs m.2, ap length m.1)

nets_long : (cs : List Conn) → length (nets_of cs) ≡ length cs
nets_long [] = refl
nets_long (c ∷ cs) = let rest = nets_long cs in omega (arith, rest)

elem_conns : (x : Elem) → conns (elem_atom x) ≡ length (nets_in (bare x))
elem_conns (elem.Lut name inputs output table) = omega (arith, bits_long (codes "in") 0 inputs, length-append inputs (output ∷ []))
elem_conns (elem.Latch name loaded made control) = refl
elem_conns (elem.Box name number pins params) =
    omega (arith, merge_long (nets_of (conns_on false pins)) (nets_of (conns_on true pins)) (map (λ (p : PinAt). p.net) pins) (box_mentions pins), nets_long (conns_on false pins), nets_long (conns_on true pins))

pub lines_conns : (nets : List (List ℕ)) (items : List ItemSaid) (elems : List Elem) → AreElems (elems_of items) elems → count_conns (line_atoms nets items elems) ≡ length (flat_map nets_by items)
lines_conns nets [] elems are = refl
lines_conns nets (is_input net ∷ items) elems are = omega (arith, lines_conns nets items elems are, sum_by-cons conns (input_atom nets net) (line_atoms nets items elems))
lines_conns nets (is_output net ∷ items) elems are = omega (arith, lines_conns nets items elems are, sum_by-cons conns (output_atom nets net) (line_atoms nets items elems))
lines_conns nets (is_elem e ∷ items) [] are = absurd are
lines_conns nets (is_elem e ∷ items) (x ∷ elems) are =
    omega (arith, lines_conns nets items elems are.1, sum_by-cons conns (elem_atom x) (line_atoms nets items elems), elem_conns x, ap length (is_bare e x are.0).nets, length-append (nets_in e) (flat_map nets_by items))

-- each atom is good

module _ (models : List CellModel) (nets : List (List ℕ)) (limit : ℕ) where
  pub lines_good : (boxes : ℕ) (items : List ItemSaid) (elems : List Elem) → AreElems (elems_of items) elems → FitElems models nets boxes (elems_of items) →
      ((n : ℕ) → Has (flat_map nets_by items) n → n < limit) → (a : Atom) → Has (line_atoms nets items elems) a → IsGood models nets limit a
  lines_good boxes [] elems are fit below a has = absurd has
  lines_good boxes (is_input net ∷ items) elems are fit below a (inl is) = subst (IsGood models nets limit) (sym is) (good_input models nets limit net (below net (inl refl)))
  lines_good boxes (is_input net ∷ items) elems are fit below a (inr later) = lines_good boxes items elems are fit (λ n has. below n (inr has)) a later
  lines_good boxes (is_output net ∷ items) elems are fit below a (inl is) = subst (IsGood models nets limit) (sym is) (good_output models nets limit net (below net (inl refl)))
  lines_good boxes (is_output net ∷ items) elems are fit below a (inr later) = lines_good boxes items elems are fit (λ n has. below n (inr has)) a later
  lines_good boxes (is_elem e ∷ items) [] are fit below a has = absurd has
  lines_good boxes (is_elem e ∷ items) (x ∷ elems) are fit below a (inl is) =
      let b = is_bare e x are.0 in
      subst (IsGood models nets limit) (sym is)
      (good_elem models nets limit x boxes (b.fits models nets boxes fit.0) b.wide (λ n has. below n (has_left (nets_in e) (flat_map nets_by items) n (subst (λ l. Has l n) (sym b.nets) has))))
  lines_good boxes (is_elem e ∷ items) (x ∷ elems) are fit below a (inr later) =
      lines_good (boxes + (if is_cell_elem e then 1 else 0)) items elems are.1 fit.1 (λ n has. below n (has_right (nets_in e) (flat_map nets_by items) n has)) a later
