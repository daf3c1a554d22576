-- The atoms of a model: inputs, outputs, and elements.
use Rattle.std.proofs.Common.{◌≡◌, ◌==◌, ◌≤◌, ◌+◌, ◌⊎◌, inl, inr, ℕ, zero, suc, Bool, true, false, cond, List, [], ◌∷◌, ◌++◌, Some, map, filter, take, append-nil, refl, sym, ap, ◌∙◌, subst, arith}
use Rattle.std.specs.Prelude.{slice_get, codes, if◌then◌else◌}
use Rattle.std.specs.Fmt.{decimal}
use Rattle.std.proofs.lemmas.List.Elements.{filter-append}
use Rattle.std.proofs.lemmas.Bool.Decides.{nat_tests}
use Rattle.std.proofs.lemmas.List.Sums.{sum_by-cons}
use Rattle.vtr_base.specs.Lists.{Has}
use Rattle.list_laws.specs.Orders.{Ordered}
use Rattle.list_laws.proofs.Members.{has_either, from_map}
use Rattle.arch_types.specs.declared.arch.CellModel.{CellModel}
use Rattle.net_types.specs.declared.atom.Atom.{Atom}
use Rattle.net_types.specs.declared.atom.Conn.{Conn}
use Rattle.net_types.specs.Atoms.{is_box}
use Rattle.net_types.specs.Names.{IsFirstNet, FitsName, AreNamed, boxes_before}
use Rattle.net_types.specs.Order.{group_of, of_group, nets_of, AreGrouped}
use Rattle.blif_items.specs.declared.elem.Elem.{Elem}
use Rattle.blif_items.specs.declared.elem.Elem.TheVariants as elem
use Rattle.blif_items.specs.Items.{ElemSaid, outs_of}
use Rattle.blif_items.specs.Pins.{IsCellName}
use Rattle.blif_items.specs.Seen.{AreElems}
use Rattle.blif_parts.specs.Models.{ItemSaid, is_input, is_output, is_elem, inputs_of, outputs_of, is_cell_elem}
use Rattle.blif_parts.specs.Atoms.{name_at, input_atom, output_atom, conns_on, elem_atom}
use Rattle.model_steps.specs.Items.{AreCalled}
use Rattle.model_steps.specs.Fits.{FitsElem, FitElems}
use Rattle.model_laws.proofs.Elements.{bare, is_bare, outs_nets}
use Rattle.model_laws.proofs.Ordering.{name_is}

-- groups

all_pass : {A : Type 0} (g : ℕ) (f : A → Atom) (xs : List A) → ((x : A) → group_of (f x).kind ≡ g) → of_group g (map f xs) ≡ map f xs
all_pass g f [] same = refl
all_pass {A} g f (x ∷ xs) same = by (group_of (f x).kind == g) (yes (group_of (f x).kind) (same x)) (all_pass g f xs same)
  where
    yes : (n : ℕ) → n ≡ g → (n == g) ≡ true
    yes n is = grind (arith, nat_tests)

    by : (b : Bool) → b ≡ true → of_group g (map f xs) ≡ map f xs → (if b then f x ∷ of_group g (map f xs) else of_group g (map f xs)) ≡ f x ∷ map f xs
    by true is rest = ap (λ l. f x ∷ l) rest
    by false is rest = absurd (let bad : ⊥ = cc is in bad)

none_pass : {A : Type 0} (g other : ℕ) (f : A → Atom) (xs : List A) → ((x : A) → group_of (f x).kind ≡ other) → (other ≡ g → ⊥) → of_group g (map f xs) ≡ []
none_pass g other f [] same apart = refl
none_pass {A} g other f (x ∷ xs) same apart = by (group_of (f x).kind == g) (no (group_of (f x).kind) (same x)) (none_pass g other f xs same apart)
  where
    no : (n : ℕ) → n ≡ other → (n == g) ≡ false
    no n is = grind (arith, nat_tests)

    by : (b : Bool) → b ≡ false → of_group g (map f xs) ≡ [] → (if b then f x ∷ of_group g (map f xs) else of_group g (map f xs)) ≡ []
    by true is rest = absurd (let bad : ⊥ = cc is in bad)
    by false is rest = rest

elem_group : (x : Elem) → group_of (elem_atom x).kind ≡ 2
elem_group (elem.Lut name inputs output table) = refl
elem_group (elem.Latch name loaded made control) = refl
elem_group (elem.Box name model pins params) = refl

module _ (nets : List (List ℕ)) (ins outs : List ℕ) (elems : List Elem) where
  abbrev pub three : List Atom
  three = map (input_atom nets) ins ++ (map (output_atom nets) outs ++ map elem_atom elems)

  parts_of_group : (g : ℕ) → of_group g three ≡ of_group g (map (input_atom nets) ins) ++ (of_group g (map (output_atom nets) outs) ++ of_group g (map elem_atom elems))
  parts_of_group g =
      let p = λ (a : Atom). group_of a.kind == g in
      filter-append p (map (input_atom nets) ins) (map (output_atom nets) outs ++ map elem_atom elems) ∙
      ap (λ l. filter p (map (input_atom nets) ins) ++ l) (filter-append p (map (output_atom nets) outs) (map elem_atom elems))

  pub first_group : of_group 0 three ≡ map (input_atom nets) ins
  first_group =
      let a = all_pass 0 (input_atom nets) ins (λ n. refl) in
      let b = none_pass 0 1 (output_atom nets) outs (λ n. refl) (λ e. omega arith) in
      let c = none_pass 0 2 elem_atom elems elem_group (λ e. omega arith) in
      parts_of_group 0 ∙ (ap (λ l. l ++ (of_group 0 (map (output_atom nets) outs) ++ of_group 0 (map elem_atom elems))) a ∙
      (ap (λ l. map (input_atom nets) ins ++ (l ++ of_group 0 (map elem_atom elems))) b ∙
      (ap (λ l. map (input_atom nets) ins ++ l) c ∙ append-nil (map (input_atom nets) ins))))

  pub second_group : of_group 1 three ≡ map (output_atom nets) outs
  second_group =
      let a = none_pass 1 0 (input_atom nets) ins (λ n. refl) (λ e. omega arith) in
      let b = all_pass 1 (output_atom nets) outs (λ n. refl) in
      let c = none_pass 1 2 elem_atom elems elem_group (λ e. omega arith) in
      parts_of_group 1 ∙ (ap (λ l. l ++ (of_group 1 (map (output_atom nets) outs) ++ of_group 1 (map elem_atom elems))) a ∙
      (ap (λ l. l ++ of_group 1 (map elem_atom elems)) b ∙
      (ap (λ l. map (output_atom nets) outs ++ l) c ∙ append-nil (map (output_atom nets) outs))))

  pub third_group : of_group 2 three ≡ map elem_atom elems
  third_group =
      let a = none_pass 2 0 (input_atom nets) ins (λ n. refl) (λ e. omega arith) in
      let b = none_pass 2 1 (output_atom nets) outs (λ n. refl) (λ e. omega arith) in
      let c = all_pass 2 elem_atom elems elem_group in
      parts_of_group 2 ∙ (ap (λ l. l ++ (of_group 2 (map (output_atom nets) outs) ++ of_group 2 (map elem_atom elems))) a ∙
      (ap (λ l. l ++ of_group 2 (map elem_atom elems)) b ∙ c))

-- their order

ordered_append : {X : Type 0} (R : X → X → Type 0) (xs ys : List X) → Ordered R xs → Ordered R ys → ((x y : X) → Has xs x → Has ys y → R x y) → Ordered R (xs ++ ys)
ordered_append R [] ys a b across = b
ordered_append R (x ∷ xs) ys a b across = (
  λ y has. elim (has_either xs ys y has) [ inl here ↦ a.0 y here | inr later ↦ across x y (inl refl) later ],
  ordered_append R xs ys a.1 b (λ u v h k. across u v (inr h) k),
)

abbrev ComesFirst : Atom → Atom → Type 0
ComesFirst a b = group_of a.kind ≤ group_of b.kind

map_group : {A : Type 0} (g : ℕ) (f : A → Atom) (xs : List A) → ((x : A) → group_of (f x).kind ≡ g) → (a : Atom) → Has (map f xs) a → group_of a.kind ≡ g
map_group g f xs same a has = let r = from_map f xs a has in ap (λ (b : Atom). group_of b.kind) r.is ∙ same r.item

one_group : {A : Type 0} (g : ℕ) (f : A → Atom) (xs : List A) → ((x : A) → group_of (f x).kind ≡ g) → Ordered ComesFirst (map f xs)
one_group g f [] same = tt
one_group g f (x ∷ xs) same = (λ y has. omega (arith, same x, map_group g f xs same y has), one_group g f xs same)

pub are_grouped : (nets : List (List ℕ)) (ins outs : List ℕ) (elems : List Elem) → AreGrouped (three nets ins outs elems)
are_grouped nets ins outs elems =
    let of_ins = map_group 0 (input_atom nets) ins (λ n. refl) in
    let of_outs = map_group 1 (output_atom nets) outs (λ n. refl) in
    let of_elems = map_group 2 elem_atom elems elem_group in
    let behind = ordered_append ComesFirst (map (output_atom nets) outs) (map elem_atom elems) (one_group 1 (output_atom nets) outs (λ n. refl)) (one_group 2 elem_atom elems elem_group)
    (λ x y h k. omega (arith, of_outs x h, of_elems y k)) in
    ordered_append ComesFirst (map (input_atom nets) ins) (map (output_atom nets) outs ++ map elem_atom elems) (one_group 0 (input_atom nets) ins (λ n. refl)) behind
    (λ x y h k. omega (arith, of_ins x h))

-- their names

abbrev counts : Atom → ℕ
counts a = if is_box a.kind then 1 else 0

abbrev NamedFrom : List (List ℕ) → ℕ → List Atom → Type 0
NamedFrom nets boxes [] = Unit {0}
NamedFrom nets boxes (a ∷ atoms) = FitsName nets boxes a.kind a × NamedFrom nets (boxes + counts a) atoms

named_at : (nets : List (List ℕ)) (boxes : ℕ) (atoms : List Atom) (number : ℕ) (a : Atom) → NamedFrom nets boxes atoms → slice_get atoms number ≡ Some a →
    FitsName nets (boxes + boxes_before atoms number) a.kind a
named_at nets boxes [] number a named at = absurd (let bad : ⊥ = cc at in bad)
named_at nets boxes (b ∷ atoms) zero a named at =
    let same : b ≡ a = cc at in
    let none : boxes + boxes_before (b ∷ atoms) 0 ≡ boxes = omega arith in
    subst (λ n. FitsName nets n a.kind a) (sym none) (subst (λ (x : Atom). FitsName nets boxes x.kind x) same named.0)
named_at nets boxes (b ∷ atoms) (suc number) a named at =
    let count : boxes_before (b ∷ atoms) (suc number) ≡ counts b + boxes_before atoms number = sum_by-cons (λ (x : Atom). cond (is_box x.kind) 1 0) b (take number atoms) in
    let same : (boxes + counts b) + boxes_before atoms number ≡ boxes + boxes_before (b ∷ atoms) (suc number) = omega (arith, count) in
    subst (λ n. FitsName nets n a.kind a) same (named_at nets (boxes + counts b) atoms number a named.1 at)

ins_named : (nets : List (List ℕ)) (items : List ItemSaid) (names : List (List ℕ)) (rest : List Atom) → AreCalled nets items names → NamedFrom nets 0 rest →
    NamedFrom nets 0 (map (input_atom nets) (inputs_of items) ++ rest)
ins_named nets [] names rest are named = named
ins_named nets (is_input net ∷ items) [] rest are named = absurd are
ins_named nets (is_input net ∷ items) (name ∷ names) rest are named = (are.0 ∙ ap (λ x. Some x) (name_is nets net name are.0), ins_named nets items names rest are.1 named)
ins_named nets (is_output net ∷ items) [] rest are named = absurd are
ins_named nets (is_output net ∷ items) (name ∷ names) rest are named = ins_named nets items names rest are.1 named
ins_named nets (is_elem e ∷ items) [] rest are named = absurd are
ins_named nets (is_elem e ∷ items) (name ∷ names) rest are named = ins_named nets items names rest are.1 named

outs_named : (nets : List (List ℕ)) (items : List ItemSaid) (names : List (List ℕ)) (rest : List Atom) → AreCalled nets items names → NamedFrom nets 0 rest →
    NamedFrom nets 0 (map (output_atom nets) (outputs_of items) ++ rest)
outs_named nets [] names rest are named = named
outs_named nets (is_input net ∷ items) [] rest are named = absurd are
outs_named nets (is_input net ∷ items) (name ∷ names) rest are named = outs_named nets items names rest are.1 named
outs_named nets (is_output net ∷ items) [] rest are named = absurd are
outs_named nets (is_output net ∷ items) (name ∷ names) rest are named =
    let at = are.0.1 ∙ ap (λ x. Some x) (name_is nets net are.0.0 are.0.1) in
    ((name_at nets net, at, refl), outs_named nets items names rest are.1 named)
outs_named nets (is_elem e ∷ items) [] rest are named = absurd are
outs_named nets (is_elem e ∷ items) (name ∷ names) rest are named = outs_named nets items names rest are.1 named

box_called : (nets : List (List ℕ)) (boxes : ℕ) (cs : List Conn) (outs : List ℕ) (name : List ℕ) → nets_of cs ≡ outs → IsCellName nets boxes outs name →
    IsFirstNet nets cs name ⊎ ((cs ≡ []) × (name ≡ codes "box:" ++ decimal boxes))
box_called nets boxes [] [] name same is = inr (refl, is)
box_called nets boxes [] (o ∷ outs) name same is = absurd (let bad : ⊥ = cc same in bad)
box_called nets boxes (c ∷ cs) [] name same is = absurd (let bad : ⊥ = cc same in bad)
box_called nets boxes (c ∷ cs) (o ∷ outs) name same is = let first : c.net ≡ o = cc same in inl (ap (slice_get nets) first ∙ is)

elem_named : (models : List CellModel) (nets : List (List ℕ)) (boxes : ℕ) (x : Elem) → FitsElem models nets boxes (bare x) → FitsName nets boxes (elem_atom x).kind (elem_atom x)
elem_named models nets boxes (elem.Lut name inputs output table) fits = fits.1
elem_named models nets boxes (elem.Latch name loaded made control) fits = fits
elem_named models nets boxes (elem.Box name model pins params) fits = box_called nets boxes (conns_on true pins) (outs_of pins) name (outs_nets pins) fits.named

elem_counts : (x : Elem) → (if is_cell_elem (bare x) then 1 else 0) ≡ counts (elem_atom x)
elem_counts (elem.Lut name inputs output table) = refl
elem_counts (elem.Latch name loaded made control) = refl
elem_counts (elem.Box name model pins params) = refl

elems_named : (models : List CellModel) (nets : List (List ℕ)) (boxes : ℕ) (es : List ElemSaid) (elems : List Elem) → FitElems models nets boxes es → AreElems es elems →
    NamedFrom nets boxes (map elem_atom elems)
elems_named models nets boxes [] elems fit are = subst (λ l. NamedFrom nets boxes (map elem_atom l)) (sym are) tt
elems_named models nets boxes (e ∷ es) [] fit are = absurd are
elems_named models nets boxes (e ∷ es) (x ∷ elems) fit are =
    let b = is_bare e x are.0 in
    let count : (if is_cell_elem e then 1 else 0) ≡ counts (elem_atom x) = ap (λ (k : Bool). if k then 1 else 0) b.kind ∙ elem_counts x in (
      elem_named models nets boxes x (b.fits models nets boxes fit.0),
      subst (λ n. NamedFrom nets (boxes + n) (map elem_atom elems)) count (elems_named models nets (boxes + (if is_cell_elem e then 1 else 0)) es elems fit.1 are.1),
    )

pub are_named : (models : List CellModel) (nets : List (List ℕ)) (items : List ItemSaid) (names : List (List ℕ)) (es : List ElemSaid) (elems : List Elem) → AreCalled nets items names →
    FitElems models nets 0 es → AreElems es elems → AreNamed nets (three nets (inputs_of items) (outputs_of items) elems)
are_named models nets items names es elems called fit are number a at =
    let last = elems_named models nets 0 es elems fit are in
    let all = ins_named nets items names (map (output_atom nets) (outputs_of items) ++ map elem_atom elems) called (outs_named nets items names (map elem_atom elems) called last) in
    let none : 0 + boxes_before (three nets (inputs_of items) (outputs_of items) elems) number ≡ boxes_before (three nets (inputs_of items) (outputs_of items) elems) number = omega arith in
    subst (λ n. FitsName nets n a.kind a) none (named_at nets 0 (three nets (inputs_of items) (outputs_of items) elems) number a all at)
