-- The variables that are listed are all, each once.
use Rattle.std.proofs.Common.{◌≡◌, ◌<◌, ◌≤◌, ◌*◌, ◌==◌, inl, inr, ℕ, ◌^◌, zero, suc, Bool, true, false, List, [], ◌∷◌, ◌++◌, Option, Some, None, length, refl, sym, ap, ◌∙◌, subst, arith, if◌then◌else◌}
use Rattle.std.specs.Prelude.{slice_get, MatchOption}
use Rattle.std.specs.Option.{option_map, option_and_then, option_map_or}
use Rattle.std.proofs.lemmas.Bool.{cases_eq}
use Rattle.std.proofs.lemmas.Bool.Decides.{eqb_tells, nat_tests}
use Rattle.std.proofs.lemmas.Option.{slice_get_within}
use Rattle.vtr_base.specs.Lists.{Has}
use Rattle.list_laws.specs.Orders.{Once}
use Rattle.list_laws.proofs.Members.{has_left, has_right, has_either}
use Rattle.list_laws.proofs.Onces.{once_append}
use Rattle.arch_types.specs.declared.block.PbType.{PbType}
use Rattle.arch_types.specs.declared.block.Port.{Port}
use Rattle.arch_types.specs.declared.block.Side.{Side}
use Rattle.arch_types.specs.declared.block.Side.TheVariants.{Input, Output, Clock}
use Rattle.arch_types.specs.Address.{Address, at}
use Rattle.pb_expand.specs.declared.number.PinIx.{PinIx}
use Rattle.pb_expand.specs.declared.number.PinAt.{PinAt}
use Rattle.pb_expand.specs.declared.number.Edge.{Edge}
use Rattle.pb_expand.specs.declared.number.EdgeIx.{EdgeIx}
use Rattle.pb_expand.specs.declared.number.PbKind.{PbKind}
use Rattle.pb_expand.specs.declared.number.PbKind.TheVariants.{Leaf, Modes}
use Rattle.pb_expand.specs.Graph.{Graph, kind_of, into_from, pin_ix, edge_ix}
use Rattle.pb_expand.specs.Ends.{ListsEnds}
use Rattle.prog_map.specs.Choices.{IsEdgeInto}
use Rattle.prog_map.specs.Leaves.{kind_at, port_at}
use Rattle.prog_map.specs.Order.{is_first, starts_at}
use Rattle.task_types.specs.declared.task.Task.{Task}
use Rattle.task_types.specs.declared.task.Entries.{Entries}
use Rattle.task_types.specs.declared.task.Entries.TheVariants.{Free, Fixed}
use Rattle.task_types.specs.declared.tree.Var.{Var}
use Rattle.task_types.specs.declared.tree.Var.TheVariants as var
use Rattle.task_types.specs.Ends.{IsRootInput}
use Rattle.task_types.specs.Options.{IsVar}
use Rattle.task_room.specs.Room.{product_of, IsCapped, AreVars, IsRoom, IsTooLarge}
use Rattle.task_room.specs.Listed.{var_at, instance_vars, edge_var, edge_vars, leads_in, is_entry, entry_var, entry_vars, entries_of, vars_of, IsTallyOf}
use Rattle.task_room.specs.declared.tally.Tally.{Tally}

-- instances

record FoundInstance (g : Graph) (t : Task) (n : ℕ) (v : Var) : Type 0 where
  pub place : ℕ
  pub below : place < n
  pub here : Has (var_at place (kind_at g place)) v

found_instance : (g : Graph) (t : Task) (n : ℕ) (v : Var) → Has (instance_vars g n) v → FoundInstance g t n v
found_instance g t zero v has = absurd has
found_instance g t (suc n) v has = elim (has_either (var_at n (kind_at g n)) (instance_vars g n) v has) [
  | inl here ↦ record { place = n; below = omega arith; here = here }
  | inr later ↦ (let r = found_instance g t n v later in record { place = r.place; below = omega (arith, r.below); here = r.here })
]

has_instance : (g : Graph) (n place : ℕ) (v : Var) → place < n → Has (var_at place (kind_at g place)) v → Has (instance_vars g n) v
has_instance g zero place v below here = absurd (omega (arith, below))
has_instance g (suc n) place v below here = elim (cases_eq place n) [
  | inl same ↦ has_left (var_at n (kind_at g n)) (instance_vars g n) v (subst (λ k. Has (var_at k (kind_at g k)) v) same here)
  | inr other ↦ has_right (var_at n (kind_at g n)) (instance_vars g n) v (has_instance g n place v (omega (arith, below, other)) here)
]

place_of : Var → ℕ
place_of (var.Mode pb) = pb.0
place_of (var.Occupant pb) = pb.0
place_of (var.Edge pin mode) = pin.0
place_of (var.Entry pin) = pin.0

at_place : (place : ℕ) (o : Option PbKind) (v : Var) → Has (var_at place o) v → place_of v ≡ place
unfolding place_of
at_place place None v has = absurd has
at_place place (Some (Leaf atom)) v (inl is) = ap place_of is
at_place place (Some (Leaf atom)) v (inr has) = absurd has
at_place place (Some (Modes count)) v (inl is) = ap place_of is
at_place place (Some (Modes count)) v (inr has) = absurd has

instance_var : (g : Graph) (t : Task) (place : ℕ) (o : Option PbKind) → kind_at g place ≡ o → (v : Var) → Has (var_at place o) v → IsVar g t v
instance_var g t place None e v has = absurd has
instance_var g t place (Some (Leaf atom)) e v (inl is) = subst (IsVar g t) (sym is) (record { atom = atom; is = e })
instance_var g t place (Some (Leaf atom)) e v (inr has) = absurd has
instance_var g t place (Some (Modes count)) e v (inl is) = subst (IsVar g t) (sym is) (record { count = count; is = e })
instance_var g t place (Some (Modes count)) e v (inr has) = absurd has

one_at : (place : ℕ) (o : Option PbKind) → Once (var_at place o)
one_at place None = tt
one_at place (Some (Leaf atom)) = (λ h. h, tt)
one_at place (Some (Modes count)) = (λ h. h, tt)

instances_once : (g : Graph) (t : Task) (n : ℕ) → Once (instance_vars g n)
instances_once g t zero = tt
instances_once g t (suc n) =
    once_append (var_at n (kind_at g n)) (instance_vars g n) (one_at n (kind_at g n)) (instances_once g t n)
    (λ v here later. let r = found_instance g t n v later in
    let first = at_place n (kind_at g n) v here in
    let second = at_place r.place (kind_at g r.place) v r.here in
    absurd (omega (arith, r.below, first, second)))

kind_inside : (g : Graph) (pb : ℕ) (k : PbKind) → kind_at g pb ≡ Some k → pb < length g.instances
kind_inside g pb k is = by (slice_get g.instances pb) refl is
  where
    by : (o : Option Address) → slice_get g.instances pb ≡ o →
        option_map (λ (block : PbType). kind_of block.kind) (option_and_then (λ address. at g.root address) o) ≡ Some k → pb < length g.instances
    by None e h = cc
    by (Some a) e h = slice_get_within g.instances pb a e

-- edges

record IsEdgeVar (g : Graph) (place : ℕ) (v : Var) : Type 0 where
  pub edge : Edge
  pub is : slice_get g.edges place ≡ Some edge
  pub first : is_first g place edge ≡ true
  pub of_edge : v ≡ var.Edge edge.dst edge.mode

edge_here : (g : Graph) (n : ℕ) (o : Option Edge) → slice_get g.edges n ≡ o → (v : Var) → Has (edge_var g n o) v → IsEdgeVar g n v
edge_here g n None e v has = absurd has
edge_here g n (Some edge) e v has = by (is_first g n edge) refl has
  where
    by : (b : Bool) → is_first g n edge ≡ b → Has (if b then var.Edge edge.dst edge.mode ∷ [] else []) v → IsEdgeVar g n v
    by true first (inl is) = record { edge = edge; is = e; first = first; of_edge = is }
    by true first (inr h) = absurd h
    by false first h = absurd h

found_edge : (g : Graph) (n : ℕ) (v : Var) → Has (edge_vars g n) v → (place : ℕ) × (place < n) × IsEdgeVar g place v
found_edge g zero v has = absurd has
found_edge g (suc n) v has = elim (has_either (edge_var g n (slice_get g.edges n)) (edge_vars g n) v has) [
  | inl here ↦ (n, omega arith, edge_here g n (slice_get g.edges n) refl v here)
  | inr later ↦ (let r = found_edge g n v later in (r.0, omega (arith, r.1), r.2))
]

edge_listed : (g : Graph) (n : ℕ) (o : Option Edge) (edge : Edge) → o ≡ Some edge → is_first g n edge ≡ true → Has (edge_var g n o) (var.Edge edge.dst edge.mode)
edge_listed g n None edge e first = cc
edge_listed g n (Some other) edge e first =
    let same : other ≡ edge = cc e in
    subst (λ x. Has (edge_var g n (Some x)) (var.Edge edge.dst edge.mode)) (sym same) (rw first (inl refl))

has_edge : (g : Graph) (n place : ℕ) (edge : Edge) → place < n → slice_get g.edges place ≡ Some edge → is_first g place edge ≡ true → Has (edge_vars g n) (var.Edge edge.dst edge.mode)
has_edge g zero place edge below is first = absurd (omega (arith, below))
has_edge g (suc n) place edge below is first = elim (cases_eq place n) [
  | inl same ↦ has_left (edge_var g n (slice_get g.edges n)) (edge_vars g n) (var.Edge edge.dst edge.mode)
      (edge_listed g n (slice_get g.edges n) edge (ap (λ k. slice_get g.edges k) (sym same) ∙ is) (subst (λ k. is_first g k edge ≡ true) same first))
  | inr other ↦ has_right (edge_var g n (slice_get g.edges n)) (edge_vars g n) (var.Edge edge.dst edge.mode) (has_edge g n place edge (omega (arith, below, other)) is first)
]

starts_one : (a b : ℕ) (list : List EdgeIx) → starts_at a list ≡ true → starts_at b list ≡ true → a ≡ b
starts_one a b [] x y = cc
starts_one a b (e ∷ list) x y = grind (arith, nat_tests)

-- a pin in a mode has one first edge
one_first : (g : Graph) (n m : ℕ) (v : Var) → IsEdgeVar g n v → IsEdgeVar g m v → n ≡ m
one_first g n m v a b =
    let both : var.Edge a.edge.dst a.edge.mode ≡ var.Edge b.edge.dst b.edge.mode = sym a.of_edge ∙ b.of_edge in
    let pins : a.edge.dst ≡ b.edge.dst = cc both in
    let modes : a.edge.mode ≡ b.edge.mode = cc both in
    let first : starts_at n (into_from 0 g.edges b.edge.dst.0 b.edge.mode) ≡ true =
    subst (λ (d : PinIx). starts_at n (into_from 0 g.edges d.0 b.edge.mode) ≡ true) pins
    (subst (λ mode. starts_at n (into_from 0 g.edges a.edge.dst.0 mode) ≡ true) modes a.first) in
    starts_one n m (into_from 0 g.edges b.edge.dst.0 b.edge.mode) first b.first

once_if : (b : Bool) (v : Var) → Once (if b then v ∷ [] else [])
once_if true v = (λ h. h, tt)
once_if false v = tt

edge_once : (g : Graph) (n : ℕ) (o : Option Edge) → Once (edge_var g n o)
edge_once g n None = tt
edge_once g n (Some e) = once_if (is_first g n e) (var.Edge e.dst e.mode)

edges_once : (g : Graph) (n : ℕ) → Once (edge_vars g n)
edges_once g zero = tt
edges_once g (suc n) =
    once_append (edge_var g n (slice_get g.edges n)) (edge_vars g n) (edge_once g n (slice_get g.edges n)) (edges_once g n)
    (λ v here later. let b = found_edge g n v later in
    let same = one_first g n b.0 v (edge_here g n (slice_get g.edges n) refl v here) b.2 in
    absurd (omega (arith, same, b.1)))

same_test : (n : ℕ) → (n == n) ≡ true
same_test n = elim (eqb_tells n n) [ inl here ↦ here.0 | inr apart ↦ absurd (apart.1 refl) ]

-- the first edge into a pin in a mode
record First (g : Graph) (pin : PinIx) (mode : ℕ) : Type 0 where
  pub place : ℕ
  pub edge : Edge
  pub is : slice_get g.edges place ≡ Some edge
  pub first : is_first g place edge ≡ true
  pub same : var.Edge pin mode ≡ var.Edge edge.dst edge.mode

first_of : (g : Graph) → ListsEnds g → (pin : PinIx) (mode number : ℕ) → IsEdgeInto g pin.0 mode number → First g pin mode
first_of g lists pin mode number into =
    by (into_from 0 g.edges pin.0 mode) refl (((lists pin.0 mode).exact number).1 (into.edge, into.there, (into.ends, into.in_mode)))
  where
    by : (list : List EdgeIx) → into_from 0 g.edges pin.0 mode ≡ list → Has list (edge_ix number) → First g pin mode
    by [] e has = absurd has
    by (k ∷ rest) e has =
        let f = ((lists pin.0 mode).exact k.0).0 (subst (λ xs. Has xs (edge_ix k.0)) (sym e) (inl refl)) in
        let pins : f.0.dst ≡ pin = ap pin_ix f.2.0 in
        let list : into_from 0 g.edges f.0.dst.0 f.0.mode ≡ k ∷ rest =
        ap (λ d. into_from 0 g.edges d f.0.mode) f.2.0 ∙ ap (λ m. into_from 0 g.edges pin.0 m) f.2.1 ∙ e in
        record {
          place = k.0;
          edge = f.0;
          is = f.1;
          first = ap (λ xs. starts_at k.0 xs) list ∙ same_test k.0;
          same = ap (λ (d : PinIx). var.Edge d mode) (sym pins) ∙ ap (λ m. var.Edge f.0.dst m) (sym f.2.1);
        }

-- pins of the block

record IsEntryVar (g : Graph) (place : ℕ) (v : Var) : Type 0 where
  pub pin : PinAt
  pub is : slice_get g.pins place ≡ Some pin
  pub entry : is_entry g pin ≡ true
  pub of_pin : v ≡ var.Entry (pin_ix place)

entry_here : (g : Graph) (n : ℕ) (o : Option PinAt) → slice_get g.pins n ≡ o → (v : Var) → Has (entry_var g n o) v → IsEntryVar g n v
entry_here g n None e v has = absurd has
entry_here g n (Some pin) e v has = by (is_entry g pin) refl has
  where
    by : (b : Bool) → is_entry g pin ≡ b → Has (if b then var.Entry (pin_ix n) ∷ [] else []) v → IsEntryVar g n v
    by true entry (inl is) = record { pin = pin; is = e; entry = entry; of_pin = is }
    by true entry (inr h) = absurd h
    by false entry h = absurd h

found_pin : (g : Graph) (n : ℕ) (v : Var) → Has (entry_vars g n) v → (place : ℕ) × (place < n) × IsEntryVar g place v
found_pin g zero v has = absurd has
found_pin g (suc n) v has = elim (has_either (entry_var g n (slice_get g.pins n)) (entry_vars g n) v has) [
  | inl here ↦ (n, omega arith, entry_here g n (slice_get g.pins n) refl v here)
  | inr later ↦ (let r = found_pin g n v later in (r.0, omega (arith, r.1), r.2))
]

pin_listed : (g : Graph) (n : ℕ) (o : Option PinAt) (pin : PinAt) → o ≡ Some pin → is_entry g pin ≡ true → Has (entry_var g n o) (var.Entry (pin_ix n))
pin_listed g n None pin e entry = cc
pin_listed g n (Some other) pin e entry =
    let same : other ≡ pin = cc e in
    subst (λ x. Has (entry_var g n (Some x)) (var.Entry (pin_ix n))) (sym same) (rw entry (inl refl))

has_pin : (g : Graph) (n place : ℕ) (pin : PinAt) → place < n → slice_get g.pins place ≡ Some pin → is_entry g pin ≡ true → Has (entry_vars g n) (var.Entry (pin_ix place))
has_pin g zero place pin below is entry = absurd (omega (arith, below))
has_pin g (suc n) place pin below is entry = elim (cases_eq place n) [
  | inl same ↦ has_left (entry_var g n (slice_get g.pins n)) (entry_vars g n) (var.Entry (pin_ix place))
      (subst (λ k. Has (entry_var g n (slice_get g.pins n)) (var.Entry (pin_ix k))) (sym same) (pin_listed g n (slice_get g.pins n) pin (ap (λ k. slice_get g.pins k) (sym same) ∙ is) entry))
  | inr other ↦ has_right (entry_var g n (slice_get g.pins n)) (entry_vars g n) (var.Entry (pin_ix place)) (has_pin g n place pin (omega (arith, below, other)) is entry)
]

one_pin : (g : Graph) (n m : ℕ) (v : Var) → IsEntryVar g n v → IsEntryVar g m v → n ≡ m
one_pin g n m v a b = let both : var.Entry (pin_ix n) ≡ var.Entry (pin_ix m) = sym a.of_pin ∙ b.of_pin in let pins : pin_ix n ≡ pin_ix m = cc both in ap (λ (p : PinIx). p.0) pins

pin_once : (g : Graph) (n : ℕ) (o : Option PinAt) → Once (entry_var g n o)
pin_once g n None = tt
pin_once g n (Some pin) = once_if (is_entry g pin) (var.Entry (pin_ix n))

pins_once : (g : Graph) (n : ℕ) → Once (entry_vars g n)
pins_once g zero = tt
pins_once g (suc n) =
    once_append (entry_var g n (slice_get g.pins n)) (entry_vars g n) (pin_once g n (slice_get g.pins n)) (pins_once g n)
    (λ v here later. let b = found_pin g n v later in
    let same = one_pin g n b.0 v (entry_here g n (slice_get g.pins n) refl v here) b.2 in
    absurd (omega (arith, same, b.1)))

leads_not : (s : Side) → leads_in s ≡ true → s ≡ Output → ⊥
leads_not Input leads is = cc
leads_not Output leads is = cc
leads_not Clock leads is = cc

not_leads : (s : Side) → (s ≡ Output → ⊥) → leads_in s ≡ true
not_leads Input other = refl
not_leads Output other = absurd (other refl)
not_leads Clock other = refl

entry_root : (g : Graph) (n : ℕ) (pin : PinAt) → slice_get g.pins n ≡ Some pin → is_entry g pin ≡ true → IsRootInput g n
entry_root g n pin is entry = elim (eqb_tells pin.pb.0 0) [
  | inl zero' ↦ by (port_at g pin) refl (rw zero'.0 at entry) zero'.1
  | inr other ↦ absurd (let bad : false ≡ true = rw other.0 at entry in let no : ⊥ = cc bad in no)
]
  where
    by : (o : Option Port) → port_at g pin ≡ o → option_map_or (λ (port : Port). leads_in port.side) o false ≡ true → pin.pb.0 ≡ 0 → IsRootInput g n
    by None e h z = cc
    by (Some port) e h z = record { at = pin; is = is; of_pb = z; port = port; is_port = e; fits = leads_not port.side h }

root_entry : (g : Graph) (n : ℕ) → (root : IsRootInput g n) → is_entry g root.at ≡ true
root_entry g n root = elim (eqb_tells root.at.pb.0 0) [
  | inl zero' ↦ rw zero'.0 (ap (λ o. option_map_or (λ (port : Port). leads_in port.side) o false) root.is_port ∙ not_leads root.port.side root.fits)
  | inr other ↦ absurd (other.1 root.of_pb)
]

-- all of them

entries_once : (g : Graph) (e : Entries) → Once (entries_of g e)
entries_once g Free = pins_once g (length g.pins)
entries_once g (Fixed es) = tt

-- which kind of variable it is
kind_of_var : Var → ℕ
kind_of_var (var.Mode pb) = 0
kind_of_var (var.Occupant pb) = 0
kind_of_var (var.Edge pin mode) = 1
kind_of_var (var.Entry pin) = 2

instance_kind : (place : ℕ) (o : Option PbKind) (v : Var) → Has (var_at place o) v → kind_of_var v ≡ 0
unfolding kind_of_var
instance_kind place None v has = absurd has
instance_kind place (Some (Leaf atom)) v (inl is) = ap kind_of_var is
instance_kind place (Some (Leaf atom)) v (inr has) = absurd has
instance_kind place (Some (Modes count)) v (inl is) = ap kind_of_var is
instance_kind place (Some (Modes count)) v (inr has) = absurd has

edge_kind : (g : Graph) (place : ℕ) (v : Var) → IsEdgeVar g place v → kind_of_var v ≡ 1
unfolding kind_of_var
edge_kind g place v is = ap kind_of_var is.of_edge

entry_kind : (g : Graph) (e : Entries) (v : Var) → Has (entries_of g e) v → kind_of_var v ≡ 2
unfolding kind_of_var
entry_kind g Free v has = ap kind_of_var (found_pin g (length g.pins) v has).2.of_pin
entry_kind g (Fixed es) v has = absurd has

module _ (g : Graph) (t : Task) (lists : ListsEnds g) where
  inner_kind : (v : Var) → Has (edge_vars g (length g.edges) ++ instance_vars g (length g.instances)) v → kind_of_var v < 2
  inner_kind v has = elim (has_either (edge_vars g (length g.edges)) (instance_vars g (length g.instances)) v has) [
    | inl edge ↦ (let r = found_edge g (length g.edges) v edge in omega (arith, edge_kind g r.0 v r.2))
    | inr instance ↦ (let r = found_instance g t (length g.instances) v instance in omega (arith, instance_kind r.place (kind_at g r.place) v r.here))
  ]

  vars_once : Once (vars_of g t)
  vars_once =
      once_append (entries_of g t.entries) (edge_vars g (length g.edges) ++ instance_vars g (length g.instances)) (entries_once g t.entries)
      (once_append (edge_vars g (length g.edges)) (instance_vars g (length g.instances)) (edges_once g (length g.edges)) (instances_once g t (length g.instances))
      (λ v edge instance.
      let e = found_edge g (length g.edges) v edge in
      let r = found_instance g t (length g.instances) v instance in
      absurd (omega (arith, edge_kind g e.0 v e.2, instance_kind r.place (kind_at g r.place) v r.here))))
      (λ v entry rest. absurd (omega (arith, entry_kind g t.entries v entry, inner_kind v rest)))

  entry_is_var : (e : Entries) → t.entries ≡ e → (v : Var) → Has (entries_of g e) v → IsVar g t v
  entry_is_var Free is v has =
      let r = found_pin g (length g.pins) v has in
      subst (IsVar g t) (sym r.2.of_pin) (entry_root g r.0 r.2.pin r.2.is r.2.entry, is)
  entry_is_var (Fixed es) is v has = absurd has

  is_var : (v : Var) → Has (vars_of g t) v → IsVar g t v
  is_var v has = elim (has_either (entries_of g t.entries) (edge_vars g (length g.edges) ++ instance_vars g (length g.instances)) v has) [
    | inl entry ↦ entry_is_var t.entries refl v entry
    | inr rest ↦ elim (has_either (edge_vars g (length g.edges)) (instance_vars g (length g.instances)) v rest) [
      | inl edge ↦ (let r = found_edge g (length g.edges) v edge in
          subst (IsVar g t) (sym r.2.of_edge) (r.0, record { edge = r.2.edge; there = r.2.is; ends = refl; in_mode = refl }))
      | inr instance ↦ (let r = found_instance g t (length g.instances) v instance in instance_var g t r.place (kind_at g r.place) refl v r.here)
    ]
  ]

  from_instance : (pb : ℕ) (k : PbKind) (v : Var) → kind_at g pb ≡ Some k → Has (var_at pb (Some k)) v → Has (vars_of g t) v
  from_instance pb k v is here =
      has_right (entries_of g t.entries) (edge_vars g (length g.edges) ++ instance_vars g (length g.instances)) v
      (has_right (edge_vars g (length g.edges)) (instance_vars g (length g.instances)) v
      (has_instance g (length g.instances) pb v (kind_inside g pb k is) (subst (λ o. Has (var_at pb o) v) (sym is) here)))

  is_listed : (v : Var) → IsVar g t v → Has (vars_of g t) v
  is_listed (var.Mode pb) is = from_instance pb.0 (Modes is.count) (var.Mode pb) is.is (inl refl)
  is_listed (var.Occupant pb) is = from_instance pb.0 (Leaf is.atom) (var.Occupant pb) is.is (inl refl)
  is_listed (var.Edge pin mode) is =
      let f = first_of g lists pin mode is.0 is.1 in
      has_right (entries_of g t.entries) (edge_vars g (length g.edges) ++ instance_vars g (length g.instances)) (var.Edge pin mode)
      (has_left (edge_vars g (length g.edges)) (instance_vars g (length g.instances)) (var.Edge pin mode)
      (subst (Has (edge_vars g (length g.edges))) (sym f.same) (has_edge g (length g.edges) f.place f.edge (slice_get_within g.edges f.place f.edge f.is) f.is f.first)))
  is_listed (var.Entry pin) is =
      has_left (entries_of g t.entries) (edge_vars g (length g.edges) ++ instance_vars g (length g.instances)) (var.Entry pin)
      (subst (λ e. Has (entries_of g e) (var.Entry pin)) (sym is.1) (has_pin g (length g.pins) pin.0 is.0.at (slice_get_within g.pins pin.0 is.0.at is.0.is) is.0.is (root_entry g pin.0 is.0)))

  pub vars_are : AreVars g t (vars_of g t)
  vars_are = record { once = vars_once; exact = λ v. (is_var v, is_listed v) }

  pub room_told : (tally : Tally) (r : Option ℕ) → IsTallyOf g t tally (vars_of g t) → ((exact : ℕ) → IsCapped tally.product exact → IsCapped r (tally.count * exact)) →
      MatchOption r (IsTooLarge g t) (IsRoom g t)
  room_told tally r told capped = by r (capped (product_of g t (vars_of g t)) told.product)
    where
      by : (r : Option ℕ) → IsCapped r (tally.count * product_of g t (vars_of g t)) → MatchOption r (IsTooLarge g t) (IsRoom g t)
      by None large = record {
        room = length (vars_of g t) * product_of g t (vars_of g t);
        is = record { vars = vars_of g t; are = vars_are; is = refl };
        large = subst (λ n. 2 ^ 64 ≤ n * product_of g t (vars_of g t)) told.count large;
      }
      by (Some n) is = record { vars = vars_of g t; are = vars_are; is = is ∙ ap (λ n. n * product_of g t (vars_of g t)) told.count }
