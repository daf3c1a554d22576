-- What is added is what was meant: each kind of step, and each kind of end.
use Rattle.std.proofs.Common.{◌≡◌, ◌<◌, ◌≤◌, ◌==◌, ◌⊎◌, inl, inr, ℕ, zero, suc, true, List, [], ◌∷◌, Option, Some, None, length, slice_get, refl, sym, ap, ◌∙◌, subst, arith}
use Rattle.std.specs.Prelude.{slice_index_or}
use Rattle.std.specs.List.{list_any}
use Rattle.std.specs.Option.{option_map, option_map_or, option_and_then}
use Rattle.std.proofs.lemmas.Option.{slice_get_within, get_or_from_slice_get}
use Rattle.std.proofs.lemmas.Bool.{cases_Bool, cases_lt}
use Rattle.std.proofs.lemmas.Bool.Decides.{nat_tests}
use Rattle.vtr_base.specs.Lists.{Has, IsFirstPlace}
use Rattle.list_laws.proofs.Members.{has_at, at_has}
use Rattle.arch_types.specs.declared.block.AtomKind.{AtomKind}
use Rattle.arch_types.specs.declared.block.PbType.{PbType}
use Rattle.arch_types.specs.declared.block.Port.{Port}
use Rattle.arch_types.specs.Address.{at}
use Rattle.pb_expand.specs.declared.number.Edge.{Edge}
use Rattle.pb_expand.specs.declared.number.EdgeIx.{EdgeIx}
use Rattle.pb_expand.specs.declared.number.PbIx.{PbIx}
use Rattle.pb_expand.specs.declared.number.PinIx.{PinIx}
use Rattle.pb_expand.specs.declared.number.PinAt.{PinAt}
use Rattle.pb_expand.specs.Graph.{Graph, pb_ix, pin_ix, edge_ix, pin_at, block_at}
use Rattle.pb_expand.specs.Ends.{AreEdgesWith}
use Rattle.pb_expand.specs.Expansion.{IsExpansion, IsPin}
use Rattle.prog_map.specs.Leaves.{AreInputs, IsOutput, port_at, sides_of}
use Rattle.net_types.specs.declared.atom.Conn.{Conn}
use Rattle.task_types.specs.declared.task.Task.{Task}
use Rattle.task_types.specs.declared.decision.Decision.{Decision}
use Rattle.task_types.specs.Decisions.{edge_in}
use Rattle.task_types.specs.Ends.{FitsIn, IsConnAt, IsLutInput}
use Rattle.task_types.specs.Open.{AllowsEdge, AllowsPass, IsOpenTo}
use Rattle.task_open.specs.Steps.{MayPass}
use Rattle.task_reach.specs.Gains.{Gains, FromFirst, FromItem}
use Rattle.task_reach.specs.Valid.{IsTaskOf}
use Rattle.task_reach.specs.Reached.{MayComeBy, MayComeThrough, IsBitOfPort, IsOpenLeaf, IsOpenConn, IsOpenInput}
use Rattle.task_reach.proofs.Growing.{gains_like}

some_same : {X : Type 0} {x y : X} → Some x ≡ Some y → x ≡ y
some_same e = cc

-- the edges into a pin

pub edge_there : (g : Graph) (pin n : ℕ) (edges : List EdgeIx) (e : EdgeIx) → AreEdgesWith g (λ e. e.dst.0 ≡ pin) edges → slice_get edges n ≡ Some e → e.0 < length g.edges
edge_there g pin n edges e are is = let found = (are.exact e.0).0 (has_at edges n e is) in slice_get_within g.edges e.0 found.0 found.1

pub all_sources : (g : Graph) (made : List Decision) (pin n : ℕ) (edges : List EdgeIx) (xs ys : List ℕ) → AreEdgesWith g (λ e. e.dst.0 ≡ pin) edges → length edges ≤ n →
    Gains xs ys (FromFirst (FromItem edges (λ e. MayComeBy g made e.0)) n) → Gains xs ys (AllowsEdge g made pin)
all_sources g made pin n edges xs ys are all gains =
    gains_like xs ys (FromFirst (FromItem edges (λ e. MayComeBy g made e.0)) n) (AllowsEdge g made pin) gains
    (λ q is.
    let e = is.from.item in
    let may = is.from.from.may in
    let found = (are.exact e.0).0 (has_at edges is.place e is.from.is) in
    let same : found.0 ≡ may.edge = some_same (sym found.1 ∙ may.is) in
    let ends : may.edge.dst.0 ≡ pin = ap (λ (x : Edge). x.dst.0) (sym same) ∙ found.2 in
    record {
      number = e.0;
      edge = may.edge;
      is = may.is;
      ends = ends;
      starts = is.from.from.starts;
      open' = may.open';
      mode = may.mode;
      free = subst (λ p. (edge_in made p may.edge.mode ≡ None) ⊎ (edge_in made p may.edge.mode ≡ Some (Some (edge_ix e.0)))) ends may.free;
    })
    (λ q allows.
    let k = at_has edges (edge_ix allows.number) ((are.exact allows.number).1 (allows.edge, allows.is, allows.ends)) in
    record {
      place = k.0;
      before = (let less = slice_get_within edges k.0 (edge_ix allows.number) k.1 in omega (arith, less, all));
      from = record {
        item = edge_ix allows.number;
        is = k.1;
        from = record {
          may = record {
            edge = allows.edge;
            is = allows.is;
            open' = allows.open';
            mode = allows.mode;
            free = subst (λ p. (edge_in made p allows.edge.mode ≡ None) ⊎ (edge_in made p allows.edge.mode ≡ Some (Some (edge_ix allows.number)))) (sym allows.ends) allows.free;
          };
          starts = allows.starts;
        };
      };
    })

-- the inputs of a LUT

first_one : {X : Type 0} (xs : List X) (x : X) (i j : ℕ) → IsFirstPlace xs x i → IsFirstPlace xs x j → i ≡ j
first_one xs x i j a b = elim (cases_lt i j) [
  | inl less ↦ absurd (b.first i less a.there)
  | inr more ↦ elim (cases_lt j i) [
    | inl less ↦ absurd (a.first j less b.there)
    | inr met ↦ omega (arith, more, met)
  ]
]

pub one_inputs : (g : Graph) (leaf port width place wide : ℕ) → AreInputs g leaf port width → AreInputs g leaf place wide → (port ≡ place) × (width ≡ wide)
one_inputs g leaf port width place wide a b =
    let ports : a.ports ≡ b.ports = some_same (sym a.are ∙ b.are) in
    let same = first_one (sides_of b.ports) _ port place (subst (λ ps. IsFirstPlace (sides_of ps) _ port) ports a.first) b.first in
    let there : a.port ≡ b.port = some_same (sym a.there ∙ ap (λ ps. slice_get ps port) ports ∙ ap (λ k. slice_get b.ports k) same ∙ b.there) in
    (same, a.wide ∙ ap (λ (p : Port). p.width) there ∙ sym b.wide)

-- the ports of an instance

pub port_is : (g : Graph) (leaf : ℕ) (ports : List Port) (pin : PinAt) → option_map (λ (block : PbType). block.ports) (block_at g leaf) ≡ Some ports → pin.pb.0 ≡ leaf → port_at g pin ≡ slice_get ports pin.port
port_is g leaf ports pin are of = ap (λ n. option_and_then (λ (block : PbType). slice_get block.ports pin.port) (block_at g n)) of ∙ by (block_at g leaf) are
  where
    by : (o : Option PbType) → option_map (λ (block : PbType). block.ports) o ≡ Some ports → option_and_then (λ (block : PbType). slice_get block.ports pin.port) o ≡ slice_get ports pin.port
    by None is = absurd (let bad : ⊥ = cc is in bad)
    by (Some block) is = let same : block.ports ≡ ports = some_same is in ap (λ ps. slice_get ps pin.port) same

pub bit_inside : (g : Graph) (leaf port bit q width : ℕ) (ports : List Port) (p : Port) → IsExpansion g → option_map (λ (block : PbType). block.ports) (block_at g leaf) ≡ Some ports →
    slice_get ports port ≡ Some p → width ≡ p.width → slice_get g.pins q ≡ Some (pin_at leaf port bit) → bit < width
bit_inside g leaf port bit q width ports p law are there wide is = by (at g.root pin.address) refl
  where
    pin : IsPin g leaf port bit
    pin = (law.has_pins.exact leaf port bit).0 (has_at g.pins q (pin_at leaf port bit) is)

    is_block : block_at g leaf ≡ at g.root pin.address
    is_block = ap (λ o. option_and_then (λ address. at g.root address) o) pin.is_instance

    by : (o : Option PbType) → at g.root pin.address ≡ o → bit < width
    by None none =
        let nothing : Some ports ≡ None = sym are ∙ ap (λ o. option_map (λ (block : PbType). block.ports) o) (is_block ∙ none) in
        let bad : ⊥ = cc nothing in absurd bad
    by (Some block) some =
        let same : ports ≡ block.ports = some_same (sym are ∙ ap (λ o. option_map (λ (block : PbType). block.ports) o) (is_block ∙ some)) in
        let here : Some p ≡ Some pin.is = sym there ∙ ap (λ ps. slice_get ps port) same ∙ sym (ap (λ o. slice_get (option_map_or (λ (block : PbType). block.ports) o []) port) some) ∙ pin.is_port in
        let ports_same : p ≡ pin.is = some_same here in
        let wide_same : p.width ≡ pin.is.width = ap (λ (x : Port). x.width) ports_same in
        omega (arith, pin.is_bit, wide, wide_same)

pub input_inside : (g : Graph) (leaf port width bit q : ℕ) → IsExpansion g → AreInputs g leaf port width → slice_get g.pins q ≡ Some (pin_at leaf port bit) → bit < width
input_inside g leaf port width bit q law inputs is = bit_inside g leaf port bit q width inputs.ports inputs.port law inputs.are inputs.there inputs.wide is

pub all_passed : (g : Graph) (made : List Decision) (pin : ℕ) (at : PinAt) (port width : ℕ) (xs ys : List ℕ) → IsExpansion g → slice_get g.pins pin ≡ Some at → IsOutput g at → AreInputs g at.pb.0 port width →
    Gains xs ys (FromFirst (MayComeThrough g made at.pb.0 port) width) → Gains xs ys (AllowsPass g made pin)
all_passed g made pin at port width xs ys law is output inputs gains =
    gains_like xs ys (FromFirst (MayComeThrough g made at.pb.0 port) width) (AllowsPass g made pin) gains
    (λ q from. record {
      at = at;
      is = is;
      output = output;
      port = port;
      width = width;
      inputs = inputs;
      input = from.place;
      leads = from.from.is;
      open' = from.from.may.open';
      free = from.from.may.free;
    })
    (λ q allows. by q allows (some_same (sym allows.is ∙ is)))
  where
    by : (q : ℕ) (allows : AllowsPass g made pin q) → allows.at ≡ at → FromFirst (MayComeThrough g made at.pb.0 port) width q
    by q allows same =
        let mine : AreInputs g at.pb.0 allows.port allows.width = subst (λ (a : PinAt). AreInputs g a.pb.0 allows.port allows.width) same allows.inputs in
        let one = one_inputs g at.pb.0 allows.port allows.width port width mine inputs in
        let leads : slice_get g.pins q ≡ Some (pin_at at.pb.0 port allows.input) = allows.leads ∙ ap (λ (a : PinAt). Some (pin_at a.pb.0 allows.port allows.input)) same ∙ ap (λ k. Some (pin_at at.pb.0 k allows.input)) one.0 in
        record {
          place = allows.input;
          before = input_inside g at.pb.0 port width allows.input q law inputs leads;
          from = record { may = subst (λ (a : PinAt). MayPass g made a.pb.0 allows.input) same (record { open' = allows.open'; free = allows.free }); is = leads };
        }

pub no_output : (g : Graph) (made : List Decision) (pin : ℕ) (at : PinAt) → slice_get g.pins pin ≡ Some at → (IsOutput g at → ⊥) → (q : ℕ) → AllowsPass g made pin q → ⊥
no_output g made pin at is none q allows = let same : allows.at ≡ at = some_same (sym allows.is ∙ is) in none (subst (λ a. IsOutput g a) same allows.output)

pub no_inputs : (g : Graph) (made : List Decision) (pin : ℕ) (at : PinAt) → slice_get g.pins pin ≡ Some at → ((port width : ℕ) → AreInputs g at.pb.0 port width → ⊥) → (q : ℕ) → AllowsPass g made pin q → ⊥
no_inputs g made pin at is none q allows = let same : allows.at ≡ at = some_same (sym allows.is ∙ is) in none allows.port allows.width (subst (λ (a : PinAt). AreInputs g a.pb.0 allows.port allows.width) same allows.inputs)

pub all_bits : (g : Graph) (leaf port width : ℕ) (xs ys : List ℕ) → IsExpansion g → AreInputs g leaf port width → Gains xs ys (FromFirst (λ bit q. slice_get g.pins q ≡ Some (pin_at leaf port bit)) width) → Gains xs ys (IsLutInput g leaf)
all_bits g leaf port width xs ys law inputs gains =
    gains_like xs ys (FromFirst (λ bit q. slice_get g.pins q ≡ Some (pin_at leaf port bit)) width) (IsLutInput g leaf) gains
    (λ q from. record { port = port; width = width; inputs = inputs; bit = from.place; is = from.from })
    (λ q input.
    let one = one_inputs g leaf input.port input.width port width input.inputs inputs in
    let is : slice_get g.pins q ≡ Some (pin_at leaf port input.bit) = input.is ∙ ap (λ k. Some (pin_at leaf k input.bit)) one.0 in
    record { place = input.bit; before = input_inside g leaf port width input.bit q law inputs is; from = is })

pub all_ports : (g : Graph) (kind : AtomKind) (conn : Conn) (leaf n : ℕ) (ports : List Port) (xs ys : List ℕ) → option_map (λ (block : PbType). block.ports) (block_at g leaf) ≡ Some ports → length ports ≤ n →
    Gains xs ys (FromFirst (IsBitOfPort g kind conn leaf ports) n) → Gains xs ys (IsConnAt g (FitsIn kind conn) conn leaf)
all_ports g kind conn leaf n ports xs ys are all gains =
    gains_like xs ys (FromFirst (IsBitOfPort g kind conn leaf ports) n) (IsConnAt g (FitsIn kind conn) conn leaf) gains
    (λ q from. record {
      on = record {
        at = pin_at leaf from.place conn.bit;
        is = from.from.is;
        of_pb = refl;
        port = from.from.port;
        is_port = port_is g leaf ports (pin_at leaf from.place conn.bit) are refl ∙ from.from.is_port;
        fits = from.from.fits;
      };
      bit = refl;
    })
    (λ q at.
    let place = at.on.at.port in
    let there : slice_get ports place ≡ Some at.on.port = sym (port_is g leaf ports at.on.at are at.on.of_pb) ∙ at.on.is_port in
    let is : slice_get g.pins q ≡ Some (pin_at leaf place conn.bit) = at.on.is ∙ ap (λ k. Some (pin_at k place at.on.at.bit)) at.on.of_pb ∙ ap (λ b. Some (pin_at leaf place b)) at.bit in
    record {
      place = place;
      before = (let less = slice_get_within ports place at.on.port there in omega (arith, less, all));
      from = record { port = at.on.port; is_port = there; fits = at.on.fits; is = is };
    })

-- the leaves that are listed for an atom

nothing_at : (xss : List (List PbIx)) (k : ℕ) → slice_get xss k ≡ None → slice_index_or xss k [] ≡ []
nothing_at [] k is = refl
nothing_at (xs ∷ xss) zero is = absurd (let bad : ⊥ = cc is in bad)
nothing_at (xs ∷ xss) (suc k) is = nothing_at xss k is

pub no_homes : (t : Task) (place : ℕ) → slice_get t.homes place ≡ None → [] ≡ slice_index_or t.homes place []
no_homes t place none = sym (nothing_at t.homes place none)

pub some_homes : (t : Task) (place : ℕ) (leaves list : List PbIx) → slice_get t.homes place ≡ Some leaves → list ≡ leaves → list ≡ slice_index_or t.homes place []
some_homes t place leaves list is same = same ∙ sym (get_or_from_slice_get t.homes place leaves [] is)

pub listed_inside : (g : Graph) (t : Task) (place n : ℕ) (list : List PbIx) (leaf : PbIx) → IsTaskOf g t → list ≡ slice_index_or t.homes place [] → slice_get list n ≡ Some leaf → leaf.0 < length g.instances
listed_inside g t place n list leaf task is found = by (slice_get t.homes place) refl
  where
    by : (o : Option (List PbIx)) → slice_get t.homes place ≡ o → leaf.0 < length g.instances
    by None none = absurd (let bad : ⊥ = cc (sym found ∙ ap (λ xs. slice_get xs n) (is ∙ nothing_at t.homes place none)) in bad)
    by (Some leaves) some = task.leaves place leaves leaf some (has_at leaves n leaf (ap (λ xs. slice_get xs n) (sym (is ∙ get_or_from_slice_get t.homes place leaves [] some)) ∙ found))

any_found : (xs : List PbIx) (leaf : ℕ) → list_any (λ (pb : PbIx). pb.0 == leaf) xs ≡ true → (k : ℕ) × (slice_get xs k ≡ Some (pb_ix leaf))
any_found [] leaf is = absurd (let bad : ⊥ = cc is in bad)
any_found (x ∷ xs) leaf is = elim (cases_Bool (x.0 == leaf)) [
  | inl here ↦ (0, let same : x.0 ≡ leaf = grind (arith, nat_tests) in ap (λ n. Some (pb_ix n)) same)
  | inr not_here ↦ (let r = any_found xs leaf (rw not_here at is) in (suc r.0, r.1))
]

module _ (g : Graph) (t : Task) (made : List Decision) (place n : ℕ) (list : List PbIx) (xs ys : List ℕ) (is : list ≡ slice_index_or t.homes place []) (all : length list ≤ n) where
  listed : (leaf : ℕ) → IsOpenTo g t made place leaf → (k : ℕ) × (k < n) × (slice_get list k ≡ Some (pb_ix leaf))
  listed leaf opens =
      let r = any_found list leaf (ap (λ l. list_any (λ (pb : PbIx). pb.0 == leaf) l) is ∙ opens.holds) in
      let less = slice_get_within list r.0 (pb_ix leaf) r.1 in
      (r.0, omega (arith, less, all), r.1)

  pub all_leaves : Gains xs ys (FromFirst (FromItem list (λ (leaf : PbIx). IsOpenLeaf g t made place leaf.0)) n) → Gains xs ys (IsOpenTo g t made place)
  all_leaves gains =
      gains_like xs ys (FromFirst (FromItem list (λ (leaf : PbIx). IsOpenLeaf g t made place leaf.0)) n) (IsOpenTo g t made place) gains
      (λ q from. subst (λ l. IsOpenTo g t made place l) (sym from.from.from.same) from.from.from.open')
      (λ q opens. let k = listed q opens in record { place = k.0; before = k.1; from = record { item = pb_ix q; is = k.2; from = record { open' = opens; same = refl } } })

  pub all_conns : (kind : AtomKind) (conn : Conn) → Gains xs ys (FromFirst (FromItem list (λ (leaf : PbIx). IsOpenConn g t made place kind conn leaf.0)) n) →
      Gains xs ys (λ pin. (leaf : ℕ) × IsOpenConn g t made place kind conn leaf pin)
  all_conns kind conn gains =
      gains_like xs ys (FromFirst (FromItem list (λ (leaf : PbIx). IsOpenConn g t made place kind conn leaf.0)) n) (λ pin. (leaf : ℕ) × IsOpenConn g t made place kind conn leaf pin) gains
      (λ q from. (from.from.item.0, from.from.from))
      (λ q open'. let k = listed open'.0 open'.1.open' in record { place = k.0; before = k.1; from = record { item = pb_ix open'.0; is = k.2; from = open'.1 } })

  pub all_luts : Gains xs ys (FromFirst (FromItem list (λ (leaf : PbIx). IsOpenInput g t made place leaf.0)) n) → Gains xs ys (λ pin. (leaf : ℕ) × IsOpenTo g t made place leaf × IsLutInput g leaf pin)
  all_luts gains =
      gains_like xs ys (FromFirst (FromItem list (λ (leaf : PbIx). IsOpenInput g t made place leaf.0)) n) (λ pin. (leaf : ℕ) × IsOpenTo g t made place leaf × IsLutInput g leaf pin) gains
      (λ q from. (from.from.item.0, from.from.from.open', from.from.from.input))
      (λ q open'. let k = listed open'.0 open'.1 in record { place = k.0; before = k.1; from = record { item = pb_ix open'.0; is = k.2; from = record { open' = open'.1; input = open'.2 } } })

pub all_pins : (g : Graph) (pins : List PinIx) (n : ℕ) (xs ys : List ℕ) → length pins ≤ n → Gains xs ys (FromFirst (FromItem pins (λ (pin : PinIx) q. (q < length g.pins) × (q ≡ pin.0))) n) → Gains xs ys (λ pin. (pin < length g.pins) × Has pins (pin_ix pin))
all_pins g pins n xs ys all gains =
    gains_like xs ys (FromFirst (FromItem pins (λ (pin : PinIx) q. (q < length g.pins) × (q ≡ pin.0))) n) (λ pin. (pin < length g.pins) × Has pins (pin_ix pin)) gains
    (λ q from. (from.from.from.0, subst (λ k. Has pins (pin_ix k)) (sym from.from.from.1) (has_at pins from.place from.from.item from.from.is)))
    (λ q is. let k = at_has pins (pin_ix q) is.1 in record { place = k.0; before = (let less = slice_get_within pins k.0 (pin_ix q) k.1 in omega (arith, less, all)); from = record { item = pin_ix q; is = k.1; from = (is.0, refl) } })
