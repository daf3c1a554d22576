-- A crowd bars every realisation: each pin is carried from one source.
use Rattle.std.proofs.Common.{◌≡◌, ◌<◌, ◌≤◌, ◌⊎◌, inl, inr, ℕ, zero, suc, List, [], ◌∷◌, Some, map, length, sym, ap, ◌∙◌, subst, arith}
use Rattle.std.specs.Prelude.{slice_get}
use Rattle.std.proofs.lemmas.Bool.Decides.{eqb_tells}
use Rattle.std.proofs.lemmas.List.{length-map}
use Rattle.vtr_base.specs.Lists.{Has}
use Rattle.list_laws.specs.Orders.{StandOnce}
use Rattle.list_laws.proofs.Members.{has_at, at_has, has_map}
use Rattle.list_laws.proofs.Places.{element}
use Rattle.list_laws.proofs.Onces.{once_of}
use Rattle.list_laws.proofs.Picks.{pick}
use Rattle.list_laws.proofs.Counting.{no_longer}
use Rattle.std.proofs.lemmas.Option.{slice_get_within}
use Rattle.arch_types.specs.declared.block.Port.{Port}
use Rattle.arch_types.specs.declared.block.AtomKind.{AtomKind}
use Rattle.arch_types.specs.declared.block.AtomKind.TheVariants as kind
use Rattle.arch_types.specs.declared.block.Side.TheVariants.{Output}
use Rattle.pb_expand.specs.declared.number.PinIx.{PinIx}
use Rattle.pb_expand.specs.declared.number.PbIx.{PbIx}
use Rattle.pb_expand.specs.declared.number.PinAt.{PinAt}
use Rattle.pb_expand.specs.Graph.{Graph, pin_ix}
use Rattle.pb_expand.specs.Kept.{HasSides}
use Rattle.prog_map.specs.Leaves.{port_at, IsLeaf, IsOutput}
use Rattle.prog_map.specs.Choices.{Choices, lut_of, IsModeOf}
use Rattle.prog_map.specs.Back.{StepsBack}
use Rattle.prog_map.specs.Walk.{CarriedIn, IsSource}
use Rattle.task_types.specs.declared.task.Task.{Task}
use Rattle.task_types.specs.declared.task.Need.{Need}
use Rattle.task_types.specs.declared.real.Real.{Real}
use Rattle.task_types.specs.declared.decision.Decision.{Decision}
use Rattle.net_types.specs.declared.atom.Atom.{Atom}
use Rattle.net_types.specs.declared.atom.Conn.{Conn}
use Rattle.task_types.specs.Nets.{NetSaid, AreOnePin, HasOneNet}
use Rattle.task_types.specs.Tasks.{HasNetsOnce}
use Rattle.task_types.specs.Ends.{FitsOut, IsMadeAt, IsFirstPin, IsRootInput, net_of}
use Rattle.task_types.specs.Ends.{IsSource as IsNetSource}
use Rattle.task_types.specs.Realises.{IsAt, Enters, Realises}
use Rattle.task_types.specs.Nodes.{IsFreeWay, IsCrowd}
use Rattle.task_law.proofs.Base.{some_injective, none_some, on_output, from_on, leaf_modes}
use Rattle.task_law.proofs.Agrees.{AgreesAll}
use Rattle.task_law.proofs.Bars.{active_real, end_possible, source_possible, step_allowed, entry_root}

fits_output : (k : AtomKind) (conn : Conn) (port : Port) → FitsOut k conn port → port.side ≡ Output
fits_output (kind.Cell model) conn port fits = fits.1
fits_output kind.InPad conn port fits = fits
fits_output kind.OutPad conn port fits = fits
fits_output kind.Lut conn port fits = fits
fits_output kind.Latch conn port fits = fits

one_pin : (k : AtomKind) (a b : Conn) (port : Port) → FitsOut k a port → FitsOut k b port → a.bit ≡ b.bit → AreOnePin k a b
one_pin (kind.Cell model) a b port x y bit = (sym x.0 ∙ y.0, bit)
one_pin kind.InPad a b port x y bit = bit
one_pin kind.OutPad a b port x y bit = bit
one_pin kind.Lut a b port x y bit = bit
one_pin kind.Latch a b port x y bit = bit

has_or_not : (pins : List PinIx) (p : ℕ) → Has pins (pin_ix p) ⊎ (Has pins (pin_ix p) → ⊥)
has_or_not [] p = inr (λ h. h)
has_or_not (x ∷ pins) p = elim (eqb_tells p x.0) [
  | inl same ↦ inl (inl (ap pin_ix same.1))
  | inr apart ↦ elim (has_or_not pins p) [
    | inl there ↦ inl (inr there)
    | inr out ↦ inr (λ h. elim h [ inl e ↦ apart.1 (ap (λ (y : PinIx). y.0) e) | inr there ↦ out there ])
  ]
]

module _ (g : Graph) (n : NetSaid) (t : Task) (sides : HasSides g)
    (one : (c : Choices) (p a b : ℕ) → IsSource g c p a → IsSource g c p b → a ≡ b)
    (nets : HasOneNet n) (once : HasNetsOnce t) (r : Real) (real : Realises g n t r) (made : List Decision) (agrees : AgreesAll r made) where
  -- sources have no step back

  made_output : (net place leaf pin : ℕ) → (m : IsMadeAt g n t net place leaf pin) → IsOutput g m.at.on.at
  made_output net place leaf pin m = record { port = m.at.on.port; is = m.at.on.is_port; side = fits_output m.atom.kind m.is m.at.on.port m.at.on.fits }

  made_first : (net pin x : ℕ) → IsFirstPin g n t (IsAt r) net pin → StepsBack g r.prog pin x → ⊥
  made_first net pin x m (inl e) =
      let at = m.made.at.on in
      let is_leaf : IsLeaf g m.leaf = real.of.leaves m.leaf (real.homes.used m.place m.leaf m.at) in
      let has = has_at g.edges e.step.number e.step.edge e.step.is in
      let owner = sides.own e.step.edge at.at has (ap (λ k. slice_get g.pins k) e.step.ends ∙ at.is) (on_output g at.at (made_output net m.place m.leaf pin m.made)) in
      let own : e.step.edge.owner.0 ≡ m.leaf = ap (λ (y : PbIx). y.0) owner ∙ at.of_pb in
      leaf_modes g m.leaf e.step.edge.mode is_leaf (subst (λ l. IsModeOf g l e.step.edge.mode) own (sides.modes e.step.edge has))
  made_first net pin x m (inr e) =
      let at = m.made.at.on in
      let same : e.at ≡ at.at = some_injective (sym e.is ∙ at.is) in
      let pb : e.at.pb.0 ≡ m.leaf = ap (λ (y : PinAt). y.pb.0) same ∙ at.of_pb in
      none_some (sym (real.homes.open' m.place m.leaf m.at) ∙ ap (λ l. lut_of r.prog l) (sym pb) ∙ e.holds)

  root_no_output : (pin : ℕ) (at : PinAt) → IsRootInput g pin → slice_get g.pins pin ≡ Some at → IsOutput g at → ⊥
  root_no_output pin at root is output =
      let same : at ≡ root.at = some_injective (sym is ∙ root.is) in
      let ports : output.port ≡ root.port = some_injective (sym output.is ∙ ap (λ y. port_at g y) same ∙ root.is_port) in
      root.fits (ap (λ (y : Port). y.side) (sym ports) ∙ output.side)

  root_first : (pin x : ℕ) → IsRootInput g pin → StepsBack g r.prog pin x → ⊥
  root_first pin x root (inl e) =
      root_no_output pin root.at root root.is
      (from_on g root.at (sides.root e.step.edge root.at (has_at g.edges e.step.number e.step.edge e.step.is) (ap (λ k. slice_get g.pins k) e.step.ends ∙ root.is) root.of_pb))
  root_first pin x root (inr e) = root_no_output pin e.at root e.is e.output

  entered : (net pin : ℕ) → Enters r net pin → IsRootInput g pin
  entered net pin enters = entry_root g n t r real made agrees net pin enters

  source_first : (need : Need) (p x : ℕ) → IsNetSource g n t (IsAt r) (Enters r) need p → StepsBack g r.prog p x → ⊥
  source_first need p x (inl m) step = made_first (net_of need) p x m step
  source_first need p x (inr e) step = root_first p x (entered (net_of need) p e.1) step

  -- and are of one net

  made_or_enters : (a b pin : ℕ) → IsFirstPin g n t (IsAt r) a pin → Enters r b pin → ⊥
  made_or_enters a b pin m enters = root_no_output pin m.made.at.on.at (entered b pin enters) m.made.at.on.is (made_output a m.place m.leaf pin m.made)

  made_net : (a b place leaf pin : ℕ) → IsMadeAt g n t a place leaf pin → IsMadeAt g n t b place leaf pin → a ≡ b
  made_net a b place leaf pin x y =
      let ats : x.at.on.at ≡ y.at.on.at = some_injective (sym x.at.on.is ∙ y.at.on.is) in
      let ports : x.at.on.port ≡ y.at.on.port = some_injective (sym x.at.on.is_port ∙ ap (λ z. port_at g z) ats ∙ y.at.on.is_port) in
      let numbers : x.is_atom.number ≡ y.is_atom.number = some_injective (sym x.is_atom.listed ∙ y.is_atom.listed) in
      let atoms : x.atom ≡ y.atom = some_injective (sym x.is_atom.is ∙ ap (λ k. slice_get n k) numbers ∙ y.is_atom.is) in
      let bits : x.is.bit ≡ y.is.bit = sym x.at.bit ∙ ap (λ (z : PinAt). z.bit) ats ∙ y.at.bit in
      let first : FitsOut y.atom.kind x.is y.at.on.port =
      subst (λ p. FitsOut y.atom.kind x.is p) ports (subst (λ (z : Atom). FitsOut z.kind x.is x.at.on.port) atoms x.at.on.fits) in
      let here : slice_get y.atom.outs x.number ≡ Some x.is = ap (λ (z : Atom). slice_get z.outs x.number) (sym atoms) ∙ x.is_conn in
      let same : x.is.net ≡ y.is.net =
      nets.one y.is_atom.number x.number y.number y.atom x.is y.is y.is_atom.is here y.is_conn (one_pin y.atom.kind x.is y.is y.at.on.port first y.at.on.fits bits) in
      once.once a b x.of y.of x.is_net y.is_net (sym x.of_net ∙ same ∙ y.of_net)

  source_net : (a b : Need) (p : ℕ) → IsNetSource g n t (IsAt r) (Enters r) a p → IsNetSource g n t (IsAt r) (Enters r) b p → net_of a ≡ net_of b
  source_net a b p (inl m) (inr e) = absurd (made_or_enters (net_of a) (net_of b) p m e.1)
  source_net a b p (inr e) (inl m) = absurd (made_or_enters (net_of b) (net_of a) p m e.1)
  source_net a b p (inr e) (inr f) = some_injective (sym e.1 ∙ f.1)
  source_net a b p (inl m) (inl k) =
      let same : m.made.at.on.at ≡ k.made.at.on.at = some_injective (sym m.made.at.on.is ∙ k.made.at.on.is) in
      let leaves : m.leaf ≡ k.leaf = sym m.made.at.on.of_pb ∙ ap (λ (y : PinAt). y.pb.0) same ∙ k.made.at.on.of_pb in
      let places : m.place ≡ k.place = real.homes.apart m.place k.place k.leaf (subst (λ l. IsAt r m.place l) leaves m.at) k.at in
      made_net (net_of a) (net_of b) k.place k.leaf p
      (subst (λ l. IsMadeAt g n t (net_of a) k.place l p) leaves (subst (λ x. IsMadeAt g n t (net_of a) x m.leaf p) places m.made)) k.made

  -- a way meets a listed pin, or is free

  record Meets (pins : List PinIx) (q : ℕ) : Type 0 where
    pub pin : ℕ
    pub steps : ℕ
    pub listed : Has pins (pin_ix pin)
    pub way : CarriedIn g r.prog steps pin q

  meets_or_free : (pins : List PinIx) (k p q : ℕ) → CarriedIn g r.prog k p q → Meets pins q ⊎ IsFreeWay g made pins k p q
  meets_or_free pins zero p q way = elim (has_or_not pins p) [
    | inl h ↦ inl (record { pin = p; steps = zero; listed = h; way = way })
    | inr out ↦ inr (out, way)
  ]
  meets_or_free pins (suc k) p q way = elim (has_or_not pins p) [
    | inl h ↦ inl (record { pin = p; steps = suc k; listed = h; way = way })
    | inr out ↦ elim (meets_or_free pins k way.0 q way.2) [
      | inl met ↦ inl met
      | inr free ↦ inr (out, (way.0, step_allowed g n t r real made agrees p way.0 way.1, free))
    ]
  ]

  -- the need at a place of the crowd passes the pin
  record Passes (needs : List ℕ) (pins : List PinIx) (k x : ℕ) : Type 0 where
    pub number : ℕ
    pub is_number : slice_get needs k ≡ Some number
    pub need : Need
    pub is : slice_get t.needs number ≡ Some need
    pub listed : Has pins (pin_ix x)
    pub source : ℕ
    pub is_source : IsNetSource g n t (IsAt r) (Enters r) need source
    pub steps : ℕ
    pub way : CarriedIn g r.prog steps x source

  passes : (needs : List ℕ) (pins : List PinIx) → IsCrowd g n t made needs pins → (k : ℕ) → k < length needs → (x : ℕ) × Passes needs pins k x
  passes needs pins c k inside =
      let e = element needs k inside in
      let has = has_at needs k e.0 e.1 in
      let a = c.active e.0 has in
      let m = real.met e.0 a.0 a.1.is (active_real g n t r real made agrees a.0 a.1.active) in
      elim (meets_or_free pins m.carried.steps m.last m.source m.carried.way) [
        | inl met ↦ (met.pin, record { number = e.0; is_number = e.1; need = a.0; is = a.1.is; listed = met.listed; source = m.source; is_source = m.is_source; steps = met.steps; way = met.way })
        | inr free ↦ absurd (c.blocked e.0 m.carried.steps m.last m.source a.0 has a.1.is
            (end_possible g n t r real made agrees a.0 m.last m.is_end) (source_possible g n t r real made agrees a.0 m.source m.is_source) free)
      ]

  is_source : (needs : List ℕ) (pins : List PinIx) (k x : ℕ) → (a : Passes needs pins k x) → IsSource g r.prog x a.source
  is_source needs pins k x a = record { carried = record { steps = a.steps; way = a.way }; first = λ q step. source_first a.need a.source q a.is_source step }

  -- two needs of a crowd that pass one pin are one
  apart : (needs : List ℕ) (pins : List PinIx) → IsCrowd g n t made needs pins → (i j x : ℕ) → i < j → Passes needs pins i x → Passes needs pins j x → ⊥
  apart needs pins c i j x less a b =
      let source : a.source ≡ b.source = one r.prog x a.source b.source (is_source needs pins i x a) (is_source needs pins j x b) in
      c.apart i j a.number b.number a.need b.need less a.is_number b.is_number a.is b.is
      (source_net a.need b.need b.source (subst (λ y. IsNetSource g n t (IsAt r) (Enters r) a.need y) source a.is_source) b.is_source)

  -- what is picked at a place is what the list has there
  passes_at : (needs : List ℕ) (pins : List PinIx) (list : List ℕ) (k x y : ℕ) → slice_get list k ≡ Some y → slice_get list k ≡ Some x → Passes needs pins k y → Passes needs pins k x
  passes_at needs pins list k x y at_y at_x picked = subst (λ z. Passes needs pins k z) (some_injective (sym at_y ∙ at_x)) picked

  picked_once : (needs : List ℕ) (pins : List PinIx) → IsCrowd g n t made needs pins → (list : List ℕ) → ((k x : ℕ) → slice_get list k ≡ Some x → Passes needs pins k x) → StandOnce list
  picked_once needs pins c list each i j x at_i at_j =
      let up : i < j → ⊥ = λ less. apart needs pins c i j x less (each i x at_i) (each j x at_j) in
      let down : j < i → ⊥ = λ less. apart needs pins c j i x less (each j x at_j) (each i x at_i) in
      omega (arith, up, down)

  few_picked : (needs : List ℕ) (pins : List PinIx) → IsCrowd g n t made needs pins → (list : List ℕ) → ((k x : ℕ) → slice_get list k ≡ Some x → Passes needs pins k x) →
      length list ≤ length (map (λ (p : PinIx). p.0) pins)
  few_picked needs pins c list each =
      no_longer list (map (λ (p : PinIx). p.0) pins) (once_of list (picked_once needs pins c list each))
      (λ x has. let k = at_has list x has in has_map (λ (p : PinIx). p.0) pins (pin_ix x) (each k.0 x k.1).listed)

  pub crowd_bars : (needs : List ℕ) (pins : List PinIx) → IsCrowd g n t made needs pins → ⊥
  crowd_bars needs pins c =
      let xs = pick (Passes needs pins) (length needs) (passes needs pins c) in
      let few = few_picked needs pins c xs.list
      (λ k x at. let e = xs.each k (omega (arith, slice_get_within xs.list k x at, xs.long)) in passes_at needs pins xs.list k x e.0 e.1 at e.2) in
      omega (arith, few, xs.long, length-map pins (λ (p : PinIx). p.0), c.fewer)
