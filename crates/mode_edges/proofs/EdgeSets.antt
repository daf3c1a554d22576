-- The edges of a mode, interconnect by interconnect.
use Rattle.std.proofs.Common.{◌≡◌, ◌<◌, ◌≤◌, ◌+◌, ◌-◌, ◌⊎◌, inl, inr, ℕ, zero, suc, true, false, List, [], ◌∷◌, ◌++◌, Some, length, slice_get, refl, sym, ◌∙◌, ap, subst, arith}
use Rattle.std.proofs.lemmas.Option.{slice_get_within}
use Rattle.vtr_base.specs.Lists.{Has}
use Rattle.arch_types.specs.declared.block.PbType.{PbType}
use Rattle.arch_types.specs.declared.block.Mode.{Mode}
use Rattle.arch_types.specs.declared.block.Inter.{Inter}
use Rattle.arch_types.specs.declared.block.InterKind.{InterKind}
use Rattle.arch_types.specs.declared.block.InterKind.TheVariants.{Direct, Complete, Mux}
use Rattle.arch_types.specs.Tree.{inters_of}
use Rattle.mode_edges.specs.declared.pin.LocalPin.{LocalPin}
use Rattle.mode_edges.specs.declared.pin.LocalEdge.{LocalEdge}
use Rattle.mode_edges.specs.declared.pin.EdgeEnd.TheVariants.{Source, End}
use Rattle.mode_edges.specs.PinWords.{ReadsPins}
use Rattle.mode_edges.specs.Edges.{IsPairFrom, GivesFrom, IsEdge, EdgePlace, IsBefore, IsPairTo, GivesAt, StandsAt, StandsBefore, AreEdges, HasMoreEdges}
use Rattle.mode_edges.specs.Faults.{NamesPins, IsSoundMode}
use Rattle.mode_edges.specs.Gathered.{AddsInter}
use Rattle.mode_edges.specs.Pairs.{with_edges, given_by}
use Rattle.mode_edges.proofs.Gathering.{edge, no_fewer}
use Rattle.mode_edges.proofs.Givens.{given, givens, givens_edges, givens_order, IsPairAt, givens_has, givens_all}
use Rattle.mode_edges.proofs.OneList.{place_in}
use Rattle.mode_edges.proofs.Kept.{Given, at, edges_at, SamePins, InOrder, Apart, has_at, has_left, has_right, has_split, in_order_both, has_edge, edge_from, IsKept, kept_none, kept_all, one_kept}
use Rattle.mode_edges.proofs.OneMeaning.{reads_one}

-- what the interconnects below n give, in order
pub record AreGiven (block : PbType) (mode : Mode) (n : ℕ) (seen : List Given) : Type 0 where
  pub gives : (g : Given) → Has seen g → GivesAt block mode (at g) g.edge.src g.edge.dst × (g.edge.inter < n)
  pub all : (place : EdgePlace) (s d : LocalPin) → place.inter < n → GivesAt block mode place s d → Has seen (given place.inter place.source place.end s d)
  pub sorted : InOrder seen

-- the edges of the interconnects below n
pub record EdgesTo (block : PbType) (mode : Mode) (n : ℕ) (edges : List LocalEdge) : Type 0 where
  pub seen : List Given
  pub given : AreGiven block mode n seen
  pub kept : IsKept seen edges

pub edges_none : (block : PbType) (mode : Mode) → EdgesTo block mode 0 []
edges_none block mode = record {
  seen = [];
  given = record { gives = λ g h. absurd h; all = λ place s d less. absurd (omega arith); sorted = tt };
  kept = kept_none;
}

-- an interconnect gives the pairs of its pins
gives_read : (block : PbType) (mode : Mode) (here : Inter) (ins outs : List LocalPin) (place : EdgePlace) → slice_get (inters_of mode) place.inter ≡ Some here →
    NamesPins block mode here ins outs → (s d : LocalPin) → IsPairAt here.kind ins outs place.source place.end s d → GivesAt block mode place s d
gives_read block mode here ins outs place is names s d pair = record {
  from = record { here = here; is = is; ins = ins; outs = outs; reads_ins = names.reads_ins; reads_outs = names.reads_outs; pair = pair.from };
  to = pair.to;
}

read_gives : (block : PbType) (mode : Mode) (here : Inter) (ins outs : List LocalPin) (place : EdgePlace) → slice_get (inters_of mode) place.inter ≡ Some here →
    NamesPins block mode here ins outs → (s d : LocalPin) → GivesAt block mode place s d → IsPairAt here.kind ins outs place.source place.end s d
read_gives block mode here ins outs place is names s d gives =
    let g = gives.from in
    let same : g.here ≡ here = cc (g.is, is) in
    let ins_are = reads_one block mode Source here.input g.ins ins (subst (λ (x : Inter). ReadsPins block mode Source x.input g.ins) same g.reads_ins) names.reads_ins in
    let outs_are = reads_one block mode End here.output g.outs outs (subst (λ (x : Inter). ReadsPins block mode End x.output g.outs) same g.reads_outs) names.reads_outs in
    subst (λ (x : Inter). IsPairAt x.kind ins outs place.source place.end s d) same
    (subst (λ (l : List LocalPin). IsPairAt g.here.kind l outs place.source place.end s d) ins_are
    (subst (λ (l : List LocalPin). IsPairAt g.here.kind g.ins l place.source place.end s d) outs_are (record { from = g.pair; to = gives.to })))

less_or_same : (k n : ℕ) → k < n + 1 → (k < n) ⊎ (k ≡ n)
less_or_same k n less = grind arith

-- what was given so far is given before what one more interconnect gives
given_before : (block : PbType) (mode : Mode) (n : ℕ) (here : Inter) (ins outs : List LocalPin) (seen : List Given) → AreGiven block mode n seen → (x y : Given) → Has seen x →
    Has (givens here.kind n ins outs) y → IsBefore (at x) (at y)
given_before block mode n here ins outs seen so_far x y in_seen in_new =
    let less = (so_far.gives x in_seen).1 in
    let owner = (givens_has here.kind n ins outs y in_new).0 in
    inl (omega (arith, less, owner))

given_more : (block : PbType) (mode : Mode) (n : ℕ) (here : Inter) (ins outs : List LocalPin) (seen : List Given) → slice_get (inters_of mode) n ≡ Some here →
    NamesPins block mode here ins outs → AreGiven block mode n seen → AreGiven block mode (n + 1) (seen ++ givens here.kind n ins outs)
given_more block mode n here ins outs seen is names so_far = record {
  gives = λ g h. elim (has_split seen new g h) [
    | inl before ↦ let b = so_far.gives g before in let less = b.1 in (b.0, omega (arith, less))
    | inr last ↦ fresh g last
  ];
  all = λ place s d less gives. elim (less_or_same place.inter n less) [
    | inl before ↦ has_left seen new (given place.inter place.source place.end s d) (so_far.all place s d before gives)
    | inr same ↦ has_right seen new (given place.inter place.source place.end s d) (here_given place s d same gives)
  ];
  sorted = in_order_both seen new so_far.sorted (givens_order here.kind n ins outs) (λ x y in_seen in_new. given_before block mode n here ins outs seen so_far x y in_seen in_new);
}
  where
    new : List Given
    new = givens here.kind n ins outs

    there : (m : ℕ) → m ≡ n → slice_get (inters_of mode) m ≡ Some here
    there m same = subst (λ (k : ℕ). slice_get (inters_of mode) k ≡ Some here) (sym same) is

    fresh : (g : Given) → Has (givens here.kind n ins outs) g → GivesAt block mode (at g) g.edge.src g.edge.dst × (g.edge.inter < n + 1)
    fresh g h =
        let p = givens_has here.kind n ins outs g h in
        let owner = p.0 in
        (gives_read block mode here ins outs (at g) (there g.edge.inter owner) names g.edge.src g.edge.dst p.1, omega (arith, owner))

    here_given : (place : EdgePlace) (s d : LocalPin) → place.inter ≡ n → GivesAt block mode place s d →
        Has (givens here.kind n ins outs) (given place.inter place.source place.end s d)
    here_given place s d same gives =
        subst (λ (m : ℕ). Has (givens here.kind n ins outs) (given m place.source place.end s d)) (sym same)
        (givens_all here.kind n place.source place.end ins outs s d (read_gives block mode here ins outs place (there place.inter same) names s d gives))

-- one more interconnect
pub edges_more : (block : PbType) (mode : Mode) (n : ℕ) (here : Inter) (ins outs : List LocalPin) (old new : List LocalEdge) → slice_get (inters_of mode) n ≡ Some here →
    NamesPins block mode here ins outs → new ≡ with_edges old (given_by here.kind n ins outs) → EdgesTo block mode n old → EdgesTo block mode (n + 1) new
edges_more block mode n here ins outs old new is names added so_far = record {
  seen = so_far.seen ++ givens here.kind n ins outs;
  given = given_more block mode n here ins outs so_far.seen is names so_far.given;
  kept = subst (IsKept (so_far.seen ++ givens here.kind n ins outs)) (ap (with_edges old) (givens_edges here.kind n ins outs) ∙ sym added)
      (kept_all so_far.seen old (givens here.kind n ins outs) so_far.kept (givens_order here.kind n ins outs)
      (given_before block mode n here ins outs so_far.seen so_far.given));
}

-- the edges of a mode by their places
at_place : (gs : List Given) (i : ℕ) (e : LocalEdge) → slice_get (edges_at gs) i ≡ Some e → (g : Given) × (e ≡ g.edge) × (slice_get gs i ≡ Some g)
at_place [] i e at = cc
at_place (g ∷ gs) zero e at = let is : e ≡ g.edge = cc in (g, is, refl)
at_place (g ∷ gs) (suc i) e at = at_place gs i e at

places_apart : (gs : List Given) (i j : ℕ) (g h : Given) → Apart gs → slice_get gs i ≡ Some g → slice_get gs j ≡ Some h → SamePins g.edge h.edge → i ≡ j
places_apart [] i j g h a at_i at_j same = cc
places_apart (x ∷ gs) zero zero g h a at_i at_j same = refl
places_apart (x ∷ gs) zero (suc j) g h a at_i at_j same =
    let is : x ≡ g = cc in
    absurd (a.0 h (has_at gs j h at_j) (ap (λ (y : Given). y.edge.src) is ∙ same.0, ap (λ (y : Given). y.edge.dst) is ∙ same.1))
places_apart (x ∷ gs) (suc i) zero g h a at_i at_j same =
    let is : x ≡ h = cc in
    absurd (a.0 g (has_at gs i g at_i) (ap (λ (y : Given). y.edge.src) is ∙ sym same.0, ap (λ (y : Given). y.edge.dst) is ∙ sym same.1))
places_apart (x ∷ gs) (suc i) (suc j) g h a at_i at_j same = ap suc (places_apart gs i j g h a.1 at_i at_j same)

places_in_order : (gs : List Given) (i j : ℕ) (g h : Given) → InOrder gs → i < j → slice_get gs i ≡ Some g → slice_get gs j ≡ Some h → IsBefore (at g) (at h)
places_in_order [] i j g h order less at_i at_j = cc
places_in_order (x ∷ gs) i zero g h order less at_i at_j = absurd (omega arith)
places_in_order (x ∷ gs) zero (suc j) g h order less at_i at_j =
    let is : x ≡ g = cc in
    subst (λ (y : Given). IsBefore (at y) (at h)) is (order.0 h (has_at gs j h at_j))
places_in_order (x ∷ gs) (suc i) (suc j) g h order less at_i at_j = places_in_order gs i j g h order.1 (omega arith) at_i at_j

-- a pair that an interconnect gives from a place has a place to which it gives it
gives_to : (block : PbType) (mode : Mode) (inter source : ℕ) (s d : LocalPin) → GivesFrom block mode inter source s d →
    (end : ℕ) × GivesAt block mode (record { inter = inter; source = source; end = end }) s d
gives_to block mode inter source s d from = let to = go from.here.kind from.pair in (to.0, record { from = from; to = to.1 })
  where
    go : (kind : InterKind) → IsPairFrom kind from.ins from.outs source s d → (end : ℕ) × IsPairTo kind from.outs source end d
    go Direct pair = (source, refl)
    go Complete pair = place_in from.outs d pair.1
    go Mux pair = place_in from.outs d pair.1

-- what is kept for a pair that is given at a place
kept_for : (block : PbType) (mode : Mode) (n : ℕ) (edges : List LocalEdge) (t : EdgesTo block mode n edges) (place : EdgePlace) (s d : LocalPin) → place.inter < n →
    GivesAt block mode place s d → (g : Given) × Has t.kept.kept g × SamePins g.edge (edge place.inter s d) × (IsBefore place (at g) → ⊥)
kept_for block mode n edges t place s d less gives = t.kept.covers (given place.inter place.source place.end s d) (t.given.all place s d less gives)

-- an edge that is kept is given at no place before its own
none_before : (block : PbType) (mode : Mode) (n : ℕ) (edges : List LocalEdge) (t : EdgesTo block mode n edges) (g : Given) → Has t.kept.kept g → (place : EdgePlace) →
    IsBefore place (at g) → GivesAt block mode place g.edge.src g.edge.dst → ⊥
none_before block mode n edges t g h place before gives =
    let below = (t.given.gives g (t.kept.from g h)).1 in
    let f = kept_for block mode n edges t place g.edge.src g.edge.dst (inside below before) gives in
    let same = one_kept t.kept.kept f.0 g t.kept.apart f.1 h f.2 in
    f.3 (subst (λ (x : Given). IsBefore place (at x)) (sym same) before)
  where
    inside : g.edge.inter < n → IsBefore place (at g) → place.inter < n
    inside below (inl less) = omega (arith, below, less)
    inside below (inr (same, more)) = omega (arith, below, same)

stands_at : (block : PbType) (mode : Mode) (n : ℕ) (edges : List LocalEdge) (t : EdgesTo block mode n edges) (g : Given) → Has t.kept.kept g → StandsAt block mode g.edge (at g)
stands_at block mode n edges t g h =
    record { owner = refl; gives = (t.given.gives g (t.kept.from g h)).0; first = none_before block mode n edges t g h }

is_edge : (block : PbType) (mode : Mode) (n : ℕ) (edges : List LocalEdge) (t : EdgesTo block mode n edges) (g : Given) → Has t.kept.kept g →
    IsEdge block mode g.edge.inter g.edge.src g.edge.dst
is_edge block mode n edges t g h = record {
  gives = (g.source, (t.given.gives g (t.kept.from g h)).0.from);
  first = λ k less other.
      let to = gives_to block mode k other.0 g.edge.src g.edge.dst other.1 in
      none_before block mode n edges t g h (record { inter = k; source = other.0; end = to.0 }) (inl less) to.1;
}

inter_below : (block : PbType) (mode : Mode) (n : ℕ) (place : EdgePlace) (s d : LocalPin) → length (inters_of mode) ≤ n → GivesAt block mode place s d → place.inter < n
inter_below block mode n place s d end gives = omega (arith, slice_get_within (inters_of mode) place.inter gives.from.here gives.from.is)

has_all : (block : PbType) (mode : Mode) (n : ℕ) (edges : List LocalEdge) (t : EdgesTo block mode n edges) → length (inters_of mode) ≤ n → (inter : ℕ) (s d : LocalPin) →
    IsEdge block mode inter s d → Has edges (edge inter s d)
has_all block mode n edges t end inter s d is =
    let to = gives_to block mode inter is.gives.0 s d is.gives.1 in
    let place : EdgePlace = record { inter = inter; source = is.gives.0; end = to.0 } in
    let f = kept_for block mode n edges t place s d (inter_below block mode n place s d end to.1) to.1 in
    let g = f.0 in
    let here = t.given.gives g (t.kept.from g f.1) in
    let gives : GivesFrom block mode g.edge.inter g.source s d =
    subst (λ (x : LocalPin). GivesFrom block mode g.edge.inter g.source x d) f.2.0
    (subst (λ (x : LocalPin). GivesFrom block mode g.edge.inter g.source g.edge.src x) f.2.1 here.0.from) in
    let not_later : inter < g.edge.inter → ⊥ = λ less. f.3 (inl less) in
    let not_before : g.edge.inter < inter → ⊥ = λ less. is.first g.edge.inter less (g.source, gives) in
    let owner : g.edge.inter ≡ inter = omega arith in
    let same : g.edge ≡ edge inter s d =
    ap (λ (x : LocalPin). edge g.edge.inter x g.edge.dst) f.2.0
    ∙ (ap (λ (x : LocalPin). edge g.edge.inter s x) f.2.1 ∙ ap (λ (m : ℕ). edge m s d) owner) in
    subst (λ (l : List LocalEdge). Has l (edge inter s d)) (sym t.kept.is)
    (subst (Has (edges_at t.kept.kept)) same (has_edge t.kept.kept g f.1))

stand_before : (block : PbType) (mode : Mode) (n : ℕ) (edges : List LocalEdge) (t : EdgesTo block mode n edges) (g h : Given) → Has t.kept.kept g → Has t.kept.kept h →
    IsBefore (at g) (at h) → StandsBefore block mode g.edge h.edge
stand_before block mode n edges t g h in_g in_h before = record {
  at = at g;
  next = at h;
  stands = stands_at block mode n edges t g in_g;
  follows = stands_at block mode n edges t h in_h;
  before = before;
}

-- the edges of all interconnects are those of the mode
pub edges_all : (block : PbType) (mode : Mode) (n : ℕ) (edges : List LocalEdge) → length (inters_of mode) ≤ n → EdgesTo block mode n edges → AreEdges block mode edges
edges_all block mode n edges end t = record {
  each = λ e h.
      let f = edge_from t.kept.kept e (subst (λ (l : List LocalEdge). Has l e) t.kept.is h) in
      subst (λ (x : LocalEdge). IsEdge block mode x.inter x.src x.dst) (sym f.2) (is_edge block mode n edges t f.0 f.1);
  all = has_all block mode n edges t end;
  once = λ i j e f at_i at_j src dst.
      let g = at_place t.kept.kept i e (there e i at_i) in
      let h = at_place t.kept.kept j f (there f j at_j) in
      places_apart t.kept.kept i j g.0 h.0 t.kept.apart g.2 h.2
      (sym (ap (λ (x : LocalEdge). x.src) g.1) ∙ (src ∙ ap (λ (x : LocalEdge). x.src) h.1), sym (ap (λ (x : LocalEdge). x.dst) g.1) ∙ (dst ∙ ap (λ (x : LocalEdge). x.dst) h.1));
  ordered = λ i j e f less at_i at_j.
      let g = at_place t.kept.kept i e (there e i at_i) in
      let h = at_place t.kept.kept j f (there f j at_j) in
      subst (λ (x : LocalEdge). StandsBefore block mode x f) (sym g.1)
      (subst (λ (x : LocalEdge). StandsBefore block mode g.0.edge x) (sym h.1)
      (stand_before block mode n edges t g.0 h.0 (has_at t.kept.kept i g.0 g.2) (has_at t.kept.kept j h.0 h.2)
      (places_in_order t.kept.kept i j g.0 h.0 t.kept.sorted less g.2 h.2)));
}
  where
    there : (e : LocalEdge) (i : ℕ) → slice_get edges i ≡ Some e → slice_get (edges_at t.kept.kept) i ≡ Some e
    there e i is = subst (λ (l : List LocalEdge). slice_get l i ≡ Some e) t.kept.is is

some_at : {X : Type 0} (xs : List X) (n : ℕ) → n < length xs → (x : X) × (slice_get xs n ≡ Some x)
some_at [] n inside = absurd (omega arith)
some_at (x ∷ xs) zero inside = (x, refl)
some_at (x ∷ xs) (suc n) inside = some_at xs n (omega arith)

-- the edges of a mode, after those of its first interconnects
finished : (block : PbType) (mode : Mode) (more n : ℕ) (edges : List LocalEdge) → n + more ≡ length (inters_of mode) → IsSoundMode block mode → EdgesTo block mode n edges →
    (all : List LocalEdge) × EdgesTo block mode (n + more) all × (length edges ≤ length all)
finished block mode zero n edges whole sound t =
    let same : n ≡ n + 0 = omega arith in
    (edges, subst (λ (m : ℕ). EdgesTo block mode m edges) same t, omega arith)
finished block mode (suc more) n edges whole sound t =
    let here = some_at (inters_of mode) n (omega arith) in
    let ok = sound n here.0 here.1 in
    let next = with_edges edges (given_by here.0.kind n ok.ins ok.outs) in
    let longer = no_fewer edges (given_by here.0.kind n ok.ins ok.outs) in
    let rest = finished block mode more (n + 1) next (omega arith) sound
    (edges_more block mode n here.0 ok.ins ok.outs edges next here.1 ok.names refl t) in
    let no_less = rest.2 in
    let same : (n + 1) + more ≡ n + suc more = omega arith in
    (rest.0, subst (λ (m : ℕ). EdgesTo block mode m rest.0) same rest.1, omega (arith, longer, no_less))

-- where the first interconnects give too many edges, the mode has too many
pub too_many : (block : PbType) (mode : Mode) (n most : ℕ) (here : Inter) (ins outs : List LocalPin) (old : List LocalEdge) → slice_get (inters_of mode) n ≡ Some here →
    NamesPins block mode here ins outs → IsSoundMode block mode → EdgesTo block mode n old → most < length (with_edges old (given_by here.kind n ins outs)) →
    HasMoreEdges block mode most
too_many block mode n most here ins outs old is names sound t many =
    let inside = slice_get_within (inters_of mode) n here is in
    let count : (n + 1) + (length (inters_of mode) - (n + 1)) ≡ length (inters_of mode) = omega arith in
    let next = with_edges old (given_by here.kind n ins outs) in
    let all = finished block mode (length (inters_of mode) - (n + 1)) (n + 1) next count sound (edges_more block mode n here ins outs old next is names refl t) in
    let no_less = all.2 in
    record {
      edges = all.0;
      are = edges_all block mode ((n + 1) + (length (inters_of mode) - (n + 1))) all.0 (omega arith) all.1;
      more = omega (arith, many, no_less);
    }

-- what was added for an interconnect by its number
pub inter_added : (block : PbType) (mode : Mode) (here : Inter) (n number most : ℕ) (old new : List LocalEdge) → number ≡ n → slice_get (inters_of mode) n ≡ Some here →
    AddsInter block mode here number most old new true → EdgesTo block mode n old → EdgesTo block mode (n + 1) new × (length old ≤ most → length new ≤ most)
inter_added block mode here n number most old new same is adds t =
    let added = subst (λ (m : ℕ). new ≡ with_edges old (given_by here.kind m adds.ins adds.outs)) same adds.adds.0 in
    (edges_more block mode n here adds.ins adds.outs old new is adds.names added t, adds.adds.1)

pub inter_stops : (block : PbType) (mode : Mode) (here : Inter) (n number most : ℕ) (old new : List LocalEdge) → number ≡ n → slice_get (inters_of mode) n ≡ Some here →
    AddsInter block mode here number most old new false → IsSoundMode block mode → EdgesTo block mode n old → HasMoreEdges block mode most
inter_stops block mode here n number most old new same is adds sound t =
    too_many block mode n most here adds.ins adds.outs old is adds.names sound t
    (subst (λ (m : ℕ). most < length (with_edges old (given_by here.kind m adds.ins adds.outs))) same adds.adds)
