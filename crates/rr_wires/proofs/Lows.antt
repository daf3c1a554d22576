-- The least nodes of wires, as nodes are added by ascending ids.
use Rattle.std.proofs.Common.{◌≡◌, ◌<◌, ◌≤◌, ◌⊎◌, List, [], ◌∷◌, ◌++◌, refl, sym, ap, ◌∙◌, subst, inl, inr, arith}
use Rattle.vtr_base.specs.Lists.{Has}
use Rattle.list_laws.specs.Orders.{HaveSame}
use Rattle.list_laws.proofs.Members.{has_left, has_last, has_pushed}
use Rattle.rr_items.specs.declared.carriers.TilePin.{TilePin}
use Rattle.rr_items.specs.declared.carriers.Carrier.{Carrier}
use Rattle.rr_items.specs.declared.carriers.Carrier.TheVariants.{Pin}
use Rattle.rr_items.specs.declared.carriers.CarriedNode.{CarriedNode}
use Rattle.rr_wires.specs.Wires.{HasWire, AreOneWire, IsLeastOf}

pub wired_pin : (carrier : Carrier) (pin : TilePin) → carrier ≡ Pin pin → HasWire carrier
wired_pin carrier pin is = subst HasWire (sym is) tt

pub one_along : (a b c : CarriedNode) → AreOneWire a b → AreOneWire b c → AreOneWire a c
one_along a b c (inl is) other = subst (λ (n : CarriedNode). AreOneWire n c) (sym is) other
one_along a b c (inr pins) (inl is) = inr (pins.0, pins.1, ap (λ (n : CarriedNode). n.carrier) (sym is) ∙ pins.2)
one_along a b c (inr pins) (inr more) = inr (more.0, pins.1 ∙ (sym pins.2 ∙ more.1), more.2)

pub one_back : (a b : CarriedNode) → AreOneWire a b → AreOneWire b a
one_back a b (inl is) = inl (sym is)
one_back a b (inr pins) = inr (pins.0, pins.2, pins.1)

pub wired_along : (a b : CarriedNode) → HasWire a.carrier → AreOneWire a b → HasWire b.carrier
wired_along a b wired (inl is) = subst (λ (n : CarriedNode). HasWire n.carrier) is wired
wired_along a b wired (inr pins) = wired_pin b.carrier pins.0 pins.2

pub pin_along : (a b : CarriedNode) (pin : TilePin) → a.carrier ≡ Pin pin → AreOneWire a b → b.carrier ≡ Pin pin
pin_along a b pin is (inl same) = ap (λ (n : CarriedNode). n.carrier) (sym same) ∙ is
pin_along a b pin is (inr pins) = pins.2 ∙ (sym pins.1 ∙ is)

-- the least node is least of itself
pub low_itself : (nodes : List CarriedNode) (n low : CarriedNode) → IsLeastOf nodes n low → IsLeastOf nodes low low
low_itself nodes n low least = record {
  there = least.low_there;
  wired = wired_along n low least.wired least.one;
  low_there = least.low_there;
  one = inl refl;
  below = λ other has one. least.below other has (one_along n low other least.one one);
}

-- nodes of one wire have one least id
pub one_low : (nodes : List CarriedNode) (a b low high : CarriedNode) → IsLeastOf nodes a low → IsLeastOf nodes b high → AreOneWire a b → low.id ≡ high.id
one_low nodes a b low high by_a by_b one =
    let up = by_a.below high by_b.low_there (one_along a b high one by_b.one) in
    let down = by_b.below low by_a.low_there (one_along b a low (one_back a b one) by_a.one) in
    omega (arith, up, down)

pub low_moves : (xs ys : List CarriedNode) → HaveSame xs ys → (n low : CarriedNode) → IsLeastOf xs n low → IsLeastOf ys n low
low_moves xs ys same n low least = record {
  there = same.forth n least.there;
  wired = least.wired;
  low_there = same.forth low least.low_there;
  one = least.one;
  below = λ other has one. least.below other (same.back other has) one;
}

-- the new node is the first of its wire
pub record StartsWire (done : List CarriedNode) (node : CarriedNode) : Type 0 where
  pub wired : HasWire node.carrier
  pub none : (m : CarriedNode) → Has done m → AreOneWire node m → ⊥

-- it is the least of its own wire
pub record IsFirst (done : List CarriedNode) (node n low : CarriedNode) : Type 0 where
  pub n_is : n ≡ node
  pub low_is : low ≡ node
  pub starts : StartsWire done node

-- it is of a tile pin that has a node before
pub record IsJoined (done : List CarriedNode) (node n low : CarriedNode) : Type 0 where
  pub n_is : n ≡ node
  pub pin : TilePin
  pub node_pin : node.carrier ≡ Pin pin
  pub low_pin : low.carrier ≡ Pin pin
  pub least : IsLeastOf done low low

module _ (done : List CarriedNode) (node : CarriedNode) (above : (m : CarriedNode) → Has done m → m.id < node.id) where
  pub low_stays : (n low : CarriedNode) → IsLeastOf done n low → IsLeastOf (done ++ node ∷ []) n low
  low_stays n low least = record {
    there = has_left done (node ∷ []) n least.there;
    wired = least.wired;
    low_there = has_left done (node ∷ []) low least.low_there;
    one = least.one;
    below = λ other has one. by other one (has_pushed done node other has);
  }
    where
      by : (other : CarriedNode) → AreOneWire n other → Has done other ⊎ (other ≡ node) → low.id ≤ other.id
      by other one (inl front) = least.below other front one
      by other one (inr is) = omega (arith, above low least.low_there, ap (λ (m : CarriedNode). m.id) is)

  pub low_first : StartsWire done node → IsLeastOf (done ++ node ∷ []) node node
  low_first starts = record {
    there = has_last done node;
    wired = starts.wired;
    low_there = has_last done node;
    one = inl refl;
    below = λ other has one. by other one (has_pushed done node other has);
  }
    where
      by : (other : CarriedNode) → AreOneWire node other → Has done other ⊎ (other ≡ node) → node.id ≤ other.id
      by other one (inl front) = absurd (starts.none other front one)
      by other one (inr is) = omega (arith, ap (λ (m : CarriedNode). m.id) is)

  pub low_joined : (pin : TilePin) (low : CarriedNode) → node.carrier ≡ Pin pin → low.carrier ≡ Pin pin → IsLeastOf done low low → IsLeastOf (done ++ node ∷ []) node low
  low_joined pin low node_pin low_pin least = record {
    there = has_last done node;
    wired = wired_pin node.carrier pin node_pin;
    low_there = has_left done (node ∷ []) low least.low_there;
    one = inr (pin, node_pin, low_pin);
    below = λ other has one. by other one (has_pushed done node other has);
  }
    where
      by : (other : CarriedNode) → AreOneWire node other → Has done other ⊎ (other ≡ node) → low.id ≤ other.id
      by other one (inl front) = least.below other front (one_along low node other (inr (pin, low_pin, node_pin)) one)
      by other one (inr is) = omega (arith, above low least.low_there, ap (λ (m : CarriedNode). m.id) is)

  not_self : (m : CarriedNode) → Has done m → m ≡ node → ⊥
  not_self m has is = absurd (omega (arith, above m has, ap (λ (o : CarriedNode). o.id) is))

  -- what least nodes the longer list has
  pub low_cases : (n low : CarriedNode) → IsLeastOf (done ++ node ∷ []) n low → IsLeastOf done n low ⊎ (IsFirst done node n low ⊎ IsJoined done node n low)
  low_cases n low least = by (has_pushed done node n least.there) (has_pushed done node low least.low_there)
    where
      shorter : (m : CarriedNode) → Has done m → Has (done ++ node ∷ []) m
      shorter m has = has_left done (node ∷ []) m has

      first : n ≡ node → low ≡ node → IsFirst done node n low
      first n_is low_is = record {
        n_is = n_is;
        low_is = low_is;
        starts = record {
          wired = subst (λ (m : CarriedNode). HasWire m.carrier) n_is least.wired;
          none = λ m has one.
              (let up = least.below m (shorter m has) (subst (λ (o : CarriedNode). AreOneWire o m) (sym n_is) one) in
              absurd (omega (arith, up, above m has, ap (λ (o : CarriedNode). o.id) low_is)));
        };
      }

      joined : n ≡ node → Has done low → AreOneWire n low → IsJoined done node n low
      joined n_is front (inl same) = absurd (not_self low front (sym same ∙ n_is))
      joined n_is front (inr pins) = record {
        n_is = n_is;
        pin = pins.0;
        node_pin = ap (λ (m : CarriedNode). m.carrier) (sym n_is) ∙ pins.1;
        low_pin = pins.2;
        least = record {
          there = front;
          wired = wired_pin low.carrier pins.0 pins.2;
          low_there = front;
          one = inl refl;
          below = λ other has one. least.below other (shorter other has) (one_along n low other (inr pins) one);
        };
      }

      by : Has done n ⊎ (n ≡ node) → Has done low ⊎ (low ≡ node) → IsLeastOf done n low ⊎ (IsFirst done node n low ⊎ IsJoined done node n low)
      by (inl n_front) (inl low_front) = inl (record {
        there = n_front;
        wired = least.wired;
        low_there = low_front;
        one = least.one;
        below = λ other has one. least.below other (shorter other has) one;
      })
      by (inl n_front) (inr low_is) =
          let up = least.below n least.there (inl refl) in
          absurd (omega (arith, up, above n n_front, ap (λ (o : CarriedNode). o.id) low_is))
      by (inr n_is) (inl low_front) = inr (inr (joined n_is low_front least.one))
      by (inr n_is) (inr low_is) = inr (inl (first n_is low_is))
