-- What is kept of instances: how many pins they have, and where these begin.
use Rattle.std.proofs.Common.{◌≡◌, ◌+◌, ◌<◌, ◌≤◌, ◌⊎◌, ℕ, zero, suc, List, [], ◌∷◌, ◌++◌, Option, Some, None, IsSome, map, length, take, drop, get_or, slice_get, refl, sym, ap, ◌∙◌, subst, inl, inr, arith, length-append, append_assoc}
use Rattle.std.specs.Option.{option_map_or, option_and_then}
use Rattle.std.proofs.Math.Seq.{drop-append_seam, take-append_seam}
use Rattle.std.proofs.lemmas.Option.{slice_get_within, slice_get_read, option_and_then_some}
use Rattle.arch_types.specs.declared.block.PbType.{PbType}
use Rattle.arch_types.specs.declared.block.Port.{Port}
use Rattle.vtr_base.specs.Lists.{up_from}
use Rattle.arch_types.specs.Address.{at}
use Rattle.arch_types.specs.Numbering.{IsNumbering}
use Rattle.pb_expand.specs.declared.number.PinAt.{PinAt}
use Rattle.pb_expand.specs.declared.shape.Shape.{Shape}
use Rattle.pb_expand.specs.Graph.{Graph, pin_at, block_at, ports_at, ports_of, pins_of_ports, kind_of}
use Rattle.pb_expand.specs.Expansion.{HasPins, IsPin}
use Rattle.pb_expand.specs.Making.{AreBlocks, pins_over}
use Rattle.pb_expand.specs.Shapes.{HasPinsFrom, IsShape, AreShapes, AreShapesOf}
use Rattle.pb_expand.proofs.Lists.{get_front, get_behind, get_either, has_at, at_has, element}
use Rattle.pb_expand.proofs.Fills.{length-bits, ports_from, ports_step, over_step}
use Rattle.pb_expand.proofs.PinLemmas.{ports_have}
use Rattle.pb_expand.proofs.Blocks.{has_block}

-- the number of an instance's pins is that of its ports' bits
pub ports_size : (pb qb from start : ℕ) (ports : List Port) → length (pins_of_ports pb from ports) ≡ length (pins_of_ports qb start ports)
ports_size pb qb from start [] = refl
ports_size pb qb from start (port ∷ ports) =
    length-append (map (pin_at pb from) _) (pins_of_ports pb (from + 1) ports)
    ∙ omega (arith, length-bits pb from 0 port.width, length-bits qb start 0 port.width, ports_size pb qb (from + 1) (start + 1) ports)
    ∙ sym (length-append (map (pin_at qb start) _) (pins_of_ports qb (start + 1) ports))

over_split : (m n : ℕ) (blocks : List PbType) → n ≤ length blocks → pins_over m blocks ≡ pins_over m (take n blocks) ++ pins_over (m + n) (drop n blocks)
over_split m zero blocks inside = let same : m ≡ m + 0 = omega arith in ap (λ k. pins_over k blocks) same
over_split m (suc n) [] inside = absurd (omega arith)
over_split m (suc n) (b ∷ blocks) inside =
    let next : (m + 1) + n ≡ m + suc n = omega arith in
    let own = pins_of_ports m 0 b.ports in
    ap (λ l. own ++ l) (over_split (m + 1) n blocks (omega (arith, inside)) ∙ ap (λ k. pins_over (m + 1) (take n blocks) ++ pins_over k (drop n blocks)) next)
    ∙ sym (append_assoc own (pins_over (m + 1) (take n blocks)) (pins_over (m + suc n) (drop n blocks)))

module _ (g : Graph) (blocks : List PbType) (n : ℕ) (block : PbType) (pins : HasPins g) (over : g.pins ≡ pins_over 0 blocks) (at_n : slice_get blocks n ≡ Some block)
    (ports : ports_of g n ≡ block.ports) (first : ℕ) (count : first + length (pins_over n (drop n blocks)) ≡ length (pins_over 0 blocks)) where
  abbrev own : List PinAt
  own = pins_of_ports n 0 block.ports

  abbrev front : List PinAt
  front = pins_over 0 (take n blocks)

  abbrev rest : List PinAt
  rest = pins_over (n + 1) (drop (n + 1) blocks)

  back_is : pins_over n (drop n blocks) ≡ own ++ rest
  back_is = over_step n blocks block at_n

  split : g.pins ≡ front ++ (own ++ rest)
  split =
      let inside = slice_get_within blocks n block at_n in
      let here : 0 + n ≡ n = omega arith in
      over ∙ over_split 0 n blocks (omega arith) ∙ ap (λ k. front ++ pins_over k (drop n blocks)) here ∙ ap (λ l. front ++ l) back_is

  first_is : first ≡ length front
  first_is = omega (arith, count, ap length (sym over ∙ split), length-append front (own ++ rest), ap length back_is)

  are : take (length own) (drop first g.pins) ≡ own
  are = ap (λ k. take (length own) (drop k g.pins)) first_is ∙ ap (λ l. take (length own) (drop (length front) l)) split
      ∙ ap (take (length own)) (drop-append_seam front (own ++ rest)) ∙ take-append_seam own rest

  only : (k : ℕ) (pin : PinAt) → slice_get g.pins k ≡ Some pin → pin.pb.0 ≡ n → (first ≤ k) × (k < first + length own)
  only k pin at_k pb =
      let is : IsPin g pin.pb.0 pin.port pin.bit = (pins.exact pin.pb.0 pin.port pin.bit).0 (has_at g.pins k pin at_k) in
      let found : block_at g pin.pb.0 ≡ at g.root is.address = ap (option_and_then (λ a. at g.root a)) is.is_instance in
      let listed : ports_of g pin.pb.0 ≡ ports_at g.root is.address = ap (λ o. option_map_or (λ (b : PbType). b.ports) o []) found in
      let same : ports_at g.root is.address ≡ block.ports = sym listed ∙ ap (ports_of g) pb ∙ ports in
      let here : 0 + pin.port ≡ pin.port = omega arith in
      let has = ports_have n 0 block.ports pin.port pin.bit is.is (subst (λ l. slice_get l pin.port ≡ Some is.is) same is.is_port) is.is_bit in
      let j = at_has own (pin_at n (0 + pin.port) pin.bit) has in
      let moved : pin_at n (0 + pin.port) pin.bit ≡ pin = ap (λ p. pin_at n p pin.bit) here ∙ ap (λ b. pin_at b pin.port pin.bit) (sym pb) in
      let there : slice_get g.pins (length front + j.0) ≡ Some pin =
      ap (λ l. slice_get l (length front + j.0)) split ∙ get_behind front (own ++ rest) j.0 pin (get_front own rest j.0 pin (j.1 ∙ ap Some moved)) in
      let place : k ≡ length front + j.0 = pins.once k (length front + j.0) pin at_k there in
      (omega (arith, place, first_is), omega (arith, place, first_is, slice_get_within own j.0 (pin_at n (0 + pin.port) pin.bit) j.1))

  pub pins_from_first : HasPinsFrom g n first
  pins_from_first = record {
    are = subst (λ ps. take (length (pins_of_ports n 0 ps)) (drop first g.pins) ≡ pins_of_ports n 0 ps) (sym ports) are;
    only = λ k pin at_k pb. subst (λ ps. (first ≤ k) × (k < first + length (pins_of_ports n 0 ps))) (sym ports) (only k pin at_k pb);
  }

pub shapes_are : (g : Graph) (blocks : List PbType) (shapes : List Shape) → AreBlocks g.root g.instances blocks → HasPins g → g.pins ≡ pins_over 0 blocks →
    AreShapes blocks shapes → AreShapesOf g shapes
shapes_are g blocks shapes are pins over shaped = record { all = shaped.all ∙ are.all; each = λ n block s is at_n. each n block s is at_n }
  where
    in_blocks : (n : ℕ) (block : PbType) → block_at g n ≡ Some block → slice_get blocks n ≡ Some block
    in_blocks n block is =
        option_and_then_some (λ a. at g.root a) (slice_get g.instances n) block is
        (λ a at_n found.
        let b = are.each n a at_n in
        let same : b.0 ≡ block = cc (b.1, found) in
        b.2 ∙ ap Some same)

    each : (n : ℕ) (block : PbType) (s : Shape) → block_at g n ≡ Some block → slice_get shapes n ≡ Some s →
        (s.kind ≡ kind_of block.kind) × (s.ports ≡ length block.ports) × (s.pins ≡ length (pins_of_ports n 0 block.ports)) × HasPinsFrom g n s.first_pin.0
    each n block s is at_n =
        let at_block = in_blocks n block is in
        let shape = shaped.each n block s at_block at_n in
        let ports : ports_of g n ≡ block.ports = ap (λ o. option_map_or (λ (b : PbType). b.ports) o []) is in
        (shape.kind, shape.ports, shape.pins, pins_from_first g blocks n block pins over at_block ports s.first_pin.0 shape.first)

-- one more shape
pub shapes_more : (blocks : List PbType) (n : ℕ) (block : PbType) (s : Shape) (shapes new : List Shape) → slice_get blocks n ≡ Some block → length shapes ≡ n →
    ((k : ℕ) (b : PbType) (t : Shape) → slice_get blocks k ≡ Some b → slice_get shapes k ≡ Some t → IsShape blocks k b t) → IsShape blocks n block s → new ≡ shapes ++ s ∷ [] →
    (k : ℕ) (b : PbType) (t : Shape) → slice_get blocks k ≡ Some b → slice_get new k ≡ Some t → IsShape blocks k b t
shapes_more blocks n block s shapes new at_n count far is e k b t at_k at_t = by (get_either shapes (s ∷ []) k t (subst (λ l. slice_get l k ≡ Some t) e at_t))
  where
    last : (j : ℕ) → k ≡ length shapes + j → slice_get (s ∷ []) j ≡ Some t → IsShape blocks k b t
    last zero place at =
        let one : s ≡ t = cc in
        let number : k ≡ n = omega (arith, count) in
        let read : Some block ≡ Some b = sym at_n ∙ ap (λ m. slice_get blocks m) (sym number) ∙ at_k in
        let same : block ≡ b = cc in
        subst (λ m. IsShape blocks m b t) (sym number) (subst (λ x. IsShape blocks n x t) same (subst (λ x. IsShape blocks n block x) one is))
    last (suc j) place at = absurd (cc)

    by : (slice_get shapes k ≡ Some t) ⊎ ((j : ℕ) × (k ≡ length shapes + j) × (slice_get (s ∷ []) j ≡ Some t)) → IsShape blocks k b t
    by (inl old) = far k b t at_k old
    by (inr new') = last new'.0 new'.1 new'.2

pub ports_less : (port : ℕ) (ports : List Port) (is : Port) → port < length ports → is ≡ get_or ports port is →
    length (ports_from 0 port ports) ≡ is.width + length (ports_from 0 (port + 1) ports)
ports_less port ports is inside e =
    ap length (ports_step 0 port ports is inside e) ∙ length-append (map (pin_at 0 port) (up_from 0 is.width)) (ports_from 0 (port + 1) ports)
    ∙ ap (λ n. n + length (ports_from 0 (port + 1) ports)) (length-bits 0 port 0 is.width)

pub over_less : (n : ℕ) (blocks : List PbType) (block : PbType) → slice_get blocks n ≡ Some block →
    length (pins_over n (drop n blocks)) ≡ length (pins_of_ports 0 0 block.ports) + length (pins_over (n + 1) (drop (n + 1) blocks))
over_less n blocks block at =
    ap length (over_step n blocks block at) ∙ length-append (pins_of_ports n 0 block.ports) (pins_over (n + 1) (drop (n + 1) blocks))
    ∙ ap (λ k. k + length (pins_over (n + 1) (drop (n + 1) blocks))) (ports_size n 0 0 0 block.ports)

-- what is kept of an instance, and its pb_type
pub record HasShape (g : Graph) (n : ℕ) (s : Shape) : Type 0 where
  pub block : PbType
  pub is_block : block_at g n ≡ Some block
  pub ports : ports_of g n ≡ block.ports
  pub says : (s.kind ≡ kind_of block.kind) × (s.ports ≡ length block.ports) × (s.pins ≡ length (pins_of_ports n 0 block.ports)) × HasPinsFrom g n s.first_pin.0

pub shape_at : (g : Graph) (shapes : List Shape) (n : ℕ) (s : Shape) → IsNumbering g.root g.instances → AreShapesOf g shapes → n < length g.instances →
    s ≡ get_or shapes n s → HasShape g n s
shape_at g shapes n s numbering shaped inside read =
    let a = element g.instances n inside in
    let block = some_of (block_at g n) (has_block g n a.0 numbering a.1) in
    record {
      block = block.0;
      is_block = block.1;
      ports = ap (λ o. option_map_or (λ (b : PbType). b.ports) o []) block.1;
      says = shaped.each n block.0 s block.1 (slice_get_read shapes (length shapes) n s refl (omega (arith, inside, shaped.all)) read);
    }
  where
    some_of : {X : Type 0} (o : Option X) → IsSome o → (x : X) × (o ≡ Some x)
    some_of None is = cc
    some_of (Some x) is = (x, refl)
