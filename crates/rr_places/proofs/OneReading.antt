-- The switches and the block types of a file are one list each.
use Rattle.std.proofs.Common.{◌≡◌, ℕ, Bool, List, [], ◌∷◌, Option, Some, None, slice_get, codes, refl, sym, ap, ◌∙◌, subst, inl, inr}
use Rattle.std.specs.Str.Parse.{digits_value}
use Rattle.elem_text.specs.declared.elem.Elem.{Elem, out-Elem}
use Rattle.arch_types.specs.declared.arch.Tile.{Tile}
use Rattle.arch_types.specs.declared.block.Port.{Port}
use Rattle.arch_types.specs.declared.block.Side.TheVariants.{Output}
use Rattle.arch_types.specs.Blocks.{port_names, is_on}
use Rattle.arch_types.specs.Tiles.{tile_names}
use Rattle.vtr_base.specs.Lists.{IsFirstPlace}
use Rattle.rr_places.specs.declared.pin_text.NamedPin.{NamedPin}
use Rattle.rr_places.specs.Reading.{EachSays}
use Rattle.rr_places.specs.PinTexts.{IsIndex, NamesSub, NamesBit, IsPinText, NamesPin}
use Rattle.rr_places.specs.Pins.{PinItem, NumberedPin, SaysPin, named_of, classed_pins}
use Rattle.rr_places.specs.Types.{NumberedType, IsTileName, SaysType, tile_at, ArePins}
use Rattle.rr_places.proofs.Cutting.{no_cut, same_cut, same_place}
use Rattle.rr_places.proofs.TileReading.{one_number}

pub same_values : {A B : Type 0} (Says : A → B → Type 0) → ((a : A) (b c : B) → Says a b → Says a c → b ≡ c) → (items : List A) (bs cs : List B) →
    EachSays Says items bs → EachSays Says items cs → bs ≡ cs
same_values Says one [] [] [] p q = refl
same_values Says one [] [] (c ∷ cs) p q = absurd q
same_values Says one [] (b ∷ bs) cs p q = absurd p
same_values Says one (a ∷ items) [] cs p q = absurd p
same_values Says one (a ∷ items) (b ∷ bs) [] p q = absurd q
same_values Says one (a ∷ items) (b ∷ bs) (c ∷ cs) p q =
    ap (λ h. h ∷ bs) (one a b c p.0 q.0) ∙ ap (λ t. c ∷ t) (same_values Says one items bs cs p.1 q.1)

one_index : (text : List ℕ) (limit m n : ℕ) → IsIndex text limit m → IsIndex text limit n → m ≡ n
one_index text limit m n p q =
    let digits = (same_cut 93 text p.digits [] q.digits [] p.cut q.cut).0 in
    p.read.is ∙ ap (digits_value 10) digits ∙ sym q.read.is

one_sub : (tile : Tile) (text : List ℕ) (m n : ℕ) → NamesSub tile text m → NamesSub tile text n → m ≡ n
one_sub tile text m n (inl p) (inl q) = p.first ∙ sym q.first
one_sub tile text m n (inl p) (inr q) = absurd (no_cut 91 text q.name q.index p.lacks q.cut)
one_sub tile text m n (inr p) (inl q) = absurd (no_cut 91 text p.name p.index q.lacks p.cut)
one_sub tile text m n (inr p) (inr q) =
    let k = same_cut 91 text p.name p.index q.name q.index p.cut q.cut in
    one_index q.index tile.capacity m n (subst (λ t. IsIndex t tile.capacity m) k.1 p.instance) q.instance

pub record SameBit (m n : NamedPin) : Type 0 where
  pub port : m.pin.port ≡ n.pin.port
  pub bit : m.pin.bit ≡ n.pin.bit
  pub side : m.is_output ≡ n.is_output

one_bit : (ports : List Port) (text : List ℕ) (m n : NamedPin) → NamesBit ports text m → NamesBit ports text n → SameBit m n
one_bit ports text m n p q =
    let k = same_cut 91 text p.name p.index q.name q.index p.cut q.cut in
    let first : IsFirstPlace (port_names ports) q.name m.pin.port = subst (λ t. IsFirstPlace (port_names ports) t m.pin.port) k.0 p.place in
    let place : m.pin.port ≡ n.pin.port = same_place (port_names ports) q.name m.pin.port n.pin.port first q.place in
    let two : Some p.port ≡ Some q.port = sym p.there ∙ ap (λ i. slice_get ports i) place ∙ q.there in
    let port : p.port ≡ q.port = cc in
    let index : IsIndex q.index p.port.width m.pin.bit = subst (λ t. IsIndex t p.port.width m.pin.bit) k.1 p.bit in
    let same : IsIndex q.index q.port.width m.pin.bit = subst (λ (o : Port). IsIndex q.index o.width m.pin.bit) port index in
    record {
      port = place;
      bit = one_index q.index q.port.width m.pin.bit n.pin.bit same q.bit;
      side = p.side ∙ ap (λ (o : Port). is_on Output o.side) port ∙ sym q.side;
    }

abbrev made : ℕ → ℕ → ℕ → Bool → NamedPin
made sub port bit out = record { pin = record { sub = sub; port = port; bit = bit }; is_output = out }

one_text : (tile : Tile) (text : List ℕ) (m n : NamedPin) → IsPinText tile text m → IsPinText tile text n → m ≡ n
one_text tile text m n p q =
    let k = same_cut 46 text p.owner p.rest q.owner q.rest p.cut q.cut in
    let sub = one_sub tile q.owner m.pin.sub n.pin.sub (subst (λ t. NamesSub tile t m.pin.sub) k.0 p.sub) q.sub in
    let same = one_bit tile.ports q.rest m n (subst (λ t. NamesBit tile.ports t m) k.1 p.bit) q.bit in
    ap (λ v. made v m.pin.port m.pin.bit m.is_output) sub ∙ ap (λ v. made n.pin.sub v m.pin.bit m.is_output) same.port ∙
    ap (λ v. made n.pin.sub n.pin.port v m.is_output) same.bit ∙ ap (λ v. made n.pin.sub n.pin.port n.pin.bit v) same.side

one_name : (tile : Option Tile) (text : List ℕ) (m n : NamedPin) → NamesPin tile text m → NamesPin tile text n → m ≡ n
one_name None text m n p q = absurd p
one_name (Some tile) text m n p q = one_text tile text m n p q

pub one_pin : (tile : Option Tile) (item : PinItem) (p q : NumberedPin) → SaysPin tile item p → SaysPin tile item q → p ≡ q
one_pin tile item p q says_p says_q =
    let ptc = one_number item.1 (codes "ptc") 2147483647 p.0 q.0 says_p.ptc says_q.ptc in
    let named = one_name tile (out-Elem item.1).text (named_of p.1) (named_of q.1) says_p.named says_q.named in
    let class : p.1.class ≡ q.1.class = says_p.class ∙ sym says_q.class in
    ap (λ v. whole v (named_of p.1) p.1.class) ptc ∙ ap (λ v. whole q.0 v p.1.class) named ∙ ap (λ v. whole q.0 (named_of q.1) v) class
  where
    whole : ℕ → NamedPin → ℕ → NumberedPin
    whole ptc named class = (ptc, record { pin = named.pin; is_output = named.is_output; class = class })

pub one_tile : (tiles : List Tile) (name : List ℕ) (t u : Option ℕ) → IsTileName tiles name t → IsTileName tiles name u → t ≡ u
one_tile tiles name None None p q = refl
one_tile tiles name None (Some n) p q = absurd (q.0 p)
one_tile tiles name (Some m) None p q = absurd (p.0 q)
one_tile tiles name (Some m) (Some n) p q = ap Some (same_place (tile_names tiles) name m n p.1 q.1)

pub one_type : (tiles : List Tile) (e : Elem) (t u : NumberedType) → SaysType tiles e t → SaysType tiles e u → t ≡ u
one_type tiles e t u p q =
    let id = one_number e (codes "id") 2147483647 t.0 u.0 p.id q.id in
    let both : Some p.name ≡ Some q.name = sym p.named ∙ q.named in
    let name : p.name ≡ q.name = cc in
    let tile = one_tile tiles q.name t.1.tile u.1.tile (subst (λ v. IsTileName tiles v t.1.tile) name p.tile) q.tile in
    let read : ArePins tiles u.1.tile e t.1.pins = subst (λ v. ArePins tiles v e t.1.pins) tile p.pins in
    let pins = same_values (SaysPin (tile_at tiles u.1.tile)) (one_pin (tile_at tiles u.1.tile)) (classed_pins e) t.1.pins u.1.pins read.each q.pins.each in
    ap (λ v. whole v t.1.tile t.1.pins) id ∙ ap (λ v. whole u.0 v t.1.pins) tile ∙ ap (λ v. whole u.0 u.1.tile v) pins
  where
    whole : ℕ → Option ℕ → List NumberedPin → NumberedType
    whole id tile pins = (id, record { tile = tile; pins = pins })
