-- An element says one item.
use Rattle.std.proofs.Common.{◌≡◌, ◌+◌, ◌*◌, ℕ, Bool, List, Option, Some, None, get_or, refl, sym, ap, ◌∙◌, subst, codes, arith}
use Rattle.elem_text.specs.declared.elem.Elem.{Elem}
use Rattle.elem_reading.proofs.OneNumber.{one_number, one_value}
use Rattle.rr_items.specs.declared.ends.EdgeEnds.{EdgeEnds}
use Rattle.rr_items.specs.declared.grid.GridPlace.{GridPlace}
use Rattle.rr_items.specs.declared.switches.Switch.{Switch}
use Rattle.rr_items.specs.Ends.{SaysEnds}
use Rattle.rr_items.specs.Grid.{SaysPlace}
use Rattle.rr_items.specs.declared.nodes.Node.{Node}
use Rattle.rr_items.specs.declared.nodes.NodeKind.{NodeKind}
use Rattle.rr_items.specs.declared.nodes.NodeKind.TheVariants.{Source, Sink, Opin, Ipin, Chanx, Chany}
use Rattle.rr_items.specs.declared.nodes.Span.{Span}
use Rattle.rr_items.specs.NodeItems.{kind_name, SaysSpan, NumbersPin, SaysPin, SaysNodeAt, SaysNode}
use Rattle.rr_items.specs.Switches.{SaysSwitch}

pub one_ends : (e : Elem) (p q : EdgeEnds) → SaysEnds e p → SaysEnds e q → p ≡ q
one_ends e p q says_p says_q =
    let source = one_number e (codes "src_node") 2147483647 p.source q.source says_p.source says_q.source in
    let sink = one_number e (codes "sink_node") 2147483647 p.sink q.sink says_p.sink says_q.sink in
    let switch = one_number e (codes "switch_id") 2147483647 p.switch q.switch says_p.switch says_q.switch in
    ap (λ a. made a p.sink p.switch) source ∙ ap (λ a. made q.source a p.switch) sink ∙ ap (λ a. made q.source q.sink a) switch
  where
    made : ℕ → ℕ → ℕ → EdgeEnds
    made source sink switch = record { source = source; sink = sink; switch = switch }

pub one_switch : (e : Elem) (p q : Switch) → SaysSwitch e p → SaysSwitch e q → p ≡ q
one_switch e p q says_p says_q =
    let id = one_number e (codes "id") 2147483647 p.id q.id says_p.id says_q.id in
    ap (λ a. made a p.two_way) id ∙ ap (λ a. made q.id a) (says_p.kind ∙ sym says_q.kind)
  where
    made : ℕ → Bool → Switch
    made id two_way = record { id = id; two_way = two_way }

pub one_place : (e : Elem) (p q : GridPlace) → SaysPlace e p → SaysPlace e q → p ≡ q
one_place e p q says_p says_q =
    let x = one_number e (codes "x") 2147483647 p.x q.x says_p.x says_q.x in
    let y = one_number e (codes "y") 2147483647 p.y q.y says_p.y says_q.y in
    let block = one_number e (codes "block_type_id") 2147483647 p.block_type q.block_type says_p.block_type says_q.block_type in
    let width = one_number e (codes "width_offset") 2147483647 p.width_offset q.width_offset says_p.width_offset says_q.width_offset in
    let height = one_number e (codes "height_offset") 2147483647 p.height_offset q.height_offset says_p.height_offset says_q.height_offset in
    ap (λ a. made a p.y p.block_type p.width_offset p.height_offset) x ∙ ap (λ a. made q.x a p.block_type p.width_offset p.height_offset) y ∙
    ap (λ a. made q.x q.y a p.width_offset p.height_offset) block ∙ ap (λ a. made q.x q.y q.block_type a p.height_offset) width ∙
    ap (λ a. made q.x q.y q.block_type q.width_offset a) height
  where
    made : ℕ → ℕ → ℕ → ℕ → ℕ → GridPlace
    made x y block width height = record { x = x; y = y; block_type = block; width_offset = width; height_offset = height }

-- three bytes of a kind's name tell it from the others
abbrev key : List ℕ → ℕ
key name = (get_or name 0 0 * 256 + get_or name 1 0) * 256 + get_or name 4 0

one_kind : (k l : NodeKind) → kind_name k ≡ kind_name l → k ≡ l
one_kind Source Source e = refl
one_kind Source l e = absurd (omega (arith, ap key e))
one_kind Sink Sink e = refl
one_kind Sink l e = absurd (omega (arith, ap key e))
one_kind Opin Opin e = refl
one_kind Opin l e = absurd (omega (arith, ap key e))
one_kind Ipin Ipin e = refl
one_kind Ipin l e = absurd (omega (arith, ap key e))
one_kind Chanx Chanx e = refl
one_kind Chanx l e = absurd (omega (arith, ap key e))
one_kind Chany Chany e = refl
one_kind Chany l e = absurd (omega (arith, ap key e))

one_span : (e : Elem) (p q : Span) → SaysSpan e p → SaysSpan e q → p ≡ q
one_span e p q says_p says_q =
    let x_low = one_number e (codes "xlow") 2147483647 p.x_low q.x_low says_p.x_low says_q.x_low in
    let x_high = one_number e (codes "xhigh") 2147483647 p.x_high q.x_high says_p.x_high says_q.x_high in
    let y_low = one_number e (codes "ylow") 2147483647 p.y_low q.y_low says_p.y_low says_q.y_low in
    let y_high = one_number e (codes "yhigh") 2147483647 p.y_high q.y_high says_p.y_high says_q.y_high in
    ap (λ a. made a p.x_high p.y_low p.y_high) x_low ∙ ap (λ a. made q.x_low a p.y_low p.y_high) x_high ∙
    ap (λ a. made q.x_low q.x_high a p.y_high) y_low ∙ ap (λ a. made q.x_low q.x_high q.y_low a) y_high
  where
    made : ℕ → ℕ → ℕ → ℕ → Span
    made x_low x_high y_low y_high = record { x_low = x_low; x_high = x_high; y_low = y_low; y_high = y_high }

one_numbering : (e : Elem) (p q : Option ℕ) → NumbersPin e p → NumbersPin e q → p ≡ q
one_numbering e None q says_p says_q = absurd says_p
one_numbering e (Some m) None says_p says_q = absurd says_q
one_numbering e (Some m) (Some n) says_p says_q = ap Some (one_number e (codes "ptc") 2147483647 m n says_p says_q)

one_pin : (e : Elem) (k : NodeKind) (p q : Option ℕ) → SaysPin e k p → SaysPin e k q → p ≡ q
one_pin e Source p q says_p says_q = says_p ∙ sym says_q
one_pin e Sink p q says_p says_q = says_p ∙ sym says_q
one_pin e Opin p q says_p says_q = one_numbering e p q says_p says_q
one_pin e Ipin p q says_p says_q = one_numbering e p q says_p says_q
one_pin e Chanx p q says_p says_q = says_p ∙ sym says_q
one_pin e Chany p q says_p says_q = says_p ∙ sym says_q

pub one_node : (e : Elem) (p q : Node) → SaysNode e p → SaysNode e q → p ≡ q
one_node e p q of_p of_q =
    let loc : of_p.loc ≡ of_q.loc = (let both : Some of_p.loc ≡ Some of_q.loc = sym of_p.first ∙ of_q.first in cc) in
    let says_p : SaysNodeAt e of_q.loc p = subst (λ l. SaysNodeAt e l p) loc of_p.says in
    let says_q = of_q.says in
    let id = one_number e (codes "id") 2147483647 p.id q.id says_p.id says_q.id in
    let kind = one_kind p.kind q.kind (one_value e (codes "type") (kind_name p.kind) (kind_name q.kind) says_p.kind says_q.kind) in
    let span = one_span of_q.loc p.span q.span says_p.span says_q.span in
    let pin_p : SaysPin of_q.loc q.kind p.pin = subst (λ k. SaysPin of_q.loc k p.pin) kind says_p.pin in
    let pin = one_pin of_q.loc q.kind p.pin q.pin pin_p says_q.pin in
    ap (λ a. made a p.kind p.span p.pin) id ∙ ap (λ a. made q.id a p.span p.pin) kind ∙
    ap (λ a. made q.id q.kind a p.pin) span ∙ ap (λ a. made q.id q.kind q.span a) pin
  where
    made : ℕ → NodeKind → Span → Option ℕ → Node
    made id kind span pin = record { id = id; kind = kind; span = span; pin = pin }
