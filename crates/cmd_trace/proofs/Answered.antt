-- What is printed for a pin, and the lines so far.
use Rattle.std.proofs.Common.{◌≡◌, ◌<◌, ◌≤◌, ◌+◌, inl, inr, ℕ, zero, suc, Bool, true, false, ◌&&◌, cond, List, [], ◌∷◌, ◌++◌, length, drop, get_or, refl, sym, ap, ◌∙◌, subst, append_assoc, append-nil, arith, Option, Some, None, drop_of_length-le}
use Rattle.std.specs.Prelude.{Result, Ok, Err, OnOk, slice_get}
use Rattle.std.specs.Option.{option_map, option_map_or}
use Rattle.arch_types.specs.declared.block.PbType.{PbType}
use Rattle.arch_types.specs.declared.block.Port.{Port}
use Rattle.arch_types.specs.declared.block.Side.{Side}
use Rattle.pb_expand.specs.declared.number.PinAt.{PinAt}
use Rattle.pb_expand.specs.declared.number.PbKind.{PbKind}
use Rattle.pb_expand.specs.Graph.{Graph, block_at, kind_of}
use Rattle.prog_map.specs.Choices.{Choices}
use Rattle.prog_text.specs.Names.{pin_name}
use Rattle.prog_map.specs.Leaves.{port_at}
use Rattle.prog_map.specs.Back.{StepsBack}
use Rattle.prog_map.specs.Walk.{IsWalk, IsLast, AreLastPins}
use Rattle.vtr_base.specs.Lists.{Has}
use Rattle.pb_expand.specs.Expansion.{IsExpansion, HasEdges, IsEdgeOf}
use Rattle.pb_expand.specs.declared.number.PinIx.{PinIx}
use Rattle.std.proofs.lemmas.Option.{slice_get-get_or, slice_get_within}
use Rattle.cmd_trace.specs.Lines.{is_leaf, is_input, is_leaf_input, leaf_input_at, leaf_inputs_from, leaf_inputs, AreAnswers, AddsAnswer, AddsLine}

element : {X : Type 0} (xs : List X) (n : ℕ) → n < length xs → (x : X) × (slice_get xs n ≡ Some x)
element [] n low = absurd (omega arith)
element (x ∷ xs) zero low = (x, refl)
element (x ∷ xs) (suc n) low = element xs n (omega arith)

from_some : {X : Type 0} {x y : X} → Some x ≡ Some y → x ≡ y
from_some e = cc

pub leaf_input_is : (g : Graph) (n : ℕ) (pin : PinAt) (kind : PbKind) → slice_get g.pins n ≡ Some pin →
    option_map (λ (block : PbType). kind_of block.kind) (block_at g pin.pb.0) ≡ Some kind →
    leaf_input_at g n ≡ (is_leaf kind && option_map_or (λ (port : Port). is_input port.side) (port_at g pin) false)
leaf_input_is g n pin kind there is_kind =
    ap (λ o. option_map_or (is_leaf_input g) o false) there
    ∙ ap (λ b. b && option_map_or (λ (port : Port). is_input port.side) (port_at g pin) false) (by_block (block_at g pin.pb.0) is_kind)
  where
    by_block : (o : Option PbType) → option_map (λ (block : PbType). kind_of block.kind) o ≡ Some kind →
        option_map_or (λ (block : PbType). is_leaf (kind_of block.kind)) o false ≡ is_leaf kind
    by_block None e = cc
    by_block (Some block) e = ap is_leaf (from_some e)

pub side_says : (g : Graph) (pin : PinAt) (side : Side) → option_map (λ (port : Port). port.side) (port_at g pin) ≡ Some side →
    option_map_or (λ (port : Port). is_input port.side) (port_at g pin) false ≡ is_input side
side_says g pin side is = by_port (port_at g pin) is
  where
    by_port : (o : Option Port) → option_map (λ (port : Port). port.side) o ≡ Some side →
        option_map_or (λ (port : Port). is_input port.side) o false ≡ is_input side
    by_port None e = cc
    by_port (Some port) e = ap is_input (from_some e)

-- the lines so far: those of the pins that are left complete them
pub record IsAnswering (g : Graph) (c : Choices) (n : ℕ) (text : List ℕ) : Type 0 where
  pub goes : (rest : List ℕ) → AreAnswers g c (leaf_inputs_from g n (drop n g.pins)) rest → AreAnswers g c (leaf_inputs g) (text ++ rest)

pub answering_first : (g : Graph) (c : Choices) → IsAnswering g c 0 []
answering_first g c = record { goes = λ rest are. are }

drop_at : {X : Type 0} (xs : List X) (n : ℕ) (x : X) → slice_get xs n ≡ Some x → drop n xs ≡ x ∷ drop (n + 1) xs
drop_at [] n x there = cc
drop_at (y ∷ ys) zero x there = ap (λ z. z ∷ ys) (from_some there)
drop_at (y ∷ ys) (suc n) x there =
    let e : suc (n + 1) ≡ suc n + 1 = omega arith in drop_at ys n x there ∙ ap (λ k. x ∷ drop k (y ∷ ys)) e

inputs_at : (g : Graph) (n : ℕ) (pin : PinAt) (b : Bool) → slice_get g.pins n ≡ Some pin → leaf_input_at g n ≡ b →
    leaf_inputs_from g n (drop n g.pins) ≡ cond b (n ∷ leaf_inputs_from g (n + 1) (drop (n + 1) g.pins)) (leaf_inputs_from g (n + 1) (drop (n + 1) g.pins))
inputs_at g n pin b there is =
    let here : is_leaf_input g pin ≡ b = sym (ap (λ o. option_map_or (is_leaf_input g) o false) there) ∙ is in
    ap (leaf_inputs_from g n) (drop_at g.pins n pin there)
    ∙ ap (λ t. cond t (n ∷ leaf_inputs_from g (n + 1) (drop (n + 1) g.pins)) (leaf_inputs_from g (n + 1) (drop (n + 1) g.pins))) here

pub answering_skip : (g : Graph) (c : Choices) (n : ℕ) (text : List ℕ) → n < length g.pins → leaf_input_at g n ≡ false → IsAnswering g c n text →
    IsAnswering g c (n + 1) text
answering_skip g c n text inside is along =
    let pin = element g.pins n inside in
    record { goes = λ rest are. along.goes rest (subst (λ pins. AreAnswers g c pins rest) (sym (inputs_at g n pin.0 false pin.1 is)) are) }

rejoined : (text name answer rest : List ℕ) → (text ++ (name ++ 32 ∷ (answer ++ 10 ∷ []))) ++ rest ≡ text ++ (name ++ 32 ∷ (answer ++ 10 ∷ rest))
rejoined text name answer rest = simp append_assoc

pub answering_line : (g : Graph) (c : Choices) (n : ℕ) (text longer : List ℕ) → n < length g.pins → leaf_input_at g n ≡ true →
    IsAnswering g c n text → AddsLine g c n text longer → IsAnswering g c (n + 1) longer
answering_line g c n text longer inside is along line =
    let pin = element g.pins n inside in
    record {
      goes = λ rest are.
          let whole : List ℕ = pin_name g n ++ 32 ∷ (line.answer ++ 10 ∷ rest) in
          let these : AreAnswers g c (n ∷ leaf_inputs_from g (n + 1) (drop (n + 1) g.pins)) whole = (line.answer, rest, line.is, are, refl) in
          let so_far : AreAnswers g c (leaf_inputs g) (text ++ whole) =
          along.goes whole (subst (λ pins. AreAnswers g c pins whole) (sym (inputs_at g n pin.0 true pin.1 is)) these) in
          subst (λ t. AreAnswers g c (leaf_inputs g) t)
          (sym (ap (λ t. t ++ rest) line.got ∙ rejoined text (pin_name g n) line.answer rest)) so_far;
    }

pub answering_last : (g : Graph) (c : Choices) (n : ℕ) (text : List ℕ) → length g.pins ≤ n → IsAnswering g c n text → AreAnswers g c (leaf_inputs g) text
answering_last g c n text past along =
    let ended : drop n g.pins ≡ [] = drop_of_length-le g.pins past in
    subst (λ t. AreAnswers g c (leaf_inputs g) t) (append-nil text)
    (along.goes [] (subst (λ pins. AreAnswers g c (leaf_inputs_from g n pins) []) (sym ended) refl))

has_at : {X : Type 0} (xs : List X) (n : ℕ) (x : X) → slice_get xs n ≡ Some x → Has xs x
has_at [] n x there = cc
has_at (y ∷ ys) zero x there = inl (from_some (sym there))
has_at (y ∷ ys) (suc n) x there = inr (has_at ys n x there)

-- a step back leads to a pin
step_inside : (g : Graph) (c : Choices) (p q : ℕ) → HasEdges g → StepsBack g c p q → q < length g.pins
step_inside g c p q edges (inl by_edge) =
    let is : IsEdgeOf g by_edge.step.edge = edges.each by_edge.step.edge (has_at g.edges by_edge.step.number by_edge.step.edge by_edge.step.is) in
    subst (λ n. n < length g.pins) by_edge.step.starts (slice_get_within g.pins by_edge.step.edge.src.0 _ is.is_src.is_pin)
step_inside g c p q edges (inr through) = slice_get_within g.pins q _ through.leads

walk_inside : (Step : ℕ → ℕ → Type 0) (n start last : ℕ) (later : List ℕ) → ((p q : ℕ) → Step p q → q < n) → start < n → IsWalk Step start last later → last < n
walk_inside Step n start last [] inside here walk = subst (λ k. k < n) (sym walk) here
walk_inside Step n start last (next ∷ later) inside here walk = walk_inside Step n next last later inside (inside start next walk.0) walk.2

-- the last pin of a pin, among the last pins of all
pub last_of : (g : Graph) (c : Choices) (last : List PinIx) (pin : ℕ) (d : PinIx) → AreLastPins g c last → pin < length g.pins →
    IsLast (StepsBack g c) pin (get_or last pin d).0
last_of g c last pin d are inside = are.each pin (get_or last pin d) (slice_get-get_or last pin d (omega (arith, are.all)))

pub last_inside : (g : Graph) (c : Choices) (last : List PinIx) (pin : ℕ) (d : PinIx) → IsExpansion g → AreLastPins g c last → pin < length g.pins →
    (get_or last pin d).0 < length g.pins
last_inside g c last pin d law are inside =
    let is = last_of g c last pin d are inside in
    walk_inside (StepsBack g c) (length g.pins) pin (get_or last pin d).0 is.later (λ p q step. step_inside g c p q law.has_edges step) inside is.walk

-- the text grew by the last pin's name
pub adds_last : {T E : Type 0} (g : Graph) (c : Choices) (last : List PinIx) (pin first : ℕ) (d : PinIx) (old new : List ℕ) (r : Result T E) → AreLastPins g c last →
    pin < length g.pins → StepsBack g c pin first → OnOk r (new ≡ old ++ pin_name g (get_or last pin d).0) → OnOk r (AddsAnswer g c pin old new)
adds_last g c last pin first d old new (Ok v) are inside step is = record {
  answer = pin_name g (get_or last pin d).0;
  is = inr ((get_or last pin d).0, record { first = first; steps = step; is_last = last_of g c last pin d are inside }, refl);
  got = is;
}
adds_last g c last pin first d old new (Err e) are inside step is = tt
