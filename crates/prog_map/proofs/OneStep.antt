-- A pin has one step back at most, and so one last pin.
use Rattle.std.proofs.Common.{◌≡◌, ◌⊎◌, inl, inr, ℕ, zero, suc, List, [], ◌∷◌, Some, refl, sym, ap, ◌∙◌, subst}
use Rattle.std.specs.Prelude.{slice_get}
use Rattle.vtr_base.specs.Lists.{Has}
use Rattle.list_laws.proofs.Members.{has_at}
use Rattle.pb_expand.specs.declared.number.PinIx.{PinIx}
use Rattle.pb_expand.specs.declared.number.PbIx.{PbIx}
use Rattle.pb_expand.specs.declared.number.PinAt.{PinAt}
use Rattle.pb_expand.specs.declared.number.Edge.{Edge}
use Rattle.pb_expand.specs.Graph.{Graph, pin_ix, pin_at}
use Rattle.pb_expand.specs.Expansion.{IsExpansion}
use Rattle.pb_expand.specs.OneOwner.{HasOneOwner}
use Rattle.prog_map.specs.Leaves.{HasModes, IsLeaf, IsOutput, AreInputs}
use Rattle.prog_map.specs.Choices.{Choices, mode_of, pick_of, lut_of}
use Rattle.prog_map.specs.Back.{StepsBack, StepsBackIn, StepsThrough}
use Rattle.prog_map.specs.Walk.{IsWalk, IsLast, CarriedIn, Carried}
use Rattle.prog_map.proofs.Climbs.{some_injective}
use Rattle.prog_map.proofs.Through.{one_inputs, wire_same}

-- edges into outputs are of instances with modes
pub record EndAtModes (g : Graph) : Type 0 where
  pub each : (e : Edge) (at : PinAt) → Has g.edges e → slice_get g.pins e.dst.0 ≡ Some at → IsOutput g at → HasModes g at.pb.0

pin_eq : (a b : PinIx) → a.0 ≡ b.0 → a ≡ b
pin_eq a b e = ap pin_ix e

module _ (g : Graph) (law : IsExpansion g) (one : HasOneOwner g) (ends : EndAtModes g) (c : Choices) where
  one_edge : (p q x owner other : ℕ) → StepsBackIn g c owner p q → StepsBackIn g c other p x → q ≡ x
  one_edge p q x owner other e f =
      let same : e.edge.owner ≡ f.edge.owner =
      one.one e.edge f.edge (has_at g.edges e.number e.edge e.is) (has_at g.edges f.number f.edge f.is) (pin_eq e.edge.dst f.edge.dst (e.ends ∙ sym f.ends)) in
      let owners : owner ≡ other = sym e.owned ∙ ap (λ (y : PbIx). y.0) same ∙ f.owned in
      let modes : e.edge.mode ≡ f.edge.mode = some_injective (sym e.chosen ∙ ap (λ y. mode_of c y) owners ∙ f.chosen) in
      let numbers : e.number ≡ f.number = some_injective (sym e.taken ∙ ap (λ m. pick_of c p m) modes ∙ f.taken) in
      let edges : e.edge ≡ f.edge = some_injective (sym e.is ∙ ap (λ k. slice_get g.edges k) numbers ∙ f.is) in
      sym e.starts ∙ ap (λ (y : Edge). y.src.0) edges ∙ f.starts

  one_pass : (p q x : ℕ) → StepsThrough g c p q → StepsThrough g c p x → q ≡ x
  one_pass p q x e f =
      let same : e.at ≡ f.at = some_injective (sym e.is ∙ f.is) in
      let pb : e.at.pb.0 ≡ f.at.pb.0 = ap (λ (y : PinAt). y.pb.0) same in
      let ports : e.port ≡ f.port = (one_inputs g f.at.pb.0 e.port e.width f.port f.width (subst (λ k. AreInputs g k e.port e.width) pb e.inputs) f.inputs).0 in
      let input : e.input ≡ f.input = wire_same e.input f.input (sym e.holds ∙ ap (λ k. lut_of c k) pb ∙ f.holds) in
      let there : slice_get g.pins q ≡ Some (pin_at f.at.pb.0 f.port f.input) =
      e.leads ∙ ap (λ k. Some (pin_at k e.port e.input)) pb ∙ ap (λ k. Some (pin_at f.at.pb.0 k e.input)) ports ∙ ap (λ i. Some (pin_at f.at.pb.0 f.port i)) input in
      law.has_pins.once q x (pin_at f.at.pb.0 f.port f.input) there f.leads

  no_edge_to_leaf : (p q owner : ℕ) (at : PinAt) → slice_get g.pins p ≡ Some at → IsOutput g at → IsLeaf g at.pb.0 → StepsBackIn g c owner p q → ⊥
  no_edge_to_leaf p q owner at is output leaf e =
      let modes = ends.each e.edge at (has_at g.edges e.number e.edge e.is) (ap (λ k. slice_get g.pins k) e.ends ∙ is) output in
      let bad : ⊥ = cc (sym leaf.is ∙ modes.is) in
      bad

  pub one_step : (p q x : ℕ) → StepsBack g c p q → StepsBack g c p x → q ≡ x
  one_step p q x (inl e) (inl f) = one_edge p q x e.owner f.owner e.step f.step
  one_step p q x (inr e) (inr f) = one_pass p q x e f
  one_step p q x (inl e) (inr f) = absurd (no_edge_to_leaf p q e.owner f.at f.is f.output (record { atom = _; is = f.inputs.lut }) e.step)
  one_step p q x (inr e) (inl f) = absurd (no_edge_to_leaf p x f.owner e.at e.is e.output (record { atom = _; is = e.inputs.lut }) f.step)

  -- how a walk ends whose earlier pins are these
  abbrev Ends : (ℕ → Type 0) → ℕ → List ℕ → Type 0
  Ends Seen last pins = ((pin : ℕ) → StepsBack g c last pin → ⊥) ⊎ ((pin : ℕ) × StepsBack g c last pin × (Seen pin ⊎ Has pins pin))

  -- a walk that goes on doesn't end
  no_end : (Seen : ℕ → Type 0) (start last next other : ℕ) (more : List ℕ) → last ≡ start → Ends Seen last (start ∷ []) → IsWalk (StepsBack g c) start other (next ∷ more) →
      ((z : ℕ) → Seen z → Has (start ∷ next ∷ more) z → ⊥) → ⊥
  no_end Seen start last next other more is (inl none) walk apart = none next (subst (λ k. StepsBack g c k next) (sym is) walk.0)
  no_end Seen start last next other more is (inr back) walk apart =
      let same : back.0 ≡ next = one_step start back.0 next (subst (λ k. StepsBack g c k back.0) is back.1) walk.0 in
      elim back.2 [
        | inl seen ↦ apart next (subst Seen same seen) (inr (inl refl))
        | inr has ↦ elim has [ inl first ↦ walk.1 (inl (sym first ∙ same)) | inr none ↦ none ]
      ]

  -- walks from one pin end at one
  one_end : (Seen : ℕ → Type 0) (start last other : ℕ) (later more : List ℕ) → IsWalk (StepsBack g c) start last later → IsWalk (StepsBack g c) start other more →
      Ends Seen last (start ∷ later) → Ends Seen other (start ∷ more) → ((z : ℕ) → Seen z → Has (start ∷ later) z → ⊥) → ((z : ℕ) → Seen z → Has (start ∷ more) z → ⊥) →
      last ≡ other
  one_end Seen start last other [] [] walk to ends stops apart off = walk ∙ sym to
  one_end Seen start last other [] (m ∷ more) walk to ends stops apart off = absurd (no_end Seen start last m other more walk ends to off)
  one_end Seen start last other (n ∷ later) [] walk to ends stops apart off = absurd (no_end Seen start other n last later to stops walk apart)
  one_end Seen start last other (n ∷ later) (m ∷ more) walk to ends stops apart off =
      let same : m ≡ n = one_step start m n to.0 walk.0 in
      one_end (λ z. Seen z ⊎ (z ≡ start)) n last other later more walk.2 (subst (λ k. IsWalk (StepsBack g c) k other more) same to.2) (moved last n later ends)
      (subst (λ k. Ends (λ z. Seen z ⊎ (z ≡ start)) other (k ∷ more)) same (moved other m more stops))
      (λ z seen has. elim seen [ inl before ↦ apart z before (inr has) | inr is ↦ walk.1 (subst (Has (n ∷ later)) is has) ])
      (λ z seen has.
      let there : Has (m ∷ more) z = subst (λ k. Has (k ∷ more) z) (sym same) has in
      elim seen [ inl before ↦ off z before (inr there) | inr is ↦ to.1 (subst (Has (m ∷ more)) is there) ])
    where
      moved : (end next : ℕ) (pins : List ℕ) → Ends Seen end (start ∷ next ∷ pins) → Ends (λ z. Seen z ⊎ (z ≡ start)) end (next ∷ pins)
      moved end next pins (inl none) = inl none
      moved end next pins (inr back) =
          inr (
            back.0,
            back.1,
            elim back.2 [
              | inl seen ↦ inl (inl seen)
              | inr has ↦ elim has [ inl first ↦ inl (inr first) | inr later ↦ inr later ]
            ],
          )

  pub one_last : (p q r : ℕ) → IsLast (StepsBack g c) p q → IsLast (StepsBack g c) p r → q ≡ r
  one_last p q r a b =
      one_end (λ z. ⊥) p q r a.later b.later a.walk b.walk (ended q (p ∷ a.later) a.ends) (ended r (p ∷ b.later) b.ends) (λ z none has. none) (λ z none has. none)
    where
      ended : (last : ℕ) (pins : List ℕ) → ((pin : ℕ) → StepsBack g c last pin → ⊥) ⊎ ((pin : ℕ) × StepsBack g c last pin × Has pins pin) → Ends (λ z. ⊥) last pins
      ended last pins (inl none) = inl none
      ended last pins (inr back) = inr (back.0, back.1, inr back.2)

  pub one_source : (n m p s t : ℕ) → CarriedIn g c n p s → CarriedIn g c m p t → ((q : ℕ) → StepsBack g c s q → ⊥) → ((q : ℕ) → StepsBack g c t q → ⊥) → s ≡ t
  one_source zero zero p s t to_s to_t end_s end_t = sym to_s ∙ to_t
  one_source zero (suc m) p s t to_s to_t end_s end_t = absurd (end_s to_t.0 (subst (λ k. StepsBack g c k to_t.0) to_s to_t.1))
  one_source (suc n) zero p s t to_s to_t end_s end_t = absurd (end_t to_s.0 (subst (λ k. StepsBack g c k to_s.0) to_t to_s.1))
  one_source (suc n) (suc m) p s t to_s to_t end_s end_t =
      one_source n m to_s.0 s t to_s.2 (subst (λ k. CarriedIn g c m k t) (one_step p to_t.0 to_s.0 to_t.1 to_s.1) to_t.2) end_s end_t

-- a pin is carried from its last one
walk_carries : (g : Graph) (c : Choices) (start last : ℕ) (later : List ℕ) → IsWalk (StepsBack g c) start last later → Carried g c start last
walk_carries g c start last [] walk = record { steps = 0; way = sym walk }
walk_carries g c start last (next ∷ later) walk =
    let rest = walk_carries g c next last later walk.2 in record { steps = suc rest.steps; way = (next, walk.0, rest.way) }

pub last_carries : (g : Graph) (c : Choices) (start last : ℕ) → IsLast (StepsBack g c) start last → Carried g c start last
last_carries g c start last is = walk_carries g c start last is.later is.walk
