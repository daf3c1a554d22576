-- An instance with something below it has modes, and its modes are counted.
use Rattle.arch_types.specs.declared.block.Kind.TheViews.{the_lemmas}
use Rattle.std.proofs.Common.{◌≡◌, ◌<◌, ◌+◌, ℕ, zero, suc, List, [], ◌∷◌, ◌++◌, Option, Some, None, length, refl, sym, ap, ◌∙◌, subst, append_assoc, length-append, arith, rules}
use Rattle.std.specs.Prelude.{slice_get, IsSome}
use Rattle.std.specs.Option.{option_map, option_and_then}
use Rattle.std.proofs.lemmas.Option.{slice_get_within}
use Rattle.list_laws.proofs.Members.{has_at}
use Rattle.list_laws.proofs.Places.{element}
use Rattle.arch_types.specs.declared.block.PbType.{PbType}
use Rattle.arch_types.specs.declared.block.Mode.{Mode}
use Rattle.arch_types.specs.declared.block.Kind.{Kind, out-Kind, Modes'}
use Rattle.arch_types.specs.Address.{Address, Hop, at, child_at}
use Rattle.arch_types.specs.Tree.{modes_of}
use Rattle.pb_expand.specs.declared.number.PbKind.{PbKind}
use Rattle.pb_expand.specs.declared.number.PbKind.TheVariants as kinds
use Rattle.pb_expand.specs.Graph.{Graph, block_at, kind_of}
use Rattle.pb_expand.specs.Expansion.{IsExpansion}
use Rattle.prog_map.specs.Choices.{IsModeOf}
use Rattle.prog_map.specs.Leaves.{kind_at, HasModes}
use Rattle.prog_map.specs.Live.{IsLiveAt, StandsIn}
use Rattle.prog_map.specs.Order.{count_of}
use Rattle.task_types.specs.declared.decision.Decision.{Decision}
use Rattle.task_types.specs.Decisions.{mode_in}
use Rattle.task_types.specs.Open.{IsOpen}
use Rattle.task_types.specs.Tidy.{AreModesDecided}

count_is : (k : Kind) → count_of (Some (kind_of k)) ≡ length (modes_of k)
unfolding out-Kind denote.Hole.Carrier.out
count_is (Modes' n modes) = search (rules, the_lemmas)
count_is _ = refl

pub mode_there : (g : Graph) (pb mode : ℕ) → mode < count_of (kind_at g pb) → IsModeOf g pb mode
mode_there g pb mode inside = by (block_at g pb) inside
  where
    by : (o : Option PbType) → mode < count_of (option_map (λ (block : PbType). kind_of block.kind) o) → IsSome (option_and_then (λ (block : PbType). slice_get (modes_of block.kind) mode) o)
    by None h = absurd (omega (arith, h))
    by (Some block) h =
        let inside' : mode < length (modes_of block.kind) = omega (arith, h, count_is block.kind) in
        let e = element (modes_of block.kind) mode inside' in subst (λ o. IsSome o) (sym e.1) refl

counted_modes : (g : Graph) (pb mode : ℕ) → mode < count_of (kind_at g pb) → HasModes g pb
counted_modes g pb mode inside = by (kind_at g pb) refl inside
  where
    by : (o : Option PbKind) → kind_at g pb ≡ o → mode < count_of o → HasModes g pb
    by None e h = absurd (omega (arith, h))
    by (Some (kinds.Leaf atom)) e h = absurd (omega (arith, h))
    by (Some (kinds.Modes count)) e h = record { count = count; is = e }

-- the block at which an address goes on has the mode by which it does
record GoesBy (root : PbType) (address : Address) (mode : ℕ) : Type 0 where
  pub block : PbType
  pub is : at root address ≡ Some block
  pub inside : mode < length (modes_of block.kind)

goes_by : (address : Address) (root : PbType) (hop : Hop) (hops : List Hop) → IsSome (at root (address ++ hop ∷ hops)) → GoesBy root address hop.mode
goes_by [] root hop hops some = by (slice_get (modes_of root.kind) hop.mode) refl some
  where
    by : (o : Option Mode) → slice_get (modes_of root.kind) hop.mode ≡ o → IsSome (at root (hop ∷ hops)) → GoesBy root [] hop.mode
    by None e h = absurd (let bad : ⊥ = cc (rw e at h) in bad)
    by (Some m) e h = record { block = root; is = refl; inside = slice_get_within (modes_of root.kind) hop.mode m e }
goes_by (first ∷ address) root hop hops some = by (child_at root first) refl some (λ kid there. goes_by address kid hop hops there)
  where
    by : (o : Option PbType) → child_at root first ≡ o → IsSome (option_and_then (λ kid. at kid (address ++ hop ∷ hops)) o) →
        ((kid : PbType) → IsSome (at kid (address ++ hop ∷ hops)) → GoesBy kid address hop.mode) → GoesBy root (first ∷ address) hop.mode
    by None e h below = absurd (let bad : ⊥ = cc h in bad)
    by (Some kid) e h below =
        let r = below kid h in
        record { block = r.block; is = ap (λ o. option_and_then (λ kid. at kid address) o) e ∙ r.is; inside = r.inside }

-- what stands above another has modes
has_modes : (g : Graph) (pb above mode : ℕ) → IsExpansion g → StandsIn g pb above mode → HasModes g above
has_modes g pb above mode law st =
    let there : IsSome (at g.root (st.address ++ st.hop ∷ st.hops)) = (law.numbering.exact (st.address ++ st.hop ∷ st.hops)).0 (has_at g.instances pb (st.address ++ st.hop ∷ st.hops) st.is_below) in
    let r = goes_by st.address g.root st.hop st.hops there in
    let kind : kind_at g above ≡ Some (kind_of r.block.kind) =
    ap (λ o. option_map (λ (block : PbType). kind_of block.kind) (option_and_then (λ address. at g.root address) o)) st.is_above ∙ ap (λ o. option_map (λ (block : PbType). kind_of block.kind) o) r.is in
    counted_modes g above st.hop.mode (omega (arith, r.inside, ap count_of kind, count_is r.block.kind))

same_address : (g : Graph) (pb above mode top mode_of_top : ℕ) (st : StandsIn g pb above mode) (over : StandsIn g above top mode_of_top) → over.address ++ over.hop ∷ over.hops ≡ st.address
same_address g pb above mode top mode_of_top st over =
    let both : Some (over.address ++ over.hop ∷ over.hops) ≡ Some st.address = sym over.is_below ∙ st.is_above in cc both

-- what stands above what is above stands above, with a shorter address
abbrev further : (g : Graph) (pb above mode top mode_of_top : ℕ) → StandsIn g pb above mode → StandsIn g above top mode_of_top → StandsIn g pb top mode_of_top
further g pb above mode top mode_of_top st over =
    let same = same_address g pb above mode top mode_of_top st over in
    record {
      address = over.address;
      is_above = over.is_above;
      hop = over.hop;
      hops = over.hops ++ st.hop ∷ st.hops;
      is_mode = over.is_mode;
      is_below = st.is_below ∙ ap (λ (a : Address). Some (a ++ st.hop ∷ st.hops)) (sym same) ∙ ap (λ (a : Address). Some a) (append_assoc over.address (over.hop ∷ over.hops) (st.hop ∷ st.hops));
    }

shorter : (g : Graph) (pb above mode top mode_of_top : ℕ) (st : StandsIn g pb above mode) (over : StandsIn g above top mode_of_top) → length over.address < length st.address
shorter g pb above mode top mode_of_top st over =
    let same = same_address g pb above mode top mode_of_top st over in
    omega (arith, ap (λ (a : Address). length a) same, length-append over.address (over.hop ∷ over.hops))

-- where modes are decided, what is open is live
module _ (g : Graph) (law : IsExpansion g) (made : List Decision) (modes : AreModesDecided g made) (pb : ℕ) (open' : IsOpen g (mode_in made) pb) where
  above_is : (k above mode : ℕ) (st : StandsIn g pb above mode) → length st.address < k → mode_in made above ≡ Some mode
  above_is zero above mode st less = absurd (omega (arith, less))
  above_is (suc k) above mode st less =
      let live : IsLiveAt g (mode_in made) above = record {
        inside = slice_get_within g.instances above st.address st.is_above;
        each = λ top m over. above_is k top m (further g pb above mode top m st over) (omega (arith, less, shorter g pb above mode top m st over));
      } in
      by (mode_in made above) refl (modes.each above (has_modes g pb above mode law st) live)
    where
      by : (o : Option ℕ) → mode_in made above ≡ o → IsSome o → o ≡ Some mode
      by None e some = absurd (let bad : ⊥ = cc some in bad)
      by (Some m) e some = ap (λ x. Some x) (open'.each above mode m st e)

  pub open_is_live : pb < length g.instances → IsLiveAt g (mode_in made) pb
  open_is_live inside = record { inside = inside; each = λ above mode st. above_is (length st.address + 1) above mode st (omega arith) }
