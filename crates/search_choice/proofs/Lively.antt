-- Once all modes that are live are decided, what is open is live.
use Rattle.std.proofs.Common.{◌≡◌, ◌+◌, ◌<◌, ℕ, zero, suc, List, [], ◌∷◌, ◌++◌, Option, Some, None, IsSome, if◌then◌else◌, nat_lt, length, slice_get, refl, sym, ap, ◌∙◌, subst, append_assoc, arith, length-append}
use Rattle.std.specs.Option.{option_map, option_and_then}
use Rattle.std.proofs.lemmas.Option.{slice_get_within}
use Rattle.list_laws.proofs.Members.{has_at}
use Rattle.arch_types.specs.declared.block.PbType.{PbType}
use Rattle.arch_types.specs.declared.block.Mode.{Mode}
use Rattle.arch_types.specs.declared.block.Kind.{Kind, Modes', out-Kind}
use Rattle.arch_types.specs.Tree.{modes_of, kids_of}
use Rattle.arch_types.specs.Address.{Address, Hop, at, child_at}
use Rattle.pb_expand.specs.declared.number.PbKind.TheVariants as kinds
use Rattle.pb_expand.specs.Graph.{Graph, block_at, kind_of}
use Rattle.pb_expand.specs.Expansion.{IsExpansion}
use Rattle.prog_map.specs.Leaves.{kind_at, HasModes}
use Rattle.prog_map.specs.Live.{StandsIn, IsLiveAt}
use Rattle.task_types.specs.declared.decision.Decision.{Decision}
use Rattle.task_types.specs.Decisions.{mode_in}
use Rattle.task_types.specs.Open.{IsOpen}
use Rattle.task_types.specs.Tidy.{AreModesDecided}

some_same : {X : Type 0} {x y : X} → Some x ≡ Some y → x ≡ y
some_same e = cc

-- what has a mode has modes
pub modes_kind : (k : Kind) (i : ℕ) (m : Mode) → slice_get (modes_of k) i ≡ Some m → (count : ℕ) × (kind_of k ≡ kinds.Modes count)
unfolding out-Kind denote.Hole.Carrier.out
modes_kind (Modes' n modes) i m is = (_, refl)
modes_kind _ i m is = absurd (cc)

-- there is a block above a block
record IsAbove (root : PbType) (address : Address) (hop : Hop) : Type 0 where
  pub block : PbType
  pub is_block : at root address ≡ Some block
  pub mode : Mode
  pub is_mode : slice_get (modes_of block.kind) hop.mode ≡ Some mode

above_is : (root : PbType) (address : Address) (hop : Hop) (hops : Address) → IsSome (at root (address ++ hop ∷ hops)) → IsAbove root address hop
above_is root [] hop hops there = by (slice_get (modes_of root.kind) hop.mode) refl there
  where
    by : (o : Option Mode) → slice_get (modes_of root.kind) hop.mode ≡ o →
        IsSome (option_and_then (λ kid. at kid hops) (option_and_then (λ mode. option_and_then (λ kid. if nat_lt hop.instance kid.count then Some kid else None) (slice_get (kids_of mode) hop.child)) o)) → IsAbove root [] hop
    by None is some = absurd cc
    by (Some mode) is some = record { block = root; is_block = refl; mode = mode; is_mode = is }
above_is root (step ∷ address) hop hops there = by (child_at root step) refl there (λ kid some. above_is kid address hop hops some)
  where
    by : (o : Option PbType) → child_at root step ≡ o → IsSome (option_and_then (λ kid. at kid (address ++ hop ∷ hops)) o) → ((kid : PbType) → IsSome (at kid (address ++ hop ∷ hops)) → IsAbove kid address hop) →
        IsAbove root (step ∷ address) hop
    by None is some below = absurd cc
    by (Some kid) is some below =
        let under = below kid some in
        record { block = under.block; is_block = ap (option_and_then (λ k. at k address)) is ∙ under.is_block; mode = under.mode; is_mode = under.is_mode }

module _ (g : Graph) (made : List Decision) (law : IsExpansion g) where
  above_modes : (pb above mode : ℕ) → StandsIn g pb above mode → HasModes g above
  above_modes pb above mode st =
      let there = (law.numbering.exact (st.address ++ st.hop ∷ st.hops)).0 (has_at g.instances pb (st.address ++ st.hop ∷ st.hops) st.is_below) in
      let is = above_is g.root st.address st.hop st.hops there in
      let block : block_at g above ≡ Some is.block = ap (option_and_then (λ (a : Address). at g.root a)) st.is_above ∙ is.is_block in
      let kind = modes_kind is.block.kind st.hop.mode is.mode is.is_mode in
      record { count = kind.0; is = ap (option_map (λ (b : PbType). kind_of b.kind)) block ∙ ap Some kind.1 }

  is_it : (o : Option ℕ) (mode : ℕ) → IsSome o → ((decided : ℕ) → o ≡ Some decided → decided ≡ mode) → o ≡ Some mode
  is_it None mode some same = absurd cc
  is_it (Some decided) mode some same = ap Some (same decided refl)

  -- what stands above an instance above
  abbrev above_above : (pb above mode higher mode2 : ℕ) (st : StandsIn g pb above mode) (up : StandsIn g above higher mode2) → StandsIn g pb higher mode2
  above_above pb above mode higher mode2 st up =
      let same : st.address ≡ up.address ++ up.hop ∷ up.hops = some_same (sym st.is_above ∙ up.is_below) in
      record {
        address = up.address;
        is_above = up.is_above;
        hop = up.hop;
        hops = up.hops ++ st.hop ∷ st.hops;
        is_mode = up.is_mode;
        is_below = st.is_below ∙ ap (λ a. Some (a ++ st.hop ∷ st.hops)) same ∙ ap (λ a. Some a) (append_assoc up.address (up.hop ∷ up.hops) (st.hop ∷ st.hops));
      }

  shorter : (pb above mode higher mode2 : ℕ) (st : StandsIn g pb above mode) (up : StandsIn g above higher mode2) → length up.address < length st.address
  shorter pb above mode higher mode2 st up =
      let same : st.address ≡ up.address ++ up.hop ∷ up.hops = some_same (sym st.is_above ∙ up.is_below) in
      let long : length st.address ≡ length up.address + length (up.hop ∷ up.hops) = ap length same ∙ length-append up.address (up.hop ∷ up.hops) in
      let more : length (up.hop ∷ up.hops) ≡ suc (length up.hops) = refl in
      omega (arith, long, more)

  module _ (modes : AreModesDecided g made) (pb : ℕ) (open' : IsOpen g (mode_in made) pb) where
    decided_above : (bound above mode : ℕ) (st : StandsIn g pb above mode) → length st.address < bound → mode_in made above ≡ Some mode
    decided_above zero above mode st less = absurd (omega (arith, less))
    decided_above (suc bound) above mode st less =
        let live : IsLiveAt g (mode_in made) above = record {
          inside = slice_get_within g.instances above st.address st.is_above;
          each = λ higher mode2 up.
              let short = shorter pb above mode higher mode2 st up in
              decided_above bound higher mode2 (above_above pb above mode higher mode2 st up) (omega (arith, short, less));
        } in
        is_it (mode_in made above) mode (modes.each above (above_modes pb above mode st) live) (λ decided is. open'.each above mode decided st is)

    pub open_live : pb < length g.instances → IsLiveAt g (mode_in made) pb
    open_live inside = record { inside = inside; each = λ above mode st. decided_above (suc (length st.address)) above mode st (omega arith) }
