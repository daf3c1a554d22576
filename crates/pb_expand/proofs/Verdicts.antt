-- What is told of a block type that isn't expanded, and what is known of one that is.
use Rattle.std.proofs.Common.{◌≡◌, ◌<◌, ◌≤◌, ◌⊎◌, ℕ, zero, suc, List, [], ◌∷◌, Option, Some, None, Result, Err, IsErrOf, IsSome, map, length, slice_get, refl, sym, ap, ◌∙◌, subst, inl, inr, arith}
use Rattle.std.proofs.lemmas.Option.{slice_get_within}
use Rattle.std.specs.Option.{option_and_then}
use Rattle.vtr_base.specs.Lists.{Has}
use Rattle.arch_types.specs.declared.block.PbType.{PbType}
use Rattle.arch_types.specs.declared.block.Mode.{Mode}
use Rattle.arch_types.specs.Tree.{modes_of, kids_of}
use Rattle.arch_types.specs.Address.{Address, at, child_at, instances_of}
use Rattle.arch_types.proofs.Once.{has_left, has_right}
use Rattle.mode_edges.specs.declared.faults.EdgeError.{EdgeError}
use Rattle.mode_edges.specs.declared.faults.EdgeError.TheVariants as edge
use Rattle.mode_edges.specs.Faults.{IsSoundMode}
use Rattle.pb_expand.specs.declared.error.SizeError.{SizeError}
use Rattle.pb_expand.specs.declared.error.SizeError.TheVariants as size
use Rattle.pb_expand.specs.declared.number.Edge.{Edge}
use Rattle.pb_expand.specs.declared.number.PinAt.{PinAt}
use Rattle.pb_expand.specs.Graph.{pins_of}
use Rattle.pb_expand.specs.Types.{ModeOf, mode_of, own_modes, modes_in_tree, below_mode}
use Rattle.pb_expand.specs.Refusals.{AreSound, TellsFirstIn, without_edges, TreeHasMoreEdges, IsTooLarge, IsRefusal, error_of_edge, error_of_size}
use Rattle.pb_expand.specs.Making.{AreBlocks, AreBefore, AreMore}
use Rattle.pb_expand.proofs.Lists.{element}
use Rattle.pb_expand.proofs.Blocks.{takes}
use Rattle.pb_expand.proofs.TypeLemmas.{modes_list, kids_list, modes_below_is, below_mode_is}
use Rattle.pb_expand.proofs.EdgeList.{is_edge, is_made}
use Rattle.pb_expand.proofs.Counts.{few_of, once_of}

own_has : (block : PbType) (modes : List Mode) (m : ℕ) (mode : Mode) → slice_get modes m ≡ Some mode → Has (map (mode_of block) modes) (mode_of block mode)
own_has block [] m mode at_m = absurd (cc)
own_has block (x ∷ modes) zero mode at_m = let same : x ≡ mode = cc in inl (ap (mode_of block) (sym same))
own_has block (x ∷ modes) (suc m) mode at_m = inr (own_has block modes m mode at_m)

kid_has : (kids : List PbType) (k : ℕ) (kid : PbType) (x : ModeOf) → slice_get kids k ≡ Some kid → Has (modes_in_tree kid) x → Has (kids_list kids) x
kid_has [] k kid x at_k has = absurd (cc)
kid_has (y ∷ kids) zero kid x at_k has =
    let same : y ≡ kid = cc in
    has_left (modes_in_tree y) (kids_list kids) x (subst (λ b. Has (modes_in_tree b) x) (sym same) has)
kid_has (y ∷ kids) (suc k) kid x at_k has = has_right (modes_in_tree y) (kids_list kids) x (kid_has kids k kid x at_k has)

below_has : (modes : List Mode) (m : ℕ) (mode : Mode) (x : ModeOf) → slice_get modes m ≡ Some mode → Has (kids_list (kids_of mode)) x → Has (modes_list modes) x
below_has [] m mode x at_m has = absurd (cc)
below_has (y ∷ modes) zero mode x at_m has =
    let same : y ≡ mode = cc in
    let here : kids_list (kids_of mode) ≡ below_mode y = ap (λ z. kids_list (kids_of z)) (sym same) ∙ sym (below_mode_is y) in
    has_left (below_mode y) (modes_list modes) x (subst (λ l. Has l x) here has)
below_has (y ∷ modes) (suc m) mode x at_m has = has_right (below_mode y) (modes_list modes) x (below_has modes m mode x at_m has)

-- the modes of each instance's pb_type are among those of the tree
in_tree : (hops : Address) (p block : PbType) (m : ℕ) (mode : Mode) → at p hops ≡ Some block → slice_get (modes_of block.kind) m ≡ Some mode →
    Has (modes_in_tree p) (mode_of block mode)
in_tree [] p block m mode found at_m =
    let same : p ≡ block = cc in
    has_left (own_modes p) _ (mode_of block mode) (subst (λ (b : PbType). Has (own_modes b) (mode_of block mode)) (sym same) (own_has block (modes_of block.kind) m mode at_m))
in_tree (hop ∷ hops) p block m mode found at_m = by (child_at p hop) refl found (λ kid below. in_tree hops kid block m mode below at_m)
  where
    by : (o : Option PbType) → child_at p hop ≡ o → option_and_then (λ kid. at kid hops) o ≡ Some block →
        ((kid : PbType) → at kid hops ≡ Some block → Has (modes_in_tree kid) (mode_of block mode)) → Has (modes_in_tree p) (mode_of block mode)
    by None is below further = absurd (cc)
    by (Some kid) is below further =
        let t = takes p hop (subst (λ o. IsSome o) (sym is) refl) in
        let same : t.kid ≡ kid = cc (t.is, is) in
        let inside = further t.kid (subst (λ (k : PbType). at k hops ≡ Some block) (sym same) below) in
        let kids = kid_has (kids_of t.mode) hop.child t.kid (mode_of block mode) t.is_kid inside in
        let modes = below_has (modes_of p.kind) hop.mode t.mode (mode_of block mode) t.is_mode kids in
        has_right (own_modes p) _ (mode_of block mode) (subst (λ l. Has l (mode_of block mode)) (sym (modes_below_is p.kind)) modes)

-- the modes of the instances of a sound tree are sound
pub sound_at : (root : PbType) (blocks : List PbType) (instances : List Address) → AreSound (modes_in_tree root) → AreBlocks root instances blocks →
    (n m : ℕ) (block : PbType) (mode : Mode) → slice_get blocks n ≡ Some block → slice_get (modes_of block.kind) m ≡ Some mode → IsSoundMode block mode
sound_at root blocks instances sound are n m block mode at_n at_m =
    let inside : n < length instances = omega (arith, slice_get_within blocks n block at_n, are.all) in
    let address = element instances n inside in
    let here = are.each n address.0 address.1 in
    let same : here.0 ≡ block = cc (here.2, at_n) in
    sound (mode_of block mode) (in_tree address.0 root block m mode (here.1 ∙ ap Some same) at_m)

-- edges that were listed are edges of the tree
pub more_edges : (root : PbType) (blocks : List PbType) (instances : List Address) (pins : List PinAt) (most : ℕ) → AreBlocks root (instances_of root) blocks →
    instances ≡ instances_of root → pins ≡ pins_of root → AreMore blocks instances pins most → TreeHasMoreEdges root most
more_edges root blocks instances pins most are is_instances is_pins more =
    let here = subst (λ ps. AreMore blocks (instances_of root) ps most) is_pins (subst (λ is. AreMore blocks is pins most) is_instances more) in
    record {
      edges = here.edges;
      each = λ e has. is_edge (without_edges root) blocks e are (here.each e has);
      once = here.once;
      more = here.more;
    }

-- a tree whose edges are listed in full has no more than the list
pub not_more : (root : PbType) (blocks : List PbType) (instances : List Address) (pins : List PinAt) (edges : List Edge) (most : ℕ) → AreBlocks root (instances_of root) blocks →
    instances ≡ instances_of root → pins ≡ pins_of root → AreBefore blocks instances pins (length blocks) 0 edges → length edges ≤ most → TreeHasMoreEdges root most → ⊥
not_more root blocks instances pins edges most are is_instances is_pins before few more =
    let here = subst (λ ps. AreBefore blocks (instances_of root) ps (length blocks) 0 edges) is_pins
    (subst (λ is. AreBefore blocks is pins (length blocks) 0 edges) is_instances before) in
    let all : (e : Edge) → Has more.edges e → Has edges e = λ e has.
    let made = is_made (without_edges root) blocks e are (more.each e has) in
    here.all e made (inl (slice_get_within blocks e.owner.0 made.block made.is_block)) in
    absurd (omega (arith, few_of more.edges edges (once_of more.edges more.once) all, more.more))

pub fault_told : (root : PbType) (e : EdgeError) → TellsFirstIn (modes_in_tree root) e → IsRefusal root (error_of_edge e)
fault_told root (edge.NoSuchPin inter) t = t
fault_told root (edge.Width inter) t = t
fault_told root (edge.WideMux inter) t = t
fault_told root edge.OutOfMemory t = t

pub excess_told : {T : Type 0} (root : PbType) (e : SizeError) (r : Result T SizeError) → r ≡ Err e → AreSound (modes_in_tree root) → (IsErrOf r size.TooMany → IsTooLarge root) →
    IsRefusal root (error_of_size e)
excess_told root size.TooMany r is sound large = (sound, large is)
excess_told root size.OutOfMemory r is sound large = tt

pub or_edges : (root : PbType) → (1048576 < length (instances_of root)) ⊎ (1048576 < length (pins_of root)) → IsTooLarge root
or_edges root (inl many) = inl many
or_edges root (inr many) = inr (inl many)

pub small : (root : PbType) → (TreeHasMoreEdges root 4194304 → ⊥) → length (instances_of root) ≤ 1048576 → length (pins_of root) ≤ 1048576 → IsTooLarge root → ⊥
small root edges instances pins (inl many) = absurd (omega arith)
small root edges instances pins (inr (inl many)) = absurd (omega arith)
small root edges instances pins (inr (inr many)) = edges many
