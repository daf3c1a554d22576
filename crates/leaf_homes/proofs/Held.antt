-- What an instance shows of its pb_type: its kind, and its ports.
use Rattle.std.proofs.Common.{◌≡◌, ℕ, List, Option, Some, None, refl, sym, ap, ◌∙◌, subst}
use Rattle.std.specs.Option.{option_map}
use Rattle.arch_types.specs.declared.block.PbType.{PbType}
use Rattle.arch_types.specs.declared.block.Port.{Port}
use Rattle.arch_types.specs.declared.block.AtomKind.{AtomKind}
use Rattle.net_types.specs.declared.atom.Atom.{Atom}
use Rattle.pb_expand.specs.Graph.{Graph, block_at, kind_of}
use Rattle.pb_expand.specs.declared.number.PbKind.{PbKind}
use Rattle.pb_expand.specs.declared.number.PbKind.TheVariants.{Leaf}
use Rattle.atom_homes.specs.Homes.{Fits}
use Rattle.leaf_homes.specs.Leaves.{HoldsAt}

mapped : {A B : Type 0} (f : A → B) (o : Option A) (b : B) → option_map f o ≡ Some b → (a : A) × (o ≡ Some a) × (f a ≡ b)
mapped f None b e = absurd (let bad : ⊥ = cc e in bad)
mapped f (Some a) b e = (a, refl, cc e)

abbrev pub ShowsKind : Graph → ℕ → AtomKind → Type 0
ShowsKind g leaf kind = option_map (λ (block : PbType). kind_of block.kind) (block_at g leaf) ≡ Some (Leaf kind)

abbrev pub ShowsPorts : Graph → ℕ → List Port → Type 0
ShowsPorts g leaf ports = option_map (λ (block : PbType). block.ports) (block_at g leaf) ≡ Some ports

same_block : (o : Option PbType) (a b : PbType) → o ≡ Some a → o ≡ Some b → a ≡ b
same_block o a b is_a is_b = let e : Some a ≡ Some b = sym is_a ∙ is_b in cc e

same_kind : (a b : PbKind) (kind other : AtomKind) → a ≡ Leaf kind → b ≡ Leaf other → b ≡ a → kind ≡ other
same_kind a b kind other is_a is_b same = let e : Leaf kind ≡ Leaf other = sym is_a ∙ sym same ∙ is_b in cc e

pub held : (g : Graph) (atom : Atom) (leaf : ℕ) (kind : AtomKind) (ports : List Port) → ShowsKind g leaf kind → ShowsPorts g leaf ports → Fits kind atom ports → HoldsAt g atom leaf
held g atom leaf kind ports shows_kind shows_ports fits =
    let k = mapped (λ (block : PbType). kind_of block.kind) (block_at g leaf) (Leaf kind) shows_kind in
    let p = mapped (λ (block : PbType). block.ports) (block_at g leaf) ports shows_ports in
    let same = same_block (block_at g leaf) p.0 k.0 p.1 k.1 in
    record {
      block = k.0;
      is_block = k.1;
      kind = kind;
      is_leaf = k.2;
      fits = subst (λ (ps : List Port). Fits kind atom ps) (sym p.2 ∙ ap (λ (b : PbType). b.ports) same) fits;
    }

pub fitting : (g : Graph) (atom : Atom) (leaf : ℕ) (kind : AtomKind) (ports : List Port) → ShowsKind g leaf kind → ShowsPorts g leaf ports → HoldsAt g atom leaf → Fits kind atom ports
fitting g atom leaf kind ports shows_kind shows_ports h =
    let k = mapped (λ (block : PbType). kind_of block.kind) (block_at g leaf) (Leaf kind) shows_kind in
    let p = mapped (λ (block : PbType). block.ports) (block_at g leaf) ports shows_ports in
    let kinds = same_kind (kind_of k.0.kind) (kind_of h.block.kind) kind h.kind k.2 h.is_leaf (ap (λ (b : PbType). kind_of b.kind) (same_block (block_at g leaf) h.block k.0 h.is_block k.1)) in
    let same = same_block (block_at g leaf) h.block p.0 h.is_block p.1 in
    subst (λ (other : AtomKind). Fits other atom ports) (sym kinds)
    (subst (λ (ps : List Port). Fits h.kind atom ps) (ap (λ (b : PbType). b.ports) same ∙ p.2) h.fits)
