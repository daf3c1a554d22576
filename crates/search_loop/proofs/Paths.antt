-- What is there on a path, and where it begins.
use Rattle.std.proofs.Common.{◌≡◌, ◌<◌, inl, inr, ℕ, zero, suc, Bool, true, false, List, [], ◌∷◌, ◌++◌, Option, Some, None, map, length, slice_get, refl, sym, ap, ◌∙◌, subst, arith}
use Rattle.std.specs.Prelude.{◌↔◌, IsSome, IsTrue}
use Rattle.std.specs.Option.{option_map, option_and_then}
use Rattle.std.proofs.lemmas.Option.{slice_get_within}
use Rattle.std.proofs.lemmas.Bool.Decides.{eqb_tells}
use Rattle.vtr_base.specs.Lists.{Has, up_from}
use Rattle.list_laws.proofs.Members.{has_at, has_either, from_map}
use Rattle.arch_types.specs.Address.{Address, at}
use Rattle.arch_types.specs.declared.block.PbType.{PbType}
use Rattle.pb_expand.specs.declared.number.PbKind.{PbKind}
use Rattle.pb_expand.specs.declared.number.PbKind.TheVariants.{Leaf, Modes}
use Rattle.pb_expand.specs.Graph.{Graph, kind_of}
use Rattle.pb_expand.specs.Expansion.{IsExpansion}
use Rattle.prog_map.specs.Leaves.{kind_at}
use Rattle.prog_map.specs.Live.{IsLivePin}
use Rattle.task_types.specs.declared.task.Task.{Task}
use Rattle.task_types.specs.declared.tree.Var.{Var}
use Rattle.task_types.specs.declared.tree.Var.TheVariants as var
use Rattle.task_types.specs.declared.tree.TreeNode.{TreeNode}
use Rattle.task_types.specs.declared.decision.Decision.{Decision}
use Rattle.task_types.specs.declared.decision.Decision.TheVariants as decision
use Rattle.task_types.specs.Decisions.{mode_in, entry_in}
use Rattle.task_types.specs.Ends.{IsRootInput}
use Rattle.task_types.specs.Options.{options, IsLiveVar, IsVar}
use Rattle.task_types.specs.Trees.{under}
use Rattle.task_options.specs.Choosing.{IsVarInside}
use Rattle.task_reach.specs.Valid.{EntersAtRoot}
use Rattle.tree_steps.specs.Owing.{Owes, IsPath, StandsAt}
use Rattle.search_rules.specs.Left.{HasSomeModes}
use Rattle.search_loop.specs.Writing.{GoesOn, IsNextOf, IsLeafNode}
use Rattle.search_loop.proofs.Written.{no_under}

-- what a live variable speaks of is there

pb_inside : (g : Graph) (pb : ℕ) (kind : PbKind) → kind_at g pb ≡ Some kind → pb < length g.instances
pb_inside g pb kind is = by (slice_get g.instances pb) refl
  where
    by : (o : Option Address) → slice_get g.instances pb ≡ o → pb < length g.instances
    by (Some a) found = slice_get_within g.instances pb a found
    by None none =
        let nothing : kind_at g pb ≡ None = ap (λ o. option_map (λ (block : PbType). kind_of block.kind) (option_and_then (λ address. at g.root address) o)) none in
        let bad : ⊥ = cc (sym is ∙ nothing) in absurd bad

pin_inside : (g : Graph) (modes : ℕ → Option ℕ) (pin mode : ℕ) → IsExpansion g → IsLivePin g modes pin mode → pin < length g.pins
pin_inside g modes pin mode law live =
    let of = law.has_edges.each live.into.edge (has_at g.edges live.number live.into.edge live.into.there) in
    subst (λ n. n < length g.pins) live.into.ends (slice_get_within g.pins live.into.edge.dst.0 _ of.is_dst.is_pin)

pub var_inside : (g : Graph) (t : Task) (made : List Decision) (v : Var) → IsExpansion g → IsLiveVar g t made v → IsVarInside g v
var_inside g t made (var.Mode pb) law live = pb_inside g pb.0 (Modes live.0.count) live.0.is
var_inside g t made (var.Occupant pb) law live = pb_inside g pb.0 (Leaf live.0.atom) live.0.is
var_inside g t made (var.Edge pin mode) law live = pin_inside g (mode_in made) pin.0 mode law live
var_inside g t made (var.Entry pin) law live = slice_get_within g.pins pin.0 live.0.at live.0.is

pub var_there : (g : Graph) (t : Task) (made : List Decision) (v : Var) → IsLiveVar g t made v → IsVar g t v
var_there g t made (var.Mode pb) live = live.0
var_there g t made (var.Occupant pb) live = live.0
var_there g t made (var.Edge pin mode) live = (live.number, live.into)
var_there g t made (var.Entry pin) live = live

map_up_some : {X : Type 0} (f : ℕ → X) (count : ℕ) → 0 < count → 0 < length (map f (up_from 0 count))
map_up_some f zero some = some
map_up_some f (suc count) some = omega arith

-- a live variable has an option
pub some_options : (g : Graph) (t : Task) (made : List Decision) (v : Var) → HasSomeModes g → IsLiveVar g t made v → 0 < length (options g t made v)
some_options g t made (var.Mode pb) modes live = map_up_some (λ mode. decision.Mode pb mode) _ (modes.each pb.0 live.0)
some_options g t made (var.Occupant pb) modes live = omega arith
some_options g t made (var.Edge pin mode) modes live = omega arith
some_options g t made (var.Entry pin) modes live = omega arith

-- entries are decided at input and clock pins of the block alone
pub enters_at_root : (g : Graph) (t : Task) (made : List Decision) → IsPath g t made → EntersAtRoot g made
enters_at_root g t made path = record { each = λ pin some. by made path.0 path.1 pin some }
  where
    by : (made : List Decision) (todo : List (List Decision)) → Owes g t made todo → (pin : ℕ) → IsSome (entry_in made pin) → IsRootInput g pin
    by [] todo owes pin some = absurd (let bad : ⊥ = cc some in bad)
    by (decision.Mode q k ∷ made) todo owes pin some = by made owes.0 owes.2 pin some
    by (decision.Occupant q o ∷ made) todo owes pin some = by made owes.0 owes.2 pin some
    by (decision.Edge q k o ∷ made) todo owes pin some = by made owes.0 owes.2 pin some
    by (decision.Entry q o ∷ made) todo owes pin some = elim (eqb_tells q.0 pin) [
      | inl same ↦ subst (λ k. IsRootInput g k) same.1 owes.1.live.0
      | inr apart ↦ by made owes.0 owes.2 pin (rw apart.0 at some)
    ]

-- what is still to come is one decision on one of the lists on the path
pub record IsBeside (made r : List Decision) : Type 0 where
  pub option : Decision
  pub below : List Decision
  pub is : r ≡ option ∷ below
  pub more : List Decision
  pub on : made ≡ more ++ below

pub owed_beside : (g : Graph) (t : Task) (made : List Decision) (todo : List (List Decision)) (r : List Decision) → Owes g t made todo → Has todo r → IsBeside made r
owed_beside g t [] todo r owes has = absurd (subst (λ l. Has l r) owes has)
owed_beside g t (d ∷ made) todo r owes has = elim (has_either (map (λ o. o ∷ made) owes.1.rest) owes.0 r (subst (λ l. Has l r) owes.1.is has)) [
  | inl here ↦ (let f = from_map (λ o. o ∷ made) owes.1.rest r here in record { option = f.item; below = made; is = f.is; more = d ∷ []; on = refl })
  | inr below ↦ (let b = owed_beside g t made owes.0 r owes.2 below in record { option = b.option; below = b.below; is = b.is; more = d ∷ b.more; on = ap (λ l. d ∷ l) b.on })
]

-- where nothing is decided, nothing is to come
pub bare_ends : (g : Graph) (t : Task) (old new : List Decision) → ((todo : List (List Decision)) → Owes g t old todo → StandsAt g t new todo) → new ≡ [] → GoesOn g t old new true
bare_ends g t old new stands bare = record { each = λ todo owes. by todo (stands todo owes) (λ r has. owed_beside g t old todo r owes has) }
  where
    by : (todo : List (List Decision)) → StandsAt g t new todo → ((r : List Decision) → Has todo r → IsBeside old r) → todo ≡ []
    by [] at beside = refl
    by (first ∷ rest) at beside = let b = beside first (inl refl) in let bad : ⊥ = cc (sym b.is ∙ at.0 ∙ bare) in absurd bad

pub more_comes : (g : Graph) (t : Task) (old new : List Decision) → ((todo : List (List Decision)) → Owes g t old todo → StandsAt g t new todo) → (new ≡ [] → ⊥) → GoesOn g t old new false
more_comes g t old new stands some = record { each = λ todo owes. by todo (stands todo owes) }
  where
    by : (todo : List (List Decision)) → StandsAt g t new todo → IsNextOf g t new false todo
    by [] at = absurd (some at)
    by (first ∷ rest) at = (rest, ap (λ m. m ∷ rest) at.0, at.1)

-- where it goes on to, whether nothing is decided there tells whether something is to come
pub goes_on : (g : Graph) (t : Task) (old new : List Decision) (node : TreeNode) (last : Bool) → IsLeafNode node → ((todo : List (List Decision)) → Owes g t old todo → StandsAt g t new (under g t old node ++ todo)) →
    (IsTrue last ↔ (new ≡ [])) → GoesOn g t old new last
goes_on g t old new node last leaf stands tells = by last tells
  where
    on : (todo : List (List Decision)) → Owes g t old todo → StandsAt g t new todo
    on todo owes = subst (λ l. StandsAt g t new (l ++ todo)) (no_under g t old node leaf) (stands todo owes)

    by : (b : Bool) → (IsTrue b ↔ (new ≡ [])) → GoesOn g t old new b
    by true tells = bare_ends g t old new on (tells.0 refl)
    by false tells = more_comes g t old new on (λ bare. let bad : ⊥ = cc (tells.1 bare) in bad)
