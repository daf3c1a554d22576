-- From a block type that is well formed to the pb_types in it.
use Rattle.std.proofs.Common.{◌≡◌, ◌<◌, ℕ, zero, suc, Bool, true, false, List, [], ◌∷◌, ◌++◌, Option, Some, None, refl, subst, arith, map, slice_get, nat_lt, if◌then◌else◌}
use Rattle.std.specs.Prelude.{option_and_then}
use Rattle.std.specs.List.{All, AllPairs, flat_map}
use Rattle.std.proofs.lemmas.List.Elements.{All-nil, All-cons, All-head, All-tail}
use Rattle.arch_types.specs.declared.block.PbType.{PbType}
use Rattle.arch_types.specs.declared.block.Kind.{Kind, Modes', out-Kind}
use Rattle.arch_types.specs.declared.block.Kind.TheVariants as kind
use Rattle.arch_types.specs.declared.block.Mode.{Mode}
use Rattle.arch_types.specs.declared.block.Port.{Port}
use Rattle.arch_types.specs.Tree.{name_of_mode, modes_of, kids_of}
use Rattle.arch_types.specs.Address.{Hop, Address, child_at, at}
use Rattle.arch_types.specs.Preorder.{inside, inside_mode, preorder}
use Rattle.arch_types.proofs.PreorderRows.{inside_is, inside_mode_is}
use Rattle.arch_types.specs.Blocks.{IsInPad, IsOutPad, IsLut, IsLatch, IsMode, FitsKind, IsPbType, IsTree}
use Rattle.arch_types.specs.Names.{AreDifferent}
use Rattle.arch_types.specs.Counts.{IsShort}

pairs_nil : {X : Type 0} (R : X → X → Type 0) → AllPairs R []
pairs_nil R i j d lt within = absurd (omega arith)

pub all_get : {X : Type 0} (P : X → Type 0) (xs : List X) (i : ℕ) (x : X) → All P xs → slice_get xs i ≡ Some x → P x
all_get P [] i x all is = absurd (cc)
all_get P (y ∷ xs) zero x all is = let same : y ≡ x = cc in subst P same (All-head P y xs all)
all_get P (y ∷ xs) (suc i) x all is = all_get P xs i x (All-tail P y xs all) is

all_left : {X : Type 0} (P : X → Type 0) (xs ys : List X) → All P (xs ++ ys) → All P xs
all_left P [] ys all = All-nil P
all_left P (x ∷ xs) ys all = All-cons P x xs (All-head P x (xs ++ ys) all) (all_left P xs ys (All-tail P x (xs ++ ys) all))

all_right : {X : Type 0} (P : X → Type 0) (xs ys : List X) → All P (xs ++ ys) → All P ys
all_right P [] ys all = all
all_right P (x ∷ xs) ys all = all_right P xs ys (All-tail P x (xs ++ ys) all)

all_parts : {X Y : Type 0} (P : Y → Type 0) (f : X → List Y) (xs : List X) → All P (flat_map f xs) → All (λ x. All P (f x)) xs
all_parts P f [] all = All-nil (λ x. All P (f x))
all_parts P f (x ∷ xs) all = All-cons (λ y. All P (f y)) x xs (all_left P (f x) (flat_map f xs) all) (all_parts P f xs (all_right P (f x) (flat_map f xs) all))

-- the pb_type itself
pub own_of : (models : ℕ) (p : PbType) → IsTree models p → IsPbType models p
own_of models p tree = All-head (IsPbType models) p (inside p.kind) tree

-- a child of one of its modes, with all that stands in it
pub kid_of : (models : ℕ) (p kid : PbType) (m : Mode) (i j : ℕ) → IsTree models p → slice_get (modes_of p.kind) i ≡ Some m →
    slice_get (kids_of m) j ≡ Some kid → IsTree models kid
kid_of models p kid m i j tree in_modes in_kids =
    let below : All (IsPbType models) (flat_map inside_mode (modes_of p.kind)) =
    subst (λ l. All (IsPbType models) l) (inside_is p.kind) (All-tail (IsPbType models) p (inside p.kind) tree) in
    let in_mode : All (IsPbType models) (inside_mode m) =
    all_get (λ x. All (IsPbType models) (inside_mode x)) (modes_of p.kind) i m (all_parts (IsPbType models) inside_mode (modes_of p.kind) below) in_modes in
    let kids : All (IsPbType models) (flat_map preorder (kids_of m)) = subst (λ l. All (IsPbType models) l) (inside_mode_is m) in_mode in
    all_get (λ x. All (IsPbType models) (preorder x)) (kids_of m) j kid (all_parts (IsPbType models) preorder (kids_of m) kids) in_kids

child_of : (models : ℕ) (p kid : PbType) (hop : Hop) → IsTree models p → child_at p hop ≡ Some kid → IsTree models kid
child_of models p kid hop tree is = in_modes (slice_get (modes_of p.kind) hop.mode) refl is
  where
    pick : PbType → Option PbType
    pick k = if nat_lt hop.instance k.count then Some k else None

    picked : (k : PbType) (b : Bool) → (if b then Some k else None) ≡ Some kid → k ≡ kid
    picked k true same = cc
    picked k false same = absurd (cc)

    in_kids : (m : Mode) → slice_get (modes_of p.kind) hop.mode ≡ Some m → (o : Option PbType) → slice_get (kids_of m) hop.child ≡ o →
        option_and_then (λ k. if nat_lt hop.instance k.count then Some k else None) o ≡ Some kid → IsTree models kid
    in_kids m at_mode None at_kid same = absurd (cc)
    in_kids m at_mode (Some k) at_kid same = subst (IsTree models) (picked k (nat_lt hop.instance k.count) same) (kid_of models p k m hop.mode hop.child tree at_mode at_kid)

    in_modes : (o : Option Mode) → slice_get (modes_of p.kind) hop.mode ≡ o →
        option_and_then (λ m. option_and_then (λ k. if nat_lt hop.instance k.count then Some k else None) (slice_get (kids_of m) hop.child)) o ≡ Some kid → IsTree models kid
    in_modes None at_mode same = absurd (cc)
    in_modes (Some m) at_mode same = in_kids m at_mode (slice_get (kids_of m) hop.child) refl same

-- the pb_type of an instance
pub instance_of : (models : ℕ) (hops : Address) (p q : PbType) → IsTree models p → at p hops ≡ Some q → IsTree models q
instance_of models [] p q tree is = let same : p ≡ q = cc in subst (IsTree models) same tree
instance_of models (hop ∷ hops) p q tree is = go (child_at p hop) refl is (λ kid below. instance_of models hops kid q below)
  where
    go : (o : Option PbType) → child_at p hop ≡ o → option_and_then (λ kid. at kid hops) o ≡ Some q →
        ((kid : PbType) → IsTree models kid → at kid hops ≡ Some q → IsTree models q) → IsTree models q
    go None there same later = absurd (cc)
    go (Some kid) there same later = later kid (child_of models p kid hop tree there) same

-- By the kind of a pb_type

module _ (models : ℕ) (name : List ℕ) (ports : List Port) where
  pub in_pad_of : FitsKind models name ports kind.InPad → IsInPad ports
  unfolding out-Kind denote.Hole.Carrier.out
  in_pad_of fits = fits

  pub out_pad_of : FitsKind models name ports kind.OutPad → IsOutPad ports
  unfolding out-Kind denote.Hole.Carrier.out
  out_pad_of fits = fits

  pub lut_of : FitsKind models name ports kind.Lut → IsLut ports
  unfolding out-Kind denote.Hole.Carrier.out
  lut_of fits = fits

  pub latch_of : FitsKind models name ports kind.Latch → IsLatch ports
  unfolding out-Kind denote.Hole.Carrier.out
  latch_of fits = fits

  pub model_of : (model : ℕ) → FitsKind models name ports (kind.Cell model) → model < models
  unfolding out-Kind denote.Hole.Carrier.out
  model_of model fits = fits

  -- the modes of a pb_type; a leaf has none
  pub record KeptModes (modes : List Mode) : Type 0 where
    pub each : All (IsMode name) modes
    pub different : AreDifferent (map name_of_mode modes)
    pub few : IsShort modes

  pub modes_kept : (k : Kind) → FitsKind models name ports k → KeptModes (modes_of k)
  unfolding out-Kind denote.Hole.Carrier.out
  modes_kept (Modes' n modes) fits = record { each = fits.each; different = fits.different; few = fits.few }
  modes_kept _ fits = record { each = All-nil (IsMode name); different = pairs_nil (λ a b. (a ≡ b) → ⊥); few = omega arith }
