-- The pb_type of an instance, found from its parent's.
use Rattle.std.proofs.Common.{◌≡◌, ◌<◌, ℕ, zero, suc, Bool, true, false, nat_lt, if◌then◌else◌, List, [], ◌∷◌, ◌++◌, Option, Some, None, IsSome, length, get_or, slice_get, refl, sym, ap, ◌∙◌, subst, arith, rules}
use Rattle.std.proofs.lemmas.Option.{slice_get_within, slice_get-get_or, get_or_from_slice_get}
use Rattle.std.proofs.lemmas.Bool.Decides.{nat_tests}
use Rattle.std.specs.Option.{option_and_then, option_map}
use Rattle.arch_types.specs.declared.block.PbType.{PbType}
use Rattle.arch_types.specs.declared.block.Mode.{Mode}
use Rattle.arch_types.specs.declared.block.Kind.{Kind, out-Kind}
use Rattle.arch_types.specs.declared.block.Kind.TheVariants.{Modes}
use Rattle.arch_types.specs.declared.block.Kind.TheViews.{the_lemmas}
use Rattle.arch_types.specs.Tree.{modes_of, kids_of, name_of_mode}
use Rattle.arch_types.specs.Address.{Address, Hop, at, child_at, step_to}
use Rattle.arch_types.specs.Numbering.{IsNumbering}
use Rattle.pb_expand.specs.declared.number.Step.{Step}
use Rattle.pb_expand.specs.Graph.{Graph, LeadsTo, block_at, mode_at, hop_of}
use Rattle.pb_expand.proofs.Lists.{has_at}

-- one hop more
pub at_step : (root : PbType) (front : Address) (hop : Hop) → at root (front ++ hop ∷ []) ≡ option_and_then (λ block. child_at block hop) (at root front)
at_step root [] hop = by (child_at root hop)
  where
    by : (o : Option PbType) → option_and_then (λ kid. at kid []) o ≡ o
    by None = refl
    by (Some kid) = refl
at_step root (first ∷ front) hop = by (child_at root first) (λ kid. at_step kid front hop)
  where
    by : (o : Option PbType) → ((kid : PbType) → at kid (front ++ hop ∷ []) ≡ option_and_then (λ block. child_at block hop) (at kid front)) →
        option_and_then (λ kid. at kid (front ++ hop ∷ [])) o ≡ option_and_then (λ block. child_at block hop) (option_and_then (λ kid. at kid front) o)
    by None more = refl
    by (Some kid) more = more kid

-- the instance's pb_type is its parent's child
pub block_below : (g : Graph) (s : Step) (n : ℕ) (p : PbType) → LeadsTo g.instances s n → block_at g s.parent.0 ≡ Some p → block_at g n ≡ child_at p (hop_of s)
block_below g s n p leads parent =
    let here : at g.root leads.parent ≡ Some p = sym (ap (option_and_then (λ a. at g.root a)) leads.is_parent) ∙ parent in
    let there : block_at g n ≡ at g.root (step_to leads.parent s.mode s.child s.instance) = ap (option_and_then (λ a. at g.root a)) leads.is_child in
    there ∙ at_step g.root leads.parent (hop_of s) ∙ ap (option_and_then (λ block. child_at block (hop_of s))) here

pub has_block : (g : Graph) (n : ℕ) (a : Address) → IsNumbering g.root g.instances → slice_get g.instances n ≡ Some a → IsSome (block_at g n)
has_block g n a numbering e =
    let found : IsSome (at g.root a) = (numbering.exact a).0 (has_at g.instances n a e) in
    let same : block_at g n ≡ at g.root a = ap (option_and_then (λ a. at g.root a)) e in
    subst (λ o. IsSome o) (sym same) found

pub child_there : (g : Graph) (s : Step) (n : ℕ) (p : PbType) → IsNumbering g.root g.instances → LeadsTo g.instances s n → block_at g s.parent.0 ≡ Some p → IsSome (child_at p (hop_of s))
child_there g s n p numbering leads parent =
    subst (λ o. IsSome o) (block_below g s n p leads parent) (has_block g n (step_to leads.parent s.mode s.child s.instance) numbering leads.is_child)

pub modes_are : (kind : Kind) (modes : List Mode) → kind ≡ Modes modes → modes_of kind ≡ modes
unfolding out-Kind denote.Hole.Carrier.out
modes_are kind modes is = search (rules, the_lemmas, is)

-- the mode and the child that a hop takes
pub record Takes (block : PbType) (hop : Hop) : Type 0 where
  pub mode : Mode
  pub is_mode : slice_get (modes_of block.kind) hop.mode ≡ Some mode
  pub kid : PbType
  pub is_kid : slice_get (kids_of mode) hop.child ≡ Some kid
  pub counted : hop.instance < kid.count
  pub is : child_at block hop ≡ Some kid

pub takes : (block : PbType) (hop : Hop) → IsSome (child_at block hop) → Takes block hop
takes block hop there = by_mode (slice_get (modes_of block.kind) hop.mode) refl there
  where
    by_count : (mode : Mode) (kid : PbType) → slice_get (modes_of block.kind) hop.mode ≡ Some mode → slice_get (kids_of mode) hop.child ≡ Some kid →
        (b : Bool) → nat_lt hop.instance kid.count ≡ b → IsSome (if b then Some kid else None) → Takes block hop
    by_count mode kid is_mode is_kid true t some =
        let outer = ap (option_and_then (λ (m : Mode). option_and_then (λ (k : PbType). if nat_lt hop.instance k.count then Some k else None) (slice_get (kids_of m) hop.child))) is_mode in
        let within = ap (option_and_then (λ (k : PbType). if nat_lt hop.instance k.count then Some k else None)) is_kid in
        record {
          mode = mode;
          is_mode = is_mode;
          kid = kid;
          is_kid = is_kid;
          counted = grind (arith, nat_tests, t);
          is = outer ∙ within ∙ ap (λ b. if b then Some kid else None) t;
        }
    by_count mode kid is_mode is_kid false t some = cc

    by_kid : (mode : Mode) → slice_get (modes_of block.kind) hop.mode ≡ Some mode → (o : Option PbType) → slice_get (kids_of mode) hop.child ≡ o →
        IsSome (option_and_then (λ (k : PbType). if nat_lt hop.instance k.count then Some k else None) o) → Takes block hop
    by_kid mode is_mode None e some = cc
    by_kid mode is_mode (Some kid) e some = by_count mode kid is_mode e (nat_lt hop.instance kid.count) refl some

    by_mode : (o : Option Mode) → slice_get (modes_of block.kind) hop.mode ≡ o →
        IsSome (option_and_then (λ (m : Mode). option_and_then (λ (k : PbType). if nat_lt hop.instance k.count then Some k else None) (slice_get (kids_of m) hop.child)) o) → Takes block hop
    by_mode None e some = cc
    by_mode (Some mode) e some = by_kid mode e (slice_get (kids_of mode) hop.child) refl some

pub mode_inside : (block : PbType) (hop : Hop) (modes : List Mode) → modes_of block.kind ≡ modes → IsSome (child_at block hop) → hop.mode < length modes
mode_inside block hop modes e there =
    let t = takes block hop there in
    slice_get_within modes hop.mode t.mode (sym (ap (λ ms. slice_get ms hop.mode) e) ∙ t.is_mode)

-- the mode that was read is the one that the hop takes
mode_read : (block : PbType) (hop : Hop) (modes : List Mode) (mode : Mode) → modes_of block.kind ≡ modes → (there : IsSome (child_at block hop)) →
    mode ≡ get_or modes hop.mode mode → (takes block hop there).mode ≡ mode
mode_read block hop modes mode e there read =
    let t = takes block hop there in
    let got = get_or_from_slice_get modes hop.mode t.mode mode (sym (ap (λ ms. slice_get ms hop.mode) e) ∙ t.is_mode) in
    sym got ∙ sym read

pub kid_inside : (block : PbType) (hop : Hop) (modes : List Mode) (mode : Mode) (kids : List PbType) → modes_of block.kind ≡ modes → IsSome (child_at block hop) →
    mode ≡ get_or modes hop.mode mode → kids_of mode ≡ kids → hop.child < length kids
kid_inside block hop modes mode kids e there read f =
    let t = takes block hop there in
    let same = ap kids_of (mode_read block hop modes mode e there read) ∙ f in
    slice_get_within kids hop.child t.kid (sym (ap (λ ks. slice_get ks hop.child) same) ∙ t.is_kid)

pub kid_read : (block : PbType) (hop : Hop) (modes : List Mode) (mode : Mode) (kids : List PbType) (kid : PbType) → modes_of block.kind ≡ modes → IsSome (child_at block hop) →
    mode ≡ get_or modes hop.mode mode → kids_of mode ≡ kids → kid ≡ get_or kids hop.child kid → child_at block hop ≡ Some kid
kid_read block hop modes mode kids kid e there read f at =
    let t = takes block hop there in
    let same = ap kids_of (mode_read block hop modes mode e there read) ∙ f in
    let got = get_or_from_slice_get kids hop.child t.kid kid (sym (ap (λ ks. slice_get ks hop.child) same) ∙ t.is_kid) in
    t.is ∙ ap Some (sym got ∙ sym at)

-- a mode of an instance, read off the instance's pb_type
pub mode_is : (g : Graph) (n mode : ℕ) (block : PbType) (modes : List Mode) → block_at g n ≡ Some block → modes_of block.kind ≡ modes → mode_at g n mode ≡ slice_get modes mode
mode_is g n mode block modes e f =
    ap (option_and_then (λ (b : PbType). slice_get (modes_of b.kind) mode)) e ∙ ap (λ ms. slice_get ms mode) f

pub some_inside : {X : Type 0} (xs : List X) (k : ℕ) → IsSome (slice_get xs k) → k < length xs
some_inside [] k some = cc
some_inside (x ∷ xs) zero some = omega arith
some_inside (x ∷ xs) (suc k) some = omega (arith, some_inside xs k some)

-- the name of a mode of an instance, read off the instance's pb_type
pub named : (g : Graph) (n mode : ℕ) (block : PbType) (modes : List Mode) (read : Mode) (name : List ℕ) → block_at g n ≡ Some block → modes_of block.kind ≡ modes →
    IsSome (mode_at g n mode) → read ≡ get_or modes mode read → name ≡ name_of_mode (get_or modes mode read) →
    option_map name_of_mode (mode_at g n mode) ≡ Some name
named g n mode block modes read name e f there at is =
    let found = mode_is g n mode block modes e f in
    let inside = some_inside modes mode (subst (λ o. IsSome o) found there) in
    ap (option_map name_of_mode) (found ∙ slice_get-get_or modes mode read inside) ∙ ap Some (sym is)

-- the root's number is 0
pub root_block : (g : Graph) → slice_get g.instances 0 ≡ Some [] → block_at g 0 ≡ Some g.root
root_block g e = ap (option_and_then (λ a. at g.root a)) e
