-- For each instance the first one of its pb_type: the one at the same address with the first
-- instance of each child.
use Rattle.std.proofs.Common.{◌≡◌, ◌+◌, ◌⊎◌, ℕ, zero, suc, List, [], ◌∷◌, ◌++◌, Option, Some, None, IsSome, length, slice_get, refl, sym, ap, ◌∙◌, subst, inl, inr, arith}
use Rattle.std.specs.Option.{option_and_then}
use Rattle.std.proofs.lemmas.List.{map-append}
use Rattle.std.proofs.lemmas.Option.{slice_get_within}
use Rattle.arch_types.specs.declared.block.PbType.{PbType}
use Rattle.arch_types.specs.Address.{Address, at, child_at, step_to}
use Rattle.arch_types.specs.Numbering.{IsNumbering}
use Rattle.mode_edges.specs.declared.pin.ChildAt.{ChildAt}
use Rattle.pb_expand.specs.declared.number.Step.{Step}
use Rattle.pb_expand.specs.declared.number.PbIx.{PbIx}
use Rattle.pb_expand.specs.Graph.{Graph, pb_ix, block_at, first_hop, first_address}
use Rattle.pb_expand.specs.Rows.{addresses, IsTree}
use Rattle.pb_expand.specs.Making.{AreBlocks, AreFirsts, StandFor, IsOwner}
use Rattle.pb_expand.proofs.Lists.{has_at, at_has, element, get_either}
use Rattle.pb_expand.proofs.RowLemmas.{root_first, row_says}
use Rattle.pb_expand.proofs.Blocks.{takes}
use Rattle.pb_expand.proofs.PinPlaces.{row_below, child_is, owner_stands}

first_snoc : (a : Address) (mode child instance : ℕ) → first_address (step_to a mode child instance) ≡ step_to (first_address a) mode child 0
first_snoc a mode child instance = map-append first_hop a (record { mode = mode; child = child; instance = instance } ∷ [])

first_twice : (a : Address) → first_address (first_address a) ≡ first_address a
first_twice [] = refl
first_twice (h ∷ a) = ap (λ l. first_hop h ∷ l) (first_twice a)

-- the first instance is of the same pb_type
pub at_first : (root : PbType) (a : Address) → IsSome (at root a) → at root (first_address a) ≡ at root a
at_first root [] some = refl
at_first root (h ∷ a) some = by (child_at root h) refl some (λ kid s. at_first kid a s)
  where
    by : (o : Option PbType) → child_at root h ≡ o → IsSome (option_and_then (λ kid. at kid a) o) →
        ((kid : PbType) → IsSome (at kid a) → at kid (first_address a) ≡ at kid a) → at root (first_address (h ∷ a)) ≡ at root (h ∷ a)
    by None e there more = cc
    by (Some kid) e there more =
        let t = takes root h (subst (λ o. IsSome o) (sym e) refl) in
        let same : t.kid ≡ kid = cc (t.is, e) in
        let first : child_at root (first_hop h) ≡ Some t.kid = child_is root (first_hop h) t.mode t.kid t.is_mode t.is_kid (omega (arith, t.counted)) in
        ap (option_and_then (λ k. at k (first_address a))) (first ∙ ap Some same) ∙ more kid there ∙ sym (ap (option_and_then (λ k. at k a)) e)

abbrev pub first_child : Step → ChildAt
first_child s = record { child = s.child; instance = 0 }

-- the first instance of a row's child below its parent's first one is there
pub like_there : (root : PbType) (rows : List Step) (k f : ℕ) (s : Step) (parent : Address) → IsTree rows → IsNumbering root (addresses rows) → slice_get rows k ≡ Some s →
    slice_get (addresses rows) s.parent.0 ≡ Some parent → slice_get (addresses rows) f ≡ Some (first_address parent) → (pb : ℕ) × IsOwner rows f s.mode (Some (first_child s)) pb
like_there root rows k f s parent tree numbering at_k at_parent at_f =
    let says = row_says rows k s tree at_k in
    let same : says.parent ≡ parent = cc (says.is_parent, at_parent) in
    let a = step_to says.parent s.mode s.child s.instance in
    let there = (numbering.exact a).0 (has_at (addresses rows) (k + 1) a says.is_child) in
    let first = subst (λ o. IsSome o) (sym (at_first root a there)) there in
    let j = at_has (addresses rows) (first_address a) ((numbering.exact (first_address a)).1 first) in
    let at_j : slice_get (addresses rows) j.0 ≡ Some (step_to (first_address parent) s.mode s.child 0) =
    j.1 ∙ ap Some (first_snoc says.parent s.mode s.child s.instance) ∙ ap (λ x. Some (step_to (first_address x) s.mode s.child 0)) same in
    let row = row_below root rows f s.mode s.child 0 j.0 (first_address parent) tree numbering at_f at_j in
    (row.0 + 1, (row.0, row.2, refl))

abbrev pub AreFirstSoFar : List Address → List PbIx → Type 0
AreFirstSoFar instances firsts = (n : ℕ) (a : Address) (f : PbIx) → slice_get instances n ≡ Some a → slice_get firsts n ≡ Some f → slice_get instances f.0 ≡ Some (first_address a)

pub first_begins : (rows : List Step) (firsts : List PbIx) → firsts ≡ pb_ix 0 ∷ [] → AreFirstSoFar (addresses rows) firsts
first_begins rows firsts e n a f at_n at_f = by n at_n (subst (λ l. slice_get l n ≡ Some f) e at_f)
  where
    by : (k : ℕ) → slice_get (addresses rows) k ≡ Some a → slice_get (pb_ix 0 ∷ []) k ≡ Some f → slice_get (addresses rows) f.0 ≡ Some (first_address a)
    by zero at_k is =
        let root : Some [] ≡ Some a = sym (root_first rows) ∙ at_k in
        let same : [] ≡ a = cc in
        let first : pb_ix 0 ≡ f = cc in
        ap (λ (x : PbIx). slice_get (addresses rows) x.0) (sym first) ∙ root_first rows ∙ ap (λ x. Some (first_address x)) same
    by (suc k) at_k is = absurd (cc)

-- one more row's first instance
pub first_more : (rows : List Step) (k : ℕ) (s : Step) (parent : Address) (f g : PbIx) (firsts new : List PbIx) → IsTree rows → slice_get rows k ≡ Some s →
    slice_get (addresses rows) s.parent.0 ≡ Some parent → slice_get (addresses rows) f.0 ≡ Some (first_address parent) → IsOwner rows f.0 s.mode (Some (first_child s)) g.0 →
    length firsts ≡ k + 1 → AreFirstSoFar (addresses rows) firsts → new ≡ firsts ++ g ∷ [] → AreFirstSoFar (addresses rows) new
first_more rows k s parent f g firsts new tree at_k at_parent at_f is count far e n a h at_n at_h =
    by (get_either firsts (g ∷ []) n h (subst (λ l. slice_get l n ≡ Some h) e at_h))
  where
    stands : slice_get (addresses rows) g.0 ≡ Some (step_to (first_address parent) s.mode s.child 0)
    stands = owner_stands rows f.0 s.mode (Some (first_child s)) g.0 tree is (first_address parent) at_f

    last : (j : ℕ) → n ≡ length firsts + j → slice_get (g ∷ []) j ≡ Some h → slice_get (addresses rows) h.0 ≡ Some (first_address a)
    last zero place at =
        let says = row_says rows k s tree at_k in
        let same : says.parent ≡ parent = cc (says.is_parent, at_parent) in
        let number : n ≡ k + 1 = omega (arith, count) in
        let here : Some a ≡ Some (step_to says.parent s.mode s.child s.instance) = sym at_n ∙ ap (λ m. slice_get (addresses rows) m) number ∙ says.is_child in
        let address : a ≡ step_to says.parent s.mode s.child s.instance = cc in
        let one : g ≡ h = cc in
        ap (λ (x : PbIx). slice_get (addresses rows) x.0) (sym one) ∙ stands ∙ ap (λ x. Some (step_to (first_address x) s.mode s.child 0)) (sym same)
        ∙ ap Some (sym (first_snoc says.parent s.mode s.child s.instance)) ∙ ap (λ x. Some (first_address x)) (sym address)
    last (suc j) place at = absurd (cc)

    by : (slice_get firsts n ≡ Some h) ⊎ ((j : ℕ) × (n ≡ length firsts + j) × (slice_get (g ∷ []) j ≡ Some h)) → slice_get (addresses rows) h.0 ≡ Some (first_address a)
    by (inl old) = far n a h at_n old
    by (inr new') = last new'.0 new'.1 new'.2

-- first instances stand for themselves, and are of the same pb_type
pub stand_for : (root : PbType) (instances : List Address) (blocks : List PbType) (firsts : List PbIx) → AreBlocks root instances blocks → IsNumbering root instances →
    AreFirsts instances firsts → StandFor blocks firsts
stand_for root instances blocks firsts are numbering first = record { itself = λ n f at. itself n f at; same = λ n f at. same n f at }
  where
    itself : (n : ℕ) (f : PbIx) → slice_get firsts n ≡ Some f → slice_get firsts f.0 ≡ Some f
    itself n f at_n =
        let a = element instances n (omega (arith, slice_get_within firsts n f at_n, first.all)) in
        let at_f = first.each n a.0 f a.1 at_n in
        let g = element firsts f.0 (omega (arith, slice_get_within instances f.0 (first_address a.0) at_f, first.all)) in
        let at_g = first.each f.0 (first_address a.0) g.0 at_f g.1 in
        let numbers : g.0.0 ≡ f.0 = numbering.once g.0.0 f.0 (first_address a.0) (at_g ∙ ap Some (first_twice a.0)) at_f in
        let one : g.0 ≡ f = ap pb_ix numbers in
        g.1 ∙ ap Some one

    same : (n : ℕ) (f : PbIx) → slice_get firsts n ≡ Some f → slice_get blocks f.0 ≡ slice_get blocks n
    same n f at_n =
        let a = element instances n (omega (arith, slice_get_within firsts n f at_n, first.all)) in
        let at_f = first.each n a.0 f a.1 at_n in
        let there = are.each f.0 (first_address a.0) at_f in
        let here = are.each n a.0 a.1 in
        let some : IsSome (at root a.0) = subst (λ o. IsSome o) (sym here.1) refl in
        let blocks : Some there.0 ≡ Some here.0 = sym there.1 ∙ at_first root a.0 some ∙ here.1 in
        there.2 ∙ blocks ∙ sym here.2

-- the first instance's pb_type in a graph
pub same_block : (g : Graph) (n f : ℕ) (a : Address) → IsNumbering g.root g.instances → slice_get g.instances n ≡ Some a → slice_get g.instances f ≡ Some (first_address a) →
    block_at g f ≡ block_at g n
same_block g n f a numbering at_n at_f =
    let some = (numbering.exact a).0 (has_at g.instances n a at_n) in
    ap (option_and_then (λ x. at g.root x)) at_f ∙ at_first g.root a some ∙ sym (ap (option_and_then (λ x. at g.root x)) at_n)
