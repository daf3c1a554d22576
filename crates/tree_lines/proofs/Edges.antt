-- Modes of edges into a pin, by their names.
use Rattle.std.proofs.Common.{◌≡◌, ◌==◌, ℕ, List, [], ◌∷◌, Some, None, true, false, length, slice_get, refl, sym, ap, subst, ◌∙◌, inl, arith}
use Rattle.std.proofs.lemmas.Bool.Decides.{nat_tests}
use Rattle.vtr_base.specs.Lists.{Has}
use Rattle.list_laws.proofs.Members.{has_at}
use Rattle.pb_expand.specs.declared.number.Edge.{Edge}
use Rattle.pb_expand.specs.declared.number.EdgeIx.{EdgeIx}
use Rattle.pb_expand.specs.declared.number.PbIx.{PbIx}
use Rattle.pb_expand.specs.Graph.{Graph, edge_ix, pin_ix, into_from}
use Rattle.pb_expand.specs.Ends.{AreEdgesWith, ListsEnds}
use Rattle.pb_expand.specs.OneOwner.{HasOneOwner}
use Rattle.prog_text.specs.Names.{NamesMode}
use Rattle.name_laws.specs.Laws.{TellsOneMode}
use Rattle.tree_lines.specs.Variables.{NamesModeInto}

-- two edges into one pin are of one owner
pub same_owner : (g : Graph) → HasOneOwner g → (j k : ℕ) (e f : Edge) → slice_get g.edges j ≡ Some e → slice_get g.edges k ≡ Some f → e.dst.0 ≡ f.dst.0 → e.owner.0 ≡ f.owner.0
same_owner g one j k e f at_e at_f ends =
    ap (λ (pb : PbIx). pb.0) (one.one e f (has_at g.edges j e at_e) (has_at g.edges k f at_f) (ap pin_ix ends))

-- no edge leads into the pin
pub no_edge : (g : Graph) (pin : ℕ) (list : List EdgeIx) (text : List ℕ) → AreEdgesWith g (λ e. e.dst.0 ≡ pin) list → list ≡ [] → (mode : ℕ) → NamesModeInto g pin text mode → ⊥
no_edge g pin list text are none mode into =
    let has : Has list (edge_ix into.number) = (are.exact into.number).1 (into.edge, into.is, into.ends) in
    subst (λ l. Has l (edge_ix into.number)) none has

-- a mode into the pin is one of the owner of any edge into it
pub of_owner : (g : Graph) → HasOneOwner g → (pin k : ℕ) (e : Edge) (text : List ℕ) (mode : ℕ) → slice_get g.edges k ≡ Some e → e.dst.0 ≡ pin → NamesModeInto g pin text mode →
    NamesMode g e.owner.0 text mode
of_owner g one pin k e text mode at ends into =
    let same : into.edge.owner.0 ≡ e.owner.0 = same_owner g one into.number k into.edge e into.is at (into.ends ∙ sym ends) in
    subst (λ pb. NamesMode g pb text mode) same into.named

-- the owner has a mode of that name, but no edge leads into the pin in it
pub no_edge_in : (g : Graph) → HasOneOwner g → ListsEnds g → TellsOneMode g → (pin k : ℕ) (e : Edge) (text : List ℕ) (mode : ℕ) → slice_get g.edges k ≡ Some e → e.dst.0 ≡ pin →
    NamesMode g e.owner.0 text mode → into_from 0 g.edges pin mode ≡ [] → (m : ℕ) → NamesModeInto g pin text m → ⊥
no_edge_in g one lists tells pin k e text mode at ends named none m into =
    let same : m ≡ mode = tells e.owner.0 text m mode (of_owner g one pin k e text m at ends into) named in
    let has : Has (into_from 0 g.edges pin mode) (edge_ix into.number) = ((lists pin mode).exact into.number).1 (into.edge, into.is, (into.ends, into.in_mode ∙ same)) in
    subst (λ l. Has l (edge_ix into.number)) none has

-- the owner has a mode of that name, and an edge leads into the pin in it
pub edge_in : (g : Graph) → HasOneOwner g → ListsEnds g → (pin k : ℕ) (e : Edge) (text : List ℕ) (mode : ℕ) → slice_get g.edges k ≡ Some e → e.dst.0 ≡ pin →
    NamesMode g e.owner.0 text mode → (into_from 0 g.edges pin mode ≡ [] → ⊥) → NamesModeInto g pin text mode
edge_in g one lists pin k e text mode at ends named some = by (into_from 0 g.edges pin mode) refl
  where
    by : (list : List EdgeIx) → into_from 0 g.edges pin mode ≡ list → NamesModeInto g pin text mode
    by [] is = absurd (some is)
    by (x ∷ xs) is =
        let has : Has (into_from 0 g.edges pin mode) (edge_ix x.0) = subst (λ l. Has l (edge_ix x.0)) (sym is) (inl refl) in
        let there = ((lists pin mode).exact x.0).0 has in
        let same : e.owner.0 ≡ there.0.owner.0 = same_owner g one k x.0 e there.0 at there.1 (ends ∙ sym there.2.0) in
        record {
          number = x.0;
          edge = there.0;
          is = there.1;
          ends = there.2.0;
          in_mode = there.2.1;
          named = subst (λ pb. NamesMode g pb text mode) same named;
        }

pub one_mode_into : (g : Graph) → HasOneOwner g → TellsOneMode g → (pin : ℕ) (text : List ℕ) (m n : ℕ) → NamesModeInto g pin text m → NamesModeInto g pin text n → m ≡ n
one_mode_into g one tells pin text m n a b =
    tells a.edge.owner.0 text m n a.named (of_owner g one pin a.number a.edge text n a.is a.ends b)

-- the first of the edges into a pin

pub no_first : (list : List EdgeIx) → slice_get list 0 ≡ None → list ≡ []
no_first [] none = refl
no_first (x ∷ xs) none = absurd (cc)

pub first_edge : (g : Graph) (Is : Edge → Type 0) (list : List EdgeIx) (first : EdgeIx) → AreEdgesWith g Is list → slice_get list 0 ≡ Some first →
    (e : Edge) × (slice_get g.edges first.0 ≡ Some e) × Is e
first_edge g Is list first are at =
    let has : Has list (edge_ix first.0) = has_at list 0 first at in (are.exact first.0).0 has

pub first_ends : (g : Graph) (pin : ℕ) (list : List EdgeIx) (first : EdgeIx) (e : Edge) → AreEdgesWith g (λ e. e.dst.0 ≡ pin) list → slice_get list 0 ≡ Some first →
    slice_get g.edges first.0 ≡ Some e → e.dst.0 ≡ pin
first_ends g pin list first e are at is =
    let there = first_edge g (λ e. e.dst.0 ≡ pin) list first are at in
    let same : there.0 ≡ e = one (sym there.1 ∙ is) in
    subst (λ (f : Edge). f.dst.0 ≡ pin) same there.2
  where
    one : {f h : Edge} → Some f ≡ Some h → f ≡ h
    one e = cc

-- what a test for no elements says

pub is_none : (list : List EdgeIx) → (length list == 0) ≡ true → list ≡ []
is_none [] e = refl
is_none (x ∷ xs) e = let more : length (x ∷ xs) ≡ 0 = grind (arith, nat_tests) in absurd (omega (arith, more))

pub not_none : (list : List EdgeIx) → (length list == 0) ≡ false → list ≡ [] → ⊥
not_none [] e none = cc
not_none (x ∷ xs) e none = cc
