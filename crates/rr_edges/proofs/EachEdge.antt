-- An element says one edge, or fails in one way, and not both.
use Rattle.std.proofs.Common.{◌≡◌, ℕ, List, Option, Some, None, refl, sym, ap, ◌∙◌, subst, inl, inr}
use Rattle.elem_text.specs.declared.elem.Elem.{Elem}
use Rattle.rr_items.specs.declared.ends.EdgeEnds.{EdgeEnds}
use Rattle.rr_items.specs.declared.nodes.NodeKind.{NodeKind}
use Rattle.rr_items.specs.Ends.{SaysEnds}
use Rattle.rr_edges.specs.declared.error.EdgeError.{EdgeError}
use Rattle.rr_edges.specs.declared.error.EdgeError.TheVariants.{BadEdge, SwitchKind, OutOfMemory}
use Rattle.rr_edges.specs.declared.joints.Joint.{Joint}
use Rattle.rr_edges.specs.declared.joints.Joint.TheVariants.{Kept, PassedOver}
use Rattle.rr_edges.specs.declared.kept.FileEdge.{FileEdge}
use Rattle.rr_edges.specs.declared.table.Direction.{Direction}
use Rattle.rr_edges.specs.declared.table.Direction.TheVariants.{OneWay, BothWays}
use Rattle.rr_edges.specs.EdgeItems.{Names, UsesBothWays, Says, Fails, ends_of}
use Rattle.rr_edges.specs.Joints.{Drives, Joins}
use Rattle.rr_edges.specs.Known.{Known}

-- the law on an element's ends
abbrev pub OneEnds : Type 0
OneEnds = (e : Elem) (p q : EdgeEnds) → SaysEnds e p → SaysEnds e q → p ≡ q

-- what is kept isn't passed over
not_both : (from to : NodeKind) → Joins Kept from to → Joins PassedOver from to → ⊥
not_both from to keeps passes = elim passes [ inl r ↦ subst Drives r.0 keeps.0 | inr r ↦ subst Drives r.0 keeps.0 ]

one_joint : (j k : Joint) (from to : NodeKind) → Joins j from to → Joins k from to → j ≡ k
one_joint Kept Kept from to p q = refl
one_joint PassedOver PassedOver from to p q = refl
one_joint Kept PassedOver from to p q = absurd (not_both from to p q)
one_joint PassedOver Kept from to p q = absurd (not_both from to q p)

the_same : {X : Type 0} (x y : X) → Some x ≡ Some y → x ≡ y
the_same x y e = cc

pub record AreSame (p q : EdgeEnds) (j k : Joint) (v w : Direction) : Type 0 where
  pub ends : p ≡ q
  pub joint : j ≡ k
  pub ways : v ≡ w

-- an element names one set of things
pub one_named : OneEnds → (known : Known) (e : Elem) (p q : EdgeEnds) (j k : Joint) (v w : Direction) →
    Names known e p j v → Names known e q k w → AreSame p q j k v w
one_named one known e p q j k v w m n =
    let ends : p ≡ q = one e p q m.says n.says in
    let from : m.from ≡ n.from = the_same m.from n.from (sym m.source ∙ ap (λ (x : EdgeEnds). known.kind x.source) ends ∙ n.source) in
    let to : m.to ≡ n.to = the_same m.to n.to (sym m.sink ∙ ap (λ (x : EdgeEnds). known.kind x.sink) ends ∙ n.sink) in
    let joins : Joins j n.from n.to = subst (λ t. Joins j n.from t) to (subst (λ f. Joins j f m.to) from m.joins) in
    record {
      ends = ends;
      joint = one_joint j k n.from n.to joins n.joins;
      ways = the_same v w (sym m.switch ∙ ap (λ (x : EdgeEnds). known.ways x.switch) ends ∙ n.switch);
    }

one_kept : (x y : FileEdge) → ends_of x ≡ ends_of y → x.features ≡ y.features → x ≡ y
one_kept x y ends features =
    ap (λ a. made a x.dst x.switch x.features) (ap (λ (a : EdgeEnds). a.source) ends) ∙ ap (λ a. made y.src a x.switch x.features) (ap (λ (a : EdgeEnds). a.sink) ends) ∙
    ap (λ a. made y.src y.dst a x.features) (ap (λ (a : EdgeEnds). a.switch) ends) ∙ ap (λ a. made y.src y.dst y.switch a) features
  where
    made : ℕ → ℕ → ℕ → List ℕ → FileEdge
    made src dst switch features = record { src = src; dst = dst; switch = switch; features = features }

-- an element says one edge
pub one_said : OneEnds → (known : Known) (e : Elem) (p q : Option FileEdge) → Says known e p → Says known e q → p ≡ q
one_said one known e None None p q = refl
one_said one known e None (Some y) p q =
    let no : PassedOver ≡ Kept = (one_named one known e p.0 (ends_of y) PassedOver Kept OneWay OneWay p.1 q.0).joint in absurd (cc)
one_said one known e (Some x) None p q =
    let no : Kept ≡ PassedOver = (one_named one known e (ends_of x) q.0 Kept PassedOver OneWay OneWay p.0 q.1).joint in absurd (cc)
one_said one known e (Some x) (Some y) p q =
    ap Some (one_kept x y (one_named one known e (ends_of x) (ends_of y) Kept Kept OneWay OneWay p.0 q.0).ends (p.1 ∙ sym q.1))

-- one that says an edge doesn't fail

both_ways : OneEnds → (known : Known) (e : Elem) (ends : EdgeEnds) (j : Joint) (id : ℕ) → Names known e ends j OneWay → UsesBothWays known e id → ⊥
both_ways one known e ends j id names uses =
    let no : OneWay ≡ BothWays = (one_named one known e ends uses.ends j uses.joint OneWay BothWays names uses.names).ways in absurd (cc)

fails_none : OneEnds → (known : Known) (index : ℕ) (e : Elem) (error : EdgeError) (ends : EdgeEnds) (j : Joint) → Names known e ends j OneWay → Fails known index e error → ⊥
fails_none one known index e (BadEdge n) ends j names fails = fails.1 ends j OneWay names
fails_none one known index e (SwitchKind id) ends j names fails = both_ways one known e ends j id names fails
fails_none one known index e OutOfMemory ends j names fails = fails

pub says_or_fails : OneEnds → (known : Known) (index : ℕ) (e : Elem) (error : EdgeError) (said : Option FileEdge) → Says known e said → Fails known index e error → ⊥
says_or_fails one known index e error None says fails = fails_none one known index e error says.0 PassedOver says.1 fails
says_or_fails one known index e error (Some x) says fails = fails_none one known index e error (ends_of x) Kept says.0 fails

-- an element fails in one way
pub one_failure : OneEnds → (known : Known) (index : ℕ) (e : Elem) (p q : EdgeError) → Fails known index e p → Fails known index e q → p ≡ q
one_failure one known index e (BadEdge m) (BadEdge n) p q = ap (λ i. BadEdge i) (p.0 ∙ sym q.0)
one_failure one known index e (BadEdge m) (SwitchKind b) p q = absurd (p.1 q.ends q.joint BothWays q.names)
one_failure one known index e (SwitchKind a) (BadEdge n) p q = absurd (q.1 p.ends p.joint BothWays p.names)
one_failure one known index e (SwitchKind a) (SwitchKind b) p q =
    let same : p.ends ≡ q.ends = (one_named one known e p.ends q.ends p.joint q.joint BothWays BothWays p.names q.names).ends in
    ap (λ i. SwitchKind i) (p.is ∙ ap (λ (x : EdgeEnds). x.switch) same ∙ sym q.is)
one_failure one known index e OutOfMemory q p r = absurd p
one_failure one known index e (BadEdge m) OutOfMemory p q = absurd q
one_failure one known index e (SwitchKind a) OutOfMemory p q = absurd q
