-- What accessors answer.
use Rattle.std.proofs.Common.{◌≡◌, ◌≤◌, ℕ, zero, suc, List, [], ◌∷◌, Option, Some, None, MatchOption, map, slice_get, get_or, refl, sym, ap, ◌∙◌, subst}
use Rattle.std.proofs.lemmas.Option.{get_or_from_slice_get}
use Rattle.list_laws.proofs.Members.{has_at}
use Rattle.elem_text.specs.declared.elem.Elem.{Elem}
use Rattle.arch_types.specs.declared.arch.Tile.{Tile}
use Rattle.rr_items.specs.declared.grid.GridPlace.{GridPlace}
use Rattle.rr_grid.specs.Saying.{SaysGrid}
use Rattle.rr_locs.specs.declared.roots.LocAt.{LocAt}
use Rattle.rr_places.specs.Types.{NumberedType, AreTypes}
use Rattle.rr_edges.specs.declared.kept.FileEdge.{FileEdge}
use Rattle.rr_wires.specs.declared.types.OwnedEdge.{OwnedEdge}
use Rattle.rr_tables.specs.Layouts.{HasClassAt, IsLaidOn}
use Rattle.rr_tables.specs.Looks.{LayoutParts, knows_type}
use Rattle.rr_tables.specs.Roots.{roots_of}
use Rattle.rr_files.specs.Accessing.{HasClass, HasFeatures}
use Rattle.rr_files.specs.Parts.{GraphParts}
use Rattle.rr_files.specs.Saying.{grid_elems, summed, SaysLayout}
use Rattle.rr_files.specs.Sound.{IsSoundGraph}

same_value : {A : Type 0} (a b : A) → Some a ≡ Some b → a ≡ b
same_value a b e = cc

-- classes
pub class_at : (g : GraphParts) (number port bit : ℕ) (loc : LocAt) → slice_get g.layout.locs number ≡ Some loc → (r : Option ℕ) →
    MatchOption r ((class : ℕ) → HasClassAt g.layout loc port bit class → ⊥) (HasClassAt g.layout loc port bit) →
    MatchOption r ((class : ℕ) → HasClass g number port bit class → ⊥) (HasClass g number port bit)
class_at g number port bit loc at None none = λ class has.
    none class (subst (λ v. HasClassAt g.layout v port bit class) (same_value has.loc loc (sym has.at ∙ at)) has.is)
class_at g number port bit loc at (Some class) is = record { loc = loc; at = at; is = is }

-- features

pub record OwnsAt (g : GraphParts) (number place : ℕ) : Type 0 where
  pub owned : OwnedEdge
  pub at : slice_get g.wires.edges number ≡ Some owned
  pub edge : FileEdge
  pub there : slice_get g.edges place ≡ Some edge
  pub is : owned.place ≡ place

seen_at : (edges : List OwnedEdge) (n place : ℕ) → slice_get (map (λ (o : OwnedEdge). o.place) edges) n ≡ Some place →
    (o : OwnedEdge) × (slice_get edges n ≡ Some o) × (o.place ≡ place)
seen_at [] n place at = absurd (cc)
seen_at (o ∷ os) zero place at = (o, refl, cc)
seen_at (o ∷ os) (suc n) place at = seen_at os n place at

pub owns_at : (g : GraphParts) → IsSoundGraph g → (number place : ℕ) → slice_get (map (λ (o : OwnedEdge). o.place) g.wires.edges) number ≡ Some place → OwnsAt g number place
owns_at g sound number place at =
    let seen = seen_at g.wires.edges number place at in
    let owner = sound.owners seen.0 (has_at g.wires.edges number seen.0 seen.1) in
    record { owned = seen.0; at = seen.1; edge = owner.edge; there = ap (slice_get g.edges) (sym seen.2) ∙ owner.at; is = seen.2 }

pub features_at : (g : GraphParts) (number place : ℕ) → OwnsAt g number place → (edge : FileEdge) → edge ≡ get_or g.edges place edge → (features : List ℕ) →
    features ≡ edge.features → HasFeatures g number features
features_at g number place owns edge read features is = record {
  owned = owns.owned;
  at = owns.at;
  edge = owns.edge;
  there = ap (slice_get g.edges) owns.is ∙ owns.there;
  is = is ∙ ap (λ (e : FileEdge). e.features) (read ∙ get_or_from_slice_get g.edges place owns.edge edge owns.there);
}

-- the layout
pub laid_says : (tiles : List Tile) (root : Elem) (types : List NumberedType) (places : List GridPlace) (l : LayoutParts) → AreTypes tiles root types →
    SaysGrid (knows_type types) (grid_elems root) places → l.types ≡ types → l.places ≡ places → IsLaidOn tiles l → summed (roots_of tiles types places) ≤ 1048576 →
    SaysLayout tiles root l × IsLaidOn tiles l
laid_says tiles root types places l read says of_types of_places laid few = (
  record {
    types = subst (AreTypes tiles root) (sym of_types) read;
    grid = subst (λ ts. SaysGrid (knows_type ts) (grid_elems root) l.places) (sym of_types) (subst (SaysGrid (knows_type types) (grid_elems root)) (sym of_places) says);
    locs = record {
      are = laid.locs;
      few = subst (λ ts. summed (roots_of tiles ts l.places) ≤ 1048576) (sym of_types) (subst (λ ps. summed (roots_of tiles types ps) ≤ 1048576) (sym of_places) few);
    };
  },
  laid,
)
