use Rattle.std.proofs.Common.{◌≡◌, ◌<◌, length, get_or, sym, ap, subst, ◌∙◌}
use Rattle.std.proofs.lemmas.Option.{slice_get_within}
use Rattle.rr_edges.specs.declared.kept.FileEdge.{FileEdge}
use Rattle.rr_files.specs.Inside.{parts_of}
use Rattle.rr_files.proofs.Answering.{owns_at, features_at}
use Rattle.rr_files.proofs.rr.Rr.edge_features.Goals as goal

pub bounds-as_slice-place : goal.bounds-as_slice-place
bounds-as_slice-place c =
    let g = parts_of c.self.inside in
    let owns = owns_at g c.self.invariant c.args.number.0 c.edge_of-place.result c.edge_of-place.ensures in
    subst (λ es. c.edge_of-place.result < length es) (sym c.as_slice.ensures) (slice_get_within g.edges c.edge_of-place.result owns.edge owns.there)

pub returns : goal.returns
returns c =
    let g = parts_of c.self.inside in
    let owns = owns_at g c.self.invariant c.args.number.0 c.edge_of-place.result c.edge_of-place.ensures in
    let edge = c.index-as_slice-place.result in
    let read = subst (λ l. edge ≡ get_or l c.edge_of-place.result edge) c.as_slice.ensures c.index-as_slice-place.is in
    rw (← c.self.view_is)
    (features_at g c.args.number.0 c.edge_of-place.result owns edge read c.as_str.result.now
    (c.as_str.ensures ∙ ap (λ (e : FileEdge). e.features) (sym c.index-as_slice-place.is)))
