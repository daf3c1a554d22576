use Rattle.std.proofs.Common.{◌≡◌, codes, drop, filter}
use Rattle.std.specs.List.{find, flat_map}
use Rattle.elem_attrs.specs.Attributes.{has_tag}
use Rattle.elem_reading.specs.Kids.{kids_named}
use Rattle.rr_items.specs.Features.{lists_features, features_meta}
use Rattle.rr_items.proofs.features.features_meta.Given as goal

abbrev pub invariant-loop-metadata : goal.invariant-loop-metadata
invariant-loop-metadata l =
    find lists_features (flat_map (λ part. kids_named part (codes "meta")) (filter (λ part. has_tag part (codes "metadata")) (drop l.metadata-index l.metadata-items)))
    ≡ features_meta l.fn.edge
