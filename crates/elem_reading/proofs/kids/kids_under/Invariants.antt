use Rattle.std.proofs.Common.{◌≡◌, ◌++◌, map, filter, drop}
use Rattle.std.specs.List.{flat_map}
use Rattle.elem_attrs.specs.Attributes.{has_tag}
use Rattle.elem_reading.specs.Kids.{kids_named}
use Rattle.elem_reading.proofs.kids.kids_under.Given as goal

abbrev pub invariant-loop-parent : goal.invariant-loop-parent
invariant-loop-parent l =
    map (λ k. k.now) l.found.items ++
    flat_map (λ p. kids_named p l.name) (filter (λ p. has_tag p l.parents) (drop l.parent-index l.parent-items))
    ≡ flat_map (λ p. kids_named p l.name) (filter (λ p. has_tag p l.parents) l.parent-items)
