use Rattle.std.proofs.Common.{◌≡◌, ◌++◌, map, filter, drop}
use Rattle.elem_attrs.specs.Attributes.{has_tag}
use Rattle.elem_reading.proofs.kids.add_named.Given as goal

abbrev pub invariant-loop-kid : goal.invariant-loop-kid
invariant-loop-kid l =
    map (λ k. k.now) l.found.items ++ filter (λ k. has_tag k l.name) (drop l.kid-index l.kid-items)
    ≡ map (λ k. k.now) l.initial.found.items ++ filter (λ k. has_tag k l.name) l.kid-items
