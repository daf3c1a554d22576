-- Roots have one list of locations.
use Rattle.std.proofs.Common.{◌≡◌, ◌<◌, ◌⊎◌, List, inl, inr, arith}
use Rattle.list_laws.proofs.Sorting.{one_sorting}
use Rattle.rr_locs.specs.declared.roots.TileRoot.{TileRoot}
use Rattle.rr_locs.specs.declared.roots.LocAt.{LocAt}
use Rattle.rr_locs.specs.Places.{Before, AreLocs}

-- by y, then sub
abbrev Inner : LocAt → LocAt → Type 0
Inner a b = (a.y < b.y) ⊎ ((a.y ≡ b.y) × (a.sub < b.sub))

inner_strict : (a : LocAt) → Inner a a → ⊥
inner_strict a (inl low) = omega (arith, low)
inner_strict a (inr p) = omega (arith, p.1)

strict : (a : LocAt) → Before a a → ⊥
strict a (inl low) = omega (arith, low)
strict a (inr p) = inner_strict a p.1

inner_along : (a b c : LocAt) → Inner a b → Inner b c → Inner a c
inner_along a b c (inl p) (inl q) = inl (omega (arith, p, q))
inner_along a b c (inl p) (inr q) = inl (omega (arith, p, q.0))
inner_along a b c (inr p) (inl q) = inl (omega (arith, p.0, q))
inner_along a b c (inr p) (inr q) = inr (omega (arith, p.0, q.0), omega (arith, p.1, q.1))

along : (a b c : LocAt) → Before a b → Before b c → Before a c
along a b c (inl p) (inl q) = inl (omega (arith, p, q))
along a b c (inl p) (inr q) = inl (omega (arith, p, q.0))
along a b c (inr p) (inl q) = inl (omega (arith, p.0, q))
along a b c (inr p) (inr q) = inr (omega (arith, p.0, q.0), inner_along a b c p.1 q.1)

pub one_locs : (roots : List TileRoot) (xs ys : List LocAt) → AreLocs roots xs → AreLocs roots ys → xs ≡ ys
one_locs roots xs ys p q =
    one_sorting Before strict along xs ys p.ascend q.ascend
    (record { forth = λ loc has. q.all loc (p.only loc has); back = λ loc has. p.all loc (q.only loc has) })
