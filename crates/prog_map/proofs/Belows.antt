-- What stands above the sites below an instance.
use Rattle.std.proofs.Common.{◌≡◌, ◌⊎◌, inl, inr, ℕ, true, List, [], ◌∷◌, ◌++◌, Some, refl, sym, ap, subst, ◌∙◌, append-nil, append_assoc, arith}
use Rattle.std.specs.Prelude.{slice_get}
use Rattle.std.specs.Option.{option_map_or}
use Rattle.std.proofs.lemmas.Bool.Decides.{nat_tests}
use Rattle.vtr_base.specs.Lists.{Has}
use Rattle.arch_types.specs.Address.{Address, Hop}
use Rattle.list_laws.proofs.Members.{has_left, has_either}
use Rattle.pb_expand.specs.declared.number.Edge.{Edge}
use Rattle.pb_expand.specs.declared.number.EdgeIx.{EdgeIx}
use Rattle.pb_expand.specs.Graph.{Graph, into_from}
use Rattle.prog_map.specs.declared.choice.LSite.{LSite}
use Rattle.prog_map.specs.declared.choice.LSite.TheVariants as site
use Rattle.prog_map.specs.Order.{starts_at}
use Rattle.prog_map.proofs.SiteOrder.{IsOf, IsUnder}
use Rattle.prog_map.specs.Above.{LocalSite, mode_at, pin_at, used_at, lut_at, LocalNeed, local_need, needs_from, local_above}
use Rattle.prog_map.specs.Above.{address_of, owner_of_first, local_of, needs_of}

pub needs_append : (here : Address) (xs ys : List Hop) → needs_from here (xs ++ ys) ≡ needs_from here xs ++ needs_from (here ++ xs) ys
needs_append here [] ys = ap (λ a. needs_from a ys) (sym (append-nil here))
needs_append here (x ∷ xs) ys = ap (λ ns. local_need (mode_at here) x.mode ∷ ns)
    (needs_append (here ++ x ∷ []) xs ys ∙ ap (λ a. needs_from (here ++ x ∷ []) xs ++ needs_from a ys) (append_assoc here (x ∷ []) xs))

abbrev pub where_at : LocalSite → Address
where_at (mode_at a) = a
where_at (pin_at a mode pin) = a
where_at (used_at a) = a
where_at (lut_at a) = a

-- the need is of a site at the address or below it
abbrev pub Low : Address → LocalNeed → Type 0
Low above n = (hops : Address) × (where_at n.at ≡ above ++ hops)

pub needs_low : (here : Address) (hops : List Hop) (n : LocalNeed) → Has (needs_from here hops) n → Low here n
needs_low here [] n has = absurd has
needs_low here (hop ∷ hops) n (inl is) = ([], ap (λ m. where_at m.at) is ∙ sym (append-nil here))
needs_low here (hop ∷ hops) n (inr has) =
    let more : Low (here ++ hop ∷ []) n = needs_low (here ++ hop ∷ []) hops n has in
    (hop ∷ more.0, more.1 ∙ append_assoc here (hop ∷ []) more.0)

address_is : (g : Graph) (n : ℕ) (a : Address) → slice_get g.instances n ≡ Some a → address_of g n ≡ a
address_is g n a is = ap (λ o. option_map_or (λ (x : Address). x) o []) is

owner_is : (g : Graph) (es : List EdgeIx) (k : ℕ) (edge : Edge) (a : Address) → starts_at k es ≡ true → slice_get g.edges k ≡ Some edge → slice_get g.instances edge.owner.0 ≡ Some a → owner_of_first g es ≡ a
owner_is g [] k edge a starts there is = absurd (cc)
owner_is g (e ∷ es) k edge a starts there is =
    let same : e.0 ≡ k = grind (arith, nat_tests) in
    ap (λ o. option_map_or (λ (x : Edge). address_of g x.owner.0) o []) (ap (λ i. slice_get g.edges i) same ∙ there) ∙ address_is g edge.owner.0 a is

-- where a site of an instance stands
pub site_at : (g : Graph) (s : LSite) (n : ℕ) (a : Address) → IsOf g s n → slice_get g.instances n ≡ Some a → where_at (local_of g s) ≡ a
site_at g (site.Mode pb) n a of is = address_is g pb.0 a (ap (λ k. slice_get g.instances k) of ∙ is)
site_at g (site.Used pb) n a of is = address_is g pb.0 a (ap (λ k. slice_get g.instances k) of ∙ is)
site_at g (site.Lut pb) n a of is = address_is g pb.0 a (ap (λ k. slice_get g.instances k) of ∙ is)
site_at g (site.Pin pin mode) n a of is =
    owner_is g (into_from 0 g.edges pin.0 mode) of.number of.edge a of.first of.there (ap (λ k. slice_get g.instances k) of.owned ∙ is)

last_low : (a : Address) (n : LocalNeed) (m : LocalNeed) → Has (needs_from [] a ++ m ∷ []) n → where_at m.at ≡ a → Has (needs_from [] a) n ⊎ (where_at n.at ≡ a)
last_low a n m has at = elim (has_either (needs_from [] a) (m ∷ []) n has) [
  | inl left ↦ inl left
  | inr right ↦ inr (end right)
]
  where
    end : Has (m ∷ []) n → where_at n.at ≡ a
    end (inl is) = ap (λ k. where_at k.at) is ∙ at
    end (inr none) = absurd none

-- what stands above a local site
local_split : (s : LocalSite) (n : LocalNeed) → Has (local_above s) n → Has (needs_from [] (where_at s)) n ⊎ (where_at n.at ≡ where_at s)
local_split (mode_at a) n has = inl has
local_split (pin_at a mode pin) n has = last_low a n (local_need (mode_at a) mode) has refl
local_split (used_at a) n has = inl has
local_split (lut_at a) n has = last_low a n (local_need (used_at a) 0) has refl

local_all : (s : LocalSite) (n : LocalNeed) → Has (needs_from [] (where_at s)) n → Has (local_above s) n
local_all (mode_at a) n has = has
local_all (pin_at a mode pin) n has = has_left (needs_from [] a) (local_need (mode_at a) mode ∷ []) n has
local_all (used_at a) n has = has
local_all (lut_at a) n has = has_left (needs_from [] a) (local_need (used_at a) 0 ∷ []) n has

-- a site below an instance is under what the instance is under, and else under sites there and below
pub under_split : (g : Graph) (above : Address) (s : LSite) (n : LocalNeed) → IsUnder g above s → Has (needs_of g s) n → Has (needs_from [] above) n ⊎ Low above n
under_split g above s n u has =
    let at : where_at (local_of g s) ≡ above ++ u.hops = site_at g s u.number (above ++ u.hops) u.of u.there in
    elim (local_split (local_of g s) n has) [
      | inl needs ↦ elim (has_either (needs_from [] above) (needs_from above u.hops) n
          (subst (λ l. Has l n) (needs_append [] above u.hops) (subst (λ a. Has (needs_from [] a) n) at needs))) [
            | inl front ↦ inl front
            | inr back ↦ inr (needs_low above u.hops n back)
          ]
      | inr here ↦ inr (u.hops, here ∙ at)
    ]

pub under_all : (g : Graph) (above : Address) (s : LSite) (n : LocalNeed) → IsUnder g above s → Has (needs_from [] above) n → Has (needs_of g s) n
under_all g above s n u has =
    let at : where_at (local_of g s) ≡ above ++ u.hops = site_at g s u.number (above ++ u.hops) u.of u.there in
    local_all (local_of g s) n (subst (λ a. Has (needs_from [] a) n) (sym at)
    (subst (λ l. Has l n) (sym (needs_append [] above u.hops)) (has_left (needs_from [] above) (needs_from above u.hops) n has)))
