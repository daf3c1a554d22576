-- Where no net is driven twice, no net has two makers.
use Rattle.std.proofs.Common.{◌≡◌, ℕ, zero, suc, List, [], ◌∷◌, Some, refl, ap, ◌∙◌}
use Rattle.std.specs.Prelude.{slice_get}
use Rattle.std.specs.Option.{option_map}
use Rattle.std.specs.List.{flat_map}
use Rattle.std.proofs.lemmas.Option.{slice_get-map}
use Rattle.vtr_base.specs.Lists.{Has}
use Rattle.list_laws.specs.Orders.{Once}
use Rattle.list_laws.proofs.Members.{has_at, has_flat}
use Rattle.list_laws.proofs.Onces.{once_at}
use Rattle.net_types.specs.declared.atom.Atom.{Atom}
use Rattle.net_types.specs.declared.atom.Conn.{Conn}
use Rattle.net_types.specs.Ends.{IsMaker}
use Rattle.net_types.specs.Order.{nets_of}
use Rattle.blif_parts.specs.Facts.{HaveOneMaker}
use Rattle.model_laws.proofs.Merges.{once_split}
use Rattle.model_laws.proofs.Ordering.{drives}

pub record IsMade (atoms : List Atom) (number place net : ℕ) : Type 0 where
  pub atom : Atom
  pub there : slice_get atoms number ≡ Some atom
  pub at : slice_get (nets_of atom.outs) place ≡ Some net

is_made : (atoms : List Atom) (net number place : ℕ) → IsMaker atoms net number place → IsMade atoms number place net
is_made atoms net number place is = record {
  atom = is.atom;
  there = is.there;
  at = slice_get-map (λ (c : Conn). c.net) is.atom.outs place ∙ (ap (option_map (λ (c : Conn). c.net)) is.at ∙ ap (λ n. Some n) is.of_net);
}

made_has : (atoms : List Atom) (number place net : ℕ) → IsMade atoms number place net → Has (flat_map drives atoms) net
made_has atoms number place net is = has_flat drives atoms is.atom net (has_at atoms number is.atom is.there) (has_at (nets_of is.atom.outs) place net is.at)

first_at : (x : Atom) (atoms : List Atom) (place net : ℕ) → IsMade (x ∷ atoms) 0 place net → slice_get (nets_of x.outs) place ≡ Some net
first_at x atoms place net is =
    let same : x ≡ is.atom = cc is.there in
    ap (λ (a : Atom). slice_get (nets_of a.outs) place) same ∙ is.at

later_at : (x : Atom) (atoms : List Atom) (number place net : ℕ) → IsMade (x ∷ atoms) (suc number) place net → IsMade atoms number place net
later_at x atoms number place net is = record { atom = is.atom; there = is.there; at = is.at }

one_made : (atoms : List Atom) → Once (flat_map drives atoms) → (net a i b j : ℕ) → IsMade atoms a i net → IsMade atoms b j net → (a ≡ b) × (i ≡ j)
one_made [] once net a i b j x y = absurd (let none = x.there in let bad : ⊥ = cc none in bad)
one_made (z ∷ atoms) once net zero i zero j x y =
    (refl, once_at (nets_of z.outs) (once_split (drives z) (flat_map drives atoms) once).left i j net (first_at z atoms i net x) (first_at z atoms j net y))
one_made (z ∷ atoms) once net zero i (suc b) j x y =
    absurd ((once_split (drives z) (flat_map drives atoms) once).never net (has_at (nets_of z.outs) i net (first_at z atoms i net x)) (made_has atoms b j net (later_at z atoms b j net y)))
one_made (z ∷ atoms) once net (suc a) i zero j x y =
    absurd ((once_split (drives z) (flat_map drives atoms) once).never net (has_at (nets_of z.outs) j net (first_at z atoms j net y)) (made_has atoms a i net (later_at z atoms a i net x)))
one_made (z ∷ atoms) once net (suc a) i (suc b) j x y =
    let rest = one_made atoms (once_split (drives z) (flat_map drives atoms) once).right net a i b j (later_at z atoms a i net x) (later_at z atoms b j net y) in
    (ap suc rest.0, rest.1)

pub one_maker : (atoms : List Atom) → Once (flat_map drives atoms) → HaveOneMaker atoms
one_maker atoms once net a i b j x y = one_made atoms once net a i b j (is_made atoms net a i x) (is_made atoms net b j y)
