-- What holds of all atoms of a netlist holds of its lines, and what holds of all connections of a box of its pins.
use Rattle.std.proofs.Common.{◌==◌, ◌<◌, ◌⊎◌, inl, inr, ℕ, Bor, List, [], ◌∷◌, map, length, refl, sym, subst}
use Rattle.std.specs.List.{All}
use Rattle.std.proofs.lemmas.List.Elements.{All-nil, All-cons}
use Rattle.std.proofs.lemmas.Option.{slice_get_within}
use Rattle.vtr_base.specs.Lists.{Has}
use Rattle.list_laws.proofs.Members.{each_has, from_filter}
use Rattle.arch_types.specs.declared.arch.CellModel.{CellModel}
use Rattle.net_types.specs.declared.atom.Atom.{Atom}
use Rattle.net_types.specs.declared.atom.Conn.{Conn}
use Rattle.net_types.specs.declared.parts.NetlistParts.{NetlistParts}
use Rattle.net_types.specs.Fits.{FitsModels}
use Rattle.net_types.specs.Merges.{IsMerge}
use Rattle.net_types.specs.Order.{group_of, of_group}
use Rattle.net_types.specs.WellFormed.{IsNetlist}
use Rattle.blif_order.specs.Orders.{IsLineOrder, IsPinOrder}
use Rattle.blif_text.specs.Atoms.{IsWritable}

pub from_merge : {X : Type 0} (xs ys zs : List X) (x : X) → IsMerge xs ys zs → Has zs x → Has xs x ⊎ Has ys x
from_merge xs ys [] x m has = absurd has
from_merge xs ys (z ∷ zs) x (inl m) (inl is) = inl (subst (λ l. Has l x) (sym m.1) (inl is))
from_merge xs ys (z ∷ zs) x (inl m) (inr later) = elim (from_merge m.0 ys zs x m.2 later) [ inl left ↦ inl (subst (λ l. Has l x) (sym m.1) (inr left)) | inr right ↦ inr right ]
from_merge xs ys (z ∷ zs) x (inr m) (inl is) = inr (subst (λ l. Has l x) (sym m.1) (inl is))
from_merge xs ys (z ∷ zs) x (inr m) (inr later) = elim (from_merge xs m.0 zs x m.2 later) [ inl left ↦ inl left | inr right ↦ inr (subst (λ l. Has l x) (sym m.1) (inr right)) ]

-- from what is seen of lent things
pub all_seen : {X : Type 0} (P : X → Type 0) (xs : List (Bor X)) → ((x : X) → Has (map (λ b. b.now) xs) x → P x) → All (λ b. P b.now) xs
all_seen P [] each = All-nil (λ b. P b.now)
all_seen P (x ∷ xs) each = All-cons (λ b. P b.now) x xs (each x.now (inl refl)) (all_seen P xs (λ y has. each y (inr has)))

pub pins_below : (limit : ℕ) (atom : Atom) (pins : List (Bor Conn)) → IsPinOrder atom (map (λ b. b.now) pins) → All (λ (c : Conn). c.net < limit) atom.ins →
    All (λ (c : Conn). c.net < limit) atom.outs → All (λ b. b.now.net < limit) pins
pins_below limit atom pins order ins outs = all_seen (λ (c : Conn). c.net < limit) pins (λ c has.
    elim (from_merge atom.ins atom.outs (map (λ b. b.now) pins) c order.merged has) [
      | inl left ↦ each_has (λ (c : Conn). c.net < limit) atom.ins ins c left
      | inr right ↦ each_has (λ (c : Conn). c.net < limit) atom.outs outs c right
    ])

group_has : (n : NetlistParts) (group : ℕ) (a : Atom) → Has (of_group group n.atoms) a → Has n.atoms a
group_has n group a has = (from_filter (λ (b : Atom). group_of b.kind == group) n.atoms a has).0

pub line_has : (n : NetlistParts) (lines : List Atom) (a : Atom) → IsLineOrder n lines → Has lines a → Has n.atoms a
line_has n lines a order has = elim (from_merge order.pads (of_group 2 n.atoms) lines a order.are_lines has) [
  | inl pad ↦ elim (from_merge (of_group 0 n.atoms) (of_group 1 n.atoms) order.pads a order.are_pads pad) [
    | inl input ↦ group_has n 0 a input
    | inr output ↦ group_has n 1 a output
  ]
  | inr elem ↦ group_has n 2 a elem
]

pub all_writable : (models : List CellModel) (n : NetlistParts) (lines : List (Bor Atom)) → IsNetlist n → FitsModels models n → IsLineOrder n (map (λ b. b.now) lines) →
    All (λ b. IsWritable models n.nets b.now) lines
all_writable models n lines law fits order = all_seen (IsWritable models n.nets) lines (λ a has.
    let there = line_has n (map (λ b. b.now) lines) a order has in
    let within = each_has (λ (b : Atom). All (λ (c : Conn). c.net < length n.nets) b.ins × All (λ (c : Conn). c.net < length n.nets) b.outs) n.atoms law.within a there in
    record {
      ins = within.0;
      outs = within.1;
      of_model = λ number is. (let m = fits number a there is in slice_get_within models number m.model m.there);
    })
