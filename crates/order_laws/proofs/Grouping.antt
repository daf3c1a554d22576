-- Lines by groups are the atoms.
use Rattle.std.proofs.Common.{◌≡◌, ◌==◌, ◌<◌, ◌≤◌, inl, inr, ℕ, Bool, true, false, if◌then◌else◌, List, [], ◌∷◌, ◌++◌, filter, refl, sym, ap, ◌∙◌, subst, arith}
use Rattle.std.proofs.lemmas.Bool.Decides.{nat_tests}
use Rattle.vtr_base.specs.Lists.{Has}
use Rattle.list_laws.specs.Orders.{Ordered}
use Rattle.arch_types.specs.declared.block.AtomKind.{AtomKind}
use Rattle.arch_types.specs.declared.block.AtomKind.TheVariants.{InPad, OutPad, Lut, Latch, Cell}
use Rattle.net_types.specs.declared.atom.Atom.{Atom}
use Rattle.net_types.specs.declared.parts.NetlistParts.{NetlistParts}
use Rattle.net_types.specs.Order.{group_of, of_group, AreGrouped}
use Rattle.blif_order.specs.Orders.{IsLineOrder}
use Rattle.order_laws.specs.Kept.{in_groups}
use Rattle.order_laws.proofs.Merging.{filter_left, filter_right}

-- tests, one behind the other

pub filter_twice : {X : Type 0} (p q : X → Bool) (xs : List X) → ((x : X) → q x ≡ true → p x ≡ true) → filter p (filter q xs) ≡ filter q xs
filter_twice p q [] both = refl
filter_twice p q (x ∷ xs) both = by (q x) (both x) (filter_twice p q xs both)
  where
    inner : (b : Bool) → b ≡ true → filter p (filter q xs) ≡ filter q xs → (if b then x ∷ filter p (filter q xs) else filter p (filter q xs)) ≡ x ∷ filter q xs
    inner true is rest = ap (λ l. x ∷ l) rest
    inner false is rest = absurd (let bad : ⊥ = cc is in bad)

    by : (b : Bool) → (b ≡ true → p x ≡ true) → filter p (filter q xs) ≡ filter q xs → filter p (if b then x ∷ filter q xs else filter q xs) ≡ (if b then x ∷ filter q xs else filter q xs)
    by true passes rest = inner (p x) (passes refl) rest
    by false passes rest = rest

pub filter_none : {X : Type 0} (p q : X → Bool) (xs : List X) → ((x : X) → q x ≡ true → p x ≡ false) → filter p (filter q xs) ≡ []
filter_none p q [] apart = refl
filter_none p q (x ∷ xs) apart = by (q x) (apart x) (filter_none p q xs apart)
  where
    inner : (b : Bool) → b ≡ false → filter p (filter q xs) ≡ [] → (if b then x ∷ filter p (filter q xs) else filter p (filter q xs)) ≡ []
    inner true is rest = absurd (let bad : ⊥ = cc is in bad)
    inner false is rest = rest

    by : (b : Bool) → (b ≡ true → p x ≡ false) → filter p (filter q xs) ≡ [] → filter p (if b then x ∷ filter q xs else filter q xs) ≡ []
    by true fails rest = inner (p x) (fails refl) rest
    by false fails rest = rest

pub filter_through : {X : Type 0} (p q : X → Bool) (xs : List X) → ((x : X) → q x ≡ false → p x ≡ false) → filter p (filter q xs) ≡ filter p xs
filter_through p q [] out = refl
filter_through p q (x ∷ xs) out = by (q x) (out x) (filter_through p q xs out)
  where
    kept : (b : Bool) → filter p (filter q xs) ≡ filter p xs → (if b then x ∷ filter p (filter q xs) else filter p (filter q xs)) ≡ (if b then x ∷ filter p xs else filter p xs)
    kept true rest = ap (λ l. x ∷ l) rest
    kept false rest = rest

    left : (b : Bool) → b ≡ false → filter p (filter q xs) ≡ filter p xs → filter p (filter q xs) ≡ (if b then x ∷ filter p xs else filter p xs)
    left true is rest = absurd (let bad : ⊥ = cc is in bad)
    left false is rest = rest

    by : (b : Bool) → (b ≡ false → p x ≡ false) → filter p (filter q xs) ≡ filter p xs → filter p (if b then x ∷ filter q xs else filter q xs) ≡ (if p x then x ∷ filter p xs else filter p xs)
    by true fails rest = kept (p x) rest
    by false fails rest = left (p x) (fails refl) rest

-- groups

other_group : (n g h : ℕ) → (g ≡ h → ⊥) → (n == h) ≡ true → (n == g) ≡ false
other_group n g h apart is = grind (arith, nat_tests)

abbrev in_group : ℕ → Atom → Bool
in_group g a = group_of a.kind == g

same : (g : ℕ) (atoms : List Atom) → of_group g (of_group g atoms) ≡ of_group g atoms
same g atoms = filter_twice (in_group g) (in_group g) atoms (λ a is. is)

none : (g h : ℕ) (atoms : List Atom) → (g ≡ h → ⊥) → of_group g (of_group h atoms) ≡ []
none g h atoms apart = filter_none (in_group g) (in_group h) atoms (λ a is. other_group (group_of a.kind) g h apart is)

module _ (n : NetlistParts) (lines : List Atom) (order : IsLineOrder n lines) where
  abbrev ins : List Atom
  ins = of_group 0 n.atoms

  abbrev outs : List Atom
  outs = of_group 1 n.atoms

  abbrev others : List Atom
  others = of_group 2 n.atoms

  first_group : of_group 0 lines ≡ of_group 0 n.atoms
  first_group =
      filter_left (in_group 0) order.pads others lines order.are_lines (none 0 2 n.atoms (λ e. omega (arith, e))) ∙
      (filter_left (in_group 0) ins outs order.pads order.are_pads (none 0 1 n.atoms (λ e. omega (arith, e))) ∙ same 0 n.atoms)

  second_group : of_group 1 lines ≡ of_group 1 n.atoms
  second_group =
      filter_left (in_group 1) order.pads others lines order.are_lines (none 1 2 n.atoms (λ e. omega (arith, e))) ∙
      (filter_right (in_group 1) ins outs order.pads order.are_pads (none 1 0 n.atoms (λ e. omega (arith, e))) ∙ same 1 n.atoms)

  third_group : of_group 2 lines ≡ of_group 2 n.atoms
  third_group =
      let no_pads : of_group 2 order.pads ≡ [] = filter_left (in_group 2) ins outs order.pads order.are_pads (none 2 1 n.atoms (λ e. omega (arith, e))) ∙ none 2 0 n.atoms (λ e. omega (arith, e)) in
      filter_right (in_group 2) order.pads others lines order.are_lines no_pads ∙ same 2 n.atoms

  pub same_groups : in_groups lines ≡ in_groups n.atoms
  same_groups =
      ap (λ l. l ++ (of_group 1 lines ++ of_group 2 lines)) first_group ∙
      (ap (λ l. of_group 0 n.atoms ++ (l ++ of_group 2 lines)) second_group ∙ ap (λ l. of_group 0 n.atoms ++ (of_group 1 n.atoms ++ l)) third_group)

-- atoms that are grouped

above : (n g : ℕ) → g < n → (n == g) ≡ false
above n g less = grind (arith, nat_tests)

none_above : (g : ℕ) (atoms : List Atom) → ((a : Atom) → Has atoms a → g < group_of a.kind) → of_group g atoms ≡ []
none_above g [] high = refl
none_above g (a ∷ atoms) high = by (group_of a.kind == g) (above (group_of a.kind) g (high a (inl refl))) (none_above g atoms (λ b has. high b (inr has)))
  where
    by : (b : Bool) → b ≡ false → of_group g atoms ≡ [] → (if b then a ∷ of_group g atoms else of_group g atoms) ≡ []
    by true is rest = absurd (let bad : ⊥ = cc is in bad)
    by false is rest = rest

-- the groups of the atoms behind one of this kind, and it before them
abbrev put_first : AtomKind → Atom → List Atom → List Atom
put_first k a atoms =
    (if group_of k == 0 then a ∷ of_group 0 atoms else of_group 0 atoms)
    ++ ((if group_of k == 1 then a ∷ of_group 1 atoms else of_group 1 atoms) ++ (if group_of k == 2 then a ∷ of_group 2 atoms else of_group 2 atoms))

module _ (a : Atom) (atoms : List Atom) (rest : in_groups atoms ≡ atoms) where
  put_second : ((b : Atom) → Has atoms b → 1 ≤ group_of b.kind) → of_group 0 atoms ++ (a ∷ of_group 1 atoms ++ of_group 2 atoms) ≡ a ∷ atoms
  put_second high =
      let gone = none_above 0 atoms (λ b has. omega (arith, high b has)) in
      ap (λ l. l ++ (a ∷ of_group 1 atoms ++ of_group 2 atoms)) gone ∙ ap (λ l. a ∷ l) (sym (ap (λ l. l ++ (of_group 1 atoms ++ of_group 2 atoms)) gone) ∙ rest)

  put_third : ((b : Atom) → Has atoms b → 2 ≤ group_of b.kind) → of_group 0 atoms ++ (of_group 1 atoms ++ a ∷ of_group 2 atoms) ≡ a ∷ atoms
  put_third high =
      let gone = none_above 0 atoms (λ b has. omega (arith, high b has)) in
      let gone' = none_above 1 atoms (λ b has. omega (arith, high b has)) in
      ap (λ l. l ++ (of_group 1 atoms ++ a ∷ of_group 2 atoms)) gone ∙ (ap (λ l. l ++ a ∷ of_group 2 atoms) gone' ∙
      ap (λ l. a ∷ l) (sym (ap (λ l. l ++ of_group 2 atoms) gone') ∙ (sym (ap (λ l. l ++ (of_group 1 atoms ++ of_group 2 atoms)) gone) ∙ rest)))

  put_by : (k : AtomKind) → ((b : Atom) → Has atoms b → group_of k ≤ group_of b.kind) → put_first k a atoms ≡ a ∷ atoms
  put_by InPad high = ap (λ l. a ∷ l) rest
  put_by OutPad high = put_second high
  put_by Lut high = put_third high
  put_by Latch high = put_third high
  put_by (Cell number) high = put_third high

pub grouped_same : (atoms : List Atom) → AreGrouped atoms → in_groups atoms ≡ atoms
grouped_same [] ordered = refl
grouped_same (a ∷ atoms) ordered = put_by a atoms (grouped_same atoms ordered.1) a.kind ordered.0
