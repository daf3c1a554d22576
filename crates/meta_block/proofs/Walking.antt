-- The steps of a walk over the owners in a block type.
use Rattle.std.proofs.Common.{◌≡◌, ◌≤◌, ◌<◌, ◌+◌, ◌⊎◌, inl, ℕ, List, [], ◌∷◌, ◌++◌, length, map, take, get_or, refl, sym, ap, ◌∙◌, subst}
use Rattle.std.specs.List.{flat_map}
use Rattle.arch_types.specs.declared.block.PbType.{PbType}
use Rattle.arch_types.specs.declared.block.Kind.TheVariants.{Modes}
use Rattle.arch_types.specs.declared.block.Mode.{Mode}
use Rattle.arch_types.specs.declared.block.Inter.{Inter}
use Rattle.arch_types.specs.Tree.{name_of_mode, kids_of, inters_of}
use Rattle.meta_block.specs.declared.types.OwnerSaid.{OwnerSaid}
use Rattle.meta_block.specs.declared.error.MetaError.{MetaError}
use Rattle.meta_block.specs.declared.error.MetaError.TheVariants.{OutOfMemory}
use Rattle.meta_block.specs.Owners.{Owner, pb_type_at, mode_at, inter_at, RefusesOwner, RefusesOwners}
use Rattle.meta_block.specs.Blocks.{way_to, inter_owners, mode_owners, owners_below, opened, opened_mode}
use Rattle.meta_block.specs.Steps.{AddsSaid}
use Rattle.meta_block.proofs.Adding.{or_then, adds_then, refuses_first, refuses_then, adds_part, refuses_part, adds_all, flat_single}
use Rattle.meta_block.proofs.Rows.{kind_owners_are, mode_owners_is}

pub map_push : {A B : Type 0} (f : A → B) (xs new : List A) (x : A) → new ≡ xs ++ x ∷ [] → map f new ≡ map f xs ++ f x ∷ []
map_push {A} f xs new x is = ap (λ (l : List A). map f l) is ∙ pushed xs
  where
    pushed : (ys : List A) → map f (ys ++ x ∷ []) ≡ map f ys ++ f x ∷ []
    pushed [] = refl
    pushed (y ∷ ys) = ap (λ l. f y ∷ l) (pushed ys)

-- a part of a list, where the way is as it was
module _ {X : Type 0} (f : List (List ℕ) → X → List Owner) (way here : List (List ℕ)) (same : here ≡ way) where
  pub part_added : (xs : List X) (n : ℕ) (x : X) (a b c : List OwnerSaid) → n < length xs → x ≡ get_or xs n x → AddsSaid (flat_map (f way) (take n xs)) a b → AddsSaid (f here x) b c →
      AddsSaid (flat_map (f way) (take (n + 1) xs)) a c
  part_added xs n x a b c within is old new = adds_part (f way) xs n x a b c within is old (subst (λ (w : List (List ℕ)). AddsSaid (f w x) b c) same new)

  pub part_refused : (xs : List X) (n : ℕ) (x : X) (a b : List OwnerSaid) (e : MetaError) → n < length xs → x ≡ get_or xs n x → AddsSaid (flat_map (f way) (take n xs)) a b →
      (e ≡ OutOfMemory) ⊎ RefusesOwners (f here x) e → (e ≡ OutOfMemory) ⊎ RefusesOwners (flat_map (f way) xs) e
  part_refused xs n x a b e within is old refused =
      or_then (λ (r : RefusesOwners (f here x) e). refuses_part (f way) xs n x a b e within is old (subst (λ (w : List (List ℕ)). RefusesOwners (f w x) e) same r)) refused

-- a pb_type whose way is open

module _ (way : List (List ℕ)) (block : PbType) (modes : List Mode) (is : block.kind ≡ Modes modes) where
  parts : opened way block ≡ (pb_type_at way block ∷ []) ++ flat_map (mode_owners way block) modes
  parts = ap (λ l. pb_type_at way block ∷ l) (kind_owners_are way block block.kind modes is)

  pub opened_added : (a b c : List OwnerSaid) → AddsSaid (pb_type_at way block ∷ []) a b → AddsSaid (flat_map (mode_owners way block) modes) b c → AddsSaid (opened way block) a c
  opened_added a b c own inner =
      subst (λ (l : List Owner). AddsSaid l a c) (sym parts) (adds_then (pb_type_at way block ∷ []) (flat_map (mode_owners way block) modes) a b c own inner)

  pub opened_refused : (a b : List OwnerSaid) (e : MetaError) → AddsSaid (pb_type_at way block ∷ []) a b → (e ≡ OutOfMemory) ⊎ RefusesOwners (flat_map (mode_owners way block) modes) e →
      (e ≡ OutOfMemory) ⊎ RefusesOwners (opened way block) e
  opened_refused a b e own refused =
      or_then (λ (r : RefusesOwners (flat_map (mode_owners way block) modes) e).
      subst (λ (l : List Owner). RefusesOwners l e) (sym parts) (refuses_then (pb_type_at way block ∷ []) (flat_map (mode_owners way block) modes) a b e own r)) refused

-- a mode

module _ (way here : List (List ℕ)) (block : PbType) (mode : Mode) (same : here ≡ way_to way (name_of_mode mode)) where
  same_owners : opened_mode here block mode ≡ mode_owners way block mode
  same_owners = ap (λ (w : List (List ℕ)). opened_mode w block mode) same ∙ sym (mode_owners_is way block mode)

  pub mode_added : (a b : List OwnerSaid) → AddsSaid (opened_mode here block mode) a b → AddsSaid (mode_owners way block mode) a b
  mode_added a b added = subst (λ (l : List Owner). AddsSaid l a b) same_owners added

  pub mode_refused : (e : MetaError) → (e ≡ OutOfMemory) ⊎ RefusesOwners (opened_mode here block mode) e → (e ≡ OutOfMemory) ⊎ RefusesOwners (mode_owners way block mode) e
  mode_refused e refused = or_then (λ (r : RefusesOwners (opened_mode here block mode) e). subst (λ (l : List Owner). RefusesOwners l e) same_owners r) refused

-- a mode whose way is open: itself, its interconnects, and its children

module _ (way : List (List ℕ)) (block : PbType) (mode : Mode) where
  abbrev kids_part : List Owner
  kids_part = flat_map (owners_below way) (kids_of mode)

  pub inters_refused : (a b : List OwnerSaid) (e : MetaError) → AddsSaid (mode_at way mode ∷ []) a b → (e ≡ OutOfMemory) ⊎ RefusesOwners (inter_owners way block mode) e →
      (e ≡ OutOfMemory) ⊎ RefusesOwners (opened_mode way block mode) e
  inters_refused a b e own refused =
      or_then (λ (r : RefusesOwners (inter_owners way block mode) e).
      refuses_then (mode_at way mode ∷ []) (inter_owners way block mode ++ kids_part) a b e own (refuses_first (inter_owners way block mode) kids_part e r)) refused

  pub kids_refused : (a b c : List OwnerSaid) (e : MetaError) → AddsSaid (mode_at way mode ∷ []) a b → AddsSaid (inter_owners way block mode) b c →
      (e ≡ OutOfMemory) ⊎ RefusesOwners (flat_map (owners_below way) (kids_of mode)) e → (e ≡ OutOfMemory) ⊎ RefusesOwners (opened_mode way block mode) e
  kids_refused a b c e own inters refused =
      or_then (λ (r : RefusesOwners (flat_map (owners_below way) (kids_of mode)) e).
      refuses_then (mode_at way mode ∷ []) (inter_owners way block mode ++ kids_part) a b e own (refuses_then (inter_owners way block mode) kids_part b c e inters r)) refused

  pub opened_mode_added : (a b c d : List OwnerSaid) → AddsSaid (mode_at way mode ∷ []) a b → AddsSaid (inter_owners way block mode) b c → AddsSaid (flat_map (owners_below way) (kids_of mode)) c d →
      AddsSaid (opened_mode way block mode) a d
  opened_mode_added a b c d own inters kids =
      adds_then (mode_at way mode ∷ []) (inter_owners way block mode ++ kids_part) a b d own (adds_then (inter_owners way block mode) kids_part b c d inters kids)

-- the owner itself

pub pb_type_refused : (block : PbType) (way here : List (List ℕ)) (e : MetaError) → here ≡ way → (e ≡ OutOfMemory) ⊎ RefusesOwner (pb_type_at here block) e →
    (e ≡ OutOfMemory) ⊎ RefusesOwners (opened way block) e
pb_type_refused block way here e same refused = or_then (λ (r : RefusesOwner (pb_type_at here block) e). inl (subst (λ (w : List (List ℕ)). RefusesOwner (pb_type_at w block) e) same r)) refused

pub own_mode_refused : (block : PbType) (mode : Mode) (way here : List (List ℕ)) (e : MetaError) → here ≡ way → (e ≡ OutOfMemory) ⊎ RefusesOwner (mode_at here mode) e →
    (e ≡ OutOfMemory) ⊎ RefusesOwners (opened_mode way block mode) e
own_mode_refused block mode way here e same refused = or_then (λ (r : RefusesOwner (mode_at here mode) e). inl (subst (λ (w : List (List ℕ)). RefusesOwner (mode_at w mode) e) same r)) refused

-- the interconnects of a mode, one by one

abbrev one_inter : List (List ℕ) → PbType → Mode → Inter → List Owner
one_inter way block mode inter = inter_at (way_to way inter.name) block mode inter ∷ []

module _ (way here : List (List ℕ)) (block named : PbType) (mode called : Mode) (same : here ≡ way) (blocks : named ≡ block) (modes : called ≡ mode) where
  same_inter : (inter : Inter) → one_inter here named called inter ≡ one_inter way block mode inter
  same_inter inter =
      ap (λ (w : List (List ℕ)). one_inter w named called inter) same
      ∙ (ap (λ (b : PbType). one_inter way b called inter) blocks ∙ ap (λ (m : Mode). one_inter way block m inter) modes)

  pub inters_added : (xs : List Inter) (n : ℕ) (x : Inter) (a b c : List OwnerSaid) → n < length xs → x ≡ get_or xs n x → AddsSaid (flat_map (one_inter way block mode) (take n xs)) a b →
      AddsSaid (one_inter here named called x) b c → AddsSaid (flat_map (one_inter way block mode) (take (n + 1) xs)) a c
  inters_added xs n x a b c within is old new =
      adds_part (one_inter way block mode) xs n x a b c within is old (subst (λ (l : List Owner). AddsSaid l b c) (same_inter x) new)

  pub inters_stop : (xs : List Inter) → xs ≡ inters_of mode → (n : ℕ) (x : Inter) (a b : List OwnerSaid) (e : MetaError) → n < length xs → x ≡ get_or xs n x →
      AddsSaid (flat_map (one_inter way block mode) (take n xs)) a b → (e ≡ OutOfMemory) ⊎ RefusesOwner (inter_at (way_to here x.name) named called x) e →
      (e ≡ OutOfMemory) ⊎ RefusesOwners (inter_owners way block mode) e
  inters_stop xs all n x a b e within is old refused =
      or_then (λ (r : RefusesOwner (inter_at (way_to here x.name) named called x) e).
      let part : RefusesOwners (one_inter way block mode x) e = subst (λ (l : List Owner). RefusesOwners l e) (same_inter x) (inl r) in
      subst (λ (l : List Owner). RefusesOwners l e) (flat_single (λ (i : Inter). inter_at (way_to way i.name) block mode i) xs ∙ ap (map (λ (i : Inter). inter_at (way_to way i.name) block mode i)) all)
      (refuses_part (one_inter way block mode) xs n x a b e within is old part)) refused

pub inters_all : (way : List (List ℕ)) (block : PbType) (mode : Mode) (xs : List Inter) → xs ≡ inters_of mode → (n : ℕ) (a b : List OwnerSaid) → length xs ≤ n →
    AddsSaid (flat_map (one_inter way block mode) (take n xs)) a b → AddsSaid (inter_owners way block mode) a b
inters_all way block mode xs all n a b end old =
    subst (λ (l : List Owner). AddsSaid l a b) (flat_single (λ (i : Inter). inter_at (way_to way i.name) block mode i) xs ∙ ap (map (λ (i : Inter). inter_at (way_to way i.name) block mode i)) all)
    (adds_all (one_inter way block mode) xs n a b end old)
