-- The lists under the root: of models, of tiles, of layouts and of block types.
use Rattle.std.proofs.Common.{◌≡◌, ℕ, Bool, true, false, List, [], ◌∷◌, ◌++◌, codes, refl, sym, ◌∙◌, ap, subst, if◌then◌else◌, map, append-nil}
use Rattle.std.specs.List.{All, AllPairs, flat_map}
use Rattle.std.specs.Str.{bytes_eq}
use Rattle.std.proofs.lemmas.Grind.{flat_map-append}
use Rattle.std.proofs.lemmas.List.Elements.{All-nil, All-append, All-weaker}
use Rattle.elem_text.specs.declared.elem.Elem.{Elem}
use Rattle.elem_attrs.specs.Attributes.{has_tag}
use Rattle.arch_build.specs.Said.{within}
use Rattle.arch_rules.specs.declared.role.Role.{Role}
use Rattle.arch_rules.specs.declared.role.Role.TheVariants.{Architecture, Models, Tiles, Layouts, Blocks, Foreign}
use Rattle.arch_rules.specs.declared.role.Sort.TheVariants.{Units}
use Rattle.arch_rules.specs.Elements.{name_of, kids_of}
use Rattle.arch_rules.specs.Roles.{role_in}
use Rattle.arch_rules.specs.Rules.{Inside, role_at, IsAmong}
use Rattle.arch_rules.specs.Walks.{the_file, inside, cousins, owner_in, in_lists, AreFine, more, IsFineFile, IsFineAt}
use Rattle.arch_rules.proofs.Root.{other_root}
use Rattle.arch_laws.proofs.Lists.{pairs_nil, pairs_append, map_append}
use Rattle.arch_laws.proofs.Each.{IsFineDeep, each_with, first_fine}
use Rattle.arch_laws.proofs.Siblings.{Gives, IsNew, AreNew, siblings, all_among, among_later, still_new}
use Rattle.arch_laws.proofs.Roles.{tag_is}

-- in an element of this role under the root
abbrev pub in_list : Role → Inside
in_list role = record { parent = role; owner = [] }

abbrev pub at_top : Inside
at_top = in_list Architecture

root_role : (root : Elem) → IsFineAt the_file [] root → role_at the_file root ≡ Architecture
root_role root own = go (bytes_eq (name_of root) (codes "xi:include")) (bytes_eq (name_of root) (codes "architecture")) (λ other. other_root root other own)
  where
    go : (a b : Bool) → (((if a then Foreign else if b then Architecture else Foreign) ≡ Architecture → ⊥) → ⊥) →
        (if a then Foreign else if b then Architecture else Foreign) ≡ Architecture
    go true b twice = absurd (twice (λ same. cc))
    go false true twice = refl
    go false false twice = absurd (twice (λ same. cc))

pub top_fine : (root : Elem) → IsFineFile root → AreFine at_top [] (kids_of root)
top_fine root fine =
    let first : IsFineDeep the_file [] root = first_fine the_file [] root [] fine in
    let is : role_at the_file root ≡ Architecture = root_role root first.0 in
    let place : inside the_file root ≡ at_top = ap (λ (r : Role). (record { parent = r; owner = owner_in r [] root })) is in
    let before : cousins (role_at the_file root) [] ≡ [] = ap (λ r. cousins r []) is in
    subst (λ w. AreFine w [] (kids_of root)) place (subst (λ b. AreFine (inside the_file root) b (kids_of root)) before first.1)

-- elements of this name under the root have this role
pub record IsList (role : Role) (word : List ℕ) : Type 0 where
  pub there : role_in Architecture word ≡ role
  pub alone : (e : Elem) → owner_in role [] e ≡ []

-- and their children are siblings of one another
pub record IsJoined (role : Role) (word : List ℕ) : Type 0 where
  pub is : IsList role word
  pub joined : (before : List Elem) → cousins role before ≡ in_lists word before

pub models_list : IsJoined Models (codes "models")
models_list = record { is = record { there = refl; alone = λ e. refl }; joined = λ before. refl }

pub tiles_list : IsJoined Tiles (codes "tiles")
tiles_list = record { is = record { there = refl; alone = λ e. refl }; joined = λ before. refl }

pub blocks_list : IsJoined Blocks (codes "complexblocklist")
blocks_list = record { is = record { there = refl; alone = λ e. refl }; joined = λ before. refl }

pub layouts_list : IsList Layouts (codes "layout")
layouts_list = record { there = refl; alone = λ e. refl }

module _ (role : Role) (word : List ℕ) where
  list_role : IsList role word → (e : Elem) → has_tag e word ≡ true → role_at at_top e ≡ role
  list_role is e tag = subst (λ n. role_in Architecture n ≡ role) (sym (tag_is e word tag)) is.there

  list_place : IsList role word → (e : Elem) → has_tag e word ≡ true → inside at_top e ≡ in_list role
  list_place is e tag =
      ap (λ (r : Role). (record { parent = r; owner = owner_in r [] e })) (list_role is e tag) ∙ ap (λ (o : List ℕ). (record { parent = role; owner = o })) (is.alone e)

  pub list_deep : (is : IsList role word) (before : List Elem) (e : Elem) → has_tag e word ≡ true → IsFineDeep at_top before e →
      AreFine (in_list role) (cousins role before) (kids_of e)
  list_deep is before e tag deep =
      subst (λ b. AreFine (in_list role) b (kids_of e)) (ap (λ r. cousins r before) (list_role is e tag))
      (subst (λ w. AreFine w (cousins (role_at at_top e) before) (kids_of e)) (list_place is e tag) deep.1)

  -- what holds of each thing that the elements in such lists give
  pub each_listed : {X : Type 0} (P : X → Type 0) (Q : Elem → Type 0) (f : Elem → List X) → IsList role word → (before elems : List Elem) → AreFine at_top before elems →
      All Q elems → ((before : List Elem) (e : Elem) → has_tag e word ≡ true → Q e → AreFine (in_list role) before (kids_of e) → All P (flat_map f (kids_of e))) →
      All P (flat_map (within word f) elems)
  each_listed {X} P Q f is before elems fine known gives = each_with P Q (within word f) at_top before elems fine known one
    where
      one : (b : List Elem) (e : Elem) → IsFineDeep at_top b e → Q e → All P (within word f e)
      one b e deep q = go (has_tag e word) refl
        where
          go : (t : Bool) → has_tag e word ≡ t → All P (if t then flat_map f (kids_of e) else [])
          go false tag = All-nil P
          go true tag = gives (cousins role b) e tag q (list_deep is b e tag deep)

module _ {X : Type 0} (role : Role) (word : List ℕ) (joined : IsJoined role word) (named : X → List ℕ) (f : Elem → List X)
    (gives : (before : List Elem) (e : Elem) → IsFineAt (in_list role) before e → Gives (in_list role) Units named e (f e)) where
  abbrev AreNewIn : List Elem → List X → Type 0
  AreNewIn before xs = AreNew (in_list role) (in_lists word before) Units (map named xs)

  abbrev IsOther : List ℕ → List ℕ → Type 0
  IsOther a b = (a ≡ b) → ⊥

  one_list : (before : List Elem) (e : Elem) → has_tag e word ≡ true → IsFineDeep at_top before e → AreFine (in_list role) (in_lists word before) (kids_of e)
  one_list before e tag deep = subst (λ b. AreFine (in_list role) b (kids_of e)) (joined.joined before) (list_deep role word joined.is before e tag deep)

  its_kids : (e : Elem) → has_tag e word ≡ true → in_lists word (e ∷ []) ≡ kids_of e
  its_kids e tag = ap (λ b. (if b then kids_of e else []) ++ []) tag ∙ append-nil (kids_of e)

  list_step : (before : List Elem) (e : Elem) (ys : List X) → IsFineDeep at_top before e → AreNewIn (before ++ e ∷ []) ys → AreNewIn before (within word f e ++ ys)
  list_step before e ys deep later = go (has_tag e word) refl
    where
      both : AreNew (in_list role) (in_lists word before ++ in_lists word (e ∷ [])) Units (map named ys)
      both = subst (λ b. AreNew (in_list role) b Units (map named ys)) (flat_map-append _ before (e ∷ [])) later

      still : All (IsNew (in_list role) (in_lists word before) Units) (map named ys)
      still = still_new (in_list role) (in_lists word before) (in_lists word (e ∷ [])) Units (map named ys) both.new

      across : has_tag e word ≡ true → (n : List ℕ) → IsAmong (in_list role) (kids_of e) Units n → All (IsOther n) (map named ys)
      across tag n among =
          All-weaker (IsNew (in_list role) (in_lists word before ++ in_lists word (e ∷ [])) Units) (IsOther n)
          (λ m new same. new (among_later (in_list role) (in_lists word before) (in_lists word (e ∷ [])) Units m
          (subst (λ k. IsAmong (in_list role) (in_lists word (e ∷ [])) Units k) same (subst (λ l. IsAmong (in_list role) l Units n) (sym (its_kids e tag)) among))))
          (map named ys) both.new

      go : (t : Bool) → has_tag e word ≡ t → AreNewIn before ((if t then flat_map f (kids_of e) else []) ++ ys)
      go false tag = record { different = both.different; new = still }
      go true tag =
          let fine = one_list before e tag deep in
          let first : AreNew (in_list role) (in_lists word before) Units (map named (flat_map f (kids_of e))) =
          siblings Units named f (in_list role) (in_lists word before) (kids_of e) fine gives in
          let among = all_among Units named f (in_list role) (in_lists word before) (kids_of e) fine gives in
          subst (λ l. AreNew (in_list role) (in_lists word before) Units l) (sym (map_append named (flat_map f (kids_of e)) ys)) (record {
            different = pairs_append IsOther (map named (flat_map f (kids_of e))) (map named ys) first.different both.different
                (All-weaker (IsAmong (in_list role) (kids_of e) Units) (λ n. All (IsOther n) (map named ys)) (across tag) (map named (flat_map f (kids_of e))) among);
            new = All-append (IsNew (in_list role) (in_lists word before) Units) (map named (flat_map f (kids_of e))) (map named ys) first.new still;
          })

  list_names : (at : Inside) → at ≡ at_top → (before elems : List Elem) → AreFine at before elems → AreNewIn before (flat_map (within word f) elems)
  list_names at top before [] fine = record { different = pairs_nil IsOther; new = All-nil (IsNew (in_list role) (in_lists word before) Units) }
  list_names at top before (e ∷ rest) (more _ _ _ _ own deep tail) =
      list_step before e (flat_map (within word f) rest) (subst (λ a. IsFineDeep a before e) top (own, deep)) (list_names at top (before ++ e ∷ []) rest tail)

  -- the names that such lists give differ
  pub names_differ : (elems : List Elem) → AreFine at_top [] elems → AllPairs IsOther (map named (flat_map (within word f) elems))
  names_differ elems fine = (list_names at_top refl [] elems fine).different
