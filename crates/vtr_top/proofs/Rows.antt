-- Tables with the same rows, and the row of a command.
use Rattle.std.proofs.Common.{◌≡◌, ◌<◌, ◌≤◌, ◌⊎◌, inl, inr, ℕ, zero, suc, List, [], ◌∷◌, length, map, refl, sym, ap, ◌∙◌, subst, arith, Some, Bool, true, false}
use Rattle.std.specs.Prelude.{slice_get, if◌then◌else◌}
use Rattle.std.proofs.lemmas.Bool.{cases_eq}
use Rattle.std.proofs.lemmas.List.{length-map}
use Rattle.std.proofs.lemmas.Option.{slice_get_within}
use Rattle.vtr_base.specs.Lists.{IsFirstPlace}
use Rattle.run_words.specs.declared.shape.Shape.{Shape}
use Rattle.run_words.specs.declared.shape.WordKind.{WordKind}
use Rattle.run_words.specs.Words.{Parts, parts_of, role_of, is_dashes, is_dashed, option_of, CanBe, CanJoin, IsNextPlain}
use Rattle.run_words.specs.Commands.{names_of, IsRow, IsCommand, CanStand, IsFirstWrong, IsWrongAt, IsMissingAt}
use Rattle.vtr_top.specs.Table.{Row, row_of, commands, IsTable, FitsRow}

some_alike : {X : Type 0} {x y : X} → Some x ≡ Some y → x ≡ y
some_alike e = cc

map_at : {X Y : Type 0} (f : X → Y) (xs : List X) (n : ℕ) (x : X) → slice_get xs n ≡ Some x → slice_get (map f xs) n ≡ Some (f x)
map_at f [] n x there = cc
map_at f (y ∷ ys) zero x there = ap (λ z. Some (f z)) (some_alike there)
map_at f (y ∷ ys) (suc n) x there = map_at f ys n x there

-- what stands at a place of the images is the image of what stands there
at_map : {X Y : Type 0} (f : X → Y) (xs : List X) (n : ℕ) (y : Y) → slice_get (map f xs) n ≡ Some y → (x : X) × (slice_get xs n ≡ Some x) × (f x ≡ y)
at_map f [] n y there = cc
at_map f (x ∷ xs) zero y there = (x, refl, some_alike there)
at_map f (x ∷ xs) (suc n) y there = at_map f xs n y there

pub row_in : (table : List Shape) (row : ℕ) (shape : Shape) → IsTable table → slice_get table row ≡ Some shape → slice_get commands row ≡ Some (row_of shape)
row_in table row shape is there = subst (λ rows. slice_get rows row ≡ Some (row_of shape)) is (map_at row_of table row shape there)

pub fits_row : (table : List Shape) (words : List (List ℕ)) (row : ℕ) (options plain : List (List ℕ)) → IsTable table → IsCommand table words row options plain →
    FitsRow row (length plain)
fits_row table words row options plain is command = record {
  command = row_of command.shape;
  there = row_in table row command.shape is command.is_row.is;
  all = command.all;
}

pub fits_words : {X : Type 0} (f : X → List ℕ) (items read : List X) (table : List Shape) (words : List (List ℕ)) (row : ℕ) (options : List (List ℕ)) → read ≡ items → IsTable table →
    IsCommand table words row options (map f items) → FitsRow row (length read)
fits_words f items read table words row options same is command =
    subst (FitsRow row) (length-map items f ∙ ap length (sym same)) (fits_row table words row options (map f items) is command)

-- a word that can't stand, or is missing, has its place among the words or behind the last
pub place_within : {X : Type 0} (f : X → List ℕ) (items : List X) (table : List Shape) (place : ℕ) → IsFirstWrong table (map f items) place → place ≤ length items
place_within f items table place is = by_cause is.wrong
  where
    long : length (map f items) ≡ length items
    long = length-map items f

    by_cause : IsWrongAt table (map f items) place ⊎ IsMissingAt table (map f items) place → place ≤ length items
    by_cause (inl at) = let inside = slice_get_within (map f items) place at.word at.there in omega (arith, inside, long)
    by_cause (inr missing) = omega (arith, missing.last, long)

names_alike : (table : List Shape) → names_of table ≡ map (λ (r : Row). r.name) (map row_of table)
names_alike [] = refl
names_alike (a ∷ more) = ap (λ ns. a.name.now ∷ ns) (names_alike more)

pub same_names : (t u : List Shape) → IsTable t → IsTable u → names_of t ≡ names_of u
same_names t u is_t is_u = names_alike t ∙ ap (λ rows. map (λ (r : Row). r.name) rows) (is_t ∙ sym is_u) ∙ sym (names_alike u)

pub one_first : {X : Type 0} (xs : List X) (x : X) (i j : ℕ) → IsFirstPlace xs x i → IsFirstPlace xs x j → i ≡ j
one_first xs x i j at_i at_j = by_order (cases_eq i j)
  where
    apart : (i ≡ j → ⊥) → (i < j) ⊎ (j < i)
    apart other = grind arith

    by_order : (i ≡ j) ⊎ (i ≡ j → ⊥) → i ≡ j
    by_order (inl same) = same
    by_order (inr other) = elim (apart other) [
      | inl less ↦ absurd (at_j.first i less at_i.there)
      | inr more ↦ absurd (at_i.first j more at_j.there)
    ]

-- a name has one row in all tables of the commands
pub one_row : (t u : List Shape) (name : List ℕ) (i j : ℕ) (a b : Shape) → IsTable t → IsTable u → IsRow t name i a → IsRow u name j b → (i ≡ j) × (row_of a ≡ row_of b)
one_row t u name i j a b is_t is_u at_i at_j =
    let same : i ≡ j = one_first (names_of u) name i j (subst (λ ns. IsFirstPlace ns name i) (same_names t u is_t is_u) at_i.first) at_j.first in
    let here : slice_get commands j ≡ Some (row_of a) = subst (λ k. slice_get commands k ≡ Some (row_of a)) same (row_in t i a is_t at_i.is) in
    (same, some_alike (sym here ∙ row_in u j b is_u at_j.is))

-- one of three
pick : {X : Type 0} (x y z : X) (a b c : Bool) →
    ((if a then x else if b then y else if c then z else x) ≡ x)
    ⊎ (((if a then x else if b then y else if c then z else x) ≡ y) ⊎ ((if a then x else if b then y else if c then z else x) ≡ z))
pick x y z true b c = inl refl
pick x y z false true c = inr (inl refl)
pick x y z false false true = inr (inr refl)
pick x y z false false false = inl refl

-- a word can join two rows alike that have the same words and the same option
joins_alike : (a b : Shape) (parts : Parts) (word : List ℕ) → a.words.now ≡ b.words.now → option_of a ≡ option_of b → CanJoin a parts word → CanJoin b parts word
joins_alike a b parts word kinds options =
    by_role (pick (role_of true []) (role_of false (45 ∷ 45 ∷ [])) (role_of false (45 ∷ 0 ∷ [])) parts.ended (is_dashes word) (is_dashed word))
  where
    as_plain : CanBe (role_of true []) a parts word → CanBe (role_of true []) b parts word
    as_plain can = subst (λ (ks : List WordKind). IsNextPlain ks parts.plain word) kinds can

    as_ends : CanBe (role_of false (45 ∷ 45 ∷ [])) a parts word → CanBe (role_of false (45 ∷ 45 ∷ [])) b parts word
    as_ends can = tt

    as_option : CanBe (role_of false (45 ∷ 0 ∷ [])) a parts word → CanBe (role_of false (45 ∷ 0 ∷ [])) b parts word
    as_option can = record { is = sym options ∙ can.is; once = can.once }

    by_role : (role_of parts.ended word ≡ role_of true []) ⊎ ((role_of parts.ended word ≡ role_of false (45 ∷ 45 ∷ [])) ⊎ (role_of parts.ended word ≡ role_of false (45 ∷ 0 ∷ []))) →
        CanJoin a parts word → CanJoin b parts word
    by_role (inl plain) = subst (λ r. CanBe r a parts word → CanBe r b parts word) (sym plain) as_plain
    by_role (inr (inl ends)) = subst (λ r. CanBe r a parts word → CanBe r b parts word) (sym ends) as_ends
    by_role (inr (inr is)) = subst (λ r. CanBe r a parts word → CanBe r b parts word) (sym is) as_option

-- a row of one table of the commands is one of another
row_too : (t u : List Shape) (name : List ℕ) (row : ℕ) (a : Shape) → IsTable t → IsTable u → IsRow t name row a → (b : Shape) × IsRow u name row b × (row_of a ≡ row_of b)
row_too t u name row a is_t is_u at =
    let found = at_map row_of u row (row_of a) (subst (λ rows. slice_get rows row ≡ Some (row_of a)) (sym is_u) (row_in t row a is_t at.is)) in
    (found.0, record { first = subst (λ ns. IsFirstPlace ns name row) (same_names t u is_t is_u) at.first; is = found.1 }, sym found.2)

-- a word can stand in the one table as in the other
pub stands_alike : (t u : List Shape) (front : List (List ℕ)) (word : List ℕ) → IsTable t → IsTable u → CanStand t front word → CanStand u front word
stands_alike t u [] word is_t is_u can = (can.0, subst (λ ns. IsFirstPlace ns word can.0) (same_names t u is_t is_u) can.1)
stands_alike t u (name ∷ rest) word is_t is_u can =
    let other = row_too t u name can.0 can.1 is_t is_u can.2 in
    (can.0, other.0, other.1, joins_alike can.1 other.0 (parts_of rest) word (ap (λ (r : Row). r.kinds) other.2) (ap (λ (r : Row). r.option) other.2) can.3)
