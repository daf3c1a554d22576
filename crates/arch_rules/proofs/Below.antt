-- What stands below the root is no list of models, tiles or block types.
use Rattle.std.proofs.Common.{◌≡◌, ℕ, Bool, true, false, if◌then◌else◌, List, [], refl}
use Rattle.std.specs.Str.{bytes_eq}
use Rattle.elem_text.specs.declared.elem.Elem.{Elem}
use Rattle.arch_rules.specs.declared.role.Role.{Role}
use Rattle.arch_rules.specs.declared.role.Role.TheVariants.{File, Architecture, Models, Model, ModelPorts, Tiles, Tile, SubTile, Sites, Layouts, FixedLayout, Single, Blocks, Block, PbType, Mode, Interconnect, Inter, Metadata}
use Rattle.arch_rules.specs.Roles.{either, carried, port_or, in_pb_type, row, role_in}
use Rattle.arch_rules.specs.Walks.{cousins}
use Rattle.arch_rules.specs.Within.{is_below}

-- neither the root nor a list in it
abbrev pub is_inner : Role → Bool
is_inner File = false
is_inner Architecture = false
is_inner Models = false
is_inner Tiles = false
is_inner Blocks = false
is_inner _ = true

pub no_cousins : (r : Role) (before : List Elem) → is_inner r ≡ true → cousins r before ≡ []
no_cousins File before is = refl
no_cousins Architecture before is = refl
no_cousins Models before is = absurd (cc)
no_cousins Tiles before is = absurd (cc)
no_cousins Blocks before is = absurd (cc)
no_cousins _ before is = refl

pub inner_below : (r : Role) → is_inner r ≡ true → is_below r ≡ true
inner_below File is = is
inner_below Architecture is = is
inner_below _ is = refl

any : (name word : List ℕ) (a b : Role) → is_inner a ≡ true → is_inner b ≡ true → is_inner (either name word a b) ≡ true
any name word a b is is' = elim (bytes_eq name word) as (λ t. is_inner (if t then a else b) ≡ true) [ true ↦ is | false ↦ is' ]

carried_inner : (n : List ℕ) → is_inner (carried n) ≡ true
carried_inner n =
    any n _ _ _ refl (any n _ _ _ refl (any n _ _ _ refl (any n _ _ _ refl (any n _ _ _ refl (any n _ _ _ refl (any n _ _ _ refl
    (any n _ _ _ refl (any n _ _ _ refl (any n _ _ _ refl refl)))))))))

ports_inner : (n : List ℕ) (a b : Role) → is_inner a ≡ true → is_inner b ≡ true → is_inner (port_or n a b) ≡ true
ports_inner n a b is is' = any n _ _ _ is (any n _ _ _ is (any n _ _ _ is is'))

pb_type_inner : (n : List ℕ) → is_inner (in_pb_type n) ≡ true
pb_type_inner n = ports_inner n _ _ refl (any n _ _ _ refl (any n _ _ _ refl (any n _ _ _ refl (any n _ _ _ refl (carried_inner n)))))

row_inner : (r : Role) (n : List ℕ) → is_below r ≡ true → is_inner (row r n) ≡ true
row_inner File n is = absurd (cc)
row_inner Architecture n is = absurd (cc)
row_inner Models n is = any n _ _ _ refl refl
row_inner Model n is = any n _ _ _ refl (any n _ _ _ refl refl)
row_inner ModelPorts n is = any n _ _ _ refl refl
row_inner Tiles n is = any n _ _ _ refl refl
row_inner Tile n is = any n _ _ _ refl refl
row_inner SubTile n is = any n _ _ _ refl (ports_inner n _ _ refl refl)
row_inner Sites n is = any n _ _ _ refl refl
row_inner Layouts n is = any n _ _ _ refl refl
row_inner FixedLayout n is = any n _ _ _ refl refl
row_inner Single n is = any n _ _ _ refl refl
row_inner Blocks n is = any n _ _ _ refl refl
row_inner Block n is = pb_type_inner n
row_inner PbType n is = pb_type_inner n
row_inner Mode n is = any n _ _ _ refl (any n _ _ _ refl (any n _ _ _ refl (carried_inner n)))
row_inner Interconnect n is = any n _ _ _ refl (any n _ _ _ refl (any n _ _ _ refl (carried_inner n)))
row_inner Inter n is = any n _ _ _ refl (any n _ _ _ refl (carried_inner n))
row_inner Metadata n is = any n _ _ _ refl refl
row_inner _ n is = refl

pub role_inner : (r : Role) (n : List ℕ) → is_below r ≡ true → is_inner (role_in r n) ≡ true
role_inner r n is = any n _ _ _ refl (row_inner r n is)
