-- What elements are, by where they stand and by their tags.
use Rattle.std.proofs.Common.{◌≡◌, ℕ, Bool, true, false, List, Some, codes, refl, sym, subst}
use Rattle.std.proofs.lemmas.Slice.Eq.{bytes_eq-Decides}
use Rattle.elem_text.specs.declared.elem.Elem.{Elem}
use Rattle.elem_attrs.specs.Attributes.{has_tag}
use Rattle.arch_rules.specs.declared.role.Role.{Role}
use Rattle.arch_rules.specs.declared.role.Role.TheVariants.{SubTile, TilePort, Blocks, Block, PbType, Port, Mode, Interconnect}
use Rattle.arch_rules.specs.declared.role.Sort.TheVariants as sort
use Rattle.arch_rules.specs.Elements.{name_of, text_at}
use Rattle.arch_rules.specs.Roles.{role_in, sort_of, is_pb_type}
use Rattle.arch_rules.specs.Walks.{IsFine, owner_in}

pub tag_is : (e : Elem) (word : List ℕ) → has_tag e word ≡ true → name_of e ≡ word
tag_is e word is = (bytes_eq-Decides (name_of e) word).0 is

pub fine_as : (r s : Role) (Taken : Type 0) (e : Elem) → r ≡ s → IsFine r Taken e → IsFine s Taken e
fine_as r s Taken e same fine = subst (λ q. IsFine q Taken e) same fine

-- where pb_types stand
abbrev pub holds_blocks : Role → Bool
holds_blocks Blocks = true
holds_blocks Block = true
holds_blocks PbType = true
holds_blocks Mode = true
holds_blocks _ = false

-- where those stand that are no block types
abbrev pub holds_kids : Role → Bool
holds_kids Block = true
holds_kids PbType = true
holds_kids Mode = true
holds_kids _ = false

pub kids_block : (r : Role) → holds_kids r ≡ true → holds_blocks r ≡ true
kids_block Block is = refl
kids_block PbType is = refl
kids_block Mode is = refl
kids_block _ is = absurd (cc)

pub pb_kids : (r : Role) → is_pb_type r ≡ true → holds_kids r ≡ true
pb_kids Block is = refl
pb_kids PbType is = refl
pb_kids _ is = absurd (cc)

block_there : (r : Role) → holds_blocks r ≡ true → is_pb_type (role_in r (codes "pb_type")) ≡ true
block_there Blocks is = refl
block_there Block is = refl
block_there PbType is = refl
block_there Mode is = refl
block_there _ is = absurd (cc)

pub block_role : (r : Role) (n : List ℕ) → holds_blocks r ≡ true → n ≡ codes "pb_type" → is_pb_type (role_in r n) ≡ true
block_role r n holds is = subst (λ m. is_pb_type (role_in r m) ≡ true) (sym is) (block_there r holds)

pub top_role : (n : List ℕ) → n ≡ codes "pb_type" → role_in Blocks n ≡ Block
top_role n is = subst (λ m. role_in Blocks m ≡ Block) (sym is) refl

kid_there : (r : Role) → holds_kids r ≡ true → role_in r (codes "pb_type") ≡ PbType
kid_there Block is = refl
kid_there PbType is = refl
kid_there Mode is = refl
kid_there _ is = absurd (cc)

pub kid_role : (r : Role) (n : List ℕ) → holds_kids r ≡ true → n ≡ codes "pb_type" → role_in r n ≡ PbType
kid_role r n holds is = subst (λ m. role_in r m ≡ PbType) (sym is) (kid_there r holds)

mode_there : (r : Role) → is_pb_type r ≡ true → role_in r (codes "mode") ≡ Mode
mode_there Block is = refl
mode_there PbType is = refl
mode_there _ is = absurd (cc)

pub mode_role : (r : Role) (n : List ℕ) → is_pb_type r ≡ true → n ≡ codes "mode" → role_in r n ≡ Mode
mode_role r n holds is = subst (λ m. role_in r m ≡ Mode) (sym is) (mode_there r holds)

interconnect_there : (r : Role) → holds_kids r ≡ true → role_in r (codes "interconnect") ≡ Interconnect
interconnect_there Block is = refl
interconnect_there PbType is = refl
interconnect_there Mode is = refl
interconnect_there _ is = absurd (cc)

pub interconnect_role : (r : Role) (n : List ℕ) → holds_kids r ≡ true → n ≡ codes "interconnect" → role_in r n ≡ Interconnect
interconnect_role r n holds is = subst (λ m. role_in r m ≡ Interconnect) (sym is) (interconnect_there r holds)

pub sort_pb : (r : Role) → is_pb_type r ≡ true → sort_of r ≡ Some sort.Units
sort_pb Block is = refl
sort_pb PbType is = refl
sort_pb _ is = absurd (cc)

pub pb_owner : (r : Role) (owner : List ℕ) (e : Elem) → is_pb_type r ≡ true → owner_in r owner e ≡ text_at e (codes "name")
pb_owner Block owner e is = refl
pb_owner PbType owner e is = refl
pb_owner _ owner e is = absurd (cc)

abbrev pub is_port : Role → Bool
is_port TilePort = true
is_port Port = true
is_port _ = false

-- an element in which ports stand, and what they are there
pub record HoldsPorts (r : Role) : Type 0 where
  pub port : Role
  pub is : is_port port ≡ true
  pub input : role_in r (codes "input") ≡ port
  pub output : role_in r (codes "output") ≡ port
  pub clock : role_in r (codes "clock") ≡ port

pub pb_ports : (r : Role) → is_pb_type r ≡ true → HoldsPorts r
pb_ports Block is = record { port = Port; is = refl; input = refl; output = refl; clock = refl }
pb_ports PbType is = record { port = Port; is = refl; input = refl; output = refl; clock = refl }
pb_ports _ is = absurd (cc)

pub tile_ports : HoldsPorts SubTile
tile_ports = record { port = TilePort; is = refl; input = refl; output = refl; clock = refl }
