-- The pb_types of instances, row by row.
use Rattle.std.proofs.Common.{◌≡◌, ◌+◌, ◌<◌, ◌^◌, ◌⊎◌, ℕ, zero, suc, List, [], ◌∷◌, ◌++◌, Some, IsSome, length, get_or, take, drop, slice_get, refl, sym, ap, ◌∙◌, subst, inl, inr, arith, length-append}
use Rattle.std.proofs.lemmas.List.{take_more, take-append-drop, length-take}
use Rattle.std.proofs.lemmas.Option.{slice_get_within, get_or_from_slice_get}
use Rattle.std.specs.Option.{option_and_then}
use Rattle.arch_types.specs.declared.block.PbType.{PbType}
use Rattle.arch_types.specs.Address.{Address, at, child_at, step_to}
use Rattle.arch_types.specs.Numbering.{IsNumbering}
use Rattle.pb_expand.specs.declared.number.Step.{Step}
use Rattle.pb_expand.specs.Graph.{hop_of}
use Rattle.pb_expand.specs.Rows.{address_by, addresses_after, addresses, IsTree}
use Rattle.arch_types.specs.Tree.{modes_of}
use Rattle.pb_expand.specs.Making.{AreBlocks, AreShort}
use Rattle.pb_expand.proofs.Lists.{get_front, get_after, get_either, element, has_at}
use Rattle.pb_expand.proofs.RowLemmas.{length-addresses, addresses_keep, row_says}
use Rattle.pb_expand.proofs.Grows.{addresses-push}
use Rattle.pb_expand.proofs.Blocks.{at_step}

pub addresses_after-append : (before : List Address) (xs ys : List Step) → addresses_after before (xs ++ ys) ≡ addresses_after (addresses_after before xs) ys
addresses_after-append before [] ys = refl
addresses_after-append before (x ∷ xs) ys = addresses_after-append (before ++ address_by before x ∷ []) xs ys

-- instances of a front of the rows have the addresses that they have in all
pub front_keeps : (rows : List Step) (n k : ℕ) (a : Address) → slice_get (addresses (take n rows)) k ≡ Some a → slice_get (addresses rows) k ≡ Some a
front_keeps rows n k a e =
    let whole : addresses rows ≡ addresses_after (addresses (take n rows)) (drop n rows) =
    ap addresses (sym (take-append-drop n rows)) ∙ addresses_after-append ([] ∷ []) (take n rows) (drop n rows) in
    ap (λ l. slice_get l k) whole ∙ addresses_keep (addresses (take n rows)) (drop n rows) k a e

pub blocks_start : (root : PbType) (rows : List Step) → AreBlocks root (addresses (take 0 rows)) (root ∷ [])
blocks_start root rows = record { each = λ n a e. first n a e; all = refl }
  where
    first : (n : ℕ) (a : Address) → slice_get ([] ∷ []) n ≡ Some a → (block : PbType) × (at root a ≡ Some block) × (slice_get (root ∷ []) n ≡ Some block)
    first zero a e = let none : [] ≡ a = cc in (root, ap (at root) (sym none), refl)
    first (suc n) a e = absurd (cc)

-- a row's parent is among the instances before it, with its pb_type
pub record HasParent (root : PbType) (rows : List Step) (k : ℕ) (row : Step) (blocks : List PbType) : Type 0 where
  pub inside : row.parent.0 < length blocks
  pub address : Address
  pub is_address : slice_get (addresses (take k rows)) row.parent.0 ≡ Some address
  pub block : PbType
  pub is_block : slice_get blocks row.parent.0 ≡ Some block
  pub at_root : at root address ≡ Some block

pub has_parent : (root : PbType) (rows : List Step) (k : ℕ) (row : Step) (blocks : List PbType) → IsTree rows → slice_get rows k ≡ Some row →
    AreBlocks root (addresses (take k rows)) blocks → HasParent root rows k row blocks
has_parent root rows k row blocks tree at_k are =
    let low = tree.earlier k row at_k in
    let inside_rows = slice_get_within rows k row at_k in
    let count = length-addresses (take k rows) in
    let taken = length-take k rows in
    let inside : row.parent.0 < length (addresses (take k rows)) = omega (arith, low, inside_rows, count, taken) in
    let address = element (addresses (take k rows)) row.parent.0 inside in
    let block = are.each row.parent.0 address.0 address.1 in
    record {
      inside = omega (arith, inside, are.all);
      address = address.0;
      is_address = address.1;
      block = block.0;
      is_block = block.2;
      at_root = block.1;
    }

-- the parent's pb_type has the child of the row
pub child_is_there : (root : PbType) (rows : List Step) (k : ℕ) (row : Step) (blocks : List PbType) (p : PbType) → IsTree rows →
    IsNumbering root (addresses rows) → slice_get rows k ≡ Some row → AreBlocks root (addresses (take k rows)) blocks → slice_get blocks row.parent.0 ≡ Some p →
    IsSome (child_at p (hop_of row))
child_is_there root rows k row blocks p tree numbering at_k are is =
    let parent = has_parent root rows k row blocks tree at_k are in
    let says = row_says rows k row tree at_k in
    let found : IsSome (at root (step_to says.parent row.mode row.child row.instance)) =
    (numbering.exact (step_to says.parent row.mode row.child row.instance)).0 (has_at (addresses rows) (k + 1) (step_to says.parent row.mode row.child row.instance) says.is_child) in
    let same : says.parent ≡ parent.address = cc (says.is_parent, front_keeps rows k row.parent.0 parent.address parent.is_address) in
    let block : parent.block ≡ p = cc (is, parent.is_block) in
    let opened : at root (step_to says.parent row.mode row.child row.instance) ≡ child_at p (hop_of row) =
    at_step root says.parent (hop_of row) ∙ ap (λ a. option_and_then (λ b. child_at b (hop_of row)) (at root a)) same
    ∙ ap (option_and_then (λ b. child_at b (hop_of row))) parent.at_root ∙ ap (λ b. child_at b (hop_of row)) block in
    subst (λ o. IsSome o) opened found

-- one row more
pub blocks_push : (root : PbType) (rows : List Step) (k : ℕ) (row : Step) (blocks more : List PbType) (p kid : PbType) → IsTree rows →
    slice_get rows k ≡ Some row → AreBlocks root (addresses (take k rows)) blocks → slice_get blocks row.parent.0 ≡ Some p → child_at p (hop_of row) ≡ Some kid →
    more ≡ blocks ++ kid ∷ [] → AreBlocks root (addresses (take (k + 1) rows)) more
blocks_push root rows k row blocks more p kid tree at_k are is child e =
    let parent = has_parent root rows k row blocks tree at_k are in
    let before = addresses (take k rows) in
    let inside = slice_get_within rows k row at_k in
    let read : get_or rows k row ≡ row = get_or_from_slice_get rows k row row at_k in
    let longer : take (k + 1) rows ≡ take k rows ++ row ∷ [] = take_more rows k row inside ∙ ap (λ r. take k rows ++ r ∷ []) read in
    let here : get_or before row.parent.0 [] ≡ parent.address = get_or_from_slice_get before row.parent.0 parent.address [] parent.is_address in
    let grown : addresses (take (k + 1) rows) ≡ before ++ step_to parent.address row.mode row.child row.instance ∷ [] =
    ap addresses longer ∙ addresses-push (take k rows) row ∙ ap (λ a. before ++ step_to a row.mode row.child row.instance ∷ []) here in
    let block : parent.block ≡ p = cc (is, parent.is_block) in
    let opened : at root (step_to parent.address row.mode row.child row.instance) ≡ Some kid =
    at_step root parent.address (hop_of row) ∙ ap (option_and_then (λ b. child_at b (hop_of row))) parent.at_root ∙ ap (λ b. child_at b (hop_of row)) block ∙ child in
    record {
      each = λ n a at_n. by n a (get_either before (step_to parent.address row.mode row.child row.instance ∷ []) n a (subst (λ l. slice_get l n ≡ Some a) grown at_n)) opened;
      all = ap length e ∙ length-append blocks (kid ∷ []) ∙ omega (arith, are.all, ap length grown, length-append before (step_to parent.address row.mode row.child row.instance ∷ []));
    }
  where
    by_last : (n : ℕ) (a last : Address) (j : ℕ) → n ≡ length (addresses (take k rows)) + j → slice_get (last ∷ []) j ≡ Some a → at root last ≡ Some kid →
        (block : PbType) × (at root a ≡ Some block) × (slice_get more n ≡ Some block)
    by_last n a last zero place at_j opened =
        let same : last ≡ a = cc in
        (kid, ap (at root) (sym same) ∙ opened, ap (λ l. slice_get l n) e ∙ get_after blocks [] kid n (omega (arith, are.all)))
    by_last n a last (suc j) place at_j opened = absurd (cc)

    by : (n : ℕ) (a : Address) {last : Address} →
        (slice_get (addresses (take k rows)) n ≡ Some a) ⊎ ((j : ℕ) × (n ≡ length (addresses (take k rows)) + j) × (slice_get (last ∷ []) j ≡ Some a)) →
        at root last ≡ Some kid → (block : PbType) × (at root a ≡ Some block) × (slice_get more n ≡ Some block)
    by n a (inl old) opened =
        let was = are.each n a old in
        (was.0, was.1, ap (λ l. slice_get l n) e ∙ get_front blocks (kid ∷ []) n was.0 was.2)
    by n a {last = last} (inr h) opened = by_last n a last h.0 h.1 h.2 opened

-- a pb_type with few modes and ports
abbrev pub IsShort : PbType → Type 0
IsShort block = (length (modes_of block.kind) < 2 ^ 32) × (length block.ports < 2 ^ 32)

pub short_push : (blocks more : List PbType) (block : PbType) → AreShort blocks → IsShort block → more ≡ blocks ++ block ∷ [] → AreShort more
short_push blocks more block short fits e = record { each = λ n b at. by n b (get_either blocks (block ∷ []) n b (subst (λ l. slice_get l n ≡ Some b) e at)) }
  where
    by_last : (b : PbType) (j : ℕ) → slice_get (block ∷ []) j ≡ Some b → IsShort b
    by_last b zero at = let same : block ≡ b = cc in subst IsShort same fits
    by_last b (suc j) at = absurd (cc)

    by : (n : ℕ) (b : PbType) → (slice_get blocks n ≡ Some b) ⊎ ((j : ℕ) × (n ≡ length blocks + j) × (slice_get (block ∷ []) j ≡ Some b)) → IsShort b
    by n b (inl old) = short.each n b old
    by n b (inr h) = by_last b h.0 h.2
