-- The names in the block types of an architecture are plain.
use Rattle.std.proofs.Common.{◌≡◌, ◌<◌, ◌^◌, ◌==◌, ◌||◌, ◌⊎◌, inl, inr, ℕ, Bool, true, false, not, List, [], Some, refl, sym, ap, ◌∙◌, arith, map, length, get_or, slice_get}
use Rattle.std.specs.Prelude.{IsUtf8}
use Rattle.std.specs.Option.{option_map}
use Rattle.std.proofs.lemmas.Bool.{cases_order}
use Rattle.std.proofs.lemmas.List.{length-map}
use Rattle.std.proofs.lemmas.Option.{slice_get-map, slice_get_within, get_or_from_slice_get}
use Rattle.vtr_base.specs.Spans.{is_white}
use Rattle.arch_types.specs.declared.arch.ArchParts.{ArchParts}
use Rattle.arch_types.specs.declared.block.PbType.{PbType}
use Rattle.arch_types.specs.declared.block.Mode.{Mode}
use Rattle.arch_types.specs.declared.block.Port.{Port}
use Rattle.arch_types.specs.Tree.{modes_of, kids_of, name_of_mode}
use Rattle.arch_types.specs.Names.{is_plain, IsPlainName, AreDifferent}
use Rattle.arch_types.specs.Blocks.{IsPort, ArePorts, IsMode, IsPbType, IsBlockType}
use Rattle.arch_types.specs.WellFormed.{IsWellFormed}
use Rattle.arch_types.proofs.Uses.{all_get, own_of, instance_of, modes_kept}
use Rattle.prog_text.specs.Plain.{is_name_byte, IsName, ArePortsNamed, AreModesNamed, IsWellNamed, HasPlainNames}

-- what is forbidden in a plain name is more
fewer : (w a b c d e more : Bool) → not (w || (a || (b || (c || (d || (e || more)))))) ≡ true → not (w || (a || (b || (c || (d || e))))) ≡ true
fewer true a b c d e more plain = plain
fewer false true b c d e more plain = plain
fewer false false true c d e more plain = plain
fewer false false false true d e more plain = plain
fewer false false false false true e more plain = plain
fewer false false false false false true more plain = plain
fewer false false false false false false more plain = refl

name_byte : (b : ℕ) → is_plain b ≡ true → is_name_byte b ≡ true
name_byte b plain =
    fewer (is_white b) (b == 47) (b == 58) (b == 46) (b == 91) (b == 93)
    ((b == 123) || ((b == 125) || ((b == 61) || ((b == 35) || ((b == 44) || ((b == 92) || (b == 34))))))) plain

is_name : (name : List ℕ) → IsPlainName name → IsUtf8 name → IsName name
is_name name plain utf8 = record {
  some = plain.some;
  utf8 = utf8;
  whole = λ k d within. name_byte (get_or name k d) (plain.plain k d within);
}

module _ {X : Type 0} (f : X → List ℕ) (xs : List X) (different : AreDifferent (map f xs)) where
  at_place : (i : ℕ) (x : X) → slice_get xs i ≡ Some x → get_or (map f xs) i [] ≡ f x
  at_place i x at_i = get_or_from_slice_get (map f xs) i (f x) [] (slice_get-map f xs i ∙ ap (option_map f) at_i)

  before : (i j : ℕ) (x y : X) → i < j → slice_get xs i ≡ Some x → slice_get xs j ≡ Some y → f x ≡ f y → ⊥
  before i j x y lt at_i at_j same =
      let within : j < length (map f xs) = omega (arith, slice_get_within xs j y at_j, length-map xs f) in
      different i j [] lt within (at_place i x at_i ∙ same ∙ sym (at_place j y at_j))

  -- a name stands at one place
  differ : (i j : ℕ) (x y : X) → slice_get xs i ≡ Some x → slice_get xs j ≡ Some y → f x ≡ f y → i ≡ j
  differ i j x y at_i at_j same = by (cases_order i j)
    where
      by : (i ≡ j) ⊎ ((i < j) ⊎ (j < i)) → i ≡ j
      by (inl is) = is
      by (inr (inl lt)) = absurd (before i j x y lt at_i at_j same)
      by (inr (inr lt)) = absurd (before j i y x lt at_j at_i (sym same))

ports_named : (ports : List Port) → ArePorts ports → ArePortsNamed ports
ports_named ports are = record {
  named = λ i p at_i. let is = all_get IsPort ports i p are.each at_i in is_name p.name is.name is.utf8;
  narrow = λ i p at_i. let is = all_get IsPort ports i p are.each at_i in let few = is.width.few in omega arith;
  differ = differ (λ p. p.name) ports are.different;
}

well_named : (models : ℕ) (p : PbType) → IsPbType models p → IsWellNamed p
well_named models p is =
    let modes = modes_of p.kind in
    let kept = modes_kept models p.name p.ports p.kind is.kind in
    record {
      name = is_name p.name is.name is.utf8;
      count = let few = is.count.few in omega arith;
      modes = record {
        named = λ i m at_i. let is_mode = all_get (IsMode p.name) modes i m kept.each at_i in is_name (name_of_mode m) is_mode.name is_mode.utf8;
        differ = differ name_of_mode modes kept.different;
      };
      kids = λ i m at_i. differ (λ b. b.name) (kids_of m) (all_get (IsMode p.name) modes i m kept.each at_i).different;
      ports = ports_named p.ports is.ports;
    }

pub plain_names : (a : ArchParts) → IsWellFormed a → (n : ℕ) (root : PbType) → slice_get a.blocks n ≡ Some root → HasPlainNames root
plain_names a well n root at_n address p at_p =
    let models = length a.models in
    let is = all_get (IsBlockType models) a.blocks n root well.blocks.each at_n in
    well_named models p (own_of models p (instance_of models address root p is.tree at_p))
