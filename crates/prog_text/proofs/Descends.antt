-- An instance is found by walking down its text, and a pin by its instance, its port and its bit.
use Rattle.std.proofs.Common.{◌≡◌, ◌≢◌, ◌<◌, ◌^◌, ◌==◌, inl, inr, ℕ, true, false, not, min, List, [], ◌∷◌, ◌++◌, Option, Some, None, length, refl, sym, ap, subst, ◌∙◌, arith, append_assoc, append-nil}
use Rattle.std.specs.Prelude.{slice_get, IsSome, MatchOption}
use Rattle.std.specs.Str.Parse.{IsNumeral, digits_value}
use Rattle.std.specs.Option.{option_map_or, option_and_then}
use Rattle.std.specs.Fmt.{decimal}
use Rattle.std.proofs.lemmas.Fmt.{decimal_is_IsNumeral, decimal_injective}
use Rattle.std.proofs.lemmas.Option.{slice_get_within}
use Rattle.vtr_base.specs.Lists.{Has}
use Rattle.vtr_base.specs.Spans.{Lacks, IsCut}
use Rattle.arch_types.specs.declared.block.PbType.{PbType}
use Rattle.arch_types.specs.declared.block.Port.{Port}
use Rattle.arch_types.specs.declared.block.Mode.{Mode}
use Rattle.arch_types.specs.Tree.{modes_of, kids_of, name_of_mode}
use Rattle.arch_types.specs.Address.{Address, Hop, at, child_at, step_to}
use Rattle.arch_types.proofs.Numbered.{opened}
use Rattle.pb_expand.specs.declared.number.PinAt.{PinAt}
use Rattle.pb_expand.specs.declared.number.Step.{Step}
use Rattle.pb_expand.specs.declared.number.PbIx.{PbIx}
use Rattle.pb_expand.specs.declared.number.PinIx.{PinIx}
use Rattle.std.proofs.lemmas.List.{length-append, append_cancel_left}
use Rattle.std.proofs.lemmas.List.Elements.{All-nil}
use Rattle.std.proofs.lemmas.Bool.Decides.{nat_tests}
use Rattle.pb_expand.specs.Graph.{Graph, LeadsTo, block_at, mode_at, step_from, hop_of, pin_at}
use Rattle.pb_expand.specs.Expansion.{IsExpansion, IsPin}
use Rattle.pb_expand.proofs.Lists.{has_at, at_has, element, snoc_front, snoc_last}
use Rattle.pb_expand.proofs.Blocks.{block_below}
use Rattle.prog_map.proofs.Climbs.{some_injective}
use Rattle.prog_map.proofs.Instances.{ModeIs, mode_is_there}
use Rattle.prog_text.specs.Names.{mode_text, steps_text, instance_name, pin_name, pin_text, port_text, index_text, NamesInstance, NamesPin, NamesMode, NamesChild, NamesPort}
use Rattle.prog_text.specs.Plain.{IsWellNamed, HasPlainNames}
use Rattle.prog_text.specs.Steps.{IsIndexed, IsFirstStep, IsChildNamed, IsBelow}
use Rattle.prog_text.specs.Table.{IsHung}
use Rattle.prog_text.proofs.Divided.{one_cut, uncut}
use Rattle.prog_text.proofs.OneName.{name_lacks_58, name_lacks_91, decimal_lacks_93, text_of_step, StepIs, step_of, one_instance_named, one_mode, dot_instance}
use Rattle.prog_text.proofs.Sound.{names_below, PinIs, pin_is, pin_name_is}

tails : {X : Type 0} {x y : X} {xs ys : List X} → x ∷ xs ≡ y ∷ ys → xs ≡ ys
tails e = cc

-- a text begins with a name and a number in one way
pub one_indexed : (text m n : List ℕ) (i j : ℕ) (r s : List ℕ) → IsIndexed text m i r → IsIndexed text n j s → (m ≡ n) × (i ≡ j) × (r ≡ s)
one_indexed text m n i j r s a b =
    let first = one_cut 91 m n _ _ a.lacks b.lacks (sym a.spelled ∙ b.spelled) in
    let second = one_cut 93 (decimal i) (decimal j) r s (decimal_lacks_93 i a.small) (decimal_lacks_93 j b.small) first.1 in
    let fits_i : i < 2 ^ 64 = omega (arith, a.small) in
    let fits_j : j < 2 ^ 64 = omega (arith, b.small) in
    (first.0, decimal_injective i j fits_i fits_j second.0, second.1)

pub one_first_step : (text m n c d : List ℕ) (i j : ℕ) (r s : List ℕ) → IsFirstStep text m c i r → IsFirstStep text n d j s → (m ≡ n) × (c ≡ d) × (i ≡ j) × (r ≡ s)
one_first_step text m n c d i j r s a b =
    let first = one_cut 58 m n a.behind b.behind a.lacks b.lacks (tails (sym a.spelled ∙ b.spelled)) in
    let second = one_indexed a.behind c d i j r s a.indexed (subst (λ t. IsIndexed t d j s) (sym first.1) b.indexed) in
    (first.0, second.0, second.1, second.2)

-- nothing is answered where a part gave nothing
pub out_of : {X : Type 0} (N : Type 0) (P : X → Type 0) (r : Option X) → r ≡ None → N → MatchOption r N P
out_of N P r none n = subst (λ o. MatchOption o N P) (sym none) n

pub no_bracket : (text : List ℕ) → Lacks text 91 → (name : List ℕ) (i : ℕ) (rest : List ℕ) → IsIndexed text name i rest → ⊥
no_bracket text lacks name i rest is = uncut 91 text name _ lacks is.spelled

pub no_end : (text front behind : List ℕ) → IsCut text 91 front behind → Lacks behind 93 → (name : List ℕ) (i : ℕ) (rest : List ℕ) → IsIndexed text name i rest → ⊥
no_end text front behind cut lacks name i rest is =
    let same = one_cut 91 front name behind _ cut.lacks is.lacks (sym cut.spelled ∙ is.spelled) in
    uncut 93 behind (decimal i) rest lacks same.1

pub no_index : (text front behind digits more : List ℕ) → IsCut text 91 front behind → IsCut behind 93 digits more → ((n : ℕ) → n < 2 ^ 32 → digits ≡ decimal n → ⊥) →
    (name : List ℕ) (i : ℕ) (rest : List ℕ) → IsIndexed text name i rest → ⊥
no_index text front behind digits more cut end none name i rest is =
    let same = one_cut 91 front name behind _ cut.lacks is.lacks (sym cut.spelled ∙ is.spelled) in
    let inner = one_cut 93 digits (decimal i) more rest end.lacks (decimal_lacks_93 i is.small) (sym end.spelled ∙ same.1) in
    none i is.small inner.0

pub is_indexed : (text front behind digits more : List ℕ) (n : ℕ) → IsCut text 91 front behind → IsCut behind 93 digits more → digits ≡ decimal n → n < 2 ^ 32 →
    IsIndexed text front n more
is_indexed text front behind digits more n cut end is small = record {
  spelled = cut.spelled ∙ ap (λ t. front ++ 91 ∷ t) (end.spelled ∙ ap (λ d. d ++ 93 ∷ more) is);
  lacks = cut.lacks;
  small = small;
}

-- a text is empty by its test, or isn't
pub nil_by : {X : Type 0} (xs : List X) → true ≡ (length xs == 0) → xs ≡ []
nil_by [] e = refl
nil_by (x ∷ xs) e = absurd (grind (arith, nat_tests, e))

pub some_by : {X : Type 0} (xs : List X) → false ≡ (length xs == 0) → xs ≢ []
some_by [] e empty = cc
some_by (x ∷ xs) e empty = cc

-- what stands behind the slash, where the text begins with it
pub begun : (text before names : List ℕ) → IsCut text 47 before names → before ≡ [] → text ≡ 47 ∷ names
begun text before names cut empty = cut.spelled ∙ ap (λ b. b ++ 47 ∷ names) empty

pub no_slash : (text : List ℕ) → Lacks text 47 → (mode child : List ℕ) (i : ℕ) (rest : List ℕ) → IsFirstStep text mode child i rest → ⊥
no_slash text lacks mode child i rest is = uncut 47 text [] _ lacks is.spelled

pub late_slash : (text before names : List ℕ) → IsCut text 47 before names → before ≢ [] → (mode child : List ℕ) (i : ℕ) (rest : List ℕ) → IsFirstStep text mode child i rest → ⊥
late_slash text before names cut some mode child i rest is =
    some (one_cut 47 before [] names (mode ++ 58 ∷ is.behind) cut.lacks (All-nil (λ x. not (x == 47) ≡ true)) (sym cut.spelled ∙ is.spelled)).0

pub is_first_step : (text before names mode behind child : List ℕ) (i : ℕ) (rest : List ℕ) → IsCut text 47 before names → before ≡ [] → IsCut names 58 mode behind →
    IsIndexed behind child i rest → IsFirstStep text mode child i rest
is_first_step text before names mode behind child i rest cut empty colon indexed = record {
  behind = behind;
  spelled = begun text before names cut empty ∙ ap (λ t. 47 ∷ t) colon.spelled;
  lacks = colon.lacks;
  indexed = indexed;
}

pub rest_shorter : (text mode child : List ℕ) (i : ℕ) (rest : List ℕ) → IsFirstStep text mode child i rest → length rest < length text
rest_shorter text mode child i rest is =
    omega (arith, ap length is.spelled, length-append mode (58 ∷ is.behind), ap length is.indexed.spelled, length-append child (91 ∷ (decimal i ++ 93 ∷ rest)), length-append (decimal i) (93 ∷ rest))

pub no_colon : (text names : List ℕ) → text ≡ 47 ∷ names → Lacks names 58 → (mode child : List ℕ) (i : ℕ) (rest : List ℕ) → IsFirstStep text mode child i rest → ⊥
no_colon text names begins lacks mode child i rest is = uncut 58 names mode is.behind lacks (tails (sym begins ∙ is.spelled))

pub no_child : (text names front behind : List ℕ) → text ≡ 47 ∷ names → IsCut names 58 front behind →
    ((name : List ℕ) (i : ℕ) (rest : List ℕ) → IsIndexed behind name i rest → ⊥) → (mode child : List ℕ) (i : ℕ) (rest : List ℕ) → IsFirstStep text mode child i rest → ⊥
no_child text names front behind begins cut none mode child i rest is =
    let same = one_cut 58 front mode behind is.behind cut.lacks is.lacks (sym cut.spelled ∙ tails (sym begins ∙ is.spelled)) in
    none child i rest (subst (λ t. IsIndexed t child i rest) (sym same.1) is.indexed)

-- digits that a number is written with
pub no_numeral : (digits : List ℕ) → (IsNumeral 10 digits → ⊥) → (n : ℕ) → n < 2 ^ 32 → digits ≡ decimal n → ⊥
no_numeral digits none n small is =
    let fits : n < 2 ^ 64 = omega (arith, small) in
    none (subst (IsNumeral 10) (sym is) (decimal_is_IsNumeral n fits).0)

pub other_text : (digits text : List ℕ) (value : ℕ) → IsNumeral 10 digits × (value ≡ min (digits_value 10 digits) 4294967295) → text ≡ decimal value → (text ≡ digits → ⊥) →
    (n : ℕ) → n < 2 ^ 32 → digits ≡ decimal n → ⊥
other_text digits text value read written other n small is =
    let fits : n < 2 ^ 64 = omega (arith, small) in
    let whole : digits_value 10 digits ≡ n = ap (digits_value 10) is ∙ (decimal_is_IsNumeral n fits).1 in
    let same : value ≡ n = omega (arith, read.1, whole, small) in
    other (written ∙ ap decimal same ∙ sym is)

-- the pb_type below an address
at_more : (root : PbType) (a b : Address) → at root (a ++ b) ≡ option_and_then (λ k. at k b) (at root a)
at_more root [] b = refl
at_more root (h ∷ a) b = by (child_at root h) (λ k. at_more k a b)
  where
    by : (o : Option PbType) → ((k : PbType) → at k (a ++ b) ≡ option_and_then (λ q. at q b) (at k a)) →
        option_and_then (λ k. at k (a ++ b)) o ≡ option_and_then (λ q. at q b) (option_and_then (λ k. at k a) o)
    by None more = refl
    by (Some k) more = more k

plain_at : (root : PbType) → HasPlainNames root → (a : Address) (block : PbType) → at root a ≡ Some block → HasPlainNames block
plain_at root plain a block is b q there = plain (a ++ b) q (at_more root a b ∙ ap (option_and_then (λ k. at k b)) is ∙ there)

-- the next instance on the way down a text
pub record IsNext (g : Graph) (pb : ℕ) (text : List ℕ) (n : ℕ) : Type 0 where
  pub mode : List ℕ
  pub child : List ℕ
  pub instance : ℕ
  pub rest : List ℕ
  pub step : IsFirstStep text mode child instance rest
  pub kid : ℕ
  pub named : IsChildNamed g pb mode child instance kid
  pub below : IsBelow g kid rest n

module _ (g : Graph) (law : IsExpansion g) where
  -- an instance hangs on the one at the front of its address
  hangs_on : (pb n : ℕ) (a : Address) (hop : Hop) → IsHung g n → slice_get g.instances pb ≡ Some a → slice_get g.instances n ≡ Some (a ++ hop ∷ []) →
      LeadsTo g.instances (step_from pb hop.mode hop.child hop.instance) n
  hangs_on pb n a hop (inl root) above is =
      let first : slice_get g.instances n ≡ Some [] = ap (slice_get g.instances) root ∙ ap (λ l. slice_get l 0) law.instances in
      absurd (no_snoc a hop (some_injective (sym is ∙ first)))
    where
      no_snoc : {X : Type 0} (xs : List X) (x : X) → xs ++ x ∷ [] ≡ [] → ⊥
      no_snoc [] x e = cc
      no_snoc (y ∷ ys) x e = cc
  hangs_on pb n a hop (inr hung) above is =
      let s : Step = hung.0 in
      let to : LeadsTo g.instances s n = hung.1 in
      let whole : to.parent ++ hop_of s ∷ [] ≡ a ++ hop ∷ [] = some_injective (sym to.is_child ∙ is) in
      let front : to.parent ≡ a = snoc_front to.parent a (hop_of s) hop whole in
      let number : s.parent.0 ≡ pb = law.numbering.once s.parent.0 pb a (to.is_parent ∙ ap Some front) above in
      record { before = subst (λ k. k < n) number to.before; parent = a; is_parent = above; is_child = is }

  -- no step leads to the instance itself
  pub at_itself : (pb : ℕ) (text : List ℕ) → pb < length g.instances → text ≡ [] → IsBelow g pb text pb
  at_itself pb text inside empty =
      let a = element g.instances pb inside in
      let there : IsSome (at g.root a.0) = (law.numbering.exact a.0).0 (has_at g.instances pb a.0 a.1) in
      by a.0 a.1 (at g.root a.0) refl there
    where
      by : (a : Address) → slice_get g.instances pb ≡ Some a → (o : Option PbType) → at g.root a ≡ o → IsSome o → IsBelow g pb text pb
      by a is None e some = absurd (cc)
      by a is (Some block) e some = record {
        address = a;
        is_above = is;
        block = block;
        is_block = e;
        steps = [];
        is_below = is ∙ ap Some (sym (append-nil a));
        spelled = empty;
      }

  -- where an instance is below one, it is so below the child to which the first step leads
  pub one_step_up : (pb kid n : ℕ) (text mode child : List ℕ) (i : ℕ) (rest : List ℕ) → HasPlainNames g.root → IsFirstStep text mode child i rest →
      IsChildNamed g pb mode child i kid → IsBelow g kid rest n → IsBelow g pb text n
  one_step_up pb kid n text mode child i rest plain step named b =
      let m : ModeIs g pb named.in_mode = mode_is_there g pb named.in_mode (subst (λ o. IsSome o) (sym named.is_mode.there) refl) in
      let hop : Hop = record { mode = named.in_mode; child = named.place; instance = i } in
      let to = named.leads in
      let front : to.parent ≡ m.address = some_injective (sym to.is_parent ∙ m.is_instance) in
      let kid_at : b.address ≡ m.address ++ hop ∷ [] = some_injective (sym b.is_above ∙ to.is_child) ∙ ap (λ x. x ++ hop ∷ []) front in
      let is_pb : block_at g pb ≡ Some m.block = ap (option_and_then (λ x. at g.root x)) m.is_instance ∙ m.is_block in
      let is_kid : block_at g kid ≡ Some b.block = ap (option_and_then (λ x. at g.root x)) b.is_above ∙ b.is_block in
      let child_is : child_at m.block hop ≡ Some b.block = sym (block_below g (step_from pb named.in_mode named.place i) kid m.block to is_pb) ∙ is_kid in
      let s : StepIs m.block hop b.block = step_of m.block hop b.block (plain_at g.root plain m.address m.block m.is_block) child_is in
      let modes : named.is_mode.is ≡ s.mode = some_injective (sym named.is_mode.there ∙ m.mode_there ∙ sym m.there ∙ s.is_mode) in
      let ins : named.is_child.is_in ≡ s.mode = some_injective (sym named.is_child.there ∙ m.mode_there ∙ sym m.there ∙ s.is_mode) in
      let kids : named.is_child.is ≡ b.block =
      some_injective (sym named.is_child.is_child ∙ ap (λ x. slice_get (kids_of x) named.place) ins ∙ s.is_kid) in
      let mode_is : mode ≡ mode_text m.block named.in_mode = named.is_mode.spelled ∙ ap name_of_mode modes ∙ sym s.written in
      let child_named : child ≡ b.block.name = named.is_child.spelled ∙ ap (λ (x : PbType). x.name) kids in
      let written : (x y z : List ℕ) → List ℕ = λ x y z. 47 ∷ (x ++ 58 ∷ (y ++ 91 ∷ (decimal i ++ 93 ∷ z))) in
      let begins : text ≡ written mode child rest = step.spelled ∙ ap (λ t. 47 ∷ (mode ++ 58 ∷ t)) step.indexed.spelled in
      record {
        address = m.address;
        is_above = m.is_instance;
        block = m.block;
        is_block = m.is_block;
        steps = hop ∷ b.steps;
        is_below = b.is_below ∙ ap Some (ap (λ x. x ++ b.steps) kid_at ∙ append_assoc m.address (hop ∷ []) b.steps);
        spelled =
            begins ∙ ap (λ x. written x child rest) mode_is ∙ ap (λ x. written (mode_text m.block named.in_mode) x rest) child_named
            ∙ ap (λ x. written (mode_text m.block named.in_mode) b.block.name x) b.spelled ∙ sym (text_of_step m.block hop b.steps b.block child_is);
      }

  -- and the other way round
  pub one_step_down : (pb n : ℕ) (text : List ℕ) → HasPlainNames g.root → ((k : ℕ) → k < length g.instances → IsHung g k) → text ≢ [] → IsBelow g pb text n → IsNext g pb text n
  one_step_down pb n text plain hung some b = by b.steps b.is_below b.spelled
    where
      by : (steps : Address) → slice_get g.instances n ≡ Some (b.address ++ steps) → text ≡ steps_text b.block steps → IsNext g pb text n
      by [] is_below spelled = absurd (some spelled)
      by (hop ∷ hops) is_below spelled =
          let there : IsSome (at g.root (b.address ++ hop ∷ hops)) = (law.numbering.exact (b.address ++ hop ∷ hops)).0 (has_at g.instances n (b.address ++ hop ∷ hops) is_below) in
          let inner : IsSome (at b.block (hop ∷ hops)) =
          subst (λ o. IsSome o) (at_more g.root b.address (hop ∷ hops) ∙ ap (option_and_then (λ k. at k (hop ∷ hops))) b.is_block) there in
          let o = opened b.block hop hops inner in
          let own = plain_at g.root plain b.address b.block b.is_block in
          let s : StepIs b.block hop o.0 = step_of b.block hop o.0 own o.1 in
          let below : HasPlainNames o.0 = names_below b.block hop o.0 own o.1 in
          let here : at g.root (b.address ++ hop ∷ []) ≡ Some o.0 =
          at_more g.root b.address (hop ∷ []) ∙ ap (option_and_then (λ k. at k (hop ∷ []))) b.is_block ∙ ap (option_and_then (λ k. at k [])) o.1 in
          let found = at_has g.instances (b.address ++ hop ∷ []) ((law.numbering.exact (b.address ++ hop ∷ [])).1 (subst (λ x. IsSome x) (sym here) refl)) in
          let inside : found.0 < length g.instances = slice_get_within g.instances found.0 (b.address ++ hop ∷ []) found.1 in
          let is_pb : block_at g pb ≡ Some b.block = ap (option_and_then (λ x. at g.root x)) b.is_above ∙ b.is_block in
          let mode_is : mode_at g pb hop.mode ≡ Some s.mode = ap (option_and_then (λ (x : PbType). slice_get (modes_of x.kind) hop.mode)) is_pb ∙ s.is_mode in
          let well : IsWellNamed b.block = own [] b.block refl in
          record {
            mode = name_of_mode s.mode;
            child = o.0.name;
            instance = hop.instance;
            rest = steps_text o.0 hops;
            step = record {
              behind = o.0.name ++ 91 ∷ (decimal hop.instance ++ 93 ∷ steps_text o.0 hops);
              spelled =
                  spelled ∙ text_of_step b.block hop hops o.0 o.1
                  ∙ ap (λ x. 47 ∷ (x ++ 58 ∷ (o.0.name ++ 91 ∷ (decimal hop.instance ++ 93 ∷ steps_text o.0 hops)))) s.written;
              lacks = name_lacks_58 (name_of_mode s.mode) (well.modes.named hop.mode s.mode s.is_mode);
              indexed = record { spelled = refl; lacks = name_lacks_91 o.0.name (below [] o.0 refl).name; small = s.small };
            };
            kid = found.0;
            named = record {
              in_mode = hop.mode;
              is_mode = record { is = s.mode; there = mode_is; spelled = refl };
              place = hop.child;
              is_child = record { is_in = s.mode; there = mode_is; is = o.0; is_child = s.is_kid; spelled = refl };
              leads = hangs_on pb found.0 b.address hop (hung found.0 inside) b.is_above found.1;
            };
            below = record {
              address = b.address ++ hop ∷ [];
              is_above = found.1;
              block = o.0;
              is_block = here;
              steps = hops;
              is_below = is_below ∙ ap Some (sym (append_assoc b.address (hop ∷ []) hops));
              spelled = refl;
            };
          }

  -- one child has a name
  pub one_child : (pb mode : ℕ) (text : List ℕ) (c d : ℕ) → HasPlainNames g.root → NamesChild g pb mode text c → NamesChild g pb mode text d → c ≡ d
  one_child pb mode text c d plain a b =
      let m : ModeIs g pb mode = mode_is_there g pb mode (subst (λ o. IsSome o) (sym a.there) refl) in
      let in_a : a.is_in ≡ m.is = some_injective (sym a.there ∙ m.mode_there) in
      let in_b : b.is_in ≡ m.is = some_injective (sym b.there ∙ m.mode_there) in
      (plain m.address m.block m.is_block).kids mode m.is m.there c d a.is b.is (ap (λ x. slice_get (kids_of x) c) (sym in_a) ∙ a.is_child)
      (ap (λ x. slice_get (kids_of x) d) (sym in_b) ∙ b.is_child) (sym a.spelled ∙ b.spelled)

  pub one_port : (pb : ℕ) (text : List ℕ) (p q : ℕ) → HasPlainNames g.root → NamesPort g pb text p → NamesPort g pb text q → pb < length g.instances → p ≡ q
  one_port pb text p q plain a b inside =
      let e = element g.instances pb inside in
      let is_a : at g.root e.0 ≡ Some a.block = sym (ap (option_and_then (λ x. at g.root x)) e.1) ∙ a.is_block in
      let same : b.block ≡ a.block = some_injective (sym b.is_block ∙ a.is_block) in
      (plain e.0 a.block is_a).ports.differ p q a.is b.is a.there (ap (λ (x : PbType). slice_get x.ports q) (sym same) ∙ b.there) (sym a.spelled ∙ b.spelled)

  pub one_child_named : (pb : ℕ) (mode child : List ℕ) (i n m : ℕ) → HasPlainNames g.root → IsChildNamed g pb mode child i n → IsChildNamed g pb mode child i m → n ≡ m
  one_child_named pb mode child i n m plain a b =
      let modes : b.in_mode ≡ a.in_mode = one_mode g plain pb mode b.in_mode a.in_mode b.is_mode a.is_mode in
      let children : b.place ≡ a.place = one_child pb a.in_mode child b.place a.place plain (subst (λ k. NamesChild g pb k child b.place) modes b.is_child) a.is_child in
      let front : b.leads.parent ≡ a.leads.parent = some_injective (sym b.leads.is_parent ∙ a.leads.is_parent) in
      let same : step_to b.leads.parent b.in_mode b.place i ≡ step_to a.leads.parent a.in_mode a.place i =
      ap (λ x. step_to x b.in_mode b.place i) front ∙ ap (λ x. step_to a.leads.parent x b.place i) modes ∙ ap (λ x. step_to a.leads.parent a.in_mode x i) children in
      law.numbering.once n m (step_to a.leads.parent a.in_mode a.place i) a.leads.is_child (b.leads.is_child ∙ ap Some same)

  -- the child to which a step leads
  pub kid_inside : (pb : ℕ) (mode child : List ℕ) (i n : ℕ) → IsChildNamed g pb mode child i n → n < length g.instances
  kid_inside pb mode child i n is = slice_get_within g.instances n _ is.leads.is_child

  pub no_child_named : (pb k : ℕ) (mode child : List ℕ) (i : ℕ) → HasPlainNames g.root → NamesMode g pb mode k → ((c : ℕ) → NamesChild g pb k child c → ⊥) →
      (n : ℕ) → IsChildNamed g pb mode child i n → ⊥
  no_child_named pb k mode child i plain named none n is =
      let modes : is.in_mode ≡ k = one_mode g plain pb mode is.in_mode k is.is_mode named in
      none is.place (subst (λ m. NamesChild g pb m child is.place) modes is.is_child)

  pub kid_looked_up : (pb k c : ℕ) (mode child : List ℕ) (i : ℕ) → HasPlainNames g.root → NamesMode g pb mode k → NamesChild g pb k child c → (r : Option PbIx) →
      MatchOption r ((n : ℕ) → LeadsTo g.instances (step_from pb k c i) n → ⊥) (λ n. LeadsTo g.instances (step_from pb k c i) n.0) →
      MatchOption r ((n : ℕ) → IsChildNamed g pb mode child i n → ⊥) (λ n. IsChildNamed g pb mode child i n.0)
  kid_looked_up pb k c mode child i plain named in_mode None none = λ n is.
      let modes : is.in_mode ≡ k = one_mode g plain pb mode is.in_mode k is.is_mode named in
      let children : is.place ≡ c = one_child pb k child is.place c plain (subst (λ m. NamesChild g pb m child is.place) modes is.is_child) in_mode in
      none n (subst (λ m. LeadsTo g.instances (step_from pb m c i) n) modes (subst (λ p. LeadsTo g.instances (step_from pb is.in_mode p i) n) children is.leads))
  kid_looked_up pb k c mode child i plain named in_mode (Some n) leads = record { in_mode = k; is_mode = named; place = c; is_child = in_mode; leads = leads }

  module _ (plain : HasPlainNames g.root) (hung : (k : ℕ) → k < length g.instances → IsHung g k) (pb : ℕ) (text : List ℕ) (some : text ≢ []) where
    pub no_step_down : ((mode child : List ℕ) (i : ℕ) (rest : List ℕ) → IsFirstStep text mode child i rest → ⊥) → (n : ℕ) → IsBelow g pb text n → ⊥
    no_step_down none n b =
        let next : IsNext g pb text n = one_step_down pb n text plain hung some b in none next.mode next.child next.instance next.rest next.step

    module _ (mode child : List ℕ) (i : ℕ) (rest : List ℕ) (step : IsFirstStep text mode child i rest) where
      named_so : (n : ℕ) (next : IsNext g pb text n) → IsChildNamed g pb mode child i next.kid × (next.rest ≡ rest)
      named_so n next =
          let same = one_first_step text next.mode mode next.child child next.instance i next.rest rest next.step step in (
            subst (λ x. IsChildNamed g pb x child i next.kid) same.0
                (subst (λ x. IsChildNamed g pb next.mode x i next.kid) same.1 (subst (λ x. IsChildNamed g pb next.mode next.child x next.kid) same.2 next.named)),
            same.3,
          )

      pub no_kid_down : ((k : ℕ) → IsChildNamed g pb mode child i k → ⊥) → (n : ℕ) → IsBelow g pb text n → ⊥
      no_kid_down none n b =
          let next : IsNext g pb text n = one_step_down pb n text plain hung some b in none next.kid (named_so n next).0

      pub below_looked_up : (kid : ℕ) → IsChildNamed g pb mode child i kid → (r : Option PbIx) →
          MatchOption r ((n : ℕ) → IsBelow g kid rest n → ⊥) (λ n. IsBelow g kid rest n.0) → MatchOption r ((n : ℕ) → IsBelow g pb text n → ⊥) (λ n. IsBelow g pb text n.0)
      below_looked_up kid named None none = λ n b.
          let next : IsNext g pb text n = one_step_down pb n text plain hung some b in
          let so = named_so n next in
          let kids : next.kid ≡ kid = one_child_named pb mode child i next.kid kid plain so.0 named in
          none n (subst (λ x. IsBelow g kid x n) so.1 (subst (λ k. IsBelow g k next.rest n) kids next.below))
      below_looked_up kid named (Some n) b = one_step_up pb kid n.0 text mode child i rest plain step named b

-- what is written behind the block type's name
pub below_root : (g : Graph) (text rest : List ℕ) (n : ℕ) → IsExpansion g → text ≡ g.root.name ++ rest → IsBelow g 0 rest n → NamesInstance g text n
below_root g text rest n law is b =
    let first : slice_get g.instances 0 ≡ Some [] = ap (λ l. slice_get l 0) law.instances in
    let root : b.address ≡ [] = some_injective (sym b.is_above ∙ first) in
    let there : slice_get g.instances n ≡ Some b.steps = b.is_below ∙ ap (λ a. Some (a ++ b.steps)) root in
    let block : b.block ≡ g.root = some_injective (sym b.is_block ∙ ap (at g.root) root) in
    record {
      there = slice_get_within g.instances n b.steps there;
      spelled =
          is ∙ ap (λ t. g.root.name ++ t) (b.spelled ∙ ap (λ q. steps_text q b.steps) block)
          ∙ sym (ap (λ o. option_map_or (λ (a : Address). g.root.name ++ steps_text g.root a) o []) there);
    }

pub root_below : (g : Graph) (text : List ℕ) (n : ℕ) → IsExpansion g → NamesInstance g text n → (rest : List ℕ) × (text ≡ g.root.name ++ rest) × IsBelow g 0 rest n
root_below g text n law names =
    let a = element g.instances n names.there in
    let is : text ≡ g.root.name ++ steps_text g.root a.0 =
    names.spelled ∙ ap (λ o. option_map_or (λ (x : Address). g.root.name ++ steps_text g.root x) o []) a.1 in (
      steps_text g.root a.0,
      is,
      record {
        address = [];
        is_above = ap (λ l. slice_get l 0) law.instances;
        block = g.root;
        is_block = refl;
        steps = a.0;
        is_below = a.1;
        spelled = refl;
      },
    )

pub root_looked_up : (g : Graph) (text rest : List ℕ) → IsExpansion g → text ≡ g.root.name ++ rest → (r : Option PbIx) →
    MatchOption r ((n : ℕ) → IsBelow g 0 rest n → ⊥) (λ n. IsBelow g 0 rest n.0) → MatchOption r ((n : ℕ) → NamesInstance g text n → ⊥) (λ n. NamesInstance g text n.0)
root_looked_up g text rest law is None none = λ n names.
    let b = root_below g text n law names in
    none n (subst (λ t. IsBelow g 0 t n) (append_cancel_left g.root.name b.0 rest (sym b.1 ∙ is)) b.2)
root_looked_up g text rest law is (Some n) b = below_root g text rest n.0 law is b

-- the parts of a pin's text
pub record HasParts (g : Graph) (front behind : List ℕ) (n : ℕ) : Type 0 where
  pub pb : ℕ
  pub instance : NamesInstance g front pb
  pub name : List ℕ
  pub bit : ℕ
  pub indexed : IsIndexed behind name bit []
  pub port : ℕ
  pub is_port : NamesPort g pb name port
  pub there : slice_get g.pins n ≡ Some (pin_at pb port bit)

module _ (g : Graph) (law : IsExpansion g) (plain : HasPlainNames g.root) where
  pub parts_of : (text front behind : List ℕ) (n : ℕ) → IsCut text 46 front behind → NamesPin g text n → HasParts g front behind n
  parts_of text front behind n is names =
      let p : PinIs g n = pin_is g n law names.there in
      let ports = (plain p.address p.block p.is_block).ports in
      let narrow = ports.narrow p.pin.port p.port p.is_port in
      let cut = one_cut 46 front (instance_name g p.pin.pb.0) behind _ is.lacks (dot_instance g law plain p.pin.pb.0 p.inside) (sym is.spelled ∙ names.spelled ∙ pin_name_is g n p) in
      record {
        pb = p.pin.pb.0;
        instance = record { there = p.inside; spelled = cut.0 };
        name = p.port.name;
        bit = p.pin.bit;
        indexed = record {
          spelled = cut.1;
          lacks = name_lacks_91 p.port.name (ports.named p.pin.port p.port p.is_port);
          small = omega (arith, p.is_bit, narrow);
        };
        port = p.pin.port;
        is_port = record {
          block = p.block;
          is_block = ap (option_and_then (λ (a : Address). at g.root a)) p.is_instance ∙ p.is_block;
          is = p.port;
          there = p.is_port;
          spelled = refl;
        };
        there = p.there;
      }

  pub no_dot : (text : List ℕ) (n : ℕ) → Lacks text 46 → NamesPin g text n → ⊥
  no_dot text n lacks names =
      let p : PinIs g n = pin_is g n law names.there in
      uncut 46 text (instance_name g p.pin.pb.0) _ lacks (names.spelled ∙ pin_name_is g n p)

  -- the parts that were found are those of the pin
  pub no_such_port : (front behind rest name : List ℕ) (pb bit n : ℕ) → NamesInstance g front pb → IsIndexed behind name bit rest → HasParts g front behind n →
      ((port : ℕ) → NamesPort g pb name port → ⊥) → ⊥
  no_such_port front behind rest name pb bit n instance indexed parts none =
      let same = one_indexed behind parts.name name parts.bit bit [] rest parts.indexed indexed in
      let pbs : parts.pb ≡ pb = one_instance_named g law plain front parts.pb pb parts.instance instance in
      none parts.port (subst (λ k. NamesPort g k name parts.port) pbs (subst (λ t. NamesPort g parts.pb t parts.port) same.0 parts.is_port))

  pub no_such_pin : (front behind rest name : List ℕ) (pb port bit n : ℕ) → NamesInstance g front pb → IsIndexed behind name bit rest → NamesPort g pb name port →
      HasParts g front behind n → (IsPin g pb port bit → ⊥) → ⊥
  no_such_pin front behind rest name pb port bit n instance indexed is_port parts none =
      let same = one_indexed behind parts.name name parts.bit bit [] rest parts.indexed indexed in
      let pbs : parts.pb ≡ pb = one_instance_named g law plain front parts.pb pb parts.instance instance in
      let named : NamesPort g pb name parts.port = subst (λ k. NamesPort g k name parts.port) pbs (subst (λ t. NamesPort g parts.pb t parts.port) same.0 parts.is_port) in
      let ports : parts.port ≡ port = one_port g law pb name parts.port port plain named is_port instance.there in
      let pin : pin_at parts.pb parts.port parts.bit ≡ pin_at pb port bit =
      ap (λ x. pin_at x parts.port parts.bit) pbs ∙ ap (λ x. pin_at pb x parts.bit) ports ∙ ap (λ x. pin_at pb port x) same.1 in
      none ((law.has_pins.exact pb port bit).0 (has_at g.pins n (pin_at pb port bit) (parts.there ∙ ap Some pin)))

-- the parts spell the pin
pub pin_spelled : (g : Graph) (text front behind rest name : List ℕ) (pb port bit n : ℕ) → IsCut text 46 front behind → NamesInstance g front pb → IsIndexed behind name bit rest →
    rest ≡ [] → NamesPort g pb name port → slice_get g.pins n ≡ Some (pin_at pb port bit) → NamesPin g text n
pin_spelled g text front behind rest name pb port bit n is instance indexed ended is_port there =
    let port_is : port_text g (pin_at pb port bit) ≡ name =
    ap (λ o. option_map_or (λ (p : Port). p.name) (option_and_then (λ (b : PbType). slice_get b.ports port) o) []) is_port.is_block
    ∙ ap (λ o. option_map_or (λ (p : Port). p.name) o []) is_port.there ∙ sym is_port.spelled in
    let tail : behind ≡ name ++ index_text bit = indexed.spelled ∙ ap (λ r. name ++ 91 ∷ (decimal bit ++ 93 ∷ r)) ended in
    record {
      there = slice_get_within g.pins n (pin_at pb port bit) there;
      spelled =
          is.spelled ∙ ap (λ f. f ++ 46 ∷ behind) instance.spelled ∙ ap (λ t. instance_name g pb ++ 46 ∷ t) tail
          ∙ ap (λ t. instance_name g pb ++ 46 ∷ (t ++ index_text bit)) (sym port_is) ∙ sym (ap (λ o. option_map_or (pin_text g) o []) there);
    }

module _ (g : Graph) (law : IsExpansion g) (plain : HasPlainNames g.root) where
  pub no_instance_named : (text front behind : List ℕ) → IsCut text 46 front behind → ((pb : ℕ) → NamesInstance g front pb → ⊥) → (n : ℕ) → NamesPin g text n → ⊥
  no_instance_named text front behind cut none n names = let p = parts_of g law plain text front behind n cut names in none p.pb p.instance

  pub no_index_behind : (text front behind : List ℕ) → IsCut text 46 front behind → ((name : List ℕ) (i : ℕ) (rest : List ℕ) → IsIndexed behind name i rest → ⊥) →
      (n : ℕ) → NamesPin g text n → ⊥
  no_index_behind text front behind cut none n names = let p = parts_of g law plain text front behind n cut names in none p.name p.bit [] p.indexed

  pub more_behind : (text front behind name : List ℕ) (bit : ℕ) (rest : List ℕ) → IsCut text 46 front behind → IsIndexed behind name bit rest → rest ≢ [] →
      (n : ℕ) → NamesPin g text n → ⊥
  more_behind text front behind name bit rest cut indexed some n names =
      let p = parts_of g law plain text front behind n cut names in
      some (sym (one_indexed behind p.name name p.bit bit [] rest p.indexed indexed).2)

  pub no_port_named : (text front behind rest name : List ℕ) (pb bit : ℕ) → IsCut text 46 front behind → NamesInstance g front pb → IsIndexed behind name bit rest →
      ((port : ℕ) → NamesPort g pb name port → ⊥) → (n : ℕ) → NamesPin g text n → ⊥
  no_port_named text front behind rest name pb bit cut instance indexed none n names =
      no_such_port g law plain front behind rest name pb bit n instance indexed (parts_of g law plain text front behind n cut names) none

  pub pin_looked_up : (text front behind rest name : List ℕ) (pb port bit : ℕ) → IsCut text 46 front behind → NamesInstance g front pb → IsIndexed behind name bit rest →
      rest ≡ [] → NamesPort g pb name port → (r : Option PinIx) → MatchOption r (IsPin g pb port bit → ⊥) (λ n. slice_get g.pins n.0 ≡ Some (pin_at pb port bit)) →
      MatchOption r ((n : ℕ) → NamesPin g text n → ⊥) (λ n. NamesPin g text n.0)
  pin_looked_up text front behind rest name pb port bit cut instance indexed ended is_port None none = λ n names.
      no_such_pin g law plain front behind rest name pb port bit n instance indexed is_port (parts_of g law plain text front behind n cut names) none
  pin_looked_up text front behind rest name pb port bit cut instance indexed ended is_port (Some n) there =
      pin_spelled g text front behind rest name pb port bit n.0 cut instance indexed ended is_port there
