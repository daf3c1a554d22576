-- How the steps to an instance are written.
use Rattle.std.proofs.Common.{◌≡◌, ◌<◌, ◌^◌, ℕ, Bool, true, false, nat_lt, if◌then◌else◌, List, [], ◌∷◌, ◌++◌, Option, Some, None, IsSome, slice_get, refl, sym, ap, subst, ◌∙◌, arith, append_assoc}
use Rattle.std.specs.Fmt.{decimal}
use Rattle.std.specs.List.{AllPass}
use Rattle.std.specs.Option.{option_map_or, option_and_then}
use Rattle.std.proofs.lemmas.Bool.Decides.{nat_tests}
use Rattle.arch_types.specs.declared.block.PbType.{PbType}
use Rattle.arch_types.specs.declared.block.Mode.{Mode}
use Rattle.arch_types.specs.Tree.{modes_of, kids_of, name_of_mode}
use Rattle.arch_types.specs.Address.{Address, Hop, at, child_at}
use Rattle.prog_text.specs.Names.{step_text, mode_text, steps_text}
use Rattle.prog_text.specs.Plain.{is_name_byte, IsName, IsWellNamed, HasPlainNames}
use Rattle.name_laws.proofs.Bytes.{all_imply, pass_none, pass_one, pass_both, name_decimal}

-- a hop to a child that is there: its mode, and its child in that
pub record Takes (block : PbType) (hop : Hop) : Type 0 where
  pub mode : Mode
  pub is_mode : slice_get (modes_of block.kind) hop.mode ≡ Some mode
  pub kid : PbType
  pub is_kid : slice_get (kids_of mode) hop.child ≡ Some kid
  pub counted : hop.instance < kid.count
  pub is : child_at block hop ≡ Some kid

takes : (block : PbType) (hop : Hop) → IsSome (child_at block hop) → Takes block hop
takes block hop there = by_mode (slice_get (modes_of block.kind) hop.mode) refl there
  where
    by_count : (mode : Mode) (kid : PbType) → slice_get (modes_of block.kind) hop.mode ≡ Some mode → slice_get (kids_of mode) hop.child ≡ Some kid →
        (b : Bool) → nat_lt hop.instance kid.count ≡ b → IsSome (if b then Some kid else None) → Takes block hop
    by_count mode kid is_mode is_kid true t some =
        let outer = ap (option_and_then (λ (m : Mode). option_and_then (λ (k : PbType). if nat_lt hop.instance k.count then Some k else None) (slice_get (kids_of m) hop.child))) is_mode in
        let within = ap (option_and_then (λ (k : PbType). if nat_lt hop.instance k.count then Some k else None)) is_kid in
        record {
          mode = mode;
          is_mode = is_mode;
          kid = kid;
          is_kid = is_kid;
          counted = grind (arith, nat_tests, t);
          is = outer ∙ within ∙ ap (λ b. if b then Some kid else None) t;
        }
    by_count mode kid is_mode is_kid false t some = cc

    by_kid : (mode : Mode) → slice_get (modes_of block.kind) hop.mode ≡ Some mode → (o : Option PbType) → slice_get (kids_of mode) hop.child ≡ o →
        IsSome (option_and_then (λ (k : PbType). if nat_lt hop.instance k.count then Some k else None) o) → Takes block hop
    by_kid mode is_mode None e some = cc
    by_kid mode is_mode (Some kid) e some = by_count mode kid is_mode e (nat_lt hop.instance kid.count) refl some

    by_mode : (o : Option Mode) → slice_get (modes_of block.kind) hop.mode ≡ o →
        IsSome (option_and_then (λ (m : Mode). option_and_then (λ (k : PbType). if nat_lt hop.instance k.count then Some k else None) (slice_get (kids_of m) hop.child)) o) → Takes block hop
    by_mode None e some = cc
    by_mode (Some mode) e some = by_kid mode e (slice_get (kids_of mode) hop.child) refl some

-- an instance at some steps has one at the first of them
pub opened : (p : PbType) (hop : Hop) (hops : Address) → IsSome (at p (hop ∷ hops)) → (kid : PbType) × (child_at p hop ≡ Some kid) × IsSome (at kid hops)
opened p hop hops there = by (child_at p hop) refl there
  where
    by : (o : Option PbType) → child_at p hop ≡ o → IsSome (option_and_then (λ kid. at kid hops) o) →
        (kid : PbType) × (child_at p hop ≡ Some kid) × IsSome (at kid hops)
    by None is some = absurd (cc)
    by (Some kid) is some = (kid, is, some)

-- the names below a child are plain, too
pub names_below : (root : PbType) (hop : Hop) (kid : PbType) → HasPlainNames root → child_at root hop ≡ Some kid → HasPlainNames kid
names_below root hop kid plain is a block there = plain (hop ∷ a) block (ap (option_and_then (λ k. at k a)) is ∙ there)

-- the step to a child, its mode's name and its instance
pub record StepIs (root : PbType) (hop : Hop) (kid : PbType) : Type 0 where
  pub mode : Mode
  pub is_mode : slice_get (modes_of root.kind) hop.mode ≡ Some mode
  pub is_kid : slice_get (kids_of mode) hop.child ≡ Some kid
  pub written : mode_text root hop.mode ≡ name_of_mode mode
  pub small : hop.instance < 2 ^ 32
  pub mode_name : IsName (mode_text root hop.mode)
  pub kid_name : IsName kid.name

pub step_of : (root : PbType) (hop : Hop) (kid : PbType) → HasPlainNames root → child_at root hop ≡ Some kid → StepIs root hop kid
step_of root hop kid plain is =
    let t : Takes root hop = takes root hop (subst (λ o. IsSome o) (sym is) refl) in
    let same : t.kid ≡ kid = by t.kid (sym t.is ∙ is) in
    let below : IsWellNamed kid = names_below root hop kid plain is [] kid refl in
    let count : t.kid.count < 2 ^ 32 = subst (λ k. k.count < 2 ^ 32) (sym same) below.count in
    let own : IsWellNamed root = plain [] root refl in
    let text : mode_text root hop.mode ≡ name_of_mode t.mode = ap (λ o. option_map_or name_of_mode o []) t.is_mode in
    record {
      mode = t.mode;
      is_mode = t.is_mode;
      is_kid = t.is_kid ∙ ap Some same;
      written = text;
      small = omega (arith, t.counted, count);
      mode_name = subst IsName (sym text) (own.modes.named hop.mode t.mode t.is_mode);
      kid_name = below.name;
    }
  where
    by : (k : PbType) → Some k ≡ Some kid → k ≡ kid
    by k e = cc

opened_step : (mode child : List ℕ) (n : ℕ) (rest : List ℕ) →
    step_text mode child n ++ rest ≡ 47 ∷ (mode ++ 58 ∷ (child ++ 91 ∷ (decimal n ++ 93 ∷ rest)))
opened_step mode child n rest = simp append_assoc

-- what is written of an address whose first step leads to a child
pub text_of_step : (root : PbType) (hop : Hop) (hops : Address) (kid : PbType) → child_at root hop ≡ Some kid →
    steps_text root (hop ∷ hops) ≡ 47 ∷ (mode_text root hop.mode ++ 58 ∷ (kid.name ++ 91 ∷ (decimal hop.instance ++ 93 ∷ steps_text kid hops)))
text_of_step root hop hops kid is =
    ap (λ o. option_map_or (λ (k : PbType). step_text (mode_text root hop.mode) k.name hop.instance ++ steps_text k hops) o []) is
    ∙ opened_step (mode_text root hop.mode) kid.name hop.instance (steps_text kid hops)

-- steps have the bytes of names, and the signs `/ : [ ]`
module _ (p : ℕ → Bool) (names : (x : ℕ) → is_name_byte x ≡ true → p x ≡ true) (slash : p 47 ≡ true) (colon : p 58 ≡ true) (opens : p 91 ≡ true) (closes : p 93 ≡ true) where
  pub pass_name : (name : List ℕ) → IsName name → AllPass p name
  pass_name name is = all_imply is_name_byte p name names is.whole

  pub pass_index : (n : ℕ) (rest : List ℕ) → n < 2 ^ 32 → AllPass p rest → AllPass p (91 ∷ (decimal n ++ 93 ∷ rest))
  pass_index n rest small passes =
      pass_one p 91 (decimal n ++ 93 ∷ rest) opens
      (pass_both p (decimal n) (93 ∷ rest) (all_imply is_name_byte p (decimal n) names (name_decimal n small)) (pass_one p 93 rest closes passes))

  pub pass_steps : (root : PbType) → HasPlainNames root → (a : Address) → IsSome (at root a) → AllPass p (steps_text root a)
  pass_steps root plain [] there = pass_none p
  pass_steps root plain (h ∷ a) there =
      let o = opened root h a there in
      let s : StepIs root h o.0 = step_of root h o.0 plain o.1 in
      let rest = pass_steps o.0 (names_below root h o.0 plain o.1) a o.2 in
      let index = 91 ∷ (decimal h.instance ++ 93 ∷ steps_text o.0 a) in
      subst (AllPass p) (sym (text_of_step root h a o.0 o.1))
      (pass_one p 47 (mode_text root h.mode ++ 58 ∷ (o.0.name ++ index)) slash
      (pass_both p (mode_text root h.mode) (58 ∷ (o.0.name ++ index)) (pass_name (mode_text root h.mode) s.mode_name)
      (pass_one p 58 (o.0.name ++ index) colon
      (pass_both p o.0.name index (pass_name o.0.name s.kid_name) (pass_index h.instance (steps_text o.0 a) s.small rest)))))
