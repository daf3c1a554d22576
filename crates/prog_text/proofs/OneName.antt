-- No two instances and no two pins are written alike, where the names are plain.
use Rattle.std.proofs.Common.{◌≡◌, ◌<◌, ◌^◌, ◌==◌, ℕ, true, not, List, [], ◌∷◌, ◌++◌, Some, IsSome, length, refl, sym, ap, subst, ◌∙◌, arith, append_assoc}
use Rattle.std.specs.Prelude.{slice_get}
use Rattle.std.specs.Char.{digit_value}
use Rattle.std.specs.Int.{IsInRange}
use Rattle.std.specs.Fmt.{decimal}
use Rattle.std.specs.Str.Parse.{AllDigits}
use Rattle.std.specs.Option.{option_map_or}
use Rattle.std.proofs.lemmas.Fmt.{decimal_is_IsNumeral, decimal_injective}
use Rattle.std.proofs.lemmas.Str.Parse.{digit_from_value}
use Rattle.std.proofs.lemmas.List.{append_cancel_left}
use Rattle.std.proofs.lemmas.List.Elements.{All-append, All-cons, All-nil}
use Rattle.std.proofs.lemmas.Bool.Decides.{nat_tests}
use Rattle.vtr_base.specs.Spans.{Lacks}
use Rattle.arch_types.specs.declared.block.PbType.{PbType}
use Rattle.arch_types.specs.declared.block.Mode.{Mode}
use Rattle.arch_types.specs.Tree.{modes_of, kids_of, name_of_mode}
use Rattle.arch_types.specs.Address.{Address, Hop, at, child_at}
use Rattle.arch_types.proofs.Numbered.{opened}
use Rattle.pb_expand.specs.declared.number.PinAt.{PinAt}
use Rattle.pb_expand.specs.Graph.{Graph, pin_at}
use Rattle.pb_expand.specs.Expansion.{IsExpansion}
use Rattle.pb_expand.proofs.Lists.{has_at, element}
use Rattle.pb_expand.proofs.Blocks.{Takes, takes}
use Rattle.prog_text.specs.Names.{step_text, mode_text, steps_text, instance_name, pin_name, NamesInstance, NamesPin, NamesMode}
use Rattle.prog_text.specs.Plain.{is_name_byte, IsName, IsWellNamed, HasPlainNames}
use Rattle.prog_map.proofs.Climbs.{some_injective}
use Rattle.prog_text.proofs.Divided.{one_cut}
use Rattle.prog_text.proofs.Sound.{all_imply, names_below, PinIs, pin_is, pin_name_is}
use Rattle.prog_map.proofs.Instances.{ModeIs, mode_is_there}

pub name_lacks_58 : (name : List ℕ) → IsName name → Lacks name 58
name_lacks_58 name is = all_imply is_name_byte (λ x. not (x == 58)) name (λ x e. by x e) is.whole
  where
    by : (x : ℕ) → is_name_byte x ≡ true → not (x == 58) ≡ true
    by x e = grind (arith, nat_tests)

pub name_lacks_91 : (name : List ℕ) → IsName name → Lacks name 91
name_lacks_91 name is = all_imply is_name_byte (λ x. not (x == 91)) name (λ x e. by x e) is.whole
  where
    by : (x : ℕ) → is_name_byte x ≡ true → not (x == 91) ≡ true
    by x e = grind (arith, nat_tests)

name_lacks_46 : (name : List ℕ) → IsName name → Lacks name 46
name_lacks_46 name is = all_imply is_name_byte (λ x. not (x == 46)) name (λ x e. by x e) is.whole
  where
    by : (x : ℕ) → is_name_byte x ≡ true → not (x == 46) ≡ true
    by x e = grind (arith, nat_tests)

digits_lack : (s : ℕ) → ((b : ℕ) → digit_value b < 10 → not (b == s) ≡ true) → (ds : List ℕ) → AllDigits 10 ds → Lacks ds s
digits_lack s none [] all = All-nil (λ x. not (x == s) ≡ true)
digits_lack s none (d ∷ ds) all = All-cons (λ x. not (x == s) ≡ true) d ds (none d all.0) (digits_lack s none ds all.1)

pub decimal_lacks_93 : (n : ℕ) → n < 2 ^ 32 → Lacks (decimal n) 93
decimal_lacks_93 n small =
    let fits : n < 2 ^ 64 = omega arith in
    digits_lack 93 (λ b e. by b (digit_from_value b e)) (decimal n) (decimal_is_IsNumeral n fits).0.1
  where
    by : (b : ℕ) → IsInRange 48 57 b → not (b == 93) ≡ true
    by b range = grind (arith, nat_tests, range)

decimal_lacks_46 : (n : ℕ) → n < 2 ^ 32 → Lacks (decimal n) 46
decimal_lacks_46 n small =
    let fits : n < 2 ^ 64 = omega arith in
    digits_lack 46 (λ b e. by b (digit_from_value b e)) (decimal n) (decimal_is_IsNumeral n fits).0.1
  where
    by : (b : ℕ) → IsInRange 48 57 b → not (b == 46) ≡ true
    by b range = grind (arith, nat_tests, range)

opened_step : (mode child : List ℕ) (n : ℕ) (rest : List ℕ) →
    step_text mode child n ++ rest ≡ 47 ∷ (mode ++ 58 ∷ (child ++ 91 ∷ (decimal n ++ 93 ∷ rest)))
opened_step mode child n rest = simp append_assoc

-- what is written of an address whose first step leads to a child
pub text_of_step : (root : PbType) (hop : Hop) (hops : Address) (kid : PbType) → child_at root hop ≡ Some kid →
    steps_text root (hop ∷ hops) ≡ 47 ∷ (mode_text root hop.mode ++ 58 ∷ (kid.name ++ 91 ∷ (decimal hop.instance ++ 93 ∷ steps_text kid hops)))
text_of_step root hop hops kid is =
    ap (λ o. option_map_or (λ (k : PbType). step_text (mode_text root hop.mode) k.name hop.instance ++ steps_text k hops) o []) is
    ∙ opened_step (mode_text root hop.mode) kid.name hop.instance (steps_text kid hops)

-- the step to a child, its mode's name and its instance
pub record StepIs (root : PbType) (hop : Hop) (kid : PbType) : Type 0 where
  pub mode : Mode
  pub is_mode : slice_get (modes_of root.kind) hop.mode ≡ Some mode
  pub is_kid : slice_get (kids_of mode) hop.child ≡ Some kid
  pub written : mode_text root hop.mode ≡ name_of_mode mode
  pub small : hop.instance < 2 ^ 32

pub step_of : (root : PbType) (hop : Hop) (kid : PbType) → HasPlainNames root → child_at root hop ≡ Some kid → StepIs root hop kid
step_of root hop kid plain is =
    let t : Takes root hop = takes root hop (subst (λ o. IsSome o) (sym is) refl) in
    let same : t.kid ≡ kid = some_injective (sym t.is ∙ is) in
    let count : t.kid.count < 2 ^ 32 = subst (λ k. k.count < 2 ^ 32) (sym same) (names_below root hop kid plain is [] kid refl).count in
    record {
      mode = t.mode;
      is_mode = t.is_mode;
      is_kid = t.is_kid ∙ ap Some same;
      written = ap (λ o. option_map_or name_of_mode o []) t.is_mode;
      small = omega (arith, t.counted, count);
    }

same_hops : (h k : Hop) → h.mode ≡ k.mode → h.child ≡ k.child → h.instance ≡ k.instance → h ≡ k
same_hops h k modes children instances =
    let hop : ℕ → ℕ → ℕ → Hop = λ mode child instance. record { mode = mode; child = child; instance = instance } in
    let both : hop h.mode h.child h.instance ≡ hop k.mode k.child k.instance = cc in both

tails : {X : Type 0} {x y : X} {xs ys : List X} → x ∷ xs ≡ y ∷ ys → xs ≡ ys
tails e = cc

steps_one : (root : PbType) → HasPlainNames root → (a b : Address) → IsSome (at root a) → IsSome (at root b) → steps_text root a ≡ steps_text root b → a ≡ b
steps_one root plain [] [] in_a in_b e = refl
steps_one root plain [] (k ∷ b) in_a in_b e =
    let p = opened root k b in_b in
    let begins : [] ≡ 47 ∷ (mode_text root k.mode ++ 58 ∷ (p.0.name ++ 91 ∷ (decimal k.instance ++ 93 ∷ steps_text p.0 b))) = e ∙ text_of_step root k b p.0 p.1 in
    cc
steps_one root plain (h ∷ a) [] in_a in_b e =
    let o = opened root h a in_a in
    let begins : [] ≡ 47 ∷ (mode_text root h.mode ++ 58 ∷ (o.0.name ++ 91 ∷ (decimal h.instance ++ 93 ∷ steps_text o.0 a))) = sym e ∙ text_of_step root h a o.0 o.1 in
    cc
steps_one root plain (h ∷ a) (k ∷ b) in_a in_b e =
    let o = opened root h a in_a in
    let p = opened root k b in_b in
    let s : StepIs root h o.0 = step_of root h o.0 plain o.1 in
    let t : StepIs root k p.0 = step_of root k p.0 plain p.1 in
    let own : IsWellNamed root = plain [] root refl in
    let named_h : IsName (mode_text root h.mode) = subst IsName (sym s.written) (own.modes.named h.mode s.mode s.is_mode) in
    let named_k : IsName (mode_text root k.mode) = subst IsName (sym t.written) (own.modes.named k.mode t.mode t.is_mode) in
    let kid_h : IsName o.0.name = (names_below root h o.0 plain o.1 [] o.0 refl).name in
    let kid_k : IsName p.0.name = (names_below root k p.0 plain p.1 [] p.0 refl).name in
    let whole = tails (sym (text_of_step root h a o.0 o.1) ∙ e ∙ text_of_step root k b p.0 p.1) in
    let first = one_cut 58 (mode_text root h.mode) (mode_text root k.mode) _ _ (name_lacks_58 _ named_h) (name_lacks_58 _ named_k) whole in
    let second = one_cut 91 o.0.name p.0.name _ _ (name_lacks_91 _ kid_h) (name_lacks_91 _ kid_k) first.1 in
    let third = one_cut 93 (decimal h.instance) (decimal k.instance) _ _ (decimal_lacks_93 h.instance s.small) (decimal_lacks_93 k.instance t.small) second.1 in
    let modes : h.mode ≡ k.mode = own.modes.differ h.mode k.mode s.mode t.mode s.is_mode t.is_mode (sym s.written ∙ first.0 ∙ t.written) in
    let mode_same : s.mode ≡ t.mode = some_injective (sym s.is_mode ∙ ap (λ n. slice_get (modes_of root.kind) n) modes ∙ t.is_mode) in
    let children : h.child ≡ k.child =
    own.kids h.mode s.mode s.is_mode h.child k.child o.0 p.0 s.is_kid (ap (λ m. slice_get (kids_of m) k.child) mode_same ∙ t.is_kid) second.0 in
    let fits_h : h.instance < 2 ^ 64 = omega (arith, s.small) in
    let fits_k : k.instance < 2 ^ 64 = omega (arith, t.small) in
    let instances : h.instance ≡ k.instance = decimal_injective h.instance k.instance fits_h fits_k third.0 in
    let hops : h ≡ k = same_hops h k modes children instances in
    let kid : o.0 ≡ p.0 = some_injective (sym o.1 ∙ ap (child_at root) hops ∙ p.1) in
    let rest : a ≡ b =
    steps_one o.0 (names_below root h o.0 plain o.1) a b o.2 (subst (λ q. IsSome (at q b)) (sym kid) p.2) (third.1 ∙ ap (λ q. steps_text q b) (sym kid)) in
    ap (λ x. x ∷ a) hops ∙ ap (λ l. k ∷ l) rest

module _ (g : Graph) (law : IsExpansion g) (plain : HasPlainNames g.root) where
  instance_text : (n : ℕ) (a : Address) → slice_get g.instances n ≡ Some a → instance_name g n ≡ g.root.name ++ steps_text g.root a
  instance_text n a is = ap (λ o. option_map_or (λ (x : Address). g.root.name ++ steps_text g.root x) o []) is

  -- an instance is known by what it is written as
  pub one_instance : (n m : ℕ) → n < length g.instances → m < length g.instances → instance_name g n ≡ instance_name g m → n ≡ m
  one_instance n m in_n in_m e =
      let a = element g.instances n in_n in
      let b = element g.instances m in_m in
      let steps : steps_text g.root a.0 ≡ steps_text g.root b.0 =
      append_cancel_left g.root.name (steps_text g.root a.0) (steps_text g.root b.0) (sym (instance_text n a.0 a.1) ∙ e ∙ instance_text m b.0 b.1) in
      let there_a = (law.numbering.exact a.0).0 (has_at g.instances n a.0 a.1) in
      let there_b = (law.numbering.exact b.0).0 (has_at g.instances m b.0 b.1) in
      let same : a.0 ≡ b.0 = steps_one g.root plain a.0 b.0 there_a there_b steps in
      law.numbering.once n m b.0 (a.1 ∙ ap Some same) b.1

  pub one_instance_named : (text : List ℕ) (n m : ℕ) → NamesInstance g text n → NamesInstance g text m → n ≡ m
  one_instance_named text n m a b = one_instance n m a.there b.there (sym a.spelled ∙ b.spelled)

pub one_mode : (g : Graph) → HasPlainNames g.root → (pb : ℕ) (text : List ℕ) (m n : ℕ) → NamesMode g pb text m → NamesMode g pb text n → m ≡ n
one_mode g plain pb text m n a b =
    let p : ModeIs g pb m = mode_is_there g pb m (subst (λ o. IsSome o) (sym a.there) refl) in
    let q : ModeIs g pb n = mode_is_there g pb n (subst (λ o. IsSome o) (sym b.there) refl) in
    let addresses : p.address ≡ q.address = some_injective (sym p.is_instance ∙ q.is_instance) in
    let blocks : p.block ≡ q.block = some_injective (sym p.is_block ∙ ap (λ x. at g.root x) addresses ∙ q.is_block) in
    let in_q : slice_get (modes_of p.block.kind) n ≡ Some q.is = ap (λ (x : PbType). slice_get (modes_of x.kind) n) blocks ∙ q.there in
    let is_p : a.is ≡ p.is = some_injective (sym a.there ∙ p.mode_there) in
    let is_q : b.is ≡ q.is = some_injective (sym b.there ∙ q.mode_there) in
    let names : name_of_mode p.is ≡ name_of_mode q.is = ap name_of_mode (sym is_p) ∙ sym a.spelled ∙ b.spelled ∙ ap name_of_mode is_q in
    (plain p.address p.block p.is_block).modes.differ m n p.is q.is p.there in_q names

dot_none : Lacks [] 46
dot_none = All-nil (λ x. not (x == 46) ≡ true)

dot_cons : (b : ℕ) (xs : List ℕ) → not (b == 46) ≡ true → Lacks xs 46 → Lacks (b ∷ xs) 46
dot_cons b xs other lacks = All-cons (λ x. not (x == 46) ≡ true) b xs other lacks

dot_append : (xs ys : List ℕ) → Lacks xs 46 → Lacks ys 46 → Lacks (xs ++ ys) 46
dot_append xs ys a b = All-append (λ x. not (x == 46) ≡ true) xs ys a b

-- a dot stands in no address
dot_steps : (root : PbType) → HasPlainNames root → (a : Address) → IsSome (at root a) → Lacks (steps_text root a) 46
dot_steps root plain [] there = dot_none
dot_steps root plain (h ∷ a) there =
    let o = opened root h a there in
    let s : StepIs root h o.0 = step_of root h o.0 plain o.1 in
    let own : IsWellNamed root = plain [] root refl in
    let named : IsName (mode_text root h.mode) = subst IsName (sym s.written) (own.modes.named h.mode s.mode s.is_mode) in
    let kid : IsName o.0.name = (names_below root h o.0 plain o.1 [] o.0 refl).name in
    let rest = dot_steps o.0 (names_below root h o.0 plain o.1) a o.2 in
    subst (λ t. Lacks t 46) (sym (text_of_step root h a o.0 o.1))
    (dot_cons 47 _ refl
    (dot_append (mode_text root h.mode) _ (name_lacks_46 _ named)
    (dot_cons 58 _ refl
    (dot_append o.0.name _ (name_lacks_46 _ kid)
    (dot_cons 91 _ refl (dot_append (decimal h.instance) _ (decimal_lacks_46 h.instance s.small) (dot_cons 93 _ refl rest)))))))

module _ (g : Graph) (law : IsExpansion g) (plain : HasPlainNames g.root) where
  pub dot_instance : (n : ℕ) → n < length g.instances → Lacks (instance_name g n) 46
  dot_instance n inside =
      let a = element g.instances n inside in
      let there = (law.numbering.exact a.0).0 (has_at g.instances n a.0 a.1) in
      subst (λ t. Lacks t 46) (sym (instance_text g law plain n a.0 a.1))
      (dot_append g.root.name (steps_text g.root a.0) (name_lacks_46 g.root.name (plain [] g.root refl).name) (dot_steps g.root plain a.0 there))

  -- a pin is known by what it is written as
  pub one_pin : (n m : ℕ) → n < length g.pins → m < length g.pins → pin_name g n ≡ pin_name g m → n ≡ m
  one_pin n m in_n in_m e =
      let p : PinIs g n = pin_is g n law in_n in
      let q : PinIs g m = pin_is g m law in_m in
      let whole = sym (pin_name_is g n p) ∙ e ∙ pin_name_is g m q in
      let first = one_cut 46 (instance_name g p.pin.pb.0) (instance_name g q.pin.pb.0) _ _ (dot_instance p.pin.pb.0 p.inside) (dot_instance q.pin.pb.0 q.inside) whole in
      let pbs : p.pin.pb.0 ≡ q.pin.pb.0 = one_instance g law plain p.pin.pb.0 q.pin.pb.0 p.inside q.inside first.0 in
      let ports_p = (plain p.address p.block p.is_block).ports in
      let ports_q = (plain q.address q.block q.is_block).ports in
      let second = one_cut 91 p.port.name q.port.name _ _ (name_lacks_91 _ (ports_p.named p.pin.port p.port p.is_port)) (name_lacks_91 _ (ports_q.named q.pin.port q.port q.is_port)) first.1 in
      let narrow_p = ports_p.narrow p.pin.port p.port p.is_port in
      let narrow_q = ports_q.narrow q.pin.port q.port q.is_port in
      let small_p : p.pin.bit < 2 ^ 32 = omega (arith, p.is_bit, narrow_p) in
      let small_q : q.pin.bit < 2 ^ 32 = omega (arith, q.is_bit, narrow_q) in
      let third = one_cut 93 (decimal p.pin.bit) (decimal q.pin.bit) _ _ (decimal_lacks_93 p.pin.bit small_p) (decimal_lacks_93 q.pin.bit small_q) second.1 in
      let fits_p : p.pin.bit < 2 ^ 64 = omega (arith, small_p) in
      let fits_q : q.pin.bit < 2 ^ 64 = omega (arith, small_q) in
      let bits : p.pin.bit ≡ q.pin.bit = decimal_injective p.pin.bit q.pin.bit fits_p fits_q third.0 in
      let addresses : p.address ≡ q.address = some_injective (sym p.is_instance ∙ ap (λ k. slice_get g.instances k) pbs ∙ q.is_instance) in
      let blocks : p.block ≡ q.block = some_injective (sym p.is_block ∙ ap (λ a. at g.root a) addresses ∙ q.is_block) in
      let port_q : slice_get p.block.ports q.pin.port ≡ Some q.port = ap (λ (b : PbType). slice_get b.ports q.pin.port) blocks ∙ q.is_port in
      let ports : p.pin.port ≡ q.pin.port = ports_p.differ p.pin.port q.pin.port p.port q.port p.is_port port_q second.0 in
      let pins : p.pin ≡ q.pin = same_pin p.pin q.pin pbs ports bits in
      law.has_pins.once n m q.pin (p.there ∙ ap Some pins) q.there
    where
      same_pin : (a b : PinAt) → a.pb.0 ≡ b.pb.0 → a.port ≡ b.port → a.bit ≡ b.bit → a ≡ b
      same_pin a b pbs ports bits =
          let both : pin_at a.pb.0 a.port a.bit ≡ pin_at b.pb.0 b.port b.bit = cc in both

  pub one_pin_named : (text : List ℕ) (n m : ℕ) → NamesPin g text n → NamesPin g text m → n ≡ m
  one_pin_named text n m a b = one_pin n m a.there b.there (sym a.spelled ∙ b.spelled)
