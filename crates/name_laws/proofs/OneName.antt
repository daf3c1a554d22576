-- No two instances, pins or modes are written alike, where the names are plain.
use Rattle.std.proofs.Common.{◌≡◌, ◌<◌, ◌^◌, ◌==◌, ◌||◌, ℕ, Bool, true, false, not, List, [], ◌∷◌, ◌++◌, Option, Some, None, IsSome, length, slice_get, refl, sym, ap, subst, ◌∙◌, arith}
use Rattle.std.specs.List.{AllPass}
use Rattle.std.specs.Fmt.{decimal}
use Rattle.std.specs.Option.{option_map_or, option_and_then}
use Rattle.std.proofs.lemmas.Fmt.{decimal_injective}
use Rattle.std.proofs.lemmas.List.{append_cancel_left}
use Rattle.std.proofs.lemmas.Bool.Decides.{nat_tests}
use Rattle.vtr_base.specs.Spans.{is_white, is_word_byte, Lacks}
use Rattle.list_laws.proofs.Members.{has_at}
use Rattle.list_laws.proofs.Places.{element}
use Rattle.arch_types.specs.declared.block.PbType.{PbType}
use Rattle.arch_types.specs.Tree.{modes_of, kids_of}
use Rattle.arch_types.specs.Address.{Address, Hop, at, child_at}
use Rattle.pb_expand.specs.declared.number.PinAt.{PinAt}
use Rattle.pb_expand.specs.Graph.{Graph, pin_at}
use Rattle.pb_expand.specs.Expansion.{IsExpansion}
use Rattle.prog_text.specs.Names.{mode_text, steps_text, instance_name, pin_name, NamesInstance, NamesPin, NamesMode}
use Rattle.prog_text.specs.Plain.{is_name_byte, IsName, IsWellNamed, HasPlainNames}
use Rattle.name_laws.specs.Laws.{AreWords}
use Rattle.name_laws.proofs.Bytes.{lacks_other, one_cut, name_decimal, pass_one, pass_both}
use Rattle.name_laws.proofs.Steps.{StepIs, step_of, opened, names_below, text_of_step, pass_name, pass_index, pass_steps}
use Rattle.name_laws.proofs.Pins.{PinIs, pin_is, pin_name_is}

one_value : {X : Type 0} {x y : X} → Some x ≡ Some y → x ≡ y
one_value e = cc

lacks_sign : (name : List ℕ) (s : ℕ) → is_name_byte s ≡ false → IsName name → Lacks name s
lacks_sign name s sign is = lacks_other is_name_byte s name sign is.whole

digits_lack : (n s : ℕ) → is_name_byte s ≡ false → n < 2 ^ 32 → Lacks (decimal n) s
digits_lack n s sign small = lacks_other is_name_byte s (decimal n) sign (name_decimal n small)

same_number : (m n : ℕ) → m < 2 ^ 32 → n < 2 ^ 32 → decimal m ≡ decimal n → m ≡ n
same_number m n low_m low_n same =
    let fits_m : m < 2 ^ 64 = omega arith in
    let fits_n : n < 2 ^ 64 = omega arith in
    decimal_injective m n fits_m fits_n same

same_hops : (h k : Hop) → h.mode ≡ k.mode → h.child ≡ k.child → h.instance ≡ k.instance → h ≡ k
same_hops h k modes children instances =
    let hop : ℕ → ℕ → ℕ → Hop = λ mode child instance. record { mode = mode; child = child; instance = instance } in
    let both : hop h.mode h.child h.instance ≡ hop k.mode k.child k.instance = cc in both

tails : {X : Type 0} {x y : X} {xs ys : List X} → x ∷ xs ≡ y ∷ ys → xs ≡ ys
tails e = cc

steps_one : (root : PbType) → HasPlainNames root → (a b : Address) → IsSome (at root a) → IsSome (at root b) → steps_text root a ≡ steps_text root b → a ≡ b
steps_one root plain [] [] in_a in_b e = refl
steps_one root plain [] (k ∷ b) in_a in_b e =
    let p = opened root k b in_b in
    let begins : [] ≡ 47 ∷ (mode_text root k.mode ++ 58 ∷ (p.0.name ++ 91 ∷ (decimal k.instance ++ 93 ∷ steps_text p.0 b))) = e ∙ text_of_step root k b p.0 p.1 in
    cc
steps_one root plain (h ∷ a) [] in_a in_b e =
    let o = opened root h a in_a in
    let begins : [] ≡ 47 ∷ (mode_text root h.mode ++ 58 ∷ (o.0.name ++ 91 ∷ (decimal h.instance ++ 93 ∷ steps_text o.0 a))) = sym e ∙ text_of_step root h a o.0 o.1 in
    cc
steps_one root plain (h ∷ a) (k ∷ b) in_a in_b e =
    let o = opened root h a in_a in
    let p = opened root k b in_b in
    let s : StepIs root h o.0 = step_of root h o.0 plain o.1 in
    let t : StepIs root k p.0 = step_of root k p.0 plain p.1 in
    let own : IsWellNamed root = plain [] root refl in
    let whole = tails (sym (text_of_step root h a o.0 o.1) ∙ e ∙ text_of_step root k b p.0 p.1) in
    let first = one_cut 58 (mode_text root h.mode) (mode_text root k.mode) _ _ (lacks_sign _ 58 refl s.mode_name) (lacks_sign _ 58 refl t.mode_name) whole in
    let second = one_cut 91 o.0.name p.0.name _ _ (lacks_sign _ 91 refl s.kid_name) (lacks_sign _ 91 refl t.kid_name) first.1 in
    let third = one_cut 93 (decimal h.instance) (decimal k.instance) _ _ (digits_lack h.instance 93 refl s.small) (digits_lack k.instance 93 refl t.small) second.1 in
    let modes : h.mode ≡ k.mode = own.modes.differ h.mode k.mode s.mode t.mode s.is_mode t.is_mode (sym s.written ∙ first.0 ∙ t.written) in
    let mode_same : s.mode ≡ t.mode = one_value (sym s.is_mode ∙ ap (λ n. slice_get (modes_of root.kind) n) modes ∙ t.is_mode) in
    let children : h.child ≡ k.child =
    own.kids h.mode s.mode s.is_mode h.child k.child o.0 p.0 s.is_kid (ap (λ m. slice_get (kids_of m) k.child) mode_same ∙ t.is_kid) second.0 in
    let hops : h ≡ k = same_hops h k modes children (same_number h.instance k.instance s.small t.small third.0) in
    let kid : o.0 ≡ p.0 = one_value (sym o.1 ∙ ap (child_at root) hops ∙ p.1) in
    let rest : a ≡ b =
    steps_one o.0 (names_below root h o.0 plain o.1) a b o.2 (subst (λ q. IsSome (at q b)) (sym kid) p.2) (third.1 ∙ ap (λ q. steps_text q b) (sym kid)) in
    ap (λ x. x ∷ a) hops ∙ ap (λ l. k ∷ l) rest

no_blank : (x : ℕ) (w : Bool) → not (w || ((x == 47) || ((x == 58) || ((x == 46) || ((x == 91) || (x == 93)))))) ≡ true → not w ≡ true
no_blank x true e = cc
no_blank x false e = refl

name_is_dark : (x : ℕ) → is_name_byte x ≡ true → is_word_byte x ≡ true
name_is_dark x e = no_blank x (is_white x) e

name_has_no_dot : (x : ℕ) → is_name_byte x ≡ true → not (x == 46) ≡ true
name_has_no_dot x e = by x (x == 46) refl e
  where
    by : (x : ℕ) (b : Bool) → (x == 46) ≡ b → is_name_byte x ≡ true → not b ≡ true
    by x false e passes = refl
    by x true e passes = grind (arith, nat_tests)

module _ (g : Graph) (law : IsExpansion g) (plain : HasPlainNames g.root) where
  instance_text : (n : ℕ) (a : Address) → slice_get g.instances n ≡ Some a → instance_name g n ≡ g.root.name ++ steps_text g.root a
  instance_text n a is = ap (λ o. option_map_or (λ (x : Address). g.root.name ++ steps_text g.root x) o []) is

  one_instance : (n m : ℕ) → n < length g.instances → m < length g.instances → instance_name g n ≡ instance_name g m → n ≡ m
  one_instance n m in_n in_m e =
      let a = element g.instances n in_n in
      let b = element g.instances m in_m in
      let steps : steps_text g.root a.0 ≡ steps_text g.root b.0 =
      append_cancel_left g.root.name (steps_text g.root a.0) (steps_text g.root b.0) (sym (instance_text n a.0 a.1) ∙ e ∙ instance_text m b.0 b.1) in
      let there_a = (law.numbering.exact a.0).0 (has_at g.instances n a.0 a.1) in
      let there_b = (law.numbering.exact b.0).0 (has_at g.instances m b.0 b.1) in
      let same : a.0 ≡ b.0 = steps_one g.root plain a.0 b.0 there_a there_b steps in
      law.numbering.once n m b.0 (a.1 ∙ ap Some same) b.1

  pub one_instance_named : (text : List ℕ) (m n : ℕ) → NamesInstance g text m → NamesInstance g text n → m ≡ n
  one_instance_named text m n a b = one_instance m n a.there b.there (sym a.spelled ∙ b.spelled)

  module _ (p : ℕ → Bool) (names : (x : ℕ) → is_name_byte x ≡ true → p x ≡ true) (slash : p 47 ≡ true) (colon : p 58 ≡ true) (opens : p 91 ≡ true) (closes : p 93 ≡ true) where
    pub pass_instance : (n : ℕ) → n < length g.instances → AllPass p (instance_name g n)
    pass_instance n inside =
        let a = element g.instances n inside in
        let there = (law.numbering.exact a.0).0 (has_at g.instances n a.0 a.1) in
        subst (AllPass p) (sym (instance_text n a.0 a.1))
        (pass_both p g.root.name (steps_text g.root a.0) (pass_name p names slash colon opens closes g.root.name (plain [] g.root refl).name)
        (pass_steps p names slash colon opens closes g.root plain a.0 there))

  dark_instance : (n : ℕ) → n < length g.instances → AllPass is_word_byte (instance_name g n)
  dark_instance n inside = pass_instance is_word_byte name_is_dark refl refl refl refl n inside

  dot_instance : (n : ℕ) → n < length g.instances → Lacks (instance_name g n) 46
  dot_instance n inside = pass_instance (λ x. not (x == 46)) name_has_no_dot refl refl refl refl n inside

  dark_pin : (n : ℕ) → n < length g.pins → AllPass is_word_byte (pin_name g n)
  dark_pin n inside =
      let q : PinIs g n = pin_is g n law inside in
      let ports = (plain q.address q.block q.is_block).ports in
      let narrow = ports.narrow q.pin.port q.port q.is_port in
      let small : q.pin.bit < 2 ^ 32 = omega (arith, q.is_bit, narrow) in
      subst (AllPass is_word_byte) (sym (pin_name_is g n q))
      (pass_both is_word_byte (instance_name g q.pin.pb.0) _ (dark_instance q.pin.pb.0 q.inside)
      (pass_one is_word_byte 46 _ refl
      (pass_both is_word_byte q.port.name _ (pass_name is_word_byte name_is_dark refl refl refl refl q.port.name (ports.named q.pin.port q.port q.is_port))
      (pass_index is_word_byte name_is_dark refl refl refl refl q.pin.bit [] small (pass_nothing)))))
    where
      pass_nothing : AllPass is_word_byte []
      pass_nothing = λ k d none. absurd (omega arith)

  pub are_words : AreWords g
  are_words = record { instances = dark_instance; pins = dark_pin }

  one_pin : (n m : ℕ) → n < length g.pins → m < length g.pins → pin_name g n ≡ pin_name g m → n ≡ m
  one_pin n m in_n in_m e =
      let p : PinIs g n = pin_is g n law in_n in
      let q : PinIs g m = pin_is g m law in_m in
      let whole = sym (pin_name_is g n p) ∙ e ∙ pin_name_is g m q in
      let first = one_cut 46 (instance_name g p.pin.pb.0) (instance_name g q.pin.pb.0) _ _ (dot_instance p.pin.pb.0 p.inside) (dot_instance q.pin.pb.0 q.inside) whole in
      let pbs : p.pin.pb.0 ≡ q.pin.pb.0 = one_instance p.pin.pb.0 q.pin.pb.0 p.inside q.inside first.0 in
      let ports_p = (plain p.address p.block p.is_block).ports in
      let ports_q = (plain q.address q.block q.is_block).ports in
      let name_p = ports_p.named p.pin.port p.port p.is_port in
      let name_q = ports_q.named q.pin.port q.port q.is_port in
      let second = one_cut 91 p.port.name q.port.name _ _ (lacks_sign _ 91 refl name_p) (lacks_sign _ 91 refl name_q) first.1 in
      let narrow_p = ports_p.narrow p.pin.port p.port p.is_port in
      let narrow_q = ports_q.narrow q.pin.port q.port q.is_port in
      let small_p : p.pin.bit < 2 ^ 32 = omega (arith, p.is_bit, narrow_p) in
      let small_q : q.pin.bit < 2 ^ 32 = omega (arith, q.is_bit, narrow_q) in
      let third = one_cut 93 (decimal p.pin.bit) (decimal q.pin.bit) _ _ (digits_lack p.pin.bit 93 refl small_p) (digits_lack q.pin.bit 93 refl small_q) second.1 in
      let bits : p.pin.bit ≡ q.pin.bit = same_number p.pin.bit q.pin.bit small_p small_q third.0 in
      let addresses : p.address ≡ q.address = one_value (sym p.is_instance ∙ ap (λ k. slice_get g.instances k) pbs ∙ q.is_instance) in
      let blocks : p.block ≡ q.block = one_value (sym p.is_block ∙ ap (λ a. at g.root a) addresses ∙ q.is_block) in
      let port_q : slice_get p.block.ports q.pin.port ≡ Some q.port = ap (λ (b : PbType). slice_get b.ports q.pin.port) blocks ∙ q.is_port in
      let ports : p.pin.port ≡ q.pin.port = ports_p.differ p.pin.port q.pin.port p.port q.port p.is_port port_q second.0 in
      let pins : p.pin ≡ q.pin = same_pin p.pin q.pin pbs ports bits in
      law.has_pins.once n m q.pin (p.there ∙ ap Some pins) q.there
    where
      same_pin : (a b : PinAt) → a.pb.0 ≡ b.pb.0 → a.port ≡ b.port → a.bit ≡ b.bit → a ≡ b
      same_pin a b pbs ports bits =
          let both : pin_at a.pb.0 a.port a.bit ≡ pin_at b.pb.0 b.port b.bit = cc in both

  pub one_pin_named : (text : List ℕ) (m n : ℕ) → NamesPin g text m → NamesPin g text n → m ≡ n
  one_pin_named text m n a b = one_pin m n a.there b.there (sym a.spelled ∙ b.spelled)

  -- the pb_type of an instance that has a mode
  pub one_mode_named : (pb : ℕ) (text : List ℕ) (m n : ℕ) → NamesMode g pb text m → NamesMode g pb text n → m ≡ n
  one_mode_named pb text m n a b = by_instance (slice_get g.instances pb) refl a.there b.there
    where
      by_block : (address : Address) (o : Option PbType) → at g.root address ≡ o →
          option_and_then (λ (block : PbType). slice_get (modes_of block.kind) m) o ≡ Some a.is → option_and_then (λ (block : PbType). slice_get (modes_of block.kind) n) o ≡ Some b.is →
          m ≡ n
      by_block address None is at_m at_n = absurd (cc)
      by_block address (Some block) is at_m at_n = (plain address block is).modes.differ m n a.is b.is at_m at_n (sym a.spelled ∙ b.spelled)

      by_instance : (o : Option Address) → slice_get g.instances pb ≡ o →
          option_and_then (λ (block : PbType). slice_get (modes_of block.kind) m) (option_and_then (λ address. at g.root address) o) ≡ Some a.is →
          option_and_then (λ (block : PbType). slice_get (modes_of block.kind) n) (option_and_then (λ address. at g.root address) o) ≡ Some b.is → m ≡ n
      by_instance None is at_m at_n = absurd (cc)
      by_instance (Some address) is at_m at_n = by_block address (at g.root address) refl at_m at_n
