-- Texts without white space: names, and what instances and pins are written as.
use Rattle.std.proofs.Common.{◌≡◌, ◌≢◌, ◌<◌, ◌^◌, ◌==◌, ◌||◌, ℕ, Bool, true, false, not, List, [], ◌∷◌, ◌++◌, Option, Some, None, length, get_or, IsUtf8, lit<, refl, sym, ap, subst, ◌∙◌, arith}
use Rattle.std.specs.Prelude.{slice_get, IsSome}
use Rattle.std.specs.List.{AllPass}
use Rattle.std.specs.Char.{digit_value}
use Rattle.std.specs.Fmt.{decimal}
use Rattle.std.specs.Str.Parse.{AllDigits}
use Rattle.std.specs.Option.{option_map_or, option_and_then}
use Rattle.std.proofs.lemmas.Fmt.{decimal_is_IsNumeral, IsAscii-decimal}
use Rattle.std.proofs.lemmas.Str.{IsUtf8-append, IsUtf8-from_ascii, IsUtf8-nil}
use Rattle.std.proofs.lemmas.Str.Parse.{digit_from_value}
use Rattle.std.proofs.lemmas.Str.Ascii.{IsAscii-from_all}
use Rattle.std.proofs.lemmas.List.Elements.{All-append, All-cons, All-nil}
use Rattle.std.proofs.lemmas.Bool.Decides.{nat_tests}
use Rattle.vtr_base.specs.Spans.{is_white, is_word_byte}
use Rattle.arch_types.specs.declared.block.PbType.{PbType}
use Rattle.arch_types.specs.declared.block.Port.{Port}
use Rattle.arch_types.specs.declared.block.Mode.{Mode}
use Rattle.arch_types.specs.Tree.{modes_of, name_of_mode}
use Rattle.arch_types.specs.Address.{Address, Hop, at, child_at}
use Rattle.pb_expand.specs.declared.number.PinAt.{PinAt}
use Rattle.pb_expand.specs.Graph.{Graph, block_at, mode_at}
use Rattle.pb_expand.specs.Expansion.{IsExpansion, IsPin}
use Rattle.pb_expand.proofs.Lists.{has_at, element}
use Rattle.std.proofs.lemmas.Option.{slice_get_within}
use Rattle.pb_expand.proofs.Blocks.{Takes, takes}
use Rattle.prog_text.specs.Names.{index_text, step_text, mode_text, steps_text, instance_name, port_text, pin_text, pin_name}
use Rattle.prog_map.specs.Leaves.{port_at}
use Rattle.prog_text.specs.Plain.{is_name_byte, IsName, HasPlainNames}
use Rattle.prog_text.specs.Sayings.{IsWord}
use Rattle.prog_text.specs.Spelling.{mode_name}
use Rattle.prog_map.proofs.Climbs.{some_injective}
use Rattle.prog_map.proofs.Instances.{ModeIs, mode_is_there}

pub record IsSoundText (text : List ℕ) : Type 0 where
  pub dark : AllPass is_word_byte text
  pub utf8 : IsUtf8 text

pub all_imply : (p q : ℕ → Bool) (xs : List ℕ) → ((x : ℕ) → p x ≡ true → q x ≡ true) → AllPass p xs → AllPass q xs
all_imply p q xs to all k d inside = to (get_or xs k d) (all k d inside)

pub sound_nil : IsSoundText []
sound_nil = record { dark = All-nil (λ x. is_word_byte x ≡ true); utf8 = IsUtf8-nil }

pub sound_append : (xs ys : List ℕ) → IsSoundText xs → IsSoundText ys → IsSoundText (xs ++ ys)
sound_append xs ys a b = record {
  dark = All-append (λ x. is_word_byte x ≡ true) xs ys a.dark b.dark;
  utf8 = IsUtf8-append xs ys a.utf8 b.utf8;
}

-- one byte of the signs that divide names
sound_sign : (b : ℕ) → is_word_byte b ≡ true → IsUtf8 (b ∷ []) → IsSoundText (b ∷ [])
sound_sign b dark utf8 = record { dark = All-cons (λ x. is_word_byte x ≡ true) b [] dark (All-nil (λ x. is_word_byte x ≡ true)); utf8 = utf8 }

pub sound_cons : (b : ℕ) (xs : List ℕ) → is_word_byte b ≡ true → IsUtf8 (b ∷ []) → IsSoundText xs → IsSoundText (b ∷ xs)
sound_cons b xs dark utf8 sound = sound_append (b ∷ []) xs (sound_sign b dark utf8) sound

pub ascii_one : (b : ℕ) → b < 128 → IsUtf8 (b ∷ [])
ascii_one b low = IsUtf8-from_ascii (b ∷ []) (IsAscii-from_all (b ∷ []) (All-cons (λ x. x < 128) b [] low (All-nil (λ x. x < 128))))

pub sound_ascii : (b : ℕ) (xs : List ℕ) → is_word_byte b ≡ true → b < 128 → IsSoundText xs → IsSoundText (b ∷ xs)
sound_ascii b xs dark low sound = sound_cons b xs dark (ascii_one b low) sound

utf8_47 : IsUtf8 (47 ∷ [])
utf8_47 = ascii_one 47 (lit< tt)

utf8_58 : IsUtf8 (58 ∷ [])
utf8_58 = ascii_one 58 (lit< tt)

utf8_46 : IsUtf8 (46 ∷ [])
utf8_46 = ascii_one 46 (lit< tt)

utf8_91 : IsUtf8 (91 ∷ [])
utf8_91 = ascii_one 91 (lit< tt)

utf8_93 : IsUtf8 (93 ∷ [])
utf8_93 = ascii_one 93 (lit< tt)

dark_digit : (b : ℕ) → digit_value b < 10 → is_word_byte b ≡ true
dark_digit b small = let range = digit_from_value b small in grind (arith, nat_tests, range)

dark_digits : (ds : List ℕ) → AllDigits 10 ds → AllPass is_word_byte ds
dark_digits [] all = All-nil (λ x. is_word_byte x ≡ true)
dark_digits (d ∷ ds) all = All-cons (λ x. is_word_byte x ≡ true) d ds (dark_digit d all.0) (dark_digits ds all.1)

pub sound_decimal : (n : ℕ) → n < 2 ^ 32 → IsSoundText (decimal n)
sound_decimal n small =
    let fits : n < 2 ^ 64 = omega arith in
    record { dark = dark_digits (decimal n) (decimal_is_IsNumeral n fits).0.1; utf8 = IsUtf8-from_ascii (decimal n) (IsAscii-decimal n fits) }

pub sound_name : (name : List ℕ) → IsName name → IsSoundText name
sound_name name is = record { dark = all_imply is_name_byte is_word_byte name (λ x e. light x (is_white x) e) is.whole; utf8 = is.utf8 }
  where
    light : (x : ℕ) (w : Bool) → not (w || ((x == 47) || ((x == 58) || ((x == 46) || ((x == 91) || (x == 93)))))) ≡ true → not w ≡ true
    light x true e = cc
    light x false e = refl

sound_index : (n : ℕ) → n < 2 ^ 32 → IsSoundText (index_text n)
sound_index n small =
    sound_cons 91 (decimal n ++ 93 ∷ []) refl utf8_91
    (sound_append (decimal n) (93 ∷ []) (sound_decimal n small) (sound_cons 93 [] refl utf8_93 sound_nil))

sound_step : (mode child : List ℕ) (n : ℕ) → IsSoundText mode → IsSoundText child → n < 2 ^ 32 → IsSoundText (step_text mode child n)
sound_step mode child n is_mode is_child small =
    sound_cons 47 (mode ++ 58 ∷ (child ++ index_text n)) refl utf8_47
    (sound_append mode (58 ∷ (child ++ index_text n)) is_mode
    (sound_cons 58 (child ++ index_text n) refl utf8_58 (sound_append child (index_text n) is_child (sound_index n small))))

-- the names below an instance are those of its subtree
pub names_below : (root : PbType) (hop : Hop) (kid : PbType) → HasPlainNames root → child_at root hop ≡ Some kid → HasPlainNames kid
names_below root hop kid plain is a block there = plain (hop ∷ a) block (ap (option_and_then (λ k. at k a)) is ∙ there)

sound_steps : (root : PbType) (a : Address) → HasPlainNames root → IsSoundText (steps_text root a)
sound_steps root [] plain = sound_nil
sound_steps root (hop ∷ hops) plain = by (λ kid below. sound_steps kid hops below) (child_at root hop) refl
  where
    by : ((kid : PbType) → HasPlainNames kid → IsSoundText (steps_text kid hops)) → (o : Option PbType) → child_at root hop ≡ o →
        IsSoundText (option_map_or (λ (kid : PbType). step_text (mode_text root hop.mode) kid.name hop.instance ++ steps_text kid hops) o [])
    by rest None e = sound_nil
    by rest (Some kid) e =
        let t : Takes root hop = takes root hop (subst (λ o. IsSome o) (sym e) refl) in
        let own = plain [] root refl in
        let below = names_below root hop kid plain e in
        let same : t.kid ≡ kid = some_injective (sym t.is ∙ e) in
        let mode : mode_text root hop.mode ≡ name_of_mode t.mode = ap (λ o. option_map_or name_of_mode o []) t.is_mode in
        let count : t.kid.count < 2 ^ 32 = subst (λ k. k.count < 2 ^ 32) (sym same) (below [] kid refl).count in
        sound_append (step_text (mode_text root hop.mode) kid.name hop.instance) (steps_text kid hops)
        (sound_step (mode_text root hop.mode) kid.name hop.instance
        (subst IsSoundText (sym mode) (sound_name (name_of_mode t.mode) (own.modes.named hop.mode t.mode t.is_mode)))
        (sound_name kid.name (below [] kid refl).name) (omega (arith, t.counted, count)))
        (rest kid below)

not_nil : (xs ys : List ℕ) → xs ≢ [] → xs ++ ys ≢ []
not_nil [] ys some e = some refl
not_nil (x ∷ xs) ys some e = cc

pub word_of : (text : List ℕ) → text ≢ [] → IsSoundText text → IsWord text
word_of text some sound = record { some = some; whole = all_imply is_word_byte (λ x. not (x == 32)) text (λ x e. no_blank x (x == 32) _ e) sound.dark }
  where
    no_blank : (x : ℕ) (b c : Bool) → not (b || c) ≡ true → not b ≡ true
    no_blank x true c e = cc
    no_blank x false c e = refl

-- what is written of an instance: a text of one word
pub instance_sound : (g : Graph) (n : ℕ) → HasPlainNames g.root → n < length g.instances → IsSoundText (instance_name g n)
instance_sound g n plain inside =
    let a = element g.instances n inside in
    let is : instance_name g n ≡ g.root.name ++ steps_text g.root a.0 = ap (λ o. option_map_or (λ (x : Address). g.root.name ++ steps_text g.root x) o []) a.1 in
    subst IsSoundText (sym is) (sound_append g.root.name (steps_text g.root a.0) (sound_name g.root.name (plain [] g.root refl).name) (sound_steps g.root a.0 plain))

pub instance_some : (g : Graph) (n : ℕ) → HasPlainNames g.root → n < length g.instances → instance_name g n ≢ []
instance_some g n plain inside =
    let a = element g.instances n inside in
    let is : instance_name g n ≡ g.root.name ++ steps_text g.root a.0 = ap (λ o. option_map_or (λ (x : Address). g.root.name ++ steps_text g.root x) o []) a.1 in
    subst (λ t. t ≢ []) (sym is) (not_nil g.root.name (steps_text g.root a.0) (plain [] g.root refl).name.some)

-- the instance of a pin, its port, and that the port has the bit
pub record PinIs (g : Graph) (n : ℕ) : Type 0 where
  pub pin : PinAt
  pub there : slice_get g.pins n ≡ Some pin
  pub inside : pin.pb.0 < length g.instances
  pub address : Address
  pub is_instance : slice_get g.instances pin.pb.0 ≡ Some address
  pub block : PbType
  pub is_block : at g.root address ≡ Some block
  pub port : Port
  pub is_port : slice_get block.ports pin.port ≡ Some port
  pub named : port_text g pin ≡ port.name
  pub is_bit : pin.bit < port.width

pub pin_is : (g : Graph) (n : ℕ) → IsExpansion g → n < length g.pins → PinIs g n
pin_is g n law inside =
    let p = element g.pins n inside in
    let is : IsPin g p.0.pb.0 p.0.port p.0.bit = (law.has_pins.exact p.0.pb.0 p.0.port p.0.bit).0 (has_at g.pins n p.0 p.1) in
    by p.0 p.1 is (at g.root is.address) refl is.is_port
  where
    by : (pin : PinAt) → slice_get g.pins n ≡ Some pin → (is : IsPin g pin.pb.0 pin.port pin.bit) → (o : Option PbType) → at g.root is.address ≡ o →
        slice_get (option_map_or (λ (block : PbType). block.ports) o []) pin.port ≡ Some is.is → PinIs g n
    by pin there is None e port = absurd (cc)
    by pin there is (Some block) e port =
        let is_block : block_at g pin.pb.0 ≡ Some block = ap (option_and_then (λ (a : Address). at g.root a)) is.is_instance ∙ e in
        let port_is : port_at g pin ≡ Some is.is = ap (option_and_then (λ (b : PbType). slice_get b.ports pin.port)) is_block ∙ port in
        record {
          pin = pin;
          there = there;
          inside = slice_get_within g.instances pin.pb.0 is.address is.is_instance;
          address = is.address;
          is_instance = is.is_instance;
          block = block;
          is_block = e;
          port = is.is;
          is_port = port;
          named = ap (λ o. option_map_or (λ (p : Port). p.name) o []) port_is;
          is_bit = is.is_bit;
        }

pub pin_name_is : (g : Graph) (n : ℕ) (p : PinIs g n) → pin_name g n ≡ instance_name g p.pin.pb.0 ++ 46 ∷ (p.port.name ++ index_text p.pin.bit)
pin_name_is g n p =
    ap (λ o. option_map_or (pin_text g) o []) p.there ∙ ap (λ t. instance_name g p.pin.pb.0 ++ 46 ∷ (t ++ index_text p.pin.bit)) p.named

pub pin_sound : (g : Graph) (n : ℕ) → IsExpansion g → HasPlainNames g.root → n < length g.pins → IsSoundText (pin_name g n)
pin_sound g n law plain inside =
    let p = pin_is g n law inside in
    let ports = (plain p.address p.block p.is_block).ports in
    let small : p.port.width < 2 ^ 32 = ports.narrow p.pin.port p.port p.is_port in
    subst IsSoundText (sym (pin_name_is g n p))
    (sound_append (instance_name g p.pin.pb.0) (46 ∷ (p.port.name ++ index_text p.pin.bit)) (instance_sound g p.pin.pb.0 plain p.inside)
    (sound_cons 46 (p.port.name ++ index_text p.pin.bit) refl utf8_46
    (sound_append p.port.name (index_text p.pin.bit) (sound_name p.port.name (ports.named p.pin.port p.port p.is_port)) (sound_index p.pin.bit (omega (arith, p.is_bit, small))))))

pub pin_some : (g : Graph) (n : ℕ) → IsExpansion g → HasPlainNames g.root → n < length g.pins → pin_name g n ≢ []
pin_some g n law plain inside =
    let p = pin_is g n law inside in
    subst (λ t. t ≢ []) (sym (pin_name_is g n p))
    (not_nil (instance_name g p.pin.pb.0) (46 ∷ (p.port.name ++ index_text p.pin.bit)) (instance_some g p.pin.pb.0 plain p.inside))

pub mode_named : (g : Graph) (pb mode : ℕ) → HasPlainNames g.root → (m : ModeIs g pb mode) → IsName (name_of_mode m.is)
mode_named g pb mode plain m = (plain m.address m.block m.is_block).modes.named mode m.is m.there

pub mode_name_is : (g : Graph) (pb mode : ℕ) (m : ModeIs g pb mode) → mode_name g pb mode ≡ name_of_mode m.is
mode_name_is g pb mode m = ap (λ o. option_map_or name_of_mode o []) m.mode_there
