-- What is written of a setting says that setting.
use Rattle.std.proofs.Common.{◌≡◌, ◌≢◌, ◌<◌, ◌^◌, ◌==◌, ◌||◌, ℕ, Bool, true, false, not, List, [], ◌∷◌, ◌++◌, length, IsUtf8, lit<, refl, sym, ap, subst, ◌∙◌, arith}
use Rattle.std.specs.Prelude.{codes}
use Rattle.std.specs.List.{AllPass}
use Rattle.std.specs.Fmt.{decimal}
use Rattle.std.specs.Option.{option_map_or}
use Rattle.std.proofs.lemmas.Fmt.{decimal_is_IsNumeral}
use Rattle.std.proofs.lemmas.Str.{IsUtf8-append}
use Rattle.std.proofs.lemmas.Option.{slice_get_within}
use Rattle.std.proofs.lemmas.List.Elements.{All-append, All-cons, All-nil}
use Rattle.std.proofs.lemmas.Bool.Decides.{nat_tests}
use Rattle.vtr_base.specs.Spans.{is_word_byte}
use Rattle.arch_types.specs.Tree.{name_of_mode}
use Rattle.pb_expand.specs.declared.number.Edge.{Edge}
use Rattle.pb_expand.specs.Graph.{Graph, edge_ix, pb_ix, pin_ix}
use Rattle.pb_expand.specs.Expansion.{IsExpansion, IsEdgeOf}
use Rattle.pb_expand.proofs.Lists.{has_at}
use Rattle.prog_map.specs.declared.choice.LutChoice.TheVariants.{Wire, Table}
use Rattle.prog_map.specs.declared.setting.Setting.{Setting}
use Rattle.prog_map.specs.declared.setting.Setting.TheVariants.{Mode, Pick, Used, Lut}
use Rattle.prog_map.specs.Choices.{IsModeOf, IsEdgeInto, IsLutChoice}
use Rattle.prog_map.specs.Leaves.{IsLeaf, HasModes}
use Rattle.prog_text.specs.Names.{instance_name, pin_name, NamesInstance}
use Rattle.prog_text.specs.Plain.{HasPlainNames}
use Rattle.prog_text.specs.Sayings.{IsWord, IsFirstWord, AreWords, Saying, says_mode, says_pin, says_used, says_wire, says_table, WordsSay, Says, is_bit}
use Rattle.prog_text.specs.Settings.{Names, table_of}
use Rattle.prog_text.specs.Spelling.{mode_name, edge_text, bit_digit, digits_of, line_of}
use Rattle.prog_text.proofs.Sound.{IsSoundText, all_imply, ascii_one, sound_ascii, sound_nil, sound_append, sound_name, sound_decimal, word_of, instance_sound, instance_some, pin_sound, pin_some, mode_named, mode_name_is}
use Rattle.prog_map.proofs.Instances.{ModeIs, mode_is_there}
use Rattle.prog_text.proofs.Written.{edge_mode_there}
use Rattle.prog_text.proofs.Tabled.{table-push}

-- a word of a line
pub record IsPlainWord (text : List ℕ) : Type 0 where
  pub word : IsWord text
  pub sound : IsSoundText text

pub plain_word : (text : List ℕ) → text ≢ [] → IsSoundText text → IsPlainWord text
plain_word text some sound = record { word = word_of text some sound; sound = sound }

utf8_blank : IsUtf8 (32 ∷ [])
utf8_blank = ascii_one 32 (lit< tt)

-- bytes that may stand in a line: no line feed and no carriage return
abbrev pub is_kept : ℕ → Bool
is_kept b = not ((b == 10) || (b == 13))

-- a text that may stand in a line
pub record IsLineText (text : List ℕ) : Type 0 where
  pub kept : AllPass is_kept text
  pub utf8 : IsUtf8 text

pub line_of_sound : (text : List ℕ) → IsSoundText text → IsLineText text
line_of_sound text sound = record { kept = all_imply is_word_byte is_kept text (λ x e. by x e) sound.dark; utf8 = sound.utf8 }
  where
    by : (x : ℕ) → is_word_byte x ≡ true → is_kept x ≡ true
    by x e = grind (arith, nat_tests)

-- a word, a blank and what follows
pub line_more : (word rest : List ℕ) → IsSoundText word → IsLineText rest → IsLineText (word ++ 32 ∷ rest)
line_more word rest sound line =
    let first = line_of_sound word sound in
    record {
      kept =
          All-append (λ x. is_kept x ≡ true) word (32 ∷ rest) first.kept
          (All-cons (λ x. is_kept x ≡ true) 32 rest refl line.kept);
      utf8 = IsUtf8-append word (32 ∷ rest) first.utf8 (IsUtf8-append (32 ∷ []) rest utf8_blank line.utf8);
    }

first_word : (word rest : List ℕ) → IsWord word → IsFirstWord (word ++ 32 ∷ rest) word rest
first_word word rest is = record { spelled = refl; is_word = is }

-- the text is a line that divides into these words
pub record IsLineOf (text : List ℕ) (words : List (List ℕ)) : Type 0 where
  pub line : IsLineText text
  pub divided : AreWords text words

pub last_word : (word : List ℕ) → IsPlainWord word → IsLineOf word (word ∷ [])
last_word word is = record { line = line_of_sound word is.sound; divided = (refl, is.word) }

pub word_more : (word rest next : List ℕ) (words : List (List ℕ)) → IsPlainWord word → IsLineOf rest (next ∷ words) → IsLineOf (word ++ 32 ∷ rest) (word ∷ next ∷ words)
word_more word rest next words is line = record {
  line = line_more word rest is.sound line.line;
  divided = (rest, first_word word rest is.word, line.divided);
}

word_mode : IsPlainWord (codes "mode")
word_mode = plain_word (codes "mode") (λ e. cc) (sound_ascii 109 _ refl (lit< tt) (sound_ascii 111 _ refl (lit< tt) (sound_ascii 100 _ refl (lit< tt) (sound_ascii 101 _ refl (lit< tt) sound_nil))))

word_pin : IsPlainWord (codes "pin")
word_pin = plain_word (codes "pin") (λ e. cc) (sound_ascii 112 _ refl (lit< tt) (sound_ascii 105 _ refl (lit< tt) (sound_ascii 110 _ refl (lit< tt) sound_nil)))

word_used : IsPlainWord (codes "used")
word_used = plain_word (codes "used") (λ e. cc) (sound_ascii 117 _ refl (lit< tt) (sound_ascii 115 _ refl (lit< tt) (sound_ascii 101 _ refl (lit< tt) (sound_ascii 100 _ refl (lit< tt) sound_nil))))

word_lut : IsPlainWord (codes "lut")
word_lut = plain_word (codes "lut") (λ e. cc) (sound_ascii 108 _ refl (lit< tt) (sound_ascii 117 _ refl (lit< tt) (sound_ascii 116 _ refl (lit< tt) sound_nil)))

word_wire : IsPlainWord (codes "wire")
word_wire = plain_word (codes "wire") (λ e. cc) (sound_ascii 119 _ refl (lit< tt) (sound_ascii 105 _ refl (lit< tt) (sound_ascii 114 _ refl (lit< tt) (sound_ascii 101 _ refl (lit< tt) sound_nil))))

word_table : IsPlainWord (codes "table")
word_table = plain_word (codes "table") (λ e. cc) (sound_ascii 116 _ refl (lit< tt) (sound_ascii 97 _ refl (lit< tt) (sound_ascii 98 _ refl (lit< tt) (sound_ascii 108 _ refl (lit< tt) (sound_ascii 101 _ refl (lit< tt) sound_nil)))))

-- the digits of a table
one_digit : (b : Bool) → IsSoundText (bit_digit b ∷ [])
one_digit true = sound_ascii 49 [] refl (lit< tt) sound_nil
one_digit false = sound_ascii 48 [] refl (lit< tt) sound_nil

digits_sound : (t : List Bool) → IsSoundText (digits_of t)
digits_sound [] = sound_nil
digits_sound (b ∷ t) = sound_append (digits_of t) (bit_digit b ∷ []) (digits_sound t) (one_digit b)

some_digits : (t : List Bool) (b : Bool) → digits_of t ++ bit_digit b ∷ [] ≢ []
some_digits t b = by (digits_of t)
  where
    by : (xs : List ℕ) → xs ++ bit_digit b ∷ [] ≢ []
    by [] e = cc
    by (x ∷ xs) e = cc

digits_are_bits : (t : List Bool) → AllPass is_bit (digits_of t)
digits_are_bits [] = All-nil (λ x. is_bit x ≡ true)
digits_are_bits (b ∷ t) =
    All-append (λ x. is_bit x ≡ true) (digits_of t) (bit_digit b ∷ []) (digits_are_bits t) (All-cons (λ x. is_bit x ≡ true) (bit_digit b) [] (bit b) (All-nil (λ x. is_bit x ≡ true)))
  where
    bit : (b : Bool) → is_bit (bit_digit b) ≡ true
    bit true = refl
    bit false = refl

-- the digits of a table write that table
pub table_back : (t : List Bool) → table_of (digits_of t) ≡ t
table_back [] = refl
table_back (b ∷ t) = table-push (digits_of t) (bit_digit b) ∙ ap (λ x. x ∷ table_of (digits_of t)) (same b) ∙ ap (λ x. b ∷ x) (table_back t)
  where
    same : (b : Bool) → (bit_digit b == 49) ≡ b
    same true = refl
    same false = refl

-- the line of a setting is read as that setting
pub record ReadsBack (g : Graph) (x : Setting) : Type 0 where
  pub line : IsLineText (line_of g x)
  pub some : line_of g x ≢ []
  pub saying : Saying
  pub says : Says (line_of g x) saying
  pub names : Names g saying x

reads_by : (g : Graph) (x : Setting) (first next : List ℕ) (words : List (List ℕ)) (saying : Saying) → IsLineOf (line_of g x) (first ∷ next ∷ words) →
    WordsSay (first ∷ next ∷ words) saying → Names g saying x → ReadsBack g x
reads_by g x first next words saying is say names = record {
  line = is.line;
  some = λ e. some_line (subst (λ t. IsFirstWord t first is.divided.0) e is.divided.1);
  saying = saying;
  says = record { utf8 = is.line.utf8; words = first ∷ next ∷ words; divided = is.divided; say = say };
  names = names;
}
  where
    nothing : (w r : List ℕ) → [] ≡ w ++ 32 ∷ r → ⊥
    nothing [] r e = cc
    nothing (a ∷ w) r e = cc

    some_line : IsFirstWord [] first is.divided.0 → ⊥
    some_line f = nothing first is.divided.0 f.spelled

module _ (g : Graph) (law : IsExpansion g) (plain : HasPlainNames g.root) where
  instance_word : (pb : ℕ) → pb < length g.instances → IsPlainWord (instance_name g pb)
  instance_word pb inside = plain_word (instance_name g pb) (instance_some g pb plain inside) (instance_sound g pb plain inside)

  pin_word : (n : ℕ) → n < length g.pins → IsPlainWord (pin_name g n)
  pin_word n inside = plain_word (pin_name g n) (pin_some g n law plain inside) (pin_sound g n law plain inside)

  mode_word : (pb mode : ℕ) → ModeIs g pb mode → IsPlainWord (mode_name g pb mode)
  mode_word pb mode m =
      let is = mode_named g pb mode plain m in
      subst IsPlainWord (sym (mode_name_is g pb mode m)) (plain_word (name_of_mode m.is) is.some (sound_name (name_of_mode m.is) is))

  names_instance : (pb : ℕ) → pb < length g.instances → NamesInstance g (instance_name g pb) pb
  names_instance pb inside = record { there = inside; spelled = refl }

  pub mode_reads : (pb mode : ℕ) → IsModeOf g pb mode → HasModes g pb → ReadsBack g (Mode (pb_ix pb) mode)
  mode_reads pb mode is has =
      let m = mode_is_there g pb mode is in
      reads_by g (Mode (pb_ix pb) mode) (codes "mode") (instance_name g pb) (mode_name g pb mode ∷ []) (says_mode (instance_name g pb) (mode_name g pb mode))
      (word_more (codes "mode") _ (instance_name g pb) _ word_mode (word_more (instance_name g pb) _ (mode_name g pb mode) [] (instance_word pb m.inside) (last_word _ (mode_word pb mode m))))
      refl (names_instance pb m.inside, has, record { is = m.is; there = m.mode_there; spelled = mode_name_is g pb mode m })

  pub used_reads : (pb : ℕ) → pb < length g.instances → IsLeaf g pb → ReadsBack g (Used (pb_ix pb))
  used_reads pb inside leaf =
      reads_by g (Used (pb_ix pb)) (codes "used") (instance_name g pb) [] (says_used (instance_name g pb))
      (word_more (codes "used") _ (instance_name g pb) [] word_used (last_word _ (instance_word pb inside)))
      refl (names_instance pb inside, leaf)

  pub wire_reads : (pb input : ℕ) → pb < length g.instances → input < 2 ^ 32 → IsLutChoice g pb (Wire input) → ReadsBack g (Lut (pb_ix pb) (Wire input))
  wire_reads pb input inside small is =
      let fits : input < 2 ^ 64 = omega arith in
      let numeral = decimal_is_IsNumeral input fits in
      reads_by g (Lut (pb_ix pb) (Wire input)) (codes "lut") (instance_name g pb) (codes "wire" ∷ decimal input ∷ []) (says_wire (instance_name g pb) input)
      (word_more (codes "lut") _ (instance_name g pb) _ word_lut
      (word_more (instance_name g pb) _ (codes "wire") _ (instance_word pb inside)
      (word_more (codes "wire") _ (decimal input) [] word_wire (last_word _ (plain_word (decimal input) (some_decimal numeral.0.0) (sound_decimal input small))))))
      (decimal input, refl, numeral.0, numeral.1) (names_instance pb inside, refl, is)
    where
      some_decimal : 0 < length (decimal input) → decimal input ≢ []
      some_decimal long e = absurd (omega (arith, long, ap length e))

  pub table_reads : (pb : ℕ) (b : Bool) (t : List Bool) → pb < length g.instances → IsLutChoice g pb (Table (b ∷ t)) →
      ReadsBack g (Lut (pb_ix pb) (Table (b ∷ t)))
  table_reads pb b t inside is =
      reads_by g (Lut (pb_ix pb) (Table (b ∷ t))) (codes "lut") (instance_name g pb) (codes "table" ∷ digits_of (b ∷ t) ∷ [])
      (says_table (instance_name g pb) (digits_of (b ∷ t)))
      (word_more (codes "lut") _ (instance_name g pb) _ word_lut
      (word_more (instance_name g pb) _ (codes "table") _ (instance_word pb inside)
      (word_more (codes "table") _ (digits_of (b ∷ t)) [] word_table (last_word _ (plain_word (digits_of (b ∷ t)) (some_digits t b) (digits_sound (b ∷ t)))))))
      (refl, digits_are_bits (b ∷ t)) (names_instance pb inside, ap Table (sym (table_back (b ∷ t))), is)

  -- an edge, and what is written of it
  pub pick_reads : (pin mode number : ℕ) → IsEdgeInto g pin mode number → ReadsBack g (Pick (pin_ix pin) mode (edge_ix number))
  pick_reads pin mode number into =
      let e : IsEdgeOf g into.edge = law.has_edges.each into.edge (has_at g.edges number into.edge into.there) in
      let m = mode_is_there g into.edge.owner.0 into.edge.mode (edge_mode_there g number into.edge law into.there) in
      let text : edge_text g number ≡ mode_name g into.edge.owner.0 into.edge.mode ++ 32 ∷ pin_name g into.edge.src.0 =
      ap (λ o. option_map_or (λ (edge : Edge). mode_name g edge.owner.0 edge.mode ++ 32 ∷ pin_name g edge.src.0) o []) into.there in
      let dst_in : into.edge.dst.0 < length g.pins = slice_get_within g.pins into.edge.dst.0 _ e.is_dst.is_pin in
      let src_in : into.edge.src.0 < length g.pins = slice_get_within g.pins into.edge.src.0 _ e.is_src.is_pin in
      let pin_inside : pin < length g.pins = subst (λ k. k < length g.pins) into.ends dst_in in
      let words : List (List ℕ) = mode_name g into.edge.owner.0 into.edge.mode ∷ pin_name g into.edge.src.0 ∷ [] in
      let line : IsLineOf (codes "pin" ++ 32 ∷ (pin_name g pin ++ 32 ∷ (mode_name g into.edge.owner.0 into.edge.mode ++ 32 ∷ pin_name g into.edge.src.0))) (codes "pin" ∷ pin_name g pin ∷ words) =
      word_more (codes "pin") _ (pin_name g pin) _ word_pin
      (word_more (pin_name g pin) _ (mode_name g into.edge.owner.0 into.edge.mode) _ (pin_word pin pin_inside)
      (word_more (mode_name g into.edge.owner.0 into.edge.mode) _ (pin_name g into.edge.src.0) [] (mode_word into.edge.owner.0 into.edge.mode m)
      (last_word _ (pin_word into.edge.src.0 src_in)))) in
      reads_by g (Pick (pin_ix pin) mode (edge_ix number)) (codes "pin") (pin_name g pin) words
      (says_pin (pin_name g pin) (mode_name g into.edge.owner.0 into.edge.mode) (pin_name g into.edge.src.0))
      (subst (λ t. IsLineOf (codes "pin" ++ 32 ∷ (pin_name g pin ++ 32 ∷ t)) (codes "pin" ∷ pin_name g pin ∷ words)) (sym text) line)
      refl
      (record {
        edge = into.edge;
        is_pin = record { there = pin_inside; spelled = refl };
        is_source = record { there = src_in; spelled = refl };
        named = record {
          is = into.there;
          ends = into.ends;
          starts = refl;
          is_mode = record { is = m.is; there = m.mode_there; spelled = mode_name_is g into.edge.owner.0 into.edge.mode m };
        };
        is_mode = sym into.in_mode;
      })
