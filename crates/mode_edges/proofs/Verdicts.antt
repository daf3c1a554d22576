-- What the groups of an interconnect's words say of its faults.
use Rattle.std.proofs.Common.{◌≡◌, ◌<◌, ◌≤◌, ◌+◌, ◌⊎◌, ◌↔◌, IsTrue, inl, inr, ℕ, zero, suc, Bool, false, List, [], ◌∷◌, Option, Some, None, MatchOption, Any, length, get_or, slice_get, refl, sym, ◌∙◌, ap, subst, arith}
use Rattle.std.specs.List.{flat_map}
use Rattle.std.proofs.lemmas.Bool.{cases_eq}
use Rattle.std.proofs.lemmas.Option.{slice_get_read, slice_get_within}
use Rattle.arch_types.specs.Tree.{inters_of}
use Rattle.vtr_base.specs.Lists.{Has}
use Rattle.vtr_base.specs.Spans.{AreWords}
use Rattle.arch_types.specs.declared.block.PbType.{PbType}
use Rattle.arch_types.specs.declared.block.Mode.{Mode}
use Rattle.arch_types.specs.declared.block.Inter.{Inter}
use Rattle.arch_types.specs.declared.block.InterKind.{InterKind}
use Rattle.arch_types.specs.declared.block.InterKind.TheVariants.{Direct, Mux}
use Rattle.mode_edges.specs.declared.faults.EdgeError.TheVariants.{NoSuchPin, Width, WideMux, OutOfMemory}
use Rattle.mode_edges.specs.declared.faults.EdgeError.{EdgeError}
use Rattle.mode_edges.specs.declared.names.PinGroup.{PinGroup}
use Rattle.mode_edges.specs.declared.pin.LocalPin.{LocalPin}
use Rattle.mode_edges.specs.declared.pin.EdgeEnd.{EdgeEnd}
use Rattle.mode_edges.specs.declared.pin.EdgeEnd.TheVariants.{Source, End}
use Rattle.mode_edges.specs.Faults.{NamesNoPin, NamesManyPins, NamesPins, IsFaultless, IsFault, IsFirstFault, IsSoundMode}
use Rattle.mode_edges.specs.Groups.{AreNamed, ReadsGroups}
use Rattle.mode_edges.specs.PinWords.{Names, NamesAll, ReadsPins, ReadsNoPins, ReadsPin, without_braces}
use Rattle.mode_edges.specs.Readers.{pins_of}
use Rattle.mode_edges.proofs.GroupsOf.{groups_pins}
use Rattle.mode_edges.proofs.OneMeaning.{names_one, reads_one}
use Rattle.mode_edges.proofs.OneReading.{words_one, not_both}

abbrev pub AnyWide : List PinGroup → Type 0
AnyWide groups = Any (λ g. 1 < length (pins_of g)) groups

-- the word of a group, and the group of a word
word_at : (block : PbType) (mode : Mode) (role : EdgeEnd) (words : List (List ℕ)) (groups : List PinGroup) (k : ℕ) (g : PinGroup) → AreNamed block mode role words groups →
    k < length groups → get_or groups k g ≡ g → (word : List ℕ) × Has words word × Names block mode role word (pins_of g)
word_at block mode role [] [] k g a inside is = absurd (omega arith)
word_at block mode role [] (x ∷ gs) k g a inside is = absurd a
word_at block mode role (w ∷ ws) [] k g a inside is = absurd a
word_at block mode role (w ∷ ws) (x ∷ gs) zero g a inside is =
    let same : x ≡ g = is in
    (w, inl refl, subst (λ (y : PinGroup). Names block mode role w (pins_of y)) same a.0)
word_at block mode role (w ∷ ws) (x ∷ gs) (suc k) g a inside is =
    let more = word_at block mode role ws gs k g a.1 (omega arith) is in
    (more.0, inr more.1, more.2)

group_of : (block : PbType) (mode : Mode) (role : EdgeEnd) (words : List (List ℕ)) (groups : List PinGroup) (word : List ℕ) → AreNamed block mode role words groups →
    Has words word → (k : ℕ) × (g : PinGroup) × (k < length groups) × (get_or groups k g ≡ g) × Names block mode role word (pins_of g)
group_of block mode role [] [] word a h = absurd h
group_of block mode role [] (x ∷ gs) word a h = absurd a
group_of block mode role (w ∷ ws) [] word a h = absurd a
group_of block mode role (w ∷ ws) (x ∷ gs) word a (inl is) =
    (0, x, omega arith, refl, subst (λ (t : List ℕ). Names block mode role t (pins_of x)) (sym is) a.0)
group_of block mode role (w ∷ ws) (x ∷ gs) word a (inr h) =
    let more = group_of block mode role ws gs word a.1 h in
    let inside = more.2 in
    (suc more.0, more.1, omega arith, more.3, more.4)

many_named : (block : PbType) (mode : Mode) (role : EdgeEnd) (text : List ℕ) (groups : List PinGroup) → ReadsGroups block mode role text groups → AnyWide groups →
    NamesManyPins block mode role text
many_named block mode role text groups r (k, g, inside, is, wide) =
    let at = word_at block mode role r.words groups k g r.named inside is in
    record { word = at.0; here = record { words = r.words; are_words = r.are_words; among = at.1 }; pins = pins_of g; names = at.2; many = wide }

wide_group : (block : PbType) (mode : Mode) (role : EdgeEnd) (text : List ℕ) (groups : List PinGroup) → ReadsGroups block mode role text groups →
    NamesManyPins block mode role text → AnyWide groups
wide_group block mode role text groups r m =
    let same = words_one m.here.words r.words (without_braces text) m.here.are_words r.are_words in
    let among = subst (λ (ws : List (List ℕ)). Has ws m.word) same m.here.among in
    let at = group_of block mode role r.words groups m.word r.named among in
    let pins = names_one block mode role m.word m.pins (pins_of at.1) m.names at.4 in
    (at.0, at.1, at.2, at.3, subst (λ (ps : List LocalPin). 1 < length ps) pins m.many)

-- what the words of an interconnect were found to name
pub record IsRead (block : PbType) (mode : Mode) (inter : Inter) (input output : List ℕ) (ins outs : List PinGroup) : Type 0 where
  pub is_input : input ≡ inter.input
  pub is_output : output ≡ inter.output
  pub reads_ins : ReadsGroups block mode Source input ins
  pub reads_outs : ReadsGroups block mode End output outs

pub pins_named : (block : PbType) (mode : Mode) (inter : Inter) (input output : List ℕ) (ins outs : List PinGroup) → IsRead block mode inter input output ins outs →
    NamesPins block mode inter (flat_map pins_of ins) (flat_map pins_of outs)
pins_named block mode inter input output ins outs r = record {
  reads_ins = groups_pins block mode Source inter.input ins (subst (λ (t : List ℕ). ReadsGroups block mode Source t ins) r.is_input r.reads_ins);
  reads_outs = groups_pins block mode End inter.output outs (subst (λ (t : List ℕ). ReadsGroups block mode End t outs) r.is_output r.reads_outs);
}

pub lacks_source : (block : PbType) (mode : Mode) (inter : Inter) (input name : List ℕ) → input ≡ inter.input → name ≡ inter.name →
    NamesNoPin block mode Source input → IsFault block mode inter (NoSuchPin name)
lacks_source block mode inter input name is named none = (inl (subst (NamesNoPin block mode Source) is none), named)

pub lacks_end : (block : PbType) (mode : Mode) (inter : Inter) (output name : List ℕ) → output ≡ inter.output → name ≡ inter.name →
    NamesNoPin block mode End output → IsFault block mode inter (NoSuchPin name)
lacks_end block mode inter output name is named none = (inr (subst (NamesNoPin block mode End) is none), named)

abbrev pub TwoWidths : InterKind → List PinGroup → List PinGroup → Type 0
TwoWidths kind ins outs = (kind ≡ Direct) × (length (flat_map pins_of ins) ≡ length (flat_map pins_of outs) → ⊥)

abbrev pub WideHere : InterKind → List PinGroup → List PinGroup → Type 0
WideHere kind ins outs = (kind ≡ Mux) × (AnyWide ins ⊎ (length (flat_map pins_of outs) ≡ 1 → ⊥))

pub two_widths : (block : PbType) (mode : Mode) (inter : Inter) (input output name : List ℕ) (ins outs : List PinGroup) → IsRead block mode inter input output ins outs →
    name ≡ inter.name → TwoWidths inter.kind ins outs → IsFault block mode inter (Width name)
two_widths block mode inter input output name ins outs r named two = (
  record { is_direct = two.0; ins = flat_map pins_of ins; outs = flat_map pins_of outs; names = pins_named block mode inter input output ins outs r; two_widths = two.1 },
  named,
)

pub wide_mux : (block : PbType) (mode : Mode) (inter : Inter) (input output name : List ℕ) (ins outs : List PinGroup) → IsRead block mode inter input output ins outs →
    name ≡ inter.name → WideHere inter.kind ins outs → IsFault block mode inter (WideMux name)
wide_mux block mode inter input output name ins outs r named wide = (
  record {
    is_mux = wide.0;
    ins = flat_map pins_of ins;
    outs = flat_map pins_of outs;
    names = pins_named block mode inter input output ins outs r;
    wide = elim wide.1 [
      | inl any ↦ inl (subst (λ (t : List ℕ). NamesManyPins block mode Source t) r.is_input (many_named block mode Source input ins r.reads_ins any))
      | inr other ↦ inr other
    ];
  },
  named,
)

pub faultless : (block : PbType) (mode : Mode) (inter : Inter) (input output : List ℕ) (ins outs : List PinGroup) → IsRead block mode inter input output ins outs →
    (TwoWidths inter.kind ins outs → ⊥) → (WideHere inter.kind ins outs → ⊥) → IsFaultless block mode inter
faultless block mode inter input output ins outs r one_width not_wide = record {
  ins = flat_map pins_of ins;
  outs = flat_map pins_of outs;
  names = pins_named block mode inter input output ins outs r;
  one_width = λ direct. elim (cases_eq (length (flat_map pins_of ins)) (length (flat_map pins_of outs))) [
    | inl same ↦ same
    | inr other ↦ absurd (one_width (direct, other))
  ];
  narrow = λ mux. (
    λ many. not_wide (mux, inl (wide_group block mode Source input ins r.reads_ins (subst (λ (t : List ℕ). NamesManyPins block mode Source t) (sym r.is_input) many))),
    elim (cases_eq (length (flat_map pins_of outs)) 1) [ inl one ↦ one | inr other ↦ absurd (not_wide (mux, inr other)) ],
  );
}

-- a test that says no
pub not_so : {P : Type 0} (b : Bool) → IsTrue b ↔ P → b ≡ false → P → ⊥
not_so b both f p = not_both b (both.1 p) f

pub at_both : (P : List PinGroup → List PinGroup → Type 0) (a b x y : List PinGroup) → a ≡ x → b ≡ y → P a b → P x y
at_both P a b x y is_x is_y p = subst (λ (l : List PinGroup). P l y) is_x (subst (P a) is_y p)

-- an interconnect that was read from the list of a mode stands there
pub inter_at : (mode : Mode) (items : List Inter) (i : ℕ) (inter : Inter) → items ≡ inters_of mode → i < length items → inter ≡ get_or items i inter →
    slice_get (inters_of mode) i ≡ Some inter
inter_at mode items i inter are inside is =
    subst (λ (l : List Inter). slice_get l i ≡ Some inter) are (slice_get_read items (length items) i inter refl inside is)

abbrev pub AreFaultless : PbType → Mode → ℕ → Type 0
AreFaultless block mode i = (n : ℕ) (inter : Inter) → n < i → slice_get (inters_of mode) n ≡ Some inter → IsFaultless block mode inter

less_or_same : (n i : ℕ) → n < i + 1 → (n < i) ⊎ (n ≡ i)
less_or_same n i less = grind arith

pub one_more_faultless : (block : PbType) (mode : Mode) (i : ℕ) (here : Inter) → slice_get (inters_of mode) i ≡ Some here → IsFaultless block mode here →
    AreFaultless block mode i → AreFaultless block mode (i + 1)
one_more_faultless block mode i here at is so_far n inter less there =
    elim (less_or_same n i less) [
      | inl before ↦ so_far n inter before there
      | inr same ↦ let one : here ≡ inter = cc in subst (IsFaultless block mode) one is
    ]

pub all_faultless : (block : PbType) (mode : Mode) (i : ℕ) → length (inters_of mode) ≤ i → AreFaultless block mode i → IsSoundMode block mode
all_faultless block mode i end so_far n inter there =
    let inside = slice_get_within (inters_of mode) n inter there in
    so_far n inter (omega arith) there

named_among : (block : PbType) (mode : Mode) (role : EdgeEnd) (words : List (List ℕ)) (pins : List LocalPin) (word : List ℕ) → NamesAll block mode role words pins →
    Has words word → (ps : List LocalPin) × Names block mode role word ps
named_among block mode role [] pins word a h = absurd h
named_among block mode role (w ∷ ws) pins word a (inl is) = (a.0, subst (λ (t : List ℕ). Names block mode role t a.0) (sym is) a.2)
named_among block mode role (w ∷ ws) pins word a (inr h) = named_among block mode role ws a.1 word a.3 h

-- where all words name pins, none names none
pub none_unnamed : (block : PbType) (mode : Mode) (role : EdgeEnd) (text input : List ℕ) (pins : List LocalPin) → text ≡ input → ReadsPins block mode role input pins →
    NamesNoPin block mode role text → ⊥
none_unnamed block mode role text input pins same reads no_pin =
    let here = no_pin.here in
    let are = subst (λ (t : List ℕ). AreWords (without_braces t) here.words) same here.are_words in
    let one = words_one here.words reads.words (without_braces input) are reads.are_words in
    let named = named_among block mode role reads.words pins no_pin.word reads.names (subst (λ (ws : List (List ℕ)). Has ws no_pin.word) one here.among) in
    no_pin.none named.0 named.1

-- a mode that is sound has no fault to tell
pub sound_tells_none : (block : PbType) (mode : Mode) (e : EdgeError) → IsSoundMode block mode → IsFirstFault block mode e → ⊥
sound_tells_none block mode e sound f = fault_free block mode f.inter e (sound f.place f.inter f.is) f.fault
  where
    fault_free : (block : PbType) (mode : Mode) (inter : Inter) (e : EdgeError) → IsFaultless block mode inter → IsFault block mode inter e → ⊥
    fault_free block mode inter (NoSuchPin name) ok (inl none, named) =
        none_unnamed block mode Source inter.input inter.input ok.ins refl ok.names.reads_ins none
    fault_free block mode inter (NoSuchPin name) ok (inr none, named) =
        none_unnamed block mode End inter.output inter.output ok.outs refl ok.names.reads_outs none
    fault_free block mode inter (Width name) ok (two, named) =
        let ins = reads_one block mode Source inter.input two.ins ok.ins two.names.reads_ins ok.names.reads_ins in
        let outs = reads_one block mode End inter.output two.outs ok.outs two.names.reads_outs ok.names.reads_outs in
        two.two_widths (ap length ins ∙ (ok.one_width two.is_direct ∙ sym (ap length outs)))
    fault_free block mode inter (WideMux name) ok (wide, named) =
        let outs = reads_one block mode End inter.output wide.outs ok.outs wide.names.reads_outs ok.names.reads_outs in
        let narrow = ok.narrow wide.is_mux in
        elim wide.wide [ inl many ↦ narrow.0 many | inr other ↦ other (ap length outs ∙ narrow.1) ]
    fault_free block mode inter OutOfMemory ok f = f

-- where a word names no pin, the text names none
pub reads_none : (block : PbType) (mode : Mode) (role : EdgeEnd) (text : List ℕ) → NamesNoPin block mode role text → ReadsNoPins block mode role text
reads_none block mode role text none pins reads = none_unnamed block mode role text text pins refl reads none

-- the pins of the groups are those of the text
pub reads_items : (block : PbType) (mode : Mode) (role : EdgeEnd) (text : List ℕ) (groups lent : List PinGroup) (pins : List LocalPin) → ReadsGroups block mode role text groups →
    lent ≡ groups → pins ≡ flat_map pins_of lent → ReadsPins block mode role text pins
reads_items block mode role text groups lent pins reads same are =
    subst (ReadsPins block mode role text) (sym (are ∙ ap (flat_map pins_of) same)) (groups_pins block mode role text groups reads)

-- where they are one pin, the text names that
pub reads_pin : (block : PbType) (mode : Mode) (role : EdgeEnd) (text : List ℕ) (groups lent : List PinGroup) (found : Option LocalPin) → ReadsGroups block mode role text groups →
    lent ≡ groups → MatchOption found ((pin : LocalPin) → flat_map pins_of lent ≡ pin ∷ [] → ⊥) (λ pin. flat_map pins_of lent ≡ pin ∷ []) →
    MatchOption found ((pin : LocalPin) → ReadsPin block mode role text pin → ⊥) (ReadsPin block mode role text)
reads_pin block mode role text groups lent None reads same none = λ pin one.
    none pin (reads_one block mode role text (flat_map pins_of lent) (pin ∷ []) (reads_items block mode role text groups lent (flat_map pins_of lent) reads same refl) one)
reads_pin block mode role text groups lent (Some pin) reads same is = reads_items block mode role text groups lent (pin ∷ []) reads same (sym is)
