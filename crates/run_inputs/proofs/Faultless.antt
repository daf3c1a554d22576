-- A mode whose interconnects name pins rightly has no fault.
use Rattle.std.proofs.Common.{◌≡◌, ◌<◌, inl, inr, ℕ, Bool, true, false, not, List, [], ◌∷◌, ◌++◌, length, refl, sym, ◌∙◌, ap, subst, arith}
use Rattle.std.specs.List.{AllPass}
use Rattle.std.proofs.lemmas.List.Elements.{All-head, All-tail}
use Rattle.vtr_base.specs.Lists.{Has}
use Rattle.vtr_base.specs.Spans.{is_white, is_word_byte, Stops, IsSpan, AreWords}
use Rattle.arch_types.specs.declared.block.PbType.{PbType}
use Rattle.arch_types.specs.declared.block.Mode.{Mode}
use Rattle.arch_types.specs.declared.block.Inter.{Inter}
use Rattle.mode_edges.specs.declared.faults.EdgeError.{EdgeError}
use Rattle.mode_edges.specs.declared.faults.EdgeError.TheVariants.{NoSuchPin, Width, WideMux, OutOfMemory}
use Rattle.mode_edges.specs.declared.pin.LocalPin.{LocalPin}
use Rattle.mode_edges.specs.declared.pin.EdgeEnd.{EdgeEnd}
use Rattle.mode_edges.specs.declared.pin.EdgeEnd.TheVariants.{Source, End}
use Rattle.mode_edges.specs.Faults.{NamesNoPin, IsFaultless, IsFault, IsFirstFault, IsSoundMode}
use Rattle.mode_edges.specs.PinWords.{Names, NamesAll, ReadsPins, HasOneReading, without_braces}

not_both : (v : Bool) → v ≡ true → v ≡ false → ⊥
not_both v t f = cc

-- one longest front of a class of bytes
one_front : (p : ℕ → Bool) (a b x y : List ℕ) → AllPass p a → AllPass p b → Stops p x → Stops p y → a ++ x ≡ b ++ y → (a ≡ b) × (x ≡ y)
one_front p [] [] x y in_a in_b sx sy e = (refl, e)
one_front p [] (b ∷ bs) x y in_a in_b sx sy e =
    let stop : p b ≡ false = subst (λ l. Stops p l) e sx in
    absurd (not_both (p b) (All-head (λ v. p v ≡ true) b bs in_b) stop)
one_front p (a ∷ es) [] x y in_a in_b sx sy e =
    let stop : p a ≡ false = subst (λ l. Stops p l) (sym e) sy in
    absurd (not_both (p a) (All-head (λ v. p v ≡ true) a es in_a) stop)
one_front p (a ∷ es) (b ∷ bs) x y in_a in_b sx sy e =
    let rest : es ++ x ≡ bs ++ y = cc in
    let k = one_front p es bs x y (All-tail (λ v. p v ≡ true) a es in_a) (All-tail (λ v. p v ≡ true) b bs in_b) sx sy rest in
    (cc, k.1)

one_span : (p : ℕ → Bool) (text a x b y : List ℕ) → IsSpan p text a x → IsSpan p text b y → (a ≡ b) × (x ≡ y)
one_span p text a x b y s t = one_front p a b x y s.all t.all s.stops t.stops (sym s.spelled ∙ t.spelled)

behind_passes : (p : ℕ → Bool) (a x : List ℕ) → AllPass p (a ++ x) → AllPass p x
behind_passes p [] x h = h
behind_passes p (a ∷ es) x h = behind_passes p es x (All-tail (λ v. p v ≡ true) a (es ++ x) h)

-- white space alone has no word
no_word : (text gap behind word rest : List ℕ) → AllPass is_white text → IsSpan is_white text gap behind → IsSpan is_word_byte behind word rest → 0 < length word → ⊥
no_word text gap behind [] rest white s w some = omega arith
no_word text gap behind (c ∷ cs) rest white s w some =
    let tail : AllPass is_white (c ∷ (cs ++ rest)) = subst (AllPass is_white) w.spelled (behind_passes is_white gap behind (subst (AllPass is_white) s.spelled white)) in
    let bright : is_white c ≡ true = All-head (λ v. is_white v ≡ true) c (cs ++ rest) tail in
    let dark : not (is_white c) ≡ true = All-head (λ v. is_word_byte v ≡ true) c cs w.all in
    not_both (not (is_white c)) dark (ap not bright)

one_list_of_words : (ws vs : List (List ℕ)) (text : List ℕ) → AreWords text ws → AreWords text vs → ws ≡ vs
one_list_of_words [] [] text a b = refl
one_list_of_words [] (v ∷ vs) text a b = absurd (no_word text b.0 b.1 v b.2 a b.3 b.4 b.5)
one_list_of_words (w ∷ ws) [] text a b = absurd (no_word text a.0 a.1 w a.2 b a.3 a.4 a.5)
one_list_of_words (w ∷ ws) (v ∷ vs) text a b =
    let gaps = one_span is_white text a.0 a.1 b.0 b.1 a.3 b.3 in
    let first = subst (λ behind. IsSpan is_word_byte behind v b.2) (sym gaps.1) b.4 in
    let both = one_span is_word_byte a.1 w a.2 v b.2 a.4 first in
    let more = one_list_of_words ws vs a.2 a.6 (subst (λ rest. AreWords rest vs) (sym both.1) b.6) in
    cc

named_among : (block : PbType) (mode : Mode) (role : EdgeEnd) (words : List (List ℕ)) (pins : List LocalPin) (word : List ℕ) → NamesAll block mode role words pins →
    Has words word → (ps : List LocalPin) × Names block mode role word ps
named_among block mode role [] pins word a h = absurd h
named_among block mode role (w ∷ ws) pins word a (inl is) = (a.0, subst (λ (t : List ℕ). Names block mode role t a.0) (sym is) a.2)
named_among block mode role (w ∷ ws) pins word a (inr h) = named_among block mode role ws a.1 word a.3 h

-- where all words name pins, none names none
none_unnamed : (block : PbType) (mode : Mode) (role : EdgeEnd) (text : List ℕ) (pins : List LocalPin) → ReadsPins block mode role text pins →
    NamesNoPin block mode role text → ⊥
none_unnamed block mode role text pins reads no_pin =
    let here = no_pin.here in
    let one = one_list_of_words here.words reads.words (without_braces text) here.are_words reads.are_words in
    let named = named_among block mode role reads.words pins no_pin.word reads.names (subst (λ (ws : List (List ℕ)). Has ws no_pin.word) one here.among) in
    no_pin.none named.0 named.1

fault_free : HasOneReading → (block : PbType) (mode : Mode) (inter : Inter) (e : EdgeError) → IsFaultless block mode inter → IsFault block mode inter e → ⊥
fault_free one block mode inter (NoSuchPin name) ok (inl none, named) = none_unnamed block mode Source inter.input ok.ins ok.names.reads_ins none
fault_free one block mode inter (NoSuchPin name) ok (inr none, named) = none_unnamed block mode End inter.output ok.outs ok.names.reads_outs none
fault_free one block mode inter (Width name) ok (two, named) =
    let ins = one block mode Source inter.input two.ins ok.ins two.names.reads_ins ok.names.reads_ins in
    let outs = one block mode End inter.output two.outs ok.outs two.names.reads_outs ok.names.reads_outs in
    two.two_widths (ap length ins ∙ (ok.one_width two.is_direct ∙ sym (ap length outs)))
fault_free one block mode inter (WideMux name) ok (wide, named) =
    let outs = one block mode End inter.output wide.outs ok.outs wide.names.reads_outs ok.names.reads_outs in
    let narrow = ok.narrow wide.is_mux in
    elim wide.wide [ inl many ↦ narrow.0 many | inr other ↦ other (ap length outs ∙ narrow.1) ]
fault_free one block mode inter OutOfMemory ok f = f

pub sound_has_no_fault : HasOneReading → (block : PbType) (mode : Mode) (e : EdgeError) → IsSoundMode block mode → IsFirstFault block mode e → ⊥
sound_has_no_fault one block mode e sound f = fault_free one block mode f.inter e (sound f.place f.inter f.is) f.fault
