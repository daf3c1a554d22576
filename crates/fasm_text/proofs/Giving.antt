-- What a line gives is read in one way.
use Rattle.std.proofs.Common.{◌≡◌, ◌≤◌, arith, ◌⊎◌, inl, inr, ℕ, Bool, List, sym, ap, ◌∙◌, subst}
use Rattle.std.specs.List.{AllPass}
use Rattle.vtr_base.specs.Spans.{Lacks, IsCut}
use Rattle.fasm_text.specs.Fields.{IsField, IsRange, IsBracketed}
use Rattle.fasm_text.specs.Lines.{Giving, HasOneWord, HasField, Gives, IsBeforeComment, SaysNothing, SaysGiving, is_blank}
use Rattle.fasm_text.specs.Values.{IsValue}
use Rattle.fasm_text.proofs.Cuts.{not_cut, same_cut}
use Rattle.fasm_text.proofs.Fielding.{one_field}
use Rattle.fasm_text.proofs.Wording.{same_word, no_blank_word, equals_not_blank}
use Rattle.fasm_text.proofs.Valuing.{one_value}

pub no_field_word : (text : List ℕ) → ((word : List ℕ) → HasOneWord text word → ⊥) → (g : Giving) → HasField text g → ⊥
no_field_word text none g f = none f.0 f.1

pub not_field : (text word : List ℕ) → HasOneWord text word → ((name : List ℕ) (lo hi : ℕ) → IsField word name lo hi → ⊥) → (g : Giving) → HasField text g → ⊥
not_field text word is none g f = none g.name g.lo g.hi (subst (λ w. IsField w g.name g.lo g.hi) (same_word text f.0 word f.1 is) f.2)

pub gives_none : (said : List ℕ) → Lacks said 61 → ((g : Giving) → HasField said g → ⊥) → (g : Giving) → Gives said g → ⊥
gives_none said lacks none g (inl alone) = none g alone.1
gives_none said lacks none g (inr valued) = not_cut 61 said valued.0 valued.1 lacks valued.3

pub no_left : (said left right : List ℕ) → IsCut said 61 left right → ((g : Giving) → HasField left g → ⊥) → (g : Giving) → Gives said g → ⊥
no_left said left right cut none g (inl alone) = not_cut 61 said left right alone.0 cut
no_left said left right cut none g (inr valued) =
    none g (subst (λ t. HasField t g) (same_cut 61 said valued.0 valued.1 left right valued.3 cut).0 valued.4)

pub no_right : (said left right : List ℕ) → IsCut said 61 left right → ((word : List ℕ) → HasOneWord right word → ⊥) → (g : Giving) → Gives said g → ⊥
no_right said left right cut none g (inl alone) = not_cut 61 said left right alone.0 cut
no_right said left right cut none g (inr valued) =
    none valued.2 (subst (λ t. HasOneWord t valued.2) (same_cut 61 said valued.0 valued.1 left right valued.3 cut).1 valued.5)

pub no_right_value : (said left right word : List ℕ) → IsCut said 61 left right → HasOneWord right word → ((bits : List Bool) → IsValue word bits → ⊥) → (g : Giving) → Gives said g → ⊥
no_right_value said left right word cut is none g (inl alone) = not_cut 61 said left right alone.0 cut
no_right_value said left right word cut is none g (inr valued) =
    let moved = subst (λ t. HasOneWord t valued.2) (same_cut 61 said valued.0 valued.1 left right valued.3 cut).1 valued.5 in
    none g.bits (subst (λ w. IsValue w g.bits) (same_word right valued.2 word moved is) valued.6)

abbrev made : List ℕ → ℕ → ℕ → List Bool → Giving
made name lo hi bits = record { name = name; lo = lo; hi = hi; bits = bits }

same_giving : (left : List ℕ) (g h : Giving) → HasField left g → HasField left h → g.bits ≡ h.bits → g ≡ h
same_giving left g h f e bits =
    let word = same_word left f.0 e.0 f.1 e.1 in
    let same = one_field e.0 g.name h.name g.lo g.hi h.lo h.hi (subst (λ w. IsField w g.name g.lo g.hi) word f.2) e.2 in
    ap (λ n. made n g.lo g.hi g.bits) same.0 ∙ (ap (λ n. made h.name n g.hi g.bits) same.1 ∙ (ap (λ n. made h.name h.lo n g.bits) same.2 ∙ ap (made h.name h.lo h.hi) bits))

pub one_giving : (said : List ℕ) (g h : Giving) → Gives said g → Gives said h → g ≡ h
one_giving said g h (inl a) (inl b) = same_giving said g h a.1 b.1 (a.2 ∙ sym b.2)
one_giving said g h (inl a) (inr b) = absurd (not_cut 61 said b.0 b.1 a.0 b.3)
one_giving said g h (inr a) (inl b) = absurd (not_cut 61 said a.0 a.1 b.0 a.3)
one_giving said g h (inr a) (inr b) =
    let cut = same_cut 61 said a.0 a.1 b.0 b.1 a.3 b.3 in
    let word = same_word b.1 a.2 b.2 (subst (λ t. HasOneWord t a.2) cut.1 a.5) b.5 in
    same_giving b.0 g h (subst (λ t. HasField t g) cut.0 a.4) b.4 (one_value b.2 g.bits h.bits (subst (λ w. IsValue w g.bits) word a.6) b.6)

pub one_said : (line s t : List ℕ) → IsBeforeComment line s → IsBeforeComment line t → s ≡ t
one_said line s t (inl a) (inl b) = a.1 ∙ sym b.1
one_said line s t (inl a) (inr b) = absurd (not_cut 35 line t b.0 a.0 b.1)
one_said line s t (inr a) (inl b) = absurd (not_cut 35 line s a.0 b.0 a.1)
one_said line s t (inr a) (inr b) = (same_cut 35 line s a.0 t b.0 a.1 b.1).0

pub one_line_giving : (line : List ℕ) (g h : Giving) → SaysGiving line g → SaysGiving line h → g ≡ h
one_line_giving line g h a b = one_giving b.0 g h (subst (λ s. Gives s g) (one_said line a.0 b.0 a.1 b.1) a.2) b.2

blank_gives_none : (said : List ℕ) (g : Giving) → AllPass is_blank said → Gives said g → ⊥
blank_gives_none said g blank (inl alone) = no_blank_word said alone.1.0 blank alone.1.1
blank_gives_none said g blank (inr valued) = equals_not_blank said valued.0 valued.1 blank valued.3

pub nothing_given : (line : List ℕ) (g : Giving) → SaysNothing line → SaysGiving line g → ⊥
nothing_given line g a b = blank_gives_none b.0 g (subst (AllPass is_blank) (one_said line a.0 b.0 a.1 b.1) a.2) b.2

-- the words of read_line: what stands before the comment decides
pub not_nothing : (line said : List ℕ) → IsBeforeComment line said → (AllPass is_blank said → ⊥) → SaysNothing line → ⊥
not_nothing line said is filled n = filled (subst (AllPass is_blank) (one_said line n.0 said n.1 is) n.2)

pub not_giving : (line said : List ℕ) → IsBeforeComment line said → ((g : Giving) → Gives said g → ⊥) → (g : Giving) → SaysGiving line g → ⊥
not_giving line said is none g s = none g (subst (λ t. Gives t g) (one_said line s.0 said s.1 is) s.2)

range_order : (inside : List ℕ) (lo hi : ℕ) → IsRange inside lo hi → lo ≤ hi
range_order inside lo hi (inl one) = omega (arith, one.2)
range_order inside lo hi (inr two) = two.5

field_order : (text name : List ℕ) (lo hi : ℕ) → IsField text name lo hi → lo ≤ hi
field_order text name lo hi f = by f.1
  where
    by : ((Lacks text 91 × (name ≡ text) × (lo ≡ 0) × (hi ≡ 0)) ⊎ ((behind : List ℕ) × IsCut text 91 name behind × IsBracketed behind lo hi)) → lo ≤ hi
    by (inl one) = omega (arith, one.2)
    by (inr two) = range_order two.2.0 lo hi two.2.2

-- the bits of a field go from the lowest to the highest
pub giving_order : (said : List ℕ) (g : Giving) → Gives said g → g.lo ≤ g.hi
giving_order said g (inl alone) = field_order alone.1.0 g.name g.lo g.hi alone.1.2
giving_order said g (inr valued) = field_order valued.4.0 g.name g.lo g.hi valued.4.2
