-- A word has each form in one way at most.
use Rattle.std.proofs.Common.{◌≡◌, ℕ, List, Option, Some, None, sym, ◌∙◌, subst}
use Rattle.fasm_text.specs.Fields.{IsBitNumber, IsRange}
use Rattle.meta_parts.specs.Forms.{IsIndexed, SaysBit, HasBit, SaysRange, HasRange, SaysInstance, HasChild}
use Rattle.meta_parts.proofs.Indexing.{one_indexed}

one_bit : (i : Option (List ℕ)) (a b : ℕ) → SaysBit i a → SaysBit i b → a ≡ b
one_bit None a b x y = x ∙ sym y
one_bit (Some i) a b x y = x.value ∙ sym y.value

pub one_bit_form : (word n m : List ℕ) (a b : ℕ) → HasBit word n a → HasBit word m b → (n ≡ m) × (a ≡ b)
one_bit_form word n m a b f g =
    let same = one_indexed word n m f.index g.index f.indexed g.indexed in
    (same.0, one_bit g.index a b (subst (λ i. SaysBit i a) same.1 f.says) g.says)

-- what a caller knows of ranges
abbrev pub OneRange : Type 0
OneRange = (inside : List ℕ) (lo hi bottom top : ℕ) → IsRange inside lo hi → IsRange inside bottom top → (lo ≡ bottom) × (hi ≡ top)

one_range : OneRange → (i : Option (List ℕ)) (lo hi bottom top : ℕ) → SaysRange i lo hi → SaysRange i bottom top → (lo ≡ bottom) × (hi ≡ top)
one_range one None lo hi bottom top x y = (x.0 ∙ sym y.0, x.1 ∙ sym y.1)
one_range one (Some i) lo hi bottom top x y = one i lo hi bottom top x y

pub one_range_form : OneRange → (word n m : List ℕ) (lo hi bottom top : ℕ) → HasRange word n lo hi → HasRange word m bottom top → (n ≡ m) × (lo ≡ bottom) × (hi ≡ top)
one_range_form one word n m lo hi bottom top f g =
    let same = one_indexed word n m f.index g.index f.indexed g.indexed in
    let bits = one_range one g.index lo hi bottom top (subst (λ i. SaysRange i lo hi) same.1 f.says) g.says in
    (same.0, bits.0, bits.1)

one_instance : (i : Option (List ℕ)) (a b : ℕ) → SaysInstance i a → SaysInstance i b → a ≡ b
one_instance None a b x y = absurd x
one_instance (Some i) a b x y = x.1 ∙ sym y.1

pub one_child_form : (word n m : List ℕ) (a b : ℕ) → HasChild word n a → HasChild word m b → (n ≡ m) × (a ≡ b)
one_child_form word n m a b f g =
    let same = one_indexed word n m f.index g.index f.indexed g.indexed in
    (same.0, one_instance g.index a b (subst (λ i. SaysInstance i a) same.1 f.says) g.says)

-- what isn't indexed has no form
pub no_bit_form : (word : List ℕ) → ((name : List ℕ) (index : Option (List ℕ)) → IsIndexed word name index → ⊥) → (name : List ℕ) (bit : ℕ) → HasBit word name bit → ⊥
no_bit_form word none name bit f = none name f.index f.indexed

pub no_range_form : (word : List ℕ) → ((name : List ℕ) (index : Option (List ℕ)) → IsIndexed word name index → ⊥) → (name : List ℕ) (lo hi : ℕ) → HasRange word name lo hi → ⊥
no_range_form word none name lo hi f = none name f.index f.indexed

pub no_child_form : (word : List ℕ) → ((name : List ℕ) (index : Option (List ℕ)) → IsIndexed word name index → ⊥) → (name : List ℕ) (instance : ℕ) → HasChild word name instance → ⊥
no_child_form word none name instance f = none name f.index f.indexed

-- an index that says nothing
pub no_bit : (word n : List ℕ) (i : Option (List ℕ)) → IsIndexed word n i → ((bit : ℕ) → SaysBit i bit → ⊥) → (name : List ℕ) (bit : ℕ) → HasBit word name bit → ⊥
no_bit word n i is none name bit f = none bit (subst (λ j. SaysBit j bit) (one_indexed word name n f.index i f.indexed is).1 f.says)

pub no_range : (word n : List ℕ) (i : Option (List ℕ)) → IsIndexed word n i → ((lo hi : ℕ) → SaysRange i lo hi → ⊥) → (name : List ℕ) (lo hi : ℕ) → HasRange word name lo hi → ⊥
no_range word n i is none name lo hi f = none lo hi (subst (λ j. SaysRange j lo hi) (one_indexed word name n f.index i f.indexed is).1 f.says)

pub no_instance : (word n : List ℕ) (i : Option (List ℕ)) → IsIndexed word n i → ((instance : ℕ) → SaysInstance i instance → ⊥) → (name : List ℕ) (instance : ℕ) → HasChild word name instance → ⊥
no_instance word n i is none name instance f = none instance (subst (λ j. SaysInstance j instance) (one_indexed word name n f.index i f.indexed is).1 f.says)
