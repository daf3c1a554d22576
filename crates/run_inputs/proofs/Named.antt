-- Names of block types, one by one.
use Rattle.std.proofs.Common.{◌≡◌, ◌<◌, ◌≤◌, ◌+◌, ◌⊎◌, inl, inr, ℕ, zero, suc, List, [], ◌∷◌, length, get_or, map, sym, ap, ◌∙◌, Some, arith}
use Rattle.std.specs.Prelude.{slice_get}
use Rattle.std.proofs.lemmas.Bool.{cases_eq}
use Rattle.std.proofs.lemmas.List.{length-map}
use Rattle.std.proofs.lemmas.Option.{slice_get_within, slice_get-get_or}
use Rattle.vtr_base.specs.Lists.{IsFirstPlace}
use Rattle.arch_types.specs.declared.block.PbType.{PbType}
use Rattle.run_inputs.specs.Architectures.{names_of}

-- a word is none of the names before a place
abbrev pub NoneBefore : List (List ℕ) → List ℕ → ℕ → Type 0
NoneBefore names word place = (k : ℕ) → k < place → slice_get names k ≡ Some word → ⊥

some_same : {X : Type 0} {x y : X} → Some x ≡ Some y → x ≡ y
some_same e = cc

map_at : {X Y : Type 0} (f : X → Y) (xs : List X) (n : ℕ) (x : X) → slice_get xs n ≡ Some x → slice_get (map f xs) n ≡ Some (f x)
map_at f [] n x there = cc
map_at f (y ∷ ys) zero x there = ap (λ z. Some (f z)) (some_same there)
map_at f (y ∷ ys) (suc n) x there = map_at f ys n x there

pub name_at : (blocks : List PbType) (n : ℕ) (block : PbType) → n < length blocks → block ≡ get_or blocks n block → slice_get (names_of blocks) n ≡ Some block.name
name_at blocks n block inside read =
    map_at (λ (b : PbType). b.name) blocks n block (slice_get-get_or blocks n block inside ∙ ap Some (sym read))

pub none_more : (blocks : List PbType) (word : List ℕ) (n : ℕ) (block : PbType) → n < length blocks → block ≡ get_or blocks n block →
    NoneBefore (names_of blocks) word n → (block.name ≡ word → ⊥) → NoneBefore (names_of blocks) word (n + 1)
none_more blocks word n block inside read before other k low at = by_place (cases_eq k n)
  where
    by_place : (k ≡ n) ⊎ (k ≡ n → ⊥) → ⊥
    by_place (inl e) = other (some_same (sym (name_at blocks n block inside read) ∙ sym (ap (λ p. slice_get (names_of blocks) p) e) ∙ at))
    by_place (inr apart) = before k (omega arith) at

pub none_at_all : (blocks : List PbType) (word : List ℕ) (n : ℕ) → length blocks ≤ n → NoneBefore (names_of blocks) word n →
    (k : ℕ) → slice_get (names_of blocks) k ≡ Some word → ⊥
none_at_all blocks word n past before k at =
    let inside = slice_get_within (names_of blocks) k word at in
    let long : length (names_of blocks) ≡ length blocks = length-map blocks (λ (b : PbType). b.name) in
    before k (omega (arith, inside, long)) at

pub first_named : (blocks : List PbType) (word : List ℕ) (n : ℕ) (block : PbType) → n < length blocks → block ≡ get_or blocks n block →
    NoneBefore (names_of blocks) word n → block.name ≡ word → IsFirstPlace (names_of blocks) word n
first_named blocks word n block inside read before same = record {
  there = name_at blocks n block inside read ∙ ap Some same;
  first = before;
}
