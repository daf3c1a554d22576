-- A list of words, named one by one.
use Rattle.std.proofs.Common.{◌≡◌, ◌<◌, ◌≤◌, ◌+◌, inl, inr, ℕ, List, [], ◌∷◌, ◌++◌, Bor, length, map, take, drop, get_or, refl, sym, ◌∙◌, ap, subst}
use Rattle.std.specs.List.{flat_map}
use Rattle.std.proofs.lemmas.List.{map-append, take_more, take_all, take-append-drop}
use Rattle.vtr_base.specs.Lists.{Has}
use Rattle.vtr_base.specs.Spans.{AreWords}
use Rattle.arch_types.specs.declared.block.PbType.{PbType}
use Rattle.arch_types.specs.declared.block.Mode.{Mode}
use Rattle.mode_edges.specs.declared.names.PinGroup.{PinGroup}
use Rattle.mode_edges.specs.declared.pin.LocalPin.{LocalPin}
use Rattle.mode_edges.specs.declared.pin.EdgeEnd.{EdgeEnd}
use Rattle.mode_edges.specs.Faults.{NamesNoPin}
use Rattle.mode_edges.specs.Groups.{AreNamed, SomeUnnamed, ReadsGroups}
use Rattle.mode_edges.specs.PinWords.{Names, NamesAll, ReadsPins, without_braces}
use Rattle.mode_edges.specs.Readers.{pins_of}

named_last : (block : PbType) (mode : Mode) (role : EdgeEnd) (words : List (List ℕ)) (groups : List PinGroup) (word : List ℕ) (group : PinGroup) →
    AreNamed block mode role words groups → Names block mode role word (pins_of group) → AreNamed block mode role (words ++ word ∷ []) (groups ++ group ∷ [])
named_last block mode role [] [] word group a is = (is, tt)
named_last block mode role [] (g ∷ gs) word group a is = absurd a
named_last block mode role (w ∷ ws) [] word group a is = absurd a
named_last block mode role (w ∷ ws) (g ∷ gs) word group a is = (a.0, named_last block mode role ws gs word group a.1 is)

texts_to : (words : List (Bor (List ℕ))) (i : ℕ) (d : Bor (List ℕ)) → i < length words →
    map (λ w. w.now) (take (i + 1) words) ≡ map (λ w. w.now) (take i words) ++ (get_or words i d).now ∷ []
texts_to words i d inside = ap (map (λ w. w.now)) (take_more words i d inside) ∙ map-append (λ w. w.now) (take i words) (get_or words i d ∷ [])

pub named_step : (block : PbType) (mode : Mode) (role : EdgeEnd) (words : List (Bor (List ℕ))) (i : ℕ) (d : Bor (List ℕ)) (old new : List PinGroup) (group : PinGroup) →
    i < length words → new ≡ old ++ group ∷ [] → AreNamed block mode role (map (λ w. w.now) (take i words)) old →
    Names block mode role (get_or words i d).now (pins_of group) → AreNamed block mode role (map (λ w. w.now) (take (i + 1) words)) new
named_step block mode role words i d old new group inside grown so_far is =
    let more = named_last block mode role (map (λ w. w.now) (take i words)) old (get_or words i d).now group so_far is in
    subst (λ (ws : List (List ℕ)). AreNamed block mode role ws new) (sym (texts_to words i d inside))
    (subst (AreNamed block mode role (map (λ w. w.now) (take i words) ++ (get_or words i d).now ∷ [])) (sym grown) more)

text_among : (words : List (Bor (List ℕ))) (i : ℕ) (d : Bor (List ℕ)) → i < length words → Has (map (λ w. w.now) words) (get_or words i d).now
text_among words i d inside =
    let last = subst (λ (ws : List (List ℕ)). Has ws (get_or words i d).now) (sym (texts_to words i d inside))
    (has_last (map (λ w. w.now) (take i words)) (get_or words i d).now) in
    has_front words (i + 1) (get_or words i d).now last
  where
    has_last : (xs : List (List ℕ)) (x : List ℕ) → Has (xs ++ x ∷ []) x
    has_last [] x = inl refl
    has_last (y ∷ xs) x = inr (has_last xs x)

    has_left : (xs ys : List (List ℕ)) (x : List ℕ) → Has xs x → Has (xs ++ ys) x
    has_left [] ys x h = absurd h
    has_left (y ∷ xs) ys x (inl e) = inl e
    has_left (y ∷ xs) ys x (inr h) = inr (has_left xs ys x h)

    has_front : (ws : List (Bor (List ℕ))) (n : ℕ) (x : List ℕ) → Has (map (λ w. w.now) (take n ws)) x → Has (map (λ w. w.now) ws) x
    has_front ws n x h =
        subst (λ (l : List (Bor (List ℕ))). Has (map (λ w. w.now) l) x) (take-append-drop n ws)
        (subst (λ (l : List (List ℕ)). Has l x) (sym (map-append (λ w. w.now) (take n ws) (drop n ws)))
        (has_left (map (λ w. w.now) (take n ws)) (map (λ w. w.now) (drop n ws)) x h))

pub word_unnamed : (block : PbType) (mode : Mode) (role : EdgeEnd) (words : List (Bor (List ℕ))) (i : ℕ) (d : Bor (List ℕ)) → i < length words →
    ((pins : List LocalPin) → Names block mode role (get_or words i d).now pins → ⊥) → SomeUnnamed block mode role (map (λ w. w.now) words)
word_unnamed block mode role words i d inside none = record { word = (get_or words i d).now; among = text_among words i d inside; none = none }

pub all_named : (block : PbType) (mode : Mode) (role : EdgeEnd) (words : List (Bor (List ℕ))) (i : ℕ) (groups : List PinGroup) → length words ≤ i →
    AreNamed block mode role (map (λ w. w.now) (take i words)) groups → AreNamed block mode role (map (λ w. w.now) words) groups
all_named block mode role words i groups end so_far =
    subst (λ (ws : List (Bor (List ℕ))). AreNamed block mode role (map (λ w. w.now) ws) groups) (take_all i words end) so_far

-- the words of a text that was taken apart
words_here : (text plain plain' : List ℕ) (words : List (List ℕ)) → plain ≡ without_braces text → plain' ≡ plain → AreWords plain' words → AreWords (without_braces text) words
words_here text plain plain' words drop_braces same are = subst (λ (t : List ℕ). AreWords t words) (same ∙ drop_braces) are

pub text_unnamed : (block : PbType) (mode : Mode) (role : EdgeEnd) (text plain plain' : List ℕ) (words words' : List (Bor (List ℕ))) → plain ≡ without_braces text → plain' ≡ plain →
    AreWords plain' (map (λ w. w.now) words) → words' ≡ words → SomeUnnamed block mode role (map (λ w. w.now) words') → NamesNoPin block mode role text
text_unnamed block mode role text plain plain' words words' drop_braces same are same_words none = record {
  word = none.word;
  here = record {
    words = map (λ w. w.now) words;
    are_words = words_here text plain plain' (map (λ w. w.now) words) drop_braces same are;
    among = subst (λ (ws : List (Bor (List ℕ))). Has (map (λ w. w.now) ws) none.word) same_words none.among;
  };
  none = none.none;
}

pub text_named : (block : PbType) (mode : Mode) (role : EdgeEnd) (text plain plain' : List ℕ) (words words' : List (Bor (List ℕ))) (groups : List PinGroup) → plain ≡ without_braces text →
    plain' ≡ plain → AreWords plain' (map (λ w. w.now) words) → words' ≡ words → AreNamed block mode role (map (λ w. w.now) words') groups →
    ReadsGroups block mode role text groups
text_named block mode role text plain plain' words words' groups drop_braces same are same_words named = record {
  words = map (λ w. w.now) words;
  are_words = words_here text plain plain' (map (λ w. w.now) words) drop_braces same are;
  named = subst (λ (ws : List (Bor (List ℕ))). AreNamed block mode role (map (λ w. w.now) ws) groups) same_words named;
}

named_pins : (block : PbType) (mode : Mode) (role : EdgeEnd) (words : List (List ℕ)) (groups : List PinGroup) → AreNamed block mode role words groups →
    NamesAll block mode role words (flat_map pins_of groups)
named_pins block mode role [] [] a = refl
named_pins block mode role [] (g ∷ gs) a = absurd a
named_pins block mode role (w ∷ ws) [] a = absurd a
named_pins block mode role (w ∷ ws) (g ∷ gs) a = (pins_of g, flat_map pins_of gs, a.0, named_pins block mode role ws gs a.1, refl)

-- the pins of the groups are those that the text names
pub groups_pins : (block : PbType) (mode : Mode) (role : EdgeEnd) (text : List ℕ) (groups : List PinGroup) → ReadsGroups block mode role text groups →
    ReadsPins block mode role text (flat_map pins_of groups)
groups_pins block mode role text groups r = record { words = r.words; are_words = r.are_words; names = named_pins block mode role r.words groups r.named }
