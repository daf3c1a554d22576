-- The pins of a box: what their words say, and what is placed of them.
use Rattle.std.proofs.Common.{◌≡◌, ◌==◌, ◌<◌, ◌≤◌, ◌+◌, ◌^◌, ◌↔◌, inl, inr, ℕ, not, true, List, [], ◌∷◌, ◌++◌, Some, length, get_or, drop, map, length-append, append_assoc, append-nil, refl, sym, ap, ◌∙◌, subst, arith}
use Rattle.std.specs.Prelude.{slice_get, codes, IsTrue, IsUtf8}
use Rattle.std.specs.List.{All, AllPass}
use Rattle.std.proofs.lemmas.List.{map-append}
use Rattle.std.proofs.lemmas.List.Elements.{All-nil, All-cons, All-head, All-tail, All-append}
use Rattle.std.proofs.lemmas.Str.{IsUtf8-drop, IsCharBoundary-after_ascii}
use Rattle.vtr_base.specs.Lists.{Has}
use Rattle.vtr_base.specs.Spans.{is_word_byte, Lacks}
use Rattle.list_laws.specs.Orders.{Once}
use Rattle.list_laws.proofs.Onces.{once_pushed}
use Rattle.list_laws.proofs.Places.{get_front}
use Rattle.arch_types.specs.declared.arch.CellModel.{CellModel}
use Rattle.names.specs.Naming.{AddsName}
use Rattle.net_types.specs.Words.{IsWord, IsNetName}
use Rattle.blif_nets.specs.Mentions.{IsNumbered}
use Rattle.blif_boxes.specs.Pins.{ActualSaid, says_unconnected, says_net, PinSaid, IsFormal, IsActual}
use Rattle.blif_pins.specs.Pins.{IsPort, Formal, formal, IsNextPin, AreNextPins, ArePins}
use Rattle.blif_books.specs.Books.{BookSaid, Mentions, MentionsAll}
use Rattle.blif_items.specs.declared.elem.PinAt.{PinAt}
use Rattle.blif_items.specs.Pins.{IsPinAt, PlacesPin, PlacesPins}
use Rattle.model_steps.specs.Fits.{formal_at, IsPinOf}

-- what stands behind an ASCII byte of a word

back_all : {X : Type 0} (P : X → Type 0) (xs ys : List X) → All P (xs ++ ys) → All P ys
back_all P [] ys all = all
back_all P (x ∷ xs) ys all = back_all P xs ys (All-tail P x (xs ++ ys) all)

at_seam : (front rest : List ℕ) (b : ℕ) → get_or (front ++ b ∷ rest) (length front) 0 ≡ b
at_seam [] rest b = refl
at_seam (f ∷ front) rest b = at_seam front rest b

drop_seam : (front rest : List ℕ) → drop (length front) (front ++ rest) ≡ rest
drop_seam [] rest = refl
drop_seam (f ∷ front) rest = drop_seam front rest

drop_past : (front rest : List ℕ) (b : ℕ) → drop (length front + 1) (front ++ b ∷ rest) ≡ rest
drop_past front rest b =
    let long : length (front ++ b ∷ []) ≡ length front + 1 = omega (arith, length-append front (b ∷ [])) in
    ap (λ n. drop n (front ++ b ∷ rest)) (sym long) ∙ (ap (drop (length (front ++ b ∷ []))) (sym (append_assoc front (b ∷ []) rest)) ∙ drop_seam (front ++ b ∷ []) rest)

behind_ascii : (front rest : List ℕ) (b : ℕ) → b < 128 → IsUtf8 (front ++ b ∷ rest) → IsUtf8 rest
behind_ascii front rest b low utf8 =
    subst IsUtf8 (drop_past front rest b)
    (IsUtf8-drop (front ++ b ∷ rest) (length front + 1) utf8
    (IsCharBoundary-after_ascii (front ++ b ∷ rest) (length front) utf8 (omega (arith, length-append front (b ∷ rest))) (omega (arith, at_seam front rest b, low))))

word_behind : (word front rest : List ℕ) (b : ℕ) → b < 128 → word ≡ front ++ b ∷ rest → (rest ≡ [] → ⊥) → IsWord word → IsWord rest
word_behind word front rest b low spelled some is = record {
  some = some;
  dark = All-tail (λ x. is_word_byte x ≡ true) b rest (back_all (λ x. is_word_byte x ≡ true) front (b ∷ rest) (subst (AllPass is_word_byte) spelled is.dark));
  plain = All-tail (λ x. not (x == 35) ≡ true) b rest (back_all (λ x. not (x == 35) ≡ true) front (b ∷ rest) (subst (λ t. Lacks t 35) spelled is.plain));
  utf8 = behind_ascii front rest b low (subst IsUtf8 spelled is.utf8);
}

-- a pin of a box by its word

abbrev pub IsFree : ActualSaid → Type 0
IsFree says_unconnected = Unit {0}
IsFree (says_net name) = IsNetName name × (name ≡ codes "unconn" → ⊥)

pub record IsGoodPin (model : CellModel) (p : PinSaid) : Type 0 where
  pub port : IsPort model p.port
  pub bit : p.bit < 2 ^ 32
  pub free : IsFree p.actual

actual_free : (word front rest : List ℕ) (a : ActualSaid) → IsWord word → word ≡ front ++ 61 ∷ rest → IsActual rest a → IsFree a
actual_free word front rest says_unconnected is spelled actual = tt
actual_free word front rest (says_net name) is spelled actual =
    let named : rest ≡ name = actual.0 in
    (record { word = subst IsWord named (word_behind word front rest 61 (omega arith) spelled (λ none. actual.3 (sym named ∙ none)) is); free = actual.1 }, actual.2)

bit_low : (text port : List ℕ) (bit : ℕ) → IsFormal text port bit → bit < 2 ^ 32
bit_low text port bit (inl whole) = omega (arith, whole.2)
bit_low text port bit (inr cut) = cut.2.below

good_pin : (model : CellModel) (before : List PinSaid) (word : List ℕ) (p : PinSaid) → IsWord word → IsNextPin model before word p → IsGoodPin model p
good_pin model before word p is next = record {
  port = next.port;
  bit = bit_low next.says.formal p.port p.bit next.says.is_formal;
  free = actual_free word next.says.formal next.says.actual p.actual is next.says.divided.spelled next.says.is_actual;
}

pub record AreGoodPins (model : CellModel) (limit : ℕ) (pins : List PinSaid) : Type 0 where
  pub each : All (IsGoodPin model) pins
  pub once : Once (map formal pins)
  pub few : length pins ≤ limit

good_pins_from : (model : CellModel) (before : List PinSaid) (words : List (List ℕ)) (all : List PinSaid) → All (IsGoodPin model) before → Once (map formal before) → All IsWord words →
    AreNextPins model before words all → AreGoodPins model (length before + length words) all
good_pins_from model before [] all good once are next = record {
  each = subst (All (IsGoodPin model)) (sym next) good;
  once = subst (λ ps. Once (map formal ps)) (sym next) once;
  few = omega (arith, ap length next);
}
good_pins_from model before (word ∷ words) all good once are next =
    let p = next.0 in
    let one = good_pin model before word p (All-head IsWord word words are) next.1 in
    let grown : Once (map formal (before ++ p ∷ [])) = subst Once (sym (map-append formal before (p ∷ []))) (once_pushed (map formal before) (formal p) once next.1.new) in
    let rest = good_pins_from model (before ++ p ∷ []) words all (All-append (IsGoodPin model) before (p ∷ []) good (All-cons (IsGoodPin model) p [] one (All-nil (IsGoodPin model)))) grown
    (All-tail IsWord word words are) next.2 in
    record { each = rest.each; once = rest.once; few = omega (arith, rest.few, length-append before (p ∷ [])) }

pub good_pins : (model : CellModel) (words : List (List ℕ)) (pins : List PinSaid) → All IsWord words → ArePins model words pins → AreGoodPins model (length words) pins
good_pins model words pins are next =
    let all = good_pins_from model [] words pins (All-nil (IsGoodPin model)) tt are next in
    record { each = all.each; once = all.once; few = omega (arith, all.few) }

-- pins that are placed

abbrev name_of : ActualSaid → List (List ℕ)
name_of says_unconnected = []
name_of (says_net name) = name ∷ []

abbrev pub actuals : List PinSaid → List (List ℕ)
actuals [] = []
actuals (p ∷ ps) = name_of p.actual ++ actuals ps

abbrev pub nets_at : List PinAt → List ℕ
nets_at pins = map (λ (p : PinAt). p.net) pins

name_few : (a : ActualSaid) → length (name_of a) ≤ 1
name_few says_unconnected = omega arith
name_few (says_net name) = omega arith

pub actuals_few : (pins : List PinSaid) → length (actuals pins) ≤ length pins
actuals_few [] = omega arith
actuals_few (p ∷ ps) = omega (arith, actuals_few ps, name_few p.actual, length-append (name_of p.actual) (actuals ps))

name_net : (model : CellModel) (p : PinSaid) (a : ActualSaid) → IsFree a → All IsNetName (name_of a)
name_net model p says_unconnected free = All-nil IsNetName
name_net model p (says_net name) free = All-cons IsNetName name [] free.0 (All-nil IsNetName)

pub actual_nets : (model : CellModel) (pins : List PinSaid) → All (IsGoodPin model) pins → All IsNetName (actuals pins)
actual_nets model [] good = All-nil IsNetName
actual_nets model (p ∷ ps) good =
    All-append IsNetName (name_of p.actual) (actuals ps) (name_net model p p.actual (All-head (IsGoodPin model) p ps good).free) (actual_nets model ps (All-tail (IsGoodPin model) p ps good))

-- what is placed of one pin, and of pins

pub record ArePlaced (model : CellModel) (names : List (List ℕ)) (formals : List Formal) (old new : BookSaid) (placed : List PinAt) : Type 0 where
  pub mentions : MentionsAll old names new (nets_at placed)
  pub grown : (more : List (List ℕ)) × (new.nets ≡ old.nets ++ more)
  pub as_many : length placed ≡ length names
  pub known : (f : Formal) → Has (map formal_at placed) f → Has formals f
  pub once : Once (map formal_at placed)
  pub fits : (more : List (List ℕ)) → All (IsPinOf model (new.nets ++ more)) placed

formal_same : (model : CellModel) (p : PinSaid) (net : ℕ) (pin : PinAt) → IsPinAt model p net pin → formal_at pin ≡ formal p
formal_same model p net pin is = ap (λ t. formal_of t pin.bit) is.port ∙ ap (λ b. formal_of p.port b) is.bit
  where
    formal_of : List ℕ → ℕ → Formal
    formal_of port bit = record { port = port; bit = bit }

pin_of : (model : CellModel) (p : PinSaid) (name : List ℕ) (nets more : List (List ℕ)) (net : ℕ) (pin : PinAt) → IsPort model p.port → p.bit < 2 ^ 32 → (name ≡ codes "unconn" → ⊥) →
    slice_get nets net ≡ Some name → IsPinAt model p net pin → IsPinOf model (nets ++ more) pin
pin_of model p name nets more net pin port bit free at is = record {
  port = subst (IsPort model) (sym is.port) port;
  side = subst (λ t. IsTrue pin.is_output ↔ Has model.outs t) (sym is.port) is.side;
  bit = omega (arith, is.bit, bit);
  name = name;
  named = subst (λ n. slice_get (nets ++ more) n ≡ Some name) (sym is.net_is) (get_front nets more net name at);
  free = free;
}

adds_grow : (old : List (List ℕ)) (name : List ℕ) (new : List (List ℕ)) → AddsName old name new → (more : List (List ℕ)) × (new ≡ old ++ more)
adds_grow old name new (inl known) = ([], known.1 ∙ sym (append-nil old))
adds_grow old name new (inr fresh) = (name ∷ [], fresh.1)

no_pin_placed : (model : CellModel) (old new : BookSaid) (placed : List PinAt) → new ≡ old → placed ≡ [] → ArePlaced model [] [] old new placed
no_pin_placed model old new placed same none = record {
  mentions = record {
    numbered = (ap (λ (b : BookSaid). b.nets) same, ap nets_at none);
    driven = ap (λ (b : BookSaid). b.driven) same;
    names_kept = ap (λ (b : BookSaid). b.names) same;
  };
  grown = ([], ap (λ (b : BookSaid). b.nets) same ∙ sym (append-nil old.nets));
  as_many = ap length none;
  known = λ f has. subst (λ ps. Has (map formal_at ps) f) none has;
  once = subst (λ ps. Once (map formal_at ps)) (sym none) tt;
  fits = λ more. subst (All (IsPinOf model (new.nets ++ more))) (sym none) (All-nil (IsPinOf model (new.nets ++ more)));
}

-- a pin that is passed over, before others
pin_passed : (model : CellModel) (names : List (List ℕ)) (formals : List Formal) (f : Formal) (old mid new : BookSaid) (here others placed : List PinAt) → mid ≡ old → here ≡ [] → placed ≡ here ++ others →
    ArePlaced model names formals mid new others → ArePlaced model names (f ∷ formals) old new placed
pin_passed model names formals f old mid new here others placed same none is rest =
    let all : others ≡ placed = sym (is ∙ ap (λ l. l ++ others) none) in
    let moved : ArePlaced model names formals old new placed =
    subst (λ b. ArePlaced model names formals b new placed) same (subst (ArePlaced model names formals mid new) all rest) in
    record {
      mentions = moved.mentions;
      grown = moved.grown;
      as_many = moved.as_many;
      known = λ g has. inr (moved.known g has);
      once = moved.once;
      fits = moved.fits;
    }

-- a pin that is placed, before others
pin_placed : (model : CellModel) (names : List (List ℕ)) (formals : List Formal) (p : PinSaid) (name : List ℕ) (old mid new : BookSaid) (net : ℕ) (pin : PinAt) (others : List PinAt) →
    IsPort model p.port → p.bit < 2 ^ 32 → (name ≡ codes "unconn" → ⊥) → (Has formals (formal p) → ⊥) → Mentions old name mid net → IsPinAt model p net pin →
    ArePlaced model names formals mid new others → ArePlaced model (name ∷ names) (formal p ∷ formals) old new (pin ∷ others)
pin_placed model names formals p name old mid new net pin others port bit free fresh mentions is rest =
    let first = adds_grow old.nets name mid.nets mentions.numbered.adds in
    let more = rest.grown.0 in
    let same : formal_at pin ≡ formal p = formal_same model p net pin is in
    record {
      mentions = record {
        numbered = (mid.nets, pin.net, nets_at others, subst (IsNumbered old.nets name mid.nets) (sym is.net_is) mentions.numbered, refl, rest.mentions.numbered);
        driven = rest.mentions.driven ∙ mentions.driven;
        names_kept = rest.mentions.names_kept ∙ mentions.names;
      };
      grown = (first.0 ++ more, rest.grown.1 ∙ (ap (λ l. l ++ more) first.1 ∙ append_assoc old.nets first.0 more));
      as_many = omega (arith, rest.as_many);
      known = λ f has. elim has [ inl here ↦ inl (here ∙ same) | inr later ↦ inr (rest.known f later) ];
      once = (λ has. fresh (subst (Has formals) same (rest.known (formal_at pin) has)), rest.once);
      fits = λ further.
          let at : slice_get new.nets net ≡ Some name = subst (λ l. slice_get l net ≡ Some name) (sym rest.grown.1) (get_front mid.nets more net name mentions.numbered.at.there) in
          All-cons (IsPinOf model (new.nets ++ further)) pin others (pin_of model p name new.nets further net pin port bit free at is) (rest.fits further);
    }

pub pins_placed : (model : CellModel) (pins : List PinSaid) (old new : BookSaid) (placed : List PinAt) → All (IsGoodPin model) pins → Once (map formal pins) → PlacesPins model pins old new placed →
    ArePlaced model (actuals pins) (map formal pins) old new placed
pins_placed model [] old new placed good once places = no_pin_placed model old new placed places.0 places.1
pins_placed model (p ∷ ps) old new placed good once places =
    by p.actual places.3 (All-head (IsGoodPin model) p ps good).free
    (pins_placed model ps places.0 new places.2 (All-tail (IsGoodPin model) p ps good) once.1 places.5)
  where
    by : (a : ActualSaid) → PlacesPin model p a old places.0 places.1 → IsFree a → ArePlaced model (actuals ps) (map formal ps) places.0 new places.2 →
        ArePlaced model (name_of a ++ actuals ps) (formal p ∷ map formal ps) old new placed
    by says_unconnected here free rest = pin_passed model (actuals ps) (map formal ps) (formal p) old places.0 new places.1 places.2 placed here.0 here.1 places.4 rest
    by (says_net name) here free rest =
        let head = All-head (IsGoodPin model) p ps good in
        let all : here.1 ∷ places.2 ≡ placed = sym (places.4 ∙ ap (λ l. l ++ places.2) here.4) in
        subst (ArePlaced model (name ∷ actuals ps) (formal p ∷ map formal ps) old new) all
        (pin_placed model (actuals ps) (map formal ps) p name old places.0 new here.0 here.1 places.2 head.port head.bit free.1 once.0 here.2 here.3 rest)
