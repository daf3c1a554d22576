-- The pins that words say, one by one.
use Rattle.std.proofs.Common.{◌≡◌, ◌<◌, ◌≤◌, ◌+◌, ◌⊎◌, ◌↔◌, inl, inr, ℕ, Bool, true, false, IsTrue, List, [], ◌∷◌, ◌++◌, Option, Some, None, MatchOption, Bor, length, map, drop, get_or, slice_get, refl, sym, ap, ◌∙◌, subst}
use Rattle.std.specs.List.{All}
use Rattle.std.proofs.lemmas.List.{map-append, drop_more, drop_all}
use Rattle.std.proofs.lemmas.List.Elements.{All-cons, All-nil, All-append}
use Rattle.vtr_base.specs.Lists.{Has}
use Rattle.list_laws.specs.Orders.{Once}
use Rattle.list_laws.proofs.Members.{has_at, has_left, has_last, has_pushed}
use Rattle.list_laws.proofs.Onces.{once_at}
use Rattle.arch_types.specs.declared.arch.CellModel.{CellModel}
use Rattle.blif_boxes.specs.Pins.{PinSaid, IsPinWord}
use Rattle.blif_elems.specs.Seen.{texts}
use Rattle.blif_pins.specs.declared.pins.BoxPin.{BoxPin}
use Rattle.blif_pins.specs.Keys.{TakesKey, IsTaken, AreTaken}
use Rattle.blif_pins.specs.Pins.{IsPort, Formal, formal, IsNextPin, AreNextPins}
use Rattle.blif_pins.specs.Ports.{Ports, Fits, IsPortAt}
use Rattle.blif_pins.specs.Seen.{said, HasSide}

-- what a caller knows of words
abbrev pub OnePin : Type 0
OnePin = (word : List ℕ) (p q : PinSaid) → IsPinWord word p → IsPinWord word q → p ≡ q

pub one_list : OnePin → (model : CellModel) (before : List PinSaid) (words : List (List ℕ)) (ps qs : List PinSaid) → AreNextPins model before words ps → AreNextPins model before words qs → ps ≡ qs
one_list one model before [] ps qs a b = a ∙ sym b
one_list one model before (word ∷ words) ps qs a b =
    let same = one word b.0 a.0 b.1.says a.1.says in
    one_list one model (before ++ a.0 ∷ []) words ps qs a.2 (subst (λ p. AreNextPins model (before ++ p ∷ []) words qs) same b.2)

abbrev formal_of : List ℕ → ℕ → Formal
formal_of port bit = record { port = port; bit = bit }

same_formal : (f : Formal) (port : List ℕ) (bit : ℕ) → f.port ≡ port → f.bit ≡ bit → f ≡ formal_of port bit
same_formal f port bit a b = ap (λ p. formal_of p f.bit) a ∙ ap (formal_of port) b

same_name : (names : List (List ℕ)) (m n : ℕ) (a b : List ℕ) → m ≡ n → slice_get names m ≡ Some a → slice_get names n ≡ Some b → a ≡ b
same_name names m n a b is x y =
    let e : Some a ≡ Some b = sym x ∙ (ap (slice_get names) is ∙ y) in
    cc

-- nothing is taken at first
pub none_taken : (names : List (List ℕ)) → AreTaken names [] []
none_taken names = record { forth = λ f taken. taken.2; back = λ f none. absurd none }

module _ (names : List (List ℕ)) (keys : List (ℕ × ℕ)) (before : List PinSaid) (p : PinSaid) (n : ℕ) (at : slice_get names n ≡ Some p.port) (taken : AreTaken names keys before) where
  forth : (f : Formal) (m : ℕ) → slice_get names m ≡ Some f.port → Has {X = ℕ × ℕ} keys (m, f.bit) ⊎ (◌≡◌ {A = ℕ × ℕ} (m, f.bit) (n, p.bit)) → Has (map formal before ++ formal p ∷ []) f
  forth f m there (inl had) = has_left (map formal before) (formal p ∷ []) f (taken.forth f (m, there, had))
  forth f m there (inr last) =
      let number : m ≡ n = ap (λ (k : ℕ × ℕ). k.0) last in
      let bit : f.bit ≡ p.bit = ap (λ (k : ℕ × ℕ). k.1) last in
      let is = same_formal f p.port p.bit (same_name names m n f.port p.port number there at) bit in
      subst (Has (map formal before ++ formal p ∷ [])) (sym is) (has_last (map formal before) (formal p))

  back : (f : Formal) → Has (map formal before) f ⊎ (f ≡ formal p) → IsTaken names (keys ++ (n, p.bit) ∷ []) f
  back f (inl had) =
      let old = taken.back f had in
      (old.0, old.1, has_left {X = ℕ × ℕ} keys ((n, p.bit) ∷ []) (old.0, f.bit) old.2)
  back f (inr last) =
      subst (IsTaken names (keys ++ (n, p.bit) ∷ [])) (sym last) (n, at, has_last {X = ℕ × ℕ} keys (n, p.bit))

  -- one more bit of a port
  pub taken_more : (new : List (ℕ × ℕ)) → new ≡ keys ++ (n, p.bit) ∷ [] → AreTaken names new (before ++ p ∷ [])
  taken_more new is =
      let pushed = map-append formal before (p ∷ []) in
      subst (λ ks. AreTaken names ks (before ++ p ∷ [])) (sym is)
      (record {
        forth = λ f t. subst (λ l. Has l f) (sym pushed) (forth f t.0 t.1 (has_pushed {X = ℕ × ℕ} keys (n, p.bit) (t.0, f.bit) t.2));
        back = λ f has. back f (has_pushed (map formal before) (formal p) f (subst (λ l. Has l f) pushed has));
      })

  pub is_new : Once names → (Has {X = ℕ × ℕ} keys (n, p.bit) → ⊥) → Has (map formal before) (formal p) → ⊥
  is_new once fresh has =
      let t = taken.back (formal p) has in
      fresh (subst (λ m. Has {X = ℕ × ℕ} keys (m, p.bit)) (once_at names once t.0 n p.port t.1 at) t.2)

  pub is_old : Has {X = ℕ × ℕ} keys (n, p.bit) → Has (map formal before) (formal p)
  is_old has = taken.forth (formal p) (n, at, has)

-- what is left of the words says the same behind the pins that are read
pub record Reads (model : CellModel) (names : List (List ℕ)) (words rest : List (List ℕ)) (keys : List (ℕ × ℕ)) (pins : List BoxPin) : Type 0 where
  pub same : (all : List PinSaid) → AreNextPins model (map said pins) rest all ↔ AreNextPins model [] words all
  pub taken : AreTaken names keys (map said pins)
  pub sides : All (HasSide model) pins

pub reads_none : (model : CellModel) (names : List (List ℕ)) (words : List (List ℕ)) → Reads model names words words [] []
reads_none model names words = record { same = λ all. (λ are. are, λ are. are); taken = none_taken names; sides = All-nil (HasSide model) }

-- one more pin
pub reads_more : OnePin → (model : CellModel) (names words rest : List (List ℕ)) (keys new : List (ℕ × ℕ)) (pins longer : List BoxPin) (word : List ℕ) (pin : BoxPin) →
    Reads model names words (word ∷ rest) keys pins → IsNextPin model (map said pins) word (said pin) → HasSide model pin → AreTaken names new (map said pins ++ said pin ∷ []) → longer ≡ pins ++ pin ∷ [] →
    Reads model names words rest new longer
reads_more one model names words rest keys new pins longer word pin so_far is side taken grown =
    let pushed : map said longer ≡ map said pins ++ said pin ∷ [] = ap (map said) grown ∙ map-append said pins (pin ∷ []) in
    record {
      same = λ all. (
        λ are. (so_far.same all).0 (said pin, is, subst (λ l. AreNextPins model l rest all) pushed are),
        λ are.
            (let next = (so_far.same all).1 are in
            subst (λ l. AreNextPins model l rest all) (sym pushed)
            (subst (λ p. AreNextPins model (map said pins ++ p ∷ []) rest all) (one word next.0 (said pin) next.1.says is.says) next.2)),
      );
      taken = subst (AreTaken names new) (sym pushed) taken;
      sides = subst (All (HasSide model)) (sym grown) (All-append (HasSide model) pins (pin ∷ []) so_far.sides (All-cons (HasSide model) pin [] side (All-nil (HasSide model))));
    }

-- a word that says no pin here
pub reads_not : (model : CellModel) (names words rest : List (List ℕ)) (keys : List (ℕ × ℕ)) (pins : List BoxPin) (word : List ℕ) →
    Reads model names words (word ∷ rest) keys pins → ((p : PinSaid) → IsNextPin model (map said pins) word p → ⊥) → (all : List PinSaid) → AreNextPins model [] words all → ⊥
reads_not model names words rest keys pins word so_far none all are = let next = (so_far.same all).1 are in none next.0 next.1

pub reads_all : (model : CellModel) (names words : List (List ℕ)) (keys : List (ℕ × ℕ)) (pins : List BoxPin) → Reads model names words [] keys pins → AreNextPins model [] words (map said pins)
reads_all model names words keys pins so_far = (so_far.same (map said pins)).0 refl

-- word by word

pub reads_start : (model : CellModel) (names : List (List ℕ)) (words : List (Bor (List ℕ))) (keys : List (ℕ × ℕ)) (pins : List BoxPin) → keys ≡ [] → pins ≡ [] →
    Reads model names (texts words) (texts words) keys pins
reads_start model names words keys pins no_keys no_pins =
    subst (λ ks. Reads model names (texts words) (texts words) ks pins) (sym no_keys)
    (subst (Reads model names (texts words) (texts words) []) (sym no_pins) (reads_none model names (texts words)))

pub reads_next : OnePin → (model : CellModel) (names : List (List ℕ)) (words : List (Bor (List ℕ))) (k : ℕ) (d : Bor (List ℕ)) (keys new : List (ℕ × ℕ)) (pins longer : List BoxPin) (pin : BoxPin) → k < length words →
    Reads model names (texts words) (texts (drop k words)) keys pins → IsNextPin model (map said pins) (get_or words k d).now (said pin) → HasSide model pin →
    AreTaken names new (map said pins ++ said pin ∷ []) → longer ≡ pins ++ pin ∷ [] → Reads model names (texts words) (texts (drop (k + 1) words)) new longer
reads_next one model names words k d keys new pins longer pin within so_far is side taken grown =
    reads_more one model names (texts words) (texts (drop (k + 1) words)) keys new pins longer (get_or words k d).now pin
    (subst (λ rest. Reads model names (texts words) rest keys pins) (ap texts (drop_more words k d within)) so_far) is side taken grown

pub reads_stop : (model : CellModel) (names : List (List ℕ)) (words : List (Bor (List ℕ))) (k : ℕ) (d : Bor (List ℕ)) (keys : List (ℕ × ℕ)) (pins : List BoxPin) → k < length words →
    Reads model names (texts words) (texts (drop k words)) keys pins → ((p : PinSaid) → IsNextPin model (map said pins) (get_or words k d).now p → ⊥) →
    (all : List PinSaid) → AreNextPins model [] (texts words) all → ⊥
reads_stop model names words k d keys pins within so_far none =
    reads_not model names (texts words) (texts (drop (k + 1) words)) keys pins (get_or words k d).now
    (subst (λ rest. Reads model names (texts words) rest keys pins) (ap texts (drop_more words k d within)) so_far) none

pub reads_end : (model : CellModel) (names : List (List ℕ)) (words : List (Bor (List ℕ))) (k : ℕ) (keys : List (ℕ × ℕ)) (pins : List BoxPin) → length words ≤ k →
    Reads model names (texts words) (texts (drop k words)) keys pins → AreNextPins model [] (texts words) (map said pins)
reads_end model names words k keys pins whole so_far =
    reads_all model names (texts words) keys pins (subst (λ rest. Reads model names (texts words) rest keys pins) (ap texts (drop_all k words whole)) so_far)

-- what is known of an option, by what it is
pub some_says : {A : Type 0} (o : Option A) (x : A) (N : Type 0) (P : A → Type 0) → o ≡ Some x → MatchOption o N P → P x
some_says o x N P is says = subst (λ r. MatchOption r N P) is says

pub none_says : {A : Type 0} (o : Option A) (N : Type 0) (P : A → Type 0) → o ≡ None → MatchOption o N P → N
none_says o N P is says = subst (λ r. MatchOption r N P) is says

-- one word

pub same_port : (model : CellModel) (p q : PinSaid) (name : List ℕ) → p ≡ q → name ≡ q.port → (IsPort model name → ⊥) → IsPort model p.port → ⊥
same_port model p q name same is none port = none (subst (IsPort model) (ap (λ r. r.port) same ∙ sym is) port)

pub at_port : (t : Ports) (name port : List ℕ) (n : ℕ) (is_output : Bool) → IsPortAt t name n is_output → name ≡ port → slice_get t.names n ≡ Some port
at_port t name port n is_output at is = at.there ∙ ap Some is

pub side_of : (t : Ports) (name port : List ℕ) (n : ℕ) (is_output : Bool) → IsPortAt t name n is_output → name ≡ port → IsTrue is_output ↔ Has t.model.outs port
side_of t name port n is_output at is = subst (λ p. IsTrue is_output ↔ Has t.model.outs p) is at.side

pub old_key : (old new : List (ℕ × ℕ)) (key : ℕ × ℕ) (r : Bool) → r ≡ false → TakesKey old key r new → Has {X = ℕ × ℕ} old key
old_key old new key r off (inl fresh) = absurd (let e : true ≡ false = sym fresh.0 ∙ off in cc)
old_key old new key r off (inr known) = known.1

pub new_key : (old new : List (ℕ × ℕ)) (key : ℕ × ℕ) (r : Bool) → r ≡ true → TakesKey old key r new → (Has {X = ℕ × ℕ} old key → ⊥) × (new ≡ old ++ key ∷ [])
new_key old new key r on (inl fresh) = (fresh.1, fresh.2)
new_key old new key r on (inr known) = absurd (let e : true ≡ false = sym on ∙ known.0 in cc)

pub taken_before : (names : List (List ℕ)) (keys : List (ℕ × ℕ)) (before : List PinSaid) (p q : PinSaid) (n : ℕ) → slice_get names n ≡ Some q.port → p ≡ q → AreTaken names keys before →
    Has {X = ℕ × ℕ} keys (n, q.bit) → Has (map formal before) (formal p)
taken_before names keys before p q n at same taken has = subst (λ r. Has (map formal before) (formal r)) (sym same) (is_old names keys before q n at taken has)

pub next_is : (t : Ports) → Fits t → (keys : List (ℕ × ℕ)) (before : List PinSaid) (word : List ℕ) (p : PinSaid) (n : ℕ) → slice_get t.names n ≡ Some p.port → AreTaken t.names keys before →
    (Has {X = ℕ × ℕ} keys (n, p.bit) → ⊥) → IsPinWord word p → IsNextPin t.model before word p
next_is t fits keys before word p n at taken fresh says = record {
  says = says;
  port = (fits.all p.port).0 (has_at t.names n p.port at);
  new = is_new t.names keys before p n at taken fits.once fresh;
}
