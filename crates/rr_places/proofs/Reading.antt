-- Reading a list item by item.
use Rattle.std.proofs.Common.{Result, IfErr, inl, inr, ◌≡◌, ◌≤◌, ◌<◌, ◌+◌, ℕ, zero, suc, List, [], ◌∷◌, ◌++◌, Some, Bor, length, take, drop, map, get_or, slice_get, refl, sym, ap, subst, ◌∙◌, arith}
use Rattle.std.specs.Option.{option_map}
use Rattle.std.specs.Result.{IsErrAnd}
use Rattle.std.proofs.lemmas.Result.{err_from_is_err_and}
use Rattle.rr_places.specs.declared.error.PlaceError.{PlaceError}
use Rattle.std.proofs.lemmas.List.{map-append}
use Rattle.std.proofs.lemmas.Option.{slice_get-map, slice_get_read}
use Rattle.vtr_base.specs.Lists.{Has}
use Rattle.list_laws.specs.Orders.{Once}
use Rattle.list_laws.proofs.Onces.{once_pushed}
use Rattle.rr_places.specs.Reading.{EachSays, AreRead, IsFirstRefused, OrMemory}

pub now_at : {X : Type 0} (xs : List (Bor X)) (k : ℕ) (x : Bor X) → k < length xs → x ≡ get_or xs k x → slice_get (map (λ b. b.now) xs) k ≡ Some x.now
now_at xs k x inside e = slice_get-map (λ (b : Bor _). b.now) xs k ∙ ap (option_map (λ (b : Bor _). b.now)) (slice_get_read xs (length xs) k x refl inside e)

one_longer : {X : Type 0} (xs : List X) (k : ℕ) (x : X) → slice_get xs k ≡ Some x → take (suc k) xs ≡ take k xs ++ x ∷ []
one_longer [] k x at = cc
one_longer (y ∷ xs) zero x at = let same : y ≡ x = cc in ap (λ z. z ∷ []) same
one_longer (y ∷ xs) (suc k) x at = ap (λ l. y ∷ l) (one_longer xs k x at)

pub one_more : {X : Type 0} (xs : List X) (k : ℕ) (x : X) → slice_get xs k ≡ Some x → take (k + 1) xs ≡ take k xs ++ x ∷ []
one_more xs k x at = let on : k + 1 ≡ suc k = omega arith in ap (λ n. take n xs) on ∙ one_longer xs k x at

pub take_whole : {X : Type 0} (xs : List X) (n : ℕ) → length xs ≤ n → take n xs ≡ xs
take_whole [] zero end = refl
take_whole [] (suc n) end = refl
take_whole (x ∷ xs) zero end = absurd (omega arith)
take_whole (x ∷ xs) (suc n) end = ap (λ l. x ∷ l) (take_whole xs n (omega arith))

cut_behind : {X : Type 0} (xs : List X) (k : ℕ) (x : X) → slice_get xs k ≡ Some x → xs ≡ take k xs ++ x ∷ drop (suc k) xs
cut_behind [] k x at = cc
cut_behind (y ∷ xs) zero x at = let same : y ≡ x = cc in ap (λ z. z ∷ xs) same
cut_behind (y ∷ xs) (suc k) x at = ap (λ l. y ∷ l) (cut_behind xs k x at)

pub cut_at : {X : Type 0} (xs : List X) (k : ℕ) (x : X) → slice_get xs k ≡ Some x → xs ≡ take k xs ++ x ∷ drop (k + 1) xs
cut_at xs k x at = let on : suc k ≡ k + 1 = omega arith in cut_behind xs k x at ∙ ap (λ n. take k xs ++ x ∷ drop n xs) on

each_more : {A B : Type 0} (Says : A → B → Type 0) (zs : List A) (bs : List B) (a : A) (b : B) → EachSays Says zs bs → Says a b →
    EachSays Says (zs ++ a ∷ []) (bs ++ b ∷ [])
each_more Says [] [] a b each says = (says, tt)
each_more Says [] (y ∷ bs) a b each says = absurd each
each_more Says (x ∷ zs) [] a b each says = absurd each
each_more Says (x ∷ zs) (y ∷ bs) a b each says = (each.0, each_more Says zs bs a b each.1 says)

module _ {A B K : Type 0} (Says : A → B → Type 0) (key : B → K) (xs : List A) (k : ℕ) (bs : List B) (read : AreRead Says key (take k xs) bs) where
  pub read_next : (a : A) (b : B) (new : List B) → slice_get xs k ≡ Some a → Says a b → (Has (map key bs) (key b) → ⊥) → new ≡ bs ++ b ∷ [] →
      AreRead Says key (take (k + 1) xs) new
  read_next a b new at says fresh is =
      let keys : map key (bs ++ b ∷ []) ≡ map key bs ++ key b ∷ [] = map-append key bs (b ∷ []) in
      rw (is, one_more xs k a at) (record {
        each = each_more Says (take k xs) bs a b read.each says;
        once = subst Once (sym keys) (once_pushed (map key bs) (key b) read.once fresh);
      })

  pub refused_here : {E : Type 0} (Refused : List B → A → E → Type 0) (a : A) (error : E) → slice_get xs k ≡ Some a → Refused bs a error →
      IsFirstRefused Says key Refused xs error
  refused_here Refused a error at refused = record {
    before = take k xs;
    item = a;
    behind = drop (k + 1) xs;
    spelled = cut_at xs k a at;
    values = bs;
    read = read;
    refused = refused;
  }

  pub read_all : length xs ≤ k → AreRead Says key xs bs
  read_all end = subst (λ l. AreRead Says key l bs) (take_whole xs k end) read

pub read_none : {A B K : Type 0} (Says : A → B → Type 0) (key : B → K) (bs : List B) → bs ≡ [] → AreRead Says key [] bs
read_none Says key [] is = record { each = tt; once = tt }
read_none Says key (b ∷ bs) is = cc

pub seen_at : {X Y : Type 0} (f : X → Y) (xs : List X) (k : ℕ) (x : X) → k < length xs → x ≡ get_or xs k x → slice_get (map f xs) k ≡ Some (f x)
seen_at f xs k x inside e = slice_get-map f xs k ∙ ap (option_map f) (slice_get_read xs (length xs) k x refl inside e)

-- what holds of an error holds of it where it is passed on
pub passed_with : {T E : Type 0} (P : E → Type 0) (r : Result T E) (d : E) → IsErrAnd r (λ y. y ≡ d) → P d → IfErr r P
passed_with P r d is holds =
    let p = err_from_is_err_and r is in
    let first : p.0 ≡ d = p.2 in
    subst (λ x. IfErr x P) (sym p.1) (subst P (sym first) holds)

-- a refusal of one item is one of the list, and so is want of memory
pub or_refused : (P Q : PlaceError → Type 0) (error : PlaceError) → (P error → Q error) → OrMemory P error → OrMemory Q error
or_refused P Q error goes (inl memory) = inl memory
or_refused P Q error goes (inr refused) = inr (goes refused)
