-- NamePlaces of names, one name more.
use Rattle.std.proofs.Common.{◌≡◌, ◌+◌, ◌<◌, ℕ, Bool, true, false, cond, List, [], ◌∷◌, ◌++◌, Some, None, length, take, get_or, map, zero, suc, refl, sym, ◌∙◌, ap, arith, add-one, length-take-le}
use Rattle.std.proofs.lemmas.List.{length-map}
use Rattle.std.specs.Option.{option_or, option_map}
use Rattle.std.specs.Str.{bytes_eq}
use Rattle.std.specs.Borrow.{Bor}
use Rattle.std.specs.HashMap.{HashMap}
use Rattle.arch_build.specs.NamePlaces.{found_place, ArePlaces, AddsPlace}

found_more : (names : List (List ℕ)) (name q : List ℕ) →
    found_place (names ++ name ∷ []) q ≡ option_or (found_place names q) (cond (bytes_eq name q) (Some (length names)) None)
found_more [] name q = go (bytes_eq name q)
  where
    go : (b : Bool) → cond b (Some 0) (option_map suc None) ≡ cond b (Some 0) None
    go true = refl
    go false = refl
found_more (n ∷ names) name q = ap (λ r. cond (bytes_eq n q) (Some 0) (option_map suc r)) (found_more names name q) ∙ go (bytes_eq n q) (found_place names q) (bytes_eq name q)
  where
    go : (b : Bool) (r : _) (c : Bool) → cond b (Some 0) (option_map suc (option_or r (cond c (Some (length names)) None)))
        ≡ option_or (cond b (Some 0) (option_map suc r)) (cond c (Some (suc (length names))) None)
    go true r c = refl
    go false (Some x) c = refl
    go false None true = refl
    go false None false = refl

abbrev nows : List (Bor (List ℕ)) → List (List ℕ)
nows names = map (λ n. n.now) names

take_more : (names : List (Bor (List ℕ))) (i : ℕ) (d : Bor (List ℕ)) → i < length names → take (suc i) (nows names) ≡ take i (nows names) ++ (get_or names i d).now ∷ []
take_more [] i d inside = absurd (omega arith)
take_more (n ∷ names) zero d inside = refl
take_more (n ∷ names) (suc i) d inside = ap (λ l. n.now ∷ l) (take_more names i d (omega arith))

-- the step of the loop
pub placed_more : {S : Type 0} (names : List (Bor (List ℕ))) (i : ℕ) (d : Bor (List ℕ)) (old new : HashMap (Bor (List ℕ)) ℕ S) → i < length names →
    ArePlaces (take i (nows names)) old → AddsPlace (get_or names i d).now i old new → ArePlaces (take (i + 1) (nows names)) new
placed_more {S} names i d old new inside are adds =
    let name = (get_or names i d).now in
    let before = take i (nows names) in
    let long : length before ≡ i = length-take-le i (nows names) (omega (arith, length-map names (λ n. n.now))) in
    rw add-one (record {
      find = λ q.
          adds.find q
          ∙ ap (λ r. option_or r (cond (bytes_eq name q.now) (Some i) None)) (are.find q)
          ∙ ap (λ n. option_or (found_place before q.now) (cond (bytes_eq name q.now) (Some n) None)) (sym long)
          ∙ sym (found_more before name q.now)
          ∙ ap (λ l. found_place l q.now) (sym (take_more names i d inside));
    })
