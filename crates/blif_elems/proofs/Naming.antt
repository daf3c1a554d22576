-- Which words may name nets.
use Rattle.std.proofs.Common.{◌≡◌, ◌↔◌, inl, inr, ℕ, Bool, true, false, List, [], ◌∷◌, ◌++◌, Bor, IsTrue, map, length, drop, refl}
use Rattle.std.specs.Prelude.{codes, not}
use Rattle.std.specs.List.{All, starts_with}
use Rattle.std.proofs.Math.Dec.{eqb}
use Rattle.std.proofs.lemmas.Bool.Decides.{Decides-eqb}
use Rattle.std.proofs.lemmas.Slice.Eq.{starts_is}
use Rattle.std.proofs.lemmas.List.Elements.{All-nil, All-cons, All-head, All-tail}
use Rattle.blif_elems.specs.Nets.{IsNet, AreNets}

pub net_is : (r : Bool) (name : List ℕ) → (name ≡ codes "open" → ⊥) → r ≡ starts_with eqb name (codes "Netlist_File:") → IsTrue (not r) ↔ IsNet name
net_is r name other is = go r (starts_is {E = eqb} Decides-eqb name (codes "Netlist_File:") r is)
  where
    go : (r : Bool) → (r ≡ true → name ≡ codes "Netlist_File:" ++ drop (length (codes "Netlist_File:")) name) × ((rest : List ℕ) → name ≡ codes "Netlist_File:" ++ rest → r ≡ true) →
        IsTrue (not r) ↔ IsNet name
    go true (starts, begins) = (λ t. cc, λ net. absurd (net (inr (drop (length (codes "Netlist_File:")) name, starts refl))))
    go false (starts, begins) = (λ _. free, λ _. refl)
      where
        free : IsNet name
        free (inl e) = other e
        free (inr b) = let e : false ≡ true = begins b.0 b.1 in cc

pub all_texts : (names : List (Bor (List ℕ))) → All (λ w. IsNet w.now) names ↔ AreNets (map (λ w. w.now) names)
all_texts [] = (λ _. All-nil IsNet, λ _. All-nil (λ w. IsNet w.now))
all_texts (n ∷ names) = (
  λ all. All-cons IsNet n.now (map (λ w. w.now) names) (All-head (λ w. IsNet w.now) n names all) ((all_texts names).0 (All-tail (λ w. IsNet w.now) n names all)),
  λ all. All-cons (λ w. IsNet w.now) n names (All-head IsNet n.now (map (λ w. w.now) names) all) ((all_texts names).1 (All-tail IsNet n.now (map (λ w. w.now) names) all)),
)

pub by_texts : (r : Bool) (names : List (Bor (List ℕ))) → IsTrue r ↔ All (λ w. IsNet w.now) names → IsTrue r ↔ AreNets (map (λ w. w.now) names)
by_texts r names is = (λ t. (all_texts names).0 (is.0 t), λ all. is.1 ((all_texts names).1 all))
