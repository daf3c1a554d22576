-- Sites are added to a list, one after another.
use Rattle.std.proofs.Common.{◌≡◌, ◌+◌, ◌-◌, ◌<◌, ◌≤◌, ℕ, zero, suc, List, [], ◌∷◌, ◌++◌, length, get_or, map, take, append-nil, append_assoc, refl, sym, ap, ◌∙◌, arith}
use Rattle.std.specs.List.{flat_map}
use Rattle.std.proofs.lemmas.List.{take_more, take_all}
use Rattle.vtr_base.specs.Lists.{up_from}
use Rattle.pb_expand.specs.Graph.{Graph}
use Rattle.prog_map.specs.Leaves.{kind_at}
use Rattle.prog_map.specs.Order.{own_sites, count_of, first_edges, kids, end_site}
use Rattle.prog_map.specs.Levels.{mode_sites, sites_under}
use Rattle.prog_map.specs.declared.choice.LSite.{LSite}

flat_push : {A X : Type 0} (f : A → List X) (xs : List A) (x : A) → flat_map f (xs ++ x ∷ []) ≡ flat_map f xs ++ f x
flat_push f [] x = append-nil (f x)
flat_push f (y ∷ xs) x = ap (λ l. f y ++ l) (flat_push f xs x) ∙ sym (append_assoc (f y) (flat_map f xs) (f x))

map_push : {A X : Type 0} (f : A → X) (xs : List A) (x : A) → map f (xs ++ x ∷ []) ≡ map f xs ++ f x ∷ []
map_push f [] x = refl
map_push f (y ∷ xs) x = ap (λ l. f y ∷ l) (map_push f xs x)

-- the list with what the first elements give
pub flat_next : {A X : Type 0} (f : A → List X) (xs : List A) (k : ℕ) (d : A) (old mid new : List X) → mid ≡ old ++ flat_map f (take k xs) → k < length xs →
    new ≡ mid ++ f (get_or xs k d) → new ≡ old ++ flat_map f (take (k + 1) xs)
flat_next f xs k d old mid new is inside adds =
    adds ∙ ap (λ l. l ++ f (get_or xs k d)) is ∙ append_assoc old (flat_map f (take k xs)) (f (get_or xs k d))
    ∙ ap (λ l. old ++ l) (sym (ap (flat_map f) (take_more xs k d inside) ∙ flat_push f (take k xs) (get_or xs k d)))

pub flat_done : {A X : Type 0} (f : A → List X) (xs : List A) (k : ℕ) (old new : List X) → new ≡ old ++ flat_map f (take k xs) → length xs ≤ k → new ≡ old ++ flat_map f xs
flat_done f xs k old new is whole = is ∙ ap (λ l. old ++ flat_map f l) (take_all k xs whole)

pub map_next : {A X : Type 0} (f : A → X) (xs : List A) (k : ℕ) (d : A) (old mid new : List X) → mid ≡ old ++ map f (take k xs) → k < length xs →
    new ≡ mid ++ f (get_or xs k d) ∷ [] → new ≡ old ++ map f (take (k + 1) xs)
map_next f xs k d old mid new is inside adds =
    adds ∙ ap (λ l. l ++ f (get_or xs k d) ∷ []) is ∙ append_assoc old (map f (take k xs)) (f (get_or xs k d) ∷ [])
    ∙ ap (λ l. old ++ l) (sym (ap (map f) (take_more xs k d inside) ∙ map_push f (take k xs) (get_or xs k d)))

pub map_done : {A X : Type 0} (f : A → X) (xs : List A) (k : ℕ) (old new : List X) → new ≡ old ++ map f (take k xs) → length xs ≤ k → new ≡ old ++ map f xs
map_done f xs k old new is whole = is ∙ ap (λ l. old ++ map f l) (take_all k xs whole)

pub under_whole : (g : Graph) (levels pb : ℕ) (modes : List ℕ) (old own new : List LSite) → (levels ≡ 0 → ⊥) → own ≡ old ++ own_sites pb (kind_at g pb) →
    ((under : ℕ → List LSite) → flat_map (λ mode. mode_sites g under pb mode) modes ≡ flat_map (λ mode. mode_sites g under pb mode) (up_from 0 (count_of (kind_at g pb)))) →
    new ≡ own ++ flat_map (λ mode. mode_sites g (λ kid. sites_under g (levels - 1) kid) pb mode) modes → new ≡ old ++ sites_under g levels pb
under_whole g zero pb modes old own new some is whole adds = absurd (some refl)
under_whole g (suc levels) pb modes old own new some is whole adds =
    let less : suc levels - 1 ≡ levels = omega arith in
    adds ∙ ap (λ n. own ++ flat_map (λ mode. mode_sites g (λ kid. sites_under g n kid) pb mode) modes) less
    ∙ ap (λ l. own ++ l) (whole (λ kid. sites_under g levels kid))
    ∙ ap (λ l. l ++ flat_map (λ mode. mode_sites g (λ kid. sites_under g levels kid) pb mode) (up_from 0 (count_of (kind_at g pb)))) is
    ∙ append_assoc old (own_sites pb (kind_at g pb)) (flat_map (λ mode. mode_sites g (λ kid. sites_under g levels kid) pb mode) (up_from 0 (count_of (kind_at g pb))))

pub mode_whole : (g : Graph) (levels pb mode : ℕ) (firsts kids_in : List ℕ) (old ends new : List LSite) → firsts ≡ first_edges g pb mode → kids_in ≡ kids g pb mode →
    ends ≡ old ++ map (end_site g mode) firsts → new ≡ ends ++ flat_map (λ kid. sites_under g levels kid) kids_in →
    new ≡ old ++ mode_sites g (λ kid. sites_under g levels kid) pb mode
mode_whole g levels pb mode firsts kids_in old ends new are_firsts are_kids is more =
    more ∙ ap (λ l. ends ++ flat_map (λ kid. sites_under g levels kid) l) are_kids ∙ ap (λ l. l ++ flat_map (λ kid. sites_under g levels kid) (kids g pb mode)) is
    ∙ append_assoc old (map (end_site g mode) firsts) (flat_map (λ kid. sites_under g levels kid) (kids g pb mode))
    ∙ ap (λ l. old ++ (map (end_site g mode) l ++ flat_map (λ kid. sites_under g levels kid) (kids g pb mode))) are_firsts
