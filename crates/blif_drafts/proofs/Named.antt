-- The names of the atoms of outputs.
use Rattle.std.proofs.Common.{◌≡◌, ◌+◌, ◌<◌, ℕ, List, [], ◌∷◌, ◌++◌, length, map, take, get_or, sym, ap, ◌∙◌}
use Rattle.std.proofs.lemmas.List.{map-append, take_more}
use denote.Bor.{Bor}
use Rattle.blif_elems.specs.Seen.{texts}
use Rattle.blif_parts.specs.Adds.{out_name}

-- one more of them
pub named_more : (nets : List (Bor (List ℕ))) (i : ℕ) (d : Bor (List ℕ)) (front longer : List (List ℕ)) (name : List ℕ) → i < length nets → front ≡ map out_name (texts (take i nets)) → name ≡ out_name (get_or nets i d).now →
    longer ≡ front ++ name ∷ [] → longer ≡ map out_name (texts (take (i + 1) nets))
named_more nets i d front longer name low are is grown =
    let net = get_or nets i d in
    let step : map out_name (texts (take (i + 1) nets)) ≡ map out_name (texts (take i nets)) ++ out_name net.now ∷ [] =
    ap (λ (l : List (Bor (List ℕ))). map out_name (texts l)) (take_more nets i d low)
    ∙ (ap (map out_name) (map-append (λ (w : Bor (List ℕ)). w.now) (take i nets) (net ∷ [])) ∙ map-append out_name (texts (take i nets)) (net.now ∷ [])) in
    grown ∙ (ap (λ (l : List (List ℕ)). l ++ name ∷ []) are ∙ (ap (λ (n : List ℕ). map out_name (texts (take i nets)) ++ n ∷ []) is ∙ sym step))
