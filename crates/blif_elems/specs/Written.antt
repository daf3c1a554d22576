-- Lines by their words, for those who write them.
use Rattle.std.specs.Prelude.{◌≤◌, ℕ, List, [], ◌∷◌, ◌++◌, codes, length}
use Rattle.blif_elems.specs.Nets.{IsNet, AreNets}
use Rattle.blif_elems.specs.Statements.{says_model, says_inputs, says_outputs, says_names, says_latch, says_box, says_param, says_end, WordsSay}

-- what holds of all lines that begin with these keywords; a latch has no initial value here
pub record HaveKeywords : Type 0 where
  pub model : (name : List ℕ) → WordsSay (codes ".model" ∷ name ∷ []) (says_model name)
  pub inputs : (nets : List (List ℕ)) → AreNets nets → WordsSay (codes ".inputs" ∷ nets) (says_inputs nets)
  pub outputs : (nets : List (List ℕ)) → AreNets nets → WordsSay (codes ".outputs" ∷ nets) (says_outputs nets)
  pub names : (inputs : List (List ℕ)) (output : List ℕ) → AreNets (inputs ++ output ∷ []) → length inputs ≤ 8 →
      WordsSay (codes ".names" ∷ (inputs ++ output ∷ [])) (says_names inputs output)
  pub latch : (loaded made control : List ℕ) → IsNet loaded → IsNet made → IsNet control →
      WordsSay (codes ".latch" ∷ loaded ∷ made ∷ codes "re" ∷ control ∷ []) (says_latch loaded made control)
  pub subckt : (model : List ℕ) (pins : List (List ℕ)) → WordsSay (codes ".subckt" ∷ model ∷ pins) (says_box model pins)
  pub param : (name value : List ℕ) → WordsSay (codes ".param" ∷ name ∷ value ∷ []) (says_param name value)
  pub end : WordsSay (codes ".end" ∷ []) says_end
