-- What holds of what a line says, since words of a line have no white space and no `#`, and are
-- UTF-8.
use Rattle.std.specs.Prelude.{◌≤◌, ℕ, List, [], ◌∷◌, ◌++◌, length}
use Rattle.std.specs.List.{All}
use Rattle.blif_elems.specs.Statements.{Said, says_nothing, says_model, says_inputs, says_outputs, says_names, says_latch, says_box, says_param, says_passed, says_end, says_row}
use Rattle.net_types.specs.Words.{IsWord, IsNetName}

-- names of nets, up to so many
pub record ArePlainNets (limit : ℕ) (nets : List (List ℕ)) : Type 0 where
  pub each : All IsNetName nets
  pub few : length nets ≤ limit

-- the name of a model, and words behind it, up to so many
pub record IsPlainBox (limit : ℕ) (model : List ℕ) (words : List (List ℕ)) : Type 0 where
  pub word : IsWord model
  pub each : All IsWord words
  pub few : length words ≤ limit

-- what is said in up to so many words
abbrev pub IsPlain : ℕ → Said → Type 0
IsPlain limit says_nothing = Unit {0}
IsPlain limit (says_model name) = Unit {0}
IsPlain limit (says_inputs nets) = ArePlainNets limit nets
IsPlain limit (says_outputs nets) = ArePlainNets limit nets
IsPlain limit (says_names inputs output) = ArePlainNets limit (inputs ++ output ∷ []) × (length inputs ≤ 8)
IsPlain limit (says_latch loaded made control) = ArePlainNets limit (loaded ∷ made ∷ control ∷ [])
IsPlain limit (says_box model words) = IsPlainBox limit model words
IsPlain limit (says_param name value) = IsWord name × IsWord value
IsPlain limit says_passed = Unit {0}
IsPlain limit says_end = Unit {0}
IsPlain limit (says_row words) = Unit {0}
