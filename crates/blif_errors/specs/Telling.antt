-- How refusals of BLIF files are printed: number, name and fields, each behind a space; the names of
-- a cycle have commas between them.
use Rattle.std.specs.Prelude.{ℕ, Bool, true, false, List, [], ◌∷◌, ◌++◌, codes}
use Rattle.std.specs.List.{flat_map}
use Rattle.tell.specs.Fields.{place_text}
use Rattle.blif_errors.specs.declared.error.BlifError.{BlifError}
use Rattle.blif_errors.specs.declared.error.BlifError.TheVariants.{Limit, BadLine, TwoDrivers, NoDriver, WideNames, MixedCover, LatchKind, CombLoop, Unsupported, UnknownModel, OutOfMemory}

-- each name behind a comma
abbrev pub commas : List (List ℕ) → List ℕ
commas names = flat_map (λ name. codes "," ++ name) names

-- names with commas between them
abbrev pub joined : List (List ℕ) → List ℕ
joined [] = []
joined (name ∷ names) = name ++ commas names

abbrev pub blif_text : BlifError → List ℕ
blif_text Limit = codes "40 Limit"
blif_text (BadLine place) = codes "41 BadLine " ++ place_text place
blif_text (TwoDrivers net) = codes "42 TwoDrivers " ++ net
blif_text (NoDriver net) = codes "43 NoDriver " ++ net
blif_text (WideNames net) = codes "44 WideNames " ++ net
blif_text (MixedCover net) = codes "45 MixedCover " ++ net
blif_text (LatchKind net) = codes "46 LatchKind " ++ net
blif_text (CombLoop atoms) = codes "47 CombLoop " ++ joined atoms
blif_text (Unsupported word) = codes "48 Unsupported " ++ word
blif_text (UnknownModel name) = codes "49 UnknownModel " ++ name
blif_text OutOfMemory = codes "memory"

abbrev pub is_want_of_memory : BlifError → Bool
is_want_of_memory OutOfMemory = true
is_want_of_memory _ = false
