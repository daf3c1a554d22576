-- The pins and the parameters of a box (BLIF, "Subcircuits", and the extension `.param`).
use Rattle.std.specs.Prelude.{ℕ, List, [], ◌∷◌, ◌++◌, codes}
use Rattle.std.specs.Fmt.{decimal}
use Rattle.net_types.specs.declared.atom.Conn.{Conn}
use Rattle.blif_text.specs.Words.{spaced, name_at}

-- `port[bit]=net`
abbrev pub pin_text : List (List ℕ) → Conn → List ℕ
pin_text nets conn = spaced conn.port ++ 91 ∷ (decimal conn.bit ++ 93 ∷ 61 ∷ name_at nets conn.net)

abbrev pub pins_text : List (List ℕ) → List Conn → List ℕ
pins_text nets [] = []
pins_text nets (conn ∷ conns) = pin_text nets conn ++ pins_text nets conns

-- `.param NAME VALUE`
abbrev pub params_text : List (List ℕ × List ℕ) → List ℕ
params_text [] = []
params_text (param ∷ params) = codes ".param" ++ (spaced param.0 ++ (spaced param.1 ++ 32 ∷ 10 ∷ params_text params))
