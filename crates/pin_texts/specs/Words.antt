-- The words of pins (BLIF, "Subcircuits").
use Rattle.std.specs.Prelude.{◌≢◌, ℕ, List, [], ◌∷◌, ◌++◌, codes}
use Rattle.std.specs.Fmt.{decimal}
use Rattle.blif_elems.specs.Nets.{IsNet}
use Rattle.blif_boxes.specs.Pins.{PinSaid, says_net}

-- `port[bit]=net`
abbrev pub pin_word : List ℕ → ℕ → List ℕ → List ℕ
pin_word port bit net = port ++ 91 ∷ (decimal bit ++ 93 ∷ 61 ∷ net)

abbrev pub pin_said : List ℕ → ℕ → List ℕ → PinSaid
pin_said port bit net = record { port = port; bit = bit; actual = says_net net }

-- a net that may be connected to a box
pub record IsNamed (net : List ℕ) : Type 0 where
  pub is_net : IsNet net
  pub some : net ≢ []
  pub connectable : net ≢ codes "unconn"
