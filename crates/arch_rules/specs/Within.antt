-- Where the code says that an element stands.
use Rattle.std.specs.Prelude.{Bool, true, false}
use Rattle.arch_rules.specs.declared.role.Role.{Role}
use Rattle.arch_rules.specs.declared.role.Role.TheVariants.{File, Architecture}
use Rattle.arch_rules.specs.declared.walk.Within.{Within}
use Rattle.arch_rules.specs.Rules.{Inside}

abbrev pub place_in : Within → Inside
place_in at = record { parent = at.parent; owner = at.owner.now }

-- an element below the root
abbrev pub is_below : Role → Bool
is_below File = false
is_below Architecture = false
is_below _ = true
