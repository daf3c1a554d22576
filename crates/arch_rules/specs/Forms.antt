-- Forms that the value of an attribute has.
use Rattle.std.specs.Prelude.{◌≡◌, ℕ, List, codes}
use Rattle.arch_rules.specs.declared.form.Form.{Form}
use Rattle.arch_rules.specs.declared.form.Form.TheVariants.{Plain, Dark, Direct, Count, Large, One, OverEight, Coordinate, Priority}
use Rattle.arch_types.specs.Names.{IsPlainName, IsUnbrokenName}
use Rattle.arch_rules.specs.Numbers.{IsCount, IsLarge, IsOne, IsOverEight, IsCoordinate, IsPriority}

abbrev pub Fits : Form → List ℕ → Type 0
Fits Plain text = IsPlainName text
Fits Dark text = IsUnbrokenName text
Fits Direct text = text ≡ codes "direct"
Fits Count text = IsCount text
Fits Large text = IsLarge text
Fits One text = IsOne text
Fits OverEight text = IsOverEight text
Fits Coordinate text = IsCoordinate text
Fits Priority text = IsPriority text
