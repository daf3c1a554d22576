-- Numbers that attributes hold.
use Rattle.std.specs.Prelude.{◌≡◌, ◌≤◌, ℕ, List}
use Rattle.std.specs.Str.Parse.{IsNumeral, digits_value}
use Rattle.elem_text.specs.declared.elem.Elem.{Elem}
use Rattle.elem_attrs.specs.Attributes.{HasAttribute}

-- the attribute of this name is decimal digits of this value, which is within the limit
pub record HasNumber (e : Elem) (name : List ℕ) (most number : ℕ) : Type 0 where
  pub value : List ℕ
  pub held : HasAttribute e name value
  pub digits : IsNumeral 10 value
  pub is : number ≡ digits_value 10 value
  pub within : number ≤ most
