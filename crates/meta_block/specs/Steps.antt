-- What was said, with what more owners say.
use Rattle.std.specs.Prelude.{◌≡◌, ◌++◌, List}
use Rattle.meta_lines.specs.Each.{Each}
use Rattle.meta_block.specs.declared.types.OwnerSaid.{OwnerSaid}
use Rattle.meta_block.specs.Owners.{Owner, SaysOwner}

-- what these owners say goes last
pub record AddsSaid (owners : List Owner) (old new : List OwnerSaid) : Type 0 where
  pub more : List OwnerSaid
  pub say : Each SaysOwner owners more
  pub grown : new ≡ old ++ more
