use Rattle.std.proofs.Common.{◌≡◌, ℕ, List, Option, Some, None, sym, subst}
use Rattle.meta_parts.specs.Forms.{SaysRange}
use Rattle.meta_parts.specs.Seen.{index_of}
use Rattle.meta_parts.proofs.Cuts.{in_other_words}
use Rattle.meta_parts.proofs.forms.range_of.Goals as goal

pub returns-in-Some : goal.returns-in-Some
returns-in-Some c =
    let is : index_of c.args.indexed.now ≡ Some c.in-Some.index.now = cc in
    rw is c.read_range.ensures
