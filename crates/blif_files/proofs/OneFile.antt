-- A file says one model, or is refused for one reason.
use Rattle.std.proofs.Common.{◌≡◌, ℕ, List, subst}
use Rattle.std.specs.Str.Lines.{lines}
use Rattle.blif_lines.specs.Lines.{LineSaid, AreLinesFrom}
use Rattle.blif_parts.specs.Lines.{SayModel, SayNoModel}
use Rattle.blif_parts.specs.Models.{ModelSaid, AreParts}
use Rattle.blif_models.specs.Files.{end_of}
use Rattle.model_once.specs.Laws.{HasOneModel as HasOneSaid, HasOneRefusal as HasOneReason, NeverBoth as NeverSaid, HasOneParts}
use Rattle.blif_files.specs.Laws.{HasOneModel, HasOneRefusal, NeverBoth}

abbrev pub HasOneList : Type 0
HasOneList = (number : ℕ) (physical : List (List ℕ)) (ls ms : List LineSaid) → AreLinesFrom number physical ls → AreLinesFrom number physical ms → ls ≡ ms

-- what a caller knows of lines and of models
pub record Knows : Type 0 where
  pub lists : HasOneList
  pub said : HasOneSaid
  pub reason : HasOneReason
  pub never : NeverSaid
  pub parts : HasOneParts

pub one_parts : Knows → HasOneModel
one_parts k models bytes p q x y =
    let same = k.lists 1 (lines bytes) y.ls x.ls y.lines x.lines in
    let model = k.said models x.ls y.model x.model (subst (λ (ls : List LineSaid). SayModel models ls y.model) same y.say) x.say in
    k.parts x.model p q x.parts_are (subst (λ (m : ModelSaid). AreParts m q) model y.parts_are)

pub one_reason : Knows → HasOneRefusal
one_reason k models bytes d e x y =
    let same = k.lists 1 (lines bytes) y.ls x.ls y.lines x.lines in
    k.reason models x.ls (end_of bytes) d e x.refuse (subst (λ (ls : List LineSaid). SayNoModel models ls (end_of bytes) e) same y.refuse)

pub not_both : Knows → NeverBoth
not_both k models bytes p e x y =
    let same = k.lists 1 (lines bytes) y.ls x.ls y.lines x.lines in
    k.never models x.ls (end_of bytes) x.model e x.say (subst (λ (ls : List LineSaid). SayNoModel models ls (end_of bytes) e) same y.refuse)
