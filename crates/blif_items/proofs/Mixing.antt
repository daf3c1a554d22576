-- A row of another output than the rows before it.
use Rattle.std.proofs.Common.{◌≡◌, ◌↔◌, inr, ℕ, Bool, true, false, IsTrue, List, refl, sym, ap, ◌∙◌, subst}
use Rattle.std.specs.List.{All}
use Rattle.vtr_base.specs.declared.place.Place.{Place}
use Rattle.blif_covers.specs.Covers.{RowSaid}
use Rattle.blif_covers.specs.Rows.{IsRow}
use Rattle.blif_errors.specs.declared.error.BlifError.TheVariants.{MixedCover}
use Rattle.blif_items.specs.Rows.{RefusesToPut}

pub mixed_row : (inputs told : ℕ) (rows : List RowSaid) (name net : List ℕ) (words : List (List ℕ)) (place : Place) (row : RowSaid) (r : Bool) → told ≡ inputs → net ≡ name → IsRow told words row → r ≡ false →
    (IsTrue r ↔ All (λ q. q.output ≡ row.output) rows) → RefusesToPut inputs rows name place words (MixedCover net)
mixed_row inputs told rows name net words place row r same named is off takes =
    inr (record {
      row = row;
      is_row = subst (λ n. IsRow n words row) same is;
      mixed = λ all. (let e : false ≡ true = sym off ∙ takes.1 all in cc);
      is = ap MixedCover named;
    })
