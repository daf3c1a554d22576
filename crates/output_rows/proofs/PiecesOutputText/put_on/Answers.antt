use Rattle.std.proofs.Common.{◌++◌, Result, Ok, Err, OnErr}
use Rattle.output_rows.proofs.PiecesOutputText.put_on.Goals as goal

on_err : {T E : Type 0} {P : Type 0} (r : Result T E) → P → OnErr r P
on_err (Ok v) p = tt
on_err (Err e) p = p

pub returns-in_err-put-2-clause-part : goal.returns-in_err-put-2-clause-part
returns-in_err-put-2-clause-part g c =
    let laws = c.fronts_of_pieces.ensures in
    let piece = c.args.self.now.piece.now in
    on_err _ (laws.goes_on piece (piece ++ piece) _ _ _ c.in_ok-put.ensures.ok (laws.begins piece piece _ _ c.in_err-put-2.ensures.part))

pub returns-in_err-put-3-clause-part : goal.returns-in_err-put-3-clause-part
returns-in_err-put-3-clause-part g c =
    let laws = c.fronts_of_pieces.ensures in
    let piece = c.args.self.now.piece.now in
    on_err _ (laws.goes_on piece (piece ++ piece) _ _ _ c.in_ok-put.ensures.ok
    (laws.goes_on piece piece _ _ _ c.in_ok-put-2.ensures.ok c.in_err-put-3.ensures.part))
