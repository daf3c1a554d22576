use Rattle.std.proofs.Common.{◌++◌, ◌∷◌, [], arith}
use Rattle.blif_lines.specs.Seen.{piece_seen, still}
use Rattle.blif_lines.proofs.Joining.{joining_starts, joining_goes_on}
use Rattle.blif_lines.proofs.joined.join_from.Goals as goal

pub loop-piece-init : goal.loop-piece-init
loop-piece-init c =
    let p = piece_seen c.args.first in (
      record {
        pieces = p ∷ [];
        joining = joining_starts c.args.start p c.args.behind c.requires.first c.requires.joins;
        holds = c.in_ok-add.ensures [] c.new-joining.ensures;
      },
      c.requires.less,
    )

pub loop-piece-preserved : goal.loop-piece-preserved
loop-piece-preserved c =
    let p = piece_seen c.in-Some.piece in
    let along = c.loop-piece.invariant.0 in (
      record {
        pieces = along.pieces ++ p ∷ [];
        joining = joining_goes_on c.args.start.number (still c.args.start) along.pieces c.loop-piece.at p c.in-Some.after along.joining c.in-Some.ensures.steps c.if-not-piece.false;
        holds = c.in_ok-add-2.ensures along.pieces along.holds;
      },
      omega (arith, c.in-Some.ensures.less, c.loop-piece.invariant.1),
    )
