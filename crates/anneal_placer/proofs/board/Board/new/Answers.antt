-- The blocks sit where the places say.
use Rattle.std.proofs.Common.{◌≡◌, ◌++◌, arith, drop, length, subst, take}
use Rattle.std.proofs.Math.Seq.{take-append_seam}
use Rattle.anneal_placer.proofs.Boards.{board_of}
use Rattle.anneal_placer.proofs.board.Board.new.Goals as goal

pub returns-clause-board : goal.returns-clause-board
returns-clause-board c =
    let seats = c.seat.new.occupants in
    let room : length seats ≡ c.in_ok-occupants.occupants.len = omega arith in
    let sites : length seats ≡ length c.args.task.now.sites.items = omega (arith, c.len.ensures, c.in_ok-occupants.ensures.len, c.args.task.now.sites.ok) in
    let board = board_of c.args.task.now c.args.places.now seats c.requires.placed c.seat.ensures sites in
    let whole : take c.in_ok-occupants.occupants.len (seats ++ drop (length seats) c.in_ok-occupants.occupants.items) ≡ seats =
    subst (λ n. take n (seats ++ drop (length seats) c.in_ok-occupants.occupants.items) ≡ seats) room (take-append_seam seats _) in
    rw (whole, c.in_ok-places.ensures.items) board
