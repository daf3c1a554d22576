use Rattle.shelf_kit.proofs.OneFile.{held_appended, beside_appended, bytes_appended, part_held, part_beside, part_written, err_part}
use Rattle.shelf_kit.proofs.through.ShelfSinkSink.put.Goals as goal

pub returns-in-Ok-clause-beside : goal.returns-in-Ok-clause-beside
returns-in-Ok-clause-beside g c = beside_appended c.args.self.now.name.now c.args.piece.now _ _ _ c.in-Ok.ensures.ok

pub returns-in-Ok-clause-ok : goal.returns-in-Ok-clause-ok
returns-in-Ok-clause-ok g c = bytes_appended c.args.self.now.name.now c.args.piece.now _ _ c.args.self.now.files_of c.in-Ok.ensures.ok

pub invariant_of-self-else-eq : goal.invariant_of-self-else-eq
invariant_of-self-else-eq g c =
    let part = err_part c.in-Err.error c.args.self.now.name.now c.args.piece.now _ _ _ _ c.args.self.now.files_of c.in-Err.ensures.failed c.in-Err.ensures.memory c.in-Err.ensures.never_missing c.in-Err.ensures.never_long in
    record { files_of = part_held c.args.self.now.name.now c.args.piece.now _ _ part }

pub returns-else-eq-clause-beside : goal.returns-else-eq-clause-beside
returns-else-eq-clause-beside g c =
    let part = err_part c.in-Err.error c.args.self.now.name.now c.args.piece.now _ _ _ _ c.args.self.now.files_of c.in-Err.ensures.failed c.in-Err.ensures.memory c.in-Err.ensures.never_missing c.in-Err.ensures.never_long in
    part_beside c.args.self.now.name.now c.args.piece.now _ _ _ part

pub returns-else-eq-clause-part : goal.returns-else-eq-clause-part
returns-else-eq-clause-part g c =
    let part = err_part c.in-Err.error c.args.self.now.name.now c.args.piece.now _ _ _ _ c.args.self.now.files_of c.in-Err.ensures.failed c.in-Err.ensures.memory c.in-Err.ensures.never_missing c.in-Err.ensures.never_long in
    part_written c.args.self.now.name.now c.args.piece.now _ _ c.args.self.now.files_of part

pub returns-then-eq-clause-appended_part : goal.returns-then-eq-clause-appended_part
returns-then-eq-clause-appended_part g c =
    err_part c.in-Err.error c.args.self.now.name.now c.args.piece.now _ _ _ _ c.args.self.now.files_of c.in-Err.ensures.failed c.in-Err.ensures.memory c.in-Err.ensures.never_missing c.in-Err.ensures.never_long

pub invariant_of-self : goal.invariant_of-self
invariant_of-self g c = record { files_of = held_appended c.args.self.now.name.now c.args.piece.now _ _ c.in-Ok.ensures.ok }
