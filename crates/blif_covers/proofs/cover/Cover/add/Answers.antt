use Rattle.std.proofs.Common.{refl}
use Rattle.blif_covers.specs.Seen.{row_seen}
use Rattle.blif_covers.proofs.Tables.{held_more}
use Rattle.blif_covers.proofs.cover.Cover.add.Goals as goal

pub returns-clause-rows : goal.returns-clause-rows
returns-clause-rows c = λ rows holds all.
    held_more rows (row_seen c.args.row) c.args.self.now _ c.requires.width refl c.mark.ensures refl holds all
