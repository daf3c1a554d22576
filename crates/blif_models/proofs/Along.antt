-- A file as far as its lines are read.
use Rattle.std.proofs.Common.{◌≡◌, ◌⊎◌, inl, inr, ℕ, List, [], ◌∷◌, refl, subst}
use Rattle.std.specs.Str.Lines.{lines}
use Rattle.arch_types.specs.declared.arch.CellModel.{CellModel}
use Rattle.blif_errors.specs.declared.error.BlifError.{BlifError}
use Rattle.blif_errors.specs.declared.error.BlifError.TheVariants.{OutOfMemory}
use Rattle.blif_lines.specs.declared.line.Cursor.{Cursor}
use Rattle.blif_lines.specs.Lines.{LineSaid, AreLines, AreLinesFrom}
use Rattle.blif_lines.specs.Seen.{still, StandsAt, FollowFrom}
use Rattle.blif_parts.specs.declared.parts.ModelParts.{ModelParts}
use Rattle.blif_parts.specs.Lines.{AreRead, IsFirstRefused, IsLineRefused, MayEnd, CantEnd}
use Rattle.blif_parts.specs.Models.{ModelSaid, no_model, AreParts}
use Rattle.blif_phases.specs.declared.phase.Phase.{Phase}
use Rattle.blif_phases.specs.declared.phase.Phase.TheVariants.{Before}
use Rattle.blif_whole.specs.Whole.{HasLines}
use Rattle.blif_drafts.specs.declared.draft.Draft.{Draft}
use Rattle.blif_drafts.specs.Seen.{Holds}
use Rattle.blif_models.specs.declared.reading.Reading.{Reading}
use Rattle.blif_models.specs.Files.{end_of, FileIsRefused, FileSays}
use Rattle.blif_models.specs.Reading.{ReadsLine}

-- whatever is read of the rest, or refused there, completes what was read before
pub record IsAlong (models : List CellModel) (bytes : List ℕ) (r : Reading) (at : Cursor) : Type 0 where
  pub m : ModelSaid
  pub holds : Holds m r.draft
  pub reads : (ls : List LineSaid) (last : Phase) (all : ModelSaid) → FollowFrom at ls → AreRead models r.phase m ls last all → (ks : List LineSaid) × AreLines bytes ks × AreRead models Before no_model ks last all
  pub refuses : (ls : List LineSaid) (e : BlifError) → FollowFrom at ls → IsFirstRefused models r.phase m ls e → (ks : List LineSaid) × AreLines bytes ks × IsFirstRefused models Before no_model ks e

first_lines : (bytes : List ℕ) (at : Cursor) (ls : List LineSaid) → at.number ≡ 1 → still at ≡ lines bytes → FollowFrom at ls → AreLines bytes ls
first_lines bytes at ls one all are = subst (λ (n : ℕ). AreLinesFrom n (lines bytes) ls) one (subst (λ (p : List (List ℕ)). AreLinesFrom at.number p ls) all are)

pub along_first : (models : List CellModel) (bytes : List ℕ) (d : Draft) (at : Cursor) → Holds no_model d → at.number ≡ 1 → still at ≡ lines bytes → IsAlong models bytes (record { phase = Before; draft = d }) at
along_first models bytes d at held one all = record {
  m = no_model;
  holds = held;
  reads = λ ls last model are read. (ls, first_lines bytes at ls one all are, read);
  refuses = λ ls e are refused. (ls, first_lines bytes at ls one all are, refused);
}

-- behind one more line
pub along_more : (models : List CellModel) (bytes : List ℕ) (old new : Reading) (at behind : Cursor) (l : LineSaid) → StandsAt at l behind → (along : IsAlong models bytes old at) → ReadsLine models old.phase along.m l new →
    IsAlong models bytes new behind
along_more models bytes old new at behind l stands along read = record {
  m = read.new;
  holds = read.holds;
  reads = λ ls last all are others. along.reads (l ∷ ls) last all (behind.number, still behind, stands, are) (new.phase, read.said, read.new, read.goes, read.adds, others);
  refuses = λ ls e are refused. along.refuses (l ∷ ls) e (behind.number, still behind, stands, are) (inr (new.phase, read.said, read.new, read.goes, read.adds, refused));
}

-- the next line is refused
pub refused_line : (models : List CellModel) (bytes : List ℕ) (r : Reading) (at behind : Cursor) (l : LineSaid) (e : BlifError) → HasLines behind.number (still behind) → StandsAt at l behind → (along : IsAlong models bytes r at) →
    (e ≡ OutOfMemory) ⊎ ((m : ModelSaid) → Holds m r.draft → IsLineRefused models r.phase m l e) → (e ≡ OutOfMemory) ⊎ FileIsRefused models bytes e
refused_line models bytes r at behind l e later stands along (inl short) = inl short
refused_line models bytes r at behind l e later stands along (inr cant) =
    let all = along.refuses (l ∷ later.ls) e (behind.number, still behind, stands, later.are) (inl (cant along.m along.holds)) in
    inr (record { ls = all.0; lines = all.1; refuse = inl all.2 })

-- all lines are read
pub refused_end : (models : List CellModel) (bytes : List ℕ) (r : Reading) (at : Cursor) (e : BlifError) → still at ≡ [] → IsAlong models bytes r at → (e ≡ OutOfMemory) ⊎ CantEnd r.phase (end_of bytes) e →
    (e ≡ OutOfMemory) ⊎ FileIsRefused models bytes e
refused_end models bytes r at e none along (inl short) = inl short
refused_end models bytes r at e none along (inr cant) =
    let all = along.reads [] r.phase along.m none (refl, refl) in
    inr (record { ls = all.0; lines = all.1; refuse = inr (record { last = r.phase; all = along.m; read = all.2; cant_end = cant }) })

pub says_model : (models : List CellModel) (bytes : List ℕ) (r : Reading) (at : Cursor) (parts : ModelParts) → still at ≡ [] → IsAlong models bytes r at → MayEnd r.phase → ((m : ModelSaid) → Holds m r.draft → AreParts m parts) →
    FileSays models bytes parts
says_model models bytes r at parts none along may are =
    let all = along.reads [] r.phase along.m none (refl, refl) in
    record { ls = all.0; lines = all.1; model = along.m; say = record { last = r.phase; read = all.2; may_end = may }; parts_are = are along.m along.holds }
