-- What lines say keeps what every model keeps.
use Rattle.std.proofs.Common.{◌≡◌, ◌+◌, inl, inr, ℕ, List, [], ◌∷◌, length, refl, sym, subst, arith}
use Rattle.std.specs.List.{sum_by}
use Rattle.std.proofs.lemmas.List.Sums.{sum_by-cons}
use Rattle.vtr_base.specs.Lists.{Has}
use Rattle.arch_types.specs.declared.arch.CellModel.{CellModel}
use Rattle.blif_lines.specs.Lines.{LineSaid}
use Rattle.blif_phases.specs.declared.phase.Phase.{Phase}
use Rattle.blif_parts.specs.Models.{ModelSaid, no_model}
use Rattle.blif_parts.specs.Lines.{AreRead, SayModel}
use Rattle.model_words.specs.Laws.{SaysPlain, HavePlainWords}
use Rattle.model_steps.specs.Keeps.{Keeps}
use Rattle.model_steps.specs.Laws.{KeepsEmpty, KeepsSteps}

abbrev long : LineSaid → ℕ
long l = length l.text

module _ (models : List CellModel) (steps : KeepsSteps) where
  read_keeps : (phase : Phase) (words : ℕ) (m : ModelSaid) (ls : List LineSaid) (last : Phase) (all : ModelSaid) → Keeps models words m → ((l : LineSaid) → Has ls l → SaysPlain l) →
      AreRead models phase m ls last all → Keeps models (words + sum_by long ls) all
  read_keeps phase words m [] last all k plain read =
      let same : words ≡ words + sum_by long [] = omega arith in
      subst (λ n. Keeps models n all) same (subst (Keeps models words) (sym read.1) k)
  read_keeps phase words m (l ∷ ls) last all k plain read =
      let here = plain l (inl refl) phase read.0 read.1 read.3 in
      let next = steps models words (long l) m read.1 read.2 k here read.4 in
      let same : (words + long l) + sum_by long ls ≡ words + sum_by long (l ∷ ls) = omega (arith, sum_by-cons long l ls) in
      subst (λ n. Keeps models n all) same (read_keeps read.0 (words + long l) read.2 ls last all next (λ m' has. plain m' (inr has)) read.5)

pub model_keeps : (models : List CellModel) (bytes : List ℕ) (ls : List LineSaid) (m : ModelSaid) → KeepsEmpty → KeepsSteps → HavePlainWords bytes ls → SayModel models ls m →
    Keeps models (0 + sum_by long ls) m
model_keeps models bytes ls m empty steps plain say = read_keeps models steps _ 0 no_model ls say.last m (empty models) plain.each say.read
