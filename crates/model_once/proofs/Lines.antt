-- Lines are read in one way, or refused in one way.
use Rattle.std.proofs.Common.{◌≡◌, inl, inr, ℕ, List, [], ◌∷◌, sym, ◌∙◌, subst}
use Rattle.vtr_base.specs.declared.place.Place.{Place}
use Rattle.arch_types.specs.declared.arch.CellModel.{CellModel}
use Rattle.blif_lines.specs.Lines.{LineSaid}
use Rattle.blif_elems.specs.Statements.{Said}
use Rattle.blif_phases.specs.declared.phase.Phase.{Phase}
use Rattle.blif_phases.specs.declared.phase.Phase.TheVariants.{Before, Inside, Behind, Later, BlackBox}
use Rattle.blif_phases.specs.Phases.{StopSaid, stops_bad, stops_wide, stops_latch, stops_unread, stops_stray, GoesOn}
use Rattle.blif_phases.specs.Laws.{HasOneStep, HasOneStop, NeverBoth as NeverStops}
use Rattle.blif_errors.specs.declared.error.BlifError.{BlifError}
use Rattle.blif_parts.specs.Models.{ModelSaid, no_model}
use Rattle.blif_parts.specs.Adds.{Adds}
use Rattle.blif_parts.specs.Refusals.{CantAdd, IsWideRefusal, IsStrayRefusal}
use Rattle.blif_parts.specs.Lines.{AreRead, IsStopRefusal, IsLineRefused, IsFirstRefused, MayEnd, CantEnd, SayModel, SayNoModel}

one_wide : (m : ModelSaid) (output : List ℕ) (place : Place) (e f : BlifError) → IsWideRefusal m output place e → IsWideRefusal m output place f → e ≡ f
one_wide m output place e f (inl a) (inl b) = a.1 ∙ sym b.1
one_wide m output place e f (inl a) (inr (inl b)) = absurd (b.0 a.0)
one_wide m output place e f (inl a) (inr (inr b)) = absurd (b.0 a.0)
one_wide m output place e f (inr (inl a)) (inl b) = absurd (a.0 b.0)
one_wide m output place e f (inr (inl a)) (inr (inl b)) = a.2 ∙ sym b.2
one_wide m output place e f (inr (inl a)) (inr (inr b)) = absurd (b.1 a.1)
one_wide m output place e f (inr (inr a)) (inl b) = absurd (a.0 b.0)
one_wide m output place e f (inr (inr a)) (inr (inl b)) = absurd (a.1 b.1)
one_wide m output place e f (inr (inr a)) (inr (inr b)) = a.2 ∙ sym b.2

one_stray : (models : List CellModel) (name : List ℕ) (place : Place) (e f : BlifError) → IsStrayRefusal models name place e → IsStrayRefusal models name place f → e ≡ f
one_stray models name place e f (inl a) (inl b) = a.1 ∙ sym b.1
one_stray models name place e f (inl a) (inr b) = absurd (a.0 b.0)
one_stray models name place e f (inr a) (inl b) = absurd (b.0 a.0)
one_stray models name place e f (inr a) (inr b) = a.1 ∙ sym b.1

one_stop_refusal : (models : List CellModel) (m : ModelSaid) (stop : StopSaid) (place : Place) (e f : BlifError) → IsStopRefusal models m stop place e → IsStopRefusal models m stop place f → e ≡ f
one_stop_refusal models m stops_bad place e f a b = a ∙ sym b
one_stop_refusal models m (stops_wide output) place e f a b = one_wide m output place e f a b
one_stop_refusal models m (stops_latch made) place e f a b = a ∙ sym b
one_stop_refusal models m (stops_unread word) place e f a b = a ∙ sym b
one_stop_refusal models m (stops_stray name) place e f a b = one_stray models name place e f a b

one_end : (phase : Phase) (end : Place) (e f : BlifError) → CantEnd phase end e → CantEnd phase end f → e ≡ f
one_end Before end e f a b = a ∙ sym b
one_end Inside end e f a b = absurd a
one_end Behind end e f a b = absurd a
one_end Later end e f a b = a ∙ sym b
one_end BlackBox end e f a b = absurd a

never_ends : (phase : Phase) (end : Place) (e : BlifError) → MayEnd phase → CantEnd phase end e → ⊥
never_ends Before end e may cant = may
never_ends Inside end e may cant = cant
never_ends Behind end e may cant = cant
never_ends Later end e may cant = may
never_ends BlackBox end e may cant = cant

module _ (steps : HasOneStep) (stops : HasOneStop) (apart : NeverStops)
    (adds : (models : List CellModel) (m : ModelSaid) (s : Said) (a b : ModelSaid) → Adds models m s a → Adds models m s b → a ≡ b)
    (fails : (models : List CellModel) (m : ModelSaid) (s : Said) (place : Place) (e f : BlifError) → CantAdd models m s place e → CantAdd models m s place f → e ≡ f)
    (never : (models : List CellModel) (m : ModelSaid) (s : Said) (place : Place) (new : ModelSaid) (e : BlifError) → Adds models m s new → CantAdd models m s place e → ⊥)
    (models : List CellModel) where
  -- one line

  -- a line is read, and added
  abbrev IsRead : Phase → ModelSaid → LineSaid → Phase → ModelSaid → Type 0
  IsRead phase m l next new = (s : Said) × GoesOn phase l next s × Adds models m s new

  one_read : (phase : Phase) (m : ModelSaid) (l : LineSaid) (next other : Phase) (a b : ModelSaid) → IsRead phase m l next a → IsRead phase m l other b → (next ≡ other) × (a ≡ b)
  one_read phase m l next other a b x y =
      let same = steps phase l next other x.0 y.0 x.1 y.1 in
      (same.0, adds models m y.0 a b (subst (λ s. Adds models m s a) same.1 x.2) y.2)

  one_line_refused : (phase : Phase) (m : ModelSaid) (l : LineSaid) (e f : BlifError) → IsLineRefused models phase m l e → IsLineRefused models phase m l f → e ≡ f
  one_line_refused phase m l e f (inl a) (inl b) =
      let same = stops phase l a.0 b.0 a.1 b.1 in
      one_stop_refusal models m b.0 l.place e f (subst (λ s. IsStopRefusal models m s l.place e) same a.2) b.2
  one_line_refused phase m l e f (inl a) (inr b) = absurd (apart phase l b.0 b.1 a.0 b.2 a.1)
  one_line_refused phase m l e f (inr a) (inl b) = absurd (apart phase l a.0 a.1 b.0 a.2 b.1)
  one_line_refused phase m l e f (inr a) (inr b) =
      let same = steps phase l a.0 b.0 a.1 b.1 a.2 b.2 in
      fails models m b.1 l.place e f (subst (λ s. CantAdd models m s l.place e) same.1 a.3) b.3

  never_refused : (phase : Phase) (m : ModelSaid) (l : LineSaid) (next : Phase) (new : ModelSaid) (e : BlifError) → IsRead phase m l next new → IsLineRefused models phase m l e → ⊥
  never_refused phase m l next new e x (inl b) = apart phase l next x.0 b.0 x.1 b.1
  never_refused phase m l next new e x (inr b) =
      let same = steps phase l next b.0 x.0 b.1 x.1 b.2 in
      never models m b.1 l.place new e (subst (λ s. Adds models m s new) same.1 x.2) b.3

  -- all lines

  one_reading : (phase : Phase) (m : ModelSaid) (ls : List LineSaid) (last other : Phase) (a b : ModelSaid) → AreRead models phase m ls last a → AreRead models phase m ls other b →
      (last ≡ other) × (a ≡ b)
  one_reading phase m [] last other a b x y = (x.0 ∙ sym y.0, x.1 ∙ sym y.1)
  one_reading phase m (l ∷ ls) last other a b x y =
      let same = one_read phase m l x.0 y.0 x.2 y.2 (x.1, x.3, x.4) (y.1, y.3, y.4) in
      one_reading y.0 y.2 ls last other a b (subst (λ n. AreRead models y.0 n ls last a) same.1 (subst (λ p. AreRead models p x.2 ls last a) same.0 x.5)) y.5

  one_first : (phase : Phase) (m : ModelSaid) (ls : List LineSaid) (e f : BlifError) → IsFirstRefused models phase m ls e → IsFirstRefused models phase m ls f → e ≡ f
  one_first phase m [] e f x y = absurd x
  one_first phase m (l ∷ ls) e f (inl a) (inl b) = one_line_refused phase m l e f a b
  one_first phase m (l ∷ ls) e f (inl a) (inr b) = absurd (never_refused phase m l b.0 b.2 e (b.1, b.3, b.4) a)
  one_first phase m (l ∷ ls) e f (inr a) (inl b) = absurd (never_refused phase m l a.0 a.2 f (a.1, a.3, a.4) b)
  one_first phase m (l ∷ ls) e f (inr a) (inr b) =
      let same = one_read phase m l a.0 b.0 a.2 b.2 (a.1, a.3, a.4) (b.1, b.3, b.4) in
      one_first b.0 b.2 ls e f (subst (λ n. IsFirstRefused models b.0 n ls e) same.1 (subst (λ p. IsFirstRefused models p a.2 ls e) same.0 a.5)) b.5

  never_first : (phase : Phase) (m : ModelSaid) (ls : List LineSaid) (last : Phase) (all : ModelSaid) (e : BlifError) → AreRead models phase m ls last all → IsFirstRefused models phase m ls e → ⊥
  never_first phase m [] last all e x y = y
  never_first phase m (l ∷ ls) last all e x (inl b) = never_refused phase m l x.0 x.2 e (x.1, x.3, x.4) b
  never_first phase m (l ∷ ls) last all e x (inr b) =
      let same = one_read phase m l x.0 b.0 x.2 b.2 (x.1, x.3, x.4) (b.1, b.3, b.4) in
      never_first b.0 b.2 ls last all e (subst (λ n. AreRead models b.0 n ls last all) same.1 (subst (λ p. AreRead models p x.2 ls last all) same.0 x.5)) b.5

  pub one_model : (ls : List LineSaid) (m n : ModelSaid) → SayModel models ls m → SayModel models ls n → m ≡ n
  one_model ls m n a b = (one_reading Before no_model ls a.last b.last m n a.read b.read).1

  pub one_refusal : (ls : List LineSaid) (end : Place) (e f : BlifError) → SayNoModel models ls end e → SayNoModel models ls end f → e ≡ f
  one_refusal ls end e f (inl a) (inl b) = one_first Before no_model ls e f a b
  one_refusal ls end e f (inl a) (inr b) = absurd (never_first Before no_model ls b.last b.all e b.read a)
  one_refusal ls end e f (inr a) (inl b) = absurd (never_first Before no_model ls a.last a.all f a.read b)
  one_refusal ls end e f (inr a) (inr b) =
      let same = one_reading Before no_model ls a.last b.last a.all b.all a.read b.read in
      one_end b.last end e f (subst (λ p. CantEnd p end e) same.0 a.cant_end) b.cant_end

  pub never_both : (ls : List LineSaid) (end : Place) (m : ModelSaid) (e : BlifError) → SayModel models ls m → SayNoModel models ls end e → ⊥
  never_both ls end m e a (inl b) = never_first Before no_model ls a.last m e a.read b
  never_both ls end m e a (inr b) =
      let same = one_reading Before no_model ls a.last b.last m b.all a.read b.read in
      never_ends b.last end e (subst MayEnd same.0 a.may_end) b.cant_end
