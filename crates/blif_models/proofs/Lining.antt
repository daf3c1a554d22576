-- What one line does.
use Rattle.std.proofs.Common.{◌≡◌, ◌⊎◌, inl, inr, ℕ, true, List, [], ◌∷◌, map, refl, sym, subst, arith}
use Rattle.std.specs.Prelude.{IsUtf8}
use denote.Bor.{Bor}
use Rattle.vtr_base.specs.Spans.{AreWords}
use Rattle.arch_types.specs.declared.arch.CellModel.{CellModel}
use Rattle.blif_elems.specs.Seen.{texts}
use Rattle.blif_elems.specs.Nets.{AreNets}
use Rattle.blif_elems.specs.Statements.{Said, says_model, says_inputs, says_outputs, says_names, says_latch, says_box, says_param, says_passed, says_end, IsNames, IsLatch, WordsSay, SaysBehind}
use Rattle.blif_errors.specs.declared.error.BlifError.{BlifError}
use Rattle.blif_errors.specs.declared.error.BlifError.TheVariants.{OutOfMemory}
use Rattle.blif_lines.specs.declared.line.Line.{Line}
use Rattle.blif_lines.specs.Lines.{LineSaid}
use Rattle.blif_lines.specs.Seen.{seen, text_seen}
use Rattle.blif_parts.specs.Lines.{IsLineRefused, IsStopRefusal}
use Rattle.blif_parts.specs.Models.{ModelSaid}
use Rattle.blif_parts.specs.Refusals.{CantAdd}
use Rattle.blif_phases.specs.declared.phase.Phase.{Phase}
use Rattle.blif_phases.specs.Phases.{GoesOn, StopSaid, StopsAt}
use Rattle.blif_phases.specs.Seen.{Holds as HoldsWords}
use Rattle.blif_drafts.specs.declared.draft.Draft.{Draft}
use Rattle.blif_drafts.specs.Seen.{Holds, IsNarrow}

-- the words of a line are told
pub holds_words : (line : Line) (words lent : List (Bor (List ℕ))) → (line.is_utf8 ≡ true → IsUtf8 (text_seen line.text)) → (IsUtf8 (text_seen line.text) → AreWords (text_seen line.text) (map (λ w. w.now) words)) → lent ≡ words →
    HoldsWords (seen line) line.is_utf8 (texts lent)
holds_words line words lent utf8 are is = record {
  told = refl;
  are = λ on. subst (λ (l : List (Bor (List ℕ))). AreWords (text_seen line.text) (texts l)) (sym is) (are (utf8 on));
}

-- the keywords are out of reach here, so that the cases are put together by a tactic
record NarrowSaid (s : Said) : Type 0 where
  is : IsNarrow s

said_model : (behind : List (List ℕ)) (s : Said) → (name : List ℕ) × (behind ≡ name ∷ []) × (s ≡ says_model name) → NarrowSaid s
said_model behind s says = record { is = subst IsNarrow (sym says.2) tt }

said_inputs : (behind : List (List ℕ)) (s : Said) → AreNets behind × (s ≡ says_inputs behind) → NarrowSaid s
said_inputs behind s says = record { is = subst IsNarrow (sym says.1) tt }

said_outputs : (behind : List (List ℕ)) (s : Said) → AreNets behind × (s ≡ says_outputs behind) → NarrowSaid s
said_outputs behind s says = record { is = subst IsNarrow (sym says.1) tt }

said_names : (behind : List (List ℕ)) (s : Said) → (inputs : List (List ℕ)) × (output : List ℕ) × IsNames behind inputs output × (s ≡ says_names inputs output) → NarrowSaid s
said_names behind s says = record { is = subst IsNarrow (sym says.3) says.2.few }

said_latch : (behind : List (List ℕ)) (s : Said) → (loaded made control : List ℕ) × IsLatch behind loaded made control × (s ≡ says_latch loaded made control) → NarrowSaid s
said_latch behind s says = record { is = subst IsNarrow (sym says.4) tt }

said_box : (behind : List (List ℕ)) (s : Said) → (model : List ℕ) × (pins : List (List ℕ)) × (behind ≡ model ∷ pins) × (s ≡ says_box model pins) → NarrowSaid s
said_box behind s says = record { is = subst IsNarrow (sym says.3) tt }

said_param : (behind : List (List ℕ)) (s : Said) → (name value : List ℕ) × (behind ≡ name ∷ value ∷ []) × (s ≡ says_param name value) → NarrowSaid s
said_param behind s says = record { is = subst IsNarrow (sym says.3) tt }

said_passed : (s : Said) → s ≡ says_passed → NarrowSaid s
said_passed s says = record { is = subst IsNarrow (sym says) tt }

said_end : (behind : List (List ℕ)) (s : Said) → (behind ≡ []) × (s ≡ says_end) → NarrowSaid s
said_end behind s says = record { is = subst IsNarrow (sym says.1) tt }

narrow_behind : (k : _) (behind : List (List ℕ)) (s : Said) → SaysBehind k behind s → NarrowSaid s
narrow_behind k behind s says = grind (arith, said_model, said_inputs, said_outputs, said_names, said_latch, said_box, said_param, said_passed, said_end)

narrow_words : (words : List (List ℕ)) (s : Said) → WordsSay words s → IsNarrow s
narrow_words [] s says = subst IsNarrow (sym says) tt
narrow_words (first ∷ behind) s (inl key) = (narrow_behind key.0 behind s key.2).is
narrow_words (first ∷ behind) s (inr row) = subst IsNarrow (sym row.1) tt

-- a `.names` that is read isn't too wide
pub is_narrow : (phase : Phase) (l : LineSaid) (next : Phase) (s : Said) → GoesOn phase l next s → IsNarrow s
is_narrow phase l next s (inl read) = narrow_words read.words s read.says
is_narrow phase l next s (inr over) = subst IsNarrow (sym over.1) tt

-- why a line is refused, by what the lines before it say
pub refused_there : (models : List CellModel) (phase : Phase) (d : Draft) (l : LineSaid) (next : Phase) (s : Said) (e : BlifError) → GoesOn phase l next s →
    (e ≡ OutOfMemory) ⊎ ((m : ModelSaid) → Holds m d → CantAdd models m s l.place e) → (e ≡ OutOfMemory) ⊎ ((m : ModelSaid) → Holds m d → IsLineRefused models phase m l e)
refused_there models phase d l next s e goes (inl short) = inl short
refused_there models phase d l next s e goes (inr cant) = inr (λ m held. inr (next, s, goes, cant m held))

-- and by its words
pub refused_here : (models : List CellModel) (phase : Phase) (d : Draft) (l : LineSaid) (stop : StopSaid) (e : BlifError) → StopsAt phase l stop → ((m : ModelSaid) → Holds m d → IsStopRefusal models m stop l.place e) →
    (e ≡ OutOfMemory) ⊎ ((m : ModelSaid) → Holds m d → IsLineRefused models phase m l e)
refused_here models phase d l stop e stops says = inr (λ m held. inl (stop, stops, says m held))
