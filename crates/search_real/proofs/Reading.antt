-- A programming, homes and entries that say what was decided are its realisation.
use Rattle.std.proofs.Common.{◌≡◌, inl, inr, ◌≤◌, ℕ, List, Option, Some, None, length, refl, sym, ap, ◌∙◌, arith}
use Rattle.std.proofs.lemmas.Bool.{cases_lt}
use Rattle.std.proofs.lemmas.Option.{slice_get_within}
use Rattle.pb_expand.specs.declared.number.PbIx.{PbIx}
use Rattle.pb_expand.specs.Graph.{Graph, edge_ix}
use Rattle.prog_map.specs.Choices.{Choices, mode_of, is_used, lut_of}
use Rattle.task_types.specs.declared.task.Task.{Task}
use Rattle.task_types.specs.declared.task.Entry.{Entry}
use Rattle.task_types.specs.declared.decision.Decision.{Decision}
use Rattle.task_types.specs.declared.decision.Occupant.{Occupant}
use Rattle.task_types.specs.Decisions.{mode_in, occupant_in, edge_in}
use Rattle.search_rules.specs.Reading.{IsRealOf, is_taken, wire_of}
use Rattle.search_free.specs.Held.{AreHeld}
use Rattle.search_real.specs.Said.{IsPicked, Says}
use Rattle.search_real.specs.Placed.{AreHomes}
use Rattle.search_real.specs.Entered.{AreEntered}

module _ (g : Graph) (t : Task) (made : List Decision) (held : AreHeld g t made) where
  -- nothing is decided of what isn't there

  no_mode : (pb : ℕ) → length g.instances ≤ pb → mode_in made pb ≡ None
  no_mode pb past = by (mode_in made pb) refl
    where
      by : (o : Option ℕ) → mode_in made pb ≡ o → o ≡ None
      by None is = refl
      by (Some mode) is = absurd (omega (arith, past, (held.modes pb mode is).live.inside))

  no_occupant : (leaf : ℕ) → length g.instances ≤ leaf → occupant_in made leaf ≡ None
  no_occupant leaf past = by (occupant_in made leaf) refl
    where
      by : (o : Option Occupant) → occupant_in made leaf ≡ o → o ≡ None
      by None is = refl
      by (Some occupant) is = absurd (omega (arith, past, (held.leaves leaf occupant is).live.inside))

  module _ (c : Choices) (says : Says g made c (length g.instances) (length g.instances) (length g.instances) (length g.edges)) where
    all_modes : (pb : ℕ) → mode_of c pb ≡ mode_in made pb
    all_modes pb = elim (cases_lt pb (length g.instances)) [
      | inl less ↦ says.modes_said.said pb less
      | inr past ↦ says.modes_said.more pb past ∙ sym (no_mode pb past)
    ]

    all_uses : (leaf : ℕ) → is_used c leaf ≡ is_taken (occupant_in made leaf)
    all_uses leaf = elim (cases_lt leaf (length g.instances)) [
      | inl less ↦ says.uses_said.said leaf less
      | inr past ↦ says.uses_said.more leaf past ∙ sym (ap is_taken (no_occupant leaf past))
    ]

    all_wires : (leaf : ℕ) → lut_of c leaf ≡ wire_of (occupant_in made leaf)
    all_wires leaf = elim (cases_lt leaf (length g.instances)) [
      | inl less ↦ says.wires_said.said leaf less
      | inr past ↦ says.wires_said.more leaf past ∙ sym (ap wire_of (no_occupant leaf past))
    ]

    picked : (pin mode number : ℕ) → edge_in made pin mode ≡ Some (Some (edge_ix number)) → IsPicked g made (length g.edges) pin mode number
    picked pin mode number taken =
        let into = (held.pins pin mode (Some (edge_ix number)) taken).fits in
        record { before = slice_get_within g.edges number into.edge into.there; into = into; taken = taken }

    pub real_is : (homes : List PbIx) (entries : List Entry) → AreHomes t made homes → AreEntered g t made entries → IsRealOf g t made (record { prog = c; homes = homes; entries = entries })
    real_is homes entries are entered = record {
      modes = all_modes;
      picks = λ pin mode number. (
        λ picks. ((says.picks_said.exact pin mode number).0 picks).taken,
        λ taken. (says.picks_said.exact pin mode number).1 (picked pin mode number taken),
      );
      used = all_uses;
      luts = all_wires;
      each = are.long;
      at = are.exact;
      enters = entered.exact;
      entries = record {
        pins = entered.pins;
        nets = entered.nets;
        ascending = entered.ascending;
        fixed = entered.fixed;
      };
    }
