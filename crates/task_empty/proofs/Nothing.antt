-- A valid task of no atoms has no nets, and needs nothing.
use Rattle.std.proofs.Common.{◌≡◌, ◌≢◌, ◌<◌, ◌++◌, inl, ℕ, List, [], ◌∷◌, Option, Some, None, false, length, refl, sym, ap, ◌∙◌, arith}
use Rattle.std.specs.Prelude.{slice_get, IsSome}
use Rattle.std.specs.FinMap.{get-empty}
use Rattle.std.specs.FinSet.{contains-empty}
use Rattle.std.specs.Ordering.{nat_cmp}
use Rattle.vtr_base.specs.Lists.{Has}
use Rattle.list_laws.proofs.Members.{has_map}
use Rattle.list_laws.proofs.Places.{element}
use Rattle.pb_expand.specs.Graph.{Graph, pb_ix}
use Rattle.prog_map.specs.declared.choice.LSite.{LSite}
use Rattle.prog_map.specs.declared.choice.LSite.TheVariants as site
use Rattle.prog_map.specs.Choices.{site_cmp, no_choices, mode_of, pick_of, is_used, lut_of, IsProgOf}
use Rattle.prog_map.specs.Sites.{HasChoice}
use Rattle.task_types.specs.declared.task.Task.{Task}
use Rattle.task_types.specs.declared.task.TaskNet.{TaskNet}
use Rattle.task_types.specs.declared.task.Need.{Need}
use Rattle.task_types.specs.declared.task.Entry.{Entry}
use Rattle.task_types.specs.declared.task.Entries.TheVariants.{Fixed}
use Rattle.task_types.specs.declared.real.Real.{Real}
use Rattle.task_types.specs.Nets.{NetSaid}
use Rattle.task_types.specs.Ends.{net_of}
use Rattle.task_types.specs.Realises.{Realises}
use Rattle.task_rules.specs.Valid.{IsValid}
use Rattle.task_empty.specs.Empty.{empty_real}

-- nothing is chosen

no_mode : (pb : ℕ) → mode_of no_choices pb ≡ None
no_mode pb = get-empty nat_cmp pb

no_pick : (pin mode : ℕ) → pick_of no_choices pin mode ≡ None
no_pick pin mode = get-empty site_cmp (pin, mode)

no_use : (leaf : ℕ) → is_used no_choices leaf ≡ false
no_use leaf = contains-empty nat_cmp leaf

no_lut : (leaf : ℕ) → lut_of no_choices leaf ≡ None
no_lut leaf = get-empty nat_cmp leaf

none_some : {X : Type 0} {x : X} → None ≡ Some x → ⊥
none_some e = cc

not_some : {X : Type 0} (o : Option X) → o ≡ None → IsSome o → ⊥
not_some None none some = cc some
not_some (Some x) none some = cc none

no_site : (s : LSite) → HasChoice no_choices s → ⊥
no_site (site.Mode pb) some = not_some (mode_of no_choices pb.0) (no_mode pb.0) some
no_site (site.Pin pin mode) some = not_some (pick_of no_choices pin.0 mode) (no_pick pin.0 mode) some
no_site (site.Used pb) some = cc (sym (no_use pb.0) ∙ some)
no_site (site.Lut pb) some = not_some (lut_of no_choices pb.0) (no_lut pb.0) some

nothing : (g : Graph) → IsProgOf g no_choices
nothing g = record {
  modes = λ pb mode is. absurd (none_some (sym (no_mode pb) ∙ is));
  picks = λ pin mode number is. absurd (none_some (sym (no_pick pin mode) ∙ is));
  leaves = λ pb is. absurd (let bad : ⊥ = cc (sym (no_use pb) ∙ is) in bad);
  luts = λ pb choice is. absurd (none_some (sym (no_lut pb) ∙ is));
}

-- lists without elements

empty_of : {X : Type 0} (xs : List X) → ((x : X) → Has xs x → ⊥) → xs ≡ []
empty_of [] none = refl
empty_of (x ∷ xs) none = absurd (none x (inl refl))

first_at : {X : Type 0} (k : ℕ) (x : X) → slice_get [] k ≡ Some x → ⊥
first_at k x is = cc is

module _ (g : Graph) (n : NetSaid) (t : Task) (valid : IsValid g n t) (none : t.atoms ≡ []) where
  unlisted : (place number : ℕ) → slice_get t.atoms place ≡ Some number → ⊥
  unlisted place number is = first_at place number (sym (ap (λ xs. slice_get xs place) none) ∙ is)

  no_nets : t.nets ≡ []
  no_nets = empty_of t.nets (λ of has.
      let joined = (valid.nets.joined of.net).0 (has_map (λ (of : TaskNet). of.net) t.nets of has) in
      unlisted joined.place joined.listed.number joined.listed.listed)

  no_net : (net : ℕ) (of : TaskNet) → slice_get t.nets net ≡ Some of → ⊥
  no_net net of is = first_at net of (sym (ap (λ xs. slice_get xs net) no_nets) ∙ is)

  no_ins : valid.needs.ins ≡ []
  no_ins = by valid.needs.ins refl
    where
      by : (needs : List Need) → valid.needs.ins ≡ needs → needs ≡ []
      by [] is = refl
      by (asked ∷ needs) is =
          let inside : 0 < length valid.needs.asked.spots = omega (arith, valid.needs.asked.long, ap (λ (xs : List Need). length xs) is) in
          let spot = element valid.needs.asked.spots 0 inside in
          let of = valid.needs.asked.each 0 spot.0 asked spot.1 (ap (λ xs. slice_get xs 0) is) in
          absurd (unlisted spot.0.place of.listed.number of.listed.listed)

  no_outs : valid.needs.outs ≡ []
  no_outs = empty_of valid.needs.outs (λ asked has.
      let made = valid.needs.leave.made (net_of asked) (has_map net_of valid.needs.outs asked has) in
      no_net (net_of asked) made.of made.is)

  no_needs : t.needs ≡ []
  no_needs = valid.needs.are ∙ ap (λ xs. xs ++ valid.needs.outs) no_ins ∙ no_outs

  no_entries : (es : List Entry) → t.entries ≡ Fixed es → [] ≡ es
  no_entries es is = sym (empty_of es (λ e has.
      let inside = (valid.entries es is).nets e has in
      omega (arith, inside, ap (λ (xs : List TaskNet). length xs) no_nets)))

  pub realised : Realises g n t empty_real
  realised = record {
    of = nothing g;
    homes = record {
      each = sym (ap (λ (xs : List ℕ). length xs) none);
      holds = λ place leaf at. absurd (first_at place (pb_ix leaf) at);
      live = λ place leaf at. absurd (first_at place (pb_ix leaf) at);
      used = λ place leaf at. absurd (first_at place (pb_ix leaf) at);
      open' = λ place leaf at. absurd (first_at place (pb_ix leaf) at);
      apart = λ i j leaf at _. absurd (first_at i (pb_ix leaf) at);
    };
    leaves = λ leaf used. absurd (let bad : ⊥ = cc (sym (no_use leaf) ∙ used) in bad);
    entries = record {
      pins = λ k e is. absurd (first_at k e is);
      nets = λ k e is. absurd (first_at k e is);
      ascending = λ i j e f less is _. absurd (first_at i e is);
      fixed = no_entries;
    };
    live = λ s has. absurd (no_site s has);
    met = λ k need is active. absurd (first_at k need (sym (ap (λ xs. slice_get xs k) no_needs) ∙ is));
  }

-- where there is an atom, its home would be in use
pub unrealised : (g : Graph) (n : NetSaid) (t : Task) (r : Real) → t.atoms ≢ [] → r.prog ≡ no_choices → Realises g n t r → ⊥
unrealised g n t r some empty realises = by t.atoms refl
  where
    by : (atoms : List ℕ) → t.atoms ≡ atoms → ⊥
    by [] is = some is
    by (atom ∷ atoms) is =
        let home = element r.homes 0 (omega (arith, realises.homes.each, ap (λ (xs : List ℕ). length xs) is)) in
        let used = realises.homes.used 0 home.0.0 home.1 in
        cc (sym (no_use home.0.0) ∙ ap (λ c. is_used c home.0.0) (sym empty) ∙ used)
