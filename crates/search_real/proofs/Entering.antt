-- Entries, noted pin by pin.
use Rattle.std.proofs.Common.{◌≡◌, ◌<◌, ◌+◌, ◌⊎◌, inl, inr, ℕ, zero, suc, List, [], ◌∷◌, ◌++◌, Some, length, refl, sym, ap, ◌∙◌, subst, arith}
use Rattle.std.specs.Prelude.{slice_get, Result, Ok, Err, IfOk}
use Rattle.std.proofs.lemmas.Bool.Decides.{eqb_tells}
use Rattle.std.proofs.lemmas.Option.{slice_get_within}
use Rattle.list_laws.proofs.Members.{has_at}
use Rattle.pb_expand.specs.Graph.{Graph, pin_ix}
use Rattle.task_types.specs.declared.task.Task.{Task}
use Rattle.task_types.specs.declared.task.Entry.{Entry}
use Rattle.task_types.specs.declared.task.Entries.{Entries}
use Rattle.task_types.specs.declared.task.Entries.TheVariants.{Free, Fixed}
use Rattle.task_types.specs.declared.decision.Decision.{Decision}
use Rattle.task_types.specs.Decisions.{entry_in}
use Rattle.task_types.specs.Open.{SurelyEntersBy}
use Rattle.task_types.specs.Realises.{net_at}
use Rattle.task_reach.specs.Valid.{IsTaskOf}
use Rattle.search_free.specs.Held.{AreHeld}
use Rattle.search_real.specs.Entered.{HasRightEntries, HasEntriesBefore, AreEntered}

abbrev entry_of : ℕ → ℕ → Entry
entry_of pin net = record { pin = pin_ix pin; net = net }

-- an entry that a look-up finds stands in the list
record FoundEntry (entries : List Entry) (pin net : ℕ) : Type 0 where
  pub place : ℕ
  pub entry : Entry
  pub is : slice_get entries place ≡ Some entry
  pub at : entry.pin.0 ≡ pin
  pub of : entry.net ≡ net

found : (entries : List Entry) (pin net : ℕ) → net_at entries pin ≡ Some net → FoundEntry entries pin net
found [] pin net is = absurd (let bad : ⊥ = cc is in bad)
found (e ∷ entries) pin net is = elim (eqb_tells e.pin.0 pin) [
  | inl same ↦ (let there : Some e.net ≡ Some net = rw same.0 at is in record { place = 0; entry = e; is = refl; at = same.1; of = cc there })
  | inr apart ↦ (let r = found entries pin net (rw apart.0 at is) in record { place = suc r.place; entry = r.entry; is = r.is; at = r.at; of = r.of })
]

-- an entry behind others is found where none of them is of its pin
looked_behind : (entries : List Entry) (pin net : ℕ) → ((k : ℕ) (e : Entry) → slice_get entries k ≡ Some e → e.pin.0 ≡ pin → ⊥) → net_at (entries ++ entry_of pin net ∷ []) pin ≡ Some net
looked_behind [] pin net none = elim (eqb_tells pin pin) [ inl same ↦ rw same.0 refl | inr apart ↦ absurd (apart.1 refl) ]
looked_behind (e ∷ entries) pin net none = elim (eqb_tells e.pin.0 pin) [
  | inl same ↦ absurd (none 0 e refl same.1)
  | inr apart ↦ rw apart.0 (looked_behind entries pin net (λ k other is. none (suc k) other is))
]

looked_before : (entries : List Entry) (pin net : ℕ) (last : Entry) → net_at entries pin ≡ Some net → net_at (entries ++ last ∷ []) pin ≡ Some net
looked_before [] pin net last is = absurd (let bad : ⊥ = cc is in bad)
looked_before (e ∷ entries) pin net last is = elim (eqb_tells e.pin.0 pin) [
  | inl same ↦ rw same.0 (rw same.0 at is)
  | inr apart ↦ rw apart.0 (looked_before entries pin net last (rw apart.0 at is))
]

-- what stands in a list with one more is of the list, or that one
record IsLast (entries : List Entry) (last : Entry) (k : ℕ) (e : Entry) : Type 0 where
  pub place : k ≡ length entries
  pub is : e ≡ last

pushed : (entries : List Entry) (last : Entry) (k : ℕ) (e : Entry) → slice_get (entries ++ last ∷ []) k ≡ Some e → (slice_get entries k ≡ Some e) ⊎ IsLast entries last k e
pushed [] last zero e is = inr (record { place = refl; is = (let same : last ≡ e = cc is in sym same) })
pushed [] last (suc k) e is = absurd (let bad : ⊥ = cc is in bad)
pushed (x ∷ entries) last zero e is = inl is
pushed (x ∷ entries) last (suc k) e is = elim (pushed entries last k e is) [
  | inl there ↦ inl there
  | inr here ↦ inr (record { place = ap suc here.place; is = here.is })
]

-- what holds of a list holds of the copy of it
pub ok_of : {E : Type 0} (r : Result (List Entry) E) (entries : List Entry) (P : List Entry → Type 0) → IfOk r (λ copy. copy ≡ entries) → P entries → IfOk r P
ok_of (Ok copy) entries P is holds = subst P (sym is) holds
ok_of (Err e) entries P is holds = tt

module _ (made : List Decision) where
  pub no_entries : HasEntriesBefore made [] 0
  no_entries = record {
    before = λ k e is. absurd (let bad : ⊥ = cc is in bad);
    each = λ k e is. absurd (let bad : ⊥ = cc is in bad);
    all = λ net pin less. absurd (omega (arith, less));
    ascending = λ i j e f less is _. absurd (let bad : ⊥ = cc is in bad);
  }

  -- a loop's last number is the number of all
  pub all_before : (entries : List Entry) (n all : ℕ) → HasEntriesBefore made entries n → n ≡ all → HasEntriesBefore made entries all
  all_before entries n all has same = subst (λ k. HasEntriesBefore made entries k) same has

  module _ (entries : List Entry) (n : ℕ) (has : HasEntriesBefore made entries n) where
    pub entry_kept : ((net : ℕ) → entry_in made n ≡ Some (Some net) → ⊥) → HasEntriesBefore made entries (n + 1)
    entry_kept none = record {
      before = λ k e is. omega (arith, has.before k e is);
      each = has.each;
      all = λ net pin less is. elim (eqb_tells pin n) [
        | inl same ↦ absurd (none net (ap (λ p. entry_in made p) (sym same.1) ∙ is))
        | inr apart ↦ has.all net pin (omega (arith, less, apart.1)) is
      ];
      ascending = has.ascending;
    }

    pub entry_put : (net : ℕ) → entry_in made n ≡ Some (Some net) → HasEntriesBefore made (entries ++ entry_of n net ∷ []) (n + 1)
    entry_put net is = record { before = before; each = each; all = all; ascending = ascending }
      where
        before : (k : ℕ) (e : Entry) → slice_get (entries ++ entry_of n net ∷ []) k ≡ Some e → e.pin.0 < n + 1
        before k e at = elim (pushed entries (entry_of n net) k e at) [
          | inl there ↦ omega (arith, has.before k e there)
          | inr last ↦ omega (arith, ap (λ (x : Entry). x.pin.0) last.is)
        ]

        each : (k : ℕ) (e : Entry) → slice_get (entries ++ entry_of n net ∷ []) k ≡ Some e → entry_in made e.pin.0 ≡ Some (Some e.net)
        each k e at = elim (pushed entries (entry_of n net) k e at) [
          | inl there ↦ has.each k e there
          | inr last ↦ subst (λ (x : Entry). entry_in made x.pin.0 ≡ Some (Some x.net)) (sym last.is) is
        ]

        all : (other pin : ℕ) → pin < n + 1 → entry_in made pin ≡ Some (Some other) → net_at (entries ++ entry_of n net ∷ []) pin ≡ Some other
        all other pin less at = elim (eqb_tells pin n) [
          | inl same ↦ (
              let both : Some (Some net) ≡ Some (Some other) = sym is ∙ ap (λ p. entry_in made p) (sym same.1) ∙ at in
              let net_is : net ≡ other = cc both in
              ap (λ p. net_at (entries ++ entry_of n net ∷ []) p) same.1
              ∙ looked_behind entries n net (λ k e there at_pin. (let less_pin = has.before k e there in omega (arith, less_pin, at_pin)))
              ∙ ap (λ x. Some x) net_is)
          | inr apart ↦ looked_before entries pin other (entry_of n net) (has.all other pin (omega (arith, less, apart.1)) at)
        ]

        ascending : (i j : ℕ) (e f : Entry) → i < j → slice_get (entries ++ entry_of n net ∷ []) i ≡ Some e → slice_get (entries ++ entry_of n net ∷ []) j ≡ Some f → e.pin.0 < f.pin.0
        ascending i j e f less at_i at_j = elim (pushed entries (entry_of n net) i e at_i) [
          | inl first ↦ elim (pushed entries (entry_of n net) j f at_j) [
            | inl second ↦ has.ascending i j e f less first second
            | inr last ↦ omega (arith, has.before i e first, ap (λ (x : Entry). x.pin.0) last.is)
          ]
          | inr last ↦ elim (pushed entries (entry_of n net) j f at_j) [
            | inl second ↦ absurd (omega (arith, less, last.place, slice_get_within entries j f second))
            | inr both ↦ absurd (omega (arith, less, last.place, both.place))
          ]
        ]

module _ (g : Graph) (t : Task) (made : List Decision) where
  -- free entries are those that were decided
  pub free_entered : (entries : List Entry) → t.entries ≡ Free → AreHeld g t made → HasEntriesBefore made entries (length g.pins) → AreEntered g t made entries
  free_entered entries free held has = record {
    exact = λ net pin. (
      λ at. subst (λ (es : Entries). SurelyEntersBy es made net pin) (sym free) (decided net pin at),
      λ enters. (let is : entry_in made pin ≡ Some (Some net) = subst (λ (es : Entries). SurelyEntersBy es made net pin) free enters in has.all net pin (inside pin net is) is),
    );
    pins = λ k e is. (held.entries e.pin.0 (Some e.net) (has.each k e is)).root;
    nets = λ k e is. (held.entries e.pin.0 (Some e.net) (has.each k e is)).fits;
    ascending = has.ascending;
    fixed = λ es is. absurd (let bad : ⊥ = cc (sym free ∙ is) in bad);
  }
    where
      inside : (pin net : ℕ) → entry_in made pin ≡ Some (Some net) → pin < length g.pins
      inside pin net is = (let root = (held.entries pin (Some net) is).root in slice_get_within g.pins pin root.at root.is)

      decided : (net pin : ℕ) → net_at entries pin ≡ Some net → entry_in made pin ≡ Some (Some net)
      decided net pin at =
          let r = found entries pin net at in
          ap (λ p. entry_in made p) (sym r.at) ∙ has.each r.place r.entry r.is ∙ ap (λ x. Some (Some x)) r.of

  -- fixed entries are those of the task
  pub fixed_entered : (entries : List Entry) → t.entries ≡ Fixed entries → IsTaskOf g t → HasRightEntries g t → AreEntered g t made entries
  fixed_entered entries fixed task right = record {
    exact = λ net pin. (
      λ at. subst (λ (es : Entries). SurelyEntersBy es made net pin) (sym fixed) at,
      λ enters. subst (λ (es : Entries). SurelyEntersBy es made net pin) fixed enters,
    );
    pins = λ k e is. (right entries fixed).pins e (has_at entries k e is);
    nets = λ k e is. (right entries fixed).nets e (has_at entries k e is);
    ascending = (task.fixed entries fixed).each;
    fixed = λ es is. (let both : Fixed entries ≡ Fixed es = sym fixed ∙ is in cc both);
  }
