-- Distances spread to the nodes of a list, and along a queue.
use Rattle.std.proofs.Common.{◌≡◌, ◌<◌, ◌≤◌, ◌+◌, ◌⊎◌, ℕ, Bool, true, false, List, [], ◌∷◌, ◌++◌, Option, Some, None, length, slice_get, take, get_or, refl, sym, ap, ◌∙◌, subst, inl, inr, arith}
use Rattle.std.specs.Prelude.{not, is_some}
use Rattle.std.proofs.Math.ListN.{set, length-set}
use Rattle.std.proofs.lemmas.Bool.{cases_eq, cases_lt}
use Rattle.std.proofs.lemmas.List.{length_push, take_more}
use Rattle.std.proofs.lemmas.Option.{slice_get_within, slice_get-get_or}
use Rattle.vtr_base.specs.Lists.{Has}
use Rattle.list_laws.proofs.Members.{has_at, has_left, has_last, has_pushed}
use Rattle.list_laws.proofs.Places.{element, get_front}
use Rattle.least_cycle.specs.Walks.{IsAt}
use Rattle.least_cycle.specs.Spreads.{is_far, IsQueued, AreSpread}
use Rattle.least_cycle.proofs.Lists.{get_set_same, get_set_other, count_set_less}
use Rattle.least_cycle.proofs.Entering.{pushed_either}

abbrev entry : ℕ → ℕ → ℕ × ℕ
entry node distance = (node, distance)

pub none_spread : (distance : ℕ) (distances : List (Option ℕ)) (queue : List (ℕ × ℕ)) → AreSpread [] distance distances queue distances queue
none_spread distance distances queue = record {
  each = refl;
  kept = λ node d at. at;
  given = λ node d at. inl at;
  all = λ node has. absurd has;
  queue_kept = λ i node d at. at;
  queue_new = λ i node d at. inl at;
  queued = λ node at. inl at;
  count = refl;
}

-- two entries that are equal have equal parts
same_entry : (node d : ℕ) (other e : ℕ) → entry node d ≡ entry other e → (node ≡ other) × (d ≡ e)
same_entry node d other e is = (ap (λ (p : ℕ × ℕ). p.0) is, ap (λ (p : ℕ × ℕ). p.1) is)

module _ (listed : List ℕ) (distance : ℕ) (distances : List (Option ℕ)) (queue : List (ℕ × ℕ)) (now : List (Option ℕ)) (more : List (ℕ × ℕ))
    (s : AreSpread listed distance distances queue now more) (node : ℕ) where
  -- the next node has a distance already
  pub spread_known : (d : ℕ) → IsAt now node d → AreSpread (listed ++ node ∷ []) distance distances queue now more
  spread_known d at = record {
    each = s.each;
    kept = s.kept;
    given = λ x e at_x. elim (s.given x e at_x) [ inl old ↦ inl old | inr new ↦ inr (has_left listed (node ∷ []) x new.0, new.1) ];
    all = λ x has. elim (has_pushed listed node x has) [
      | inl front ↦ s.all x front
      | inr is ↦ (
        d,
        subst (λ (k : ℕ). IsAt now k d) (sym is) at,
        elim (s.given node d at) [
          | inl old ↦ inl (subst (λ (k : ℕ). IsAt distances k d) (sym is) old)
          | inr new ↦ inr new.1
        ],
      )
    ];
    queue_kept = s.queue_kept;
    queue_new = s.queue_new;
    queued = s.queued;
    count = s.count;
  }

  -- the next node has none yet
  module _ (far : slice_get now node ≡ Some None) where
    abbrev after : List (Option ℕ)
    after = set now node (Some distance)

    within : node < length now
    within = slice_get_within now node None far

    here : IsAt after node distance
    here = get_set_same now node (Some distance) within

    not_far : (x d : ℕ) → IsAt now x d → x ≡ node → ⊥
    not_far x d at is =
        let none : Option ℕ = None in
        let both : Some none ≡ Some (Some d) = sym far ∙ (ap (λ (k : ℕ). slice_get now k) (sym is) ∙ at) in
        let no_way : ⊥ = cc both in no_way

    stays : (x d : ℕ) → IsAt now x d → IsAt after x d
    stays x d at = get_set_other now node x (Some distance) (not_far x d at) ∙ at

    was : (x d : ℕ) → IsAt after x d → IsAt now x d ⊎ ((x ≡ node) × (d ≡ distance))
    was x d at = elim (cases_eq x node) [ inl is ↦ inr (is, newly is) | inr other ↦ inl (sym (get_set_other now node x (Some distance) other) ∙ at) ]
      where
        newly : x ≡ node → d ≡ distance
        newly is =
            let both : Some (Some d) ≡ Some (Some distance) = sym at ∙ (ap (λ (k : ℕ). slice_get after k) is ∙ here) in
            cc both

    -- it wasn't given one before
    was_far : (d : ℕ) → IsAt distances node d → ⊥
    was_far d at = not_far node d (s.kept node d at) refl

    queue_either : (i x d : ℕ) → IsQueued (more ++ entry node distance ∷ []) i x d → IsQueued queue i x d ⊎ ((length queue ≤ i) × (d ≡ distance) × IsAt after x distance)
    queue_either i x d at = elim (pushed_either more (entry node distance) i (entry x d) at) [
      | inl old ↦ elim (s.queue_new i x d old) [ inl first ↦ inl first | inr new ↦ inr (new.0, new.1, stays x distance new.2) ]
      | inr r ↦ (let same = same_entry x d node distance r.is in inr (omega (arith, r.place, longer), same.1, subst (λ (k : ℕ). IsAt after k distance) (sym same.0) here))
    ]
      where
        longer : length queue ≤ length more
        longer = by (cases_lt (length more) (length queue))
          where
            by : (length more < length queue) ⊎ (length queue ≤ length more) → length queue ≤ length more
            by (inr fine) = fine
            by (inl less) =
                let last = element queue (length more) less in
                let kept = s.queue_kept (length more) last.0.0 last.0.1 last.1 in
                absurd (omega (arith, slice_get_within more (length more) last.0 kept))

    pub spread_far : AreSpread (listed ++ node ∷ []) distance distances queue after (more ++ entry node distance ∷ [])
    spread_far = record {
      each = length-set now node (Some distance) ∙ s.each;
      kept = λ x d at. stays x d (s.kept x d at);
      given = λ x d at. elim (was x d at) [
        | inl old ↦ elim (s.given x d old) [ inl first ↦ inl first | inr new ↦ inr (has_left listed (node ∷ []) x new.0, new.1) ]
        | inr new ↦ inr (subst (λ (k : ℕ). Has (listed ++ node ∷ []) k) (sym new.0) (has_last listed node), new.1)
      ];
      all = λ x has. elim (has_pushed listed node x has) [
        | inl front ↦ (let r = s.all x front in (r.0, stays x r.0 r.1, r.2))
        | inr is ↦ (distance, subst (λ (k : ℕ). IsAt after k distance) (sym is) here, inr refl)
      ];
      queue_kept = λ i x d at. get_front more (entry node distance ∷ []) i (entry x d) (s.queue_kept i x d at);
      queue_new = queue_either;
      queued = λ x at. elim (was x distance at) [
        | inl old ↦ elim (s.queued x old) [ inl first ↦ inl first | inr has ↦ inr (has_left more (entry node distance ∷ []) (entry x distance) has) ]
        | inr new ↦ inr (subst (λ (k : ℕ). Has {X = ℕ × ℕ} (more ++ entry node distance ∷ []) (entry k distance)) (sym new.0) (has_last more (entry node distance)))
      ];
      count = omega (arith, count_set_less is_far now node None (Some distance) far refl refl, length_push more (entry node distance), s.count);
    }

none_read : (read : Option ℕ) (b : Bool) → is_some read ≡ not b → b ≡ true → read ≡ None
none_read None b is so = refl
none_read (Some d) b is so = absurd (let bad : true ≡ not true = is ∙ ap not so in let no_way : ⊥ = cc bad in no_way)

some_read : (read : Option ℕ) (b : Bool) → is_some read ≡ not b → b ≡ false → (d : ℕ) × (read ≡ Some d)
some_read None b is not_so = absurd (let bad : false ≡ not false = is ∙ ap not not_so in let no_way : ⊥ = cc bad in no_way)
some_read (Some d) b is not_so = (d, refl)

module _ (nodes : List ℕ) (i : ℕ) (low : i < length nodes) (distance : ℕ) (distances : List (Option ℕ)) (queue : List (ℕ × ℕ)) (now : List (Option ℕ)) (more : List (ℕ × ℕ))
    (s : AreSpread (take i nodes) distance distances queue now more) (within : get_or nodes i 0 < length now) (read : Option ℕ) (is : read ≡ get_or now (get_or nodes i 0) read)
    (b : Bool) (told : is_some read ≡ not b) where
  abbrev next : ℕ
  next = get_or nodes i 0

  read_at : slice_get now next ≡ Some read
  read_at = slice_get-get_or now next read within ∙ ap Some (sym is)

  pub spread_then : b ≡ true → (now' : List (Option ℕ)) (more' : List (ℕ × ℕ)) → now' ≡ set now (get_or nodes i 0) (Some distance) → more' ≡ more ++ (get_or nodes i 0, distance) ∷ [] →
      AreSpread (take (i + 1) nodes) distance distances queue now' more'
  spread_then so now' more' now_is more_is =
      let none : Option ℕ = None in
      let far : slice_get now next ≡ Some none = read_at ∙ ap Some (none_read read b told so) in
      rw (now_is, more_is, take_more nodes i 0 low) (spread_far (take i nodes) distance distances queue now more s next far)

  pub spread_else : b ≡ false → (now' : List (Option ℕ)) (more' : List (ℕ × ℕ)) → now' ≡ now → more' ≡ more → AreSpread (take (i + 1) nodes) distance distances queue now' more'
  spread_else not_so now' more' now_is more_is =
      let some = some_read read b told not_so in
      rw (now_is, more_is, take_more nodes i 0 low) (spread_known (take i nodes) distance distances queue now more s next some.0 (read_at ∙ ap Some some.1))

pub spread_within : (nodes : List ℕ) (i : ℕ) (distance : ℕ) (distances : List (Option ℕ)) (queue : List (ℕ × ℕ)) (now : List (Option ℕ)) (more : List (ℕ × ℕ)) →
    AreSpread (take i nodes) distance distances queue now more → i < length nodes → ((node : ℕ) → Has nodes node → node < length distances) → get_or nodes i 0 < length now
spread_within nodes i distance distances queue now more s low known =
    let fits = known (get_or nodes i 0) (has_at nodes i (get_or nodes i 0) (slice_get-get_or nodes i 0 low)) in
    omega (arith, fits, s.each)
