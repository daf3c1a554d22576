-- Each node on a walk gets its last one, and so each node that was met has it.
use Rattle.std.proofs.Common.{◌≡◌, ◌⊎◌, ◌<◌, inl, inr, ℕ, suc, Bool, true, List, [], ◌∷◌, ◌++◌, Option, Some, None, length, get_or, take, drop, refl, sym, ap, ◌∙◌, subst, append_assoc, arith}
use Rattle.std.specs.Prelude.{All, slice_get}
use Rattle.std.proofs.lemmas.Option.{slice_get-get_or, slice_get_within, get_or_from_slice_get}
use Rattle.vtr_base.specs.Lists.{Has}
use Rattle.list_laws.specs.Orders.{Once}
use Rattle.list_laws.proofs.Members.{has_at, each_has, has_left, has_right, has_either}
use Rattle.prog_map.specs.Walk.{IsLast}
use Rattle.prog_map.specs.Ends.{Leads, IsPath, last_of, AreSettled, IsSettled, AreOpen, GetEnd, Turns}
use Rattle.prog_map.proofs.Climbs.{some_injective}
use Rattle.prog_map.proofs.Paths.{Parts, parts, Cut, cut, last_back, once_back, once_apart, path_from, walk_of, walk_path, goes_on, goes_round, place_behind, place_last}

all_of : (P : ℕ → Type 0) (xs : List ℕ) → ((x : ℕ) → Has xs x → P x) → All P xs
all_of P xs each k d inside = each (get_or xs k d) (has_at xs k (get_or xs k d) (slice_get-get_or xs k d inside))

has_end : (node : ℕ) (later : List ℕ) → Has (node ∷ later) (last_of node later)
has_end node [] = inl refl
has_end node (next ∷ later) = inr (has_end next later)

module _ (steps : List (Option ℕ)) (met : List Bool) (last : List ℕ) (end : ℕ) (walk : List ℕ) (o : AreOpen steps met last end walk) where
  once : Once walk
  once = subst Once (sym o.is) o.once

  on_walk : (front : List ℕ) (x : ℕ) (back : List ℕ) → walk ≡ front ++ x ∷ back → IsPath (Leads steps) x back × Once (x ∷ back) × (end ≡ last_of x back)
  on_walk front x back is = (
    path_from (Leads steps) o.start o.later front x back (sym o.is ∙ is) o.path,
    once_back front x back (subst Once is once),
    o.end_is ∙ ap (last_of 0) (sym o.is ∙ is) ∙ last_back 0 front x back,
  )

  on_walk_closed : (node next : ℕ) (p : Parts walk node) → Leads steps node next → slice_get met next ≡ Some true
  on_walk_closed node next p leads = by p.back refl
    where
      by : (back : List ℕ) → p.back ≡ back → slice_get met next ≡ Some true
      by [] none =
          let ends : end ≡ node = (on_walk p.front node p.back p.is).2 ∙ ap (last_of node) none in
          o.ends.ends next (ap (λ k. slice_get steps k) ends ∙ leads)
      by (y ∷ back) more =
          let is : walk ≡ p.front ++ node ∷ y ∷ back = p.is ∙ ap (λ b. p.front ++ node ∷ b) more in
          let same : y ≡ next = some_injective (some_injective (sym (on_walk p.front node (y ∷ back) is).0.0 ∙ leads)) in
          o.marked next (subst (λ l. Has l next) (sym is) (has_right p.front (node ∷ y ∷ back) next (inr (inl (sym same)))))

  pub nodes_inside : All (λ node. node < length last) walk
  nodes_inside = all_of (λ node. node < length last) walk (λ node has. let inside = slice_get_within met node true (o.marked node has) in omega (arith, inside, o.marks, o.all))

  pub end_inside : end < length steps
  end_inside =
      let inside = slice_get_within met end true (o.marked end (subst (λ l. Has l end) (sym o.is) (subst (Has (o.start ∷ o.later)) (sym o.end_is) (has_end o.start o.later)))) in
      omega (arith, inside, o.marks)

  -- what is read of the last node's step
  pub leads_at : {next : ℕ} → get_or steps end None ≡ Some next → Leads steps end next
  leads_at read = slice_get-get_or steps end None end_inside ∙ ap Some read

  pub stops_at : get_or steps end None ≡ None → slice_get steps end ≡ Some None
  stops_at read = slice_get-get_or steps end None end_inside ∙ ap Some read

  pub front_inside : (at next : ℕ) → slice_get walk at ≡ Some next → All (λ node. node < length last) (take at walk)
  front_inside at next is =
      let c = cut walk at next is in
      all_of (λ node. node < length last) (take at walk)
      (λ node has. each_has (λ n. n < length last) walk nodes_inside node (subst (λ l. Has l node) (sym c.is) (has_left (take at walk) (next ∷ c.back) node has)))

  pub round_inside : (at next : ℕ) → slice_get walk at ≡ Some next → (mid : List ℕ) → length mid ≡ length last → All (λ node. node < length mid) (drop at walk)
  round_inside at next is mid long =
      let c = cut walk at next is in
      all_of (λ node. node < length mid) (drop at walk)
      (λ node has.
      let low = each_has (λ n. n < length last) walk nodes_inside node (subst (λ l. Has l node) (sym c.is) (has_right (take at walk) (next ∷ c.back) node (subst (λ l. Has l node) c.behind has))) in
      omega (arith, low, long))

  pub round_once : (at next : ℕ) → slice_get walk at ≡ Some next → Once (drop at walk)
  round_once at next is = let c = cut walk at next is in subst Once (sym c.behind) (once_back (take at walk) next c.back (subst Once c.is once))

  -- what the walk's nodes are to have
  pub settled : (new : List ℕ) → length new ≡ length last → ((node : ℕ) → (Has walk node → ⊥) → slice_get new node ≡ slice_get last node) →
      ((node : ℕ) → Has walk node → (e : ℕ) × (slice_get new node ≡ Some e) × IsLast (Leads steps) node e) → AreSettled steps met new
  settled new long kept each = record {
    marks = o.marks;
    all = long ∙ o.all;
    end = λ node marked. has_end node (o.rest node marked);
    closed = λ node next marked leads. leads_on node next leads (o.rest node marked);
  }
    where
      has_end : (node : ℕ) → Has walk node ⊎ IsSettled steps met last walk node → (e : ℕ) × (slice_get new node ≡ Some e) × IsLast (Leads steps) node e
      has_end node (inl has) = each node has
      has_end node (inr s) = (s.end, kept node s.apart ∙ s.is, s.is_last)

      leads_on : (node next : ℕ) → Leads steps node next → Has walk node ⊎ IsSettled steps met last walk node → slice_get met next ≡ Some true
      leads_on node next leads (inl has) = on_walk_closed node next (parts walk node has) leads
      leads_on node next leads (inr s) = (s.closed next leads).0

  -- the walk ends where no step leads on
  pub ends_here : (new : List ℕ) → slice_get steps end ≡ Some None → GetEnd last new end walk → AreSettled steps met new
  ends_here new none gets = settled new gets.all gets.kept (λ node has. (end, gets.each node has, here node (parts walk node has)))
    where
      here : (node : ℕ) → Parts walk node → IsLast (Leads steps) node end
      here node p =
          let w = on_walk p.front node p.back p.is in
          record {
            later = p.back;
            walk = walk_of (Leads steps) node end p.back w.0 w.1 w.2;
            ends = inl (λ pin leads. let bad : Some None ≡ Some (Some pin) = sym none ∙ leads in cc);
          }

  -- no node is on the walk to which one leads that isn't
  all_apart : (node : ℕ) (later : List ℕ) → IsPath (Leads steps) node later → slice_get met node ≡ Some true → (Has walk node → ⊥) → (z : ℕ) → Has (node ∷ later) z → Has walk z → ⊥
  all_apart node later path marked apart z (inl is) on = apart (subst (Has walk) is on)
  all_apart node [] path marked apart z (inr none) on = none
  all_apart node (next ∷ later) path marked apart z (inr has) on =
      elim (o.rest node marked) [
        | inl here ↦ apart here
        | inr s ↦ let more = s.closed next path.0 in all_apart next later path.1 more.0 more.1 z has on
      ]

  -- the walk leads to a node that was met before
  pub ends_there : (new : List ℕ) (next known : ℕ) → Leads steps end next → (Has walk next → ⊥) → known ≡ get_or last next 0 → GetEnd last new known walk → AreSettled steps met new
  ends_there new next known leads apart read gets =
      by (o.rest next marked)
    where
      marked : slice_get met next ≡ Some true
      marked = o.ends.ends next leads

      by : Has walk next ⊎ IsSettled steps met last walk next → AreSettled steps met new
      by (inl has) = absurd (apart has)
      by (inr s) = settled new gets.all gets.kept (λ node has. (known, gets.each node has, subst (λ e. IsLast (Leads steps) node e) (sym same) (there node (parts walk node has))))
        where
          same : known ≡ s.end
          same = read ∙ get_or_from_slice_get last next s.end 0 s.is

          there : (node : ℕ) → Parts walk node → IsLast (Leads steps) node s.end
          there node p =
              let w = on_walk p.front node p.back p.is in
              goes_on (Leads steps) node p.back next s.end w.0 w.1 (ap (λ k. slice_get steps k) (sym w.2) ∙ leads) s.is_last
              (λ z on after.
              all_apart next s.is_last.later (walk_path (Leads steps) next s.end s.is_last.later s.is_last.walk) marked apart z after
              (subst (λ l. Has l z) (sym p.is) (has_right p.front (node ∷ p.back) z on)))

  -- the walk leads to a node of its own
  pub ends_round : (mid new : List ℕ) (next at : ℕ) → Leads steps end next → slice_get walk at ≡ Some next → GetEnd last mid end (take at walk) → Turns mid new end (drop at walk) →
      AreSettled steps met new
  ends_round mid new next at leads is_at gets turns = settled new (turns.all ∙ gets.all) kept (λ node has. each node (has_either front (next ∷ c.back) node (subst (λ l. Has l node) c.is has)))
    where
      c : Cut walk at next
      c = cut walk at next is_at

      front : List ℕ
      front = take at walk

      apart : (z : ℕ) → Has front z → Has (drop at walk) z → ⊥
      apart z in_front in_back = once_apart front (next ∷ c.back) (subst Once c.is once) z in_front (subst (λ l. Has l z) c.behind in_back)

      kept : (node : ℕ) → (Has walk node → ⊥) → slice_get new node ≡ slice_get last node
      kept node off =
          turns.kept node (λ has. off (subst (λ l. Has l node) (sym c.is) (has_right front (next ∷ c.back) node (subst (λ l. Has l node) c.behind has))))
          ∙ gets.kept node (λ has. off (subst (λ l. Has l node) (sym c.is) (has_left front (next ∷ c.back) node has)))

      to_end : (before : List ℕ) (node : ℕ) (back : List ℕ) → walk ≡ before ++ node ∷ back → Has (node ∷ back) next → IsLast (Leads steps) node end
      to_end before node back is has =
          let w = on_walk before node back is in record { later = back; walk = walk_of (Leads steps) node end back w.0 w.1 w.2; ends = inr (next, leads, has) }

      each : (node : ℕ) → Has front node ⊎ Has (next ∷ c.back) node → (e : ℕ) × (slice_get new node ≡ Some e) × IsLast (Leads steps) node e
      each node (inl has) =
          let p = parts front node has in
          let is : walk ≡ p.front ++ node ∷ (p.back ++ next ∷ c.back) = c.is ∙ ap (λ l. l ++ next ∷ c.back) p.is ∙ append_assoc p.front (node ∷ p.back) (next ∷ c.back) in
          (end, turns.kept node (apart node has) ∙ gets.each node has, to_end p.front node (p.back ++ next ∷ c.back) is (inr (has_right p.back (next ∷ c.back) next (inl refl))))
      each node (inr (inl is)) = (
        end,
        turns.each 0 node end (ap (λ l. slice_get l 0) c.behind ∙ ap Some (sym is)) refl,
        subst (λ x. IsLast (Leads steps) x end) (sym is) (to_end front next c.back c.is (inl refl)),
      )
      each node (inr (inr has)) =
          let p = parts c.back node has in
          let w = on_walk front next c.back c.is in
          let round : drop at walk ≡ next ∷ (p.front ++ node ∷ p.back) = c.behind ∙ ap (λ l. next ∷ l) p.is in (
            last_of next p.front,
            turns.each (suc (length p.front)) node (last_of next p.front) (ap (λ l. slice_get l (suc (length p.front))) round ∙ place_behind (next ∷ p.front) node p.back)
                (ap (λ l. slice_get (end ∷ l) (suc (length p.front))) round ∙ place_last next p.front (node ∷ p.back)),
            goes_round (Leads steps) next p.front node p.back (subst (IsPath (Leads steps) next) p.is w.0) (subst (λ l. Once (next ∷ l)) p.is w.1)
                (ap (λ k. slice_get steps k) (sym (w.2 ∙ ap (last_of next) p.is ∙ last_back next p.front node p.back)) ∙ leads),
          )
