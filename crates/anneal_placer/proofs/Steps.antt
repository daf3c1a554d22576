-- What places cost after a step, by the nets of the blocks that it moves, and places that no step makes better.
use Rattle.std.proofs.Common.{◌≡◌, ◌<◌, ◌≤◌, ◌+◌, ℕ, Bool, true, false, IsTrue, List, Some, None, Option, length, get_or, set, arith, ap, ◌∙◌, sym, subst, inl, inr}
use Rattle.std.specs.Prelude.{slice_index_or}
use Rattle.std.specs.List.{All, Contains, sum_by, swap}
use borrow.Author.Count.{below_more}
use Rattle.std.proofs.lemmas.Bool.{cases_Bool, cases_eq, cases_lt}
use Rattle.std.proofs.lemmas.List.{ext_get_or, get_or_default, length-map, set-get_or}
use Rattle.std.proofs.lemmas.List.Edits.{length-swap}
use Rattle.anneal_placer.specs.declared.pull.Pull.{Pull}
use Rattle.anneal_placer.specs.declared.rect.Rect.{Rect}
use Rattle.anneal_placer.specs.declared.task.AnnealTask.{AnnealTask}
use Rattle.anneal_placer.specs.declared.task.SiteAt.{SiteAt}
use Rattle.anneal_placer.specs.Board.{IsBoard}
use Rattle.anneal_placer.specs.Cost.{net_cost, nets_cost, site_at}
use Rattle.anneal_placer.specs.Rects.{away, holds, with_block}
use Rattle.anneal_placer.specs.Search.{AreStuck, IsPull, IsStuck, base_cost}
use Rattle.anneal_placer.specs.Task.{FitsAt, IsSettled, cost, nets_of}
use Rattle.anneal_placer.proofs.Costs.{both, exchanged, first_alone, joined, second_alone, unmoved}
use Rattle.anneal_placer.proofs.Sums.{one_part, pairwise, two_parts}

-- a move changes the nets of its block alone
pub moved : (sites : List SiteAt) (places : List ℕ) (nets : List (List ℕ)) (block site : ℕ) →
    nets_cost sites (set places block site) nets + nets_cost sites places (with_block block nets) ≡ nets_cost sites places nets + nets_cost sites (set places block site) (with_block block nets)
moved sites places nets block site =
    one_part (net_cost sites (set places block site)) (net_cost sites places) (holds block) (λ net absent. unmoved sites places block site net absent) nets

-- an exchange changes the nets of its two blocks, and each with both is counted twice on both sides
pub swapped : (sites : List SiteAt) (places : List ℕ) (nets : List (List ℕ)) (a b : ℕ) → a < length places → b < length places →
    nets_cost sites (swap places a b) nets + (nets_cost sites places (with_block a nets) + nets_cost sites places (with_block b nets)) ≡
    nets_cost sites places nets + (nets_cost sites (swap places a b) (with_block a nets) + nets_cost sites (swap places a b) (with_block b nets))
swapped sites places nets a b a_in b_in =
    two_parts (net_cost sites (swap places a b)) (net_cost sites places) (holds a) (holds b)
    (λ net no_a no_b. first_alone sites places a b net a_in b_in no_b ∙ unmoved sites places a (get_or places b 0) net no_a)
    (λ net has_a has_b. both sites places a b net a_in b_in has_a has_b) nets

-- the moves of two blocks to each other's site, each alone, cost in sum no more than the places and the exchange
pub apart : (sites : List SiteAt) (places : List ℕ) (nets : List (List ℕ)) (a b : ℕ) → a < length places → b < length places →
    nets_cost sites (set places a (get_or places b 0)) nets + nets_cost sites (set places b (get_or places a 0)) nets ≤ nets_cost sites places nets + nets_cost sites (swap places a b) nets
apart sites places nets a b a_in b_in =
    pairwise (net_cost sites (set places a (get_or places b 0))) (net_cost sites (set places b (get_or places a 0))) (net_cost sites places) (net_cost sites (swap places a b)) less nets
  where
    less : (net : List ℕ) → net_cost sites (set places a (get_or places b 0)) net + net_cost sites (set places b (get_or places a 0)) net ≤ net_cost sites places net + net_cost sites (swap places a b) net
    less net =
        elim (cases_Bool (holds a net)) [
          | inl has_a ↦ elim (cases_Bool (holds b net)) [
            | inl has_b ↦ omega (arith, joined sites places a b net a_in has_a has_b, joined sites places b a net b_in has_b has_a, both sites places a b net a_in b_in has_a has_b)
            | inr no_b ↦ omega (arith, unmoved sites places b (get_or places a 0) net no_b, first_alone sites places a b net a_in b_in no_b)
          ]
          | inr no_a ↦ omega (arith, unmoved sites places a (get_or places b 0) net no_a, second_alone sites places a b net a_in b_in no_a)
        ]

-- what the move of a block costs, by how far it is here and there from the others of its nets
pub moves_by : (sites : List SiteAt) (places : List ℕ) (nets : List (List ℕ)) (block site here : ℕ) (rects : List Rect) → IsPull sites places nets block rects here →
    nets_cost sites (set places block site) nets + here ≡ nets_cost sites places nets + sum_by (away (site_at sites site)) rects
moves_by sites places nets block site here rects pull =
    let now : nets_cost sites places (with_block block nets) ≡ base_cost sites places nets block + here =
    ap (λ p. nets_cost sites p (with_block block nets)) (sym (set-get_or places block 0)) ∙ pull.moved (get_or places block 0) ∙ ap (λ n. base_cost sites places nets block + n) (sym pull.distance) in
    omega (arith, moved sites places nets block site, pull.moved site, now)

-- an exchange doesn't help where the other block loses as much as the first one gains
pub too_far : (task : AnnealTask) (places : List ℕ) (block other gain : ℕ) (pull : Pull) → block < length places → other < length places →
    IsPull task.sites.items places (nets_of task) other pull.rects.items pull.away → cost task (set places block (get_or places other 0)) + gain ≡ cost task places →
    (sum_by (away (site_at task.sites.items (get_or places block 0))) pull.rects.items < pull.away + gain → ⊥) → cost task places ≤ cost task (swap places block other)
too_far task places block other gain pull block_in other_in pulled gains far =
    let home = get_or places block 0 in
    elim (cases_lt (sum_by (away (site_at task.sites.items home)) pull.rects.items) (pull.away + gain)) [
      | inl less ↦ absurd (far less)
      | inr more ↦
          omega (arith, apart task.sites.items places (nets_of task) block other block_in other_in, moves_by task.sites.items places (nets_of task) other home pull.away pull.rects.items pulled, gains, more)
    ]

pub swap_sym : (places : List ℕ) (a b : ℕ) → a < length places → b < length places → swap places b a ≡ swap places a b
swap_sym places a b a_in b_in =
    ext_get_or 0 (swap places b a) (swap places a b) (length-swap places b a ∙ sym (length-swap places a b)) same
  where
    same : (x : ℕ) → x < length (swap places b a) → get_or (swap places b a) x 0 ≡ get_or (swap places a b) x 0
    same x inside =
        let e = exchanged places a b a_in b_in in
        let f = exchanged places b a b_in a_in in
        elim (cases_eq x a) [
          | inl at_a ↦ subst (λ z. get_or (swap places b a) z 0 ≡ get_or (swap places a b) z 0) (sym at_a) (f.1 ∙ sym e.0)
          | inr not_a ↦ elim (cases_eq x b) [
            | inl at_b ↦ subst (λ z. get_or (swap places b a) z 0 ≡ get_or (swap places a b) z 0) (sym at_b) (f.0 ∙ sym e.1)
            | inr not_b ↦ f.2 x not_b not_a ∙ sym (e.2 x not_a not_b)
          ]
        ]

-- two exchanges of the same blocks
pub swap_back : (places : List ℕ) (a b : ℕ) → a < length places → b < length places → swap (swap places a b) a b ≡ places
swap_back places a b a_in b_in =
    ext_get_or 0 (swap (swap places a b) a b) places (length-swap (swap places a b) a b ∙ length-swap places a b) same
  where
    same : (x : ℕ) → x < length (swap (swap places a b) a b) → get_or (swap (swap places a b) a b) x 0 ≡ get_or places x 0
    same x inside =
        let e = exchanged places a b a_in b_in in
        let f = exchanged (swap places a b) a b (omega (arith, length-swap places a b)) (omega (arith, length-swap places a b)) in
        elim (cases_eq x a) [
          | inl at_a ↦ subst (λ z. get_or (swap (swap places a b) a b) z 0 ≡ get_or places z 0) (sym at_a) (f.0 ∙ e.1)
          | inr not_a ↦ elim (cases_eq x b) [
            | inl at_b ↦ subst (λ z. get_or (swap (swap places a b) a b) z 0 ≡ get_or places z 0) (sym at_b) (f.1 ∙ e.0)
            | inr not_b ↦ f.2 x not_a not_b ∙ e.2 x not_a not_b
          ]
        ]

-- where no block can go anywhere so that it costs less, no step makes the cost less
pub settled : (task : AnnealTask) (places : List ℕ) (occupants : List (Option ℕ)) → IsBoard task places occupants →
    AreStuck task places occupants (length task.blocks.items) → IsSettled task places
settled task places occupants board stuck = record { moves = moves; exchanges = exchanges }
  where
    site_in : (block site : ℕ) → FitsAt task block site → site < length task.sites.items
    site_in block site fit = omega (arith, fit.1, length-map task.sites.items (λ (s : SiteAt). s.kind))

    at : (block site : ℕ) → FitsAt task block site → cost task (set places block site) < cost task places →
        (other : ℕ) × (slice_index_or occupants site None ≡ Some other) × (FitsAt task other (get_or places block 0) → cost task places ≤ cost task (swap places block other))
    at block site fit less = stuck block fit.0 site (site_in block site fit) fit less

    moves : (block site : ℕ) → FitsAt task block site → (Contains places site → ⊥) → cost task places ≤ cost task (set places block site)
    moves block site fit free =
        elim (cases_lt (cost task (set places block site)) (cost task places)) [
          | inr more ↦ more
          | inl less ↦
              let found = at block site fit less in
              let holder = board.owners.held site found.0 found.1 in
              absurd (free (found.0, holder.0, get_or_default places found.0 site 0 holder.0 ∙ holder.1))
        ]

    same_block : (other b : ℕ) → slice_index_or occupants (get_or places b 0) None ≡ Some other → b < length places → other ≡ b
    same_block other b holds_other inside = let told = board.owners.stands b inside in cc (holds_other, told)

    exchanges : (a b : ℕ) → FitsAt task a (get_or places b 0) → FitsAt task b (get_or places a 0) → cost task places ≤ cost task (swap places a b)
    exchanges a b fit_a fit_b =
        let a_in : a < length places = omega (arith, fit_a.0, board.blocks) in
        let b_in : b < length places = omega (arith, fit_b.0, board.blocks) in
        let law = apart task.sites.items places (nets_of task) a b a_in b_in in
        elim (cases_lt (cost task (set places a (get_or places b 0))) (cost task places)) [
          | inl less ↦
              let found = at a (get_or places b 0) fit_a less in
              let is = same_block found.0 b found.1 b_in in
              subst (λ c. cost task places ≤ cost task (swap places a c)) is (found.2 (subst (λ c. FitsAt task c (get_or places a 0)) (sym is) fit_b))
          | inr more ↦ elim (cases_lt (cost task (set places b (get_or places a 0))) (cost task places)) [
            | inl less ↦
                let found = at b (get_or places a 0) fit_b less in
                let is = same_block found.0 a found.1 a_in in
                subst (λ p. cost task places ≤ cost task p) (swap_sym places a b a_in b_in)
                (subst (λ c. cost task places ≤ cost task (swap places b c)) is (found.2 (subst (λ c. FitsAt task c (get_or places b 0)) (sym is) fit_a)))
            | inr more_too ↦ omega (arith, law, more, more_too)
          ]
        ]

-- one more block, where the places are those at the beginning
pub stuck_further : (task : AnnealTask) (places now : List ℕ) (occupants occupants_now : List (Option ℕ)) (count : ℕ) → now ≡ places → occupants_now ≡ occupants →
    AreStuck task places occupants count → IsStuck task now occupants_now count (length task.sites.items) → AreStuck task places occupants (count + 1)
stuck_further task places now occupants occupants_now count same same_occupants below here =
    below_more _ _ below (subst (λ p. IsStuck task p occupants count (length task.sites.items)) same (subst (λ o. IsStuck task now o count (length task.sites.items)) same_occupants here))

pub not_all : (xs : List Bool) (k : ℕ) (d : Bool) → k < length xs → All IsTrue xs → get_or xs k d ≡ false → ⊥
not_all xs k d inside all off = let on : get_or xs k d ≡ true = all k d inside in absurd (cc (on, off))
