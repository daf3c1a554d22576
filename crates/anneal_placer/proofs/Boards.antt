-- The block on each site after a move and after an exchange.
use Rattle.std.proofs.Common.{◌≡◌, ◌≢◌, ◌⊎◌, ◌<◌, ◌≤◌, ◌+◌, ℕ, Bool, true, false, List, ◌++◌, Some, None, Option, length, get_or, set, take, drop, arith, ap, ◌∙◌, sym, subst, inl, inr, refl}
use Rattle.std.specs.List.{All, swap}
use Rattle.std.proofs.Math.Seq.{take-append_seam}
use Rattle.std.proofs.lemmas.Bool.{cases_Bool, cases_eq}
use Rattle.std.proofs.lemmas.Grind.{get_or-set_at}
use Rattle.std.proofs.lemmas.List.{get_or_default, get_or-set_other, length-map, length-set}
use Rattle.std.proofs.lemmas.List.Edits.{length-swap}
use Rattle.matching.specs.Bipartite.{AreApart}
use Rattle.anneal_placer.specs.declared.task.AnnealTask.{AnnealTask}
use Rattle.anneal_placer.specs.declared.task.SiteAt.{SiteAt}
use Rattle.anneal_placer.specs.Board.{AreOccupants, Descends, IsBoard}
use Rattle.anneal_placer.specs.Task.{ArePlaces, FitsAt, cost}
use Rattle.anneal_placer.proofs.Costs.{exchanged}

some_is : (a b : ℕ) (found : Option ℕ) → found ≡ Some a → found ≡ Some b → a ≡ b
some_is a b found is_a is_b = cc (is_a, is_b)

none_is : (a : ℕ) (found : Option ℕ) → found ≡ None → found ≡ Some a → ⊥
none_is a found is_none is_a = cc (is_none, is_a)

-- a block stands elsewhere than another
elsewhere : (places : List ℕ) (occupants : List (Option ℕ)) (a b : ℕ) → AreOccupants places occupants → a < length places → b < length places → a ≢ b → get_or places a 0 ≢ get_or places b 0
elsewhere places occupants a b o a_in b_in other same =
    other (some_is a b (get_or occupants (get_or places b 0) None) (subst (λ s. get_or occupants s None ≡ Some a) same (o.stands a a_in)) (o.stands b b_in))

pub moved_occupants : (places : List ℕ) (occupants : List (Option ℕ)) (block site home : ℕ) → AreOccupants places occupants → block < length places → site < length occupants →
    get_or occupants site None ≡ None → home ≡ get_or places block 0 → AreOccupants (set places block site) (set (set occupants home None) site (Some block))
moved_occupants places occupants block site home o block_in site_in free home_is = record {
  within = λ k inside.
      let k_in : k < length places = omega (arith, length-set places block site) in
      elim (cases_eq k block) [
        | inl same ↦ rw (get_or-set_at places block k site 0 same block_in) (omega (arith, length-set (set occupants home None) site (Some block), length-set {A = Option ℕ} occupants home None))
        | inr other ↦ rw (get_or-set_other places block k site 0 other) (omega (arith, o.within k k_in, length-set (set occupants home None) site (Some block), length-set {A = Option ℕ} occupants home None))
      ];
  stands = λ k inside. stands k (omega (arith, length-set places block site)) (cases_eq k block);
  held = λ s k is. let r = held s k is (cases_eq s site) (cases_eq s home) in (omega (arith, r.0, length-set places block site), r.1);
}
  where
    site_in_new : site < length (set occupants home None)
    site_in_new = omega (arith, length-set {A = Option ℕ} occupants home None)

    home_in : home < length occupants
    home_in = omega (arith, o.within block block_in, home_is)

    not_site : (k : ℕ) → k < length places → get_or places k 0 ≢ site
    not_site k k_in same = none_is k (get_or occupants site None) free (subst (λ s. get_or occupants s None ≡ Some k) same (o.stands k k_in))

    stands : (k : ℕ) → k < length places → ((k ≡ block) ⊎ (k ≢ block)) → get_or (set (set occupants home None) site (Some block)) (get_or (set places block site) k 0) None ≡ Some k
    stands k k_in (inl same) =
        rw (get_or-set_at places block k site 0 same block_in) (get_or-set_at (set occupants home None) site site (Some block) None refl site_in_new ∙ ap (λ n. Some n) (sym same))
    stands k k_in (inr other) =
        rw (get_or-set_other places block k site 0 other)
        (get_or-set_other (set occupants home None) site (get_or places k 0) (Some block) None (not_site k k_in) ∙
        get_or-set_other occupants home (get_or places k 0) None None (λ same. elsewhere places occupants k block o k_in block_in other (same ∙ home_is)) ∙ o.stands k k_in)

    held : (s k : ℕ) → get_or (set (set occupants home None) site (Some block)) s None ≡ Some k → ((s ≡ site) ⊎ (s ≢ site)) → ((s ≡ home) ⊎ (s ≢ home)) →
        (k < length places) × (get_or (set places block site) k 0 ≡ s)
    held s k is (inl at_site) _ =
        let told = some_is block k (get_or (set (set occupants home None) site (Some block)) s None) (get_or-set_at (set occupants home None) site s (Some block) None at_site site_in_new) is in
        (omega (arith, told), get_or-set_at places block k site 0 (sym told) block_in ∙ sym at_site)
    held s k is (inr not_there) (inl at_home) =
        absurd (none_is k (get_or (set (set occupants home None) site (Some block)) s None) (get_or-set_other (set occupants home None) site s (Some block) None not_there ∙ get_or-set_at occupants home s None None at_home home_in) is)
    held s k is (inr not_there) (inr not_home) =
        let was = o.held s k (sym (get_or-set_other (set occupants home None) site s (Some block) None not_there ∙ get_or-set_other occupants home s None None not_home) ∙ is) in
        let other : k ≢ block = λ same. not_home (sym was.1 ∙ ap (λ z. get_or places z 0) same ∙ sym home_is) in
        (was.0, get_or-set_other places block k site 0 other ∙ was.1)

pub exchanged_occupants : (places : List ℕ) (occupants : List (Option ℕ)) (a b here there : ℕ) → AreOccupants places occupants → a < length places → b < length places →
    here ≡ get_or places a 0 → there ≡ get_or places b 0 → AreOccupants (swap places a b) (set (set occupants there (Some a)) here (Some b))
exchanged_occupants places occupants a b here there o a_in b_in here_is there_is = record {
  within = λ k inside. rw (length-set (set occupants there (Some a)) here (Some b), length-set occupants there (Some a)) (within k (omega (arith, length-swap places a b)) (cases_eq k a) (cases_eq k b));
  stands = λ k inside. stands k (omega (arith, length-swap places a b)) (cases_eq k a) (cases_eq k b);
  held = λ s k is. let r = held s k is (cases_eq s here) (cases_eq s there) in (omega (arith, r.0, length-swap places a b), r.1);
}
  where
    e : (get_or (swap places a b) a 0 ≡ get_or places b 0) × (get_or (swap places a b) b 0 ≡ get_or places a 0) × ((x : ℕ) → x ≢ a → x ≢ b → get_or (swap places a b) x 0 ≡ get_or places x 0)
    e = exchanged places a b a_in b_in

    here_in : here < length (set occupants there (Some a))
    here_in = omega (arith, o.within a a_in, here_is, length-set occupants there (Some a))

    there_in : there < length occupants
    there_in = omega (arith, o.within b b_in, there_is)

    at_a : (k : ℕ) → k ≡ a → get_or (swap places a b) k 0 ≡ there
    at_a k same = ap (λ z. get_or (swap places a b) z 0) same ∙ e.0 ∙ sym there_is

    at_b : (k : ℕ) → k ≡ b → get_or (swap places a b) k 0 ≡ here
    at_b k same = ap (λ z. get_or (swap places a b) z 0) same ∙ e.1 ∙ sym here_is

    within : (k : ℕ) → k < length places → ((k ≡ a) ⊎ (k ≢ a)) → ((k ≡ b) ⊎ (k ≢ b)) → get_or (swap places a b) k 0 < length occupants
    within k k_in (inl is_a) _ = omega (arith, at_a k is_a, there_in)
    within k k_in (inr not_a) (inl is_b) = omega (arith, at_b k is_b, o.within a a_in, here_is)
    within k k_in (inr not_a) (inr not_b) = omega (arith, e.2 k not_a not_b, o.within k k_in)

    stands : (k : ℕ) → k < length places → ((k ≡ a) ⊎ (k ≢ a)) → ((k ≡ b) ⊎ (k ≢ b)) → get_or (set (set occupants there (Some a)) here (Some b)) (get_or (swap places a b) k 0) None ≡ Some k
    stands k k_in _ (inl is_b) = rw (at_b k is_b) (get_or-set_at (set occupants there (Some a)) here here (Some b) None refl here_in ∙ ap (λ n. Some n) (sym is_b))
    stands k k_in (inl is_a) (inr not_b) =
        let apart : there ≢ here = λ same. elsewhere places occupants a b o a_in b_in (λ ab. not_b (is_a ∙ ab)) (sym here_is ∙ sym same ∙ there_is) in
        rw (at_a k is_a) (get_or-set_other (set occupants there (Some a)) here there (Some b) None apart ∙ get_or-set_at occupants there there (Some a) None refl there_in ∙ ap (λ n. Some n) (sym is_a))
    stands k k_in (inr not_a) (inr not_b) =
        rw (e.2 k not_a not_b)
        (get_or-set_other (set occupants there (Some a)) here (get_or places k 0) (Some b) None (λ same. elsewhere places occupants k a o k_in a_in not_a (same ∙ here_is)) ∙
        get_or-set_other occupants there (get_or places k 0) (Some a) None (λ same. elsewhere places occupants k b o k_in b_in not_b (same ∙ there_is)) ∙ o.stands k k_in)

    held : (s k : ℕ) → get_or (set (set occupants there (Some a)) here (Some b)) s None ≡ Some k → ((s ≡ here) ⊎ (s ≢ here)) → ((s ≡ there) ⊎ (s ≢ there)) →
        (k < length places) × (get_or (swap places a b) k 0 ≡ s)
    held s k is (inl is_here) _ =
        let told = some_is b k (get_or (set (set occupants there (Some a)) here (Some b)) s None) (get_or-set_at (set occupants there (Some a)) here s (Some b) None is_here here_in) is in
        (omega (arith, told), at_b k (sym told) ∙ sym is_here)
    held s k is (inr not_here) (inl is_there) =
        let told = some_is a k (get_or (set (set occupants there (Some a)) here (Some b)) s None)
        (get_or-set_other (set occupants there (Some a)) here s (Some b) None not_here ∙ get_or-set_at occupants there s (Some a) None is_there there_in) is in
        (omega (arith, told), at_a k (sym told) ∙ sym is_there)
    held s k is (inr not_here) (inr not_there) =
        let was = o.held s k (sym (get_or-set_other (set occupants there (Some a)) here s (Some b) None not_here ∙ get_or-set_other occupants there s (Some a) None not_there) ∙ is) in
        let not_a : k ≢ a = λ same. not_here (sym was.1 ∙ ap (λ z. get_or places z 0) same ∙ sym here_is) in
        let not_b : k ≢ b = λ same. not_there (sym was.1 ∙ ap (λ z. get_or places z 0) same ∙ sym there_is) in
        (was.0, e.2 k not_a not_b ∙ was.1)

-- one more block on its site
pub seated : (places : List ℕ) (occupants : List (Option ℕ)) (at : ℕ) → AreApart places → at < length places → ((k : ℕ) → k < length places → get_or places k 0 < length occupants) →
    ((k : ℕ) → k < at → get_or occupants (get_or places k 0) None ≡ Some k) → ((s k : ℕ) → get_or occupants s None ≡ Some k → (k < at) × (get_or places k 0 ≡ s)) →
    ((k : ℕ) → k < at + 1 → get_or (set occupants (get_or places at 0) (Some at)) (get_or places k 0) None ≡ Some k) ×
    ((s k : ℕ) → get_or (set occupants (get_or places at 0) (Some at)) s None ≡ Some k → (k < at + 1) × (get_or places k 0 ≡ s))
seated places occupants at apart at_in inside stands held = (stands_more, held_more)
  where
    stands_more : (k : ℕ) → k < at + 1 → get_or (set occupants (get_or places at 0) (Some at)) (get_or places k 0) None ≡ Some k
    stands_more k below =
        elim (cases_eq k at) [
          | inl same ↦ get_or-set_at occupants (get_or places at 0) (get_or places k 0) (Some at) None (ap (λ z. get_or places z 0) same) (inside at at_in) ∙ ap (λ n. Some n) (sym same)
          | inr other ↦
              let less : k < at = omega arith in
              get_or-set_other occupants (get_or places at 0) (get_or places k 0) (Some at) None (apart k at less at_in) ∙ stands k less
        ]

    held_more : (s k : ℕ) → get_or (set occupants (get_or places at 0) (Some at)) s None ≡ Some k → (k < at + 1) × (get_or places k 0 ≡ s)
    held_more s k is =
        elim (cases_eq s (get_or places at 0)) [
          | inl same ↦
              let told = some_is at k (get_or (set occupants (get_or places at 0) (Some at)) s None) (get_or-set_at occupants (get_or places at 0) s (Some at) None same (inside at at_in)) is in
              (omega (arith, told), ap (λ z. get_or places z 0) (sym told) ∙ sym same)
          | inr other ↦
              let was = held s k (sym (get_or-set_other occupants (get_or places at 0) s (Some at) None other) ∙ is) in
              (omega (arith, was.0), was.1)
        ]

pub moved_board : (task : AnnealTask) (places new_places : List ℕ) (occupants new_occupants : List (Option ℕ)) (block site : ℕ) → IsBoard task places occupants → block < length places → FitsAt task block site →
    AreOccupants new_places new_occupants → new_places ≡ set places block site → length new_occupants ≡ length occupants → IsBoard task new_places new_occupants
moved_board task places new_places occupants new_occupants block site board block_in fit owners places_are same_sites = record {
  blocks = ap length places_are ∙ length-set places block site ∙ board.blocks;
  sites = same_sites ∙ board.sites;
  fitting = λ k inside. fitting k (omega (arith, ap length places_are, length-set places block site)) (cases_eq k block);
  owners = owners;
}
  where
    fitting : (k : ℕ) → k < length places → ((k ≡ block) ⊎ (k ≢ block)) → FitsAt task k (get_or new_places k 0)
    fitting k k_in (inl same) = rw (places_are, get_or-set_at places block k site 0 same block_in, same) fit
    fitting k k_in (inr other) = rw (places_are, get_or-set_other places block k site 0 other) (board.fitting k k_in)

pub exchanged_board : (task : AnnealTask) (places new_places : List ℕ) (occupants new_occupants : List (Option ℕ)) (a b : ℕ) → IsBoard task places occupants → a < length places → b < length places →
    FitsAt task a (get_or places b 0) → FitsAt task b (get_or places a 0) → AreOccupants new_places new_occupants → new_places ≡ swap places a b → length new_occupants ≡ length occupants →
    IsBoard task new_places new_occupants
exchanged_board task places new_places occupants new_occupants a b board a_in b_in fit_a fit_b owners places_are same_sites = record {
  blocks = ap length places_are ∙ length-swap places a b ∙ board.blocks;
  sites = same_sites ∙ board.sites;
  fitting = λ k inside. subst (λ xs. FitsAt task k (get_or xs k 0)) (sym places_are) (fitting k (omega (arith, ap length places_are, length-swap places a b)) (cases_eq k a) (cases_eq k b));
  owners = owners;
}
  where
    e : (get_or (swap places a b) a 0 ≡ get_or places b 0) × (get_or (swap places a b) b 0 ≡ get_or places a 0) × ((x : ℕ) → x ≢ a → x ≢ b → get_or (swap places a b) x 0 ≡ get_or places x 0)
    e = exchanged places a b a_in b_in

    fitting : (k : ℕ) → k < length places → ((k ≡ a) ⊎ (k ≢ a)) → ((k ≡ b) ⊎ (k ≢ b)) → FitsAt task k (get_or (swap places a b) k 0)
    fitting k k_in (inl is_a) _ = subst (λ z. FitsAt task z (get_or (swap places a b) z 0)) (sym is_a) (subst (FitsAt task a) (sym e.0) fit_a)
    fitting k k_in (inr not_a) (inl is_b) = subst (λ z. FitsAt task z (get_or (swap places a b) z 0)) (sym is_b) (subst (FitsAt task b) (sym e.1) fit_b)
    fitting k k_in (inr not_a) (inr not_b) = subst (FitsAt task k) (sym (e.2 k not_a not_b)) (board.fitting k k_in)

-- a board's places are places
pub placed : (task : AnnealTask) (places : List ℕ) (occupants : List (Option ℕ)) → IsBoard task places occupants → ArePlaces task places
placed task places occupants board = record {
  each = board.blocks;
  fitting = λ block inside. board.fitting block (omega (arith, board.blocks));
  apart = λ i j less inside. elsewhere places occupants i j board.owners (omega arith) inside (omega arith);
}

-- a board of places
pub board_of : (task : AnnealTask) (places : List ℕ) (occupants : List (Option ℕ)) → ArePlaces task places → AreOccupants places occupants → length occupants ≡ length task.sites.items → IsBoard task places occupants
board_of task places occupants p owners sites = record {
  blocks = p.each;
  sites = sites;
  fitting = λ block inside. p.fitting block (omega (arith, p.each));
  owners = owners;
}

pub sites_in : (task : AnnealTask) (places : List ℕ) → ArePlaces task places → All (λ site. site < length task.sites.items) places
sites_in task places p = λ k d inside.
    let fit = p.fitting k (omega (arith, p.each)) in
    omega (arith, fit.1, get_or_default places k d 0 inside, length-map task.sites.items (λ (s : SiteAt). s.kind))

pub board_sites_in : (task : AnnealTask) (places : List ℕ) (occupants : List (Option ℕ)) → IsBoard task places occupants → All (λ site. site < length task.sites.items) places
board_sites_in task places occupants board = sites_in task places (placed task places occupants board)

pub swapped_sites_in : (places : List ℕ) (count a b : ℕ) → a < length places → b < length places → All (λ site. site < count) places → All (λ site. site < count) (swap places a b)
swapped_sites_in places count a b a_in b_in all = λ k d inside.
    let k_in : k < length places = omega (arith, length-swap places a b) in
    omega (arith, get_or_default (swap places a b) k d 0 inside, below k k_in (cases_eq k a) (cases_eq k b))
  where
    below : (k : ℕ) → k < length places → ((k ≡ a) ⊎ (k ≢ a)) → ((k ≡ b) ⊎ (k ≢ b)) → get_or (swap places a b) k 0 < count
    below k k_in (inl is_a) _ = let e = exchanged places a b a_in b_in in omega (arith, ap (λ z. get_or (swap places a b) z 0) is_a, e.0, all b 0 b_in)
    below k k_in (inr not_a) (inl is_b) = let e = exchanged places a b a_in b_in in omega (arith, ap (λ z. get_or (swap places a b) z 0) is_b, e.1, all a 0 a_in)
    below k k_in (inr not_a) (inr not_b) = let e = exchanged places a b a_in b_in in omega (arith, e.2 k not_a not_b, all k 0 k_in)

-- one step after others
pub then_more : (task : AnnealTask) (places middle new : List ℕ) (occupants middle_occupants new_occupants : List (Option ℕ)) (better : Bool) →
    Descends task places occupants middle middle_occupants better → Descends task middle middle_occupants new new_occupants true → Descends task places occupants new new_occupants true
then_more task places middle new occupants middle_occupants new_occupants better first second = record {
  board = second.board;
  less = λ _. elim (cases_Bool better) [
    | inl yes' ↦ (let a = first.less yes' in let b = second.less refl in omega (arith, a, b))
    | inr no' ↦ (let b = second.less refl in let a = ap (cost task) (first.same_places no') in omega (arith, a, b))
  ];
  same_places = λ bad. absurd (cc bad);
  same_occupants = λ bad. absurd (cc bad);
}

pub then_none : (task : AnnealTask) (places middle new : List ℕ) (occupants middle_occupants new_occupants : List (Option ℕ)) (better : Bool) →
    Descends task places occupants middle middle_occupants better → Descends task middle middle_occupants new new_occupants false → Descends task places occupants new new_occupants better
then_none task places middle new occupants middle_occupants new_occupants better first second = record {
  board = second.board;
  less = λ yes'. let a = first.less yes' in let b = ap (cost task) (second.same_places refl) in omega (arith, a, b);
  same_places = λ no'. second.same_places refl ∙ first.same_places no';
  same_occupants = λ no'. second.same_occupants refl ∙ first.same_occupants no';
}

-- a slice that is lent and given back as it was
pub given_back : (items lent : List ℕ) (len : ℕ) → lent ≡ items → len ≡ length items → take len (lent ++ drop (length lent) items) ≡ items
given_back items lent len same size =
    subst (λ n. take n (lent ++ drop (length lent) items) ≡ items) (ap length same ∙ sym size) (take-append_seam lent (drop (length lent) items) ∙ same)

pub no_dearer : (task : AnnealTask) (places new : List ℕ) (occupants new_occupants : List (Option ℕ)) (better : Bool) → Descends task places occupants new new_occupants better → cost task new ≤ cost task places
no_dearer task places new occupants new_occupants better d = elim (cases_Bool better) [
  | inl yes' ↦ (let less = d.less yes' in omega arith)
  | inr no' ↦ omega (arith, ap (cost task) (d.same_places no'))
]

-- who stands on a site that is read
pub holder : (task : AnnealTask) (places : List ℕ) (occupants : List (Option ℕ)) (site other : ℕ) (read : Option ℕ) → IsBoard task places occupants → site < length task.sites.items →
    read ≡ get_or occupants site read → read ≡ Some other → (other < length places) × (get_or places other 0 ≡ site)
holder task places occupants site other read board site_in is held =
    board.owners.held site other (sym (get_or_default occupants site read None (omega (arith, site_in, board.sites))) ∙ sym is ∙ held)

pub site_within : (task : AnnealTask) (block site : ℕ) → FitsAt task block site → site < length task.sites.items
site_within task block site fit = omega (arith, fit.1, length-map task.sites.items (λ (s : SiteAt). s.kind))
