-- The word of a location.
use Rattle.std.proofs.Common.{◌≡◌, ◌==◌, ◌<◌, ◌⊎◌, inl, inr, ℕ, Bool, true, false, List, Option, Some, None, MatchOption, length, map, slice_get, if◌then◌else◌, true≢false, refl, sym, ap, ◌∙◌, subst, arith}
use Rattle.std.specs.Option.{option_map, option_and_then}
use Rattle.std.specs.Prelude.{◌≤ℤ◌, ◌<ℤ◌, ℤ}
use Rattle.std.proofs.lemmas.Int.{ints}
use Rattle.std.proofs.lemmas.Bool.Decides.{nat_tests}
use Rattle.std.proofs.lemmas.Option.{slice_get_within, slice_get-map, get_or_from_slice_get}
use Rattle.arch_types.specs.declared.arch.Tile.{Tile}
use Rattle.arch_types.specs.declared.arch.Single.{Single}
use Rattle.arch_types.specs.Names.{AreDifferent}
use Rattle.arch_types.specs.Tiles.{tile_names}
use Rattle.meta_lines.specs.Prefixes.{prefix_words}
use Rattle.rr_locs.specs.declared.roots.LocAt.{LocAt}
use Rattle.loc_prefixes.specs.declared.singles.SinglePrefixes.{SinglePrefixes}
use Rattle.loc_prefixes.specs.declared.table.LocPrefixes.{LocPrefixes}
use Rattle.loc_prefixes.specs.Singles.{IsPrefixed, SaysSingle, HasWords}
use Rattle.loc_prefixes.specs.Holders.{StandsNone, IsHolder, held_at}
use Rattle.loc_prefixes.specs.Prefixes.{GivesPrefix, IsPrefixOf, IsTableOf, word_in, word_at}
use Rattle.loc_prefixes.proofs.Singling.{each_there}

same_number : (m n : ℕ) → (m == n) ≡ true → m ≡ n
same_number m n e = grind (arith, nat_tests)

itself : (m n : ℕ) → m ≡ n → (m == n) ≡ true
itself m n e = grind (arith, nat_tests)

either_way : (a b : ℕ) → (a < b) ⊎ ((b < a) ⊎ (a ≡ b))
either_way a b = grind arith

-- two numbers of one name are one
one_place : (names : List (List ℕ)) (i j : ℕ) (name : List ℕ) → AreDifferent names → slice_get names i ≡ Some name → slice_get names j ≡ Some name → i ≡ j
one_place names i j name different at there = by (either_way i j)
  where
    by : (i < j) ⊎ ((j < i) ⊎ (i ≡ j)) → i ≡ j
    by (inl less) = absurd (different i j name less (slice_get_within names j name there) (get_or_from_slice_get names i name name at ∙ sym (get_or_from_slice_get names j name name there)))
    by (inr (inl more)) = absurd (different j i name more (slice_get_within names i name at) (get_or_from_slice_get names j name name there ∙ sym (get_or_from_slice_get names i name name at)))
    by (inr (inr same)) = same

one_tile : (tiles : List Tile) (single : Single) (i j : ℕ) (a b : Tile) → AreDifferent (tile_names tiles) → IsPrefixed tiles single i a → IsPrefixed tiles single j b → i ≡ j
one_tile tiles single i j a b different is other =
    one_place (tile_names tiles) i j single.tile different (named i a is) (named j b other)
  where
    named : (n : ℕ) (t : Tile) → IsPrefixed tiles single n t → slice_get (tile_names tiles) n ≡ Some single.tile
    named n t p = slice_get-map (λ (u : Tile). u.name) tiles n ∙ ap (option_map (λ (u : Tile). u.name)) p.there ∙ ap Some p.named

never_both : (a b : ℤ) → a <ℤ b → b ≤ℤ a → ⊥
never_both a b less low = omega (arith, ints, less, low)

-- one single holds
one_holder : (singles : List Single) (x y p q : ℕ) → IsHolder singles x y p → IsHolder singles x y q → p ≡ q
one_holder singles x y p q a b = by (either_way p q)
  where
    by : (p < q) ⊎ ((q < p) ⊎ (p ≡ q)) → p ≡ q
    by (inl less) = absurd (never_both a.single.priority b.single.priority (b.first p a.single less a.there a.stands) (a.greatest q b.single b.there b.stands))
    by (inr (inl more)) = absurd (never_both b.single.priority a.single.priority (a.first q b.single more b.there b.stands) (b.greatest p a.single a.there a.stands))
    by (inr (inr same)) = same

there_too : {X : Type 0} (xs : List X) (p q : ℕ) (x y : X) → p ≡ q → slice_get xs p ≡ Some x → slice_get xs q ≡ Some y → x ≡ y
there_too xs p q x y same at there = (let both : Some x ≡ Some y = sym at ∙ ap (λ n. slice_get xs n) same ∙ there in cc)

module _ (tiles : List Tile) (singles : List Single) (loc : LocAt) (different : AreDifferent (tile_names tiles)) where
  -- the single that holds at the location
  module _ (place : ℕ) (holder : IsHolder singles loc.x loc.y place) where
    same_single : (word : List ℕ) (g : GivesPrefix tiles singles loc word) → g.single ≡ holder.single
    same_single word g = there_too singles g.place place g.single holder.single (one_holder singles loc.x loc.y g.place place g.holds holder) g.there holder.there

    is_prefixed : (word : List ℕ) (g : GivesPrefix tiles singles loc word) → IsPrefixed tiles holder.single loc.tile g.tile
    is_prefixed word g = subst (λ (s : Single). IsPrefixed tiles s loc.tile g.tile) (same_single word g) g.is

    module _ (said : SinglePrefixes) (has : HasWords tiles holder.single said) where
      gives : said.tile ≡ loc.tile → (word : List ℕ) → slice_get said.words loc.sub ≡ Some word → GivesPrefix tiles singles loc word
      gives same word here = record {
        place = place;
        single = holder.single;
        there = holder.there;
        holds = holder;
        tile = has.tile;
        is = subst (λ (n : ℕ). IsPrefixed tiles holder.single n has.tile) same has.is;
        words = said.words;
        are = has.words;
        here = here;
      }

      is_word : (word : List ℕ) (g : GivesPrefix tiles singles loc word) → slice_get said.words loc.sub ≡ Some word
      is_word word g =
          let text : g.single.prefix ≡ holder.single.prefix = ap (λ (s : Single). s.prefix) (same_single word g) in
          let same : g.words ≡ said.words = g.are.words ∙ ap prefix_words text ∙ sym has.words.words in
          ap (λ l. slice_get l loc.sub) (sym same) ∙ g.here

      of_tile : said.tile ≡ loc.tile → (o : Option (List ℕ)) → slice_get said.words loc.sub ≡ o → IsPrefixOf tiles singles loc o
      of_tile same None none = λ word g. (let some = is_word word g in absurd (cc))
      of_tile same (Some word) here = gives same word here

      by_test : (b : Bool) → (said.tile == loc.tile) ≡ b → IsPrefixOf tiles singles loc (if b then slice_get said.words loc.sub else None)
      by_test true same = of_tile (same_number said.tile loc.tile same) (slice_get said.words loc.sub) refl
      by_test false other = λ word g.
          let same = itself said.tile loc.tile (one_tile tiles holder.single said.tile loc.tile has.tile g.tile different has.is (is_prefixed word g)) in
          absurd (true≢false (sym same ∙ other))

    by_said : (o : Option SinglePrefixes) → SaysSingle tiles holder.single o → IsPrefixOf tiles singles loc (word_in (Some o) loc)
    by_said None bare = λ word g. bare loc.tile g.tile (is_prefixed word g)
    by_said (Some said) has = by_test said has (said.tile == loc.tile) refl

  module _ (table : LocPrefixes) (is : IsTableOf tiles singles table) where
    at_holder : (place : ℕ) → IsHolder singles loc.x loc.y place → IsPrefixOf tiles singles loc (word_at table.said place loc)
    at_holder place holder =
        let beside = each_there (SaysSingle tiles) singles table.said place holder.single is.said holder.there in
        subst (λ o. IsPrefixOf tiles singles loc (word_in o loc)) (sym beside.1) (by_said place holder beside.0 beside.2)

    by_held : (held : Option ℕ) → MatchOption held (StandsNone singles loc.x loc.y) (IsHolder singles loc.x loc.y) →
        IsPrefixOf tiles singles loc (option_and_then (λ place. word_at table.said place loc) held)
    by_held None none = λ word g. none g.place g.holds.single g.holds.there g.holds.stands
    by_held (Some place) holder = at_holder place holder

    pub looked_up : IsPrefixOf tiles singles loc (option_and_then (λ place. word_at table.said place loc) (held_at table.holders loc.x loc.y))
    looked_up = by_held (held_at table.holders loc.x loc.y) (is.holders loc.x loc.y)
