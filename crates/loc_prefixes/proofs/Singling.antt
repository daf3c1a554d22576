-- What singles say, one more at a time.
use Rattle.std.proofs.Common.{◌≡◌, ◌==◌, ◌≤◌, ◌<◌, ◌+◌, ◌⊎◌, inl, inr, ℕ, zero, suc, Bool, true, false, List, [], ◌∷◌, ◌++◌, Option, Some, None, length, take, get_or, slice_get, refl, sym, ap, ◌∙◌, subst, arith}
use Rattle.std.specs.Option.{option_map}
use Rattle.std.proofs.lemmas.Bool.{false≢true}
use Rattle.std.proofs.lemmas.List.{take_more, take_all}
use Rattle.std.proofs.lemmas.Option.{slice_get_read, slice_get-map, slice_get_within}
use Rattle.vtr_base.specs.Lists.{IsFirstPlace}
use Rattle.arch_types.specs.declared.arch.Tile.{Tile}
use Rattle.arch_types.specs.declared.arch.Single.{Single}
use Rattle.arch_types.specs.Tiles.{tile_names}
use Rattle.meta_lines.specs.Each.{Each}
use Rattle.meta_lines.specs.declared.error.LineError.{LineError}
use Rattle.meta_lines.specs.declared.error.LineError.TheVariants.{BadLine, PrefixCount, UnknownInput, FeatureName, OutOfMemory}
use Rattle.meta_lines.specs.Prefixes.{ArePrefixes, RefusesPrefixes}
use Rattle.loc_prefixes.specs.declared.error.SinglesError.{SinglesError}
use Rattle.loc_prefixes.specs.declared.error.SinglesError.TheVariants.{Refused, OutOfMemory as NoRoom}
use Rattle.loc_prefixes.specs.declared.singles.SinglePrefixes.{SinglePrefixes}
use Rattle.loc_prefixes.specs.Singles.{IsPrefixed, IsBare, HasWords, SaysSingle, RefusesSingle, IsFirstRefused, RefusesSingles}

each_push : {A B : Type 0} (R : A → B → Type 0) (xs : List A) (ys : List B) (x : A) (y : B) → Each R xs ys → R x y → Each R (xs ++ x ∷ []) (ys ++ y ∷ [])
each_push R [] ys x y each is = subst (λ l. Each R (x ∷ []) (l ++ y ∷ [])) (sym each) (is, refl)
each_push R (a ∷ xs) [] x y each is = absurd each
each_push R (a ∷ xs) (b ∷ ys) x y each is = (each.0, each_push R xs ys x y each.1 is)

-- what stands beside an element of the first of two lists
pub each_there : {A B : Type 0} (R : A → B → Type 0) (xs : List A) (ys : List B) (k : ℕ) (x : A) → Each R xs ys → slice_get xs k ≡ Some x → (y : B) × (slice_get ys k ≡ Some y) × R x y
each_there R [] ys k x each at = absurd (cc)
each_there R (a ∷ xs) [] k x each at = absurd each
each_there R (a ∷ xs) (b ∷ ys) zero x each at = (let same : x ≡ a = cc in (b, refl, subst (λ z. R z b) (sym same) each.0))
each_there R (a ∷ xs) (b ∷ ys) (suc k) x each at = each_there R xs ys k x each.1 at

in_front : {A : Type 0} (xs : List A) (n k : ℕ) (x : A) → k < n → slice_get xs k ≡ Some x → slice_get (take n xs) k ≡ Some x
in_front [] n k x low at = absurd (cc)
in_front (a ∷ xs) zero k x low at = absurd (omega (arith, low))
in_front (a ∷ xs) (suc n) zero x low at = at
in_front (a ∷ xs) (suc n) (suc k) x low at = in_front xs n k x (omega (arith, low)) at

-- want of memory can be told
room_or_none : (e : LineError) → (e ≡ OutOfMemory) ⊎ (e ≡ OutOfMemory → ⊥)
room_or_none OutOfMemory = inl refl
room_or_none (BadLine line) = inr (λ same. absurd (cc))
room_or_none PrefixCount = inr (λ same. absurd (cc))
room_or_none (UnknownInput line) = inr (λ same. absurd (cc))
room_or_none (FeatureName line) = inr (λ same. absurd (cc))

-- a text that isn't empty
pub some_text : (text prefix : List ℕ) → text ≡ prefix → false ≡ (length text == 0) → prefix ≡ [] → ⊥
some_text text prefix spelled long none = (let bare : (length text == 0) ≡ true = ap (λ (l : List ℕ). length l == 0) (spelled ∙ none) in false≢true (long ∙ bare))

module _ (tiles : List Tile) where
  pub says_more : (singles : List Single) (n : ℕ) (s : Single) (said : List (Option SinglePrefixes)) (here : Option SinglePrefixes) → n < length singles → s ≡ get_or singles n s →
      Each (SaysSingle tiles) (take n singles) said → SaysSingle tiles s here → Each (SaysSingle tiles) (take (n + 1) singles) (said ++ here ∷ [])
  says_more singles n s said here within is each says =
      subst (λ (l : List Single). Each (SaysSingle tiles) l (said ++ here ∷ [])) (sym (take_more singles n s within ∙ ap (λ (t : Single). take n singles ++ t ∷ []) (sym is)))
      (each_push (SaysSingle tiles) (take n singles) said s here each says)

  pub says_all : (singles : List Single) (n : ℕ) (said : List (Option SinglePrefixes)) → length singles ≤ n → Each (SaysSingle tiles) (take n singles) said → Each (SaysSingle tiles) singles said
  says_all singles n said end each = subst (λ (l : List Single). Each (SaysSingle tiles) l said) (take_all n singles end) each

  pub stops_at : (singles : List Single) (n : ℕ) (s : Single) (said : List (Option SinglePrefixes)) (e : LineError) → n < length singles → s ≡ get_or singles n s →
      Each (SaysSingle tiles) (take n singles) said → RefusesSingle tiles s e → IsFirstRefused tiles singles n e
  stops_at singles n s said e within is each refused = record {
    single = s;
    there = slice_get_read singles (length singles) n s refl within is;
    refused = refused;
    before = λ k other low at. (let there = each_there (SaysSingle tiles) (take n singles) said k other each (in_front singles n k other low at) in (there.0, there.2));
  }

  -- a single without a prefix, or one that names no tile, says nothing
  pub bare_text : (single : Single) → single.prefix ≡ [] → IsBare tiles single
  bare_text single none number tile is = is.some none

  pub bare_tile : (single : Single) → ((n : ℕ) → slice_get (tile_names tiles) n ≡ Some single.tile → ⊥) → IsBare tiles single
  bare_tile single none number tile is = none number (slice_get-map (λ (t : Tile). t.name) tiles number ∙ ap (option_map (λ (t : Tile). t.name)) is.there ∙ ap Some is.named)

  -- the tile that a name finds
  module _ (single : Single) (places : List (List ℕ)) (are : places ≡ tile_names tiles) (n : ℕ) (name : List ℕ) (named : name ≡ single.tile) (found : IsFirstPlace places name n) where
    found_name : option_map (λ (t : Tile). t.name) (slice_get tiles n) ≡ Some single.tile
    found_name = sym (slice_get-map (λ (t : Tile). t.name) tiles n) ∙ (ap (λ (l : List (List ℕ)). slice_get l n) (sym are) ∙ (found.there ∙ ap Some named))

    by_tile : (o : Option Tile) → slice_get tiles n ≡ o → option_map (λ (t : Tile). t.name) o ≡ Some single.tile → (tile : Tile) × (slice_get tiles n ≡ Some tile) × (tile.name ≡ single.tile)
    by_tile None at e = absurd (cc)
    by_tile (Some tile) at e = (tile, at, cc)

    found_tile : (tile : Tile) × (slice_get tiles n ≡ Some tile) × (tile.name ≡ single.tile)
    found_tile = by_tile (slice_get tiles n) refl found_name

    pub tile_inside : n < length tiles
    tile_inside = slice_get_within tiles n found_tile.0 found_tile.1

    -- the tile that is read there
    module _ (tile : Tile) (is : tile ≡ get_or tiles n tile) (some : single.prefix ≡ [] → ⊥) (text : List ℕ) (spelled : text ≡ single.prefix) where
      is_prefixed : IsPrefixed tiles single n tile
      is_prefixed =
          let there : slice_get tiles n ≡ Some tile = slice_get_read tiles (length tiles) n tile refl tile_inside is in
          let same : Some tile ≡ Some found_tile.0 = sym there ∙ found_tile.1 in
          let one : tile ≡ found_tile.0 = cc in
          record { some = some; there = there; named = ap (λ (t : Tile). t.name) one ∙ found_tile.2 }

      pub words_here : (words : List (List ℕ)) → ArePrefixes text (get_or tiles n tile).capacity words → HasWords tiles single (record { tile = n; words = words })
      words_here words are_words = record {
        tile = tile;
        is = is_prefixed;
        words = subst (λ (t : List ℕ). ArePrefixes t tile.capacity words) spelled (subst (λ (t : Tile). ArePrefixes text t.capacity words) (sym is) are_words);
      }

      pub refused_here : (e : LineError) → (e ≡ OutOfMemory) ⊎ RefusesPrefixes text (get_or tiles n tile).capacity e → (e ≡ OutOfMemory) ⊎ RefusesSingle tiles single e
      refused_here e (inl short) = inl short
      refused_here e (inr refused) = inr (record {
        number = n;
        tile = tile;
        is = is_prefixed;
        refused = subst (λ (t : List ℕ). RefusesPrefixes t tile.capacity e) spelled (subst (λ (t : Tile). RefusesPrefixes text t.capacity e) (sym is) refused);
      })

  -- what is told of a single that is refused
  pub told_at : (singles : List Single) (n : ℕ) (s : Single) (said : List (Option SinglePrefixes)) (e : LineError) (r : SinglesError) → n < length singles → s ≡ get_or singles n s →
      Each (SaysSingle tiles) (take n singles) said → (e ≡ OutOfMemory → r ≡ NoRoom) → ((e ≡ OutOfMemory → ⊥) → r ≡ Refused n e) → (e ≡ OutOfMemory) ⊎ RefusesSingle tiles s e →
      (r ≡ NoRoom) ⊎ RefusesSingles tiles singles r
  told_at singles n s said e r within is each short told (inl none) = inl (short none)
  told_at singles n s said e r within is each short told (inr refused) = by (room_or_none e)
    where
      by : (e ≡ OutOfMemory) ⊎ (e ≡ OutOfMemory → ⊥) → (r ≡ NoRoom) ⊎ RefusesSingles tiles singles r
      by (inl none) = inl (short none)
      by (inr room) = inr (subst (RefusesSingles tiles singles) (sym (told room)) (stops_at singles n s said e within is each refused))
