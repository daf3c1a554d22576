-- What was read of a programming's text, line by line.
use Rattle.std.proofs.Common.{◌≡◌, ◌≢◌, ◌≤◌, ◌+◌, ℕ, min, Some, List, [], ◌∷◌, ◌++◌, length, refl, subst, sym, ap, ◌∙◌, arith}
use Rattle.std.proofs.lemmas.List.{length-append}
use Rattle.std.specs.Prelude.{IsSome, slice_get}
use Rattle.pb_expand.specs.declared.number.Edge.{Edge}
use Rattle.prog_text.specs.Names.{NamesMode}
use Rattle.prog_text.specs.NamedEdges.{IsNamedEdge}
use Rattle.prog_map.proofs.Climbs.{some_injective}
use Rattle.pb_expand.specs.Graph.{Graph}
use Rattle.prog_text.specs.declared.error.ProgError.{ProgError}
use Rattle.prog_text.specs.declared.error.ProgError.TheVariants.{BadLine, NoSuchSite, NoSuchChoice, TwiceSet, OutOfMemory}
use Rattle.prog_map.specs.declared.setting.Setting.{Setting}
use Rattle.prog_map.specs.declared.setting.Setting.TheVariants.{Mode, Pick, Used, Lut}
use Rattle.prog_map.specs.Choices.{Choices, no_choices, IsProgOf, IsModeOf, IsEdgeInto}
use Rattle.prog_text.specs.Lines.{IsFirstLine, AreFirstLines}
use Rattle.prog_text.specs.Sayings.{Saying, says_mode, says_pin, says_used, says_wire, says_table, Says}
use Rattle.prog_text.specs.Settings.{Names, IsNamed}
use Rattle.prog_map.specs.Sites.{HasChoice, site_of, with_setting}
use Rattle.prog_text.specs.Text.{SetsSite, ReadsLine, ReadsLines, SpellsProg, Lacks, SetsAgain, RefusesLine, line_number, StopsAt, RefusesFrom}
use Rattle.prog_map.proofs.Kept.{mode_kept, pick_kept, used_kept, lut_kept}

pub named_there : (g : Graph) (pb : ℕ) (text : List ℕ) (mode : ℕ) → NamesMode g pb text mode → IsModeOf g pb mode
named_there g pb text mode names = subst (λ o. IsSome o) (sym names.there) refl

pub named_into : (g : Graph) (number pin : ℕ) (text : List ℕ) (source : ℕ) (edge : Edge) → IsNamedEdge g number pin text source →
    slice_get g.edges number ≡ Some edge → IsEdgeInto g pin edge.mode number
named_into g number pin text source edge is there = record {
  edge = edge;
  there = there;
  ends = ap (λ e. e.dst.0) (some_injective (sym there ∙ is.named.is)) ∙ is.named.ends;
  in_mode = refl;
}

-- the lines that were read
pub record IsAlong (g : Graph) (first : ℕ) (bytes rest : List ℕ) (now : Choices) (number : ℕ) : Type 0 where
  pub of : IsProgOf g now
  pub front : List (List ℕ)
  pub are_first : AreFirstLines bytes front rest
  pub reads : ReadsLines g front no_choices now
  pub count : number ≡ line_number first front

pub along_first : (g : Graph) (first : ℕ) (bytes : List ℕ) (c : Choices) → first ≤ 4294967295 → c ≡ no_choices → IsProgOf g c → IsAlong g first bytes bytes c first
along_first g first bytes c small off of = record { of = of; front = []; are_first = refl; reads = off; count = omega (arith, small) }

first_more : (bytes : List ℕ) (front : List (List ℕ)) (rest line behind : List ℕ) → AreFirstLines bytes front rest → IsFirstLine rest line behind →
    AreFirstLines bytes (front ++ line ∷ []) behind
first_more bytes [] rest line behind are is = (behind, subst (λ b. IsFirstLine b line behind) are is, refl)
first_more bytes (l ∷ front) rest line behind are is = (are.0, are.1, first_more are.0 front rest line behind are.2 is)

reads_more : (g : Graph) (front : List (List ℕ)) (line : List ℕ) (before now next : Choices) → ReadsLines g front before now → ReadsLine g line now next →
    ReadsLines g (front ++ line ∷ []) before next
reads_more g [] line before now next reads is = (next, subst (λ c. ReadsLine g line c next) reads is, refl)
reads_more g (l ∷ front) line before now next reads is = (reads.0, reads.1, reads_more g front line reads.0 now next reads.2 is)

pub along_next : (g : Graph) (first : ℕ) (bytes rest line behind : List ℕ) (now next : Choices) (number more : ℕ) → IsAlong g first bytes rest now number → IsFirstLine rest line behind →
    ReadsLine g line now next → IsProgOf g next → more ≡ min (number + 1) 4294967295 → IsAlong g first bytes behind next more
along_next g first bytes rest line behind now next number more along is reads of counted = record {
  of = of;
  front = along.front ++ line ∷ [];
  are_first = first_more bytes along.front rest line behind along.are_first is;
  reads = reads_more g along.front line no_choices now next along.reads reads;
  count = omega (arith, along.count, counted, length-append along.front (line ∷ []));
}

pub along_end : (g : Graph) (first : ℕ) (bytes rest : List ℕ) (now : Choices) (number : ℕ) → IsAlong g first bytes rest now number → rest ≡ [] → SpellsProg g bytes now
along_end g first bytes rest now number along ended = record {
  lines = along.front;
  are_lines = subst (λ r. AreFirstLines bytes along.front r) ended along.are_first;
  reads = along.reads;
}

-- a line that can't be read stops the reading
pub along_stops : (g : Graph) (first : ℕ) (bytes rest line behind : List ℕ) (now : Choices) (number : ℕ) (e : ProgError) → IsAlong g first bytes rest now number →
    IsFirstLine rest line behind → line ≢ [] → RefusesLine g line now number e → RefusesFrom g first bytes e
along_stops g first bytes rest line behind now number e along is some refuses = by e (subst (λ n. RefusesLine g line now n e) along.count refuses)
  where
    stops : (e : ProgError) → RefusesLine g line now (line_number first along.front) e → StopsAt g first bytes e
    stops e refuses = record {
      front = along.front;
      rest = rest;
      are_first = along.are_first;
      before = now;
      reads = along.reads;
      line = line;
      behind = behind;
      is_line = is;
      some = some;
      refuses = refuses;
    }

    by : (e : ProgError) → RefusesLine g line now (line_number first along.front) e → RefusesFrom g first bytes e
    by (BadLine at) r = stops (BadLine at) r
    by (NoSuchSite at) r = stops (NoSuchSite at) r
    by (NoSuchChoice at) r = stops (NoSuchChoice at) r
    by (TwiceSet at) r = stops (TwiceSet at) r
    by OutOfMemory r = tt

-- what a line lacks refuses it
pub lacks_refuses : (g : Graph) (line : List ℕ) (before : Choices) (number : ℕ) (e : ProgError) → Lacks g (Says line) number e → RefusesLine g line before number e
lacks_refuses g line before number (BadLine at) l = l
lacks_refuses g line before number (NoSuchSite at) l = l
lacks_refuses g line before number (NoSuchChoice at) l = l
lacks_refuses g line before number (TwiceSet at) l = absurd l
lacks_refuses g line before number OutOfMemory l = tt

-- a programming of the graph stays one
pub setting_kept : (g : Graph) (c : Choices) (Said : Saying → Type 0) (set : Setting) → IsProgOf g c → IsNamed g Said set → IsProgOf g (with_setting c set)
setting_kept g c Said set of named = by named.saying set named.names
  where
    by : (s : Saying) (set : Setting) → Names g s set → IsProgOf g (with_setting c set)
    by (says_mode i m) (Mode pb number) names = mode_kept g c pb.0 number of (named_there g pb.0 m number names.2)
    by (says_pin p m source) (Pick pin mode edge) names =
        pick_kept g c pin.0 mode edge.0 of (record { edge = names.edge; there = names.named.is; ends = names.named.ends; in_mode = sym names.is_mode })
    by (says_used i) (Used pb) names = used_kept g c pb.0 of names.1
    by (says_wire i k) (Lut pb choice) names = lut_kept g c pb.0 choice of names.2
    by (says_table i d) (Lut pb choice) names = lut_kept g c pb.0 choice of names.2
    by _ _ names = absurd names

pub sets_site : (g : Graph) (line : List ℕ) (before after : Choices) (set : Setting) → IsNamed g (Says line) set → (HasChoice before (site_of set) → ⊥) →
    after ≡ with_setting before set → SetsSite g line before after
sets_site g line before after set named unset sets =
    record { saying = named.saying; says = named.said; setting = set; names = named.names; unset = unset; sets = sets }

pub sets_again : (g : Graph) (line : List ℕ) (before : Choices) (set : Setting) → IsNamed g (Says line) set → HasChoice before (site_of set) → SetsAgain g line before
sets_again g line before set named has = record { saying = named.saying; says = named.said; setting = set; names = named.names; set = has }
