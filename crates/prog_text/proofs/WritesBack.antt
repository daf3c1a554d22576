-- The text of a programming spells it.
use Rattle.std.proofs.Common.{◌↔◌, ◌≡◌, ◌⊎◌, inl, inr, ◌+◌, ◌<◌, ◌^◌, ◌==◌, ◌||◌, ◌&&◌, if◌then◌else◌, ℕ, zero, suc, Bool, true, false, not, List, [], ◌∷◌, ◌++◌, Option, Some, None, length, refl, sym, ap, subst, ◌∙◌, arith, append_assoc}
use Rattle.std.specs.Prelude.{slice_get}
use Rattle.std.specs.List.{flat_map, AllPass}
use Rattle.std.specs.Option.{option_map, option_map_or, option_and_then}
use Rattle.std.proofs.lemmas.Option.{slice_get_within}
use Rattle.std.proofs.lemmas.List.Elements.{All-head, All-tail}
use Rattle.std.proofs.lemmas.Bool.Decides.{nat_tests}
use Rattle.vtr_base.specs.Lists.{Has}
use Rattle.arch_types.specs.declared.block.PbType.{PbType}
use Rattle.arch_types.specs.declared.block.AtomKind.{AtomKind}
use Rattle.arch_types.specs.declared.block.AtomKind.TheVariants as atom
use Rattle.arch_types.specs.Address.{Address, at}
use Rattle.list_laws.specs.Orders.{Once}
use Rattle.pb_expand.specs.declared.number.Edge.{Edge}
use Rattle.pb_expand.specs.declared.number.EdgeIx.{EdgeIx}
use Rattle.pb_expand.specs.declared.number.PbKind.{PbKind}
use Rattle.pb_expand.specs.declared.number.PbKind.TheVariants as kinds
use Rattle.pb_expand.specs.Graph.{Graph, kind_of, into_from, edge_ix, pin_ix, pb_ix}
use Rattle.pb_expand.specs.Expansion.{IsExpansion, IsEdgeOf}
use Rattle.pb_expand.proofs.Lists.{has_at}
use Rattle.prog_map.specs.declared.choice.LSite.{LSite}
use Rattle.prog_map.specs.declared.choice.LSite.TheVariants as site
use Rattle.prog_map.specs.declared.choice.LutChoice.{LutChoice}
use Rattle.prog_map.specs.declared.choice.LutChoice.TheVariants.{Wire, Table}
use Rattle.prog_map.specs.declared.setting.Setting.{Setting}
use Rattle.prog_map.specs.declared.setting.Setting.TheVariants.{Mode, Pick, Used, Lut}
use Rattle.prog_map.specs.Choices.{Choices, no_choices, mode_of, pick_of, is_used, lut_of, IsProgOf, IsLutChoice}
use Rattle.prog_map.specs.Leaves.{kind_at, IsLeaf, HasModes, IsLut, AreInputs}
use Rattle.prog_text.specs.Lines.{IsFirstLine, AreFirstLines}
use Rattle.prog_map.specs.Order.{site_order}
use Rattle.prog_text.specs.Plain.{HasPlainNames}
use Rattle.prog_map.specs.Sites.{site_of, with_setting}
use Rattle.prog_text.specs.Spelling.{setting_at, line_of, site_text, prog_text, IsInside}
use Rattle.prog_text.specs.Text.{ReadsLines, SpellsProg}
use Rattle.prog_map.proofs.Climbs.{some_injective}
use Rattle.prog_text.proofs.Refolded.{put_sites, put_site_of, AreUnset, unset_next, all_put, none_at_first, none_unset, site_is}
use Rattle.prog_text.proofs.SaidBack.{ReadsBack, IsLineText, is_kept, mode_reads, pick_reads, used_reads, wire_reads, table_reads}
use Rattle.prog_map.proofs.SiteOrder.{mode_counted, counted_modes}
use Rattle.prog_map.specs.Live.{IsSiteOf}
use Rattle.std.specs.Prelude.{All}
use Rattle.std.proofs.lemmas.List.Elements.{All-nil, All-cons}
use Rattle.prog_text.proofs.Sound.{all_imply}
use Rattle.prog_text.proofs.Written.{edge_mode_there}

-- a line that is written is read whole
no_return : (line front : List ℕ) → AllPass is_kept line → line ≡ front ++ 13 ∷ [] → ⊥
no_return [] [] kept e = cc
no_return [] (f ∷ front) kept e = cc
no_return (x ∷ line) [] kept e =
    let first : x ≡ 13 = cc in
    let test : is_kept 13 ≡ true = ap is_kept (sym first) ∙ All-head (λ b. is_kept b ≡ true) x line kept in
    cc
no_return (x ∷ line) (f ∷ front) kept e =
    let rest : line ≡ front ++ 13 ∷ [] = cc in no_return line front (All-tail (λ b. is_kept b ≡ true) x line kept) rest

first_line : (line rest : List ℕ) → IsLineText line → IsFirstLine ((line ++ 10 ∷ []) ++ rest) line rest
first_line line rest is = inl (record {
  whole = line;
  spelled = append_assoc line (10 ∷ []) rest;
  lacks = all_imply is_kept (λ b. not (b == 10)) line (λ b e. no_feed (b == 10) _ e) is.kept;
  drops = inr (refl, λ front e. no_return line front is.kept e);
})
  where
    no_feed : (b c : Bool) → not (b || c) ≡ true → not b ≡ true
    no_feed true c e = cc
    no_feed false c e = refl

-- the lines of the sites that have a choice
abbrev pub lines_for : Graph → Choices → List LSite → List (List ℕ)
lines_for g c [] = []
lines_for g c (s ∷ sites) = option_map_or (λ x. line_of g x ∷ lines_for g c sites) (setting_at c s) (lines_for g c sites)

module _ (g : Graph) (c : Choices) (reads : (s : LSite) (x : Setting) → setting_at c s ≡ Some x → ReadsBack g x) where
  are_lines : (sites : List LSite) → AreFirstLines (flat_map (site_text g c) sites) (lines_for g c sites) []
  are_lines [] = refl
  are_lines (s ∷ sites) = by (setting_at c s) refl (are_lines sites)
    where
      by : (o : Option Setting) → setting_at c s ≡ o → AreFirstLines (flat_map (site_text g c) sites) (lines_for g c sites) [] →
          AreFirstLines (option_map_or (λ x. line_of g x ++ 10 ∷ []) o [] ++ flat_map (site_text g c) sites) (option_map_or (λ x. line_of g x ∷ lines_for g c sites) o (lines_for g c sites)) []
      by None e rest = rest
      by (Some x) e rest = (flat_map (site_text g c) sites, first_line (line_of g x) (flat_map (site_text g c) sites) (reads s x e).line, rest)

  lines_read : (sites : List LSite) (done : Choices) → Once sites → AreUnset sites done → ReadsLines g (lines_for g c sites) done (put_sites c sites done)
  lines_read [] done once unset = refl
  lines_read (s ∷ sites) done once unset = by (setting_at c s) refl (lines_read sites (put_site_of c s done) once.1 (unset_next c s sites done once unset))
    where
      by : (o : Option Setting) → setting_at c s ≡ o →
          ReadsLines g (lines_for g c sites) (option_map_or (λ x. with_setting done x) o done) (put_sites c sites (option_map_or (λ x. with_setting done x) o done)) →
          ReadsLines g (option_map_or (λ x. line_of g x ∷ lines_for g c sites) o (lines_for g c sites)) done (put_sites c sites (option_map_or (λ x. with_setting done x) o done))
      by None e rest = rest
      by (Some x) e rest =
          let r = reads s x e in (
            with_setting done x,
            inr (record {
              saying = r.saying;
              says = r.says;
              setting = x;
              names = r.names;
              unset = none_unset done (site_of x) (ap (setting_at done) (sym (site_is c s x e)) ∙ unset s (inl refl));
              sets = refl;
            }),
            rest,
          )

  pub text_spells : Once (site_order g) → ((s : LSite) (x : Setting) → setting_at c s ≡ Some x → Has (site_order g) s) → SpellsProg g (prog_text g c) c
  text_spells once all = record {
    lines = lines_for g c (site_order g);
    are_lines = are_lines (site_order g);
    reads =
        subst (λ after. ReadsLines g (lines_for g c (site_order g)) no_choices after)
        (all_put c (site_order g) no_choices once (λ s has. none_at_first s) (λ s. by s (setting_at c s) refl))
        (lines_read (site_order g) no_choices once (λ s has. none_at_first s));
  }
    where
      by : (s : LSite) (o : Option Setting) → setting_at c s ≡ o → (setting_at no_choices s ≡ setting_at c s) ⊎ Has (site_order g) s
      by s None e = inl (none_at_first s ∙ sym e)
      by s (Some x) e = inr (all s x e)

-- the instance of a kind is there
kind_inside : (g : Graph) (n : ℕ) (k : PbKind) → kind_at g n ≡ Some k → n < length g.instances
kind_inside g n k is = by (slice_get g.instances n) refl is
  where
    by : (o : Option Address) → slice_get g.instances n ≡ o →
        option_map (λ (block : PbType). kind_of block.kind) (option_and_then (λ (a : Address). at g.root a) o) ≡ Some k → n < length g.instances
    by None e f = absurd (cc)
    by (Some a) e f = slice_get_within g.instances n a e

-- how wide a LUT is
narrow : (g : Graph) (pb port width : ℕ) → HasPlainNames g.root → AreInputs g pb port width → width < 2 ^ 32
narrow g pb port width plain inputs = by_instance (slice_get g.instances pb) refl inputs.are
  where
    by_block : (address : Address) (o : Option PbType) → at g.root address ≡ o → option_map (λ (block : PbType). block.ports) o ≡ Some inputs.ports → width < 2 ^ 32
    by_block address None e f = absurd (cc)
    by_block address (Some block) e f =
        let ports : block.ports ≡ inputs.ports = some_injective f in
        let small : inputs.port.width < 2 ^ 32 =
        (plain address block e).ports.narrow port inputs.port (ap (λ ps. slice_get ps port) ports ∙ inputs.there) in
        omega (arith, inputs.wide, small)

    by_instance : (o : Option Address) → slice_get g.instances pb ≡ o →
        option_map (λ (block : PbType). block.ports) (option_and_then (λ (a : Address). at g.root a) o) ≡ Some inputs.ports → width < 2 ^ 32
    by_instance None e f = absurd (cc)
    by_instance (Some a) e f = by_block a (at g.root a) refl f

module _ (g : Graph) (law : IsExpansion g) (plain : HasPlainNames g.root) (c : Choices) (of : IsProgOf g c) where
  none_is : {X : Type 0} {x : X} → None ≡ Some x → ⊥
  none_is e = cc

  lut_reads : (pb : ℕ) (choice : LutChoice) → IsLutChoice g pb choice → ReadsBack g (Lut (pb_ix pb) choice)
  lut_reads pb (Wire input) is =
      let inside = kind_inside g pb (kinds.Leaf atom.Lut) is.inputs.lut in
      let small = narrow g pb is.port is.width plain is.inputs in
      wire_reads g law plain pb input inside (omega (arith, is.fits, small)) is
  lut_reads pb (Table []) is = absurd (empty is.width is.fits)
    where
      empty : (w : ℕ) → 0 ≡ 2 ^ w → ⊥
      empty zero e = absurd (omega (arith, e))
      empty (suc w) e = let less : 0 ≡ 2 ^ w = omega (arith, e) in empty w less
  lut_reads pb (Table (b ∷ t)) is = table_reads g law plain pb b t (kind_inside g pb (kinds.Leaf atom.Lut) is.inputs.lut) is

  all_read : (s : LSite) (x : Setting) → setting_at c s ≡ Some x → ReadsBack g x
  all_read (site.Mode pb) x e = by (mode_of c pb.0) refl e
    where
      by : (o : Option ℕ) → mode_of c pb.0 ≡ o → option_map (λ m. Mode pb m) o ≡ Some x → ReadsBack g x
      by None e f = absurd (none_is f)
      by (Some m) e f =
          let is = of.modes pb.0 m e in
          let same : Mode pb m ≡ x = cc in
          subst (λ y. ReadsBack g y) same (mode_reads g law plain pb.0 m is (counted_modes g pb.0 m (mode_counted g pb.0 m is)))
  all_read (site.Pin pin mode) x e = by (pick_of c pin.0 mode) refl e
    where
      by : (o : Option ℕ) → pick_of c pin.0 mode ≡ o → option_map (λ n. Pick pin mode (edge_ix n)) o ≡ Some x → ReadsBack g x
      by None e f = absurd (none_is f)
      by (Some n) e f =
          let same : Pick pin mode (edge_ix n) ≡ x = cc in
          subst (λ y. ReadsBack g y) same (pick_reads g law plain pin.0 mode n (of.picks pin.0 mode n e))
  all_read (site.Used pb) x e = by (is_used c pb.0) refl e
    where
      by : (b : Bool) → is_used c pb.0 ≡ b → (if b then Some (Used pb) else None) ≡ Some x → ReadsBack g x
      by false e f = absurd (none_is f)
      by true e f =
          let leaf = of.leaves pb.0 e in
          let same : Used pb ≡ x = cc in
          subst (λ y. ReadsBack g y) same (used_reads g law plain pb.0 (kind_inside g pb.0 (kinds.Leaf leaf.atom) leaf.is) leaf)
  all_read (site.Lut pb) x e = by (lut_of c pb.0) refl e
    where
      by : (o : Option LutChoice) → lut_of c pb.0 ≡ o → option_map (λ l. Lut pb l) o ≡ Some x → ReadsBack g x
      by None e f = absurd (none_is f)
      by (Some choice) e f =
          let same : Lut pb choice ≡ x = cc in
          subst (λ y. ReadsBack g y) same (lut_reads pb.0 choice (of.luts pb.0 choice e))

nothing : {X : Type 0} {x : X} → None ≡ Some x → ⊥
nothing e = cc

-- what has a choice is a site of the block type
chosen_site : (g : Graph) (c : Choices) → IsProgOf g c → (s : LSite) (x : Setting) → setting_at c s ≡ Some x → IsSiteOf g s
chosen_site g c of (site.Mode pb) x e = by (mode_of c pb.0) refl e
  where
    by : (o : Option ℕ) → mode_of c pb.0 ≡ o → option_map (λ m. Mode pb m) o ≡ Some x → HasModes g pb.0
    by None e f = absurd (nothing f)
    by (Some m) e f = counted_modes g pb.0 m (mode_counted g pb.0 m (of.modes pb.0 m e))
chosen_site g c of (site.Pin pin mode) x e = by (pick_of c pin.0 mode) refl e
  where
    by : (o : Option ℕ) → pick_of c pin.0 mode ≡ o → option_map (λ n. Pick pin mode (edge_ix n)) o ≡ Some x → IsSiteOf g (site.Pin pin mode)
    by None e f = absurd (nothing f)
    by (Some n) e f = (n, of.picks pin.0 mode n e)
chosen_site g c of (site.Used pb) x e = by (is_used c pb.0) refl e
  where
    by : (b : Bool) → is_used c pb.0 ≡ b → (if b then Some (Used pb) else None) ≡ Some x → IsLeaf g pb.0
    by false e f = absurd (nothing f)
    by true e f = of.leaves pb.0 e
chosen_site g c of (site.Lut pb) x e = by (lut_of c pb.0) refl e
  where
    by : (o : Option LutChoice) → lut_of c pb.0 ≡ o → option_map (λ l. Lut pb l) o ≡ Some x → IsLut g pb.0
    by None e f = absurd (nothing f)
    by (Some choice) e f = (of.luts pb.0 choice e).inputs.lut

-- the instances and pins of sites are there
site_inside : (g : Graph) → IsExpansion g → (s : LSite) → IsSiteOf g s → IsInside g s
site_inside g law (site.Mode pb) is = kind_inside g pb.0 (kinds.Modes is.count) is.is
site_inside g law (site.Pin pin mode) is =
    let into = is.1 in
    let e : IsEdgeOf g into.edge = law.has_edges.each into.edge (has_at g.edges is.0 into.edge into.there) in
    subst (λ n. n < length g.pins) into.ends (slice_get_within g.pins into.edge.dst.0 _ e.is_dst.is_pin)
site_inside g law (site.Used pb) is = kind_inside g pb.0 (kinds.Leaf is.atom) is.is
site_inside g law (site.Lut pb) is = kind_inside g pb.0 (kinds.Leaf atom.Lut) is

pub sites_inside : (g : Graph) → IsExpansion g → (sites : List LSite) → ((s : LSite) → Has sites s → IsSiteOf g s) → All (IsInside g) sites
sites_inside g law [] are = All-nil (IsInside g)
sites_inside g law (s ∷ sites) are = All-cons (IsInside g) s sites (site_inside g law s (are s (inl refl))) (sites_inside g law sites (λ t has. are t (inr has)))

-- the text of a programming spells it, where the names are plain
pub spells : (g : Graph) → IsExpansion g → (c : Choices) → IsProgOf g c → HasPlainNames g.root → (sites : List LSite) → sites ≡ site_order g → Once sites →
    ((s : LSite) → Has sites s ↔ IsSiteOf g s) → SpellsProg g (prog_text g c) c
spells g law c of plain sites are once exact =
    text_spells g c (all_read g law plain c of) (subst (λ l. Once l) are once) (λ s x e. subst (λ l. Has l s) are ((exact s).1 (chosen_site g c of s x e)))
