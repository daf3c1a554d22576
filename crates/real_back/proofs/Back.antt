-- The lines of a written realisation are read as that realisation.
use Rattle.std.proofs.Common.{◌≡◌, ◌+◌, ◌<◌, ◌≤◌, ◌⊎◌, ℕ, zero, suc, true, List, [], ◌∷◌, ◌++◌, Option, Some, None, codes, length, map, slice_get, refl, sym, ap, subst, ◌∙◌, inl, inr, arith, append_assoc, append-nil}
use Rattle.std.specs.List.{flat_map}
use Rattle.std.specs.Option.{option_map, option_map_or, option_and_then, unwrap_or}
use Rattle.std.specs.Str.Lines.{lines}
use Rattle.std.proofs.lemmas.List.{length_push}
use Rattle.std.proofs.lemmas.Option.{slice_get_within}
use Rattle.list_laws.proofs.Places.{element, get_either}
use Rattle.arch_types.specs.declared.block.PbType.{PbType}
use Rattle.arch_types.specs.Address.{Address, at}
use Rattle.pb_expand.specs.declared.number.PbIx.{PbIx}
use Rattle.pb_expand.specs.declared.number.PbKind.{PbKind}
use Rattle.pb_expand.specs.Graph.{Graph, kind_of}
use Rattle.prog_map.specs.Choices.{Choices, no_choices}
use Rattle.prog_map.specs.Leaves.{kind_at, IsLeaf}
use Rattle.prog_text.specs.LineLaws.{IsText, AreTexts, HasOneLines}
use Rattle.prog_text.specs.Lines.{IsFirstLine, AreFirstLines}
use Rattle.prog_text.specs.Names.{instance_name, pin_name}
use Rattle.prog_text.specs.Spelling.{prog_text}
use Rattle.prog_text.specs.Text.{SetsSite, SpellsProg}
use Rattle.prog_text.specs.Text as prog
use Rattle.task_types.specs.declared.task.Task.{Task}
use Rattle.task_types.specs.declared.task.Entry.{Entry}
use Rattle.task_types.specs.declared.real.Real.{Real}
use Rattle.task_types.specs.Ends.{IsRootInput}
use Rattle.task_types.specs.Realises.{can_hold}
use Rattle.real_lines.specs.declared.line.RealLine.{RealLine}
use Rattle.real_lines.specs.declared.line.RealLine.TheVariants.{Home, Enter, Choice}
use Rattle.real_lines.specs.Lines.{NamesHome, NamesEnter, SpellsLine}
use Rattle.real_text.specs.Steps.{real_of, nothing_read, AreHoused, Adds}
use Rattle.real_text.specs.Text.{ReadsLine, ReadsLines, SpellsReal}
use Rattle.real_back.specs.Spelling.{two_line, home_text, homes_text, entry_text, real_text}
use Rattle.real_back.specs.There.{IsThere}
use Rattle.real_back.proofs.Texts.{two_first, says_two, home_keyword, enter_keyword}

-- lines behind lines
lines_then : (bytes mid rest : List ℕ) (ls ms : List (List ℕ)) → AreFirstLines bytes ls mid → AreFirstLines mid ms rest → AreFirstLines bytes (ls ++ ms) rest
lines_then bytes mid rest [] ms a b = subst (λ t. AreFirstLines t ms rest) a b
lines_then bytes mid rest (l ∷ ls) ms a b = (a.0, a.1, lines_then a.0 mid rest ls ms a.2 b)

module _ (g : Graph) (t : Task) (atoms nets : List (List ℕ)) where
  reads_then : (ls ms : List (List ℕ)) (b c d : Real) → ReadsLines g t atoms nets ls b c → ReadsLines g t atoms nets ms c d → ReadsLines g t atoms nets (ls ++ ms) b d
  reads_then [] ms b c d x y = subst (λ (r : Real). ReadsLines g t atoms nets ms r d) x y
  reads_then (l ∷ ls) ms b c d x y = (x.0, x.1, reads_then ls ms x.0 c d x.2 y)

  -- the bytes up to `rest` lead from the one to the other
  record Leads (bytes rest : List ℕ) (before after : Real) : Type 0 where
    pub ls : List (List ℕ)
    pub are : AreFirstLines bytes ls rest
    pub reads : ReadsLines g t atoms nets ls before after

  leads_then : (bytes mid rest : List ℕ) (b c d : Real) → Leads bytes mid b c → Leads mid rest c d → Leads bytes rest b d
  leads_then bytes mid rest b c d x y =
      record { ls = x.ls ++ y.ls; are = lines_then bytes mid rest x.ls y.ls x.are y.are; reads = reads_then x.ls y.ls b c d x.reads y.reads }

  leads_by : (bytes line rest : List ℕ) (x : RealLine) (before after : Real) → IsFirstLine bytes line rest → SpellsLine g t atoms nets line x → Adds t x before after → Leads bytes rest before after
  leads_by bytes line rest x before after is spells adds =
      record { ls = line ∷ []; are = (rest, is, refl); reads = (after, inr (record { says = x; spells = spells; adds = adds }), refl) }

  -- homes

  pub record HomeFits (atom : List ℕ) (place : ℕ) (leaf : PbIx) : Type 0 where
    pub text : IsText atom
    pub instance : IsText (instance_name g leaf.0)
    pub names : NamesHome g t atoms atom (instance_name g leaf.0) place leaf.0

  home_leads : (atom rest : List ℕ) (done : List PbIx) (leaf : PbIx) → HomeFits atom (length done) leaf →
      Leads (home_text g atom leaf ++ rest) rest (real_of no_choices done []) (real_of no_choices (done ++ leaf ∷ []) [])
  home_leads atom rest done leaf fits =
      leads_by (home_text g atom leaf ++ rest) (two_line (codes "home") atom (instance_name g leaf.0)) rest (Home (length done) leaf) (real_of no_choices done []) (real_of no_choices (done ++ leaf ∷ []) [])
      (two_first (codes "home") atom (instance_name g leaf.0) home_keyword fits.text fits.instance rest)
      (atom, instance_name g leaf.0, says_two (codes "home") atom (instance_name g leaf.0) home_keyword fits.text fits.instance, fits.names)
      (refl, refl)

  homes_lead : (names : List (List ℕ)) (homes done : List PbIx) (rest : List ℕ) → length homes ≤ length names →
      ((k : ℕ) (leaf : PbIx) (atom : List ℕ) → slice_get homes k ≡ Some leaf → slice_get names k ≡ Some atom → HomeFits atom (length done + k) leaf) →
      Leads (homes_text g names homes ++ rest) rest (real_of no_choices done []) (real_of no_choices (done ++ homes) [])
  homes_lead names [] done rest few fits =
      record { ls = []; are = refl; reads = ap (λ (l : List PbIx). real_of no_choices l []) (append-nil done) }
  homes_lead [] (leaf ∷ homes) done rest few fits = absurd (omega arith)
  homes_lead (atom ∷ names) (leaf ∷ homes) done rest few fits =
      let behind = homes_text g names homes ++ rest in
      let first : HomeFits atom (length done) leaf = subst (λ (k : ℕ). HomeFits atom k leaf) (omega arith) (fits 0 leaf atom refl refl) in
      let more = homes_lead names homes (done ++ leaf ∷ []) rest (omega arith)
      (λ k l a at_l at_a. subst (λ (n : ℕ). HomeFits a n l) (next k) (fits (suc k) l a at_l at_a)) in
      let both = leads_then (home_text g atom leaf ++ behind) behind rest (real_of no_choices done []) (real_of no_choices (done ++ leaf ∷ []) [])
      (real_of no_choices ((done ++ leaf ∷ []) ++ homes) []) (home_leads atom behind done leaf first) more in
      subst (λ (bytes : List ℕ). Leads bytes rest (real_of no_choices done []) (real_of no_choices (done ++ leaf ∷ homes) [])) (sym (append_assoc (home_text g atom leaf) (homes_text g names homes) rest))
      (subst (λ (l : List PbIx). Leads (home_text g atom leaf ++ behind) rest (real_of no_choices done []) (real_of no_choices l [])) (append_assoc done (leaf ∷ []) homes) both)
    where
      next : (k : ℕ) → length done + suc k ≡ length (done ++ leaf ∷ []) + k
      next k = omega (arith, length_push done leaf)

  -- entries

  pub record EntryFits (entry : Entry) : Type 0 where
    pub pin : IsText (pin_name g entry.pin.0)
    pub net : IsText (unwrap_or (slice_get nets entry.net) [])
    pub names : NamesEnter g nets (pin_name g entry.pin.0) (unwrap_or (slice_get nets entry.net) []) entry.pin.0 entry.net

  entry_leads : (homes : List PbIx) → length homes ≡ length t.atoms → (rest : List ℕ) (done : List Entry) (entry : Entry) → EntryFits entry →
      ((k : ℕ) (e : Entry) → slice_get done k ≡ Some e → e.pin.0 < entry.pin.0) →
      Leads (entry_text g nets entry ++ rest) rest (real_of no_choices homes done) (real_of no_choices homes (done ++ entry ∷ []))
  entry_leads homes housed rest done entry fits above =
      let at = pin_name g entry.pin.0 in
      let name = unwrap_or (slice_get nets entry.net) [] in
      leads_by (entry_text g nets entry ++ rest) (two_line (codes "enter") at name) rest (Enter entry) (real_of no_choices homes done) (real_of no_choices homes (done ++ entry ∷ []))
      (two_first (codes "enter") at name enter_keyword fits.pin fits.net rest)
      (at, name, says_two (codes "enter") at name enter_keyword fits.pin fits.net, fits.names)
      (record { housed = housed; first = refl; above = above }, refl)

  entries_lead : (homes : List PbIx) → length homes ≡ length t.atoms → (es done : List Entry) (rest : List ℕ) → ((k : ℕ) (e : Entry) → slice_get es k ≡ Some e → EntryFits e) →
      ((i j : ℕ) (a b : Entry) → slice_get done i ≡ Some a → slice_get es j ≡ Some b → a.pin.0 < b.pin.0) →
      ((i j : ℕ) (a b : Entry) → i < j → slice_get es i ≡ Some a → slice_get es j ≡ Some b → a.pin.0 < b.pin.0) →
      Leads (flat_map (entry_text g nets) es ++ rest) rest (real_of no_choices homes done) (real_of no_choices homes (done ++ es))
  entries_lead homes housed [] done rest fits before rising =
      record { ls = []; are = refl; reads = ap (λ (l : List Entry). real_of no_choices homes l) (append-nil done) }
  entries_lead homes housed (entry ∷ es) done rest fits before rising =
      let behind = flat_map (entry_text g nets) es ++ rest in
      let first = entry_leads homes housed behind done entry (fits 0 entry refl) (λ k e at. before k 0 e entry at refl) in
      let more = entries_lead homes housed es (done ++ entry ∷ []) rest (λ k e at. fits (suc k) e at) (λ i j a b at_a at_b. by i j a b at_b (get_either done (entry ∷ []) i a at_a))
      (λ i j a b low at_a at_b. rising (suc i) (suc j) a b (omega (arith, low)) at_a at_b) in
      let both = leads_then (entry_text g nets entry ++ behind) behind rest (real_of no_choices homes done) (real_of no_choices homes (done ++ entry ∷ []))
      (real_of no_choices homes ((done ++ entry ∷ []) ++ es)) first more in
      subst (λ (bytes : List ℕ). Leads bytes rest (real_of no_choices homes done) (real_of no_choices homes (done ++ entry ∷ es))) (sym (append_assoc (entry_text g nets entry) (flat_map (entry_text g nets) es) rest))
      (subst (λ (l : List Entry). Leads (entry_text g nets entry ++ behind) rest (real_of no_choices homes done) (real_of no_choices homes l)) (append_assoc done (entry ∷ []) es) both)
    where
      alone : (k : ℕ) (a : Entry) → slice_get (entry ∷ []) k ≡ Some a → entry ≡ a
      alone zero a at = one at
        where
          one : {x y : Entry} → Some x ≡ Some y → x ≡ y
          one e = cc
      alone (suc k) a at = absurd (cc)

      by : (i j : ℕ) (a b : Entry) → slice_get es j ≡ Some b → (slice_get done i ≡ Some a) ⊎ ((k : ℕ) × (i ≡ length done + k) × (slice_get (entry ∷ []) k ≡ Some a)) → a.pin.0 < b.pin.0
      by i j a b at_b (inl front) = before i (suc j) a b front at_b
      by i j a b at_b (inr x) = subst (λ (e : Entry). e.pin.0 < b.pin.0) (alone x.0 a x.2) (rising 0 (suc j) entry b (omega arith) refl at_b)

  -- the programming

  prog_reads : (homes : List PbIx) (entries : List Entry) → length homes ≡ length t.atoms → (ls : List (List ℕ)) (b c : Choices) → prog.ReadsLines g ls b c →
      ReadsLines g t atoms nets ls (real_of b homes entries) (real_of c homes entries)
  prog_reads homes entries housed [] b c reads = ap (λ (k : Choices). real_of k homes entries) reads
  prog_reads homes entries housed (l ∷ ls) b c reads = (real_of reads.0 homes entries, by reads.1, prog_reads homes entries housed ls reads.0 c reads.2)
    where
      by : prog.ReadsLine g l b reads.0 → ReadsLine g t atoms nets l (real_of b homes entries) (real_of reads.0 homes entries)
      by (inl empty) = inl (empty.0, ap (λ (k : Choices). real_of k homes entries) empty.1)
      by (inr sets) =
          inr (record {
            says = Choice sets.setting;
            spells = record { saying = sets.saying; said = sets.says; names = sets.names };
            adds = (housed, sets.unset, ap (λ (k : Choices). real_of k homes entries) sets.sets);
          })

  -- all of it

  pub spells_back : HasOneLines → (r : Real) → IsThere g t r → SpellsProg g (prog_text g r.prog) r.prog → length r.homes ≤ length atoms →
      ((k : ℕ) (leaf : PbIx) (atom : List ℕ) → slice_get r.homes k ≡ Some leaf → slice_get atoms k ≡ Some atom → HomeFits atom k leaf) →
      ((k : ℕ) (e : Entry) → slice_get r.entries k ≡ Some e → EntryFits e) → SpellsReal g t atoms nets (real_text g atoms nets r) r
  spells_back one r there spelled few homes entries =
      let entered = flat_map (entry_text g nets) r.entries ++ prog_text g r.prog in
      let a = homes_lead atoms r.homes [] entered few (λ k leaf atom at_l at_a. subst (λ (n : ℕ). HomeFits atom n leaf) (omega arith) (homes k leaf atom at_l at_a)) in
      let b = entries_lead r.homes there.each r.entries [] (prog_text g r.prog) entries (λ i j x y at_x at_y. nothing i x at_x) there.ascending in
      let c : Leads (prog_text g r.prog) [] (real_of no_choices r.homes r.entries) r =
      record { ls = spelled.lines; are = spelled.are_lines; reads = prog_reads r.homes r.entries there.each spelled.lines no_choices r.prog spelled.reads } in
      let d = leads_then entered (prog_text g r.prog) [] (real_of no_choices r.homes []) (real_of no_choices r.homes r.entries) r b c in
      let e = leads_then (real_text g atoms nets r) entered [] nothing_read (real_of no_choices r.homes []) r a d in
      record { reads = subst (λ ls. ReadsLines g t atoms nets ls nothing_read r) (sym (one (real_text g atoms nets r) e.ls e.are)) e.reads; housed = there.each }
    where
      nothing : {P : Type 0} (i : ℕ) (x : Entry) → slice_get [] i ≡ Some x → P
      nothing i x at = absurd (cc)

-- what each line needs

kind_inside : (g : Graph) (pb : ℕ) (k : PbKind) → kind_at g pb ≡ Some k → pb < length g.instances
kind_inside g pb k is = by (slice_get g.instances pb) refl is
  where
    by : (o : Option Address) → slice_get g.instances pb ≡ o →
        option_map (λ (block : PbType). kind_of block.kind) (option_and_then (λ address. at g.root address) o) ≡ Some k → pb < length g.instances
    by None e none = absurd (cc)
    by (Some a) e some = slice_get_within g.instances pb a e

module _ (g : Graph) (t : Task) (atoms nets : List (List ℕ)) (texts : AreTexts g) where
  pub home_fits : ((k : ℕ) (name : List ℕ) → slice_get atoms k ≡ Some name → IsText name) → (r : Real) → IsThere g t r → (k : ℕ) (leaf : PbIx) (atom : List ℕ) → slice_get r.homes k ≡ Some leaf →
      slice_get atoms k ≡ Some atom → HomeFits g t atoms nets atom k leaf
  home_fits words r there k leaf atom at_l at_a =
      let is_leaf = there.leaves k leaf.0 at_l in
      let inside = kind_inside g leaf.0 _ is_leaf.is in
      record {
        text = words k atom at_a;
        instance = texts.instances leaf.0 inside;
        names = record {
          is_atom = record { is = at_a };
          is_instance = record { there = inside; spelled = refl };
          is_leaf = is_leaf;
          holds = there.holds k leaf.0 at_l;
        };
      }

  pub entry_fits : ((k : ℕ) (name : List ℕ) → slice_get nets k ≡ Some name → IsText name) → length nets ≡ length t.nets → (r : Real) → IsThere g t r → (k : ℕ) (e : Entry) →
      slice_get r.entries k ≡ Some e → EntryFits g t atoms nets e
  entry_fits words many r there k e at =
      let input = there.pins k e at in
      let inside = slice_get_within g.pins e.pin.0 input.at input.is in
      let name = element nets e.net (omega (arith, many, there.nets k e at)) in
      let is : slice_get nets e.net ≡ Some (unwrap_or (slice_get nets e.net) []) = name.1 ∙ ap (λ o. Some (unwrap_or o [])) (sym name.1) in
      record {
        pin = texts.pins e.pin.0 inside;
        net = words e.net (unwrap_or (slice_get nets e.net) []) is;
        names = record { is_pin = record { there = inside; spelled = refl }; is_input = input; is_net = record { is = is } };
      }
