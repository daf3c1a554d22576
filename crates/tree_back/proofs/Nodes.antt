-- Each line of a written tree spells its node, and all of them the tree.
use Rattle.std.proofs.Common.{◌≡◌, ◌<◌, ◌^◌, ℕ, true, List, [], ◌∷◌, ◌++◌, Option, Some, None, codes, length, map, slice_get, refl, sym, ap, subst, ◌∙◌, arith, inl, inr, append_assoc, append-nil}
use Rattle.std.specs.List.{AllPass, All, flat_map}
use Rattle.std.specs.Option.{option_and_then, option_map, unwrap_or}
use Rattle.std.specs.Fmt.{decimal}
use Rattle.std.specs.Str.Lines.{lines}
use Rattle.std.proofs.lemmas.List.Elements.{All-cons, All-nil}
use Rattle.std.proofs.lemmas.Grind.{flat_map-append}
use Rattle.std.proofs.lemmas.Option.{slice_get_within}
use Rattle.vtr_base.specs.Lists.{Has}
use Rattle.vtr_base.specs.Spans.{is_word_byte}
use Rattle.list_laws.proofs.Members.{has_either, each_has}
use Rattle.arch_types.specs.declared.block.PbType.{PbType}
use Rattle.arch_types.specs.Address.{Address, at}
use Rattle.pb_expand.specs.declared.number.PinIx.{PinIx}
use Rattle.pb_expand.specs.declared.number.PbKind.{PbKind}
use Rattle.pb_expand.specs.Graph.{Graph, kind_of}
use Rattle.pb_expand.specs.Ends.{ListsEnds}
use Rattle.pb_expand.specs.Expansion.{IsExpansion}
use Rattle.prog_map.specs.Leaves.{kind_at}
use Rattle.prog_text.specs.Names.{instance_name, pin_name}
use Rattle.prog_text.specs.Plain.{HasPlainNames}
use Rattle.name_laws.specs.Laws.{AreWords}
use Rattle.tree_lines.specs.Variables.{SaysVar}
use Rattle.tree_lines.specs.Nodes.{SaysNode, SpellsNode}
use Rattle.task_types.specs.declared.task.Task.{Task}
use Rattle.task_types.specs.declared.tree.Var.{Var}
use Rattle.task_types.specs.declared.tree.Var.TheVariants as var
use Rattle.task_types.specs.declared.tree.TreeNode.{TreeNode}
use Rattle.task_types.specs.declared.tree.TreeNode.TheVariants.{Branch, Homeless, Cut, Crowd, Loose}
use Rattle.task_types.specs.Options.{IsVar}
use Rattle.task_types.specs.Trees.{IsWholeTree}
use Rattle.tree_text.specs.Text.{SpellNodes, SpellsTree}
use Rattle.tree_write.specs.Spelling.{var_text, node_text, tree_text, mode_into_name}
use Rattle.tree_write.specs.There.{IsThere}
use Rattle.tree_back.specs.Laws.{IsSmall}
use Rattle.tree_back.proofs.Joined.{words_back, line_bytes, line_back, blanks_map}
use Rattle.tree_back.proofs.AtomNames.{dark_decimal}
use Rattle.tree_back.proofs.Written.{number_back, mode_named, end_inside, pins_back, pins_dark, needs_back, needs_dark, atoms_back, atoms_dark}

-- the words of a variable
pub record VarBack (g : Graph) (t : Task) (v : Var) : Type 0 where
  pub first : List ℕ
  pub more : List (List ℕ)
  pub is : var_text g v ≡ first ++ flat_map (λ (word : List ℕ). 32 ∷ word) more
  pub says : SaysVar g t (first ∷ more) v
  pub first_dark : AllPass is_word_byte first
  pub each : (w : List ℕ) → Has more w → AllPass is_word_byte w

-- the line of a node
pub record NodeBack (g : Graph) (t : Task) (names : List (List ℕ)) (node : TreeNode) : Type 0 where
  pub first : List ℕ
  pub more : List (List ℕ)
  pub is : node_text g names node ≡ (first ++ flat_map (λ (word : List ℕ). 32 ∷ word) more) ++ 10 ∷ []
  pub says : SaysNode g t names (first ∷ more) node
  pub first_dark : AllPass is_word_byte first
  pub each : (w : List ℕ) → Has more w → AllPass is_word_byte w

one_dark : (v : List ℕ) → AllPass is_word_byte v → (w : List ℕ) → Has (v ∷ []) w → AllPass is_word_byte w
one_dark v dark w (inl is) = subst (AllPass is_word_byte) (sym is) dark
one_dark v dark w (inr none) = absurd none

more_dark : (v : List ℕ) (words : List (List ℕ)) → AllPass is_word_byte v → ((w : List ℕ) → Has words w → AllPass is_word_byte w) → (w : List ℕ) → Has (v ∷ words) w → AllPass is_word_byte w
more_dark v words dark each w (inl is) = subst (AllPass is_word_byte) (sym is) dark
more_dark v words dark each w (inr has) = each w has

both_dark : (xs ys : List (List ℕ)) → ((w : List ℕ) → Has xs w → AllPass is_word_byte w) → ((w : List ℕ) → Has ys w → AllPass is_word_byte w) → (w : List ℕ) → Has (xs ++ ys) w →
    AllPass is_word_byte w
both_dark xs ys a b w has = elim (has_either xs ys w has) [ inl left ↦ a w left | inr right ↦ b w right ]

none_dark : (w : List ℕ) → Has [] w → AllPass is_word_byte w
none_dark w has = absurd has

branch_is : (first dec : List ℕ) (more : List (List ℕ)) →
    codes "branch " ++ ((first ++ flat_map (λ (word : List ℕ). 32 ∷ word) more) ++ 32 ∷ (dec ++ 10 ∷ []))
    ≡ (codes "branch" ++ flat_map (λ (word : List ℕ). 32 ∷ word) (first ∷ (more ++ dec ∷ []))) ++ 10 ∷ []
branch_is first dec more = simp (flat_map-append, append_assoc)

module _ (g : Graph) (t : Task) (names : List (List ℕ)) (law : IsExpansion g) (lists : ListsEnds g) (plain : HasPlainNames g.root) (words : AreWords g)
    (dark : (k : ℕ) (name : List ℕ) → slice_get names k ≡ Some name → AllPass is_word_byte name) (many : length names ≡ length t.atoms) where
  kind_inside : (pb : ℕ) (k : PbKind) → kind_at g pb ≡ Some k → pb < length g.instances
  kind_inside pb k is = by (slice_get g.instances pb) refl is
    where
      by : (o : Option Address) → slice_get g.instances pb ≡ o →
          option_map (λ (block : PbType). kind_of block.kind) (option_and_then (λ address. at g.root address) o) ≡ Some k → pb < length g.instances
      by None e none = absurd (cc)
      by (Some a) e some = slice_get_within g.instances pb a e

  codes_dark : (b : ℕ) (bs : List ℕ) → is_word_byte b ≡ true → AllPass is_word_byte bs → AllPass is_word_byte (b ∷ bs)
  codes_dark b bs here rest = All-cons (λ x. is_word_byte x ≡ true) b bs here rest

  small_dark : (n : ℕ) → n < 2 ^ 32 → AllPass is_word_byte (decimal n)
  small_dark n low = let fits : n < 2 ^ 64 = omega (arith, low) in dark_decimal n fits

  spells_back : (nodes : List TreeNode) → ((node : TreeNode) → Has nodes node → NodeBack g t names node) → SpellNodes g t names (lines (tree_text g names nodes)) nodes
  spells_back [] each = tt
  spells_back (node ∷ nodes) each =
      let b = each node (inl refl) in
      let line = b.first ++ flat_map (λ (word : List ℕ). 32 ∷ word) b.more in
      let rest = tree_text g names nodes in
      let are : lines (tree_text g names (node ∷ nodes)) ≡ line ∷ lines rest =
      ap (λ l. lines (l ++ rest)) b.is ∙ line_back line rest (line_bytes b.first b.more b.first_dark b.each) in
      let here : SpellsNode g t names line node = subst (λ ws. SaysNode g t names ws node) (sym (words_back b.first b.more b.first_dark b.each)) b.says in
      subst (λ ls. SpellNodes g t names ls (node ∷ nodes)) (sym are) (here, spells_back nodes (λ n has. each n (inr has)))

  pub loose_back : NodeBack g t names Loose
  loose_back = record {
    first = codes "open";
    more = [];
    is = refl;
    says = refl;
    each = none_dark;
    first_dark = codes_dark 111 (112 ∷ 101 ∷ 110 ∷ []) refl (codes_dark 112 (101 ∷ 110 ∷ []) refl (codes_dark 101 (110 ∷ []) refl (codes_dark 110 [] refl (All-nil (λ x. is_word_byte x ≡ true)))));
  }

  pub cut_back : (need : ℕ) (pins : List PinIx) → IsThere g t (Cut need pins) → need < 2 ^ 32 → NodeBack g t names (Cut need pins)
  cut_back need pins there small = record {
    first = codes "cut";
    more = decimal need ∷ map (λ (p : PinIx). pin_name g p.0) pins;
    is = ap (λ l. codes "cut" ++ ((32 ∷ decimal need) ++ (l ++ 10 ∷ []))) (blanks_map (λ (p : PinIx). pin_name g p.0) pins) ∙ simp append_assoc;
    says = record {
      number = decimal need;
      list = map (λ (p : PinIx). pin_name g p.0) pins;
      are = refl;
      is_need = record { number = number_back need small; there = there.0 };
      each = pins_back g law lists plain pins there.1;
    };
    first_dark = codes_dark 99 (117 ∷ 116 ∷ []) refl (codes_dark 117 (116 ∷ []) refl (codes_dark 116 [] refl (All-nil (λ x. is_word_byte x ≡ true))));
    each = more_dark (decimal need) (map (λ (p : PinIx). pin_name g p.0) pins) (small_dark need small) (pins_dark g law lists plain words pins there.1);
  }

  homeless_back : (atoms : List ℕ) → IsThere g t (Homeless atoms) → NodeBack g t names (Homeless atoms)
  homeless_back atoms there =
      let inside = subst (λ n. All (λ place. place < n) atoms) (sym many) there in
      record {
        first = codes "homeless";
        more = map (λ (place : ℕ). unwrap_or (slice_get names place) []) atoms;
        is = ap (λ l. codes "homeless" ++ (l ++ 10 ∷ [])) (blanks_map (λ (place : ℕ). unwrap_or (slice_get names place) []) atoms) ∙ simp append_assoc;
        says = record { list = map (λ (place : ℕ). unwrap_or (slice_get names place) []) atoms; are = refl; each = atoms_back names atoms inside };
        first_dark = codes_dark 104 (111 ∷ 109 ∷ 101 ∷ 108 ∷ 101 ∷ 115 ∷ 115 ∷ []) refl (codes_dark 111 (109 ∷ 101 ∷ 108 ∷ 101 ∷ 115 ∷ 115 ∷ []) refl
            (codes_dark 109 (101 ∷ 108 ∷ 101 ∷ 115 ∷ 115 ∷ []) refl (codes_dark 101 (108 ∷ 101 ∷ 115 ∷ 115 ∷ []) refl (codes_dark 108 (101 ∷ 115 ∷ 115 ∷ []) refl
            (codes_dark 101 (115 ∷ 115 ∷ []) refl (codes_dark 115 (115 ∷ []) refl (codes_dark 115 [] refl (All-nil (λ x. is_word_byte x ≡ true)))))))));
        each = atoms_dark names dark atoms inside;
      }

  crowd_back : (needs : List ℕ) (pins : List PinIx) → IsThere g t (Crowd needs pins) → All (λ need. need < 2 ^ 32) needs → NodeBack g t names (Crowd needs pins)
  crowd_back needs pins there small =
      let texts = map (λ (p : PinIx). pin_name g p.0) pins in
      record {
        first = codes "crowd";
        more = map decimal needs ++ codes "/" ∷ texts;
        is =
            ap (λ l. codes "crowd" ++ (l ++ (codes " /" ++ (flat_map (λ (p : PinIx). 32 ∷ pin_name g p.0) pins ++ 10 ∷ [])))) (blanks_map decimal needs) ∙
            ap (λ l. codes "crowd" ++ (flat_map (λ (word : List ℕ). 32 ∷ word) (map decimal needs) ++ (codes " /" ++ (l ++ 10 ∷ [])))) (blanks_map (λ (p : PinIx). pin_name g p.0) pins) ∙
            simp (flat_map-append, append_assoc);
        says = record { numbers = map decimal needs; list = texts; are = refl; are_needs = needs_back t needs there.0 small; each = pins_back g law lists plain pins there.1 };
        first_dark = codes_dark 99 (114 ∷ 111 ∷ 119 ∷ 100 ∷ []) refl (codes_dark 114 (111 ∷ 119 ∷ 100 ∷ []) refl (codes_dark 111 (119 ∷ 100 ∷ []) refl
            (codes_dark 119 (100 ∷ []) refl (codes_dark 100 [] refl (All-nil (λ x. is_word_byte x ≡ true))))));
        each = both_dark (map decimal needs) (codes "/" ∷ texts) (needs_dark needs small)
            (more_dark (codes "/") texts (codes_dark 47 [] refl (All-nil (λ x. is_word_byte x ≡ true))) (pins_dark g law lists plain words pins there.1));
      }

  nil_dark : AllPass is_word_byte []
  nil_dark = All-nil (λ x. is_word_byte x ≡ true)

  var_back : (v : Var) → IsVar g t v → VarBack g t v
  var_back (var.Mode pb) is =
      let there = kind_inside pb.0 _ is.is in
      record {
        first = codes "mode";
        more = instance_name g pb.0 ∷ [];
        is = ap (λ l. codes "mode " ++ l) (sym (append-nil (instance_name g pb.0)));
        says = record { names = (instance_name g pb.0, refl, record { there = there; spelled = refl }); is = is };
        first_dark = codes_dark 109 (111 ∷ 100 ∷ 101 ∷ []) refl (codes_dark 111 (100 ∷ 101 ∷ []) refl (codes_dark 100 (101 ∷ []) refl (codes_dark 101 [] refl nil_dark)));
        each = one_dark (instance_name g pb.0) (words.instances pb.0 there);
      }
  var_back (var.Occupant pb) is =
      let there = kind_inside pb.0 _ is.is in
      record {
        first = codes "occupant";
        more = instance_name g pb.0 ∷ [];
        is = ap (λ l. codes "occupant " ++ l) (sym (append-nil (instance_name g pb.0)));
        says = record { names = (instance_name g pb.0, refl, record { there = there; spelled = refl }); is = is };
        first_dark = codes_dark 111 (99 ∷ 99 ∷ 117 ∷ 112 ∷ 97 ∷ 110 ∷ 116 ∷ []) refl (codes_dark 99 (99 ∷ 117 ∷ 112 ∷ 97 ∷ 110 ∷ 116 ∷ []) refl
            (codes_dark 99 (117 ∷ 112 ∷ 97 ∷ 110 ∷ 116 ∷ []) refl (codes_dark 117 (112 ∷ 97 ∷ 110 ∷ 116 ∷ []) refl (codes_dark 112 (97 ∷ 110 ∷ 116 ∷ []) refl
            (codes_dark 97 (110 ∷ 116 ∷ []) refl (codes_dark 110 (116 ∷ []) refl (codes_dark 116 [] refl nil_dark)))))));
        each = one_dark (instance_name g pb.0) (words.instances pb.0 there);
      }
  var_back (var.Edge pin mode) is =
      let there = end_inside g law lists plain pin.0 mode is.0 is.1 in
      let named = mode_named g law lists plain pin.0 mode is.0 is.1 in
      record {
        first = codes "edge";
        more = pin_name g pin.0 ∷ mode_into_name g pin.0 mode ∷ [];
        is = ap (λ l. codes "edge " ++ (pin_name g pin.0 ++ 32 ∷ l)) (sym (append-nil (mode_into_name g pin.0 mode)));
        says = record { names = (pin_name g pin.0, mode_into_name g pin.0 mode, refl, record { there = there; spelled = refl }, named.into); is = is };
        first_dark = codes_dark 101 (100 ∷ 103 ∷ 101 ∷ []) refl (codes_dark 100 (103 ∷ 101 ∷ []) refl (codes_dark 103 (101 ∷ []) refl (codes_dark 101 [] refl nil_dark)));
        each = more_dark (pin_name g pin.0) (mode_into_name g pin.0 mode ∷ []) (words.pins pin.0 there) (one_dark (mode_into_name g pin.0 mode) named.dark);
      }
  var_back (var.Entry pin) is =
      let there = slice_get_within g.pins pin.0 is.0.at is.0.is in
      record {
        first = codes "entry";
        more = pin_name g pin.0 ∷ [];
        is = ap (λ l. codes "entry " ++ l) (sym (append-nil (pin_name g pin.0)));
        says = record { names = (pin_name g pin.0, refl, record { there = there; spelled = refl }); is = is };
        first_dark = codes_dark 101 (110 ∷ 116 ∷ 114 ∷ 121 ∷ []) refl (codes_dark 110 (116 ∷ 114 ∷ 121 ∷ []) refl (codes_dark 116 (114 ∷ 121 ∷ []) refl (codes_dark 114 (121 ∷ []) refl (codes_dark 121 [] refl nil_dark))));
        each = one_dark (pin_name g pin.0) (words.pins pin.0 there);
      }

  branch_back : (v : Var) (kids : ℕ) → IsVar g t v → 0 < kids → kids < 2 ^ 32 → NodeBack g t names (Branch v kids)
  branch_back v kids is some small =
      let b = var_back v is in
      record {
        first = codes "branch";
        more = b.first ∷ (b.more ++ decimal kids ∷ []);
        is = ap (λ l. codes "branch " ++ (l ++ 32 ∷ (decimal kids ++ 10 ∷ []))) b.is ∙ branch_is b.first (decimal kids) b.more;
        says = record { front = b.first ∷ b.more; count = decimal kids; are = refl; variable = b.says; number = number_back kids small; some = some };
        first_dark = codes_dark 98 (114 ∷ 97 ∷ 110 ∷ 99 ∷ 104 ∷ []) refl (codes_dark 114 (97 ∷ 110 ∷ 99 ∷ 104 ∷ []) refl (codes_dark 97 (110 ∷ 99 ∷ 104 ∷ []) refl
            (codes_dark 110 (99 ∷ 104 ∷ []) refl (codes_dark 99 (104 ∷ []) refl (codes_dark 104 [] refl nil_dark)))));
        each = more_dark b.first (b.more ++ decimal kids ∷ []) b.first_dark (both_dark b.more (decimal kids ∷ []) b.each (one_dark (decimal kids) (small_dark kids small)));
      }

  node_back : (node : TreeNode) → IsThere g t node → IsSmall node → ((v : Var) (kids : ℕ) → node ≡ Branch v kids → 0 < kids) → NodeBack g t names node
  node_back (Branch v kids) there small some = branch_back v kids there (some v kids refl) small
  node_back (Homeless atoms) there small some = homeless_back atoms there
  node_back (Cut need pins) there small some = cut_back need pins there small
  node_back (Crowd needs pins) there small some = crowd_back needs pins there small
  node_back Loose there small some = loose_back

  pub tree_back : (nodes : List TreeNode) → IsWholeTree nodes → All (IsThere g t) nodes → All IsSmall nodes → SpellsTree g t names (tree_text g names nodes) nodes
  tree_back nodes whole there small = record {
    each = spells_back nodes (λ node has. node_back node (each_has (IsThere g t) nodes there node has) (each_has IsSmall nodes small node has) (λ v kids is. whole.kids v kids (subst (Has nodes) is has)));
    whole = whole;
  }
