-- A line spells one node.
use Rattle.std.proofs.Common.{◌≡◌, ℕ, List, [], ◌∷◌, codes, refl, sym, ap, subst, ◌∙◌}
use Rattle.list_laws.specs.Orders.{StandOnce}
use Rattle.pb_expand.specs.declared.number.PbIx.{PbIx}
use Rattle.pb_expand.specs.declared.number.PinIx.{PinIx}
use Rattle.pb_expand.specs.Graph.{Graph, pb_ix, pin_ix}
use Rattle.pb_expand.specs.OneOwner.{HasOneOwner}
use Rattle.prog_text.specs.Names.{NamesInstance, NamesPin}
use Rattle.name_laws.specs.Laws.{TellsOneInstance, TellsOnePin, TellsOneMode}
use Rattle.task_types.specs.declared.task.Task.{Task}
use Rattle.task_types.specs.declared.tree.Var.{Var}
use Rattle.task_types.specs.declared.tree.Var.TheVariants as var
use Rattle.task_types.specs.declared.tree.TreeNode.{TreeNode}
use Rattle.task_types.specs.declared.tree.TreeNode.TheVariants.{Branch, Homeless, Cut, Crowd, Loose}
use Rattle.tree_lines.specs.Words.{AreEach, IsNumber, IsNeed, NamesAtom, IsPin}
use Rattle.tree_lines.specs.Variables.{NamesVar, NamesModeInto}
use Rattle.tree_lines.specs.Nodes.{SaysNode, SaysBranch, SaysHomeless, SaysCut, SaysCrowd}
use Rattle.tree_lines.proofs.EachWord.{one_each, one_number, one_need, one_atom, one_word_cut, one_last, no_slash}
use Rattle.tree_lines.proofs.Edges.{one_mode_into}

behind : (a b : List ℕ) (xs ys : List (List ℕ)) → a ∷ xs ≡ b ∷ ys → xs ≡ ys
behind a b xs ys e = cc

module _ (g : Graph) (one : HasOneOwner g) (instances : TellsOneInstance g) (pins : TellsOnePin g) (modes : TellsOneMode g) where
  one_pb : (a b : PbIx) (name : List ℕ) → NamesInstance g name a.0 → NamesInstance g name b.0 → a ≡ b
  one_pb a b name is_a is_b = let same : a.0 ≡ b.0 = instances name a.0 b.0 is_a is_b in let made : pb_ix a.0 ≡ pb_ix b.0 = ap pb_ix same in made

  one_pin : (a b : PinIx) (name : List ℕ) → NamesPin g name a.0 → NamesPin g name b.0 → a ≡ b
  one_pin a b name is_a is_b = let same : a.0 ≡ b.0 = pins name a.0 b.0 is_a is_b in let made : pin_ix a.0 ≡ pin_ix b.0 = ap pin_ix same in made

  one_pin_word : (word : List ℕ) (a b : PinIx) → IsPin g word a → IsPin g word b → a ≡ b
  one_pin_word word a b is_a is_b = one_pin a b word is_a.is is_b.is

  one_var : (words : List (List ℕ)) (v w : Var) → NamesVar g words v → NamesVar g words w → v ≡ w
  one_var words (var.Mode a) (var.Mode b) x y =
      let name : x.0 ≡ y.0 = second (sym x.1 ∙ y.1) in
      ap (λ (pb : PbIx). var.Mode pb) (one_pb a b y.0 (subst (λ n. NamesInstance g n a.0) name x.2) y.2)
    where
      second : {a b c d : List ℕ} → a ∷ b ∷ [] ≡ c ∷ d ∷ [] → b ≡ d
      second e = cc
  one_var words (var.Occupant a) (var.Occupant b) x y =
      let name : x.0 ≡ y.0 = second (sym x.1 ∙ y.1) in
      ap (λ (pb : PbIx). var.Occupant pb) (one_pb a b y.0 (subst (λ n. NamesInstance g n a.0) name x.2) y.2)
    where
      second : {a b c d : List ℕ} → a ∷ b ∷ [] ≡ c ∷ d ∷ [] → b ≡ d
      second e = cc
  one_var words (var.Entry a) (var.Entry b) x y =
      let name : x.0 ≡ y.0 = second (sym x.1 ∙ y.1) in
      ap (λ (pin : PinIx). var.Entry pin) (one_pin a b y.0 (subst (λ n. NamesPin g n a.0) name x.2) y.2)
    where
      second : {a b c d : List ℕ} → a ∷ b ∷ [] ≡ c ∷ d ∷ [] → b ≡ d
      second e = cc
  one_var words (var.Edge a m) (var.Edge b n) x y =
      let name : x.0 ≡ y.0 = second (sym x.2 ∙ y.2) in
      let text : x.1 ≡ y.1 = third (sym x.2 ∙ y.2) in
      let pin : a ≡ b = one_pin a b y.0 (subst (λ n. NamesPin g n a.0) name x.3) y.3 in
      let into : NamesModeInto g b.0 y.1 m = subst (λ (p : PinIx). NamesModeInto g p.0 y.1 m) pin (subst (λ w. NamesModeInto g a.0 w m) text x.4) in
      let mode : m ≡ n = one_mode_into g one modes b.0 y.1 m n into y.4 in
      both pin mode
    where
      second : {a b c d e f : List ℕ} → a ∷ b ∷ c ∷ [] ≡ d ∷ e ∷ f ∷ [] → b ≡ e
      second e = cc

      third : {a b c d e f : List ℕ} → a ∷ b ∷ c ∷ [] ≡ d ∷ e ∷ f ∷ [] → c ≡ f
      third e = cc

      both : a ≡ b → m ≡ n → var.Edge a m ≡ var.Edge b n
      both e f = cc
  one_var words (var.Mode a) (var.Occupant b) x y = let e = sym x.1 ∙ y.1 in cc
  one_var words (var.Mode a) (var.Entry b) x y = let e = sym x.1 ∙ y.1 in cc
  one_var words (var.Mode a) (var.Edge b n) x y = let e = sym x.1 ∙ y.2 in cc
  one_var words (var.Occupant a) (var.Mode b) x y = let e = sym x.1 ∙ y.1 in cc
  one_var words (var.Occupant a) (var.Entry b) x y = let e = sym x.1 ∙ y.1 in cc
  one_var words (var.Occupant a) (var.Edge b n) x y = let e = sym x.1 ∙ y.2 in cc
  one_var words (var.Entry a) (var.Mode b) x y = let e = sym x.1 ∙ y.1 in cc
  one_var words (var.Entry a) (var.Occupant b) x y = let e = sym x.1 ∙ y.1 in cc
  one_var words (var.Entry a) (var.Edge b n) x y = let e = sym x.1 ∙ y.2 in cc
  one_var words (var.Edge a m) (var.Mode b) x y = let e = sym x.2 ∙ y.1 in cc
  one_var words (var.Edge a m) (var.Occupant b) x y = let e = sym x.2 ∙ y.1 in cc
  one_var words (var.Edge a m) (var.Entry b) x y = let e = sym x.2 ∙ y.1 in cc

  module _ (t : Task) (names : List (List ℕ)) (once : StandOnce names) where
    same_branch : (words : List (List ℕ)) (v w : Var) (k l : ℕ) → SaysBranch g t words v k → SaysBranch g t words w l → Branch v k ≡ Branch w l
    same_branch words v w k l a b =
        let parts = one_last a.front b.front a.count b.count (behind (codes "branch") (codes "branch") _ _ (sym a.are ∙ b.are)) in
        let variable : v ≡ w = one_var b.front v w (subst (λ ws. NamesVar g ws v) parts.0 a.variable.names) b.variable.names in
        let kids : k ≡ l = one_number b.count k l (subst (λ c. IsNumber c k) parts.1 a.number) b.number in
        both variable kids
      where
        both : v ≡ w → k ≡ l → Branch v k ≡ Branch w l
        both e f = cc

    same_homeless : (words : List (List ℕ)) (xs ys : List ℕ) → SaysHomeless names words xs → SaysHomeless names words ys → xs ≡ ys
    same_homeless words xs ys a b =
        let list : a.list ≡ b.list = behind (codes "homeless") (codes "homeless") a.list b.list (sym a.are ∙ b.are) in
        one_each (NamesAtom names) (one_atom names once) b.list xs ys (subst (λ l. AreEach (NamesAtom names) l xs) list a.each) b.each

    same_cut : (words : List (List ℕ)) (m n : ℕ) (ps qs : List PinIx) → SaysCut g t words m ps → SaysCut g t words n qs → Cut m ps ≡ Cut n qs
    same_cut words m n ps qs a b =
        let rest = behind (codes "cut") (codes "cut") _ _ (sym a.are ∙ b.are) in
        let list : a.list ≡ b.list = behind a.number b.number a.list b.list rest in
        let word : a.number ≡ b.number = first rest in
        let need : m ≡ n = one_need t b.number m n (subst (λ w. IsNeed t w m) word a.is_need) b.is_need in
        let same : ps ≡ qs = one_each (IsPin g) one_pin_word b.list ps qs (subst (λ l. AreEach (IsPin g) l ps) list a.each) b.each in
        both need same
      where
        first : {x y : List ℕ} {xs ys : List (List ℕ)} → x ∷ xs ≡ y ∷ ys → x ≡ y
        first e = cc

        both : m ≡ n → ps ≡ qs → Cut m ps ≡ Cut n qs
        both e f = ap (λ (k : ℕ). Cut k ps) e ∙ ap (λ (l : List PinIx). Cut n l) f

    same_crowd : (words : List (List ℕ)) (ms ns : List ℕ) (ps qs : List PinIx) → SaysCrowd g t words ms ps → SaysCrowd g t words ns qs → Crowd ms ps ≡ Crowd ns qs
    same_crowd words ms ns ps qs a b =
        let rest = behind (codes "crowd") (codes "crowd") _ _ (sym a.are ∙ b.are) in
        let parts = one_word_cut (codes "/") a.numbers b.numbers a.list b.list (no_slash t a.numbers ms a.are_needs) (no_slash t b.numbers ns b.are_needs) rest in
        let needs : ms ≡ ns = one_each (IsNeed t) (one_need t) b.numbers ms ns (subst (λ l. AreEach (IsNeed t) l ms) parts.0 a.are_needs) b.are_needs in
        let same : ps ≡ qs = one_each (IsPin g) one_pin_word b.list ps qs (subst (λ l. AreEach (IsPin g) l ps) parts.1 a.each) b.each in
        ap (λ (l : List ℕ). Crowd l ps) needs ∙ ap (λ (l : List PinIx). Crowd ns l) same

    pub one_node : (words : List (List ℕ)) (a b : TreeNode) → SaysNode g t names words a → SaysNode g t names words b → a ≡ b
    one_node words (Branch v k) (Branch w l) x y = same_branch words v w k l x y
    one_node words (Homeless xs) (Homeless ys) x y = ap (λ (l : List ℕ). Homeless l) (same_homeless words xs ys x y)
    one_node words (Cut m ps) (Cut n qs) x y = same_cut words m n ps qs x y
    one_node words (Crowd ms ps) (Crowd ns qs) x y = same_crowd words ms ns ps qs x y
    one_node words Loose Loose x y = refl
    one_node words (Branch v k) (Homeless ys) x y = let e = sym x.are ∙ y.are in cc
    one_node words (Branch v k) (Cut n qs) x y = let e = sym x.are ∙ y.are in cc
    one_node words (Branch v k) (Crowd ns qs) x y = let e = sym x.are ∙ y.are in cc
    one_node words (Branch v k) Loose x y = let e = sym x.are ∙ y in cc
    one_node words (Homeless xs) (Branch w l) x y = let e = sym x.are ∙ y.are in cc
    one_node words (Homeless xs) (Cut n qs) x y = let e = sym x.are ∙ y.are in cc
    one_node words (Homeless xs) (Crowd ns qs) x y = let e = sym x.are ∙ y.are in cc
    one_node words (Homeless xs) Loose x y = let e = sym x.are ∙ y in cc
    one_node words (Cut m ps) (Branch w l) x y = let e = sym x.are ∙ y.are in cc
    one_node words (Cut m ps) (Homeless ys) x y = let e = sym x.are ∙ y.are in cc
    one_node words (Cut m ps) (Crowd ns qs) x y = let e = sym x.are ∙ y.are in cc
    one_node words (Cut m ps) Loose x y = let e = sym x.are ∙ y in cc
    one_node words (Crowd ms ps) (Branch w l) x y = let e = sym x.are ∙ y.are in cc
    one_node words (Crowd ms ps) (Homeless ys) x y = let e = sym x.are ∙ y.are in cc
    one_node words (Crowd ms ps) (Cut n qs) x y = let e = sym x.are ∙ y.are in cc
    one_node words (Crowd ms ps) Loose x y = let e = sym x.are ∙ y in cc
    one_node words Loose (Branch w l) x y = let e = sym x ∙ y.are in cc
    one_node words Loose (Homeless ys) x y = let e = sym x ∙ y.are in cc
    one_node words Loose (Cut n qs) x y = let e = sym x ∙ y.are in cc
    one_node words Loose (Crowd ns qs) x y = let e = sym x ∙ y.are in cc
