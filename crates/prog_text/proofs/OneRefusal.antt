-- A text is refused in one way, where the names are plain, want of memory aside.
use Rattle.std.proofs.Common.{◌≡◌, ◌≢◌, inl, inr, ◌+◌, ℕ, suc, min, List, [], ◌∷◌, length, refl, sym, ap, subst, ◌∙◌}
use Rattle.pb_expand.specs.Graph.{Graph}
use Rattle.pb_expand.specs.Expansion.{IsExpansion}
use Rattle.pb_expand.specs.OneOwner.{HasOneOwner}
use Rattle.prog_text.specs.declared.error.ProgError.{ProgError}
use Rattle.prog_text.specs.declared.error.ProgError.TheVariants.{BadLine, NoSuchSite, NoSuchChoice, TwiceSet, OutOfMemory}
use Rattle.prog_map.specs.Choices.{Choices, no_choices}
use Rattle.prog_map.specs.Leaves.{IsLut, HasModes}
use Rattle.prog_text.specs.Lines.{IsFirstLine, AreFirstLines}
use Rattle.prog_text.specs.NamedEdges.{IsEdgeWanted}
use Rattle.prog_text.specs.Plain.{HasPlainNames}
use Rattle.prog_text.specs.Sayings.{Saying, says_mode, says_pin, says_used, says_wire, says_table}
use Rattle.prog_text.specs.Settings.{LacksSite, LacksChoice}
use Rattle.std.specs.Prelude.{None}
use Rattle.prog_text.specs.Laws.{AreOneRefusal}
use Rattle.prog_text.specs.Text.{ReadsLine, ReadsLines, RefusesLine, line_number, StopsAt, RefusesFrom}
use Rattle.prog_text.proofs.OneName.{one_pin_named}
use Rattle.prog_text.proofs.OneReading.{one_saying, one_line, read_once, found, has_site, has_choice, set_not_refused}

module _ (g : Graph) (law : IsExpansion g) (plain : HasPlainNames g.root) (one : HasOneOwner g) where
  -- what lacks a choice has its site
  site_there : (s : Saying) → LacksChoice g s → LacksSite g s → ⊥
  site_there (says_mode i t) choice lacks = found g law plain one i (HasModes g) choice.0 choice.1 choice.2 lacks
  site_there (says_pin p t q) choice (inl none) = none choice.0 choice.1
  site_there (says_pin p t q) choice (inr other) =
      other.2 choice.2.0 (subst (λ n. IsEdgeWanted g choice.2.0 n t None) (one_pin_named g law plain p choice.0 other.0 choice.1 other.1) choice.2.1)
  site_there (says_used i) choice lacks = choice
  site_there (says_wire i k) choice lacks = found g law plain one i (IsLut g) choice.0 choice.1 choice.2 lacks
  site_there (says_table i t) choice lacks = found g law plain one i (IsLut g) choice.0 choice.1 choice.2 lacks

  -- a line is refused in one way
  pub line_once : (line : List ℕ) (before : Choices) (n : ℕ) (e f : ProgError) → RefusesLine g line before n e → RefusesLine g line before n f → AreOneRefusal e f
  line_once line before n OutOfMemory f a b = inr (inl refl)
  line_once line before n (BadLine x) OutOfMemory a b = inr (inr refl)
  line_once line before n (NoSuchSite x) OutOfMemory a b = inr (inr refl)
  line_once line before n (NoSuchChoice x) OutOfMemory a b = inr (inr refl)
  line_once line before n (TwiceSet x) OutOfMemory a b = inr (inr refl)
  line_once line before n (BadLine x) (BadLine y) a b = inl (ap BadLine (a.0 ∙ sym b.0))
  line_once line before n (BadLine x) (NoSuchSite y) a b = absurd (a.1 b.1.0 b.1.1)
  line_once line before n (BadLine x) (NoSuchChoice y) a b = absurd (a.1 b.1.0 b.1.1)
  line_once line before n (BadLine x) (TwiceSet y) a b = absurd (a.1 b.1.saying b.1.says)
  line_once line before n (NoSuchSite x) (BadLine y) a b = absurd (b.1 a.1.0 a.1.1)
  line_once line before n (NoSuchSite x) (NoSuchSite y) a b = inl (ap NoSuchSite (a.0 ∙ sym b.0))
  line_once line before n (NoSuchSite x) (NoSuchChoice y) a b =
      let same : a.1.0 ≡ b.1.0 = one_saying line a.1.0 b.1.0 a.1.1 b.1.1 in
      absurd (site_there b.1.0 b.1.2 (subst (λ s. LacksSite g s) same a.1.2))
  line_once line before n (NoSuchSite x) (TwiceSet y) a b =
      let same : a.1.0 ≡ b.1.saying = one_saying line a.1.0 b.1.saying a.1.1 b.1.says in
      absurd (has_site g law plain one b.1.saying b.1.setting b.1.names (subst (λ s. LacksSite g s) same a.1.2))
  line_once line before n (NoSuchChoice x) (BadLine y) a b = absurd (b.1 a.1.0 a.1.1)
  line_once line before n (NoSuchChoice x) (NoSuchSite y) a b =
      let same : b.1.0 ≡ a.1.0 = one_saying line b.1.0 a.1.0 b.1.1 a.1.1 in
      absurd (site_there a.1.0 a.1.2 (subst (λ s. LacksSite g s) same b.1.2))
  line_once line before n (NoSuchChoice x) (NoSuchChoice y) a b = inl (ap NoSuchChoice (a.0 ∙ sym b.0))
  line_once line before n (NoSuchChoice x) (TwiceSet y) a b =
      let same : a.1.0 ≡ b.1.saying = one_saying line a.1.0 b.1.saying a.1.1 b.1.says in
      absurd (has_choice g law plain one b.1.saying b.1.setting b.1.names (subst (λ s. LacksChoice g s) same a.1.2))
  line_once line before n (TwiceSet x) (BadLine y) a b = absurd (b.1 a.1.saying a.1.says)
  line_once line before n (TwiceSet x) (NoSuchSite y) a b =
      let same : b.1.0 ≡ a.1.saying = one_saying line b.1.0 a.1.saying b.1.1 a.1.says in
      absurd (has_site g law plain one a.1.saying a.1.setting a.1.names (subst (λ s. LacksSite g s) same b.1.2))
  line_once line before n (TwiceSet x) (NoSuchChoice y) a b =
      let same : b.1.0 ≡ a.1.saying = one_saying line b.1.0 a.1.saying b.1.1 a.1.says in
      absurd (has_choice g law plain one a.1.saying a.1.setting a.1.names (subst (λ s. LacksChoice g s) same b.1.2))
  line_once line before n (TwiceSet x) (TwiceSet y) a b = inl (ap TwiceSet (a.0 ∙ sym b.0))

  -- a line that can be read is refused by want of memory alone
  read_not_refused : (line : List ℕ) (before after : Choices) (n : ℕ) (e : ProgError) → line ≢ [] → ReadsLine g line before after → RefusesLine g line before n e → e ≡ OutOfMemory
  read_not_refused line before after n e some (inl empty) r = absurd (some empty.0)
  read_not_refused line before after n e some (inr sets) r = set_not_refused g law plain one line before after n e sets r

  stops_once : (bytes : List ℕ) (xs ys : List (List ℕ)) (rx lx bx ry ly by : List ℕ) (before cx cy : Choices) (n m : ℕ) (e f : ProgError) →
      (length xs ≡ length ys → n ≡ m) → AreFirstLines bytes xs rx → AreFirstLines bytes ys ry → ReadsLines g xs before cx → ReadsLines g ys before cy →
      IsFirstLine rx lx bx → IsFirstLine ry ly by → lx ≢ [] → ly ≢ [] → RefusesLine g lx cx n e → RefusesLine g ly cy m f → AreOneRefusal e f
  stops_once bytes [] [] rx lx bx ry ly by before cx cy n m e f count ax ay readx ready ix iy sx sy refx refy =
      let same = one_line bytes lx bx ly by (subst (λ t. IsFirstLine t lx bx) ax ix) (subst (λ t. IsFirstLine t ly by) ay iy) in
      let numbers : n ≡ m = count refl in
      line_once ly before m e f
      (subst (λ k. RefusesLine g ly before k e) numbers (subst (λ t. RefusesLine g t before n e) same.0 (subst (λ c. RefusesLine g lx c n e) readx refx)))
      (subst (λ c. RefusesLine g ly c m f) ready refy)
  stops_once bytes [] (y ∷ ys) rx lx bx ry ly by before cx cy n m e f count ax ay readx ready ix iy sx sy refx refy =
      let same = one_line bytes y ay.0 lx bx ay.1 (subst (λ t. IsFirstLine t lx bx) ax ix) in
      inr (inl (read_not_refused lx before ready.0 n e sx (subst (λ t. ReadsLine g t before ready.0) same.0 ready.1) (subst (λ c. RefusesLine g lx c n e) readx refx)))
  stops_once bytes (x ∷ xs) [] rx lx bx ry ly by before cx cy n m e f count ax ay readx ready ix iy sx sy refx refy =
      let same = one_line bytes x ax.0 ly by ax.1 (subst (λ t. IsFirstLine t ly by) ay iy) in
      inr (inr (read_not_refused ly before readx.0 m f sy (subst (λ t. ReadsLine g t before readx.0) same.0 readx.1) (subst (λ c. RefusesLine g ly c m f) ready refy)))
  stops_once bytes (x ∷ xs) (y ∷ ys) rx lx bx ry ly by before cx cy n m e f count ax ay readx ready ix iy sx sy refx refy =
      let same = one_line bytes x ax.0 y ay.0 ax.1 ay.1 in
      let next : readx.0 ≡ ready.0 = read_once g law plain one y before readx.0 ready.0 (subst (λ t. ReadsLine g t before readx.0) same.0 readx.1) ready.1 in
      stops_once ay.0 xs ys rx lx bx ry ly by ready.0 cx cy n m e f (λ k. count (ap suc k)) (subst (λ t. AreFirstLines t xs rx) same.1 ax.2) ay.2
      (subst (λ c. ReadsLines g xs c cx) next readx.2) ready.2 ix iy sx sy refx refy

  stopped_once : (first : ℕ) (bytes : List ℕ) (e f : ProgError) → StopsAt g first bytes e → StopsAt g first bytes f → AreOneRefusal e f
  stopped_once first bytes e f a b =
      stops_once bytes a.front b.front a.rest a.line a.behind b.rest b.line b.behind no_choices a.before b.before (line_number first a.front) (line_number first b.front) e f
      (λ k. ap (λ (n : ℕ). min (first + n) 4294967295) k) a.are_first b.are_first a.reads b.reads a.is_line b.is_line a.some b.some a.refuses b.refuses

  second_stops : (first : ℕ) (bytes : List ℕ) (e f : ProgError) → StopsAt g first bytes e → RefusesFrom g first bytes f → AreOneRefusal e f
  second_stops first bytes e OutOfMemory a b = inr (inr refl)
  second_stops first bytes e (BadLine y) a b = stopped_once first bytes e (BadLine y) a b
  second_stops first bytes e (NoSuchSite y) a b = stopped_once first bytes e (NoSuchSite y) a b
  second_stops first bytes e (NoSuchChoice y) a b = stopped_once first bytes e (NoSuchChoice y) a b
  second_stops first bytes e (TwiceSet y) a b = stopped_once first bytes e (TwiceSet y) a b

  -- a text is refused in one way, want of memory aside
  pub refused_once : (first : ℕ) (bytes : List ℕ) (e f : ProgError) → RefusesFrom g first bytes e → RefusesFrom g first bytes f → AreOneRefusal e f
  refused_once first bytes OutOfMemory f a b = inr (inl refl)
  refused_once first bytes (BadLine x) f a b = second_stops first bytes (BadLine x) f a b
  refused_once first bytes (NoSuchSite x) f a b = second_stops first bytes (NoSuchSite x) f a b
  refused_once first bytes (NoSuchChoice x) f a b = second_stops first bytes (NoSuchChoice x) f a b
  refused_once first bytes (TwiceSet x) f a b = second_stops first bytes (TwiceSet x) f a b
