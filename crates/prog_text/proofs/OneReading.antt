-- A text spells one programming at most, where the names are plain, and is refused by no line then.
use Rattle.std.proofs.Common.{◌≡◌, ◌≢◌, inl, inr, ℕ, List, [], ◌∷◌, ◌++◌, Some, IsSome, refl, sym, ap, subst, ◌∙◌, arith}
use Rattle.std.specs.Prelude.{slice_get}
use Rattle.std.specs.Str.Parse.{digits_value}
use Rattle.arch_types.specs.declared.block.PbType.{PbType}
use Rattle.arch_types.specs.Tree.{modes_of, name_of_mode}
use Rattle.arch_types.specs.Address.{at}
use Rattle.pb_expand.specs.Graph.{Graph, pb_ix, pin_ix, edge_ix}
use Rattle.pb_expand.specs.Expansion.{IsExpansion}
use Rattle.pb_expand.specs.OneOwner.{HasOneOwner}
use Rattle.pb_expand.proofs.Lists.{has_at, snoc_front}
use Rattle.prog_map.specs.declared.setting.Setting.{Setting}
use Rattle.prog_map.specs.declared.setting.Setting.TheVariants.{Mode, Pick, Used, Lut}
use Rattle.prog_text.specs.declared.error.ProgError.{ProgError}
use Rattle.prog_text.specs.declared.error.ProgError.TheVariants.{BadLine, NoSuchSite, NoSuchChoice, TwiceSet, OutOfMemory}
use Rattle.prog_map.specs.Choices.{Choices, no_choices, IsLutChoice}
use Rattle.prog_map.specs.Leaves.{IsLeaf, IsLut, HasModes}
use Rattle.prog_text.specs.Lines.{DropsReturn, IsFirstLine, AreFirstLines}
use Rattle.prog_text.specs.Names.{NamesInstance, NamesMode}
use Rattle.prog_text.specs.Plain.{HasPlainNames}
use Rattle.prog_text.specs.Sayings.{AreWords, Saying, says_mode, says_pin, says_used, says_wire, says_table, WordsSay, Says}
use Rattle.prog_text.specs.Settings.{Names, NamesEdge, LacksInstance, LacksSite, LacksSource, LacksChoice}
use Rattle.prog_map.specs.Sites.{site_of, HasChoice, with_setting}
use Rattle.prog_text.specs.Text.{SetsSite, ReadsLine, ReadsLines, SpellsProg, RefusesLine, line_number, StopsAt, RefusesFrom}
use Rattle.prog_map.proofs.Climbs.{some_injective}
use Rattle.prog_text.proofs.Divided.{one_cut, uncut}
use Rattle.prog_text.proofs.OneName.{one_instance_named, one_pin_named, one_mode}
use Rattle.prog_map.proofs.Instances.{ModeIs, mode_is_there}
use Rattle.prog_text.proofs.Spoken.{one_words}

heads : {X : Type 0} {x y : X} {xs ys : List X} → x ∷ xs ≡ y ∷ ys → x ≡ y
heads e = cc

tails : {X : Type 0} {x y : X} {xs ys : List X} → x ∷ xs ≡ y ∷ ys → xs ≡ ys
tails e = cc

apart : {a b : ℕ} {xs ys : List ℕ} → (a ≡ b → ⊥) → a ∷ xs ≡ b ∷ ys → ⊥
apart differ e = differ (heads e)

second : {x y a b : List ℕ} {xs ys : List (List ℕ)} → x ∷ a ∷ xs ≡ y ∷ b ∷ ys → a ≡ b
second e = heads (tails e)

third : {x y a b c d : List ℕ} {xs ys : List (List ℕ)} → x ∷ a ∷ c ∷ xs ≡ y ∷ b ∷ d ∷ ys → c ≡ d
third e = heads (tails (tails e))

fourth : {x y a b c d p q : List ℕ} {xs ys : List (List ℕ)} → x ∷ a ∷ c ∷ p ∷ xs ≡ y ∷ b ∷ d ∷ q ∷ ys → p ≡ q
fourth e = heads (tails (tails (tails e)))

-- words say one thing
said_once : (ws : List (List ℕ)) (s t : Saying) → WordsSay ws s → WordsSay ws t → s ≡ t
said_once ws (says_mode i m) (says_mode j n) a b = let e = sym a ∙ b in ap (λ x. says_mode x m) (second e) ∙ ap (λ x. says_mode j x) (third e)
said_once ws (says_mode i m) (says_pin p n q) a b = absurd (apart (λ e. absurd (omega (arith, e))) (heads (sym a ∙ b)))
said_once ws (says_mode i m) (says_used j) a b = absurd (apart (λ e. absurd (omega (arith, e))) (heads (sym a ∙ b)))
said_once ws (says_mode i m) (says_wire j k) a b = absurd (apart (λ e. absurd (omega (arith, e))) (heads (sym a ∙ b.1)))
said_once ws (says_mode i m) (says_table j d) a b = absurd (apart (λ e. absurd (omega (arith, e))) (heads (sym a ∙ b.0)))
said_once ws (says_pin p m q) (says_mode j n) a b = absurd (apart (λ e. absurd (omega (arith, e))) (heads (sym a ∙ b)))
said_once ws (says_pin p m q) (says_pin r n s) a b =
    let e = sym a ∙ b in ap (λ x. says_pin x m q) (second e) ∙ ap (λ x. says_pin r x q) (third e) ∙ ap (λ x. says_pin r n x) (fourth e)
said_once ws (says_pin p m q) (says_used j) a b = absurd (apart (λ e. absurd (omega (arith, e))) (heads (sym a ∙ b)))
said_once ws (says_pin p m q) (says_wire j k) a b = absurd (apart (λ e. absurd (omega (arith, e))) (heads (sym a ∙ b.1)))
said_once ws (says_pin p m q) (says_table j d) a b = absurd (apart (λ e. absurd (omega (arith, e))) (heads (sym a ∙ b.0)))
said_once ws (says_used i) (says_mode j n) a b = absurd (apart (λ e. absurd (omega (arith, e))) (heads (sym a ∙ b)))
said_once ws (says_used i) (says_pin p n q) a b = absurd (apart (λ e. absurd (omega (arith, e))) (heads (sym a ∙ b)))
said_once ws (says_used i) (says_used j) a b = ap says_used (second (sym a ∙ b))
said_once ws (says_used i) (says_wire j k) a b = absurd (apart (λ e. absurd (omega (arith, e))) (heads (sym a ∙ b.1)))
said_once ws (says_used i) (says_table j d) a b = absurd (apart (λ e. absurd (omega (arith, e))) (heads (sym a ∙ b.0)))
said_once ws (says_wire i k) (says_mode j n) a b = absurd (apart (λ e. absurd (omega (arith, e))) (heads (sym a.1 ∙ b)))
said_once ws (says_wire i k) (says_pin p n q) a b = absurd (apart (λ e. absurd (omega (arith, e))) (heads (sym a.1 ∙ b)))
said_once ws (says_wire i k) (says_used j) a b = absurd (apart (λ e. absurd (omega (arith, e))) (heads (sym a.1 ∙ b)))
said_once ws (says_wire i k) (says_wire j l) a b =
    let e = sym a.1 ∙ b.1 in
    ap (λ x. says_wire x k) (second e) ∙ ap (λ x. says_wire j x) (sym a.3 ∙ ap (digits_value 10) (fourth e) ∙ b.3)
said_once ws (says_wire i k) (says_table j d) a b = absurd (apart (λ e. absurd (omega (arith, e))) (third (sym a.1 ∙ b.0)))
said_once ws (says_table i d) (says_mode j n) a b = absurd (apart (λ e. absurd (omega (arith, e))) (heads (sym a.0 ∙ b)))
said_once ws (says_table i d) (says_pin p n q) a b = absurd (apart (λ e. absurd (omega (arith, e))) (heads (sym a.0 ∙ b)))
said_once ws (says_table i d) (says_used j) a b = absurd (apart (λ e. absurd (omega (arith, e))) (heads (sym a.0 ∙ b)))
said_once ws (says_table i d) (says_wire j k) a b = absurd (apart (λ e. absurd (omega (arith, e))) (third (sym a.0 ∙ b.1)))
said_once ws (says_table i d) (says_table j f) a b =
    let e = sym a.0 ∙ b.0 in ap (λ x. says_table x d) (second e) ∙ ap (λ x. says_table j x) (fourth e)

pub one_saying : (line : List ℕ) (s t : Saying) → Says line s → Says line t → s ≡ t
one_saying line s t a b =
    let words : b.words ≡ a.words = one_words line b.words a.words b.divided a.divided in
    said_once a.words s t a.say (subst (λ ws. WordsSay ws t) words b.say)

module _ (g : Graph) (law : IsExpansion g) (plain : HasPlainNames g.root) (one : HasOneOwner g) where
  -- the words on a pin name one edge
  one_named_edge : (pin mode source : List ℕ) (i j m n e f : ℕ) → NamesEdge g pin mode source i m e → NamesEdge g pin mode source j n f → (i ≡ j) × (m ≡ n) × (e ≡ f)
  one_named_edge pin mode source i j m n e f a b =
      let pins : i ≡ j = one_pin_named g law plain pin i j a.is_pin b.is_pin in
      let sources : a.edge.src.0 ≡ b.edge.src.0 = one_pin_named g law plain source a.edge.src.0 b.edge.src.0 a.is_source b.is_source in
      let ends : a.edge.dst.0 ≡ b.edge.dst.0 = a.named.ends ∙ pins ∙ sym b.named.ends in
      let owners : a.edge.owner.0 ≡ b.edge.owner.0 =
      ap (λ k. k.0) (one.one a.edge b.edge (has_at g.edges e a.edge a.named.is) (has_at g.edges f b.edge b.named.is) (ap pin_ix ends)) in
      let modes : a.edge.mode ≡ b.edge.mode =
      one_mode g plain b.edge.owner.0 mode a.edge.mode b.edge.mode (subst (λ o. NamesMode g o mode a.edge.mode) owners a.named.is_mode) b.named.is_mode in
      let numbers : e ≡ f =
      law.has_edges.once e f a.edge b.edge a.named.is b.named.is (ap pb_ix owners) modes (ap pin_ix sources) (ap pin_ix ends) in
      (pins, a.is_mode ∙ modes ∙ sym b.is_mode, numbers)

  -- what is said names one setting
  pub one_setting : (s : Saying) (x y : Setting) → Names g s x → Names g s y → x ≡ y
  one_setting (says_mode i t) (Mode p m) (Mode q n) a b =
      let pbs : p.0 ≡ q.0 = one_instance_named g law plain i p.0 q.0 a.0 b.0 in
      let modes : m ≡ n = one_mode g plain q.0 t m n (subst (λ k. NamesMode g k t m) pbs a.2) b.2 in
      ap (λ k. Mode (pb_ix k) m) pbs ∙ ap (λ k. Mode q k) modes
  one_setting (says_mode i t) (Mode p m) y a b = absurd b
  one_setting (says_mode i t) x y a b = absurd a
  one_setting (says_pin p t s) (Pick i m e) (Pick j n f) a b =
      let same = one_named_edge p t s i.0 j.0 m n e.0 f.0 a b in
      ap (λ k. Pick (pin_ix k) m e) same.0 ∙ ap (λ k. Pick j k e) same.1 ∙ ap (λ k. Pick j n (edge_ix k)) same.2
  one_setting (says_pin p t s) (Pick i m e) y a b = absurd b
  one_setting (says_pin p t s) x y a b = absurd a
  one_setting (says_used i) (Used p) (Used q) a b = ap (λ k. Used (pb_ix k)) (one_instance_named g law plain i p.0 q.0 a.0 b.0)
  one_setting (says_used i) (Used p) y a b = absurd b
  one_setting (says_used i) x y a b = absurd a
  one_setting (says_wire i k) (Lut p c) (Lut q d) a b =
      ap (λ n. Lut (pb_ix n) c) (one_instance_named g law plain i p.0 q.0 a.0 b.0) ∙ ap (λ l. Lut q l) (a.1 ∙ sym b.1)
  one_setting (says_wire i k) (Lut p c) y a b = absurd b
  one_setting (says_wire i k) x y a b = absurd a
  one_setting (says_table i t) (Lut p c) (Lut q d) a b =
      ap (λ n. Lut (pb_ix n) c) (one_instance_named g law plain i p.0 q.0 a.0 b.0) ∙ ap (λ l. Lut q l) (a.1 ∙ sym b.1)
  one_setting (says_table i t) (Lut p c) y a b = absurd b
  one_setting (says_table i t) x y a b = absurd a

drops_once : (whole a b : List ℕ) → DropsReturn whole a → DropsReturn whole b → a ≡ b
drops_once whole a b (inl x) (inl y) = snoc_front a b 13 13 (sym x ∙ y)
drops_once whole a b (inl x) (inr y) = absurd (y.1 a x)
drops_once whole a b (inr x) (inl y) = absurd (x.1 b y)
drops_once whole a b (inr x) (inr y) = sym x.0 ∙ y.0

-- the bytes have one first line
pub one_line : (bytes a r b s : List ℕ) → IsFirstLine bytes a r → IsFirstLine bytes b s → (a ≡ b) × (r ≡ s)
one_line bytes a r b s (inl x) (inl y) =
    let cut = one_cut 10 x.whole y.whole r s x.lacks y.lacks (sym x.spelled ∙ y.spelled) in
    (drops_once y.whole a b (subst (λ w. DropsReturn w a) cut.0 x.drops) y.drops, cut.1)
one_line bytes a r b s (inl x) (inr y) = absurd (uncut 10 b x.whole r y.lacks (sym y.spelled ∙ x.spelled))
one_line bytes a r b s (inr x) (inl y) = absurd (uncut 10 a y.whole s x.lacks (sym x.spelled ∙ y.spelled))
one_line bytes a r b s (inr x) (inr y) = (sym x.spelled ∙ y.spelled, x.nothing ∙ sym y.nothing)

pub no_line : (bytes line behind : List ℕ) → [] ≡ bytes → IsFirstLine bytes line behind → ⊥
no_line bytes line behind none (inl x) = nothing x.whole behind (none ∙ x.spelled)
  where
    nothing : (w r : List ℕ) → [] ≡ w ++ 10 ∷ r → ⊥
    nothing [] r e = cc
    nothing (a ∷ w) r e = cc
no_line bytes line behind none (inr x) = x.some (sym none)

-- an empty line says nothing
silent : (line : List ℕ) (s : Saying) → line ≡ [] → Says line s → ⊥
silent line s none says = by says.words says.divided
  where
    nothing : (w r : List ℕ) → [] ≡ w ++ 32 ∷ r → ⊥
    nothing [] r e = cc
    nothing (a ∷ w) r e = cc

    by : (ws : List (List ℕ)) → AreWords line ws → ⊥
    by [] are = are
    by (w ∷ []) are = are.1.some (sym are.0 ∙ none)
    by (w ∷ n ∷ m) are = nothing w are.0 (sym none ∙ are.1.spelled)

module _ (g : Graph) (law : IsExpansion g) (plain : HasPlainNames g.root) (one : HasOneOwner g) where
  set_once : (line : List ℕ) (before c d : Choices) (a : SetsSite g line before c) (b : SetsSite g line before d) → c ≡ d
  set_once line before c d a b =
      let sayings : a.saying ≡ b.saying = one_saying line a.saying b.saying a.says b.says in
      let settings : a.setting ≡ b.setting =
      one_setting g law plain one b.saying a.setting b.setting (subst (λ s. Names g s a.setting) sayings a.names) b.names in
      a.sets ∙ ap (with_setting before) settings ∙ sym b.sets

  pub read_once : (line : List ℕ) (before c d : Choices) → ReadsLine g line before c → ReadsLine g line before d → c ≡ d
  read_once line before c d (inl a) (inl b) = a.1 ∙ sym b.1
  read_once line before c d (inl a) (inr b) = absurd (silent line b.saying a.0 b.says)
  read_once line before c d (inr a) (inl b) = absurd (silent line a.saying b.0 a.says)
  read_once line before c d (inr a) (inr b) = set_once line before c d a b

  lines_once : (bytes : List ℕ) (ls ms : List (List ℕ)) (before c d : Choices) → AreFirstLines bytes ls [] → AreFirstLines bytes ms [] →
      ReadsLines g ls before c → ReadsLines g ms before d → c ≡ d
  lines_once bytes [] [] before c d a b x y = x ∙ sym y
  lines_once bytes [] (m ∷ ms) before c d a b x y = absurd (no_line bytes m b.0 a b.1)
  lines_once bytes (l ∷ ls) [] before c d a b x y = absurd (no_line bytes l a.0 b a.1)
  lines_once bytes (l ∷ ls) (m ∷ ms) before c d a b x y =
      let same = one_line bytes l a.0 m b.0 a.1 b.1 in
      let next : x.0 ≡ y.0 = read_once m before x.0 y.0 (subst (λ t. ReadsLine g t before x.0) same.0 x.1) y.1 in
      lines_once b.0 ls ms y.0 c d (subst (λ t. AreFirstLines t ls []) same.1 a.2) b.2 (subst (λ n. ReadsLines g ls n c) next x.2) y.2

  -- a text spells one programming
  pub spelled_once : (bytes : List ℕ) (c d : Choices) → SpellsProg g bytes c → SpellsProg g bytes d → c ≡ d
  spelled_once bytes c d a b = lines_once bytes a.lines b.lines no_choices c d a.are_lines b.are_lines a.reads b.reads

  pub found : (text : List ℕ) (P : ℕ → Type 0) (pb : ℕ) → NamesInstance g text pb → P pb → LacksInstance g text P → ⊥
  found text P pb names holds (inl none) = none pb names
  found text P pb names holds (inr other) = other.2 (subst P (one_instance_named g law plain text pb other.0 names other.1) holds)

  pub has_site : (s : Saying) (x : Setting) → Names g s x → LacksSite g s → ⊥
  has_site (says_mode i t) (Mode p m) names lacks = found i (HasModes g) p.0 names.0 names.1 lacks
  has_site (says_mode i t) x names lacks = absurd names
  has_site (says_pin p t s) (Pick j m e) names (inl none) = none j.0 names.is_pin
  has_site (says_pin p t s) (Pick j m e) names (inr other) =
      let pins : j.0 ≡ other.0 = one_pin_named g law plain p j.0 other.0 names.is_pin other.1 in
      other.2 e.0 (record {
        edge = names.edge;
        named = record { is = names.named.is; ends = names.named.ends ∙ pins; starts = refl; is_mode = names.named.is_mode };
        comes = tt;
      })
  has_site (says_pin p t s) x names lacks = absurd names
  has_site (says_used i) (Used p) names lacks = found i (IsLeaf g) p.0 names.0 names.1 lacks
  has_site (says_used i) x names lacks = absurd names
  has_site (says_wire i k) (Lut p c) names lacks = found i (IsLut g) p.0 names.0 names.2.inputs.lut lacks
  has_site (says_wire i k) x names lacks = absurd names
  has_site (says_table i t) (Lut p c) names lacks = found i (IsLut g) p.0 names.0 names.2.inputs.lut lacks
  has_site (says_table i t) x names lacks = absurd names

  pub has_choice : (s : Saying) (x : Setting) → Names g s x → LacksChoice g s → ⊥
  has_choice (says_mode i t) (Mode p m) names lacks =
      lacks.3 m (subst (λ n. NamesMode g n t m) (one_instance_named g law plain i p.0 lacks.0 names.0 lacks.1) names.2)
  has_choice (says_mode i t) x names lacks = absurd names
  has_choice (says_pin p t s) (Pick j m e) names lacks = by lacks.3
    where
      pins : j.0 ≡ lacks.0
      pins = one_pin_named g law plain p j.0 lacks.0 names.is_pin lacks.1

      by : LacksSource g lacks.0 t s → ⊥
      by (inl none) = none names.edge.src.0 names.is_source
      by (inr other) =
          other.2 e.0 (record {
            edge = names.edge;
            named = record {
              is = names.named.is;
              ends = names.named.ends ∙ pins;
              starts = one_pin_named g law plain s names.edge.src.0 other.0 names.is_source other.1;
              is_mode = names.named.is_mode;
            };
          })
  has_choice (says_pin p t s) x names lacks = absurd names
  has_choice (says_used i) x names lacks = lacks
  has_choice (says_wire i k) (Lut p c) names lacks =
      lacks.3 (subst (λ l. IsLutChoice g lacks.0 l) names.1 (subst (λ n. IsLutChoice g n c) (one_instance_named g law plain i p.0 lacks.0 names.0 lacks.1) names.2))
  has_choice (says_wire i k) x names lacks = absurd names
  has_choice (says_table i t) (Lut p c) names lacks =
      lacks.3 (subst (λ l. IsLutChoice g lacks.0 l) names.1 (subst (λ n. IsLutChoice g n c) (one_instance_named g law plain i p.0 lacks.0 names.0 lacks.1) names.2))
  has_choice (says_table i t) x names lacks = absurd names

  -- a line that sets a site is refused by want of memory alone
  pub set_not_refused : (line : List ℕ) (before after : Choices) (n : ℕ) (e : ProgError) → SetsSite g line before after → RefusesLine g line before n e → e ≡ OutOfMemory
  set_not_refused line before after n (BadLine at) a r = absurd (r.1 a.saying a.says)
  set_not_refused line before after n (NoSuchSite at) a r =
      let same : a.saying ≡ r.1.0 = one_saying line a.saying r.1.0 a.says r.1.1 in
      absurd (has_site r.1.0 a.setting (subst (λ s. Names g s a.setting) same a.names) r.1.2)
  set_not_refused line before after n (NoSuchChoice at) a r =
      let same : a.saying ≡ r.1.0 = one_saying line a.saying r.1.0 a.says r.1.1 in
      absurd (has_choice r.1.0 a.setting (subst (λ s. Names g s a.setting) same a.names) r.1.2)
  set_not_refused line before after n (TwiceSet at) a r =
      let b = r.1 in
      let same : a.saying ≡ b.saying = one_saying line a.saying b.saying a.says b.says in
      let settings : b.setting ≡ a.setting =
      sym (one_setting g law plain one b.saying a.setting b.setting (subst (λ s. Names g s a.setting) same a.names) b.names) in
      absurd (a.unset (subst (λ x. HasChoice before (site_of x)) settings b.set))
  set_not_refused line before after n OutOfMemory a r = refl

  not_stopped : (bytes : List ℕ) (front ls : List (List ℕ)) (rest line behind : List ℕ) (before now c : Choices) (n : ℕ) (e : ProgError) →
      AreFirstLines bytes front rest → AreFirstLines bytes ls [] → ReadsLines g front before now → ReadsLines g ls before c →
      IsFirstLine rest line behind → line ≢ [] → RefusesLine g line now n e → e ≡ OutOfMemory
  not_stopped bytes [] [] rest line behind before now c n e a b x y is some r = absurd (no_line rest line behind (b ∙ sym a) is)
  not_stopped bytes [] (l ∷ ls) rest line behind before now c n e a b x y is some r =
      let same = one_line bytes l b.0 line behind b.1 (subst (λ t. IsFirstLine t line behind) a is) in
      by y.0 (subst (λ t. ReadsLine g t before y.0) same.0 y.1)
    where
      by : (next : Choices) → ReadsLine g line before next → e ≡ OutOfMemory
      by next (inl empty) = absurd (some empty.0)
      by next (inr sets) = set_not_refused line before next n e sets (subst (λ k. RefusesLine g line k n e) x r)
  not_stopped bytes (f ∷ front) [] rest line behind before now c n e a b x y is some r = absurd (no_line bytes f a.0 b a.1)
  not_stopped bytes (f ∷ front) (l ∷ ls) rest line behind before now c n e a b x y is some r =
      let same = one_line bytes f a.0 l b.0 a.1 b.1 in
      let next : x.0 ≡ y.0 = read_once l before x.0 y.0 (subst (λ t. ReadsLine g t before x.0) same.0 x.1) y.1 in
      not_stopped b.0 front ls rest line behind y.0 now c n e (subst (λ t. AreFirstLines t front rest) same.1 a.2) b.2
      (subst (λ k. ReadsLines g front k now) next x.2) y.2 is some r

  stopped : (first : ℕ) (bytes : List ℕ) (c : Choices) (e : ProgError) → SpellsProg g bytes c → StopsAt g first bytes e → e ≡ OutOfMemory
  stopped first bytes c e spells stops =
      not_stopped bytes stops.front spells.lines stops.rest stops.line stops.behind no_choices stops.before c (line_number first stops.front) e
      stops.are_first spells.are_lines stops.reads spells.reads stops.is_line stops.some stops.refuses

  -- a text that spells a programming is refused by want of memory alone
  pub never_refused : (first : ℕ) (bytes : List ℕ) (c : Choices) (e : ProgError) → SpellsProg g bytes c → RefusesFrom g first bytes e → e ≡ OutOfMemory
  never_refused first bytes c (BadLine at) spells r = stopped first bytes c (BadLine at) spells r
  never_refused first bytes c (NoSuchSite at) spells r = stopped first bytes c (NoSuchSite at) spells r
  never_refused first bytes c (NoSuchChoice at) spells r = stopped first bytes c (NoSuchChoice at) spells r
  never_refused first bytes c (TwiceSet at) spells r = stopped first bytes c (TwiceSet at) spells r
  never_refused first bytes c OutOfMemory spells r = refl
