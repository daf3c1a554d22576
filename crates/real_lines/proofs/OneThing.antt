-- A line spells one thing, or lacks one thing.
use Rattle.std.proofs.Common.{◌≡◌, ◌⊎◌, ℕ, false, true, List, [], ◌∷◌, codes, refl, sym, ap, subst, ◌∙◌, inl, inr, arith}
use Rattle.list_laws.specs.Orders.{StandOnce}
use Rattle.pb_expand.specs.declared.number.PbIx.{PbIx}
use Rattle.pb_expand.specs.Graph.{Graph, pb_ix, pin_ix}
use Rattle.prog_map.specs.Leaves.{IsLeaf}
use Rattle.prog_map.specs.declared.setting.Setting.{Setting}
use Rattle.prog_text.specs.declared.error.ProgError.{ProgError}
use Rattle.prog_text.specs.declared.error.ProgError.TheVariants.{BadLine, NoSuchSite, NoSuchChoice, TwiceSet, OutOfMemory}
use Rattle.prog_text.specs.LineLaws.{HasOneWords, NamesOneSetting, LacksNothingNamed, LacksOneThing}
use Rattle.prog_text.specs.Laws.{AreOneRefusal}
use Rattle.prog_text.specs.Names.{NamesInstance, NamesPin}
use Rattle.prog_text.specs.Sayings.{Saying, says_mode, says_pin, says_used, says_wire, says_table, WordsSay, Says}
use Rattle.prog_text.specs.Settings.{LacksInstance, LacksSite, LacksChoice}
use Rattle.name_laws.specs.Laws.{TellsOneInstance, TellsOnePin}
use Rattle.task_types.specs.declared.task.Task.{Task}
use Rattle.task_types.specs.declared.task.Entry.{Entry}
use Rattle.task_types.specs.Ends.{IsRootInput}
use Rattle.task_types.specs.Realises.{can_hold}
use Rattle.tree_lines.specs.Words.{NamesAtom}
use Rattle.real_lines.specs.declared.line.RealLine.{RealLine}
use Rattle.real_lines.specs.declared.line.RealLine.TheVariants.{Home, Enter, Choice}
use Rattle.real_lines.specs.Lines.{SaysTwo, NamesHome, NamesEnter, SpellsLine, LacksHome, LacksLeaf, LacksPin, LacksNet, LacksLine}

-- the words of two lines that are one

second : {k a b j c d : List ℕ} → k ∷ a ∷ b ∷ [] ≡ j ∷ c ∷ d ∷ [] → a ≡ c
second e = cc

third : {k a b j c d : List ℕ} → k ∷ a ∷ b ∷ [] ≡ j ∷ c ∷ d ∷ [] → b ≡ d
third e = cc

first : {x y : List ℕ} {xs ys : List (List ℕ)} → x ∷ xs ≡ y ∷ ys → x ≡ y
first e = cc

apart : {a b : ℕ} {xs ys : List ℕ} → (a ≡ b → ⊥) → a ∷ xs ≡ b ∷ ys → ⊥
apart {a} {b} differ e = differ (heads e)
  where
    heads : {c d : ℕ} {ys zs : List ℕ} → c ∷ ys ≡ d ∷ zs → c ≡ d
    heads e = cc

-- a programming's line doesn't begin with `home` or `enter`

no_home : (a b : List ℕ) (ws : List (List ℕ)) → codes "home" ∷ a ∷ b ∷ [] ≡ ws → (s : Saying) → WordsSay ws s → ⊥
no_home a b ws e (says_mode i m) say = apart (λ f. absurd (omega (arith, f))) (first (e ∙ say))
no_home a b ws e (says_pin p m q) say = cc
no_home a b ws e (says_used i) say = cc
no_home a b ws e (says_wire i k) say = let f = say.1 in cc
no_home a b ws e (says_table i d) say = let f = say.0 in cc

no_enter : (a b : List ℕ) (ws : List (List ℕ)) → codes "enter" ∷ a ∷ b ∷ [] ≡ ws → (s : Saying) → WordsSay ws s → ⊥
no_enter a b ws e (says_mode i m) say = cc
no_enter a b ws e (says_pin p m q) say = cc
no_enter a b ws e (says_used i) say = cc
no_enter a b ws e (says_wire i k) say = let f = say.1 in cc
no_enter a b ws e (says_table i d) say = let f = say.0 in cc

-- the line says where an atom is at home, which net comes in, or something of a programming
abbrev ThreeWays : (List ℕ → List ℕ → Type 0) → (List ℕ → List ℕ → Type 0) → (Saying → Type 0) → List ℕ → Type 0
ThreeWays H E C line =
    ((a b : List ℕ) × SaysTwo line (codes "home") a b × H a b) ⊎ (((a b : List ℕ) × SaysTwo line (codes "enter") a b × E a b) ⊎ ((s : Saying) × Says line s × C s))

module _ (words : HasOneWords) where
  same_two : (line k a b c d : List ℕ) → SaysTwo line k a b → SaysTwo line k c d → (a ≡ c) × (b ≡ d)
  same_two line k a b c d x y =
      let e = words line (k ∷ a ∷ b ∷ []) (k ∷ c ∷ d ∷ []) x.divided y.divided in (second e, third e)

  not_both : (line a b c d : List ℕ) → SaysTwo line (codes "home") a b → SaysTwo line (codes "enter") c d → ⊥
  not_both line a b c d x y = let e = words line (codes "home" ∷ a ∷ b ∷ []) (codes "enter" ∷ c ∷ d ∷ []) x.divided y.divided in cc

  home_no_choice : (line a b : List ℕ) (s : Saying) → SaysTwo line (codes "home") a b → Says line s → ⊥
  home_no_choice line a b s x y = no_home a b y.words (words line (codes "home" ∷ a ∷ b ∷ []) y.words x.divided y.divided) s y.say

  enter_no_choice : (line a b : List ℕ) (s : Saying) → SaysTwo line (codes "enter") a b → Says line s → ⊥
  enter_no_choice line a b s x y = no_enter a b y.words (words line (codes "enter" ∷ a ∷ b ∷ []) y.words x.divided y.divided) s y.say

  -- what a line says in one of three ways it says in no other
  never_two : (H G E F : List ℕ → List ℕ → Type 0) (C D : Saying → Type 0) (line : List ℕ) → ((a b : List ℕ) → H a b → G a b → ⊥) → ((a b : List ℕ) → E a b → F a b → ⊥) →
      ((s t : Saying) → Says line s → C s → Says line t → D t → ⊥) → ThreeWays H E C line → ThreeWays G F D line → ⊥
  never_two H G E F C D line homes enters choices (inl x) (inl y) =
      let same = same_two line (codes "home") x.0 x.1 y.0 y.1 x.2 y.2 in
      homes y.0 y.1 (subst (λ b. H y.0 b) same.1 (subst (λ a. H a x.1) same.0 x.3)) y.3
  never_two H G E F C D line homes enters choices (inl x) (inr (inl y)) = not_both line x.0 x.1 y.0 y.1 x.2 y.2
  never_two H G E F C D line homes enters choices (inl x) (inr (inr y)) = home_no_choice line x.0 x.1 y.0 x.2 y.1
  never_two H G E F C D line homes enters choices (inr (inl x)) (inl y) = not_both line y.0 y.1 x.0 x.1 y.2 x.2
  never_two H G E F C D line homes enters choices (inr (inl x)) (inr (inl y)) =
      let same = same_two line (codes "enter") x.0 x.1 y.0 y.1 x.2 y.2 in
      enters y.0 y.1 (subst (λ b. E y.0 b) same.1 (subst (λ a. E a x.1) same.0 x.3)) y.3
  never_two H G E F C D line homes enters choices (inr (inl x)) (inr (inr y)) = enter_no_choice line x.0 x.1 y.0 x.2 y.1
  never_two H G E F C D line homes enters choices (inr (inr x)) (inl y) = home_no_choice line y.0 y.1 x.0 y.2 x.1
  never_two H G E F C D line homes enters choices (inr (inr x)) (inr (inl y)) = enter_no_choice line y.0 y.1 x.0 y.2 x.1
  never_two H G E F C D line homes enters choices (inr (inr x)) (inr (inr y)) = choices x.0 y.0 x.1 x.2 y.1 y.2

module _ (g : Graph) (instances : TellsOneInstance g) (pins : TellsOnePin g) (t : Task) (atoms nets : List (List ℕ)) (atoms_once : StandOnce atoms) (nets_once : StandOnce nets) where
  same_home : (a i : List ℕ) (p q l m : ℕ) → NamesHome g t atoms a i p l → NamesHome g t atoms a i q m → (p ≡ q) × (l ≡ m)
  same_home a i p q l m x y = (atoms_once p q a x.is_atom.is y.is_atom.is, instances i l m x.is_instance y.is_instance)

  same_enter : (a b : List ℕ) (p q m n : ℕ) → NamesEnter g nets a b p m → NamesEnter g nets a b q n → (p ≡ q) × (m ≡ n)
  same_enter a b p q m n x y = (pins a p q x.is_pin y.is_pin, nets_once m n b x.is_net.is y.is_net.is)

  -- an instance that is there and such a one doesn't lack
  found : (text : List ℕ) (pb : ℕ) → NamesInstance g text pb → IsLeaf g pb → LacksInstance g text (IsLeaf g) → ⊥
  found text pb names leaf (inl none) = none pb names
  found text pb names leaf (inr other) = other.2 (subst (IsLeaf g) (instances text pb other.0 names other.1) leaf)

  home_there : (a i : List ℕ) (p l : ℕ) → NamesHome g t atoms a i p l → LacksHome g atoms a i → ⊥
  home_there a i p l x (inl none) = none p x.is_atom
  home_there a i p l x (inr lacks) = found i l x.is_instance x.is_leaf lacks

  leaf_listed : (a i : List ℕ) (p l : ℕ) → NamesHome g t atoms a i p l → LacksLeaf g t atoms a i → ⊥
  leaf_listed a i p l x y =
      let place : y.place ≡ p = atoms_once y.place p a y.is_atom.is x.is_atom.is in
      let leaf : y.leaf ≡ l = instances i y.leaf l y.is_instance x.is_instance in
      let fails : can_hold t p l ≡ false = subst (λ k. can_hold t p k ≡ false) leaf (subst (λ k. can_hold t k y.leaf ≡ false) place y.fails) in
      let holds = x.holds in
      cc

  pin_there : (a b : List ℕ) (p n : ℕ) → NamesEnter g nets a b p n → LacksPin g a → ⊥
  pin_there a b p n x lacks = lacks p x.is_pin x.is_input

  net_there : (a b : List ℕ) (p n : ℕ) → NamesEnter g nets a b p n → LacksNet g nets a b → ⊥
  net_there a b p n x y = y.lacks n x.is_net

  leaf_there : (a i : List ℕ) → LacksHome g atoms a i → LacksLeaf g t atoms a i → ⊥
  leaf_there a i (inl none) y = none y.place y.is_atom
  leaf_there a i (inr lacks) y = found i y.leaf y.is_instance y.is_leaf lacks

  input_there : (a b : List ℕ) → LacksPin g a → LacksNet g nets a b → ⊥
  input_there a b lacks y = lacks y.pin y.is_pin y.is_input

  module _ (words : HasOneWords) (one : NamesOneSetting g) (named : LacksNothingNamed g) (lacks : LacksOneThing g) where
    homes_same : (p q : ℕ) (l m : PbIx) → p ≡ q → l.0 ≡ m.0 → Home p l ≡ Home q m
    homes_same p q l m e f = ap (λ (k : ℕ). Home k l) e ∙ ap (λ (k : ℕ). Home q (pb_ix k)) f

    enters_same : (x y : Entry) → x.pin.0 ≡ y.pin.0 → x.net ≡ y.net → Enter x ≡ Enter y
    enters_same x y e f = ap (λ (k : ℕ). Enter (record { pin = pin_ix k; net = x.net })) e ∙ ap (λ (k : ℕ). Enter (record { pin = y.pin; net = k })) f

    pub one_thing : (line : List ℕ) (x y : RealLine) → SpellsLine g t atoms nets line x → SpellsLine g t atoms nets line y → x ≡ y
    one_thing line (Home p l) (Home q m) a b =
        let same = same_two words line (codes "home") a.0 a.1 b.0 b.1 a.2 b.2 in
        let both = same_home b.0 b.1 p q l.0 m.0 (subst (λ i. NamesHome g t atoms b.0 i p l.0) same.1 (subst (λ n. NamesHome g t atoms n a.1 p l.0) same.0 a.3)) b.3 in
        homes_same p q l m both.0 both.1
    one_thing line (Enter x) (Enter y) a b =
        let same = same_two words line (codes "enter") a.0 a.1 b.0 b.1 a.2 b.2 in
        let both = same_enter b.0 b.1 x.pin.0 y.pin.0 x.net y.net (subst (λ i. NamesEnter g nets b.0 i x.pin.0 x.net) same.1 (subst (λ n. NamesEnter g nets n a.1 x.pin.0 x.net) same.0 a.3)) b.3 in
        enters_same x y both.0 both.1
    one_thing line (Choice x) (Choice y) a b = ap (λ (s : Setting). Choice s) (one line x y a b)
    one_thing line (Home p l) (Enter y) a b = absurd (not_both words line a.0 a.1 b.0 b.1 a.2 b.2)
    one_thing line (Home p l) (Choice y) a b = absurd (home_no_choice words line a.0 a.1 b.saying a.2 b.said)
    one_thing line (Enter x) (Home q m) a b = absurd (not_both words line b.0 b.1 a.0 a.1 b.2 a.2)
    one_thing line (Enter x) (Choice y) a b = absurd (enter_no_choice words line a.0 a.1 b.saying a.2 b.said)
    one_thing line (Choice x) (Home q m) a b = absurd (home_no_choice words line b.0 b.1 a.saying b.2 a.said)
    one_thing line (Choice x) (Enter y) a b = absurd (enter_no_choice words line b.0 b.1 a.saying b.2 a.said)

    site_or_choice : (line : List ℕ) (n at by : ℕ) (s u : Saying) → Says line s → LacksSite g s → Says line u → LacksChoice g u → ⊥
    site_or_choice line n at by s u is_s l is_u m = by_cases (lacks line n (NoSuchSite n) (NoSuchChoice n) (refl, (s, is_s, l)) (refl, (u, is_u, m)))
      where
        by_cases : AreOneRefusal (NoSuchSite n) (NoSuchChoice n) → ⊥
        by_cases (inl e) = cc
        by_cases (inr (inl e)) = cc
        by_cases (inr (inr e)) = cc

    pub spelled_lacks : (line : List ℕ) (x : RealLine) (n : ℕ) (e : ProgError) → SpellsLine g t atoms nets line x → LacksLine g t atoms nets line n e → e ≡ OutOfMemory
    spelled_lacks line x n OutOfMemory a l = refl
    spelled_lacks line x n (TwiceSet at) a l = absurd l
    spelled_lacks line (Home p m) n (BadLine at) a l = absurd (l.1.no_home a.0 a.1 a.2)
    spelled_lacks line (Home p m) n (NoSuchSite at) a l =
        absurd (never_two words (λ b i. NamesHome g t atoms b i p m.0) (LacksHome g atoms) (λ b c. ⊥) (λ b c. LacksPin g b) (λ s. ⊥) (LacksSite g) line
        (λ b i. home_there b i p m.0) (λ b c none _. none) (λ s u _ none _ _. none) (inl a) l.1)
    spelled_lacks line (Home p m) n (NoSuchChoice at) a l =
        absurd (never_two words (λ b i. NamesHome g t atoms b i p m.0) (LacksLeaf g t atoms) (λ b c. ⊥) (LacksNet g nets) (λ s. ⊥) (LacksChoice g) line
        (λ b i. leaf_listed b i p m.0) (λ b c none _. none) (λ s u _ none _ _. none) (inl a) l.1)
    spelled_lacks line (Enter x) n (BadLine at) a l = absurd (l.1.no_enter a.0 a.1 a.2)
    spelled_lacks line (Enter x) n (NoSuchSite at) a l =
        absurd (never_two words (λ b i. ⊥) (LacksHome g atoms) (λ b c. NamesEnter g nets b c x.pin.0 x.net) (λ b c. LacksPin g b) (λ s. ⊥) (LacksSite g) line
        (λ b i none _. none) (λ b c. pin_there b c x.pin.0 x.net) (λ s u _ none _ _. none) (inr (inl a)) l.1)
    spelled_lacks line (Enter x) n (NoSuchChoice at) a l =
        absurd (never_two words (λ b i. ⊥) (LacksLeaf g t atoms) (λ b c. NamesEnter g nets b c x.pin.0 x.net) (LacksNet g nets) (λ s. ⊥) (LacksChoice g) line
        (λ b i none _. none) (λ b c. net_there b c x.pin.0 x.net) (λ s u _ none _ _. none) (inr (inl a)) l.1)
    spelled_lacks line (Choice x) n (BadLine at) a l = absurd (l.1.no_choice a.saying a.said)
    spelled_lacks line (Choice x) n (NoSuchSite at) a l = by l.1
      where
        by : ThreeWays (LacksHome g atoms) (λ b c. LacksPin g b) (LacksSite g) line → NoSuchSite at ≡ OutOfMemory
        by (inl y) = absurd (home_no_choice words line y.0 y.1 a.saying y.2 a.said)
        by (inr (inl y)) = absurd (enter_no_choice words line y.0 y.1 a.saying y.2 a.said)
        by (inr (inr y)) = named line x n (NoSuchSite at) a (l.0, y)
    spelled_lacks line (Choice x) n (NoSuchChoice at) a l = by l.1
      where
        by : ThreeWays (LacksLeaf g t atoms) (LacksNet g nets) (LacksChoice g) line → NoSuchChoice at ≡ OutOfMemory
        by (inl y) = absurd (home_no_choice words line y.0 y.1 a.saying y.2 a.said)
        by (inr (inl y)) = absurd (enter_no_choice words line y.0 y.1 a.saying y.2 a.said)
        by (inr (inr y)) = named line x n (NoSuchChoice at) a (l.0, y)

    never_site_choice : (line : List ℕ) (n : ℕ) → ThreeWays (LacksHome g atoms) (λ b c. LacksPin g b) (LacksSite g) line →
        ThreeWays (LacksLeaf g t atoms) (LacksNet g nets) (LacksChoice g) line → ⊥
    never_site_choice line n x y =
        never_two words (LacksHome g atoms) (LacksLeaf g t atoms) (λ b c. LacksPin g b) (LacksNet g nets) (LacksSite g) (LacksChoice g) line
        leaf_there input_there (λ s u is_s l is_u m. site_or_choice line n n n s u is_s l is_u m) x y

    says_something : (H E : List ℕ → List ℕ → Type 0) (C : Saying → Type 0) (line : List ℕ) → ((a b : List ℕ) → SaysTwo line (codes "home") a b → ⊥) →
        ((a b : List ℕ) → SaysTwo line (codes "enter") a b → ⊥) → ((s : Saying) → Says line s → ⊥) → ThreeWays H E C line → ⊥
    says_something H E C line homes enters choices (inl x) = homes x.0 x.1 x.2
    says_something H E C line homes enters choices (inr (inl x)) = enters x.0 x.1 x.2
    says_something H E C line homes enters choices (inr (inr x)) = choices x.0 x.1

    pub one_lack : (line : List ℕ) (n : ℕ) (e f : ProgError) → LacksLine g t atoms nets line n e → LacksLine g t atoms nets line n f → AreOneRefusal e f
    one_lack line n OutOfMemory f a b = inr (inl refl)
    one_lack line n (TwiceSet i) f a b = absurd a
    one_lack line n (BadLine i) OutOfMemory a b = inr (inr refl)
    one_lack line n (NoSuchSite i) OutOfMemory a b = inr (inr refl)
    one_lack line n (NoSuchChoice i) OutOfMemory a b = inr (inr refl)
    one_lack line n (BadLine i) (TwiceSet j) a b = absurd b
    one_lack line n (NoSuchSite i) (TwiceSet j) a b = absurd b
    one_lack line n (NoSuchChoice i) (TwiceSet j) a b = absurd b
    one_lack line n (BadLine i) (BadLine j) a b = inl (ap BadLine (a.0 ∙ sym b.0))
    one_lack line n (NoSuchSite i) (NoSuchSite j) a b = inl (ap NoSuchSite (a.0 ∙ sym b.0))
    one_lack line n (NoSuchChoice i) (NoSuchChoice j) a b = inl (ap NoSuchChoice (a.0 ∙ sym b.0))
    one_lack line n (BadLine i) (NoSuchSite j) a b =
        absurd (says_something (LacksHome g atoms) (λ c d. LacksPin g c) (LacksSite g) line a.1.no_home a.1.no_enter a.1.no_choice b.1)
    one_lack line n (BadLine i) (NoSuchChoice j) a b =
        absurd (says_something (LacksLeaf g t atoms) (LacksNet g nets) (LacksChoice g) line a.1.no_home a.1.no_enter a.1.no_choice b.1)
    one_lack line n (NoSuchSite i) (BadLine j) a b =
        absurd (says_something (LacksHome g atoms) (λ c d. LacksPin g c) (LacksSite g) line b.1.no_home b.1.no_enter b.1.no_choice a.1)
    one_lack line n (NoSuchChoice i) (BadLine j) a b =
        absurd (says_something (LacksLeaf g t atoms) (LacksNet g nets) (LacksChoice g) line b.1.no_home b.1.no_enter b.1.no_choice a.1)
    one_lack line n (NoSuchSite i) (NoSuchChoice j) a b = absurd (never_site_choice line n a.1 b.1)
    one_lack line n (NoSuchChoice i) (NoSuchSite j) a b = absurd (never_site_choice line n b.1 a.1)
