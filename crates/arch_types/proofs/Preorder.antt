-- Where the addresses of a preorder stand: each goes on from the instance above, and none stands twice.
use Rattle.std.specs.Prelude.{◌≡◌, ◌≤◌, ◌+◌, ℕ, zero, suc, List, [], ◌∷◌, ◌++◌, length}
use Rattle.std.proofs.Common.{inl, inr, refl, sym, ap, ◌∙◌, subst, arith, append_assoc, length-append}
use Rattle.std.proofs.lemmas.List.{append_cancel_left}
use Rattle.vtr_base.specs.Lists.{Has}
use Rattle.arch_types.specs.declared.block.Kind.{Kind, Modes', Row_of-Mode, end_of-Mode, more_of-Mode}
use Rattle.arch_types.specs.declared.block.Mode.{Mode, Mode', Row_of-PbType, end_of-PbType, more_of-PbType}
use Rattle.arch_types.specs.Address.{Hop, Address, step_to, copies, below, in_modes, in_mode, in_kids}
use Rattle.arch_types.proofs.Once.{has_either, Once, once_append}

-- a goes on from here by a step of which P holds
pub record GoesOn (P : Hop → Type 0) (here a : Address) : Type 0 where
  pub hop : Hop
  pub hops : Address
  pub is : a ≡ here ++ hop ∷ hops
  pub holds : P hop

-- steps by what they say: any step, a step in a mode or a later one, to a child or a later one, to an instance or a later one
abbrev pub IsHop : Hop → Type 0
IsHop hop = Unit {0}

abbrev pub IsFromMode : ℕ → Hop → Type 0
IsFromMode mode hop = mode ≤ hop.mode

abbrev pub IsFromChild : ℕ → ℕ → Hop → Type 0
IsFromChild mode child hop = (hop.mode ≡ mode) × (child ≤ hop.child)

abbrev pub IsFromInstance : ℕ → ℕ → ℕ → Hop → Type 0
IsFromInstance mode child n hop = (hop.mode ≡ mode) × (hop.child ≡ child) × (n ≤ hop.instance)

abbrev pub IsTo : ℕ → ℕ → ℕ → Hop → Type 0
IsTo mode child n hop = (hop.mode ≡ mode) × (hop.child ≡ child) × (hop.instance ≡ n)

pub goes_by : {P Q : Hop → Type 0} {here a : Address} → ((hop : Hop) → P hop → Q hop) → GoesOn P here a → GoesOn Q here a
goes_by weaker goes = record { hop = goes.hop; hops = goes.hops; is = goes.is; holds = weaker goes.hop goes.holds }

pub same_hop : (here : Address) (h g : Hop) (hs gs : Address) → here ++ h ∷ hs ≡ here ++ g ∷ gs → h ≡ g
same_hop here h g hs gs is = let cut : h ∷ hs ≡ g ∷ gs = append_cancel_left here (h ∷ hs) (g ∷ gs) is in cc

pub goes_apart : {P Q : Hop → Type 0} {here a : Address} → ((hop : Hop) → P hop → Q hop → ⊥) → GoesOn P here a → GoesOn Q here a → ⊥
goes_apart {Q = Q} {here = here} apart left right =
    apart left.hop left.holds (subst Q (same_hop here right.hop left.hop right.hops left.hops (sym right.is ∙ left.is)) right.holds)

-- what goes on from one step further goes on by that step
pub goes_through : (mode child n : ℕ) (here a : Address) → GoesOn IsHop (step_to here mode child n) a → GoesOn (IsTo mode child n) here a
goes_through mode child n here a goes = record {
  hop = record { mode = mode; child = child; instance = n };
  hops = goes.hop ∷ goes.hops;
  is = goes.is ∙ append_assoc here (record { mode = mode; child = child; instance = n } ∷ []) (goes.hop ∷ goes.hops);
  holds = (refl, refl, refl);
}

pub goes_to : (mode child n : ℕ) (here : Address) → GoesOn (IsTo mode child n) here (step_to here mode child n)
goes_to mode child n here = record {
  hop = record { mode = mode; child = child; instance = n };
  hops = [];
  is = refl;
  holds = (refl, refl, refl);
}

-- nothing goes on from here to here
pub goes_away : {P : Hop → Type 0} (here : Address) → GoesOn P here here → ⊥
goes_away here goes =
    let longer : length here ≡ length here + length (goes.hop ∷ goes.hops) = ap length goes.is ∙ length-append here (goes.hop ∷ goes.hops) in
    absurd (omega arith)

pub copies_go : (under : Address → List Address) → ((here a : Address) → Has (under here) a → GoesOn IsHop here a) →
    (mode child n k : ℕ) (here a : Address) → Has (copies under mode child n k here) a → GoesOn (IsFromInstance mode child n) here a
copies_go under goes mode child n zero here a has = absurd has
copies_go under goes mode child n (suc k) here a (inl is) =
    subst (GoesOn (IsFromInstance mode child n) here) (sym is) (goes_by (λ hop to. (to.0, to.1, omega arith)) (goes_to mode child n here))
copies_go under goes mode child n (suc k) here a (inr has) =
    elim (has_either (under (step_to here mode child n)) (copies under mode child (n + 1) k here) a has) [
      | inl left ↦ goes_by (λ hop to. (to.0, to.1, omega arith)) (goes_through mode child n here a (goes (step_to here mode child n) a left))
      | inr right ↦ goes_by (λ hop from. (from.0, from.1, omega arith)) (copies_go under goes mode child (n + 1) k here a right)
    ]

mutual
  pub below_goes : (kind : Kind) (here a : Address) → Has (below kind here) a → GoesOn IsHop here a
  below_goes (Modes' n modes) here a has = goes_by (λ hop from. tt) (modes_go modes 0 here a has)
  below_goes _ here a has = absurd has

  pub modes_go : {m : _} (row : Row_of-Mode m) (mode : ℕ) (here a : Address) → Has (in_modes row mode here) a → GoesOn (IsFromMode mode) here a
  modes_go end_of-Mode mode here a has = absurd has
  modes_go (more_of-Mode m rest) mode here a has = elim (has_either (in_mode m mode here) (in_modes rest (mode + 1) here) a has) [
    | inl left ↦ goes_by (λ hop from. omega arith) (mode_goes m mode here a left)
    | inr right ↦ goes_by (λ hop from. omega arith) (modes_go rest (mode + 1) here a right)
  ]

  pub mode_goes : (m : Mode) (mode : ℕ) (here a : Address) → Has (in_mode m mode here) a → GoesOn (IsFromChild mode 0) here a
  mode_goes (Mode' name n kids inters metas) mode here a has = kids_go kids mode 0 here a has

  pub kids_go : {m : _} (row : Row_of-PbType m) (mode child : ℕ) (here a : Address) → Has (in_kids row mode child here) a →
      GoesOn (IsFromChild mode child) here a
  kids_go end_of-PbType mode child here a has = absurd has
  kids_go (more_of-PbType name count ports kind metas rest) mode child here a has =
      elim (has_either (copies (λ b. below kind b) mode child 0 count here) (in_kids rest mode (child + 1) here) a has) [
        | inl left ↦ goes_by (λ hop from. (from.0, omega arith)) (copies_go (λ b. below kind b) (λ b c. below_goes kind b c) mode child 0 count here a left)
        | inr right ↦ goes_by (λ hop from. (from.0, omega arith)) (kids_go rest mode (child + 1) here a right)
      ]

pub copies_once : (under : Address → List Address) → ((here a : Address) → Has (under here) a → GoesOn IsHop here a) →
    ((here : Address) → Once (under here)) → (mode child n k : ℕ) (here : Address) → Once (copies under mode child n k here)
copies_once under goes once mode child n zero here = tt
copies_once under goes once mode child n (suc k) here =
    let to : Address = step_to here mode child n in
    let later : (a : Address) → GoesOn (IsTo mode child n) here a → Has (copies under mode child (n + 1) k here) a → ⊥ =
    λ a first has. goes_apart (λ hop one more. absurd (omega arith)) first (copies_go under goes mode child (n + 1) k here a has) in (
      λ has. elim (has_either (under to) (copies under mode child (n + 1) k here) to has) [
        | inl left ↦ goes_away to (goes to to left)
        | inr right ↦ later to (goes_to mode child n here) right
      ],
      once_append (under to) (copies under mode child (n + 1) k here) (once to) (copies_once under goes once mode child (n + 1) k here)
          (λ a left right. later a (goes_through mode child n here a (goes to a left)) right),
    )

mutual
  pub below_once : (kind : Kind) (here : Address) → Once (below kind here)
  below_once (Modes' n modes) here = modes_once modes 0 here
  below_once _ here = tt

  pub modes_once : {m : _} (row : Row_of-Mode m) (mode : ℕ) (here : Address) → Once (in_modes row mode here)
  modes_once end_of-Mode mode here = tt
  modes_once (more_of-Mode m rest) mode here =
      once_append (in_mode m mode here) (in_modes rest (mode + 1) here) (mode_once m mode here) (modes_once rest (mode + 1) here)
      (λ a left right. goes_apart (λ hop one more. absurd (omega arith)) (mode_goes m mode here a left) (modes_go rest (mode + 1) here a right))

  pub mode_once : (m : Mode) (mode : ℕ) (here : Address) → Once (in_mode m mode here)
  mode_once (Mode' name n kids inters metas) mode here = kids_once kids mode 0 here

  pub kids_once : {m : _} (row : Row_of-PbType m) (mode child : ℕ) (here : Address) → Once (in_kids row mode child here)
  kids_once end_of-PbType mode child here = tt
  kids_once (more_of-PbType name count ports kind metas rest) mode child here =
      once_append (copies (λ b. below kind b) mode child 0 count here) (in_kids rest mode (child + 1) here)
      (copies_once (λ b. below kind b) (λ b c. below_goes kind b c) (λ b. below_once kind b) mode child 0 count here)
      (kids_once rest mode (child + 1) here)
      (λ a left right. goes_apart (λ hop one more. absurd (omega arith))
      (copies_go (λ b. below kind b) (λ b c. below_goes kind b c) mode child 0 count here a left)
      (kids_go rest mode (child + 1) here a right))
