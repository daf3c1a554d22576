-- The preorder of a block type has exactly the addresses of its instances, each once.
use Rattle.std.specs.Prelude.{◌≡◌, ◌≤◌, ◌<◌, ◌+◌, ◌⊎◌, ℕ, zero, suc, Bool, true, false, List, [], ◌∷◌, ◌++◌, Option, Some, None, IsSome, option_and_then, if◌then◌else◌, nat_lt, slice_get}
use Rattle.std.proofs.Common.{inl, inr, refl, sym, ap, ◌∙◌, subst, arith, append_assoc, eq-or-lt_of_le}
use Rattle.std.proofs.lemmas.Bool.{ltb-true, lt-ltb}
use Rattle.std.proofs.lemmas.Option.{option_and_then_some}
use Rattle.std.proofs.lemmas.List.{append_cancel_left}
use Rattle.vtr_base.specs.Lists.{Has}
use Rattle.arch_types.specs.declared.block.PbType.{PbType}
use Rattle.arch_types.specs.declared.block.Mode.{Mode}
use Rattle.arch_types.specs.Tree.{modes_of, kids_of}
use Rattle.arch_types.specs.Address.{Hop, Address, child_at, at, step_to, copies, below, in_mode, instances_of}
use Rattle.arch_types.specs.Numbering.{IsNumbering}
use Rattle.arch_types.proofs.TreeRows.{modes_from, kids_from, below_is, in_mode_is}
use Rattle.arch_types.proofs.Once.{has_left, has_right, has_either, once_at}
use Rattle.arch_types.proofs.Preorder.{GoesOn, IsHop, IsFromInstance, same_hop, goes_away, copies_go, below_goes, mode_goes, below_once}

-- the mode of a step among modes of which the first is numbered from, and what stands in it
pub record InModes (modes : List Mode) (from : ℕ) (here : Address) (hop : Hop) (hops : Address) : Type 0 where
  pub mode : Mode
  pub place : ℕ
  pub number : from + place ≡ hop.mode
  pub is : slice_get modes place ≡ Some mode
  pub has : Has (in_mode mode hop.mode here) (here ++ hop ∷ hops)

-- the child of a step among children of which the first is numbered from, and what stands at its instances
pub record InKids (kids : List PbType) (mode from : ℕ) (here : Address) (hop : Hop) (hops : Address) : Type 0 where
  pub kid : PbType
  pub place : ℕ
  pub number : from + place ≡ hop.child
  pub is : slice_get kids place ≡ Some kid
  pub has : Has (copies (λ a. below kid.kind a) mode hop.child 0 kid.count here) (here ++ hop ∷ hops)

-- what holds of a step that an address goes on by
pub holds_here : {P : Hop → Type 0} (here : Address) (hop : Hop) (hops : Address) → GoesOn P here (here ++ hop ∷ hops) → P hop
holds_here {P = P} here hop hops goes = subst P (same_hop here goes.hop hop goes.hops hops (sym goes.is)) goes.holds

pub in_modes_from : (modes : List Mode) (from : ℕ) (here : Address) (hop : Hop) (hops : Address) →
    Has (modes_from modes from here) (here ++ hop ∷ hops) → InModes modes from here hop hops
in_modes_from [] from here hop hops has = absurd has
in_modes_from (m ∷ modes) from here hop hops has =
    elim (has_either (in_mode m from here) (modes_from modes (from + 1) here) (here ++ hop ∷ hops) has) [
      | inl left ↦
          let same : hop.mode ≡ from = (holds_here here hop hops (mode_goes m from here (here ++ hop ∷ hops) left)).0 in
          record {
            mode = m;
            place = 0;
            number = omega arith;
            is = refl;
            has = subst (λ n. Has (in_mode m n here) (here ++ hop ∷ hops)) (sym same) left;
          }
      | inr right ↦
          let rest : InModes modes (from + 1) here hop hops = in_modes_from modes (from + 1) here hop hops right in
          record { mode = rest.mode; place = suc rest.place; number = omega arith; is = rest.is; has = rest.has }
    ]

pub in_kids_from : (kids : List PbType) (mode from : ℕ) (here : Address) (hop : Hop) (hops : Address) →
    Has (kids_from kids mode from here) (here ++ hop ∷ hops) → InKids kids mode from here hop hops
in_kids_from [] mode from here hop hops has = absurd has
in_kids_from (kid ∷ kids) mode from here hop hops has =
    elim (has_either (copies (λ a. below kid.kind a) mode from 0 kid.count here) (kids_from kids mode (from + 1) here) (here ++ hop ∷ hops) has) [
      | inl left ↦
          let goes : GoesOn (IsFromInstance mode from 0) here (here ++ hop ∷ hops) =
          copies_go (λ a. below kid.kind a) (λ a b. below_goes kid.kind a b) mode from 0 kid.count here (here ++ hop ∷ hops) left in
          let same : hop.child ≡ from = (holds_here here hop hops goes).1 in
          record {
            kid = kid;
            place = 0;
            number = omega arith;
            is = refl;
            has = subst (λ n. Has (copies (λ a. below kid.kind a) mode n 0 kid.count here) (here ++ hop ∷ hops)) (sym same) left;
          }
      | inr right ↦
          let rest : InKids kids mode (from + 1) here hop hops = in_kids_from kids mode (from + 1) here hop hops right in
          record { kid = rest.kid; place = suc rest.place; number = omega arith; is = rest.is; has = rest.has }
    ]

-- an address among the copies of a child is that of one of them, or stands below one of them
pub in_copies : (under : Address → List Address) → ((here a : Address) → Has (under here) a → GoesOn IsHop here a) →
    (mode child n k : ℕ) (here : Address) (hop : Hop) (hops : Address) → Has (copies under mode child n k here) (here ++ hop ∷ hops) →
    (hop.instance < n + k) × ((hops ≡ []) ⊎ Has (under (here ++ hop ∷ [])) ((here ++ hop ∷ []) ++ hops))
in_copies under goes mode child n zero here hop hops has = absurd has
in_copies under goes mode child n (suc k) here hop hops (inl is) =
    let cut : hop ∷ hops ≡ record { mode = mode; child = child; instance = n } ∷ [] = append_cancel_left here (hop ∷ hops) _ is in
    let first : hop ≡ record { mode = mode; child = child; instance = n } = cc in
    let none : hops ≡ [] = cc in
    let inside : hop.instance < n + suc k = omega (arith, ap (λ h. h.instance) first) in
    (inside, inl none)
in_copies under goes mode child n (suc k) here hop hops (inr has) =
    let to : Address = step_to here mode child n in
    elim (has_either (under to) (copies under mode child (n + 1) k here) (here ++ hop ∷ hops) has) [
      | inl left ↦
          let on : GoesOn (λ h. h ≡ record { mode = mode; child = child; instance = n }) here (here ++ hop ∷ hops) =
          let goes_on : GoesOn IsHop to (here ++ hop ∷ hops) = goes to (here ++ hop ∷ hops) left in
          record {
            hop = record { mode = mode; child = child; instance = n };
            hops = goes_on.hop ∷ goes_on.hops;
            is = goes_on.is ∙ append_assoc here (record { mode = mode; child = child; instance = n } ∷ []) (goes_on.hop ∷ goes_on.hops);
            holds = refl;
          } in
          let same : hop ≡ record { mode = mode; child = child; instance = n } = holds_here here hop hops on in
          let inside : hop.instance < n + suc k = omega (arith, ap (λ h. h.instance) same) in (
            inside,
            inr (subst (λ h. Has (under (here ++ h ∷ [])) ((here ++ hop ∷ []) ++ hops)) (sym same)
                (subst (Has (under to)) (sym (append_assoc here (hop ∷ []) hops)) left)),
          )
      | inr right ↦
          let rest = in_copies under goes mode child (n + 1) k here hop hops right in
          let inside : hop.instance < n + suc k = omega arith in
          (inside, rest.1)
    ]

-- the child of a step, by its mode and place
pub child_is : (p kid : PbType) (mode : Mode) (hop : Hop) → slice_get (modes_of p.kind) hop.mode ≡ Some mode →
    slice_get (kids_of mode) hop.child ≡ Some kid → hop.instance < kid.count → child_at p hop ≡ Some kid
child_is p kid mode hop in_mode in_kids inside = rw (in_mode, in_kids, lt-ltb hop.instance kid.count inside)

pub sound : (hops : Address) (p : PbType) (here : Address) → (hops ≡ []) ⊎ Has (below p.kind here) (here ++ hops) → IsSome (at p hops)
sound [] p here has = refl
sound (hop ∷ hops) p here (inl none) = absurd (cc)
sound (hop ∷ hops) p here (inr has) =
    let mode : InModes (modes_of p.kind) 0 here hop hops =
    in_modes_from (modes_of p.kind) 0 here hop hops (subst (λ l. Has l (here ++ hop ∷ hops)) (below_is p.kind here) has) in
    let kid : InKids (kids_of mode.mode) hop.mode 0 here hop hops =
    in_kids_from (kids_of mode.mode) hop.mode 0 here hop hops
    (subst (λ l. Has l (here ++ hop ∷ hops)) (in_mode_is mode.mode hop.mode here) mode.has) in
    let copy = in_copies (λ a. below kid.kid.kind a) (λ a b. below_goes kid.kid.kind a b) hop.mode hop.child 0 kid.kid.count here hop hops kid.has in
    let mode_place : mode.place ≡ hop.mode = omega arith in
    let kid_place : kid.place ≡ hop.child = omega arith in
    let inside : hop.instance < kid.kid.count = omega (arith, copy.0) in
    let there : child_at p hop ≡ Some kid.kid =
    child_is p kid.kid mode.mode hop (subst (λ n. slice_get (modes_of p.kind) n ≡ Some mode.mode) mode_place mode.is)
    (subst (λ n. slice_get (kids_of mode.mode) n ≡ Some kid.kid) kid_place kid.is) inside in
    subst (λ o. IsSome (option_and_then (λ q. at q hops) o)) (sym there) (sound hops kid.kid (here ++ hop ∷ []) copy.1)

pub has_in_modes : (modes : List Mode) (from place : ℕ) (here : Address) (n : ℕ) (m : Mode) (a : Address) →
    slice_get modes place ≡ Some m → from + place ≡ n → Has (in_mode m n here) a → Has (modes_from modes from here) a
has_in_modes [] from place here n m a is number has = absurd (cc)
has_in_modes (first ∷ modes) from zero here n m a is number has =
    let same : first ≡ m = cc in
    let start : n ≡ from = omega arith in
    has_left (in_mode first from here) (modes_from modes (from + 1) here) a
    (subst (λ x. Has (in_mode x from here) a) (sym same) (subst (λ k. Has (in_mode m k here) a) start has))
has_in_modes (first ∷ modes) from (suc place) here n m a is number has =
    let later : (from + 1) + place ≡ n = omega arith in
    has_right (in_mode first from here) (modes_from modes (from + 1) here) a (has_in_modes modes (from + 1) place here n m a is later has)

pub has_in_kids : (kids : List PbType) (mode from place : ℕ) (here : Address) (n : ℕ) (kid : PbType) (a : Address) →
    slice_get kids place ≡ Some kid → from + place ≡ n → Has (copies (λ b. below kid.kind b) mode n 0 kid.count here) a →
    Has (kids_from kids mode from here) a
has_in_kids [] mode from place here n kid a is number has = absurd (cc)
has_in_kids (first ∷ kids) mode from zero here n kid a is number has =
    let same : first ≡ kid = cc in
    let start : n ≡ from = omega arith in
    has_left (copies (λ b. below first.kind b) mode from 0 first.count here) (kids_from kids mode (from + 1) here) a
    (subst (λ x. Has (copies (λ b. below x.kind b) mode from 0 x.count here) a) (sym same)
    (subst (λ k. Has (copies (λ b. below kid.kind b) mode k 0 kid.count here) a) start has))
has_in_kids (first ∷ kids) mode from (suc place) here n kid a is number has =
    let later : (from + 1) + place ≡ n = omega arith in
    has_right (copies (λ b. below first.kind b) mode from 0 first.count here) (kids_from kids mode (from + 1) here) a
    (has_in_kids kids mode (from + 1) place here n kid a is later has)

pub has_in_copies : (under : Address → List Address) (mode child n k i : ℕ) (here a : Address) → n ≤ i → i < n + k →
    (a ≡ step_to here mode child i) ⊎ Has (under (step_to here mode child i)) a → Has (copies under mode child n k here) a
has_in_copies under mode child n zero i here a low high has = absurd (omega arith)
has_in_copies under mode child n (suc k) i here a low high has = elim (eq-or-lt_of_le low) [
  | inl same ↦ first (subst (λ x. (a ≡ step_to here mode child x) ⊎ Has (under (step_to here mode child x)) a) (sym same) has)
  | inr more ↦ inr (has_right (under (step_to here mode child n)) (copies under mode child (n + 1) k here) a
      (has_in_copies under mode child (n + 1) k i here a (omega arith) (omega arith) has))
]
  where
    first : (a ≡ step_to here mode child n) ⊎ Has (under (step_to here mode child n)) a → Has (copies under mode child n (suc k) here) a
    first (inl is) = inl is
    first (inr below_it) = inr (has_left (under (step_to here mode child n)) (copies under mode child (n + 1) k here) a below_it)

-- what a step to a child says
pub record Leads (p : PbType) (hop : Hop) (kid : PbType) : Type 0 where
  pub mode : Mode
  pub in_modes : slice_get (modes_of p.kind) hop.mode ≡ Some mode
  pub in_kids : slice_get (kids_of mode) hop.child ≡ Some kid
  pub inside : hop.instance < kid.count

pub leads : (p : PbType) (hop : Hop) (kid : PbType) → child_at p hop ≡ Some kid → Leads p hop kid
leads p hop kid is =
    option_and_then_some (λ mode. option_and_then (λ q. within q) (slice_get (kids_of mode) hop.child)) (slice_get (modes_of p.kind) hop.mode) kid is
    (λ mode in_modes found. option_and_then_some (λ q. within q) (slice_get (kids_of mode) hop.child) kid found
    (λ q in_kids last. counted mode q in_modes in_kids (nat_lt hop.instance q.count) refl last))
  where
    within : PbType → Option PbType
    within q = if nat_lt hop.instance q.count then Some q else None

    counted : (mode : Mode) (q : PbType) → slice_get (modes_of p.kind) hop.mode ≡ Some mode → slice_get (kids_of mode) hop.child ≡ Some q →
        (test : Bool) → nat_lt hop.instance q.count ≡ test → (if test then Some q else None) ≡ Some kid → Leads p hop kid
    counted mode q in_modes in_kids true lower found =
        let same : q ≡ kid = cc in
        record {
          mode = mode;
          in_modes = in_modes;
          in_kids = in_kids ∙ ap Some same;
          inside = subst (λ x. hop.instance < x.count) same (ltb-true hop.instance q.count lower);
        }
    counted mode q in_modes in_kids false lower found = absurd (cc)

-- a step to a child, and an instance at the steps from there
pub opened : (p : PbType) (hop : Hop) (hops : Address) → IsSome (at p (hop ∷ hops)) → (kid : PbType) × (child_at p hop ≡ Some kid) × IsSome (at kid hops)
opened p hop hops there = go (child_at p hop) refl there
  where
    go : (o : Option PbType) → child_at p hop ≡ o → IsSome (option_and_then (λ kid. at kid hops) o) →
        (kid : PbType) × (child_at p hop ≡ Some kid) × IsSome (at kid hops)
    go None is some = absurd (cc)
    go (Some kid) is some = (kid, is, some)

-- where a step leads to a child, the step and what stands below the child stand in the preorder
pub stands : (p : PbType) (here : Address) (hop : Hop) (hops : Address) (kid : PbType) → child_at p hop ≡ Some kid →
    (hops ≡ []) ⊎ Has (below kid.kind (here ++ hop ∷ [])) ((here ++ hop ∷ []) ++ hops) → Has (below p.kind here) (here ++ hop ∷ hops)
stands p here hop hops kid is has =
    let way : Leads p hop kid = leads p hop kid is in
    let a : Address = here ++ hop ∷ hops in
    let copied : Has (copies (λ b. below kid.kind b) hop.mode hop.child 0 kid.count here) a =
    has_in_copies (λ b. below kid.kind b) hop.mode hop.child 0 kid.count hop.instance here a (omega arith) (omega (arith, way.inside))
    (elim has [
      | inl none ↦ inl (ap (λ l. here ++ hop ∷ l) none)
      | inr under ↦ inr (subst (Has (below kid.kind (here ++ hop ∷ []))) (append_assoc here (hop ∷ []) hops) under)
    ]) in
    let in_mode_has : Has (in_mode way.mode hop.mode here) a =
    subst (λ l. Has l a) (sym (in_mode_is way.mode hop.mode here))
    (has_in_kids (kids_of way.mode) hop.mode 0 hop.child here hop.child kid a way.in_kids (omega arith) copied) in
    subst (λ l. Has l a) (sym (below_is p.kind here))
    (has_in_modes (modes_of p.kind) 0 hop.mode here hop.mode way.mode a way.in_modes (omega arith) in_mode_has)

pub complete : (hops : Address) (hop : Hop) (p : PbType) (here : Address) → IsSome (at p (hop ∷ hops)) → Has (below p.kind here) (here ++ hop ∷ hops)
complete [] hop p here there =
    let open_at = opened p hop [] there in
    stands p here hop [] open_at.0 open_at.1 (inl refl)
complete (next ∷ hops) hop p here there =
    let open_at = opened p hop (next ∷ hops) there in
    stands p here hop (next ∷ hops) open_at.0 open_at.1 (inr (complete hops next open_at.0 (here ++ hop ∷ []) open_at.2))

pub is_numbering : (block : PbType) → IsNumbering block (instances_of block)
is_numbering block = record {
  exact = λ a. (λ has. sound a block [] has, to_root a);
  once = λ i j a at_i at_j. once_at (instances_of block) (λ has. goes_away [] (below_goes block.kind [] [] has), below_once block.kind []) i j a at_i at_j;
}
  where
    to_root : (a : Address) → IsSome (at block a) → Has (instances_of block) a
    to_root [] there = inl refl
    to_root (hop ∷ hops) there = inr (complete hops hop block [] there)
