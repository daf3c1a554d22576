-- Which instances hang on a mode of an instance.
use Rattle.std.proofs.Common.{◌≡◌, ◌==◌, ◌&&◌, ℕ, Bool, true, false, [], ◌∷◌, ◌++◌, Option, Some, None, refl, sym, ap, ◌∙◌, arith, Result, Ok, Err, OnOk}
use Rattle.std.specs.Prelude.{slice_get}
use Rattle.std.specs.Option.{option_map_or}
use Rattle.std.proofs.lemmas.Bool.Decides.{nat_tests}
use Rattle.arch_types.specs.Address.{Address, Hop, step_to}
use Rattle.pb_expand.specs.declared.number.Step.{Step}
use Rattle.pb_expand.specs.Graph.{Graph, LeadsTo, hop_of}
use Rattle.pb_expand.specs.Expansion.{IsExpansion}
use Rattle.pb_expand.proofs.Lists.{snoc_front, snoc_last}
use Rattle.prog_map.specs.declared.groups.ModeAt.{ModeAt}
use Rattle.prog_map.specs.Groups.{same_mode, mode_ix}
use Rattle.prog_map.specs.Order.{same_hop, is_step, hangs, hangs_at}

pub one_hop : (h k : Hop) → same_hop h k ≡ true → h ≡ k
one_hop h k same =
    let modes : h.mode ≡ k.mode = grind (arith, nat_tests) in
    let children : h.child ≡ k.child = grind (arith, nat_tests) in
    let instances : h.instance ≡ k.instance = grind (arith, nat_tests) in
    let hop : ℕ → ℕ → ℕ → Hop = λ mode child instance. record { mode = mode; child = child; instance = instance } in
    let both : hop h.mode h.child h.instance ≡ hop k.mode k.child k.instance = cc in both

pub same_hop_itself : (h : Hop) → same_hop h h ≡ true
same_hop_itself h = grind (arith, nat_tests)

pub is_itself : (n : ℕ) → (n == n) ≡ true
is_itself n = grind (arith, nat_tests)

-- what a step in that mode is
pub record IsStep (above : Address) (mode : ℕ) (address : Address) : Type 0 where
  pub hop : Hop
  pub in_mode : hop.mode ≡ mode
  pub is : address ≡ above ++ hop ∷ []

both_true : (a b : Bool) → (a && b) ≡ true → (a ≡ true) × (b ≡ true)
both_true true true e = (refl, refl)
both_true true false e = cc
both_true false b e = cc

pub step_is : (above : Address) (mode : ℕ) (address : Address) → is_step above mode address ≡ true → IsStep above mode address
step_is [] mode [] e = absurd (cc)
step_is [] mode (hop ∷ []) e = record { hop = hop; in_mode = (grind (arith, nat_tests)); is = refl }
step_is [] mode (hop ∷ (next ∷ hops)) e = absurd (cc)
step_is (h ∷ above) mode [] e = absurd (cc)
step_is (h ∷ above) mode (hop ∷ hops) e =
    let both = both_true (same_hop h hop) (is_step above mode hops) e in
    let rest = step_is above mode hops both.1 in
    let first : h ≡ hop = one_hop h hop both.0 in
    record {
      hop = rest.hop;
      in_mode = rest.in_mode;
      is = ap (λ x. x ∷ hops) (sym first) ∙ ap (λ l. h ∷ l) rest.is;
    }

pub is_step_there : (above : Address) (hop : Hop) → is_step above hop.mode (above ++ hop ∷ []) ≡ true
is_step_there [] hop = is_itself hop.mode
is_step_there (h ∷ above) hop = ap (λ b. b && is_step above hop.mode (above ++ hop ∷ [])) (same_hop_itself h) ∙ is_step_there above hop

by_both : (b d : Bool) → (b ≡ true → d ≡ true) → (d ≡ true → b ≡ true) → b ≡ d
by_both true true f h = refl
by_both true false f h = let e : false ≡ true = f refl in cc
by_both false true f h = let e : false ≡ true = h refl in cc
by_both false false f h = refl

-- an instance hangs on the mode from which the step to it leads, and on no other
pub hangs_is : (g : Graph) (s : Step) (n : ℕ) (at : ModeAt) → IsExpansion g → LeadsTo g.instances s n → at.pb ≡ s.parent → at.mode ≡ s.mode →
    (pb mode : ℕ) → same_mode at (mode_ix pb mode) ≡ hangs_at g n pb mode
hangs_is g s n at law to at_pb at_mode pb mode =
    by_both (same_mode at (mode_ix pb mode)) (hangs_at g n pb mode) there back
  where
    reads : (o : Option Address) → slice_get g.instances pb ≡ o → option_map_or (λ above. is_step above mode (step_to to.parent s.mode s.child s.instance)) o false ≡ true →
        (pb ≡ s.parent.0) × (mode ≡ s.mode)
    reads None e t = absurd (cc)
    reads (Some above) e t =
        let st = step_is above mode (step_to to.parent s.mode s.child s.instance) t in
        let same : to.parent ≡ above = snoc_front _ _ _ _ st.is in
        let hops : hop_of s ≡ st.hop = snoc_last _ _ _ _ st.is in
        let number : pb ≡ s.parent.0 = law.numbering.once pb s.parent.0 to.parent (e ∙ ap Some (sym same)) to.is_parent in
        let modes : mode ≡ s.mode = sym st.in_mode ∙ sym (ap (λ h. h.mode) hops) in
        (number, modes)

    there : same_mode at (mode_ix pb mode) ≡ true → hangs_at g n pb mode ≡ true
    there t =
        let pbs : at.pb.0 ≡ pb = grind (arith, nat_tests) in
        let modes : at.mode ≡ mode = grind (arith, nat_tests) in
        let parent : pb ≡ s.parent.0 = sym pbs ∙ ap (λ p. p.0) at_pb in
        let in_mode : mode ≡ s.mode = sym modes ∙ at_mode in
        ap (λ o. option_map_or (λ address. hangs g pb mode address) o false) to.is_child
        ∙ ap (λ p. hangs g p mode (step_to to.parent s.mode s.child s.instance)) parent
        ∙ ap (λ o. option_map_or (λ above. is_step above mode (step_to to.parent s.mode s.child s.instance)) o false) to.is_parent
        ∙ ap (λ m. is_step to.parent m (step_to to.parent s.mode s.child s.instance)) in_mode
        ∙ is_step_there to.parent (hop_of s)

    back : hangs_at g n pb mode ≡ true → same_mode at (mode_ix pb mode) ≡ true
    back t =
        let both = reads (slice_get g.instances pb) refl (sym (ap (λ o. option_map_or (λ address. hangs g pb mode address) o false) to.is_child) ∙ t) in
        ap (λ p. (p.0 == pb) && (at.mode == mode)) at_pb
        ∙ ap (λ p. (p == pb) && (at.mode == mode)) (sym both.0)
        ∙ ap (λ b. b && (at.mode == mode)) (is_itself pb)
        ∙ ap (λ m. m == mode) (at_mode ∙ sym both.1)
        ∙ is_itself mode

-- the root hangs on none
pub root_hangs : (g : Graph) (n : ℕ) → IsExpansion g → n ≡ 0 → (pb mode : ℕ) → hangs_at g n pb mode ≡ false
root_hangs g n law first pb mode =
    let root : slice_get g.instances n ≡ Some [] = ap (λ k. slice_get g.instances k) first ∙ ap (λ is. slice_get is 0) law.instances in
    ap (λ o. option_map_or (λ address. hangs g pb mode address) o false) root ∙ none (slice_get g.instances pb)
  where
    nil : (above : Address) → is_step above mode [] ≡ false
    nil [] = refl
    nil (h ∷ above) = refl

    none : (o : Option Address) → option_map_or (λ above. is_step above mode []) o false ≡ false
    none None = refl
    none (Some above) = nil above

pub on_ok_then : {T E : Type 0} (P Q : Type 0) (r : Result T E) → (P → Q) → OnOk r P → OnOk r Q
on_ok_then P Q (Ok x) f h = f h
on_ok_then P Q (Err e) f h = tt
