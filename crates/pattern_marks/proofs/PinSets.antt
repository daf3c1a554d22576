-- Pins in sets.
use Rattle.std.proofs.Common.{◌≡◌, ◌<◌, ◌+◌, ◌⊎◌, ℕ, Bool, true, false, ◌&&◌, ◌||◌, if◌then◌else◌, nat_eq, List, [], ◌∷◌, ◌++◌, Option, Some, None, MatchOption, IsTrue, length, take, get_or, refl, sym, ap, ◌∙◌, subst, inl, inr, arith}
use Rattle.std.specs.Prelude.{◌↔◌}
use Rattle.std.specs.Option.{option_eq}
use Rattle.std.specs.List.{list_any}
use Rattle.std.proofs.lemmas.Bool.Decides.{nat_tests}
use Rattle.std.proofs.lemmas.Bool.{false≢true, and_parts, and_from, or_cases}
use Rattle.std.proofs.lemmas.List.{take_more}
use Rattle.indexmap.specs.IndexSet.{insert_key}
use Rattle.vtr_base.specs.Lists.{Has}
use Rattle.list_laws.specs.Orders.{HaveSame}
use Rattle.list_laws.proofs.Members.{has_left, has_last, has_pushed}
use Rattle.arch_types.specs.declared.block.PbType.{PbType}
use Rattle.arch_types.specs.declared.block.Mode.{Mode}
use Rattle.mode_edges.specs.declared.pin.ChildAt.{ChildAt}
use Rattle.mode_edges.specs.declared.pin.EdgeEnd.{EdgeEnd}
use Rattle.mode_edges.specs.declared.pin.LocalPin.{LocalPin}
use Rattle.mode_edges.specs.Pairs.{same_child, same_pin}
use Rattle.mode_edges.specs.PinWords.{ReadsPins, ReadsNoPins, HasOneReading}
use Rattle.pattern_marks.specs.Marks.{AreHeld}

-- equal pins pass the test of a set, and no others

nat_same : (m n : ℕ) → nat_eq m n ≡ true → m ≡ n
nat_same m n e = grind (arith, nat_tests)

nat_itself : (m : ℕ) → nat_eq m m ≡ true
nat_itself m = grind (arith, nat_tests)

abbrev child : ℕ → ℕ → ChildAt
child c i = record { child = c; instance = i }

abbrev pin_at : Option ChildAt → ℕ → ℕ → LocalPin
pin_at owner port bit = record { owner = owner; port = port; bit = bit }

child_same : (x y : ChildAt) → same_child x y ≡ true → x ≡ y
child_same x y e =
    let k = and_parts (nat_eq x.child y.child) (nat_eq x.instance y.instance) e in
    ap (λ (c : ℕ). child c x.instance) (nat_same x.child y.child k.0) ∙ ap (λ (i : ℕ). child y.child i) (nat_same x.instance y.instance k.1)

owner_same : (x y : Option ChildAt) → option_eq same_child x y ≡ true → x ≡ y
owner_same None None e = refl
owner_same None (Some y) e = cc
owner_same (Some x) None e = cc
owner_same (Some x) (Some y) e = ap Some (child_same x y e)

pin_same : (x y : LocalPin) → same_pin x y ≡ true → x ≡ y
pin_same x y e =
    let k = and_parts (option_eq same_child x.owner y.owner) (nat_eq x.port y.port && nat_eq x.bit y.bit) e in
    let n = and_parts (nat_eq x.port y.port) (nat_eq x.bit y.bit) k.1 in
    ap (λ (o : Option ChildAt). pin_at o x.port x.bit) (owner_same x.owner y.owner k.0)
    ∙ (ap (λ (p : ℕ). pin_at y.owner p x.bit) (nat_same x.port y.port n.0) ∙ ap (λ (b : ℕ). pin_at y.owner y.port b) (nat_same x.bit y.bit n.1))

owner_itself : (x : Option ChildAt) → option_eq same_child x x ≡ true
owner_itself None = refl
owner_itself (Some x) = and_from (nat_eq x.child x.child) (nat_eq x.instance x.instance) (nat_itself x.child) (nat_itself x.instance)

pin_itself : (x : LocalPin) → same_pin x x ≡ true
pin_itself x =
    and_from (option_eq same_child x.owner x.owner) (nat_eq x.port x.port && nat_eq x.bit x.bit) (owner_itself x.owner)
    (and_from (nat_eq x.port x.port) (nat_eq x.bit x.bit) (nat_itself x.port) (nat_itself x.bit))

any_has : (ks : List LocalPin) (k : LocalPin) → list_any (same_pin k) ks ≡ true → Has ks k
any_has [] k e = absurd (false≢true e)
any_has (x ∷ ks) k e = elim (or_cases (same_pin k x) (list_any (same_pin k) ks) e) [ inl here ↦ inl (pin_same k x here) | inr later ↦ inr (any_has ks k later) ]

has_any : (ks : List LocalPin) (k : LocalPin) → Has ks k → list_any (same_pin k) ks ≡ true
has_any [] k has = absurd has
has_any (x ∷ ks) k (inl is) = ap (λ (b : Bool). b || list_any (same_pin k) ks) (ap (λ (q : LocalPin). same_pin k q) (sym is) ∙ pin_itself k)
has_any (x ∷ ks) k (inr has) = by (same_pin k x) (has_any ks k has)
  where
    by : (b : Bool) → list_any (same_pin k) ks ≡ true → (b || list_any (same_pin k) ks) ≡ true
    by true later = refl
    by false later = later

pub contains_says : (ks : List LocalPin) (k : LocalPin) (b : Bool) → b ≡ list_any (same_pin k) ks → IsTrue b ↔ Has ks k
contains_says ks k b e = (λ t. any_has ks k (sym e ∙ t), λ has. e ∙ has_any ks k has)

-- a set that grows with a list

put : (keys new ps : List LocalPin) (p : LocalPin) → new ≡ insert_key same_pin keys p → HaveSame keys ps → HaveSame new (ps ++ p ∷ [])
put keys new ps p is same = by (list_any (same_pin p) keys) refl
  where
    on : (q : LocalPin) → Has keys q ⊎ (q ≡ p) → Has (ps ++ p ∷ []) q
    on q (inl had) = has_left ps (p ∷ []) q (same.forth q had)
    on q (inr last) = subst (λ (x : LocalPin). Has (ps ++ p ∷ []) x) (sym last) (has_last ps p)

    behind : (q : LocalPin) → Has ps q ⊎ (q ≡ p) → Has (keys ++ p ∷ []) q
    behind q (inl had) = has_left keys (p ∷ []) q (same.back q had)
    behind q (inr last) = subst (λ (x : LocalPin). Has (keys ++ p ∷ []) x) (sym last) (has_last keys p)

    known : list_any (same_pin p) keys ≡ true → (q : LocalPin) → Has ps q ⊎ (q ≡ p) → Has keys q
    known any q (inl had) = same.back q had
    known any q (inr last) = subst (λ (x : LocalPin). Has keys x) (sym last) (any_has keys p any)

    by : (b : Bool) → list_any (same_pin p) keys ≡ b → HaveSame new (ps ++ p ∷ [])
    by true any = subst (λ (l : List LocalPin). HaveSame l (ps ++ p ∷ [])) (sym (is ∙ ap (λ (t : Bool). if t then keys else keys ++ p ∷ []) any)) (record {
      forth = λ q has. has_left ps (p ∷ []) q (same.forth q has);
      back = λ q has. known any q (has_pushed ps p q has);
    })
    by false none = subst (λ (l : List LocalPin). HaveSame l (ps ++ p ∷ [])) (sym (is ∙ ap (λ (t : Bool). if t then keys else keys ++ p ∷ []) none)) (record {
      forth = λ q has. on q (has_pushed keys p q has);
      back = λ q has. behind q (has_pushed ps p q has);
    })

pub put_more : (pins keys new : List LocalPin) (k : ℕ) (d : LocalPin) → k < length pins → new ≡ insert_key same_pin keys (get_or pins k d) → HaveSame keys (take k pins) → HaveSame new (take (k + 1) pins)
put_more pins keys new k d within is same = subst (λ (l : List LocalPin). HaveSame new l) (sym (take_more pins k d within)) (put keys new (take k pins) (get_or pins k d) is same)

-- what a text holds

pub held_all : (block : PbType) (mode : Mode) (role : EdgeEnd) (text : List ℕ) (pins set : List LocalPin) → HasOneReading → ReadsPins block mode role text pins → HaveSame set pins → AreHeld block mode role text set
held_all block mode role text pins set one reads same pin = (
  λ has. record { pins = pins; reads = reads; has = same.forth pin has },
  λ h. same.back pin (subst (λ (l : List LocalPin). Has l pin) (one block mode role text h.pins pins h.reads reads) h.has),
)

pub held_none : (block : PbType) (mode : Mode) (role : EdgeEnd) (text : List ℕ) (set : List LocalPin) → ReadsNoPins block mode role text → set ≡ [] → AreHeld block mode role text set
held_none block mode role text set none empty pin = (
  λ has. absurd (subst (λ (l : List LocalPin). Has l pin) empty has),
  λ h. absurd (none h.pins h.reads),
)

pub none_says : {X : Type 0} (o : Option X) (P : Type 0) (Q : X → Type 0) → o ≡ None → MatchOption o P Q → P
none_says o P Q is says = subst (λ (x : Option _). MatchOption x P Q) is says

pub some_says : {X : Type 0} (o : Option X) (x : X) (P : Type 0) (Q : X → Type 0) → o ≡ Some x → MatchOption o P Q → Q x
some_says o x P Q is says = subst (λ (y : Option _). MatchOption y P Q) is says
