-- Pins in sets: `==` is equality, and what a set tells of a pin.
use Rattle.std.proofs.Common.{◌≡◌, ◌∷◌, [], ◌++◌, ◌⊎◌, List, ℕ, Bool, true, false, ◌&&◌, ◌||◌, if◌then◌else◌, inl, inr, nat_eq, Option, Some, None, take, get_or, length, ◌<◌, ◌+◌, refl, sym, ◌∙◌, ap, subst, arith}
use Rattle.std.specs.Option.{option_eq}
use Rattle.std.specs.List.{list_any}
use Rattle.std.proofs.lemmas.Bool.Decides.{nat_tests}
use Rattle.std.proofs.lemmas.Bool.{false≢true, and_parts, and_from, or_cases}
use Rattle.std.proofs.lemmas.List.{take_more}
use Rattle.indexmap.specs.IndexSet.{insert_key}
use Rattle.vtr_base.specs.Lists.{Has}
use Rattle.list_laws.proofs.Members.{has_left, has_right, has_last, has_pushed}
use Rattle.mode_edges.specs.declared.pin.ChildAt.{ChildAt}
use Rattle.mode_edges.specs.declared.pin.LocalPin.{LocalPin}
use Rattle.mode_edges.specs.Pairs.{same_child, same_pin}
use Rattle.meta_lines.specs.Inputs.{HaveSame}

nat_same : (m n : ℕ) → nat_eq m n ≡ true → m ≡ n
nat_same m n e = grind (arith, nat_tests)

nat_itself : (m : ℕ) → nat_eq m m ≡ true
nat_itself m = grind (arith, nat_tests)

abbrev child : ℕ → ℕ → ChildAt
child c i = record { child = c; instance = i }

abbrev pin : Option ChildAt → ℕ → ℕ → LocalPin
pin owner port bit = record { owner = owner; port = port; bit = bit }

child_same : (x y : ChildAt) → same_child x y ≡ true → x ≡ y
child_same x y e =
    let k = and_parts (nat_eq x.child y.child) (nat_eq x.instance y.instance) e in
    ap (λ (c : ℕ). child c x.instance) (nat_same x.child y.child k.0) ∙ ap (λ (i : ℕ). child y.child i) (nat_same x.instance y.instance k.1)

owner_same : (x y : Option ChildAt) → option_eq same_child x y ≡ true → x ≡ y
owner_same None None e = refl
owner_same None (Some y) e = cc
owner_same (Some x) None e = cc
owner_same (Some x) (Some y) e = ap Some (child_same x y e)

pub pin_same : (x y : LocalPin) → same_pin x y ≡ true → x ≡ y
pin_same x y e =
    let k = and_parts (option_eq same_child x.owner y.owner) (nat_eq x.port y.port && nat_eq x.bit y.bit) e in
    let n = and_parts (nat_eq x.port y.port) (nat_eq x.bit y.bit) k.1 in
    ap (λ (o : Option ChildAt). pin o x.port x.bit) (owner_same x.owner y.owner k.0)
    ∙ (ap (λ (p : ℕ). pin y.owner p x.bit) (nat_same x.port y.port n.0) ∙ ap (λ (b : ℕ). pin y.owner y.port b) (nat_same x.bit y.bit n.1))

child_itself : (x : ChildAt) → same_child x x ≡ true
child_itself x = and_from (nat_eq x.child x.child) (nat_eq x.instance x.instance) (nat_itself x.child) (nat_itself x.instance)

owner_itself : (x : Option ChildAt) → option_eq same_child x x ≡ true
owner_itself None = refl
owner_itself (Some x) = child_itself x

pub pin_itself : (x : LocalPin) → same_pin x x ≡ true
pin_itself x =
    and_from (option_eq same_child x.owner x.owner) (nat_eq x.port x.port && nat_eq x.bit x.bit) (owner_itself x.owner)
    (and_from (nat_eq x.port x.port) (nat_eq x.bit x.bit) (nat_itself x.port) (nat_itself x.bit))

pub any_has : (ks : List LocalPin) (k : LocalPin) → list_any (same_pin k) ks ≡ true → Has ks k
any_has [] k e = absurd (false≢true e)
any_has (x ∷ ks) k e = elim (or_cases (same_pin k x) (list_any (same_pin k) ks) e) [ inl here ↦ inl (pin_same k x here) | inr later ↦ inr (any_has ks k later) ]

pub none_has : (ks : List LocalPin) (k : LocalPin) → list_any (same_pin k) ks ≡ false → Has ks k → ⊥
none_has [] k e has = has
none_has (x ∷ ks) k e has = by (same_pin k x) (list_any (same_pin k) ks) refl (none_has ks k) e has
  where
    by : (a b : Bool) → same_pin k x ≡ a → (b ≡ false → Has ks k → ⊥) → (a || b) ≡ false → Has (x ∷ ks) k → ⊥
    by true b here rest none h = absurd (false≢true (sym none))
    by false b here rest none (inl is) = false≢true (sym here ∙ (ap (λ (q : LocalPin). same_pin k q) (sym is) ∙ pin_itself k))
    by false b here rest none (inr later) = rest none later

-- one more pin
same_more : (keys new ps : List LocalPin) (p : LocalPin) → new ≡ insert_key same_pin keys p → HaveSame keys ps → HaveSame new (ps ++ p ∷ [])
same_more keys new ps p is same = by (list_any (same_pin p) keys) refl
  where
    back : (q : LocalPin) → Has ps q ⊎ (q ≡ p) → list_any (same_pin p) keys ≡ true → Has keys q
    back q (inl had) any = (same q).1 had
    back q (inr last) any = subst (Has keys) (sym last) (any_has keys p any)

    on : (q : LocalPin) → Has keys q ⊎ (q ≡ p) → Has (ps ++ p ∷ []) q
    on q (inl had) = has_left ps (p ∷ []) q ((same q).0 had)
    on q (inr last) = subst (Has (ps ++ p ∷ [])) (sym last) (has_last ps p)

    behind : (q : LocalPin) → Has ps q ⊎ (q ≡ p) → Has (keys ++ p ∷ []) q
    behind q (inl had) = has_left keys (p ∷ []) q ((same q).1 had)
    behind q (inr last) = subst (Has (keys ++ p ∷ [])) (sym last) (has_last keys p)

    by : (b : Bool) → list_any (same_pin p) keys ≡ b → HaveSame new (ps ++ p ∷ [])
    by true any =
        let old : new ≡ keys = is ∙ ap (λ (t : Bool). if t then keys else keys ++ p ∷ []) any in
        λ q. (
          λ has. has_left ps (p ∷ []) q ((same q).0 (subst (λ l. Has l q) old has)),
          λ has. subst (λ l. Has l q) (sym old) (back q (has_pushed ps p q has) any),
        )
    by false none =
        let grown : new ≡ keys ++ p ∷ [] = is ∙ ap (λ (t : Bool). if t then keys else keys ++ p ∷ []) none in
        λ q. (
          λ has. on q (has_pushed keys p q (subst (λ l. Has l q) grown has)),
          λ has. subst (λ l. Has l q) (sym grown) (behind q (has_pushed ps p q has)),
        )

pub same_push : (keys new ps longer : List LocalPin) (p : LocalPin) → new ≡ insert_key same_pin keys p → longer ≡ ps ++ p ∷ [] → HaveSame keys ps → HaveSame new longer
same_push keys new ps longer p is grown same = subst (HaveSame new) (sym grown) (same_more keys new ps p is same)

pub same_take : (pins keys new : List LocalPin) (k : ℕ) (d : LocalPin) → k < length pins → new ≡ insert_key same_pin keys (get_or pins k d) → HaveSame keys (take k pins) →
    HaveSame new (take (k + 1) pins)
same_take pins keys new k d within is same = same_push keys new (take k pins) (take (k + 1) pins) (get_or pins k d) is (take_more pins k d within) same
