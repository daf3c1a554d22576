-- Tables of names: what one more entry changes, and tables that grow number by number.
use Rattle.std.proofs.Common.{◌≡◌, ◌<◌, ◌+◌, ℕ, Bool, true, false, cond, List, [], length, Option, Some, None, Vec, vec_items, refl, sym, ap, subst, ◌∙◌, arith}
use Rattle.std.specs.Prelude.{IsSome, slice_get}
use Rattle.std.specs.Str.{bytes_eq}
use Rattle.std.specs.Map.{lookup, IsKeyTest, AreApart, KeepsOthers}
use Rattle.std.specs.HashMap.{HashMap, UpdatesBy, get_by}
use Rattle.std.specs.Cmp.Lexicographic.{bytes_decides, nat_list_eq_equiv}
use Rattle.std.specs.Option.{option_map_or}
use Rattle.std.proofs.lemmas.Option.{slice_get_within}
use Rattle.pb_expand.proofs.Lists.{element}
use Rattle.prog_text.specs.Table.{numbered, IsTableOf, name_in}

apart : (bs cs ks : List ℕ) → bytes_eq bs cs ≡ false → bytes_eq bs ks ≡ true → bytes_eq cs ks ≡ false
apart bs cs ks n y = nat_list_eq_equiv.symm cs ks ∙ sym (nat_list_eq_equiv.congr bs ks cs y) ∙ n

module _ {K : Type 0} (eq : K → K → Bool) (test : K → Bool) where
  other_entries : {X : Type 0} (old new : List (K × X)) → KeepsOthers eq test old new → (other : K → Bool) → IsKeyTest eq other → AreApart test other → lookup other new ≡ lookup other old
  unfolding KeepsOthers
  other_entries old new h = h

-- what a table holds after something was put at a name
pub put_at : {A S X : Type 0} (m n : HashMap (Vec ℕ A) X S) (key : List ℕ) (v : X) →
    UpdatesBy (λ x y. bytes_eq (vec_items x) (vec_items y)) (λ y. bytes_eq key (vec_items y)) m n (Some v) →
    (text : List ℕ) → get_by (λ k. bytes_eq text (vec_items k)) n ≡ cond (bytes_eq key text) (Some v) (get_by (λ k. bytes_eq text (vec_items k)) m)
put_at m n key v updates text = by (bytes_eq key text) refl
  where
    by : (b : Bool) → bytes_eq key text ≡ b → get_by (λ k. bytes_eq text (vec_items k)) n ≡ cond b (Some v) (get_by (λ k. bytes_eq text (vec_items k)) m)
    by true e = ap (λ name. get_by (λ k. bytes_eq name (vec_items k)) n) (sym ((bytes_decides key text).0 e)) ∙ updates.1
    by false e =
        other_entries _ _ _ _ updates.3 _ (λ x y. nat_list_eq_equiv.congr text (vec_items x) (vec_items y))
        (λ k. apart key text (vec_items k) e)

-- what a table holds after a name got a number
pub numbered_put : {A S : Type 0} (m n : HashMap (Vec ℕ A) ℕ S) (key : List ℕ) (v : ℕ) →
    UpdatesBy (λ x y. bytes_eq (vec_items x) (vec_items y)) (λ y. bytes_eq key (vec_items y)) m n (Some v) →
    (text : List ℕ) → numbered n text ≡ cond (bytes_eq key text) (Some v) (numbered m text)
numbered_put m n key v updates text = put_at m n key v updates text

-- a table of no names
pub table_starts : {A S : Type 0} (name : ℕ → List ℕ) (m : HashMap (Vec ℕ A) ℕ S) → ((text : List ℕ) → numbered m text ≡ None) → IsTableOf name 0 m
table_starts name m none = record {
  sound = λ text n is. absurd (none_some (sym (none text) ∙ is));
  complete = λ n inside. absurd (omega arith);
}
  where
    none_some : {X : Type 0} {x : X} → None ≡ Some x → ⊥
    none_some e = cc

-- the next number's name
pub table_more : {A S : Type 0} (name : ℕ → List ℕ) (count : ℕ) (key : List ℕ) (m n : HashMap (Vec ℕ A) ℕ S) → IsTableOf name count m → key ≡ name count →
    ((text : List ℕ) → numbered n text ≡ cond (bytes_eq key text) (Some count) (numbered m text)) → IsTableOf name (count + 1) n
table_more name count key m n before is put = record {
  sound = λ text k found. sound text k (bytes_eq key text) refl (sym (put text) ∙ found);
  complete = λ k inside. complete k inside (bytes_eq key (name k)) refl (put (name k));
}
  where
    some_same : {X : Type 0} {x y : X} → Some x ≡ Some y → x ≡ y
    some_same e = cc

    not_both : {v : Bool} → v ≡ true → v ≡ false → ⊥
    not_both t f = cc

    sound : (text : List ℕ) (k : ℕ) (b : Bool) → bytes_eq key text ≡ b → cond b (Some count) (numbered m text) ≡ Some k → (k < count + 1) × (text ≡ name k)
    sound text k true e here =
        let last : count ≡ k = some_same here in (omega (arith, last), sym ((bytes_decides key text).0 e) ∙ is ∙ ap name last)
    sound text k false e there =
        let old = before.sound text k there in (omega (arith, old.0), old.1)

    complete : (k : ℕ) → k < count + 1 → (b : Bool) → bytes_eq key (name k) ≡ b → numbered n (name k) ≡ cond b (Some count) (numbered m (name k)) →
        IsSome (numbered n (name k))
    complete k inside true e here = subst (λ o. IsSome o) (sym here) refl
    complete k inside false e there =
        let other : k ≡ count → ⊥ = λ last. not_both ((bytes_decides key (name k)).1 (is ∙ ap name (sym last))) e in
        let old : k < count = omega (arith, inside, other) in
        subst (λ o. IsSome o) (sym there) (before.complete k old)

-- what has a name is found by it
pub missing : {A S : Type 0} (name : ℕ → List ℕ) (count : ℕ) (m : HashMap (Vec ℕ A) ℕ S) (text : List ℕ) → IsTableOf name count m → numbered m text ≡ None →
    (n : ℕ) → n < count → text ≡ name n → ⊥
missing name count m text table none n inside is =
    no_some (subst (λ t. IsSome (numbered m t)) (sym is) (table.complete n inside)) none
  where
    no_some : {X : Type 0} {o : Option X} → IsSome o → o ≡ None → ⊥
    no_some some e = cc

-- the name of an element that was read
pub name_read : {X : Type 0} (name : X → List ℕ) (xs : List X) (k : ℕ) (x : X) (key : List ℕ) → slice_get xs k ≡ Some x → key ≡ name x → key ≡ name_in name xs k
name_read name xs k x key at is = is ∙ sym (ap (λ o. option_map_or name o []) at)

-- what a table holds at a name is the place of an element of that name
pub entry_found : {A S X : Type 0} (name : X → List ℕ) (xs : List X) (m : HashMap (Vec ℕ A) ℕ S) (text : List ℕ) (n : ℕ) → IsTableOf (name_in name xs) (length xs) m →
    Some n ≡ numbered m text → (x : X) × (slice_get xs n ≡ Some x) × (text ≡ name x)
entry_found name xs m text n table is =
    let found = table.sound text n (sym is) in
    let x = element xs n found.0 in
    (x.0, x.1, found.1 ∙ ap (λ o. option_map_or name o []) x.1)

pub no_entry : {A S X : Type 0} (name : X → List ℕ) (xs : List X) (m : HashMap (Vec ℕ A) ℕ S) (text : List ℕ) → IsTableOf (name_in name xs) (length xs) m →
    None ≡ numbered m text → (n : ℕ) (x : X) → slice_get xs n ≡ Some x → text ≡ name x → ⊥
no_entry name xs m text table none n x at is =
    missing (name_in name xs) (length xs) m text table (sym none) n (slice_get_within xs n x at) (name_read name xs n x text at is)
