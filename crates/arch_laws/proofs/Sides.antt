-- The ports on one side of an element, by its children.
use Rattle.std.proofs.Common.{◌≡◌, ℕ, suc, Bool, true, false, List, [], ◌∷◌, ◌++◌, Some, None, codes, refl, sym, ◌∙◌, ap, subst, arith, cond, if◌then◌else◌, map, length, slice_get}
use Rattle.std.specs.Prelude.{filter}
use Rattle.std.specs.List.{flat_map}
use Rattle.std.specs.Str.{bytes_eq}
use Rattle.std.proofs.lemmas.Bool.{true≢false}
use Rattle.std.proofs.lemmas.List.Elements.{filter-append}
use Rattle.std.proofs.lemmas.List.Sums.{length-filter}
use Rattle.arch_types.specs.declared.block.Port.{Port}
use Rattle.arch_types.specs.declared.block.Side.{Side}
use Rattle.arch_types.specs.declared.block.Side.TheVariants.{Input, Output, Clock}
use Rattle.elem_text.specs.declared.elem.Elem.{Elem}
use Rattle.elem_attrs.specs.Attributes.{has_tag}
use Rattle.arch_build.specs.Said.{port_of, said_port}
use Rattle.arch_rules.specs.Elements.{name_of, kids_of, is_named, how_many}
use Rattle.arch_types.specs.Blocks.{is_on, ports_on}
use Rattle.arch_laws.proofs.Lists.{map_append}
use Rattle.arch_laws.proofs.Roles.{tag_is}
use Rattle.arch_laws.proofs.Ports.{word_of, port_with}

-- a tag is one word alone
not_both : (e : Elem) (a b : List ℕ) → bytes_eq a b ≡ false → has_tag e a ≡ true → has_tag e b ≡ false
not_both e a b other is = subst (λ n. bytes_eq n b ≡ false) (sym (tag_is e a is)) other

said_by : Elem → Bool → Bool → Bool → List Port
said_by e a b c = port_of (if a then Some Input else if b then Some Output else if c then Some Clock else None) e

module _ (e : Elem) where
  by_input : (a b c : Bool) → ports_on Input (said_by e a b c) ≡ map (port_with Input) (cond a (e ∷ []) [])
  unfolding said_by
  by_input true b c = refl
  by_input false true c = refl
  by_input false false true = refl
  by_input false false false = refl

  by_output : (a b c : Bool) → (a ≡ true → b ≡ false) → ports_on Output (said_by e a b c) ≡ map (port_with Output) (cond b (e ∷ []) [])
  unfolding said_by
  by_output true true c apart = absurd (true≢false (apart refl))
  by_output true false c apart = refl
  by_output false true c apart = refl
  by_output false false true apart = refl
  by_output false false false apart = refl

  by_clock : (a b c : Bool) → (a ≡ true → c ≡ false) → (b ≡ true → c ≡ false) → ports_on Clock (said_by e a b c) ≡ map (port_with Clock) (cond c (e ∷ []) [])
  unfolding said_by
  by_clock true b true apart apart' = absurd (true≢false (apart refl))
  by_clock true b false apart apart' = refl
  by_clock false true true apart apart' = absurd (true≢false (apart' refl))
  by_clock false true false apart apart' = refl
  by_clock false false true apart apart' = refl
  by_clock false false false apart apart' = refl

one_side : (s : Side) (e : Elem) → ports_on s (said_port e) ≡ map (port_with s) (filter (is_named (word_of s)) (e ∷ []))
unfolding said_by
one_side Input e = by_input e (has_tag e (codes "input")) (has_tag e (codes "output")) (has_tag e (codes "clock"))
one_side Output e =
    by_output e (has_tag e (codes "input")) (has_tag e (codes "output")) (has_tag e (codes "clock")) (not_both e (codes "input") (codes "output") refl)
one_side Clock e =
    by_clock e (has_tag e (codes "input")) (has_tag e (codes "output")) (has_tag e (codes "clock")) (not_both e (codes "input") (codes "clock") refl)
    (not_both e (codes "output") (codes "clock") refl)

pub on_side : (s : Side) (kids : List Elem) → ports_on s (flat_map said_port kids) ≡ map (port_with s) (filter (is_named (word_of s)) kids)
on_side s [] = refl
on_side s (e ∷ kids) =
    filter-append (λ p. is_on s p.side) (said_port e) (flat_map said_port kids)
    ∙ ap (λ l. l ++ ports_on s (flat_map said_port kids)) (one_side s e)
    ∙ ap (λ l. map (port_with s) (filter (is_named (word_of s)) (e ∷ [])) ++ l) (on_side s kids)
    ∙ sym (map_append (port_with s) (filter (is_named (word_of s)) (e ∷ [])) (filter (is_named (word_of s)) kids))
    ∙ ap (λ l. map (port_with s) l) (sym (filter-append (is_named (word_of s)) (e ∷ []) kids))

pub no_ports : (l : List Elem) → length l ≡ 0 → l ≡ []
no_ports [] is = refl
no_ports (e ∷ l) is = absurd (omega (arith, is))

-- where there is no child of that name
pub none_on : (s : Side) (e : Elem) → how_many (word_of s) e ≡ 0 → ports_on s (flat_map said_port (kids_of e)) ≡ []
none_on s e is =
    on_side s (kids_of e) ∙ ap (λ l. map (port_with s) l) (no_ports (filter (is_named (word_of s)) (kids_of e)) (length-filter (is_named (word_of s)) (kids_of e) ∙ is))

-- a child by its place
pub record IsChild (kids : List Elem) (name : List ℕ) (kid : Elem) : Type 0 where
  pub place : ℕ
  pub there : slice_get kids place ≡ Some kid
  pub named : name_of kid ≡ name

later_child : (first : Elem) (kids : List Elem) (name : List ℕ) (kid : Elem) → IsChild kids name kid → IsChild (first ∷ kids) name kid
later_child first kids name kid is = record { place = suc is.place; there = is.there; named = is.named }

filtered : (name : List ℕ) (kids : List Elem) (kid : Elem) (rest : List Elem) → filter (is_named name) kids ≡ kid ∷ rest → IsChild kids name kid
filtered name [] kid rest is = absurd (cc)
filtered name (e ∷ kids) kid rest is = go (is_named name e) refl is (λ is'. filtered name kids kid rest is')
  where
    go : (b : Bool) → is_named name e ≡ b → cond b (e ∷ filter (is_named name) kids) (filter (is_named name) kids) ≡ kid ∷ rest →
        (filter (is_named name) kids ≡ kid ∷ rest → IsChild kids name kid) → IsChild (e ∷ kids) name kid
    go true tag same later =
        let first : e ≡ kid = cc in
        record { place = 0; there = ap (λ x. Some x) first; named = ap name_of (sym first) ∙ tag_is e name tag }
    go false tag same later = later_child e kids name kid (later same)

-- the one port on a side
pub record IsOneOn (s : Side) (e : Elem) : Type 0 where
  pub kid : Elem
  pub child : IsChild (kids_of e) (word_of s) kid
  pub only : ports_on s (flat_map said_port (kids_of e)) ≡ port_with s kid ∷ []

pub one_on : (s : Side) (e : Elem) → how_many (word_of s) e ≡ 1 → IsOneOn s e
one_on s e is = go (filter (is_named (word_of s)) (kids_of e)) refl (length-filter (is_named (word_of s)) (kids_of e) ∙ is)
  where
    go : (l : List Elem) → filter (is_named (word_of s)) (kids_of e) ≡ l → length l ≡ 1 → IsOneOn s e
    go [] same one = absurd (omega (arith, one))
    go (kid ∷ []) same one = record {
      kid = kid;
      child = filtered (word_of s) (kids_of e) kid [] same;
      only = on_side s (kids_of e) ∙ ap (λ l. map (port_with s) l) same;
    }
    go (kid ∷ second ∷ l) same one = absurd (omega (arith, one))
