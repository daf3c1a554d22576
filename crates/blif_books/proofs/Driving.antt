-- Nets that are driven, by name.
use Rattle.std.proofs.Common.{◌≡◌, ◌↔◌, inl, inr, ◌||◌, nat_eq, [], ◌∷◌, ◌++◌, ℕ, Bool, true, false, IsTrue, List, Option, Some, None, MatchOption, MatchBool, is_some, slice_get, refl, sym, ap, ◌∙◌, subst, arith}
use Rattle.std.specs.List.{list_any}
use Rattle.std.proofs.lemmas.Bool.{false≢true, or_cases}
use Rattle.std.proofs.lemmas.Bool.Decides.{nat_tests}
use Rattle.vtr_base.specs.Lists.{Has}
use Rattle.blif_nets.specs.Growth.{AddsAll, FindsKnown, HasKnown}
use Rattle.list_laws.specs.Orders.{Once}
use Rattle.list_laws.proofs.Members.{has_at, at_has}
use Rattle.list_laws.proofs.Onces.{once_at}
use Rattle.vtr_base.specs.declared.place.Place.{Place}
use Rattle.blif_errors.specs.declared.error.BlifError.TheVariants.{BadLine}
use Rattle.blif_books.specs.Books.{BookSaid, CantMake, IsDriven}

pub driven_by : (book : BookSaid) (name : List ℕ) (n : ℕ) (r : Bool) → Once book.nets → slice_get book.nets n ≡ Some name → (IsTrue r ↔ Has book.driven n) → IsTrue r ↔ IsDriven book name
driven_by book name n r once at same = (
  λ on. (n, at, same.0 on),
  λ driven. same.1 (subst (Has book.driven) (once_at book.nets once driven.0 n name driven.1 at) driven.2),
)

pub not_there : (book : BookSaid) (name : List ℕ) → ((n : ℕ) → slice_get book.nets n ≡ Some name → ⊥) → IsTrue false ↔ IsDriven book name
not_there book name none = (λ on. absurd (let e : false ≡ true = on in cc), λ driven. absurd (none driven.0 driven.1))

pub has_name : (names : List (List ℕ)) (name : List ℕ) (r : Option ℕ) (b : Bool) → b ≡ is_some r → MatchOption r ((n : ℕ) → slice_get names n ≡ Some name → ⊥) (λ n. slice_get names n ≡ Some name) → IsTrue b ↔ Has names name
has_name names name None b is finds = (λ on. absurd (let e : false ≡ true = sym is ∙ on in cc), λ has. (let place = at_has names name has in absurd (finds place.0 place.1)))
has_name names name (Some n) b is finds = (λ on. has_at names n name finds, λ has. is)

nat_same : (m n : ℕ) → nat_eq m n ≡ true → m ≡ n
nat_same m n e = grind (arith, nat_tests)

nat_itself : (m n : ℕ) → m ≡ n → nat_eq m n ≡ true
nat_itself m n e = grind (arith, nat_tests)

any_has : (keys : List ℕ) (key : ℕ) → list_any (nat_eq key) keys ≡ true → Has keys key
any_has [] key any = absurd (false≢true any)
any_has (k ∷ keys) key any =
    elim (or_cases (nat_eq key k) (list_any (nat_eq key) keys) any) [ inl here ↦ inl (nat_same key k here) | inr later ↦ inr (any_has keys key later) ]

has_any : (keys : List ℕ) (key : ℕ) → Has keys key → list_any (nat_eq key) keys ≡ true
has_any [] key has = absurd has
has_any (k ∷ keys) key (inl is) = ap (λ b. b || list_any (nat_eq key) keys) (nat_itself key k is)
has_any (k ∷ keys) key (inr later) = ap (λ b. nat_eq key k || b) (has_any keys key later) ∙ or_true (nat_eq key k)
  where
    or_true : (b : Bool) → (b || true) ≡ true
    or_true true = refl
    or_true false = refl

pub key_there : (keys : List ℕ) (key : ℕ) (r : Bool) → r ≡ list_any (nat_eq key) keys → IsTrue r ↔ Has keys key
key_there keys key r is = (λ on. any_has keys key (sym is ∙ on), λ has. is ∙ has_any keys key has)

pub known_in : (old xs : List ℕ) (x : ℕ) → FindsKnown old xs x → Has xs x
known_in old [] x known = absurd known
known_in old (y ∷ ys) x (inl here) = inl here.1
known_in old (y ∷ ys) x (inr later) = inr (known_in (old ++ y ∷ []) ys x later.1)

-- what is known of a value, by what it is

pub some_says : {A : Type 0} (o : Option A) (x : A) (N : Type 0) (P : A → Type 0) → o ≡ Some x → MatchOption o N P → P x
some_says o x N P is says = subst (λ r. MatchOption r N P) is says

pub none_says : {A : Type 0} (o : Option A) (N : Type 0) (P : A → Type 0) → o ≡ None → MatchOption o N P → N
none_says o N P is says = subst (λ r. MatchOption r N P) is says

pub false_says : (b : Bool) (P Q : Type 0) → b ≡ false → MatchBool b P Q → Q
false_says b P Q is says = subst (λ r. MatchBool r P Q) is says

pub names_again : (old : BookSaid) (driven : List ℕ) (atoms : List (List ℕ)) (place : Place) (all : List ℕ) → AddsAll old.driven driven all → HasKnown old.names atoms → CantMake old driven atoms place (BadLine place)
names_again old driven atoms place all drives known = inr (record { all = all; drives = drives; known = known; is = refl })
