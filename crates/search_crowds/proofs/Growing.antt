-- Lists that grow step by step.
use Rattle.std.proofs.Common.{◌≡◌, ◌+◌, ◌⊎◌, inl, inr, ℕ, List, [], ◌++◌, Some, slice_get, refl, sym, ap, ◌∙◌, subst, append_assoc, append-nil, arith}
use Rattle.std.proofs.lemmas.Bool.{cases_lt}
use Rattle.vtr_base.specs.Lists.{Has}
use Rattle.list_laws.proofs.Members.{has_left, has_either}
use Rattle.sparse_set.specs.Sets.{Held}
use Rattle.task_reach.specs.Gains.{Gains, FromFirst, FromItem}

-- a set that grows in a loop
pub record IsGrown (old now : Held) (From : ℕ → ℕ → Type 0) (n : ℕ) : Type 0 where
  pub gains : Gains old.items now.items (FromFirst From n)
  pub room : now.room ≡ old.room

pub gains_none : (xs : List ℕ) (P : ℕ → Type 0) → ((q : ℕ) → P q → ⊥) → Gains xs xs P
gains_none xs P none = record { more = []; is = sym (append-nil xs); each = λ q has. absurd has; all = λ q is. absurd (none q is) }

module _ (xs ys : List ℕ) (P Q : ℕ → Type 0) where
  pub gains_like : Gains xs ys P → ((q : ℕ) → P q → Q q) → ((q : ℕ) → Q q → P q) → Gains xs ys Q
  gains_like gains to from = record { more = gains.more; is = gains.is; each = λ q has. to q (gains.each q has); all = λ q is. gains.all q (from q is) }

  pub gains_both : (zs : List ℕ) → Gains xs ys P → Gains ys zs Q → Gains xs zs (λ q. P q ⊎ Q q)
  gains_both zs first second = record {
    more = first.more ++ second.more;
    is = second.is ∙ ap (λ l. l ++ second.more) first.is ∙ append_assoc xs first.more second.more;
    each = λ q has. elim (has_either first.more second.more q has) [ inl here ↦ inl (first.each q here) | inr there ↦ inr (second.each q there) ];
    all = λ q is. elim is [
      | inl p ↦ subst (λ l. Has l q) (sym second.is) (has_left ys second.more q (first.all q p))
      | inr later ↦ second.all q later
    ];
  }

pub loop_none : (xs : List ℕ) (From : ℕ → ℕ → Type 0) → Gains xs xs (FromFirst From 0)
loop_none xs From = gains_none xs (FromFirst From 0) (λ q from. omega (arith, from.before))

pub loop_more : (xs ys zs : List ℕ) (From : ℕ → ℕ → Type 0) (n : ℕ) → Gains xs ys (FromFirst From n) → Gains ys zs (From n) → Gains xs zs (FromFirst From (n + 1))
loop_more xs ys zs From n before here =
    gains_like xs zs (λ q. FromFirst From n q ⊎ From n q) (FromFirst From (n + 1)) (gains_both xs ys (FromFirst From n) (From n) zs before here)
    (λ q is. elim is [
      | inl old ↦ record { place = old.place; before = omega (arith, old.before); from = old.from }
      | inr new ↦ record { place = n; before = omega arith; from = new }
    ])
    (λ q is. elim (cases_lt is.place n) [
      | inl less ↦ inl (record { place = is.place; before = less; from = is.from })
      | inr met ↦ inr (let same : is.place ≡ n = omega (arith, met, is.before) in subst (λ k. From k q) same is.from)
    ])

pub grown_none : (old : Held) (From : ℕ → ℕ → Type 0) → IsGrown old old From 0
grown_none old From = record { gains = loop_none old.items From; room = refl }

pub grown_more : (old now new : Held) (From : ℕ → ℕ → Type 0) (n : ℕ) → IsGrown old now From n → Gains now.items new.items (From n) → new.room ≡ now.room → IsGrown old new From (n + 1)
grown_more old now new From n grown gains room = record { gains = loop_more old.items now.items new.items From n grown.gains gains; room = room ∙ grown.room }

-- the same where a list's element is at hand
pub item_more : {X : Type 0} (items : List X) (Of : X → ℕ → Type 0) (old now new : Held) (n : ℕ) (x : X) → slice_get items n ≡ Some x → IsGrown old now (FromItem items Of) n → Gains now.items new.items (Of x) → new.room ≡ now.room →
    IsGrown old new (FromItem items Of) (n + 1)
item_more items Of old now new n x at grown gains room =
    grown_more old now new (FromItem items Of) n grown
    (gains_like now.items new.items (Of x) (FromItem items Of n) gains
    (λ q is. record { item = x; is = at; from = is })
    (λ q is. let same : is.item ≡ x = cc (sym is.is ∙ at) in subst (λ y. Of y q) same is.from))
    room
