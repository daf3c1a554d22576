-- Classes that are found one by one.
use Rattle.std.proofs.Common.{◌≡◌, ◌<◌, ◌≤◌, ◌+◌, ◌-◌, ◌^◌, ◌⊎◌, ℕ, zero, suc, Bool, List, [], ◌∷◌, ◌++◌, length, get_or, refl, sym, ◌∙◌, subst, inl, inr, arith}
use Rattle.std.specs.Prelude.{◌↔◌}
use Rattle.std.specs.List.{All}
use Rattle.std.proofs.lemmas.Bool.{cases_lt}
use Rattle.std.proofs.lemmas.Option.{slice_get-get_or}
use Rattle.vtr_base.specs.Lists.{Has}
use Rattle.list_laws.specs.Orders.{Ordered}
use Rattle.list_laws.proofs.Members.{has_at, has_left, has_last, has_pushed}
use Rattle.joint_classes.specs.Classes.{ComesFirst, AreClassesBy}
use Rattle.joint_classes.specs.Members.{IsNext, Steps, Reaches, AreTables, AreClosed, IsSeen, Spreads, IsClassOf}
use Rattle.joint_classes.proofs.Pushing.{not_both}
use Rattle.joint_classes.proofs.Spreading.{seen_low}

-- the number stands in one of the classes
abbrev pub InSome : List (List ℕ) → ℕ → Type 0
InSome classes a = (class : List ℕ) × Has classes class × Has class a

-- the classes of the numbers below a limit
pub record AreFound (nexts prevs : List (List ℕ)) (count limit : ℕ) (seen : List Bool) (classes : List (List ℕ)) : Type 0 where
  pub long : length seen ≡ count
  pub in_some : (a : ℕ) → IsSeen seen a ↔ InSome classes a
  pub below : (a : ℕ) → a < limit → IsSeen seen a
  pub some : (class : List ℕ) → Has classes class → (a : ℕ) × Has class a × (a < limit)
  pub ascend : (class : List ℕ) → Has classes class → Ordered ◌<◌ class
  pub joined : (class : List ℕ) (a b : ℕ) → Has classes class → Has class a → Has class b ↔ Reaches nexts prevs a b
  pub order : Ordered ComesFirst classes

pub found_closed : (nexts prevs : List (List ℕ)) (count limit : ℕ) (seen : List Bool) (classes : List (List ℕ)) → AreFound nexts prevs count limit seen classes → AreClosed nexts prevs seen
found_closed nexts prevs count limit seen classes found a b is next =
    let c = (found.in_some a).0 is in
    (found.in_some b).1 (c.0, c.1, (found.joined c.0 a b c.1 c.2).1 (1, (b, next, refl)))

ordered_pushed : (xs : List (List ℕ)) (y : List ℕ) → Ordered ComesFirst xs → ((x : List ℕ) → Has xs x → ComesFirst x y) → Ordered ComesFirst (xs ++ y ∷ [])
ordered_pushed [] y order before = (λ z has. absurd has, tt)
ordered_pushed (x ∷ xs) y order before = (λ z has. by z (has_pushed xs y z has), ordered_pushed xs y order.1 (λ z has. before z (inr has)))
  where
    by : (z : List ℕ) → Has xs z ⊎ (z ≡ y) → ComesFirst x z
    by z (inl has) = order.0 z has
    by z (inr last) = subst (λ (w : List ℕ). ComesFirst x w) (sym last) (before x (inl refl))

module _ (nexts prevs : List (List ℕ)) where
  on : (steps a b c : ℕ) → Steps nexts prevs steps a b → IsNext nexts prevs b c → Steps nexts prevs (suc steps) a c
  on zero a b c same next = (c, subst (λ (k : ℕ). IsNext nexts prevs k c) (sym same) next, refl)
  on (suc steps) a b c (d, first, rest) next = (d, first, on steps d b c rest next)

  behind : (steps more a b c : ℕ) → Steps nexts prevs steps a b → Steps nexts prevs more b c → Reaches nexts prevs a c
  behind zero more a b c same way = (more, subst (λ (k : ℕ). Steps nexts prevs more k c) (sym same) way)
  behind (suc steps) more a b c (d, first, rest) way = let r = behind steps more d b c rest way in (suc r.0, (d, first, r.1))

  back : ((a b : ℕ) → IsNext nexts prevs a b → IsNext nexts prevs b a) → (steps a b : ℕ) → Steps nexts prevs steps a b → Steps nexts prevs steps b a
  back turned zero a b same = sym same
  back turned (suc steps) a b (d, first, rest) = on steps b d a (back turned steps d b rest) (turned a d first)

  stays : (members : List ℕ) → ((a b : ℕ) → Has members a → IsNext nexts prevs a b → Has members b) → (steps a b : ℕ) → Has members a → Steps nexts prevs steps a b → Has members b
  stays members closed zero a b has same = subst (λ (k : ℕ). Has members k) same has
  stays members closed (suc steps) a b has (d, first, rest) = stays members closed steps d b (closed a d has first) rest

module _ (nexts prevs : List (List ℕ)) (count limit : ℕ) (old : List Bool) (classes : List (List ℕ)) (tables : AreTables nexts prevs count) (found : AreFound nexts prevs count limit old classes) where
  -- a number that was seen
  pub found_same : IsSeen old limit → AreFound nexts prevs count (limit + 1) old classes
  found_same is = record {
    long = found.long;
    in_some = found.in_some;
    below = λ a low. below a low (cases_lt a limit);
    some = λ class has. let r = found.some class has in (r.0, r.1, omega (arith, r.2));
    ascend = found.ascend;
    joined = found.joined;
    order = found.order;
  }
    where
      below : (a : ℕ) → a < limit + 1 → (a < limit) ⊎ (limit ≤ a) → IsSeen old a
      below a low (inl less) = found.below a less
      below a low (inr past) = let same : limit ≡ a = omega (arith, low, past) in subst (λ (k : ℕ). IsSeen old k) same is

  module _ (new : List Bool) (members class : List ℕ) (spread : Spreads nexts prevs limit old new members) (of : IsClassOf members class) where
    to : (a : ℕ) → Has members a → Has class a
    to a has = of.same.back a has

    from : (a : ℕ) → Has class a → Has members a
    from a has = of.same.forth a has

    -- a number that wasn't, with its class
    pub found_more : (more : List (List ℕ)) → more ≡ classes ++ class ∷ [] → AreFound nexts prevs count (limit + 1) new more
    found_more more e = subst (λ (l : List (List ℕ)). AreFound nexts prevs count (limit + 1) new l) (sym e) (record {
      long = spread.long ∙ found.long;
      in_some = λ a. (λ is. forth a ((spread.seen a).0 is), λ h. back_in a h (has_pushed classes class h.0 h.1));
      below = λ a low. below a low (cases_lt a limit);
      some = λ c has. some c (has_pushed classes class c has);
      ascend = λ c has. ascend c (has_pushed classes class c has);
      joined = λ c a b has has_a. joined c a b (has_pushed classes class c has) has_a;
      order = ordered_pushed classes class found.order first;
    })
      where
        forth : (a : ℕ) → IsSeen old a ⊎ Has members a → InSome (classes ++ class ∷ []) a
        forth a (inl is) = let r = (found.in_some a).0 is in (r.0, has_left classes (class ∷ []) r.0 r.1, r.2)
        forth a (inr has) = (class, has_last classes class, to a has)

        back_in : (a : ℕ) → (h : InSome (classes ++ class ∷ []) a) → Has classes h.0 ⊎ (h.0 ≡ class) → IsSeen new a
        back_in a h (inl known) = (spread.seen a).1 (inl ((found.in_some a).1 (h.0, known, h.2)))
        back_in a h (inr last) = (spread.seen a).1 (inr (from a (subst (λ (c : List ℕ). Has c a) last h.2)))

        below : (a : ℕ) → a < limit + 1 → (a < limit) ⊎ (limit ≤ a) → IsSeen new a
        below a low (inl less) = (spread.seen a).1 (inl (found.below a less))
        below a low (inr past) =
            let same : limit ≡ a = omega (arith, low, past) in
            subst (λ (k : ℕ). IsSeen new k) same ((spread.seen limit).1 (inr spread.root_in))

        some : (c : List ℕ) → Has classes c ⊎ (c ≡ class) → (a : ℕ) × Has c a × (a < limit + 1)
        some c (inl has) = let r = found.some c has in (r.0, r.1, omega (arith, r.2))
        some c (inr last) = (limit, subst (λ (x : List ℕ). Has x limit) (sym last) (to limit spread.root_in), omega arith)

        ascend : (c : List ℕ) → Has classes c ⊎ (c ≡ class) → Ordered ◌<◌ c
        ascend c (inl has) = found.ascend c has
        ascend c (inr last) = subst (λ (x : List ℕ). Ordered ◌<◌ x) (sym last) of.ascend

        own : (a b : ℕ) → Has class a → Has class b ↔ Reaches nexts prevs a b
        own a b has_a = (
          λ has_b. (let ra = spread.reached a (from a has_a) in
              let rb = spread.reached b (from b has_b) in
              behind nexts prevs ra.0 rb.0 a limit b (back nexts prevs tables.turned ra.0 limit a ra.1) rb.1),
          λ reach. to b (stays nexts prevs members spread.closed reach.0 a b (from a has_a) reach.1),
        )

        joined : (c : List ℕ) (a b : ℕ) → Has classes c ⊎ (c ≡ class) → Has c a → Has c b ↔ Reaches nexts prevs a b
        joined c a b (inl has) has_a = found.joined c a b has has_a
        joined c a b (inr last) has_a =
            subst (λ (x : List ℕ). Has x b ↔ Reaches nexts prevs a b) (sym last) (own a b (subst (λ (x : List ℕ). Has x a) last has_a))

        above : (b : ℕ) → Has class b → (b < limit) ⊎ (limit ≤ b) → limit ≤ b
        above b has (inl less) = absurd (not_both old b (found.below b less) (spread.fresh b (from b has)))
        above b has (inr past) = past

        first : (c : List ℕ) → Has classes c → ComesFirst c class
        first c has =
            let r = found.some c has in
            (r.0, r.1, λ b in_class. let past = above b in_class (cases_lt b limit) in omega (arith, r.2, past))

pub members_low : (nexts prevs : List (List ℕ)) (root count : ℕ) (old new : List Bool) (members : List ℕ) → length old ≡ count → count < 2 ^ 32 - 1 → Spreads nexts prevs root old new members → All (λ n. n < 2 ^ 32 - 1) members
members_low nexts prevs root count old new members long few spread = λ k d low.
    (let below = seen_low new (get_or members k d) ((spread.seen (get_or members k d)).1 (inr (has_at members k (get_or members k d) (slice_get-get_or members k d low)))) in
    omega (arith, below, spread.long, long, few))

pub found_all : (nexts prevs : List (List ℕ)) (count limit : ℕ) (seen : List Bool) (classes : List (List ℕ)) → count ≤ limit → AreFound nexts prevs count limit seen classes → AreClassesBy (Reaches nexts prevs) count classes
found_all nexts prevs count limit seen classes past found = record {
  all = λ a low. (found.in_some a).0 (found.below a (omega (arith, low, past)));
  low = λ class a has has_a. let low = seen_low seen a ((found.in_some a).1 (class, has, has_a)) in omega (arith, low, found.long);
  some = λ class has. let r = found.some class has in (r.0, r.1);
  ascend = found.ascend;
  joined = found.joined;
  order = found.order;
}

pub none_found : (nexts prevs : List (List ℕ)) (count : ℕ) (seen : List Bool) → length seen ≡ count → ((a : ℕ) → IsSeen seen a → ⊥) → AreFound nexts prevs count 0 seen []
none_found nexts prevs count seen long none = record {
  long = long;
  in_some = λ a. (λ is. absurd (none a is), λ h. absurd h.1);
  below = λ a low. absurd (omega (arith, low));
  some = λ class has. absurd has;
  ascend = λ class has. absurd has;
  joined = λ class a b has. absurd has;
  order = tt;
}

pub classes_by : (F G : ℕ → ℕ → Type 0) (count : ℕ) (classes : List (List ℕ)) → ((a b : ℕ) → a < count → F a b ↔ G a b) → AreClassesBy F count classes → AreClassesBy G count classes
classes_by F G count classes same are = record {
  all = are.all;
  low = are.low;
  some = are.some;
  ascend = are.ascend;
  joined = λ class a b has has_a.
      (let low = are.low class a has has_a in
      (λ in_class. (same a b low).0 ((are.joined class a b has has_a).0 in_class), λ leads. (are.joined class a b has has_a).1 ((same a b low).1 leads)));
  order = are.order;
}
