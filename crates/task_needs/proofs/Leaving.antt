-- Nets that leave, one by one.
use Rattle.std.proofs.Common.{◌≡◌, ◌<◌, ◌≤◌, ◌+◌, ◌⊎◌, ℕ, List, [], ◌∷◌, ◌++◌, Some, IsSome, length, map, slice_get, get_or, refl, sym, ap, ◌∙◌, subst, inl, inr, arith}
use Rattle.std.proofs.lemmas.Bool.{cases_lt}
use Rattle.std.proofs.lemmas.List.{map-append}
use Rattle.std.proofs.lemmas.Option.{slice_get_within, slice_get-get_or}
use Rattle.vtr_base.specs.Lists.{Has}
use Rattle.list_laws.specs.Orders.{Ordered}
use Rattle.list_laws.proofs.Members.{has_left, has_last, has_pushed}
use Rattle.task_types.specs.declared.task.TaskNet.{TaskNet}
use Rattle.task_types.specs.declared.task.Need.{Need}
use Rattle.task_types.specs.declared.task.Need.TheVariants as need
use Rattle.task_types.specs.Ends.{net_of}
use Rattle.task_rules.specs.Needs.{IsMadeInside}
use Rattle.task_needs.specs.Plain.{IsPlainLeave, ArePlainLeaves}

-- the nets at the places before `limit`
pub record LeaveBefore (nets : List TaskNet) (limit : ℕ) (needs : List Need) : Type 0 where
  pub ascend : Ordered ◌<◌ (map net_of needs)
  pub each : (asked : Need) → Has needs asked → IsPlainLeave asked
  pub low : (net : ℕ) → Has (map net_of needs) net → net < limit
  pub made : (net : ℕ) → Has (map net_of needs) net → IsMadeInside nets net
  pub all : (net : ℕ) → net < limit → IsMadeInside nets net → Has (map net_of needs) net

pub none_leave : (nets : List TaskNet) → LeaveBefore nets 0 []
none_leave nets = record {
  ascend = tt;
  each = λ asked has. absurd has;
  low = λ net has. absurd has;
  made = λ net has. absurd has;
  all = λ net low is. absurd (omega (arith, low));
}

ordered_on : (xs : List ℕ) (y : ℕ) → Ordered ◌<◌ xs → ((x : ℕ) → Has xs x → x < y) → Ordered ◌<◌ (xs ++ y ∷ [])
ordered_on [] y order before = (λ z has. absurd has, tt)
ordered_on (x ∷ xs) y order before = (λ z has. by z (has_pushed xs y z has), ordered_on xs y order.1 (λ z has. before z (inr has)))
  where
    by : (z : ℕ) → Has xs z ⊎ (z ≡ y) → x < z
    by z (inl has) = order.0 z has
    by z (inr last) = let less = before x (inl refl) in omega (arith, less, last)

module _ (nets : List TaskNet) (limit : ℕ) (needs : List Need) (leave : LeaveBefore nets limit needs) (of : TaskNet) (at : slice_get nets limit ≡ Some of) where
  -- the next net is driven inside
  pub leave_more : IsSome of.maker → (more : List Need) → more ≡ needs ++ need.Leave limit ∷ [] → LeaveBefore nets (limit + 1) more
  leave_more made more e = subst (λ (l : List Need). LeaveBefore nets (limit + 1) l) (sym e) here
    where
      nets_are : map net_of (needs ++ need.Leave limit ∷ []) ≡ map net_of needs ++ limit ∷ []
      nets_are = map-append net_of needs (need.Leave limit ∷ [])

      cut : (net : ℕ) → Has (map net_of (needs ++ need.Leave limit ∷ [])) net → Has (map net_of needs) net ⊎ (net ≡ limit)
      cut net has = has_pushed (map net_of needs) limit net (subst (λ (l : List ℕ). Has l net) nets_are has)

      each : (asked : Need) → Has needs asked ⊎ (asked ≡ need.Leave limit) → IsPlainLeave asked
      each asked (inl has) = leave.each asked has
      each asked (inr last) = subst (λ (x : Need). IsPlainLeave x) (sym last) tt

      low : (net : ℕ) → Has (map net_of needs) net ⊎ (net ≡ limit) → net < limit + 1
      low net (inl has) = let l = leave.low net has in omega (arith, l)
      low net (inr last) = omega (arith, last)

      is_made : (net : ℕ) → Has (map net_of needs) net ⊎ (net ≡ limit) → IsMadeInside nets net
      is_made net (inl has) = leave.made net has
      is_made net (inr last) = subst (λ (k : ℕ). IsMadeInside nets k) (sym last) (record { of = of; is = at; made = made })

      all : (net : ℕ) → net < limit + 1 → IsMadeInside nets net → (net < limit) ⊎ (limit ≤ net) → Has (map net_of needs ++ limit ∷ []) net
      all net below is (inl less) = has_left (map net_of needs) (limit ∷ []) net (leave.all net less is)
      all net below is (inr past) = let last : limit ≡ net = omega (arith, below, past) in subst (λ (k : ℕ). Has (map net_of needs ++ limit ∷ []) k) last (has_last (map net_of needs) limit)

      here : LeaveBefore nets (limit + 1) (needs ++ need.Leave limit ∷ [])
      here = record {
        ascend = subst (λ (l : List ℕ). Ordered ◌<◌ l) (sym nets_are) (ordered_on (map net_of needs) limit leave.ascend leave.low);
        each = λ asked has. each asked (has_pushed needs (need.Leave limit) asked has);
        low = λ net has. low net (cut net has);
        made = λ net has. is_made net (cut net has);
        all = λ net below is. subst (λ (l : List ℕ). Has l net) (sym nets_are) (all net below is (cases_lt net limit));
      }

  -- the next net comes from outside
  pub leave_same : (IsSome of.maker → ⊥) → LeaveBefore nets (limit + 1) needs
  leave_same outside = record {
    ascend = leave.ascend;
    each = leave.each;
    low = λ net has. let l = leave.low net has in omega (arith, l);
    made = leave.made;
    all = λ net below is. all net below is (cases_lt net limit);
  }
    where
      all : (net : ℕ) → net < limit + 1 → IsMadeInside nets net → (net < limit) ⊎ (limit ≤ net) → Has (map net_of needs) net
      all net below is (inl less) = leave.all net less is
      all net below is (inr past) =
          let last : net ≡ limit = omega (arith, below, past) in
          let e : Some is.of ≡ Some of = sym is.is ∙ ap (λ (k : ℕ). slice_get nets k) last ∙ at in
          let same : is.of ≡ of = cc e in
          absurd (outside (subst (λ (x : TaskNet). IsSome x.maker) same is.made))

pub leave_all : (nets : List TaskNet) (limit : ℕ) (needs : List Need) → length nets ≤ limit → LeaveBefore nets limit needs → ArePlainLeaves nets needs
leave_all nets limit needs past leave = record {
  ascend = leave.ascend;
  each = leave.each;
  made = leave.made;
  all = λ net is. leave.all net (let low = slice_get_within nets net is.of is.is in omega (arith, low, past)) is;
}

pub net_there : (nets : List TaskNet) (k : ℕ) (d : TaskNet) → k < length nets → slice_get nets k ≡ Some (get_or nets k d)
net_there nets k d low = slice_get-get_or nets k d low
