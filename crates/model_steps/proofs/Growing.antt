-- Nets that lines mention: names of nets, each once, numbered by first mention.
use Rattle.std.proofs.Common.{◌≡◌, ◌<◌, ◌≤◌, ◌+◌, ◌⊎◌, inl, inr, ℕ, suc, List, [], ◌∷◌, ◌++◌, Some, length, length-append, append_assoc, append-nil, sym, ap, ◌∙◌, subst, arith}
use Rattle.std.specs.Prelude.{slice_get}
use Rattle.std.specs.List.{All, AllZip}
use Rattle.std.proofs.lemmas.List.Elements.{All-nil, All-cons, All-head, All-tail, All-append}
use Rattle.std.proofs.lemmas.Option.{slice_get_within}
use Rattle.vtr_base.specs.Lists.{Has}
use Rattle.list_laws.specs.Orders.{Once}
use Rattle.list_laws.proofs.Members.{has_at}
use Rattle.list_laws.proofs.Onces.{once_pushed}
use Rattle.list_laws.proofs.Places.{get_front, get_either}
use Rattle.names.specs.Naming.{AddsName}
use Rattle.net_types.specs.Words.{IsNetName}
use Rattle.net_types.specs.Merges.{Mention}
use Rattle.blif_nets.specs.Growth.{AddsAll}
use Rattle.blif_nets.specs.Mentions.{NumbersAll}

-- lists to which elements are added that don't stand there

pub record IsAdded {X : Type 0} (old xs new : List X) : Type 0 where
  pub is : new ≡ old ++ xs
  pub once : Once new

pub added : {X : Type 0} (old xs new : List X) → Once old → AddsAll old xs new → IsAdded old xs new
added old [] new once adds = record { is = adds ∙ sym (append-nil old); once = subst Once (sym adds) once }
added old (x ∷ xs) new once adds =
    let rest = added (old ++ x ∷ []) xs new (once_pushed old x once adds.0) adds.1 in
    record { is = rest.is ∙ append_assoc old (x ∷ []) xs; once = rest.once }

-- one net

pub record IsGrownBy (old : List (List ℕ)) (name : List ℕ) (new : List (List ℕ)) (number : ℕ) : Type 0 where
  pub more : List (List ℕ)
  pub is : new ≡ old ++ more
  pub each : All IsNetName new
  pub once : Once new
  pub at : slice_get new number ≡ Some name
  pub either : ((number < length old) × (length new ≡ length old)) ⊎ ((number ≡ length old) × (length new ≡ suc (length old)))

last_place : (old : List (List ℕ)) (name : List ℕ) (number : ℕ) → (Has old name → ⊥) → slice_get (old ++ name ∷ []) number ≡ Some name → number ≡ length old
last_place old name number fresh at = elim (get_either old (name ∷ []) number name at) [
  | inl front ↦ absurd (fresh (has_at old number name front))
  | inr last ↦ omega (arith, last.1, slice_get_within (name ∷ []) last.0 name last.2)
]

grown_by : (old : List (List ℕ)) (name : List ℕ) (new : List (List ℕ)) (number : ℕ) → All IsNetName old → Once old → IsNetName name → slice_get new number ≡ Some name → AddsName old name new →
    IsGrownBy old name new number
grown_by old name new number each once net at (inl known) = record {
  more = [];
  is = known.1 ∙ sym (append-nil old);
  each = subst (All IsNetName) (sym known.1) each;
  once = subst Once (sym known.1) once;
  at = at;
  either = inl (slice_get_within old number name (subst (λ l. slice_get l number ≡ Some name) known.1 at), ap length known.1);
}
grown_by old name new number each once net at (inr fresh) = record {
  more = name ∷ [];
  is = fresh.1;
  each = subst (All IsNetName) (sym fresh.1) (All-append IsNetName old (name ∷ []) each (All-cons IsNetName name [] net (All-nil IsNetName)));
  once = subst Once (sym fresh.1) (once_pushed old name once fresh.0);
  at = at;
  either = inr (last_place old name number fresh.0 (subst (λ l. slice_get l number ≡ Some name) fresh.1 at), omega (arith, ap length fresh.1, length-append old (name ∷ [])));
}

-- nets one after the other

abbrev pub AreAt : List (List ℕ) → List (List ℕ) → List ℕ → Type 0
AreAt nets names numbers = AllZip (λ name number. slice_get nets number ≡ Some name) names numbers

pub record IsGrown (old names new : List (List ℕ)) (numbers : List ℕ) : Type 0 where
  pub more : List (List ℕ)
  pub is : new ≡ old ++ more
  pub each : All IsNetName new
  pub once : Once new
  pub few : length new ≤ length old + length names
  pub mention : Mention (length old) numbers (length new)
  pub are : AreAt new names numbers

mention_first : (old next : ℕ) (number : ℕ) (others : List ℕ) (new : ℕ) → ((number < old) × (next ≡ old)) ⊎ ((number ≡ old) × (next ≡ suc old)) → Mention next others new →
    Mention old (number ∷ others) new
mention_first old next number others new (inl known) rest = inl (known.0, subst (λ n. Mention n others new) known.1 rest)
mention_first old next number others new (inr fresh) rest = inr (fresh.0, subst (λ n. Mention n others new) fresh.1 rest)

few_more : (old next : ℕ) (number : ℕ) → ((number < old) × (next ≡ old)) ⊎ ((number ≡ old) × (next ≡ suc old)) → next ≤ old + 1
few_more old next number (inl known) = omega (arith, known.1)
few_more old next number (inr fresh) = omega (arith, fresh.1)

pub grown : (old names new : List (List ℕ)) (numbers : List ℕ) → All IsNetName old → Once old → All IsNetName names → NumbersAll old names new numbers → IsGrown old names new numbers
grown old [] new numbers each once nets all = record {
  more = [];
  is = all.0 ∙ sym (append-nil old);
  each = subst (All IsNetName) (sym all.0) each;
  once = subst Once (sym all.0) once;
  few = omega (arith, ap length all.0);
  mention = subst (λ ns. Mention (length old) ns (length new)) (sym all.1) (ap length all.0);
  are = subst (AreAt new []) (sym all.1) tt;
}
grown old (name ∷ names) new numbers each once nets all =
    let next = all.0 in
    let number = all.1 in
    let others = all.2 in
    let one = grown_by old name next number each once (All-head IsNetName name names nets) all.3.at.there all.3.adds in
    let rest = grown next names new others one.each one.once (All-tail IsNetName name names nets) all.5 in
    record {
      more = one.more ++ rest.more;
      is = rest.is ∙ (ap (λ l. l ++ rest.more) one.is ∙ append_assoc old one.more rest.more);
      each = rest.each;
      once = rest.once;
      few = omega (arith, rest.few, few_more (length old) (length next) number one.either);
      mention = subst (λ ns. Mention (length old) ns (length new)) (sym all.4) (mention_first (length old) (length next) number others (length new) one.either rest.mention);
      are = subst (AreAt new (name ∷ names)) (sym all.4) (subst (λ l. slice_get l number ≡ Some name) (sym rest.is) (get_front next rest.more number name one.at), rest.are);
    }
