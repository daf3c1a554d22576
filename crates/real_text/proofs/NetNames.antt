-- The names of a task's nets.
use Rattle.std.proofs.Common.{◌≡◌, ◌+◌, ◌-◌, ◌<◌, ◌≤◌, ◌^◌, ℕ, zero, suc, List, [], ◌∷◌, ◌++◌, Option, Some, None, length, map, slice_get, take, refl, sym, ap, subst, ◌∙◌, arith}
use Rattle.std.specs.Option.{option_map, unwrap_or}
use Rattle.std.proofs.lemmas.Option.{slice_get-map, slice_get_within, get_or_from_slice_get}
use Rattle.std.proofs.lemmas.List.{take_more, length-map, length-take}
use Rattle.vtr_base.specs.Lists.{Has}
use Rattle.list_laws.specs.Orders.{Once, StandOnce}
use Rattle.list_laws.proofs.Counting.{no_longer}
use Rattle.list_laws.proofs.Members.{has_at, at_has}
use Rattle.list_laws.proofs.Onces.{once_at, once_of}
use Rattle.list_laws.proofs.Places.{element}
use Rattle.task_types.specs.declared.task.Task.{Task}
use Rattle.task_types.specs.declared.task.TaskNet.{TaskNet}
use Rattle.real_lines.specs.Nets.{HasNets, net_names}

-- the name of a net of the task
abbrev name_of : List (List ℕ) → TaskNet → List ℕ
name_of nets of = unwrap_or (slice_get nets of.net) []

-- the net behind a place of the task, and its name
record Named (nets : List (List ℕ)) (t : Task) (place : ℕ) (name : List ℕ) : Type 0 where
  pub of : TaskNet
  pub listed : slice_get t.nets place ≡ Some of
  pub is : slice_get nets of.net ≡ Some name

named : (nets : List (List ℕ)) (t : Task) → HasNets nets t → (place : ℕ) (name : List ℕ) → slice_get (net_names nets t) place ≡ Some name → Named nets t place name
named nets t has place name at = by (slice_get t.nets place) refl (sym (slice_get-map (name_of nets) t.nets place) ∙ at)
  where
    by : (o : Option TaskNet) → slice_get t.nets place ≡ o → option_map (name_of nets) o ≡ Some name → Named nets t place name
    by None e is = absurd (cc)
    by (Some of) e is =
        let x = element nets of.net (has.there place of e) in
        let text : name_of nets of ≡ x.0 = ap (λ o. unwrap_or o []) x.1 in
        record { of = of; listed = e; is = x.1 ∙ ap Some (sym text ∙ one is) }
      where
        one : {x y : List ℕ} → Some x ≡ Some y → x ≡ y
        one e = cc

-- the names differ, since those of the netlist do
pub nets_once : (nets : List (List ℕ)) (t : Task) → HasNets nets t → Once nets → StandOnce (net_names nets t)
nets_once nets t has once i j name at_i at_j =
    let a = named nets t has i name at_i in
    let b = named nets t has j name at_j in
    has.once.once i j a.of b.of a.listed b.listed (once_at nets once a.of.net b.of.net name a.is b.is)

-- there are no more than in the netlist
nets_few : (nets : List (List ℕ)) (t : Task) → HasNets nets t → Once nets → length nets < 2 ^ 32 - 1 → length t.nets < 2 ^ 32 - 1
nets_few nets t has once few =
    let less = no_longer (net_names nets t) nets (once_of (net_names nets t) (nets_once nets t has once)) (λ x h. among x (at_has (net_names nets t) x h)) in
    omega (arith, less, few, length-map t.nets (name_of nets))
  where
    among : (x : List ℕ) → (k : ℕ) × (slice_get (net_names nets t) k ≡ Some x) → Has nets x
    among x at = let n = named nets t has at.0 x at.1 in has_at nets n.of.net x n.is

pub names_few : (nets : List (List ℕ)) (t : Task) → HasNets nets t → Once nets → length nets < 2 ^ 32 - 1 → length (net_names nets t) < 2 ^ 32 - 1
names_few nets t has once few = omega (arith, nets_few nets t has once few, length-map t.nets (name_of nets))

-- the name that was read at a place
pub read_name : (nets : List (List ℕ)) (t : Task) (place : ℕ) (of : TaskNet) (name text : List ℕ) → slice_get t.nets place ≡ Some of → slice_get nets of.net ≡ Some name →
    text ≡ name → slice_get (net_names nets t) place ≡ Some text
read_name nets t place of name text listed is reads =
    slice_get-map (name_of nets) t.nets place ∙ ap (option_map (name_of nets)) listed ∙ ap (λ o. Some (unwrap_or o [])) is ∙ ap Some (sym reads)

-- a place in the front of a list
front_at : {X : Type 0} (xs : List X) (k i : ℕ) (x : X) → slice_get (take k xs) i ≡ Some x → (i < k) × (slice_get xs i ≡ Some x)
front_at xs zero i x at = absurd (cc)
front_at [] (suc k) i x at = absurd (cc)
front_at (y ∷ ys) (suc k) zero x at = (omega arith, at)
front_at (y ∷ ys) (suc k) (suc i) x at = let r = front_at ys k i x at in (omega (arith, r.0), r.1)

pub fresh_name : (names so_far : List (List ℕ)) (k : ℕ) (name : List ℕ) → StandOnce names → slice_get names k ≡ Some name → so_far ≡ take k names → Has so_far name → ⊥
fresh_name names so_far k name once at is has =
    let there = at_has so_far name has in
    let front = front_at names k there.0 name (ap (λ l. slice_get l there.0) (sym is) ∙ there.1) in
    absurd (omega (arith, front.0, once there.0 k name front.1 at))

pub next_name : (names so_far new : List (List ℕ)) (k : ℕ) (name : List ℕ) → slice_get names k ≡ Some name → so_far ≡ take k names → new ≡ so_far ++ name ∷ [] →
    new ≡ take (k + 1) names
next_name names so_far new k name at is added =
    added ∙ ap (λ l. l ++ name ∷ []) is ∙
    sym (take_more names k name (slice_get_within names k name at) ∙ ap (λ y. take k names ++ y ∷ []) (get_or_from_slice_get names k name name at))

pub few_so_far : (names so_far : List (List ℕ)) (k : ℕ) → so_far ≡ take k names → length names < 2 ^ 32 - 1 → length so_far < 2 ^ 32 - 1
few_so_far names so_far k is few = omega (arith, ap length is, length-take k names, few)
