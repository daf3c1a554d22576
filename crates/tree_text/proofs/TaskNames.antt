-- The names of a task's atoms.
use Rattle.std.proofs.Common.{◌≡◌, ◌+◌, ◌<◌, ℕ, zero, suc, List, [], ◌∷◌, ◌++◌, Option, Some, None, length, map, slice_get, slice_index_or, take, refl, sym, ap, subst, ◌∙◌, arith}
use Rattle.std.specs.Option.{option_map, option_map_or}
use Rattle.std.proofs.lemmas.Option.{slice_get-map, slice_get_read, slice_get_within, get_or_from_slice_get, slice_get-get_or}
use Rattle.std.proofs.lemmas.List.{take_more}
use Rattle.vtr_base.specs.Lists.{Has}
use Rattle.list_laws.specs.Orders.{Once, StandOnce}
use Rattle.list_laws.proofs.Members.{at_has}
use Rattle.list_laws.proofs.Onces.{once_at}
use Rattle.list_laws.proofs.Places.{element}
use Rattle.net_types.specs.declared.atom.Atom.{Atom}
use Rattle.task_types.specs.declared.task.Task.{Task}
use Rattle.tree_lines.specs.Nodes.{task_names}
use Rattle.tree_text.specs.Text.{HasAtoms}

-- the atom behind a place of the task, and its name
pub record Named (atoms : List Atom) (t : Task) (place : ℕ) (name : List ℕ) : Type 0 where
  pub number : ℕ
  pub listed : slice_get t.atoms place ≡ Some number
  pub atom : Atom
  pub is : slice_get atoms number ≡ Some atom
  pub same : atom.name ≡ name

pub named : (atoms : List Atom) (t : Task) → HasAtoms atoms t → (place : ℕ) (name : List ℕ) → slice_get (task_names atoms t) place ≡ Some name → Named atoms t place name
named atoms t has place name at = by (slice_get t.atoms place) refl (sym (slice_get-map (λ (n : ℕ). option_map_or (λ (a : Atom). a.name) (slice_get atoms n) []) t.atoms place) ∙ at)
  where
    by : (o : Option ℕ) → slice_get t.atoms place ≡ o → option_map (λ (n : ℕ). option_map_or (λ (a : Atom). a.name) (slice_get atoms n) []) o ≡ Some name → Named atoms t place name
    by None e is = absurd (cc)
    by (Some n) e is =
        let a = element atoms n (has.there place n e) in
        let text : option_map_or (λ (a : Atom). a.name) (slice_get atoms n) [] ≡ a.0.name = ap (λ o. option_map_or (λ (a : Atom). a.name) o []) a.1 in
        record { number = n; listed = e; atom = a.0; is = a.1; same = sym text ∙ one is }
      where
        one : {x y : List ℕ} → Some x ≡ Some y → x ≡ y
        one e = cc

-- the names differ, since those of the netlist do
pub names_once : (atoms : List Atom) (t : Task) → HasAtoms atoms t → Once (map (λ (a : Atom). a.name) atoms) → StandOnce (task_names atoms t)
names_once atoms t has once i j name at_i at_j =
    let a = named atoms t has i name at_i in
    let b = named atoms t has j name at_j in
    let names = map (λ (a : Atom). a.name) atoms in
    let in_a : slice_get names a.number ≡ Some name = slice_get-map (λ (a : Atom). a.name) atoms a.number ∙ ap (option_map (λ (a : Atom). a.name)) a.is ∙ ap Some a.same in
    let in_b : slice_get names b.number ≡ Some name = slice_get-map (λ (a : Atom). a.name) atoms b.number ∙ ap (option_map (λ (a : Atom). a.name)) b.is ∙ ap Some b.same in
    let same : a.number ≡ b.number = once_at names once a.number b.number name in_a in_b in
    has.once i j b.number (a.listed ∙ ap (λ (n : ℕ). Some n) same) b.listed

-- the name that was read at a place
pub read_name : (atoms : List Atom) (t : Task) → HasAtoms atoms t → (numbers : List ℕ) (all : List Atom) (place d : ℕ) (atom : Atom) (text : List ℕ) → numbers ≡ t.atoms → all ≡ atoms →
    place < length numbers → atom ≡ slice_index_or all (slice_index_or numbers place d) atom → text ≡ atom.name → slice_get (task_names atoms t) place ≡ Some text
read_name atoms t has numbers all place d atom text are are_all inside is reads =
    let number = slice_index_or numbers place d in
    let at : slice_get t.atoms place ≡ Some number = ap (λ l. slice_get l place) (sym are) ∙ slice_get-get_or numbers place d inside in
    let there : number < length all = subst (λ (l : List Atom). number < length l) (sym are_all) (has.there place number at) in
    let found : slice_get atoms number ≡ Some atom = ap (λ (l : List Atom). slice_get l number) (sym are_all) ∙ slice_get_read all (length all) number atom refl there is in
    slice_get-map (λ (n : ℕ). option_map_or (λ (a : Atom). a.name) (slice_get atoms n) []) t.atoms place ∙
    ap (option_map (λ (n : ℕ). option_map_or (λ (a : Atom). a.name) (slice_get atoms n) [])) at ∙
    ap (λ o. Some (option_map_or (λ (a : Atom). a.name) o [])) found ∙ ap Some (sym reads)

-- a place in the front of a list
front_at : {X : Type 0} (xs : List X) (k i : ℕ) (x : X) → slice_get (take k xs) i ≡ Some x → (i < k) × (slice_get xs i ≡ Some x)
front_at xs zero i x at = absurd (cc)
front_at [] (suc k) i x at = absurd (cc)
front_at (y ∷ ys) (suc k) zero x at = (omega arith, at)
front_at (y ∷ ys) (suc k) (suc i) x at = let r = front_at ys k i x at in (omega (arith, r.0), r.1)

pub fresh_name : (names so_far : List (List ℕ)) (k : ℕ) (name : List ℕ) → StandOnce names → slice_get names k ≡ Some name → so_far ≡ take k names → Has so_far name → ⊥
fresh_name names so_far k name once at is has =
    let there = at_has so_far name has in
    let front = front_at names k there.0 name (ap (λ l. slice_get l there.0) (sym is) ∙ there.1) in
    absurd (omega (arith, front.0, once there.0 k name front.1 at))

pub next_name : (names so_far new : List (List ℕ)) (k : ℕ) (name : List ℕ) → slice_get names k ≡ Some name → so_far ≡ take k names → new ≡ so_far ++ name ∷ [] →
    new ≡ take (k + 1) names
next_name names so_far new k name at is added =
    added ∙ ap (λ l. l ++ name ∷ []) is ∙
    sym (take_more names k name (slice_get_within names k name at) ∙ ap (λ y. take k names ++ y ∷ []) (get_or_from_slice_get names k name name at))
