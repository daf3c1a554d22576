-- Paths in which each node is behind one that leads to it, in parts and put together.
use Rattle.std.proofs.Common.{◌≡◌, inl, inr, ℕ, zero, suc, List, [], ◌∷◌, ◌++◌, Some, length, take, drop, refl, sym, ap, ◌∙◌, subst}
use Rattle.std.specs.Prelude.{slice_get}
use Rattle.vtr_base.specs.Lists.{Has}
use Rattle.list_laws.specs.Orders.{Once}
use Rattle.list_laws.proofs.Members.{has_left, has_right}
use Rattle.list_laws.proofs.Onces.{once_append}
use Rattle.prog_map.specs.Walk.{IsWalk, IsLast}
use Rattle.prog_map.specs.Ends.{IsPath, last_of}

-- a list with a node of it, what is before it and what is behind it
pub record Parts (xs : List ℕ) (x : ℕ) : Type 0 where
  pub front : List ℕ
  pub back : List ℕ
  pub is : xs ≡ front ++ x ∷ back

pub parts : (xs : List ℕ) (x : ℕ) → Has xs x → Parts xs x
parts [] x has = absurd has
parts (y ∷ xs) x (inl is) = record { front = []; back = xs; is = ap (λ z. z ∷ xs) (sym is) }
parts (y ∷ xs) x (inr has) = let p = parts xs x has in record { front = y ∷ p.front; back = p.back; is = ap (λ l. y ∷ l) p.is }

pub last_back : (node : ℕ) (front : List ℕ) (x : ℕ) (back : List ℕ) → last_of node (front ++ x ∷ back) ≡ last_of x back
last_back node [] x back = refl
last_back node (y ∷ front) x back = last_back y front x back

pub once_back : (front : List ℕ) (x : ℕ) (back : List ℕ) → Once (front ++ x ∷ back) → Once (x ∷ back)
once_back [] x back once = once
once_back (y ∷ front) x back once = once_back front x back once.1

pub once_front : (front back : List ℕ) → Once (front ++ back) → Once front
once_front [] back once = tt
once_front (y ∷ front) back once = (λ has. once.0 (has_left front back y has), once_front front back once.1)

-- the parts of a list without repeats share nothing
pub once_apart : (front back : List ℕ) → Once (front ++ back) → (x : ℕ) → Has front x → Has back x → ⊥
once_apart [] back once x in_front in_back = in_front
once_apart (y ∷ front) back once x (inl is) in_back = once.0 (has_right front back y (subst (Has back) is in_back))
once_apart (y ∷ front) back once x (inr has) in_back = once_apart front back once.1 x has in_back

-- the second part put before the first
pub once_turned : (front back : List ℕ) → Once front → Once back → ((x : ℕ) → Has front x → Has back x → ⊥) → Once (back ++ front)
once_turned front back one other apart = once_append back front other one (λ x in_back in_front. apart x in_front in_back)

module _ (Step : ℕ → ℕ → Type 0) where
  pub path_front : (node : ℕ) (front : List ℕ) (x : ℕ) (back : List ℕ) → IsPath Step node (front ++ x ∷ back) → IsPath Step node front × Step (last_of node front) x
  path_front node [] x back path = (tt, path.0)
  path_front node (y ∷ front) x back path = let rest = path_front y front x back path.1 in ((path.0, rest.0), rest.1)

  pub path_back : (node : ℕ) (front : List ℕ) (x : ℕ) (back : List ℕ) → IsPath Step node (front ++ x ∷ back) → IsPath Step x back
  path_back node [] x back path = path.1
  path_back node (y ∷ front) x back path = path_back y front x back path.1

  pub path_joined : (node : ℕ) (front : List ℕ) (x : ℕ) (back : List ℕ) → IsPath Step node front → Step (last_of node front) x → IsPath Step x back →
      IsPath Step node (front ++ x ∷ back)
  path_joined node [] x back path step rest = (step, rest)
  path_joined node (y ∷ front) x back path step rest = (path.0, path_joined y front x back path.1 step rest)

  -- the same for a list that is a start and what is behind it
  pub path_from : (start : ℕ) (later front : List ℕ) (x : ℕ) (back : List ℕ) → start ∷ later ≡ front ++ x ∷ back → IsPath Step start later → IsPath Step x back
  path_from start later [] x back is path = let xs : start ≡ x = cc in let rest : later ≡ back = cc in subst (λ z. IsPath Step z back) xs (subst (IsPath Step start) rest path)
  path_from start later (y ∷ front) x back is path =
      let rest : later ≡ front ++ x ∷ back = cc in
      path_back start front x back (subst (IsPath Step start) rest path)

  pub walk_of : (start last : ℕ) (later : List ℕ) → IsPath Step start later → Once (start ∷ later) → last ≡ last_of start later → IsWalk Step start last later
  walk_of start last [] path once is = is
  walk_of start last (next ∷ later) path once is = (path.0, once.0, walk_of next last later path.1 once.1 is)

  pub walk_path : (start last : ℕ) (later : List ℕ) → IsWalk Step start last later → IsPath Step start later
  walk_path start last [] walk = tt
  walk_path start last (next ∷ later) walk = (walk.0, walk_path next last later walk.2)

  pub walk_once : (start last : ℕ) (later : List ℕ) → IsWalk Step start last later → Once (start ∷ later)
  walk_once start last [] walk = (λ has. has, tt)
  walk_once start last (next ∷ later) walk = (walk.1, walk_once next last later walk.2)

  pub walk_last : (start last : ℕ) (later : List ℕ) → IsWalk Step start last later → last ≡ last_of start later
  walk_last start last [] walk = walk
  walk_last start last (next ∷ later) walk = walk_last next last later walk.2

  -- a walk that goes on to one whose last node is known, over other nodes
  pub goes_on : (x : ℕ) (back : List ℕ) (next last : ℕ) → IsPath Step x back → Once (x ∷ back) → Step (last_of x back) next → (known : IsLast Step next last) →
      ((z : ℕ) → Has (x ∷ back) z → Has (next ∷ known.later) z → ⊥) → IsLast Step x last
  goes_on x back next last path once step known apart = record {
    later = back ++ next ∷ known.later;
    walk =
        walk_of x last (back ++ next ∷ known.later)
        (path_joined x back next known.later path step (walk_path next last known.later known.walk))
        (once_append (x ∷ back) (next ∷ known.later) once (walk_once next last known.later known.walk) apart)
        (walk_last next last known.later known.walk ∙ sym (last_back x back next known.later));
    ends = elim known.ends [
      | inl none ↦ inl none
      | inr more ↦ inr (more.0, more.1, has_right (x ∷ back) (next ∷ known.later) more.0 more.2)
    ];
  }

  -- a walk round a loop, from a node on it to the one before it
  pub goes_round : (first : ℕ) (front : List ℕ) (x : ℕ) (back : List ℕ) → IsPath Step first (front ++ x ∷ back) → Once (first ∷ (front ++ x ∷ back)) → Step (last_of x back) first →
      IsLast Step x (last_of first front)
  goes_round first front x back path once closes =
      let before = path_front first front x back path in record {
        later = back ++ first ∷ front;
        walk =
            walk_of x (last_of first front) (back ++ first ∷ front) (path_joined x back first front (path_back first front x back path) closes before.0)
            (once_turned (first ∷ front) (x ∷ back) (once_front (first ∷ front) (x ∷ back) once) (once_back (first ∷ front) x back once)
            (once_apart (first ∷ front) (x ∷ back) once))
            (sym (last_back x back first front));
        ends = inr (x, before.1, inl refl);
      }

-- what stands at a place, and before and behind it
pub record Cut (xs : List ℕ) (k x : ℕ) : Type 0 where
  pub back : List ℕ
  pub behind : drop k xs ≡ x ∷ back
  pub is : xs ≡ take k xs ++ x ∷ back

pub cut : (xs : List ℕ) (k x : ℕ) → slice_get xs k ≡ Some x → Cut xs k x
cut [] k x is = absurd (cc)
cut (y ∷ xs) zero x is = let same : y ≡ x = cc in record { back = xs; behind = ap (λ z. z ∷ xs) same; is = ap (λ z. z ∷ xs) same }
cut (y ∷ xs) (suc k) x is = let c = cut xs k x is in record { back = c.back; behind = c.behind; is = ap (λ l. y ∷ l) c.is }

-- what stands behind a front, and before that
pub place_behind : (front : List ℕ) (x : ℕ) (back : List ℕ) → slice_get (front ++ x ∷ back) (length front) ≡ Some x
place_behind [] x back = refl
place_behind (y ∷ front) x back = place_behind front x back

pub place_last : (first : ℕ) (front rest : List ℕ) → slice_get (first ∷ (front ++ rest)) (length front) ≡ Some (last_of first front)
place_last first [] rest = refl
place_last first (y ∷ front) rest = place_last y front rest
