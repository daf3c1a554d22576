-- Atoms that a list names are a task's, so that only want of memory refuses them.
use Rattle.std.proofs.Common.{◌≡◌, ◌<◌, ◌≤◌, inl, inr, ℕ, zero, suc, Bool, true, false, List, [], ◌∷◌, length, map, take, refl, sym, ap, subst, arith, Some}
use Rattle.std.specs.Prelude.{slice_get}
use Rattle.std.proofs.lemmas.List.{length-map}
use Rattle.std.proofs.lemmas.Option.{slice_get_within}
use Rattle.vtr_base.specs.Lists.{Has}
use Rattle.list_laws.specs.Orders.{Once}
use Rattle.list_laws.proofs.Members.{has_at}
use Rattle.net_types.specs.declared.atom.Atom.{Atom}
use Rattle.atom_lists.specs.declared.error.TaskError.{TaskError}
use Rattle.atom_lists.specs.declared.error.TaskError.TheVariants.{NoSuchAtom, Twice, TooManyAtoms, OutOfMemory}
use Rattle.atom_lists.specs.Lists.{SpellsAtoms, RefusesAtoms, names_of}
use Rattle.atom_lists.specs.Laws.{IsReadWhereSpelled}
use Rattle.atom_lists.specs.Telling.{task_error_text, is_want_of_memory}
use Rattle.task_make.specs.Lists.{AreAtoms, Refuses}
use Rattle.run_base.specs.declared.stop.Stop.{Stop}
use Rattle.run_base.specs.declared.stop.Stop.TheVariants.{Refused, Outside, Memory}
use Rattle.run_base.specs.Stops.{IsRefusedBy}

not_both : (v : Bool) → v ≡ true → v ≡ false → ⊥
not_both v t f = cc

-- each number has a name
named_at : (known entries : List (List ℕ)) (numbers : List ℕ) → map (λ (n : ℕ). slice_get known n) numbers ≡ map (λ entry. Some entry) entries →
    (number : ℕ) → Has numbers number → (entry : List ℕ) × (slice_get known number ≡ Some entry)
named_at known entries [] same number h = absurd h
named_at known [] (n ∷ ns) same number h = cc
named_at known (e ∷ es) (n ∷ ns) same number (inl is) =
    let first : slice_get known n ≡ Some e = cc in
    (e, subst (λ k. slice_get known k ≡ Some e) (sym is) first)
named_at known (e ∷ es) (n ∷ ns) same number (inr h) =
    let rest : map (λ (n : ℕ). slice_get known n) ns ≡ map (λ entry. Some entry) es = cc in
    named_at known es ns rest number h

pub are_atoms : (known : List Atom) (bytes numbers : List ℕ) → SpellsAtoms known bytes numbers → AreAtoms known numbers
are_atoms known bytes numbers spells = record { there = there; once = spells.once }
  where
    there : (number : ℕ) → Has numbers number → number < length known
    there number h =
        let named = named_at (names_of known) _ numbers spells.named number h in
        let within = slice_get_within (names_of known) number named.0 named.1 in
        omega (arith, within, length-map known (λ (a : Atom). a.name))

again_no : (xs : List ℕ) (place number : ℕ) → Once xs → slice_get xs place ≡ Some number → Has (take place xs) number → ⊥
again_no [] place number once at h = cc
again_no (x ∷ xs) zero number once at h = absurd h
again_no (x ∷ xs) (suc place) number once at (inl is) = once.0 (subst (Has xs) is (has_at xs place number at))
again_no (x ∷ xs) (suc place) number once at (inr h) = again_no xs place number once.1 at h

none_wrong : (known : List Atom) (numbers : List ℕ) (e : TaskError) → AreAtoms known numbers → length numbers ≤ 4096 → Refuses known numbers e → e ≡ OutOfMemory
none_wrong known numbers (NoSuchAtom place) are few refused =
    let low = are.there refused.number (has_at numbers place refused.number refused.wrong.is) in absurd (omega (arith, low, refused.past))
none_wrong known numbers (Twice place) are few refused = absurd (again_no numbers place refused.number are.once refused.wrong.is refused.again)
none_wrong known numbers TooManyAtoms are few refused = absurd (omega (arith, few, refused))
none_wrong known numbers OutOfMemory are few refused = refl

short_alone : (e : TaskError) (file : List ℕ) (s : Stop) → e ≡ OutOfMemory → IsRefusedBy file (is_want_of_memory e) (task_error_text e) s → s ≡ Memory
short_alone e file (Refused name why) short is = absurd (not_both (is_want_of_memory e) (ap is_want_of_memory short) is.1)
short_alone e file (Outside name) short is = absurd is
short_alone e file Memory short is = refl

-- different atoms, of which there are few enough, are refused for want of memory alone
pub made_but_memory : (known : List Atom) (numbers file : List ℕ) (e : TaskError) (s : Stop) → AreAtoms known numbers → length numbers ≤ 4096 → Refuses known numbers e →
    IsRefusedBy file (is_want_of_memory e) (task_error_text e) s → s ≡ Memory
made_but_memory known numbers file e s are few refused is = short_alone e file s (none_wrong known numbers e are few refused) is

-- bytes that list atoms are refused for want of memory alone
pub listed_but_memory : (known : List Atom) (bytes numbers file : List ℕ) (e : TaskError) (s : Stop) → IsReadWhereSpelled known → SpellsAtoms known bytes numbers →
    RefusesAtoms known bytes e → IsRefusedBy file (is_want_of_memory e) (task_error_text e) s → s ≡ Memory
listed_but_memory known bytes numbers file e s read spells refused is = short_alone e file s (read bytes numbers e spells refused) is
