-- The laws of fetches.
use Rattle.std.proofs.Common.{◌≡◌, ◌<◌, ◌≤◌, inl, inr, ℕ, List, length, refl, sym, ◌∙◌, subst, arith, Option, Some, None}
use Rattle.std.specs.Prelude.{IsSome}
use Rattle.vtr_base.specs.Outside.{Files, Rose, file, WhereKnown, IsLongerOnShelf}
use Rattle.run_base.specs.declared.stop.Stop.{Stop}
use Rattle.run_base.specs.declared.stop.Stop.TheVariants.{Refused, Outside, Memory}
use Rattle.run_base.specs.Worlds.{World, world, Fetched, room}
use Rattle.run_base.specs.Stops.{IsBadFile, NoneBad}
use Rattle.run_inputs.specs.Valid.{IsCalm}
use Rattle.run_laws.specs.Fetches.{IsFetchedInRun, StopsAtFetch, StopsInRun, FetchesOneText, IsFetchedWhereThere}

pub fetched_in_run : IsFetchedInRun
fetched_in_run files later a b c d name bytes same fetched = record {
  fits = fetched.fits;
  is = (subst (λ f. Fetched (world f c d) name bytes) same fetched).is;
}

rose_later : (a b c : ℕ) → a ≤ b → Rose b c → Rose a c
rose_later a b c early (inl more) = inl (omega arith)
rose_later a b c early (inr last) = inr last

pub stops_in_run : StopsInRun
stops_in_run files later a b c name s same early is = by_cause s (subst (λ f. StopsAtFetch (world f b c) name s) same is)
  where
    by_file : (why : List ℕ) → IsBadFile (world files b c) name NoneBad why → IsBadFile (world files a c) name NoneBad why
    by_file why (inl missing) = inl (record { told = missing.told; absent = missing.absent })
    by_file why (inr (inl long)) = inr (inl (record { told = long.told; longer = long.longer }))
    by_file why (inr (inr bad)) = absurd bad.bad

    by_cause : (s : Stop) → StopsAtFetch (world files b c) name s → StopsAtFetch (world files a c) name s
    by_cause (Refused file why) is = (is.0, tt, by_file why is.2)
    by_cause (Outside file) is = (is.0, tt, rose_later a b c early is.2)
    by_cause Memory is = tt

some_alike : {X : Type 0} {x y : X} → Some x ≡ Some y → x ≡ y
some_alike e = cc

no_some : {X : Type 0} (x : X) → Some x ≡ None → ⊥
no_some x e = cc

untold : IsSome {T = Files} None → ⊥
untold told = cc

one_file : (files : Option Files) (name x y : List ℕ) → IsSome files → WhereKnown files (λ m. file m name ≡ Some x) → WhereKnown files (λ m. file m name ≡ Some y) → x ≡ y
one_file None name x y told at_x at_y = absurd (untold told)
one_file (Some m) name x y told at_x at_y = some_alike (sym at_x ∙ at_y)

pub fetched_once : FetchesOneText
fetched_once w name x y calm at_x at_y = one_file w.files name x y calm.told at_x.is at_y.is

present : (files : Option Files) (name x : List ℕ) → IsSome files → WhereKnown files (λ m. file m name ≡ Some x) → WhereKnown files (λ m. file m name ≡ None) → ⊥
present None name x told at none = untold told
present (Some m) name x told at none = no_some x (sym at ∙ none)

short : (files : Option Files) (name x : List ℕ) → IsSome files → length x ≤ room → WhereKnown files (λ m. file m name ≡ Some x) → WhereKnown files (λ m. IsLongerOnShelf m name room) → ⊥
short None name x told fits at longer = untold told
short (Some m) name x told fits at longer =
    let same : x ≡ longer.0 = some_alike (sym at ∙ longer.1) in
    let over : room < length x = subst (λ bytes. room < length bytes) (sym same) longer.2 in
    omega (arith, fits, over)

not_bad : (w : World) (name bytes why : List ℕ) → IsCalm w → Fetched w name bytes → IsBadFile w name NoneBad why → ⊥
not_bad w name bytes why calm fetched (inl missing) = present w.files name bytes calm.told fetched.is missing.absent
not_bad w name bytes why calm fetched (inr (inl long)) = short w.files name bytes calm.told fetched.fits fetched.is long.longer
not_bad w name bytes why calm fetched (inr (inr bad)) = bad.bad

pub fetched_where_there : IsFetchedWhereThere
fetched_where_there w name bytes (Refused at why) calm fetched is = absurd (not_bad w name bytes why calm fetched is.2)
fetched_where_there w name bytes (Outside at) calm fetched is = absurd (calm.calm is.2)
fetched_where_there w name bytes Memory calm fetched is = refl
