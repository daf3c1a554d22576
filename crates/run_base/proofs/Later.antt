-- A stop at a later input, told of the whole run.
use Rattle.std.proofs.Common.{◌≡◌, ◌≤◌, inl, inr, ℕ, List, Option, subst, arith}
use Rattle.vtr_base.specs.Outside.{Files, Rose}
use Rattle.run_base.specs.declared.stop.Stop.{Stop}
use Rattle.run_base.specs.declared.stop.Stop.TheVariants.{Refused, Outside, Memory}
use Rattle.run_base.specs.Worlds.{world, Fetched}
use Rattle.run_base.specs.Stops.{IsBadFile, StopsAtFile, NoneBad}

pub rose_later : (a b c : ℕ) → a ≤ b → Rose b c → Rose a c
rose_later a b c early (inl more) = inl (omega arith)
rose_later a b c early (inr last) = inr last

pub rose_earlier : (a b c : ℕ) → b ≤ c → Rose a b → Rose a c
rose_earlier a b c late (inl more) = inl (omega arith)
rose_earlier a b c late (inr last) = inr (omega arith)

-- bytes that were fetched by a part of the run are those of the files from the start
pub fetched_in : (files later : Option Files) (a b c d : ℕ) (name bytes : List ℕ) → later ≡ files →
    Fetched (world later c d) name bytes → Fetched (world files a b) name bytes
fetched_in files later a b c d name bytes same fetched = record {
  fits = fetched.fits;
  is = (subst (λ f. Fetched (world f c d) name bytes) same fetched).is;
}

-- a fetch that stopped within the run, behind what was read before it
pub stops_later : (files later : Option Files) (a b c : ℕ) (Before : Type 0) (name : List ℕ) (Bad : List ℕ → List ℕ → Type 0) (s : Stop) →
    later ≡ files → a ≤ b → Before → StopsAtFile (world later b c) (Unit {0}) name NoneBad s → StopsAtFile (world files a c) Before name Bad s
stops_later files later a b c Before name Bad s same early before is =
    by_cause s (subst (λ f. StopsAtFile (world f b c) (Unit {0}) name NoneBad s) same is)
  where
    by_file : (why : List ℕ) → IsBadFile (world files b c) name NoneBad why → IsBadFile (world files a c) name Bad why
    by_file why (inl missing) = inl (record { told = missing.told; absent = missing.absent })
    by_file why (inr (inl long)) = inr (inl (record { told = long.told; longer = long.longer }))
    by_file why (inr (inr bad)) = absurd bad.bad

    by_cause : (s : Stop) → StopsAtFile (world files b c) (Unit {0}) name NoneBad s → StopsAtFile (world files a c) Before name Bad s
    by_cause (Refused file why) is = (is.0, before, by_file why is.2)
    by_cause (Outside file) is = (is.0, before, rose_later a b c early is.2)
    by_cause Memory is = tt
