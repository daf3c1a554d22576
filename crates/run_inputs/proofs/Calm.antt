-- Why a calm run doesn't stop at valid inputs.
use Rattle.std.proofs.Common.{◌≡◌, ◌<◌, ◌≤◌, inl, inr, ℕ, zero, suc, Bool, true, false, List, [], ◌∷◌, length, refl, sym, ◌∙◌, ap, subst, arith, Option, Some, None}
use Rattle.std.specs.Prelude.{slice_get, IsSome}
use Rattle.vtr_base.specs.Lists.{Has}
use Rattle.vtr_base.specs.Outside.{Files, file, WhereKnown, IsLongerOnShelf}
use Rattle.arch_types.specs.declared.arch.Arch.{Arch}
use Rattle.arch_types.specs.declared.block.PbType.{PbType}
use Rattle.arch_files.specs.Files.{SpellsArch}
use Rattle.arch_files.specs.Laws.{SpellsOneArch, IsReadWhereSpelled}
use Rattle.arch_files.specs.Telling as arch
use Rattle.mode_edges.specs.declared.faults.EdgeError.{EdgeError}
use Rattle.mode_edges.specs.PinWords.{HasOneReading}
use Rattle.pb_expand.specs.declared.error.ExpandError.{ExpandError}
use Rattle.pb_expand.specs.declared.error.ExpandError.TheVariants.{NoSuchPin, Width, WideMux, TooMany, OutOfMemory}
use Rattle.pb_expand.specs.Refusals.{AreSound, IsFirstIn, IsRefusal}
use Rattle.pb_expand.specs.Telling as expand
use Rattle.pb_expand.specs.Types.{ModeOf, modes_in_tree}
use Rattle.run_base.specs.declared.stop.Stop.{Stop}
use Rattle.run_base.specs.declared.stop.Stop.TheVariants.{Refused, Outside, Memory}
use Rattle.run_base.specs.Worlds.{World, Fetched, room}
use Rattle.run_base.specs.Stops.{IsBadFile, StopsAtFile, StopsAfter}
use Rattle.run_inputs.specs.Architectures.{IsExpandable, IsBadArch, IsBadBlock}
use Rattle.run_inputs.specs.Valid.{IsCalm, ReadsOneArch, IsReadWhereValid}
use Rattle.run_inputs.proofs.Faultless.{sound_has_no_fault}

some_alike : {X : Type 0} {x y : X} → Some x ≡ Some y → x ≡ y
some_alike e = cc

no_some : {X : Type 0} (x : X) → Some x ≡ None → ⊥
no_some x e = cc

not_both : (v : Bool) → v ≡ true → v ≡ false → ⊥
not_both v t f = cc

untold : IsSome {T = Files} None → ⊥
untold told = cc

one_file : (files : Option Files) (name x y : List ℕ) → IsSome files → WhereKnown files (λ m. file m name ≡ Some x) → WhereKnown files (λ m. file m name ≡ Some y) → x ≡ y
one_file None name x y told at_x at_y = absurd (untold told)
one_file (Some m) name x y told at_x at_y = some_alike (sym at_x ∙ at_y)

-- where files are told, a name has the bytes of one file
pub fetched_once : (w : World) (name x y : List ℕ) → IsCalm w → Fetched w name x → Fetched w name y → x ≡ y
fetched_once w name x y calm at_x at_y = one_file w.files name x y calm.told at_x.is at_y.is

present : (files : Option Files) (name x : List ℕ) → IsSome files → WhereKnown files (λ m. file m name ≡ Some x) → WhereKnown files (λ m. file m name ≡ None) → ⊥
present None name x told at none = untold told
present (Some m) name x told at none = no_some x (sym at ∙ none)

short : (files : Option Files) (name x : List ℕ) → IsSome files → length x ≤ room → WhereKnown files (λ m. file m name ≡ Some x) → WhereKnown files (λ m. IsLongerOnShelf m name room) → ⊥
short None name x told fits at longer = untold told
short (Some m) name x told fits at longer =
    let same : x ≡ longer.0 = some_alike (sym at ∙ longer.1) in
    let over : room < length x = subst (λ bytes. room < length bytes) (sym same) longer.2 in
    omega (arith, fits, over)

not_bad : (w : World) (name bytes : List ℕ) (Bad : List ℕ → List ℕ → Type 0) (why : List ℕ) → IsCalm w → Fetched w name bytes → (Bad bytes why → ⊥) →
    IsBadFile w name Bad why → ⊥
not_bad w name bytes Bad why calm fetched good (inl missing) = present w.files name bytes calm.told fetched.is missing.absent
not_bad w name bytes Bad why calm fetched good (inr (inl long)) = short w.files name bytes calm.told fetched.fits fetched.is long.longer
not_bad w name bytes Bad why calm fetched good (inr (inr bad)) =
    good (subst (λ b. Bad b why) (fetched_once w name bad.bytes bytes calm bad.fetched fetched) bad.bad)

-- a file that is there, that fits and whose bytes aren't refused stops a calm run for want of memory
pub stops_for_memory : (w : World) (Before : Type 0) (name bytes : List ℕ) (Bad : List ℕ → List ℕ → Type 0) (s : Stop) → IsCalm w → Fetched w name bytes →
    ((why : List ℕ) → Bad bytes why → ⊥) → StopsAtFile w Before name Bad s → s ≡ Memory
stops_for_memory w Before name bytes Bad (Refused at why) calm fetched good is = absurd (not_bad w name bytes Bad why calm fetched (good why) is.2)
stops_for_memory w Before name bytes Bad (Outside at) calm fetched good is = absurd (calm.calm is.2)
stops_for_memory w Before name bytes Bad Memory calm fetched good is = refl

-- a cause that can't be stops a run for want of memory alone
pub stops_after_none : (Before : Type 0) (name : List ℕ) (Why : List ℕ → Type 0) (s : Stop) → (Before → (why : List ℕ) → Why why → ⊥) → StopsAfter Before name Why s → s ≡ Memory
stops_after_none Before name Why (Refused at why) none is = absurd (none is.1 why is.2)
stops_after_none Before name Why (Outside at) none is = absurd is
stops_after_none Before name Why Memory none is = refl

has_at : {X : Type 0} (xs : List X) (n : ℕ) (x : X) → slice_get xs n ≡ Some x → Has xs x
has_at [] n x there = cc
has_at (y ∷ ys) zero x there = inl (sym (some_alike there))
has_at (y ∷ ys) (suc n) x there = inr (has_at ys n x there)

none_first : HasOneReading → (modes : List ModeOf) (e : EdgeError) → AreSound modes → IsFirstIn modes e → ⊥
none_first one modes e sound first =
    sound_has_no_fault one first.at.block first.at.mode e (sound first.at (has_at modes first.place first.at first.is_at)) first.fault

-- a block type that can be expanded is refused for want of memory alone
expands_or_short : HasOneReading → (root : PbType) (e : ExpandError) → IsExpandable root → IsRefusal root e → expand.is_want_of_memory e ≡ false → ⊥
expands_or_short one root (NoSuchPin inter) can refusal counts = none_first one (modes_in_tree root) _ can.sound refusal
expands_or_short one root (Width inter) can refusal counts = none_first one (modes_in_tree root) _ can.sound refusal
expands_or_short one root (WideMux inter) can refusal counts = none_first one (modes_in_tree root) _ can.sound refusal
expands_or_short one root TooMany can refusal counts = can.fits refusal.1
expands_or_short one root OutOfMemory can refusal counts = not_both true refl counts

pub one_arch : SpellsOneArch → ReadsOneArch
one_arch one w name a b calm reads_a reads_b =
    one reads_b.bytes a b (subst (λ bytes. SpellsArch bytes a) (fetched_once w name reads_a.bytes reads_b.bytes calm reads_a.fetched reads_b.fetched) reads_a.spells) reads_b.spells

-- a valid architecture stops a calm run for want of memory alone
pub arch_is_read : SpellsOneArch → IsReadWhereSpelled → HasOneReading → IsReadWhereValid
arch_is_read one_spelled read one w name a s calm valid (inl at_file) =
    stops_for_memory w (Unit {0}) name valid.reads.bytes IsBadArch s calm valid.reads.fetched good at_file
  where
    good : (why : List ℕ) → IsBadArch valid.reads.bytes why → ⊥
    good why bad = not_both (arch.is_want_of_memory bad.error) (ap arch.is_want_of_memory (read valid.reads.bytes a bad.error valid.reads.spells bad.cause)) bad.counts
arch_is_read one_spelled read one w name a s calm valid (inr behind) = stops_after_none (Unit {0}) name (IsBadBlock w name) s none behind
  where
    none : Unit {0} → (why : List ℕ) → IsBadBlock w name why → ⊥
    none _ why bad =
        let same = one_arch one_spelled w name bad.a a calm bad.reads valid.reads in
        let there : slice_get a.blocks bad.first.number ≡ Some bad.first.root = subst (λ (x : Arch). slice_get x.blocks bad.first.number ≡ Some bad.first.root) same bad.first.there in
        let tells = bad.first.tells in
        expands_or_short one bad.first.root tells.error (valid.expandable bad.first.number bad.first.root there) tells.cause tells.counts
