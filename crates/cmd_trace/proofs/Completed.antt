-- At valid inputs `trace` stops for want of memory alone.
use Rattle.std.proofs.Common.{◌≡◌, ◌<◌, ◌≤◌, ◌⊎◌, inl, inr, ℕ, Bool, true, false, List, refl, sym, ap, ◌∙◌, subst, arith, Option, Some}
use Rattle.std.specs.Prelude.{slice_get}
use Rattle.std.proofs.lemmas.Bool.{cases_eq}
use Rattle.vtr_base.specs.Outside.{Files}
use Rattle.vtr_base.specs.Lists.{IsFirstPlace}
use Rattle.arch_types.specs.declared.arch.Arch.{Arch}
use Rattle.pb_expand.specs.Graph.{Graph}
use Rattle.prog_map.specs.Choices.{Choices}
use Rattle.prog_text.specs.declared.error.ProgError.{ProgError}
use Rattle.prog_text.specs.Laws.{IsReadWhereSpelled}
use Rattle.prog_text.specs.Telling.{prog_text, is_want_of_memory}
use Rattle.prog_text.specs.Text.{SpellsProg, Refuses}
use Rattle.run_base.specs.declared.stop.Stop.{Stop}
use Rattle.run_base.specs.declared.stop.Stop.TheVariants.{Refused, Outside, Memory}
use Rattle.run_base.specs.Worlds.{World, world, Fetched}
use Rattle.run_base.specs.Stops.{StopsAtFile, StopsAfter, NoneBad, IsRefusedBy}
use Rattle.run_base.proofs.Later.{stops_later}
use Rattle.run_inputs.specs.Architectures.{Expands, IsGraphOf, LacksBlock, TellsNoBlock, names_of}
use Rattle.run_inputs.specs.Valid.{ReadsOneArch}
use Rattle.run_inputs.proofs.Calm.{fetched_once, stops_for_memory, stops_after_none}
use Rattle.cmd_trace.specs.Trace.{HasGraph}
use Rattle.cmd_trace.specs.Valid.{IsValid}

not_both : (v : Bool) → v ≡ true → v ≡ false → ⊥
not_both v t f = cc

-- bytes that spell a programming are refused for want of memory alone
pub refused_for_memory : (g : Graph) (prog bytes : List ℕ) (c : Choices) (e : ProgError) (s : Stop) → IsReadWhereSpelled g → SpellsProg g bytes c → Refuses g bytes e →
    IsRefusedBy prog (is_want_of_memory e) (prog_text e) s → s ≡ Memory
refused_for_memory g prog bytes c e (Refused file why) read spells refuses is =
    absurd (not_both (is_want_of_memory e) (ap is_want_of_memory (read 1 bytes c e spells refuses)) is.1)
refused_for_memory g prog bytes c e (Outside file) read spells refuses is = absurd is
refused_for_memory g prog bytes c e Memory read spells refuses is = refl

-- the fetch of `prog` stopped
pub fetched_but_memory : (files later : Option Files) (a b c : ℕ) (arch block prog : List ℕ) (s : Stop) → later ≡ files → a ≤ b → IsValid (world files a c) arch block prog →
    StopsAtFile (world later b c) (Unit {0}) prog NoneBad s → s ≡ Memory
fetched_but_memory files later a b c arch block prog s same early valid is =
    stops_for_memory (world files a c) (Unit {0}) prog valid.bytes NoneBad s valid.calm valid.fetched (λ why bad. bad)
    (stops_later files later a b c (Unit {0}) prog NoneBad s same early tt is)

-- the block type wasn't found
pub named_but_memory : ReadsOneArch → (w : World) (arch block prog : List ℕ) (x : Arch) (graphs : List Graph) (s : Stop) → Expands w arch x graphs →
    IsValid w arch block prog → StopsAfter (LacksBlock x block) arch (TellsNoBlock block) s → s ≡ Memory
named_but_memory one w arch block prog x graphs s expands valid is =
    stops_after_none (LacksBlock x block) arch (TellsNoBlock block) s
    (λ lacks why tells. lacks valid.number (subst (λ (y : Arch). slice_get (names_of y.blocks) valid.number ≡ Some block) (sym same) valid.names.there)) is
  where
    same : x ≡ valid.a
    same = one w arch x valid.a valid.calm expands.reads valid.is_arch.reads

one_first : {X : Type 0} (xs : List X) (x : X) (i j : ℕ) → IsFirstPlace xs x i → IsFirstPlace xs x j → i ≡ j
one_first xs x i j at_i at_j = by_order (cases_eq i j)
  where
    apart : (i ≡ j → ⊥) → (i < j) ⊎ (j < i)
    apart other = grind arith

    by_order : (i ≡ j) ⊎ (i ≡ j → ⊥) → i ≡ j
    by_order (inl same) = same
    by_order (inr other) = elim (apart other) [
      | inl less ↦ absurd (at_j.first i less at_i.there)
      | inr more ↦ absurd (at_i.first j more at_j.there)
    ]

-- the bytes that were read spell a programming of the graph that was found
pub spelled : ReadsOneArch → (w : World) (arch block prog : List ℕ) (g : Graph) (bytes read : List ℕ) → HasGraph w arch block g → Fetched w prog bytes → read ≡ bytes →
    IsValid w arch block prog → (c : Choices) × SpellsProg g read c
spelled one w arch block prog g bytes read has fetched same valid =
    subst (λ b. (c : Choices) × SpellsProg g b c) (fetched_once w prog valid.bytes bytes valid.calm valid.fetched fetched ∙ sym same)
    (valid.spells g is_graph)
  where
    one_a : has.a ≡ valid.a
    one_a = one w arch has.a valid.a valid.calm has.expands.reads valid.is_arch.reads

    first : IsFirstPlace (names_of valid.a.blocks) block has.number
    first = subst (λ (y : Arch). IsFirstPlace (names_of y.blocks) block has.number) one_a has.names

    is_graph : IsGraphOf valid.a valid.number g
    is_graph =
        subst (λ n. IsGraphOf valid.a n g) (one_first (names_of valid.a.blocks) block has.number valid.number first valid.names)
        (subst (λ (y : Arch). IsGraphOf y has.number g) one_a has.is_graph)
