-- Latches that are broken.
use Rattle.std.proofs.Common.{◌≡◌, ◌≤◌, ◌-◌, ℕ, Bool, true, false, Bor, List, [], ◌∷◌, get_or, take, drop, length, arith, sym, ap, ◌∙◌, subst}
use Rattle.std.specs.Prelude.{codes}
use Rattle.std.proofs.Math.Seq.{take-length}
use Rattle.blif_elems.specs.declared.keyword.Keyword.TheVariants.{Names, Latch}
use Rattle.blif_elems.specs.Nets.{IsNet}
use Rattle.blif_elems.specs.Statements.{IsLatch, IsInit, latch_words}
use Rattle.blif_elems.specs.Seen.{texts}
use Rattle.blif_elems.specs.Faults.{is_bad, IsFaultBehind}

pub untrue : (b : Bool) → b ≡ true → b ≡ false → ⊥
untrue b t f = cc

-- a latch with other nets, or with another initial value
pub bad_latch : (loaded made control : List ℕ) (init : List (List ℕ)) →
    (IsInit init → IsNet loaded × IsNet made × IsNet control → ⊥) → IsFaultBehind Latch (latch_words loaded made control init) is_bad
bad_latch loaded made control init broken = (
  λ s a. none a.0 a.1 a.2 a.3,
  λ output e. absurd (let f : Latch ≡ Names = e in cc),
  λ other e o. let kind : o.kind ≡ codes "re" ∷ control ∷ init = (let e : latch_words loaded made control init ≡ o.loaded ∷ other ∷ o.kind = o.spelled in cc) in
      o.other control init kind,
)
  where
    none : (l m c : List ℕ) → IsLatch (latch_words loaded made control init) l m c → ⊥
    none l m c a =
        let e : latch_words loaded made control init ≡ latch_words l m c a.init = a.spelled in
        let el : l ≡ loaded = cc in
        let em : m ≡ made = cc in
        let ec : c ≡ control = cc in
        let ei : a.init ≡ init = cc in
        broken (subst IsInit ei a.is_init) (subst IsNet el a.nets.0, subst IsNet em a.nets.1, subst IsNet ec a.nets.2)

abbrev pub no_word : Bor (List ℕ)
no_word = record { ref_ptr = (0, 0); now = [] }

-- the first two words of several, and those behind them
pub two_words : (ws : List (Bor (List ℕ))) → 2 ≤ length ws →
    texts ws ≡ (get_or ws 0 no_word).now ∷ (get_or ws 1 no_word).now ∷ texts (take (length ws - 2) (drop 2 ws))
two_words [] many = absurd (omega arith)
two_words (a ∷ []) many = absurd (omega arith)
two_words (a ∷ b ∷ ws) many =
    let left : length (a ∷ b ∷ ws) - 2 ≡ length ws = omega arith in
    sym (ap (λ l. a.now ∷ b.now ∷ texts l) (ap (λ (n : ℕ). take n ws) left ∙ take-length ws))

pub second_words : (loaded made : List ℕ) (kind : List (Bor (List ℕ))) → 2 ≤ length kind → (get_or kind 0 no_word).now ≡ codes "re" →
    loaded ∷ made ∷ texts kind ≡ latch_words loaded made (get_or kind 1 no_word).now (texts (take (length kind - 2) (drop 2 kind)))
second_words loaded made kind many is =
    ap (λ ws. loaded ∷ made ∷ ws) (two_words kind many ∙ ap (λ w. w ∷ (get_or kind 1 no_word).now ∷ texts (take (length kind - 2) (drop 2 kind))) is)
