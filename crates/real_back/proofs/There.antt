-- What a text spells names what is there.
use Rattle.std.proofs.Common.{◌≡◌, ◌+◌, ◌<◌, ◌⊎◌, ℕ, zero, suc, true, List, [], ◌∷◌, ◌++◌, Some, None, length, slice_get, refl, sym, ap, subst, ◌∙◌, inl, inr, arith}
use Rattle.std.specs.FinSet as set
use Rattle.std.specs.FinMap.{get-empty}
use Rattle.std.specs.Ordering.{nat_cmp}
use Rattle.std.specs.Str.Lines.{lines}
use Rattle.std.proofs.lemmas.Bool.{false≢true}
use Rattle.std.proofs.lemmas.Option.{slice_get_within}
use Rattle.list_laws.proofs.Places.{get_either}
use Rattle.pb_expand.specs.declared.number.PbIx.{PbIx}
use Rattle.pb_expand.specs.Graph.{Graph, pb_ix}
use Rattle.prog_map.specs.Choices.{IsProgOf, site_cmp}
use Rattle.prog_map.specs.Leaves.{IsLeaf}
use Rattle.prog_text.specs.LineLaws.{KeepsProg}
use Rattle.task_types.specs.declared.task.Task.{Task}
use Rattle.task_types.specs.declared.task.Entry.{Entry}
use Rattle.task_types.specs.declared.real.Real.{Real}
use Rattle.task_types.specs.Ends.{IsRootInput}
use Rattle.task_types.specs.Realises.{IsAt, can_hold}
use Rattle.real_lines.specs.declared.line.RealLine.{RealLine}
use Rattle.real_lines.specs.declared.line.RealLine.TheVariants.{Home, Enter, Choice}
use Rattle.real_lines.specs.Lines.{NamesHome, NamesEnter, SpellsLine}
use Rattle.real_text.specs.Steps.{real_of, nothing_read, IsNextEntry, Adds}
use Rattle.real_text.specs.Text.{ReadsLine, ReadsLines, SpellsReal}
use Rattle.real_back.specs.There.{IsThere}

-- what was read so far names what is there
record SoFar (g : Graph) (t : Task) (r : Real) : Type 0 where
  pub of : IsProgOf g r.prog
  pub leaves : (place leaf : ℕ) → IsAt r place leaf → IsLeaf g leaf
  pub holds : (place leaf : ℕ) → IsAt r place leaf → can_hold t place leaf ≡ true
  pub pins : (k : ℕ) (e : Entry) → slice_get r.entries k ≡ Some e → IsRootInput g e.pin.0
  pub nets : (k : ℕ) (e : Entry) → slice_get r.entries k ≡ Some e → e.net < length t.nets
  pub ascending : (i j : ℕ) (e f : Entry) → i < j → slice_get r.entries i ≡ Some e → slice_get r.entries j ≡ Some f → e.pin.0 < f.pin.0

none_some : {X : Type 0} {x : X} → None ≡ Some x → ⊥
none_some e = cc

some_is : {X : Type 0} {x y : X} → Some x ≡ Some y → x ≡ y
some_is e = cc

-- the last of a list that was pushed to
alone : {X : Type 0} (x y : X) (k : ℕ) → slice_get (x ∷ []) k ≡ Some y → (k ≡ 0) × (x ≡ y)
alone x y zero at = (refl, some_is at)
alone x y (suc k) at = absurd (cc)

pushed : {X : Type 0} (xs : List X) (x y : X) (k : ℕ) → slice_get (xs ++ x ∷ []) k ≡ Some y → (slice_get xs k ≡ Some y) ⊎ ((k ≡ length xs) × (x ≡ y))
pushed xs x y k at = by (get_either xs (x ∷ []) k y at)
  where
    by : (slice_get xs k ≡ Some y) ⊎ ((j : ℕ) × (k ≡ length xs + j) × (slice_get (x ∷ []) j ≡ Some y)) → (slice_get xs k ≡ Some y) ⊎ ((k ≡ length xs) × (x ≡ y))
    by (inl front) = inl front
    by (inr last) = let one = alone x y last.0 last.2 in inr (omega (arith, last.1, one.0), one.1)

module _ (g : Graph) (t : Task) (atoms nets : List (List ℕ)) (many : length nets ≡ length t.nets) (kept : KeepsProg g) where
  home_more : (r : Real) (place : ℕ) (leaf : PbIx) (atom instance : List ℕ) → SoFar g t r → NamesHome g t atoms atom instance place leaf.0 → place ≡ length r.homes →
      SoFar g t (real_of r.prog (r.homes ++ leaf ∷ []) r.entries)
  home_more r place leaf atom instance so names is = record {
    of = so.of;
    leaves = λ p l at. leaf_by p l (pushed r.homes leaf (pb_ix l) p at);
    holds = λ p l at. hold_by p l (pushed r.homes leaf (pb_ix l) p at);
    pins = so.pins;
    nets = so.nets;
    ascending = so.ascending;
  }
    where
      leaf_by : (p l : ℕ) → (slice_get r.homes p ≡ Some (pb_ix l)) ⊎ ((p ≡ length r.homes) × (leaf ≡ pb_ix l)) → IsLeaf g l
      leaf_by p l (inl front) = so.leaves p l front
      leaf_by p l (inr last) = subst (λ (x : PbIx). IsLeaf g x.0) last.1 names.is_leaf

      hold_by : (p l : ℕ) → (slice_get r.homes p ≡ Some (pb_ix l)) ⊎ ((p ≡ length r.homes) × (leaf ≡ pb_ix l)) → can_hold t p l ≡ true
      hold_by p l (inl front) = so.holds p l front
      hold_by p l (inr last) =
          subst (λ (x : PbIx). can_hold t p x.0 ≡ true) last.1 (subst (λ (k : ℕ). can_hold t k leaf.0 ≡ true) (is ∙ sym last.0) names.holds)

  entry_more : (r : Real) (entry : Entry) (at name : List ℕ) → SoFar g t r → NamesEnter g nets at name entry.pin.0 entry.net → IsNextEntry t r entry.pin.0 →
      SoFar g t (real_of r.prog r.homes (r.entries ++ entry ∷ []))
  entry_more r entry at name so names next = record {
    of = so.of;
    leaves = so.leaves;
    holds = so.holds;
    pins = λ k e there. pin_by k e (pushed r.entries entry e k there);
    nets = λ k e there. net_by k e (pushed r.entries entry e k there);
    ascending = λ i j e f low at_e at_f. rise i j e f low (pushed r.entries entry e i at_e) (pushed r.entries entry f j at_f);
  }
    where
      pin_by : (k : ℕ) (e : Entry) → (slice_get r.entries k ≡ Some e) ⊎ ((k ≡ length r.entries) × (entry ≡ e)) → IsRootInput g e.pin.0
      pin_by k e (inl front) = so.pins k e front
      pin_by k e (inr last) = subst (λ (x : Entry). IsRootInput g x.pin.0) last.1 names.is_input

      net_by : (k : ℕ) (e : Entry) → (slice_get r.entries k ≡ Some e) ⊎ ((k ≡ length r.entries) × (entry ≡ e)) → e.net < length t.nets
      net_by k e (inl front) = so.nets k e front
      net_by k e (inr last) =
          subst (λ (x : Entry). x.net < length t.nets) last.1 (omega (arith, many, slice_get_within nets entry.net name names.is_net.is))

      rise : (i j : ℕ) (e f : Entry) → i < j → (slice_get r.entries i ≡ Some e) ⊎ ((i ≡ length r.entries) × (entry ≡ e)) →
          (slice_get r.entries j ≡ Some f) ⊎ ((j ≡ length r.entries) × (entry ≡ f)) → e.pin.0 < f.pin.0
      rise i j e f low (inl front) (inl behind) = so.ascending i j e f low front behind
      rise i j e f low (inl front) (inr last) = subst (λ (x : Entry). e.pin.0 < x.pin.0) last.1 (next.above i e front)
      rise i j e f low (inr first) (inl behind) = absurd (omega (arith, low, first.0, slice_get_within r.entries j f behind))
      rise i j e f low (inr first) (inr last) = absurd (omega (arith, low, first.0, last.0))

  adds_more : (line : List ℕ) (x : RealLine) (before after : Real) → SoFar g t before → SpellsLine g t atoms nets line x → Adds t x before after → SoFar g t after
  adds_more line (Home place leaf) before after so spells adds =
      subst (λ (r : Real). SoFar g t r) (sym adds.1) (home_more before place leaf spells.0 spells.1 so spells.3 adds.0)
  adds_more line (Enter entry) before after so spells adds =
      subst (λ (r : Real). SoFar g t r) (sym adds.1) (entry_more before entry spells.0 spells.1 so spells.3 adds.0)
  adds_more line (Choice setting) before after so spells adds =
      subst (λ (r : Real). SoFar g t r) (sym adds.2)
      (record {
        of = kept before.prog line setting so.of spells;
        leaves = so.leaves;
        holds = so.holds;
        pins = so.pins;
        nets = so.nets;
        ascending = so.ascending;
      })

  reads_more : (ls : List (List ℕ)) (before after : Real) → SoFar g t before → ReadsLines g t atoms nets ls before after → SoFar g t after
  reads_more [] before after so reads = subst (λ (r : Real). SoFar g t r) (sym reads) so
  reads_more (l ∷ ls) before after so reads = reads_more ls reads.0 after (by reads.1) reads.2
    where
      by : ReadsLine g t atoms nets l before reads.0 → SoFar g t reads.0
      by (inl empty) = subst (λ (r : Real). SoFar g t r) (sym empty.1) so
      by (inr adds) = adds_more l adds.says before reads.0 so adds.spells adds.adds

  nothing_there : SoFar g t nothing_read
  nothing_there = record {
    of = record {
      modes = λ pb mode is. absurd (none_some (sym (get-empty nat_cmp pb) ∙ is));
      picks = λ pin mode number is. absurd (none_some (sym (get-empty site_cmp (pin, mode)) ∙ is));
      leaves = λ pb is. absurd (false≢true (sym (set.contains-empty nat_cmp pb) ∙ is));
      luts = λ pb choice is. absurd (none_some (sym (get-empty nat_cmp pb) ∙ is));
    };
    leaves = λ place leaf at. absurd (cc);
    holds = λ place leaf at. absurd (cc);
    pins = λ k e at. absurd (cc);
    nets = λ k e at. absurd (cc);
    ascending = λ i j e f low at_e at_f. absurd (cc);
  }

  pub spelled_there : (bytes : List ℕ) (r : Real) → SpellsReal g t atoms nets bytes r → IsThere g t r
  spelled_there bytes r spells =
      let so = reads_more (lines bytes) nothing_read r nothing_there spells.reads in
      record { of = so.of; each = spells.housed; leaves = so.leaves; holds = so.holds; pins = so.pins; nets = so.nets; ascending = so.ascending }
