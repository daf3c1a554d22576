-- What was read of a realisation's text, line by line.
use Rattle.std.proofs.Common.{◌≡◌, ◌≢◌, ◌+◌, ◌<◌, ◌≤◌, ◌⊎◌, ℕ, min, List, [], ◌∷◌, ◌++◌, Some, length, slice_get, refl, sym, ap, subst, ◌∙◌, inl, inr, arith, append_assoc, append-nil}
use Rattle.std.specs.Str.Lines.{lines}
use Rattle.std.proofs.lemmas.List.{length_push}
use Rattle.std.proofs.lemmas.Option.{slice_get_within}
use Rattle.pb_expand.specs.Graph.{Graph}
use Rattle.prog_map.specs.Choices.{Choices, IsProgOf}
use Rattle.prog_text.specs.declared.error.ProgError.{ProgError}
use Rattle.prog_text.specs.declared.error.ProgError.TheVariants.{BadLine, NoSuchSite, NoSuchChoice, TwiceSet, OutOfMemory}
use Rattle.prog_text.specs.LineLaws.{KeepsProg}
use Rattle.task_types.specs.declared.task.Task.{Task}
use Rattle.task_types.specs.declared.real.Real.{Real}
use Rattle.real_lines.specs.declared.line.RealLine.{RealLine}
use Rattle.real_lines.specs.declared.line.RealLine.TheVariants.{Home, Enter, Choice}
use Rattle.real_lines.specs.Lines.{SpellsLine, LacksLine}
use Rattle.real_text.specs.declared.reading.Reading.{Reading}
use Rattle.real_text.specs.Order.{IsInOrder}
use Rattle.real_text.specs.Steps.{nothing_read, AreHoused, LacksHomes, Adds, Denies}
use Rattle.real_text.specs.Text.{ReadsLine, ReadsLines, SpellsReal, RefusesLine, line_number, Fails, StopsAt, Refuses}

-- the lines before these bytes were read
pub record IsAlong (g : Graph) (t : Task) (atoms nets all : List (List ℕ)) (rest : List ℕ) (now : Real) (number : ℕ) : Type 0 where
  pub front : List (List ℕ)
  pub are : all ≡ front ++ lines rest
  pub reads : ReadsLines g t atoms nets front nothing_read now
  pub count : number ≡ line_number front

-- the same, with what is kept meanwhile
pub record IsReading (g : Graph) (t : Task) (atoms nets all : List (List ℕ)) (rest : List ℕ) (reading : Reading) (number : ℕ) : Type 0 where
  pub along : IsAlong g t atoms nets all rest reading.real number
  pub order : IsInOrder t reading
  pub of : IsProgOf g reading.real.prog

pub along_first : (g : Graph) (t : Task) (atoms nets : List (List ℕ)) (bytes : List ℕ) (now : Real) → now ≡ nothing_read → IsAlong g t atoms nets (lines bytes) bytes now 1
along_first g t atoms nets bytes now is = record { front = []; are = refl; reads = is; count = refl }

module _ (g : Graph) (t : Task) (atoms nets : List (List ℕ)) where
  reads_more : (front : List (List ℕ)) (line : List ℕ) (before now next : Real) → ReadsLines g t atoms nets front before now → ReadsLine g t atoms nets line now next →
      ReadsLines g t atoms nets (front ++ line ∷ []) before next
  reads_more [] line before now next reads is = (next, subst (λ (r : Real). ReadsLine g t atoms nets line r next) reads is, refl)
  reads_more (l ∷ front) line before now next reads is = (reads.0, reads.1, reads_more front line reads.0 now next reads.2 is)

  pub along_next : (all : List (List ℕ)) (rest line behind : List ℕ) (now next : Real) (number more : ℕ) → IsAlong g t atoms nets all rest now number → lines rest ≡ line ∷ lines behind →
      ReadsLine g t atoms nets line now next → more ≡ min (number + 1) 4294967295 → IsAlong g t atoms nets all behind next more
  along_next all rest line behind now next number more along is reads counted = record {
    front = along.front ++ line ∷ [];
    are = along.are ∙ ap (λ ls. along.front ++ ls) is ∙ sym (append_assoc along.front (line ∷ []) (lines behind));
    reads = reads_more along.front line nothing_read now next along.reads reads;
    count = omega (arith, along.count, counted, length_push along.front line);
  }

  pub along_end : (bytes rest : List ℕ) (now : Real) (number : ℕ) → IsAlong g t atoms nets (lines bytes) rest now number → rest ≡ [] → AreHoused t now → SpellsReal g t atoms nets bytes now
  along_end bytes rest now number along ended housed =
      let none : lines rest ≡ [] = ap lines ended in
      let front : along.front ≡ lines bytes = sym (append-nil along.front) ∙ ap (λ ls. along.front ++ ls) (sym none) ∙ sym along.are in
      record { reads = subst (λ ls. ReadsLines g t atoms nets ls nothing_read now) front along.reads; housed = housed }

  stops : (bytes : List ℕ) (e : ProgError) → StopsAt g t atoms nets (lines bytes) e → Refuses g t atoms nets bytes e
  stops bytes (BadLine i) s = s
  stops bytes (NoSuchSite i) s = s
  stops bytes (NoSuchChoice i) s = s
  stops bytes (TwiceSet i) s = s
  stops bytes OutOfMemory s = tt

  -- a line that can't be read stops the reading
  pub along_stops : (bytes rest line behind : List ℕ) (now : Real) (number : ℕ) (e : ProgError) → IsAlong g t atoms nets (lines bytes) rest now number → lines rest ≡ line ∷ lines behind →
      RefusesLine g t atoms nets line now number e → Refuses g t atoms nets bytes e
  along_stops bytes rest line behind now number e along is refuses =
      stops bytes e (record {
        front = along.front;
        rest = line ∷ lines behind;
        are = along.are ∙ ap (λ ls. along.front ++ ls) is;
        before = now;
        reads = along.reads;
        fails = subst (λ (n : ℕ). RefusesLine g t atoms nets line now n e) along.count refuses;
      })

  -- so does the end, where a home is missing
  pub along_short : (bytes rest : List ℕ) (now : Real) (number : ℕ) → IsAlong g t atoms nets (lines bytes) rest now number → rest ≡ [] → LacksHomes t now →
      Refuses g t atoms nets bytes (BadLine number)
  along_short bytes rest now number along ended lacks =
      let none : lines rest ≡ [] = ap lines ended in
      record {
        front = along.front;
        rest = [];
        are = along.are ∙ ap (λ ls. along.front ++ ls) none;
        before = now;
        reads = along.reads;
        fails = (along.count, lacks);
      }

  -- a home is one of the task's atoms
  pub place_inside : (line : List ℕ) (x : RealLine) (place : ℕ) → length atoms ≡ length t.atoms → SpellsLine g t atoms nets line x → (leaf : _) → x ≡ Home place leaf → place < length t.atoms
  place_inside line x place many spells leaf is =
      let home = subst (λ (y : RealLine). SpellsLine g t atoms nets line y) is spells in
      omega (arith, many, slice_get_within atoms place home.0 home.3.is_atom.is)

  -- a programming of the graph stays one
  pub adds_prog : KeepsProg g → (line : List ℕ) (x : RealLine) (before after : Real) → SpellsLine g t atoms nets line x → Adds t x before after → IsProgOf g before.prog → IsProgOf g after.prog
  adds_prog kept line (Home p l) before after spells adds of = subst (λ (r : Real). IsProgOf g r.prog) (sym adds.1) of
  adds_prog kept line (Enter x) before after spells adds of = subst (λ (r : Real). IsProgOf g r.prog) (sym adds.1) of
  adds_prog kept line (Choice s) before after spells adds of = subst (λ (r : Real). IsProgOf g r.prog) (sym adds.2) (kept before.prog line s of spells)
