-- A text spells one realisation, or is refused in one way.
use Rattle.std.proofs.Common.{◌≡◌, ◌≢◌, ◌⊎◌, ◌+◌, ◌<◌, ℕ, suc, min, List, [], ◌∷◌, ◌++◌, Some, codes, length, slice_get, refl, sym, ap, subst, ◌∙◌, inl, inr, arith, append-nil}
use Rattle.std.specs.Str.Lines.{lines}
use Rattle.pb_expand.specs.Graph.{Graph}
use Rattle.prog_map.specs.declared.setting.Setting.{Setting}
use Rattle.prog_map.specs.Choices.{no_choices}
use Rattle.prog_map.specs.Sites.{site_of, HasChoice}
use Rattle.prog_text.specs.declared.error.ProgError.{ProgError}
use Rattle.prog_text.specs.declared.error.ProgError.TheVariants.{BadLine, NoSuchSite, NoSuchChoice, TwiceSet, OutOfMemory}
use Rattle.prog_text.specs.Laws.{AreOneRefusal}
use Rattle.prog_text.specs.Sayings.{AreWords, Says}
use Rattle.task_types.specs.declared.task.Task.{Task}
use Rattle.task_types.specs.declared.task.Entry.{Entry}
use Rattle.task_types.specs.declared.real.Real.{Real}
use Rattle.real_lines.specs.declared.line.RealLine.{RealLine}
use Rattle.real_lines.specs.declared.line.RealLine.TheVariants.{Home, Enter, Choice}
use Rattle.real_lines.specs.Lines.{SpellsLine, LacksLine}
use Rattle.real_text.specs.Steps.{nothing_read, AreHoused, LacksHomes, IsEntered, IsPassed, IsNextEntry, IsLate, Adds, Denies}
use Rattle.real_text.specs.Text.{AddsLine, ReadsLine, ReadsLines, SpellsReal, DeniesLine, RefusesLine, line_number, Fails, StopsAt, Refuses}

-- an empty line spells nothing

no_words : (ws : List (List ℕ)) → AreWords [] ws → ⊥
no_words [] are = are
no_words (w ∷ []) are = are.1.some (sym are.0)
no_words (w ∷ n ∷ more) are = nothing w are.0 are.1.spelled
  where
    nothing : (w r : List ℕ) → [] ≡ w ++ 32 ∷ r → ⊥
    nothing [] r e = cc
    nothing (a ∷ w) r e = cc

module _ (g : Graph) (t : Task) (atoms nets : List (List ℕ)) where
  silent : (line : List ℕ) (x : RealLine) → line ≡ [] → SpellsLine g t atoms nets line x → ⊥
  silent line (Home p l) none a = no_words (codes "home" ∷ a.0 ∷ a.1 ∷ []) (subst (λ b. AreWords b (codes "home" ∷ a.0 ∷ a.1 ∷ [])) none a.2.divided)
  silent line (Enter x) none a = no_words (codes "enter" ∷ a.0 ∷ a.1 ∷ []) (subst (λ b. AreWords b (codes "enter" ∷ a.0 ∷ a.1 ∷ [])) none a.2.divided)
  silent line (Choice s) none a = no_words a.said.words (subst (λ b. AreWords b a.said.words) none a.said.divided)

-- what is added

adds_once : (t : Task) (x : RealLine) (before c d : Real) → Adds t x before c → Adds t x before d → c ≡ d
adds_once t (Home p l) before c d a b = a.1 ∙ sym b.1
adds_once t (Enter x) before c d a b = a.1 ∙ sym b.1
adds_once t (Choice s) before c d a b = a.2 ∙ sym b.2

-- what may come next isn't denied

not_entered : (entries : List Entry) (pin : ℕ) → ((place : ℕ) (entry : Entry) → slice_get entries place ≡ Some entry → entry.pin.0 < pin) → IsEntered entries pin → ⊥
not_entered entries pin above is = absurd (omega (arith, above is.place is.entry is.is, is.at))

not_passed : (entries : List Entry) (pin : ℕ) → ((place : ℕ) (entry : Entry) → slice_get entries place ≡ Some entry → entry.pin.0 < pin) → IsPassed entries pin → ⊥
not_passed entries pin above is = absurd (omega (arith, above is.place is.entry is.is, is.behind))

not_missing : (t : Task) (r : Real) → AreHoused t r → LacksHomes t r → ⊥
not_missing t r housed lacks = absurd (omega (arith, housed, lacks))

entry_taken : (t : Task) (r : Real) (pin : ℕ) → IsNextEntry t r pin → LacksHomes t r ⊎ IsEntered r.entries pin → ⊥
entry_taken t r pin next (inl lacks) = not_missing t r next.housed lacks
entry_taken t r pin next (inr is) = not_entered r.entries pin next.above is

entry_late : (t : Task) (r : Real) (pin : ℕ) → IsNextEntry t r pin → IsLate t r pin → ⊥
entry_late t r pin next late = by late.late
  where
    by : (r.prog ≢ no_choices) ⊎ IsPassed r.entries pin → ⊥
    by (inl begun) = begun next.first
    by (inr passed) = not_passed r.entries pin next.above passed

choice_made : (t : Task) (r : Real) (s : Setting) → AreHoused t r → (HasChoice r.prog (site_of s) → ⊥) → LacksHomes t r ⊎ HasChoice r.prog (site_of s) → ⊥
choice_made t r s housed unset (inl lacks) = not_missing t r housed lacks
choice_made t r s housed unset (inr has) = unset has

adds_not_denied : (t : Task) (x : RealLine) (before c : Real) (n : ℕ) (e : ProgError) → Adds t x before c → Denies t x before e n → e ≡ OutOfMemory
adds_not_denied t x before c n OutOfMemory a d = refl
adds_not_denied t (Home p l) before c n (TwiceSet i) a d = absurd (d.1 a.0)
adds_not_denied t (Home p l) before c n (BadLine i) a d = absurd d
adds_not_denied t (Home p l) before c n (NoSuchSite i) a d = absurd d
adds_not_denied t (Home p l) before c n (NoSuchChoice i) a d = absurd d
adds_not_denied t (Enter x) before c n (TwiceSet i) a d = absurd (entry_taken t before x.pin.0 a.0 d.1)
adds_not_denied t (Enter x) before c n (BadLine i) a d = absurd (entry_late t before x.pin.0 a.0 d.1)
adds_not_denied t (Enter x) before c n (NoSuchSite i) a d = absurd d
adds_not_denied t (Enter x) before c n (NoSuchChoice i) a d = absurd d
adds_not_denied t (Choice s) before c n (TwiceSet i) a d = absurd (choice_made t before s a.0 a.1 d.1)
adds_not_denied t (Choice s) before c n (BadLine i) a d = absurd d
adds_not_denied t (Choice s) before c n (NoSuchSite i) a d = absurd d
adds_not_denied t (Choice s) before c n (NoSuchChoice i) a d = absurd d

-- and it is denied in one way

taken_late : (t : Task) (r : Real) (pin : ℕ) → LacksHomes t r ⊎ IsEntered r.entries pin → IsLate t r pin → ⊥
taken_late t r pin (inl lacks) late = not_missing t r late.housed lacks
taken_late t r pin (inr is) late = late.free is

denied_once : (t : Task) (x : RealLine) (before : Real) (n : ℕ) (e f : ProgError) → Denies t x before e n → Denies t x before f n → AreOneRefusal e f
denied_once t x before n OutOfMemory f a b = inr (inl refl)
denied_once t x before n (BadLine i) OutOfMemory a b = inr (inr refl)
denied_once t x before n (NoSuchSite i) OutOfMemory a b = inr (inr refl)
denied_once t x before n (NoSuchChoice i) OutOfMemory a b = inr (inr refl)
denied_once t x before n (TwiceSet i) OutOfMemory a b = inr (inr refl)
denied_once t (Home p l) before n (BadLine i) f a b = absurd a
denied_once t (Home p l) before n (NoSuchSite i) f a b = absurd a
denied_once t (Home p l) before n (NoSuchChoice i) f a b = absurd a
denied_once t (Home p l) before n (TwiceSet i) (BadLine j) a b = absurd b
denied_once t (Home p l) before n (TwiceSet i) (NoSuchSite j) a b = absurd b
denied_once t (Home p l) before n (TwiceSet i) (NoSuchChoice j) a b = absurd b
denied_once t (Home p l) before n (TwiceSet i) (TwiceSet j) a b = inl (ap TwiceSet (a.0 ∙ sym b.0))
denied_once t (Enter x) before n (NoSuchSite i) f a b = absurd a
denied_once t (Enter x) before n (NoSuchChoice i) f a b = absurd a
denied_once t (Enter x) before n (BadLine i) (NoSuchSite j) a b = absurd b
denied_once t (Enter x) before n (BadLine i) (NoSuchChoice j) a b = absurd b
denied_once t (Enter x) before n (BadLine i) (BadLine j) a b = inl (ap BadLine (a.0 ∙ sym b.0))
denied_once t (Enter x) before n (BadLine i) (TwiceSet j) a b = absurd (taken_late t before x.pin.0 b.1 a.1)
denied_once t (Enter x) before n (TwiceSet i) (NoSuchSite j) a b = absurd b
denied_once t (Enter x) before n (TwiceSet i) (NoSuchChoice j) a b = absurd b
denied_once t (Enter x) before n (TwiceSet i) (BadLine j) a b = absurd (taken_late t before x.pin.0 a.1 b.1)
denied_once t (Enter x) before n (TwiceSet i) (TwiceSet j) a b = inl (ap TwiceSet (a.0 ∙ sym b.0))
denied_once t (Choice s) before n (BadLine i) f a b = absurd a
denied_once t (Choice s) before n (NoSuchSite i) f a b = absurd a
denied_once t (Choice s) before n (NoSuchChoice i) f a b = absurd a
denied_once t (Choice s) before n (TwiceSet i) (BadLine j) a b = absurd b
denied_once t (Choice s) before n (TwiceSet i) (NoSuchSite j) a b = absurd b
denied_once t (Choice s) before n (TwiceSet i) (NoSuchChoice j) a b = absurd b
denied_once t (Choice s) before n (TwiceSet i) (TwiceSet j) a b = inl (ap TwiceSet (a.0 ∙ sym b.0))

module _ (g : Graph) (t : Task) (atoms nets : List (List ℕ))
    (one : (line : List ℕ) (x y : RealLine) → SpellsLine g t atoms nets line x → SpellsLine g t atoms nets line y → x ≡ y)
    (spelled : (line : List ℕ) (x : RealLine) (n : ℕ) (e : ProgError) → SpellsLine g t atoms nets line x → LacksLine g t atoms nets line n e → e ≡ OutOfMemory)
    (lacks : (line : List ℕ) (n : ℕ) (e f : ProgError) → LacksLine g t atoms nets line n e → LacksLine g t atoms nets line n f → AreOneRefusal e f) where
  read_once : (line : List ℕ) (before c d : Real) → ReadsLine g t atoms nets line before c → ReadsLine g t atoms nets line before d → c ≡ d
  read_once line before c d (inl a) (inl b) = a.1 ∙ sym b.1
  read_once line before c d (inl a) (inr b) = absurd (silent g t atoms nets line b.says a.0 b.spells)
  read_once line before c d (inr a) (inl b) = absurd (silent g t atoms nets line a.says b.0 a.spells)
  read_once line before c d (inr a) (inr b) =
      let same : a.says ≡ b.says = one line a.says b.says a.spells b.spells in
      adds_once t b.says before c d (subst (λ (x : RealLine). Adds t x before c) same a.adds) b.adds

  all_once : (ls : List (List ℕ)) (before c d : Real) → ReadsLines g t atoms nets ls before c → ReadsLines g t atoms nets ls before d → c ≡ d
  all_once [] before c d a b = a ∙ sym b
  all_once (l ∷ ls) before c d a b =
      let next : a.0 ≡ b.0 = read_once l before a.0 b.0 a.1 b.1 in
      all_once ls b.0 c d (subst (λ (r : Real). ReadsLines g t atoms nets ls r c) next a.2) b.2

  pub one_real : (bytes : List ℕ) (a b : Real) → SpellsReal g t atoms nets bytes a → SpellsReal g t atoms nets bytes b → a ≡ b
  one_real bytes a b x y = all_once (lines bytes) nothing_read a b x.reads y.reads

  -- a line that can be read is refused by want of memory alone
  read_refused : (line : List ℕ) (before after : Real) (n : ℕ) (e : ProgError) → ReadsLine g t atoms nets line before after → RefusesLine g t atoms nets line before n e → e ≡ OutOfMemory
  read_refused line before after n e (inl empty) r = absurd (r.some empty.0)
  read_refused line before after n e (inr a) r = by r.why
    where
      by : LacksLine g t atoms nets line n e ⊎ DeniesLine g t atoms nets line before n e → e ≡ OutOfMemory
      by (inl l) = spelled line a.says n e a.spells l
      by (inr d) =
          let same : a.says ≡ d.says = one line a.says d.says a.spells d.spells in
          adds_not_denied t d.says before after n e (subst (λ (x : RealLine). Adds t x before after) same a.adds) d.denies

  refused_once : (line : List ℕ) (before : Real) (n : ℕ) (e f : ProgError) → RefusesLine g t atoms nets line before n e → RefusesLine g t atoms nets line before n f → AreOneRefusal e f
  refused_once line before n e f a b = by a.why b.why
    where
      by : LacksLine g t atoms nets line n e ⊎ DeniesLine g t atoms nets line before n e → LacksLine g t atoms nets line n f ⊎ DeniesLine g t atoms nets line before n f → AreOneRefusal e f
      by (inl l) (inl m) = lacks line n e f l m
      by (inl l) (inr d) = inr (inl (spelled line d.says n e d.spells l))
      by (inr d) (inl m) = inr (inr (spelled line d.says n f d.spells m))
      by (inr c) (inr d) =
          let same : c.says ≡ d.says = one line c.says d.says c.spells d.spells in
          denied_once t d.says before n e f (subst (λ (x : RealLine). Denies t x before e n) same c.denies) d.denies

  fails_once : (rest : List (List ℕ)) (before : Real) (n : ℕ) (e f : ProgError) → Fails g t atoms nets before rest n e → Fails g t atoms nets before rest n f → AreOneRefusal e f
  fails_once [] before n (BadLine i) (BadLine j) a b = inl (ap BadLine (a.0 ∙ sym b.0))
  fails_once [] before n (BadLine i) (NoSuchSite j) a b = absurd b
  fails_once [] before n (BadLine i) (NoSuchChoice j) a b = absurd b
  fails_once [] before n (BadLine i) (TwiceSet j) a b = absurd b
  fails_once [] before n (BadLine i) OutOfMemory a b = absurd b
  fails_once [] before n (NoSuchSite i) f a b = absurd a
  fails_once [] before n (NoSuchChoice i) f a b = absurd a
  fails_once [] before n (TwiceSet i) f a b = absurd a
  fails_once [] before n OutOfMemory f a b = absurd a
  fails_once (line ∷ rest) before n e f a b = refused_once line before n e f a b

  stops_once : (xs ys rx ry : List (List ℕ)) (before cx cy : Real) (n m : ℕ) (e f : ProgError) → (length xs ≡ length ys → n ≡ m) → xs ++ rx ≡ ys ++ ry →
      ReadsLines g t atoms nets xs before cx → ReadsLines g t atoms nets ys before cy → Fails g t atoms nets cx rx n e → Fails g t atoms nets cy ry m f → AreOneRefusal e f
  stops_once [] [] rx ry before cx cy n m e f count are x y a b =
      let number : n ≡ m = count refl in
      fails_once ry before m e f
      (subst (λ k. Fails g t atoms nets before ry k e) number (subst (λ l. Fails g t atoms nets before l n e) are (subst (λ (r : Real). Fails g t atoms nets r rx n e) x a)))
      (subst (λ (r : Real). Fails g t atoms nets r ry m f) y b)
  stops_once [] (y ∷ ys) rx ry before cx cy n m e f count are x read a b =
      inr (inl (read_refused y before read.0 n e read.1 (subst (λ l. Fails g t atoms nets before l n e) are (subst (λ (r : Real). Fails g t atoms nets r rx n e) x a))))
  stops_once (x ∷ xs) [] rx ry before cx cy n m e f count are read y a b =
      inr (inr (read_refused x before read.0 m f read.1 (subst (λ l. Fails g t atoms nets before l m f) (sym are) (subst (λ (r : Real). Fails g t atoms nets r ry m f) y b))))
  stops_once (x ∷ xs) (y ∷ ys) rx ry before cx cy n m e f count are readx ready a b =
      let here : x ≡ y = cc in
      let rest : xs ++ rx ≡ ys ++ ry = cc in
      let next : readx.0 ≡ ready.0 = read_once y before readx.0 ready.0 (subst (λ l. ReadsLine g t atoms nets l before readx.0) here readx.1) ready.1 in
      stops_once xs ys rx ry ready.0 cx cy n m e f (λ k. count (ap suc k)) rest (subst (λ (r : Real). ReadsLines g t atoms nets xs r cx) next readx.2) ready.2 a b

  one_stop : (all : List (List ℕ)) (e f : ProgError) → StopsAt g t atoms nets all e → StopsAt g t atoms nets all f → AreOneRefusal e f
  one_stop all e f a b =
      stops_once a.front b.front a.rest b.rest nothing_read a.before b.before (line_number a.front) (line_number b.front) e f
      (λ k. ap (λ (n : ℕ). min (1 + n) 4294967295) k) (sym a.are ∙ b.are) a.reads b.reads a.fails b.fails

  second_stops : (bytes : List ℕ) (e f : ProgError) → StopsAt g t atoms nets (lines bytes) e → Refuses g t atoms nets bytes f → AreOneRefusal e f
  second_stops bytes e OutOfMemory a b = inr (inr refl)
  second_stops bytes e (BadLine j) a b = one_stop (lines bytes) e (BadLine j) a b
  second_stops bytes e (NoSuchSite j) a b = one_stop (lines bytes) e (NoSuchSite j) a b
  second_stops bytes e (NoSuchChoice j) a b = one_stop (lines bytes) e (NoSuchChoice j) a b
  second_stops bytes e (TwiceSet j) a b = one_stop (lines bytes) e (TwiceSet j) a b

  pub one_refusal : (bytes : List ℕ) (e f : ProgError) → Refuses g t atoms nets bytes e → Refuses g t atoms nets bytes f → AreOneRefusal e f
  one_refusal bytes OutOfMemory f a b = inr (inl refl)
  one_refusal bytes (BadLine i) f a b = second_stops bytes (BadLine i) f a b
  one_refusal bytes (NoSuchSite i) f a b = second_stops bytes (NoSuchSite i) f a b
  one_refusal bytes (NoSuchChoice i) f a b = second_stops bytes (NoSuchChoice i) f a b
  one_refusal bytes (TwiceSet i) f a b = second_stops bytes (TwiceSet i) f a b

  -- where the lines spell a realisation, none fails
  housed_fails : (before : Real) (n : ℕ) (e : ProgError) → AreHoused t before → Fails g t atoms nets before [] n e → e ≡ OutOfMemory
  housed_fails before n (BadLine i) housed a = absurd (not_missing t before housed a.1)
  housed_fails before n (NoSuchSite i) housed a = absurd a
  housed_fails before n (NoSuchChoice i) housed a = absurd a
  housed_fails before n (TwiceSet i) housed a = absurd a
  housed_fails before n OutOfMemory housed a = absurd a

  not_stopped : (xs ls rest : List (List ℕ)) (before now c : Real) (n : ℕ) (e : ProgError) → ls ≡ xs ++ rest → ReadsLines g t atoms nets xs before now →
      ReadsLines g t atoms nets ls before c → AreHoused t c → Fails g t atoms nets now rest n e → e ≡ OutOfMemory
  not_stopped [] [] rest before now c n e are x y housed a =
      housed_fails before n e (subst (λ (r : Real). AreHoused t r) y housed) (subst (λ l. Fails g t atoms nets before l n e) (sym are) (subst (λ (r : Real). Fails g t atoms nets r rest n e) x a))
  not_stopped [] (l ∷ ls) rest before now c n e are x y housed a =
      read_refused l before y.0 n e y.1 (subst (λ k. Fails g t atoms nets before k n e) (sym are) (subst (λ (r : Real). Fails g t atoms nets r rest n e) x a))
  not_stopped (k ∷ xs) [] rest before now c n e are x y housed a = absurd (cc)
  not_stopped (k ∷ xs) (l ∷ ls) rest before now c n e are x y housed a =
      let here : k ≡ l = cc in
      let more : ls ≡ xs ++ rest = cc in
      let next : x.0 ≡ y.0 = read_once l before x.0 y.0 (subst (λ s. ReadsLine g t atoms nets s before x.0) here x.1) y.1 in
      not_stopped xs ls rest y.0 now c n e more (subst (λ (r : Real). ReadsLines g t atoms nets xs r now) next x.2) y.2 housed a

  stopped : (bytes : List ℕ) (r : Real) (e : ProgError) → SpellsReal g t atoms nets bytes r → StopsAt g t atoms nets (lines bytes) e → e ≡ OutOfMemory
  stopped bytes r e spells s = not_stopped s.front (lines bytes) s.rest nothing_read s.before r (line_number s.front) e s.are s.reads spells.reads spells.housed s.fails

  pub never_both : (bytes : List ℕ) (r : Real) (e : ProgError) → SpellsReal g t atoms nets bytes r → Refuses g t atoms nets bytes e → e ≡ OutOfMemory
  never_both bytes r OutOfMemory spells refuses = refl
  never_both bytes r (BadLine i) spells refuses = stopped bytes r (BadLine i) spells refuses
  never_both bytes r (NoSuchSite i) spells refuses = stopped bytes r (NoSuchSite i) spells refuses
  never_both bytes r (NoSuchChoice i) spells refuses = stopped bytes r (NoSuchChoice i) spells refuses
  never_both bytes r (TwiceSet i) spells refuses = stopped bytes r (TwiceSet i) spells refuses
