-- What the words behind the first one say.
use Rattle.std.proofs.Common.{◌≡◌, ℕ, List, [], ◌∷◌, ◌++◌, codes, refl, sym, subst, ◌∙◌, inl}
use Rattle.vtr_base.specs.Lists.{Has}
use Rattle.list_laws.proofs.Members.{has_right}
use Rattle.pb_expand.specs.declared.number.PinIx.{PinIx}
use Rattle.pb_expand.specs.Graph.{Graph}
use Rattle.prog_text.specs.Names.{NamesPin}
use Rattle.name_laws.specs.Laws.{TellsOnePin}
use Rattle.task_types.specs.declared.task.Task.{Task}
use Rattle.task_types.specs.declared.tree.Var.{Var}
use Rattle.task_types.specs.declared.tree.Var.TheVariants as var
use Rattle.tree_lines.specs.Words.{AreEach, IsNumber, IsNeed, IsPin, AreCut}
use Rattle.tree_lines.specs.Variables.{SaysVar, NamesModeInto}
use Rattle.tree_lines.specs.Nodes.{SaysBranch, SaysCrowd}
use Rattle.tree_lines.proofs.EachWord.{one_last, one_word_cut, no_slash}

behind : {X : Type 0} {a b : X} {xs ys : List X} → a ∷ xs ≡ b ∷ ys → xs ≡ ys
behind e = cc

module _ (g : Graph) (t : Task) where
  -- `branch`: the last word is no number

  pub no_count : (words front : List (List ℕ)) (count : List ℕ) → words ≡ front ++ count ∷ [] → ((n : ℕ) → IsNumber count n → ⊥) → (v : Var) (kids : ℕ) →
      SaysBranch g t (codes "branch" ∷ words) v kids → ⊥
  no_count words front count are none v kids says =
      let parts = one_last says.front front says.count count (sym (behind says.are) ∙ are) in
      none kids (subst (λ w. IsNumber w kids) parts.1 says.number)

  -- `edge`: the pin is there, but no edge leads into it in such a mode
  pub no_mode : TellsOnePin g → (keyword name text : List ℕ) (pin : PinIx) → NamesPin g name pin.0 → ((m : ℕ) → NamesModeInto g pin.0 text m → ⊥) → (v : Var) →
      SaysVar g t (keyword ∷ name ∷ text ∷ []) v → ⊥
  no_mode pins keyword name text pin is none (var.Edge p m) says =
      let first : says.names.0 ≡ name = second (sym says.names.2) in
      let last : says.names.1 ≡ text = third (sym says.names.2) in
      let same : p.0 ≡ pin.0 = pins name p.0 pin.0 (subst (λ n. NamesPin g n p.0) first says.names.3) is in
      none m (subst (λ k. NamesModeInto g k text m) same (subst (λ w. NamesModeInto g p.0 w m) last says.names.4))
    where
      second : {a b c d e f : List ℕ} → a ∷ b ∷ c ∷ [] ≡ d ∷ e ∷ f ∷ [] → b ≡ e
      second e = cc

      third : {a b c d e f : List ℕ} → a ∷ b ∷ c ∷ [] ≡ d ∷ e ∷ f ∷ [] → c ≡ f
      third e = cc
  no_mode pins keyword name text pin is none (var.Mode pb) says = let e = says.names.1 in cc
  no_mode pins keyword name text pin is none (var.Occupant pb) says = let e = says.names.1 in cc
  no_mode pins keyword name text pin is none (var.Entry p) says = let e = says.names.1 in cc

  -- `crowd`: needs, a slash and pins

  pub no_crowd : (words : List (List ℕ)) → (Has words (codes "/") → ⊥) → (needs : List ℕ) (pins : List PinIx) → SaysCrowd g t (codes "crowd" ∷ words) needs pins → ⊥
  no_crowd words none needs pins says =
      none (subst (λ l. Has l (codes "/")) (sym (behind says.are)) (has_right says.numbers (codes "/" ∷ says.list) (codes "/") (inl refl)))

  crowd_parts : (words front rest : List (List ℕ)) → AreCut words (codes "/") front rest → (needs : List ℕ) (pins : List PinIx) →
      (says : SaysCrowd g t (codes "crowd" ∷ words) needs pins) → (says.numbers ≡ front) × (says.list ≡ rest)
  crowd_parts words front rest cut needs pins says =
      one_word_cut (codes "/") says.numbers front says.list rest (no_slash t says.numbers needs says.are_needs) cut.first (sym (behind says.are) ∙ cut.spelled)

  pub no_needs : (words front rest : List (List ℕ)) → AreCut words (codes "/") front rest → ((ns : List ℕ) → AreEach (IsNeed t) front ns → ⊥) → (needs : List ℕ) (pins : List PinIx) →
      SaysCrowd g t (codes "crowd" ∷ words) needs pins → ⊥
  no_needs words front rest cut none needs pins says =
      none needs (subst (λ l. AreEach (IsNeed t) l needs) (crowd_parts words front rest cut needs pins says).0 says.are_needs)

  pub no_crowd_pins : (words front rest : List (List ℕ)) → AreCut words (codes "/") front rest → ((ps : List PinIx) → AreEach (IsPin g) rest ps → ⊥) → (needs : List ℕ) (pins : List PinIx) →
      SaysCrowd g t (codes "crowd" ∷ words) needs pins → ⊥
  no_crowd_pins words front rest cut none needs pins says =
      none pins (subst (λ l. AreEach (IsPin g) l pins) (crowd_parts words front rest cut needs pins says).1 says.each)
