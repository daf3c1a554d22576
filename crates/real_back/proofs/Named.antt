-- The names of a task's atoms and nets are texts.
use Rattle.std.proofs.Common.{◌≡◌, ℕ, List, [], Option, Some, None, slice_get, refl, sym, subst, ap, ◌∙◌}
use Rattle.std.specs.Option.{option_map, option_map_or, unwrap_or}
use Rattle.std.proofs.lemmas.Option.{slice_get-map}
use Rattle.list_laws.proofs.Places.{element}
use Rattle.net_types.specs.declared.atom.Atom.{Atom}
use Rattle.net_types.specs.Words.{IsWord}
use Rattle.atom_words.specs.Laws.{AreAtomWords, AreNetWords}
use Rattle.prog_text.specs.LineLaws.{IsText}
use Rattle.task_types.specs.declared.task.Task.{Task}
use Rattle.task_types.specs.declared.task.TaskNet.{TaskNet}
use Rattle.tree_lines.specs.Nodes.{task_names}
use Rattle.tree_text.specs.Text.{HasAtoms}
use Rattle.real_lines.specs.Nets.{HasNets, net_names}

text_of : (word : List ℕ) → IsWord word → IsText word
text_of word is = record { some = is.some; dark = is.dark; utf8 = is.utf8 }

some_is : {x y : List ℕ} → Some x ≡ Some y → x ≡ y
some_is e = cc

pub atom_texts : (atoms : List Atom) → AreAtomWords atoms → (t : Task) → HasAtoms atoms t → (k : ℕ) (name : List ℕ) → slice_get (task_names atoms t) k ≡ Some name → IsText name
atom_texts atoms words t has k name at =
    by (slice_get t.atoms k) refl (sym (slice_get-map (λ (n : ℕ). option_map_or (λ (a : Atom). a.name) (slice_get atoms n) []) t.atoms k) ∙ at)
  where
    by : (o : Option ℕ) → slice_get t.atoms k ≡ o → option_map (λ (n : ℕ). option_map_or (λ (a : Atom). a.name) (slice_get atoms n) []) o ≡ Some name → IsText name
    by None e none = absurd (cc)
    by (Some n) e some =
        let x = element atoms n (has.there k n e) in
        let text : x.0.name ≡ name = sym (ap (λ o. option_map_or (λ (a : Atom). a.name) o []) x.1) ∙ some_is some in
        subst IsText text (text_of x.0.name (words n x.0 x.1))

pub net_texts : (nets : List (List ℕ)) → AreNetWords nets → (t : Task) → HasNets nets t → (k : ℕ) (name : List ℕ) → slice_get (net_names nets t) k ≡ Some name → IsText name
net_texts nets words t has k name at =
    by (slice_get t.nets k) refl (sym (slice_get-map (λ (of : TaskNet). unwrap_or (slice_get nets of.net) []) t.nets k) ∙ at)
  where
    by : (o : Option TaskNet) → slice_get t.nets k ≡ o → option_map (λ (of : TaskNet). unwrap_or (slice_get nets of.net) []) o ≡ Some name → IsText name
    by None e none = absurd (cc)
    by (Some of) e some =
        let x = element nets of.net (has.there k of e) in
        let text : x.0 ≡ name = sym (ap (λ o. unwrap_or o []) x.1) ∙ some_is some in
        subst IsText text (text_of x.0 (words of.net x.0 x.1))
