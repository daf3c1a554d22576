-- What holds of each thing that elements without broken rules give.
use Rattle.std.proofs.Common.{List, [], ◌∷◌, ◌++◌}
use Rattle.std.specs.List.{All, flat_map}
use Rattle.std.proofs.lemmas.List.Elements.{All-nil, All-append, All-head, All-tail}
use Rattle.elem_text.specs.declared.elem.Elem.{Elem}
use Rattle.arch_rules.specs.Elements.{kids_of}
use Rattle.arch_rules.specs.Rules.{Inside, role_at}
use Rattle.arch_rules.specs.Walks.{inside, cousins, AreFine, more, IsFineAt}

-- an element that breaks no rule where it stands, nor anything in it
abbrev pub IsFineDeep : Inside → List Elem → Elem → Type 0
IsFineDeep at before e = IsFineAt at before e × AreFine (inside at e) (cousins (role_at at e) before) (kids_of e)

pub each : {X : Type 0} (P : X → Type 0) (f : Elem → List X) (at : Inside) (before elems : List Elem) → AreFine at before elems →
    ((before : List Elem) (e : Elem) → IsFineDeep at before e → All P (f e)) → All P (flat_map f elems)
each P f at before [] fine gives = All-nil P
each P f at before (e ∷ rest) (more _ _ _ _ own deep tail) gives =
    All-append P (f e) (flat_map f rest) (gives before e (own, deep)) (each P f at (before ++ e ∷ []) rest tail gives)

-- the same where something else is known of each element
pub each_with : {X : Type 0} (P : X → Type 0) (Q : Elem → Type 0) (f : Elem → List X) (at : Inside) (before elems : List Elem) → AreFine at before elems → All Q elems →
    ((before : List Elem) (e : Elem) → IsFineDeep at before e → Q e → All P (f e)) → All P (flat_map f elems)
each_with P Q f at before [] fine known gives = All-nil P
each_with P Q f at before (e ∷ rest) (more _ _ _ _ own deep tail) known gives =
    All-append P (f e) (flat_map f rest) (gives before e (own, deep) (All-head Q e rest known))
    (each_with P Q f at (before ++ e ∷ []) rest tail (All-tail Q e rest known) gives)

pub first_fine : (at : Inside) (before : List Elem) (e : Elem) (rest : List Elem) → AreFine at before (e ∷ rest) → IsFineDeep at before e
first_fine at before e rest (more _ _ _ _ own deep tail) = (own, deep)
