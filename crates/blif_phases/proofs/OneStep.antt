-- A line is read in one way.
use Rattle.std.proofs.Common.{◌≡◌, ◌↔◌, inl, inr, ℕ, Bool, true, false, IsTrue, List, [], ◌∷◌, refl, sym, ap, ◌∙◌, subst}
use Rattle.std.specs.Prelude.{codes}
use Rattle.vtr_base.specs.Spans.{AreWords}
use Rattle.blif_lines.specs.Lines.{LineSaid}
use Rattle.blif_elems.specs.Statements.{Said, WordsSay}
use Rattle.blif_elems.specs.Faults.{FaultSaid, IsFault}
use Rattle.blif_phases.specs.declared.phase.Phase.{Phase}
use Rattle.blif_phases.specs.declared.phase.Phase.TheVariants.{Before, Inside, Behind, Later, BlackBox}
use Rattle.blif_phases.specs.Phases.{HasWords, Leads, IsReadAt, IsLone, PassesOver, GoesOn, StopSaid, stop_of, stray, HasFault, IsStray, IsRefused, StopsAt}
use Rattle.blif_phases.specs.Seen.{Holds}

-- what a caller knows of words

abbrev pub OneWords : Type 0
OneWords = (text : List ℕ) (vs ws : List (List ℕ)) → AreWords text vs → AreWords text ws → vs ≡ ws

abbrev pub OneSaid : Type 0
OneSaid = (words : List (List ℕ)) (s t : Said) → WordsSay words s → WordsSay words t → s ≡ t

abbrev pub NoFault : Type 0
NoFault = (words : List (List ℕ)) (s : Said) (f : FaultSaid) → WordsSay words s → IsFault words f → ⊥

abbrev pub OneFault : Type 0
OneFault = (words : List (List ℕ)) (f g : FaultSaid) → IsFault words f → IsFault words g → f ≡ g

pub untrue : (v : Bool) → v ≡ false → v ≡ true → ⊥
untrue v f t = cc

pub lone_is : OneWords → (l : LineSaid) (is_utf8 r : Bool) (words : List (List ℕ)) (word : List ℕ) → is_utf8 ≡ true → (IsTrue r ↔ (words ≡ word ∷ [])) → Holds l is_utf8 words → IsTrue r ↔ IsLone l word
lone_is one l is_utf8 r words word on same holds = (
  λ yes'. record { utf8 = holds.told ∙ on; are = subst (AreWords l.text) (same.0 yes') (holds.are on) },
  λ lone. same.1 (one l.text words (word ∷ []) (holds.are on) lone.are),
)

pub not_lone : (l : LineSaid) (is_utf8 : Bool) (words : List (List ℕ)) (word : List ℕ) → is_utf8 ≡ false → Holds l is_utf8 words → IsLone l word → ⊥
not_lone l is_utf8 words word off holds lone = untrue l.is_utf8 (holds.told ∙ off) lone.utf8

same_words : OneWords → (l : LineSaid) (v w : List (List ℕ)) → HasWords l v → HasWords l w → v ≡ w
same_words one l v w a b = one l.text v w a.are b.are

same_said : OneWords → OneSaid → (l : LineSaid) (v w : List (List ℕ)) (s t : Said) → HasWords l v → HasWords l w → WordsSay v s → WordsSay w t → s ≡ t
same_said one said l v w s t a b x y = said w s t (subst (λ ws. WordsSay ws s) (same_words one l v w a b) x) y

fault_or_said : OneWords → NoFault → (l : LineSaid) (v w : List (List ℕ)) (s : Said) (f : FaultSaid) → HasWords l v → HasWords l w → WordsSay v s → IsFault w f → ⊥
fault_or_said one none l v w s f a b x y = none w s f (subst (λ ws. WordsSay ws s) (same_words one l v w a b) x) y

one_refused : OneWords → OneSaid → NoFault → OneFault → (phase : Phase) (l : LineSaid) (s t : StopSaid) → IsRefused phase l s → IsRefused phase l t → s ≡ t
one_refused one said none fault phase l s t (inl a) (inl b) = a.1 ∙ sym b.1
one_refused one said none fault phase l s t (inl a) (inr (inl b)) = absurd (untrue l.is_utf8 a.0 b.has.utf8)
one_refused one said none fault phase l s t (inl a) (inr (inr b)) = absurd (untrue l.is_utf8 a.0 b.has.utf8)
one_refused one said none fault phase l s t (inr (inl a)) (inl b) = absurd (untrue l.is_utf8 b.0 a.has.utf8)
one_refused one said none fault phase l s t (inr (inr a)) (inl b) = absurd (untrue l.is_utf8 b.0 a.has.utf8)
one_refused one said none fault phase l s t (inr (inl a)) (inr (inl b)) =
    let same = fault b.words a.fault b.fault (subst (λ ws. IsFault ws a.fault) (same_words one l a.words b.words a.has b.has) a.is_fault) b.is_fault in
    a.stop_is ∙ (ap (stop_of phase) same ∙ sym b.stop_is)
one_refused one said none fault phase l s t (inr (inl a)) (inr (inr b)) = absurd (fault_or_said one none l b.words a.words b.said a.fault b.has a.has b.says a.is_fault)
one_refused one said none fault phase l s t (inr (inr a)) (inr (inl b)) = absurd (fault_or_said one none l a.words b.words a.said b.fault a.has b.has a.says b.is_fault)
one_refused one said none fault phase l s t (inr (inr a)) (inr (inr b)) =
    a.stop_is ∙ (ap stray (same_said one said l a.words b.words a.said b.said a.has b.has a.says b.says) ∙ sym b.stop_is)

pub one_stop : OneWords → OneSaid → NoFault → OneFault → (phase : Phase) (l : LineSaid) (s t : StopSaid) → StopsAt phase l s → StopsAt phase l t → s ≡ t
one_stop one said none fault Later l s t a b = a.1 ∙ sym b.1
one_stop one said none fault BlackBox l s t a b = absurd a
one_stop one said none fault Before l s t a b = one_refused one said none fault Before l s t a b
one_stop one said none fault Inside l s t a b = one_refused one said none fault Inside l s t a b
one_stop one said none fault Behind l s t a b = one_refused one said none fault Behind l s t a b

read_not_refused : OneWords → OneSaid → NoFault → (phase : Phase) (l : LineSaid) (next : Phase) (s : Said) (t : StopSaid) → IsReadAt phase l next s → IsRefused phase l t → ⊥
read_not_refused one said none phase l next s t a (inl b) = untrue l.is_utf8 b.0 a.has.utf8
read_not_refused one said none phase l next s t a (inr (inl b)) = fault_or_said one none l a.words b.words s b.fault a.has b.has a.says b.is_fault
read_not_refused one said none phase l next s t a (inr (inr b)) =
    b.none next (subst (λ x. Leads phase x next) (same_said one said l a.words b.words s b.said a.has b.has a.says b.says) a.leads)

no_later : (s : Said) (next : Phase) → Leads Later s next → ⊥
no_later s next leads = leads

not_both_words : OneWords → (l : LineSaid) → IsLone l (codes ".blackbox") → IsLone l (codes ".end") → ⊥
not_both_words one l a b =
    let e : codes ".blackbox" ∷ [] ≡ codes ".end" ∷ [] = same_words one l (codes ".blackbox" ∷ []) (codes ".end" ∷ []) a b in
    cc

pub never : OneWords → OneSaid → NoFault → (phase : Phase) (l : LineSaid) (next : Phase) (s : Said) (t : StopSaid) → GoesOn phase l next s → StopsAt phase l t → ⊥
never one said none Before l next s t (inl a) b = read_not_refused one said none Before l next s t a b
never one said none Inside l next s t (inl a) b = read_not_refused one said none Inside l next s t a b
never one said none Behind l next s t (inl a) b = read_not_refused one said none Behind l next s t a b
never one said none Later l next s t (inl a) b = no_later s next a.leads
never one said none BlackBox l next s t (inl a) b = b
never one said none Before l next s t (inr a) b = a.0
never one said none Inside l next s t (inr a) b = a.0
never one said none Behind l next s t (inr a) b = a.0
never one said none BlackBox l next s t (inr a) b = b
never one said none Later l next s t (inr (inl a, said_is)) b = not_both_words one l a.0 b.0
never one said none Later l next s t (inr (inr a, said_is)) b = a.1 b.0
