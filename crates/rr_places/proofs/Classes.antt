-- The classes of pins, pin by pin.
use Rattle.std.proofs.Common.{map, ◌≡◌, ◌≢◌, ◌⊎◌, ℕ, List, [], ◌∷◌, ◌++◌, refl, sym, subst, inl, inr}
use Rattle.vtr_base.specs.Lists.{Has}
use Rattle.list_laws.proofs.Members.{has_left, has_last, has_pushed, from_map}
use Rattle.rr_places.specs.declared.pin_text.SubPin.{SubPin}
use Rattle.rr_places.specs.declared.pins.ClassedPin.{ClassedPin}
use Rattle.rr_places.specs.Pins.{ptc_of, IsSeen, NumberedPin, HasClass, AreClasses, NotesClass}

class_front : (ps qs : List NumberedPin) (pin : SubPin) (class : ℕ) → HasClass ps pin class → HasClass (ps ++ qs) pin class
class_front [] qs pin class h = absurd h
class_front (p ∷ ps) qs pin class (inl here) = inl here
class_front (p ∷ ps) qs pin class (inr more) = inr (more.0, class_front ps qs pin class more.1)

class_last : (ps : List NumberedPin) (ptc : ℕ) (p : ClassedPin) → ((class : ℕ) → HasClass ps p.pin class → ⊥) → HasClass (ps ++ (ptc, p) ∷ []) p.pin p.class
class_last [] ptc p none = inl (refl, refl)
class_last (q ∷ ps) ptc p none =
    let apart : q.1.pin ≢ p.pin = λ e. none q.1.class (inl (e, refl)) in
    inr (apart, class_last ps ptc p (λ class h. none class (inr (apart, h))))

class_either : (ps : List NumberedPin) (ptc : ℕ) (p : ClassedPin) (pin : SubPin) (class : ℕ) → HasClass (ps ++ (ptc, p) ∷ []) pin class →
    HasClass ps pin class ⊎ (p.pin ≡ pin)
class_either [] ptc p pin class (inl here) = inr here.0
class_either [] ptc p pin class (inr more) = absurd more.1
class_either (q ∷ ps) ptc p pin class (inl here) = inl (inl here)
class_either (q ∷ ps) ptc p pin class (inr more) =
    elim (class_either ps ptc p pin class more.1) [ inl front ↦ inl (inr (more.0, front)) | inr last ↦ inr last ]

pub classes_more : (ps : List NumberedPin) (ptc : ℕ) (p : ClassedPin) (old new : List (SubPin × ℕ)) → AreClasses ps old → NotesClass old p new →
    AreClasses (ps ++ (ptc, p) ∷ []) new
classes_more ps ptc p old new are (inl kept) = record {
  told = λ pin class has. class_front ps ((ptc, p) ∷ []) pin class (are.told pin class (subst (λ l. Has l (pin, class)) kept.1 has));
  all = λ pin none class h. elim (class_either ps ptc p pin class h) [
    | inl front ↦ are.all pin (λ d has. none d (subst (λ l. Has l (pin, d)) (sym kept.1) has)) class front
    | inr same ↦ none kept.0.0 (subst (λ l. Has l (pin, kept.0.0)) (sym kept.1) (subst (λ s. Has old (s, kept.0.0)) same kept.0.1))
  ];
}
classes_more ps ptc p old new are (inr added) = record {
  told = λ pin class has. elim (has_pushed old (p.pin, p.class) (pin, class) (subst (λ l. Has l (pin, class)) added.1 has)) [
    | inl before ↦ class_front ps ((ptc, p) ∷ []) pin class (are.told pin class before)
    | inr is ↦ subst (λ (e : SubPin × ℕ). HasClass (ps ++ (ptc, p) ∷ []) e.0 e.1) (sym is) (class_last ps ptc p (are.all p.pin added.0))
  ];
  all = λ pin none class h. elim (class_either ps ptc p pin class h) [
    | inl front ↦ are.all pin (λ d has. none d (subst (λ l. Has l (pin, d)) (sym added.1) (has_left old ((p.pin, p.class) ∷ []) (pin, d) has))) class front
    | inr same ↦ none p.class (subst (λ l. Has l (pin, p.class)) (sym added.1) (subst (λ s. Has (old ++ (p.pin, p.class) ∷ []) (s, p.class)) same (has_last old (p.pin, p.class))))
  ];
}

pub no_classes : (ps : List NumberedPin) (cs : List (SubPin × ℕ)) → ps ≡ [] → cs ≡ [] → AreClasses ps cs
no_classes [] [] e f = record { told = λ pin class has. absurd has; all = λ pin none class h. h }
no_classes [] (c ∷ cs) e f = cc
no_classes (p ∷ ps) cs e f = cc

pub seen_of : (ps : List NumberedPin) (ptc : ℕ) → Has (map ptc_of ps) ptc → IsSeen ps ptc
seen_of ps ptc has =
    let f = from_map ptc_of ps ptc has in
    (f.item.1, subst (λ n. Has ps (n, f.item.1)) (sym f.is) f.has)
