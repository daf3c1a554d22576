-- The open elements, as the code holds them.
use Rattle.std.proofs.Common.{◌≡◌, ℕ, suc, Bool, true, false, List, [], ◌∷◌, ◌++◌, length, refl, sym, ap, subst, ◌∙◌, arith, append-nil, length-append, ◌↔◌, eqb}
use Rattle.std.proofs.lemmas.Bool.Decides.{nat_tests}
use Rattle.std.specs.Prelude.{IsTrue}
use Rattle.std.proofs.lemmas.Bool.{false≢true}
use Rattle.elem_text.specs.declared.stack.Frame.{Frame}
use Rattle.elem_text.specs.declared.elem.Elem.{Elem}
use Rattle.elem_text.specs.declared.elem.Attr.{Attr}
use Rattle.vtr_base.specs.declared.place.Place.{Place}
use Rattle.elem_text.specs.Bytes.{AreAll, is_white, IsSpan}
use Rattle.elem_text.specs.Stack.{top_first, HasRoom, MayHold, MayClose, stack_of, close_top, with_kid, closed, frame}
use Rattle.elem_text.proofs.Spans.{same_span}

pub top_first_push : (fs : List Frame) (f : Frame) → top_first (fs ++ f ∷ []) ≡ f ∷ top_first fs
top_first_push [] f = refl
top_first_push (g ∷ fs) f = ap (λ l. l ++ g ∷ []) (top_first_push fs f)

pub length-top_first : (fs : List Frame) → length (top_first fs) ≡ length fs
length-top_first [] = refl
length-top_first (f ∷ fs) = omega (arith, length-append (top_first fs) (f ∷ []), length-top_first fs)

pub not_empty : {X : Type 0} (r : Bool) (fs : List X) → (IsTrue r ↔ (fs ≡ [])) → r ≡ false → fs ≡ [] → ⊥
not_empty r fs h e n = false≢true (sym e ∙ h.1 n)

some_below : (fs : List Frame) → (fs ≡ [] → ⊥) → top_first fs ≡ [] → ⊥
some_below [] n e = n refl
some_below (f ∷ fs) n e = absurd (omega (arith, ap length e, length-append (top_first fs) (f ∷ [])))

pub room_inside : (f : Frame) (fs : List Frame) → (fs ≡ [] → ⊥) → HasRoom f (top_first fs)
room_inside f fs n = inside (top_first fs) (some_below fs n)
  where
    inside : (gs : List Frame) → (gs ≡ [] → ⊥) → HasRoom f gs
    inside [] m = absurd (m refl)
    inside (g ∷ gs) m = tt

pub hold_inside : (fs : List Frame) (raw : List ℕ) → (fs ≡ [] → ⊥) → MayHold (top_first fs) raw
hold_inside fs raw n = inside (top_first fs) (some_below fs n)
  where
    inside : (gs : List Frame) → (gs ≡ [] → ⊥) → MayHold gs raw
    inside [] m = absurd (m refl)
    inside (g ∷ gs) m = tt

pub top_first_empty : (fs : List Frame) → top_first fs ≡ [] → fs ≡ []
top_first_empty [] e = refl
top_first_empty (f ∷ fs) e = absurd (omega (arith, ap length e, length-append (top_first fs) (f ∷ [])))

-- a run is white where nothing follows its longest white front
pub white_whole : (raw f rest : List ℕ) → IsSpan is_white raw f rest → AreAll is_white raw ↔ (rest ≡ [])
white_whole raw f rest s = (
  λ a. (same_span is_white raw f raw rest [] s (record { spelled = sym (append-nil raw); all = a; stops = tt })).1,
  λ e. let P : List ℕ → Type 0 = λ l. AreAll is_white l in subst P (sym (s.spelled ∙ (ap (λ l. f ++ l) e ∙ append-nil f))) s.all,
)

pub closes_name : (top outer : Frame) (below rest : List Frame) (name : List ℕ) → below ≡ rest ++ outer ∷ [] → top.name ≡ name → MayClose top (top_first below) name
closes_name top outer below rest name e n =
    let P : List Frame → Type 0 = λ l. MayClose top l name in
    subst P (sym (ap top_first e ∙ top_first_push rest outer)) (sym n)

pub closes_to : (top outer : Frame) (below rest : List Frame) → below ≡ rest ++ outer ∷ [] →
    close_top top (top_first below) ≡ record { top = with_kid outer (closed top); below = top_first rest }
closes_to top outer below rest e = ap (close_top top) (ap top_first e ∙ top_first_push rest outer)

pub white_held : (fs : List Frame) (raw f rest : List ℕ) (r : Bool) → fs ≡ [] → IsSpan is_white raw f rest → r ≡ eqb (length rest) 0 → IsTrue r ↔ MayHold (top_first fs) raw
white_held fs raw f rest r e s h =
    let P : List Frame → Type 0 = λ l. IsTrue r ↔ MayHold (top_first l) raw in
    subst P (sym e) (λ t. (white_whole raw f rest s).1 (empty rest (sym h ∙ t)), λ a. h ∙ ap (λ l. eqb (length l) 0) ((white_whole raw f rest s).0 a))
  where
    empty : (rest : List ℕ) → eqb (length rest) 0 ≡ true → rest ≡ []
    empty [] t = refl
    empty (x ∷ rest) t = absurd (positive (length rest) t)
      where
        positive : (n : ℕ) → eqb (suc n) 0 ≡ true → ⊥
        positive n e = grind (arith, nat_tests)

pub frame_is : (n n' : List ℕ) (attrs : List Attr) (t : List ℕ) (kids : List Elem) (place : Place) (f : Frame) →
    f ≡ record { name = n; attrs = attrs; text = t; kids = kids; place = place } → n ≡ n' → t ≡ [] → kids ≡ [] → f ≡ frame n' attrs place
frame_is n n' attrs t kids place f e a b c = cc

pub opened_is : (dest f out top : Frame) (below pushed : List Frame) → dest ≡ f → out ≡ top → pushed ≡ below ++ out ∷ [] →
    stack_of (record { top = dest; below = pushed }) ≡ record { top = f; below = top ∷ top_first below }
opened_is dest f out top below pushed d o p =
    let e : top_first pushed ≡ top ∷ top_first below = ap top_first p ∙ (top_first_push below out ∙ ap (λ (g : Frame). g ∷ top_first below) o) in
    cc

pub closed_is : (dest outer inner top : Frame) (below rest : List Frame) (pushed : List Elem) → below ≡ rest ++ outer ∷ [] → inner ≡ top → dest ≡ outer →
    pushed ≡ dest.kids ++ closed inner ∷ [] →
    stack_of (record { top = record { name = dest.name; attrs = dest.attrs; text = dest.text; kids = pushed; place = dest.place }; below = rest }) ≡ close_top top (top_first below)
closed_is dest outer inner top below rest pushed b i d p =
    let k : pushed ≡ outer.kids ++ closed top ∷ [] = p ∙ (ap (λ (g : Frame). g.kids ++ closed inner ∷ []) d ∙ ap (λ (g : Frame). outer.kids ++ closed g ∷ []) i) in
    let P : Frame → Type 0 = λ g. stack_of (record { top = record { name = g.name; attrs = g.attrs; text = g.text; kids = pushed; place = g.place }; below = rest })
    ≡ record { top = with_kid outer (closed top); below = top_first rest } in
    let Q : List Elem → Type 0 = λ l. stack_of (record { top = record { name = outer.name; attrs = outer.attrs; text = outer.text; kids = l; place = outer.place }; below = rest })
    ≡ record { top = with_kid outer (closed top); below = top_first rest } in
    subst P (sym d) (subst Q (sym k) refl) ∙ sym (closes_to top outer below rest b)
