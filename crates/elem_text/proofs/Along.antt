-- The whole state of the reader, one piece on, and where it ends.
use Rattle.std.proofs.Common.{◌≡◌, ℕ, ◌<◌, Bool, true, false, List, [], ◌∷◌, ◌++◌, length, refl, sym, ap, subst, ◌∙◌, arith, append_assoc, ⊎_elim}
use Rattle.vtr_base.specs.declared.place.Place.{Place}
use Rattle.elem_text.specs.declared.elem.Attr.{Attr}
use Rattle.elem_text.specs.declared.elem.Elem.{Elem}
use Rattle.elem_text.specs.Bytes.{place_after, IsSpan}
use Rattle.elem_text.specs.Tree.{Piece, opens, closes, hollow, run, skip}
use Rattle.elem_text.specs.Grammar.{IsLex, Reads, IsFile, IsStartTag, IsEndTag, IsComment, IsInstruction, IsAttr, Attributes, tail_of}
use Rattle.elem_text.specs.Stack.{Stack, IsAllowed, AreAllowed, next, after, outside, IsFinished, IsUnfinished, IsShallowFor, IsTooDeepFor}
use Rattle.elem_text.specs.Refusals.{AreShallow, wrong, unread, cut, short, BreaksFrom, RefusesFrom, TellsFlaw, TellsRefusal}
use Rattle.elem_text.specs.Flaws.{IsFlawOf, APiece}
use Rattle.elem_text.specs.declared.lex.Flaw.{Flaw}
use Rattle.elem_text.specs.declared.lex.Flaw.TheVariants.{Cut, Bad, OutOfMemory as no_memory}
use Rattle.elem_text.specs.declared.stack.Refusal.{Refusal}
use Rattle.elem_text.specs.declared.stack.Refusal.TheVariants.{Broken as not_allowed, Deep as deeper, OutOfMemory as memory_gone}
use Rattle.elem_text.specs.declared.error.ElemError.{ElemError}
use Rattle.elem_text.proofs.Complete.{fits_so_far, stuck, unfinished, shallow_next, too_deep, allowed_deep}
use Rattle.elem_text.proofs.OneLex.{is_cut}
use Rattle.elem_text.proofs.Spans.{begun_by}
use Rattle.elem_text.proofs.Stacks.{finished}
use Rattle.elem_text.proofs.Comments.{comment_ends, instruction_ends}

-- bytes stand before a rest
abbrev pub Ends : List ℕ → List ℕ → Type 0
Ends bytes rest = (front : List ℕ) × (bytes ≡ front ++ rest)

pub ends_on : (a b c : List ℕ) → Ends a b → Ends b c → Ends a c
ends_on a b c p q = (p.0 ++ q.0, p.1 ∙ (ap (λ l. p.0 ++ l) q.1 ∙ sym (append_assoc p.0 q.0 c)))

span_ends : (p : ℕ → Bool) (b f r : List ℕ) → IsSpan p b f r → Ends b r
span_ends p b f r s = (f, s.spelled)

byte_ends : (x : ℕ) (b r : List ℕ) → b ≡ x ∷ r → Ends b r
byte_ends x b r e = (x ∷ [], e)

attr_ends : (b n raw x : List ℕ) → IsAttr b n raw x → Ends b x
attr_ends b n raw x a =
    ends_on b a.at_left x (span_ends _ b n a.at_left a.named.span)
    (ends_on a.at_left (61 ∷ a.at_right) x (span_ends _ a.at_left a.left (61 ∷ a.at_right) a.before_sign)
    (ends_on (61 ∷ a.at_right) a.at_right x (byte_ends 61 (61 ∷ a.at_right) a.at_right refl)
    (ends_on a.at_right a.at_quote x (span_ends _ a.at_right a.right a.at_quote a.behind_sign)
    (ends_on a.at_quote a.quoted.inside x (byte_ends a.quoted.quote a.at_quote a.quoted.inside a.quoted.mark)
    (ends_on a.quoted.inside (a.quoted.quote ∷ x) x (span_ends _ a.quoted.inside raw (a.quoted.quote ∷ x) a.quoted.span)
    (byte_ends a.quoted.quote (a.quoted.quote ∷ x) x refl))))))

attributes_end : (before : List Attr) (b : List ℕ) (attrs : List Attr) (x : List ℕ) → Attributes before b attrs x → Ends b x
attributes_end before b [] x a = (a.0, a.1.spelled)
attributes_end before b (a ∷ attrs) x r =
    ends_on b r.1 x (span_ends _ b r.0 r.1 r.4) (ends_on r.1 r.3 x (attr_ends r.1 a.name r.2 r.3 r.6) (attributes_end (before ++ a ∷ []) r.3 attrs x r.9))

tail_ends : (empty : Bool) (rest : List ℕ) → Ends (tail_of empty rest) rest
tail_ends false rest = (62 ∷ [], refl)
tail_ends true rest = (47 ∷ 62 ∷ [], refl)

-- a piece has a byte or more, and the rest follows it
pub record HasFront (bytes rest : List ℕ) : Type 0 where
  pub front : List ℕ
  pub spelled : bytes ≡ front ++ rest
  pub some : 0 < length front

behind_byte : (x : ℕ) (b inside rest : List ℕ) → b ≡ x ∷ inside → Ends inside rest → HasFront b rest
behind_byte x b inside rest e r = record { front = x ∷ r.0; spelled = e ∙ ap (λ l. x ∷ l) r.1; some = omega arith }

start_front : (b n : List ℕ) (attrs : List Attr) (empty : Bool) (rest : List ℕ) → IsStartTag b n attrs empty rest → HasFront b rest
start_front b n attrs empty rest t =
    behind_byte 60 b t.inside rest t.angle (ends_on t.inside t.behind rest (span_ends _ t.inside n t.behind t.named.span)
    (ends_on t.behind (tail_of empty rest) rest (attributes_end [] t.behind attrs (tail_of empty rest) t.attributes) (tail_ends empty rest)))

end_front : (b n rest : List ℕ) → IsEndTag b n rest → HasFront b rest
end_front b n rest t =
    behind_byte 60 b (47 ∷ t.inside) rest t.angle (ends_on (47 ∷ t.inside) t.inside rest (byte_ends 47 (47 ∷ t.inside) t.inside refl)
    (ends_on t.inside t.behind rest (span_ends _ t.inside n t.behind t.named.span)
    (ends_on t.behind (62 ∷ rest) rest (span_ends _ t.behind t.gap (62 ∷ rest) t.white) (byte_ends 62 (62 ∷ rest) rest refl))))

comment_front : (b rest : List ℕ) → IsComment b rest → HasFront b rest
comment_front b rest c =
    let e = comment_ends c.inside rest c.ends in
    behind_byte 60 b (33 ∷ 45 ∷ 45 ∷ c.inside) rest c.mark
    (33 ∷ 45 ∷ 45 ∷ (e.0 ++ 62 ∷ []), ap (λ l. 33 ∷ 45 ∷ 45 ∷ l) (e.1 ∙ sym (append_assoc e.0 (62 ∷ []) rest)))

instruction_front : (b rest : List ℕ) → IsInstruction b rest → HasFront b rest
instruction_front b rest c =
    let e = instruction_ends c.inside rest c.ends in
    behind_byte 60 b (63 ∷ c.inside) rest c.mark (63 ∷ (e.0 ++ 62 ∷ []), ap (λ l. 63 ∷ l) (e.1 ∙ sym (append_assoc e.0 (62 ∷ []) rest)))

some_front : (f : List ℕ) → (f ≡ [] → ⊥) → 0 < length f
some_front [] n = absurd (n refl)
some_front (x ∷ f) n = omega arith

pub lex_front : (at : Place) (b : List ℕ) (p : Piece) (rest : List ℕ) → IsLex at b p rest → HasFront b rest
lex_front at b (opens n a place) rest l = start_front b n a false rest l.1
lex_front at b (hollow n a place) rest l = start_front b n a true rest l.1
lex_front at b (closes n) rest l = end_front b n rest l
lex_front at b (run raw) rest l = record { front = raw; spelled = l.span.spelled; some = some_front raw l.some }
lex_front at b skip rest l = ⊎_elim (comment_front b rest) (instruction_front b rest) l

pub reads_push : (at : Place) (b : List ℕ) (ps : List Piece) (end : Place) (rest : List ℕ) (front later : List ℕ) (p : Piece) →
    Reads at b ps end rest → rest ≡ front ++ later → IsLex end rest p later → Reads at b (ps ++ p ∷ []) (place_after end front) later
reads_push at b [] end rest front later p r e l =
    let P : List ℕ → Type 0 = λ x. IsLex end x p later in
    let Q : Place → Type 0 = λ x. IsLex x b p later in
    (front, later, sym r.1 ∙ e, subst Q r.0 (subst P r.1 l), (ap (λ x. place_after x front) r.0, refl))
reads_push at b (q ∷ ps) end rest front later p r e l =
    (r.0, r.1, r.2, r.3, reads_push (place_after at r.0) r.1 ps end rest front later p r.4 e l)

allowed_push : (s : Stack) (ps : List Piece) (p : Piece) → AreAllowed s ps → IsAllowed (after s ps) p → AreAllowed s (ps ++ p ∷ [])
allowed_push s [] p a h = (h, tt)
allowed_push s (q ∷ ps) p a h = (a.0, allowed_push (next s q) ps p a.1 h)

after_push : (s : Stack) (ps : List Piece) (p : Piece) → after s (ps ++ p ∷ []) ≡ next (after s ps) p
after_push s [] p = refl
after_push s (q ∷ ps) p = after_push (next s q) ps p

-- the bytes begin with pieces that may stand there, these are open behind them, and the rest stands at this place
pub record Along (start : Place) (bytes : List ℕ) (place : Place) (rest : List ℕ) (s : Stack) : Type 0 where
  pub ps : List Piece
  pub reads : Reads start bytes ps place rest
  pub allowed : AreAllowed outside ps
  pub shallow : AreShallow 0 ps
  pub to : after outside ps ≡ s

pub along_start : (start : Place) (bytes : List ℕ) (s : Stack) → s ≡ outside → Along start bytes start bytes s
along_start start bytes s e = record { ps = []; reads = (refl, refl); allowed = tt; shallow = tt; to = sym e }

pub along_next : (start : Place) (bytes : List ℕ) (place : Place) (rest : List ℕ) (s s' : Stack) (p : Piece) (front later : List ℕ) (place' : Place) →
    Along start bytes place rest s → IsLex place rest p later → rest ≡ front ++ later → place' ≡ place_after place front →
    IsAllowed s p → IsShallowFor s p → s' ≡ next s p → Along start bytes place' later s'
along_next start bytes place rest s s' p front later place' a l e q h d n =
    let P : Stack → Type 0 = λ x. IsAllowed x p in
    let R : Place → Type 0 = λ x. Reads start bytes (a.ps ++ p ∷ []) x later in
    record {
      ps = a.ps ++ p ∷ [];
      reads = subst R (sym q) (reads_push start bytes a.ps place rest front later p a.reads e l);
      allowed = allowed_push outside a.ps p a.allowed (subst P (sym a.to) h);
      shallow = let S : Stack → Type 0 = λ x. IsShallowFor x p in shallow_next a.ps p a.shallow (subst S (sym a.to) d);
      to = after_push outside a.ps p ∙ (ap (λ x. next x p) a.to ∙ sym n);
    }

pub along_found : (start : Place) (bytes : List ℕ) (place : Place) (rest : List ℕ) (s : Stack) (e : Elem) →
    Along start bytes place rest s → rest ≡ [] → IsFinished s e → IsFile start bytes e
along_found start bytes place rest s e a n f =
    let P : Stack → Type 0 = λ x. IsFinished x e in
    let R : List ℕ → Type 0 = λ x. Reads start bytes a.ps place x in
    record { ps = a.ps; end = place; reads = subst R n a.reads; document = finished a.ps e a.allowed (subst P (sym a.to) f) }

-- where no piece was read
pub along_flaw : (start : Place) (bytes : List ℕ) (place : Place) (rest : List ℕ) (s : Stack) (f : Flaw) (e : ElemError) → Along start bytes place rest s → IsFlawOf APiece f rest →
    (inside : List ℕ) × (rest ≡ 60 ∷ inside) → TellsFlaw f place rest e → RefusesFrom start bytes e
along_flaw start bytes place rest s Cut e a h i t =
    let P : ElemError → Type 0 = λ x. RefusesFrom start bytes x in
    subst P (sym t) (record {
      ps = a.ps;
      at = place;
      rest = rest;
      reads = a.reads;
      fits = fits_so_far a.ps a.allowed;
      shallow = a.shallow;
      fails = cut (begun_by 60 [] i.0 rest i.1) (is_cut place rest i.0 i.1 h.0 h.1 h.2);
    })
along_flaw start bytes place rest s Bad e a h i t =
    let P : ElemError → Type 0 = λ x. RefusesFrom start bytes x in
    subst P (sym t) (record {
      ps = a.ps;
      at = place;
      rest = rest;
      reads = a.reads;
      fits = fits_so_far a.ps a.allowed;
      shallow = a.shallow;
      fails = unread (begun_by 60 [] i.0 rest i.1) (λ more p r l. h more r (place, p, l));
    })
along_flaw start bytes place rest s no_memory e a h i t = let P : ElemError → Type 0 = λ x. RefusesFrom start bytes x in subst P (sym t) tt

-- where a piece may not stand
pub along_refused : (start : Place) (bytes : List ℕ) (place : Place) (rest : List ℕ) (s : Stack) (p : Piece) (behind : List ℕ) (r : Refusal) (e : ElemError) → Along start bytes place rest s →
    IsLex place rest p behind → (r ≡ not_allowed → IsAllowed s p → ⊥) → (r ≡ deeper → IsTooDeepFor s p) → TellsRefusal r place e → RefusesFrom start bytes e
along_refused start bytes place rest s p behind not_allowed e a l n d t =
    let P : ElemError → Type 0 = λ x. RefusesFrom start bytes x in
    let Q : Stack → Type 0 = λ x. IsAllowed x p in
    subst P (sym t) (record {
      ps = a.ps;
      at = place;
      rest = rest;
      reads = a.reads;
      fits = fits_so_far a.ps a.allowed;
      shallow = a.shallow;
      fails = wrong p behind l (stuck a.ps p (λ h. n refl (subst Q a.to h)));
    })
along_refused start bytes place rest s p behind deeper e a l n d t =
    let P : ElemError → Type 0 = λ x. RefusesFrom start bytes x in
    let Q : Stack → Type 0 = λ x. IsTooDeepFor x p in
    let deep : IsTooDeepFor (after outside a.ps) p = subst Q (sym a.to) (d refl) in
    subst P (sym t) (record {
      ps = a.ps;
      at = place;
      rest = rest;
      piece = p;
      behind = behind;
      reads = a.reads;
      lex = l;
      shallow = a.shallow;
      fits = fits_so_far (a.ps ++ p ∷ []) (allowed_push outside a.ps p a.allowed (allowed_deep (after outside a.ps) p deep));
      deep = too_deep a.ps p deep;
    })
along_refused start bytes place rest s p behind memory_gone e a l n d t = let P : ElemError → Type 0 = λ x. RefusesFrom start bytes x in subst P (sym t) tt

-- where the file ends too early
pub along_short : (start : Place) (bytes : List ℕ) (place : Place) (rest : List ℕ) (s : Stack) → Along start bytes place rest s → rest ≡ [] → IsUnfinished s → BreaksFrom start bytes place
along_short start bytes place rest s a n u =
    let Q : Stack → Type 0 = λ x. IsUnfinished x in
    record {
      ps = a.ps;
      at = place;
      rest = rest;
      reads = a.reads;
      fits = fits_so_far a.ps a.allowed;
      shallow = a.shallow;
      fails = short n (λ e d. unfinished a.ps e (subst Q (sym a.to) u) d);
    }
