-- What is written reads back.
use mathlib.Core.Former.{Count}
use Rattle.std.proofs.Common.{◌≡◌, ℕ, ◌<◌, ◌≤◌, ◌+◌, ◌-◌, false, List, [], ◌∷◌, ◌++◌, refl, sym, ap, subst, ◌∙◌, arith, append-nil, append_assoc, inl, map, rules, IsUtf8, Result, Ok, Err, IfOk, IfErr}
use Rattle.std.specs.List.{flat_map}
use Rattle.vtr_base.specs.declared.place.Place.{Place}
use Rattle.elem_text.specs.declared.elem.Attr.{Attr}
use Rattle.elem_text.specs.declared.elem.Elem.{Elem, Elem', Row_of-Elem, end_of-Elem, more_of-Elem, out-Elem, items-the_row-Elem}
use Rattle.elem_text.specs.declared.elem.Elem.TheViews.{the_lemmas}
use Rattle.elem_text.specs.Bytes.{is_white, is_name_byte, IsName, Stops, place_after, first_place}
use Rattle.elem_text.specs.References.{decoded}
use Rattle.elem_text.specs.Tree.{Piece, opens, closes, hollow, run, skip, Content, nothing, words, node, elem, joined}
use Rattle.elem_text.specs.Grammar.{IsAttr, Attributes, IsStartTag, IsEndTag, Reads, IsFile, Spells, has_mark, body, body_place}
use Rattle.elem_text.specs.declared.error.ElemError.{ElemError}
use Rattle.elem_text.specs.declared.error.ElemError.TheVariants.{NotUtf8, Deep, Broken, OutOfMemory}
use Rattle.elem_text.specs.Refusals.{AreShallow, DeepensFrom, Refuses}
use Rattle.elem_text.specs.Written.{escaped, attr_text, text_of, texts_of, HaveOwnNames, HasNames, HaveNames, depth, depth_below, bare, all_bare, IsReadAs, IsWritable}
use Rattle.elem_text.proofs.Classes.{white_61, white_62, white_32, white_quote, white_letter, name_61, name_62, name_white}
use Rattle.elem_text.proofs.Spans.{is_not_same, begun_by}
use Rattle.elem_text.proofs.Flawed.{white_none}
use Rattle.elem_text.proofs.Stacks.{content_append}
use Rattle.elem_text.proofs.Complete.{level, shallow_push}
use Rattle.elem_text.proofs.Escaped.{decoded_escaped, escaped_no_angle, escaped_no_quote, escaped_some}
use Rattle.elem_text.proofs.OneAnswer.{shallow_not_deep, one_element, breaks_or_spelled}
use Rattle.elem_text.proofs.Rows.{text_is}

name_not_white : (n r : List ℕ) → IsName n → Stops is_white (n ++ r)
name_not_white [] r n = absurd n.letter
name_not_white (x ∷ n) r k = white_letter x k.letter

attr_shape : (n e a y : List ℕ) → ((32 ∷ (n ++ 61 ∷ 34 ∷ (e ++ 34 ∷ []))) ++ a) ++ y ≡ 32 ∷ (n ++ 61 ∷ 34 ∷ (e ++ 34 ∷ (a ++ y)))
attr_shape n e a y = simp append_assoc

-- an attribute as it is written
attr_reads : (n v after : List ℕ) → IsName n → IsAttr (n ++ 61 ∷ 34 ∷ (escaped v ++ 34 ∷ after)) n (escaped v) after
attr_reads n v after k = record {
  left = [];
  right = [];
  at_left = 61 ∷ 34 ∷ (escaped v ++ 34 ∷ after);
  at_right = 34 ∷ (escaped v ++ 34 ∷ after);
  at_quote = 34 ∷ (escaped v ++ 34 ∷ after);
  named = record { span = record { spelled = refl; all = k.bytes; stops = name_61 }; letter = k.letter };
  before_sign = white_none (61 ∷ 34 ∷ (escaped v ++ 34 ∷ after)) white_61;
  behind_sign = white_none (34 ∷ (escaped v ++ 34 ∷ after)) (white_quote 34 (inl refl));
  quoted = record {
    quote = 34;
    inside = escaped v ++ 34 ∷ after;
    mark = refl;
    is_quote = inl refl;
    span = record { spelled = refl; all = escaped_no_quote v; stops = is_not_same 34 };
  };
}

attrs_read : (before attrs : List Attr) → HaveOwnNames before attrs → (x : List ℕ) → Attributes before (flat_map attr_text attrs ++ 62 ∷ x) attrs (62 ∷ x)
attrs_read before [] h x = ([], white_none (62 ∷ x) white_62)
attrs_read before (a ∷ attrs) h x =
    let after = flat_map attr_text attrs ++ 62 ∷ x in
    let rest = a.name ++ 61 ∷ 34 ∷ (escaped a.value ++ 34 ∷ after) in
    let P : List ℕ → Type 0 = λ l. Attributes before l (a ∷ attrs) (62 ∷ x) in
    let whole : Attributes before (32 ∷ rest) (a ∷ attrs) (62 ∷ x) = (
      32 ∷ [],
      rest,
      escaped a.value,
      after,
      record { spelled = refl; all = (white_32, tt); stops = name_not_white a.name (61 ∷ 34 ∷ (escaped a.value ++ 34 ∷ after)) h.0 },
      begun_by 32 [] [] (32 ∷ []) refl,
      attr_reads a.name a.value after h.0,
      sym (decoded_escaped a.value),
      h.1,
      attrs_read (before ++ a ∷ []) attrs h.2 x,
    ) in
    subst P (sym (attr_shape a.name (escaped a.value) (flat_map attr_text attrs) (62 ∷ x))) whole

attrs_stop : (attrs : List Attr) (x : List ℕ) → Stops is_name_byte (flat_map attr_text attrs ++ 62 ∷ x)
attrs_stop [] x = name_62
attrs_stop (a ∷ attrs) x = name_white 32 white_32

start_reads : (n : List ℕ) (attrs : List Attr) (x : List ℕ) → IsName n → HaveOwnNames [] attrs → IsStartTag (60 ∷ (n ++ (flat_map attr_text attrs ++ 62 ∷ x))) n attrs false x
start_reads n attrs x k h = record {
  inside = n ++ (flat_map attr_text attrs ++ 62 ∷ x);
  behind = flat_map attr_text attrs ++ 62 ∷ x;
  angle = refl;
  named = record { span = record { spelled = refl; all = k.bytes; stops = attrs_stop attrs x }; letter = k.letter };
  attributes = attrs_read [] attrs h x;
}

end_reads : (n rest : List ℕ) → IsName n → IsEndTag (60 ∷ 47 ∷ (n ++ 62 ∷ rest)) n rest
end_reads n rest k = record {
  inside = n ++ 62 ∷ rest;
  behind = 62 ∷ rest;
  gap = [];
  angle = refl;
  named = record { span = record { spelled = refl; all = k.bytes; stops = name_62 }; letter = k.letter };
  white = white_none (62 ∷ rest) white_62;
}

reads_append : (at : Place) (b : List ℕ) (ps : List Piece) (mid : Place) (r : List ℕ) (qs : List Piece) (end : Place) (rest : List ℕ) → Reads at b ps mid r → Reads mid r qs end rest →
    Reads at b (ps ++ qs) end rest
reads_append at b [] mid r qs end rest p q =
    let P : Place → Type 0 = λ x. Reads x b qs end rest in
    let Q : List ℕ → Type 0 = λ x. Reads mid x qs end rest in
    subst P p.0 (subst Q p.1 q)
reads_append at b (x ∷ ps) mid r qs end rest p q = (p.0, p.1, p.2, p.3, reads_append (place_after at p.0) p.1 ps mid r qs end rest p.4 q)

pub level_append : (n : ℕ) (ps qs : List Piece) → level n (ps ++ qs) ≡ level (level n ps) qs
level_append n [] qs = refl
level_append n (opens name attrs at ∷ ps) qs = level_append (n + 1) ps qs
level_append n (hollow name attrs at ∷ ps) qs = level_append n ps qs
level_append n (closes name ∷ ps) qs = level_append (n - 1) ps qs
level_append n (run raw ∷ ps) qs = level_append n ps qs
level_append n (skip ∷ ps) qs = level_append n ps qs

-- the text of an element, as it is read before an angle
record TextRead (at : Place) (n : ℕ) (text y : List ℕ) : Type 0 where
  ps : List Piece
  runs : List (List ℕ)
  end : Place
  reads : Reads at (escaped text ++ 60 ∷ y) ps end (60 ∷ y)
  content : Content ps runs []
  same : joined runs ≡ text
  shallow : AreShallow n ps
  level_is : level n ps ≡ n

text_reads : (at : Place) (n : ℕ) (text y : List ℕ) → TextRead at n text y
text_reads at n [] y = record { ps = []; runs = []; end = at; reads = (refl, refl); content = nothing; same = refl; shallow = tt; level_is = refl }
text_reads at n (b ∷ text) y =
    let raw = escaped (b ∷ text) in
    record {
      ps = run raw ∷ [];
      runs = raw ∷ [];
      end = place_after at raw;
      reads = (raw, 60 ∷ y, refl, record { span = record { spelled = refl; all = escaped_no_angle (b ∷ text); stops = is_not_same 60 }; some = escaped_some b text }, (refl, refl));
      content = words raw [] [] [] nothing;
      same = append-nil (decoded raw) ∙ decoded_escaped (b ∷ text);
      shallow = tt;
      level_is = refl;
    }

all_bare_are : (n : Count) (row : Row_of-Elem n) → all_bare row ≡ map bare (items-the_row-Elem n row)
all_bare_are n (more_of-Elem e rest) = ap (λ l. bare e ∷ l) (all_bare_are _ rest)
all_bare_are n end_of-Elem = refl

bare_is : (e : Elem) → bare e ≡ elem (out-Elem e).name (out-Elem e).attrs (out-Elem e).text (map bare (out-Elem e).kids) first_place
unfolding out-Elem denote.Hole.Carrier.out
bare_is (Elem' name attrs text n kids place) = search (rules, the_lemmas, all_bare_are)

bare_elem : (name : List ℕ) (attrs : List Attr) (text : List ℕ) (kids : List Elem) (at : Place) → bare (elem name attrs text kids at) ≡ elem name attrs text (map bare kids) first_place
bare_elem name attrs text kids at = bare_is (elem name attrs text kids at) ∙ search (rules, the_lemmas)

-- an element's text, read at a place and a level, with a rest behind it
record Back (at : Place) (n : ℕ) (written : List ℕ) (plain : Elem) (rest : List ℕ) : Type 0 where
  read : Elem
  ps : List Piece
  end : Place
  reads : Reads at (written ++ rest) ps end rest
  content : Content ps [] (read ∷ [])
  same : bare read ≡ plain
  shallow : AreShallow n ps
  level_is : level n ps ≡ n

record Backs {m : Count} (at : Place) (n : ℕ) (row : Row_of-Elem m) (rest : List ℕ) : Type 0 where
  read : List Elem
  ps : List Piece
  end : Place
  reads : Reads at (texts_of row ++ rest) ps end rest
  content : Content ps [] read
  same : map bare read ≡ all_bare row
  shallow : AreShallow n ps
  level_is : level n ps ≡ n

-- a child's text, or the end tag, begins with an angle
angle_next : {m : Count} (row : Row_of-Elem m) (y : List ℕ) → (t : List ℕ) × (texts_of row ++ 60 ∷ y ≡ 60 ∷ t)
angle_next end_of-Elem y = (y, refl)
angle_next (more_of-Elem (Elem' name attrs text n kids place) rest) y = (_, refl)

end_shape : (n rest : List ℕ) → (60 ∷ 47 ∷ (n ++ 62 ∷ [])) ++ rest ≡ 60 ∷ 47 ∷ (n ++ 62 ∷ rest)
end_shape n rest = ap (λ l. 60 ∷ 47 ∷ l) (append_assoc n (62 ∷ []) rest)

whole_shape : (n a t k rest : List ℕ) → (60 ∷ (n ++ (a ++ 62 ∷ (t ++ (k ++ 60 ∷ 47 ∷ (n ++ 62 ∷ [])))))) ++ rest ≡ 60 ∷ (n ++ (a ++ 62 ∷ (t ++ (k ++ 60 ∷ 47 ∷ (n ++ 62 ∷ rest)))))
whole_shape n a t k rest = simp append_assoc

-- the pieces of an element, from those of its parts
element_back : (name : List ℕ) (attrs : List Attr) (text : List ℕ) {m : Count} (kids : Row_of-Elem m) (at : Place) (n : ℕ) (rest : List ℕ) → IsName name → HaveOwnNames [] attrs →
    n < 64 → (t : TextRead (place_after at (60 ∷ (name ++ (flat_map attr_text attrs ++ 62 ∷ [])))) (n + 1) text (angle_next kids (47 ∷ (name ++ 62 ∷ rest))).0) →
    Backs t.end (n + 1) kids (60 ∷ 47 ∷ (name ++ 62 ∷ rest)) →
    Back at n (60 ∷ (name ++ (flat_map attr_text attrs ++ 62 ∷ (escaped text ++ (texts_of kids ++ 60 ∷ 47 ∷ (name ++ 62 ∷ [])))))) (elem name attrs text (all_bare kids) first_place) rest
element_back name attrs text kids at n rest k h l t b =
    let front = 60 ∷ (name ++ (flat_map attr_text attrs ++ 62 ∷ [])) in
    let close = 60 ∷ 47 ∷ (name ++ 62 ∷ rest) in
    let inside = escaped text ++ (texts_of kids ++ close) in
    let inner = t.ps ++ b.ps in
    let R : List ℕ → Type 0 = λ x. Reads t.end x b.ps b.end close in
    let S : List ℕ → Type 0 = λ x. Reads (place_after at front) (escaped text ++ x) t.ps t.end x in
    let text_read : Reads (place_after at front) inside t.ps t.end (texts_of kids ++ close) = subst S (sym (angle_next kids (47 ∷ (name ++ 62 ∷ rest))).1) t.reads in
    let inner_read : Reads (place_after at front) inside inner b.end close =
    reads_append (place_after at front) inside t.ps t.end (texts_of kids ++ close) b.ps b.end close text_read b.reads in
    let closed_read : Reads b.end close (closes name ∷ []) (place_after b.end (60 ∷ 47 ∷ (name ++ 62 ∷ []))) rest =
    (60 ∷ 47 ∷ (name ++ 62 ∷ []), rest, sym (end_shape name rest), end_reads name rest k, (refl, refl)) in
    let all_read : Reads (place_after at front) inside (inner ++ closes name ∷ []) (place_after b.end (60 ∷ 47 ∷ (name ++ 62 ∷ []))) rest =
    reads_append (place_after at front) inside inner b.end close (closes name ∷ []) _ rest inner_read closed_read in
    let bytes = 60 ∷ (name ++ (flat_map attr_text attrs ++ 62 ∷ inside)) in
    let P : List ℕ → Type 0 = λ x. Reads at x (opens name attrs at ∷ (inner ++ closes name ∷ [])) (place_after b.end (60 ∷ 47 ∷ (name ++ 62 ∷ []))) rest in
    let whole : Reads at bytes (opens name attrs at ∷ (inner ++ closes name ∷ [])) (place_after b.end (60 ∷ 47 ∷ (name ++ 62 ∷ []))) rest =
    (front, inside, front_shape name (flat_map attr_text attrs) inside, (refl, start_reads name attrs inside k h), all_read) in
    let inner_shallow : AreShallow (n + 1) inner = shallow_push (n + 1) t.ps b.ps t.shallow (let Q : ℕ → Type 0 = λ x. AreShallow x b.ps in subst Q (sym t.level_is) b.shallow) in
    let inner_level : level (n + 1) inner ≡ n + 1 = level_append (n + 1) t.ps b.ps ∙ (ap (λ x. level x b.ps) t.level_is ∙ b.level_is) in
    let all_level : level (n + 1) (inner ++ closes name ∷ []) ≡ n =
    level_append (n + 1) inner (closes name ∷ []) ∙ (ap (λ x. x - 1) inner_level ∙ omega arith) in
    record {
      read = elem name attrs (joined t.runs) b.read at;
      ps = opens name attrs at ∷ (inner ++ closes name ∷ []);
      end = place_after b.end (60 ∷ 47 ∷ (name ++ 62 ∷ []));
      reads = subst P (sym (whole_shape name (flat_map attr_text attrs) (escaped text) (texts_of kids) rest)) whole;
      content = content_of name attrs at inner t.runs b.read (both t.ps b.ps t.runs b.read t.content b.content);
      same = bare_elem name attrs (joined t.runs) b.read at ∙ (ap (λ x. elem name attrs x (map bare b.read) first_place) t.same ∙ ap (λ (x : List Elem). elem name attrs text x first_place) b.same);
      shallow = (l, shallow_push (n + 1) inner (closes name ∷ []) inner_shallow tt);
      level_is = all_level;
    }
  where
    front_shape : (n a x : List ℕ) → 60 ∷ (n ++ (a ++ 62 ∷ x)) ≡ (60 ∷ (n ++ (a ++ 62 ∷ []))) ++ x
    front_shape n a x = simp append_assoc

    both : (ps qs : List Piece) (runs : List (List ℕ)) (es : List Elem) → Content ps runs [] → Content qs [] es → Content (ps ++ qs) runs es
    both ps qs runs es c d = let P : List (List ℕ) → Type 0 = λ x. Content (ps ++ qs) x es in subst P (append-nil runs) (content_append ps qs runs [] [] es c d)

    content_of : (name : List ℕ) (attrs : List Attr) (at : Place) (inner : List Piece) (runs : List (List ℕ)) (es : List Elem) → Content inner runs es →
        Content (opens name attrs at ∷ (inner ++ closes name ∷ [])) [] (elem name attrs (joined runs) es at ∷ [])
    content_of name attrs at inner runs es c = node name attrs at inner runs es [] [] [] c nothing

mutual
  back : (e : Elem) (at : Place) (n : ℕ) (rest : List ℕ) → HasNames e → n + depth e ≤ 64 → Back at n (text_of e) (bare e) rest
  back (Elem' name attrs text m kids place) at n rest h d =
      let front = 60 ∷ (name ++ (flat_map attr_text attrs ++ 62 ∷ [])) in
      let t : TextRead (place_after at front) (n + 1) text (angle_next kids (47 ∷ (name ++ 62 ∷ rest))).0 = text_reads (place_after at front) (n + 1) text _ in
      element_back name attrs text kids at n rest h.0 h.1 (omega (arith, d)) t (backs kids t.end (n + 1) (60 ∷ 47 ∷ (name ++ 62 ∷ rest)) h.2 (omega (arith, d)))

  backs : {m : Count} → (row : Row_of-Elem m) (at : Place) (n : ℕ) (rest : List ℕ) → HaveNames row → n + depth_below row ≤ 64 → Backs at n row rest
  backs end_of-Elem at n rest h d = record { read = []; ps = []; end = at; reads = (refl, refl); content = nothing; same = refl; shallow = tt; level_is = refl }
  backs (more_of-Elem e row) at n rest h d =
      let one : Back at n (text_of e) (bare e) (texts_of row ++ rest) = back e at n (texts_of row ++ rest) h.0 (omega (arith, d)) in
      let more : Backs one.end n row rest = backs row one.end n rest h.1 (omega (arith, d)) in
      let P : List ℕ → Type 0 = λ x. Reads at x (one.ps ++ more.ps) more.end rest in
      record {
        read = one.read ∷ more.read;
        ps = one.ps ++ more.ps;
        end = more.end;
        reads = subst P (sym (append_assoc (text_of e) (texts_of row) rest)) (reads_append at (text_of e ++ (texts_of row ++ rest)) one.ps one.end (texts_of row ++ rest) more.ps more.end rest one.reads more.reads);
        content = content_append one.ps more.ps [] [] (one.read ∷ []) more.read one.content more.content;
        same = ap (λ (x : Elem). x ∷ map bare more.read) one.same ∙ ap (λ (l : List Elem). bare e ∷ l) more.same;
        shallow = shallow_push n one.ps more.ps one.shallow (let Q : ℕ → Type 0 = λ x. AreShallow x more.ps in subst Q (sym one.level_is) more.shallow);
        level_is = level_append n one.ps more.ps ∙ (ap (λ x. level x more.ps) one.level_is ∙ more.level_is);
      }

no_mark : (t : List ℕ) → has_mark (60 ∷ t) ≡ false
no_mark [] = refl
no_mark (b ∷ []) = refl
no_mark (b ∷ c ∷ t) = refl

plain_body : (b t : List ℕ) → b ≡ 60 ∷ t → has_mark b ≡ false
plain_body b t e = ap has_mark e ∙ no_mark t

pub reads_back : (e : Elem) → IsWritable e → IsUtf8 (text_of e) → IsReadAs (text_of e) e
reads_back e w u =
    let b : Back first_place 0 (text_of e) (bare e) [] = back e first_place 0 [] w.names (omega (arith, w.depth)) in
    let P : List ℕ → Type 0 = λ x. Reads first_place x b.ps b.end [] in
    let r : Reads first_place (text_of e) b.ps b.end [] = subst P (append-nil (text_of e)) b.reads in
    let m : has_mark (text_of e) ≡ false = plain_body (text_of e) _ (text_is e) in
    let f : IsFile first_place (text_of e) b.read = record { ps = b.ps; end = b.end; reads = r; document = record { around = []; white = tt; content = b.content } } in
    let file : IsFile (body_place (text_of e)) (body (text_of e)) b.read = rw m f in
    record {
      read = b.read;
      spelled = record { utf8 = u; file = file };
      same = b.same;
      shallow = λ deep. let deep' : DeepensFrom first_place (text_of e) = rw m at deep in shallow_not_deep first_place (text_of e) b.ps b.end r b.shallow deep';
    }

-- whatever the text of an element is read as is that element, places aside
pub same_back : (e : Elem) (bytes : List ℕ) (r : Result Elem ElemError) → bytes ≡ text_of e → IsReadAs (text_of e) e → IfOk r (λ x. Spells bytes x) → IfOk r (λ x. bare x ≡ bare e)
same_back e bytes (Ok x) t b s = let P : List ℕ → Type 0 = λ l. Spells l x in ap bare (one_element (text_of e) x b.read (subst P t s) b.spelled) ∙ b.same
same_back e bytes (Err x) t b s = tt

-- and only want of memory keeps it from being read
only_memory : (e : Elem) (x : ElemError) → IsReadAs (text_of e) e → Refuses (text_of e) x → x ≡ OutOfMemory
only_memory e NotUtf8 b r = absurd (r b.spelled.utf8)
only_memory e Deep b r = absurd (b.shallow r.1)
only_memory e (Broken place) b r = absurd (breaks_or_spelled (text_of e) place b.read r.1 b.spelled)
only_memory e OutOfMemory b r = refl

pub not_back : (e : Elem) (bytes : List ℕ) (r : Result Elem ElemError) → bytes ≡ text_of e → IsReadAs (text_of e) e → IfErr r (λ x. Refuses bytes x) → IfErr r (λ x. x ≡ OutOfMemory)
not_back e bytes (Ok x) t b s = tt
not_back e bytes (Err x) t b s = let P : List ℕ → Type 0 = λ l. Refuses l x in only_memory e x b (subst P t s)
