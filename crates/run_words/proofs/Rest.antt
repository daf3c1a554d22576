-- The words behind a name, one by one.
use Rattle.std.proofs.Common.{◌≡◌, ◌<◌, ◌≤◌, ◌+◌, ◌⊎◌, inl, inr, ℕ, zero, suc, List, [], ◌∷◌, ◌++◌, length, take, map, refl, sym, ap, ◌∙◌, subst, arith, Option, Some, None, get_or, drop, ◌-◌, add-one, length-append}
use Rattle.std.specs.Prelude.{slice_get, string_bytes, string_len}
use Rattle.std.proofs.Math.Seq.{take-suc, take-append_seam}
use Rattle.std.proofs.lemmas.List.{length-map, take-append-le}
use Rattle.std.proofs.lemmas.Bool.{cases_lt}
use Rattle.std.proofs.lemmas.Option.{slice_get_within, slice_get-get_or, get_or_from_slice_get}
use Rattle.vtr_base.specs.Lists.{IsFirstPlace}
use Rattle.run_words.specs.declared.shape.Shape.{Shape}
use Rattle.run_words.specs.declared.shape.WordKind.{WordKind}
use Rattle.run_words.specs.declared.parts.WordRole.{WordRole}
use Rattle.run_words.specs.declared.parts.WordRole.TheVariants as role
use Rattle.run_words.specs.declared.error.WordsError.{WordsError}
use Rattle.run_words.specs.declared.error.WordsError.TheVariants.{Wrong, OutOfMemory}
use Rattle.run_words.specs.Words.{Parts, parts_of, CanJoin, CanBe, IsOfKind, IsNextPlain, AreOfKinds, role_of, with_role, with_word}
use Rattle.run_words.specs.Commands.{IsRow, CanStand, IsShort, StandBefore, IsWrongAt, IsMissingAt, IsFirstWrong, IsNoCommand, IsCommand, names_of}
use Rattle.run_words.specs.Readings.{no_parts, RestStands, IsRest, IsRestWrong, IsRestWrongAt, IsRestShort, IsRestRefusal}
use Rattle.run_words.proofs.First.{from_some, none_more}
use Rattle.run_words.proofs.Joined.{one_more}

-- the words so far, behind a name
pub record IsReading (shape : Shape) (rest : List (List ℕ)) (place : ℕ) (parts : Parts) : Type 0 where
  pub so_far : parts ≡ parts_of (take place rest)
  pub each : RestStands shape rest place
  pub few : length parts.plain ≤ length shape.words.now
  pub kinds : AreOfKinds shape.words.now parts.plain

same_front : {X : Type 0} (xs ys : List X) (k : ℕ) → k < length xs → slice_get (xs ++ ys) k ≡ slice_get xs k
same_front [] ys k low = absurd (omega arith)
same_front (x ∷ xs) ys zero low = refl
same_front (x ∷ xs) ys (suc k) low = same_front xs ys k (omega arith)

at_seam : {X : Type 0} (xs ys : List X) (y : X) → slice_get (xs ++ y ∷ ys) (length xs) ≡ Some y
at_seam [] ys y = refl
at_seam (x ∷ xs) ys y = at_seam xs ys y

no_kinds : (kinds : List WordKind) (plain : List (List ℕ)) → plain ≡ [] → AreOfKinds kinds plain
no_kinds kinds plain none = record { each = λ place kind word is there. let inside = slice_get_within plain place word there in absurd (omega (arith, inside, ap (λ l. length l) none)) }

-- one more plain word, which can come next
more_kinds : (kinds : List WordKind) (plain : List (List ℕ)) (word : List ℕ) → AreOfKinds kinds plain → IsNextPlain kinds plain word → AreOfKinds kinds (plain ++ word ∷ [])
more_kinds kinds plain word old next = record { each = each }
  where
    each : (place : ℕ) (kind : WordKind) (w : List ℕ) → slice_get kinds place ≡ Some kind → slice_get (plain ++ word ∷ []) place ≡ Some w → IsOfKind kind kinds (take place (plain ++ word ∷ [])) w
    each place kind w is there = by_place (cases_lt place (length plain))
      where
        by_place : (place < length plain) ⊎ (length plain ≤ place) → IsOfKind kind kinds (take place (plain ++ word ∷ [])) w
        by_place (inl early) =
            subst (λ l. IsOfKind kind kinds l w) (sym (take-append-le place plain (word ∷ []) (omega arith)))
            (old.each place kind w is (sym (same_front plain (word ∷ []) place early) ∙ there))
        by_place (inr late) =
            let inside = slice_get_within (plain ++ word ∷ []) place w there in
            let last : place ≡ length plain = omega (arith, inside, length-append plain (word ∷ [])) in
            let same_word : word ≡ w = from_some (sym (at_seam plain [] word) ∙ ap (slice_get (plain ++ word ∷ [])) (sym last) ∙ there) in
            let same_kind : next.kind ≡ kind = from_some (sym next.is_next ∙ ap (slice_get kinds) (sym last) ∙ is) in
            let front : take place (plain ++ word ∷ []) ≡ plain = ap (λ k. take k (plain ++ word ∷ [])) last ∙ take-append_seam plain (word ∷ []) in
            subst (λ l. IsOfKind kind kinds l w) (sym front) (subst (λ k. IsOfKind k kinds plain w) same_kind (subst (λ x. IsOfKind next.kind kinds plain x) same_word next.fits))

kinds_for : (shape : Shape) (parts : Parts) (word : List ℕ) (r : WordRole) → CanBe r shape parts word → AreOfKinds shape.words.now parts.plain →
    AreOfKinds shape.words.now (with_role r parts word).plain
kinds_for shape parts word role.Ends can old = old
kinds_for shape parts word role.Option can old = old
kinds_for shape parts word role.Plain can old = more_kinds shape.words.now parts.plain word old can

pub reading_none : (shape : Shape) (rest : List (List ℕ)) (parts : Parts) → parts ≡ no_parts → IsReading shape rest 0 parts
reading_none shape rest parts e = record {
  so_far = e;
  each = λ k word low there. absurd (omega arith);
  few = let none : length parts.plain ≡ 0 = ap (λ (p : Parts). length p.plain) e in omega arith;
  kinds = no_kinds shape.words.now parts.plain (ap (λ (p : Parts). p.plain) e);
}

take_more : (rest : List (List ℕ)) (place : ℕ) (word : List ℕ) → slice_get rest place ≡ Some word → take (place + 1) rest ≡ take place rest ++ word ∷ []
take_more rest place word there =
    let inside = slice_get_within rest place word there in
    ap (λ k. take k rest) (add-one place) ∙ take-suc rest place word inside
    ∙ ap (λ x. take place rest ++ x ∷ []) (get_or_from_slice_get rest place word word there)

-- a plain word that can stand leaves no more of them than the command has
room_for : (shape : Shape) (parts : Parts) (word : List ℕ) (r : WordRole) → CanBe r shape parts word → length parts.plain ≤ length shape.words.now →
    length (with_role r parts word).plain ≤ length shape.words.now
room_for shape parts word role.Ends can few = few
room_for shape parts word role.Option can few = few
room_for shape parts word role.Plain can few =
    let inside = slice_get_within shape.words.now (length parts.plain) can.kind can.is_next in
    omega (arith, inside, length-append parts.plain (word ∷ []))

pub reading_more : (shape : Shape) (rest : List (List ℕ)) (place : ℕ) (parts next : Parts) (word : List ℕ) → slice_get rest place ≡ Some word →
    IsReading shape rest place parts → CanJoin shape parts word → next ≡ with_word parts word → IsReading shape rest (place + 1) next
reading_more shape rest place parts next word there is can e = record {
  so_far = e ∙ ap (λ p. with_word p word) is.so_far ∙ sym (one_more (take place rest) word) ∙ ap parts_of (sym (take_more rest place word there));
  each = none_more rest (λ k w. CanJoin shape (parts_of (take k rest)) w) place word there is.each (subst (λ p. CanJoin shape p word) is.so_far can);
  few = subst (λ (p : Parts). length p.plain ≤ length shape.words.now) (sym e) (room_for shape parts word (role_of parts.ended word) can is.few);
  kinds = subst (λ (p : Parts). AreOfKinds shape.words.now p.plain) (sym e) (kinds_for shape parts word (role_of parts.ended word) can is.kinds);
}

take_all : {X : Type 0} (rest : List X) (place : ℕ) → length rest ≤ place → take place rest ≡ rest
take_all [] zero past = refl
take_all [] (suc n) past = refl
take_all (x ∷ xs) zero past = absurd (omega arith)
take_all (x ∷ xs) (suc n) past = ap (λ l. x ∷ l) (take_all xs n (omega arith))

each_to_end : (shape : Shape) (rest : List (List ℕ)) (place : ℕ) → RestStands shape rest place → length rest ≤ place → RestStands shape rest (length rest)
each_to_end shape rest place each past k word low there = each k word (omega arith) there

pub reading_all : (shape : Shape) (rest : List (List ℕ)) (place : ℕ) (parts : Parts) → IsReading shape rest place parts → length rest ≤ place →
    length shape.words.now ≤ length parts.plain → IsRest shape rest parts
reading_all shape rest place parts is past whole = record {
  each = each_to_end shape rest place is.each past;
  are = is.so_far ∙ ap parts_of (take_all rest place past);
  all = let few = is.few in omega arith;
  kinds = is.kinds;
}

pub reading_short : (shape : Shape) (rest : List (List ℕ)) (place told : ℕ) (parts : Parts) → IsReading shape rest place parts → length rest ≤ place →
    length parts.plain < length shape.words.now → told ≡ length rest + 1 → IsRestWrong shape rest told
reading_short shape rest place told parts is past short e = record {
  behind = length rest;
  is = e;
  before = each_to_end shape rest place is.each past;
  wrong = inr (record {
    last = refl;
    short = subst (λ (p : Parts). length p.plain < length shape.words.now) (is.so_far ∙ ap parts_of (take_all rest place past)) short;
  });
}

pub reading_wrong : (shape : Shape) (rest : List (List ℕ)) (place told : ℕ) (parts : Parts) (word : List ℕ) → slice_get rest place ≡ Some word →
    IsReading shape rest place parts → (CanJoin shape parts word → ⊥) → told ≡ place + 1 → IsRestWrong shape rest told
reading_wrong shape rest place told parts word there is cannot e = record {
  behind = place;
  is = e;
  before = is.each;
  wrong = inl (record { word = word; there = there; wrong = λ can. cannot (subst (λ p. CanJoin shape p word) (sym is.so_far) can) });
}

-- two rows of one name are one
one_row : (table : List Shape) (name : List ℕ) (row other : ℕ) (shape another : Shape) → IsRow table name row shape → IsRow table name other another → shape ≡ another
one_row table name row other shape another is same =
    let e : row ≡ other = by_first in from_some (sym is.is ∙ ap (slice_get table) e ∙ same.is)
  where
    by_first : row ≡ other
    by_first =
        let late : row < other → ⊥ = λ low. same.first.first row low is.first.there in
        let early : other < row → ⊥ = λ low. is.first.first other low same.first.there in
        omega arith

-- words that can stand behind a name can stand in the command
stands : (table : List Shape) (name : List ℕ) (rest : List (List ℕ)) (row : ℕ) (shape : Shape) (place : ℕ) → IsRow table name row shape → RestStands shape rest place →
    StandBefore table (name ∷ rest) (place + 1)
stands table name rest row shape place is each zero word low there =
    let same : name ≡ word = from_some there in (row, subst (λ n. IsFirstPlace (names_of table) n row) same is.first)
stands table name rest row shape place is each (suc k) word low there = (row, shape, is, each k word (omega arith) there)

pub wrong_word : (table : List Shape) (name : List ℕ) (rest : List (List ℕ)) (row : ℕ) (shape : Shape) (e : WordsError) → IsRow table name row shape →
    IsRestRefusal shape rest e → IsNoCommand table (name ∷ rest) e
wrong_word table name rest row shape (Wrong place) is wrong = subst (IsFirstWrong table (name ∷ rest)) (sym wrong.is) by_cause
  where
    same_take : (n : ℕ) → take (n + 1) (name ∷ rest) ≡ name ∷ take n rest
    same_take n = ap (λ k. take k (name ∷ rest)) (add-one n)

    cannot : (word : List ℕ) (ws : List (List ℕ)) → (CanJoin shape (parts_of ws) word → ⊥) → CanStand table (name ∷ ws) word → ⊥
    cannot word ws fails can = fails (subst (λ s. CanJoin s (parts_of ws) word) (one_row table name can.0 row can.1 shape can.2 is) can.3)

    by_wrong : IsRestWrongAt shape rest wrong.behind ⊎ IsRestShort shape rest wrong.behind → IsWrongAt table (name ∷ rest) (wrong.behind + 1) ⊎ IsMissingAt table (name ∷ rest) (wrong.behind + 1)
    by_wrong (inl at) = inl (record {
      word = at.word;
      there = ap (slice_get (name ∷ rest)) (add-one wrong.behind) ∙ at.there;
      wrong = λ can. cannot at.word (take wrong.behind rest) at.wrong (subst (λ ws. CanStand table ws at.word) (same_take wrong.behind) can);
    })
    by_wrong (inr missing) = inr (record {
      last = add-one wrong.behind ∙ ap suc missing.last;
      short = (row, shape, is, missing.short);
    })

    by_cause : IsFirstWrong table (name ∷ rest) (wrong.behind + 1)
    by_cause = record { before = stands table name rest row shape wrong.behind is wrong.before; wrong = by_wrong wrong.wrong }
wrong_word table name rest row shape OutOfMemory is wrong = tt

pub wrong_name : (table : List Shape) (name : List ℕ) (rest : List (List ℕ)) → ((row : ℕ) → slice_get (names_of table) row ≡ Some name → ⊥) →
    IsFirstWrong table (name ∷ rest) 0
wrong_name table name rest none = record {
  before = λ k word low there. absurd (omega arith);
  wrong = inl (record { word = name; there = refl; wrong = λ can. none can.0 can.1.there });
}

pub no_name : (table : List Shape) → IsFirstWrong table [] 0
no_name table = record {
  before = λ k word low there. absurd (omega arith);
  wrong = inr (record { last = refl; short = tt });
}

pub command : (table : List Shape) (name : List ℕ) (rest : List (List ℕ)) (row : ℕ) (shape : Shape) (parts : Parts) → IsRow table name row shape →
    IsRest shape rest parts → IsCommand table (name ∷ rest) row parts.options parts.plain
command table name rest row shape parts is all = record {
  name = name;
  rest = rest;
  are = refl;
  shape = shape;
  is_row = is;
  each = let long : length rest + 1 ≡ length (name ∷ rest) = omega arith in subst (StandBefore table (name ∷ rest)) long (stands table name rest row shape (length rest) is all.each);
  options_are = ap (λ (p : Parts). p.options) all.are;
  plain_are = ap (λ (p : Parts). p.plain) all.are;
  all = all.all;
}

-- the row of that name
row_is : (table : List Shape) (name : List ℕ) (row : ℕ) (d : Shape) → IsFirstPlace (names_of table) name row → IsRow table name row (get_or table row d)
row_is table name row d first =
    let inside = slice_get_within (names_of table) row name first.there in
    let long = length-map table (λ (s : Shape). s.name.now) in
    record { first = first; is = slice_get-get_or table row d (omega (arith, inside, long)) }

-- words, divided behind the first
divided : {X : Type 0} (f : X → List ℕ) (xs : List X) (x : X) → 1 ≤ length xs → x ≡ get_or xs 0 x →
    map f xs ≡ f x ∷ map f (take (length xs - 1) (drop 1 xs))
divided f [] x some read = absurd (omega arith)
divided f (y ∷ ys) x some read =
    ap (λ z. f z ∷ map f ys) (sym read) ∙ ap (λ l. f x ∷ map f l) (sym (take_all ys (length (y ∷ ys) - 1) (omega arith)))

pub read_command : {X : Type 0} (f : X → List ℕ) (words : List X) (table : List Shape) (x : X) (name : List ℕ) (row : ℕ) (d : Shape) (parts : Parts) →
    1 ≤ length words → x ≡ get_or words 0 x → name ≡ f x → IsFirstPlace (names_of table) name row →
    IsRest (get_or table row d) (map f (take (length words - 1) (drop 1 words))) parts → IsCommand table (map f words) row parts.options parts.plain
read_command f words table x name row d parts some read e first rest =
    subst (λ ws. IsCommand table ws row parts.options parts.plain) (sym (divided f words x some read))
    (subst (λ n. IsCommand table (n ∷ map f (take (length words - 1) (drop 1 words))) row parts.options parts.plain) e
    (command table name _ row _ parts (row_is table name row d first) rest))

pub refused_command : {X : Type 0} (f : X → List ℕ) (words : List X) (table : List Shape) (x : X) (name : List ℕ) (row : ℕ) (d : Shape) (error : WordsError) →
    1 ≤ length words → x ≡ get_or words 0 x → name ≡ f x → IsFirstPlace (names_of table) name row →
    IsRestRefusal (get_or table row d) (map f (take (length words - 1) (drop 1 words))) error → IsNoCommand table (map f words) error
refused_command f words table x name row d error some read e first refused =
    subst (λ ws. IsNoCommand table ws error) (sym (divided f words x some read))
    (subst (λ n. IsNoCommand table (n ∷ map f (take (length words - 1) (drop 1 words))) error) e
    (wrong_word table name _ row _ error (row_is table name row d first) refused))
