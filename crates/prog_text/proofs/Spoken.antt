-- What a line says, from its words, and why it says nothing.
use Rattle.std.proofs.Common.{◌≡◌, ℕ, List, [], ◌∷◌, Result, Ok, Err, IfOk, IfErr, refl, sym, ap, subst, ◌∙◌, arith}
use Rattle.std.specs.Prelude.{codes, IsUtf8}
use Rattle.std.specs.List.{AllPass}
use Rattle.std.specs.Str.Parse.{IsNumeral, digits_value}
use Rattle.pb_expand.specs.Graph.{Graph}
use Rattle.prog_text.specs.declared.error.ProgError.{ProgError}
use Rattle.prog_text.specs.declared.error.ProgError.TheVariants.{BadLine, NoSuchSite, NoSuchChoice, TwiceSet, OutOfMemory}
use Rattle.prog_map.specs.declared.setting.Setting.{Setting}
use Rattle.prog_text.specs.Sayings.{IsWord, IsFirstWord, AreWords, Saying, says_mode, says_pin, says_used, says_wire, says_table, is_bit, WordsSay, SaysBehind, Says, SaysWire, SaysTable}
use Rattle.prog_text.specs.Settings.{IsNamed}
use Rattle.prog_text.specs.Text.{Lacks}
use Rattle.prog_text.proofs.Divided.{one_first, uncut}

-- a text has one list of words
pub one_words : (text : List ℕ) (ws vs : List (List ℕ)) → AreWords text ws → AreWords text vs → ws ≡ vs
one_words text [] vs a b = absurd a
one_words text (w ∷ ws) [] a b = absurd b
one_words text (w ∷ []) (v ∷ []) a b = ap (λ t. t ∷ []) (sym a.0 ∙ b.0)
one_words text (w ∷ []) (v ∷ n ∷ m) a b = absurd (uncut 32 w v b.0 a.1.whole (sym a.0 ∙ b.1.spelled))
one_words text (w ∷ n ∷ m) (v ∷ []) a b = absurd (uncut 32 v w a.0 b.1.whole (sym b.0 ∙ a.1.spelled))
one_words text (w ∷ n ∷ m) (v ∷ k ∷ l) a b =
    let first = one_first text w a.0 v b.0 a.1 b.1 in
    let rest = one_words a.0 (n ∷ m) (k ∷ l) a.2 (subst (λ t. AreWords t (k ∷ l)) (sym first.1) b.2) in
    ap (λ t. t ∷ n ∷ m) first.0 ∙ ap (λ t. v ∷ t) rest

abbrev keyword_of : Saying → List ℕ
keyword_of (says_mode instance mode) = codes "mode"
keyword_of (says_pin pin mode source) = codes "pin"
keyword_of (says_used instance) = codes "used"
keyword_of (says_wire instance input) = codes "lut"
keyword_of (says_table instance digits) = codes "lut"

heads : {X : Type 0} {x y : X} {xs ys : List X} → x ∷ xs ≡ y ∷ ys → x ≡ y
heads e = cc

tails : {X : Type 0} {x y : X} {xs ys : List X} → x ∷ xs ≡ y ∷ ys → xs ≡ ys
tails e = cc

keyword_is : (k : List ℕ) (ws : List (List ℕ)) (s : Saying) → WordsSay (k ∷ ws) s → k ≡ keyword_of s
keyword_is k ws (says_mode instance mode) say = heads say
keyword_is k ws (says_pin pin mode source) say = heads say
keyword_is k ws (says_used instance) say = heads say
keyword_is k ws (says_wire instance input) say = heads say.1
keyword_is k ws (says_table instance digits) say = heads say.0

-- words that differ in their first letters
apart : {a b : ℕ} {xs ys : List ℕ} → (a ≡ b → ⊥) → a ∷ xs ≡ b ∷ ys → ⊥
apart differ e = differ (heads e)

-- a line says the same as the words behind its first one
pub behind_said : (text k rest kw : List ℕ) → IsUtf8 text → IsFirstWord text k rest → k ≡ kw → (s : Saying) → SaysBehind kw rest s → Says text s
behind_said text k rest kw utf8 first same s b = record {
  utf8 = utf8;
  words = k ∷ b.words;
  divided = more b.words b.divided;
  say = subst (λ x. WordsSay (x ∷ b.words) s) (sym same) b.say;
}
  where
    more : (ws : List (List ℕ)) → AreWords rest ws → AreWords text (k ∷ ws)
    more [] are = absurd are
    more (n ∷ m) are = (rest, first, are)

pub said_behind : (text k rest kw : List ℕ) → IsFirstWord text k rest → k ≡ kw → (s : Saying) → Says text s → SaysBehind kw rest s
said_behind text k rest kw first same s says = by says.words says.divided says.say
  where
    by : (ws : List (List ℕ)) → AreWords text ws → WordsSay ws s → SaysBehind kw rest s
    by [] are say = absurd are
    by (w ∷ []) are say = absurd (uncut 32 w k rest are.1.whole (sym are.0 ∙ first.spelled))
    by (w ∷ n ∷ m) are say =
        let one = one_first text w are.0 k rest are.1 first in
        record {
          words = n ∷ m;
          divided = subst (λ t. AreWords t (n ∷ m)) one.1 are.2;
          say = subst (λ x. WordsSay (x ∷ n ∷ m) s) (one.0 ∙ same) say;
        }

-- a line of one word or of no word says nothing
pub no_keyword : (text : List ℕ) → ((word rest : List ℕ) → IsFirstWord text word rest → ⊥) → (s : Saying) → Says text s → ⊥
no_keyword text none s says = by says.words says.divided says.say
  where
    single : (w : List ℕ) (s : Saying) → WordsSay (w ∷ []) s → ⊥
    single w (says_mode instance mode) say = cc
    single w (says_pin pin mode source) say = cc
    single w (says_used instance) say = cc
    single w (says_wire instance input) say = (let e = say.1 in cc)
    single w (says_table instance digits) say = (let e = say.0 in cc)

    by : (ws : List (List ℕ)) → AreWords text ws → WordsSay ws s → ⊥
    by [] are say = are
    by (w ∷ []) are say = single w s say
    by (w ∷ n ∷ m) are say = none w are.0 are.1

-- a line with another first word says nothing
pub other_keyword : (text k rest : List ℕ) → IsFirstWord text k rest → (k ≡ codes "mode" → ⊥) → (k ≡ codes "pin" → ⊥) → (k ≡ codes "used" → ⊥) →
    (k ≡ codes "lut" → ⊥) → (s : Saying) → Says text s → ⊥
other_keyword text k rest first mode pin used lut s says =
    let b = said_behind text k rest k first refl s says in by s (keyword_is k b.words s b.say)
  where
    by : (s : Saying) → k ≡ keyword_of s → ⊥
    by (says_mode instance m) e = mode e
    by (says_pin p m source) e = pin e
    by (says_used instance) e = used e
    by (says_wire instance input) e = lut e
    by (says_table instance digits) e = lut e

pub no_mode : (rest : List ℕ) → ((a b : List ℕ) → AreWords rest (a ∷ b ∷ []) → ⊥) → (s : Saying) → SaysBehind (codes "mode") rest s → ⊥
no_mode rest none (says_mode instance mode) b = none instance mode (subst (λ ws. AreWords rest ws) (tails b.say) b.divided)
no_mode rest none (says_pin pin mode source) b = apart (λ e. absurd (omega (arith, e))) (heads b.say)
no_mode rest none (says_used instance) b = apart (λ e. absurd (omega (arith, e))) (heads b.say)
no_mode rest none (says_wire instance input) b = apart (λ e. absurd (omega (arith, e))) (heads b.say.1)
no_mode rest none (says_table instance digits) b = apart (λ e. absurd (omega (arith, e))) (heads b.say.0)

pub no_pin_line : (rest : List ℕ) → ((a b c : List ℕ) → AreWords rest (a ∷ b ∷ c ∷ []) → ⊥) → (s : Saying) → SaysBehind (codes "pin") rest s → ⊥
no_pin_line rest none (says_mode instance mode) b = apart (λ e. absurd (omega (arith, e))) (heads b.say)
no_pin_line rest none (says_pin pin mode source) b = none pin mode source (subst (λ ws. AreWords rest ws) (tails b.say) b.divided)
no_pin_line rest none (says_used instance) b = apart (λ e. absurd (omega (arith, e))) (heads b.say)
no_pin_line rest none (says_wire instance input) b = apart (λ e. absurd (omega (arith, e))) (heads b.say.1)
no_pin_line rest none (says_table instance digits) b = apart (λ e. absurd (omega (arith, e))) (heads b.say.0)

pub no_used_line : (rest : List ℕ) → (IsWord rest → ⊥) → (s : Saying) → SaysBehind (codes "used") rest s → ⊥
no_used_line rest none (says_mode instance mode) b = apart (λ e. absurd (omega (arith, e))) (heads b.say)
no_used_line rest none (says_pin pin mode source) b = apart (λ e. absurd (omega (arith, e))) (heads b.say)
no_used_line rest none (says_used instance) b =
    let are : AreWords rest (instance ∷ []) = subst (λ ws. AreWords rest ws) (tails b.say) b.divided in
    none (subst (λ t. IsWord t) (sym are.0) are.1)
no_used_line rest none (says_wire instance input) b = apart (λ e. absurd (omega (arith, e))) (heads b.say.1)
no_used_line rest none (says_table instance digits) b = apart (λ e. absurd (omega (arith, e))) (heads b.say.0)

pub no_lut_line : (rest : List ℕ) → ((a b c : List ℕ) → AreWords rest (a ∷ b ∷ c ∷ []) → ⊥) → (s : Saying) → SaysBehind (codes "lut") rest s → ⊥
no_lut_line rest none (says_mode instance mode) b = apart (λ e. absurd (omega (arith, e))) (heads b.say)
no_lut_line rest none (says_pin pin mode source) b = apart (λ e. absurd (omega (arith, e))) (heads b.say)
no_lut_line rest none (says_used instance) b = apart (λ e. absurd (omega (arith, e))) (heads b.say)
no_lut_line rest none (says_wire instance input) b = none instance (codes "wire") b.say.0 (subst (λ ws. AreWords rest ws) (tails b.say.1) b.divided)
no_lut_line rest none (says_table instance digits) b = none instance (codes "table") digits (subst (λ ws. AreWords rest ws) (tails b.say.0) b.divided)

-- the words behind `lut`, where the middle one is `wire`
pub wire_said : (rest instance keyword digits : List ℕ) → AreWords rest (instance ∷ keyword ∷ digits ∷ []) → keyword ≡ codes "wire" → (s : Saying) →
    SaysWire instance digits s → SaysBehind (codes "lut") rest s
wire_said rest instance keyword digits are same s w = record {
  words = instance ∷ keyword ∷ digits ∷ [];
  divided = are;
  say = subst (λ x. WordsSay (codes "lut" ∷ instance ∷ keyword ∷ digits ∷ []) x) (sym w.is)
      (digits, ap (λ k. codes "lut" ∷ instance ∷ k ∷ digits ∷ []) same, w.numeral, w.value);
}

pub table_said : (rest instance keyword digits : List ℕ) → AreWords rest (instance ∷ keyword ∷ digits ∷ []) → keyword ≡ codes "table" → (s : Saying) →
    SaysTable instance digits s → SaysBehind (codes "lut") rest s
table_said rest instance keyword digits are same s t = record {
  words = instance ∷ keyword ∷ digits ∷ [];
  divided = are;
  say = subst (λ x. WordsSay (codes "lut" ∷ instance ∷ keyword ∷ digits ∷ []) x) (sym t.is)
      (ap (λ k. codes "lut" ∷ instance ∷ k ∷ digits ∷ []) same, t.bits);
}

abbrev Three : List ℕ → List ℕ → List ℕ → List ℕ → List ℕ → List ℕ → Type 0
Three a b c x y z = (a ≡ x) × (b ≡ y) × (c ≡ z)

three : (rest a b c : List ℕ) (ws : List (List ℕ)) (x y z : List ℕ) → AreWords rest (a ∷ b ∷ c ∷ []) → AreWords rest ws → ws ≡ x ∷ y ∷ z ∷ [] → Three a b c x y z
three rest a b c ws x y z are others is =
    let same : a ∷ b ∷ c ∷ [] ≡ x ∷ y ∷ z ∷ [] = one_words rest (a ∷ b ∷ c ∷ []) ws are others ∙ is in
    (heads same, heads (tails same), heads (tails (tails same)))

pub said_wire : (rest instance keyword digits : List ℕ) → AreWords rest (instance ∷ keyword ∷ digits ∷ []) → keyword ≡ codes "wire" → (s : Saying) →
    SaysBehind (codes "lut") rest s → SaysWire instance digits s
said_wire rest instance keyword digits are same (says_mode i m) b = absurd (apart (λ e. absurd (omega (arith, e))) (heads b.say))
said_wire rest instance keyword digits are same (says_pin p m source) b = absurd (apart (λ e. absurd (omega (arith, e))) (heads b.say))
said_wire rest instance keyword digits are same (says_used i) b = absurd (apart (λ e. absurd (omega (arith, e))) (heads b.say))
said_wire rest instance keyword digits are same (says_wire i input) b =
    let t = three rest instance keyword digits b.words i (codes "wire") b.say.0 are b.divided (tails b.say.1) in
    record {
      input = input;
      is = ap (λ x. says_wire x input) (sym t.0);
      numeral = subst (λ d. IsNumeral 10 d) (sym t.2) b.say.2;
      value = ap (λ d. digits_value 10 d) t.2 ∙ b.say.3;
    }
said_wire rest instance keyword digits are same (says_table i d) b =
    let t = three rest instance keyword digits b.words i (codes "table") d are b.divided (tails b.say.0) in
    absurd (apart (λ e. absurd (omega (arith, e))) (sym same ∙ t.1))

pub said_table : (rest instance keyword digits : List ℕ) → AreWords rest (instance ∷ keyword ∷ digits ∷ []) → keyword ≡ codes "table" → (s : Saying) →
    SaysBehind (codes "lut") rest s → SaysTable instance digits s
said_table rest instance keyword digits are same (says_mode i m) b = absurd (apart (λ e. absurd (omega (arith, e))) (heads b.say))
said_table rest instance keyword digits are same (says_pin p m source) b = absurd (apart (λ e. absurd (omega (arith, e))) (heads b.say))
said_table rest instance keyword digits are same (says_used i) b = absurd (apart (λ e. absurd (omega (arith, e))) (heads b.say))
said_table rest instance keyword digits are same (says_wire i input) b =
    let t = three rest instance keyword digits b.words i (codes "wire") b.say.0 are b.divided (tails b.say.1) in
    absurd (apart (λ e. absurd (omega (arith, e))) (sym same ∙ t.1))
said_table rest instance keyword digits are same (says_table i d) b =
    let t = three rest instance keyword digits b.words i (codes "table") d are b.divided (tails b.say.0) in
    record {
      is = ap (λ x. says_table x d) (sym t.0) ∙ ap (λ x. says_table instance x) (sym t.2);
      bits = subst (λ x. AllPass is_bit x) (sym t.2) b.say.1;
    }

pub other_lut : (rest instance keyword digits : List ℕ) → AreWords rest (instance ∷ keyword ∷ digits ∷ []) → (keyword ≡ codes "wire" → ⊥) → (keyword ≡ codes "table" → ⊥) →
    (s : Saying) → SaysBehind (codes "lut") rest s → ⊥
other_lut rest instance keyword digits are wire table (says_mode i m) b = apart (λ e. absurd (omega (arith, e))) (heads b.say)
other_lut rest instance keyword digits are wire table (says_pin p m source) b = apart (λ e. absurd (omega (arith, e))) (heads b.say)
other_lut rest instance keyword digits are wire table (says_used i) b = apart (λ e. absurd (omega (arith, e))) (heads b.say)
other_lut rest instance keyword digits are wire table (says_wire i input) b =
    wire (three rest instance keyword digits b.words i (codes "wire") b.say.0 are b.divided (tails b.say.1)).1
other_lut rest instance keyword digits are wire table (says_table i d) b =
    table (three rest instance keyword digits b.words i (codes "table") d are b.divided (tails b.say.0)).1

-- where two say the same, they name and lack the same
lacks_same : (g : Graph) (P Q : Saying → Type 0) (n : ℕ) (e : ProgError) → ((s : Saying) → P s → Q s) → ((s : Saying) → Q s → P s) → Lacks g P n e → Lacks g Q n e
lacks_same g P Q n (BadLine line) to back l = (l.0, λ s q. l.1 s (back s q))
lacks_same g P Q n (NoSuchSite line) to back l = (l.0, (l.1.0, to l.1.0 l.1.1, l.1.2))
lacks_same g P Q n (NoSuchChoice line) to back l = (l.0, (l.1.0, to l.1.0 l.1.1, l.1.2))
lacks_same g P Q n (TwiceSet line) to back l = l
lacks_same g P Q n OutOfMemory to back l = tt

pub all_lack : (g : Graph) (P Q : Saying → Type 0) (n : ℕ) (r : Result Setting ProgError) → ((s : Saying) → P s → Q s) → ((s : Saying) → Q s → P s) →
    IfErr r (Lacks g P n) → IfErr r (Lacks g Q n)
all_lack g P Q n (Ok set) to back l = tt
all_lack g P Q n (Err e) to back l = lacks_same g P Q n e to back l

pub all_name : (g : Graph) (P Q : Saying → Type 0) (r : Result Setting ProgError) → ((s : Saying) → P s → Q s) → IfOk r (IsNamed g P) → IfOk r (IsNamed g Q)
all_name g P Q (Ok set) to n = record { saying = n.saying; said = to n.saying n.said; names = n.names }
all_name g P Q (Err e) to n = tt
