-- What lines say.
use Rattle.std.proofs.Common.{◌≡◌, ◌≤◌, inl, inr, ℕ, true, List, [], ◌∷◌, length, sym, ap, subst, arith}
use Rattle.std.specs.Prelude.{IsUtf8, codes}
use Rattle.std.specs.List.{All}
use Rattle.std.proofs.lemmas.List.Elements.{All-nil, All-cons, All-head, All-tail}
use Rattle.vtr_base.specs.Spans.{Lacks}
use Rattle.vtr_base.specs.Lists.{Has}
use Rattle.blif_lines.specs.Lines.{LineSaid, IsNextLine, AreLinesFrom}
use Rattle.blif_elems.specs.Nets.{IsNet, AreNets}
use Rattle.blif_elems.specs.Statements.{Said, says_model, says_inputs, says_outputs, says_names, says_latch, says_box, says_param, says_passed, says_end, SaysBehind, WordsSay, IsNames, IsLatch, latch_words}
use Rattle.net_types.specs.Words.{IsWord, IsNetName}
use Rattle.model_words.specs.Plain.{ArePlainNets, IsPlain}
use Rattle.model_words.specs.Laws.{SaysPlain}
use Rattle.model_words.proofs.Texts.{line_lacks}
use Rattle.model_words.proofs.Wording.{each_word, few_words}

net_names : (words : List (List ℕ)) → All IsWord words → AreNets words → All IsNetName words
net_names words are nets = λ k d within. record { word = are k d within; free = nets k d within }

plain_nets : (limit : ℕ) (words : List (List ℕ)) → All IsWord words → AreNets words → length words ≤ limit → ArePlainNets limit words
plain_nets limit words are nets few = record { each = net_names words are nets; few = few }

net_name : (word : List ℕ) → IsWord word → IsNet word → IsNetName word
net_name word is free = record { word = is; free = free }

latch_nets : (limit : ℕ) (loaded made control : List ℕ) (init : List (List ℕ)) → All IsWord (latch_words loaded made control init) → length (latch_words loaded made control init) ≤ limit →
    IsNet loaded × IsNet made × IsNet control → ArePlainNets limit (loaded ∷ made ∷ control ∷ [])
latch_nets limit loaded made control init are few nets =
    let behind = All-tail IsWord loaded (made ∷ codes "re" ∷ control ∷ init) are in
    let kind = All-tail IsWord made (codes "re" ∷ control ∷ init) behind in
    let last = All-tail IsWord (codes "re") (control ∷ init) kind in
    record {
      each =
          All-cons IsNetName loaded (made ∷ control ∷ []) (net_name loaded (All-head IsWord loaded (made ∷ codes "re" ∷ control ∷ init) are) nets.0)
          (All-cons IsNetName made (control ∷ []) (net_name made (All-head IsWord made (codes "re" ∷ control ∷ init) behind) nets.1)
          (All-cons IsNetName control [] (net_name control (All-head IsWord control init last) nets.2) (All-nil IsNetName)));
      few = omega (arith, few);
    }

-- what each keyword and the words behind it say is plain: the keywords themselves are out of reach
-- here, so that the cases are put together by a tactic
record PlainSaid (limit : ℕ) (s : Said) : Type 0 where
  is : IsPlain limit s

said_model : (limit : ℕ) (behind : List (List ℕ)) (s : Said) → (name : List ℕ) × (behind ≡ name ∷ []) × (s ≡ says_model name) → PlainSaid limit s
said_model limit behind s says = record { is = subst (IsPlain limit) (sym says.2) tt }

said_inputs : (limit : ℕ) (behind : List (List ℕ)) (s : Said) → All IsWord behind → length behind ≤ limit → AreNets behind × (s ≡ says_inputs behind) → PlainSaid limit s
said_inputs limit behind s are few says = record { is = subst (IsPlain limit) (sym says.1) (plain_nets limit behind are says.0 few) }

said_outputs : (limit : ℕ) (behind : List (List ℕ)) (s : Said) → All IsWord behind → length behind ≤ limit → AreNets behind × (s ≡ says_outputs behind) → PlainSaid limit s
said_outputs limit behind s are few says = record { is = subst (IsPlain limit) (sym says.1) (plain_nets limit behind are says.0 few) }

said_names : (limit : ℕ) (behind : List (List ℕ)) (s : Said) → All IsWord behind → length behind ≤ limit →
    (inputs : List (List ℕ)) × (output : List ℕ) × IsNames behind inputs output × (s ≡ says_names inputs output) → PlainSaid limit s
said_names limit behind s are few says = record {
  is = subst (IsPlain limit) (sym says.3)
      (subst (ArePlainNets limit) says.2.spelled (plain_nets limit behind are says.2.nets few), says.2.few);
}

said_latch : (limit : ℕ) (behind : List (List ℕ)) (s : Said) → All IsWord behind → length behind ≤ limit →
    (loaded made control : List ℕ) × IsLatch behind loaded made control × (s ≡ says_latch loaded made control) → PlainSaid limit s
said_latch limit behind s are few says =
    let spelled = says.3.spelled in
    record {
      is = subst (IsPlain limit) (sym says.4)
          (latch_nets limit says.0 says.1 says.2 says.3.init (subst (All IsWord) spelled are) (omega (arith, few, ap length spelled)) says.3.nets);
    }

said_box : (limit : ℕ) (behind : List (List ℕ)) (s : Said) → All IsWord behind → length behind ≤ limit →
    (model : List ℕ) × (pins : List (List ℕ)) × (behind ≡ model ∷ pins) × (s ≡ says_box model pins) → PlainSaid limit s
said_box limit behind s are few says =
    let all : All IsWord (says.0 ∷ says.1) = subst (All IsWord) says.2 are in
    record {
      is = subst (IsPlain limit) (sym says.3)
          (record {
            word = All-head IsWord says.0 says.1 all;
            each = All-tail IsWord says.0 says.1 all;
            few = omega (arith, few, ap length says.2);
          });
    }

said_param : (limit : ℕ) (behind : List (List ℕ)) (s : Said) → All IsWord behind → length behind ≤ limit →
    (name value : List ℕ) × (behind ≡ name ∷ value ∷ []) × (s ≡ says_param name value) → PlainSaid limit s
said_param limit behind s are few says =
    let all : All IsWord (says.0 ∷ says.1 ∷ []) = subst (All IsWord) says.2 are in
    record {
      is = subst (IsPlain limit) (sym says.3)
          (All-head IsWord says.0 (says.1 ∷ []) all, All-head IsWord says.1 [] (All-tail IsWord says.0 (says.1 ∷ []) all));
    }

said_passed : (limit : ℕ) (s : Said) → s ≡ says_passed → PlainSaid limit s
said_passed limit s says = record { is = subst (IsPlain limit) (sym says) tt }

said_end : (limit : ℕ) (behind : List (List ℕ)) (s : Said) → (behind ≡ []) × (s ≡ says_end) → PlainSaid limit s
said_end limit behind s says = record { is = subst (IsPlain limit) (sym says.1) tt }

by_keyword : (limit : ℕ) (k : _) (behind : List (List ℕ)) (s : Said) → All IsWord behind → length behind ≤ limit → SaysBehind k behind s → PlainSaid limit s
by_keyword limit k behind s are few says = grind (arith, said_model, said_inputs, said_outputs, said_names, said_latch, said_box, said_param, said_passed, said_end)

words_say : (limit : ℕ) (words : List (List ℕ)) (s : Said) → All IsWord words → length words ≤ limit → WordsSay words s → IsPlain limit s
words_say limit [] s are few says = subst (IsPlain limit) (sym says) tt
words_say limit (first ∷ behind) s are few (inl says) = (by_keyword limit says.0 behind s (All-tail IsWord first behind are) (omega (arith, few)) says.2).is
words_say limit (first ∷ behind) s are few (inr says) = subst (IsPlain limit) (sym says.1) tt

says_plain : (l : LineSaid) → Lacks l.text 35 → (l.is_utf8 ≡ true → IsUtf8 l.text) → SaysPlain l
says_plain l lacks utf8 phase next s (inl read) =
    words_say (length l.text) read.words s (each_word l.text read.words lacks (utf8 read.has.utf8) read.has.are) (few_words l.text read.words read.has.are) read.says
says_plain l lacks utf8 phase next s (inr over) = subst (IsPlain (length l.text)) (sym over.1) tt

module _ (one_utf8 : (number next : ℕ) (physical rest : List (List ℕ)) (l : LineSaid) → IsNextLine number physical l next rest → l.is_utf8 ≡ true → IsUtf8 l.text) where
  pub each_line : (number : ℕ) (physical : List (List ℕ)) (ls : List LineSaid) → AreLinesFrom number physical ls → (l : LineSaid) → Has ls l → SaysPlain l
  each_line number physical [] are l has = absurd has
  each_line number physical (m ∷ ls) are l (inl is) =
      subst SaysPlain (sym is) (says_plain m (line_lacks number are.0 physical are.1 m are.2) (one_utf8 number are.0 physical are.1 m are.2))
  each_line number physical (m ∷ ls) are l (inr has) = each_line are.0 are.1 ls are.3 l has
