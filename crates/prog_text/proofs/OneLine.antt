-- Laws of single lines, of names, and of the lines of a file.
use Rattle.std.proofs.Common.{◌≡◌, ◌==◌, ◌<◌, ◌+◌, ◌-◌, ℕ, zero, suc, Bool, true, false, not, if◌then◌else◌, List, [], ◌∷◌, ◌++◌, length, take, get_or, refl, sym, ap, subst, ◌∙◌, inl, inr, arith}
use Rattle.std.specs.List.{slice_split, All}
use Rattle.std.specs.Str.Lines.{lines, lines_of_parts, strip_carriage_return}
use Rattle.std.proofs.lemmas.Bool.Decides.{nat_tests}
use Rattle.std.proofs.lemmas.List.{length_push, take_more}
use Rattle.std.proofs.Math.Seq.{get_or-append_seam, take-append_seam, take-length}
use Rattle.std.proofs.lemmas.List.Splits.{slice_split_none, slice_split_at, length-slice_split}
use Rattle.vtr_base.specs.Spans.{Lacks as IsFree}
use Rattle.pb_expand.specs.Graph.{Graph}
use Rattle.pb_expand.specs.Expansion.{IsExpansion}
use Rattle.pb_expand.specs.OneOwner.{HasOneOwner}
use Rattle.prog_map.specs.declared.setting.Setting.{Setting}
use Rattle.prog_map.specs.Choices.{no_choices}
use Rattle.prog_text.specs.declared.error.ProgError.{ProgError}
use Rattle.prog_text.specs.declared.error.ProgError.TheVariants.{BadLine, NoSuchSite, NoSuchChoice, TwiceSet, OutOfMemory}
use Rattle.prog_text.specs.Laws.{AreOneRefusal}
use Rattle.prog_text.specs.LineLaws.{IsText, AreTexts}
use Rattle.prog_text.specs.Lines.{DropsReturn, IsFirstLine, AreFirstLines}
use Rattle.prog_text.specs.Names.{instance_name, pin_name}
use Rattle.prog_text.specs.Plain.{HasPlainNames}
use Rattle.prog_text.specs.Sayings.{Says}
use Rattle.prog_text.specs.Settings.{Names, IsNamed, LacksSite, LacksChoice}
use Rattle.prog_text.specs.Text.{Lacks}
use Rattle.prog_text.proofs.Reading.{lacks_refuses}
use Rattle.prog_text.proofs.Sound.{instance_sound, instance_some, pin_sound, pin_some}
use Rattle.prog_text.proofs.OneReading.{one_saying, one_setting, has_site, has_choice}
use Rattle.prog_text.proofs.OneRefusal.{line_once}

module _ (g : Graph) (law : IsExpansion g) (plain : HasPlainNames g.root) (one : HasOneOwner g) where
  pub one_named : (line : List ℕ) (x y : Setting) → IsNamed g (Says line) x → IsNamed g (Says line) y → x ≡ y
  one_named line x y a b =
      let same : a.saying ≡ b.saying = one_saying line a.saying b.saying a.said b.said in
      one_setting g law plain one b.saying x y (subst (λ s. Names g s x) same a.names) b.names

  pub lacks_nothing : (line : List ℕ) (x : Setting) (n : ℕ) (e : ProgError) → IsNamed g (Says line) x → Lacks g (Says line) n e → e ≡ OutOfMemory
  lacks_nothing line x n (BadLine at) a l = absurd (l.1 a.saying a.said)
  lacks_nothing line x n (NoSuchSite at) a l =
      let same : a.saying ≡ l.1.0 = one_saying line a.saying l.1.0 a.said l.1.1 in
      absurd (has_site g law plain one l.1.0 x (subst (λ s. Names g s x) same a.names) l.1.2)
  lacks_nothing line x n (NoSuchChoice at) a l =
      let same : a.saying ≡ l.1.0 = one_saying line a.saying l.1.0 a.said l.1.1 in
      absurd (has_choice g law plain one l.1.0 x (subst (λ s. Names g s x) same a.names) l.1.2)
  lacks_nothing line x n (TwiceSet at) a l = absurd l
  lacks_nothing line x n OutOfMemory a l = refl

  pub one_lack : (line : List ℕ) (n : ℕ) (e f : ProgError) → Lacks g (Says line) n e → Lacks g (Says line) n f → AreOneRefusal e f
  one_lack line n e f a b =
      line_once g law plain one line no_choices n e f (lacks_refuses g line no_choices n e a) (lacks_refuses g line no_choices n f b)

pub are_texts : (g : Graph) → IsExpansion g → HasPlainNames g.root → AreTexts g
are_texts g law plain = record {
  instances = λ n inside. let s = instance_sound g n plain inside in record { some = instance_some g n plain inside; dark = s.dark; utf8 = s.utf8 };
  pins = λ n inside. let s = pin_sound g n law plain inside in record { some = pin_some g n law plain inside; dark = s.dark; utf8 = s.utf8 };
}

-- the lines of bytes

none_fed : (text : List ℕ) → IsFree text 10 → All (λ b. (b == 10) ≡ false) text
none_fed text free = λ k d within. fails (_ == 10) (free k d within)
  where
    fails : (b : Bool) → not b ≡ true → b ≡ false
    fails true e = cc
    fails false e = refl

parts_more : (part : List ℕ) (parts : List (List ℕ)) → 0 < length parts → lines_of_parts (part ∷ parts) ≡ strip_carriage_return part ∷ lines_of_parts parts
parts_more part [] some = absurd (omega arith)
parts_more part (next ∷ parts) some = refl

-- the one carriage return at the end of what stands before a line feed is dropped
strips : (whole line : List ℕ) → DropsReturn whole line → strip_carriage_return whole ≡ line
strips whole line (inl is) =
    let text : List ℕ = line ++ 13 ∷ [] in
    let long : length text - 1 ≡ length line = omega (arith, length_push line 13) in
    let last : get_or text (length text - 1) 0 ≡ 13 = ap (λ n. get_or text n 0) long ∙ get_or-append_seam line 13 [] 0 in
    ap strip_carriage_return is ∙ ap (λ x. if x == 13 then take (length text - 1) text else text) last ∙
    ap (λ n. take n text) long ∙ take-append_seam line (13 ∷ [])
strips whole line (inr is) = by (get_or whole (length whole - 1) 0 == 13) refl ∙ is.0
  where
    ends : (get_or whole (length whole - 1) 0 == 13) ≡ true → (n : ℕ) → length whole ≡ n → whole ≡ take (length whole - 1) whole ++ 13 ∷ []
    ends e zero none = absurd (empty whole none e)
      where
        empty : (w : List ℕ) → length w ≡ 0 → (get_or w (length w - 1) 0 == 13) ≡ true → ⊥
        empty [] none e = cc
        empty (x ∷ w) none e = absurd (omega arith)
    ends e (suc k) some =
        let is : get_or whole (length whole - 1) 0 ≡ 13 = grind (arith, nat_tests) in
        let back : length whole - 1 + 1 ≡ length whole = omega arith in
        sym (take-length whole) ∙ ap (λ n. take n whole) (sym back) ∙ take_more whole (length whole - 1) 0 (omega arith) ∙
        ap (λ x. take (length whole - 1) whole ++ x ∷ []) is

    by : (b : Bool) → (get_or whole (length whole - 1) 0 == 13) ≡ b → (if b then take (length whole - 1) whole else whole) ≡ whole
    by false e = refl
    by true e = absurd (is.1 (take (length whole - 1) whole) (ends e (length whole) refl))

first_is : (bytes line rest : List ℕ) → IsFirstLine bytes line rest → lines bytes ≡ line ∷ lines rest
first_is bytes line rest (inl is) =
    let fed = λ (b : ℕ). b == 10 in
    let split = slice_split_at fed is.whole 10 rest (none_fed is.whole is.lacks) refl in
    ap lines is.spelled ∙ ap lines_of_parts split ∙
    parts_more is.whole (slice_split fed rest) (omega (arith, length-slice_split fed rest)) ∙
    ap (λ l. l ∷ lines rest) (strips is.whole line is.drops)
first_is bytes line rest (inr is) =
    let split = slice_split_none (λ (b : ℕ). b == 10) line (none_fed line is.lacks) in
    ap lines is.spelled ∙ ap lines_of_parts split ∙ ap (λ b. if b then [] else line ∷ []) (full line (λ e. is.some (is.spelled ∙ e))) ∙
    ap (λ r. line ∷ lines r) (sym is.nothing)
  where
    full : (l : List ℕ) → (l ≡ [] → ⊥) → (length l == 0) ≡ false
    full [] some = absurd (some refl)
    full (x ∷ xs) some = not_zero (length (x ∷ xs)) (λ e. absurd (omega (arith, e)))
      where
        not_zero : (n : ℕ) → (n ≡ 0 → ⊥) → (n == 0) ≡ false
        not_zero n h = grind (arith, nat_tests)

pub lines_are : (bytes : List ℕ) (ls : List (List ℕ)) → AreFirstLines bytes ls [] → lines bytes ≡ ls
lines_are bytes [] are = ap lines (sym are)
lines_are bytes (l ∷ ls) are = first_is bytes l are.0 are.1 ∙ ap (λ xs. l ∷ xs) (lines_are are.0 ls are.2)
