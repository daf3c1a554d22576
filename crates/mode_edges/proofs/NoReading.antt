-- Where a reader stops, no reading is there.
use Rattle.std.proofs.Common.{◌≡◌, inl, inr, ℕ, List, [], ◌∷◌, ◌++◌, Some, None, length, length-append, sym, ◌∙◌, ap, subst, arith}
use Rattle.vtr_base.specs.Spans.{Lacks}
use Rattle.mode_edges.specs.PinWords.{Index, AreDigits, IsRange, IsPart, Word, IsWord}
use Rattle.mode_edges.specs.Readers.{IsCut}
use Rattle.mode_edges.proofs.OneReading.{uncut, one_cut, one_last, no_colon}

pub no_range_alone : (text : List ℕ) → Lacks text 58 → ((n : ℕ) → AreDigits text n → ⊥) →
    (low high : ℕ) → IsRange text low high → ⊥
no_range_alone text lacks none low high (inl r) = none low r.0
no_range_alone text lacks none low high (inr r) = uncut 58 text r.one r.other lacks r.spelled

pub no_range_first : (text one other : List ℕ) → IsCut text 58 one other → ((n : ℕ) → AreDigits one n → ⊥) →
    (low high : ℕ) → IsRange text low high → ⊥
no_range_first text one other cut none low high (inl r) = uncut 58 text one other (no_colon text low r.0) cut.spelled
no_range_first text one other cut none low high (inr r) =
    let k = one_cut 58 r.one one r.other other (no_colon r.one r.m r.reads_m) cut.lacks (sym r.spelled ∙ cut.spelled) in
    none r.m (subst (λ t. AreDigits t r.m) k.0 r.reads_m)

pub no_range_second : (text one other : List ℕ) → IsCut text 58 one other → ((n : ℕ) → AreDigits other n → ⊥) →
    (low high : ℕ) → IsRange text low high → ⊥
no_range_second text one other cut none low high (inl r) = uncut 58 text one other (no_colon text low r.0) cut.spelled
no_range_second text one other cut none low high (inr r) =
    let k = one_cut 58 r.one one r.other other (no_colon r.one r.m r.reads_m) cut.lacks (sym r.spelled ∙ cut.spelled) in
    none r.l (subst (λ t. AreDigits t r.l) k.1 r.reads_l)

-- what stands behind the bracket, where the text is a part
part_inside : (text front behind name : List ℕ) (index : Index) → IsCut text 91 front behind → IsPart text name index →
    (inside : List ℕ) × (behind ≡ inside ++ 93 ∷ []) × ((low high : ℕ) × IsRange inside low high)
part_inside text front behind name None cut part =
    absurd (uncut 91 text front behind (subst (λ t. Lacks t 91) (sym part.0) part.1) cut.spelled)
part_inside text front behind name (Some r) cut part =
    let k = one_cut 91 front name behind (part.0 ++ 93 ∷ []) cut.lacks part.2 (sym cut.spelled ∙ part.1) in
    (part.0, k.1, (r.low, r.high, part.3))

pub no_part_empty : (text front behind : List ℕ) → IsCut text 91 front behind → length behind ≡ 0 →
    (name : List ℕ) (index : Index) → IsPart text name index → ⊥
no_part_empty text front behind cut none name index part =
    let k = part_inside text front behind name index cut part in
    omega (arith, none, ap length k.1, length-append k.0 (93 ∷ []))

pub no_part_open : (text front behind inside : List ℕ) (last : ℕ) → IsCut text 91 front behind → behind ≡ inside ++ last ∷ [] → (last ≡ 93 → ⊥) →
    (name : List ℕ) (index : Index) → IsPart text name index → ⊥
no_part_open text front behind inside last cut ends other name index part =
    let k = part_inside text front behind name index cut part in
    other (one_last inside k.0 last 93 (sym ends ∙ k.1)).1

pub no_part_range : (text front behind inside : List ℕ) → IsCut text 91 front behind → behind ≡ inside ++ 93 ∷ [] →
    ((low high : ℕ) → IsRange inside low high → ⊥) →
    (name : List ℕ) (index : Index) → IsPart text name index → ⊥
no_part_range text front behind inside cut ends none name index part =
    let k = part_inside text front behind name index cut part in
    let same = one_last inside k.0 93 93 (sym ends ∙ k.1) in
    let r = k.2 in
    none r.0 r.1 (subst (λ t. IsRange t r.0 r.1) (sym same.0) r.2)

pub no_word_undotted : (text : List ℕ) → Lacks text 46 → (w : Word) → IsWord text w → ⊥
no_word_undotted text lacks w is = uncut 46 text w.head is.tail lacks is.spelled

pub no_word_dotted : (text head tail front back : List ℕ) → IsCut text 46 head tail → IsCut tail 46 front back → (w : Word) → IsWord text w → ⊥
no_word_dotted text head tail front back first second w is =
    let k = one_cut 46 head w.head tail is.tail first.lacks is.head_lacks (sym first.spelled ∙ is.spelled) in
    uncut 46 tail front back (subst (λ t. Lacks t 46) (sym k.1) is.tail_lacks) second.spelled

pub no_word_part : (text head tail : List ℕ) → IsCut text 46 head tail → ((name : List ℕ) (index : Index) → IsPart tail name index → ⊥) →
    (w : Word) → IsWord text w → ⊥
no_word_part text head tail first none w is =
    let k = one_cut 46 head w.head tail is.tail first.lacks is.head_lacks (sym first.spelled ∙ is.spelled) in
    none w.port w.bits (subst (λ t. IsPart t w.port w.bits) (sym k.1) is.is_port)
