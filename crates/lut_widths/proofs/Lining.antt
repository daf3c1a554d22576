-- Lines of children, one by one: whether each misfits, and the least that does.
use Rattle.std.proofs.Common.{◌≡◌, ◌≤◌, ◌<◌, ◌+◌, ◌^◌, ◌⊎◌, ◌↔◌, inl, inr, ℕ, Bool, IsTrue, List, [], ◌∷◌, ◌++◌, Option, Some, None, slice_get, length, take, get_or, refl, sym, ap, ◌∙◌, subst}
use Rattle.std.proofs.lemmas.List.{take_more, take_all}
use Rattle.vtr_base.specs.Lists.{Has}
use Rattle.list_laws.proofs.Members.{at_has}
use Rattle.arch_types.specs.declared.block.PbType.{PbType}
use Rattle.meta_lines.specs.declared.types.Field.{Field}
use Rattle.meta_lines.specs.declared.types.ChildField.{ChildField}
use Rattle.lut_widths.specs.declared.reach.Reach.{Reach}
use Rattle.lut_widths.specs.declared.lines.SeenLine.{SeenLine}
use Rattle.lut_widths.specs.Fields.{IsFirstFor, Misfits, IsLeast, width_of}
use Rattle.lut_widths.specs.Reaches.{ReachMisfits}
use Rattle.lut_widths.specs.Tables.{StandsIn, AreReaches, HasLine, AreSeen, UsesOfLines, LineMisfits, least_with}
use Rattle.lut_widths.proofs.Deciding.{least_alike, least_more}
use Rattle.lut_widths.proofs.Reaching.{reach_misfit_of}
use Rattle.lut_widths.proofs.Seeing.{IsNewLast, first_on, first_last, first_pushed}

-- a line for no child
pub unknown_fits : (kids : List PbType) (names : List (List ℕ)) (reaches : List Reach) (before : List ChildField) (c : ChildField) →
    ((n : ℕ) → slice_get names n ≡ Some c.child → ⊥) → AreReaches kids names reaches → LineMisfits kids before c → ⊥
unknown_fits kids names reaches before c none are misfits =
    let st = misfits.stands in
    let at = at_has names c.child (subst (Has names) st.named (are.known st.kid st.among)) in
    none at.0 at.1

-- the line is for an instance that some line before it is for, exactly where the set has it
pub seen_before : (names : List (List ℕ)) (before : List ChildField) (seen : List SeenLine) (c : ChildField) (child : ℕ) → slice_get names child ≡ Some c.child → AreSeen names before seen →
    Has seen (record { child = child; instance = c.instance }) → HasLine before c.child c.instance
seen_before names before seen c child there are has =
    let o = (are (record { child = child; instance = c.instance })).0 has in
    subst (λ (name : List ℕ). HasLine before name c.instance) (some_one o.0 c.child (sym o.1 ∙ there)) o.2
  where
    some_one : (x y : List ℕ) → Some x ≡ Some y → x ≡ y
    some_one x y e = cc

pub unseen_before : (names : List (List ℕ)) (before : List ChildField) (seen : List SeenLine) (c : ChildField) (child : ℕ) → slice_get names child ≡ Some c.child → AreSeen names before seen →
    (Has seen (record { child = child; instance = c.instance }) → ⊥) → HasLine before c.child c.instance → ⊥
unseen_before names before seen c child there are none has = none ((are (record { child = child; instance = c.instance })).1 (c.child, there, has))

-- a new line misfits exactly where its instance's LUTs do
pub new_misfits : (kids : List PbType) (names : List (List ℕ)) (reaches : List Reach) (before : List ChildField) (c : ChildField) (child : ℕ) (r : Reach) (w : ℕ) (test : Bool) →
    slice_get names child ≡ Some c.child → slice_get reaches child ≡ Some r → w ≡ width_of c.field → AreReaches kids names reaches → (HasLine before c.child c.instance → ⊥) →
    IsTrue test ↔ ReachMisfits r c.instance w → IsTrue test ↔ LineMisfits kids before c
new_misfits kids names reaches before c child r w test there at width are new is = (λ yes. forth ((of).0 (is.0 yes)), λ misfits. is.1 ((of).1 (misfits.inputs, misfits.stands, λ fits. misfits.other (sym width ∙ fits))))
  where
    of : ReachMisfits r c.instance w ↔ ((k : ℕ) × StandsIn kids c.child k c.instance × (w ≡ 2 ^ k → ⊥))
    of = reach_misfit_of (StandsIn kids c.child) r c.instance w (are.each child c.child r there at)

    forth : ((k : ℕ) × StandsIn kids c.child k c.instance × (w ≡ 2 ^ k → ⊥)) → LineMisfits kids before c
    forth some = record { new = new; inputs = some.0; stands = some.1; other = λ fits. some.2 (width ∙ fits) }

-- one line more

uses_more : (kids : List PbType) (before : List ChildField) (c : ChildField) (n : ℕ) → (Misfits (UsesOfLines kids before) n ⊎ ((n ≡ c.line) × LineMisfits kids before c)) ↔ Misfits (UsesOfLines kids (before ++ c ∷ [])) n
uses_more kids before c n = (forth, back)
  where
    forth : Misfits (UsesOfLines kids before) n ⊎ ((n ≡ c.line) × LineMisfits kids before c) → Misfits (UsesOfLines kids (before ++ c ∷ [])) n
    forth (inl m) =
        let u = m.uses in
        record {
          field = m.field;
          inputs = m.inputs;
          uses = (u.0, (u.1.0, u.1.1, (u.1.2.0, first_on before (c ∷ []) u.0 u.1.0 u.1.2.0 u.1.2.1, u.1.2.2, u.1.2.3)));
          other = m.other;
        }
    forth (inr l) = record {
      field = c.field;
      inputs = l.1.inputs;
      uses = (c.child, (c.instance, l.1.stands, (c, first_last before c c.child c.instance l.1.new (refl, refl), sym l.0, refl)));
      other = l.1.other;
    }

    at : (name : List ℕ) (i : ℕ) (d : ChildField) (field : Field) (k : ℕ) → StandsIn kids name k i → d.line ≡ n → d.field ≡ field → (width_of field ≡ 2 ^ k → ⊥) →
        IsFirstFor before name i d ⊎ IsNewLast before c name i d → Misfits (UsesOfLines kids before) n ⊎ ((n ≡ c.line) × LineMisfits kids before c)
    at name i d field k stands line is other (inl front) = inl (record { field = field; inputs = k; uses = (name, (i, stands, (d, front, line, is))); other = other })
    at name i d field k stands line is other (inr last) = inr (
      sym line ∙ ap (λ (e : ChildField). e.line) last.is,
      record {
        new = λ has. last.none (subst (λ (m : List ℕ). HasLine before m i) last.for.0 (subst (λ (j : ℕ). HasLine before c.child j) last.for.1 has));
        inputs = k;
        stands = subst (λ (m : List ℕ). StandsIn kids m k c.instance) (sym last.for.0) (subst (λ (j : ℕ). StandsIn kids name k j) (sym last.for.1) stands);
        other = λ fits. other (ap width_of (sym is ∙ ap (λ (e : ChildField). e.field) last.is) ∙ fits);
      },
    )

    back : Misfits (UsesOfLines kids (before ++ c ∷ [])) n → Misfits (UsesOfLines kids before) n ⊎ ((n ≡ c.line) × LineMisfits kids before c)
    back m =
        let u = m.uses in
        at u.0 u.1.0 u.1.2.0 m.field m.inputs u.1.1 u.1.2.2 u.1.2.3 m.other (first_pushed before c u.0 u.1.0 u.1.2.0 u.1.2.1)

pub none_misfits : (kids : List PbType) → IsLeast (Misfits (UsesOfLines kids [])) None
none_misfits kids n m = m.uses.1.2.1

pub lines_more : (kids : List PbType) (lines : List ChildField) (j : ℕ) (c : ChildField) (least : Option ℕ) (counts : Bool) → j < length lines → c ≡ get_or lines j c →
    IsTrue counts ↔ LineMisfits kids (take j lines) c → IsLeast (Misfits (UsesOfLines kids (take j lines))) least →
    IsLeast (Misfits (UsesOfLines kids (take (j + 1) lines))) (least_with counts least c.line)
lines_more kids lines j c least counts within is test old =
    let longer : take (j + 1) lines ≡ take j lines ++ c ∷ [] = take_more lines j c within ∙ ap (λ (d : ChildField). take j lines ++ d ∷ []) (sym is) in
    subst (λ (l : List ChildField). IsLeast (Misfits (UsesOfLines kids l)) (least_with counts least c.line)) (sym longer)
    (least_alike (λ n. Misfits (UsesOfLines kids (take j lines)) n ⊎ ((n ≡ c.line) × LineMisfits kids (take j lines) c)) (Misfits (UsesOfLines kids (take j lines ++ c ∷ [])))
    (uses_more kids (take j lines) c) (least_with counts least c.line) (least_more (Misfits (UsesOfLines kids (take j lines))) (LineMisfits kids (take j lines) c) counts least c.line test old))

pub seen_taken : (names : List (List ℕ)) (lines : List ChildField) (j : ℕ) (c : ChildField) (seen : List SeenLine) → j < length lines → c ≡ get_or lines j c →
    AreSeen names (take j lines ++ c ∷ []) seen → AreSeen names (take (j + 1) lines) seen
seen_taken names lines j c seen within is are =
    let longer : take (j + 1) lines ≡ take j lines ++ c ∷ [] = take_more lines j c within ∙ ap (λ (d : ChildField). take j lines ++ d ∷ []) (sym is) in
    subst (λ (l : List ChildField). AreSeen names l seen) (sym longer) are

pub lines_all : (kids : List PbType) (lines : List ChildField) (j : ℕ) (least : Option ℕ) → length lines ≤ j → IsLeast (Misfits (UsesOfLines kids (take j lines))) least →
    IsLeast (Misfits (UsesOfLines kids lines)) least
lines_all kids lines j least end old = subst (λ (l : List ChildField). IsLeast (Misfits (UsesOfLines kids l)) least) (take_all j lines end) old
