-- The whole text of a netlist.
use Rattle.std.proofs.Common.{◌≡◌, ◌<◌, ◌==◌, ◌⊎◌, inl, inr, ℕ, List, [], ◌∷◌, ◌++◌, length, append_assoc, append-nil, refl, sym, ap, ◌∙◌, subst, arith}
use Rattle.std.specs.Prelude.{codes, flat_map}
use Rattle.std.specs.List.{All, AllZip}
use Rattle.std.proofs.lemmas.List.Elements.{All-nil, All-cons}
use Rattle.std.proofs.lemmas.List.Sums.{AllPass-from_list_all}
use Rattle.list_laws.proofs.Members.{each_has, from_filter}
use Rattle.vtr_base.specs.Lists.{Has}
use Rattle.vtr_base.specs.Spans.{AreWords}
use Rattle.arch_types.specs.declared.arch.CellModel.{CellModel}
use Rattle.arch_types.specs.Models.{AreModels}
use Rattle.net_types.specs.declared.atom.Atom.{Atom}
use Rattle.net_types.specs.declared.atom.Conn.{Conn}
use Rattle.net_types.specs.declared.parts.NetlistParts.{NetlistParts}
use Rattle.net_types.specs.Atoms.{IsAtom}
use Rattle.net_types.specs.Fits.{FitsModels}
use Rattle.net_types.specs.Merges.{IsMerge}
use Rattle.net_types.specs.Order.{group_of, of_group}
use Rattle.net_types.specs.WellFormed.{IsNetlist}
use Rattle.net_types.specs.Words.{IsWord}
use Rattle.blif_lines.specs.Lines.{LineSaid, AreLines}
use Rattle.blif_elems.specs.Statements.{Said, says_model, says_end}
use Rattle.blif_elems.specs.Written.{HaveKeywords}
use Rattle.blif_order.specs.Orders.{IsLineOrder}
use Rattle.blif_text.specs.Text.{AreAtomTexts, head_text, end_text, SpellsNetlist}
use Rattle.line_texts.specs.Written.{IsWrittenLine, IsReadBack, HasWrittenLines}
use Rattle.said_texts.specs.Statements.{AreSaidOf}
use Rattle.said_texts.specs.Laws.{Tells, framed, HasStatements, SayStatements}
use Rattle.said_texts.proofs.Inks.{is_ink, ink_ascii, ink_word}
use Rattle.said_texts.proofs.Lines.{SaysLine, IsSaidText, Divides, no_blank, no_text, said_append, said_line, line_says}
use Rattle.said_texts.proofs.ByKind.{kind_said}

-- lines are atoms of the netlist

from_merge : {X : Type 0} (xs ys zs : List X) (x : X) → IsMerge xs ys zs → Has zs x → Has xs x ⊎ Has ys x
from_merge xs ys [] x m has = absurd has
from_merge xs ys (z ∷ zs) x (inl m) (inl is) = inl (subst (λ l. Has l x) (sym m.1) (inl is))
from_merge xs ys (z ∷ zs) x (inl m) (inr later) = elim (from_merge m.0 ys zs x m.2 later) [ inl left ↦ inl (subst (λ l. Has l x) (sym m.1) (inr left)) | inr right ↦ inr right ]
from_merge xs ys (z ∷ zs) x (inr m) (inl is) = inr (subst (λ l. Has l x) (sym m.1) (inl is))
from_merge xs ys (z ∷ zs) x (inr m) (inr later) = elim (from_merge xs m.0 zs x m.2 later) [ inl left ↦ inl left | inr right ↦ inr (subst (λ l. Has l x) (sym m.1) (inr right)) ]

group_has : (n : NetlistParts) (group : ℕ) (a : Atom) → Has (of_group group n.atoms) a → Has n.atoms a
group_has n group a has = (from_filter (λ (b : Atom). group_of b.kind == group) n.atoms a has).0

line_has : (n : NetlistParts) (lines : List Atom) (a : Atom) → IsLineOrder n lines → Has lines a → Has n.atoms a
line_has n lines a order has = elim (from_merge order.pads (of_group 2 n.atoms) lines a order.are_lines has) [
  | inl pad ↦ elim (from_merge (of_group 0 n.atoms) (of_group 1 n.atoms) order.pads a order.are_pads pad) [
    | inl input ↦ group_has n 0 a input
    | inr output ↦ group_has n 1 a output
  ]
  | inr elem ↦ group_has n 2 a elem
]

-- the first line and the last one

model_word : IsWord (codes ".model")
model_word = ink_word (codes ".model") (λ e. cc e) (ink_ascii (codes ".model") (AllPass-from_list_all is_ink (codes ".model") refl))

top_word : IsWord (codes "top")
top_word = ink_word (codes "top") (λ e. cc e) (ink_ascii (codes "top") (AllPass-from_list_all is_ink (codes "top") refl))

end_word : IsWord (codes ".end")
end_word = ink_word (codes ".end") (λ e. cc e) (ink_ascii (codes ".end") (AllPass-from_list_all is_ink (codes ".end") refl))

module _ (divides : Divides) (keys : HaveKeywords) where
  head_said : IsSaidText head_text (says_model (codes "top") ∷ [])
  head_said =
      said_line (codes ".model top") (says_model (codes "top"))
      (line_says divides (codes ".model") (codes "top" ∷ []) [] (codes ".model to") 112 (says_model (codes "top")) model_word (All-cons IsWord (codes "top") [] top_word (All-nil IsWord)) no_blank refl
      (λ e. omega (arith, e)) (keys.model (codes "top")))

  end_said : IsSaidText end_text (says_end ∷ [])
  end_said =
      said_line (codes ".end") says_end (line_says divides (codes ".end") [] [] (codes ".en") 100 says_end end_word (All-nil IsWord) no_blank refl (λ e. omega (arith, e)) keys.end)

  -- the lines between them

  pub record HasBody (models : List CellModel) (nets : List (List ℕ)) (atoms : List Atom) (text : List ℕ) : Type 0 where
    pub said : List Said
    pub of : AreSaidOf models nets atoms said
    pub are : IsSaidText text said

  module _ (models : List CellModel) (n : NetlistParts) (of_models : AreModels models) (law : IsNetlist n) (fits : FitsModels models n) where
    body_said : (atoms : List Atom) (text : List ℕ) → ((a : Atom) → Has atoms a → Has n.atoms a) → AreAtomTexts models n.nets atoms text → HasBody models n.nets atoms text
    body_said [] text there are = record { said = []; of = refl; are = subst (λ t. IsSaidText t []) (sym are) no_text }
    body_said (a ∷ atoms) text there are =
        let has = there a (inl refl) in
        let within = each_has (λ (b : Atom). All (λ (c : Conn). c.net < length n.nets) b.ins × All (λ (c : Conn). c.net < length n.nets) b.outs) n.atoms law.within a has in
        let here = kind_said divides keys models n.nets law.nets.each of_models a.kind a are.0 (each_has IsAtom n.atoms law.atoms.each a has) (λ number is. fits number a has is)
        (record { ins = within.0; outs = within.1 }) are.2 in
        let rest = body_said atoms are.1 (λ b later. there b (inr later)) are.4 in
        record {
          said = here.said ++ rest.said;
          of = (here.said, rest.said, here.is, refl, rest.of);
          are = subst (λ t. IsSaidText t (here.said ++ rest.said)) (sym are.3) (said_append are.0 are.1 here.said rest.said here.are rest.are);
        }

-- lines of the text are read as they were written

written : (texts : List (List ℕ)) (said : List Said) → AllZip SaysLine texts said → All IsWrittenLine texts
written [] said each = All-nil IsWrittenLine
written (t ∷ texts) [] each = absurd each
written (t ∷ texts) (s ∷ said) each = All-cons IsWrittenLine t texts each.0.line (written texts said each.1)

tell : (texts : List (List ℕ)) (ls : List LineSaid) (said : List Said) → AllZip IsReadBack texts ls → AllZip SaysLine texts said → AllZip Tells ls said
tell [] [] [] back says = tt
tell [] [] (s ∷ said) back says = absurd says
tell [] (l ∷ ls) said back says = absurd back
tell (t ∷ texts) [] said back says = absurd back
tell (t ∷ texts) (l ∷ ls) [] back says = absurd says
tell (t ∷ texts) (l ∷ ls) (s ∷ said) back says = (
  record { words = says.0.words; has = record { utf8 = back.0.utf8; are = subst (λ x. AreWords x says.0.words) (sym back.0.text_is) says.0.are }; says = says.0.says },
  tell texts ls said back.1 says.1,
)

pub statements : ((texts : List (List ℕ)) → All IsWrittenLine texts → HasWrittenLines texts) → Divides → HaveKeywords → SayStatements
statements reads divides keys models n text of_models law fits spells =
    let body = body_said divides keys models n of_models law fits spells.lines spells.body (λ a has. line_has n spells.lines a spells.ordered has) spells.are in
    let behind = said_append spells.body end_text body.said (says_end ∷ []) body.are (end_said divides keys) in
    let whole = said_append head_text (spells.body ++ end_text) (says_model (codes "top") ∷ []) (body.said ++ says_end ∷ []) (head_said divides keys) behind in
    let lines = reads whole.texts (written whole.texts (framed body.said) whole.each) in
    record {
      lines = spells.lines;
      ordered = spells.ordered;
      said = body.said;
      are = body.of;
      ls = lines.ls;
      read = subst (λ t. AreLines t lines.ls) (sym (spells.is ∙ whole.spelled)) lines.are;
      each = tell whole.texts lines.ls (framed body.said) lines.each whole.each;
    }
