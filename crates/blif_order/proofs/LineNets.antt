-- The nets that the line of an atom mentions.
use Rattle.std.proofs.Common.{◌≡◌, ◌+◌, ℕ, max, List, [], ◌∷◌, ◌++◌, refl, sym, ap, ◌∙◌, subst, inl}
use Rattle.arch_types.specs.declared.block.AtomKind.{AtomKind}
use Rattle.arch_types.specs.declared.block.AtomKind.TheVariants.{InPad, OutPad, Lut, Latch, Cell}
use Rattle.net_types.specs.declared.atom.Atom.{Atom}
use Rattle.net_types.specs.declared.atom.Conn.{Conn}
use Rattle.net_types.specs.Atoms.{IsAtom, FitsKind, IsInPad, IsOutPad}
use Rattle.net_types.specs.Merges.{IsMerge, Mention}
use Rattle.net_types.specs.Order.{nets_of, LineMentions}
use Rattle.blif_order.specs.Tops.{top, top_of}
use Rattle.blif_order.proofs.Tops.{top_merge, mention_top, merge_swap, merge_right, merge_append}

-- whatever the kind is, they are those of the inputs and of the outputs, merged
by_kind : (k : AtomKind) (atom : Atom) (nets : List ℕ) → FitsKind k atom → LineMentions k atom nets → IsMerge (nets_of atom.ins) (nets_of atom.outs) nets
by_kind InPad atom nets fits is = rw (is, fits.ins) (merge_right (nets_of atom.outs))
by_kind OutPad atom nets fits is = rw (is, fits.outs) (merge_swap [] (nets_of atom.ins) (nets_of atom.ins) (merge_right (nets_of atom.ins)))
by_kind Lut atom nets fits is = rw is (merge_append (nets_of atom.ins) (nets_of atom.outs))
by_kind Latch atom nets fits is =
    let outs = nets_of atom.outs in
    let control = fits.ins.control.net in
    let loaded = fits.ins.data_pin.net in
    let behind = merge_swap outs (control ∷ []) (outs ++ control ∷ []) (merge_append outs (control ∷ [])) in
    rw (is, fits.ins.only) (inl (control ∷ [], refl, behind))
by_kind (Cell model) atom nets fits is = is

pub line_top : (atom : Atom) (k next : ℕ) (nets : List ℕ) → IsAtom atom → LineMentions atom.kind atom nets → Mention k nets next → next ≡ top_of k atom
line_top atom k next nets fits line mention =
    mention_top k next nets mention ∙ top_merge k (nets_of atom.ins) (nets_of atom.outs) nets (by_kind atom.kind atom nets fits line)

-- an input or an output, whose line mentions one net
pub record IsPad (atom : Atom) : Type 0 where
  pub fits : IsAtom atom
  pub net : ℕ
  pub line : LineMentions atom.kind atom (net ∷ [])
  pub only : (nets : List ℕ) → LineMentions atom.kind atom nets → nets ≡ net ∷ []
  pub tops : (k : ℕ) → top_of k atom ≡ max k (net + 1)

pub in_pad : (atom : Atom) → atom.kind ≡ InPad → IsAtom atom → IsPad atom
in_pad atom kind fits =
    let pad : IsInPad atom = subst (λ (j : AtomKind). FitsKind j atom) kind fits in
    let outs : nets_of atom.outs ≡ pad.outs.conn.net ∷ [] = ap (λ (l : List Conn). nets_of l) pad.outs.only in
    record {
      fits = fits;
      net = pad.outs.conn.net;
      line = subst (λ (j : AtomKind). LineMentions j atom (pad.outs.conn.net ∷ [])) (sym kind) (sym outs);
      only = λ nets line. (let here : nets ≡ nets_of atom.outs = subst (λ (j : AtomKind). LineMentions j atom nets) kind line in here ∙ outs);
      tops = λ k. ap (λ (l : List Conn). top (top k (nets_of l)) (nets_of atom.outs)) pad.ins ∙ ap (λ (l : List Conn). top k (nets_of l)) pad.outs.only;
    }

pub out_pad : (atom : Atom) → atom.kind ≡ OutPad → IsAtom atom → IsPad atom
out_pad atom kind fits =
    let pad : IsOutPad atom = subst (λ (j : AtomKind). FitsKind j atom) kind fits in
    let ins : nets_of atom.ins ≡ pad.ins.conn.net ∷ [] = ap (λ (l : List Conn). nets_of l) pad.ins.only in
    record {
      fits = fits;
      net = pad.ins.conn.net;
      line = subst (λ (j : AtomKind). LineMentions j atom (pad.ins.conn.net ∷ [])) (sym kind) (sym ins);
      only = λ nets line. (let here : nets ≡ nets_of atom.ins = subst (λ (j : AtomKind). LineMentions j atom nets) kind line in here ∙ ins);
      tops = λ k. ap (λ (l : List Conn). top (top k (nets_of atom.ins)) (nets_of l)) pad.outs ∙ ap (λ (l : List Conn). top k (nets_of l)) pad.ins.only;
    }
