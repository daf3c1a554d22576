-- An atom whose line may come next may come first in some order of the lines.
use Rattle.std.proofs.Common.{◌≡◌, ◌<◌, ◌≤◌, ◌+◌, ℕ, List, [], ◌∷◌, refl, sym, ap, ◌∙◌, subst, inl, inr, arith}
use Rattle.vtr_base.specs.Lists.{Has}
use Rattle.net_types.specs.declared.atom.Atom.{Atom}
use Rattle.net_types.specs.Atoms.{IsAtom}
use Rattle.net_types.specs.Merges.{IsMerge, Mention}
use Rattle.net_types.specs.Order.{LineMentions, LinesNumber}
use Rattle.blif_order.specs.Tops.{top, top_of}
use Rattle.blif_order.specs.Queues.{IsBlocked}
use Rattle.blif_order.proofs.Tops.{top_commutes, mention_top, mention_later, mention_first, mention_one, merge_swap}
use Rattle.blif_order.proofs.LineNets.{IsPad, line_top}

-- some order of the lines that are left numbers the nets
pub record CanGoOn (nets : ℕ) (inputs outputs elements : List Atom) (known : ℕ) : Type 0 where
  pub pads : List Atom
  pub lines : List Atom
  pub are_pads : IsMerge inputs outputs pads
  pub are_lines : IsMerge pads elements lines
  pub number : LinesNumber known lines nets

abbrev pub AreAll : (Atom → Type 0) → List Atom → Type 0
AreAll P atoms = (atom : Atom) → Has atoms atom → P atom

-- behind the pad the other line numbers on as it did before it
behind : (x l : Atom) (k between nets : ℕ) (mentioned : List ℕ) (rest : List Atom) → IsPad x → Mention k mentioned between → LineMentions l.kind l mentioned →
    LinesNumber (top_of between x) rest nets → LinesNumber (top_of k x) (l ∷ rest) nets
behind x l k between nets mentioned rest pad mention line number =
    let first : between ≡ top k mentioned = mention_top k between mentioned mention in
    let here : top_of k x ≡ top k (pad.net ∷ []) = pad.tops k in
    let there : top_of between x ≡ top between (pad.net ∷ []) = pad.tops between in
    let swapped : top (top_of k x) mentioned ≡ top_of between x =
    ap (λ (m : ℕ). top m mentioned) here ∙ (top_commutes k (pad.net ∷ []) mentioned ∙ (ap (λ (m : ℕ). top m (pad.net ∷ [])) (sym first) ∙ sym there)) in
    let more : k ≤ top_of k x = omega (arith, here) in
    let later = mention_later k between (top_of k x) mentioned mention more in
    (mentioned, top_of between x, line, subst (λ (m : ℕ). Mention (top_of k x) mentioned m) swapped later, number)

pub move : (nets : ℕ) (x : Atom) (xs ys zs pads lines : List Atom) (k : ℕ) → IsPad x → IsMerge (x ∷ xs) ys pads → IsMerge pads zs lines → LinesNumber k lines nets →
    CanGoOn nets xs ys zs (top_of k x)
move nets x xs ys zs pads [] k pad are_pads (none, no_z) number = absurd (gone pads none are_pads)
  where
    gone : (pads : List Atom) → pads ≡ [] → IsMerge (x ∷ xs) ys pads → ⊥
    gone [] is (no_x, no_y) = grind arith
    gone (p ∷ pads) is merged = grind arith
move nets x xs ys zs pads (l ∷ lines) k pad are_pads (inr (rest, is, merged)) (mentioned, between, line, mention, number) =
    let on = move nets x xs ys rest pads lines between pad are_pads merged number in
    record {
      pads = on.pads;
      lines = l ∷ on.lines;
      are_pads = on.are_pads;
      are_lines = inr (rest, is, on.are_lines);
      number = behind x l k between nets mentioned on.lines pad mention line on.number;
    }
move nets x xs ys zs pads (l ∷ lines) k pad are_pads (inl (rest, is, merged)) (mentioned, between, line, mention, number) =
    by (subst (λ (p : List Atom). IsMerge (x ∷ xs) ys p) is are_pads) (λ ys' are. move nets x xs ys' zs rest lines between pad are merged number)
  where
    by : IsMerge (x ∷ xs) ys (l ∷ rest) → ((ys' : List Atom) → IsMerge (x ∷ xs) ys' rest → CanGoOn nets xs ys' zs (top_of between x)) → CanGoOn nets xs ys zs (top_of k x)
    by (inl (tail, first, are)) go =
        let head : x ≡ l = cc in
        let tails : xs ≡ tail = cc in
        let its : LineMentions x.kind x mentioned = subst (λ (a : Atom). LineMentions a.kind a mentioned) (sym head) line in
        let known : between ≡ top_of k x = line_top x k between mentioned pad.fits its mention in
        record {
          pads = rest;
          lines = lines;
          are_pads = subst (λ (t : List Atom). IsMerge t ys rest) (sym tails) are;
          are_lines = merged;
          number = subst (λ (m : ℕ). LinesNumber m lines nets) known number;
        }
    by (inr (tail, first, are)) go =
        let on = go tail are in
        record {
          pads = l ∷ on.pads;
          lines = l ∷ on.lines;
          are_pads = inr (tail, first, on.are_pads);
          are_lines = inl (on.pads, refl, on.are_lines);
          number = behind x l k between nets mentioned on.lines pad mention line on.number;
        }

pub take_input : (nets : ℕ) (x : Atom) (xs ys zs : List Atom) (k : ℕ) → IsPad x → CanGoOn nets (x ∷ xs) ys zs k → CanGoOn nets xs ys zs (top_of k x)
take_input nets x xs ys zs k pad can = move nets x xs ys zs can.pads can.lines k pad can.are_pads can.are_lines can.number

pub take_output : (nets : ℕ) (y : Atom) (xs ys zs : List Atom) (k : ℕ) → IsPad y → CanGoOn nets xs (y ∷ ys) zs k → CanGoOn nets xs ys zs (top_of k y)
take_output nets y xs ys zs k pad can =
    let on = move nets y ys xs zs can.pads can.lines k pad (merge_swap xs (y ∷ ys) can.pads can.are_pads) can.are_lines can.number in
    record { pads = on.pads; lines = on.lines; are_pads = merge_swap ys xs on.pads on.are_pads; are_lines = on.are_lines; number = on.number }

-- the nets that a line mentions, where it may come next
pub record Numbers (atom : Atom) (k : ℕ) : Type 0 where
  pub nets : List ℕ
  pub line : LineMentions atom.kind atom nets
  pub mention : Mention k nets (top_of k atom)

pub pad_numbers : (atom : Atom) (k : ℕ) → IsPad atom → top_of k atom ≤ k + 1 → Numbers atom k
pad_numbers atom k pad near =
    let tops = pad.tops k in
    record {
      nets = pad.net ∷ [];
      line = pad.line;
      mention = subst (λ (m : ℕ). Mention k (pad.net ∷ []) m) (sym tops) (mention_one k pad.net (omega (arith, tops, near)));
    }

-- where neither the next input nor the next output may come, the next of the other atoms does

pad_near : (atom : Atom) (k between : ℕ) (nets : List ℕ) → IsPad atom → LineMentions atom.kind atom nets → Mention k nets between → top_of k atom ≤ k + 1
pad_near atom k between nets pad line mention =
    let one = subst (λ (l : List ℕ). Mention k l between) (pad.only nets line) mention in
    omega (arith, mention_first k between pad.net [] one, pad.tops k)

blocked : (atom : Atom) (atoms rest : List Atom) (k between : ℕ) (nets : List ℕ) → AreAll IsPad atoms → atoms ≡ atom ∷ rest → IsBlocked atoms k →
    LineMentions atom.kind atom nets → Mention k nets between → ⊥
blocked atom [] rest k between nets pads is none line mention = grind arith
blocked atom (a ∷ atoms) rest k between nets pads is none line mention =
    let head : a ≡ atom = cc in
    let pad = subst (λ (b : Atom). IsPad b) head (pads a (inl refl)) in
    let past = subst (λ (b : Atom). k + 1 < top_of k b) head none in
    omega (arith, past, pad_near atom k between nets pad line mention)

pub record TakenElement (nets : ℕ) (xs ys : List Atom) (z : Atom) (zs : List Atom) (k : ℕ) : Type 0 where
  pub numbers : Numbers z k
  pub can : CanGoOn nets xs ys zs (top_of k z)

pub take_element : (nets : ℕ) (xs ys : List Atom) (z : Atom) (zs pads lines : List Atom) (k : ℕ) → AreAll IsPad xs → AreAll IsPad ys → IsAtom z → IsBlocked xs k → IsBlocked ys k →
    IsMerge xs ys pads → IsMerge pads (z ∷ zs) lines → LinesNumber k lines nets → TakenElement nets xs ys z zs k
take_element nets xs ys z zs pads [] k pads_x pads_y fits no_x no_y are_pads (none, no_z) number = absurd (grind arith)
take_element nets xs ys z zs pads (l ∷ lines) k pads_x pads_y fits no_x no_y are_pads (inl (rest, is, merged)) (mentioned, between, line, mention, number) =
    absurd (by (subst (λ (p : List Atom). IsMerge xs ys p) is are_pads))
  where
    by : IsMerge xs ys (l ∷ rest) → ⊥
    by (inl (tail, first, are)) = blocked l xs tail k between mentioned pads_x first no_x line mention
    by (inr (tail, first, are)) = blocked l ys tail k between mentioned pads_y first no_y line mention
take_element nets xs ys z zs pads (l ∷ lines) k pads_x pads_y fits no_x no_y are_pads (inr (rest, is, merged)) (mentioned, between, line, mention, number) =
    let head : z ≡ l = cc in
    let tail : zs ≡ rest = cc in
    let its : LineMentions z.kind z mentioned = subst (λ (a : Atom). LineMentions a.kind a mentioned) (sym head) line in
    let known : between ≡ top_of k z = line_top z k between mentioned fits its mention in
    record {
      numbers = record { nets = mentioned; line = its; mention = subst (λ (m : ℕ). Mention k mentioned m) known mention };
      can = record {
        pads = pads;
        lines = lines;
        are_pads = are_pads;
        are_lines = subst (λ (t : List Atom). IsMerge pads t lines) (sym tail) merged;
        number = subst (λ (m : ℕ). LinesNumber m lines nets) known number;
      };
    }

-- where no line is left, all nets were mentioned

pub all_taken : (nets : ℕ) (xs ys zs pads lines : List Atom) (k : ℕ) → AreAll IsPad xs → AreAll IsPad ys → IsBlocked xs k → IsBlocked ys k → zs ≡ [] →
    IsMerge xs ys pads → IsMerge pads zs lines → LinesNumber k lines nets → (xs ≡ []) × (ys ≡ []) × (nets ≡ k)
all_taken nets xs ys zs pads [] k pads_x pads_y no_x no_y no_z are_pads (none, same) number =
    let ends = by pads none are_pads in (ends.0, ends.1, number)
  where
    by : (pads : List Atom) → pads ≡ [] → IsMerge xs ys pads → (xs ≡ []) × (ys ≡ [])
    by [] is ends = ends
    by (p ∷ pads) is merged = absurd (grind arith)
all_taken nets xs ys zs pads (l ∷ lines) k pads_x pads_y no_x no_y no_z are_pads (inl (rest, is, merged)) (mentioned, between, line, mention, number) =
    absurd (by (subst (λ (p : List Atom). IsMerge xs ys p) is are_pads))
  where
    by : IsMerge xs ys (l ∷ rest) → ⊥
    by (inl (tail, first, are)) = blocked l xs tail k between mentioned pads_x first no_x line mention
    by (inr (tail, first, are)) = blocked l ys tail k between mentioned pads_y first no_y line mention
all_taken nets xs ys zs pads (l ∷ lines) k pads_x pads_y no_x no_y no_z are_pads (inr (rest, is, merged)) number = absurd (gone (sym is ∙ no_z))
  where
    gone : l ∷ rest ≡ [] → ⊥
    gone e = grind arith
