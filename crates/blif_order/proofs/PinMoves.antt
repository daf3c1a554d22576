-- A pin whose net may be mentioned next may come first in some order of the pins.
use denote.Bor.{Bor}
use Rattle.std.proofs.Common.{◌≡◌, ◌<◌, ◌≤◌, ◌+◌, ◌⊎◌, ℕ, suc, max, List, [], ◌∷◌, ◌++◌, map, refl, sym, ap, ◌∙◌, subst, inl, inr, arith, append_assoc, append-nil}
use Rattle.std.proofs.lemmas.Bool.{cases_lt}
use Rattle.std.proofs.lemmas.List.{map-append}
use Rattle.net_types.specs.declared.atom.Atom.{Atom}
use Rattle.net_types.specs.declared.atom.Conn.{Conn}
use Rattle.net_types.specs.Merges.{IsMerge, Mention}
use Rattle.net_types.specs.Order.{nets_of}
use Rattle.blif_order.specs.Orders.{IsPinOrder}
use Rattle.blif_order.specs.Pins.{IsLow, TakesPin}
use Rattle.blif_order.proofs.Tops.{mention_append, mention_one, mention_first, merge_swap}

-- the nets that are left may be mentioned in some order
pub record CanMention (known next : ℕ) (xs ys : List ℕ) : Type 0 where
  pub nets : List ℕ
  pub merged : IsMerge xs ys nets
  pub mention : Mention known nets next

known_less : (k x : ℕ) → x < k → max k (x + 1) ≡ k
known_less k x low = omega (arith, low)

pub pin_move : (k next x : ℕ) (xs ys zs : List ℕ) → x ≤ k → IsMerge (x ∷ xs) ys zs → Mention k zs next → CanMention (max k (x + 1)) next xs ys
pin_move k next x xs ys [] low (none, no_y) mention = absurd (grind arith)
pin_move k next x xs ys (z ∷ zs) low (inl (rest, is, merged)) mention = by mention
  where
    tails : xs ≡ rest
    tails = cc

    heads : x ≡ z
    heads = cc

    by : Mention k (z ∷ zs) next → CanMention (max k (x + 1)) next xs ys
    by (inl (less, more)) =
        let same : k ≡ max k (x + 1) = omega (arith, less, heads) in
        record { nets = zs; merged = subst (λ (t : List ℕ). IsMerge t ys zs) (sym tails) merged; mention = subst (λ (m : ℕ). Mention m zs next) same more }
    by (inr (here, more)) =
        let same : suc k ≡ max k (x + 1) = omega (arith, here, heads) in
        record { nets = zs; merged = subst (λ (t : List ℕ). IsMerge t ys zs) (sym tails) merged; mention = subst (λ (m : ℕ). Mention m zs next) same more }
pin_move k next x xs ys (z ∷ zs) low (inr (rest, is, merged)) mention = by mention (λ j up more. pin_move j next x xs rest zs up merged more)
  where
    by : Mention k (z ∷ zs) next → ((j : ℕ) → x ≤ j → Mention j zs next → CanMention (max j (x + 1)) next xs rest) → CanMention (max k (x + 1)) next xs ys
    by (inl (less, more)) go =
        let on = go k low more in
        record { nets = z ∷ on.nets; merged = inr (rest, is, on.merged); mention = inl (omega (arith, less), on.mention) }
    by (inr (here, more)) go =
        let on = go (suc k) (omega (arith, low)) more in
        record { nets = z ∷ on.nets; merged = inr (rest, is, on.merged); mention = last on.nets on.mention (cases_lt x k) }
      where
        last : (nets : List ℕ) → Mention (max (suc k) (x + 1)) nets next → (x < k) ⊎ (k ≤ x) → Mention (max k (x + 1)) (z ∷ nets) next
        last nets found (inl less) =
            let now : max k (x + 1) ≡ k = omega (arith, less) in
            let then : max (suc k) (x + 1) ≡ suc (max k (x + 1)) = omega (arith, less) in
            inr (omega (arith, here, now), subst (λ (m : ℕ). Mention m nets next) then found)
        last nets found (inr up) =
            let same : max (suc k) (x + 1) ≡ max k (x + 1) = omega (arith, low, up) in
            inl (omega (arith, here, up), subst (λ (m : ℕ). Mention m nets next) same found)

-- the next pin may be mentioned

low_head : (net : ℕ) (conns : List Conn) (head : ℕ) (tail : List ℕ) → IsLow net conns → nets_of conns ≡ head ∷ tail → net ≤ head
low_head net [] head tail low is = absurd (grind arith)
low_head net (c ∷ conns) head tail low is = let same : c.net ≡ head = cc in omega (arith, low, same)

pub pin_near : (k next : ℕ) (pin : Conn) (ins outs : List Conn) → IsLow pin.net outs → CanMention k next (pin.net ∷ nets_of ins) (nets_of outs) → pin.net ≤ k
pin_near k next pin ins outs low can = by can.nets can.merged can.mention
  where
    by : (nets : List ℕ) → IsMerge (pin.net ∷ nets_of ins) (nets_of outs) nets → Mention k nets next → pin.net ≤ k
    by [] (none, no_outs) mention = absurd (grind arith)
    by (n ∷ nets) (inl (rest, is, merged)) mention =
        let head : pin.net ≡ n = cc in
        omega (arith, head, mention_first k next n nets mention)
    by (n ∷ nets) (inr (rest, is, merged)) mention =
        omega (arith, low_head pin.net outs n rest low is, mention_first k next n nets mention)

pub swapped : (k next : ℕ) (xs ys : List ℕ) → CanMention k next xs ys → CanMention k next ys xs
swapped k next xs ys can = record { nets = can.nets; merged = merge_swap xs ys can.nets can.merged; mention = can.mention }

-- pins that are in order, and those that are left
pub record PinsGo (atom : Atom) (ins outs pins : List Conn) : Type 0 where
  pub merged : (more : List Conn) → IsMerge ins outs more → IsMerge atom.ins atom.outs (pins ++ more)
  pub mention : (known next : ℕ) → CanMention known next (nets_of atom.ins) (nets_of atom.outs) →
      (between : ℕ) × Mention known (nets_of pins) between × CanMention between next (nets_of ins) (nets_of outs)

pub pins_start : (atom : Atom) → PinsGo atom atom.ins atom.outs []
pins_start atom = record { merged = λ more are. are; mention = λ known next can. (known, refl, can) }

taken : (known next : ℕ) (pin : Conn) (pins : List Conn) (xs ys : List ℕ) (between : ℕ) → Mention known (nets_of pins) between → pin.net ≤ between →
    CanMention (max between (pin.net + 1)) next xs ys →
    (after : ℕ) × Mention known (nets_of (pins ++ pin ∷ [])) after × CanMention after next xs ys
taken known next pin pins xs ys between so_far low can = (
  max between (pin.net + 1),
  subst (λ (l : List ℕ). Mention known l (max between (pin.net + 1))) (sym (map-append (λ (c : Conn). c.net) pins (pin ∷ [])))
      (mention_append known between (max between (pin.net + 1)) (nets_of pins) (pin.net ∷ []) so_far (mention_one between pin.net low)),
  can,
)

pub pins_step : (atom : Atom) (ins outs pins : List Conn) (pin : Conn) (ins' outs' : List Conn) → PinsGo atom ins outs pins → TakesPin ins outs pin ins' outs' →
    PinsGo atom ins' outs' (pins ++ pin ∷ [])
pins_step atom ins outs pins pin ins' outs' go (inl (first, same, low)) = record {
  merged = λ more are.
      (let whole = go.merged (pin ∷ more) (inl (ins', first, subst (λ (l : List Conn). IsMerge ins' l more) same are)) in
      subst (λ (l : List Conn). IsMerge atom.ins atom.outs l) (sym (append_assoc pins (pin ∷ []) more)) whole);
  mention = λ known next can. by known next (go.mention known next can);
}
  where
    ins_are : nets_of ins ≡ pin.net ∷ nets_of ins'
    ins_are = ap (λ (l : List Conn). nets_of l) first

    outs_are : nets_of outs ≡ nets_of outs'
    outs_are = ap (λ (l : List Conn). nets_of l) (sym same)

    by : (known next : ℕ) → (between : ℕ) × Mention known (nets_of pins) between × CanMention between next (nets_of ins) (nets_of outs) →
        (after : ℕ) × Mention known (nets_of (pins ++ pin ∷ [])) after × CanMention after next (nets_of ins') (nets_of outs')
    by known next (between, so_far, can) =
        let here = subst (λ (l : List ℕ). CanMention between next l (nets_of outs)) ins_are can in
        let near = pin_near between next pin ins' outs low here in
        let on = pin_move between next pin.net (nets_of ins') (nets_of outs) here.nets near here.merged here.mention in
        taken known next pin pins (nets_of ins') (nets_of outs') between so_far near
        (subst (λ (l : List ℕ). CanMention (max between (pin.net + 1)) next (nets_of ins') l) outs_are on)
pins_step atom ins outs pins pin ins' outs' go (inr (first, same, low)) = record {
  merged = λ more are.
      (let whole = go.merged (pin ∷ more) (inr (outs', first, subst (λ (l : List Conn). IsMerge l outs' more) same are)) in
      subst (λ (l : List Conn). IsMerge atom.ins atom.outs l) (sym (append_assoc pins (pin ∷ []) more)) whole);
  mention = λ known next can. by known next (go.mention known next can);
}
  where
    outs_are : nets_of outs ≡ pin.net ∷ nets_of outs'
    outs_are = ap (λ (l : List Conn). nets_of l) first

    ins_are : nets_of ins ≡ nets_of ins'
    ins_are = ap (λ (l : List Conn). nets_of l) (sym same)

    by : (known next : ℕ) → (between : ℕ) × Mention known (nets_of pins) between × CanMention between next (nets_of ins) (nets_of outs) →
        (after : ℕ) × Mention known (nets_of (pins ++ pin ∷ [])) after × CanMention after next (nets_of ins') (nets_of outs')
    by known next (between, so_far, can) =
        let here = subst (λ (l : List ℕ). CanMention between next l (nets_of ins)) outs_are (swapped between next (nets_of ins) (nets_of outs) can) in
        let near = pin_near between next pin outs' ins low here in
        let on = pin_move between next pin.net (nets_of outs') (nets_of ins) here.nets near here.merged here.mention in
        let back = swapped (max between (pin.net + 1)) next (nets_of outs') (nets_of ins) on in
        taken known next pin pins (nets_of ins') (nets_of outs') between so_far near
        (subst (λ (l : List ℕ). CanMention (max between (pin.net + 1)) next l (nets_of outs')) ins_are back)

pub pins_end : (atom : Atom) (ins outs pins : List Conn) → PinsGo atom ins outs pins → ins ≡ [] → outs ≡ [] → IsPinOrder atom pins
pins_end atom ins outs pins go no_ins no_outs = record {
  merged = subst (λ (l : List Conn). IsMerge atom.ins atom.outs l) (append-nil pins) (go.merged [] (no_ins, no_outs));
  number = λ known next nets merged mention. by known next (go.mention known next (record { nets = nets; merged = merged; mention = mention }));
}
  where
    ended : (between next : ℕ) (nets : List ℕ) → IsMerge (nets_of ins) (nets_of outs) nets → Mention between nets next → between ≡ next
    ended between next [] none mention = sym mention
    ended between next (n ∷ nets) (inl (rest, is, merged)) mention = absurd (gone (sym is ∙ ap (λ (l : List Conn). nets_of l) no_ins))
      where
        gone : n ∷ rest ≡ [] → ⊥
        gone e = grind arith
    ended between next (n ∷ nets) (inr (rest, is, merged)) mention = absurd (gone (sym is ∙ ap (λ (l : List Conn). nets_of l) no_outs))
      where
        gone : n ∷ rest ≡ [] → ⊥
        gone e = grind arith

    by : (known next : ℕ) → (between : ℕ) × Mention known (nets_of pins) between × CanMention between next (nets_of ins) (nets_of outs) → Mention known (nets_of pins) next
    by known next (between, so_far, can) =
        subst (λ (m : ℕ). Mention known (nets_of pins) m) (ended between next can.nets can.merged can.mention) so_far

-- the same where pins are lent
pub pin_pushed : (atom : Atom) (ins outs : List Conn) (pins : List (Bor Conn)) (pin : Bor Conn) (new : List (Bor Conn)) → new ≡ pins ++ pin ∷ [] →
    PinsGo atom ins outs (map (λ p. p.now) pins ++ pin.now ∷ []) → PinsGo atom ins outs (map (λ p. p.now) new)
pin_pushed atom ins outs pins pin new is go =
    let same : map (λ (p : Bor Conn). p.now) new ≡ map (λ (p : Bor Conn). p.now) pins ++ pin.now ∷ [] =
    ap (λ (l : List (Bor Conn)). map (λ (p : Bor Conn). p.now) l) is ∙ map-append (λ (p : Bor Conn). p.now) pins (pin ∷ []) in
    subst (λ (l : List Conn). PinsGo atom ins outs l) (sym same) go
