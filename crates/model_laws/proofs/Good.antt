-- What holds of each atom of a model.
use Rattle.std.proofs.Common.{◌≡◌, ◌<◌, ◌≤◌, ◌^◌, inl, inr, ℕ, Bool, true, false, List, [], ◌∷◌, ◌++◌, Some, map, length, refl, sym, ap, ◌∙◌, subst, arith}
use Rattle.std.specs.Prelude.{slice_get, codes}
use Rattle.std.specs.List.{All}
use Rattle.std.proofs.lemmas.Bool.{false≢true}
use Rattle.std.proofs.lemmas.List.Elements.{All-nil, All-cons}
use Rattle.vtr_base.specs.Lists.{Has}
use Rattle.list_laws.proofs.Members.{has_either, has_left, has_last, has_map, each_has}
use Rattle.arch_types.specs.declared.arch.CellModel.{CellModel}
use Rattle.arch_types.specs.declared.block.AtomKind.TheVariants.{Cell}
use Rattle.net_types.specs.declared.atom.Atom.{Atom}
use Rattle.net_types.specs.declared.atom.Conn.{Conn}
use Rattle.net_types.specs.Atoms.{IsPin, IsAtom}
use Rattle.net_types.specs.Fits.{IsConnectable, IsInput, IsOutput, IsOfModel}
use Rattle.net_types.specs.Order.{nets_of, LineMentions}
use Rattle.blif_items.specs.declared.elem.Elem.{Elem}
use Rattle.blif_items.specs.declared.elem.Elem.TheVariants as elem
use Rattle.blif_items.specs.declared.elem.PinAt.{PinAt}
use Rattle.blif_parts.specs.Atoms.{conn_at, bits_from, input_atom, output_atom, pin_conn, conns_on, elem_atom}
use Rattle.model_steps.specs.Items.{nets_in, outs_in, name_in}
use Rattle.model_steps.specs.Fits.{IsPinOf, IsBoxOf, FitsElem}
use Rattle.model_laws.proofs.Merges.{all_of, left_has, right_has}
use Rattle.model_laws.proofs.Elements.{bare, IsWide, bits_nets, bits_long, bits_at, from_pin, conns_once, box_mentions, outs_nets}

-- all its nets are below the number
pub record IsWithin (limit : ℕ) (a : Atom) : Type 0 where
  pub ins : All (λ (c : Conn). c.net < limit) a.ins
  pub outs : All (λ (c : Conn). c.net < limit) a.outs

pub record IsGood (models : List CellModel) (nets : List (List ℕ)) (limit : ℕ) (a : Atom) : Type 0 where
  pub atom : IsAtom a
  pub within : IsWithin limit a
  pub of_model : (number : ℕ) → a.kind ≡ Cell number → IsOfModel models nets number a

one_pin : (port : List ℕ) (net : ℕ) → IsPin port (conn_at port 0 net ∷ [])
one_pin port net = record { conn = conn_at port 0 net; only = refl; at = record { port_is = refl; bit_is = refl } }

-- nets of connections

conns_within : (limit : ℕ) (conns : List Conn) → ((n : ℕ) → Has (nets_of conns) n → n < limit) → All (λ (c : Conn). c.net < limit) conns
conns_within limit conns below = all_of (λ (c : Conn). c.net < limit) conns (λ c has. below c.net (has_map (λ (c : Conn). c.net) conns c has))

one_within : (limit : ℕ) (port : List ℕ) (net : ℕ) → net < limit → All (λ (c : Conn). c.net < limit) (conn_at port 0 net ∷ [])
one_within limit port net low = All-cons (λ (c : Conn). c.net < limit) (conn_at port 0 net) [] low (All-nil (λ (c : Conn). c.net < limit))

module _ (models : List CellModel) (nets : List (List ℕ)) (limit : ℕ) where
  pub good_input : (net : ℕ) → net < limit → IsGood models nets limit (input_atom nets net)
  good_input net low = record {
    atom = record { ins = refl; outs = one_pin (codes "out") net; plain = record { table = refl; params = refl } };
    within = record { ins = All-nil (λ (c : Conn). c.net < limit); outs = one_within limit (codes "out") net low };
    of_model = λ number is. absurd (let bad : ⊥ = cc is in bad);
  }

  pub good_output : (net : ℕ) → net < limit → IsGood models nets limit (output_atom nets net)
  good_output net low = record {
    atom = record { ins = one_pin (codes "in") net; outs = refl; plain = record { table = refl; params = refl } };
    within = record { ins = one_within limit (codes "in") net low; outs = All-nil (λ (c : Conn). c.net < limit) };
    of_model = λ number is. absurd (let bad : ⊥ = cc is in bad);
  }

  good_lut : (name inputs : List ℕ) (output : ℕ) (table : List Bool) → length table ≡ 2 ^ length inputs → length inputs ≤ 8 → ((n : ℕ) → Has (inputs ++ output ∷ []) n → n < limit) →
      IsGood models nets limit (elem_atom (elem.Lut name inputs output table))
  good_lut name inputs output table wide few below =
      let long = bits_long (codes "in") 0 inputs in
      record {
        atom = record {
          ins = λ bit conn at. (let r = bits_at (codes "in") 0 inputs bit conn at in record { port_is = r.port_is; bit_is = omega (arith, r.bit_is) });
          few = omega (arith, few, long);
          outs = one_pin (codes "out") output;
          table = wide ∙ ap (λ n. 2 ^ n) (sym long);
          params = refl;
        };
        within = record {
          ins = conns_within limit (bits_from (codes "in") 0 inputs)
              (λ n has. below n (has_left inputs (output ∷ []) n (subst (λ l. Has l n) (bits_nets (codes "in") 0 inputs) has)));
          outs = one_within limit (codes "out") output (below output (has_last inputs output));
        };
        of_model = λ number is. absurd (let bad : ⊥ = cc is in bad);
      }

  good_latch : (name : List ℕ) (loaded made control : ℕ) → ((n : ℕ) → Has (loaded ∷ made ∷ control ∷ []) n → n < limit) →
      IsGood models nets limit (elem_atom (elem.Latch name loaded made control))
  good_latch name loaded made control below = record {
    atom = record {
      ins = record {
        data_pin = conn_at (codes "in") 0 loaded;
        control = conn_at (codes "clk") 0 control;
        only = refl;
        data_at = record { port_is = refl; bit_is = refl };
        control_at = record { port_is = refl; bit_is = refl };
      };
      outs = one_pin (codes "out") made;
      plain = record { table = refl; params = refl };
    };
    within = record {
      ins = All-cons (λ (c : Conn). c.net < limit) (conn_at (codes "in") 0 loaded) (conn_at (codes "clk") 0 control ∷ []) (below loaded (inl refl))
          (one_within limit (codes "clk") control (below control (inr (inr (inl refl)))));
      outs = one_within limit (codes "out") made (below made (inr (inl refl)));
    };
    of_model = λ number is. absurd (let bad : ⊥ = cc is in bad);
  }

  -- boxes

  box_bits : (model : CellModel) (pins : List PinAt) → All (IsPinOf model nets) pins → All (λ (c : Conn). c.bit < 2 ^ 32) (conns_on false pins ++ conns_on true pins)
  box_bits model pins each = all_of (λ (c : Conn). c.bit < 2 ^ 32) (conns_on false pins ++ conns_on true pins) (λ c has.
      elim (has_either (conns_on false pins) (conns_on true pins) c has) [
        | inl left ↦ (let r = from_pin false pins c left in low c r.pin r.is (each_has (IsPinOf model nets) pins each r.pin r.has))
        | inr right ↦ (let r = from_pin true pins c right in low c r.pin r.is (each_has (IsPinOf model nets) pins each r.pin r.has))
      ])
    where
      low : (c : Conn) (pin : PinAt) → c ≡ pin_conn pin → IsPinOf model nets pin → c.bit < 2 ^ 32
      low c pin is of = omega (arith, ap (λ (x : Conn). x.bit) is, of.bit)

  connectable : (model : CellModel) (c : Conn) (pin : PinAt) → c ≡ pin_conn pin → IsPinOf model nets pin → IsConnectable nets c
  connectable model c pin is of none =
      let same : c.net ≡ pin.net = ap (λ (x : Conn). x.net) is in
      let named = of.named in
      let both : slice_get nets c.net ≡ Some of.name = ap (slice_get nets) same ∙ named in
      of.free (cc (none, both))

  box_ins : (model : CellModel) (pins : List PinAt) → All (IsPinOf model nets) pins → All (IsInput nets model) (conns_on false pins)
  box_ins model pins each = all_of (IsInput nets model) (conns_on false pins) (λ c has.
      let r = from_pin false pins c has in is_input_of c r.pin r.side_is r.is (each_has (IsPinOf model nets) pins each r.pin r.has))
    where
      is_input_of : (c : Conn) (pin : PinAt) → pin.is_output ≡ false → c ≡ pin_conn pin → IsPinOf model nets pin → IsInput nets model c
      is_input_of c pin off is of =
          let same : pin.port ≡ c.port = sym (ap (λ (x : Conn). x.port) is) in
          let never : Has model.outs pin.port → ⊥ = λ has. false≢true (sym off ∙ of.side.1 has) in
          record {
            port = elim of.port [ inl out ↦ absurd (never out) | inr there ↦ subst (Has model.ins) same there ];
            not_output = λ has. never (subst (Has model.outs) (sym same) has);
            net = connectable model c pin is of;
          }

  box_outs : (model : CellModel) (pins : List PinAt) → All (IsPinOf model nets) pins → All (IsOutput nets model) (conns_on true pins)
  box_outs model pins each = all_of (IsOutput nets model) (conns_on true pins) (λ c has.
      let r = from_pin true pins c has in is_output_of c r.pin r.side_is r.is (each_has (IsPinOf model nets) pins each r.pin r.has))
    where
      is_output_of : (c : Conn) (pin : PinAt) → pin.is_output ≡ true → c ≡ pin_conn pin → IsPinOf model nets pin → IsOutput nets model c
      is_output_of c pin on is of = record {
        port = subst (Has model.outs) (sym (ap (λ (x : Conn). x.port) is)) (of.side.0 on);
        net = connectable model c pin is of;
      }

  good_box : (name : List ℕ) (number : ℕ) (pins : List PinAt) (params : List (List ℕ × List ℕ)) (boxes : ℕ) → IsBoxOf models nets boxes name number pins params →
      ((n : ℕ) → Has (map (λ (p : PinAt). p.net) pins) n → n < limit) → IsGood models nets limit (elem_atom (elem.Box name number pins params))
  good_box name number pins params boxes is below =
      let merge = box_mentions pins in
      let all = map (λ (p : PinAt). p.net) pins in
      record {
        atom = record { once = conns_once pins is.once; bits = box_bits is.model pins is.each_pin; table = refl; params = is.each_param; names = is.names };
        within = record {
          ins = conns_within limit (conns_on false pins) (λ n has. below n (left_has (nets_of (conns_on false pins)) (nets_of (conns_on true pins)) all n merge has));
          outs = conns_within limit (conns_on true pins) (λ n has. below n (right_has (nets_of (conns_on false pins)) (nets_of (conns_on true pins)) all n merge has));
        };
        of_model = λ k same. (let number_is : number ≡ k = cc same in record {
          model = is.model;
          there = ap (slice_get models) (sym number_is) ∙ is.there;
          word = is.word;
          ins = box_ins is.model pins is.each_pin;
          outs = box_outs is.model pins is.each_pin;
        });
      }

  pub good_elem : (x : Elem) (boxes : ℕ) → FitsElem models nets boxes (bare x) → IsWide x → ((n : ℕ) → Has (nets_in (bare x)) n → n < limit) → IsGood models nets limit (elem_atom x)
  good_elem (elem.Lut name inputs output table) boxes fits wide below = good_lut name inputs output table wide fits.0 below
  good_elem (elem.Latch name loaded made control) boxes fits wide below = good_latch name loaded made control below
  good_elem (elem.Box name number pins params) boxes fits wide below = good_box name number pins params boxes fits below

-- what the line of an element mentions, and drives
pub elem_mentions : (x : Elem) → LineMentions (elem_atom x).kind (elem_atom x) (nets_in (bare x))
elem_mentions (elem.Lut name inputs output table) = ap (λ l. l ++ output ∷ []) (sym (bits_nets (codes "in") 0 inputs))
elem_mentions (elem.Latch name loaded made control) = refl
elem_mentions (elem.Box name number pins params) = box_mentions pins

pub elem_drives : (x : Elem) → outs_in (bare x) ≡ nets_of (elem_atom x).outs
elem_drives (elem.Lut name inputs output table) = refl
elem_drives (elem.Latch name loaded made control) = refl
elem_drives (elem.Box name number pins params) = sym (outs_nets pins)

pub elem_called : (x : Elem) → name_in (bare x) ≡ (elem_atom x).name
elem_called (elem.Lut name inputs output table) = refl
elem_called (elem.Latch name loaded made control) = refl
elem_called (elem.Box name number pins params) = refl
