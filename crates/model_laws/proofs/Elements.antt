-- The atoms of elements, by what is said of them.
use Rattle.std.proofs.Common.{◌≡◌, ◌≤◌, ◌+◌, ◌^◌, inl, inr, ℕ, zero, suc, Bool, true, false, List, [], ◌∷◌, ◌++◌, Some, map, filter, length, refl, sym, ap, ◌∙◌, subst, arith}
use Rattle.std.specs.Prelude.{slice_get, if◌then◌else◌}
use Rattle.std.proofs.lemmas.List.Concat.{flat_map_single}
use Rattle.vtr_base.specs.Lists.{Has}
use Rattle.list_laws.specs.Orders.{Once}
use Rattle.arch_types.specs.declared.arch.CellModel.{CellModel}
use Rattle.net_types.specs.declared.atom.Conn.{Conn}
use Rattle.net_types.specs.Atoms.{IsAt, formal_of}
use Rattle.net_types.specs.Merges.{IsMerge}
use Rattle.net_types.specs.Order.{nets_of}
use Rattle.blif_covers.specs.Covers.{RowSaid, IsTableOf}
use Rattle.blif_pins.specs.Pins.{Formal}
use Rattle.blif_items.specs.declared.elem.Elem.{Elem}
use Rattle.blif_items.specs.declared.elem.Elem.TheVariants as elem
use Rattle.blif_items.specs.declared.elem.PinAt.{PinAt}
use Rattle.blif_items.specs.Items.{ElemSaid, is_lut, is_latch, is_cell, outs_of}
use Rattle.blif_items.specs.Seen.{IsElem}
use Rattle.blif_parts.specs.Models.{is_cell_elem}
use Rattle.blif_parts.specs.Atoms.{conn_at, bits_from, pin_conn, conns_on}
use Rattle.model_steps.specs.Items.{nets_in, outs_in, name_in}
use Rattle.model_steps.specs.Fits.{formal_at, IsBoxOf, FitsElem}
use Rattle.model_laws.proofs.Merges.{merge_once}

-- an element that is whole, as if its cover had no rows
abbrev pub bare : Elem → ElemSaid
bare (elem.Lut name inputs output table) = is_lut name inputs output []
bare (elem.Latch name loaded made control) = is_latch name loaded made control
bare (elem.Box name model pins params) = is_cell name model pins params

-- its table is as wide as its inputs ask for
abbrev pub IsWide : Elem → Type 0
IsWide (elem.Lut name inputs output table) = length table ≡ 2 ^ length inputs
IsWide (elem.Latch name loaded made control) = Unit {0}
IsWide (elem.Box name model pins params) = Unit {0}

pub record IsBare (e : ElemSaid) (x : Elem) : Type 0 where
  pub nets : nets_in e ≡ nets_in (bare x)
  pub outs : outs_in e ≡ outs_in (bare x)
  pub name : name_in e ≡ name_in (bare x)
  pub kind : is_cell_elem e ≡ is_cell_elem (bare x)
  pub fits : (models : List CellModel) (nets : List (List ℕ)) (boxes : ℕ) → FitsElem models nets boxes e → FitsElem models nets boxes (bare x)
  pub wide : IsWide x

bare_lut : (name : List ℕ) (inputs : List ℕ) (output : ℕ) (rows : List RowSaid) (n : List ℕ) (is : List ℕ) (o : ℕ) (table : List Bool) → n ≡ name → is ≡ inputs → o ≡ output →
    IsTableOf (length inputs) rows table → IsBare (is_lut name inputs output rows) (elem.Lut n is o table)
bare_lut name inputs output rows n is o table a b c t = record {
  nets = ap (λ l. l ++ output ∷ []) (sym b) ∙ ap (λ k. is ++ k ∷ []) (sym c);
  outs = ap (λ k. k ∷ []) (sym c);
  name = sym a;
  kind = refl;
  fits = λ models nets boxes fit. (
    subst (λ l. length l ≤ 8) (sym b) fit.0,
    subst (λ k. slice_get nets k ≡ Some n) (sym c) (fit.1 ∙ ap (λ x. Some x) (sym a)),
  );
  wide = t.width ∙ ap (λ l. 2 ^ length l) (sym b);
}

bare_latch : (name : List ℕ) (loaded made control : ℕ) (n : List ℕ) (l m c : ℕ) → n ≡ name → l ≡ loaded → m ≡ made → c ≡ control →
    IsBare (is_latch name loaded made control) (elem.Latch n l m c)
bare_latch name loaded made control n l m c is a b d = record {
  nets = ap (λ k. k ∷ made ∷ control ∷ []) (sym a) ∙ (ap (λ k. l ∷ k ∷ control ∷ []) (sym b) ∙ ap (λ k. l ∷ m ∷ k ∷ []) (sym d));
  outs = ap (λ k. k ∷ []) (sym b);
  name = sym is;
  kind = refl;
  fits = λ models nets boxes fit. subst (λ k. slice_get nets k ≡ Some n) (sym b) (fit ∙ ap (λ x. Some x) (sym is));
  wide = tt;
}

bare_box : (name : List ℕ) (model : ℕ) (pins : List PinAt) (params : List (List ℕ × List ℕ)) (n : List ℕ) (m : ℕ) (ps : List PinAt) (qs : List (List ℕ × List ℕ)) → n ≡ name → m ≡ model →
    ps ≡ pins → qs ≡ params → IsBare (is_cell name model pins params) (elem.Box n m ps qs)
bare_box name model pins params n m ps qs a b c d = record {
  nets = ap (λ l. map (λ (p : PinAt). p.net) l) (sym c);
  outs = ap outs_of (sym c);
  name = sym a;
  kind = refl;
  fits = λ models nets boxes fit.
      subst (λ x. IsBoxOf models nets boxes x m ps qs) (sym a)
      (subst (λ x. IsBoxOf models nets boxes name x ps qs) (sym b)
      (subst (λ x. IsBoxOf models nets boxes name model x qs) (sym c)
      (subst (λ x. IsBoxOf models nets boxes name model pins x) (sym d) fit)));
  wide = tt;
}

pub is_bare : (e : ElemSaid) (x : Elem) → IsElem e x → IsBare e x
is_bare (is_lut name inputs output rows) (elem.Lut n is o table) has = bare_lut name inputs output rows n is o table has.0 has.1 has.2 has.3
is_bare (is_lut name inputs output rows) (elem.Latch n l m c) has = absurd has
is_bare (is_lut name inputs output rows) (elem.Box n m ps qs) has = absurd has
is_bare (is_latch name loaded made control) (elem.Lut n is o table) has = absurd has
is_bare (is_latch name loaded made control) (elem.Latch n l m c) has = bare_latch name loaded made control n l m c has.0 has.1 has.2 has.3
is_bare (is_latch name loaded made control) (elem.Box n m ps qs) has = absurd has
is_bare (is_cell name model pins params) (elem.Lut n is o table) has = absurd has
is_bare (is_cell name model pins params) (elem.Latch n l m c) has = absurd has
is_bare (is_cell name model pins params) (elem.Box n m ps qs) has = bare_box name model pins params n m ps qs has.0 has.1 has.2 has.3

-- connections bit by bit

pub bits_nets : (port : List ℕ) (bit : ℕ) (nets : List ℕ) → nets_of (bits_from port bit nets) ≡ nets
bits_nets port bit [] = refl
bits_nets port bit (net ∷ nets) = ap (λ l. net ∷ l) (bits_nets port (bit + 1) nets)

pub bits_long : (port : List ℕ) (bit : ℕ) (nets : List ℕ) → length (bits_from port bit nets) ≡ length nets
bits_long port bit [] = refl
bits_long port bit (net ∷ nets) = let rest = bits_long port (bit + 1) nets in omega (arith, rest)

pub bits_at : (port : List ℕ) (first : ℕ) (nets : List ℕ) (bit : ℕ) (conn : Conn) → slice_get (bits_from port first nets) bit ≡ Some conn → IsAt port (first + bit) conn
bits_at port first [] bit conn at = absurd (let bad : ⊥ = cc at in bad)
bits_at port first (net ∷ nets) zero conn at =
    let is : conn_at port first net ≡ conn = cc at in
    record { port_is = sym (ap (λ (c : Conn). c.port) is); bit_is = omega (arith, ap (λ (c : Conn). c.bit) is) }
bits_at port first (net ∷ nets) (suc bit) conn at =
    let rest = bits_at port (first + 1) nets bit conn at in
    record { port_is = rest.port_is; bit_is = omega (arith, rest.bit_is) }

-- the connections of a box

pub record FromPin (side : Bool) (pins : List PinAt) (c : Conn) : Type 0 where
  pub pin : PinAt
  pub has : Has pins pin
  pub side_is : pin.is_output ≡ side
  pub is : c ≡ pin_conn pin

pub from_pin : (side : Bool) (pins : List PinAt) (c : Conn) → Has (conns_on side pins) c → FromPin side pins c
from_pin side [] c has = absurd has
from_pin side (pin ∷ pins) c has = by side pin.is_output refl refl has (from_pin side pins c)
  where
    more : FromPin side pins c → FromPin side (pin ∷ pins) c
    more r = record { pin = r.pin; has = inr r.has; side_is = r.side_is; is = r.is }

    by : (s o : Bool) → s ≡ side → pin.is_output ≡ o → Has (if o then (if s then pin_conn pin ∷ conns_on side pins else conns_on side pins) else (if s then conns_on side pins else pin_conn pin ∷ conns_on side pins)) c →
        (Has (conns_on side pins) c → FromPin side pins c) → FromPin side (pin ∷ pins) c
    by true true same is (inl here) rest = record { pin = pin; has = inl refl; side_is = is ∙ same; is = here }
    by true true same is (inr later) rest = more (rest later)
    by true false same is later rest = more (rest later)
    by false true same is later rest = more (rest later)
    by false false same is (inl here) rest = record { pin = pin; has = inl refl; side_is = is ∙ same; is = here }
    by false false same is (inr later) rest = more (rest later)

pub conns_merge : (pins : List PinAt) → IsMerge (conns_on false pins) (conns_on true pins) (map pin_conn pins)
conns_merge [] = (refl, refl)
conns_merge (pin ∷ pins) = by pin.is_output (conns_merge pins)
  where
    by : (o : Bool) → IsMerge (conns_on false pins) (conns_on true pins) (map pin_conn pins) →
        IsMerge (if o then conns_on false pins else pin_conn pin ∷ conns_on false pins) (if o then pin_conn pin ∷ conns_on true pins else conns_on true pins) (pin_conn pin ∷ map pin_conn pins)
    by true rest = inr (conns_on true pins, refl, rest)
    by false rest = inl (conns_on false pins, refl, rest)

pub outs_nets : (pins : List PinAt) → nets_of (conns_on true pins) ≡ outs_of pins
outs_nets [] = refl
outs_nets (pin ∷ pins) = by pin.is_output (outs_nets pins)
  where
    by : (o : Bool) → nets_of (conns_on true pins) ≡ outs_of pins →
        nets_of (if o then pin_conn pin ∷ conns_on true pins else conns_on true pins) ≡ map (λ (p : PinAt). p.net) (if o then pin ∷ filter (λ (p : PinAt). p.is_output) pins else filter (λ (p : PinAt). p.is_output) pins)
    by true rest = ap (λ l. pin.net ∷ l) rest
    by false rest = rest

merge_map : {X Y : Type 0} (f : X → Y) (xs ys zs : List X) → IsMerge xs ys zs → IsMerge (map f xs) (map f ys) (map f zs)
merge_map f xs ys [] m = (ap (map f) m.0, ap (map f) m.1)
merge_map f xs ys (z ∷ zs) (inl m) = inl (map f m.0, ap (map f) m.1, merge_map f m.0 ys zs m.2)
merge_map f xs ys (z ∷ zs) (inr m) = inr (map f m.0, ap (map f) m.1, merge_map f xs m.0 zs m.2)

pins_nets : (pins : List PinAt) → nets_of (map pin_conn pins) ≡ map (λ (p : PinAt). p.net) pins
pins_nets [] = refl
pins_nets (pin ∷ pins) = ap (λ l. pin.net ∷ l) (pins_nets pins)

pub box_mentions : (pins : List PinAt) → IsMerge (nets_of (conns_on false pins)) (nets_of (conns_on true pins)) (map (λ (p : PinAt). p.net) pins)
box_mentions pins =
    subst (IsMerge (nets_of (conns_on false pins)) (nets_of (conns_on true pins))) (pins_nets pins)
    (merge_map (λ (c : Conn). c.net) (conns_on false pins) (conns_on true pins) (map pin_conn pins) (conns_merge pins))

-- formals, each once

formal_of_pair : List ℕ × ℕ → Formal
formal_of_pair f = record { port = f.0; bit = f.1 }

formals_back : (pins : List PinAt) (pin : PinAt) → Has (map formal_of (map pin_conn pins)) (formal_of (pin_conn pin)) → Has (map formal_at pins) (formal_at pin)
unfolding formal_of_pair
formals_back [] pin has = has
formals_back (p ∷ pins) pin (inl is) = inl (ap formal_of_pair is)
formals_back (p ∷ pins) pin (inr later) = inr (formals_back pins pin later)

formals_once : (pins : List PinAt) → Once (map formal_at pins) → Once (map formal_of (map pin_conn pins))
formals_once [] once = tt
formals_once (pin ∷ pins) once = (λ has. once.0 (formals_back pins pin has), formals_once pins once.1)

pub conns_once : (pins : List PinAt) → Once (map formal_at pins) → Once (map formal_of (conns_on false pins ++ conns_on true pins))
conns_once pins once =
    let single = flat_map_single formal_of (map pin_conn pins) in
    let all = merge_once (λ (c : Conn). formal_of c ∷ []) (conns_on false pins) (conns_on true pins) (map pin_conn pins) (conns_merge pins) (subst Once (sym single) (formals_once pins once)) in
    subst Once (flat_map_single formal_of (conns_on false pins ++ conns_on true pins)) all
