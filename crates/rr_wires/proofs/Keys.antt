-- Maps and sets whose `==` is equality, as lists.
use Rattle.std.proofs.Common.{◌≡◌, ℕ, Bool, true, false, cond, ◌&&◌, ◌||◌, nat_eq, List, [], ◌∷◌, Option, Some, None, MatchOption, refl, sym, ap, ◌∙◌, inl, inr, arith}
use Rattle.std.specs.List.{list_any}
use Rattle.std.specs.Map.{lookup}
use Rattle.std.proofs.lemmas.Bool.{false≢true, and_parts, and_from, or_cases}
use Rattle.std.proofs.lemmas.Bool.Decides.{nat_tests}
use Rattle.vtr_base.specs.Lists.{Has}
use Rattle.rr_items.specs.declared.carriers.TilePin.{TilePin}
use Rattle.rr_wires.specs.declared.types.WireIx.{WireIx}
use Rattle.rr_wires.specs.declared.types.WirePair.{WirePair}
use Rattle.rr_wires.specs.Numbering.{Numbering}

pub nat_same : (m n : ℕ) → nat_eq m n ≡ true → m ≡ n
nat_same m n e = grind (arith, nat_tests)

pub nat_itself : (m : ℕ) → nat_eq m m ≡ true
nat_itself m = grind (arith, nat_tests)

abbrev pub wire_ix : ℕ → WireIx
wire_ix n = record { 0 = n }

pub wire_same : (v w : WireIx) → v.0 ≡ w.0 → v ≡ w
wire_same v w is = ap wire_ix is

abbrev pub tile_pin : ℕ → ℕ → ℕ → TilePin
tile_pin loc port bit = record { loc = loc; port = port; bit = bit }

abbrev pub pin_eq : TilePin → TilePin → Bool
pin_eq x y = nat_eq x.loc y.loc && (nat_eq x.port y.port && nat_eq x.bit y.bit)

pub pin_same : (x y : TilePin) → pin_eq x y ≡ true → x ≡ y
pin_same x y e =
    let k = and_parts (nat_eq x.loc y.loc) (nat_eq x.port y.port && nat_eq x.bit y.bit) e in
    let n = and_parts (nat_eq x.port y.port) (nat_eq x.bit y.bit) k.1 in
    ap (λ (l : ℕ). tile_pin l x.port x.bit) (nat_same x.loc y.loc k.0)
    ∙ (ap (λ (p : ℕ). tile_pin y.loc p x.bit) (nat_same x.port y.port n.0) ∙ ap (λ (b : ℕ). tile_pin y.loc y.port b) (nat_same x.bit y.bit n.1))

pub pin_itself : (x : TilePin) → pin_eq x x ≡ true
pin_itself x =
    and_from (nat_eq x.loc x.loc) (nat_eq x.port x.port && nat_eq x.bit x.bit) (nat_itself x.loc)
    (and_from (nat_eq x.port x.port) (nat_eq x.bit x.bit) (nat_itself x.port) (nat_itself x.bit))

abbrev pub wire_pair : WireIx → WireIx → WirePair
wire_pair src dst = record { src = src; dst = dst }

abbrev pub pair_eq : WirePair → WirePair → Bool
pair_eq x y = nat_eq x.src.0 y.src.0 && nat_eq x.dst.0 y.dst.0

pub pair_same : (x y : WirePair) → pair_eq x y ≡ true → x ≡ y
pair_same x y e =
    let k = and_parts (nat_eq x.src.0 y.src.0) (nat_eq x.dst.0 y.dst.0) e in
    ap (λ (s : WireIx). wire_pair s x.dst) (wire_same x.src y.src (nat_same x.src.0 y.src.0 k.0))
    ∙ ap (λ (d : WireIx). wire_pair y.src d) (wire_same x.dst y.dst (nat_same x.dst.0 y.dst.0 k.1))

pub pair_itself : (x : WirePair) → pair_eq x x ≡ true
pair_itself x = and_from (nat_eq x.src.0 x.src.0) (nat_eq x.dst.0 x.dst.0) (nat_itself x.src.0) (nat_itself x.dst.0)

module _ {K V : Type 0} (eq : K → K → Bool) (only : (x y : K) → eq x y ≡ true → x ≡ y) (itself : (x : K) → eq x x ≡ true) where
  -- what a look-up says
  pub key_found : (es : List (K × V)) (k : K) → MatchOption (lookup (eq k) es) ((v : V) → Has es (k, v) → ⊥) (λ v. Has es (k, v))
  key_found [] k = λ v has. has
  key_found (x ∷ es) k = by (eq k x.0) refl (lookup (eq k) es) (key_found es k)
    where
      other : (v : V) → eq k x.0 ≡ false → (k, v) ≡ x → ⊥
      other v fails is =
          let here : k ≡ x.0 = ap (λ (p : K × V). p.0) is in
          false≢true (sym fails ∙ (ap (λ (q : K). eq k q) (sym here) ∙ itself k))

      by : (b : Bool) → eq k x.0 ≡ b → (o : Option V) → MatchOption o ((v : V) → Has es (k, v) → ⊥) (λ v. Has es (k, v)) →
          MatchOption (cond b (Some x.1) o) ((v : V) → Has (x ∷ es) (k, v) → ⊥) (λ v. Has (x ∷ es) (k, v))
      by true passes o rest = inl (ap (λ (q : K). (q, x.1)) (only k x.0 passes))
      by false fails None rest = λ v has. elim has [ inl is ↦ other v fails is | inr later ↦ rest v later ]
      by false fails (Some v) rest = inr rest

  pub key_fresh : (es : List (K × V)) (k : K) → ((v : V) → Has es (k, v) → ⊥) → lookup (eq k) es ≡ None
  key_fresh es k fresh = by (lookup (eq k) es) (key_found es k)
    where
      by : (o : Option V) → MatchOption o ((v : V) → Has es (k, v) → ⊥) (λ v. Has es (k, v)) → o ≡ None
      by None rest = refl
      by (Some v) has = absurd (fresh v has)

module _ {K : Type 0} (eq : K → K → Bool) (only : (x y : K) → eq x y ≡ true → x ≡ y) (itself : (x : K) → eq x x ≡ true) where
  pub any_has : (ks : List K) (k : K) → list_any (eq k) ks ≡ true → Has ks k
  any_has [] k e = absurd (false≢true e)
  any_has (x ∷ ks) k e = elim (or_cases (eq k x) (list_any (eq k) ks) e) [ inl here ↦ inl (only k x here) | inr later ↦ inr (any_has ks k later) ]

  pub none_has : (ks : List K) (k : K) → list_any (eq k) ks ≡ false → Has ks k → ⊥
  none_has [] k e has = has
  none_has (x ∷ ks) k e has = by (eq k x) (list_any (eq k) ks) refl (none_has ks k) e has
    where
      by : (a b : Bool) → eq k x ≡ a → (b ≡ false → Has ks k → ⊥) → (a || b) ≡ false → Has (x ∷ ks) k → ⊥
      by true b here rest none h = absurd (false≢true (sym none))
      by false b here rest none (inl is) = false≢true (sym here ∙ (ap (λ (q : K). eq k q) (sym is) ∙ itself k))
      by false b here rest none (inr later) = rest none later

abbrev pub numbering : List ℕ → List (ℕ × WireIx) → List (TilePin × WireIx) → Numbering
numbering least nodes pins = record { least = least; nodes = nodes; pins = pins }

abbrev pub entry : ℕ → WireIx → ℕ × WireIx
entry id wire = (id, wire)

abbrev pub pin_entry : TilePin → WireIx → TilePin × WireIx
pin_entry pin wire = (pin, wire)
