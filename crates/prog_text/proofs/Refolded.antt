-- Setting each site of a list to its choice in a programming.
use Rattle.std.proofs.Common.{◌≡◌, ◌⊎◌, inl, inr, ◌||◌, if◌then◌else◌, ℕ, Bool, true, false, cond, List, [], ◌∷◌, Option, Some, None, IsSome, refl, sym, ap, subst, ◌∙◌}
use Rattle.std.specs.declared.cmp.Ordering.{Ordering}
use Rattle.std.specs.Ordering.{nat_cmp, eq_by_cmp}
use Rattle.std.specs.Cmp.{IsTotalOrder, eq_by_cmp_equiv, nat_cmp_total}
use Rattle.std.specs.Option.{option_map, option_map_or}
use Rattle.std.specs.FinMap as map
use Rattle.std.specs.FinSet as set
use Rattle.std.specs.FinMap.{get-insert, get-empty, same_map, IsAntisymmetric, nat_cmp-IsAntisymmetric}
use Rattle.vtr_base.specs.Lists.{Has}
use Rattle.list_laws.specs.Orders.{Once}
use Rattle.pb_expand.specs.declared.number.PbIx.{PbIx}
use Rattle.pb_expand.specs.declared.number.EdgeIx.{EdgeIx}
use Rattle.pb_expand.specs.Graph.{pb_ix, pin_ix, edge_ix}
use Rattle.prog_map.specs.declared.choice.LSite.{LSite}
use Rattle.prog_map.specs.declared.choice.LSite.TheVariants as site
use Rattle.prog_map.specs.declared.choice.LutChoice.{LutChoice}
use Rattle.prog_map.specs.declared.setting.Setting.{Setting}
use Rattle.prog_map.specs.declared.setting.Setting.TheVariants.{Mode, Pick, Used, Lut}
use Rattle.prog_map.specs.Choices.{Choices, choices_at, site_cmp, no_choices, mode_of, pick_of, is_used, lut_of}
use Rattle.prog_map.specs.Sites.{site_of, HasChoice, with_setting}
use Rattle.prog_text.specs.Spelling.{setting_at}
use Rattle.prog_map.proofs.Maps.{sites_total, sites_apart}
use Rattle.prog_map.proofs.Kept.{same_key}

none_some : {X : Type 0} {x : X} → None ≡ Some x → ⊥
none_some e = cc

module _ {K X : Type 0} {R : K → K → Ordering} (o : IsTotalOrder R) where
  get_same : (m : map.FinMap R X) (k : K) (v : X) → map.get (map.insert m k v) k ≡ Some v
  get_same m k v = get-insert o m k v k ∙ ap (λ b. cond b (Some v) (map.get m k)) ((eq_by_cmp_equiv o).refl k)

  get_else : IsAntisymmetric R → (m : map.FinMap R X) (k : K) (v : X) (q : K) → (q ≡ k → ⊥) → map.get (map.insert m k v) q ≡ map.get m q
  get_else apart m k v q other = get-insert o m k v q ∙ by (eq_by_cmp R q k) refl
    where
      by : (b : Bool) → eq_by_cmp R q k ≡ b → cond b (Some v) (map.get m q) ≡ map.get m q
      by true e = absurd (other (same_key R apart q k e))
      by false e = refl

used_same : (s : set.FinSet nat_cmp) (k : ℕ) → set.contains (set.insert s k) k ≡ true
used_same s k = set.contains-insert nat_cmp_total s k k ∙ ap (λ b. b || set.contains s k) ((eq_by_cmp_equiv nat_cmp_total).refl k)

used_else : (s : set.FinSet nat_cmp) (k q : ℕ) → (q ≡ k → ⊥) → set.contains (set.insert s k) q ≡ set.contains s q
used_else s k q other = set.contains-insert nat_cmp_total s k q ∙ by (eq_by_cmp nat_cmp q k) refl
  where
    by : (b : Bool) → eq_by_cmp nat_cmp q k ≡ b → (b || set.contains s q) ≡ set.contains s q
    by true e = absurd (other (same_key nat_cmp nat_cmp-IsAntisymmetric q k e))
    by false e = refl

-- the choice of the site that was set
pub set_itself : (c : Choices) (x : Setting) → setting_at (with_setting c x) (site_of x) ≡ Some x
set_itself c (Mode pb mode) = ap (λ o. option_map (λ m. Mode pb m) o) (get_same nat_cmp_total c.modes pb.0 mode)
set_itself c (Pick pin mode edge) = ap (λ o. option_map (λ e. Pick pin mode (edge_ix e)) o) (get_same sites_total c.picks (pin.0, mode) edge.0)
set_itself c (Used pb) = ap (λ b. if b then Some (Used pb) else None) (used_same c.leaves pb.0)
set_itself c (Lut pb choice) = ap (λ o. option_map (λ l. Lut pb l) o) (get_same nat_cmp_total c.luts pb.0 choice)

-- and of any other site
pub set_other : (c : Choices) (x : Setting) (s : LSite) → (s ≡ site_of x → ⊥) → setting_at (with_setting c x) s ≡ setting_at c s
set_other c (Mode pb mode) (site.Mode q) other =
    ap (λ o. option_map (λ m. Mode q m) o) (get_else nat_cmp_total nat_cmp-IsAntisymmetric c.modes pb.0 mode q.0 (λ e. other (ap (λ n. site.Mode (pb_ix n)) e)))
set_other c (Mode pb mode) (site.Pin pin m) other = refl
set_other c (Mode pb mode) (site.Used q) other = refl
set_other c (Mode pb mode) (site.Lut q) other = refl
set_other c (Pick pin mode edge) (site.Mode q) other = refl
set_other c (Pick pin mode edge) (site.Pin p m) other =
    ap (λ o. option_map (λ e. Pick p m (edge_ix e)) o)
    (get_else sites_total sites_apart c.picks (pin.0, mode) edge.0 (p.0, m) (λ e. other (ap (λ (k : ℕ × ℕ). site.Pin (pin_ix k.0) k.1) e)))
set_other c (Pick pin mode edge) (site.Used q) other = refl
set_other c (Pick pin mode edge) (site.Lut q) other = refl
set_other c (Used pb) (site.Mode q) other = refl
set_other c (Used pb) (site.Pin p m) other = refl
set_other c (Used pb) (site.Used q) other =
    ap (λ b. if b then Some (Used q) else None) (used_else c.leaves pb.0 q.0 (λ e. other (ap (λ n. site.Used (pb_ix n)) e)))
set_other c (Used pb) (site.Lut q) other = refl
set_other c (Lut pb choice) (site.Mode q) other = refl
set_other c (Lut pb choice) (site.Pin p m) other = refl
set_other c (Lut pb choice) (site.Used q) other = refl
set_other c (Lut pb choice) (site.Lut q) other =
    ap (λ o. option_map (λ l. Lut q l) o) (get_else nat_cmp_total nat_cmp-IsAntisymmetric c.luts pb.0 choice q.0 (λ e. other (ap (λ n. site.Lut (pb_ix n)) e)))

-- a site's setting is one of that site
pub site_is : (c : Choices) (s : LSite) (x : Setting) → setting_at c s ≡ Some x → s ≡ site_of x
site_is c (site.Mode pb) x e = by (mode_of c pb.0) e
  where
    by : (o : Option ℕ) → option_map (λ m. Mode pb m) o ≡ Some x → site.Mode pb ≡ site_of x
    by None e = absurd (none_some e)
    by (Some m) e = let same : Mode pb m ≡ x = cc in ap site_of same
site_is c (site.Pin pin mode) x e = by (pick_of c pin.0 mode) e
  where
    by : (o : Option ℕ) → option_map (λ n. Pick pin mode (edge_ix n)) o ≡ Some x → site.Pin pin mode ≡ site_of x
    by None e = absurd (none_some e)
    by (Some n) e = let same : Pick pin mode (edge_ix n) ≡ x = cc in ap site_of same
site_is c (site.Used pb) x e = by (is_used c pb.0) e
  where
    by : (b : Bool) → (if b then Some (Used pb) else None) ≡ Some x → site.Used pb ≡ site_of x
    by false e = absurd (none_some e)
    by true e = let same : Used pb ≡ x = cc in ap site_of same
site_is c (site.Lut pb) x e = by (lut_of c pb.0) e
  where
    by : (o : Option LutChoice) → option_map (λ l. Lut pb l) o ≡ Some x → site.Lut pb ≡ site_of x
    by None e = absurd (none_some e)
    by (Some l) e = let same : Lut pb l ≡ x = cc in ap site_of same

none_of : {X Y : Type 0} (f : X → Y) (o : Option X) → option_map f o ≡ None → IsSome o → ⊥
none_of f None e some = cc
none_of f (Some x) e some = absurd (none_some (sym e))

-- a site without a setting has no choice
pub none_unset : (c : Choices) (s : LSite) → setting_at c s ≡ None → HasChoice c s → ⊥
none_unset c (site.Mode pb) e has = none_of (λ m. Mode pb m) (mode_of c pb.0) e has
none_unset c (site.Pin pin mode) e has = none_of (λ n. Pick pin mode (edge_ix n)) (pick_of c pin.0 mode) e has
none_unset c (site.Used pb) e has = by (is_used c pb.0) e has
  where
    by : (b : Bool) → (if b then Some (Used pb) else None) ≡ None → b ≡ true → ⊥
    by true e h = absurd (none_some (sym e))
    by false e h = cc
none_unset c (site.Lut pb) e has = none_of (λ l. Lut pb l) (lut_of c pb.0) e has

-- where no site has a choice
pub none_at_first : (s : LSite) → setting_at no_choices s ≡ None
none_at_first (site.Mode pb) = ap (λ o. option_map (λ m. Mode pb m) o) (get-empty nat_cmp pb.0)
none_at_first (site.Pin pin mode) = ap (λ o. option_map (λ n. Pick pin mode (edge_ix n)) o) (get-empty site_cmp (pin.0, mode))
none_at_first (site.Used pb) = ap (λ b. if b then Some (Used pb) else None) (set.contains-empty nat_cmp pb.0)
none_at_first (site.Lut pb) = ap (λ o. option_map (λ l. Lut pb l) o) (get-empty nat_cmp pb.0)

same_option : {X Y : Type 0} (f : X → Y) → ((x y : X) → f x ≡ f y → x ≡ y) → (a b : Option X) → option_map f a ≡ option_map f b → a ≡ b
same_option f one None None e = refl
same_option f one None (Some y) e = absurd (none_some e)
same_option f one (Some x) None e = absurd (none_some (sym e))
same_option f one (Some x) (Some y) e = let inside : f x ≡ f y = cc in ap Some (one x y inside)

same_test : (pb : PbIx) (a b : Bool) → ◌≡◌ {A = Option Setting} (if a then Some (Used pb) else None) (if b then Some (Used pb) else None) → a ≡ b
same_test pb true true e = refl
same_test pb true false e = absurd (none_some (sym e))
same_test pb false true e = absurd (none_some e)
same_test pb false false e = refl

-- choices that say the same of each site are the same
pub same_choices : (c d : Choices) → ((s : LSite) → setting_at c s ≡ setting_at d s) → c ≡ d
same_choices c d same =
    let modes : c.modes ≡ d.modes =
    same_map nat_cmp_total nat_cmp-IsAntisymmetric c.modes d.modes
    (λ q. same_option (λ m. Mode (pb_ix q) m) (λ x y e. cc) (mode_of c q) (mode_of d q) (same (site.Mode (pb_ix q)))) in
    let picks : c.picks ≡ d.picks =
    same_map sites_total sites_apart c.picks d.picks
    (λ (q : ℕ × ℕ). same_option (λ n. Pick (pin_ix q.0) q.1 (edge_ix n)) (λ x y e. edge_same q x y e) (pick_of c q.0 q.1) (pick_of d q.0 q.1) (same (site.Pin (pin_ix q.0) q.1))) in
    let leaves : c.leaves ≡ d.leaves =
    set.same_set nat_cmp_total nat_cmp-IsAntisymmetric c.leaves d.leaves
    (λ q. same_test (pb_ix q) (is_used c q) (is_used d q) (same (site.Used (pb_ix q)))) in
    let luts : c.luts ≡ d.luts =
    same_map nat_cmp_total nat_cmp-IsAntisymmetric c.luts d.luts
    (λ q. same_option (λ l. Lut (pb_ix q) l) (λ x y e. cc) (lut_of c q) (lut_of d q) (same (site.Lut (pb_ix q)))) in
    ap (λ m. choices_at m c.picks c.leaves c.luts) modes
    ∙ ap (λ p. choices_at d.modes p c.leaves c.luts) picks
    ∙ ap (λ l. choices_at d.modes d.picks l c.luts) leaves
    ∙ ap (λ l. choices_at d.modes d.picks d.leaves l) luts
  where
    edge_same : (q : ℕ × ℕ) (x y : ℕ) → Pick (pin_ix q.0) q.1 (edge_ix x) ≡ Pick (pin_ix q.0) q.1 (edge_ix y) → x ≡ y
    edge_same q x y e = let ixs : edge_ix x ≡ edge_ix y = cc in ap (λ (i : EdgeIx). i.0) ixs

-- the choices with each of these sites set as in a programming
abbrev pub put_site_of : Choices → LSite → Choices → Choices
put_site_of c s done = option_map_or (λ x. with_setting done x) (setting_at c s) done

abbrev pub put_sites : Choices → List LSite → Choices → Choices
put_sites c [] done = done
put_sites c (s ∷ sites) done = put_sites c sites (put_site_of c s done)

-- none of the sites to come is set
abbrev pub AreUnset : List LSite → Choices → Type 0
AreUnset sites done = (s : LSite) → Has sites s → setting_at done s ≡ None

-- every site is set as in the programming, or is to come
abbrev pub AreSetOr : Choices → List LSite → Choices → Type 0
AreSetOr c sites done = (s : LSite) → (setting_at done s ≡ setting_at c s) ⊎ Has sites s

pub unset_next : (c : Choices) (s : LSite) (sites : List LSite) (done : Choices) → Once (s ∷ sites) → AreUnset (s ∷ sites) done → AreUnset sites (put_site_of c s done)
unset_next c s sites done once unset q has = by (setting_at c s) refl
  where
    by : (o : Option Setting) → setting_at c s ≡ o → setting_at (option_map_or (λ x. with_setting done x) o done) q ≡ None
    by None e = unset q (inr has)
    by (Some x) e =
        set_other done x q (λ same. once.0 (subst (λ k. Has sites k) (same ∙ sym (site_is c s x e)) has)) ∙ unset q (inr has)

pub set_next : (c : Choices) (s : LSite) (sites : List LSite) (done : Choices) → AreUnset (s ∷ sites) done → AreSetOr c (s ∷ sites) done → AreSetOr c sites (put_site_of c s done)
set_next c s sites done unset all q = by (setting_at c s) refl (all q)
  where
    by : (o : Option Setting) → setting_at c s ≡ o → (setting_at done q ≡ setting_at c q) ⊎ Has (s ∷ sites) q →
        (setting_at (option_map_or (λ x. with_setting done x) o done) q ≡ setting_at c q) ⊎ Has sites q
    by None e (inl same) = inl same
    by None e (inr (inl here)) = inl (ap (setting_at done) here ∙ unset s (inl refl) ∙ sym e ∙ ap (setting_at c) (sym here))
    by None e (inr (inr later)) = inr later
    by (Some x) e (inl same) =
        inl (set_other done x q (λ here. none_some (sym (unset s (inl refl)) ∙ ap (setting_at done) (site_is c s x e ∙ sym here) ∙ same ∙ ap (setting_at c) (here ∙ sym (site_is c s x e)) ∙ e)) ∙ same)
    by (Some x) e (inr (inl here)) =
        inl (ap (setting_at (with_setting done x)) (here ∙ site_is c s x e) ∙ set_itself done x ∙ sym e ∙ ap (setting_at c) (sym here))
    by (Some x) e (inr (inr later)) = inr later

pub all_put : (c : Choices) (sites : List LSite) (done : Choices) → Once sites → AreUnset sites done → AreSetOr c sites done → put_sites c sites done ≡ c
all_put c [] done once unset all = same_choices done c (λ s. elim (all s) [ inl same ↦ same | inr none ↦ absurd none ])
all_put c (s ∷ sites) done once unset all =
    all_put c sites (put_site_of c s done) once.1 (unset_next c s sites done once unset) (set_next c s sites done unset all)
