-- An instance is live where its parent is, and is set to the mode in which it stands.
use Rattle.std.proofs.Common.{◌≡◌, ◌⊎◌, inl, inr, ℕ, [], ◌∷◌, ◌++◌, Option, Some, refl, sym, ap, ◌∙◌, append_assoc}
use Rattle.std.specs.Prelude.{slice_get}
use Rattle.std.proofs.lemmas.Option.{slice_get_within}
use Rattle.arch_types.specs.Address.{Address, Hop}
use Rattle.pb_expand.specs.declared.number.Step.{Step}
use Rattle.pb_expand.specs.Graph.{Graph, LeadsTo, hop_of}
use Rattle.pb_expand.specs.Expansion.{IsExpansion}
use Rattle.prog_map.specs.Live.{StandsIn, IsLiveAt, IsLiveBelow}

pub some_injective : {X : Type 0} {x y : X} → Some x ≡ Some y → x ≡ y
some_injective e = cc

no_end : (front xs : Address) (x : Hop) → front ++ x ∷ xs ≡ [] → ⊥
no_end [] xs x e = cc
no_end (u ∷ front) xs x e = cc

last_or : (front xs ys : Address) (x y : Hop) → front ++ x ∷ xs ≡ ys ++ y ∷ [] → ((front ≡ ys) × (x ≡ y)) ⊎ ((zs : Address) × (ys ≡ front ++ x ∷ zs))
last_or [] xs [] x y e = inl (refl, cc)
last_or [] xs (v ∷ ys) x y e = let same : x ≡ v = cc in inr (ys, ap (λ z. z ∷ ys) (sym same))
last_or (u ∷ front) xs [] x y e = absurd (let tail : front ++ x ∷ xs ≡ [] = cc in no_end front xs x tail)
last_or (u ∷ front) xs (v ∷ ys) x y e =
    let first : u ≡ v = cc in
    let tail : front ++ x ∷ xs ≡ ys ++ y ∷ [] = cc in
    elim (last_or front xs ys x y tail) [
      | inl here ↦ inl (ap (λ z. z ∷ front) first ∙ ap (λ zs. v ∷ zs) here.0, here.1)
      | inr more ↦ inr (more.0, ap (λ z. z ∷ ys) (sym first) ∙ ap (λ zs. u ∷ zs) more.1)
    ]

stands_parent : (g : Graph) (s : Step) (n : ℕ) → LeadsTo g.instances s n → StandsIn g n s.parent.0 s.mode
stands_parent g s n to = record { address = to.parent; is_above = to.is_parent; hop = hop_of s; hops = []; is_mode = refl; is_below = to.is_child }

stands_above : (g : Graph) (s : Step) (n above mode : ℕ) → LeadsTo g.instances s n → StandsIn g s.parent.0 above mode → StandsIn g n above mode
stands_above g s n above mode to st =
    let same : to.parent ≡ st.address ++ st.hop ∷ st.hops = some_injective (sym to.is_parent ∙ st.is_below) in
    record {
      address = st.address;
      is_above = st.is_above;
      hop = st.hop;
      hops = st.hops ++ hop_of s ∷ [];
      is_mode = st.is_mode;
      is_below =
          to.is_child ∙ ap (λ a. Some (a ++ hop_of s ∷ [])) same ∙ ap (λ a. Some a) (append_assoc st.address (st.hop ∷ st.hops) (hop_of s ∷ []));
    }

-- nothing stands above the root
pub root_live : (g : Graph) (modes : ℕ → Option ℕ) (n : ℕ) → IsExpansion g → n ≡ 0 → IsLiveAt g modes n
root_live g modes n law zero = record {
  inside = slice_get_within g.instances n [] root;
  each = λ above mode st. absurd (no_end st.address st.hops st.hop (some_injective (sym st.is_below ∙ root)));
}
  where
    root : slice_get g.instances n ≡ Some []
    root = ap (λ k. slice_get g.instances k) zero ∙ ap (λ is. slice_get is 0) law.instances

module _ (g : Graph) (modes : ℕ → Option ℕ) (s : Step) (n : ℕ) (to : LeadsTo g.instances s n) where
  pub climb_chosen : IsLiveAt g modes n → modes s.parent.0 ≡ Some s.mode
  climb_chosen live = live.each s.parent.0 s.mode (stands_parent g s n to)

  pub climb_above : IsLiveAt g modes n → IsLiveAt g modes s.parent.0
  climb_above live = record {
    inside = slice_get_within g.instances s.parent.0 to.parent to.is_parent;
    each = λ above mode st. live.each above mode (stands_above g s n above mode to st);
  }

  pub climb_up : IsExpansion g → modes s.parent.0 ≡ Some s.mode → IsLiveAt g modes s.parent.0 → IsLiveAt g modes n
  climb_up law chosen live = record {
    inside = slice_get_within g.instances n (to.parent ++ hop_of s ∷ []) to.is_child;
    each = λ above mode st.
        elim (last_or st.address st.hops to.parent st.hop (hop_of s) (some_injective (sym st.is_below ∙ to.is_child))) [
          | inl here ↦ parent above mode st here.0 here.1
          | inr more ↦
              live.each above mode (record {
                address = st.address;
                is_above = st.is_above;
                hop = st.hop;
                hops = more.0;
                is_mode = st.is_mode;
                is_below = to.is_parent ∙ ap (λ a. Some a) more.1;
              })
        ];
  }
    where
      parent : (above mode : ℕ) (st : StandsIn g n above mode) → st.address ≡ to.parent → st.hop ≡ hop_of s → modes above ≡ Some mode
      parent above mode st addresses hops =
          let number : above ≡ s.parent.0 = law.numbering.once above s.parent.0 to.parent (st.is_above ∙ ap (λ a. Some a) addresses) to.is_parent in
          let in_mode : s.mode ≡ mode = sym (ap (λ (h : Hop). h.mode) hops) ∙ st.is_mode in
          ap modes number ∙ chosen ∙ ap (λ m. Some m) in_mode

  pub live_below : IsExpansion g → IsLiveBelow g modes s n
  live_below law = (λ live. (climb_above live, climb_chosen live), λ above. climb_up law above.1 above.0)
