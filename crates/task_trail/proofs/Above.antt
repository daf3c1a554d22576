-- What stands above an instance is its parent, or stands above that.
use Rattle.std.proofs.Common.{◌≡◌, ◌⊎◌, inl, inr, ℕ, [], ◌∷◌, ◌++◌, Option, Some, refl, sym, ap, ◌∙◌, append_assoc}
use Rattle.std.specs.Prelude.{slice_get}
use Rattle.arch_types.specs.Address.{Address, Hop}
use Rattle.pb_expand.specs.declared.number.Step.{Step}
use Rattle.pb_expand.specs.Graph.{Graph, LeadsTo, hop_of}
use Rattle.pb_expand.specs.Expansion.{IsExpansion}
use Rattle.prog_map.specs.Live.{StandsIn}
use Rattle.task_types.specs.Open.{IsOpen}
use Rattle.task_trail.specs.Decided.{IsOpenBelow}

some_injective : {X : Type 0} {x y : X} → Some x ≡ Some y → x ≡ y
some_injective e = cc

no_end : (front xs : Address) (x : Hop) → front ++ x ∷ xs ≡ [] → ⊥
no_end [] xs x e = cc
no_end (u ∷ front) xs x e = cc

last_or : (front xs ys : Address) (x y : Hop) → front ++ x ∷ xs ≡ ys ++ y ∷ [] → ((front ≡ ys) × (x ≡ y)) ⊎ ((zs : Address) × (ys ≡ front ++ x ∷ zs))
last_or [] xs [] x y e = inl (refl, cc)
last_or [] xs (v ∷ ys) x y e = let same : x ≡ v = cc in inr (ys, ap (λ z. z ∷ ys) (sym same))
last_or (u ∷ front) xs [] x y e = absurd (let tail : front ++ x ∷ xs ≡ [] = cc in no_end front xs x tail)
last_or (u ∷ front) xs (v ∷ ys) x y e =
    let first : u ≡ v = cc in
    let tail : front ++ x ∷ xs ≡ ys ++ y ∷ [] = cc in
    elim (last_or front xs ys x y tail) [
      | inl here ↦ inl (ap (λ z. z ∷ front) first ∙ ap (λ zs. v ∷ zs) here.0, here.1)
      | inr more ↦ inr (more.0, ap (λ z. z ∷ ys) (sym first) ∙ ap (λ zs. u ∷ zs) more.1)
    ]

-- nothing stands above the root
pub root_open : (g : Graph) (modes : ℕ → Option ℕ) (n : ℕ) → IsExpansion g → n ≡ 0 → IsOpen g modes n
root_open g modes n law zero = record {
  each = λ above mode decided st is. absurd (no_end st.address st.hops st.hop (some_injective (sym st.is_below ∙ root)));
}
  where
    root : slice_get g.instances n ≡ Some []
    root = ap (λ k. slice_get g.instances k) zero ∙ ap (λ is. slice_get is 0) law.instances

module _ (g : Graph) (s : Step) (n : ℕ) (to : LeadsTo g.instances s n) where
  parent_stands : StandsIn g n s.parent.0 s.mode
  parent_stands = record { address = to.parent; is_above = to.is_parent; hop = hop_of s; hops = []; is_mode = refl; is_below = to.is_child }

  above_stands : (above mode : ℕ) → StandsIn g s.parent.0 above mode → StandsIn g n above mode
  above_stands above mode st =
      let same : to.parent ≡ st.address ++ st.hop ∷ st.hops = some_injective (sym to.is_parent ∙ st.is_below) in
      record {
        address = st.address;
        is_above = st.is_above;
        hop = st.hop;
        hops = st.hops ++ hop_of s ∷ [];
        is_mode = st.is_mode;
        is_below =
            to.is_child ∙ ap (λ a. Some (a ++ hop_of s ∷ [])) same ∙ ap (λ a. Some a) (append_assoc st.address (st.hop ∷ st.hops) (hop_of s ∷ []));
      }

  stands_or : IsExpansion g → (above mode : ℕ) → StandsIn g n above mode → ((above ≡ s.parent.0) × (mode ≡ s.mode)) ⊎ StandsIn g s.parent.0 above mode
  stands_or law above mode st =
      elim (last_or st.address st.hops to.parent st.hop (hop_of s) (some_injective (sym st.is_below ∙ to.is_child))) [
        | inl here ↦ inl (
          law.numbering.once above s.parent.0 to.parent (st.is_above ∙ ap (λ a. Some a) here.0) to.is_parent,
          sym st.is_mode ∙ ap (λ (h : Hop). h.mode) here.1,
        )
        | inr more ↦ inr (record {
          address = st.address;
          is_above = st.is_above;
          hop = st.hop;
          hops = more.0;
          is_mode = st.is_mode;
          is_below = to.is_parent ∙ ap (λ a. Some a) more.1;
        })
      ]

  pub open_below : (modes : ℕ → Option ℕ) → IsExpansion g → IsOpenBelow g modes s n
  open_below modes law = (
    λ here. (record { each = λ above mode decided st is. here.each above mode decided (above_stands above mode st) is }, λ decided is. here.each s.parent.0 s.mode decided parent_stands is),
    λ up. record {
      each = λ above mode decided st is. elim (stands_or law above mode st) [
        | inl parent ↦ up.1 decided (ap modes (sym parent.0) ∙ is) ∙ sym parent.1
        | inr higher ↦ up.0.each above mode decided higher is
      ];
    },
  )
