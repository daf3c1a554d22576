-- The first input port, port by port.
use Rattle.std.proofs.Common.{◌≡◌, ◌<◌, ◌+◌, inl, inr, ℕ, zero, suc, List, [], ◌∷◌, ◌++◌, length, take, drop, get_or, refl, sym, ap, ◌∙◌, subst, arith}
use Rattle.std.proofs.lemmas.List.{take_more}
use Rattle.arch_types.specs.declared.block.Port.{Port}
use Rattle.arch_types.specs.declared.block.Side.TheVariants.{Input}
use Rattle.lut_widths.specs.Held.{HasInputs}

abbrev pub LacksInputs : List Port → Type 0
LacksInputs ports = (k : ℕ) → HasInputs ports k → ⊥

-- a list at one of its items
cut_at : {A : Type 0} (xs : List A) (k : ℕ) (d : A) → k < length xs → xs ≡ take k xs ++ get_or xs k d ∷ drop (k + 1) xs
cut_at [] k d within = absurd (omega (arith, within))
cut_at (x ∷ xs) zero d within = refl
cut_at (x ∷ xs) (suc k) d within =
    let next : suc (k + 1) ≡ suc k + 1 = omega arith in
    subst (λ n. x ∷ xs ≡ x ∷ (take k xs ++ get_or xs k d ∷ drop n (x ∷ xs))) next (ap (λ l. x ∷ l) (cut_at xs k d (omega (arith, within))))

inputs_here : (xs ys : List Port) (p : Port) → LacksInputs xs → p.side ≡ Input → HasInputs (xs ++ p ∷ ys) p.width
inputs_here [] ys p none is = inl (is, refl)
inputs_here (x ∷ xs) ys p none is =
    let other : x.side ≡ Input → ⊥ = λ also. none x.width (inl (also, refl)) in
    inr (other, inputs_here xs ys p (λ k has. none k (inr (other, has))) is)

inputs_not : (xs : List Port) (p : Port) → LacksInputs xs → (p.side ≡ Input → ⊥) → LacksInputs (xs ++ p ∷ [])
inputs_not [] p none other k (inl here) = other here.0
inputs_not [] p none other k (inr later) = later.1
inputs_not (x ∷ xs) p none other k (inl here) = none k (inl here)
inputs_not (x ∷ xs) p none other k (inr later) = inputs_not xs p (λ j has. none j (inr (later.0, has))) other k later.1

pub inputs_at : (ports : List Port) (n : ℕ) (p : Port) → n < length ports → p ≡ get_or ports n p → LacksInputs (take n ports) → p.side ≡ Input → HasInputs ports p.width
inputs_at ports n p within is none side =
    let cut : ports ≡ take n ports ++ p ∷ drop (n + 1) ports = cut_at ports n p within ∙ ap (λ (q : Port). take n ports ++ q ∷ drop (n + 1) ports) (sym is) in
    subst (λ (l : List Port). HasInputs l p.width) (sym cut) (inputs_here (take n ports) (drop (n + 1) ports) p none side)

pub inputs_past : (ports : List Port) (n : ℕ) (p : Port) → n < length ports → p ≡ get_or ports n p → LacksInputs (take n ports) → (p.side ≡ Input → ⊥) → LacksInputs (take (n + 1) ports)
inputs_past ports n p within is none other =
    let longer : take (n + 1) ports ≡ take n ports ++ p ∷ [] = take_more ports n p within ∙ ap (λ (q : Port). take n ports ++ q ∷ []) (sym is) in
    subst LacksInputs (sym longer) (inputs_not (take n ports) p none other)

pub one_input : (ports : List Port) (j k : ℕ) → HasInputs ports j → HasInputs ports k → j ≡ k
one_input [] j k a b = absurd a
one_input (p ∷ ps) j k (inl a) (inl b) = a.1 ∙ sym b.1
one_input (p ∷ ps) j k (inl a) (inr b) = absurd (b.0 a.0)
one_input (p ∷ ps) j k (inr a) (inl b) = absurd (a.0 b.0)
one_input (p ∷ ps) j k (inr a) (inr b) = one_input ps j k a.1 b.1
