-- The pins and the parameters of a box, as words and lines.
use Rattle.std.proofs.Common.{◌≡◌, ◌<◌, ◌^◌, inl, inr, ℕ, List, [], ◌∷◌, ◌++◌, map, length, append_assoc, append-nil, refl, sym, ap, ◌∙◌, subst}
use Rattle.std.specs.Prelude.{codes, flat_map}
use Rattle.std.specs.List.{All}
use Rattle.std.proofs.lemmas.List.Elements.{All-nil, All-cons, All-head, All-tail}
use Rattle.std.proofs.lemmas.List.Sums.{AllPass-from_list_all}
use Rattle.vtr_base.specs.Lists.{Has}
use Rattle.arch_types.specs.Models.{IsPortName}
use Rattle.net_types.specs.declared.atom.Conn.{Conn}
use Rattle.net_types.specs.Atoms.{IsParam}
use Rattle.net_types.specs.Merges.{IsMerge}
use Rattle.net_types.specs.Words.{IsWord, IsNetName}
use Rattle.blif_elems.specs.Statements.{says_param}
use Rattle.blif_elems.specs.Written.{HaveKeywords}
use Rattle.blif_text.specs.Boxes.{pins_text, params_text}
use Rattle.blif_text.specs.Words.{name_at, nets_text}
use Rattle.pin_texts.specs.Words.{pin_word}
use Rattle.word_texts.specs.Spaced.{spaced}
use Rattle.said_texts.specs.Statements.{named, pin_words, param_lines}
use Rattle.said_texts.proofs.Inks.{is_ink, ink_ascii, ink_word, pin_is_word}
use Rattle.said_texts.proofs.Lines.{IsSaidText, Divides, no_text, line_then}

pub all_of : {X : Type 0} (P : X → Type 0) (xs : List X) → ((x : X) → Has xs x → P x) → All P xs
all_of P [] each = All-nil P
all_of P (x ∷ xs) each = All-cons P x xs (each x (inl refl)) (all_of P xs (λ y has. each y (inr has)))

pub all_merge : {X : Type 0} (P : X → Type 0) (xs ys zs : List X) → IsMerge xs ys zs → All P xs → All P ys → All P zs
all_merge P xs ys [] m a b = All-nil P
all_merge P xs ys (z ∷ zs) (inl m) a b =
    let left : All P (z ∷ m.0) = subst (All P) m.1 a in
    All-cons P z zs (All-head P z m.0 left) (all_merge P m.0 ys zs m.2 (All-tail P z m.0 left) b)
all_merge P xs ys (z ∷ zs) (inr m) a b =
    let right : All P (z ∷ m.0) = subst (All P) m.1 b in
    All-cons P z zs (All-head P z m.0 right) (all_merge P xs m.0 zs m.2 a (All-tail P z m.0 right))

-- words of nets

pub nets_spaced : (nets : List (List ℕ)) (conns : List Conn) → nets_text nets conns ≡ flat_map spaced (named nets conns)
nets_spaced nets [] = refl
nets_spaced nets (c ∷ cs) = ap (λ l. spaced (name_at nets c.net) ++ l) (nets_spaced nets cs)

pub nets_named : (nets : List (List ℕ)) (conns : List Conn) → All IsNetName nets → All (λ (c : Conn). c.net < length nets) conns → All IsNetName (named nets conns)
nets_named nets [] are within = All-nil IsNetName
nets_named nets (c ∷ cs) are within =
    All-cons IsNetName (name_at nets c.net) (named nets cs) (are c.net [] (All-head (λ (d : Conn). d.net < length nets) c cs within))
    (nets_named nets cs are (All-tail (λ (d : Conn). d.net < length nets) c cs within))

-- words of pins

pub record IsGoodPin (nets : List (List ℕ)) (c : Conn) : Type 0 where
  pub port : IsPortName c.port
  pub bit : c.bit < 2 ^ 32
  pub net : c.net < length nets

pub pins_spaced : (nets : List (List ℕ)) (pins : List Conn) → pins_text nets pins ≡ flat_map spaced (pin_words nets pins)
pins_spaced nets [] = refl
pins_spaced nets (c ∷ cs) = ap (λ l. spaced (pin_word c.port c.bit (name_at nets c.net)) ++ l) (pins_spaced nets cs)

pub pins_words : (nets : List (List ℕ)) (pins : List Conn) → All IsNetName nets → All (IsGoodPin nets) pins → All IsWord (pin_words nets pins)
pins_words nets [] are good = All-nil IsWord
pins_words nets (c ∷ cs) are good =
    let here = All-head (IsGoodPin nets) c cs good in
    All-cons IsWord (pin_word c.port c.bit (name_at nets c.net)) (pin_words nets cs) (pin_is_word c.port c.bit (name_at nets c.net) here.port here.bit (are c.net [] here.net).word)
    (pins_words nets cs are (All-tail (IsGoodPin nets) c cs good))

param_word : IsWord (codes ".param")
param_word = ink_word (codes ".param") (λ e. cc e) (ink_ascii (codes ".param") (AllPass-from_list_all is_ink (codes ".param") refl))

module _ (divides : Divides) (keys : HaveKeywords) where
  pub params_said : (params : List (List ℕ × List ℕ)) → All IsParam params → IsSaidText (params_text params) (param_lines params)
  params_said [] are = no_text
  params_said (p ∷ ps) are =
      let here = All-head IsParam p ps are in
      let words : All IsWord (p.0 ∷ p.1 ∷ []) = All-cons IsWord p.0 (p.1 ∷ []) here.0 (All-cons IsWord p.1 [] here.1 (All-nil IsWord)) in
      let text = line_then divides (codes ".param") (p.0 ∷ p.1 ∷ []) (says_param p.0 p.1) (params_text ps) (param_lines ps) param_word words (keys.param p.0 p.1) (params_said ps (All-tail IsParam p ps are)) in
      let behind = 32 ∷ 10 ∷ params_text ps in
      let cut : flat_map spaced (p.0 ∷ p.1 ∷ []) ++ behind ≡ spaced p.0 ++ (spaced p.1 ++ behind) =
      append_assoc (spaced p.0) (spaced p.1 ++ []) behind ∙ ap (λ l. spaced p.0 ++ (l ++ behind)) (append-nil (spaced p.1)) in
      subst (λ t. IsSaidText t (says_param p.0 p.1 ∷ param_lines ps)) (ap (λ l. codes ".param" ++ l) cut) text
