-- Each way has prefixes.
use Rattle.std.proofs.Common.{◌≡◌, ℕ, List, [], ◌∷◌, ◌++◌, Option, Some, None, refl, sym, ap, ◌∙◌, subst}
use Rattle.std.specs.Option.{option_and_then}
use Rattle.arch_types.specs.declared.block.PbType.{PbType}
use Rattle.arch_types.specs.Address.{Hop, Address, at, child_at}
use Rattle.meta_said.specs.declared.types.OwnerMeta.{OwnerMeta}
use Rattle.meta_said.specs.Owners.{Says}
use Rattle.site_bits.specs.Paths.{word_of, GivesWord, AreWordsBelow, AreWords}

-- each pb_type in the tree says something
abbrev pub AllSay : PbType → Type 0
AllSay block = (a : Address) (p : PbType) → at block a ≡ Some p → (said : OwnerMeta) × Says (Some p.count) p.metas said

gives : (p : PbType) (instance : ℕ) → ((said : OwnerMeta) × Says (Some p.count) p.metas said) → (words : List (List ℕ)) × GivesWord p instance words
gives p instance said = (word_of said.0.prefixes instance, record { said = said.0; says = said.1; is = refl })

kid_says : (p kid : PbType) (hop : Hop) → child_at p hop ≡ Some kid → AllSay p → AllSay kid
kid_says p kid hop child all a q there = all (hop ∷ a) q (ap (option_and_then (λ (k : PbType). at k a)) child ∙ there)

below : (p q : PbType) (a : Address) → AllSay p → at p a ≡ Some q → (words : List (List ℕ)) × AreWordsBelow p a words
below p q [] all there = ([], refl)
below p q (hop ∷ hops) all there = by (child_at p hop) refl there (λ kid says e. below kid q hops says e)
  where
    by : (o : Option PbType) → child_at p hop ≡ o → option_and_then (λ (kid : PbType). at kid hops) o ≡ Some q →
        ((kid : PbType) → AllSay kid → at kid hops ≡ Some q → (words : List (List ℕ)) × AreWordsBelow kid hops words) → (words : List (List ℕ)) × AreWordsBelow p (hop ∷ hops) words
    by None child e rest = absurd (cc)
    by (Some kid) child e rest =
        let says = kid_says p kid hop child all in
        let own = gives kid hop.instance (says [] kid refl) in
        let more = rest kid says e in
        (own.0 ++ more.0, (kid, child, (own.0, own.1, (more.0, more.1, refl))))

pub words_there : (block : PbType) → AllSay block → (a : Address) (p : PbType) → at block a ≡ Some p → (words : List (List ℕ)) × AreWords block a words
words_there block all a p there =
    let own = gives block 0 (all [] block refl) in
    let more = below block p a all there in
    (own.0 ++ more.0, record { own = own.0; gives = own.1; rest = more.0; below = more.1; is = refl })
