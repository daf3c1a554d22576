use Rattle.std.proofs.Common.{◌<◌, ◌^◌, ◌∷◌, [], map, length, ap, ◌∙◌, subst}
use Rattle.std.proofs.lemmas.List.{map-append}
use Rattle.arch_types.specs.Tree.{modes_of}
use Rattle.pb_expand.proofs.BlockList.{short_push}
use Rattle.pb_expand.proofs.places.push_block.Goals as goal

pub returns-clause-short : goal.returns-clause-short
returns-clause-short c =
    let fits : length (modes_of c.args.block.now.kind) < 2 ^ 32 =
    subst (λ ms. length ms < 2 ^ 32) (c.in_ok-short.ensures.0 ∙ c.modes_in.ensures) c.in_ok-short.ensures.1 in
    let few : length c.args.block.now.ports < 2 ^ 32 = subst (λ ps. length ps < 2 ^ 32) (c.in_ok-short-2.ensures.0 ∙ c.as_slice.ensures) c.in_ok-short-2.ensures.1 in
    short_push (map (λ b. b.now) c.args.blocks.now.items) (map (λ b. b.now) c.push.new.self.items) c.args.block.now c.requires (fits, few)
    (ap (λ l. map (λ b. b.now) l) c.in_ok-push.ensures.items ∙ map-append (λ b. b.now) c.args.blocks.now.items (c.args.block ∷ []))
