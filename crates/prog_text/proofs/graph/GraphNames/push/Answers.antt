use Rattle.std.proofs.Common.{◌≡◌, ◌<◌, ◌++◌, ◌∷◌, [], length, refl, ap, ◌∙◌, arith}
use Rattle.std.proofs.lemmas.Option.{slice_get_read}
use Rattle.prog_text.proofs.BlockTables.{names_shared, names_added, hung_by}
use Rattle.prog_text.proofs.graph.GraphNames.push.Goals as goal

pub returns-then-first-pb : goal.returns-then-first-pb
returns-then-first-pb c =
    let places = c.args.self.now.places.items in
    let first = c.first_like-first.result.0 in
    let inside : first < length places = omega (arith, c.if-first-pb.true, c.requires.before.all) in
    names_shared c.args.graph.now c.args.pb.0 first c.index-place.result.now c.args.self.now _ c.requires.before c.in_ok-push.ensures.items refl
    (slice_get_read places (length places) first c.index-place.result.now refl inside c.index-place.ensures) c.first_like-first.ensures.same
    (hung_by c.args.graph.now c.args.pb.0 c.address_of-step.result c.address_of-step.ensures.root.0 c.address_of-step.ensures.step)

pub returns : goal.returns
returns c =
    let size : c.len-place.result ≡ length c.args.self.now.blocks.items = omega (arith, c.len-place.ensures, c.args.self.now.blocks.ok) in
    names_added c.args.graph.now c.args.pb.0 c.block_of.result.now c.in_ok-names.names c.args.self.now _ c.requires.before
    (c.in_ok-push-3.ensures.items ∙ ap (λ k. c.args.self.now.places.items ++ k ∷ []) size) c.in_ok-push-2.ensures.items c.block_of.ensures.is c.in_ok-names.ensures
    (hung_by c.args.graph.now c.args.pb.0 c.address_of-step.result c.address_of-step.ensures.root.0 c.address_of-step.ensures.step)
