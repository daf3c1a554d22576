use Rattle.std.proofs.Common.{◌≡◌, ◌<◌, length, refl, sym, ◌∙◌, subst, arith}
use Rattle.std.proofs.lemmas.Option.{slice_get_read, slice_get_within}
use Rattle.prog_text.specs.Table.{HasNames}
use Rattle.prog_map.proofs.Climbs.{some_injective}
use Rattle.prog_text.proofs.graph.GraphNames.of.Goals as goal

pub index-requires-2 : goal.index-requires-2
index-requires-2 c =
    let places = c.args.self.now.places.items in
    let inside : c.args.pb.0 < length places = omega (arith, c.requires.there, c.requires.of.tables.all) in
    let at = c.requires.of.tables.each c.args.pb.0 c.index.result.now (slice_get_read places (length places) c.args.pb.0 c.index.result.now refl inside c.index.ensures) in
    omega (arith, slice_get_within c.args.self.now.blocks.items c.index.result.now at.names at.there, c.args.self.now.blocks.ok)

pub returns : goal.returns
returns c =
    let places = c.args.self.now.places.items in
    let blocks = c.args.self.now.blocks.items in
    let inside : c.args.pb.0 < length places = omega (arith, c.requires.there, c.requires.of.tables.all) in
    let at = c.requires.of.tables.each c.args.pb.0 c.index.result.now (slice_get_read places (length places) c.args.pb.0 c.index.result.now refl inside c.index.ensures) in
    let read = slice_get_read blocks (length blocks) c.index.result.now c.index-2.result.now refl (slice_get_within blocks c.index.result.now at.names at.there) c.index-2.ensures in
    let same : at.names ≡ c.index-2.result.now = some_injective (sym at.there ∙ read) in
    subst (λ names. HasNames c.args.graph.now c.args.pb.0 names) same at.has
