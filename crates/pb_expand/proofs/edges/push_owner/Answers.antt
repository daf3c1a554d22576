use Rattle.std.proofs.Common.{◌≡◌, ◌<◌, map, length, refl, sym, ap, subst, arith}
use Rattle.std.proofs.lemmas.Option.{slice_get_read}
use Rattle.pb_expand.specs.Making.{AreModeEdgesOf}
use Rattle.pb_expand.specs.declared.number.PbIx.{PbIx}
use Rattle.pb_expand.proofs.ModeLists.{known_at}
use Rattle.pb_expand.proofs.edges.push_owner.Goals as goal

pub push_known-requires-clause-kept : goal.push_known-requires-clause-kept
push_known-requires-clause-kept c =
    let blocks = map (λ b. b.now) c.args.places.now.blocks.items in
    let firsts = c.args.places.now.firsts.items in
    let first = c.index-first.result.now in
    let lists = c.args.lists.now in
    let made = c.index-lists-first.result in
    let at_n = slice_get_read firsts (length firsts) c.args.owner.0 first refl (omega (arith, c.requires.there, c.requires.all_firsts)) c.index-first.ensures in
    let inside : first.0 < length lists = omega (arith, c.if-first-owner.false, c.requires.all_lists) in
    let at_f = slice_get_read lists (length lists) first.0 made refl inside c.index-lists-first.is in
    subst (λ l. AreModeEdgesOf blocks c.args.owner.0 l) (sym c.as_slice.ensures.value)
    (known_at blocks firsts lists c.args.owner.0 first made c.requires.firsts c.requires.lists at_n at_f)

pub returns-clause-made : goal.returns-clause-made
returns-clause-made c = λ itself.
    let firsts = c.args.places.now.firsts.items in
    let first = c.index-first.result.now in
    let at_n = slice_get_read firsts (length firsts) c.args.owner.0 first refl (omega (arith, c.requires.there, c.requires.all_firsts)) c.index-first.ensures in
    let same : first ≡ c.args.owner = cc (itself, at_n) in
    let numbers : first.0 ≡ c.args.owner.0 = ap (λ (x : PbIx). x.0) same in
    absurd (omega (arith, c.if-first-owner.false))
