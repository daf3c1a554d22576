use Rattle.std.proofs.Common.{◌≡◌, ℕ, List, Some, slice_get, sym, ap, ◌∙◌, subst}
use Rattle.std.proofs.lemmas.Result.{err_from_is_err_and}
use Rattle.loc_prefixes.proofs.Singling.{some_text, bare_tile, tile_inside, words_here, refused_here}
use Rattle.loc_prefixes.proofs.singles.read_single.Goals as goal

pub returns-in_default-clause-ok : goal.returns-in_default-clause-ok
returns-in_default-clause-ok c =
    let none = c.in_default.ensures in
    bare_tile c.args.tiles.now c.args.single.now (λ n there. none n (ap (λ (l : List (List ℕ)). slice_get l n) c.requires.names ∙ (there ∙ ap Some (sym c.as_bytes.ensures))))

pub bounds-tiles-tile : goal.bounds-tiles-tile
bounds-tiles-tile c = tile_inside c.args.tiles.now c.args.single.now c.args.places.now c.requires.names c.in-Some.tile c.as_bytes.result.now c.as_bytes.ensures c.in-Some.ensures

pub bounds-tiles-tile-in-Some : goal.bounds-tiles-tile-in-Some
bounds-tiles-tile-in-Some c = tile_inside c.args.tiles.now c.args.single.now c.args.places.now c.requires.names c.in-Some.tile c.as_bytes.result.now c.as_bytes.ensures c.in-Some.ensures

pub returns-in_err-words-clause-refused : goal.returns-in_err-words-clause-refused
returns-in_err-words-clause-refused c =
    let p = err_from_is_err_and c.from_residual.result c.from_residual.ensures.1 in
    rw (p.1, p.2) (refused_here c.args.tiles.now c.args.single.now c.args.places.now c.requires.names c.in-Some.tile c.as_bytes.result.now c.as_bytes.ensures c.in-Some.ensures
    c.index-tiles-tile.result c.index-tiles-tile.is
    (some_text c.as_bytes-text.result.now c.args.single.now.prefix c.as_bytes-text.ensures c.if-is_empty.ensures)
    c.as_bytes-text.result.now c.as_bytes-text.ensures c.in_err-words.field-0.0 c.in_err-words.ensures.refused)

pub returns-clause-ok : goal.returns-clause-ok
returns-clause-ok c =
    words_here c.args.tiles.now c.args.single.now c.args.places.now c.requires.names c.in-Some.tile c.as_bytes.result.now c.as_bytes.ensures c.in-Some.ensures
    c.index-tiles-tile.result c.index-tiles-tile.is
    (some_text c.as_bytes-text.result.now c.args.single.now.prefix c.as_bytes-text.ensures c.if-is_empty.ensures)
    c.as_bytes-text.result.now c.as_bytes-text.ensures c.in_ok-words.words c.in_ok-words.ensures.ok
