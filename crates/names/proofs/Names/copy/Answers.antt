use Rattle.std.proofs.Common.{◌≡◌, ◌∙◌, ◌<◌, Some, length, map, slice_get, string_bytes, ap, refl, sym, arith}
use Rattle.std.specs.Option.{option_map}
use Rattle.std.proofs.lemmas.List.{length-map}
use Rattle.std.proofs.lemmas.Option.{slice_get-map, slice_get_read}
use Rattle.names.proofs.TextKeys.{copied_more, names_once}
use Rattle.names.proofs.Names.copy.Goals as goal

pub loop-name-preserved : goal.loop-name-preserved
loop-name-preserved c =
    let items = c.as_slice-name-items.result.now in
    let keys = c.self.inside.names.keys in
    let low : c.loop-name.name-index < length items = omega arith in
    let inside : c.loop-name.name-index < length (map string_bytes keys) = omega (arith, length-map keys string_bytes, ap length c.as_slice-name-items.ensures.keys) in
    let read = ap (λ l. slice_get l c.loop-name.name-index) (sym c.as_slice-name-items.ensures.keys) ∙
    slice_get_read items (length items) c.loop-name.name-index c.name-item.result refl low c.name-item.is in
    let at : slice_get (map string_bytes keys) c.loop-name.name-index ≡ Some c.as_str.result.now =
    slice_get-map string_bytes keys c.loop-name.name-index ∙ ap (option_map string_bytes) read ∙ ap Some (sym c.as_str.ensures.value) in
    copied_more c.args.self.now c.loop-name.copy c.number.new.self c.loop-name.name-index c.as_str.result.now
    (rw (← c.self.view_is) (names_once string_bytes keys c.as_slice-name-items.ensures.unique))
    c.loop-name.invariant (rw (← c.self.view_is) inside) (rw (← c.self.view_is) at) c.in_ok-number.ensures.names
