use Rattle.std.proofs.Common.{string_bytes, map, sym, ap, ◌∙◌, Some}
use Rattle.run_words.proofs.First.{map_at}
use Rattle.run_words.proofs.Rest.{IsReading, reading_more}
use Rattle.run_words.proofs.read.read_rest.Goals as goal

pub loop-place-preserved : goal.loop-place-preserved
loop-place-preserved c =
    reading_more c.args.shape.now (map string_bytes c.args.rest.now) c.loop-place.place _ _ c.as_str-word.result.now
    (map_at string_bytes c.args.rest.now c.loop-place.place c.index-rest-place.result c.loop-place-test.true c.index-rest-place.is ∙ ap Some (sym c.as_str-word.ensures.value))
    c.loop-place.invariant (c.can_join.ensures.0 c.if-not-can_join.false) c.in_ok-join.ensures
