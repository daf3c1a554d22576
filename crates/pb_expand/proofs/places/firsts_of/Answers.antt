use Rattle.std.proofs.Common.{◌≡◌, ◌∷◌, [], ◌++◌, Some, length, get_or, slice_get, refl, ap, ◌∙◌, subst, arith, length-append}
use Rattle.std.proofs.lemmas.Option.{slice_get-get_or, slice_get_read}
use Rattle.pb_expand.specs.Graph.{pb_ix, step_from}
use Rattle.pb_expand.proofs.RowLemmas.{length-addresses, row_says}
use Rattle.pb_expand.proofs.Firsts.{like_there, first_begins, first_more}
use Rattle.pb_expand.proofs.places.firsts_of.Goals as goal

pub loop-row-init : goal.loop-row-init
loop-row-init c =
    let one = c.in_ok-push.ensures.items ∙ ap (λ l. l ++ pb_ix 0 ∷ []) c.in_ok-firsts.ensures.items in
    (ap length one, first_begins c.args.rows.now.keys c.push.new.self.items one)

pub index-parent-requires : goal.index-parent-requires
index-parent-requires c =
    let d = step_from 0 0 0 0 in
    let row = get_or c.as_slice-row-items.result.now c.loop-row.row-index d in
    let at_k : slice_get c.args.rows.now.keys c.loop-row.row-index ≡ Some row =
    subst (λ l. slice_get l c.loop-row.row-index ≡ Some row) c.as_slice-row-items.ensures.keys (slice_get-get_or c.as_slice-row-items.result.now c.loop-row.row-index d c.loop-row-test.true) in
    omega (arith, c.requires.tree.earlier c.loop-row.row-index row at_k, c.loop-row.invariant.0, c.loop-row.firsts.ok)

pub owner_of-requires-clause-there : goal.owner_of-requires-clause-there
owner_of-requires-clause-there c =
    let d = step_from 0 0 0 0 in
    let rows = c.args.rows.now.keys in
    let k = c.loop-row.row-index in
    let firsts = c.loop-row.firsts.items in
    let row = get_or c.as_slice-row-items.result.now k d in
    let at_k : slice_get rows k ≡ Some row =
    subst (λ l. slice_get l k ≡ Some row) c.as_slice-row-items.ensures.keys (slice_get-get_or c.as_slice-row-items.result.now k d c.loop-row-test.true) in
    let says = row_says rows k row c.requires.tree at_k in
    let f = c.index-parent.result.now in
    let at_f = slice_get_read firsts (length firsts) row.parent.0 f refl (omega (arith, c.requires.tree.earlier k row at_k, c.loop-row.invariant.0)) c.index-parent.ensures in
    like_there c.args.root.now rows k f.0 row says.parent c.requires.tree c.requires.numbering at_k says.is_parent (c.loop-row.invariant.1 row.parent.0 says.parent f says.is_parent at_f)

pub loop-row-preserved : goal.loop-row-preserved
loop-row-preserved c =
    let d = step_from 0 0 0 0 in
    let rows = c.args.rows.now.keys in
    let k = c.loop-row.row-index in
    let firsts = c.loop-row.firsts.items in
    let row = get_or c.as_slice-row-items.result.now k d in
    let at_k : slice_get rows k ≡ Some row =
    subst (λ l. slice_get l k ≡ Some row) c.as_slice-row-items.ensures.keys (slice_get-get_or c.as_slice-row-items.result.now k d c.loop-row-test.true) in
    let says = row_says rows k row c.requires.tree at_k in
    let f = c.index-parent.result.now in
    let g = c.owner_of.result in
    let at_f = slice_get_read firsts (length firsts) row.parent.0 f refl (omega (arith, c.requires.tree.earlier k row at_k, c.loop-row.invariant.0)) c.index-parent.ensures in (
      ap length c.in_ok-push-2.ensures.items ∙ length-append firsts (g ∷ []) ∙ omega (arith, c.loop-row.invariant.0),
      first_more rows k row says.parent f g firsts c.push-in-loop-row.new.self.items c.requires.tree at_k says.is_parent
          (c.loop-row.invariant.1 row.parent.0 says.parent f says.is_parent at_f) c.owner_of.ensures c.loop-row.invariant.0 c.loop-row.invariant.1 c.in_ok-push-2.ensures.items,
    )

pub returns : goal.returns
returns c =
    record {
      all = omega (arith, c.loop-row.invariant.0, length-addresses c.args.rows.now.keys, ap length c.as_slice-row-items.ensures.keys, c.loop-row-test.false, c.loop-row.auto.row-index-end);
      each = c.loop-row.invariant.1;
    }
