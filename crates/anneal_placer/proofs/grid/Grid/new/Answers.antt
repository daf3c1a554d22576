-- One more site, and all of them grouped by their rows.
use Rattle.std.proofs.Common.{◌≡◌, nat_eq, refl, subst, length, arith}
use Rattle.anneal_placer.specs.Cost.{site_at}
use Rattle.anneal_placer.specs.Grid.{ArePairs}
use Rattle.anneal_placer.proofs.Grids.{few_more, grouped, kept, pairs_more, rows_in, stored}
use Rattle.anneal_placer.proofs.grid.Grid.new.Goals as goal

pub loop-number-preserved : goal.loop-number-preserved
loop-number-preserved c =
    let columns = c.loop-number.columns.keys in
    let new_columns = c.insert_full.new.self.keys in
    let rows = c.loop-number.rows.keys in
    let new_rows = c.insert_full-in-loop-number.new.self.keys in
    let number = c.loop-number.number in
    let site = site_at c.args.sites.now number in
    record {
      pairs = pairs_more c.args.sites.now columns new_columns rows new_rows c.loop-number.pairs.items c.push.new.self.items
          number (c.in_ok-row.field-0.0, record { site = number; column = c.in_ok-column.field-0.0 }) c.loop-number.invariant.pairs (kept nat_eq columns new_columns site.x c.in_ok-column.ensures.keys)
          (kept nat_eq rows new_rows site.y c.in_ok-row.ensures.keys)
          (record { row = stored new_rows c.in_ok-row.field-0.0 site.y c.in_ok-row.ensures.stored; column = stored new_columns c.in_ok-column.field-0.0 site.x c.in_ok-column.ensures.stored; is = refl })
          c.in_ok-push.ensures.items;
      few_columns = few_more nat_eq columns new_columns site.x number c.in_ok-column.ensures.keys c.loop-number.invariant.few_columns;
      few_rows = few_more nat_eq rows new_rows site.y number c.in_ok-row.ensures.keys c.loop-number.invariant.few_rows;
    }

pub from_pairs-requires-clause-keys : goal.from_pairs-requires-clause-keys
from_pairs-requires-clause-keys c =
    rw (c.deref.ensures.value, c.len.ensures.len) (rows_in c.args.sites.now c.loop-number.columns.keys c.loop-number.rows.keys c.loop-number.pairs.items c.loop-number.number c.loop-number.invariant.pairs)

pub returns-clause-grid : goal.returns-clause-grid
returns-clause-grid c =
    let columns = c.loop-number.columns.keys in
    let rows = c.loop-number.rows.keys in
    let pairs = c.loop-number.pairs.items in
    let all : c.loop-number.number ≡ length c.args.sites.now = omega arith in
    let are = subst (λ n. ArePairs c.args.sites.now columns rows pairs n) all c.loop-number.invariant.pairs in
    let groups = rw (c.deref.ensures.value, c.len.ensures.len) at c.in_ok-spots.ensures in
    rw (c.in_ok-columns.ensures.items, c.as_slice.ensures.keys, c.in_ok-rows.ensures.items, c.as_slice-2.ensures.keys) (grouped c.args.sites.now columns rows pairs c.in_ok-spots.spots are groups)
