use Rattle.std.proofs.Common.{◌≡◌, Err, ◌+◌, ◌<◌, ◌++◌, [], length, get_or, drop, refl, sym, ap, ◌∙◌, subst, arith}
use Rattle.arch_types.specs.Address.{below, step_to}
use Rattle.arch_types.specs.Tree.{kids_of}
use Rattle.arch_types.proofs.TreeRows.{modes_from, kids_from, below_modes_are}
use Rattle.pb_expand.specs.Graph.{step_from}
use Rattle.pb_expand.specs.Rows.{addresses}
use Rattle.pb_expand.specs.declared.error.SizeError.TheVariants as size
use Rattle.pb_expand.proofs.Told.{passed_on}
use Rattle.pb_expand.proofs.Grows.{grew_starts, grew_by, mode_begin, kid_pushed, kids_at, no_room, no_room_below}
use Rattle.pb_expand.proofs.Copies.{goes_starts, ends_with, kid_opens, kid_none, has_first, has_others, others_no_room}
use Rattle.pb_expand.proofs.rows.+push_below.Goals as goal
use Rattle.pb_expand.proofs.rows.+push_below.Goals.{then-kid-gt0+in_ok-first-in-Modes+in_ok-push_below-in-Modes+in_ok-push_copies-in-Modes, else-kid-gt0}

pub loop-mode-init : goal.loop-mode-init
loop-mode-init t c =
    let here = get_or (addresses c.args.rows.now.items) c.args.here.0 [] in
    let modes : c.in_ok-inside-items-in-Modes.inside-items.now ≡ c.in-Modes.modes = c.in_ok-inside-items-in-Modes.ensures.0 ∙ c.as_slice.ensures in
    record {
      goes = goes_starts c.args.rows.now.items c.args.here.0;
      grew = grew_by c.args.rows.now.items c.args.rows.now.items (below c.args.block.now.kind here) (modes_from c.in_ok-inside-items-in-Modes.inside-items.now 0 here)
          (below c.args.block.now.kind here) (grew_starts c.args.rows.now.items (below c.args.block.now.kind here) c.requires.tree)
          (below_modes_are c.args.block.now.kind c.in-Modes.modes c.in-Modes.is here ∙ ap (λ ms. modes_from ms 0 here) (sym modes));
    }

pub loop-child-init : goal.loop-child-init
loop-child-init t c =
    let here = get_or (addresses c.args.rows.now.items) c.args.here.0 [] in
    let modes = c.in_ok-inside-items-in-Modes.inside-items.now in
    let kids = c.in_ok-kid-items-in-Modes.kid-items.now in
    let are : kids_of c.inside-item.result ≡ kids = sym (c.in_ok-kid-items-in-Modes.ensures.0 ∙ c.as_slice-in-loop-mode.ensures) in
    record {
      goes = c.loop-mode.invariant.goes;
      grew = grew_by c.args.rows.now.items c.loop-mode.rows.items (modes_from (drop c.loop-mode.mode modes) c.loop-mode.mode here)
          (kids_from kids c.loop-mode.mode 0 here ++ modes_from (drop (c.loop-mode.mode + 1) modes) (c.loop-mode.mode + 1) here)
          (below c.args.block.now.kind here) c.loop-mode.invariant.grew
          (mode_begin modes c.loop-mode.mode here c.inside-item.result kids c.loop-mode-test.true c.inside-item.is are);
    }

pub push_below-requires : goal.push_below-requires
push_below-requires t c =
    let here = get_or (addresses c.args.rows.now.items) c.args.here.0 [] in
    let kids = c.in_ok-kid-items-in-Modes.kid-items.now in
    let tail = modes_from (drop (c.loop-mode.mode + 1) c.in_ok-inside-items-in-Modes.inside-items.now) (c.loop-mode.mode + 1) here in
    let all = below c.args.block.now.kind here in
    let opens = kid_opens c.args.rows.now.items c.loop-child.rows.items kids c.loop-mode.mode c.loop-child.child here tail all c.loop-child.invariant.grew in
    let first = step_to here c.loop-mode.mode c.loop-child.child 0 in
    let pushed = kid_pushed c.args.rows.now.items c.loop-child.rows.items c.push_row.new.rows.items c.args.here.0 c.loop-mode.mode c.loop-child.child
    0 here kids c.kid-item.result tail all opens c.loop-child-test.true c.kid-item.is c.if-kid-gt0.true c.requires.there refl
    c.in_ok-first-in-Modes.ensures.added c.in_ok-first-in-Modes.ensures.few in
    let number = c.in_ok-first-in-Modes.ensures.number in
    let address = ap (λ n. get_or (addresses c.push_row.new.rows.items) n []) number ∙ pushed.address in
    let d = c.decreases in
    (subst (λ a. length (below c.kid-item.result.kind a) < t) (sym address) (omega (arith, pushed.less, d)), (pushed.grew.tree, omega (arith, number)))

pub push_copies-requires-clause-first : goal.push_copies-requires-clause-first
push_copies-requires-clause-first t c =
    ends_with c.loop-child.rows.items c.push_row.new.rows.items c.push_below.new.rows.items
    (step_from c.args.here.0 c.loop-mode.mode c.loop-child.child 0) c.in_ok-first-in-Modes.first.0 c.kid-item.result.kind
    c.in_ok-first-in-Modes.ensures.added c.in_ok-first-in-Modes.ensures.number c.in_ok-push_below-in-Modes.ensures.behind c.in_ok-push_below-in-Modes.ensures.added

pub loop-child-preserved : goal.loop-child-preserved
loop-child-preserved t c =
    let here = get_or (addresses c.args.rows.now.items) c.args.here.0 [] in
    let kids = c.in_ok-kid-items-in-Modes.kid-items.now in
    let tail = modes_from (drop (c.loop-mode.mode + 1) c.in_ok-inside-items-in-Modes.inside-items.now) (c.loop-mode.mode + 1) here in
    let all = below c.args.block.now.kind here in
    elim c.if-kid-gt0.branch [
      | then-kid-gt0+in_ok-first-in-Modes+in_ok-push_below-in-Modes+in_ok-push_copies-in-Modes w ↦
          let whole = has_first c.args.rows.now.items c.loop-child.rows.items w.push_row.new.rows.items w.push_below.new.rows.items c.args.here.0 c.loop-mode.mode
          c.loop-child.child w.in_ok-first-in-Modes.first.0 here kids c.kid-item.result tail all c.loop-child.invariant c.loop-child-test.true c.kid-item.is w.if-kid-gt0.true
          c.requires.there refl w.in_ok-first-in-Modes.ensures.added w.in_ok-first-in-Modes.ensures.few w.in_ok-first-in-Modes.ensures.number
          w.in_ok-push_below-in-Modes.ensures.tree w.in_ok-push_below-in-Modes.ensures.behind w.in_ok-push_below-in-Modes.ensures.added w.in_ok-push_below-in-Modes.ensures.few in
          rw w.rows-is
          (has_others c.args.rows.now.items w.push_below.new.rows.items w.push_copies.new.rows.items c.args.here.0 c.loop-mode.mode c.loop-child.child here kids
          c.kid-item.result tail all whole w.in_ok-push_copies-in-Modes.ensures.tree w.in_ok-push_copies-in-Modes.ensures.behind
          w.in_ok-push_copies-in-Modes.ensures.added w.in_ok-push_copies-in-Modes.ensures.few)
      | else-kid-gt0 w ↦ rw w.rows-is
          (kid_none c.args.rows.now.items c.loop-child.rows.items c.args.here.0 kids c.loop-mode.mode c.loop-child.child here c.kid-item.result tail all c.loop-child.invariant
          c.loop-child-test.true c.kid-item.is w.if-kid-gt0.false)
    ]

pub returns-in_err-first-in-Modes-clause-many : goal.returns-in_err-first-in-Modes-clause-many
returns-in_err-first-in-Modes-clause-many t c = λ told.
    let here = get_or (addresses c.args.rows.now.items) c.args.here.0 [] in
    let kids = c.in_ok-kid-items-in-Modes.kid-items.now in
    let tail = modes_from (drop (c.loop-mode.mode + 1) c.in_ok-inside-items-in-Modes.inside-items.now) (c.loop-mode.mode + 1) here in
    let all = below c.args.block.now.kind here in
    let opens = kid_opens c.args.rows.now.items c.loop-child.rows.items kids c.loop-mode.mode c.loop-child.child here tail all c.loop-child.invariant.grew in
    no_room c.args.rows.now.items c.loop-child.rows.items kids c.kid-item.result c.loop-mode.mode c.loop-child.child 0 here tail all opens
    c.loop-child-test.true c.kid-item.is c.if-kid-gt0.true
    (c.in_err-first-in-Modes.ensures.many (ap Err (passed_on _ c.in_err-first-in-Modes.field-0.0 size.TooMany c.from_residual-in_err-first-in-Modes.ensures.1 told)))

pub returns-in_err-push_below-in-Modes-clause-many : goal.returns-in_err-push_below-in-Modes-clause-many
returns-in_err-push_below-in-Modes-clause-many t c = λ told.
    let here = get_or (addresses c.args.rows.now.items) c.args.here.0 [] in
    let kids = c.in_ok-kid-items-in-Modes.kid-items.now in
    let tail = modes_from (drop (c.loop-mode.mode + 1) c.in_ok-inside-items-in-Modes.inside-items.now) (c.loop-mode.mode + 1) here in
    let all = below c.args.block.now.kind here in
    let opens = kid_opens c.args.rows.now.items c.loop-child.rows.items kids c.loop-mode.mode c.loop-child.child here tail all c.loop-child.invariant.grew in
    let first = step_to here c.loop-mode.mode c.loop-child.child 0 in
    let pushed = kid_pushed c.args.rows.now.items c.loop-child.rows.items c.push_row.new.rows.items c.args.here.0 c.loop-mode.mode c.loop-child.child
    0 here kids c.kid-item.result tail all opens c.loop-child-test.true c.kid-item.is c.if-kid-gt0.true c.requires.there refl
    c.in_ok-first-in-Modes.ensures.added c.in_ok-first-in-Modes.ensures.few in
    let number = c.in_ok-first-in-Modes.ensures.number in
    let address = ap (λ n. get_or (addresses c.push_row.new.rows.items) n []) number ∙ pushed.address in
    let full = c.in_err-push_below-in-Modes.ensures.many (ap Err (passed_on _ c.in_err-push_below-in-Modes.field-0.0 size.TooMany c.from_residual-in_err-push_below-in-Modes.ensures.1 told)) in
    no_room_below c.args.rows.now.items c.push_row.new.rows.items (below c.kid-item.result.kind first)
    (kids_at (drop c.loop-child.child kids) c.loop-mode.mode c.loop-child.child 1 here ++ tail) all pushed.grew
    (subst (λ a. 1048575 < length c.push_row.new.rows.items + length (below c.kid-item.result.kind a)) address full)

pub returns-in_err-push_copies-in-Modes-clause-many : goal.returns-in_err-push_copies-in-Modes-clause-many
returns-in_err-push_copies-in-Modes-clause-many t c = λ told.
    let here = get_or (addresses c.args.rows.now.items) c.args.here.0 [] in
    let kids = c.in_ok-kid-items-in-Modes.kid-items.now in
    let tail = modes_from (drop (c.loop-mode.mode + 1) c.in_ok-inside-items-in-Modes.inside-items.now) (c.loop-mode.mode + 1) here in
    let all = below c.args.block.now.kind here in
    let whole = has_first c.args.rows.now.items c.loop-child.rows.items c.push_row.new.rows.items c.push_below.new.rows.items c.args.here.0 c.loop-mode.mode
    c.loop-child.child c.in_ok-first-in-Modes.first.0 here kids c.kid-item.result tail all c.loop-child.invariant c.loop-child-test.true c.kid-item.is c.if-kid-gt0.true
    c.requires.there refl c.in_ok-first-in-Modes.ensures.added c.in_ok-first-in-Modes.ensures.few c.in_ok-first-in-Modes.ensures.number
    c.in_ok-push_below-in-Modes.ensures.tree c.in_ok-push_below-in-Modes.ensures.behind c.in_ok-push_below-in-Modes.ensures.added c.in_ok-push_below-in-Modes.ensures.few in
    others_no_room c.args.rows.now.items c.push_below.new.rows.items c.args.here.0 c.loop-mode.mode c.loop-child.child here kids c.kid-item.result tail all whole
    (c.in_err-push_copies-in-Modes.ensures.many (ap Err (passed_on _ c.in_err-push_copies-in-Modes.field-0.0 size.TooMany c.from_residual-in_err-push_copies-in-Modes.ensures.1 told)))
