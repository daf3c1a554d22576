use Rattle.std.proofs.Common.{◌≡◌, ◌+◌, ◌++◌, refl, sym, drop, ap, ◌∙◌}
use Rattle.arch_types.specs.Tree.{kids_of}
use Rattle.pb_expand.specs.Types.{own_modes, modes_below, modes_in_tree}
use Rattle.pb_expand.specs.Refusals.{TellsFirstIn}
use Rattle.pb_expand.proofs.Told.{passed_with}
use Rattle.pb_expand.proofs.TypeLemmas.{modes_list, kids_list, modes_below_is}
use Rattle.pb_expand.proofs.FirstFaults.{goes_all, goes_by, goes_past, goes_wrong, modes_step, kids_step}
use Rattle.pb_expand.proofs.faults.+check_tree.Goals as goal

pub returns-in_err-check_own-clause-fault : goal.returns-in_err-check_own-clause-fault
returns-in_err-check_own-clause-fault t c =
    let block = c.args.block.now in
    passed_with (TellsFirstIn (modes_in_tree block)) _ c.in_err-check_own.field-0.0 c.from_residual.ensures.1
    (goes_wrong (modes_in_tree block) (own_modes block) (modes_below block.kind) c.in_err-check_own.field-0.0 (goes_all (modes_in_tree block) (modes_in_tree block) refl)
    c.in_err-check_own.ensures.fault)

pub loop-mode-init : goal.loop-mode-init
loop-mode-init t c =
    let block = c.args.block.now in
    goes_by (modes_in_tree block) (modes_below block.kind) (modes_list c.modes_in-mode-items.result.now)
    (goes_past (modes_in_tree block) (own_modes block) (modes_below block.kind) (goes_all (modes_in_tree block) (modes_in_tree block) refl) c.in_ok-check_own.ensures.sound)
    (modes_below_is block.kind ∙ ap modes_list (sym c.modes_in-mode-items.ensures))

pub loop-kid-init : goal.loop-kid-init
loop-kid-init t c =
    let block = c.args.block.now in
    let modes = c.modes_in-mode-items.result.now in
    let k = c.loop-mode.mode-index in
    let are : kids_of c.mode-item.result ≡ c.as_slice-kid-items.result.now = sym c.as_slice-kid-items.ensures in
    goes_by (modes_in_tree block) (modes_list (drop k modes)) (kids_list c.as_slice-kid-items.result.now ++ modes_list (drop (k + 1) modes)) c.loop-mode.invariant
    (modes_step modes k c.mode-item.result c.as_slice-kid-items.result.now c.loop-mode-test.true c.mode-item.is are)

pub returns-in_err-check_tree-clause-fault : goal.returns-in_err-check_tree-clause-fault
returns-in_err-check_tree-clause-fault t c =
    let block = c.args.block.now in
    let modes = c.modes_in-mode-items.result.now in
    let kids = c.as_slice-kid-items.result.now in
    let k = c.loop-kid.kid-index in
    let tail = modes_list (drop (c.loop-mode.mode-index + 1) modes) in
    let goes = goes_by (modes_in_tree block) (kids_list (drop k kids) ++ tail) (modes_in_tree c.kid-item.result ++ (kids_list (drop (k + 1) kids) ++ tail)) c.loop-kid.invariant
    (kids_step kids k c.kid-item.result tail c.loop-kid-test.true c.kid-item.is) in
    passed_with (TellsFirstIn (modes_in_tree block)) _ c.in_err-check_tree.field-0.0 c.from_residual-in_err-check_tree.ensures.1
    (goes_wrong (modes_in_tree block) (modes_in_tree c.kid-item.result) (kids_list (drop (k + 1) kids) ++ tail) c.in_err-check_tree.field-0.0 goes c.in_err-check_tree.ensures.fault)

pub loop-kid-preserved : goal.loop-kid-preserved
loop-kid-preserved t c =
    let block = c.args.block.now in
    let modes = c.modes_in-mode-items.result.now in
    let kids = c.as_slice-kid-items.result.now in
    let k = c.loop-kid.kid-index in
    let tail = modes_list (drop (c.loop-mode.mode-index + 1) modes) in
    let goes = goes_by (modes_in_tree block) (kids_list (drop k kids) ++ tail) (modes_in_tree c.kid-item.result ++ (kids_list (drop (k + 1) kids) ++ tail)) c.loop-kid.invariant
    (kids_step kids k c.kid-item.result tail c.loop-kid-test.true c.kid-item.is) in
    goes_past (modes_in_tree block) (modes_in_tree c.kid-item.result) (kids_list (drop (k + 1) kids) ++ tail) goes c.in_ok-check_tree.ensures.sound
