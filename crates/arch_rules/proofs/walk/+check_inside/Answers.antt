use Rattle.std.proofs.Common.{◌≤◌, ◌++◌, length, take, arith}
use Rattle.arch_rules.specs.Elements.{name_of, kids_of}
use Rattle.arch_rules.specs.Rules.{role_at}
use Rattle.arch_rules.specs.Within.{place_in}
use Rattle.arch_rules.proofs.Below.{no_cousins, role_inner}
use Rattle.arch_rules.proofs.Siblings.{knows_none}
use Rattle.arch_rules.proofs.Passed.{handed_on, passed_none, passed_more, passed_all, breaks_here, breaks_deeper, alone, breaks_alone, breaks_of, take_whole}
use Rattle.arch_rules.proofs.walk.+check_inside.Goals as goal

pub loop-kid-init : goal.loop-kid-init
loop-kid-init t c = passed_none (place_in c.args.at) c.args.taken.now c.as_slice-kid-items.result.now

pub returns-in_err-check_one-clause-told : goal.returns-in_err-check_one-clause-told
returns-in_err-check_one-clause-told t c =
    let at = place_in c.args.at in
    let kids = c.as_slice-kid-items.result.now in
    let error = c.in_err-check_one.field-0.0 in
    λ before knows. handed_on _ c.from_residual.result error at before (kids_of c.args.elem.now) c.from_residual.ensures.1
    (breaks_of at kids (kids_of c.args.elem.now) c.as_slice-kid-items.ensures error before
    (breaks_here at c.args.taken.now c.loop-kid.taken kids c.loop-kid.kid-index c.kid-item.result c.loop-kid-test.true c.kid-item.is c.loop-kid.invariant error
    c.in_err-check_one.ensures.told before knows))

pub returns-in_err-check_inside-clause-told : goal.returns-in_err-check_inside-clause-told
returns-in_err-check_inside-clause-told t c =
    let at = place_in c.args.at in
    let kids = c.as_slice-kid-items.result.now in
    let kid = c.kid-item.result in
    let error = c.in_err-check_inside.field-0.0 in
    λ before knows. handed_on _ c.from_residual-in_err-check_inside.result error at before (kids_of c.args.elem.now) c.from_residual-in_err-check_inside.ensures.1
    (breaks_of at kids (kids_of c.args.elem.now) c.as_slice-kid-items.ensures error before
    (breaks_deeper at c.args.taken.now c.loop-kid.taken kids c.loop-kid.kid-index kid c.loop-kid-test.true c.kid-item.is c.loop-kid.invariant error
    c.in_ok-check_one.ensures.told
    (λ b known. breaks_alone error at (place_in c.inside.result) kid (b ++ take c.loop-kid.kid-index kids) c.inside.ensures
    (no_cousins (role_at at kid) (b ++ take c.loop-kid.kid-index kids) (role_inner at.parent (name_of kid) c.requires))
    (c.in_err-check_inside.ensures.told _ (knows_none (place_in c.inside.result) c.new-names.result c.new-names.ensures)))
    before knows))

pub loop-kid-preserved : goal.loop-kid-preserved
loop-kid-preserved t c =
    let at = place_in c.args.at in
    let kids = c.as_slice-kid-items.result.now in
    let kid = c.kid-item.result in
    passed_more at c.args.taken.now c.loop-kid.taken kids c.loop-kid.kid-index kid c.loop-kid-test.true c.kid-item.is c.loop-kid.invariant c.check_one.new.taken
    c.in_ok-check_one.ensures.told c.in_ok-check_one.ensures.knows
    (λ b known. alone at (place_in c.inside.result) kid (b ++ take c.loop-kid.kid-index kids) c.inside.ensures
    (no_cousins (role_at at kid) (b ++ take c.loop-kid.kid-index kids) (role_inner at.parent (name_of kid) c.requires))
    (c.in_ok-check_inside.ensures.told _ (knows_none (place_in c.inside.result) c.new-names.result c.new-names.ensures)))

pub returns-clause-told : goal.returns-clause-told
returns-clause-told t c =
    let whole : length c.as_slice-kid-items.result.now ≤ c.loop-kid.kid-index = omega arith in
    λ before knows. (passed_all (place_in c.args.at) c.args.taken.now c.loop-kid.taken c.as_slice-kid-items.result.now (kids_of c.args.elem.now) c.loop-kid.kid-index
    (take_whole c.as_slice-kid-items.result.now c.loop-kid.kid-index whole) c.as_slice-kid-items.ensures c.loop-kid.invariant before knows).0

pub returns-clause-knows : goal.returns-clause-knows
returns-clause-knows t c =
    let whole : length c.as_slice-kid-items.result.now ≤ c.loop-kid.kid-index = omega arith in
    λ before knows. (passed_all (place_in c.args.at) c.args.taken.now c.loop-kid.taken c.as_slice-kid-items.result.now (kids_of c.args.elem.now) c.loop-kid.kid-index
    (take_whole c.as_slice-kid-items.result.now c.loop-kid.kid-index whole) c.as_slice-kid-items.ensures c.loop-kid.invariant before knows).1
