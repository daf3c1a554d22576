use Rattle.std.proofs.Common.{◌≡◌, ◌⊎◌, map, ap, ◌∙◌, subst}
use Rattle.std.specs.List.{flat_map}
use Rattle.std.proofs.lemmas.Result.{err_from_is_err_and}
use Rattle.arch_types.specs.Tree.{kids_of}
use Rattle.meta_block.specs.declared.error.MetaError.TheVariants.{OutOfMemory}
use Rattle.meta_block.specs.Owners.{pb_type_at, mode_at, RefusesOwners}
use Rattle.meta_block.specs.Blocks.{owners_below, mode_owners}
use Rattle.meta_block.specs.Steps.{AddsSaid}
use Rattle.meta_block.proofs.Adding.{adds_one}
use Rattle.meta_block.proofs.Walking.{map_push, part_added, part_refused, opened_added, opened_refused, mode_added, mode_refused, inters_refused, kids_refused, opened_mode_added, pb_type_refused, own_mode_refused}
use Rattle.meta_block.proofs.walk.+owners.Goals as goal

pub read_kids-returns-in_err-read_pb_type-clause-refused : goal.read_kids-returns-in_err-read_pb_type-clause-refused
read_kids-returns-in_err-read_pb_type-clause-refused t c =
    let p = err_from_is_err_and c.from_residual.result c.from_residual.ensures.1 in
    rw (p.1, p.2) (part_refused owners_below (map (λ n. n.now) c.args.way.now.items) (map (λ n. n.now) c.loop-kid.way.items) (ap (map (λ n. n.now)) c.loop-kid.invariant.way) c.args.kids.now
    c.loop-kid.kid-index c.kid-item.result c.args.said.now.items c.loop-kid.said.items c.in_err-read_pb_type.field-0.0 c.loop-kid-test.true c.kid-item.is c.loop-kid.invariant.said
    c.in_err-read_pb_type.ensures.refused)

pub read_kids-loop-kid-preserved : goal.read_kids-loop-kid-preserved
read_kids-loop-kid-preserved t c = record {
  way = c.in_ok-read_pb_type.ensures.way ∙ c.loop-kid.invariant.way;
  said = part_added owners_below (map (λ n. n.now) c.args.way.now.items) (map (λ n. n.now) c.loop-kid.way.items) (ap (map (λ n. n.now)) c.loop-kid.invariant.way) c.args.kids.now
      c.loop-kid.kid-index c.kid-item.result c.args.said.now.items c.loop-kid.said.items c.read_pb_type.new.said.items c.loop-kid-test.true c.kid-item.is c.loop-kid.invariant.said
      c.in_ok-read_pb_type.ensures.ok;
}

pub read_modes-returns-in_err-read_mode-clause-refused : goal.read_modes-returns-in_err-read_mode-clause-refused
read_modes-returns-in_err-read_mode-clause-refused t c =
    let p = err_from_is_err_and c.from_residual.result c.from_residual.ensures.1 in
    rw (p.1, p.2) (part_refused (λ way. mode_owners way c.args.ports.now) (map (λ n. n.now) c.args.way.now.items) (map (λ n. n.now) c.loop-mode.way.items) (ap (map (λ n. n.now)) c.loop-mode.invariant.way)
    c.args.modes.now c.loop-mode.mode-index c.mode-item.result c.args.said.now.items c.loop-mode.said.items c.in_err-read_mode.field-0.0 c.loop-mode-test.true c.mode-item.is c.loop-mode.invariant.said
    c.in_err-read_mode.ensures.refused)

pub read_modes-loop-mode-preserved : goal.read_modes-loop-mode-preserved
read_modes-loop-mode-preserved t c = record {
  way = c.in_ok-read_mode.ensures.way ∙ c.loop-mode.invariant.way;
  said = part_added (λ way. mode_owners way c.args.ports.now) (map (λ n. n.now) c.args.way.now.items) (map (λ n. n.now) c.loop-mode.way.items) (ap (map (λ n. n.now)) c.loop-mode.invariant.way)
      c.args.modes.now c.loop-mode.mode-index c.mode-item.result c.args.said.now.items c.loop-mode.said.items c.read_mode.new.said.items c.loop-mode-test.true c.mode-item.is c.loop-mode.invariant.said
      c.in_ok-read_mode.ensures.ok;
}

pub read_mode-returns-in_err-read_opened_mode-clause-refused : goal.read_mode-returns-in_err-read_opened_mode-clause-refused
read_mode-returns-in_err-read_opened_mode-clause-refused t c =
    let p = err_from_is_err_and c.from_residual-in_err-read_opened_mode.result c.from_residual-in_err-read_opened_mode.ensures.1 in
    rw (p.1, p.2) (mode_refused (map (λ n. n.now) c.args.way.now.items) (map (λ n. n.now) c.push.new.self.items) c.args.ports.now c.args.mode.now
    (map_push (λ n. n.now) c.args.way.now.items c.push.new.self.items _ c.in_ok-push.ensures.items) c.in_err-read_opened_mode.field-0.0 c.in_err-read_opened_mode.ensures.refused)

pub read_mode-returns-clause-ok : goal.read_mode-returns-clause-ok
read_mode-returns-clause-ok t c =
    mode_added (map (λ n. n.now) c.args.way.now.items) (map (λ n. n.now) c.push.new.self.items) c.args.ports.now c.args.mode.now
    (map_push (λ n. n.now) c.args.way.now.items c.push.new.self.items _ c.in_ok-push.ensures.items) c.args.said.now.items c.read_opened_mode.new.said.items c.in_ok-read_opened_mode.ensures.ok

pub read_opened-returns-in_err-own-clause-refused : goal.read_opened-returns-in_err-own-clause-refused
read_opened-returns-in_err-own-clause-refused t c =
    let p = err_from_is_err_and c.from_residual.result c.from_residual.ensures.1 in
    rw (p.1, p.2) (pb_type_refused c.args.block.now (map (λ n. n.now) c.args.way.now.items) (map (λ n. n.now) c.as_slice.result.now) c.in_err-own.field-0.0
    (ap (map (λ n. n.now)) c.as_slice.ensures.value) c.in_err-own.ensures.refused)

pub read_opened-returns-in_err-read_modes-in-Modes-clause-refused : goal.read_opened-returns-in_err-read_modes-in-Modes-clause-refused
read_opened-returns-in_err-read_modes-in-Modes-clause-refused t c =
    let p = err_from_is_err_and c.from_residual-in_err-read_modes-in-Modes.result c.from_residual-in_err-read_modes-in-Modes.ensures.1 in
    let way = map (λ n. n.now) c.args.way.now.items in
    let e = c.in_err-read_modes-in-Modes.field-0.0 in
    rw (p.1, p.2) (opened_refused way c.args.block.now c.in-Modes.modes c.in-Modes.is c.args.said.now.items c.push.new.self.items e
    (adds_one (pb_type_at way c.args.block.now) _ c.args.said.now.items c.push.new.self.items c.in_ok-own.ensures.ok c.in_ok-push.ensures.items)
    (subst (λ block. (e ≡ OutOfMemory) ⊎ RefusesOwners (flat_map (mode_owners way block) c.in-Modes.modes) e) c.in_ok-ports-in-Modes.ensures
    (subst (λ modes. (e ≡ OutOfMemory) ⊎ RefusesOwners (flat_map (mode_owners way c.in_ok-ports-in-Modes.ports) modes) e) c.as_slice-in-Modes.ensures c.in_err-read_modes-in-Modes.ensures.refused)))

pub read_opened-returns-in_ok-read_modes-in-Modes-clause-ok : goal.read_opened-returns-in_ok-read_modes-in-Modes-clause-ok
read_opened-returns-in_ok-read_modes-in-Modes-clause-ok t c =
    let way = map (λ n. n.now) c.args.way.now.items in
    let old = c.push.new.self.items in
    let new = c.read_modes.new.said.items in
    opened_added way c.args.block.now c.in-Modes.modes c.in-Modes.is c.args.said.now.items old new
    (adds_one (pb_type_at way c.args.block.now) _ c.args.said.now.items old c.in_ok-own.ensures.ok c.in_ok-push.ensures.items)
    (subst (λ block. AddsSaid (flat_map (mode_owners way block) c.in-Modes.modes) old new) c.in_ok-ports-in-Modes.ensures
    (subst (λ modes. AddsSaid (flat_map (mode_owners way c.in_ok-ports-in-Modes.ports) modes) old new) c.as_slice-in-Modes.ensures c.in_ok-read_modes-in-Modes.ensures.ok))

pub read_opened_mode-returns-in_err-own-clause-refused : goal.read_opened_mode-returns-in_err-own-clause-refused
read_opened_mode-returns-in_err-own-clause-refused t c =
    let p = err_from_is_err_and c.from_residual.result c.from_residual.ensures.1 in
    rw (p.1, p.2) (own_mode_refused c.args.ports.now c.args.mode.now (map (λ n. n.now) c.args.way.now.items) (map (λ n. n.now) c.as_slice.result.now) c.in_err-own.field-0.0
    (ap (map (λ n. n.now)) c.as_slice.ensures.value) c.in_err-own.ensures.refused)

pub read_opened_mode-returns-in_err-read_inters-clause-refused : goal.read_opened_mode-returns-in_err-read_inters-clause-refused
read_opened_mode-returns-in_err-read_inters-clause-refused t c =
    let p = err_from_is_err_and c.from_residual-in_err-read_inters.result c.from_residual-in_err-read_inters.ensures.1 in
    let way = map (λ n. n.now) c.args.way.now.items in
    rw (p.1, p.2) (inters_refused way c.args.ports.now c.args.mode.now c.args.said.now.items c.push.new.self.items c.in_err-read_inters.field-0.0
    (adds_one (mode_at way c.args.mode.now) _ c.args.said.now.items c.push.new.self.items c.in_ok-own.ensures.ok c.in_ok-push.ensures.items) c.in_err-read_inters.ensures.refused)

pub read_opened_mode-returns-in_err-read_kids-clause-refused : goal.read_opened_mode-returns-in_err-read_kids-clause-refused
read_opened_mode-returns-in_err-read_kids-clause-refused t c =
    let p = err_from_is_err_and c.from_residual-in_err-read_kids.result c.from_residual-in_err-read_kids.ensures.1 in
    let way = map (λ n. n.now) c.args.way.now.items in
    let e = c.in_err-read_kids.field-0.0 in
    rw (p.1, p.2) (kids_refused way c.args.ports.now c.args.mode.now c.args.said.now.items c.push.new.self.items c.read_inters.new.said.items e
    (adds_one (mode_at way c.args.mode.now) _ c.args.said.now.items c.push.new.self.items c.in_ok-own.ensures.ok c.in_ok-push.ensures.items) c.in_ok-read_inters.ensures.ok
    (subst (λ here. (e ≡ OutOfMemory) ⊎ RefusesOwners (flat_map (owners_below here) (kids_of c.args.mode.now)) e) (ap (map (λ n. n.now)) c.in_ok-read_inters.ensures.way)
    (subst (λ kids. (e ≡ OutOfMemory) ⊎ RefusesOwners (flat_map (owners_below (map (λ n. n.now) c.read_inters.new.way.items)) kids) e) c.as_slice-2.ensures c.in_err-read_kids.ensures.refused)))

pub read_opened_mode-returns-clause-ok : goal.read_opened_mode-returns-clause-ok
read_opened_mode-returns-clause-ok t c =
    let way = map (λ n. n.now) c.args.way.now.items in
    let old = c.read_inters.new.said.items in
    let new = c.read_kids.new.said.items in
    opened_mode_added way c.args.ports.now c.args.mode.now c.args.said.now.items c.push.new.self.items old new
    (adds_one (mode_at way c.args.mode.now) _ c.args.said.now.items c.push.new.self.items c.in_ok-own.ensures.ok c.in_ok-push.ensures.items) c.in_ok-read_inters.ensures.ok
    (subst (λ here. AddsSaid (flat_map (owners_below here) (kids_of c.args.mode.now)) old new) (ap (map (λ n. n.now)) c.in_ok-read_inters.ensures.way)
    (subst (λ kids. AddsSaid (flat_map (owners_below (map (λ n. n.now) c.read_inters.new.way.items)) kids) old new) c.as_slice-2.ensures c.in_ok-read_kids.ensures.ok))
