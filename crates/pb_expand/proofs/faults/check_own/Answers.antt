use Rattle.std.proofs.Common.{◌≡◌, ◌∙◌, subst, ◌+◌, ◌∷◌, [], map, drop, ◌++◌}
use Rattle.arch_types.specs.declared.block.PbType.{PbType}
use Rattle.arch_types.specs.declared.block.Mode.{Mode}
use Rattle.mode_edges.specs.Faults.{IsSoundMode, TellsFirst}
use Rattle.mode_edges.specs.Scopes.{ModeOf}
use Rattle.pb_expand.specs.Types.{mode_of, own_modes}
use Rattle.pb_expand.specs.Refusals.{TellsFirstIn}
use Rattle.pb_expand.proofs.Told.{passed_with}
use Rattle.pb_expand.proofs.FirstFaults.{tells_one, sound_one, goes_by, goes_past, goes_wrong, own_step}
use Rattle.pb_expand.proofs.faults.check_own.Goals as goal

in_names : (P : PbType → Mode → Type 0) (names : ModeOf) (block : PbType) (mode : Mode) → names.block ≡ block → names.mode ≡ mode → P names.block names.mode → P block mode
in_names P names block mode is_block is_mode p = subst (λ (b : PbType). P b mode) is_block (subst (P names.block) is_mode p)

pub returns-in_err-check-clause-fault : goal.returns-in_err-check-clause-fault
returns-in_err-check-clause-fault c =
    let block = c.args.block.now in
    let modes = c.modes_in-mode-items.result.now in
    let k = c.loop-mode.mode-index in
    let goes = goes_by (own_modes block) (map (mode_of block) (drop k modes)) ((mode_of block c.mode-item.result ∷ []) ++ map (mode_of block) (drop (k + 1) modes))
    c.loop-mode.invariant (own_step block modes k c.mode-item.result c.loop-mode-test.true c.mode-item.is) in
    passed_with (TellsFirstIn (own_modes block)) _ c.in_err-check.field-0.0 c.from_residual-in_err-check.ensures.1
    (goes_wrong (own_modes block) (mode_of block c.mode-item.result ∷ []) (map (mode_of block) (drop (k + 1) modes)) c.in_err-check.field-0.0 goes
    (tells_one block c.mode-item.result c.in_err-check.field-0.0
    (in_names (λ b m. TellsFirst b m c.in_err-check.field-0.0) c.in_ok-names.names block c.mode-item.result
    (c.in_ok-names.ensures.block ∙ c.in_ok-ports.ensures) c.in_ok-names.ensures.mode c.in_err-check.ensures)))

pub loop-mode-preserved : goal.loop-mode-preserved
loop-mode-preserved c =
    let block = c.args.block.now in
    let modes = c.modes_in-mode-items.result.now in
    let k = c.loop-mode.mode-index in
    let goes = goes_by (own_modes block) (map (mode_of block) (drop k modes)) ((mode_of block c.mode-item.result ∷ []) ++ map (mode_of block) (drop (k + 1) modes))
    c.loop-mode.invariant (own_step block modes k c.mode-item.result c.loop-mode-test.true c.mode-item.is) in
    goes_past (own_modes block) (mode_of block c.mode-item.result ∷ []) (map (mode_of block) (drop (k + 1) modes)) goes
    (sound_one block c.mode-item.result
    (in_names IsSoundMode c.in_ok-names.names block c.mode-item.result (c.in_ok-names.ensures.block ∙ c.in_ok-ports.ensures) c.in_ok-names.ensures.mode c.in_ok-check.ensures))
