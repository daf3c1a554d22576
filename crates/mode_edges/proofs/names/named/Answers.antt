use Rattle.std.proofs.Common.{◌∙◌, ap, subst, sym}
use Rattle.arch_types.specs.declared.block.PbType.{PbType}
use Rattle.mode_edges.specs.PinWords.{IsOwnHead}
use Rattle.mode_edges.proofs.OneReading.{not_both}
use Rattle.mode_edges.proofs.Meanings.{names_nothing, names_own, names_child}
use Rattle.mode_edges.proofs.names.named.Goals as goal

pub returns-in_default : goal.returns-in_default
returns-in_default c = names_nothing c.args.names.now.block c.args.names.now.mode c.args.role c.args.text.now c.in_default.ensures

pub returns-then-is_own_head : goal.returns-then-is_own_head
returns-then-is_own_head c =
    names_own c.args.names.now.block c.args.names.now.mode c.args.role c.args.text.now c.in-Some.word c.named_own.result c.in-Some.ensures
    (subst (λ name. IsOwnHead name c.in-Some.word.head.now) (c.as_bytes.ensures ∙ ap (λ (p : PbType). p.name) c.block.ensures) (c.is_own_head.ensures.0 c.if-is_own_head.true)) c.named_own.ensures

pub returns-else-is_own_head : goal.returns-else-is_own_head
returns-else-is_own_head c =
    names_child c.args.names.now.block c.args.names.now.mode c.args.role c.args.text.now c.in-Some.word c.named_child.result c.in-Some.ensures
    (λ own. not_both c.is_own_head.result
    (c.is_own_head.ensures.1 (subst (λ name. IsOwnHead name c.in-Some.word.head.now) (sym (c.as_bytes.ensures ∙ ap (λ (p : PbType). p.name) c.block.ensures)) own)) c.if-is_own_head.false)
    c.named_child.ensures
