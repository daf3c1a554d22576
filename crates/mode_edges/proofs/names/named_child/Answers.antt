use Rattle.std.proofs.Common.{ℕ, List, refl, subst}
use Rattle.arch_types.specs.declared.block.PbType.{PbType}
use Rattle.arch_types.specs.Tree.{kids_of}
use Rattle.mode_edges.specs.PinWords.{Index, AreMembers}
use Rattle.mode_edges.specs.Readers.{Stands, member_list}
use Rattle.mode_edges.proofs.OneReading.{not_both}
use Rattle.mode_edges.proofs.Meanings.{no_kid, no_instances, no_child_port, wrong_child_side, is_child}
use Rattle.mode_edges.proofs.names.named_child.Goals as goal

pub returns-in_default-find_kid : goal.returns-in_default-find_kid
returns-in_default-find_kid c =
    no_kid c.args.names.now.block c.args.names.now.mode c.args.role c.args.word.now (kids_of c.args.names.now.mode) c.in-Some.name.now c.in-Some.ends refl
    c.in-Some.ensures c.in_default-find_kid.ensures

pub returns-in_default-members_of : goal.returns-in_default-members_of
returns-in_default-members_of c =
    no_instances c.args.names.now.block c.args.names.now.mode c.args.role c.args.word.now (kids_of c.args.names.now.mode) c.in-Some.name.now c.in-Some.ends
    c.in-Some-find_kid.child c.in-Some-find_kid.kid.now
    (record { are = refl; part = c.in-Some.ensures; first = c.in-Some-find_kid.ensures.0; there = c.in-Some-find_kid.ensures.1 })
    (subst (λ (p : PbType). (i : Index) (ms : List ℕ) → Stands c.in-Some.ends i → AreMembers i p.count ms → ⊥) c.block.ensures c.in_default-members_of.ensures)

pub returns-in_default-bits : goal.returns-in_default-bits
returns-in_default-bits c =
    no_child_port c.args.names.now.block c.args.names.now.mode c.args.role c.args.word.now (kids_of c.args.names.now.mode) c.in-Some.name.now c.in-Some.ends
    c.in-Some-find_kid.child c.in-Some-find_kid.kid.now
    (record { are = refl; part = c.in-Some.ensures; first = c.in-Some-find_kid.ensures.0; there = c.in-Some-find_kid.ensures.1 })
    c.in_default-bits.ensures

pub returns-then-not-is_child_side : goal.returns-then-not-is_child_side
returns-then-not-is_child_side c =
    wrong_child_side c.args.names.now.block c.args.names.now.mode c.args.role c.args.word.now (kids_of c.args.names.now.mode) c.in-Some.name.now c.in-Some.ends
    c.in-Some-find_kid.child c.in-Some-find_kid.kid.now c.in-Some-bits.found.side c.in-Some-bits.found.of.port (member_list c.in-Some-bits.found.of.bits)
    (record { are = refl; part = c.in-Some.ensures; first = c.in-Some-find_kid.ensures.0; there = c.in-Some-find_kid.ensures.1 })
    c.in-Some-bits.ensures
    (λ fits. not_both c.is_child_side.result (c.is_child_side.ensures.1 fits) c.if-not-is_child_side.true)

pub returns : goal.returns
returns c =
    is_child c.args.names.now.block c.args.names.now.mode c.args.role c.args.word.now (kids_of c.args.names.now.mode) c.in-Some.name.now c.in-Some.ends
    c.in-Some-find_kid.child c.in-Some-find_kid.kid.now c.in-Some-bits.found.side c.in-Some-bits.found.of.port (member_list c.in-Some-bits.found.of.bits)
    (member_list c.in-Some-members_of.members) c.in-Some-find_kid.child c.requires
    (record { are = refl; part = c.in-Some.ensures; first = c.in-Some-find_kid.ensures.0; there = c.in-Some-find_kid.ensures.1 })
    (subst (λ (p : PbType). (i : Index) → Stands c.in-Some.ends i → AreMembers i p.count (member_list c.in-Some-members_of.members)) c.block.ensures c.in-Some-members_of.ensures)
    c.in-Some-bits.ensures
    (c.is_child_side.ensures.0 c.if-not-is_child_side.false) refl
