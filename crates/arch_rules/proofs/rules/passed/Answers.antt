use Rattle.std.proofs.Common.{◌≡◌, Option, Some, None, MatchOption, sym, subst, ◌⊎◌, inl, inr}
use Rattle.elem_text.specs.declared.elem.Elem.{Elem}
use Rattle.arch_rules.specs.declared.error.LimitKind.{LimitKind}
use Rattle.arch_rules.specs.declared.error.LimitKind.TheVariants.{Inputs, NumPins, NumPb, Capacity}
use Rattle.arch_rules.specs.declared.role.Role.{Role}
use Rattle.arch_rules.specs.declared.role.Role.TheVariants.{Block, PbType}
use Rattle.arch_rules.specs.Rules.{Passes}
use Rattle.arch_rules.proofs.rules.passed.Goals as goal

abbrev Tells : Role → Elem → Option LimitKind → Type 0
Tells r e o = MatchOption o ((which : LimitKind) → Passes r e which → ⊥) (λ which. Passes r e which)

as_pb_type : (e : Elem) (which : LimitKind) → Passes Block e which → Passes PbType e which
as_pb_type e Inputs p = p
as_pb_type e NumPins p = absurd (cc)
as_pb_type e NumPb p = p
as_pb_type e Capacity p = absurd (cc)

as_block : (e : Elem) (which : LimitKind) → Passes PbType e which → Passes Block e which
as_block e Inputs p = p
as_block e NumPins p = absurd (cc)
as_block e NumPb p = p
as_block e Capacity p = absurd (cc)

tells_block : (e : Elem) (o : Option LimitKind) → Tells PbType e o → Tells Block e o
tells_block e None told = λ which p. told which (as_pb_type e which p)
tells_block e (Some which) told = as_block e which told

tells : (r : Role) (e : Elem) (o : Option LimitKind) → (r ≡ Block) ⊎ (r ≡ PbType) → Tells PbType e o → Tells r e o
tells r e o (inl is) told = subst (λ r. Tells r e o) (sym is) (tells_block e o told)
tells r e o (inr is) told = subst (λ r. Tells r e o) (sym is) told

pub returns-in-Block : goal.returns-in-Block
returns-in-Block c = tells c.args.role c.args.elem.now c.pb_type_limit.result c.in-Block.is c.pb_type_limit.ensures
