use Rattle.std.proofs.Common.{◌≡◌, ◌++◌, ◌∷◌, [], Some, length, sym, ap, ◌∙◌, subst, arith, refl}
use Rattle.std.proofs.Math.ListN.{set}
use Rattle.std.proofs.lemmas.Option.{slice_get_within, slice_get_read}
use Rattle.list_laws.proofs.Members.{at_has}
use Rattle.vtr_base.specs.Lists.{IsFirstPlace}
use Rattle.lut_widths.specs.Reaches.{reach_with_sizes}
use Rattle.lut_widths.specs.Tables.{AreReaches}
use Rattle.lut_widths.proofs.Tabling.{known_kid, new_kid}
use Rattle.lut_widths.proofs.table.ReachTable.add.Goals as goal

pub index-reach-requires : goal.index-reach-requires
index-reach-requires c =
    let within = slice_get_within c.args.self.now.names c.in-Some.number c.as_bytes.result.now c.in-Some.ensures.there in
    omega (arith, within, c.requires)

pub index_mut-requires : goal.index_mut-requires
index_mut-requires c =
    let within = slice_get_within c.args.self.now.names c.in-Some.number c.as_bytes.result.now c.in-Some.ensures.there in
    omega (arith, within, c.requires)

pub add-requires-clause-fresh : goal.add-requires-clause-fresh
add-requires-clause-fresh c = λ has. let at = at_has c.args.self.now.names _ has in c.in-None.ensures at.0 (at.1 ∙ ap Some (c.as_bytes-in-None.ensures ∙ sym c.as_bytes.ensures))

pub returns-in-Some : goal.returns-in-Some
returns-in-Some c = λ kids are.
    let found : IsFirstPlace c.args.self.now.names c.args.kid.now.name c.in-Some.number = subst (λ name. IsFirstPlace c.args.self.now.names name c.in-Some.number) c.as_bytes.ensures c.in-Some.ensures in
    let within = slice_get_within c.args.self.now.names c.in-Some.number c.args.kid.now.name found.there in
    let at = slice_get_read c.args.self.now.reaches.items (length c.args.self.now.reaches.items) c.in-Some.number c.index-reach.result.now refl (omega (arith, within, c.requires)) c.index-reach.ensures in
    subst (λ r. AreReaches (kids ++ c.args.kid.now ∷ []) c.args.self.now.names (set c.args.self.now.reaches.items c.in-Some.number r)) (sym c.with_sizes.ensures)
    (known_kid kids c.args.kid.now c.args.self.now.names c.args.self.now.reaches.items c.in-Some.number c.index-reach.result.now c.kid_sizes-sizes.result c.law.ensures.once found at c.kid_sizes-sizes.ensures are)

pub returns-in_ok-push-in-None : goal.returns-in_ok-push-in-None
returns-in_ok-push-in-None c = λ kids are.
    let names : c.args.self.now.names ++ c.args.kid.now.name ∷ [] ≡ c.add.new.self = ap (λ name. c.args.self.now.names ++ name ∷ []) (sym c.as_bytes-in-None.ensures) ∙ sym c.in_ok-add-in-None.ensures.ok in
    let reach = c.with_sizes-in-None.ensures ∙ ap (λ r. reach_with_sizes r c.kid_sizes-sizes.result c.args.kid.now.count) c.nowhere.ensures in
    let reaches = ap (λ r. c.args.self.now.reaches.items ++ r ∷ []) (sym reach) ∙ sym c.in_ok-push-in-None.ensures.items in
    subst (λ ns. AreReaches (kids ++ c.args.kid.now ∷ []) ns c.push.new.self.items) names
    (subst (AreReaches (kids ++ c.args.kid.now ∷ []) (c.args.self.now.names ++ c.args.kid.now.name ∷ [])) reaches
    (new_kid kids c.args.kid.now c.args.self.now.names c.args.self.now.reaches.items c.kid_sizes-sizes.result (λ n there. c.in-None.ensures n (there ∙ ap Some (sym c.as_bytes.ensures))) c.kid_sizes-sizes.ensures are))
