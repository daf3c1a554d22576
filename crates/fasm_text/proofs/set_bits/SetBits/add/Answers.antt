use Rattle.std.proofs.Common.{◌≡◌, ◌++◌, length, map, arith, ap, ◌∙◌}
use Rattle.fasm_text.specs.Sets.{set_from}
use Rattle.fasm_text.specs.Kept.{kept_from, named}
use Rattle.fasm_text.proofs.Keeping.{inside_wider, longer_holds, added, ok_in_other_words}
use Rattle.fasm_text.proofs.set_bits.SetBits.add.Goals as goal

pub invariant_of-self-2 : goal.invariant_of-self-2
invariant_of-self-2 c =
    let holds = longer_holds c.self.inside.names.items c.args.name.now c.extend_from_slice.new.self.items c.in-Some.end
    (omega (arith, c.in-Some.ensures.1, c.len-start.ensures)) c.in_ok-extend_from_slice.ensures.items in
    c.keep.ensures.inside (length c.extend_from_slice.new.self.items) holds.0 (inside_wider _ _ c.self.inside.set.items holds.1 c.self.invariant)

pub returns : goal.returns
returns c =
    let set = set_from c.args.name.now c.args.lo c.args.bits.now in
    ok_in_other_words c.keep.result
    (c.keep.new.set.items ≡ c.self.inside.set.items ++ kept_from c.len-start.result c.in-Some.end c.args.lo c.args.bits.now)
    (map (named c.extend_from_slice.new.self.items) c.keep.new.set.items ≡ c.args.self.now ++ set)
    (λ e.
    added c.self.inside.names.items c.args.name.now c.extend_from_slice.new.self.items c.self.inside.set.items c.keep.new.set.items c.len-start.result c.in-Some.end
    c.args.lo c.args.bits.now c.self.invariant (omega (arith, c.len-start.ensures)) (omega (arith, c.in-Some.ensures.1, c.len-start.ensures)) c.in_ok-extend_from_slice.ensures.items e
    ∙ ap (λ v. v ++ set) c.self.view_is) c.keep.ensures.kept
