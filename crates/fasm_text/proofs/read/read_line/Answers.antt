use Rattle.std.proofs.Common.{refl, ◌+◌, ◌-◌, ◌++◌, inr, ap, sym, subst, ◌∙◌}
use Rattle.fasm_text.specs.Read.{giving_of}
use Rattle.fasm_text.specs.Sets.{IsWithoutEnd, set_from}
use Rattle.fasm_text.proofs.Cuts.{untrue}
use Rattle.fasm_text.proofs.Giving.{not_nothing, not_giving, giving_order}
use Rattle.fasm_text.proofs.Lining.{fits, is_wide}
use Rattle.fasm_text.proofs.read.read_line.Goals as goal

pub returns-in_default-clause-refused : goal.returns-in_default-clause-refused
returns-in_default-clause-refused c =
    let said = c.before_comment-said in (
      refl,
      not_nothing c.args.line.now said.result.now said.ensures (λ blank. untrue _ c.if-are_blanks.false (c.are_blanks.ensures.1 blank)),
      not_giving c.args.line.now said.result.now said.ensures c.in_default.ensures,
    )

pub returns-then-not-are_off-clause-refused : goal.returns-then-not-are_off-clause-refused
returns-then-not-are_off-clause-refused c =
    let said = c.before_comment-said in
    let g = giving_of c.in-Some.given in
    let bits = subst (λ b. IsWithoutEnd b g.bits) (sym c.deref.ensures.value) c.in_ok-put_bits.ensures in (
      refl,
      (
        g,
        (said.result.now, said.ensures, c.in-Some.ensures),
        is_wide c.deref.result.now g.bits c.divided.result.0.now c.divided.result.1.now g.lo g.hi (g.hi - g.lo + 1)
            (giving_order said.result.now g c.in-Some.ensures) refl bits c.divided.ensures (λ off. untrue _ c.if-not-are_off.true (c.are_off.ensures.1 off)),
      ),
    )

pub returns-clause-sets : goal.returns-clause-sets
returns-clause-sets c =
    let said = c.before_comment-said in
    let g = giving_of c.in-Some.given in
    let bits = subst (λ b. IsWithoutEnd b g.bits) (sym c.deref.ensures.value) c.in_ok-put_bits.ensures in
    let f = fits c.deref.result.now g.bits c.divided.result.0.now c.divided.result.1.now g.name g.lo g.hi (g.hi - g.lo + 1)
    (giving_order said.result.now g c.in-Some.ensures) refl bits c.divided.ensures (c.are_off.ensures.0 c.if-not-are_off.false) in (
      set_from g.name g.lo g.bits,
      inr (g, (said.result.now, said.ensures, c.in-Some.ensures), f.0, refl),
      c.in_ok-add.ensures ∙ ap (λ l. c.args.set.now ++ l) (sym f.1),
    )
