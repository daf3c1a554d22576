use Rattle.std.proofs.Common.{◌≡◌, ◌<◌, Some, length, refl, sym, ap, ◌∙◌, subst, arith, rules}
use Rattle.std.proofs.lemmas.Bool.{false≢true}
use Rattle.std.proofs.lemmas.Option.{slice_get-get_or}
use Rattle.std.specs.List.{All}
use Rattle.net_types.specs.declared.atom.Atom.{Atom}
use Rattle.net_types.specs.declared.atom.Conn.{Conn}
use Rattle.net_faults.proofs.Feeding.{feeds_lut, feeds_other, feeds_end, few_edges}
use Rattle.net_faults.proofs.feeds.feeds_of.Goals as goal
use Rattle.net_faults.proofs.feeds.feeds_of.Goals.{then-is_lut+in_ok-add_feeds, else-is_lut}

pub add_feeds-requires-clause-within : goal.add_feeds-requires-clause-within
add_feeds-requires-clause-within c =
    let atom = c.index-atoms-taker.result in
    let within = (c.requires.within c.loop-taker.taker atom c.loop-taker-test.true).0 in
    let ins = subst (λ (a : Atom). All (λ (k : Conn). k.net < length c.args.makers.now) a.ins) (sym c.index-atoms-taker.is) within in
    rw c.as_slice.ensures ins

pub loop-taker-preserved : goal.loop-taker-preserved
loop-taker-preserved c =
    let atoms = c.args.atoms.now in
    let taker = c.loop-taker.taker in
    let atom = c.index-atoms-taker.result in
    let old = c.loop-taker.edges.items in
    let there = slice_get-get_or atoms taker atom c.loop-taker-test.true ∙ ap Some (sym c.index-atoms-taker.is) in
    elim c.if-is_lut.branch [
      | then-is_lut+in_ok-add_feeds w ↦ rw w.edges-is
          (feeds_lut atoms taker atom there old c.loop-taker.invariant (w.if-is_lut.ensures.0 refl) w.add_feeds.new.edges.items (rw w.as_slice.ensures at w.in_ok-add_feeds.ensures))
      | else-is_lut w ↦ rw w.edges-is
          (feeds_other atoms taker atom there old c.loop-taker.invariant (λ is. false≢true (w.if-is_lut.ensures.1 is)))
    ]

pub returns-clause-feeds : goal.returns-clause-feeds
returns-clause-feeds c =
    let all : c.loop-taker.taker ≡ length c.args.atoms.now = omega (arith, c.loop-taker-test.false, c.loop-taker.auto.taker-end) in
    feeds_end c.args.atoms.now c.loop-taker.taker c.loop-taker.edges.items all c.loop-taker.invariant

pub returns-clause-few : goal.returns-clause-few
returns-clause-few c =
    let all : c.loop-taker.taker ≡ length c.args.atoms.now = omega (arith, c.loop-taker-test.false, c.loop-taker.auto.taker-end) in
    let few = few_edges c.args.atoms.now c.loop-taker.taker c.loop-taker.edges.items all c.loop-taker.invariant in
    search (rules, few)
