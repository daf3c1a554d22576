-- The next site of the chain is the next of its kind.
use Rattle.std.proofs.Common.{◌≡◌, ◌<◌, ◌+◌, length, get_or, sym, ◌∙◌, subst, arith}
use Rattle.std.proofs.lemmas.List.{get_or_default}
use Rattle.place_match.specs.Tables.{IsFirstOfKind}
use Rattle.place_match.proofs.PairSteps.{adds_more}
use Rattle.place_match.proofs.chains.Chains.push_sites.Goals as goal

pub loop-site-preserved : goal.loop-site-preserved
loop-site-preserved c =
    let kinds = c.args.self.now.kinds.items in
    let site = c.loop-site.site in
    let inside : site < length kinds = omega (arith, c.loop-site-test.true, c.len.ensures, c.args.self.now.kinds.ok) in
    let next_in : site < length c.args.self.now.next.items = omega (arith, c.requires.chained.follows, inside) in
    let next_is : c.index-site-in-loop-site.result.now ≡ get_or c.args.self.now.next.items site 0 =
    c.index-site-in-loop-site.ensures ∙ get_or_default _ _ _ _ next_in in
    let after = subst (IsFirstOfKind kinds (get_or kinds site 0) (site + 1)) (sym next_is) (c.requires.chained.nexts site inside) in
    let of_kind = c.loop-site.invariant.here inside in
    record {
      adds = rw c.in_ok-push.ensures.items (adds_more _ _ _ _ _ _ _ c.loop-site.invariant.adds inside of_kind after);
      high = after.high;
      here = λ h. after.here h ∙ of_kind;
    }
