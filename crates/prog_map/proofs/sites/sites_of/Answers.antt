use Rattle.std.proofs.Common.{◌≡◌, ◌++◌, List, ap, sym, subst, ◌∙◌}
use Rattle.std.specs.Prelude.{◌↔◌}
use Rattle.vtr_base.specs.Lists.{Has}
use Rattle.list_laws.specs.Orders.{Once}
use Rattle.prog_map.specs.declared.choice.LSite.{LSite}
use Rattle.prog_map.specs.Above.{StandTogether}
use Rattle.prog_map.specs.Levels.{sites_under, level_order}
use Rattle.prog_map.specs.Live.{IsSiteOf}
use Rattle.prog_map.proofs.ByPlace.{order_stands}
use Rattle.prog_map.proofs.SiteExact.{order_exact}
use Rattle.prog_map.proofs.SiteOrder.{order_once}
use Rattle.prog_map.proofs.TreeOrder.{order_is}
use Rattle.prog_map.proofs.sites.sites_of.Goals as goal

pub returns : goal.returns
returns c =
    let parents = c.in_ok-order.ensures.parents in
    let is : c.push_under.new.sites ≡ level_order c.args.graph.now =
    c.in_ok-push_under.ensures ∙ ap (λ l. l ++ sites_under c.args.graph.now c.pbs.result 0) c.new-sites.ensures
    ∙ ap (λ n. sites_under c.args.graph.now n 0) c.pbs.ensures in
    record {
      order = is ∙ sym (order_is c.args.graph.now c.law.ensures parents);
      exact = λ s. subst (λ (l : List LSite). Has l s ↔ IsSiteOf c.args.graph.now s) (sym is) (order_exact c.args.graph.now c.law.ensures parents s);
      once = subst (λ (l : List LSite). Once l) (sym is) (order_once c.args.graph.now c.law.ensures);
      together = subst (λ (l : List LSite). StandTogether c.args.graph.now l) (sym is) (order_stands c.args.graph.now c.law.ensures);
    }
