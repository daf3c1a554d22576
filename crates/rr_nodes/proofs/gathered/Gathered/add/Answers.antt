use Rattle.std.proofs.Common.{◌≡◌, ◌∷◌, ◌++◌, [], nat_eq, sym, ap, ◌∙◌, subst}
use Rattle.std.proofs.lemmas.List.{map-append}
use Rattle.std.specs.Map.{keys_of}
use Rattle.indexmap.proofs.CallerLemmas.{insert_entry-new}
use Rattle.vtr_base.specs.Lists.{Has}
use Rattle.list_laws.specs.Orders.{Once}
use Rattle.list_laws.proofs.Onces.{once_pushed}
use Rattle.rr_nodes.proofs.Kept.{ids, ids_kept, new_id, pushed_kept, small_more}
use Rattle.rr_nodes.proofs.gathered.Gathered.add.Goals as goal

pub returns-clause-added : goal.returns-clause-added
returns-clause-added c =
    let places = c.args.self.now.places in
    let cs = c.args.self.now.carried.items in
    let fresh : Has (keys_of places.entries) c.args.node.carried.id → ⊥ = λ has. c.requires.fresh (subst (λ l. Has l c.args.node.carried.id) (sym (ids_kept cs places.entries c.requires.fit.same)) has) in
    let entries = c.in_ok-insert.ensures.entries ∙ insert_entry-new nat_eq places c.args.node.carried.id c.args.node.at (new_id places.entries c.args.node.carried.id fresh) in
    rw (c.in_ok-push.ensures.items, entries) (pushed_kept cs places.entries c.args.node.carried c.args.node.carried.id c.args.node.at c.requires.fit.same)

pub returns-clause-fit : goal.returns-clause-fit
returns-clause-fit c =
    let places = c.args.self.now.places in
    let cs = c.args.self.now.carried.items in
    let id = c.args.node.carried.id in
    let fresh : Has (keys_of places.entries) id → ⊥ = λ has. c.requires.fresh (subst (λ l. Has l id) (sym (ids_kept cs places.entries c.requires.fit.same)) has) in
    let entries = c.in_ok-insert.ensures.entries ∙ insert_entry-new nat_eq places id c.args.node.at (new_id places.entries id fresh) in
    let keys : keys_of c.insert.new.self.entries ≡ keys_of places.entries ++ id ∷ [] =
    ap keys_of entries ∙ map-append (λ e. e.0) places.entries ((id, c.args.node.at) ∷ []) in
    record {
      same = ap ids c.in_ok-push.ensures.items ∙ map-append (λ n. n.id) cs (c.args.node.carried ∷ []) ∙ ap (λ l. l ++ id ∷ []) c.requires.fit.same ∙ sym keys;
      once = subst Once (sym keys) (once_pushed (keys_of places.entries) id c.requires.fit.once fresh);
      small = λ k has. small_more (keys_of places.entries) id c.requires.fit.small c.requires.small k (subst (λ l. Has l k) keys has);
    }
