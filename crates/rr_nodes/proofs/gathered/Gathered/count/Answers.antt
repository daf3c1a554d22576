use Rattle.std.proofs.Common.{length, ap, sym, ◌∙◌, arith}
use Rattle.std.proofs.lemmas.List.{length-map}
use Rattle.std.specs.Map.{keys_of}
use Rattle.rr_nodes.proofs.Kept.{few_ids, length_kept}
use Rattle.rr_nodes.proofs.gathered.Gathered.count.Goals as goal

pub overflow_cast-result : goal.overflow_cast-result
overflow_cast-result c =
    let ks = keys_of c.args.self.now.places.entries in
    let few = few_ids 2147483648 ks c.requires.once c.requires.small in
    omega (arith, c.len.ensures, c.args.self.now.carried.ok.0, few, ap length c.requires.same, length-map c.args.self.now.carried.items (λ n. n.id))

pub returns : goal.returns
returns c =
    c.len.ensures ∙ c.args.self.now.carried.ok.0 ∙
    sym (length_kept c.args.self.now.carried.items c.args.self.now.places.entries c.requires.same)
