use Rattle.std.proofs.Common.{◌∙◌, ap, length, map, string_bytes, inl, refl, sym}
use Rattle.std.proofs.lemmas.List.{length-map}
use Rattle.list_laws.proofs.Members.{has_at}
use Rattle.names.proofs.TextKeys.{name_added, name_numbered, fresh_name}
use Rattle.names.proofs.Names.number.Goals as goal

pub returns-in-Some-clause-names : goal.returns-in-Some-clause-names
returns-in-Some-clause-names c = inl (has_at c.args.self.now c.in-Some.known c.args.name.now c.in-Some.ensures, refl)

pub returns-clause-number : goal.returns-clause-number
returns-clause-number c =
    let fresh = rw (← c.self.view_is) at c.in_default.ensures in
    name_numbered string_bytes c.self.inside.names.keys (map string_bytes c.insert.new.self.keys) c.args.name.now c.count-next.result
    (name_added string_bytes c.self.inside.names.keys c.insert.new.self.keys c.in_ok-name.name c.args.name.now c.in_ok-name.ensures.ok fresh c.in_ok-insert.ensures.keys)
    (c.count-next.ensures ∙ ap length (sym c.self.view_is) ∙ length-map c.self.inside.names.keys string_bytes)

pub returns-clause-names : goal.returns-clause-names
returns-clause-names c =
    let fresh = rw (← c.self.view_is) at c.in_default.ensures in
    rw (← c.self.view_is)
    (fresh_name (map string_bytes c.self.inside.names.keys) (map string_bytes c.insert.new.self.keys) c.args.name.now fresh
    (name_added string_bytes c.self.inside.names.keys c.insert.new.self.keys c.in_ok-name.name c.args.name.now c.in_ok-name.ensures.ok fresh c.in_ok-insert.ensures.keys))
