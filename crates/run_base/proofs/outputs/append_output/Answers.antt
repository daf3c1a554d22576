use Rattle.run_base.proofs.Written.{used_whole, used_either}
use Rattle.run_base.proofs.outputs.append_output.Goals as goal

pub returns-in-Ok-clause-ok : goal.returns-in-Ok-clause-ok
returns-in-Ok-clause-ok g c =
    used_whole g.S.Shelf.files c.args.file.now _ _ _ _
    (record {
      made = c.on-sink.result.shelf.now;
      given = _;
      loan = c.on-sink.result.shelf.ghost_name;
      loan' = c.put_on-put.new.sink.shelf.ghost_name;
      name' = c.put_on-put.new.sink.name.now;
      at = c.on-sink.result.name.now;
      ends = search;
      lent = c.on-sink.ensures.same_reference;
      is = c.on-sink.ensures.shelf;
      named = c.on-sink.ensures.name;
      held = c.requires;
      beside = c.put_on-put.ensures.beside;
    })
    c.in-Ok.ensures.ok

pub returns-then-short_of_memory-clause-part : goal.returns-then-short_of_memory-clause-part
returns-then-short_of_memory-clause-part g c =
    used_either g.S.Shelf.files c.put_on-put.result c.args.file.now _ _ _ _
    (record {
      made = c.on-sink.result.shelf.now;
      given = _;
      loan = c.on-sink.result.shelf.ghost_name;
      loan' = c.put_on-put.new.sink.shelf.ghost_name;
      name' = c.put_on-put.new.sink.name.now;
      at = c.on-sink.result.name.now;
      ends = search;
      lent = c.on-sink.ensures.same_reference;
      is = c.on-sink.ensures.shelf;
      named = c.on-sink.ensures.name;
      held = c.requires;
      beside = c.put_on-put.ensures.beside;
    })
    c.put_on-put.ensures.ok c.put_on-put.ensures.part

pub returns-in-Err-Sink-clause-part : goal.returns-in-Err-Sink-clause-part
returns-in-Err-Sink-clause-part g c =
    used_either g.S.Shelf.files c.put_on-put.result c.args.file.now _ _ _ _
    (record {
      made = c.on-sink.result.shelf.now;
      given = _;
      loan = c.on-sink.result.shelf.ghost_name;
      loan' = c.put_on-put.new.sink.shelf.ghost_name;
      name' = c.put_on-put.new.sink.name.now;
      at = c.on-sink.result.name.now;
      ends = search;
      lent = c.on-sink.ensures.same_reference;
      is = c.on-sink.ensures.shelf;
      named = c.on-sink.ensures.name;
      held = c.requires;
      beside = c.put_on-put.ensures.beside;
    })
    c.put_on-put.ensures.ok c.put_on-put.ensures.part

pub returns-in-Err-Memory-clause-part : goal.returns-in-Err-Memory-clause-part
returns-in-Err-Memory-clause-part g c =
    used_either g.S.Shelf.files c.put_on-put.result c.args.file.now _ _ _ _
    (record {
      made = c.on-sink.result.shelf.now;
      given = _;
      loan = c.on-sink.result.shelf.ghost_name;
      loan' = c.put_on-put.new.sink.shelf.ghost_name;
      name' = c.put_on-put.new.sink.name.now;
      at = c.on-sink.result.name.now;
      ends = search;
      lent = c.on-sink.ensures.same_reference;
      is = c.on-sink.ensures.shelf;
      named = c.on-sink.ensures.name;
      held = c.requires;
      beside = c.put_on-put.ensures.beside;
    })
    c.put_on-put.ensures.ok c.put_on-put.ensures.part
