use Rattle.meta_said.proofs.Stepping.{unknown_step, no_prefix_at, no_luts_at, prefixes_at, features_at, type_at, luts_at, params_at}
use Rattle.meta_said.proofs.owner.read_meta.Goals as goal

pub returns-in-Some : goal.returns-in-Some
returns-in-Some c =
    prefixes_at c.args.kind c.args.count c.in-Some.count c.args.meta.now c.args.said.now c.add_prefixes.new.found c.add_prefixes.result c.as_bytes-text.result.now c.in-Some-Prefix.field-0
    c.in-Some-Prefix.ensures c.in-Some-Prefix.field-0-is c.in-Some.is c.as_bytes-text.ensures c.add_prefixes.ensures

pub returns-in-None-count : goal.returns-in-None-count
returns-in-None-count c =
    no_prefix_at c.args.kind c.args.count c.args.meta.now c.args.said.now c.in-Some-Prefix.field-0 c.in-Some-Prefix.ensures c.in-Some-Prefix.field-0-is c.in-None-count.is

pub returns-in-Some-Features : goal.returns-in-Some-Features
returns-in-Some-Features c =
    features_at c.args.kind c.args.count c.args.meta.now c.args.said.now c.add_features.new.found c.add_features.result c.as_bytes-text.result.now c.in-Some-Features.field-0
    c.in-Some-Features.ensures c.in-Some-Features.field-0-is c.as_bytes-text.ensures c.add_features.ensures

pub returns-in-Some-Kind : goal.returns-in-Some-Kind
returns-in-Some-Kind c =
    type_at c.args.kind c.args.count c.args.meta.now c.args.said.now c.add_type.new.found c.add_type.result c.as_bytes-text.result.now c.in-Some-Kind.field-0
    c.in-Some-Kind.ensures c.in-Some-Kind.field-0-is c.as_bytes-text.ensures c.add_type.ensures

pub returns-in-Some-kind : goal.returns-in-Some-kind
returns-in-Some-kind c =
    luts_at c.args.kind c.in-Some-kind.kind c.args.count c.args.meta.now c.args.said.now c.add_luts.new.found c.add_luts.result c.as_bytes-text.result.now c.in-Some-Luts.field-0
    c.in-Some-Luts.ensures c.in-Some-Luts.field-0-is c.in-Some-kind.is c.as_bytes-text.ensures c.add_luts.ensures

pub returns-in-None-kind : goal.returns-in-None-kind
returns-in-None-kind c =
    no_luts_at c.args.kind c.args.count c.args.meta.now c.args.said.now c.in-Some-Luts.field-0 c.in-Some-Luts.ensures c.in-Some-Luts.field-0-is c.in-None-kind.is

pub returns-in-Some-Params : goal.returns-in-Some-Params
returns-in-Some-Params c =
    params_at c.args.kind c.args.count c.args.meta.now c.args.said.now c.add_params.new.found c.add_params.result c.as_bytes-text.result.now c.in-Some-Params.field-0
    c.in-Some-Params.ensures c.in-Some-Params.field-0-is c.as_bytes-text.ensures c.add_params.ensures

pub returns-in-None : goal.returns-in-None
returns-in-None c = unknown_step c.args.kind c.args.count c.args.meta.now c.args.said.now c.in-None.ensures
